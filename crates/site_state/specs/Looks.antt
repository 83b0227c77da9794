-- What a look makes of the members of a node.
use Rattle.std.specs.Prelude.{Bool, ◌&&◌}
use Rattle.member_store.specs.declared.member.Member.{Member}
use Rattle.site_state.specs.declared.cache.Cached.{Cached}
use Rattle.site_state.specs.declared.cache.Mark.TheVariants as mark

-- its files stand, and its dataset is complete
abbrev pub is_standing : Member → Bool
is_standing x = x.whole && x.sealed

-- its dataset, as recovery finds it
abbrev pub found_member : Member → Cached
found_member x = record { manifest = record { desc = x.desc; files = x.files }; mark = mark.Mending }
