use Rattle.std.proofs.Common.{◌≡◌, ◌+◌, drop}
use Rattle.filemap.specs.Rows.{place_of}
use Rattle.site_state.proofs.rows.place_in.Given as goal

-- the files so far have other names
abbrev pub invariant-loop-row : goal.invariant-loop-row
invariant-loop-row l = record { so_far : l.place + place_of (drop l.row-index l.rows) l.name ≡ place_of l.rows l.name; at_index : l.place ≡ l.row-index }
