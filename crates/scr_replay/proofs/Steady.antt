-- A run stays the same one, turn after turn.
use Rattle.std.proofs.Common.{refl, ◌∙◌}
use Rattle.node_device.specs.DeviceState.{DeviceState}
use Rattle.site_core.specs.declared.site.Site.{Site}
use Rattle.site_core.specs.Follows.{IsSameRun}

pub same_now : {D : Type 0} {state : D → DeviceState} (site : Site D) → IsSameRun state site site
same_now site = record { shape = refl; config = refl; places = refl; programs = refl; ranks = refl; room = λ some. some; tells = λ p. refl }

pub same_then : {D : Type 0} {state : D → DeviceState} (old mid new : Site D) → IsSameRun state old mid → IsSameRun state mid new → IsSameRun state old new
same_then old mid new one two = record {
  shape = two.shape ∙ one.shape;
  config = two.config ∙ one.config;
  places = two.places ∙ one.places;
  programs = two.programs ∙ one.programs;
  ranks = two.ranks ∙ one.ranks;
  room = λ some. two.room (one.room some);
  tells = λ p. two.tells p ∙ one.tells p;
}
