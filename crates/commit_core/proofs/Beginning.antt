-- Where the commit of a dataset without shares begins.
use Rattle.std.proofs.Common.{◌≡◌, ℕ, true, false, [], Some}
use Rattle.std.specs.Prelude.{slice_get}
use Rattle.scr_base.specs.declared.shape.Scheme.{Scheme}
use Rattle.scr_base.specs.declared.shape.Scheme.TheVariants.{Single, Partner, Xor, Rs}
use Rattle.node_device.specs.DeviceState.{DeviceState}
use Rattle.ckpt_model.specs.Dataset.{Dataset}
use Rattle.ckpt_model.specs.Machine.{Machine, Setup}
use Rattle.ckpt_model.specs.Questions.{is_kept}
use Rattle.site_stands.specs.Described.{is_single}
use Rattle.commit_core.specs.declared.claim.Claim.{Claim}
use Rattle.commit_core.specs.declared.set.CommitSet.{CommitSet}
use Rattle.commit_core.specs.Committing.{begun, first_stage, first_book}
use Rattle.commit_core.specs.Fill.{IsUnused, PartsRead, Fill}
use Rattle.commit_core.specs.Holds.{IsCommitOf, StageHolds, CommitHolds}
use Rattle.commit_core.specs.Opened.{filled_to}
use Rattle.commit_core.proofs.Recording.{fills_as, filled_none}

pub single_begins : (s : Setup) (states : ℕ → DeviceState) (m : Machine) (d : Dataset) (set : CommitSet) → IsCommitOf s m d set → is_single set.desc.scheme ≡ true → is_kept m d.which ≡ false → IsUnused s.shape states d.which
    → ((node p : ℕ) → slice_get m.places node ≡ Some p → PartsRead s.shape (states p) d node) → CommitHolds s states m d (begun set)
single_begins s states m d set of single free unused parts = record { so_far = pick set.desc.scheme single; asks = λ k claim at. absurd (none k claim at) }
  where
    none : (k : ℕ) (claim : Claim) → slice_get {X = Claim} [] k ≡ Some claim → ⊥
    none k claim at = cc at

    pick : (scheme : Scheme) → is_single scheme ≡ true → StageHolds s states m d (first_book set) (first_stage scheme)
    pick Single is = (free, fills_as s.shape states m.places d (λ node. Fill.Parts) (filled_to 0 Fill.Parts) (λ i lt. filled_none i) (record { unused = unused; members = λ node p at. (of.low node p at, parts node p at) }))
    pick Partner is = absurd (cc is)
    pick Xor is = absurd (cc is)
    pick (Rs shares) is = absurd (cc is)
