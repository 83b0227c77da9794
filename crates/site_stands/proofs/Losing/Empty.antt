-- Devices that hold nothing stand for the state after no run.
use Rattle.std.proofs.Common.{◌≡◌, ◌≤◌, ◌<◌, inl, inr, ℕ, List, Option, None, refl, ap, ◌∙◌, subst, arith, codes}
use Rattle.scr_base.specs.declared.shape.DataId.{DataId}
use Rattle.node_device.specs.File.{IsEmpty}
use Rattle.node_device.specs.DeviceState.{DeviceState}
use Rattle.gated_record.specs.Pair.{newer, value_in, copy_name, pair_value}
use Rattle.halt_file.specs.Stores.{halt_in}
use Rattle.member_store.specs.Names.{record_name}
use Rattle.ckpt_model.specs.Machine.{Setup, empty_machine}
use Rattle.site_stands.specs.Cells.{cells_of, physical_nodes, prefix_place}
use Rattle.site_stands.specs.Entry.{ReadsEntry, entry_name, mark_in}
use Rattle.site_stands.specs.View.{Reads, Names, run_in}
use Rattle.site_stands.specs.Site.{Stands}
use Rattle.site_stands.proofs.Lists.{physical_low}
use Rattle.site_stands.proofs.Losing.Node.{none_reads}

pub empty_stands : (s : Setup) (states : ℕ → DeviceState) → ((p : ℕ) (q : List ℕ) → p ≤ 32 → IsEmpty ((states p).file q)) → Stands s states empty_machine
empty_stands s states empty = record {
  quiet = record { nodes = λ p q low. (empty p q (omega (arith, low, physical_low s.shape))).at_rest; prefix = λ q. (empty 32 q (omega arith)).at_rest };
  shows = record {
    proper = record { apart = tt; of_site = refl; kept_rise = refl; index_rise = refl; members = refl; homes = refl };
    members = record {
      present = λ k node st at. absurd (cc at.kept);
      exact = λ p which node opens. absurd (no_read p which node opens.place opens.reads);
    };
    prefix = record {
      present = λ e at. absurd (cc at.entry);
      exact = λ which failed lists. absurd (no_entry which lists.reads);
      run = ap run_in (no_pair (codes "run"));
      halt = ap halt_in (no_pair (codes "halt"));
      mark = ap mark_in (no_pair (codes "cur"));
      no_later = λ run names. absurd (no_name run names);
    };
  };
} where
  no_read : (p : ℕ) (which : DataId) (node : ℕ) → p < physical_nodes s.shape → Reads s.shape (cells_of states p (record_name which node)) which node → ⊥
  no_read p which node low reads = none_reads s which node (subst (λ (x : Option (List ℕ)). Reads s.shape x which node) (empty p (record_name which node) (omega (arith, low, physical_low s.shape))).now reads)

  no_entry : (which : DataId) → ReadsEntry (cells_of states prefix_place (entry_name which)) which → ⊥
  no_entry which reads = none (subst (λ (x : Option (List ℕ)). ReadsEntry x which) (empty 32 (entry_name which) (omega arith)).now reads)
    where
      none : ReadsEntry None which → ⊥
      none r = absurd (omega (arith, r.body.whole))

  no_pair : (stem : List ℕ) → pair_value stem (cells_of states prefix_place) ≡ None
  no_pair stem =
      ap (λ (o : Option (List ℕ)). newer (value_in 0 o) (value_in 1 (cells_of states 32 (copy_name stem 1)))) (empty 32 (copy_name stem 0) (omega arith)).now
      ∙ ap (λ (o : Option (List ℕ)). newer (value_in 0 None) (value_in 1 o)) (empty 32 (copy_name stem 1) (omega arith)).now

  no_name : (run : ℕ) → Names s.shape (cells_of states) run → ⊥
  no_name run (which, same, inl (p, node, low, reads)) = no_read p which node low reads
  no_name run (which, same, inr entry) = no_entry which entry
