-- Whatever a stop leaves shows the state after that stop: the choice is made for each entry and each pair by itself.
use Rattle.std.proofs.Common.{◌<◌, ◌≤◌, ◌+◌, ◌⊎◌, inl, inr, ℕ, Bool, true, false, List, [], Option, refl, ◌∙◌, arith}
use Rattle.std.specs.Prelude.{IsTrue, if◌then◌else◌, codes}
use Rattle.node_device.specs.File.{MayLeave}
use Rattle.node_device.specs.DeviceState.{DeviceState}
use Rattle.gated_record.specs.Pair.{copy_name}
use Rattle.ckpt_model.specs.Machine.{Machine, Setup}
use Rattle.ckpt_model.specs.Stops.{may_store, after_stop, pending_of}
use Rattle.ckpt_model.specs.Shows.{Shows, ShowsMembers}
use Rattle.site_stands.specs.Cells.{Cells, LeavesBay, prefix_place, physical_nodes}
use Rattle.site_stands.specs.View.{Names, site_view}
use Rattle.site_stands.specs.Site.{SiteStands}
use Rattle.site_stands.proofs.Lists.{physical_low, below_or_not}
use Rattle.site_stands.proofs.Safety.Nodes.{nodes_show}
use Rattle.site_stands.proofs.Safety.Index.{answers, entry_shown, entry_exact, both_take}
use Rattle.model_proper.proofs.Stops.{stop_proper}

-- what is left of a bay that stands for a state
pub record IsLeftSo (s : Setup) (left : Cells) (m : Machine) : Type 0 where
  pub entries : List Bool
  pub took : Bool
  pub stored : Bool
  pub may : IsTrue (may_store m stored)
  pub shows : Shows s (site_view s.shape left) (after_stop s m (record { made = []; entries = entries; took = took; stored = stored }))

later_run : (stored : Bool) (n run : ℕ) → n ≤ run → n ≤ (if stored then run + 1 else run)
later_run true n run le = omega (arith, le)
later_run false n run le = le

module _ (s : Setup) (states : ℕ → DeviceState) (m : Machine) (stands : SiteStands s states m) (left : Cells) (outcome : LeavesBay states left) where
  abbrev files : List ℕ → Option (List ℕ)
  files = left prefix_place

  of_prefix : (q : List ℕ) → MayLeave ((states prefix_place).file q) (files q)
  of_prefix q = outcome prefix_place q (omega arith)

  no_later : (run : ℕ) → Names s.shape left run → run ≤ m.run
  no_later run (which, same, where_it_is) = pick (below_or_not m.run which.run) where_it_is
    where
      pick : (m.run < which.run) ⊎ (which.run ≤ m.run) → ((p : ℕ) × (node : ℕ) × (p < physical_nodes s.shape) × Rattle.site_stands.specs.View.Reads s.shape (left p (Rattle.member_store.specs.Names.record_name which node)) which node) ⊎ Rattle.site_stands.specs.Entry.ReadsEntry (left prefix_place (Rattle.site_stands.specs.Entry.entry_name which)) which → run ≤ m.run
      pick (inr le) there = omega (arith, le, same)
      pick (inl later) (inl member) = absurd (stands.nodes.later which later member.0 member.1 member.2 (left member.0 (Rattle.member_store.specs.Names.record_name which member.1)) (outcome member.0 (Rattle.member_store.specs.Names.record_name which member.1) (omega (arith, member.2, physical_low s.shape))) member.3)
      pick (inl later) (inr entry) = absurd (stands.prefix.later which later (left prefix_place (Rattle.site_stands.specs.Entry.entry_name which)) (of_prefix (Rattle.site_stands.specs.Entry.entry_name which)) entry)

  pub left_shows : IsLeftSo s left m
  left_shows =
      let run = stands.prefix.pairs.run (files (copy_name (codes "run") 0)) (files (copy_name (codes "run") 1)) (of_prefix (copy_name (codes "run") 0)) (of_prefix (copy_name (codes "run") 1)) in
      let halt = stands.prefix.pairs.halt (files (copy_name (codes "halt") 0)) (files (copy_name (codes "halt") 1)) (of_prefix (copy_name (codes "halt") 0)) (of_prefix (copy_name (codes "halt") 1)) in
      let mark = stands.prefix.pairs.mark (files (copy_name (codes "cur") 0)) (files (copy_name (codes "cur") 1)) (of_prefix (copy_name (codes "cur") 0)) (of_prefix (copy_name (codes "cur") 1)) in
      let took = both_take (pending_of m.stage) halt.0 mark.0 m.halt m.mark in
      record {
        entries = answers files m.index;
        took = took.0;
        stored = run.stored;
        may = run.may;
        shows = record {
          proper = stop_proper s m (record { made = []; entries = answers files m.index; took = took.0; stored = run.stored }) refl stands.proper;
          members = again (nodes_show s states left outcome m stands.proper stands.nodes) took.0 run.stored;
          prefix = record {
            present = λ e at. entry_shown s (states prefix_place) m stands.prefix files of_prefix at.place e at.entry;
            exact = λ which failed lists. let there = entry_exact s (states prefix_place) m stands.prefix files of_prefix which failed lists in
                record { entry = there.0; at = record { place = there.1; entry = there.2 }; same = there.3; gate = there.4 };
            run = run.is;
            halt = halt.1 ∙ took.1;
            mark = mark.1 ∙ took.2;
            no_later = λ n names. later_run run.stored n m.run (no_later n names);
          };
        };
      }
    where
      again : ShowsMembers (site_view s.shape left) m → (took stored : Bool) → ShowsMembers (site_view s.shape left) (after_stop s m (record { made = []; entries = answers files m.index; took = took; stored = stored }))
      again shown took stored = record {
        present = λ k node st at. shown.present k node st (record { place = at.place; kept = at.kept; state = at.state });
        exact = λ p which node opens. elim (shown.exact p which node opens) [
          | inl of ↦ inl (record { kept = of.kept; state = of.state; member = record { place = of.member.place; kept = of.member.kept; state = of.member.state }; same = of.same; is_home = of.is_home; exact = of.exact })
          | inr over ↦ inr (record { not_kept = over.not_kept; shut = over.shut })
        ];
      }
