-- A node is lost between two runs.
use Rattle.std.proofs.Common.{◌≡◌, ◌≢◌, ◌⊎◌, inl, inr, ◌<◌, ◌≤◌, ℕ, List, sym, ◌∙◌, ap, subst, arith}
use Rattle.std.specs.Prelude.{codes}
use Rattle.std.proofs.lemmas.Bool.{cases_eq}
use Rattle.node_device.specs.File.{MayLeave, IsEmpty, IsAtRest}
use Rattle.node_device.specs.DeviceState.{DeviceState}
use Rattle.member_store.specs.Names.{record_name}
use Rattle.ckpt_model.specs.Machine.{Machine, Setup}
use Rattle.ckpt_model.specs.Steps.{after_loss}
use Rattle.site_stands.specs.Cells.{cells_of, IsQuiet, physical_nodes, prefix_place}
use Rattle.site_stands.specs.Entry.{ReadsEntry, entry_name}
use Rattle.site_stands.specs.View.{Names, Lists, IsEntryOf, Reads, site_view}
use Rattle.site_stands.specs.Site.{Stands, SiteStands}
use Rattle.site_stands.proofs.Lists.{physical_low, below_or_not}
use Rattle.site_stands.proofs.Keeping.Kept.{same_file}
use Rattle.site_stands.proofs.Safety.Nodes.{nodes_show}
use Rattle.site_stands.proofs.Losing.Node.{empty_bare, site_off}
use Rattle.site_stands.proofs.Safety.AtRest.{stands_hold}

module _ (s : Setup) (old new : ℕ → DeviceState) (m : Machine) (lost : ℕ) (low : lost < physical_nodes s.shape) (stands : Stands s old m) (empty : (q : List ℕ) → IsEmpty ((new lost).file q)) (others : (p : ℕ) → p ≢ lost → new p ≡ old p)
    (law : (p : ℕ) (q : List ℕ) → MayLeave ((new p).file q) ((new p).file q).now) where
  prefix_same : new prefix_place ≡ old prefix_place
  prefix_same = others prefix_place (λ is. absurd (omega (arith, is, low, physical_low s.shape)))

  quiet : IsQuiet s.shape new
  quiet = record {
    nodes = λ p q lt. elim (cases_eq p lost) [
      | inl same ↦ subst (λ (x : ℕ). IsAtRest ((new x).file q)) (sym same) (empty q).at_rest
      | inr other ↦ subst (λ (d : DeviceState). IsAtRest (d.file q)) (sym (others p other)) (stands.quiet.nodes p q lt)
    ];
    prefix = λ q. subst (λ (d : DeviceState). IsAtRest (d.file q)) (sym prefix_same) (stands.quiet.prefix q);
  }

  holds : SiteStands s new (after_loss m lost)
  holds = site_off s old new m lost (empty_bare s (new lost) empty) (λ p q lt other. same_file ((old p).file q) ((new p).file q) (ap (λ (d : DeviceState). d.file q) (others p other)))
      (λ q. same_file ((old prefix_place).file q) ((new prefix_place).file q) (ap (λ (d : DeviceState). d.file q) prefix_same)) (stands_hold s old m stands)

  -- Devices of which one node was emptied stand for the state after its loss.
  pub lose_stands : Stands s new (after_loss m lost)
  lose_stands = record {
    quiet = quiet;
    shows = record {
      proper = holds.proper;
      members = nodes_show s new (cells_of new) (λ p q le. law p q) (after_loss m lost) holds.proper holds.nodes;
      prefix = record {
        present = λ e at. let is = stands.shows.prefix.present e (record { place = at.place; entry = at.entry }) in
            (subst (λ (d : DeviceState). Lists (λ q. (d.file q).now) e.dataset.which (Rattle.ckpt_model.specs.Questions.is_failed e.mark)) (sym prefix_same) is.0, subst (λ (d : DeviceState). IsEntryOf s.shape (λ q. (d.file q).now) e.dataset) (sym prefix_same) is.1);
        exact = λ which failed lists. let of = stands.shows.prefix.exact which failed (subst (λ (d : DeviceState). Lists (λ q. (d.file q).now) which failed) prefix_same lists) in
            record { entry = of.entry; at = record { place = of.at.place; entry = of.at.entry }; same = of.same; gate = of.gate };
        run = ap (λ (d : DeviceState). Rattle.site_stands.specs.View.run_in (Rattle.gated_record.specs.Pair.pair_value (codes "run") (λ q. (d.file q).now))) prefix_same ∙ stands.shows.prefix.run;
        halt = ap (λ (d : DeviceState). Rattle.halt_file.specs.Stores.halt_in (Rattle.gated_record.specs.Pair.pair_value (codes "halt") (λ q. (d.file q).now))) prefix_same ∙ stands.shows.prefix.halt;
        mark = ap (λ (d : DeviceState). Rattle.site_stands.specs.Entry.mark_in (Rattle.gated_record.specs.Pair.pair_value (codes "cur") (λ q. (d.file q).now))) prefix_same ∙ stands.shows.prefix.mark;
        no_later = no_later;
      };
    };
  }
    where
      no_later : (run : ℕ) → Names s.shape (cells_of new) run → run ≤ m.run
      no_later run (which, same, there) = pick (below_or_not m.run which.run) there
        where
          pick : (m.run < which.run) ⊎ (which.run ≤ m.run) → ((p : ℕ) × (node : ℕ) × (p < physical_nodes s.shape) × Reads s.shape (cells_of new p (record_name which node)) which node) ⊎ ReadsEntry (cells_of new prefix_place (entry_name which)) which → run ≤ m.run
          pick (inr le) it = omega (arith, le, same)
          pick (inl later) (inl (p, node, lt, reads)) = absurd (holds.nodes.later which later p node lt (cells_of new p (record_name which node)) (law p (record_name which node)) reads)
          pick (inl later) (inr entry) = absurd (holds.prefix.later which later (cells_of new prefix_place (entry_name which)) (law prefix_place (entry_name which)) entry)
