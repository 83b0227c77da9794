use Rattle.node_device.specs.Outcomes.{rest_leaves}
use Rattle.node_device.proofs.laws.synced_was_allowed.Goals as goal

pub returns-clause-before : goal.returns-clause-before
returns-clause-before c = λ old new partly after may q. (partly q).outcomes (after q) (may q)

pub returns-clause-done : goal.returns-clause-done
returns-clause-done c = λ new rest after may q. rest_leaves (new.file q) (after q) (rest q) (may q)
