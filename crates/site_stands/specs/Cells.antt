-- What reads give, or what a stop leaves, by place and name: the nodes of a site from 0 on, and the prefix.
use Rattle.std.specs.Prelude.{◌+◌, ◌<◌, ◌≤◌, ℕ, List, Option}
use Rattle.scr_base.specs.declared.shape.Shape.{Shape}
use Rattle.node_device.specs.File.{MayLeave, IsAtRest}
use Rattle.node_device.specs.DeviceState.{DeviceState}

-- the bytes under each name at each place, or none
abbrev pub Cells : Type 0
Cells = ℕ → List ℕ → Option (List ℕ)

-- what reads give now
abbrev pub cells_of : (ℕ → DeviceState) → Cells
cells_of states = λ p q. ((states p).file q).now

-- where the prefix stands behind the nodes
abbrev pub prefix_place : ℕ
prefix_place = 32

-- how many physical nodes a site has
abbrev pub physical_nodes : Shape → ℕ
physical_nodes shape = shape.nodes + shape.spares

-- a stop may leave a bay so
abbrev pub LeavesBay : (ℕ → DeviceState) → Cells → Type 0
LeavesBay states left = (p : ℕ) (q : List ℕ) → p ≤ prefix_place → MayLeave ((states p).file q) (left p q)

-- nothing is pending on the site's physical nodes and on the prefix
pub record IsQuiet (shape : Shape) (states : ℕ → DeviceState) : Type 0 where
  pub nodes : (p : ℕ) (q : List ℕ) → p < physical_nodes shape → IsAtRest ((states p).file q)
  pub prefix : (q : List ℕ) → IsAtRest ((states prefix_place).file q)

-- a stop leaves the devices so: each file as it may be left, and nothing pending
pub record IsLeftBy (shape : Shape) (old new : ℕ → DeviceState) : Type 0 where
  pub left : LeavesBay old (cells_of new)
  pub quiet : IsQuiet shape new
