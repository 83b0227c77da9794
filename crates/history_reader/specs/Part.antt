-- The names of the files in which a rank's files are kept.
use Rattle.std.specs.Prelude.{◌≡◌, ℕ, ◌≤◌, ◌^◌, ◌<◌, ◌++◌, List, codes, decimal}

-- a dataset and a run from 1 on, a node, a rank of it and the number of its file
pub record IsPartOf (part : List ℕ) (id run node rank file : ℕ) : Type 0 where
  pub id_from : 1 ≤ id
  pub id_below : id < 2 ^ 32
  pub run_from : 1 ≤ run
  pub run_below : run < 2 ^ 32
  pub node_up_to : node ≤ 15
  pub rank_up_to : rank ≤ 7
  pub file_up_to : file ≤ 15
  pub spelled : part ≡ codes "d." ++ (decimal id ++ (codes "." ++ (decimal run ++ (codes "." ++ (decimal node ++ (codes ".f." ++ (decimal rank ++ (codes "." ++ decimal file))))))))

abbrev pub IsPart : List ℕ → Type 0
IsPart part = (id run node rank file : ℕ) × IsPartOf part id run node rank file
