-- The text of a generated script.
use Rattle.std.specs.Prelude.{ℕ, zero, suc, ◌+◌, ◌-◌, ◌*◌, ◌%◌, List, [], ◌++◌, codes, decimal}
use Rattle.script_gen.specs.Draws.{after, draw}

-- the texts of 1 to n
unfoldable pub up_to : (ℕ → List ℕ) → ℕ → List ℕ
up_to text zero = []
up_to text (suc n) = up_to text n ++ text (suc n)

abbrev pub site_lines : List ℕ
site_lines = codes "site 8 2 2\nset scheme rs\nset shares 2\nset size 8\nset cache 2\nset flush 3\n"

abbrev pub restart_lines : List ℕ
restart_lines = codes "run 0,1,2,3,4,5,6,7\nrank all have\nrank all restart\nrank all read f 0 16\nrank all restarted valid\n"

-- the n-th checkpoint of a run begins
abbrev pub start_lines : ℕ → ℕ → List ℕ
start_lines run n = codes "rank all start c" ++ (decimal run ++ (codes "." ++ (decimal n ++ codes " ckpt\nrank all route f\n")))

-- it writes a fill, and completes
abbrev pub write_lines : ℕ → ℕ → List ℕ
write_lines seed len = codes "rank all write f 0 fill " ++ (decimal seed ++ (codes " " ++ (decimal len ++ codes "\nrank all complete valid\n")))

abbrev pub checkpoint_lines : ℕ → ℕ → ℕ → ℕ → List ℕ
checkpoint_lines run n seed len = start_lines run n ++ write_lines seed len

abbrev pub stop_line : ℕ → ℕ → List ℕ
stop_line outcome moves = codes "stop " ++ decimal outcome ++ codes " after " ++ decimal moves ++ codes "\n"

abbrev pub lose_line : ℕ → List ℕ
lose_line node = codes "lose " ++ decimal node ++ codes "\n"

-- checkpoints drawn from a state: two draws each
abbrev pub checkpoints : ℕ → ℕ → ℕ → List ℕ
checkpoints run x count = up_to (λ n. checkpoint_lines run n (draw (2 * n - 1) 256 x) (1 + draw (2 * n) 20000 x)) count

-- losses drawn from a state
abbrev pub losses : ℕ → ℕ → List ℕ
losses x count = up_to (λ n. lose_line (draw n 8 x)) count

-- how many checkpoints the run that begins at a state has, and how many losses follow it
abbrev pub count_of : ℕ → ℕ
count_of x = 1 + draw 1 4 x

abbrev pub losses_of : ℕ → ℕ
losses_of x = draw (2 * count_of x + 4) 3 x

-- a run that begins at a state, and the losses after it
abbrev pub run_lines : ℕ → ℕ → List ℕ
run_lines run x =
    restart_lines
    ++ checkpoints run (after 1 x) (count_of x)
    ++ stop_line (draw (2 * count_of x + 2) 4 x) (draw (2 * count_of x + 3) 2000 x)
    ++ losses (after (2 * count_of x + 4) x) (losses_of x)

-- the state before the run that follows so many runs
unfoldable pub state_before : ℕ → ℕ → ℕ
state_before seed zero = seed % 2147483648
state_before seed (suc runs) = let x = state_before seed runs in after (2 * count_of x + 4 + losses_of x) x

-- the lines of the first runs
abbrev pub runs : ℕ → ℕ → List ℕ
runs seed count = up_to (λ run. run_lines run (state_before seed (run - 1))) count

abbrev pub generated : ℕ → List ℕ
generated seed = site_lines ++ runs seed 8 ++ codes "scavenge\nindex list\n"
