-- One step more: of the draws, and of each list of lines.
use Rattle.std.proofs.Common.{◌≡◌, ℕ, zero, suc, ◌+◌, ◌-◌, ◌*◌, ◌/◌, ◌%◌, List, ◌++◌, refl, ap, sym, ◌∙◌, add-one, arith, append_assoc}
use Rattle.std.proofs.lemmas.List.{append-nil}
use Rattle.script_gen.specs.Draws.{next, after, draw}
use Rattle.script_gen.specs.Script.{up_to, checkpoints, checkpoint_lines, losses, lose_line, run_lines, restart_lines, stop_line, count_of, losses_of, runs, state_before}

pub after_none : (x : ℕ) → after 0 x ≡ x
unfolding after
after_none x = refl

pub after_more : (x i : ℕ) → after (i + 1) x ≡ next (after i x)
unfolding after
after_more x i = rw add-one refl

pub after_add : (x m n : ℕ) → after n (after m x) ≡ after (n + m) x
unfolding after
after_add x m zero = ap (λ (k : ℕ). after k x) (let e : m ≡ 0 + m = omega arith in e)
after_add x m (suc n) = ap next (after_add x m n) ∙ ap (λ (k : ℕ). after k x) (let e : suc (n + m) ≡ suc n + m = omega arith in e)

pub up_to_more : (text : ℕ → List ℕ) (i : ℕ) → up_to text (i + 1) ≡ up_to text i ++ text (i + 1)
unfolding up_to
up_to_more text i = rw add-one refl

pub nothing_yet : (text : ℕ → List ℕ) (old : List ℕ) → old ≡ old ++ up_to text 0
unfolding up_to
nothing_yet text old = sym (append-nil old)

pub first_state : (seed : ℕ) → state_before seed 0 ≡ seed % 2147483648
unfolding state_before
first_state seed = refl

-- the two draws of the checkpoint behind i others
pub after_odd : (x i : ℕ) → after (2 * (i + 1) - 1) x ≡ next (after (2 * i) x)
after_odd x i = ap (λ (k : ℕ). after k x) (let e : 2 * (i + 1) - 1 ≡ 2 * i + 1 = omega arith in e) ∙ after_more x (2 * i)

pub after_even : (x i : ℕ) → after (2 * (i + 1)) x ≡ next (next (after (2 * i) x))
after_even x i =
    ap (λ (k : ℕ). after k x) (let e : 2 * (i + 1) ≡ 2 * i + 1 + 1 = omega arith in e)
    ∙ after_more x (2 * i + 1)
    ∙ ap next (after_more x (2 * i))

pub put_on : (old now new a b : List ℕ) → now ≡ old ++ a → new ≡ now ++ b → new ≡ old ++ (a ++ b)
put_on old now new a b p q = q ∙ ap (λ (front : List ℕ). front ++ b) p ∙ append_assoc old a b

pub losses_step : (x i s t node : ℕ) (old now new : List ℕ) → s ≡ after i x → t ≡ next s → node ≡ (t / 65536) % 8 → now ≡ old ++ losses x i → new ≡ now ++ lose_line node → (t ≡ after (i + 1) x) × (new ≡ old ++ losses x (i + 1))
losses_step x i s t node old now new s_is t_is node_is now_is new_is =
    let t_at : t ≡ after (i + 1) x = t_is ∙ ap next s_is ∙ sym (after_more x i) in
    let node_at : node ≡ draw (i + 1) 8 x = node_is ∙ ap (λ (y : ℕ). (y / 65536) % 8) t_at in (
      t_at,
      put_on old now new (losses x i) (lose_line node) now_is new_is
          ∙ ap (λ (n : ℕ). old ++ (losses x i ++ lose_line n)) node_at
          ∙ ap (λ (tail : List ℕ). old ++ tail) (sym (up_to_more (λ n. lose_line (draw n 8 x)) i)),
    )

pub checkpoints_step : (run x i s t u seed len : ℕ) (old now new : List ℕ) → s ≡ after (2 * i) x → t ≡ next s → u ≡ next t → seed ≡ (t / 65536) % 256 → len ≡ 1 + (u / 65536) % 20000 → now ≡ old ++ checkpoints run x i → new ≡ now ++ checkpoint_lines run (i + 1) seed len → (u ≡ after (2 * (i + 1)) x) × (new ≡ old ++ checkpoints run x (i + 1))
checkpoints_step run x i s t u seed len old now new s_is t_is u_is seed_is len_is now_is new_is =
    let t_at : t ≡ after (2 * (i + 1) - 1) x = t_is ∙ ap next s_is ∙ sym (after_odd x i) in
    let u_at : u ≡ after (2 * (i + 1)) x = u_is ∙ ap next (t_is ∙ ap next s_is) ∙ sym (after_even x i) in
    let seed_at : seed ≡ draw (2 * (i + 1) - 1) 256 x = seed_is ∙ ap (λ (y : ℕ). (y / 65536) % 256) t_at in
    let len_at : len ≡ 1 + draw (2 * (i + 1)) 20000 x = len_is ∙ ap (λ (y : ℕ). 1 + (y / 65536) % 20000) u_at in (
      u_at,
      put_on old now new (checkpoints run x i) (checkpoint_lines run (i + 1) seed len) now_is new_is
          ∙ ap (λ (a : ℕ). old ++ (checkpoints run x i ++ checkpoint_lines run (i + 1) a len)) seed_at
          ∙ ap (λ (b : ℕ). old ++ (checkpoints run x i ++ checkpoint_lines run (i + 1) (draw (2 * (i + 1) - 1) 256 x) b)) len_at
          ∙ ap (λ (tail : List ℕ). old ++ tail) (sym (up_to_more (λ n. checkpoint_lines run n (draw (2 * n - 1) 256 x) (1 + draw (2 * n) 20000 x)) i)),
    )

pub state_more : (seed i : ℕ) → state_before seed (i + 1) ≡ after (2 * count_of (state_before seed i) + 4 + losses_of (state_before seed i)) (state_before seed i)
unfolding state_before
state_more seed i = rw add-one refl

pub runs_step : (seed i s t : ℕ) (old now new : List ℕ) → s ≡ state_before seed i → t ≡ after (2 * count_of s + 4 + losses_of s) s → now ≡ old ++ runs seed i → new ≡ now ++ run_lines (i + 1) s → (t ≡ state_before seed (i + 1)) × (new ≡ old ++ runs seed (i + 1))
runs_step seed i s t old now new s_is t_is now_is new_is =
    let i_is : i + 1 - 1 ≡ i = omega arith in
    let s_at : s ≡ state_before seed (i + 1 - 1) = s_is ∙ ap (state_before seed) (sym i_is) in (
      t_is ∙ ap (λ (y : ℕ). after (2 * count_of y + 4 + losses_of y) y) s_is ∙ sym (state_more seed i),
      put_on old now new (runs seed i) (run_lines (i + 1) s) now_is new_is
          ∙ ap (λ (y : ℕ). old ++ (runs seed i ++ run_lines (i + 1) y)) s_at
          ∙ ap (λ (tail : List ℕ). old ++ tail) (sym (up_to_more (λ run. run_lines run (state_before seed (run - 1))) i)),
    )

-- the numbers drawn in a run, and the states that they leave
pub record AreDrawn (x s r t u o v m w l : ℕ) : Type 0 where
  pub counted : s ≡ next x
  pub count : r ≡ (s / 65536) % 4
  pub kept : t ≡ after (2 * (1 + r)) s
  pub stopped : u ≡ next t
  pub outcome : o ≡ (u / 65536) % 4
  pub moved : v ≡ next u
  pub moves : m ≡ (v / 65536) % 2000
  pub lost : w ≡ next v
  pub losses : l ≡ (w / 65536) % 3

-- the same, from the state at the run's beginning
pub record AreDrawnFrom (x s r o m w l : ℕ) : Type 0 where
  pub counted : s ≡ after 1 x
  pub count : 1 + r ≡ count_of x
  pub outcome : o ≡ draw (2 * count_of x + 2) 4 x
  pub moves : m ≡ draw (2 * count_of x + 3) 2000 x
  pub lost : w ≡ after (2 * count_of x + 4) x
  pub losses : l ≡ losses_of x

drawn_from : (x s r t u o v m w l : ℕ) → AreDrawn x s r t u o v m w l → AreDrawnFrom x s r o m w l
drawn_from x s r t u o v m w l d =
    let k = 2 * count_of x in
    let s_at : s ≡ after 1 x = d.counted ∙ ap next (sym (after_none x)) ∙ sym (after_more x 0) in
    let r_at : 1 + r ≡ count_of x = ap (λ (y : ℕ). 1 + y) d.count ∙ ap (λ (y : ℕ). 1 + (y / 65536) % 4) s_at in
    let t_at : t ≡ after (k + 1) x = d.kept ∙ ap (λ (n : ℕ). after (2 * n) s) r_at ∙ ap (after k) s_at ∙ after_add x 1 k in
    let u_at : u ≡ after (k + 2) x = d.stopped ∙ ap next t_at ∙ sym (after_more x (k + 1)) ∙ ap (λ (n : ℕ). after n x) (let e : k + 1 + 1 ≡ k + 2 = omega arith in e) in
    let v_at : v ≡ after (k + 3) x = d.moved ∙ ap next u_at ∙ sym (after_more x (k + 2)) ∙ ap (λ (n : ℕ). after n x) (let e : k + 2 + 1 ≡ k + 3 = omega arith in e) in
    let w_at : w ≡ after (k + 4) x = d.lost ∙ ap next v_at ∙ sym (after_more x (k + 3)) ∙ ap (λ (n : ℕ). after n x) (let e : k + 3 + 1 ≡ k + 4 = omega arith in e) in record {
      counted = s_at;
      count = r_at;
      outcome = d.outcome ∙ ap (λ (y : ℕ). (y / 65536) % 4) u_at;
      moves = d.moves ∙ ap (λ (y : ℕ). (y / 65536) % 2000) v_at;
      lost = w_at;
      losses = d.losses ∙ ap (λ (y : ℕ). (y / 65536) % 3) w_at;
    }

pub run_state : (x s r t u o v m w l z : ℕ) → AreDrawn x s r t u o v m w l → z ≡ after l w → z ≡ after (2 * count_of x + 4 + losses_of x) x
run_state x s r t u o v m w l z d e =
    let k = 2 * count_of x + 4 in
    let f = drawn_from x s r t u o v m w l d in
    e ∙ ap (λ (n : ℕ). after n w) f.losses ∙ ap (after (losses_of x)) f.lost ∙ after_add x k (losses_of x) ∙ ap (λ (n : ℕ). after n x) (let e : losses_of x + k ≡ k + losses_of x = omega arith in e)

pub run_text : (run x s r t u o v m w l : ℕ) (old a b c new : List ℕ) → AreDrawn x s r t u o v m w l → a ≡ old ++ restart_lines → b ≡ a ++ checkpoints run s (1 + r) → c ≡ b ++ stop_line o m → new ≡ c ++ losses w l → new ≡ old ++ run_lines run x
run_text run x s r t u o v m w l old a b c new d a_is b_is c_is new_is =
    let f = drawn_from x s r t u o v m w l d in
    let b_at = put_on old a b restart_lines (checkpoints run s (1 + r)) a_is b_is in
    let c_at = put_on old b c (restart_lines ++ checkpoints run s (1 + r)) (stop_line o m) b_at c_is in
    put_on old c new (restart_lines ++ checkpoints run s (1 + r) ++ stop_line o m) (losses w l) c_at new_is
    ∙ ap (λ (y : ℕ). old ++ (restart_lines ++ checkpoints run y (1 + r) ++ stop_line o m ++ losses w l)) f.counted
    ∙ ap (λ (n : ℕ). old ++ (restart_lines ++ checkpoints run (after 1 x) n ++ stop_line o m ++ losses w l)) f.count
    ∙ ap (λ (n : ℕ). old ++ (restart_lines ++ checkpoints run (after 1 x) (count_of x) ++ stop_line n m ++ losses w l)) f.outcome
    ∙ ap (λ (n : ℕ). old ++ (restart_lines ++ checkpoints run (after 1 x) (count_of x) ++ stop_line (draw (2 * count_of x + 2) 4 x) n ++ losses w l)) f.moves
    ∙ ap (λ (y : ℕ). old ++ (restart_lines ++ checkpoints run (after 1 x) (count_of x) ++ stop_line (draw (2 * count_of x + 2) 4 x) (draw (2 * count_of x + 3) 2000 x) ++ losses y l)) f.lost
    ∙ ap (λ (n : ℕ). old ++ (restart_lines ++ checkpoints run (after 1 x) (count_of x) ++ stop_line (draw (2 * count_of x + 2) 4 x) (draw (2 * count_of x + 3) 2000 x) ++ losses (after (2 * count_of x + 4) x) n)) f.losses
