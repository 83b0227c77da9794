-- What a script that is built says of its items.
use Rattle.std.proofs.Common.{◌≡◌, ℕ, zero, suc, ◌<◌, ◌≤◌, ◌+◌, ◌++◌, take, ap, ◌∙◌, ◌&&◌, ◌==◌, Bool, true, false, List, [], ◌∷◌, length, get_or, refl, sym, subst, arith}
use Rattle.std.specs.List.{list_all}
use Rattle.std.proofs.lemmas.List.{take_more, map-append}
use Rattle.std.proofs.lemmas.Bool.Decides.{nat_tests}
use Rattle.scr_base.specs.Sets.{fits_set, fits_sets, group_count, nodes_of_group, numbers_below}
use Rattle.scr_base.specs.declared.actor.Actor.{Actor}
use Rattle.scr_base.specs.declared.actor.Actor.TheVariants as actor
use Rattle.scr_base.specs.declared.shape.Scheme.{Scheme}
use Rattle.scr_base.specs.declared.shape.Scheme.TheVariants.{Single, Partner, Xor, Rs}
use Rattle.site_state.specs.Order.{IsActor}
use Rattle.admin.specs.declared.command.Command.{Command}
use Rattle.script_reader.specs.declared.script.Item.{Item}
use Rattle.script_reader.specs.declared.script.Item.TheVariants.{Run, Lose, Scavenge, Admin}
use Rattle.script_reader.specs.declared.script.RunItem.{RunItem}
use Rattle.script_reader.specs.declared.script.Script.{Script}
use Rattle.script_reader.specs.Values.{Size, size_of}
use Rattle.script_reader.specs.Grammar.{Job, job_of}
use Rattle.scr_replay.specs.Items.{legal_item, legal_items}
use Rattle.scr_replay.specs.Statuses.{IsBuilt}
use Rattle.scr_replay.specs.Forms.{is_end, ends_by_itself, has_actor, is_in_order, is_of_site, are_built_steps, is_built_run, is_halt_command, is_built_item, is_single, first_steps, has_room, is_unflushed, is_built}

pub both : (a b : Bool) → (a && b) ≡ true → (a ≡ true) × (b ≡ true)
both true b h = (refl, h)
both false b h = cc

-- what holds of all holds of each
pub all_get : {X : Type 0} (p : X → Bool) (xs : List X) (i : ℕ) (d : X) → list_all p xs ≡ true → i < length xs → p (get_or xs i d) ≡ true
all_get p [] i d h within = absurd (omega arith)
all_get p (x ∷ xs) zero d h within = (both (p x) (list_all p xs) h).0
all_get p (x ∷ xs) (suc i) d h within = all_get p xs i d (both (p x) (list_all p xs) h).1 (omega arith)

-- a run that is built ends by itself
pub built_end : (site : Size) (run : RunItem) → is_built_run site run ≡ true → is_end run.stop.place ≡ true
built_end site run h =
    let front = (both (is_in_order site run.places && is_of_site site run && ends_by_itself run.stop) (list_all are_built_steps run.programs) h).0 in
    let ends = (both (is_in_order site run.places && is_of_site site run) (ends_by_itself run.stop) front).1 in
    (both (run.stop.pick == 0) (is_end run.stop.place) ends).1

-- an actor of a site of so many ranks is one of a site of more
pub is_actor : (ranks n : ℕ) (a : Actor) → has_actor ranks a ≡ true → ranks ≤ n → IsActor n a
is_actor ranks n (actor.Rank rank) h more = grind (arith, nat_tests)
is_actor ranks n actor.Recoverer h more = tt
is_actor ranks n actor.Encoder h more = tt
is_actor ranks n actor.Flusher h more = tt
is_actor ranks n actor.Evictor h more = tt

-- the item is a run that is built, or a command on the conditions on which the job is to stop
abbrev pub IsBuiltItem : Size → Item → Type 0
IsBuiltItem site (Run run) = is_built_run site run ≡ true
IsBuiltItem site (Admin command) = is_halt_command command ≡ true
IsBuiltItem site _ = ⊥

false_is_not : false ≡ true → ⊥
false_is_not e = cc

built_part : (site : Size) (x : Item) → is_built_item site x ≡ true → IsBuiltItem site x
built_part site (Run run) h = h
built_part site (Lose node) h = false_is_not h
built_part site (Scavenge pick budget) h = false_is_not h
built_part site (Admin command) h = h

-- its items are built
pub items_built : (job : Job) → is_built job ≡ true → list_all (is_built_item job.site) job.items ≡ true
items_built job h =
    let front = (both (is_single job.scheme && list_all (is_built_item job.site) job.items && has_room job.cache (first_steps job.items)) (is_unflushed job.flush (first_steps job.items)) h).0 in
    let items = (both (is_single job.scheme && list_all (is_built_item job.site) job.items) (has_room job.cache (first_steps job.items)) front).0 in
    (both (is_single job.scheme) (list_all (is_built_item job.site) job.items) items).1

-- an item of a script that is built is built
pub built_item : (script : Script) (items : List Item) (i : ℕ) (x : Item) → items ≡ script.items → IsBuilt script → i < length items → x ≡ get_or items i x → is_built_item (size_of script.shape) x ≡ true
built_item script items i x same built within read =
    let all = subst (λ (xs : List Item). list_all (is_built_item (size_of script.shape)) xs ≡ true) (sym same) (items_built (job_of script) built) in
    ap (is_built_item (size_of script.shape)) read ∙ all_get (is_built_item (size_of script.shape)) items i x all within

-- an item that is built so is a run, or a command
pub built_as : (site : Size) (x y : Item) → x ≡ y → is_built_item site x ≡ true → IsBuiltItem site y
built_as site x y same built = built_part site y (ap (is_built_item site) (sym same) ∙ built)

-- what is neither a run nor a command isn't built
pub no_item : (site : Size) (x : Item) → ((run : RunItem) → x ≡ Run run → ⊥) → ((command : Command) → x ≡ Admin command → ⊥) → is_built_item site x ≡ true → ⊥
no_item site (Run run) other another built = other run refl
no_item site (Lose node) other another built = false_is_not built
no_item site (Scavenge pick budget) other another built = false_is_not built
no_item site (Admin command) other another built = another command refl

-- one item more
pub more_items : (items all : List Item) (i : ℕ) (x : Item) → items ≡ all → i < length items → x ≡ get_or items i x → legal_items (take (i + 1) all) ≡ legal_items (take i all) ++ legal_item x ∷ []
more_items items all i x same within read =
    ap legal_items (subst (λ (xs : List Item). take (i + 1) xs ≡ take i xs ++ x ∷ []) same
    (take_more items i x within ∙ ap (λ (z : Item). take i items ++ z ∷ []) (sym read)))
    ∙ map-append legal_item (take i all) (x ∷ [])

-- a scheme without copies fits every site
pub single_fits : (scheme : Scheme) (size nodes : ℕ) → is_single scheme ≡ true → fits_sets scheme size nodes ≡ true
single_fits Single size nodes h = each (numbers_below (group_count nodes size))
  where
    each : (groups : List ℕ) → list_all (λ group. fits_set Single (length (nodes_of_group nodes size group))) groups ≡ true
    each [] = refl
    each (g ∷ gs) = each gs
single_fits Partner size nodes h = absurd (false_is_not h)
single_fits Xor size nodes h = absurd (false_is_not h)
single_fits (Rs shares) size nodes h = absurd (false_is_not h)

-- a script that is built has such a scheme
pub built_single : (script : Script) → IsBuilt script → is_single script.config.scheme ≡ true
built_single script built =
    let job = job_of script in
    let front = (both (is_single job.scheme && list_all (is_built_item job.site) job.items && has_room job.cache (first_steps job.items)) (is_unflushed job.flush (first_steps job.items)) built).0 in
    let items = (both (is_single job.scheme && list_all (is_built_item job.site) job.items) (has_room job.cache (first_steps job.items)) front).0 in
    (both (is_single job.scheme) (list_all (is_built_item job.site) job.items) items).0
