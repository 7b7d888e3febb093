-- What is pushed one after the other.
use Rattle.std.proofs.Common.{◌≡◌, ℕ, zero, suc, ◌+◌, ◌<◌, ◌≤◌, nat_le, nat_lt, length, get_or, drop, Result, Ok, Err, Bool, true, false, List, [], ◌∷◌, ◌++◌, reverse, replicate, Option, Some, None, refl, sym, ◌∙◌, ap, subst, append_assoc, add-one, arith, if◌then◌else◌}
use Rattle.std.specs.Result.{OnOk}
use Rattle.std.specs.Option.{option_map, is_some}
use Rattle.std.proofs.lemmas.Bool.Decides.{nat_tests}
use Rattle.std.proofs.lemmas.List.{append-nil, reverse-append, reverse-reverse, replicate_more, drop_more, drop_all}
use Rattle.def_script.specs.Bytes.{Bytes}
use Rattle.def_machine.specs.Stacks.{Stack}
use Rattle.def_script.specs.Witness.{weight}
use Rattle.def_tree.specs.Tree.{Key}
use Rattle.def_assets.specs.Assets.{Assets, sig_of}
use Rattle.def_choice.specs.Least.{item, both}
use Rattle.def_satisfaction.specs.Rows.{EMPTY}
use Rattle.def_choice.specs.Cheapest.{stack_of, signatures}
use Rattle.ms_choice.specs.declared.slot.Slot.{Slot}
use Rattle.def_choice.proofs.Weights.{reverse-cons}
use Rattle.ms_chosen.specs.Scaffolding.Choice.{chosen}
use Rattle.ms_choice.specs.Marks.{takes, set_by}
use Rattle.ms_chosen.specs.Scaffolding.Children.{children_of_keys, lengths_of_keys}
use Rattle.ms_chosen.specs.Scaffolding.Pushed.{IsPushed}
use Rattle.ms_chosen.proofs.Keys.{signatures_are}

-- one on top of the other
pub pushed_both : (below above : Option Stack) (before between after : List Bytes) → IsPushed below before between → IsPushed above between after → IsPushed (both below above) before after
pushed_both None above before between after h k = tt
pushed_both (Some below) None before between after h k = tt
pushed_both (Some below) (Some above) before between after h k =
    k ∙ ap (λ s. s ++ reverse above) h ∙ append_assoc before (reverse below) (reverse above) ∙ sym (ap (λ s. before ++ s) (reverse-append above below))

pub reverse-replicate : (n : ℕ) (item : Bytes) → reverse (replicate n item) ≡ replicate n item
reverse-replicate zero item = refl
reverse-replicate (suc n) item =
    reverse-cons item (replicate n item) ∙ ap (λ s. s ++ item ∷ []) (reverse-replicate n item) ∙ replicate_more n item ∙ ap (λ k. replicate k item) (add-one n)

-- the option that is taken is the first of least weight
taken : (former latter : Stack) (test : Bool) → nat_le (weight former) (weight latter) ≡ test →
    (if nat_lt (weight latter) (weight former) then Some latter else Some former) ≡ (if test then Some former else Some latter)
taken former latter true e = let h : nat_lt (weight latter) (weight former) ≡ false = grind (arith, nat_tests) in ap (λ b. if b then Some latter else Some former) h
taken former latter false e = let h : nat_lt (weight latter) (weight former) ≡ true = grind (arith, nat_tests) in ap (λ b. if b then Some latter else Some former) h

-- the signatures of those keys that stand at or before the last one
abbrev pub signed : (last : Option Slot) → Assets → (place : ℕ) → List Key → Option Stack
signed last assets place keys = stack_of (children_of_keys assets keys) (set_by last place (lengths_of_keys assets keys))

-- a key is passed over or signs, and the others are left
abbrev pub Left : (last : Option Slot) → Assets → (place : ℕ) → List Key → (whole now : List Bytes) → Type 0
Left last assets place keys whole now = (rest : List Bytes) × (signed last assets place keys ≡ Some rest) × (whole ≡ now ++ rest)

signed_step : (o sig : Option Stack) (b : Bool) (rest now after : List Bytes) → both o (if b then sig else Some []) ≡ Some rest
    → (b ≡ true → (s : Bytes) × (sig ≡ Some (s ∷ [])) × (after ≡ now ++ s ∷ [])) → (b ≡ false → after ≡ now)
    → (left : List Bytes) × (o ≡ Some left) × (now ++ rest ≡ after ++ left)
signed_step None sig b rest now after e t f = absurd (let never : ⊥ = cc in never)
signed_step (Some left) sig true rest now after e t f =
    let s = t refl in
    let top : both (Some left) (Some (s.0 ∷ [])) ≡ Some rest = ap (both (Some left)) (sym s.1) ∙ e in
    let same : s.0 ∷ left ≡ rest = cc in
    (left, refl, ap (λ r. now ++ r) (sym same) ∙ sym (append_assoc now (s.0 ∷ []) left) ∙ ap (λ r. r ++ left) (sym s.2))
signed_step (Some left) sig false rest now after e t f =
    let same : left ≡ rest = cc in
    (left, refl, ap (λ r. now ++ r) (sym same) ∙ ap (λ r. r ++ left) (sym (f refl)))

-- a signature that is held is pushed
held_pushed : (sig : Option Bytes) (o : Option Stack) (rest now after : List Bytes) → both o (item sig) ≡ Some rest → IsPushed (item sig) now after
    → (s : Bytes) × (item sig ≡ Some (s ∷ [])) × (after ≡ now ++ s ∷ [])
held_pushed None o rest now after e h = absurd (none o e)
  where
    none : (o : Option Stack) → both o None ≡ Some rest → ⊥
    none None e = cc
    none (Some v) e = cc
held_pushed (Some s) o rest now after e h = (s, refl, h)

pub signed_more : (last : Option Slot) (assets : Assets) (i : ℕ) (key : Key) (keys : List Key) (b : Bool) (whole now after : List Bytes)
    → Left last assets i (key ∷ keys) whole now
    → b ≡ takes last i (option_map length (sig_of assets key)) (Some 0)
    → (b ≡ true → IsPushed (item (sig_of assets key)) now after) → (b ≡ false → after ≡ now)
    → Left last assets (suc i) keys whole after
signed_more last assets i key keys b whole now after left is t f =
    let o : Option Stack = signed last assets (suc i) keys in
    let e : both o (if b then item (sig_of assets key) else Some []) ≡ Some left.0 = ap (λ test. both o (if test then item (sig_of assets key) else Some [])) is ∙ left.1 in
    let r = signed_step o (item (sig_of assets key)) b left.0 now after e
    (λ yes. held_pushed (sig_of assets key) o left.0 now after (sym (ap (λ test. both o (if test then item (sig_of assets key) else Some [])) yes) ∙ e) (t yes)) f in
    (r.0, r.1, left.2 ∙ r.2)

-- the same of a list that a loop is at, and at its end
pub signed_at : (last : Option Slot) (assets : Assets) (keys : List Key) (i : ℕ) (key : Key) (b : Bool) (whole now after : List Bytes)
    → i < length keys → key ≡ get_or keys i key → Left last assets i (drop i keys) whole now
    → b ≡ takes last i (option_map length (sig_of assets key)) (Some 0)
    → (b ≡ true → IsPushed (item (sig_of assets key)) now after) → (b ≡ false → after ≡ now)
    → Left last assets (i + 1) (drop (i + 1) keys) whole after
signed_at last assets keys i key b whole now after below at left is t f =
    let opened : drop i keys ≡ key ∷ drop (i + 1) keys = drop_more keys i key below ∙ ap (λ k. k ∷ drop (i + 1) keys) (sym at) in
    let more = signed_more last assets i key (drop (i + 1) keys) b whole now after (subst (λ ks. Left last assets i ks whole now) opened left) is t f in
    subst (λ n. Left last assets n (drop (i + 1) keys) whole after) (sym (add-one i)) more

pub signed_done : (last : Option Slot) (assets : Assets) (keys : List Key) (i : ℕ) (whole now : List Bytes) → length keys ≤ i → Left last assets i (drop i keys) whole now → now ≡ whole
signed_done last assets keys i whole now past left =
    let at_end : Left last assets i [] whole now = subst (λ ks. Left last assets i ks whole now) (drop_all i keys past) left in
    let is = at_end.1 in
    let nothing : [] ≡ at_end.0 = cc in
    sym (at_end.2 ∙ ap (λ r. now ++ r) (sym nothing) ∙ append-nil now)

-- an empty item and the signatures of the choice above it are the satisfaction of a `multi`
multi_by : (o : Option Stack) (before after : List Bytes) → ((v : Stack) → o ≡ Some v → after ≡ (before ++ EMPTY ∷ []) ++ v)
    → IsPushed (both (Some (EMPTY ∷ [])) (option_map reverse o)) before after
multi_by None before after h = tt
multi_by (Some v) before after h =
    h v refl ∙ append_assoc before (EMPTY ∷ []) v ∙
    sym (ap (λ s. before ++ s) (reverse-append (reverse v) (EMPTY ∷ []) ∙ ap (λ s. EMPTY ∷ s) (reverse-reverse v)))

pub multi_pushed : (assets : Assets) (k : ℕ) (keys : List Key) (before after : List Bytes)
    → ((v : Stack) → chosen (children_of_keys assets keys) k ≡ Some v → after ≡ (before ++ EMPTY ∷ []) ++ v)
    → IsPushed (both (Some (EMPTY ∷ [])) (signatures assets k keys)) before after
multi_pushed assets k keys before after h =
    let P : Option Stack → Type 0 = λ o. IsPushed (both (Some (EMPTY ∷ [])) o) before after in
    subst P (sym (signatures_are assets k keys)) (multi_by (chosen (children_of_keys assets keys) k) before after h)

pub on_ok : {T E : Type 0} (r : Result T E) (P Q : Type 0) → (P → Q) → OnOk r P → OnOk r Q
on_ok (Ok v) P Q f h = f h
on_ok (Err e) P Q f h = tt

-- what is pushed onto an empty stack is the stack itself
pub found_is : (o : Option Stack) (w : Option ℕ) (start after : List Bytes) → w ≡ option_map weight (option_map reverse o) → is_some w ≡ true → start ≡ [] → IsPushed o start after
    → Some after ≡ option_map reverse o
found_is None w start after is some empty h = absurd (let none : is_some w ≡ false = ap is_some is in let never : ⊥ = cc in never)
found_is (Some v) w start after is some empty h = ap Some (h ∙ ap (λ s. s ++ reverse v) empty)
