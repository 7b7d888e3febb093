-- Elements of a list that are the same as an earlier one.
use Rattle.std.proofs.Common.{◌≡◌, ℕ, suc, ◌||◌, ◌+◌, ◌<◌, ◌≤◌, not, Bool, true, false, cond, List, [], ◌∷◌, Option, Some, None, option_map, map, take, drop, length, get_or, refl, sym, ◌∙◌, ap, add-one, drop-cons, arith}
use Rattle.std.specs.List.{position_from, list_any, enumerate_from}
use Rattle.std.specs.Str.{bytes_eq}
use Rattle.std.proofs.lemmas.List.{length-map, take-map, get_or-map, drop_all}
use Rattle.def_script.specs.Bytes.{Bytes}
use Rattle.def_machine.specs.Stacks.{Pairs}
use Rattle.def_files.specs.declared.Format.{Format}
use Rattle.def_files.specs.Parts.{same_under}
use Rattle.ms_assets.specs.Parts.{repeated, repeats}
use Rattle.ms_assets.proofs.Refusals.{each_first}

cond_not_not : (b : Bool) (x y : Option ℕ) → cond (not (not b)) x y ≡ cond b x y
cond_not_not b x y = grind arith

module _ {A : Type 0} (same : A → A → Bool) where
  -- an element is the same as an earlier one
  abbrev pub is_repeat : List A → ℕ × A → Bool
  is_repeat xs entry = list_any (same entry.1) (take entry.0 xs)

  -- the first place from i on whose element is
  abbrev pub same_from : ℕ → List A → Option ℕ
  same_from i xs = position_from (λ entry. not (not (is_repeat xs entry))) i (enumerate_from i (drop i xs))

  element_at : (i : ℕ) (xs : List A) (x : A) → i < length xs → x ≡ get_or xs i x → drop i xs ≡ x ∷ drop (i + 1) xs
  element_at i xs x h e = rw add-one (drop-cons xs i x h ∙ ap (λ y. y ∷ drop (suc i) xs) (sym e))

  -- whether the element at a place is
  pub same_step : (i : ℕ) (xs : List A) (x : A) → i < length xs → x ≡ get_or xs i x
      → same_from i xs ≡ cond (list_any (same x) (take i xs)) (Some i) (same_from (i + 1) xs)
  same_step i xs x h e =
      ap (λ ys. position_from (λ entry. not (not (is_repeat xs entry))) i (enumerate_from i ys)) (element_at i xs x h e)
      ∙ cond_not_not (list_any (same x) (take i xs)) (Some i) (same_from (i + 1) xs)

  pub same_here : (i : ℕ) (xs : List A) (x : A) → i < length xs → x ≡ get_or xs i x → list_any (same x) (take i xs) ≡ true → same_from i xs ≡ Some i
  same_here i xs x h e held = same_step i xs x h e ∙ ap (λ b. cond b (Some i) (same_from (i + 1) xs)) held

  pub same_later : (i : ℕ) (xs : List A) (x : A) → i < length xs → x ≡ get_or xs i x → list_any (same x) (take i xs) ≡ false → same_from (i + 1) xs ≡ same_from i xs
  same_later i xs x h e held = sym (same_step i xs x h e ∙ ap (λ b. cond b (Some i) (same_from (i + 1) xs)) held)

  -- past the end no element is left
  pub same_none : (i : ℕ) (xs : List A) → length xs ≤ i → same_from i xs ≡ None
  same_none i xs h = ap (λ ys. position_from (λ entry. not (not (is_repeat xs entry))) i (enumerate_from i ys)) (drop_all i xs h)

-- ---- pairs of a file

pub repeats_from : {E : Type 0} (format : Format) (fault : ℕ → E) (pairs : Pairs) → repeats format fault pairs ≡ option_map fault (same_from (same_under format) 0 pairs)
unfolding repeats
repeats_from format fault pairs =
    each_first {A = ℕ × (Bytes × Bytes)} (λ entry. not (is_repeat (same_under format) pairs entry)) fault (enumerate_from 0 pairs)

-- ---- keys

abbrev pub keys : {B : Type 0} → List (Bytes × B) → List Bytes
keys pairs = map (λ pair. pair.0) pairs

-- the first place from i on whose key stands earlier too
abbrev pub repeat_from : {B : Type 0} → ℕ → List (Bytes × B) → Option ℕ
repeat_from i pairs = same_from bytes_eq i (keys pairs)

pub repeated_from : {B E : Type 0} (fault : ℕ → E) (pairs : List (Bytes × B)) → repeated fault pairs ≡ option_map fault (repeat_from 0 pairs)
unfolding repeated
repeated_from fault pairs = each_first {A = ℕ × Bytes} (λ entry. not (is_repeat bytes_eq (keys pairs) entry)) fault (enumerate_from 0 (keys pairs))

list_any-map : {A B : Type 0} (test : B → Bool) (f : A → B) (xs : List A) → list_any test (map f xs) ≡ list_any (λ x. test (f x)) xs
list_any-map test f [] = refl
list_any-map test f (x ∷ xs) = ap (λ b. test (f x) || b) (list_any-map test f xs)

any_before : {B : Type 0} (key : Bytes) (i : ℕ) (pairs : List (Bytes × B)) → list_any (bytes_eq key) (take i (keys pairs)) ≡ list_any (λ pair. bytes_eq key pair.0) (take i pairs)
any_before {B} key i pairs = ap (list_any (bytes_eq key)) (take-map (λ (pair : Bytes × B). pair.0) i pairs) ∙ list_any-map (bytes_eq key) (λ (pair : Bytes × B). pair.0) (take i pairs)

key_inside : {B : Type 0} (i : ℕ) (pairs : List (Bytes × B)) → i < length pairs → i < length (keys pairs)
key_inside {B} i pairs h = let same = length-map pairs (λ (pair : Bytes × B). pair.0) in omega arith

key_at : {B : Type 0} (i : ℕ) (pairs : List (Bytes × B)) (pair : Bytes × B) → i < length pairs → pair ≡ get_or pairs i pair → pair.0 ≡ get_or (keys pairs) i pair.0
key_at {B} i pairs pair h e = sym (get_or-map (λ (pair : Bytes × B). pair.0) pairs i pair pair.0 h ∙ ap (λ (p : Bytes × B). p.0) (sym e))

pub repeats_here : {B : Type 0} (i : ℕ) (pairs : List (Bytes × B)) (pair : Bytes × B) → i < length pairs → pair ≡ get_or pairs i pair
    → list_any (λ p. bytes_eq pair.0 p.0) (take i pairs) ≡ true → repeat_from i pairs ≡ Some i
repeats_here i pairs pair h e held = same_here bytes_eq i (keys pairs) pair.0 (key_inside i pairs h) (key_at i pairs pair h e) (any_before pair.0 i pairs ∙ held)

pub repeats_later : {B : Type 0} (i : ℕ) (pairs : List (Bytes × B)) (pair : Bytes × B) → i < length pairs → pair ≡ get_or pairs i pair
    → list_any (λ p. bytes_eq pair.0 p.0) (take i pairs) ≡ false → repeat_from (i + 1) pairs ≡ repeat_from i pairs
repeats_later i pairs pair h e held = same_later bytes_eq i (keys pairs) pair.0 (key_inside i pairs h) (key_at i pairs pair h e) (any_before pair.0 i pairs ∙ held)

-- past the end no key is left
pub repeats_none : {B : Type 0} (i : ℕ) (pairs : List (Bytes × B)) → length pairs ≤ i → repeat_from i pairs ≡ None
repeats_none {B} i pairs h = same_none bytes_eq i (keys pairs) (let same = length-map pairs (λ (pair : Bytes × B). pair.0) in omega arith)
