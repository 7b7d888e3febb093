-- Refusals one after another.
use Rattle.std.proofs.Common.{◌≡◌, ◌⊎◌, inl, inr, ℕ, ◌+◌, not, Bool, true, cond, List, [], ◌∷◌, Option, Some, None, option_map, Result, Err, map, refl, sym, ◌∙◌, ap, arith}
use Rattle.std.specs.List.{position_from}
use Rattle.std.proofs.lemmas.Iterator.Adapters.{position_from-zero}
use Rattle.serde_json.specs.Data.{Data}
use Rattle.def_files.specs.declared.Member.{Member}
use Rattle.def_files.specs.declared.Member.TheVariants as member
use Rattle.def_files.specs.declared.AssetFault.TheVariants as fault
use Rattle.def_files.specs.Json.{is_object}
use Rattle.def_files.specs.Parts.{elements}
use Rattle.def_files.specs.Refusals.{Refusal, unless, unless_each, unless_any, no_object, no_hex}
use Rattle.ms_assets.specs.declared.list_fault.ListFault.TheVariants as list_fault
use Rattle.ms_assets.specs.Parts.{first, first_refused}

-- nothing is refused by the first of refusals
pub after : {A E : Type 0} (r : Option E) (rest : List (Option E)) (value : A) (answer : Result A E) → r ≡ None → answer ≡ unless_any rest value → answer ≡ unless_any (r ∷ rest) value
after r rest value answer none e = e ∙ sym (ap (λ o. unless_any (o ∷ rest) value) none)

-- the first of refusals applies
pub stops : {A E : Type 0} (r : Option E) (rest : List (Option E)) (value : A) (why : E) → r ≡ Some why → Err why ≡ unless_any (r ∷ rest) value
stops r rest value why some = sym (ap (λ o. unless_any (o ∷ rest) value) some)

-- nothing is refused by the first three of refusals, or one of them applies
pub after_three : {A E : Type 0} (r s t : Option E) (rest : List (Option E)) (value : A) (answer : Result A E) → first (r ∷ s ∷ t ∷ []) ≡ None → answer
    ≡ unless_any rest value → answer ≡ unless_any (r ∷ s ∷ t ∷ rest) value
after_three r s t rest value answer none e = grind arith

pub stops_in_three : {A E : Type 0} (r s t : Option E) (rest : List (Option E)) (value : A) (why : E) → first (r ∷ s ∷ t ∷ []) ≡ Some why → Err why ≡ unless_any (r ∷ s ∷ t ∷ rest) value
stops_in_three r s t rest value why some = grind arith

-- the first element for which a test doesn't hold
pub each_first : {A E : Type 0} (holds : A → Bool) (fault : ℕ → E) (xs : List A) → unless_each holds fault xs ≡ first_refused holds fault xs
each_first holds fault xs = ap (option_map fault) (position_from-zero (λ x. not (holds x)) xs)

position_from-map : {A B : Type 0} (test : B → Bool) (f : A → B) (i : ℕ) (xs : List A) → position_from test i (map f xs) ≡ position_from (λ x. test (f x)) i xs
position_from-map test f i [] = refl
position_from-map test f i (x ∷ xs) = ap (λ o. cond (test (f x)) (Some i) o) (position_from-map test f (i + 1) xs)

-- a test of the elements of a list, under a map
pub first_refused-map : {A B E : Type 0} (holds : B → Bool) (fault : ℕ → E) (f : A → B) (xs : List A) → first_refused holds fault (map f xs) ≡ first_refused (λ x. holds (f x)) fault xs
first_refused-map holds fault f xs = ap (option_map fault) (position_from-map (λ x. not (holds x)) f 0 xs)

-- the digits of a list's elements
pub no_hex_first : (right : Data → Bool) (m : Member) (file : Data) (list : List Data) (answer : Refusal) → list ≡ elements m file
    → first_refused right (fault.Hex m) list ≡ answer → no_hex right m file ≡ answer
no_hex_first right m file list answer same e = each_first right (fault.Hex m) (elements m file) ∙ ap (first_refused right (fault.Hex m)) (sym same) ∙ e

-- an object
pub object_none : (file : Data) (said : Bool) → said ≡ true → said ≡ is_object file → no_object file ≡ None
object_none file said holds is = ap (λ b. unless b (fault.Shape member.Whole)) (sym is ∙ holds)

-- ---- the place of the first element by another fault

place_none : {E : Type 0} (fault : ℕ → E) (o : Option ℕ) → option_map list_fault.At o ≡ None → option_map fault o ≡ None
place_none fault o e = grind arith

place_some : {E : Type 0} (fault : ℕ → E) (i : ℕ) (o : Option ℕ) → option_map list_fault.At o ≡ Some (list_fault.At i) → option_map fault o ≡ Some (fault i)
place_some fault i o e = grind arith

-- none is refused
pub at_none : {A E : Type 0} (holds : A → Bool) (fault : ℕ → E) (xs : List A) → first_refused holds list_fault.At xs ≡ None → first_refused holds fault xs ≡ None
at_none holds fault xs e = place_none fault (position_from (λ x. not (holds x)) 0 xs) e

-- the one at a place is
pub at_some : {A E : Type 0} (holds : A → Bool) (fault : ℕ → E) (xs : List A) (i : ℕ) → (list_fault.At i ≡ list_fault.Memory)
    ⊎ (first_refused holds list_fault.At xs ≡ Some (list_fault.At i)) → first_refused holds fault xs ≡ Some (fault i)
at_some holds fault xs i (inl e) = let no = e in cc
at_some holds fault xs i (inr e) = place_some fault i (position_from (λ x. not (holds x)) 0 xs) e
