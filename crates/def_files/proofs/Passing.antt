-- What it means that no refusal of a list applies.
use Rattle.std.proofs.Common.{◌≡◌, ℕ, ◌+◌, Bool, true, false, not, List, [], ◌∷◌, Option, Some, None, Result, Ok, Err, refl, sym, ◌∙◌, subst, arith}
use Rattle.std.specs.Prelude.{⊤, position, option_map}
use Rattle.std.specs.List.{list_all, position_from}
use Rattle.std.proofs.lemmas.Iterator.Adapters.{position_from-zero}
use Rattle.serde_json.specs.Data.{Data}
use Rattle.def_files.specs.declared.AssetFault.{AssetFault}
use Rattle.def_files.specs.declared.AssetFault.TheVariants.{NotJson}
use Rattle.def_files.specs.Refusals.{Refusal, unless, unless_each, unless_any, given}

-- none of the refusals applies
abbrev pub NoneApplies : {E : Type 0} → List (Option E) → Type 0
NoneApplies [] = ⊤
NoneApplies (r ∷ rs) = (r ≡ None) × NoneApplies rs

pub none_applies : {A E : Type 0} (rs : List (Option E)) (v w : A) → unless_any rs v ≡ Ok w → NoneApplies rs × (v ≡ w)
none_applies [] v w e = (tt, cc e)
none_applies (None ∷ rs) v w e = let rest = none_applies rs v w e in ((refl, rest.0), rest.1)
none_applies (Some fault ∷ rs) v w e = cc e

pub held : {E : Type 0} (b : Bool) (fault : E) → unless b fault ≡ None → b ≡ true
held b fault e = grind arith

all_from : {A : Type 0} (holds : A → Bool) (i : ℕ) (xs : List A) → position_from (λ x. not (holds x)) i xs ≡ None →
    list_all holds xs ≡ true
all_from holds i [] e = refl
all_from holds i (x ∷ xs) e = grind (arith, all_from holds (i + 1) xs)

not_mapped : {E : Type 0} (fault : ℕ → E) (found : Option ℕ) → option_map fault found ≡ None → found ≡ None
not_mapped fault found e = grind arith

pub each_held : {A E : Type 0} (holds : A → Bool) (fault : ℕ → E) (xs : List A) → unless_each holds fault xs ≡ None →
    list_all holds xs ≡ true
each_held holds fault xs e =
    all_from holds 0 xs (sym (position_from-zero (λ x. not (holds x)) xs) ∙ not_mapped fault (position (λ x. not (holds x)) xs) e)

-- what is given comes from a reading
pub given_ok : {A : Type 0} (f : Data → Result A AssetFault) (r : Option Data) (value : A) → given f r ≡ Ok value →
    (file : Data) × (f file ≡ Ok value)
given_ok f None value e = cc e
given_ok f (Some file) value e = (file, e)

-- ---- which refusals come

-- a refusal is one of some kind, where it applies; so are those of a list
abbrev pub Tells : {E : Type 0} → (E → Type 0) → Option E → Type 0
Tells P None = ⊤
Tells P (Some fault) = P fault

abbrev pub AllTell : {E : Type 0} → (E → Type 0) → List (Option E) → Type 0
AllTell P [] = ⊤
AllTell P (r ∷ rs) = Tells P r × AllTell P rs

pub unless_tells : {E : Type 0} (P : E → Type 0) (b : Bool) (fault : E) → P fault → Tells P (unless b fault)
unless_tells P true fault h = tt
unless_tells P false fault h = h

mapped_tells : {E : Type 0} (P : E → Type 0) (fault : ℕ → E) (found : Option ℕ) → ((i : ℕ) → P (fault i)) →
    Tells P (option_map fault found)
mapped_tells P fault None h = tt
mapped_tells P fault (Some i) h = h i

pub each_tells : {A E : Type 0} (P : E → Type 0) (holds : A → Bool) (fault : ℕ → E) (xs : List A) → ((i : ℕ) →
    P (fault i)) → Tells P (unless_each holds fault xs)
each_tells P holds fault xs h = mapped_tells P fault (position (λ x. not (holds x)) xs) h

-- so is the one that is given
pub first_tells : {A E : Type 0} (P : E → Type 0) (rs : List (Option E)) (value : A) (e : E) → AllTell P rs →
    unless_any rs value ≡ Err e → P e
first_tells P [] value e h q = cc q
first_tells P (None ∷ rs) value e h q = first_tells P rs value e h.1 q
first_tells P (Some fault ∷ rs) value e h q = let same : fault ≡ e = cc q in subst P same h.0

pub given_tells : {A : Type 0} (P : AssetFault → Type 0) (rs : Data → List Refusal) (value : Data →
    A) (r : Option Data) (e : AssetFault)
    → P NotJson → ((file : Data) → AllTell P (rs file)) → given (λ file. unless_any (rs file) (value file)) r ≡ Err e → P e
given_tells P rs value None e none h q = let same : NotJson ≡ e = cc q in subst P same none
given_tells P rs value (Some file) e none h q = first_tells P (rs file) (value file) e (h file) q
