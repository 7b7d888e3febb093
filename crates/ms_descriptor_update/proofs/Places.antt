-- The places of scripts in a map.
use Rattle.std.proofs.Common.{◌≡◌, ℕ, Bool, true, false, List, [], ◌∷◌, refl, ap, ◌∙◌, sym, subst, Option, Some, None}
use Rattle.std.specs.Prelude.{if◌then◌else◌, is_some}
use Rattle.std.specs.Option.{option_or}
use Rattle.std.specs.Str.{bytes_eq}
use Rattle.std.specs.Ordering.{nat_cmp, is_eq, match_ordering}
use Rattle.std.specs.declared.cmp.Ordering.{Ordering}
use Rattle.std.specs.declared.cmp.Ordering.TheVariants.{Less, Equal, Greater}
use Rattle.std.specs.Cmp.Lexicographic.{slice_cmp}
use Rattle.std.specs.Map.{lookup}
use Rattle.std.specs.BTreeMap.{insert_entry, get_by}
use Rattle.std.specs.declared.vec.Vec.{Vec}
use Rattle.std.specs.declared.alloc.Global.{Global}
use Rattle.std.proofs.lemmas.Map.Text.{is_eq-slice_cmp}
use Rattle.std.proofs.lemmas.Map.Lookups.{exact_bytes}
use Rattle.std.proofs.lemmas.Cmp.{tied_itself, nat_list_cmp_total}
use Rattle.def_script.specs.Bytes.{Bytes}
use Rattle.ms_descriptor_update.specs.Book.{Places, place_of}

abbrev Entries : Type 0
Entries = List (Vec ℕ Global × ℕ)

abbrev compared : Vec ℕ Global → Vec ℕ Global → Ordering
compared key other = slice_cmp nat_cmp key.items other.items

-- where a script stands among entries
abbrev at_script : Bytes → Entries → Option ℕ
at_script script entries = lookup (λ (key : Vec ℕ Global). is_eq (slice_cmp nat_cmp script key.items)) entries

equal_of : (order : Ordering) → is_eq order ≡ true → order ≡ Equal
equal_of Less e = absurd cc
equal_of Equal e = refl
equal_of Greater e = absurd cc

same_bytes : (a b : Bytes) → is_eq (slice_cmp nat_cmp a b) ≡ true → a ≡ b
same_bytes a b e = exact_bytes a b (equal_of (slice_cmp nat_cmp a b) e)

first_of_two : (k : Bool) (p x a : Option ℕ) → (if k then p else a) ≡ (if k then p else if k then x else a)
first_of_two true p x a = refl
first_of_two false p x a = refl

either_first : (e k : Bool) (p x a : Option ℕ) → (e ≡ true → k ≡ true → ⊥) → (if e then x else if k then p else a) ≡ (if k then p else if e then x else a)
either_first true true p x a h = absurd (h refl refl)
either_first true false p x a h = refl
either_first false k p x a h = refl

module _ (script : Bytes) (key : Vec ℕ Global) (place : ℕ) where
  abbrev found : Bool
  found = is_eq (slice_cmp nat_cmp script key.items)

  put_on : (entry : Vec ℕ Global × ℕ) (rest : Entries) (order : Ordering) → compared key entry.0 ≡ order
      → at_script script (insert_entry compared rest key place) ≡ (if found then Some place else at_script script rest)
      → at_script script (match_ordering order ((key, place) ∷ entry ∷ rest) ((entry.0, place) ∷ rest) (entry ∷ insert_entry compared rest key place))
      ≡ (if found then Some place else at_script script (entry ∷ rest))
  put_on entry rest Less e h = refl
  put_on entry rest Equal e h =
      let same : key.items ≡ entry.0.items = exact_bytes key.items entry.0.items e in
      let one : is_eq (slice_cmp nat_cmp script entry.0.items) ≡ found = ap (λ (z : Bytes). is_eq (slice_cmp nat_cmp script z)) (sym same) in
      rw one (first_of_two found (Some place) (Some entry.1) (at_script script rest))
  put_on entry rest Greater e h =
      let here = is_eq (slice_cmp nat_cmp script entry.0.items) in
      ap (λ (z : Option ℕ). if here then Some entry.1 else z) h
      ∙ either_first here found (Some place) (Some entry.1) (at_script script rest)
      (λ a b. absurd (differs (sym (same_bytes script key.items b) ∙ same_bytes script entry.0.items a)))
    where
      apart : Greater ≡ Equal → ⊥
      apart h = cc

      differs : key.items ≡ entry.0.items → ⊥
      differs same = apart (sym e ∙ subst (λ (z : Bytes). slice_cmp nat_cmp key.items z ≡ Equal) same (tied_itself nat_list_cmp_total key.items))

  pub put_in : (entries : Entries) → at_script script (insert_entry compared entries key place) ≡ (if found then Some place else at_script script entries)
  put_in [] = refl
  put_in (entry ∷ rest) = put_on entry rest (compared key entry.0) refl (put_in rest)

-- it is put behind those that were there
pub put_behind : (script : Bytes) (key : Vec ℕ Global) (place : ℕ) (old new : Places) → get_by (λ (k : Vec ℕ Global). slice_cmp nat_cmp key.items k.items) old ≡ None
    → new.entries ≡ insert_entry compared old.entries key place → place_of script new ≡ option_or (place_of script old) (if bytes_eq script key.items then Some place else None)
put_behind script key place old new none e =
    ap (at_script script) e ∙ (put_in script key place old.entries ∙ go (is_eq (slice_cmp nat_cmp script key.items)) refl (sym (is_eq-slice_cmp script key.items)))
  where
    at_none : (o : Option ℕ) → o ≡ None → (if true then Some place else o) ≡ option_or o (if true then Some place else None)
    at_none None h = refl
    at_none (Some n) h = absurd cc

    as_before : (o : Option ℕ) → o ≡ option_or o None
    as_before None = refl
    as_before (Some n) = refl

    go : (b : Bool) → is_eq (slice_cmp nat_cmp script key.items) ≡ b → bytes_eq script key.items ≡ is_eq (slice_cmp nat_cmp script key.items)
        → (if b then Some place else place_of script old) ≡ option_or (place_of script old) (if bytes_eq script key.items then Some place else None)
    go true found same =
        rw (same ∙ found) (at_none (place_of script old) (ap (λ (z : Bytes). place_of z old) (same_bytes script key.items found) ∙ none))
    go false other same = rw (same ∙ other) (as_before (place_of script old))

-- it is not put where it was there
pub stays : (script key : Bytes) (place : ℕ) (old : Places) (there : ℕ) → place_of key old ≡ Some there
    → place_of script old ≡ option_or (place_of script old) (if bytes_eq script key then Some place else None)
stays script key place old there is = go (bytes_eq script key) refl
  where
    some_stays : (o p : Option ℕ) → o ≡ Some there → o ≡ option_or o p
    some_stays None p h = absurd cc
    some_stays (Some n) p h = refl

    as_before : (o : Option ℕ) → o ≡ option_or o None
    as_before None = refl
    as_before (Some n) = refl

    go : (b : Bool) → bytes_eq script key ≡ b → place_of script old ≡ option_or (place_of script old) (if b then Some place else None)
    go true found = some_stays (place_of script old) (Some place) (ap (λ (z : Bytes). place_of z old) (same_bytes script key (is_eq-slice_cmp script key ∙ found)) ∙ is)
    go false other = as_before (place_of script old)

none_of : (o : Option ℕ) (b : Bool) → b ≡ is_some o → b ≡ false → o ≡ None
none_of None b e f = refl
none_of (Some n) b e f = absurd cc

-- no script was found
pub none_there : (script slice : Bytes) (old : Places) (b : Bool) → slice ≡ script → b ≡ is_some (get_by (λ (k : Vec ℕ Global). slice_cmp nat_cmp slice k.items) old) → b ≡ false
    → place_of script old ≡ None
none_there script slice old b same e f = ap (λ (z : Bytes). place_of z old) (sym same) ∙ none_of (place_of slice old) b e f
