-- Lists of keys that stand in others in their order.
use Rattle.std.proofs.Common.{◌≡◌, inl, inr, suc, false, List, [], ◌∷◌, ◌++◌, Contains, sym, arith}
use Rattle.std.specs.List.{AllByRecursion, IsDistinct}
use Rattle.std.specs.Str.{bytes_eq}
use Rattle.std.proofs.lemmas.Bool.{cases_Bool}
use Rattle.std.proofs.lemmas.Slice.Eq.{bytes_eq-Decides}
use Rattle.def_tree.specs.Tree.{Key}
use Rattle.def_sane.specs.Keys.{AreDistinct}

pub data IsPart : List Key → List Key → Type 0 where
  no_key : IsPart [] []
  one_key : (key : Key) {some all : List Key} → IsPart some all → IsPart (key ∷ some) (key ∷ all)
  other_key : (key : Key) {some all : List Key} → IsPart some all → IsPart some (key ∷ all)

pub none_part : (all : List Key) → IsPart [] all
none_part [] = no_key
none_part (key ∷ all) = other_key key (none_part all)

pub part_behind : (before : List Key) {some all : List Key} → IsPart some all → IsPart some (before ++ all)
part_behind [] h = h
part_behind (key ∷ before) h = other_key key (part_behind before h)

pub part_both : {some all few many : List Key} → IsPart some all → IsPart few many → IsPart (some ++ few) (all ++ many)
part_both no_key g = g
part_both (one_key key h) g = one_key key (part_both h g)
part_both (other_key key h) g = other_key key (part_both h g)

pub part_of_part : {few some all : List Key} → IsPart few some → IsPart some all → IsPart few all
part_of_part h no_key = h
part_of_part (one_key first h) (one_key key g) = one_key first (part_of_part h g)
part_of_part (other_key first h) (one_key key g) = other_key first (part_of_part h g)
part_of_part h (other_key key g) = other_key key (part_of_part h g)

-- ---- no key twice

all_part : (P : Key → Type 0) {some all : List Key} → IsPart some all → AllByRecursion P all → AllByRecursion P some
all_part P no_key h = tt
all_part P (one_key key g) h = (h.0, all_part P g h.1)
all_part P (other_key key g) h = all_part P g h.1

pub part_once : {some all : List Key} → IsPart some all → IsDistinct bytes_eq all → IsDistinct bytes_eq some
unfolding IsDistinct
part_once no_key h = tt
part_once (one_key key g) h = (all_part (λ other. bytes_eq key other ≡ false) g h.0, part_once g h.1)
part_once (other_key key g) h = part_once g h.1

differs : (key : Key) (keys : List Key) → ¬ Contains keys key → AllByRecursion (λ other. bytes_eq key other ≡ false) keys
differs key [] h = tt
differs key (other ∷ keys) h = (
  elim (cases_Bool (bytes_eq key other)) [
    | inl same ↦ absurd (h (0, omega arith, sym ((bytes_eq-Decides key other).0 same)))
    | inr not ↦ not
  ],
  differs key keys (λ c. h (suc c.0, omega (arith, c.1), c.2)),
)

pub once : (keys : List Key) → AreDistinct keys → IsDistinct bytes_eq keys
unfolding IsDistinct
once [] h = tt
once (key ∷ keys) h = (differs key keys h.0, once keys h.1)
