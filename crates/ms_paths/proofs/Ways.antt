-- The steps behind an extended key, one more and the last one.
use Rattle.std.proofs.Common.{◌≡◌, ℕ, zero, suc, true, false, Bool, List, [], ◌∷◌, ◌++◌, length, drop, ap, ◌∙◌, refl, sym, map, cond, Option, Ok, Err}
use Rattle.std.specs.Prelude.{codes, ◌||◌}
use Rattle.std.proofs.lemmas.Bool.{cond-true, cond-false}
use Rattle.std.proofs.lemmas.List.{append-nil, append_assoc}
use Rattle.def_script.specs.Bytes.{Bytes}
use Rattle.def_descriptor.specs.declared.DescriptorFault.{DescriptorFault}
use Rattle.def_descriptor.specs.declared.DescriptorFault.TheVariants as fault
use Rattle.def_descriptor.specs.Token.{Token, starts, place, Read, and_then}
use Rattle.def_descriptor.specs.Expression.{Way, number, branches, index}
use Rattle.def_descriptor.specs.Steps.{Step, MOST_BRANCHES, read_step, read_plain, read_numbers, fits, read_ways}
use Rattle.ms_paths.specs.declared.steps.Way.{Way as OwnWay}
use Rattle.ms_paths.specs.Places.{tokens_at}
use Rattle.ms_paths.specs.Paths.{way_at, branches_read, index_read, way_read, fault_of, step_over, way_over}

-- what is read behind one of the steps
abbrev pub ways_behind : (most : ℕ) (fixed : Option ℕ) (had : Bool) → Way → List Token → Read (List Way)
ways_behind most fixed had (number n) end = and_then (read_ways most fixed had end) (λ ways last. Ok (number n ∷ ways, last))
ways_behind most fixed had (branches ns) end = and_then (read_ways most fixed true end) (λ ways last. Ok (branches ns ∷ ways, last))
ways_behind most fixed had index end = Ok (index ∷ [], end)

-- ---- one step is read as the definition reads it

chosen : (s t had : Bool) (A B C : Read (List Way)) (A' B' C' : Read Way) (next : Way → List Token → Read (List Way)) (why : DescriptorFault)
    → A ≡ and_then A' next → B ≡ and_then B' next → C ≡ and_then C' next
    → cond s A (cond t (cond had (Err why) B) C) ≡ and_then (cond s A' (cond t (cond had (Err why) B') C')) next
chosen true t had A B C A' B' C' next why a b c = a
chosen false true true A B C A' B' C' next why a b c = refl
chosen false true false A B C A' B' C' next why a b c = b
chosen false false had A B C A' B' C' next why a b c = c

module _ (most : ℕ) (fixed : Option ℕ) (had : Bool) where
  by_index : (t : Bool) (why : DescriptorFault) (rest : List Token)
      → cond t (Err why) (Ok (index ∷ [], rest)) ≡ and_then (cond t (Err why) (Ok (index, rest))) (ways_behind most fixed had)
  by_index true why rest = refl
  by_index false why rest = refl

  by_number : (r : Read ℕ) → and_then r (λ n end. and_then (read_ways most fixed had end) (λ ways last. Ok (number n ∷ ways, last)))
      ≡ and_then (and_then r (λ n end. Ok (number n, end))) (ways_behind most fixed had)
  by_number (Ok (n, end)) = refl
  by_number (Err why) = refl

  fitting : (t : Bool) (ns : List ℕ) (end : List Token) (why : DescriptorFault)
      → cond t (and_then (read_ways most fixed true end) (λ ways last. Ok (branches ns ∷ ways, last))) (Err why)
      ≡ and_then (and_then (cond t (Ok (ns, end)) (Err why)) (λ (ms : List ℕ) (last : List Token). Ok (branches ms, last))) (ways_behind most fixed had)
  fitting true ns end why = refl
  fitting false ns end why = refl

  by_branch : (r : Read (List ℕ)) (why : DescriptorFault)
      → and_then r (λ ns end. cond (fits fixed (length ns)) (and_then (read_ways most fixed true end) (λ ways last. Ok (branches ns ∷ ways, last))) (Err why))
      ≡ and_then (and_then (and_then r (λ ns end. cond (fits fixed (length ns)) (Ok (ns, end)) (Err why))) (λ ns end. Ok (branches ns, end)))
      (ways_behind most fixed had)
  by_branch (Ok (ns, end)) why = fitting (fits fixed (length ns)) ns end why
  by_branch (Err other) why = refl

  pub ways_one : (ts : List Token) → starts (codes "/") ts ≡ true
      → read_ways (suc most) fixed had ts ≡ and_then (way_read fixed had (drop 1 ts)) (ways_behind most fixed had)
  unfolding read_ways
  ways_one ts h =
      let rest = drop 1 ts in
      cond-true (starts (codes "/") ts) _ _ h
      ∙ chosen (starts (codes "*") rest) (starts (codes "<") rest) had _ _ _ _ _ _ (ways_behind most fixed had) (fault.Multipath (place rest))
      (by_index (starts (codes "h") (drop 1 rest) || starts (codes "'") (drop 1 rest)) (fault.Hardened (place rest)) (drop 1 rest))
      (by_branch (read_numbers MOST_BRANCHES [] (drop 1 rest)) (fault.Multipath (place rest))) (by_number (read_plain rest))

-- ---- which step it is

pub way_index : (fixed : Option ℕ) (had : Bool) (ts : List Token) → starts (codes "*") ts ≡ true → way_read fixed had ts ≡ index_read ts
way_index fixed had ts h = cond-true (starts (codes "*") ts) _ _ h

module _ (fixed : Option ℕ) (had : Bool) (ts : List Token) (no : starts (codes "*") ts ≡ false) where
  pub way_number : starts (codes "<") ts ≡ false → way_read fixed had ts ≡ and_then (read_plain ts) (λ n end. Ok (number n, end))
  way_number h = cond-false (starts (codes "*") ts) _ _ no ∙ cond-false (starts (codes "<") ts) _ _ h

  pub way_second : starts (codes "<") ts ≡ true → had ≡ true → way_read fixed had ts ≡ Err (fault.Multipath (place ts))
  way_second h second =
      cond-false (starts (codes "*") ts) _ _ no
      ∙ (cond-true (starts (codes "<") ts) _ _ h
      ∙ cond-true had _ _ second)

  pub way_branches : starts (codes "<") ts ≡ true → had ≡ false → way_read fixed had ts ≡ and_then (branches_read fixed ts) (λ ns end. Ok (branches ns, end))
  way_branches h first =
      cond-false (starts (codes "*") ts) _ _ no
      ∙ (cond-true (starts (codes "<") ts) _ _ h
      ∙ cond-false had _ _ first)

-- ---- an index

abbrev wrong : DescriptorFault → Read Way
wrong why = Err why

first_true : (x y : Bool) → x ≡ true → (x || y) ≡ true
first_true true y h = refl
first_true false y h = absurd (cc)

second_true : (x y : Bool) → x ≡ false → y ≡ true → (x || y) ≡ true
second_true true y h k = absurd (cc)
second_true false y h k = k

both_false : (x y : Bool) → x ≡ false → y ≡ false → (x || y) ≡ false
both_false true y h k = absurd (cc)
both_false false y h k = k

module _ (ts rest : List Token) (at : ℕ) (e : drop 1 ts ≡ rest) (there : place ts ≡ at) where
  hardened : (starts (codes "h") rest || starts (codes "'") rest) ≡ true → index_read ts ≡ Err (fault.Hardened at)
  hardened h =
      ap (λ (z : List Token). cond (starts (codes "h") z || starts (codes "'") z) (wrong (fault.Hardened (place ts))) (Ok (index, z))) e
      ∙ (cond-true (starts (codes "h") rest || starts (codes "'") rest) (wrong (fault.Hardened (place ts))) (Ok (index, rest)) h
      ∙ ap (λ (z : ℕ). Err (fault.Hardened z)) there)

  pub index_letter : starts (codes "h") rest ≡ true → index_read ts ≡ Err (fault.Hardened at)
  index_letter h = hardened (first_true (starts (codes "h") rest) (starts (codes "'") rest) h)

  pub index_mark : starts (codes "h") rest ≡ false → starts (codes "'") rest ≡ true → index_read ts ≡ Err (fault.Hardened at)
  index_mark h k = hardened (second_true (starts (codes "h") rest) (starts (codes "'") rest) h k)

  pub index_plain : starts (codes "h") rest ≡ false → starts (codes "'") rest ≡ false → index_read ts ≡ Ok (index, rest)
  index_plain h k =
      ap (λ (z : List Token). cond (starts (codes "h") z || starts (codes "'") z) (wrong (fault.Hardened (place ts))) (Ok (index, z))) e
      ∙ cond-false (starts (codes "h") rest || starts (codes "'") rest) (wrong (fault.Hardened (place ts))) (Ok (index, rest))
      (both_false (starts (codes "h") rest) (starts (codes "'") rest) h k)

-- ---- one step more than there may be

pub step_over_is : (ts rest : List Token) (at : ℕ) (step : Step) → read_step ts ≡ Ok (step, rest) → place ts ≡ at → step_over ts ≡ fault.Depth at
step_over_is ts rest at step e there =
    ap (λ (z : Read Step). fault_of z (fault.Depth (place ts))) e ∙ ap (λ (z : ℕ). fault.Depth z) there

module _ (ts : List Token) (at : ℕ) (there : place ts ≡ at) where
  over_both : (starts (codes "*") ts || starts (codes "<") ts) ≡ true → way_over ts ≡ fault.Depth at
  over_both h =
      cond-true (starts (codes "*") ts || starts (codes "<") ts) (fault.Depth (place ts)) (step_over ts) h ∙ ap (λ (z : ℕ). fault.Depth z) there

  pub over_index : starts (codes "*") ts ≡ true → way_over ts ≡ fault.Depth at
  over_index h = over_both (first_true (starts (codes "*") ts) (starts (codes "<") ts) h)

  pub over_branch : starts (codes "*") ts ≡ false → starts (codes "<") ts ≡ true → way_over ts ≡ fault.Depth at
  over_branch h k = over_both (second_true (starts (codes "*") ts) (starts (codes "<") ts) h k)

  pub over_step : starts (codes "*") ts ≡ false → starts (codes "<") ts ≡ false → way_over ts ≡ step_over ts
  over_step h k =
      cond-false (starts (codes "*") ts || starts (codes "<") ts) (fault.Depth (place ts)) (step_over ts)
      (both_false (starts (codes "*") ts) (starts (codes "<") ts) h k)

-- ---- steps before those that are read

abbrev pub before : List Way → Read (List Way) → Read (List Way)
before ways r = and_then r (λ more end. Ok (ways ++ more, end))

pub before_none : (r : Read (List Way)) → r ≡ before [] r
before_none (Ok (more, end)) = refl
before_none (Err why) = refl

before_one : (ways : List Way) (way : Way) (r : Read (List Way)) → before ways (and_then r (λ more end. Ok (way ∷ more, end))) ≡ before (ways ++ way ∷ []) r
before_one ways way (Ok (more, end)) = ap (λ (z : List Way). Ok (z, end)) (sym (append_assoc ways (way ∷ []) more))
before_one ways way (Err why) = refl

pub ways_end : (most : ℕ) (fixed : Option ℕ) (had : Bool) (ways : List Way) (ts : List Token) → starts (codes "/") ts ≡ false
    → before ways (read_ways most fixed had ts) ≡ Ok (ways, ts)
unfolding read_ways
ways_end zero fixed had ways ts h =
    ap (before ways) (cond-false (starts (codes "/") ts) _ _ h) ∙ ap (λ (z : List Way). Ok (z, ts)) (append-nil ways)
ways_end (suc most) fixed had ways ts h =
    ap (before ways) (cond-false (starts (codes "/") ts) _ _ h) ∙ ap (λ (z : List Way). Ok (z, ts)) (append-nil ways)

module _ (fixed : Option ℕ) (had : Bool) (ways : List Way) (ts : List Token) (h : starts (codes "/") ts ≡ true) where
  pub ways_wrong : (most : ℕ) (why : DescriptorFault) → way_read fixed had (drop 1 ts) ≡ Err why → before ways (read_ways (suc most) fixed had ts) ≡ Err why
  ways_wrong most why e =
      ap (before ways) (ways_one most fixed had ts h) ∙ ap (λ (z : Read Way). before ways (and_then z (ways_behind most fixed had))) e

  one_by : (most : ℕ) (way : Way) (rest : List Token) → way_read fixed had (drop 1 ts) ≡ Ok (way, rest)
      → before ways (read_ways (suc most) fixed had ts) ≡ before ways (ways_behind most fixed had way rest)
  one_by most way rest e =
      ap (before ways) (ways_one most fixed had ts h) ∙ ap (λ (z : Read Way). before ways (and_then z (ways_behind most fixed had))) e

  pub ways_index : (most : ℕ) (rest : List Token) → way_read fixed had (drop 1 ts) ≡ Ok (index, rest)
      → before ways (read_ways (suc most) fixed had ts) ≡ Ok (ways ++ index ∷ [], rest)
  ways_index most rest e = one_by most index rest e

  pub ways_number : (most : ℕ) (n : ℕ) (rest : List Token) → way_read fixed had (drop 1 ts) ≡ Ok (number n, rest)
      → before ways (read_ways (suc most) fixed had ts) ≡ before (ways ++ number n ∷ []) (read_ways most fixed had rest)
  ways_number most n rest e = one_by most (number n) rest e ∙ before_one ways (number n) (read_ways most fixed had rest)

  pub ways_branches : (most : ℕ) (ns : List ℕ) (rest : List Token) → way_read fixed had (drop 1 ts) ≡ Ok (branches ns, rest)
      → before ways (read_ways (suc most) fixed had ts) ≡ before (ways ++ branches ns ∷ []) (read_ways most fixed true rest)
  ways_branches most ns rest e = one_by most (branches ns) rest e ∙ before_one ways (branches ns) (read_ways most fixed true rest)

  over_is : (s : Bool) (r : Read Step) (why : DescriptorFault)
      → before ways (cond s (Err why) (and_then r (λ step end. Err why))) ≡ Err (cond s why (fault_of r why))
  over_is true r why = refl
  over_is false (Ok (step, end)) why = refl
  over_is false (Err other) why = refl

  pub ways_over : before ways (read_ways zero fixed had ts) ≡ Err (way_over (drop 1 ts))
  unfolding read_ways
  ways_over =
      let rest = drop 1 ts in
      ap (before ways) (cond-true (starts (codes "/") ts) _ _ h)
      ∙ over_is (starts (codes "*") rest || starts (codes "<") rest) (read_step rest) (fault.Depth (place rest))

-- ---- by places

module _ (text : Bytes) (end next : ℕ) (fixed : Option ℕ) (had : Bool) (ways : List Way) (h : starts (codes "/") (tokens_at text end) ≡ true)
    (there : drop 1 (tokens_at text end) ≡ tokens_at text next) where
  pub ways_beyond : (left : ℕ) → left ≡ zero → before ways (read_ways left fixed had (tokens_at text end)) ≡ Err (way_over (tokens_at text next))
  ways_beyond left none =
      ap (λ (z : ℕ). before ways (read_ways z fixed had (tokens_at text end))) none
      ∙ (ways_over fixed had ways (tokens_at text end) h
      ∙ ap (λ (z : List Token). Err (way_over z)) there)

  module _ (left most : ℕ) (one : left ≡ suc most) where
    less : before ways (read_ways left fixed had (tokens_at text end)) ≡ before ways (read_ways (suc most) fixed had (tokens_at text end))
    less = ap (λ (z : ℕ). before ways (read_ways z fixed had (tokens_at text end))) one

    pub ways_stop : (why : DescriptorFault) → way_read fixed had (tokens_at text next) ≡ Err why
        → before ways (read_ways left fixed had (tokens_at text end)) ≡ Err why
    ways_stop why e = less ∙ ways_wrong fixed had ways (tokens_at text end) h most why (ap (way_read fixed had) there ∙ e)

    pub goes_index : (way : Way) (rest : List Token) → way ≡ index → way_read fixed had (tokens_at text next) ≡ Ok (way, rest)
        → before ways (read_ways left fixed had (tokens_at text end)) ≡ Ok (ways ++ way ∷ [], rest)
    goes_index way rest is e =
        less
        ∙ (ways_index fixed had ways (tokens_at text end) h most rest (ap (way_read fixed had) there ∙ (e ∙ ap (λ (z : Way). Ok (z, rest)) is))
        ∙ ap (λ (z : Way). Ok (ways ++ z ∷ [], rest)) (sym is))

    pub goes_number : (way : Way) (n : ℕ) (rest : List Token) → way ≡ number n → way_read fixed had (tokens_at text next) ≡ Ok (way, rest)
        → before ways (read_ways left fixed had (tokens_at text end)) ≡ before (ways ++ way ∷ []) (read_ways most fixed had rest)
    goes_number way n rest is e =
        less
        ∙ (ways_number fixed had ways (tokens_at text end) h most n rest (ap (way_read fixed had) there ∙ (e ∙ ap (λ (z : Way). Ok (z, rest)) is))
        ∙ ap (λ (z : Way). before (ways ++ z ∷ []) (read_ways most fixed had rest)) (sym is))

    pub goes_branches : (way : Way) (ns : List ℕ) (rest : List Token) → way ≡ branches ns → way_read fixed had (tokens_at text next) ≡ Ok (way, rest)
        → before ways (read_ways left fixed had (tokens_at text end)) ≡ before (ways ++ way ∷ []) (read_ways most fixed true rest)
    goes_branches way ns rest is e =
        less
        ∙ (ways_branches fixed had ways (tokens_at text end) h most ns rest (ap (way_read fixed had) there ∙ (e ∙ ap (λ (z : Way). Ok (z, rest)) is))
        ∙ ap (λ (z : Way). before (ways ++ z ∷ []) (read_ways most fixed true rest)) (sym is))

-- one more step of the code's
pub ways_push : (items : List OwnWay) (way : OwnWay) → map way_at (items ++ way ∷ []) ≡ map way_at items ++ way_at way ∷ []
ways_push [] way = refl
ways_push (first ∷ items) way = ap (λ (z : List Way). way_at first ∷ z) (ways_push items way)
