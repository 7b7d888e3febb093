-- The first node that mixes.
use Rattle.std.specs.Option.{option_or}
use Rattle.std.proofs.Common.{inl, inr, ◌++◌, length, ◌≡◌, ℕ, suc, ◌+◌, Bool, List, [], ◌∷◌, Some, slice_get, refl, IsTrue, arith}
use Rattle.std.specs.List.{position_from}
use Rattle.std.proofs.lemmas.Bool.{cases_Bool}
use Rattle.def_tree.specs.Tree.{Tree}
use Rattle.def_tree.specs.Nodes.{all_nodes}
use Rattle.def_sane.specs.Locks.{Mixes, mixes, mix}
use Rattle.def_sane.specs.Laws.{MixIsFirst}
use Rattle.def_sane.proofs.First.{IsFirst, first_here, first_behind, first_is}

-- in one list after another
pub position_from-append : {X : Type 0} (p : X → Bool) (i : ℕ) (xs ys : List X) → position_from p i (xs ++ ys) ≡ option_or (position_from p i xs) (position_from p (i + length xs) ys)
position_from-append p i [] ys = let e : i + 0 ≡ i = omega arith in rw e
position_from-append p i (x ∷ xs) ys =
    let e : i + 1 + length xs ≡ i + suc (length xs) = omega arith in
    elim (cases_Bool (p x)) [ inl q ↦ rw q | inr q ↦ rw (q, ← e) (position_from-append p (i + 1) xs ys) ]

-- the node at place n of a list mixes
abbrev MixesAt : List Tree → (n : ℕ) → Type 0
MixesAt nodes n = (x : Tree) × (slice_get nodes n ≡ Some x) × IsTrue (mixes x)

first_mix : (start : ℕ) (nodes : List Tree) → IsFirst (MixesAt nodes) start (position_from mixes start nodes)
first_mix start [] = λ n h. let e = h.1 in cc
first_mix start (x ∷ nodes) = elim (cases_Bool (mixes x)) [
  | inl q ↦ rw q (first_here (MixesAt (x ∷ nodes)) start (x, refl, q))
  | inr q ↦ rw q
      (first_behind (MixesAt (x ∷ nodes)) (MixesAt nodes) start _ (λ h. let e = h.1 in let m = h.2 in cc)
      (λ n. (λ h. h, λ h. h)) (first_mix (start + 1) nodes))
]

pub mix_is_first : MixIsFirst
mix_is_first tree = first_is (Mixes tree) (mix tree) (first_mix 0 (all_nodes tree))
