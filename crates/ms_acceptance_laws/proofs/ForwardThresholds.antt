-- How a threshold counts its satisfied children.
use Rattle.std.proofs.Common.{◌≡◌, ℕ, ◌+◌, ◌^◌, ◌<◌, ◌≤◌, Bool, true, false, ◌∷◌, ◌++◌, Ok, refl, sym, ◌∙◌, ap, inl, inr, arith}
use Rattle.std.proofs.lemmas.Bool.{cases_Bool}
use Rattle.std.specs.Str.{bytes_eq}
use Rattle.std.proofs.lemmas.Slice.Eq.{bytes_eq-Decides}
use Rattle.def_script.specs.Bytes.{Bytes}
use Rattle.def_script.specs.Numbers.{natural_bytes}
use Rattle.def_script.specs.Decode.{num_decode}
use Rattle.def_script.specs.Limits.{MAX_NUMBER_SIZE}
use Rattle.def_machine.specs.Faults.{◌>>=◌}
use Rattle.def_machine.specs.Stacks.{Stack, bool_bytes}
use Rattle.def_machine.specs.Effects.{add, equal}
use Rattle.ms_acceptance_laws.proofs.StackEffects.{Effect, both, plain, silent, pushes, left}
use Rattle.ms_acceptance_laws.proofs.StackValues.{Value, one_if, bool_bytes-natural, add-natural, decode_4, equal-bytes}
use Rattle.ms_acceptance_laws.proofs.ForwardBases.{EndsB, EndsW, Beside, both_ok, split, relog, unit_value, bool_value}
use Rattle.ms_acceptance_laws.proofs.ForwardFragments.{unit_ends}
use Rattle.ms_row_laws.proofs.RunLog.{Log, quiet, then_log, quiet_left, quiet_right}

pub one_if-low : (b : Bool) → one_if b ≤ 1
one_if-low true = omega arith
one_if-low false = omega arith

-- ADD, of the sum so far and a child's value
pub added : (a : ℕ) (b : Bool) (v : Bytes) (s r : Stack) → a + 1 < 2 ^ 31 → Value true b v → Beside (natural_bytes a) v s r → add r ≡ Ok (natural_bytes (a + one_if b) ∷ s)
added a b v s r low value (inl e) =
    let small = one_if-low b in
    let is = unit_value b v value ∙ bool_bytes-natural b in
    ap add (e ∙ ap (λ x. natural_bytes a ∷ x ∷ s) is) ∙ add-natural (one_if b) a s (omega arith) (omega arith)
    ∙ ap (λ n. Ok (natural_bytes n ∷ s)) (let turned : one_if b + a ≡ a + one_if b = omega arith in turned)
added a b v s r low value (inr e) =
    let small = one_if-low b in
    let is = unit_value b v value ∙ bool_bytes-natural b in
    ap add (e ∙ ap (λ x. x ∷ natural_bytes a ∷ s) is) ∙ add-natural a (one_if b) s (omega arith) (omega arith)

-- a further child, and those behind it
pub added_ends : (a n : ℕ) (b : Bool) (f g : Effect) (w above below rest : Stack) (l m : Log) → a + 1 < 2 ^ 31 → w ≡ above ++ below
    → EndsW true b f above (below ++ rest) l → g (natural_bytes (a + one_if b) ∷ (below ++ rest)) ≡ Ok (left (natural_bytes n ∷ rest) m)
    → both f (both (plain add) g) (natural_bytes a ∷ (w ++ rest)) ≡ Ok (left (natural_bytes n ∷ rest) (then_log l m))
added_ends a n b f g w above below rest l m low e x behind =
    let y = x (natural_bytes a) in
    let sum = added a b y.0 (below ++ rest) y.1 low y.2 y.3 in
    let second = relog _ (natural_bytes n ∷ rest) (then_log quiet m) m (quiet_left m)
    (both_ok (plain add) g y.1 (natural_bytes (a + one_if b) ∷ (below ++ rest)) (natural_bytes n ∷ rest) quiet m (ap (λ r. r >>= silent) sum) behind) in
    both_ok f (both (plain add) g) (natural_bytes a ∷ (w ++ rest)) y.1 (natural_bytes n ∷ rest) l m
    (ap (λ v. f (natural_bytes a ∷ v)) (split w above below rest e) ∙ y.4) second

-- the first child, and those behind it
pub first_ends : (n : ℕ) (b : Bool) (f g : Effect) (w above below rest : Stack) (l m : Log) → w ≡ above ++ below → EndsB true b f above (below ++ rest) l
    → g (natural_bytes (one_if b) ∷ (below ++ rest)) ≡ Ok (left (natural_bytes n ∷ rest) m) → both f g (w ++ rest)
    ≡ Ok (left (natural_bytes n ∷ rest) (then_log l m))
first_ends n b f g w above below rest l m e x behind =
    both_ok f g (w ++ rest) (natural_bytes (one_if b) ∷ (below ++ rest)) (natural_bytes n ∷ rest) l m
    (ap f (split w above below rest e) ∙ unit_ends b f above (below ++ rest) l x ∙ ap (λ v. Ok (left (v ∷ (below ++ rest)) l)) (bool_bytes-natural b)) behind

-- numbers differ where their spellings do
pub same_number : (n k : ℕ) → n < 2 ^ 31 → k < 2 ^ 31 → natural_bytes n ≡ natural_bytes k → n ≡ k
same_number n k low small e = let i = sym (decode_4 n low) ∙ ap (num_decode MAX_NUMBER_SIZE) e ∙ decode_4 k small in cc

-- the sum, and whether it is k
pub counted_ends : (n k : ℕ) (b : Bool) (f : Effect) (w rest : Stack) (l : Log) → bytes_eq (natural_bytes n) (natural_bytes k) ≡ b → f (w ++ rest)
    ≡ Ok (left (natural_bytes n ∷ rest) l) → EndsB true b (both f (both (pushes (natural_bytes k)) (plain equal))) w rest l
counted_ends n k b f w rest l is e =
    let last : both (pushes (natural_bytes k)) (plain equal) (natural_bytes n ∷ rest) ≡ Ok (left (bool_bytes b ∷ rest) quiet) =
    both_ok (pushes (natural_bytes k)) (plain equal) (natural_bytes n ∷ rest) (natural_bytes k ∷ natural_bytes n ∷ rest) (bool_bytes b ∷ rest) quiet quiet refl
    (ap (λ r. r >>= silent) (equal-bytes (natural_bytes n) (natural_bytes k) rest ∙ ap (λ c. Ok (bool_bytes c ∷ rest)) is)) in (
      bool_bytes b,
      bool_value true b,
      relog _ (bool_bytes b ∷ rest) (then_log l quiet) l (quiet_right l)
          (both_ok f (both (pushes (natural_bytes k)) (plain equal)) (w ++ rest) (natural_bytes n ∷ rest) (bool_bytes b ∷ rest) l quiet e last),
    )

pub is_count : (n k : ℕ) → n ≡ k → bytes_eq (natural_bytes n) (natural_bytes k) ≡ true
is_count n k e = (bytes_eq-Decides (natural_bytes n) (natural_bytes k)).1 (ap natural_bytes e)

pub is_no_count : (n k : ℕ) → n < 2 ^ 31 → k < 2 ^ 31 → (n ≡ k → ⊥) → bytes_eq (natural_bytes n) (natural_bytes k) ≡ false
is_no_count n k low small h =
    elim (cases_Bool (bytes_eq (natural_bytes n) (natural_bytes k))) [
      | inl e ↦ absurd (h (same_number n k low small ((bytes_eq-Decides (natural_bytes n) (natural_bytes k)).0 e)))
      | inr e ↦ e
    ]
