-- How the fragments and wrappers with children go on, over any children that go on.
use Rattle.std.proofs.Common.{◌≡◌, ◌≢◌, ℕ, ◌^◌, ◌<◌, ◌&&◌, ◌||◌, Bool, true, false, not, IsTrue, [], ◌∷◌, ◌++◌, length, Ok, refl, sym, ◌∙◌, ap, subst, inl, inr, arith}
use Rattle.std.proofs.lemmas.Bool.{true≢false, and_parts}
use Rattle.std.specs.Prelude.{pos}
use Rattle.std.proofs.lemmas.List.{nil_from_length}
use Rattle.def_script.specs.Bytes.{Bytes}
use Rattle.def_script.specs.Numbers.{natural_bytes}
use Rattle.def_script.specs.Decode.{is_nonzero}
use Rattle.def_machine.specs.Faults.{OrFault, ◌>>=◌}
use Rattle.def_machine.specs.Stacks.{Stack, Checker, is_empty, bool_bytes}
use Rattle.def_script.specs.Key.{is_key}
use Rattle.def_machine.specs.Effects.{dup, if_dup, swap, size, verify, zero_not_equal, bool_and, bool_or, check_sig}
use Rattle.def_machine.specs.MultiSig.{is_good}
use Rattle.def_types.specs.declared.Base.{Base}
use Rattle.def_types.specs.declared.Base.TheVariants.{W}
use Rattle.def_satisfaction.specs.Rows.{EMPTY, ONE, HasTop}
use Rattle.ms_acceptance_laws.proofs.StackEffects.{Effect, both, plain, silent, choose, aside, left}
use Rattle.ms_acceptance_laws.proofs.TreeEffects.{checks_sig}
use Rattle.ms_row_laws.proofs.RowLogs.{check_log}
use Rattle.ms_acceptance_laws.proofs.StackValues.{Value, bool_and-natural, bool_or-natural, zero_not_equal-natural, verify-natural}
use Rattle.ms_row_laws.proofs.RowTops.{good_is_some}
use Rattle.ms_acceptance_laws.proofs.ForwardBases.{Ends, EndsB, EndsV, EndsK, EndsW, Beside, Short, both_ok, joined, relog, after, instead, choose_one, choose_empty, unit_value, bool_value}
use Rattle.ms_row_laws.proofs.RunLog.{Log, quiet, then_log, quiet_left, quiet_right}

-- with u, what is left is the byte 1 or the empty string
pub unit_ends : (b : Bool) (f : Effect) (w s : Stack) (l : Log) → EndsB true b f w s l → f (w ++ s) ≡ Ok (left (bool_bytes b ∷ s) l)
unit_ends b f w s l h = h.2 ∙ ap (λ v. Ok (left (v ∷ s) l)) (unit_value b h.0 h.1)

-- `and_v`
pub and_v_ends : (checker : Checker) (c : Base) (u b : Bool) (f g : Effect) (w above below rest : Stack) (l m : Log) → (c ≢ W) → w ≡ above ++ below
    → EndsV true f above (below ++ rest) l → Ends checker c u b g below rest m → Ends checker c u b (both f g) w rest (then_log l m)
and_v_ends checker c u b f g w above below rest l m n e x y = after checker c u b f g g w above below rest (below ++ rest) l m n e x.1 refl y

-- `andor`: behind a satisfied X, and behind a dissatisfied one
pub and_or_true : (checker : Checker) (c : Base) (u b : Bool) (f g h : Effect) (w above below rest : Stack) (l m : Log) → (c ≢ W) → w ≡ above ++ below
    → EndsB true true f above (below ++ rest) l → Ends checker c u b g below rest m → Ends checker c u b (both f (choose g h)) w rest (then_log l m)
and_or_true checker c u b f g h w above below rest l m n e x y =
    after checker c u b f (choose g h) g w above below rest (ONE ∷ (below ++ rest)) l m n e (unit_ends true f above (below ++ rest) l x) (choose_one g h (below ++ rest)) y

pub and_or_false : (checker : Checker) (c : Base) (u b : Bool) (f g h : Effect) (w above below rest : Stack) (l m : Log) → (c ≢ W) → w ≡ above ++ below
    → EndsB true false f above (below ++ rest) l → Ends checker c u b h below rest m → Ends checker c u b (both f (choose g h)) w rest (then_log l m)
and_or_false checker c u b f g h w above below rest l m n e x z =
    after checker c u b f (choose g h) h w above below rest (EMPTY ∷ (below ++ rest)) l m n e (unit_ends false f above (below ++ rest) l x) (choose_empty g h (below ++ rest)) z

-- `or_c` with X satisfied
pub or_c_true : (f h : Effect) (w rest : Stack) (l : Log) → EndsB true true f w rest l → EndsV true (both f (choose silent h)) w rest l
or_c_true f h w rest l x = (
  refl,
  relog _ rest (then_log l quiet) l (quiet_right l)
      (both_ok f (choose silent h) (w ++ rest) (ONE ∷ rest) rest l quiet (unit_ends true f w rest l x) (choose_one silent h rest)),
)

-- `or_d`
if_dup_one : (h : Effect) (s : Stack) → both (plain if_dup) (choose silent h) (ONE ∷ s) ≡ Ok (left (ONE ∷ s) quiet)
unfolding if_dup
if_dup_one h s = ap (λ r. r >>= λ next. Ok (left next.main (then_log quiet next.log))) (choose_one silent h (ONE ∷ s))

pub or_d_true : (u : Bool) (f h : Effect) (w rest : Stack) (l : Log) → EndsB true true f w rest l → EndsB u true (both f (both (plain if_dup) (choose silent h))) w rest l
or_d_true u f h w rest l x = (
  ONE,
  bool_value u true,
  relog _ (ONE ∷ rest) (then_log l quiet) l (quiet_right l)
      (both_ok f (both (plain if_dup) (choose silent h)) (w ++ rest) (ONE ∷ rest) (ONE ∷ rest) l quiet (unit_ends true f w rest l x) (if_dup_one h rest)),
)

if_dup_empty : (h : Effect) (s end : Stack) (m : Log) → h s ≡ Ok (left end m) → both (plain if_dup) (choose silent h) (EMPTY ∷ s) ≡ Ok (left end m)
unfolding if_dup
if_dup_empty h s end m e =
    relog _ end (then_log quiet m) m (quiet_left m)
    (ap (λ r. r >>= λ next. Ok (left next.main (then_log quiet next.log))) (choose_empty silent h s ∙ e))

pub or_d_false : (u b : Bool) (f h : Effect) (w above below rest : Stack) (l m : Log) → w ≡ above ++ below → EndsB true false f above (below ++ rest) l
    → EndsB u b h below rest m → EndsB u b (both f (both (plain if_dup) (choose silent h))) w rest (then_log l m)
or_d_false u b f h w above below rest l m e x z = (
  z.0,
  z.1,
  joined f (both (plain if_dup) (choose silent h)) w above below rest (EMPTY ∷ (below ++ rest)) (z.0 ∷ rest) l m e
      (unit_ends false f above (below ++ rest) l x) (if_dup_empty h (below ++ rest) (z.0 ∷ rest) m z.2),
)

-- `or_i`
pub or_i_true : (checker : Checker) (c : Base) (u b : Bool) (f g : Effect) (w above below rest : Stack) (l : Log) → (c ≢ W) → above ≡ ONE ∷ [] → w ≡ above ++ below
    → Ends checker c u b f below rest l → Ends checker c u b (choose f g) w rest l
or_i_true checker c u b f g w above below rest l n i e x =
    instead checker c u b (choose f g) f w below rest l n (ap (λ v. choose f g (v ++ rest)) (e ∙ ap (λ v. v ++ below) i) ∙ choose_one f g (below ++ rest)) x

pub or_i_false : (checker : Checker) (c : Base) (u b : Bool) (f g : Effect) (w above below rest : Stack) (l : Log) → (c ≢ W) → above ≡ EMPTY ∷ [] → w ≡ above
    ++ below → Ends checker c u b g below rest l → Ends checker c u b (choose f g) w rest l
or_i_false checker c u b f g w above below rest l n i e z =
    instead checker c u b (choose f g) g w below rest l n (ap (λ v. choose f g (v ++ rest)) (e ∙ ap (λ v. v ++ below) i) ∙ choose_empty f g (below ++ rest)) z

-- an opcode that takes two truth values, in one order or the other
pub record Takes2 (op : Stack → OrFault Stack) (with_op : Bool → Bool → Bool) : Type 0 where
  pub run : (a b : ℕ) (s : Stack) → a < 2 ^ 31 → b < 2 ^ 31 → op (natural_bytes b ∷ natural_bytes a ∷ s) ≡ Ok (bool_bytes (with_op (is_nonzero (pos a)) (is_nonzero (pos b))) ∷ s)
  pub turned : (a b : Bool) → with_op a b ≡ with_op b a

in_order : (op : Stack → OrFault Stack) (with_op : Bool → Bool → Bool) → Takes2 op with_op → (t u a b : Bool) (x y : Bytes) (s : Stack) → Value t a x
    → Value u b y → op (y ∷ x ∷ s) ≡ Ok (bool_bytes (with_op a b) ∷ s)
in_order op with_op takes t u a b x y s p q =
    ap (λ v. op (y ∷ v ∷ s)) p.is ∙ ap (λ v. op (v ∷ natural_bytes p.number ∷ s)) q.is ∙ takes.run p.number q.number s p.small q.small
    ∙ ap (λ c. Ok (bool_bytes (with_op c (is_nonzero (pos q.number))) ∷ s)) p.truth ∙ ap (λ c. Ok (bool_bytes (with_op a c) ∷ s)) q.truth

pub two_values : (op : Stack → OrFault Stack) (with_op : Bool → Bool → Bool) → Takes2 op with_op → (t u a b : Bool) (x v : Bytes) (s r : Stack) → Value t a x
    → Value u b v → Beside x v s r → op r ≡ Ok (bool_bytes (with_op a b) ∷ s)
two_values op with_op takes t u a b x v s r p q (inl e) =
    ap op e ∙ in_order op with_op takes u t b a v x s q p ∙ ap (λ c. Ok (bool_bytes c ∷ s)) (takes.turned b a)
two_values op with_op takes t u a b x v s r p q (inr e) =
    ap op e ∙ in_order op with_op takes t u a b x v s p q

two_ends : (op : Stack → OrFault Stack) (with_op : Bool → Bool → Bool) → Takes2 op with_op
    → (t u v a b : Bool) (f g : Effect) (w above below rest : Stack) (l m : Log) → w ≡ above ++ below → EndsB t a f above (below ++ rest) l
    → EndsW u b g below rest m → EndsB v (with_op a b) (both f (both g (plain op))) w rest (then_log l m)
two_ends op with_op takes t u v a b f g w above below rest l m e x y =
    let z = y x.0 in
    let done = two_values op with_op takes t u a b x.0 z.0 rest z.1 x.1 z.2 z.3 in
    let second = relog _ (bool_bytes (with_op a b) ∷ rest) (then_log m quiet) m (quiet_right m)
    (both_ok g (plain op) (x.0 ∷ (below ++ rest)) z.1 (bool_bytes (with_op a b) ∷ rest) m quiet z.4 (ap (λ r. r >>= silent) done)) in (
      bool_bytes (with_op a b),
      bool_value v (with_op a b),
      joined f (both g (plain op)) w above below rest (x.0 ∷ (below ++ rest)) (bool_bytes (with_op a b) ∷ rest) l m e x.2 second,
    )

pub and_turned : (a b : Bool) → (a && b) ≡ (b && a)
and_turned true true = refl
and_turned true false = refl
and_turned false true = refl
and_turned false false = refl

pub or_turned : (a b : Bool) → (a || b) ≡ (b || a)
or_turned true true = refl
or_turned true false = refl
or_turned false true = refl
or_turned false false = refl

pub and_b_ends : (t u v a b : Bool) (f g : Effect) (w above below rest : Stack) (l m : Log) → w ≡ above ++ below → EndsB t a f above (below ++ rest) l
    → EndsW u b g below rest m → EndsB v (a && b) (both f (both g (plain bool_and))) w rest (then_log l m)
and_b_ends = two_ends bool_and (λ a b. a && b) (record { run = bool_and-natural; turned = and_turned })

pub or_b_ends : (t u v a b : Bool) (f g : Effect) (w above below rest : Stack) (l m : Log) → w ≡ above ++ below → EndsB t a f above (below ++ rest) l
    → EndsW u b g below rest m → EndsB v (a || b) (both f (both g (plain bool_or))) w rest (then_log l m)
or_b_ends = two_ends bool_or (λ a b. a || b) (record { run = bool_or-natural; turned = or_turned })

-- the wrappers
pub wrap_a_ends : (u b : Bool) (f : Effect) (w rest : Stack) (l : Log) → EndsB u b f w rest l → EndsW u b (aside f) w rest l
wrap_a_ends u b f w rest l h x = (h.0, x ∷ h.0 ∷ rest, h.1, inl refl, rw h.2 refl)

pub swapped : (x y : Bytes) (s : Stack) → swap (x ∷ y ∷ s) ≡ Ok (y ∷ x ∷ s)
unfolding swap
swapped x y s = refl

pub wrap_s_ends : (u b : Bool) (f : Effect) (w rest : Stack) (l : Log) → (item : Bytes) → w ≡ item ∷ [] → ((s : Stack) → EndsB u b f w s l) → EndsW u b (both (plain swap) f) w rest l
wrap_s_ends u b f w rest l item e h x =
    let i = h (x ∷ rest) in
    let start : plain swap (x ∷ (w ++ rest)) ≡ Ok (left (w ++ (x ∷ rest)) quiet) =
    ap (λ v. plain swap (x ∷ (v ++ rest))) e ∙ ap (λ r. r >>= silent) (swapped x item rest) ∙ ap (λ v. Ok (left (v ++ (x ∷ rest)) quiet)) (sym e) in (
      i.0,
      i.0 ∷ x ∷ rest,
      i.1,
      inr refl,
      relog _ (i.0 ∷ x ∷ rest) (then_log quiet l) l (quiet_left l)
          (both_ok (plain swap) f (x ∷ (w ++ rest)) (w ++ (x ∷ rest)) (i.0 ∷ x ∷ rest) quiet l start i.2),
    )

-- CHECKSIG
pub good_check : (checker : Checker) (key sig : Bytes) (s : Stack) → IsTrue (is_key key) → IsTrue (is_good checker key sig) → checks_sig checker (key ∷ sig ∷ s)
    ≡ Ok (left (bool_bytes true ∷ s) (check_log key sig))
unfolding check_sig
good_check checker key sig s form good =
    rw (form, good_is_some checker key sig good, (and_parts (not (is_empty sig)) (checker key sig) good).1) refl

pub empty_check : (checker : Checker) (key : Bytes) (s : Stack) → IsTrue (is_key key) → checks_sig checker (key ∷ [] ∷ s) ≡ Ok (left (bool_bytes false ∷ s) quiet)
unfolding check_sig
empty_check checker key s form = rw form refl

pub wrap_c_ends : (checker : Checker) (b : Bool) (f : Effect) (w rest : Stack) (l : Log) → EndsK checker b f w rest l → EndsB true b (both f (checks_sig checker)) w rest l
wrap_c_ends checker true f w rest l h = (
  ONE,
  bool_value true true,
  relog _ (ONE ∷ rest) (then_log h.2 (check_log h.0 h.1)) l (sym h.5.1)
      (both_ok f (checks_sig checker) (w ++ rest) (h.0 ∷ h.1 ∷ rest) (ONE ∷ rest) h.2 (check_log h.0 h.1) h.4 (good_check checker h.0 h.1 rest h.3 h.5.0)),
)
wrap_c_ends checker false f w rest l h = (
  EMPTY,
  bool_value true false,
  relog _ (EMPTY ∷ rest) (then_log h.2 quiet) l (quiet_right h.2 ∙ sym h.5.1)
      (both_ok f (checks_sig checker) (w ++ rest) (h.0 ∷ h.1 ∷ rest) (EMPTY ∷ rest) h.2 quiet h.4
      (ap (λ sig. checks_sig checker (h.0 ∷ sig ∷ rest)) h.5.0 ∙ empty_check checker h.0 rest h.3)),
)

-- DUP IF [X] ENDIF, where X takes nothing
dup_one : (f : Effect) (s end : Stack) (l : Log) → f (ONE ∷ s) ≡ Ok (left end l) → both (plain dup) (choose f silent) (ONE ∷ s) ≡ Ok (left end l)
unfolding dup
dup_one f s end l e =
    relog _ end (then_log quiet l) l (quiet_left l)
    (ap (λ r. r >>= λ next. Ok (left next.main (then_log quiet next.log))) (choose_one f silent (ONE ∷ s) ∙ e))

dup_empty : (f : Effect) (s : Stack) → both (plain dup) (choose f silent) (EMPTY ∷ s) ≡ Ok (left (EMPTY ∷ s) quiet)
unfolding dup
dup_empty f s = ap (λ r. r >>= λ next. Ok (left next.main (then_log quiet next.log))) (choose_empty f silent (EMPTY ∷ s))

pub wrap_d_sat_ends : (f : Effect) (w above below rest : Stack) (l : Log) → above ≡ ONE ∷ [] → length below ≡ 0 → w ≡ above ++ below
    → EndsV true f below (ONE ∷ rest) l → EndsB false true (both (plain dup) (choose f silent)) w rest l
wrap_d_sat_ends f w above below rest l i none e x =
    let gone = nil_from_length below none in
    let at : w ≡ ONE ∷ [] = e ∙ ap (λ v. v ++ below) i ∙ ap (λ v. ONE ∷ v) gone in
    let inner : f (ONE ∷ rest) ≡ Ok (left (ONE ∷ rest) l) = ap (λ v. f (v ++ (ONE ∷ rest))) (sym gone) ∙ x.1 in
    (ONE, bool_value false true, ap (λ v. both (plain dup) (choose f silent) (v ++ rest)) at ∙ dup_one f rest (ONE ∷ rest) l inner)

pub wrap_d_dsat_ends : (f : Effect) (w rest : Stack) → w ≡ EMPTY ∷ [] → EndsB false false (both (plain dup) (choose f silent)) w rest quiet
wrap_d_dsat_ends f w rest e = (EMPTY, bool_value false false, ap (λ v. both (plain dup) (choose f silent) (v ++ rest)) e ∙ dup_empty f rest)

-- VERIFY
verified_value : (u : Bool) (v : Bytes) (s : Stack) → Value u true v → verify (v ∷ s) ≡ Ok s
verified_value u v s value = ap (λ v. verify (v ∷ s)) value.is ∙ verify-natural value.number s value.small value.truth

pub wrap_v_ends : (u : Bool) (f : Effect) (w rest : Stack) (l : Log) → EndsB u true f w rest l → EndsV true (both f (plain verify)) w rest l
wrap_v_ends u f w rest l h = (
  refl,
  relog _ rest (then_log l quiet) l (quiet_right l)
      (both_ok f (plain verify) (w ++ rest) (h.0 ∷ rest) rest l quiet h.2 (ap (λ r. r >>= silent) (verified_value u h.0 rest h.1))),
)

-- 0NOTEQUAL
pub nonzero_value : (u b : Bool) (v : Bytes) (s : Stack) → Value u b v → zero_not_equal (v ∷ s) ≡ Ok (bool_bytes b ∷ s)
nonzero_value u b v s value =
    ap (λ v. zero_not_equal (v ∷ s)) value.is ∙ zero_not_equal-natural value.number s value.small ∙ ap (λ c. Ok (bool_bytes c ∷ s)) value.truth

pub wrap_n_ends : (u b : Bool) (f : Effect) (w rest : Stack) (l : Log) → EndsB u b f w rest l → EndsB true b (both f (plain zero_not_equal)) w rest l
wrap_n_ends u b f w rest l h = (
  bool_bytes b,
  bool_value true b,
  relog _ (bool_bytes b ∷ rest) (then_log l quiet) l (quiet_right l)
      (both_ok f (plain zero_not_equal) (w ++ rest) (h.0 ∷ rest) (bool_bytes b ∷ rest) l quiet h.2 (ap (λ r. r >>= silent) (nonzero_value u b h.0 rest h.1))),
)

-- SIZE 0NOTEQUAL IF [X] ENDIF
pub sized : (x : Bytes) (s : Stack) → size (x ∷ s) ≡ Ok (natural_bytes (length x) ∷ x ∷ s)
unfolding size
sized x s = refl

pub some_length : (x : Bytes) → is_empty x ≡ false → is_nonzero (pos (length x)) ≡ true
some_length [] e = absurd (true≢false e)
some_length (b ∷ x) e = refl

abbrev pub measured : Effect → Effect
measured f = both (plain size) (both (plain zero_not_equal) (choose f silent))

measured_some : (f : Effect) (x : Bytes) (s end : Stack) (l : Log) → length x < 2 ^ 31 → is_empty x ≡ false → f (x ∷ s) ≡ Ok (left end l) → measured f (x ∷ s) ≡ Ok (left end l)
measured_some f x s end l short some e =
    let tested : zero_not_equal (natural_bytes (length x) ∷ x ∷ s) ≡ Ok (ONE ∷ x ∷ s) =
    zero_not_equal-natural (length x) (x ∷ s) short ∙ ap (λ c. Ok (bool_bytes c ∷ x ∷ s)) (some_length x some) in
    let inner : both (plain zero_not_equal) (choose f silent) (natural_bytes (length x) ∷ x ∷ s) ≡ Ok (left end (then_log quiet l)) =
    both_ok (plain zero_not_equal) (choose f silent) (natural_bytes (length x) ∷ x ∷ s) (ONE ∷ x ∷ s) end quiet l (ap (λ r. r >>= silent) tested) (choose_one f silent (x ∷ s) ∙ e) in
    relog _ end (then_log quiet (then_log quiet l)) l (quiet_left (then_log quiet l) ∙ quiet_left l)
    (both_ok (plain size) (both (plain zero_not_equal) (choose f silent)) (x ∷ s) (natural_bytes (length x) ∷ x ∷ s) end quiet (then_log quiet l) (ap (λ r. r >>= silent) (sized x s)) inner)

measured_empty : (f : Effect) (s : Stack) → measured f (EMPTY ∷ s) ≡ Ok (left (EMPTY ∷ s) quiet)
measured_empty f s =
    let inner : both (plain zero_not_equal) (choose f silent) (EMPTY ∷ EMPTY ∷ s) ≡ Ok (left (EMPTY ∷ s) quiet) =
    both_ok (plain zero_not_equal) (choose f silent) (EMPTY ∷ EMPTY ∷ s) (EMPTY ∷ EMPTY ∷ s) (EMPTY ∷ s) quiet quiet
    (ap (λ r. r >>= silent) (zero_not_equal-natural 0 (EMPTY ∷ s) (omega arith))) (choose_empty f silent (EMPTY ∷ s)) in
    both_ok (plain size) (both (plain zero_not_equal) (choose f silent)) (EMPTY ∷ s) (EMPTY ∷ EMPTY ∷ s) (EMPTY ∷ s) quiet quiet (ap (λ r. r >>= silent) (sized EMPTY s)) inner

pub wrap_j_some_ends : (u b : Bool) (f : Effect) (w rest : Stack) (l : Log) → HasTop w → Short w → EndsB u b f w rest l → EndsB u b (measured f) w rest l
wrap_j_some_ends u b f w rest l top short h =
    let s : Short (top.0 ∷ top.1) = subst Short top.2 short in
    let e : w ++ rest ≡ top.0 ∷ (top.1 ++ rest) = ap (λ v. v ++ rest) top.2 in
    (h.0, h.1, ap (measured f) e ∙ measured_some f top.0 (top.1 ++ rest) (h.0 ∷ rest) l s.0 top.3 (ap f (sym e) ∙ h.2))

pub wrap_j_empty_ends : (u : Bool) (f : Effect) (w rest : Stack) → w ≡ EMPTY ∷ [] → EndsB u false (measured f) w rest quiet
wrap_j_empty_ends u f w rest e = (EMPTY, bool_value u false, ap (λ v. measured f (v ++ rest)) e ∙ measured_empty f rest)
