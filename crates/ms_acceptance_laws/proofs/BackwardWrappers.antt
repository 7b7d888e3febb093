-- What the main stack was where a wrapper went on, over any child of which that is known.
use Rattle.std.proofs.Common.{◌≡◌, ℕ, zero, suc, ◌+◌, ◌*◌, ◌/◌, ◌^◌, ◌<◌, ◌≤◌, nat_lt, Bool, true, false, IsTrue, [], ◌∷◌, ◌++◌, length, Ok, refl, sym, ◌∙◌, ap, subst, ◌⊎◌, inl, inr, arith}
use Rattle.std.specs.Prelude.{pos}
use Rattle.std.proofs.lemmas.Bool.{cases_Bool, cases_lt, ltb-false, le-ltb}
use Rattle.std.proofs.lemmas.List.{nil_from_length}
use Rattle.def_script.specs.Bytes.{Bytes}
use Rattle.def_script.specs.Numbers.{natural_bytes, signed_bytes}
use Rattle.def_script.specs.Decode.{is_nonzero, truth}
use Rattle.def_machine.specs.Stacks.{Stack, Checker, is_empty, bool_bytes}
use Rattle.def_script.specs.Key.{is_key}
use Rattle.def_machine.specs.Effects.{dup, swap, size, verify, zero_not_equal, one_number, operand, check_sig}
use Rattle.def_machine.specs.MultiSig.{is_good}
use Rattle.def_satisfaction.specs.Rows.{EMPTY, ONE, HasTop}
use Rattle.def_satisfaction.proofs.EqualParts.{first_same, rest_same}
use Rattle.ms_acceptance_laws.proofs.StackEffects.{Effect, both, plain, silent, choose, aside, put_back, left}
use Rattle.ms_acceptance_laws.proofs.TreeEffects.{checks_sig}
use Rattle.ms_row_laws.proofs.RowLogs.{check_log}
use Rattle.ms_acceptance_laws.proofs.StackValues.{Value, truth-natural, zero_not_equal-natural}
use Rattle.ms_acceptance_laws.proofs.ForwardBases.{choose_one, choose_empty, bool_value}
use Rattle.ms_acceptance_laws.proofs.ForwardFragments.{sized, nonzero_value, measured}
use Rattle.ms_acceptance_laws.proofs.BackwardBases.{Logged, Took, BackB, BackV, BackK, BackW, between, plainly, silently, branched}
use Rattle.ms_acceptance_laws.proofs.BackwardLeaves.{quietly}
use Rattle.ms_row_laws.proofs.RowLengths.{one_item}
use Rattle.ms_row_laws.proofs.RunLog.{Log, quiet, then_log, quiet_left, quiet_right}
use Rattle.ms_row_laws.proofs.Outcomes.{same_ok, no_fault, bind_split}

-- `a`
pub wrap_a_back : (u : Bool) (f : Effect) (R : Logged) → ((m end : Stack) (l : Log) → f m ≡ Ok (left end l) → BackB u R m end l) → (m end : Stack) (l : Log)
    → aside f m ≡ Ok (left end l) → BackW u R m end l
wrap_a_back u f R h [] end l e = absurd (no_fault _ (left end l) e)
wrap_a_back u f R h (x ∷ m) end l e =
    let next = bind_split (f m) _ (left end l) e in
    let same = same_ok (put_back x next.0) (left end l) next.2 in
    let r = h m next.0.main next.0.log next.1 in (
      r.0,
      x,
      r.1,
      r.2,
      r.3,
      ap (λ v. x ∷ v) r.4,
      inl (sym (ap (λ z. z.main) same) ∙ ap (λ v. x ∷ v) r.5),
      r.6,
      subst (Took R r.0 r.1) (ap (λ z. z.log) same) r.7,
    )

-- `s`
pub wrap_s_back : (u : Bool) (f : Effect) (R : Logged) → ((b : Bool) (w : Stack) (l : Log) → Took R b w l → length w ≡ 1)
    → ((m end : Stack) (l : Log) → f m ≡ Ok (left end l) → BackB u R m end l) → (m end : Stack) (l : Log) → both (plain swap) f m ≡ Ok (left end l)
    → BackW u R m end l
unfolding swap
wrap_s_back u f R one h [] end l e = absurd (no_fault _ (left end l) e)
wrap_s_back u f R one h (x ∷ []) end l e = absurd (no_fault _ (left end l) e)
wrap_s_back u f R one h (x ∷ y ∷ m) end l e =
    let r = h (y ∷ x ∷ m) end l (quietly swap f (x ∷ y ∷ m) (y ∷ x ∷ m) end l refl e) in
    let item = one_item r.1 (one r.0 r.1 l r.7) in
    let at : y ∷ x ∷ m ≡ item.0 ∷ r.2 = r.4 ∙ ap (λ v. v ++ r.2) item.1 in
    let below = rest_same y item.0 (x ∷ m) r.2 at in (
      r.0,
      x,
      r.1,
      m,
      r.3,
      ap (λ v. x ∷ v) (ap (λ c. c ∷ m) (first_same y item.0 (x ∷ m) r.2 at) ∙ ap (λ v. v ++ m) (sym item.1)),
      inr (r.5 ∙ ap (λ v. r.3 ∷ v) (sym below)),
      r.6,
      r.7,
    )

-- `c`
check_back : (checker : Checker) (key : Bytes) (below end : Stack) (l : Log) → checks_sig checker (key ∷ below) ≡ Ok (left end l) → (sig : Bytes) × (s : Stack)
    × (below ≡ sig ∷ s) × IsTrue (is_key key) × (((sig ≡ []) × (end ≡ EMPTY ∷ s) × (l ≡ quiet))
    ⊎ (IsTrue (is_good checker key sig) × (end ≡ ONE ∷ s) × (l ≡ check_log key sig)))
unfolding check_sig
check_back checker key [] end l e = absurd (no_fault _ (left end l) e)
check_back checker key (sig ∷ s) end l e =
    elim (cases_Bool (is_key key)) [
      | inl form ↦ (sig, s, refl, form, go sig form e)
      | inr formless ↦ absurd (no_fault _ (left end l) (rw formless at e))
    ]
  where
    go : (sig : Bytes) → is_key key ≡ true → checks_sig checker (key ∷ sig ∷ s) ≡ Ok (left end l) → ((sig ≡ []) × (end ≡ EMPTY ∷ s) × (l ≡ quiet))
        ⊎ (IsTrue (is_good checker key sig) × (end ≡ ONE ∷ s) × (l ≡ check_log key sig))
    go [] form e =
        let p = same_ok (left (EMPTY ∷ s) quiet) (left end l) (rw form at e) in
        inl (refl, sym (ap (λ z. z.main) p), sym (ap (λ z. z.log) p))
    go (b ∷ sig) form e =
        elim (cases_Bool (checker key (b ∷ sig))) [
          | inl held ↦
              let p = same_ok (left (ONE ∷ s) (check_log key (b ∷ sig))) (left end l) (rw (form, held) at e) in
              inr (held, sym (ap (λ z. z.main) p), sym (ap (λ z. z.log) p))
          | inr unheld ↦ absurd (no_fault _ (left end l) (rw (form, unheld) at e))
        ]

pub wrap_c_back : (checker : Checker) (f : Effect) (R : Logged) → ((m end : Stack) (l : Log) → f m ≡ Ok (left end l) → BackK checker R m end l)
    → (m end : Stack) (l : Log) → both f (checks_sig checker) m ≡ Ok (left end l) → BackB true R m end l
wrap_c_back checker f R h m end l e =
    let p = between f (checks_sig checker) m end l e in
    let i = h m p.mid p.first p.before in
    let c = check_back checker i.0 i.1 end p.second (ap (checks_sig checker) (sym i.2) ∙ p.after) in
    let t = i.3 c.0 c.1 c.2 c.3 in
    elim c.4 [
      | inl none ↦ (
        false,
        t.0,
        c.1,
        EMPTY,
        t.1,
        none.1,
        bool_value true false,
        subst (R.dsat t.0) (sym (p.log ∙ ap (then_log p.first) none.2 ∙ quiet_right p.first)) (t.3 none.0),
      )
      | inr good ↦ (
        true,
        t.0,
        c.1,
        ONE,
        t.1,
        good.1,
        bool_value true true,
        subst (R.sat t.0) (sym (p.log ∙ ap (then_log p.first) good.2)) (t.2 good.0),
      )
    ]

-- `d`, whose child takes nothing
pub wrap_d_back : (f : Effect) (X R : Logged) → ((w : Stack) (l : Log) → X.sat w l → length w ≡ 0) → ((l : Log) → X.sat [] l → R.sat (ONE ∷ []) l)
    → R.dsat (EMPTY ∷ []) quiet → ((m end : Stack) (l : Log) → f m ≡ Ok (left end l) → BackV X m end l) → (m end : Stack) (l : Log)
    → both (plain dup) (choose f silent) m ≡ Ok (left end l) → BackB false R m end l
unfolding dup
wrap_d_back f X R none rows other h [] end l e = absurd (no_fault _ (left end l) e)
wrap_d_back f X R none rows other h (x ∷ m) end l e =
    elim (branched f silent (x ∷ x ∷ m) end l (quietly dup (choose f silent) (x ∷ m) (x ∷ x ∷ m) end l refl e)) [
      | inl p ↦
          let below = rest_same x ONE (x ∷ m) p.0 p.1 in
          let r = h (x ∷ m) end l (ap f below ∙ p.2) in
          let gone = nil_from_length r.0 (none r.0 l r.2) in
          let one = first_same x ONE (x ∷ m) p.0 p.1 in (
            true,
            ONE ∷ [],
            m,
            ONE,
            ap (λ c. c ∷ m) one,
            (sym (r.1 ∙ ap (λ v. v ++ end) gone) ∙ ap (λ c. c ∷ m) one),
            bool_value false true,
            rows l (subst (λ v. X.sat v l) gone r.2),
          )
      | inr p ↦
          let below = rest_same x EMPTY (x ∷ m) p.0 p.1 in
          let q = silently p.0 end l p.2 in
          let empty = first_same x EMPTY (x ∷ m) p.0 p.1 in (
            false,
            EMPTY ∷ [],
            m,
            EMPTY,
            ap (λ c. c ∷ m) empty,
            q.0 ∙ sym below ∙ ap (λ c. c ∷ m) empty,
            bool_value false false,
            subst (R.dsat (EMPTY ∷ [])) (sym q.1) other,
          )
    ]

-- `v`
verify_back : (u b : Bool) (v : Bytes) (s end : Stack) → Value u b v → verify (v ∷ s) ≡ Ok end → (b ≡ true) × (end ≡ s)
unfolding verify
verify_back u b v s end value e =
    let is : truth v ≡ b = ap truth value.is ∙ truth-natural value.number value.small ∙ value.truth in
    elim (cases_Bool (truth v)) [
      | inl holds ↦ (sym is ∙ holds, sym (same_ok s end (rw holds at e)))
      | inr fails ↦ absurd (no_fault _ end (rw fails at e))
    ]

pub wrap_v_back : (u : Bool) (f : Effect) (R : Logged) → ((m end : Stack) (l : Log) → f m ≡ Ok (left end l) → BackB u R m end l) → (m end : Stack) (l : Log)
    → both f (plain verify) m ≡ Ok (left end l) → BackV R m end l
wrap_v_back u f R h m end l e =
    let p = between f (plain verify) m end l e in
    let i = h m p.mid p.first p.before in
    let q = plainly verify p.mid end p.second p.after in
    let t = verify_back u i.0 i.3 i.2 end i.6 (ap verify (sym i.5) ∙ q.0) in (
      i.1,
      i.4 ∙ ap (λ v. i.1 ++ v) (sym t.1),
      subst (R.sat i.1) (sym (p.log ∙ ap (then_log p.first) q.1 ∙ quiet_right p.first)) (subst (λ b. Took R b i.1 p.first) t.0 i.7),
    )

-- `n`
pub wrap_n_back : (u : Bool) (f : Effect) (R : Logged) → ((m end : Stack) (l : Log) → f m ≡ Ok (left end l) → BackB u R m end l) → (m end : Stack) (l : Log)
    → both f (plain zero_not_equal) m ≡ Ok (left end l) → BackB true R m end l
wrap_n_back u f R h m end l e =
    let p = between f (plain zero_not_equal) m end l e in
    let i = h m p.mid p.first p.before in
    let q = plainly zero_not_equal p.mid end p.second p.after in
    let done = ap zero_not_equal i.5 ∙ nonzero_value u i.0 i.3 i.2 i.6 in (
      i.0,
      i.1,
      i.2,
      bool_bytes i.0,
      i.4,
      same_ok end (bool_bytes i.0 ∷ i.2) (sym q.0 ∙ done),
      bool_value true i.0,
      subst (Took R i.0 i.1) (sym (p.log ∙ ap (then_log p.first) q.1 ∙ quiet_right p.first)) i.7,
    )

-- a large number has many bytes
some_byte : (most : ℕ) (negative : Bool) (n : ℕ) → 1 ≤ length (signed_bytes (suc most) negative n)
some_byte most negative n =
    elim (cases_Bool (nat_lt n 128)) [
      | inl last ↦ rw last (omega arith)
      | inr more ↦ rw more (omega arith)
    ]

long_bytes : (most room : ℕ) (negative : Bool) (n : ℕ) → 128 * 256 ^ room ≤ n → suc (suc room) ≤ length (signed_bytes (suc (suc (room + most))) negative n)
long_bytes most zero negative n large =
    let more : nat_lt n 128 ≡ false = le-ltb _ _ (omega arith) in
    let rest = some_byte (0 + most) negative (n / 256) in
    rw more (omega arith)
long_bytes most (suc room) negative n large =
    let power : 256 ^ suc room ≡ 256 * 256 ^ room = omega arith in
    let more : nat_lt n 128 ≡ false = le-ltb _ _ (let positive : 1 ≤ 256 ^ room = (some_power room) in omega arith) in
    let rest = long_bytes most room negative (n / 256) (omega arith) in
    let same : suc room + most ≡ suc (room + most) = omega arith in
    subst (λ k. suc (suc (suc room)) ≤ length (signed_bytes (suc (suc k)) negative n)) (sym same) (rw more (omega arith))
  where
    some_power : (room : ℕ) → 1 ≤ 256 ^ room
    some_power zero = omega arith
    some_power (suc room) = let i = some_power room in let power : 256 ^ suc room ≡ 256 * 256 ^ room = omega arith in omega arith

few_bytes : (n : ℕ) → length (natural_bytes n) ≤ 4 → n < 2 ^ 31
few_bytes zero few = omega arith
few_bytes (suc n) few =
    elim (cases_lt (suc n) (2 ^ 31)) [
      | inl low ↦ low
      | inr large ↦ let long = long_bytes 0 3 false (suc n) (omega arith) in absurd (omega arith)
    ]

-- 0NOTEQUAL of a length went on
tested : (n : ℕ) (s end : Stack) → zero_not_equal (natural_bytes n ∷ s) ≡ Ok end → end ≡ bool_bytes (is_nonzero (pos n)) ∷ s
unfolding zero_not_equal one_number operand
tested n s end e =
    elim (cases_Bool (nat_lt 4 (length (natural_bytes n)))) [
      | inl long ↦ absurd (no_fault _ end (rw long at e))
      | inr few ↦
          let low = few_bytes n (ltb-false 4 (length (natural_bytes n)) few) in
          same_ok end _ (sym e ∙ zero_not_equal-natural n s low)
    ]

-- `j`
measured_back : (f : Effect) (x : Bytes) (m end : Stack) (l : Log) → measured f (x ∷ m) ≡ Ok (left end l)
    → ((is_empty x ≡ false) × (f (x ∷ m) ≡ Ok (left end l))) ⊎ ((x ≡ EMPTY) × (end ≡ EMPTY ∷ m) × (l ≡ quiet))
measured_back f x m end l e =
    let i = quietly size (both (plain zero_not_equal) (choose f silent)) (x ∷ m) (natural_bytes (length x) ∷ x ∷ m) end l (sized x m) e in
    let p = between (plain zero_not_equal) (choose f silent) (natural_bytes (length x) ∷ x ∷ m) end l i in
    let q = plainly zero_not_equal (natural_bytes (length x) ∷ x ∷ m) p.mid p.first p.before in
    let is = tested (length x) (x ∷ m) p.mid q.0 in
    let log = p.log ∙ ap (λ k. then_log k p.second) q.1 ∙ quiet_left p.second in
    go x (ap (choose f silent) (sym is) ∙ p.after ∙ ap (λ k. Ok (left end k)) (sym log))
  where
    go : (x : Bytes) → choose f silent (bool_bytes (is_nonzero (pos (length x))) ∷ x ∷ m) ≡ Ok (left end l)
        → ((is_empty x ≡ false) × (f (x ∷ m) ≡ Ok (left end l))) ⊎ ((x ≡ EMPTY) × (end ≡ EMPTY ∷ m) × (l ≡ quiet))
    go [] i = let p = silently (EMPTY ∷ m) end l (sym (choose_empty f silent (EMPTY ∷ m)) ∙ i) in inr (refl, p.0, p.1)
    go (b ∷ x) i = inl (refl, sym (choose_one f silent ((b ∷ x) ∷ m)) ∙ i)

top_is_some : (x : Bytes) (m w s : Stack) → is_empty x ≡ false → 1 ≤ length w → x ∷ m ≡ w ++ s → HasTop w
top_is_some x m [] s some long e = absurd (omega arith)
top_is_some x m (y ∷ w) s some long e = (y, w, refl, ap is_empty (sym (first_same x y m (w ++ s) e)) ∙ some)

pub wrap_j_back : (u : Bool) (f : Effect) (X R : Logged) → ((b : Bool) (w : Stack) (l : Log) → Took X b w l → 1 ≤ length w)
    → ((b : Bool) (w : Stack) (l : Log) → HasTop w → Took X b w l → Took R b w l) → R.dsat (EMPTY ∷ []) quiet
    → ((m end : Stack) (l : Log) → f m ≡ Ok (left end l) → BackB u X m end l) → (m end : Stack) (l : Log) → measured f m ≡ Ok (left end l) → BackB u R m end l
unfolding size
wrap_j_back u f X R long rows other h [] end l e = absurd (no_fault _ (left end l) e)
wrap_j_back u f X R long rows other h (x ∷ m) end l e =
    elim (measured_back f x m end l e) [
      | inl p ↦
          let r = h (x ∷ m) end l p.1 in
          (r.0, r.1, r.2, r.3, r.4, r.5, r.6, rows r.0 r.1 l (top_is_some x m r.1 r.2 p.0 (long r.0 r.1 l r.7) r.4) r.7)
      | inr p ↦ (false, EMPTY ∷ [], m, EMPTY, ap (λ c. c ∷ m) p.0, p.1, bool_value u false, subst (R.dsat (EMPTY ∷ [])) (sym p.2) other)
    ]
