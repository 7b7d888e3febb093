-- What the main stack was where a fragment without children went on.
use Rattle.std.proofs.Common.{◌≡◌, ℕ, zero, suc, ◌+◌, ◌/◌, ◌%◌, ◌^◌, ◌<◌, nat_lt, Bool, true, false, IsTrue, [], ◌∷◌, length, Ok, refl, sym, ◌∙◌, ap, inl, inr, if◌then◌else◌, arith}
use Rattle.std.specs.Str.{bytes_eq}
use Rattle.std.proofs.lemmas.Bool.{cases_Bool, false≢true}
use Rattle.std.proofs.lemmas.Slice.Eq.{bytes_eq-Decides}
use Rattle.def_hash.specs.declared.HashKind.{HashKind}
use Rattle.def_hash.specs.declared.HashKind.TheVariants as hash_kind
use Rattle.def_hash.specs.Hash.{digest_of, hash160}
use Rattle.def_script.specs.Bytes.{Bytes}
use Rattle.def_script.specs.Numbers.{natural_bytes, signed_bytes}
use Rattle.def_machine.specs.Locks.{older_holds, after_holds}
use Rattle.def_machine.specs.Faults.{OrFault}
use Rattle.def_machine.specs.Stacks.{Stack, bool_bytes}
use Rattle.def_machine.specs.Effects.{dup, size, equal, verify, hash as hash_top, lock, operand}
use Rattle.def_machine.specs.Machine.{Given}
use Rattle.def_tree.specs.Tree.{Key, just_0, just_1, pk_k, pk_h, older, after, hash}
use Rattle.def_types.specs.Typed.{IsTyped}
use Rattle.def_types.proofs.Facts.{typed-older, typed-after}
use Rattle.def_satisfaction.specs.Setting.{any}
use Rattle.def_satisfaction.specs.Satisfaction.{full}
use Rattle.def_satisfaction.specs.Rows.{EMPTY, ONE}
use Rattle.ms_acceptance_laws.proofs.StackEffects.{Effect, both, plain, pushes, left}
use Rattle.ms_acceptance_laws.proofs.TreeEffects.{den}
use Rattle.ms_row_laws.proofs.RowLogs.{check_log}
use Rattle.ms_acceptance_laws.proofs.StackValues.{decode_5}
use Rattle.ms_acceptance_laws.proofs.ForwardBases.{bool_value}
use Rattle.ms_acceptance_laws.proofs.ForwardLeaves.{number_value}
use Rattle.ms_acceptance_laws.proofs.BackwardBases.{logged, Took, BackB, BackK, between, plainly, silently}
use Rattle.ms_row_laws.proofs.RunLog.{Log, quiet, then_log, quiet_left}
use Rattle.ms_row_laws.proofs.Outcomes.{same_ok, no_fault}

-- a push went on
pub pushed : (v : Bytes) (m end : Stack) (l : Log) → pushes v m ≡ Ok (left end l) → (end ≡ v ∷ m) × (l ≡ quiet)
pushed v m end l e = silently (v ∷ m) end l e

pub just_0_back : (given : Given) (m end : Stack) (l : Log) → den given just_0 m ≡ Ok (left end l) → BackB true (logged (full given any) just_0) m end l
just_0_back given m end l e =
    let p = pushed [] m end l e in
    (false, [], m, [], refl, p.0, bool_value true false, (refl, sym p.1))

pub just_1_back : (given : Given) (m end : Stack) (l : Log) → den given just_1 m ≡ Ok (left end l) → BackB true (logged (full given any) just_1) m end l
just_1_back given m end l e =
    let p = pushed ONE m end l e in
    (true, [], m, ONE, refl, p.0, bool_value true true, (refl, sym p.1))

one_log : (l : Log) (key sig : Bytes) → l ≡ quiet → check_log key sig ≡ then_log l (check_log key sig)
one_log l key sig e = sym (ap (λ q. then_log q (check_log key sig)) e ∙ quiet_left (check_log key sig))

pub pk_k_back : (given : Given) (key : Key) (m end : Stack) (l : Log) → den given (pk_k key) m ≡ Ok (left end l) → BackK given.checker (logged (full given any) (pk_k key)) m end l
pk_k_back given key m end l e =
    let p = pushed key m end l e in (
      key,
      m,
      p.0,
      λ sig s i form. (
        sig ∷ [],
        i,
        λ good. ((sig, good, refl), one_log l key sig p.1),
        λ none. (ap (λ x. x ∷ []) none, sym p.1),
      ),
    )

-- a lock that went on held
lock_back : (holds : ℕ → Bool) (n : ℕ) (m end : Stack) → n < 2 ^ 31 → lock holds (natural_bytes n ∷ m) ≡ Ok end → IsTrue (holds n) × (end ≡ natural_bytes n ∷ m)
unfolding lock operand
lock_back holds n m end low e =
    elim (cases_Bool (holds n)) [
      | inl is ↦ (is, sym (same_ok (natural_bytes n ∷ m) end (rw (decode_5 n low, is) at e)))
      | inr differs ↦ absurd (no_fault _ end (rw (decode_5 n low, differs) at e))
    ]

locked_back : (holds : ℕ → Bool) (n : ℕ) (m end : Stack) (l : Log) → n < 2 ^ 31 → both (pushes (natural_bytes n)) (plain (lock holds)) m ≡ Ok (left end l)
    → IsTrue (holds n) × (end ≡ natural_bytes n ∷ m) × (l ≡ quiet)
locked_back holds n m end l low e =
    let p = between (pushes (natural_bytes n)) (plain (lock holds)) m end l e in
    let q = pushed (natural_bytes n) m p.mid p.first p.before in
    let r = plainly (lock holds) p.mid end p.second p.after in
    let t = lock_back holds n m end low (ap (lock holds) (sym q.0) ∙ r.0) in
    (t.0, t.1, p.log ∙ ap (λ k. then_log k p.second) q.1 ∙ quiet_left p.second ∙ r.1)

pub older_back : (given : Given) (n : ℕ) (m end : Stack) (l : Log) → IsTyped (older n) → den given (older n) m ≡ Ok (left end l) → BackB false (logged (full given any) (older n)) m end l
older_back given n m end l typed e =
    let p = typed-older n typed in
    let q = locked_back (λ k. older_holds k given.locks) n m end l p.1 e in
    (true, [], m, natural_bytes n, refl, q.1, number_value n p.0 p.1, ((q.0, refl), sym q.2))

pub after_back : (given : Given) (n : ℕ) (m end : Stack) (l : Log) → IsTyped (after n) → den given (after n) m ≡ Ok (left end l) → BackB false (logged (full given any) (after n)) m end l
after_back given n m end l typed e =
    let p = typed-after n typed in
    let q = locked_back (λ k. after_holds k given.locks) n m end l p.1 e in
    (true, [], m, natural_bytes n, refl, q.1, number_value n p.0 p.1, ((q.0, refl), sym q.2))

-- what follows an effect with nothing to log went on from what that left
pub quietly : (op : Stack → OrFault Stack) (g : Effect) (m mid end : Stack) (l : Log) → op m ≡ Ok mid → both (plain op) g m ≡ Ok (left end l) → g mid ≡ Ok (left end l)
quietly op g m mid end l i e =
    let p = between (plain op) g m end l e in
    let q = plainly op m p.mid p.first p.before in
    let same : mid ≡ p.mid = same_ok mid p.mid (sym i ∙ q.0) in
    ap g same ∙ p.after ∙ ap (λ k. Ok (left end k)) (sym (p.log ∙ ap (λ k. then_log k p.second) q.1 ∙ quiet_left p.second))

pub pushed_on : (v : Bytes) (g : Effect) (m end : Stack) (l : Log) → both (pushes v) g m ≡ Ok (left end l) → g (v ∷ m) ≡ Ok (left end l)
pushed_on v g m end l e = quietly (λ s. Ok (v ∷ s)) g m (v ∷ m) end l refl e

-- EQUALVERIFY went on: its two strings were equal
abbrev pub equal_verify : Effect
equal_verify = both (plain equal) (plain verify)

pub equal_verified : (x y : Bytes) (s end : Stack) (l : Log) → equal_verify (y ∷ x ∷ s) ≡ Ok (left end l) → (x ≡ y) × (end ≡ s) × (l ≡ quiet)
unfolding equal verify
equal_verified x y s end l e =
    elim (cases_Bool (bytes_eq x y)) [
      | inl is ↦
          let p = silently s end l (rw is at e) in
          ((bytes_eq-Decides x y).0 is, p.0, p.1)
      | inr differs ↦ absurd (no_fault _ (left end l) (rw differs at e))
    ]

pub pk_h_back : (given : Given) (key : Key) (m end : Stack) (l : Log) → den given (pk_h key) m ≡ Ok (left end l) → BackK given.checker (logged (full given any) (pk_h key)) m end l
unfolding dup hash_top
pk_h_back given key [] end l e = absurd (no_fault _ (left end l) e)
pk_h_back given key (other ∷ rest) end l e =
    let first = quietly dup (both (plain (hash_top hash_kind.Hash160)) (both (pushes (hash160 key)) equal_verify)) (other ∷ rest) (other ∷ other ∷ rest) end l refl e in
    let second = quietly (hash_top hash_kind.Hash160) (both (pushes (hash160 key)) equal_verify) (other ∷ other ∷ rest) (hash160 other ∷ other ∷ rest) end l refl first in
    let third = pushed_on (hash160 key) equal_verify (hash160 other ∷ other ∷ rest) end l second in
    let same = equal_verified (hash160 other) (hash160 key) (other ∷ rest) end l third in (
      other,
      rest,
      same.1,
      λ sig s i form. (
        other ∷ sig ∷ [],
        ap (λ v. other ∷ v) i,
        λ good. ((other, form, same.0, tt, (sig ∷ [], other ∷ [], (sig, good, refl), refl, refl)), one_log l other sig same.2),
        λ none. ((other, form, same.0, tt, (EMPTY ∷ [], other ∷ [], refl, refl, ap (λ x. other ∷ x ∷ []) none)), sym same.2),
      ),
    )

-- the spelling of 32 is of no other number
only_32 : (n : ℕ) → natural_bytes n ≡ natural_bytes 32 → n ≡ 32
only_32 zero e = absurd (none e)
  where
    none : [] ≡ natural_bytes 32 → ⊥
    none e = cc
only_32 (suc n) e = elim (cases_Bool (nat_lt (suc n) 128)) [ inl last ↦ low (rw last at e) | inr more ↦ absurd (high (nat_lt (suc n / 256) 128) (rw more at e)) ]
  where
    low : (suc n + 0) ∷ [] ≡ natural_bytes 32 → suc n ≡ 32
    low i = let j : suc n + 0 ≡ 32 = cc in omega arith

    high : (b : Bool) → (suc n % 256) ∷ (if b then (suc n / 256 + 0) ∷ [] else (suc n / 256 % 256) ∷ signed_bytes 3 false (suc n / 256 / 256)) ≡ natural_bytes 32 → ⊥
    high true i = cc
    high false i = cc

pub sized_32 : (x : Bytes) → natural_bytes (length x) ≡ natural_bytes 32 → length x ≡ 32
sized_32 x e = only_32 (length x) e

-- what follows the test of the length
abbrev hash_tail : HashKind → Bytes → Effect
hash_tail kind value = both (plain (hash_top kind)) (both (pushes value) (plain equal))

hash_took : (given : Given) (kind : HashKind) (value x : Bytes) (l : Log) → length x ≡ 32 → l ≡ quiet → (b : Bool) → bytes_eq (digest_of kind x) value ≡ b
    → Took (logged (full given any) (hash kind value)) b (x ∷ []) l
hash_took given kind value x l long log true e = ((x, ((long, (bytes_eq-Decides (digest_of kind x) value).0 e), tt), refl), sym log)
hash_took given kind value x l long log false e = (inr (refl, (x, (long, λ same. false≢true (sym e ∙ (bytes_eq-Decides (digest_of kind x) value).1 same)), refl)), sym log)

pub hash_back : (given : Given) (kind : HashKind) (value : Bytes) (m end : Stack) (l : Log) → den given (hash kind value) m ≡ Ok (left end l)
    → BackB true (logged (full given any) (hash kind value)) m end l
unfolding size hash_top equal
hash_back given kind value [] end l e = absurd (no_fault _ (left end l) e)
hash_back given kind value (x ∷ s) end l e =
    let first = quietly size (both (pushes (natural_bytes 32)) (both equal_verify (hash_tail kind value))) (x ∷ s) (natural_bytes (length x) ∷ x ∷ s) end l refl e in
    let second = pushed_on (natural_bytes 32) (both equal_verify (hash_tail kind value)) (natural_bytes (length x) ∷ x ∷ s) end l first in
    let p = between equal_verify (hash_tail kind value) (natural_bytes 32 ∷ natural_bytes (length x) ∷ x ∷ s) end l second in
    let same = equal_verified (natural_bytes (length x)) (natural_bytes 32) (x ∷ s) p.mid p.first p.before in
    let log = p.log ∙ ap (λ k. then_log k p.second) same.2 ∙ quiet_left p.second in
    let third = ap (hash_tail kind value) (sym same.1) ∙ p.after in
    let fourth = quietly (hash_top kind) (both (pushes value) (plain equal)) (x ∷ s) (digest_of kind x ∷ s) end p.second refl third in
    let fifth = plainly equal (value ∷ digest_of kind x ∷ s) end p.second (pushed_on value (plain equal) (digest_of kind x ∷ s) end p.second fourth) in (
      bytes_eq (digest_of kind x) value,
      x ∷ [],
      s,
      bool_bytes (bytes_eq (digest_of kind x) value),
      refl,
      sym (same_ok _ end fifth.0),
      bool_value true (bytes_eq (digest_of kind x) value),
      hash_took given kind value x l (sized_32 x same.0) (log ∙ fifth.1) (bytes_eq (digest_of kind x) value) refl,
    )
