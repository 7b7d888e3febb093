-- What the main stack was where a threshold or a multisignature went on.
use Rattle.std.proofs.Common.{◌≡◌, ℕ, ◌+◌, ◌^◌, ◌<◌, ◌≤◌, nat_lt, Bool, true, false, List, [], ◌∷◌, ◌++◌, length, reverse, replicate, take, drop, Option, Some, None, Ok, refl, sym, ◌∙◌, ap, subst, ◌⊎◌, inl, inr, arith}
use Rattle.std.specs.List.{list_all}
use Rattle.std.specs.Str.{bytes_eq}
use Rattle.std.proofs.lemmas.Bool.{cases_Bool, ltb-false, true≢false}
use Rattle.std.proofs.lemmas.List.{take-append-drop, length-take, length-reverse}
use Rattle.def_script.specs.Bytes.{Bytes}
use Rattle.def_script.specs.Numbers.{natural_bytes}
use Rattle.def_machine.specs.Faults.{OrFault, ◌>>=◌}
use Rattle.def_machine.specs.Stacks.{Stack, Pairs, Checker, is_empty, bool_bytes}
use Rattle.def_machine.specs.Effects.{add, equal}
use Rattle.def_machine.specs.MultiSig.{some_off, one_off, tries, verdict, null_dummy}
use Rattle.def_tree.specs.Tree.{Key}
use Rattle.def_satisfaction.specs.Rows.{EMPTY, AreSignatures}
use Rattle.def_satisfaction.proofs.EqualParts.{first_same, rest_same}
use Rattle.ms_acceptance_laws.proofs.StackEffects.{Left, Effect, both, plain, pushes, left}
use Rattle.ms_acceptance_laws.proofs.TreeEffects.{pushes_all, checks_multi_sig}
use Rattle.ms_row_laws.proofs.RowLogs.{found_in, multi_log}
use Rattle.ms_acceptance_laws.proofs.StackValues.{one_if, bool_bytes-natural, equal-bytes}
use Rattle.ms_acceptance_laws.proofs.ForwardBases.{Beside, unit_value}
use Rattle.ms_acceptance_laws.proofs.ForwardThresholds.{added}
use Rattle.ms_acceptance_laws.proofs.ForwardMultisigs.{pushed_all, count_run, some_off_run, multi_effect}
use Rattle.ms_acceptance_laws.proofs.BackwardBases.{Logged, Took, BackB, BackW, between, plainly}
use Rattle.ms_acceptance_laws.proofs.BackwardLeaves.{pushed_on}
use Rattle.ms_row_laws.proofs.RunLog.{Log, quiet, then_log, quiet_left, quiet_right, log_of}
use Rattle.ms_row_laws.proofs.MultisigTries.{all_empties, ok_found, tries_signs}
use Rattle.ms_row_laws.proofs.Outcomes.{same_ok, no_fault, bind_split}

-- a child that went on before the others
pub record Counted (X : Logged) (g : Effect) (a : ℕ) (m end : Stack) (l : Log) : Type 0 where
  pub satisfied : Bool
  pub w : Stack
  pub s : Stack
  pub first : Log
  pub second : Log
  pub at : m ≡ w ++ s
  pub took : Took X satisfied w first
  pub others : g (natural_bytes (a + one_if satisfied) ∷ s) ≡ Ok (left end second)
  pub log : l ≡ then_log first second

pub added_back : (X : Logged) (f g : Effect) (a : ℕ) (m end : Stack) (l : Log) → a + 1 < 2 ^ 31
    → ((m end : Stack) (l : Log) → f m ≡ Ok (left end l) → BackW true X m end l) → both f (both (plain add) g) (natural_bytes a ∷ m) ≡ Ok (left end l)
    → Counted X g a m end l
added_back X f g a m end l low x e =
    let p = between f (both (plain add) g) (natural_bytes a ∷ m) end l e in
    let i = x (natural_bytes a ∷ m) p.mid p.first p.before in
    let q = between (plain add) g p.mid end p.second p.after in
    let r = plainly add p.mid q.mid q.first q.before in
    let top : i.1 ≡ natural_bytes a = sym (first_same (natural_bytes a) i.1 m (i.2 ++ i.3) i.5) in
    let sum = added a i.0 i.4 i.3 p.mid low i.7 (subst (λ v. Beside v i.4 i.3 p.mid) top i.6) in
    let mid : q.mid ≡ natural_bytes (a + one_if i.0) ∷ i.3 = same_ok q.mid _ (sym r.0 ∙ sum) in
    record {
      satisfied = i.0;
      w = i.2;
      s = i.3;
      first = p.first;
      second = q.second;
      at = rest_same (natural_bytes a) i.1 m (i.2 ++ i.3) i.5;
      took = i.8;
      others = ap g (sym mid) ∙ q.after;
      log = p.log ∙ ap (then_log p.first) (q.log ∙ ap (λ k. then_log k q.second) r.1 ∙ quiet_left q.second);
    }

pub first_back : (X : Logged) (f g : Effect) (m end : Stack) (l : Log) → ((m end : Stack) (l : Log) → f m ≡ Ok (left end l) → BackB true X m end l)
    → both f g m ≡ Ok (left end l) → Counted X g 0 m end l
first_back X f g m end l x e =
    let p = between f g m end l e in
    let i = x m p.mid p.first p.before in
    let is = unit_value i.0 i.3 i.6 ∙ bool_bytes-natural i.0 in
    let count : one_if i.0 ≡ 0 + one_if i.0 = omega arith in
    let mid : p.mid ≡ natural_bytes (0 + one_if i.0) ∷ i.2 = i.5 ∙ ap (λ v. v ∷ i.2) (is ∙ ap natural_bytes count) in
    record {
      satisfied = i.0;
      w = i.1;
      s = i.2;
      first = p.first;
      second = p.second;
      at = i.4;
      took = i.7;
      others = ap g (sym mid) ∙ p.after;
      log = p.log;
    }

-- the sum was found, and compared with k
pub record Compared (f : Effect) (k : ℕ) (m end : Stack) (l : Log) : Type 0 where
  pub mid : Stack
  pub before : f m ≡ Ok (left mid l)
  pub after : (n : ℕ) (s : Stack) → mid ≡ natural_bytes n ∷ s → end ≡ bool_bytes (bytes_eq (natural_bytes n) (natural_bytes k)) ∷ s

pub compared : (f : Effect) (k : ℕ) (m end : Stack) (l : Log) → both f (both (pushes (natural_bytes k)) (plain equal)) m ≡ Ok (left end l) → Compared f k m end l
compared f k m end l e =
    let p = between f (both (pushes (natural_bytes k)) (plain equal)) m end l e in
    let q = plainly equal (natural_bytes k ∷ p.mid) end p.second (pushed_on (natural_bytes k) (plain equal) p.mid end p.second p.after) in
    record {
      mid = p.mid;
      before = p.before ∙ ap (λ j. Ok (left p.mid j)) (sym (p.log ∙ ap (then_log p.first) q.1 ∙ quiet_right p.first));
      after = λ n s is. same_ok end _ (sym q.0 ∙ ap (λ v. equal (natural_bytes k ∷ v)) is ∙ equal-bytes (natural_bytes n) (natural_bytes k) s);
    }

-- CHECKMULTISIG behind its two numbers and its keys
abbrev multi_tail : Checker → (keys : Stack) → (n k : ℕ) → Stack → OrFault Left
multi_tail checker keys n k m =
    some_off k m >>= λ sigs.
    one_off sigs.1 >>= λ extra.
    tries checker keys sigs.0 [] >>= λ tried.
    verdict sigs.0 tried >>= λ passed.
    null_dummy extra.0 >>= λ empty.
    Ok (left (bool_bytes passed.0 ∷ extra.1) (log_of n passed.1))

multi_starts : (checker : Checker) (keys m : Stack) (k : ℕ) → length keys ≤ 20 → k ≤ length keys
    → checks_multi_sig checker (natural_bytes (length keys) ∷ (reverse keys ++ (natural_bytes k ∷ m))) ≡ multi_tail checker (reverse keys) (length keys) k m
unfolding checks_multi_sig
multi_starts checker keys m k few low =
    rw (
      count_run 20 (length keys) _ (reverse keys ++ (natural_bytes k ∷ m)) few (omega arith),
      some_off_run (reverse keys) (natural_bytes k ∷ m) (length keys) (length-reverse keys),
      count_run (length keys) k _ m low (omega arith),
    ) refl

-- so many elements were there
taken_off : (k : ℕ) (m : Stack) (p : Stack × Stack) → some_off k m ≡ Ok p → (m ≡ p.0 ++ p.1) × (length p.0 ≡ k)
unfolding some_off
taken_off k m p e =
    elim (cases_Bool (nat_lt (length m) k)) [
      | inl short ↦ absurd (no_fault _ p (rw short at e))
      | inr enough ↦
          let same = same_ok (take k m, drop k m) p (rw enough at e) in
          let few : k ≤ length m = ltb-false (length m) k enough in (
            sym (ap (λ q. q.0 ++ q.1) (sym same) ∙ take-append-drop k m),
            ap (λ q. length q.0) (sym same) ∙ (let l = length-take k m in omega arith),
          )
    ]

top_taken : (m : Stack) (p : Bytes × Stack) → one_off m ≡ Ok p → m ≡ p.0 ∷ p.1
unfolding one_off
top_taken [] p e = absurd (no_fault _ p e)
top_taken (x ∷ m) p e = ap (λ q. q.0 ∷ q.1) (same_ok (x, m) p e)

no_dummy : (x y : Bytes) → null_dummy x ≡ Ok y → x ≡ []
unfolding null_dummy
no_dummy [] y e = refl
no_dummy (b ∷ x) y e = absurd (no_fault _ y e)

-- what CHECKMULTISIG found, and where
pub record Tried (checker : Checker) (keys : List Key) (k : ℕ) (m end : Stack) (l : Log) : Type 0 where
  pub sigs : Stack
  pub rest : Stack
  pub passed : Bool
  pub at : m ≡ sigs ++ (EMPTY ∷ rest)
  pub count : length sigs ≡ k
  pub main : end ≡ bool_bytes passed ∷ rest
  pub signed : passed ≡ true → AreSignatures checker (reverse keys) sigs × (l ≡ multi_log checker keys sigs)
  pub unsigned : passed ≡ false → (sigs ≡ replicate k EMPTY) × (l ≡ log_of (length keys) [])

-- the verdict: all pairs that were found, or only empty strings
verdict_is : (sigs : Stack) (t : Option Pairs) (v : Bool × Pairs) → verdict sigs t ≡ Ok v → ((found : Pairs) × (t ≡ Some found) × (v ≡ (true, found)))
    ⊎ ((sigs ≡ replicate (length sigs) EMPTY) × (v ≡ (false, [])))
unfolding verdict
verdict_is sigs (Some found) v e = inl (found, refl, sym (same_ok (true, found) v e))
verdict_is sigs None v e =
    elim (cases_Bool (list_all is_empty sigs)) [
      | inl empty ↦ inr (all_empties sigs empty, sym (same_ok (false, []) v (rw empty at e)))
      | inr some ↦ absurd (no_fault _ v (rw some at e))
    ]

tried_back : (checker : Checker) (keys : List Key) (k : ℕ) (m end : Stack) (l : Log) → multi_tail checker (reverse keys) (length keys) k m ≡ Ok (left end l) → Tried checker keys k m end l
tried_back checker keys k m end l e =
    let a = bind_split (some_off k m) _ (left end l) e in
    let b = bind_split (one_off a.0.1) _ (left end l) a.2 in
    let c = bind_split (tries checker (reverse keys) a.0.0 []) _ (left end l) b.2 in
    let d = bind_split (verdict a.0.0 c.0) _ (left end l) c.2 in
    let f = bind_split (null_dummy b.0.0) _ (left end l) d.2 in
    let off = taken_off k m a.0 a.1 in
    let top = top_taken a.0.1 b.0 b.1 in
    let none = no_dummy b.0.0 f.0 f.1 in
    let same = same_ok (left (bool_bytes d.0.0 ∷ b.0.1) (log_of (length keys) d.0.1)) (left end l) f.2 in
    let at : m ≡ a.0.0 ++ (EMPTY ∷ b.0.1) = off.0 ∙ ap (λ v. a.0.0 ++ v) (top ∙ ap (λ x. x ∷ b.0.1) none) in
    elim (verdict_is a.0.0 c.0 d.0 d.1) [
      | inl p ↦ record {
        sigs = a.0.0;
        rest = b.0.1;
        passed = true;
        at = at;
        count = off.1;
        main = sym (ap (λ z. z.main) same) ∙ ap (λ v. bool_bytes v.0 ∷ b.0.1) p.2;
        signed = λ i. (
          tries_signs checker (reverse keys) a.0.0 [] p.0 (c.1 ∙ ap ok_found p.1),
          sym (ap (λ z. z.log) same) ∙ ap (λ v. log_of (length keys) v.1) p.2 ∙ ap (λ t. log_of (length keys) (found_in t)) (sym (c.1 ∙ ap ok_found p.1)),
        );
        unsigned = λ i. absurd (true≢false i);
      }
      | inr p ↦ record {
        sigs = a.0.0;
        rest = b.0.1;
        passed = false;
        at = at;
        count = off.1;
        main = sym (ap (λ z. z.main) same) ∙ ap (λ v. bool_bytes v.0 ∷ b.0.1) p.1;
        signed = λ i. absurd (true≢false (sym i));
        unsigned = λ i. (p.0 ∙ ap (λ n. replicate n EMPTY) off.1, sym (ap (λ z. z.log) same) ∙ ap (λ v. log_of (length keys) v.1) p.1);
      }
    ]

pub multi_tried : (checker : Checker) (keys : List Key) (k : ℕ) (m end : Stack) (l : Log) → length keys ≤ 20 → k ≤ length keys → multi_effect checker k keys m ≡ Ok (left end l)
    → Tried checker keys k m end l
multi_tried checker keys k m end l few low e =
    let first = pushed_on (natural_bytes k) (both (pushes_all keys) (both (pushes (natural_bytes (length keys))) (checks_multi_sig checker))) m end l e in
    let p = between (pushes_all keys) (both (pushes (natural_bytes (length keys))) (checks_multi_sig checker)) (natural_bytes k ∷ m) end l first in
    let same = same_ok (left (reverse keys ++ (natural_bytes k ∷ m)) quiet) (left p.mid p.first) (sym (pushed_all keys (natural_bytes k ∷ m)) ∙ p.before) in
    let log : l ≡ p.second = p.log ∙ ap (λ j. then_log j p.second) (sym (ap (λ z. z.log) same)) ∙ quiet_left p.second in
    let last = pushed_on (natural_bytes (length keys)) (checks_multi_sig checker) p.mid end p.second p.after in
    tried_back checker keys k m end l
    (sym (multi_starts checker keys m k few low) ∙ ap (λ v. checks_multi_sig checker (natural_bytes (length keys) ∷ v)) (ap (λ z. z.main) same) ∙ last ∙ ap (λ j. Ok (left end j)) (sym log))
