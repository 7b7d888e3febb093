-- How the fragments without children go on.
use Rattle.std.proofs.Common.{◌≡◌, ◌≢◌, ℕ, zero, suc, ◌^◌, ◌<◌, ◌≤◌, Bool, true, false, IsTrue, [], ◌∷◌, ◌++◌, length, Ok, refl, sym, ◌∙◌, ap, inl, inr, arith}
use Rattle.std.proofs.lemmas.Bool.{false≢true, cases_Bool}
use Rattle.std.specs.Prelude.{pos}
use Rattle.std.specs.Str.{bytes_eq}
use Rattle.std.proofs.lemmas.Slice.Eq.{bytes_eq-Decides}
use Rattle.def_hash.specs.declared.HashKind.{HashKind}
use Rattle.def_hash.specs.Hash.{digest_of, hash160}
use Rattle.def_script.specs.Bytes.{Bytes}
use Rattle.def_script.specs.Numbers.{natural_bytes}
use Rattle.def_script.specs.Decode.{is_nonzero}
use Rattle.def_machine.specs.Locks.{older_holds, after_holds}
use Rattle.def_machine.specs.Stacks.{Stack, bool_bytes}
use Rattle.def_machine.specs.Effects.{dup, size, equal, verify, hash as hash_top, lock, operand}
use Rattle.def_machine.specs.Machine.{Given}
use Rattle.def_tree.specs.Range.{IsKey}
use Rattle.def_tree.specs.Tree.{Key, just_0, just_1, pk_k, pk_h, older, after, hash}
use Rattle.def_types.specs.declared.Base.TheVariants.{B, K}
use Rattle.def_types.specs.Typed.{IsTyped}
use Rattle.def_types.proofs.Facts.{typed-older, typed-after}
use Rattle.def_satisfaction.specs.Setting.{Setting}
use Rattle.def_satisfaction.specs.Rows.{EMPTY, ONE, row}
use Rattle.ms_acceptance_laws.proofs.StackEffects.{both, plain, pushes, left}
use Rattle.ms_acceptance_laws.proofs.TreeEffects.{den}
use Rattle.ms_row_laws.proofs.RowLogs.{check_log}
use Rattle.ms_acceptance_laws.proofs.StackValues.{Value, decode_5, bytes_eq-same}
use Rattle.ms_acceptance_laws.proofs.ForwardBases.{Ends, EndsB, bool_value}
use Rattle.ms_row_laws.proofs.RunLog.{quiet, quiet_left}

pushed_on_none : (v : Bytes) (w s : Stack) → w ≡ [] → pushes v (w ++ s) ≡ Ok (left (v ∷ s) quiet)
pushed_on_none v w s e = ap (λ m. pushes v (m ++ s)) e

-- a lock that holds
lock_run : (holds : ℕ → Bool) (n : ℕ) (s : Stack) → n < 2 ^ 31 → IsTrue (holds n) → lock holds (natural_bytes n ∷ s) ≡ Ok (natural_bytes n ∷ s)
unfolding lock operand
lock_run holds n s low e = rw (decode_5 n low, e) refl

pub some_number : (n : ℕ) → 1 ≤ n → is_nonzero (pos n) ≡ true
some_number zero low = absurd (omega arith)
some_number (suc n) low = refl

pub number_value : (n : ℕ) → 1 ≤ n → n < 2 ^ 31 → Value false true (natural_bytes n)
number_value n some low = record { number = n; is = refl; small = low; truth = some_number n some; unit = λ e. absurd (false≢true e) }

locked_run : (holds : ℕ → Bool) (n : ℕ) (w s : Stack) → w ≡ [] → n < 2 ^ 31 → IsTrue (holds n) → both (pushes (natural_bytes n)) (plain (lock holds)) (w ++ s) ≡ Ok (left (natural_bytes n ∷ s) quiet)
locked_run holds n w s e low h = ap (λ m. both (pushes (natural_bytes n)) (plain (lock holds)) (m ++ s)) e ∙ rw (lock_run holds n s low h) refl

-- a key with the hash of the miniscript's key
pk_h_run : (given : Given) (key other : Key) (m : Stack) → hash160 other ≡ hash160 key → den given (pk_h key) (other ∷ m) ≡ Ok (left (other ∷ m) quiet)
unfolding dup hash_top equal verify
pk_h_run given key other m e = rw (e, bytes_eq-same (hash160 key)) refl

-- 32 bytes, and whether they hash to the value
pub hash_run : (given : Given) (kind : HashKind) (value x : Bytes) (s : Stack) → length x ≡ 32 → den given (hash kind value) (x ∷ s)
    ≡ Ok (left (bool_bytes (bytes_eq (digest_of kind x) value) ∷ s) quiet)
unfolding size hash_top equal verify
hash_run given kind value x s e = rw e refl

pub just_0_ends : (s : Setting) (w rest : Stack) → w ≡ [] → Ends s.given.checker B true false (den s.given just_0) w rest quiet
just_0_ends s w rest e = ([], bool_value true false, pushed_on_none [] w rest e)

pub just_1_ends : (s : Setting) (w rest : Stack) → w ≡ [] → Ends s.given.checker B true true (den s.given just_1) w rest quiet
just_1_ends s w rest e = (ONE, bool_value true true, pushed_on_none ONE w rest e)

pub pk_k_sat_ends : (s : Setting) (key : Key) (w rest : Stack) → IsKey key → (r : (row s (pk_k key)).sat w) → Ends s.given.checker K true true (den s.given (pk_k key)) w rest (check_log key r.0)
pk_k_sat_ends s key w rest k r =
    (key, r.0, quiet, k.form, ap (λ v. pushes key (v ++ rest)) r.2, (r.1, sym (quiet_left (check_log key r.0))))

pub pk_k_dsat_ends : (s : Setting) (key : Key) (w rest : Stack) → IsKey key → w ≡ EMPTY ∷ [] → Ends s.given.checker K true false (den s.given (pk_k key)) w rest quiet
pk_k_dsat_ends s key w rest k e = (key, [], quiet, k.form, ap (λ v. pushes key (v ++ rest)) e, (refl, refl))

pk_h_stack : (other sig : Bytes) (w above below rest : Stack) → below ≡ sig ∷ [] → above ≡ other ∷ [] → w ≡ above ++ below → w ++ rest ≡ other ∷ sig ∷ rest
pk_h_stack other sig w above below rest e i j = ap (λ v. v ++ rest) (j ∙ ap (λ v. v ++ below) i ∙ ap (λ v. other ∷ v) e)

pub pk_h_sat_ends : (s : Setting) (key : Key) (w rest : Stack) → (r : (row s (pk_h key)).sat w) → Ends s.given.checker K true true (den s.given (pk_h key)) w rest (check_log r.0 r.4.2.0)
pk_h_sat_ends s key w rest r =
    let e = pk_h_stack r.0 r.4.2.0 w r.4.1 r.4.0 rest r.4.2.2 r.4.3 r.4.4 in (
      r.0,
      r.4.2.0,
      quiet,
      r.1,
      ap (den s.given (pk_h key)) e ∙ pk_h_run s.given key r.0 (r.4.2.0 ∷ rest) r.2,
      (r.4.2.1, sym (quiet_left (check_log r.0 r.4.2.0))),
    )

pub pk_h_dsat_ends : (s : Setting) (key : Key) (w rest : Stack) → (row s (pk_h key)).dsat w → Ends s.given.checker K true false (den s.given (pk_h key)) w rest quiet
pk_h_dsat_ends s key w rest r =
    let e = pk_h_stack r.0 [] w r.4.1 r.4.0 rest r.4.2 r.4.3 r.4.4 in
    (r.0, [], quiet, r.1, ap (den s.given (pk_h key)) e ∙ pk_h_run s.given key r.0 ([] ∷ rest) r.2, (refl, refl))

pub older_ends : (s : Setting) (n : ℕ) (w rest : Stack) → IsTyped (older n) → (row s (older n)).sat w → Ends s.given.checker B false true (den s.given (older n)) w rest quiet
older_ends s n w rest typed r =
    let p = typed-older n typed in
    (natural_bytes n, number_value n p.0 p.1, locked_run (λ m. older_holds m s.given.locks) n w rest r.1 p.1 r.0)

pub after_ends : (s : Setting) (n : ℕ) (w rest : Stack) → IsTyped (after n) → (row s (after n)).sat w → Ends s.given.checker B false true (den s.given (after n)) w rest quiet
after_ends s n w rest typed r =
    let p = typed-after n typed in
    (natural_bytes n, number_value n p.0 p.1, locked_run (λ m. after_holds m s.given.locks) n w rest r.1 p.1 r.0)

hash_ends : (given : Given) (kind : HashKind) (value x : Bytes) (b : Bool) (w rest : Stack) → length x ≡ 32 → w ≡ x ∷ [] → bytes_eq (digest_of kind x) value
    ≡ b → EndsB true b (den given (hash kind value)) w rest quiet
hash_ends given kind value x b w rest l e i =
    (bool_bytes b, bool_value true b, ap (λ v. den given (hash kind value) (v ++ rest)) e ∙ hash_run given kind value x rest l ∙ ap (λ c. Ok (left (bool_bytes c ∷ rest) quiet)) i)

differ : (x y : Bytes) → x ≢ y → bytes_eq x y ≡ false
differ x y h = elim (cases_Bool (bytes_eq x y)) [ inl e ↦ absurd (h ((bytes_eq-Decides x y).0 e)) | inr e ↦ e ]

pub hash_sat_ends : (s : Setting) (kind : HashKind) (value : Bytes) (w rest : Stack) → (row s (hash kind value)).sat w → Ends s.given.checker B true true (den s.given (hash kind value)) w rest quiet
hash_sat_ends s kind value w rest r =
    hash_ends s.given kind value r.0 true w rest r.1.0.0 r.2 (ap (λ d. bytes_eq d value) r.1.0.1 ∙ bytes_eq-same value)

pub hash_dsat_ends : (s : Setting) (kind : HashKind) (value : Bytes) (w rest : Stack) → (row s (hash kind value)).dsat w
    → Ends s.given.checker B true false (den s.given (hash kind value)) w rest quiet
hash_dsat_ends s kind value w rest (inl r) =
    hash_ends s.given kind value _ false w rest r.0.0 r.1 (differ _ value r.0.1)
hash_dsat_ends s kind value w rest (inr r) =
    hash_ends s.given kind value r.1.0 false w rest r.1.1.0 r.1.2 (differ (digest_of kind r.1.0) value r.1.1.1)
