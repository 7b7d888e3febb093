-- Whether a stack satisfies or dissatisfies a miniscript can be decided.
use Rattle.std.proofs.Common.{◌≡◌, ◌≢◌, ℕ, zero, suc, ◌+◌, ◌<◌, ◌==◌, Bool, true, false, IsTrue, List, [], ◌∷◌, ◌++◌, length, reverse, replicate, Option, Some, None, refl, sym, ◌∙◌, ap, subst, ◌⊎◌, inl, inr, arith}
use Rattle.std.specs.Str.{bytes_eq}
use Rattle.std.proofs.lemmas.Bool.{cases_Bool, cases_lt, eqb-true, eqb-false, false≢true, true≢false}
use Rattle.std.proofs.lemmas.Slice.Eq.{bytes_eq-Decides}
use Rattle.std.proofs.lemmas.Option.{same_Some, none-some}
use Rattle.def_hash.specs.declared.HashKind.{HashKind}
use Rattle.def_hash.specs.Hash.{digest_of, hash160}
use Rattle.def_script.specs.Bytes.{Bytes}
use Rattle.def_machine.specs.Stacks.{Stack, Checker, is_empty}
use Rattle.def_script.specs.Key.{is_key}
use Rattle.def_machine.specs.Locks.{older_holds, after_holds}
use Rattle.def_machine.specs.MultiSig.{is_good}
use Rattle.def_tree.specs.declared.Two.TheVariants as kind
use Rattle.def_tree.specs.declared.Wrapper.TheVariants as wrapper
use Rattle.def_tree.specs.Range.{count}
use Rattle.def_tree.specs.Tree.{Tree, Trees, Key, just_0, just_1, pk_k, pk_h, older, after, hash, and_or, two, thresh, multi, wrap, none, more}
use Rattle.def_satisfaction.proofs.EqualParts.{first_same, rest_same, never_empty}
use Rattle.def_satisfaction.specs.StackSet.{StackSet, Element, Is, If, Both, Either, Nothing, Never}
use Rattle.def_satisfaction.specs.Setting.{Setting, Mode, any, only, CountsAsPreimage, CountsAsKey}
use Rattle.def_satisfaction.specs.Rows.{Row, EMPTY, ONE, ZEROS, NotCanonical, Signature, WithHashOf, IsPreimageOf, IsNoPreimageOf, PartsOf, AreSignatures, HasTop, row, parts}
use Rattle.ms_row_laws.proofs.SmallThresholds.{parts_few}

-- it holds, or it doesn't
abbrev pub Decided : Type 0 → Type 0
Decided P = P ⊎ (P → ⊥)

abbrev DecidedSet : StackSet → Type 0
DecidedSet P = (w : Stack) → Decided (P w)

true_or_not : (b : Bool) → Decided (IsTrue b)
true_or_not true = inl refl
true_or_not false = inr (λ e. false≢true e)

same_bytes : (x y : Bytes) → Decided (x ≡ y)
same_bytes x y = elim (cases_Bool (bytes_eq x y)) [
  | inl e ↦ inl ((bytes_eq-Decides x y).0 e)
  | inr e ↦ inr (λ i. false≢true (sym e ∙ (bytes_eq-Decides x y).1 i))
]

same_stack_or_not : (m n : Stack) → Decided (m ≡ n)
same_stack_or_not [] [] = inl refl
same_stack_or_not [] (y ∷ n) = inr (λ e. cc)
same_stack_or_not (x ∷ m) [] = inr (λ e. cc)
same_stack_or_not (x ∷ m) (y ∷ n) = elim (same_bytes x y) [
  | inr differs ↦ inr (λ e. differs (first_same x y m n e))
  | inl top ↦ elim (same_stack_or_not m n) [
    | inr differs ↦ inr (λ e. differs (rest_same x y m n e))
    | inl rest ↦ inl (ap (λ z. z ∷ m) top ∙ ap (λ v. y ∷ v) rest)
  ]
]

same_number_or_not : (n k : ℕ) → Decided (n ≡ k)
same_number_or_not n k = elim (cases_Bool (n == k)) [ inl e ↦ inl (eqb-true n k e) | inr e ↦ inr (eqb-false n k e) ]

both_or_not : (P Q : Type 0) → Decided P → Decided Q → Decided (P × Q)
both_or_not P Q (inl p) (inl q) = inl (p, q)
both_or_not P Q (inl p) (inr q) = inr (λ r. q r.1)
both_or_not P Q (inr p) q = inr (λ r. p r.0)

either_or_not : (P Q : Type 0) → Decided P → Decided Q → Decided (P ⊎ Q)
either_or_not P Q (inl p) q = inl (inl p)
either_or_not P Q (inr p) (inl q) = inl (inr q)
either_or_not P Q (inr p) (inr q) = inr (λ r. elim r [ inl h ↦ p h | inr h ↦ q h ])

not_or_so : (P : Type 0) → Decided P → Decided (P → ⊥)
not_or_so P (inl p) = inr (λ h. h p)
not_or_so P (inr p) = inl p

-- all ways to cut a stack in two
abbrev Cut : (Stack → Stack → Type 0) → Stack → Type 0
Cut R w = (below : Stack) × (above : Stack) × R below above × (w ≡ above ++ below)

cut_or_not : (R : Stack → Stack → Type 0) → ((below above : Stack) → Decided (R below above)) → (w : Stack) → Decided (Cut R w)
cut_or_not R decide [] = elim (decide [] []) [
  | inl r ↦ inl ([], [], r, refl)
  | inr no_cut ↦ inr (λ c. no_cut (at c.0 c.1 c.2 c.3))
]
  where
    at : (below above : Stack) → R below above → [] ≡ above ++ below → R [] []
    at [] [] r e = r
    at (x ∷ below) [] r e = absurd (never_empty x below e)
    at below (x ∷ above) r e = absurd (never_empty x (above ++ below) e)
cut_or_not R decide (x ∷ w) = elim (decide (x ∷ w) []) [
  | inl r ↦ inl (x ∷ w, [], r, refl)
  | inr whole ↦ elim (cut_or_not (λ below above. R below (x ∷ above)) (λ below above. decide below (x ∷ above)) w) [
    | inl c ↦ inl (c.0, x ∷ c.1, c.2, ap (λ v. x ∷ v) c.3)
    | inr no_cut ↦ inr (λ c. neither whole no_cut c.0 c.1 c.2 c.3)
  ]
]
  where
    neither : (R (x ∷ w) [] → ⊥) → (Cut (λ below above. R below (x ∷ above)) w → ⊥) → (below above : Stack) → R below above → x ∷ w ≡ above ++ below → ⊥
    neither whole no_cut below [] r e = whole (subst (λ v. R v []) (sym e) r)
    neither whole no_cut below (y ∷ above) r e = no_cut (below, above, subst (λ v. R below (v ∷ above)) (sym (first_same x y w (above ++ below) e)) r, rest_same x y w (above ++ below) e)

-- the sets of stacks
cut_both : (P Q : StackSet) → DecidedSet P → DecidedSet Q → DecidedSet (Both P Q)
cut_both P Q p q w = elim (cut_or_not (λ below above. P below × Q above) (λ below above. both_or_not (P below) (Q above) (p below) (q above)) w) [
  | inl c ↦ inl (c.0, c.1, c.2.0, c.2.1, c.3)
  | inr none_such ↦ inr (λ r. none_such (r.0, r.1, (r.2, r.3), r.4))
]

decided_either : (P Q : StackSet) → DecidedSet P → DecidedSet Q → DecidedSet (Either P Q)
decided_either P Q p q w = either_or_not (P w) (Q w) (p w) (q w)

decided_if : (fact : Type 0) (P : StackSet) → Decided fact → DecidedSet P → DecidedSet (If fact P)
decided_if fact P f p w = both_or_not fact (P w) f (p w)

decided_never : DecidedSet Never
decided_never w = inr (λ r. r)

decided_is : (item : Bytes) → DecidedSet (Is item)
decided_is item w = same_stack_or_not w (item ∷ [])

decided_item : (P : Bytes → Type 0) → ((x : Bytes) → Decided (P x)) → DecidedSet (Element P)
decided_item P p [] = inr (λ r. never_empty r.0 [] r.2)
decided_item P p (x ∷ []) = elim (p x) [
  | inl r ↦ inl (x, r, refl)
  | inr unfit ↦ inr (λ r. unfit (subst P (sym (first_same x r.0 [] [] r.2)) r.1))
]
decided_item P p (x ∷ y ∷ w) = inr (λ r. never_empty y w (sym (rest_same x r.0 (y ∷ w) [] r.2)))

-- a key on top that has the hash of the miniscript's key
decided_counts_as_key : (mode : Mode) (key other : Key) → Decided (CountsAsKey mode key other)
decided_counts_as_key any key other = inl tt
decided_counts_as_key (only known) key other = same_bytes other key

top_is : (P : StackSet) (other x : Bytes) (w : Stack) → Both P (Is other) (x ∷ w) → other ≡ x
top_is P other x w r = go r.1 r.3 r.4
  where
    go : (above : Stack) → above ≡ other ∷ [] → x ∷ w ≡ above ++ r.0 → other ≡ x
    go above e i = sym (first_same x other w r.0 (i ∙ ap (λ v. v ++ r.0) e))

decided_with_hash : (s : Setting) (key : Key) (P : Key → StackSet) → ((other : Key) → DecidedSet (P other)) → DecidedSet (WithHashOf s key (λ other. Both (P other) (Is other)))
decided_with_hash s key P p [] = inr (λ r. never r.4.1 r.4.0 r.0 r.4.3 r.4.4)
  where
    never : (above below : Stack) (other : Bytes) → above ≡ other ∷ [] → [] ≡ above ++ below → ⊥
    never above below other e i = never_empty other below (i ∙ ap (λ v. v ++ below) e)
decided_with_hash s key P p (x ∷ w) = elim (true_or_not (is_key x)) [
  | inr formless ↦ inr (λ r. formless (subst (λ k. IsTrue (is_key k)) (top_is (P r.0) r.0 x w r.4) r.1))
  | inl form ↦ elim (same_bytes (hash160 x) (hash160 key)) [
    | inr differs ↦ inr (λ r. differs (subst (λ k. hash160 k ≡ hash160 key) (top_is (P r.0) r.0 x w r.4) r.2))
    | inl same ↦ elim (decided_counts_as_key s.mode key x) [
      | inr counts ↦ inr (λ r. counts (subst (λ k. CountsAsKey s.mode key k) (top_is (P r.0) r.0 x w r.4) r.3))
      | inl counts ↦ elim (cut_both (P x) (Is x) (p x) (decided_is x) (x ∷ w)) [
        | inl cut ↦ inl (x, form, same, counts, cut)
        | inr uncut ↦ inr (λ r. uncut (subst (λ k. Both (P k) (Is k) (x ∷ w)) (top_is (P r.0) r.0 x w r.4) r.4))
      ]
    ]
  ]
]

-- preimages
decided_counts_as_preimage : (mode : Mode) (kind : HashKind) (value preimage : Bytes) → Decided (CountsAsPreimage mode kind value preimage)
decided_counts_as_preimage any kind value preimage = inl tt
decided_counts_as_preimage (only known) kind value preimage = go (known kind value)
  where
    go : (k : Option Bytes) → Decided (k ≡ Some preimage)
    go None = inr (none-some preimage)
    go (Some x) = elim (same_bytes x preimage) [ inl e ↦ inl (ap Some e) | inr differs ↦ inr (λ e. differs (same_Some x preimage e)) ]

decided_preimage : (kind : HashKind) (value x : Bytes) → Decided (IsPreimageOf kind value x)
decided_preimage kind value x = both_or_not _ _ (same_number_or_not (length x) 32) (same_bytes (digest_of kind x) value)

decided_no_preimage : (kind : HashKind) (value x : Bytes) → Decided (IsNoPreimageOf kind value x)
decided_no_preimage kind value x = both_or_not _ _ (same_number_or_not (length x) 32) (not_or_so _ (same_bytes (digest_of kind x) value))

decided_extra : (s : Setting) (P : StackSet) → DecidedSet P → DecidedSet (NotCanonical s P)
decided_extra s P p = decided_if (IsTrue s.all_rows) P (true_or_not s.all_rows) p

decided_signature : (s : Setting) (key : Key) → DecidedSet (Signature s key)
decided_signature s key = decided_item (λ sig. IsTrue (is_good s.given.checker key sig)) (λ sig. true_or_not (is_good s.given.checker key sig))

decided_signatures : (checker : Checker) (keys : List Key) (sigs : Stack) → Decided (AreSignatures checker keys sigs)
decided_signatures checker keys [] = inl tt
decided_signatures checker [] (sig ∷ sigs) = inr (λ r. r)
decided_signatures checker (key ∷ keys) (sig ∷ sigs) =
    either_or_not _ _ (both_or_not _ _ (true_or_not (is_good checker key sig)) (decided_signatures checker keys sigs)) (decided_signatures checker keys (sig ∷ sigs))

decided_top : DecidedSet HasTop
decided_top [] = inr (λ r. never_empty r.0 r.1 r.2)
decided_top (x ∷ w) = elim (cases_Bool (is_empty x)) [
  | inl e ↦ inr (λ r. true≢false (sym e ∙ ap is_empty (first_same x r.0 w r.1 r.2) ∙ r.3))
  | inr e ↦ inl (x, w, refl, e)
]

-- a number up to a bound
some_number : (P : ℕ → Type 0) (bound : ℕ) → ((n : ℕ) → Decided (P n)) → ((n : ℕ) → P n → n < bound) → Decided ((n : ℕ) × P n)
some_number P zero decide low = inr (λ r. (let l = low r.0 r.1 in absurd (omega arith)))
some_number P (suc bound) decide low = elim (decide bound) [
  | inl r ↦ inl (bound, r)
  | inr no_such ↦ some_number P bound decide (λ n r. below n r (low n r) (λ e. no_such (subst P e r)))
]
  where
    below : (n : ℕ) → P n → n < suc bound → (n ≡ bound → ⊥) → n < bound
    below n r l differs = elim (cases_lt n bound) [ inl less ↦ less | inr beyond ↦ absurd (differs (omega arith)) ]

decided_parts_of : (x : Row) (others : ℕ → StackSet) → DecidedSet x.sat → DecidedSet x.dsat → ((n : ℕ) → DecidedSet (others n)) → (n : ℕ) → DecidedSet (PartsOf x others n)
decided_parts_of x others sat dsat decide zero w = elim (cut_both (others zero) x.dsat (decide zero) dsat w) [
  | inl r ↦ inl (inr r)
  | inr uncut ↦ inr (λ r. elim r [ inl h ↦ (let e = h.1 in absurd (omega arith)) | inr h ↦ uncut h ])
]
decided_parts_of x others sat dsat decide (suc n) w = elim (cut_both (others n) x.sat (decide n) sat w) [
  | inl r ↦ inl (inl (n, refl, r))
  | inr unsat ↦ elim (cut_both (others (suc n)) x.dsat (decide (suc n)) dsat w) [
    | inl r ↦ inl (inr r)
    | inr undsat ↦ inr (λ r. elim r [
      | inl h ↦ (let e : h.0 ≡ n = (let i = h.1 in omega arith) in unsat (subst (λ m. Both (others m) x.sat w) e h.2))
      | inr h ↦ undsat h
    ])
  ]
]

-- another number of satisfied children
miscounted_or_not : (k bound : ℕ) (P : ℕ → StackSet) → ((n : ℕ) → DecidedSet (P n)) → ((n : ℕ) (w : Stack) → P n w → n < bound) → DecidedSet (λ w. (n : ℕ) × (n ≢ 0) × (n ≢ k) × P n w)
miscounted_or_not k bound P decide low w =
    elim (some_number (λ n. (n ≢ 0) × ((n ≢ k) × P n w)) bound
    (λ n. both_or_not _ _ (not_or_so (n ≡ 0) (same_number_or_not n 0)) (both_or_not _ _ (not_or_so (n ≡ k) (same_number_or_not n k)) (decide n w)))
    (λ n r. low n w r.1.1)) [
      | inl r ↦ inl (r.0, r.1.0, r.1.1.0, r.1.1.1)
      | inr no_such ↦ inr (λ r. no_such (r.0, (r.1, (r.2, r.3))))
    ]

mutual
  pub sat_or_not : (s : Setting) (t : Tree) → DecidedSet (row s t).sat
  sat_or_not s just_0 = decided_never
  sat_or_not s just_1 = λ w. same_stack_or_not w []
  sat_or_not s (pk_k key) = decided_signature s key
  sat_or_not s (pk_h key) = decided_with_hash s key (Signature s) (decided_signature s)
  sat_or_not s (older n) = decided_if _ Nothing (true_or_not (older_holds n s.given.locks)) (λ w. same_stack_or_not w [])
  sat_or_not s (after n) = decided_if _ Nothing (true_or_not (after_holds n s.given.locks)) (λ w. same_stack_or_not w [])
  sat_or_not s (hash kind value) =
      decided_item _ (λ x. both_or_not _ _ (decided_preimage kind value x) (decided_counts_as_preimage s.mode kind value x))
  sat_or_not s (and_or x y z) =
      decided_either _ _ (cut_both _ _ (sat_or_not s y) (sat_or_not s x)) (cut_both _ _ (sat_or_not s z) (dsat_or_not s x))
  sat_or_not s (two kind.OrB x z) =
      decided_either _ _ (cut_both _ _ (dsat_or_not s z) (sat_or_not s x))
      (decided_either _ _ (cut_both _ _ (sat_or_not s z) (dsat_or_not s x)) (decided_extra s _ (cut_both _ _ (sat_or_not s z) (sat_or_not s x))))
  sat_or_not s (two kind.OrC x z) = decided_either _ _ (sat_or_not s x) (cut_both _ _ (sat_or_not s z) (dsat_or_not s x))
  sat_or_not s (two kind.OrD x z) = decided_either _ _ (sat_or_not s x) (cut_both _ _ (sat_or_not s z) (dsat_or_not s x))
  sat_or_not s (two kind.OrI x z) =
      decided_either _ _ (cut_both _ _ (sat_or_not s x) (decided_is ONE)) (cut_both _ _ (sat_or_not s z) (decided_is EMPTY))
  sat_or_not s (two which x y) = cut_both _ _ (sat_or_not s y) (sat_or_not s x)
  sat_or_not s (thresh k xs) = parts_or_not s xs k
  sat_or_not s (multi k keys) =
      cut_both _ _ (decided_is EMPTY) (λ sigs. both_or_not _ _ (same_number_or_not (length sigs) k) (decided_signatures s.given.checker (reverse keys) sigs))
  sat_or_not s (wrap wrapper.D x) = cut_both _ _ (sat_or_not s x) (decided_is ONE)
  sat_or_not s (wrap letter x) = sat_or_not s x

  pub dsat_or_not : (s : Setting) (t : Tree) → DecidedSet (row s t).dsat
  dsat_or_not s just_0 = λ w. same_stack_or_not w []
  dsat_or_not s (pk_k key) = decided_is EMPTY
  dsat_or_not s (pk_h key) = decided_with_hash s key (λ other. Is EMPTY) (λ other. decided_is EMPTY)
  dsat_or_not s (hash kind value) =
      decided_either _ _ (decided_if _ _ (decided_no_preimage kind value ZEROS) (decided_is ZEROS))
      (decided_extra s _ (decided_item _ (decided_no_preimage kind value)))
  dsat_or_not s (and_or x y z) =
      decided_either _ _ (cut_both _ _ (dsat_or_not s z) (dsat_or_not s x)) (decided_extra s _ (cut_both _ _ (dsat_or_not s y) (sat_or_not s x)))
  dsat_or_not s (two kind.AndV x y) = decided_extra s _ (cut_both _ _ (dsat_or_not s y) (sat_or_not s x))
  dsat_or_not s (two kind.AndB x y) =
      decided_either _ _ (cut_both _ _ (dsat_or_not s y) (dsat_or_not s x))
      (decided_extra s _ (decided_either _ _ (cut_both _ _ (sat_or_not s y) (dsat_or_not s x)) (cut_both _ _ (dsat_or_not s y) (sat_or_not s x))))
  dsat_or_not s (two kind.OrC x z) = decided_never
  dsat_or_not s (two kind.OrI x z) =
      decided_either _ _ (cut_both _ _ (dsat_or_not s x) (decided_is ONE)) (cut_both _ _ (dsat_or_not s z) (decided_is EMPTY))
  dsat_or_not s (two which x z) = cut_both _ _ (dsat_or_not s z) (dsat_or_not s x)
  dsat_or_not s (thresh k xs) =
      decided_either _ _ (parts_or_not s xs 0)
      (decided_extra s _ (miscounted_or_not k (count xs + 1) (parts s xs) (parts_or_not s xs) (λ n w r. (let l = parts_few s xs n w r in omega arith))))
  dsat_or_not s (multi k keys) = λ w. same_stack_or_not w (replicate (k + 1) EMPTY)
  dsat_or_not s (wrap wrapper.D x) = decided_is EMPTY
  dsat_or_not s (wrap wrapper.V x) = decided_never
  dsat_or_not s (wrap wrapper.J x) = decided_either _ _ (decided_is EMPTY) (decided_extra s _ (λ w. both_or_not _ _ (decided_top w) (dsat_or_not s x w)))
  dsat_or_not s (wrap letter x) = dsat_or_not s x
  dsat_or_not s tree = decided_never

  pub parts_or_not : (s : Setting) (xs : Trees) (n : ℕ) → DecidedSet (parts s xs n)
  parts_or_not s none n = decided_if _ Nothing (same_number_or_not n 0) (λ w. same_stack_or_not w [])
  parts_or_not s (more x xs) n = decided_parts_of (row s x) (parts s xs) (sat_or_not s x) (dsat_or_not s x) (parts_or_not s xs) n
