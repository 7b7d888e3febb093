-- The walks over fragments without children.
use Rattle.std.proofs.Common.{◌≡◌, ◌≢◌, ℕ, zero, suc, ◌≤◌, ◌==◌, ◌&&◌, not, IsTrue, Bool, true, false, List, [], ◌∷◌, ◌++◌, length, reverse, take, drop, replicate, Some, None, refl, sym, ◌∙◌, ap, subst, inl, inr, arith}
use Rattle.std.specs.List.{list_all}
use Rattle.std.specs.Str.{bytes_eq}
use Rattle.std.proofs.lemmas.Bool.{cases_Bool, false≢true, and_parts, eqb-true, eq-eqb}
use Rattle.std.proofs.lemmas.List.{append_assoc, length-replicate, take-append-drop}
use Rattle.std.proofs.lemmas.Slice.Eq.{bytes_eq-Decides}
use Rattle.std.proofs.Math.Seq.{take-append_seam, drop-append_seam}
use Rattle.def_hash.specs.declared.HashKind.{HashKind}
use Rattle.def_hash.specs.Hash.{digest_of, hash160}
use Rattle.def_script.specs.Bytes.{Bytes}
use Rattle.def_machine.specs.Stacks.{Stack, Checker, is_empty}
use Rattle.def_script.specs.Key.{is_key}
use Rattle.def_machine.specs.Machine.{Given}
use Rattle.def_machine.specs.MultiSig.{is_good}
use Rattle.def_tree.specs.Tree.{Key}
use Rattle.def_satisfaction.specs.StackSet.{StackSet, Never, Nothing, If}
use Rattle.def_satisfaction.specs.Setting.{any}
use Rattle.def_satisfaction.specs.Satisfaction.{full}
use Rattle.def_satisfaction.specs.Rows.{EMPTY, ZEROS, IsNoPreimageOf, AreSignatures, Row, pk_k_row, pk_h_row, hash_row, multi_row}
use Rattle.def_audit.specs.declared.Step.{Step}
use Rattle.def_audit.specs.TrailRows.{TrailRow, WithTop, bare_row, pk_h_trails, hash_trails}
use Rattle.def_satisfaction.proofs.EqualParts.{first_same}
use Rattle.ms_row_laws.proofs.MultisigTries.{all_empty, all_empties, empties_split, rest_good, rest_bad}
use Rattle.ms_audit_laws.specs.Walk.{Found, Verdict, with_step, sig_verdict, key_verdict, forced, hash_verdict, multi_verdict, walk_pk_k, walk_pk_h, walk_hash, are_found, walk_multi_off, walk_multi}
use Rattle.ms_audit_laws.proofs.Walks.{side, Taken, IsWalk, is_walk, is_found, none_found, own, same_steps}

-- a stack of a leaf by this verdict
abbrev Fits : TrailRow → (node : ℕ) → Stack → Verdict → Type 0
Fits t node taken None = Unit {0}
Fits t node taken (Some v) = side t v.0 taken (own node v.0 v.1 ∷ [])

leaf_sound : (t : TrailRow) (node : ℕ) (v : Verdict) (stack taken rest : Stack) (f : Found) → stack ≡ taken ++ rest → Fits t node taken v → with_step node v [] rest ≡ Some f → Taken t stack f
leaf_sound t node None stack taken rest f p h e = none_found _ f e
leaf_sound t node (Some v) stack taken rest f p h e = is_found t stack _ f e (taken, h, p)

leaf_done : (node : ℕ) (sat extra : Bool) (before steps : List Step) (rest : Stack) (v : Verdict) → v ≡ Some (sat, extra) → before ≡ [] → steps ≡ before ++ own node sat extra ∷ [] →
    with_step node v [] rest ≡ Some (record { sat = sat; steps = steps; rest = rest })
leaf_done node sat extra before steps rest v e b s =
    ap (λ v. with_step node v [] rest) e ∙ same_steps node sat extra [] steps rest (s ∙ ap (λ w. w ++ own node sat extra ∷ []) b)

-- the rows of `0` and `1`
abbrev pub none_row : Row
none_row = record { dsat = Nothing; sat = Never }

abbrev pub all_row : Row
all_row = record { dsat = Never; sat = Nothing }

pub just_0_walk : (node : ℕ) → IsWalk (bare_row node none_row) (with_step node (Some (false, false)) [])
just_0_walk node =
    let t = bare_row node none_row in
    is_walk t (with_step node (Some (false, false)) [])
    (λ stack f. leaf_sound t node (Some (false, false)) stack [] stack f refl ([], (refl, refl), refl)) (λ taken steps rest h. absurd h.1.0)
    (λ taken steps rest h. ap (λ w. with_step node (Some (false, false)) [] (w ++ rest)) h.1.0
    ∙ leaf_done node false false h.0 steps rest (Some (false, false)) refl h.1.1 h.2)

pub just_1_walk : (node : ℕ) → IsWalk (bare_row node all_row) (with_step node (Some (true, false)) [])
just_1_walk node =
    let t = bare_row node all_row in
    is_walk t (with_step node (Some (true, false)) [])
    (λ stack f. leaf_sound t node (Some (true, false)) stack [] stack f refl ([], (refl, refl), refl))
    (λ taken steps rest h. ap (λ w. with_step node (Some (true, false)) [] (w ++ rest)) h.1.0
    ∙ leaf_done node true false h.0 steps rest (Some (true, false)) refl h.1.1 h.2) (λ taken steps rest h. absurd h.1.0)

-- a lock
abbrev lock_row : Bool → Row
lock_row holds = record { dsat = Never; sat = If (IsTrue holds) Nothing }

pub lock_walk : (node : ℕ) (holds : Bool) → IsWalk (bare_row node (lock_row holds)) (with_step node (forced holds) [])
lock_walk node holds =
    is_walk (bare_row node (lock_row holds)) (with_step node (forced holds) []) (sound holds)
    (λ taken steps rest h. ap (λ w. with_step node (forced holds) [] (w ++ rest)) h.1.0.1
    ∙ leaf_done node true false h.0 steps rest (forced holds) (ap forced h.1.0.0) h.1.1 h.2) (λ taken steps rest h. absurd h.1.0)
  where
    sound : (holds : Bool) (stack : Stack) (f : Found) → with_step node (forced holds) [] stack ≡ Some f → Taken (bare_row node (lock_row holds)) stack f
    sound true stack f e = leaf_sound (bare_row node (lock_row true)) node (Some (true, false)) stack [] stack f refl ([], ((refl, refl), refl), refl) e
    sound false stack f e = none_found _ f e

-- a string without a byte
pub is_nothing : (bytes : Bytes) → is_empty bytes ≡ true → bytes ≡ EMPTY
is_nothing [] e = refl
is_nothing (b ∷ bytes) e = absurd (false≢true e)

abbrev pk_k_trails_of : Given → (node : ℕ) → Key → TrailRow
pk_k_trails_of given node key = bare_row node (pk_k_row (full given any) key)

pub pk_k_walk : (given : Given) (node : ℕ) (key : Key) → IsWalk (bare_row node (pk_k_row (full given any) key)) (walk_pk_k given node key)
pk_k_walk given node key =
    is_walk (pk_k_trails_of given node key) (walk_pk_k given node key) sound
    (λ taken steps rest h.
    ap (λ w. walk_pk_k given node key (w ++ rest)) h.1.0.2
    ∙ leaf_done node true false h.0 steps rest (sig_verdict (is_good given.checker key h.1.0.0) (is_empty h.1.0.0))
    (ap (λ g. sig_verdict g (is_empty h.1.0.0)) h.1.0.1) h.1.1 h.2)
    (λ taken steps rest h.
    ap (λ w. walk_pk_k given node key (w ++ rest)) h.1.0
    ∙ leaf_done node false false h.0 steps rest (sig_verdict (is_good given.checker key EMPTY) (is_empty EMPTY)) refl h.1.1 h.2)
  where
    fits : (top : Bytes) (good empty : Bool) → is_good given.checker key top ≡ good → is_empty top ≡ empty → Fits (pk_k_trails_of given node key) node (top ∷ []) (sig_verdict good empty)
    fits top true empty g e = ([], ((top, g, refl), refl), refl)
    fits top false true g e = ([], (ap (λ x. x ∷ []) (is_nothing top e), refl), refl)
    fits top false false g e = tt

    sound : (stack : Stack) (f : Found) → walk_pk_k given node key stack ≡ Some f → Taken (pk_k_trails_of given node key) stack f
    sound [] f e = none_found _ f e
    sound (top ∷ rest) f e =
        leaf_sound (pk_k_trails_of given node key) node (sig_verdict (is_good given.checker key top) (is_empty top)) (top ∷ rest) (top ∷ []) rest f refl
        (fits top (is_good given.checker key top) (is_empty top) refl refl) e

-- a set that is canonical with this item on top
with_top_fits : (item : Bytes) (node : ℕ) (sat : Bool) (P : StackSet) (top : Bytes) (rest : Stack) (is : Bool) → bytes_eq top item ≡ is → P (top ∷ rest)
    → WithTop item node sat P (top ∷ rest) (own node sat (not is) ∷ [])
with_top_fits item node sat P top rest true e p =
    inl ([], ((rest, ap (λ x. x ∷ rest) ((bytes_eq-Decides top item).0 e)), (p, refl)), refl)
with_top_fits item node sat P top rest false e p =
    inr ([], ((λ h. false≢true (sym e ∙ (bytes_eq-Decides top item).1 (first_same top item rest h.0 h.1))), (p, refl)), refl)

record TopSplit (item : Bytes) (node : ℕ) (sat : Bool) (P : StackSet) (taken : Stack) (steps : List Step) : Type 0 where
  is : Bool
  in_set : P taken
  decides : (top : Bytes) (rest : Stack) → taken ≡ top ∷ rest → bytes_eq top item ≡ is
  are : steps ≡ own node sat (not is) ∷ []

top_split : (item : Bytes) (node : ℕ) (sat : Bool) (P : StackSet) (taken : Stack) (steps : List Step) → WithTop item node sat P taken steps → TopSplit item node sat P taken steps
top_split item node sat P taken steps (inl h) = record {
  is = true;
  in_set = h.1.1.0;
  decides = λ top rest e. (bytes_eq-Decides top item).1 (first_same top item rest h.1.0.0 (sym e ∙ h.1.0.1));
  are = h.2 ∙ ap (λ w. w ++ own node sat false ∷ []) h.1.1.1;
}
top_split item node sat P taken steps (inr h) = record {
  is = false;
  in_set = h.1.1.0;
  decides = λ top rest e.
      elim (cases_Bool (bytes_eq top item)) [
        | inl yes_it ↦ absurd (h.1.0 (rest, e ∙ ap (λ x. x ∷ rest) ((bytes_eq-Decides top item).0 yes_it)))
        | inr no_it ↦ no_it
      ];
  are = h.2 ∙ ap (λ w. w ++ own node sat true ∷ []) h.1.1.1;
}

abbrev pk_h_trails_of : Given → (node : ℕ) → Key → TrailRow
pk_h_trails_of given node key = pk_h_trails node key (pk_h_row (full given any) key)

abbrev pk_h_verdict_of : Given → Key → (other sig : Bytes) → Verdict
pk_h_verdict_of given key other sig =
    key_verdict (is_key other && bytes_eq (hash160 other) (hash160 key)) (bytes_eq other key) (is_good given.checker other sig) (is_empty sig)

pub pk_h_walk : (given : Given) (node : ℕ) (key : Key) → IsWalk (pk_h_trails node key (pk_h_row (full given any) key)) (walk_pk_h given node key)
pk_h_walk given node key =
    is_walk (pk_h_trails_of given node key) (walk_pk_h given node key) sound
    (λ taken steps rest h.
    let c = top_split key node true (pk_h_row (full given any) key).sat taken steps h in
    let r = c.in_set in
    let b = r.4 in
    let other = r.0 in
    let sig = b.2.0 in
    let whole = two_items other sig taken b.0 b.1 b.2.2 b.3 b.4 in
    ap (λ w. walk_pk_h given node key (w ++ rest)) whole
    ∙ leaf_done node true (not c.is) [] steps rest (pk_h_verdict_of given key other sig)
    (ap (λ f. key_verdict f (bytes_eq other key) (is_good given.checker other sig) (is_empty sig)) (fit_true other r.1 r.2)
    ∙ ap (λ g. key_verdict true (bytes_eq other key) g (is_empty sig)) b.2.1
    ∙ ap (λ (i : Bool). Some (true, not i)) (c.decides other (sig ∷ []) whole)) refl c.are)
    (λ taken steps rest h.
    let c = top_split key node false (pk_h_row (full given any) key).dsat taken steps h in
    let r = c.in_set in
    let b = r.4 in
    let other = r.0 in
    let whole = two_items other EMPTY taken b.0 b.1 b.2 b.3 b.4 in
    ap (λ w. walk_pk_h given node key (w ++ rest)) whole
    ∙ leaf_done node false (not c.is) [] steps rest (pk_h_verdict_of given key other EMPTY)
    (ap (λ f. key_verdict f (bytes_eq other key) false true) (fit_true other r.1 r.2)
    ∙ ap (λ (i : Bool). Some (false, not i)) (c.decides other (EMPTY ∷ []) whole)) refl c.are)
  where
    fits : (other sig : Bytes) (fit is good empty : Bool) → (is_key other && bytes_eq (hash160 other) (hash160 key)) ≡ fit → bytes_eq other key ≡ is
        → is_good given.checker other sig ≡ good → is_empty sig ≡ empty →
        Fits (pk_h_trails_of given node key) node (other ∷ sig ∷ []) (key_verdict fit is good empty)
    fits other sig false is good empty f i g e = tt
    fits other sig true is true empty f i g e =
        let p = and_parts (is_key other) (bytes_eq (hash160 other) (hash160 key)) f in
        with_top_fits key node true (pk_h_row (full given any) key).sat other (sig ∷ []) is i
        (other, p.0, (bytes_eq-Decides (hash160 other) (hash160 key)).0 p.1, tt, (sig ∷ [], other ∷ [], (sig, g, refl), refl, refl))
    fits other sig true is false true f i g e =
        let p = and_parts (is_key other) (bytes_eq (hash160 other) (hash160 key)) f in
        with_top_fits key node false (pk_h_row (full given any) key).dsat other (sig ∷ []) is i
        (other, p.0, (bytes_eq-Decides (hash160 other) (hash160 key)).0 p.1, tt, (sig ∷ [], other ∷ [], ap (λ x. x ∷ []) (is_nothing sig e), refl, refl))
    fits other sig true is false false f i g e = tt

    sound : (stack : Stack) (f : Found) → walk_pk_h given node key stack ≡ Some f → Taken (pk_h_trails_of given node key) stack f
    sound [] f e = none_found _ f e
    sound (other ∷ []) f e = none_found _ f e
    sound (other ∷ sig ∷ rest) f e =
        leaf_sound (pk_h_trails_of given node key) node (pk_h_verdict_of given key other sig) (other ∷ sig ∷ rest) (other ∷ sig ∷ []) rest f refl (fits other sig _ _ _ _ refl refl refl refl) e

    fit_true : (other : Key) → IsTrue (is_key other) → hash160 other ≡ hash160 key → (is_key other && bytes_eq (hash160 other) (hash160 key)) ≡ true
    fit_true other k h = rw (k, (bytes_eq-Decides (hash160 other) (hash160 key)).1 h) refl

    two_items : (other sig : Bytes) (taken below above : Stack) → below ≡ sig ∷ [] → above ≡ other ∷ [] → taken ≡ above ++ below → taken ≡ other ∷ sig ∷ []
    two_items other sig taken below above b a e = e ∙ ap (λ w. w ++ below) a ∙ ap (λ w. other ∷ w) b

abbrev hash_trails_of : Given → (node : ℕ) → HashKind → Bytes → TrailRow
hash_trails_of given node kind value = hash_trails node (hash_row (full given any) kind value)

abbrev hash_verdict_of : HashKind → (value top : Bytes) → Verdict
hash_verdict_of kind value top = hash_verdict (length top == 32) (bytes_eq (digest_of kind top) value) (bytes_eq top ZEROS)

pub hash_walk : (given : Given) (node : ℕ) (kind : HashKind) (value : Bytes) → IsWalk (hash_trails node (hash_row (full given any) kind value)) (walk_hash node kind value)
hash_walk given node kind value =
    is_walk (hash_trails_of given node kind value) (walk_hash node kind value) sound
    (λ taken steps rest h.
    let item = h.1.0.0 in
    ap (λ w. walk_hash node kind value (w ++ rest)) h.1.0.2
    ∙ leaf_done node true false h.0 steps rest (hash_verdict_of kind value item)
    (ap (λ l. hash_verdict l (bytes_eq (digest_of kind item) value) (bytes_eq item ZEROS)) (eq-eqb _ _ h.1.0.1.0.0)
    ∙ ap (λ m. hash_verdict true m (bytes_eq item ZEROS)) ((bytes_eq-Decides (digest_of kind item) value).1 h.1.0.1.0.1)) h.1.1 h.2)
    (λ taken steps rest h.
    let c = top_split ZEROS node false (hash_row (full given any) kind value).dsat taken steps h in
    let m = missed taken c.in_set in
    let item = m.0 in
    ap (λ w. walk_hash node kind value (w ++ rest)) m.2
    ∙ leaf_done node false (not c.is) [] steps rest (hash_verdict_of kind value item)
    (ap (λ l. hash_verdict l (bytes_eq (digest_of kind item) value) (bytes_eq item ZEROS)) (eq-eqb _ _ m.1.0)
    ∙ ap (λ b. hash_verdict true b (bytes_eq item ZEROS)) (unmet item m.1.1)
    ∙ ap (λ (i : Bool). Some (false, not i)) (c.decides item [] m.2)) refl c.are)
  where
    fits : (top : Bytes) (long met zeros : Bool) → (length top == 32) ≡ long → bytes_eq (digest_of kind top) value ≡ met → bytes_eq top ZEROS ≡ zeros
        → Fits (hash_trails_of given node kind value) node (top ∷ []) (hash_verdict long met zeros)
    fits top false met zeros l m z = tt
    fits top true true zeros l m z =
        ([], ((top, ((eqb-true (length top) 32 l, (bytes_eq-Decides (digest_of kind top) value).0 m), tt), refl), refl), refl)
    fits top true false zeros l m z =
        with_top_fits ZEROS node false (hash_row (full given any) kind value).dsat top [] zeros z
        (inr (refl, (top, (eqb-true (length top) 32 l, λ e. false≢true (sym m ∙ (bytes_eq-Decides (digest_of kind top) value).1 e)), refl)))

    sound : (stack : Stack) (f : Found) → walk_hash node kind value stack ≡ Some f → Taken (hash_trails_of given node kind value) stack f
    sound [] f e = none_found _ f e
    sound (top ∷ rest) f e = leaf_sound (hash_trails_of given node kind value) node (hash_verdict_of kind value top) (top ∷ rest) (top ∷ []) rest f refl (fits top _ _ _ refl refl refl) e

    unmet : (item : Bytes) → digest_of kind item ≢ value → bytes_eq (digest_of kind item) value ≡ false
    unmet item differs =
        elim (cases_Bool (bytes_eq (digest_of kind item) value)) [
          | inl e ↦ absurd (differs ((bytes_eq-Decides (digest_of kind item) value).0 e))
          | inr e ↦ e
        ]

    missed : (taken : Stack) → (hash_row (full given any) kind value).dsat taken → (item : Bytes) × IsNoPreimageOf kind value item × (taken ≡ item ∷ [])
    missed taken (inl h) = (ZEROS, h.0, h.1)
    missed taken (inr h) = h.1

-- the first key left that takes a signature may have it
found_are : (checker : Checker) (keys : List Key) (sigs : Stack) → are_found checker keys sigs ≡ true → AreSignatures checker keys sigs
found_are checker keys [] e = nothing keys
  where
    nothing : (keys : List Key) → AreSignatures checker keys []
    nothing [] = tt
    nothing (key ∷ keys) = tt
found_are checker [] (sig ∷ sigs) e = absurd (false≢true e)
found_are checker (key ∷ keys) (sig ∷ sigs) e =
    elim (cases_Bool (is_good checker key sig)) [
      | inl good ↦ inl (good, found_are checker keys sigs (rw good at e))
      | inr bad ↦ inr (found_are checker keys (sig ∷ sigs) (rw bad at e))
    ]

are_are_found : (checker : Checker) (keys : List Key) (sigs : Stack) → AreSignatures checker keys sigs → are_found checker keys sigs ≡ true
are_are_found checker keys [] h = nothing keys
  where
    nothing : (keys : List Key) → are_found checker keys [] ≡ true
    nothing [] = refl
    nothing (key ∷ keys) = refl
are_are_found checker [] (sig ∷ sigs) h = absurd h
are_are_found checker (key ∷ keys) (sig ∷ sigs) h =
    elim (cases_Bool (is_good checker key sig)) [
      | inl good ↦ rw good (are_are_found checker keys sigs (rest_good checker key sig keys sigs h))
      | inr bad ↦ rw bad (are_are_found checker keys (sig ∷ sigs) (rest_bad checker key sig keys sigs bad h))
    ]

-- empty strings are no signatures
empties_not_found : (checker : Checker) (keys : List Key) (n : ℕ) → are_found checker keys (replicate (suc n) EMPTY) ≡ false
empties_not_found checker [] n = refl
empties_not_found checker (key ∷ keys) n = empties_not_found checker keys n

-- so many items off a stack
cut_length : (k : ℕ) (stack : Stack) (dummy : Bytes) (rest : Stack) → drop k stack ≡ dummy ∷ rest → length (take k stack) ≡ k
cut_length zero stack dummy rest e = refl
cut_length (suc k) [] dummy rest e = absurd (empty_is_none e)
  where
    empty_is_none : [] ≡ dummy ∷ rest → ⊥
    empty_is_none e = cc
cut_length (suc k) (item ∷ stack) dummy rest e = let l = cut_length k stack dummy rest e in omega arith

abbrev multi_trails_of : Given → (node : ℕ) → (k : ℕ) → List Key → TrailRow
multi_trails_of given node k keys = bare_row node (multi_row (full given any) k keys)

pub multi_walk : (given : Given) (node k : ℕ) (keys : List Key) → 1 ≤ k → IsWalk (bare_row node (multi_row (full given any) k keys)) (walk_multi given node k keys)
multi_walk given node k keys some =
    is_walk (multi_trails_of given node k keys) (walk_multi given node k keys) sound
    (λ taken steps rest h.
    let b = h.1.0 in
    let sigs = b.1 in
    ap (λ w. walk_multi given node k keys (w ++ rest)) (b.4 ∙ ap (λ w. sigs ++ w) b.2)
    ∙ ap (walk_multi given node k keys) (append_assoc sigs (EMPTY ∷ []) rest)
    ∙ off sigs (EMPTY ∷ rest) b.3.0
    ∙ leaf_done node true false h.0 steps rest (multi_verdict true (are_found given.checker (reverse keys) sigs) (list_all is_empty sigs))
    (ap (λ f. multi_verdict true f (list_all is_empty sigs)) (are_are_found given.checker (reverse keys) sigs b.3.1)) h.1.1 h.2)
    (λ taken steps rest h.
    let sigs : Stack = replicate k EMPTY in
    ap (λ w. walk_multi given node k keys (w ++ rest)) (h.1.0 ∙ empties_split k)
    ∙ ap (walk_multi given node k keys) (append_assoc sigs (EMPTY ∷ []) rest)
    ∙ off sigs (EMPTY ∷ rest) (length-replicate k EMPTY)
    ∙ leaf_done node false false h.0 steps rest (multi_verdict true (are_found given.checker (reverse keys) sigs) (list_all is_empty sigs))
    (ap (λ f. multi_verdict true f (list_all is_empty sigs)) (none_of_empties k some) ∙ ap (multi_verdict true false) (all_empty k)) h.1.1 h.2)
  where
    fits : (sigs : Stack) (dummy : Bytes) → length sigs ≡ k → (d found empty : Bool) → is_empty dummy ≡ d → are_found given.checker (reverse keys) sigs ≡ found → list_all is_empty sigs ≡ empty →
        Fits (multi_trails_of given node k keys) node (sigs ++ dummy ∷ []) (multi_verdict d found empty)
    fits sigs dummy l false found empty d f e = tt
    fits sigs dummy l true true empty d f e =
        ([], ((dummy ∷ [], sigs, ap (λ x. x ∷ []) (is_nothing dummy d), (l, found_are given.checker (reverse keys) sigs f), refl), refl), refl)
    fits sigs dummy l true false true d f e = (
      [],
      (ap (λ x. sigs ++ x ∷ []) (is_nothing dummy d) ∙ ap (λ w. w ++ EMPTY ∷ []) (all_empties sigs e ∙ ap (λ n. replicate n EMPTY) l) ∙ sym (empties_split k), refl),
      refl,
    )
    fits sigs dummy l true false false d f e = tt

    off_sound : (stack sigs d : Stack) (f : Found) → stack ≡ sigs ++ d → ((dummy : Bytes) (rest : Stack) → d ≡ dummy ∷ rest → length sigs ≡ k)
        → walk_multi_off given node keys sigs d ≡ Some f → Taken (multi_trails_of given node k keys) stack f
    off_sound stack sigs [] f p l e = none_found _ f e
    off_sound stack sigs (dummy ∷ rest) f p l e =
        leaf_sound (multi_trails_of given node k keys) node (multi_verdict (is_empty dummy) (are_found given.checker (reverse keys) sigs) (list_all is_empty sigs)) stack (sigs ++ dummy ∷ []) rest f
        (p ∙ sym (append_assoc sigs (dummy ∷ []) rest)) (fits sigs dummy (l dummy rest refl) _ _ _ refl refl refl) e

    sound : (stack : Stack) (f : Found) → walk_multi given node k keys stack ≡ Some f → Taken (multi_trails_of given node k keys) stack f
    sound stack f e = off_sound stack (take k stack) (drop k stack) f (sym (take-append-drop k stack)) (cut_length k stack) e

    off : (sigs below : Stack) → length sigs ≡ k → walk_multi given node k keys (sigs ++ below) ≡ walk_multi_off given node keys sigs below
    off sigs below l =
        subst (λ n. walk_multi given node n keys (sigs ++ below) ≡ walk_multi_off given node keys sigs below) l
        (rw (take-append_seam sigs below, drop-append_seam sigs below) refl)

    none_of_empties : (k : ℕ) → 1 ≤ k → are_found given.checker (reverse keys) (replicate k EMPTY) ≡ false
    none_of_empties zero some = absurd (omega arith)
    none_of_empties (suc n) some = empties_not_found given.checker (reverse keys) n
