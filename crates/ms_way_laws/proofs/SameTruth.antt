-- The policy of a tree is true of an offer exactly where that of its stand-in is true of the offer's assets.
use Rattle.std.proofs.Common.{◌≡◌, nat_le, Bool, true, false, ◌||◌, List, [], ◌∷◌, ◌++◌, map, filter_map, refl, sym, ◌∙◌, ap, subst, arith}
use Rattle.std.specs.List.{find}
use Rattle.std.specs.Option.{is_some}
use Rattle.std.specs.Str.{bytes_eq}
use Rattle.std.proofs.lemmas.Bool.{false≢true, and_parts, and_from}
use Rattle.std.proofs.lemmas.List.Folds.{list_any-append}
use Rattle.std.proofs.lemmas.Slice.Eq.{bytes_eq-Decides}
use Rattle.def_hash.specs.declared.HashKind.{HashKind}
use Rattle.def_hash.specs.declared.HashKind.TheVariants.{Sha256, Hash256, Ripemd160, Hash160}
use Rattle.def_hash.specs.Hash.{digest_of}
use Rattle.def_script.specs.Bytes.{Bytes}
use Rattle.def_assets.specs.Assets.{sigs_with, shortest}
use Rattle.def_tree.specs.declared.Two.{Two}
use Rattle.def_tree.specs.declared.Two.TheVariants as two_kind
use Rattle.def_tree.specs.Tree as tree
use Rattle.def_tree.specs.Tree.{Tree, Trees, Key, none, more}
use Rattle.def_policy.specs.Policy as policy
use Rattle.def_policy.specs.Policy.{policies_of}
use Rattle.def_policy.specs.Plain.{plain, plain_each}
use Rattle.def_policy.specs.Simple.{simple}
use Rattle.def_policy.specs.Truth.{Facts, facts_of, how_many, is_true, truths}
use Rattle.def_policy.proofs.Truths.{simple_keeps_truth}
use Rattle.def_ways.specs.Secret.{Secret, key, preimage, same, same_kind, named, named_by}
use Rattle.def_ways.specs.Offer.{Offer, has}
use Rattle.def_ways.specs.Enough.{facts_with, enough}
use Rattle.def_ways.specs.StandIn.{Preimages, standing, standing_each, pair_of, preimage_of, assets_of, SIGNATURE}

pub same_kind_is : (k l : HashKind) → same_kind k l ≡ true → k ≡ l
same_kind_is Sha256 Sha256 e = refl
same_kind_is Hash256 Hash256 e = refl
same_kind_is Ripemd160 Ripemd160 e = refl
same_kind_is Hash160 Hash160 e = refl
same_kind_is k l e = absurd (false≢true e)

pub same_kind_own : (k : HashKind) → same_kind k k ≡ true
same_kind_own Sha256 = refl
same_kind_own Hash256 = refl
same_kind_own Ripemd160 = refl
same_kind_own Hash160 = refl

bytes_same : (a b : Bytes) → bytes_eq a b ≡ true → a ≡ b
bytes_same a b e = (bytes_eq-Decides a b).0 e

bytes_own : (a : Bytes) → bytes_eq a a ≡ true
bytes_own a = (bytes_eq-Decides a a).1 refl

pub same_is : (s t : Secret) → same s t ≡ true → s ≡ t
same_is (key k) (key l) e = ap key (bytes_same k l e)
same_is (preimage kind value) (preimage other bytes) e =
    let parts = and_parts (same_kind kind other) (bytes_eq value bytes) e in
    ap (λ k. preimage k value) (same_kind_is kind other parts.0) ∙ ap (λ v. preimage other v) (bytes_same value bytes parts.1)
same_is s t e = absurd (false≢true e)

pub same_own : (s : Secret) → same s s ≡ true
same_own (key k) = bytes_own k
same_own (preimage kind value) = and_from (same_kind kind kind) (bytes_eq value value) (same_kind_own kind) (bytes_own value)

-- whether two tests agree that tell the same
agree : (a b : Bool) → (a ≡ true → b ≡ true) → (b ≡ true → a ≡ true) → a ≡ b
agree a b f g = grind arith

-- the keys of an offer are those that sign
signs_same : (k : Key) (held : List Secret) → is_some (shortest (sigs_with (filter_map pair_of held) k)) ≡ has held (key k)
signs_same k [] = refl
signs_same k (preimage kind value ∷ rest) = signs_same k rest
signs_same k (key l ∷ rest) =
    let swap : bytes_eq l k ≡ bytes_eq k l =
    agree (bytes_eq l k) (bytes_eq k l)
    (λ e. (bytes_eq-Decides k l).1 (sym (bytes_same l k e)))
    (λ e. (bytes_eq-Decides l k).1 (sym (bytes_same k l e))) in
    go (bytes_eq l k) refl swap (signs_same k rest)
  where
    go : (b : Bool) → bytes_eq l k ≡ b → bytes_eq l k ≡ bytes_eq k l →
        is_some (shortest (sigs_with (filter_map pair_of rest) k)) ≡ has rest (key k) →
        is_some (shortest (sigs_with ((l, SIGNATURE) ∷ filter_map pair_of rest) k)) ≡ (bytes_eq k l || has rest (key k))
    go true e swap h = rw (sym swap, e) refl
    go false e swap h = rw (sym swap, e) h

-- those of its hash values have a known preimage, each its own
abbrev Own : Preimages → List Secret → Type 0
Own p all =
    (kind : HashKind) (value : Bytes) (other : HashKind) (bytes : Bytes) →
    has all (preimage kind value) ≡ true → has all (preimage other bytes) ≡ true →
    digest_of kind (p kind value) ≡ digest_of kind (p other bytes) → preimage kind value ≡ preimage other bytes

-- each of the held ones is named
abbrev AreNamed : List Secret → List Secret → Type 0
AreNamed all held = (s : Secret) → has held s ≡ true → has all s ≡ true

-- whether a preimage of a hash value serves another one too
abbrev tested : Preimages → HashKind → Bytes → Secret → Bool
tested p kind value (key k) = false
tested p kind value (preimage other bytes) = bytes_eq (digest_of kind (p other bytes)) (digest_of kind (p kind value))

with_key : (l : Key) (rest : List Secret) (s : Secret) → has rest s ≡ true → (same s (key l) || has rest s) ≡ true
with_key l rest s e = grind arith

knows_same : (p : Preimages) (all : List Secret) → Own p all → (kind : HashKind) (value : Bytes) → has all (preimage kind value) ≡ true →
    (held : List Secret) → AreNamed all held →
    is_some (find (λ x. bytes_eq (digest_of kind x) (digest_of kind (p kind value))) (filter_map (preimage_of p) held)) ≡ has held (preimage kind value)
knows_same p all own kind value is_named [] are = refl
knows_same p all own kind value is_named (key l ∷ rest) are =
    knows_same p all own kind value is_named rest (λ s e. are s (with_key l rest s e))
knows_same p all own kind value is_named (preimage other bytes ∷ rest) are =
    go (bytes_eq (digest_of kind (p other bytes)) (digest_of kind (p kind value))) refl test
    (knows_same p all own kind value is_named rest (λ s e. are s (later s e)))
  where
    later : (s : Secret) → has rest s ≡ true → (same s (preimage other bytes) || has rest s) ≡ true
    later s e = grind arith

    here : (same (preimage other bytes) (preimage other bytes) || has rest (preimage other bytes)) ≡ true
    here = let e = same_own (preimage other bytes) in grind arith

    test : bytes_eq (digest_of kind (p other bytes)) (digest_of kind (p kind value)) ≡ same (preimage kind value) (preimage other bytes)
    test = agree _ _
        (λ e. subst (λ s. same (preimage kind value) s ≡ true)
        (own kind value other bytes is_named (are (preimage other bytes) here) (sym (bytes_same _ _ e))) (same_own (preimage kind value)))
        (λ e. subst (λ (s : Secret). tested p kind value s ≡ true) (same_is (preimage kind value) (preimage other bytes) e) (bytes_own (digest_of kind (p kind value))))

    go : (b : Bool) → bytes_eq (digest_of kind (p other bytes)) (digest_of kind (p kind value)) ≡ b →
        bytes_eq (digest_of kind (p other bytes)) (digest_of kind (p kind value)) ≡ same (preimage kind value) (preimage other bytes) →
        is_some (find (λ x. bytes_eq (digest_of kind x) (digest_of kind (p kind value))) (filter_map (preimage_of p) rest)) ≡ has rest (preimage kind value) →
        is_some (find (λ x. bytes_eq (digest_of kind x) (digest_of kind (p kind value))) (p other bytes ∷ filter_map (preimage_of p) rest))
        ≡ (same (preimage kind value) (preimage other bytes) || has rest (preimage kind value))
    go true e t h = rw (sym t, e) refl
    go false e t h = rw (sym t, e) h

module _ (p : Preimages) (offer : Offer) (all : List Secret) (own : Own p all) (are : AreNamed all offer.secrets) where
  abbrev few : Facts
  few = facts_with offer.secrets (assets_of p offer).locks

  abbrev many : Facts
  many = facts_of (assets_of p offer)

  keys_same : (ks : List Key) → truths many (policies_of (map policy.key ks)) ≡ truths few (policies_of (map policy.key ks))
  keys_same [] = refl
  keys_same (k ∷ ks) =
      ap (λ b. b ∷ truths many (policies_of (map policy.key ks))) (signs_same k offer.secrets)
      ∙ ap (λ bs. has offer.secrets (key k) ∷ bs) (keys_same ks)

  abbrev Named : List Secret → Type 0
  Named some = (s : Secret) → has some s ≡ true → has all s ≡ true

  first_named : (xs ys : List Secret) → Named (xs ++ ys) → Named xs
  first_named xs ys h s e = h s (list_any-append (same s) xs ys ∙ rw e refl)

  or_true : (b : Bool) → (b || true) ≡ true
  or_true b = grind arith

  rest_named : (xs ys : List Secret) → Named (xs ++ ys) → Named ys
  rest_named xs ys h s e = h s (list_any-append (same s) xs ys ∙ rw e (or_true (has xs s)))

  mutual
    pub truth_same : (t : Tree) → Named (named t) → is_true many (plain (standing p t)) ≡ is_true few (plain t)
    truth_same tree.just_0 h = refl
    truth_same tree.just_1 h = refl
    truth_same (tree.pk_k k) h = signs_same k offer.secrets
    truth_same (tree.pk_h k) h = signs_same k offer.secrets
    truth_same (tree.older n) h = refl
    truth_same (tree.after n) h = refl
    truth_same (tree.hash kind value) h =
        knows_same p all own kind value (h (preimage kind value) (let e = same_own (preimage kind value) in grind arith)) offer.secrets are
    truth_same (tree.and_or x y z) h =
        let xy = first_named (named x ++ named y) (named z) h in
        let a = truth_same x (first_named (named x) (named y) xy) in
        let b = truth_same y (rest_named (named x) (named y) xy) in
        let c = truth_same z (rest_named (named x ++ named y) (named z) h) in
        rw (a, b, c) refl
    truth_same (tree.two kind x y) h =
        let a = truth_same x (first_named (named x) (named y) h) in
        let b = truth_same y (rest_named (named x) (named y) h) in
        joined kind a b
      where
        joined : (kind : Two) → is_true many (plain (standing p x)) ≡ is_true few (plain x) → is_true many (plain (standing p y)) ≡ is_true few (plain y) →
            is_true many (plain (tree.two kind (standing p x) (standing p y))) ≡ is_true few (plain (tree.two kind x y))
        joined two_kind.AndV a b = rw (a, b) refl
        joined two_kind.AndB a b = rw (a, b) refl
        joined two_kind.OrB a b = rw (a, b) refl
        joined two_kind.OrC a b = rw (a, b) refl
        joined two_kind.OrD a b = rw (a, b) refl
        joined two_kind.OrI a b = rw (a, b) refl
    truth_same (tree.thresh k xs) h = ap (λ bs. nat_le k (how_many bs)) (truths_same xs h)
    truth_same (tree.multi k ks) h = ap (λ bs. nat_le k (how_many bs)) (keys_same ks)
    truth_same (tree.wrap w x) h = truth_same x h

    truths_same : (xs : Trees) → Named (named_by xs) → truths many (plain_each (standing_each p xs)) ≡ truths few (plain_each xs)
    truths_same none h = refl
    truths_same (more x xs) h =
        ap (λ b. b ∷ truths many (plain_each (standing_each p xs))) (truth_same x (first_named (named x) (named_by xs) h))
        ∙ ap (λ bs. is_true few (plain x) ∷ bs) (truths_same xs (rest_named (named x) (named_by xs) h))

  -- and so of the simple policies
  pub enough_same : (t : Tree) → Named (named t) → is_true many (simple (plain (standing p t))) ≡ enough t offer
  enough_same t h =
      simple_keeps_truth many (plain (standing p t)) ∙ truth_same t h ∙ sym (simple_keeps_truth few (plain t))
