-- An offer of a sane tree is enough exactly where its assets satisfy the tree with stand-ins.
use Rattle.std.proofs.Common.{◌≡◌, inl, inr, ℕ, zero, suc, ◌+◌, ◌^◌, ◌<◌, ◌≤◌, true, false, List, [], ◌∷◌, ◌++◌, filter_map, replicate, reverse, Option, Some, None, refl, sym, ◌∙◌, ap, subst, arith}
use Rattle.std.specs.Prelude.{⊤, IfSome, All, slice_index}
use Rattle.std.specs.List.{IsDistinct, AllByRecursion}
use Rattle.std.specs.Str.{bytes_eq}
use Rattle.std.proofs.lemmas.Bool.{cases_Bool, and_parts}
use Rattle.std.proofs.lemmas.List.{reverse-reverse}
use Rattle.std.proofs.lemmas.Slice.Eq.{bytes_eq-Decides}
use Rattle.def_hash.proofs.Lengths.{digest_has_its_length, digest_has_bytes}
use Rattle.def_script.specs.Bytes.{Bytes}
use Rattle.def_tree.specs.Tree as tree
use Rattle.def_tree.specs.Tree.{Tree, Trees}
use Rattle.def_tree.specs.Range.{IsWritable, AreWritable, IsKey, count}
use Rattle.def_types.specs.Row.{Rows, AllHold}
use Rattle.def_types.specs.System.{gives, gives_each, IsMet, AreMet}
use Rattle.def_types.specs.Malleable.{malleability}
use Rattle.def_assets.specs.Assets.{AreAssets, IsSignature, IsPreimage, same_pair}
use Rattle.def_sane.proofs.Meanings.{sane_means}
use Rattle.def_satisfaction.specs.Rows.{row}
use Rattle.def_satisfaction.specs.Satisfaction.{canonical}
use Rattle.def_policy.specs.Plain.{plain}
use Rattle.def_policy.specs.Truth.{facts_of}
use Rattle.def_policy.proofs.Truths.{simple_keeps_truth}
use Rattle.ms_policy_laws.proofs.Satisfied.{says}
use Rattle.def_ways.specs.declared.Delay.TheVariants.{Blocks, Units}
use Rattle.def_ways.specs.declared.Delay.{Delay}
use Rattle.def_ways.specs.declared.Moment.TheVariants.{Height, Time}
use Rattle.def_ways.specs.declared.Moment.{Moment}
use Rattle.def_ways.specs.Secret.{Secret, key, preimage, named, named_by, secrets}
use Rattle.def_ways.specs.Offer.{Offer, IsOffer, IsDelay, IsMoment, AreSomeOf, has, version_of, sequence_of, locktime_of}
use Rattle.def_ways.specs.StandIn.{Preimages, standing, standing_each, AreStandIns, SIGNATURE, pair_of, preimage_of, assets_of}
use Rattle.def_ways.specs.Laws.{EnoughIsSatisfied}
use Rattle.ms_way_laws.specs.Listed.{In, AreOnce}
use Rattle.ms_way_laws.proofs.Listed.{in_either}
use Rattle.ms_way_laws.proofs.Lists.{of_map, of_found}
use Rattle.ms_way_laws.proofs.SomeOf.{has_in, in_has, in_all, in_firsts, of_firsts}
use Rattle.ms_way_laws.proofs.SameTruth.{enough_same}
use Rattle.ms_way_laws.proofs.Tried.{once_secrets}

-- ---- the tree with stand-ins is as writable and as malleable

module _ (p : Preimages) where
  standing_count : (xs : Trees) → count (standing_each p xs) ≡ count xs
  standing_count tree.none = refl
  standing_count (tree.more x xs) = ap (λ n. n + 1) (standing_count xs)

  mutual
    standing_writable : (t : Tree) → IsWritable t → IsWritable (standing p t)
    standing_writable tree.just_0 h = tt
    standing_writable tree.just_1 h = tt
    standing_writable (tree.pk_k k) h = h
    standing_writable (tree.pk_h k) h = h
    standing_writable (tree.older n) h = h
    standing_writable (tree.after n) h = h
    standing_writable (tree.hash kind value) h = record { length = digest_has_its_length kind (p kind value); bytes = digest_has_bytes kind (p kind value) }
    standing_writable (tree.and_or x y z) h = (standing_writable x h.0, standing_writable y h.1, standing_writable z h.2)
    standing_writable (tree.two kind x y) h = (standing_writable x h.0, standing_writable y h.1)
    standing_writable (tree.thresh k xs) h = (h.0, subst (λ n. 1 ≤ n) (sym (standing_count xs)) h.1, standing_each_writable xs h.2)
    standing_writable (tree.multi k ks) h = h
    standing_writable (tree.wrap w x) h = standing_writable x h

    standing_each_writable : (xs : Trees) → AreWritable xs → AreWritable (standing_each p xs)
    standing_each_writable tree.none h = tt
    standing_each_writable (tree.more x xs) h = (standing_writable x h.0, standing_each_writable xs h.1)

  module _ {A : Type 0} (rows : Rows A) where
    mutual
      standing_gives : (t : Tree) → gives rows (standing p t) ≡ gives rows t
      standing_gives tree.just_0 = refl
      standing_gives tree.just_1 = refl
      standing_gives (tree.pk_k k) = refl
      standing_gives (tree.pk_h k) = refl
      standing_gives (tree.older n) = refl
      standing_gives (tree.after n) = refl
      standing_gives (tree.hash kind value) = refl
      standing_gives (tree.and_or x y z) =
          ap (λ a. (rows.and_or a (gives rows (standing p y)) (gives rows (standing p z))).gives) (standing_gives x)
          ∙ ap (λ b. (rows.and_or (gives rows x) b (gives rows (standing p z))).gives) (standing_gives y)
          ∙ ap (λ c. (rows.and_or (gives rows x) (gives rows y) c).gives) (standing_gives z)
      standing_gives (tree.two kind x y) =
          ap (λ a. (rows.two kind a (gives rows (standing p y))).gives) (standing_gives x)
          ∙ ap (λ b. (rows.two kind (gives rows x) b).gives) (standing_gives y)
      standing_gives (tree.thresh k xs) = ap (λ as_given. (rows.thresh k as_given).gives) (standing_each_gives xs)
      standing_gives (tree.multi k ks) = refl
      standing_gives (tree.wrap w x) = ap (λ a. (rows.wrap w a).gives) (standing_gives x)

      standing_each_gives : (xs : Trees) → gives_each rows (standing_each p xs) ≡ gives_each rows xs
      standing_each_gives tree.none = refl
      standing_each_gives (tree.more x xs) =
          ap (λ a. a ∷ gives_each rows (standing_each p xs)) (standing_gives x) ∙ ap (λ ys. gives rows x ∷ ys) (standing_each_gives xs)

    mutual
      standing_met : (t : Tree) → IsMet rows t → IsMet rows (standing p t)
      standing_met tree.just_0 h = h
      standing_met tree.just_1 h = h
      standing_met (tree.pk_k k) h = h
      standing_met (tree.pk_h k) h = h
      standing_met (tree.older n) h = h
      standing_met (tree.after n) h = h
      standing_met (tree.hash kind value) h = h
      standing_met (tree.and_or x y z) h = (
        standing_met x h.0,
        standing_met y h.1,
        standing_met z h.2,
        subst (λ a. AllHold (rows.and_or a (gives rows (standing p y)) (gives rows (standing p z))).needs) (sym (standing_gives x))
            (subst (λ b. AllHold (rows.and_or (gives rows x) b (gives rows (standing p z))).needs) (sym (standing_gives y))
            (subst (λ c. AllHold (rows.and_or (gives rows x) (gives rows y) c).needs) (sym (standing_gives z)) h.3)),
      )
      standing_met (tree.two kind x y) h = (
        standing_met x h.0,
        standing_met y h.1,
        subst (λ a. AllHold (rows.two kind a (gives rows (standing p y))).needs) (sym (standing_gives x))
            (subst (λ b. AllHold (rows.two kind (gives rows x) b).needs) (sym (standing_gives y)) h.2),
      )
      standing_met (tree.thresh k xs) h = (standing_each_met xs h.0, subst (λ ys. AllHold (rows.thresh k ys).needs) (sym (standing_each_gives xs)) h.1)
      standing_met (tree.multi k ks) h = h
      standing_met (tree.wrap w x) h = (standing_met x h.0, subst (λ a. AllHold (rows.wrap w a).needs) (sym (standing_gives x)) h.1)

      standing_each_met : (xs : Trees) → AreMet rows xs → AreMet rows (standing_each p xs)
      standing_each_met tree.none h = tt
      standing_each_met (tree.more x xs) h = (standing_met x h.0, standing_each_met xs h.1)

-- ---- the assets of an offer are assets

module _ {A : Type 0} (P : A → Type 0) where
  all_in : (xs : List A) → All P xs → (x : A) → In x xs → P x
  all_in [] h x i = absurd i
  all_in (y ∷ xs) h x (inl e) = subst P (sym e) (h 0 y (omega arith))
  all_in (y ∷ xs) h x (inr i) = all_in xs (λ k d l. h (suc k) d (omega (arith, l))) x i

  each_in : (xs : List A) → ((x : A) → In x xs → P x) → All P xs
  each_in [] h k d l = absurd (omega (arith, l))
  each_in (x ∷ xs) h zero d l = h x (inl refl)
  each_in (x ∷ xs) h (suc k) d l = each_in xs (λ y i. h y (inr i)) k d (omega (arith, l))

  by_recursion : (xs : List A) → ((x : A) → In x xs → P x) → AllByRecursion P xs
  by_recursion [] h = tt
  by_recursion (x ∷ xs) h = (h x (inl refl), by_recursion xs (λ y i. h y (inr i)))

abbrev IsKeyOf : Secret → Type 0
IsKeyOf (key k) = IsKey k
IsKeyOf (preimage kind value) = ⊤

mutual
  named_keys : (t : Tree) → IsWritable t → (s : Secret) → In s (named t) → IsKeyOf s
  named_keys tree.just_0 h s i = absurd i
  named_keys tree.just_1 h s i = absurd i
  named_keys (tree.pk_k k) h s (inl e) = subst IsKeyOf (sym e) h
  named_keys (tree.pk_k k) h s (inr i) = absurd i
  named_keys (tree.pk_h k) h s (inl e) = subst IsKeyOf (sym e) h
  named_keys (tree.pk_h k) h s (inr i) = absurd i
  named_keys (tree.older n) h s i = absurd i
  named_keys (tree.after n) h s i = absurd i
  named_keys (tree.hash kind value) h s (inl e) = subst IsKeyOf (sym e) tt
  named_keys (tree.hash kind value) h s (inr i) = absurd i
  named_keys (tree.and_or x y z) h s i = elim (in_either s (named x ++ named y) (named z) i) [
    | inl j ↦ elim (in_either s (named x) (named y) j) [ inl k ↦ named_keys x h.0 s k | inr k ↦ named_keys y h.1 s k ]
    | inr j ↦ named_keys z h.2 s j
  ]
  named_keys (tree.two kind x y) h s i = elim (in_either s (named x) (named y) i) [ inl k ↦ named_keys x h.0 s k | inr k ↦ named_keys y h.1 s k ]
  named_keys (tree.thresh k xs) h s i = named_keys_each xs h.2 s i
  named_keys (tree.multi k ks) h s i =
      let m = of_map key s ks i in subst IsKeyOf (sym m.is) (all_in IsKey ks h.2 m.source m.listed)
  named_keys (tree.wrap w x) h s i = named_keys x h s i

  named_keys_each : (xs : Trees) → AreWritable xs → (s : Secret) → In s (named_by xs) → IsKeyOf s
  named_keys_each tree.none h s i = absurd i
  named_keys_each (tree.more x xs) h s i = elim (in_either s (named x) (named_by xs) i) [
    | inl k ↦ named_keys x h.0 s k
    | inr k ↦ named_keys_each xs h.1 s k
  ]

once_some : (some all : List Secret) → AreOnce all → AreSomeOf some all → AreOnce some
once_some [] all o are = tt
once_some (x ∷ some) [] o are = absurd are
once_some (x ∷ some) (y ∷ all) o (inl a) = ((λ i. o.0 (subst (λ z. In z all) a.0 (in_all some all a.1 x i))), once_some some all o.1 a.1)
once_some (x ∷ some) (y ∷ all) o (inr a) = once_some (x ∷ some) all o.1 a

-- what is made of a secret
abbrev IsPairOf : Secret → Option (Bytes × Bytes) → Type 0
IsPairOf s None = ⊤
IsPairOf s (Some pair) = (s ≡ key pair.0) × (pair.1 ≡ SIGNATURE)

pair_is : (s : Secret) → IsPairOf s (pair_of s)
pair_is (key k) = (refl, refl)
pair_is (preimage kind value) = tt

low_signature : (n i : ℕ) → slice_index (replicate n 0x30) i < 256
low_signature zero i = omega arith
low_signature (suc n) zero = omega arith
low_signature (suc n) (suc i) = low_signature n i

signature_is : IsSignature SIGNATURE
signature_is = record { some = omega arith; few = omega arith; bytes = low_signature 72 }

module _ (t : Tree) (p : Preimages) (offer : Offer) (writable : IsWritable t) (are : AreStandIns t p) (fits : IsOffer t offer) where
  offered : (s : Secret) → In s offer.secrets → In s (secrets t)
  offered s i = in_all offer.secrets (secrets t) fits.secrets s i

  pair_from : (pair : Bytes × Bytes) → In pair (filter_map pair_of offer.secrets) → In (key pair.0) offer.secrets × (pair.1 ≡ SIGNATURE)
  pair_from pair i =
      let f = of_found pair_of pair offer.secrets i in
      let is = subst (λ o. IsPairOf f.source o) f.is (pair_is f.source) in
      (subst (λ s. In s offer.secrets) is.0 f.listed, is.1)

  pairs_distinct : (some : List Secret) → AreOnce some → IsDistinct same_pair (filter_map pair_of some)
  unfolding IsDistinct
  pairs_distinct [] o = tt
  pairs_distinct (preimage kind value ∷ some) o = pairs_distinct some o.1
  pairs_distinct (key k ∷ some) o = (
    by_recursion (λ y. same_pair (k, SIGNATURE) y ≡ false) (filter_map pair_of some) (λ y i.
        let f = of_found pair_of y some i in
        let is = subst (λ o. IsPairOf f.source o) f.is (pair_is f.source) in
        elim (cases_Bool (same_pair (k, SIGNATURE) y)) [
          | inl e ↦
              let same : k ≡ y.0 = (bytes_eq-Decides k y.0).0 (and_parts (bytes_eq k y.0) (bytes_eq SIGNATURE y.1) e).0 in
              absurd (o.0 (subst (λ s. In s some) (is.0 ∙ ap key (sym same)) f.listed))
          | inr e ↦ e
        ]),
    pairs_distinct some o.1,
  )

  abbrev IsPreimageOf : Secret → Option Bytes → Type 0
  IsPreimageOf s None = ⊤
  IsPreimageOf s (Some bytes) = has (secrets t) s ≡ true → IsPreimage bytes

  preimage_is : (s : Secret) → IsPreimageOf s (preimage_of p s)
  preimage_is (key k) = tt
  preimage_is (preimage kind value) = are.preimages kind value

  small_version : (d : Option Delay) → version_of d < 2 ^ 32
  small_version None = omega arith
  small_version (Some d) = omega arith

  small_sequence : (d : Option Delay) → IfSome d IsDelay → sequence_of d < 2 ^ 32
  small_sequence None h = omega arith
  small_sequence (Some (Blocks n)) h = omega (arith, h)
  small_sequence (Some (Units n)) h = omega (arith, h)

  small_locktime : (m : Option Moment) → IfSome m IsMoment → locktime_of m < 2 ^ 32
  small_locktime None h = omega arith
  small_locktime (Some (Height n)) h = let l = h.1 in omega (arith, l)
  small_locktime (Some (Time n)) h = let l = h.1 in omega (arith, l)

  are_assets : AreAssets (assets_of p offer)
  are_assets = record {
    keys = each_in (λ pair. IsKey pair.0) (filter_map pair_of offer.secrets) (λ pair i.
        named_keys t writable (key pair.0) (of_firsts (key pair.0) (named t) (offered (key pair.0) (pair_from pair i).0)));
    signatures = each_in (λ pair. IsSignature pair.1) (filter_map pair_of offer.secrets) (λ pair i.
        subst IsSignature (sym (pair_from pair i).1) signature_is);
    distinct = pairs_distinct offer.secrets (once_some offer.secrets (secrets t) (once_secrets t) fits.secrets);
    preimages = each_in IsPreimage (filter_map (preimage_of p) offer.secrets) (λ x i.
        let f = of_found (preimage_of p) x offer.secrets i in
        subst (λ o. IsPreimageOf f.source o) f.is (preimage_is f.source) (in_has f.source (secrets t) (offered f.source f.listed)));
    version = small_version offer.delay;
    sequence = small_sequence offer.delay fits.delay;
    locktime = small_locktime offer.moment fits.moment;
  }

pub enough_is_satisfied : EnoughIsSatisfied
enough_is_satisfied t p offer writable sane are fits =
    let assets = are_assets t p offer writable are fits in
    let says = says (assets_of p offer) assets (standing p t) (standing_writable p t writable) (standing_met p malleability t ((sane_means t).0 sane).1) in
    let same = sym (simple_keeps_truth (facts_of (assets_of p offer)) (plain (standing p t)))
    ∙ enough_same p offer (secrets t) are.own (λ s e. in_has s (secrets t) (offered t p offer writable are fits s (has_in s offer.secrets e)))
    t (λ s e. in_has s (secrets t) (in_firsts s (named t) (has_in s (named t) e))) in (
      (λ e. let one = says.to (same ∙ e) in (reverse one.0, subst (row (canonical (assets_of p offer)) (standing p t)).sat (sym (reverse-reverse one.0)) one.1)),
      (λ w. sym same ∙ says.from (reverse w.0, w.1)),
    )
