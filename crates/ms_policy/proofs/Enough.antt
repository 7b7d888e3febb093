-- The cost of a policy is the least number of keys that suffice.
use Rattle.std.proofs.Common.{◌≡◌, ℕ, zero, suc, ◌+◌, ◌≤◌, Bool, true, false, ◌||◌, List, [], ◌∷◌, ◌++◌, length, map, Option, Some, None, refl, sym, ◌∙◌, ap, inl, inr, arith, if◌then◌else◌}
use Rattle.std.specs.List.{list_any, IsDistinct, AllByRecursion}
use Rattle.std.specs.Str.{bytes_eq}
use Rattle.std.proofs.lemmas.Bool.{false≢true, leb-true}
use Rattle.std.proofs.lemmas.Bool.Decides.{nat_tests}
use Rattle.std.proofs.lemmas.List.{map-append, length-append}
use Rattle.std.proofs.lemmas.List.Folds.{list_any-append}
use Rattle.std.proofs.lemmas.Option.{none-some}
use Rattle.std.proofs.lemmas.Slice.Eq.{bytes_eq-Decides}
use Rattle.def_tree.specs.Tree.{Key}
use Rattle.def_policy.specs.Policy.{Policy, Policies, never, always, key, older, after, hash, all, any, thresh, none, more}
use Rattle.def_policy.specs.Truth.{how_many, is_true, truths, with_keys}
use Rattle.def_policy.specs.Keys.{keys, keys_of, HasDistinctKeys, AreLeastKeys}
use Rattle.def_policy.proofs.Truths.{all_how_many, any_how_many}
use Rattle.ms_policy.specs.Scaffolding.Cost.{lesser, plus, least_sum, count, and_also, cost, costs}
use Rattle.ms_policy.proofs.Sums.{lesser_is, plus_is, lesser_left, lesser_right}

abbrev signs : List Key → Key → Bool
signs signers k = list_any (bytes_eq k) signers

-- how many of these keys sign
abbrev hits : List Key → List Key → ℕ
hits signers ks = how_many (map (signs signers) ks)

how_many-append : (a b : List Bool) → how_many (a ++ b) ≡ how_many a + how_many b
how_many-append [] b = omega arith
how_many-append (x ∷ a) b = let h = how_many-append a b in omega arith

hits-append : (signers a b : List Key) → hits signers (a ++ b) ≡ hits signers a + hits signers b
hits-append signers a b = ap how_many (map-append (signs signers) a b) ∙ how_many-append (map (signs signers) a) (map (signs signers) b)

length-truths : (signers : List Key) (xs : Policies) → length (truths (with_keys signers) xs) ≡ count xs
length-truths signers none = refl
length-truths signers (more x xs) = let h = length-truths signers xs in omega arith

-- what a truth counts for
abbrev number : Bool → ℕ
number b = if b then 1 else 0

one_of : (b : Bool) → b ≡ true → number b ≡ 1
one_of b e = rw e refl

none_of : (b : Bool) → b ≡ false → number b ≡ 0
none_of b e = rw e refl

-- where keys suffice, the cost is no more than those of them that the policy has
pub record NoMore (signers : List Key) (found : Option ℕ) (ks : List Key) : Type 0 where
  pub least : ℕ
  pub is : found ≡ Some least
  pub most : least ≤ hits signers ks

-- a further number only makes the least sum less
one_more : (o : Option ℕ) (numbers : List ℕ) (k m : ℕ) → least_sum (suc k) numbers ≡ Some m →
    (n : ℕ) × (least_sum (suc k) (and_also o numbers) ≡ Some n) × (n ≤ m)
one_more None numbers k m e = (m, e, omega arith)
one_more (Some c) numbers k m e =
    let sum = lesser_right (plus c (least_sum k numbers)) m in
    (sum.0, ap (λ o. lesser (plus c (least_sum k numbers)) o) e ∙ sum.1, sum.2)

need_more : (signers : List Key) (x : Policy) (xs : Policies) (k : ℕ) (b : Bool) → is_true (with_keys signers) x ≡ b →
    (is_true (with_keys signers) x ≡ true → NoMore signers (cost x) (keys x)) →
    ((n : ℕ) → n ≤ how_many (truths (with_keys signers) xs) → NoMore signers (least_sum n (costs xs)) (keys_of xs)) →
    suc k ≤ how_many (truths (with_keys signers) (more x xs)) → NoMore signers (least_sum (suc k) (costs (more x xs))) (keys_of (more x xs))
need_more signers x xs k true e here rest h =
    let one = one_of (is_true (with_keys signers) x) e in
    let first = here e in
    let others = rest k (omega arith) in
    let split = hits-append signers (keys x) (keys_of xs) in
    let sum = lesser_left (first.least + others.least) (least_sum (suc k) (costs xs)) in
    let is : least_sum (suc k) (and_also (cost x) (costs xs)) ≡ Some sum.0 =
    ap (λ o. least_sum (suc k) (and_also o (costs xs))) first.is ∙
    ap (λ o. lesser (plus first.least o) (least_sum (suc k) (costs xs))) others.is ∙ sum.1 in
    let a = first.most in
    let b = others.most in
    let c = sum.2 in
    record { least = sum.0; is = is; most = omega arith }
need_more signers x xs k false e here rest h =
    let zero_of = none_of (is_true (with_keys signers) x) e in
    let others = rest (suc k) (omega arith) in
    let split = hits-append signers (keys x) (keys_of xs) in
    let sum = one_more (cost x) (costs xs) k others.least others.is in
    let b = others.most in
    let c = sum.2 in
    record { least = sum.0; is = sum.1; most = omega arith }

mutual
  needs : (signers : List Key) (p : Policy) → is_true (with_keys signers) p ≡ true → NoMore signers (cost p) (keys p)
  needs signers never e = absurd (false≢true e)
  needs signers always e = record { least = 0; is = refl; most = omega arith }
  needs signers (key k) e = let one = one_of (signs signers k) e in record { least = 1; is = refl; most = omega arith }
  needs signers (older n) e = record { least = 0; is = refl; most = omega arith }
  needs signers (after n) e = record { least = 0; is = refl; most = omega arith }
  needs signers (hash kind value) e = record { least = 0; is = refl; most = omega arith }
  needs signers (all parts) e =
      let whole = leb-true _ _ (sym (all_how_many (truths (with_keys signers) parts)) ∙ e) in
      let size = length-truths signers parts in
      need_some signers parts (count parts) (omega arith)
  needs signers (any parts) e = need_some signers parts 1 (leb-true _ _ (sym (any_how_many (truths (with_keys signers) parts)) ∙ e))
  needs signers (thresh k parts) e = need_some signers parts k (leb-true _ _ e)

  need_some : (signers : List Key) (xs : Policies) (k : ℕ) → k ≤ how_many (truths (with_keys signers) xs) → NoMore signers (least_sum k (costs xs)) (keys_of xs)
  need_some signers xs zero h = record { least = 0; is = refl; most = omega arith }
  need_some signers none (suc k) h = absurd (omega arith)
  need_some signers (more x xs) (suc k) h =
      need_more signers x xs k (is_true (with_keys signers) x) refl (λ e. needs signers x e) (λ n. need_some signers xs n) h

-- these keys are some of those, in order
pub data Picked : List Key → List Key → Type 0 where
  done : Picked [] []
  with : (k : Key) (some ks : List Key) → Picked some ks → Picked (k ∷ some) (k ∷ ks)
  without : (k : Key) (some ks : List Key) → Picked some ks → Picked some (k ∷ ks)

pub picked_none : (ks : List Key) → Picked [] ks
picked_none [] = done
picked_none (k ∷ ks) = without k [] ks (picked_none ks)

pub picked_append : (a ks b ls : List Key) → Picked a ks → Picked b ls → Picked (a ++ b) (ks ++ ls)
picked_append a ks b ls done q = q
picked_append a ks b ls (with k c ms p) q = with k (c ++ b) (ms ++ ls) (picked_append c ms b ls p q)
picked_append a ks b ls (without k c ms p) q = without k (c ++ b) (ms ++ ls) (picked_append c ms b ls p q)

picked_all : (P : Key → Type 0) (some ks : List Key) → Picked some ks → AllByRecursion P ks → AllByRecursion P some
picked_all P some ks done h = tt
picked_all P some ks (with k a ls p) h = (h.0, picked_all P a ls p h.1)
picked_all P some ks (without k a ls p) h = picked_all P a ls p h.1

pub picked_distinct : (some ks : List Key) → Picked some ks → IsDistinct bytes_eq ks → IsDistinct bytes_eq some
unfolding IsDistinct
picked_distinct some ks done h = tt
picked_distinct some ks (with k a ls p) h = (picked_all (λ y. bytes_eq k y ≡ false) a ls p h.0, picked_distinct a ls p h.1)
picked_distinct some ks (without k a ls p) h = picked_distinct a ls p h.1

-- more keys suffice too
abbrev Among : List Key → List Key → Type 0
Among few many = (k : Key) → signs few k ≡ true → signs many k ≡ true

among_left : (a b : List Key) → Among a (a ++ b)
among_left a b k e = list_any-append (bytes_eq k) a b ∙ rw e refl

among_right : (a b : List Key) → Among b (a ++ b)
among_right a b k e = list_any-append (bytes_eq k) a b ∙ or_true (signs a k) (signs b k) e
  where
    or_true : (x y : Bool) → y ≡ true → (x || y) ≡ true
    or_true true y e = refl
    or_true false y e = e

one_grows : (a b : Bool) → (a ≡ true → b ≡ true) → number a ≤ number b
one_grows true b h = let e = one_of b (h refl) in omega arith
one_grows false b h = omega arith

mutual
  grows : (few many : List Key) → Among few many → (p : Policy) → is_true (with_keys few) p ≡ true → is_true (with_keys many) p ≡ true
  grows few many among never e = e
  grows few many among always e = refl
  grows few many among (key k) e = among k e
  grows few many among (older n) e = refl
  grows few many among (after n) e = refl
  grows few many among (hash kind value) e = refl
  grows few many among (all parts) e =
      let h = leb-true _ _ (sym (all_how_many (truths (with_keys few) parts)) ∙ e) in
      let a = length-truths few parts in
      let b = length-truths many parts in
      let c = grow few many among parts in
      all_how_many (truths (with_keys many) parts) ∙ grind (arith, nat_tests)
  grows few many among (any parts) e =
      let h = leb-true _ _ (sym (any_how_many (truths (with_keys few) parts)) ∙ e) in
      let c = grow few many among parts in
      any_how_many (truths (with_keys many) parts) ∙ grind (arith, nat_tests)
  grows few many among (thresh k parts) e =
      let h = leb-true _ _ e in
      let c = grow few many among parts in
      grind (arith, nat_tests)

  grow : (few many : List Key) → Among few many → (xs : Policies) → how_many (truths (with_keys few) xs) ≤ how_many (truths (with_keys many) xs)
  grow few many among none = omega arith
  grow few many among (more x xs) =
      let h = grow few many among xs in
      let e = one_grows (is_true (with_keys few) x) (is_true (with_keys many) x) (grows few many among x) in
      omega arith

-- so many of the policy's keys suffice as it costs
pub record Signers (n : ℕ) (ks : List Key) : Type 0 where
  pub signers : List Key
  pub size : length signers ≡ n
  pub picked : Picked signers ks

same : (a b : ℕ) → Some a ≡ Some b → a ≡ b
same a b e = cc

left_out : (x : Policy) (xs : Policies) (k n : ℕ) →
    (s : Signers n (keys_of xs)) × (suc k ≤ how_many (truths (with_keys s.signers) xs)) →
    (s : Signers n (keys_of (more x xs))) × (suc k ≤ how_many (truths (with_keys s.signers) (more x xs)))
left_out x xs k n some =
    let enough = some.1 in (
      record {
        signers = some.0.signers;
        size = some.0.size;
        picked = picked_append [] (keys x) some.0.signers (keys_of xs) (picked_none (keys x)) some.0.picked;
      },
      omega arith,
    )

taken : (x : Policy) (xs : Policies) (k n c : ℕ) →
    (s : Signers c (keys x)) × (is_true (with_keys s.signers) x ≡ true) →
    (m : ℕ) × (least_sum k (costs xs) ≡ Some m) × (c + m ≡ n) →
    ((m : ℕ) → least_sum k (costs xs) ≡ Some m → (s : Signers m (keys_of xs)) × (k ≤ how_many (truths (with_keys s.signers) xs))) →
    (s : Signers n (keys_of (more x xs))) × (suc k ≤ how_many (truths (with_keys s.signers) (more x xs)))
taken x xs k n c first sum rest =
    let others = rest sum.0 sum.1 in
    let a : List Key = first.0.signers in
    let b : List Key = others.0.signers in
    let one = one_of (is_true (with_keys (a ++ b)) x) (grows a (a ++ b) (among_left a b) x first.1) in
    let more = grow b (a ++ b) (among_right a b) xs in
    let enough = others.1 in
    let whole = length-append a b in
    let here = first.0.size in
    let there = others.0.size in
    let adds = sum.2 in (
      record {
        signers = a ++ b;
        size = omega arith;
        picked = picked_append a (keys x) b (keys_of xs) first.0.picked others.0.picked;
      },
      omega arith,
    )

more_suffice : (x : Policy) (xs : Policies) (k n : ℕ) (o : Option ℕ) → cost x ≡ o →
    ((m : ℕ) → cost x ≡ Some m → (s : Signers m (keys x)) × (is_true (with_keys s.signers) x ≡ true)) →
    ((j m : ℕ) → least_sum j (costs xs) ≡ Some m → (s : Signers m (keys_of xs)) × (j ≤ how_many (truths (with_keys s.signers) xs))) →
    least_sum (suc k) (and_also (cost x) (costs xs)) ≡ Some n →
    (s : Signers n (keys_of (more x xs))) × (suc k ≤ how_many (truths (with_keys s.signers) (more x xs)))
more_suffice x xs k n None is here rest e =
    left_out x xs k n (rest (suc k) n (ap (λ o. least_sum (suc k) (and_also o (costs xs))) (sym is) ∙ e))
more_suffice x xs k n (Some c) is here rest e =
    elim (lesser_is (plus c (least_sum k (costs xs))) (least_sum (suc k) (costs xs)) n (ap (λ o. least_sum (suc k) (and_also o (costs xs))) (sym is) ∙ e)) [
      | inl f ↦ taken x xs k n c (here c is) (plus_is c (least_sum k (costs xs)) n f) (rest k)
      | inr f ↦ left_out x xs k n (rest (suc k) n f)
    ]

mutual
  suffice : (p : Policy) (n : ℕ) → cost p ≡ Some n → (s : Signers n (keys p)) × (is_true (with_keys s.signers) p ≡ true)
  suffice never n e = absurd (none-some n e)
  suffice always n e = (record { signers = []; size = same 0 n e; picked = done }, refl)
  suffice (key k) n e = (record { signers = k ∷ []; size = same 1 n e; picked = with k [] [] done }, ap (λ b. b || false) ((bytes_eq-Decides k k).1 refl))
  suffice (older m) n e = (record { signers = []; size = same 0 n e; picked = done }, refl)
  suffice (after m) n e = (record { signers = []; size = same 0 n e; picked = done }, refl)
  suffice (hash kind value) n e = (record { signers = []; size = same 0 n e; picked = done }, refl)
  suffice (all parts) n e =
      let some = some_suffice parts (count parts) n e in
      let enough = some.1 in
      let size = length-truths some.0.signers parts in
      (some.0, all_how_many (truths (with_keys some.0.signers) parts) ∙ grind (arith, nat_tests))
  suffice (any parts) n e =
      let some = some_suffice parts 1 n e in
      let enough = some.1 in
      (some.0, any_how_many (truths (with_keys some.0.signers) parts) ∙ grind (arith, nat_tests))
  suffice (thresh k parts) n e =
      let some = some_suffice parts k n e in
      let enough = some.1 in
      (some.0, grind (arith, nat_tests))

  some_suffice : (xs : Policies) (k n : ℕ) → least_sum k (costs xs) ≡ Some n →
      (s : Signers n (keys_of xs)) × (k ≤ how_many (truths (with_keys s.signers) xs))
  some_suffice xs zero n e = (record { signers = []; size = same 0 n e; picked = picked_none (keys_of xs) }, omega arith)
  some_suffice none (suc k) n e = absurd (none-some n e)
  some_suffice (more x xs) (suc k) n e =
      more_suffice x xs k n (cost x) refl (suffice x) (λ j m. some_suffice xs j m) e

-- of distinct keys no more sign than there are signers
later_differ : (signer k : Key) (ks : List Key) → bytes_eq k signer ≡ true → AllByRecursion (λ y. bytes_eq k y ≡ false) ks → how_many (map (λ y. bytes_eq y signer) ks) ≡ 0
later_differ signer k [] e h = refl
later_differ signer k (y ∷ ks) e h =
    let rest = later_differ signer k ks e h.1 in
    let differs = go (bytes_eq y signer) refl in
    let zero_of = none_of (bytes_eq y signer) differs in
    omega arith
  where
    go : (b : Bool) → bytes_eq y signer ≡ b → bytes_eq y signer ≡ false
    go false f = f
    go true f =
        let a = (bytes_eq-Decides k signer).0 e in
        let b = (bytes_eq-Decides y signer).0 f in
        absurd (false≢true (sym h.0 ∙ (bytes_eq-Decides k y).1 (a ∙ sym b)))

at_most_one_more : (signer k : Key) (ks : List Key) (b : Bool) → bytes_eq k signer ≡ b → AllByRecursion (λ y. bytes_eq k y ≡ false) ks →
    how_many (map (λ y. bytes_eq y signer) ks) ≤ 1 → how_many (map (λ y. bytes_eq y signer) (k ∷ ks)) ≤ 1
at_most_one_more signer k ks true e h few =
    let one = one_of (bytes_eq k signer) e in
    let rest = later_differ signer k ks e h in
    omega arith
at_most_one_more signer k ks false e h few = let zero_of = none_of (bytes_eq k signer) e in omega arith

at_most_one : (signer : Key) (ks : List Key) → IsDistinct bytes_eq ks → how_many (map (λ y. bytes_eq y signer) ks) ≤ 1
unfolding IsDistinct
at_most_one signer [] h = omega arith
at_most_one signer (k ∷ ks) h = at_most_one_more signer k ks (bytes_eq k signer) refl h.0 (at_most_one signer ks h.1)

one_signer_more : (signer : Key) (signers ks : List Key) → hits (signer ∷ signers) ks ≤ how_many (map (λ y. bytes_eq y signer) ks) + hits signers ks
one_signer_more signer signers [] = omega arith
one_signer_more signer signers (k ∷ ks) =
    let rest = one_signer_more signer signers ks in
    let here = either (bytes_eq k signer) (signs signers k) in
    omega arith
  where
    either : (a b : Bool) → number (a || b) ≤ number a + number b
    either true true = omega arith
    either true false = omega arith
    either false true = omega arith
    either false false = omega arith

no_signers : (ks : List Key) → hits [] ks ≡ 0
no_signers [] = refl
no_signers (k ∷ ks) = let h = no_signers ks in omega arith

few_hits : (signers ks : List Key) → IsDistinct bytes_eq ks → hits signers ks ≤ length signers
few_hits [] ks h = let e = no_signers ks in omega arith
few_hits (signer ∷ signers) ks h =
    let rest = few_hits signers ks h in
    let one = at_most_one signer ks h in
    let sum = one_signer_more signer signers ks in
    omega arith

pub cost_is_least : (p : Policy) → HasDistinctKeys p → AreLeastKeys p (cost p)
cost_is_least p distinct = go (cost p) refl
  where
    go : (o : Option ℕ) → cost p ≡ o → AreLeastKeys p o
    go None e = λ signers true_there. let h = needs signers p true_there in none-some h.least (sym e ∙ h.is)
    go (Some n) e =
        let some = suffice p n e in
        record {
          signers = some.0.signers;
          distinct = picked_distinct some.0.signers (keys p) some.0.picked distinct;
          size = some.0.size;
          suffices = some.1;
          least = λ others true_there.
              let h = needs others p true_there in
              let eq = same n h.least (sym e ∙ h.is) in
              let most = h.most in
              let few = few_hits others (keys p) distinct in
              omega arith;
        }
