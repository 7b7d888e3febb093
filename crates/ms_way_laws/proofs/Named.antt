-- The secrets of a tree's policy are some of those that the tree names, in its order, and no key stands twice.
use Rattle.std.proofs.Common.{◌≡◌, inl, inr, ℕ, suc, ◌+◌, ◌≤◌, Bool, true, false, List, [], ◌∷◌, ◌++◌, map, refl, sym, ◌∙◌, ap, subst, arith, if◌then◌else◌}
use Rattle.std.specs.Prelude.{Contains}
use Rattle.std.specs.Str.{bytes_eq}
use Rattle.std.proofs.lemmas.Bool.{cases_Bool, false≢true}
use Rattle.std.proofs.lemmas.List.{append-nil}
use Rattle.std.proofs.lemmas.Slice.Eq.{bytes_eq-Decides}
use Rattle.def_tree.specs.Tree as tree
use Rattle.def_tree.specs.Tree.{Tree, Trees, Key}
use Rattle.def_sane.specs.Keys as sane
use Rattle.def_sane.specs.Keys.{AreDistinct}
use Rattle.def_sane.specs.Unfit.{IsSane}
use Rattle.def_sane.proofs.Meanings.{sane_means}
use Rattle.def_policy.specs.declared.Join.{Join}
use Rattle.def_policy.specs.declared.Join.TheVariants as join
use Rattle.def_policy.specs.Policy as policy
use Rattle.def_policy.specs.Policy.{Policy, policies_of}
use Rattle.def_policy.specs.Plain.{join_of, both_of, plain, plain_each}
use Rattle.def_ways.specs.Secret.{Secret, key, preimage, same, named, named_by, secrets}
use Rattle.def_ways.specs.Order.{is_key}
use Rattle.def_ways.specs.Enough.{policy_of}
use Rattle.ms_way_laws.specs.Listed.{In}
use Rattle.ms_way_laws.specs.Reckoned.{secret_in, secrets_in, times}
use Rattle.ms_way_laws.proofs.SomeOf.{in_firsts}
use Rattle.ms_way_laws.proofs.Picked.{secrets_of, times_joined}
use Rattle.ms_way_laws.proofs.OfTree.{Picked, done, with, without, in_picked, simple_found, of_more, of_policies, of_joining}

both_secrets : (how : Join) (x y : Policy) → secrets_in (both_of how x y) ≡ secrets_in x ++ secrets_in y
both_secrets how x y =
    of_joining secret_in refl refl how (policies_of (x ∷ y ∷ []))
    ∙ of_policies secret_in refl refl (x ∷ y ∷ [])
    ∙ ap (λ ss. secrets_in x ++ ss) (append-nil (secrets_in y))

multi_secrets : (ks : List Key) → secrets_of (policies_of (map policy.key ks)) ≡ map key ks
multi_secrets [] = refl
multi_secrets (k ∷ ks) = ap (λ ss. key k ∷ ss) (multi_secrets ks)

joined : (a b c d : List Secret) → a ≡ c → b ≡ d → a ++ b ≡ c ++ d
joined a b c d e f = ap (λ x. x ++ b) e ∙ ap (λ y. c ++ y) f

mutual
  plain_secrets : (t : Tree) → secrets_in (plain t) ≡ named t
  plain_secrets tree.just_0 = refl
  plain_secrets tree.just_1 = refl
  plain_secrets (tree.pk_k k) = refl
  plain_secrets (tree.pk_h k) = refl
  plain_secrets (tree.older n) = refl
  plain_secrets (tree.after n) = refl
  plain_secrets (tree.hash kind value) = refl
  plain_secrets (tree.and_or x y z) =
      both_secrets join.Any (both_of join.All (plain x) (plain y)) (plain z)
      ∙ joined (secrets_in (both_of join.All (plain x) (plain y))) (secrets_in (plain z)) (named x ++ named y) (named z)
      (both_secrets join.All (plain x) (plain y) ∙ joined (secrets_in (plain x)) (secrets_in (plain y)) (named x) (named y) (plain_secrets x) (plain_secrets y))
      (plain_secrets z)
  plain_secrets (tree.two kind x y) =
      both_secrets (join_of kind) (plain x) (plain y)
      ∙ joined (secrets_in (plain x)) (secrets_in (plain y)) (named x) (named y) (plain_secrets x) (plain_secrets y)
  plain_secrets (tree.thresh k xs) = plain_secrets_each xs
  plain_secrets (tree.multi k ks) = multi_secrets ks
  plain_secrets (tree.wrap wrapper x) = plain_secrets x

  plain_secrets_each : (xs : Trees) → secrets_of (plain_each xs) ≡ named_by xs
  plain_secrets_each tree.none = refl
  plain_secrets_each (tree.more x xs) =
      of_more secret_in refl refl (plain x) (plain_each xs)
      ∙ joined (secrets_in (plain x)) (secrets_of (plain_each xs)) (named x) (named_by xs) (plain_secrets x) (plain_secrets_each xs)

-- those of the policy, in the order of the tree
pub policy_named : (t : Tree) → Picked (secrets_in (policy_of t)) (named t)
policy_named t = subst (λ ss. Picked (secrets_in (policy_of t)) ss) (plain_secrets t) (simple_found secret_in refl refl (plain t))

pub named_in : (t : Tree) (s : Secret) → In s (secrets_in (policy_of t)) → In s (secrets t)
named_in t s h = in_firsts s (named t) (in_picked (secrets_in (policy_of t)) (named t) (policy_named t) s h)

pub times_picked : (s : Secret) (some xs : List Secret) → Picked some xs → times s some ≤ times s xs
times_picked s some xs done = omega arith
times_picked s some xs (with x a ys p) = let rest = times_picked s a ys p in omega (arith, rest)
times_picked s some xs (without x a ys p) =
    let rest = times_picked s some ys p in more (if same s x then 1 else 0) (times s some) (times s ys) rest
  where
    more : (b m n : ℕ) → m ≤ n → m ≤ b + n
    more b m n h = omega (arith, h)

-- ---- keys

abbrev key_times : Key → List Key → ℕ
key_times k [] = 0
key_times k (x ∷ xs) = (if bytes_eq k x then 1 else 0) + key_times k xs

key_times_joined : (k : Key) (xs ys : List Key) → key_times k (xs ++ ys) ≡ key_times k xs + key_times k ys
key_times_joined k [] ys = none (key_times k ys)
  where
    none : (n : ℕ) → n ≡ 0 + n
    none n = omega arith
key_times_joined k (x ∷ xs) ys =
    let rest = key_times_joined k xs ys in sum (if bytes_eq k x then 1 else 0) (key_times k (xs ++ ys)) (key_times k xs) (key_times k ys) rest
  where
    sum : (a b c d : ℕ) → b ≡ c + d → a + b ≡ (a + c) + d
    sum a b c d e = omega (arith, e)

multi_times : (k : Key) (ks : List Key) → times (key k) (map key ks) ≡ key_times k ks
multi_times k [] = refl
multi_times k (x ∷ ks) = ap (λ n. (if bytes_eq k x then 1 else 0) + n) (multi_times k ks)

both_times : (k : Key) (a b : List Secret) (c d : List Key) → times (key k) a ≡ key_times k c → times (key k) b ≡ key_times k d →
    times (key k) (a ++ b) ≡ key_times k (c ++ d)
both_times k a b c d e f =
    times_joined (key k) a b ∙ ap (λ n. n + times (key k) b) e ∙ ap (λ n. key_times k c + n) f ∙ sym (key_times_joined k c d)

mutual
  named_times : (k : Key) (t : Tree) → times (key k) (named t) ≡ key_times k (sane.keys t)
  named_times k tree.just_0 = refl
  named_times k tree.just_1 = refl
  named_times k (tree.pk_k l) = refl
  named_times k (tree.pk_h l) = refl
  named_times k (tree.older n) = refl
  named_times k (tree.after n) = refl
  named_times k (tree.hash kind value) = refl
  named_times k (tree.and_or x y z) =
      both_times k (named x ++ named y) (named z) (sane.keys x ++ sane.keys y) (sane.keys z)
      (both_times k (named x) (named y) (sane.keys x) (sane.keys y) (named_times k x) (named_times k y)) (named_times k z)
  named_times k (tree.two kind x y) = both_times k (named x) (named y) (sane.keys x) (sane.keys y) (named_times k x) (named_times k y)
  named_times k (tree.thresh n xs) = named_times_each k xs
  named_times k (tree.multi n ks) = multi_times k ks
  named_times k (tree.wrap wrapper x) = named_times k x

  named_times_each : (k : Key) (xs : Trees) → times (key k) (named_by xs) ≡ key_times k (sane.keys_of_all xs)
  named_times_each k tree.none = refl
  named_times_each k (tree.more x xs) =
      both_times k (named x) (named_by xs) (sane.keys x) (sane.keys_of_all xs) (named_times k x) (named_times_each k xs)

contains_key : (k : Key) (xs : List Key) → In k xs → Contains xs k
contains_key k [] h = absurd h
contains_key k (x ∷ xs) (inl e) = (0, omega arith, sym e)
contains_key k (x ∷ xs) (inr h) = let c = contains_key k xs h in let l = c.1 in (suc c.0, omega (arith, l), c.2)

no_times : (k : Key) (xs : List Key) → (In k xs → ⊥) → key_times k xs ≡ 0
no_times k [] h = refl
no_times k (x ∷ xs) h = elim (cases_Bool (bytes_eq k x)) [
  | inl e ↦ absurd (h (inl ((bytes_eq-Decides k x).0 e)))
  | inr f ↦ let rest = no_times k xs (λ i. h (inr i)) in none (bytes_eq k x) (key_times k xs) f rest
]
  where
    none : (b : Bool) (n : ℕ) → b ≡ false → n ≡ 0 → (if b then 1 else 0) + n ≡ 0
    none b n e f = grind arith

one_time : (k : Key) (xs : List Key) → AreDistinct xs → key_times k xs ≤ 1
one_time k [] h = omega arith
one_time k (x ∷ xs) h = elim (cases_Bool (bytes_eq k x)) [
  | inl e ↦
      let same : k ≡ x = (bytes_eq-Decides k x).0 e in
      let rest = no_times k xs (λ i. h.0 (contains_key x xs (subst (λ l. In l xs) same i))) in
      first (bytes_eq k x) (key_times k xs) rest
  | inr f ↦ let rest = one_time k xs h.1 in later (bytes_eq k x) (key_times k xs) f rest
]
  where
    first : (b : Bool) (n : ℕ) → n ≡ 0 → (if b then 1 else 0) + n ≤ 1
    first b n e = grind arith

    later : (b : Bool) (n : ℕ) → b ≡ false → n ≤ 1 → (if b then 1 else 0) + n ≤ 1
    later b n e f = grind arith

pub named_once : (t : Tree) → IsSane t → (s : Secret) → is_key s ≡ true → times s (named t) ≤ 1
named_once t is_sane (key k) e =
    let one = one_time k (sane.keys t) ((sane_means t).0 is_sane).4 in
    let same = named_times k t in
    omega (arith, one, same)
named_once t is_sane (preimage kind value) e = absurd (false≢true e)

pub keys_once : (t : Tree) → IsSane t → (s : Secret) → is_key s ≡ true → times s (secrets_in (policy_of t)) ≤ 1
keys_once t is_sane s e =
    let few = times_picked s (secrets_in (policy_of t)) (named t) (policy_named t) in
    let one = named_once t is_sane s e in
    omega (arith, few, one)
