-- The ways of a tree, reckoned: for each pair of locks of its policy and each choice of the hash values that are settled the
-- least sets of all other leaves, but for those that are enough with less of what is given.
use Rattle.std.specs.Prelude.{◌≡◌, ℕ, zero, suc, ◌+◌, ◌/◌, ◌%◌, ◌^◌, ◌==◌, ◌<◌, ◌≤◌, ◌&&◌, ◌||◌, not, Bool, true, false, List, [], ◌∷◌, ◌++◌, length, map, filter, filter_map, flat_map, sum, take, slice_index_or, Option, Some, None, if◌then◌else◌, nat_lt}
use Rattle.std.specs.List.{list_any}
use Rattle.def_tree.specs.Tree.{Tree}
use Rattle.def_tree.specs.Range.{IsWritable}
use Rattle.def_sane.specs.Unfit.{IsSane}
use Rattle.def_policy.specs.Policy as policy
use Rattle.def_policy.specs.Policy.{Policy, Policies, never, always, older, after, hash, all, any, thresh, none, more}
use Rattle.def_ways.specs.declared.Delay.{Delay}
use Rattle.def_ways.specs.declared.Moment.{Moment}
use Rattle.def_ways.specs.Secret.{Secret, key, preimage, same, named, secrets}
use Rattle.def_ways.specs.Offer.{Offer, locktime_of, no_later, no_later_moment, has}
use Rattle.def_ways.specs.Enough.{policy_of}
use Rattle.def_ways.specs.Order.{delay_numbers, place, is_key, is_less, is_before}
use Rattle.def_ways.specs.Tried.{or_none, with_locks, ways, count}
use Rattle.def_ways.specs.Bound.{delay_of, moment_of, same_delay, same_moment, leaves, delays, moments, hash_in, repeated}
use Rattle.ms_way_laws.specs.Listed.{In, AreOnce}
use Rattle.ms_way_laws.specs.Settled.{Setting, Choice, Choices, leaf, node, ended, next, is_taken, holds}
use Rattle.ms_way_laws.specs.Leasts.{leasts}

-- ---- what is given

-- at most one lock of each kind, and of the hash values that are settled those that are known
pub record Given : Type 0 where
  pub delay : Option Delay
  pub moment : Option Moment
  pub known : List Secret

-- what holds with that
abbrev pub setting_of : (settled : List Secret) → Given → Setting
setting_of settled given = record {
  older = λ n. no_later (Some (delay_of n)) given.delay;
  after = λ n. no_later_moment (Some (moment_of n)) given.moment;
  known = λ kind value. if has settled (preimage kind value) then Some (has given.known (preimage kind value)) else None;
}

-- some of a list each, in the order of the binary numbers whose lowest bit stands for the first
abbrev pub knowns : List Secret → List (List Secret)
knowns [] = [] ∷ []
knowns (secret ∷ rest) = flat_map (λ known. known ∷ (secret ∷ known) ∷ []) (knowns rest)

-- those whose bits are set in a number
abbrev pub known_by : List Secret → ℕ → List Secret
known_by [] n = []
known_by (secret ∷ rest) n = if n % 2 == 1 then secret ∷ known_by rest (n / 2) else known_by rest (n / 2)

abbrev pub KnownsAreNumbered : Type 0
KnownsAreNumbered =
    (settled : List Secret) →
    (length (knowns settled) ≡ 2 ^ length settled) ×
    ((n : ℕ) → n < 2 ^ length settled → slice_index_or (knowns settled) n [] ≡ known_by settled n)

-- ---- the locks of a policy, in order

abbrev pub put : {A : Type 0} → (numbers : A → List ℕ) → A → List A → List A
put numbers x [] = x ∷ []
put numbers x (y ∷ ys) = if is_less (numbers x) (numbers y) then x ∷ y ∷ ys else y ∷ put numbers x ys

abbrev pub sorted : {A : Type 0} → (numbers : A → List ℕ) → List A → List A
sorted numbers [] = []
sorted numbers (x ∷ xs) = put numbers x (sorted numbers xs)

abbrev pub delays_in_order : Policy → List Delay
delays_in_order policy = sorted (λ delay. delay_numbers (Some delay)) (delays policy)

abbrev pub moments_in_order : Policy → List Moment
moments_in_order policy = sorted (λ moment. locktime_of (Some moment) ∷ []) (moments policy)

-- ---- what is given just below

-- a lock is of the same unit as another one and less
abbrev pub is_lower : Delay → Delay → Bool
is_lower delay other = no_later (Some delay) (Some other) && not (same_delay delay other)

abbrev pub is_lower_moment : Moment → Moment → Bool
is_lower_moment moment other = no_later_moment (Some moment) (Some other) && not (same_moment moment other)

-- the last of a list that passes a test
abbrev pub later_or : {A : Type 0} → Option A → Option A → Option A
later_or (Some y) found = Some y
later_or None found = found

abbrev pub last_that : {A : Type 0} → (A → Bool) → List A → Option A
last_that test [] = None
last_that test (x ∷ xs) = later_or (last_that test xs) (if test x then Some x else None)

-- a lock one step lower, or none, where there is a lock
abbrev pub lower_delays : List Delay → Option Delay → List (Option Delay)
lower_delays locks None = []
lower_delays locks (Some delay) = last_that (λ other. is_lower other delay) locks ∷ []

abbrev pub lower_moments : List Moment → Option Moment → List (Option Moment)
lower_moments locks None = []
lower_moments locks (Some moment) = last_that (λ other. is_lower_moment other moment) locks ∷ []

-- each list with one of these less
abbrev pub without_one : List Secret → List (List Secret)
without_one [] = []
without_one (secret ∷ rest) = rest ∷ map (λ others. secret ∷ others) (without_one rest)

-- one lock a step lower or gone, or one of the known hash values gone
abbrev pub below : Policy → Given → List Given
below policy given =
    map (λ delay. record { delay = delay; moment = given.moment; known = given.known }) (lower_delays (delays_in_order policy) given.delay)
    ++ map (λ moment. record { delay = given.delay; moment = moment; known = given.known }) (lower_moments (moments_in_order policy) given.moment)
    ++ map (λ known. record { delay = given.delay; moment = given.moment; known = known }) (without_one given.known)

-- ---- the ways with what is given

-- the keys and hash values that a choice takes
abbrev pub when : Bool → Secret → List Secret
when taken secret = if taken then secret ∷ [] else []

abbrev mutual
  pub taken : Policy → Choice → List Secret
  taken never x = []
  taken always x = []
  taken (policy.key k) x = when (is_taken x) (key k)
  taken (older n) x = []
  taken (after n) x = []
  taken (hash kind value) x = when (is_taken x) (preimage kind value)
  taken (all parts) (node xs) = taken_of parts xs
  taken (any parts) (node xs) = taken_of parts xs
  taken (thresh k parts) (node xs) = taken_of parts xs
  taken (all parts) (leaf a) = []
  taken (any parts) (leaf a) = []
  taken (thresh k parts) (leaf a) = []

  pub taken_of : Policies → Choices → List Secret
  taken_of none xs = []
  taken_of (more p ps) ended = []
  taken_of (more p ps) (next x xs) = taken p x ++ taken_of ps xs

-- how many keys it takes
abbrev pub keys_in : Policy → Choice → ℕ
keys_in policy x = length (filter is_key (taken policy x))

-- a choice isn't enough with what is given just below
abbrev pub is_fresh : (settled : List Secret) → Policy → Given → Choice → Bool
is_fresh settled policy given x = not (list_any (λ less. holds (setting_of settled less) policy x) (below policy given))

-- the least sets that aren't; and of them those with so many keys
abbrev pub fresh : (settled : List Secret) → Policy → Given → List Choice
fresh settled policy given = filter (is_fresh settled policy given) (leasts (setting_of settled given) policy)

abbrev pub fresh_with : (settled : List Secret) → Policy → Given → (keys : ℕ) → List Choice
fresh_with settled policy given keys = filter (λ x. keys_in policy x == keys) (fresh settled policy given)

-- what is given, and what a choice takes
abbrev pub offer_of : Tree → Given → Choice → Offer
offer_of tree given x =
    with_locks given.delay given.moment
    (filter (λ secret. has given.known secret || has (taken (policy_of tree) x) secret) (secrets tree))

-- ---- all of them

-- two lists in order as one
abbrev pub merge_before : Tree → Offer → (List Offer → List Offer) → List Offer → List Offer
merge_before tree x rest [] = x ∷ rest []
merge_before tree x rest (y ∷ ys) = if is_before tree x y then x ∷ rest (y ∷ ys) else y ∷ merge_before tree x rest ys

abbrev pub merge : Tree → List Offer → List Offer → List Offer
merge tree [] ys = ys
merge tree (x ∷ xs) ys = merge_before tree x (merge tree xs) ys

abbrev pub merged : Tree → (so_far : List Offer) → List (List Offer) → List Offer
merged tree so_far [] = so_far
merged tree so_far (xs ∷ rest) = merged tree (merge tree so_far xs) rest

-- of two merged lists the first are those of their first
abbrev pub TakeMerged : Type 0
TakeMerged = (tree : Tree) (n : ℕ) (xs ys : List Offer) → take n (merge tree xs ys) ≡ take n (merge tree (take n xs) (take n ys))

-- of two offers with the same locks and as many keys the places decide
abbrev pub ByPlaces : Type 0
ByPlaces =
    (tree : Tree) (a b : Offer) → a.delay ≡ b.delay → a.moment ≡ b.moment →
    length (filter is_key a.secrets) ≡ length (filter is_key b.secrets) →
    is_before tree a b ≡
    is_less (map (λ secret. place secret (secrets tree)) a.secrets) (map (λ secret. place secret (secrets tree)) b.secrets)

-- those of a setting with so many keys; and those of these locks
abbrev pub ways_given : Tree → (settled : List Secret) → Given → (keys : ℕ) → List Offer
ways_given tree settled given keys = map (offer_of tree given) (fresh_with settled (policy_of tree) given keys)

abbrev pub reckoned_with : Tree → (settled : List Secret) → Option Delay → Option Moment → (keys : ℕ) → List Offer
reckoned_with tree settled delay moment keys =
    merged tree [] (map (λ known. ways_given tree settled (record { delay = delay; moment = moment; known = known }) keys) (knowns settled))

abbrev pub numbers_from : (first : ℕ) → (many : ℕ) → List ℕ
numbers_from first zero = []
numbers_from first (suc many) = first ∷ numbers_from (first + 1) many

abbrev pub reckoned : Tree → (settled : List Secret) → List Offer
reckoned tree settled =
    flat_map (λ delay. flat_map (λ moment. flat_map (reckoned_with tree settled delay moment) (numbers_from 0 (length (secrets tree) + 1)))
    (or_none (moments_in_order (policy_of tree)))) (or_none (delays_in_order (policy_of tree)))

-- how many there are
abbrev pub total : Policy → (settled : List Secret) → ℕ
total policy settled =
    sum (flat_map (λ delay. flat_map (λ moment. map (λ known. length (fresh settled policy (record { delay = delay; moment = moment; known = known })))
    (knowns settled)) (or_none (moments_in_order policy))) (or_none (delays_in_order policy)))

-- ---- what has to be settled

abbrev pub secret_in : Policy → Option Secret
secret_in (policy.key k) = Some (key k)
secret_in (hash kind value) = Some (preimage kind value)
secret_in part = None

abbrev pub secrets_in : Policy → List Secret
secrets_in policy = filter_map secret_in (leaves policy)

-- how often a secret stands in a list
abbrev pub times : Secret → List Secret → ℕ
times secret [] = 0
times secret (other ∷ rest) = (if same secret other then 1 else 0) + times secret rest

-- hash values of a tree are settled, each once; of its policy all that stand there several times
pub record IsSettled (tree : Tree) (settled : List Secret) : Type 0 where
  pub once : AreOnce settled
  pub hashes : (secret : Secret) → In secret settled → (is_key secret ≡ false) × (has (secrets tree) secret ≡ true)
  pub others :
      (secret : Secret) → is_key secret ≡ false → has settled secret ≡ false → times secret (secrets_in (policy_of tree)) ≤ 1

-- and those too that stand there once, but several times in the tree: where a hash value stands first in a part that the
-- policy leaves out, the order of its places isn't that of the policy
pub record IsSettledInOrder (tree : Tree) (settled : List Secret) : Type 0 where
  pub values : IsSettled tree settled
  pub places :
      (secret : Secret) → is_key secret ≡ false → has settled secret ≡ false → has (secrets_in (policy_of tree)) secret ≡ true →
      times secret (named tree) ≤ 1

-- the hash values of the policy that stand there several times; and those of it that stand several times in the tree
abbrev pub hashes_in : Policy → List Secret
hashes_in policy = filter_map hash_in (leaves policy)

abbrev pub settled_to_count : Tree → List Secret
settled_to_count tree = repeated (hashes_in (policy_of tree))

abbrev pub settled_to_list : Tree → List Secret
settled_to_list tree =
    filter (λ secret. has (hashes_in (policy_of tree)) secret && nat_lt 1 (times secret (named tree))) (secrets tree)

-- with these it can be counted, and listed
abbrev pub SettledAreEnough : Type 0
SettledAreEnough =
    (tree : Tree) → IsSane tree → IsSettled tree (settled_to_count tree) × IsSettledInOrder tree (settled_to_list tree)

-- the number of ways is what is reckoned
abbrev pub TotalIsCount : Type 0
TotalIsCount =
    (tree : Tree) (settled : List Secret) → IsWritable tree → IsSane tree → IsSettled tree settled →
    total (policy_of tree) settled ≡ count tree

-- and what is reckoned in order is the list of all ways
abbrev pub ReckonedAreWays : Type 0
ReckonedAreWays =
    (tree : Tree) (settled : List Secret) → IsWritable tree → IsSane tree → IsSettledInOrder tree settled →
    reckoned tree settled ≡ ways tree
