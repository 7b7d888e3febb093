-- What the definitions imply.
use Rattle.std.specs.Prelude.{◌≡◌, ℕ, ◌*◌, ◌<◌, ◌≤◌, ◌↔◌, IsTrue, List, length, Option, Some, ⊤}
use Rattle.def_script.specs.Bytes.{Bytes}
use Rattle.def_tree.specs.Tree.{Tree}
use Rattle.def_tree.specs.Range.{IsWritable}
use Rattle.def_tree.specs.InRange as tree_size_there
use Rattle.def_assets.specs.Assets.{Assets, AreAssets}
use Rattle.def_sane.specs.Unfit.{IsSane}
use Rattle.def_satisfaction.specs.Satisfaction.{Sat}
use Rattle.def_policy.specs.Policy.{Policy, Policies, never, always, key, older, after, hash, all, any, thresh, none, more, list_of}
use Rattle.def_policy.specs.Plain.{plain}
use Rattle.def_policy.specs.Simple.{simple}
use Rattle.def_policy.specs.Truth.{Facts, is_true, facts_of}
use Rattle.def_policy.specs.Keys.{AreLeastKeys}
use Rattle.def_policy.specs.LeastKeys.{least_keys}
use Rattle.def_policy.specs.Size.{size, depth}

-- making a policy simple doesn't change when it is true
abbrev pub SimpleKeepsTruth : Type 0
SimpleKeepsTruth = (facts : Facts) (policy : Policy) → is_true facts (simple policy) ≡ is_true facts policy

-- how many parts there are
abbrev pub count : Policies → ℕ
count parts = length (list_of parts)

-- a part is neither Always nor Never, no All has an All among its parts, and no Any an Any; All and Any have at least two
-- parts, and a threshold wants more than one of them and not all; and so in all parts
abbrev mutual
  pub IsPart : Policy → Type 0
  IsPart never = ⊥
  IsPart always = ⊥
  IsPart (key k) = ⊤
  IsPart (older n) = ⊤
  IsPart (after n) = ⊤
  IsPart (hash kind value) = ⊤
  IsPart (all parts) = ArePartsOfAll parts × (2 ≤ count parts)
  IsPart (any parts) = ArePartsOfAny parts × (2 ≤ count parts)
  IsPart (thresh k parts) = AreParts parts × (2 ≤ k) × (k < count parts)

  pub AreParts : Policies → Type 0
  AreParts none = ⊤
  AreParts (more x xs) = IsPart x × AreParts xs

  pub ArePartsOfAll : Policies → Type 0
  ArePartsOfAll none = ⊤
  ArePartsOfAll (more x xs) = IsPart x × IsNoAll x × ArePartsOfAll xs

  pub ArePartsOfAny : Policies → Type 0
  ArePartsOfAny none = ⊤
  ArePartsOfAny (more x xs) = IsPart x × IsNoAny x × ArePartsOfAny xs

  pub IsNoAll : Policy → Type 0
  IsNoAll (all parts) = ⊥
  IsNoAll part = ⊤

  pub IsNoAny : Policy → Type 0
  IsNoAny (any parts) = ⊥
  IsNoAny part = ⊤

-- Always and Never stand at the root alone
abbrev pub IsSimple : Policy → Type 0
IsSimple never = ⊤
IsSimple always = ⊤
IsSimple policy = IsPart policy

abbrev pub SimpleIsSimple : Type 0
SimpleIsSimple = (policy : Policy) → IsSimple (simple policy)

-- and a simple one is left as it is, so that making it simple twice is making it simple once
abbrev pub SimpleIsKept : Type 0
SimpleIsKept = (policy : Policy) → IsSimple policy → simple policy ≡ policy

abbrev pub SimpleOnce : Type 0
SimpleOnce = (policy : Policy) → simple (simple policy) ≡ simple policy

-- it grows neither in size nor in depth
abbrev pub SimpleIsSmaller : Type 0
SimpleIsSmaller = (policy : Policy) → (size (simple policy) ≤ size policy) × (depth (simple policy) ≤ depth policy)

-- the policy of a tree is at most twice as large and as deep
abbrev pub PlainIsSmall : Type 0
PlainIsSmall =
    (tree : Tree) →
    (size (plain tree) ≤ 2 * tree_size_there.measure tree) × (depth (plain tree) ≤ 2 * tree_size_there.depth tree)

-- a policy says when a miniscript can be satisfied: under all assets it is true exactly where there is a canonical
-- satisfaction
abbrev pub SaysSatisfiable : Tree → Policy → Type 0
SaysSatisfiable tree policy =
    (assets : Assets) → AreAssets assets →
    (IsTrue (is_true (facts_of assets) policy) ↔ ((stack : List Bytes) × Sat tree assets stack))

-- the policy of every sane miniscript does
abbrev pub PolicyOfSane : Type 0
PolicyOfSane = (tree : Tree) → IsWritable tree → IsSane tree → SaysSatisfiable tree (simple (plain tree))

-- a policy wants a signature: where every hash and lock is met it is true with one key at least
abbrev pub WantsKey : Policy → Type 0
WantsKey policy = (n : ℕ) → AreLeastKeys policy (Some n) → 1 ≤ n

-- that of every sane miniscript does
abbrev pub SaneWantsKey : Type 0
SaneWantsKey = (tree : Tree) → IsWritable tree → IsSane tree → WantsKey (simple (plain tree))

-- ---- how many keys have to sign

-- what the smallest set says is the least number of keys
abbrev pub LeastKeysAreLeast : Type 0
LeastKeysAreLeast = (policy : Policy) → AreLeastKeys policy (least_keys policy)

-- and there is one such number alone
abbrev pub OneLeast : Type 0
OneLeast = (policy : Policy) (n m : Option ℕ) → AreLeastKeys policy n → AreLeastKeys policy m → n ≡ m
