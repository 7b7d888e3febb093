-- The promises speak of something: what they presuppose is met, here by some miniscripts each.
use Rattle.std.specs.Prelude.{◌≡◌, ◌≢◌, ◌<◌, ℕ, zero, suc, true, false, List, [], ◌∷◌, Contains, Some, None, Ok, replicate}
use Rattle.def_script.specs.Bytes.{Bytes}
use Rattle.def_machine.specs.Samples.{key_a, sig_a, sig_b}
use Rattle.def_machine.specs.Stacks.{Pairs, member}
use Rattle.def_machine.specs.Machine.{Given}
use Rattle.def_tree.specs.Tree.{Tree, just_1}
use Rattle.def_tree.specs.Range.{IsWritable}
use Rattle.def_tree.specs.InRange.{MOST_DEPTH, depth}
use Rattle.def_types.specs.declared.Base.TheVariants.{B}
use Rattle.def_types.specs.declared.CorrectnessType.{CorrectnessType}
use Rattle.def_types.specs.declared.MalleabilityProperties.{MalleabilityProperties}
use Rattle.def_types.specs.Correctness.{correctness_of}
use Rattle.def_types.specs.Malleable.{malleability_of}
use Rattle.def_types.specs.Samples.{pk, sha256, v, and_v}
use Rattle.def_assets.specs.Assets.{Assets, AreAssets}
use Rattle.def_limits.specs.declared.Limits.{Limits}
use Rattle.def_limits.specs.Formal.{item, FormalSat}
use Rattle.def_limits.specs.Limits.{AreLimits}
use Rattle.def_tree.specs.Nodes.{all_nodes}
use Rattle.def_sane.specs.declared.Rules.TheVariants.{Consensus}
use Rattle.def_sane.specs.Unfit.{IsValidUnder, IsSaneUnder}
use Rattle.def_satisfaction.specs.Setting.{any}
use Rattle.def_satisfaction.specs.Rows.{EMPTY, ONE}
use Rattle.def_satisfaction.specs.Satisfaction.{given_of, Sat, FullSat, FullDsat, Holds}
use Rattle.def_satisfaction.specs.Samples.{pair_a, pair_b, preimage_1, preimage_2, preimage_3, hash_1, with_preimages, key_and_key_or_hashes, keys_and_preimages}
use Rattle.def_choice.specs.Strict.{strict}
use Rattle.def_choice.specs.NonMalleable.{IsAccepted, HasNewPair, Fresh, NonMalleable, given_with}
use Rattle.def_promises.specs.Accepted.{IsAcceptedWithin}
use Rattle.def_promises.specs.Courses.{HasAll}
use Rattle.def_promises.specs.Letters.{HashesCanBeMissed}
use Rattle.def_promises.specs.Reached.{HasLongest}

-- `and_v(v:pk(B),or_i(pk(A),and_v(v:sha256(h1),and_v(v:sha256(h2),sha256(h3)))))`: by the key A and by the
-- preimages
abbrev pub by_key : List Bytes
by_key = sig_a ∷ ONE ∷ sig_b ∷ []

abbrev pub by_preimages : List Bytes
by_preimages = preimage_3 ∷ preimage_2 ∷ preimage_1 ∷ EMPTY ∷ sig_b ∷ []

abbrev pub limits : Limits
limits = record { size = 190; ops = 17; items = 5; weight = 174 }

-- of acceptance, with what is promised
pub record AcceptanceIsMet : Type 0 where
  pub writable : IsWritable key_and_key_or_hashes
  pub valid : IsValidUnder Consensus key_and_key_or_hashes
  pub are_limits : AreLimits key_and_key_or_hashes limits
  pub assets : AreAssets keys_and_preimages
  pub holds : Holds (member keys_and_preimages.pairs) keys_and_preimages
  pub sat : Sat key_and_key_or_hashes keys_and_preimages by_preimages
  pub full : FullSat key_and_key_or_hashes (given_of keys_and_preimages) any by_preimages
  pub accepted : IsAcceptedWithin key_and_key_or_hashes limits (given_of keys_and_preimages) by_preimages

-- of the runs of all formal satisfactions: the assets have all that the miniscript can take
abbrev pub AllIsMet : Type 0
AllIsMet = HasAll keys_and_preimages key_and_key_or_hashes

-- of the limits: the assets have all that `pk(A)` can take, with a signature of 73 bytes, which its formal satisfaction takes
abbrev pub longest_key_a : Assets
longest_key_a = with_preimages [] ((key_a, replicate 73 0xaa) ∷ [])

pub record LongestIsMet : Type 0 where
  pub writable : IsWritable (pk key_a)
  pub valid : IsValidUnder Consensus (pk key_a)
  pub assets : AreAssets longest_key_a
  pub all : HasAll longest_key_a (pk key_a)
  pub longest : HasLongest longest_key_a
  pub formal : FormalSat (pk key_a) (item 73)

-- of the strict choice: the miniscript is sane, there is a strict choice, and another stack is accepted,
-- which passes a check more
pub record StrictIsMet : Type 0 where
  pub sane : IsSaneUnder Consensus key_and_key_or_hashes
  pub chosen : strict key_and_key_or_hashes keys_and_preimages ≡ Some by_preimages
  pub checks : Pairs
  pub accepted : IsAccepted key_and_key_or_hashes (given_of keys_and_preimages) by_preimages checks
  pub others : Pairs
  pub other : IsAccepted key_and_key_or_hashes (given_of keys_and_preimages) by_key others
  pub differs : by_key ≢ by_preimages
  pub more : HasNewPair others checks

-- that other stack can be changed: a stranger can put the preimages into it, and leave out a signature
abbrev pub KeyCanBeChanged : Type 0
KeyCanBeChanged =
    Sat key_and_key_or_hashes keys_and_preimages by_key × ¬ NonMalleable key_and_key_or_hashes keys_and_preimages by_key

-- of what is accepted where there is no choice: the preimages aren't held, and a stack with them is fresh
abbrev pub only_key_b : Assets
only_key_b = with_preimages [] (pair_b ∷ [])

pub record NothingIsMet : Type 0 where
  pub assets : AreAssets only_key_b
  pub none : strict key_and_key_or_hashes only_key_b ≡ None
  pub checks : Pairs
  pub accepted : IsAccepted key_and_key_or_hashes (given_with only_key_b (member only_key_b.pairs)) by_preimages checks
  pub fresh : Fresh key_and_key_or_hashes only_key_b (member only_key_b.pairs) by_preimages

-- of the letters: `pk(A)` is Bonduse, and has a satisfaction and a dissatisfaction
abbrev pub given_a : Given
given_a = given_of (with_preimages [] (pair_a ∷ []))

-- a node of a valid miniscript has this type and these properties
pub record HasLetters (tree node : Tree) (ty : CorrectnessType) (properties : MalleabilityProperties) : Type 0 where
  pub writable : IsWritable tree
  pub valid : IsValidUnder Consensus tree
  pub among : Contains (all_nodes tree) node
  pub correctness_of : correctness_of node ≡ Ok ty
  pub malleability_of : malleability_of node ≡ Ok properties

abbrev pub KeyHasLetters : Type 0
KeyHasLetters =
    HasLetters (pk key_a) (pk key_a)
    (record { base = B; z = false; o = true; n = true; d = true; u = true }) (record { s = true; f = false; e = true }) ×
    FullSat (pk key_a) given_a any (sig_a ∷ []) × FullDsat (pk key_a) given_a any (EMPTY ∷ [])

-- `1` is Bzuf
abbrev pub OneHasLetters : Type 0
OneHasLetters =
    HasLetters just_1 just_1
    (record { base = B; z = true; o = false; n = false; d = false; u = true }) (record { s = false; f = true; e = false }) ×
    FullSat just_1 given_a any []

-- a valid miniscript that is deeper than all that a text spells: `pk(A)` under 150 times `and_v(v:.,1)`, which is Bonu
abbrev pub chain : ℕ → Tree
chain zero = pk key_a
chain (suc n) = and_v (v (chain n)) just_1

pub record DeepHasLetters : Type 0 where
  pub deep : MOST_DEPTH < depth (chain 150)
  pub letters :
      HasLetters (chain 150) (chain 150)
      (record { base = B; z = false; o = true; n = true; d = false; u = true }) (record { s = true; f = true; e = false })

-- 32 bytes that don't hash to the value of a hash
abbrev pub HashIsMissed : Type 0
HashIsMissed = HashesCanBeMissed (sha256 hash_1)
