-- What is promised of an input of which the good signatures count, and beside it where all do.
use Rattle.std.proofs.Common.{◌≡◌, ◌⊎◌, ℕ, ◌==◌, Bool, true, false, cond, List, [], ◌∷◌, filter, reverse, Contains, Option, Some, None, Result, Ok, Err, inl, inr, if◌then◌else◌, refl, sym, ap, subst, ◌∙◌}
use Rattle.std.specs.List.{AllByRecursion}
use Rattle.std.specs.Option.{option_and_then, unwrap_or}
use Rattle.std.proofs.lemmas.Bool.{cases_Bool, eqb-true, false≢true}
use Rattle.std.proofs.lemmas.Option.{none-some}
use Rattle.std.proofs.lemmas.List.{reverse-reverse}
use Rattle.std.proofs.lemmas.List.Elements.{recursion_from_All}
use Rattle.def_script.specs.Bytes.{Bytes}
use Rattle.def_machine.specs.Stacks.{Pairs, Checker}
use Rattle.def_tree.specs.Tree.{Tree}
use Rattle.def_tree.specs.Range.{IsWritable}
use Rattle.def_assets.specs.Assets.{Assets, AreAssets, sig_of}
use Rattle.def_assets.proofs.Shortest.{held_is_found}
use Rattle.def_sane.specs.declared.Unfit.{Unfit}
use Rattle.def_sane.specs.Unfit.{IsSane, IsSaneUnder, first_unfit}
use Rattle.def_sane.specs.declared.Rules.TheVariants.{Policy, Consensus}
use Rattle.def_sane.proofs.Meanings.{sane_under_consensus}
use Rattle.def_satisfaction.specs.Satisfaction.{Sat, Holds}
use Rattle.def_satisfaction.proofs.Held.{held_is_good}
use Rattle.def_choice.specs.Strict.{strict, strict_of}
use Rattle.def_choice.specs.Tight.{TightSat, Tight}
use Rattle.def_choice.proofs.Chosen.{strict_is_canonical}
use Rattle.ms_strict_laws.proofs.StrictChoiceExists.{lightest_of_tight, tight_of_canonical}
use Rattle.def_decode.specs.Decoded.{IsDecoded}
use Rattle.def_plan.specs.Lengths.{IsLike}
use Rattle.ms_plan_laws.proofs.Enough.{taken_enough}
use Rattle.ms_plan_laws.proofs.Found.{held_of, like_with}
use Rattle.ms_plan_laws.proofs.Moved.{with_pairs}
use Rattle.def_curve.specs.declared.Judgement.{Judgement}
use Rattle.def_curve.specs.declared.Judgement.TheVariants.{Bad, High, Good}
use Rattle.def_curve.specs.Point.{Point}
use Rattle.def_curve.specs.Key.{point_of}
use Rattle.def_curve.specs.Judgement.{numbers_of, judged_by, judge}
use Rattle.def_psbt.specs.Map.{Map}
use Rattle.def_spend.specs.declared.HashType.{HashType}
use Rattle.def_spend.specs.declared.SignedOutputs.TheVariants as outputs
use Rattle.def_spend.specs.declared.State.{State}
use Rattle.def_spend.specs.declared.State.TheVariants as state
use Rattle.def_spend.specs.declared.Verification.{Verification}
use Rattle.def_spend.specs.declared.Verification.TheVariants.{Verified, Unverified}
use Rattle.def_spend.specs.Asking.{plan_with}
use Rattle.def_spend.specs.Fields.{signatures_in, preimages_in, keys_in, last_byte, asked_type}
use Rattle.def_spend.specs.HashTypes.{hash_type, hash_type_of}
use Rattle.def_spend.specs.Hashes.{script_in, hash_by}
use Rattle.def_spend.specs.Input.{Spend, locks_of}
use Rattle.def_spend.specs.Good.{word_of, is_good, counted_by, counted_signatures, assets_of}
use Rattle.def_spend.specs.Kinds.{kind_of}
use Rattle.def_spend.specs.Reading.{Input, script_code, ReadsAs}
use Rattle.def_spend.specs.States.{is_sighash_wrong, are_too_many, choice_state, unless_unfit, state_by, state_of, is_ready, choice_of}
use Rattle.def_spend.specs.Finalized.{final_map, script_sig_of, witness_by}
use Rattle.def_verify.specs.Check.{judged_in, is_taken, consensus_check}
use Rattle.def_verify.specs.ConsensusHash.{consensus_hash}
use Rattle.def_verify.specs.Laws.{HashesOfTypes}
use Rattle.ms_given_laws.specs.Given.{EachIsSound}
use Rattle.ms_spend_laws.specs.Verified.{GoodIsTaken, IsAcceptedByConsensus, ReadyIsAcceptedByConsensus, counting, AllGoodIsSame, StatesDiffer}
use Rattle.ms_spend_laws.proofs.Inputs.{IsGiven, held, of_each}
use Rattle.ms_spend_laws.proofs.Counted.{counted_is, counted_among}
use Rattle.ms_spend_laws.proofs.KeyHash.{member_in}
use Rattle.ms_spend_laws.proofs.Planning.{reversed_some}
use Rattle.ms_spend_laws.proofs.Chosen.{of_each_ready, within, replays, unchangeable}

-- ---- consensus

-- the hash type of a number, by whether it is that of each
abbrev type_among : (all none single all_any none_any single_any : Bool) → Option HashType
type_among all none single all_any none_any single_any =
    if all then Some (hash_type outputs.All false)
    else if none then Some (hash_type outputs.None false)
    else if single then Some (hash_type outputs.Single false)
    else if all_any then Some (hash_type outputs.All true)
    else if none_any then Some (hash_type outputs.None true)
    else if single_any then Some (hash_type outputs.Single true)
    else None

no_type : (n : ℕ) → (0x01 == n) ≡ false → (0x02 == n) ≡ false → (0x03 == n) ≡ false → (0x81 == n) ≡ false → (0x82 == n) ≡ false → (0x83 == n) ≡ false → hash_type_of n ≡ None
no_type n a b c d e f =
    ap (λ x. type_among x (0x02 == n) (0x03 == n) (0x81 == n) (0x82 == n) (0x83 == n)) a
    ∙ ap (λ x. type_among false x (0x03 == n) (0x81 == n) (0x82 == n) (0x83 == n)) b
    ∙ ap (λ x. type_among false false x (0x81 == n) (0x82 == n) (0x83 == n)) c
    ∙ ap (λ x. type_among false false false x (0x82 == n) (0x83 == n)) d
    ∙ ap (λ x. type_among false false false false x (0x83 == n)) e
    ∙ ap (λ x. type_among false false false false false x) f

-- a byte that is a hash type signs what consensus has it sign
abbrev IsConsensus : Spend → ℕ → Type 0
IsConsensus spend n = hash_by n spend ≡ Some (consensus_hash n spend (script_in spend))

at_type : (spend : Spend) (literal n : ℕ) → (literal == n) ≡ true → IsConsensus spend literal → IsConsensus spend n
at_type spend literal n e h = subst (IsConsensus spend) (eqb-true literal n e) h

signed_by : HashesOfTypes → (spend : Spend) (n : ℕ) → IsConsensus spend n ⊎ (hash_type_of n ≡ None)
signed_by hashes spend n = elim (cases_Bool (0x01 == n)) [
  | inl a ↦ inl (at_type spend 0x01 n a (hashes.0 spend))
  | inr a ↦ elim (cases_Bool (0x02 == n)) [
    | inl b ↦ inl (at_type spend 0x02 n b (hashes.1 spend))
    | inr b ↦ elim (cases_Bool (0x03 == n)) [
      | inl c ↦ inl (at_type spend 0x03 n c (hashes.2 spend))
      | inr c ↦ elim (cases_Bool (0x81 == n)) [
        | inl d ↦ inl (at_type spend 0x81 n d (hashes.3 spend))
        | inr d ↦ elim (cases_Bool (0x82 == n)) [
          | inl e ↦ inl (at_type spend 0x82 n e (hashes.4 spend))
          | inr e ↦ elim (cases_Bool (0x83 == n)) [
            | inl f ↦ inl (at_type spend 0x83 n f (hashes.5 spend))
            | inr f ↦ inr (no_type n a b c d e f)
          ]
        ]
      ]
    ]
  ]
]

-- where there is no hash, a signature is bad
none_is_bad : (key sig : Bytes) → judge key [] sig ≡ Bad
unfolding judge
none_is_bad key sig = go (point_of key) (numbers_of sig)
  where
    go : (point : Option Point) (numbers : Option (Bytes × Bytes)) → judged_by [] point numbers ≡ Bad
    go (Some point) (Some numbers) = refl
    go (Some point) None = refl
    go None (Some numbers) = refl
    go None None = refl

abbrev word_with : (key sig : Bytes) → Option Bytes → Judgement
word_with key sig hash = judge key (unwrap_or hash []) sig

good_is_one : (word : Judgement) → is_good word ≡ true → is_taken word ≡ true
good_is_one Bad e = e
good_is_one High e = refl
good_is_one Good e = refl

taken_by : HashesOfTypes → (spend : Spend) (key sig : Bytes) → is_good (word_of spend (key, sig)) ≡ true → consensus_check spend (script_in spend) key sig ≡ true
taken_by hashes spend key sig good = elim (signed_by hashes spend (last_byte sig)) [
  | inl is ↦ good_is_one (judged_in spend (script_in spend) key sig) (sym (ap (λ o. is_good (word_with key sig o)) is) ∙ good)
  | inr none ↦ absurd (false≢true (sym (ap is_good (ap (word_with key sig) (no_hash none) ∙ none_is_bad key sig)) ∙ good))
]
  where
    no_hash : hash_type_of (last_byte sig) ≡ None → hash_by (last_byte sig) spend ≡ None
    no_hash e = rw e refl

pub good_is_taken : HashesOfTypes → GoodIsTaken
good_is_taken hashes spend verified key sig is_held =
    let i = member_in (counted_signatures spend) key sig is_held in
    let j = subst (λ (v : Verification). Contains (counted_by v spend) (key, sig)) verified i in
    taken_by hashes spend key sig (counted_is Verified spend (key, sig) j).1

pub ready_is_accepted_by_consensus : EachIsSound → HashesOfTypes → ReadyIsAcceptedByConsensus
ready_is_accepted_by_consensus law hashes =
    of_each_ready law (λ input tree. input.spend.verification ≡ Verified → IsAcceptedByConsensus input tree) (λ input tree script c verified.
    let checker : Checker = consensus_check input.spend (script_in input.spend) in
    let holds : Holds checker (assets_of input.spend) = good_is_taken hashes input.spend verified in
    record {
      replayed = λ ends. replays input tree script c ends checker holds;
      within = λ limits are. within input tree script c limits checker are holds;
      unchangeable = unchangeable input tree script c checker holds;
    })

-- ---- the state by the assets

abbrev held_with : Assets → Tree → (fields : Map) → State
held_with assets tree fields =
    if is_sighash_wrong (asked_type fields) (signatures_in fields) then state.WrongSighash
    else if are_too_many fields then state.TooMany
    else choice_state (strict tree assets)

abbrev tree_with : Assets → Option Tree → (fields : Map) → State
tree_with assets None fields = state.NoReading
tree_with assets (Some tree) fields = unless_unfit (first_unfit tree) (held_with assets tree fields)

abbrev state_with : Assets → Result Bytes State → Option Tree → (fields : Map) → State
state_with assets (Ok script) found fields = tree_with assets found fields
state_with assets (Err told) found fields = told

state_is_with : (spend : Spend) (r : Result Bytes State) (o : Option Tree) → state_by r o spend ≡ state_with (assets_of spend) r o spend.fields
state_is_with spend (Ok script) (Some tree) = refl
state_is_with spend (Ok script) None = refl
state_is_with spend (Err told) o = refl

counted_state : (verification : Verification) (input : Input)
    → state_of (counting verification input) ≡ state_with (assets_of (counting verification input).spend) (script_code input.spend) input.tree input.spend.fields
counted_state verification input = state_is_with (counting verification input).spend (script_code input.spend) input.tree

-- ---- where each is good

all_pass : {A : Type 0} (test : A → Bool) (xs : List A) → AllByRecursion (λ x. test x ≡ true) xs → filter test xs ≡ xs
all_pass {A} test [] h = refl
all_pass {A} test (x ∷ xs) h = ap (λ b. cond b (x ∷ filter test xs) (filter test xs)) h.0 ∙ ap (λ l. x ∷ l) (all_pass test xs h.1)

all_good : (spend : Spend) (pairs : Pairs) → AllByRecursion (λ pair. word_of spend pair ≡ Good) pairs → AllByRecursion (λ pair. is_good (word_of spend pair) ≡ true) pairs
all_good spend [] h = tt
all_good spend (pair ∷ pairs) h = (ap is_good h.0, all_good spend pairs h.1)

same_assets : (input : Input) → AllByRecursion (λ pair. word_of input.spend pair ≡ Good) (signatures_in input.spend.fields)
    → assets_of (counting Verified input).spend ≡ assets_of (counting Unverified input).spend
same_assets input h =
    ap (λ (pairs : Pairs). record { locks = locks_of input.spend; pairs = pairs; preimages = preimages_in input.spend.fields })
    (all_pass (λ pair. is_good (word_of input.spend pair)) (signatures_in input.spend.fields) (all_good input.spend (signatures_in input.spend.fields) h))

abbrev written_with : Input → State → Option (List Bytes) → Map
written_with input told choice =
    if is_ready told
    then final_map input.spend.fields (script_sig_of input.spend) (witness_by (kind_of input.spend) (unwrap_or choice []) (script_in input.spend))
    else input.spend.fields

pub all_good_is_same : AllGoodIsSame
all_good_is_same input good =
    let same = same_assets input (recursion_from_All (λ pair. word_of input.spend pair ≡ Good) (signatures_in input.spend.fields) good) in
    let states : state_of (counting Verified input) ≡ state_of (counting Unverified input) =
    counted_state Verified input ∙ ap (λ (a : Assets). state_with a (script_code input.spend) input.tree input.spend.fields) same ∙ sym (counted_state Unverified input) in
    let choices : choice_of (counting Verified input) ≡ choice_of (counting Unverified input) =
    ap (λ (a : Assets). option_and_then (λ tree. strict tree a) input.tree) same in
    record {
      state = states;
      choice = choices;
      plan = λ tree. ap (plan_with tree) same;
      map = ap (λ s. written_with input s (choice_of (counting Verified input))) states
          ∙ ap (λ c. written_with input (state_of (counting Unverified input)) c) choices;
    }

-- ---- where some isn't

-- where each key that signs signs in other assets too, these have a canonical satisfaction if the first ones have one
more_sign : (tree : Tree) (some more : Assets) → IsWritable tree → IsSane tree → AreAssets some → AreAssets more → IsLike some more
    → ((key sig : Bytes) → sig_of some key ≡ Some sig → (found : Bytes) × (sig_of more key ≡ Some found)) → (stack : List Bytes) → Sat tree some stack
    → (chosen : List Bytes) × (strict tree more ≡ Some chosen)
more_sign tree some more writable is_sane some_are more_are like signs stack sat =
    let sane : IsSaneUnder Consensus tree = sane_under_consensus Policy tree is_sane in
    let t = tight_of_canonical tree some stack writable sane some_are sat in
    let s = lightest_of_tight tree some t.0 writable sane some_are t.1 in
    let w = reversed_some (strict_of some tree) s.0 s.1 in
    let x = taken_enough ⊥ some more.pairs some_are tree writable
    (λ key i sig h. let g = signs key sig h in (g.0, held_is_good more more_are key g.0 g.1, λ never. absurd never)) w.0 w.1 in
    let tight : Tight tree more (reverse x.0) =
    subst (λ a. TightSat a tree (reverse (reverse x.0))) (sym (like_with some more like))
    (subst (TightSat (with_pairs some more.pairs) tree) (sym (reverse-reverse x.0)) x.1) in
    let chosen = lightest_of_tight tree more (reverse x.0) writable sane more_are tight in
    (chosen.0, chosen.1)

abbrev Differ : (verified unverified : State) → Type 0
Differ verified unverified = (verified ≡ unverified) ⊎ ((unverified ≡ state.Ready) × (verified ≡ state.Unsatisfied))

-- by assets of which the first have no more
differ_by : (some more : Assets) (r : Result Bytes State) (o : Option Tree) (fields : Map)
    → ((tree : Tree) (script : Bytes) → r ≡ Ok script → o ≡ Some tree → first_unfit tree ≡ None → (stack : List Bytes) → strict tree some ≡ Some stack → strict tree more ≡ None → ⊥)
    → Differ (state_with some r o fields) (state_with more r o fields)
differ_by some more (Err told) o fields never = inl refl
differ_by some more (Ok script) None fields never = inl refl
differ_by some more (Ok script) (Some tree) fields never = by_reason (first_unfit tree) refl
  where
    by_choice : (v u : Option (List Bytes)) → strict tree some ≡ v → strict tree more ≡ u → first_unfit tree ≡ None → Differ (choice_state v) (choice_state u)
    by_choice (Some s) (Some t) e f sane = inl refl
    by_choice None None e f sane = inl refl
    by_choice None (Some t) e f sane = inr (refl, refl)
    by_choice (Some s) None e f sane = absurd (never tree script refl refl sane s e f)

    by_held : (wrong many : Bool) → first_unfit tree ≡ None
        → Differ (if wrong then state.WrongSighash else if many then state.TooMany else choice_state (strict tree some))
        (if wrong then state.WrongSighash else if many then state.TooMany else choice_state (strict tree more))
    by_held true many sane = inl refl
    by_held false true sane = inl refl
    by_held false false sane = by_choice (strict tree some) (strict tree more) refl refl sane

    by_reason : (u : Option Unfit) → first_unfit tree ≡ u → Differ (unless_unfit u (held_with some tree fields)) (unless_unfit u (held_with more tree fields))
    by_reason (Some unfit) e = inl refl
    by_reason None e = by_held (is_sighash_wrong (asked_type fields) (signatures_in fields)) (are_too_many fields) e

given_counting : (verification : Verification) (input : Input) → IsGiven input → IsGiven (counting verification input)
given_counting verification input given = record {
  place = record {
    locks = record { version = given.place.locks.version; sequence = given.place.locks.sequence; lock_time = given.place.locks.lock_time };
    version = given.place.version;
    sound = given.place.sound;
    fits = given.place.fits;
  };
  read = given.read;
}

differ : (input : Input) → IsGiven input → Differ (state_of (counting Verified input)) (state_of (counting Unverified input))
differ input given =
    elim (differ_by good all (script_code input.spend) input.tree input.spend.fields never) [
      | inl e ↦ inl (counted_state Verified input ∙ e ∙ sym (counted_state Unverified input))
      | inr h ↦ inr (counted_state Unverified input ∙ h.0, counted_state Verified input ∙ h.1)
    ]
  where
    good : Assets
    good = assets_of (counting Verified input).spend

    all : Assets
    all = assets_of (counting Unverified input).spend

    signs : (key sig : Bytes) → sig_of good key ≡ Some sig → (found : Bytes) × (sig_of all key ≡ Some found)
    signs key sig e =
        let i = counted_among Verified (counting Verified input).spend (key, sig) (held_of good key sig e) in
        let found = held_is_found all.pairs key sig i in
        (found.0, found.1)

    never : (tree : Tree) (script : Bytes) → script_code input.spend ≡ Ok script → input.tree ≡ Some tree → first_unfit tree ≡ None
        → (stack : List Bytes) → strict tree good ≡ Some stack → strict tree all ≡ None → ⊥
    never tree script spends is sane stack e f =
        let decoded : IsDecoded (keys_in input.spend.fields) script tree =
        subst (λ o. ReadsAs (keys_in input.spend.fields) (Ok script) o) is (subst (λ r. ReadsAs (keys_in input.spend.fields) r input.tree) spends given.read) in
        let writable = decoded.reading.writable in
        let are = held (counting Verified input) (given_counting Verified input given) in
        let sat = strict_is_canonical tree good stack writable are e in
        let more = more_sign tree good all writable sane are (held (counting Unverified input) (given_counting Unverified input given)) (record { locks = refl; preimages = refl }) signs stack sat in
        none-some more.0 (sym f ∙ more.1)

pub states_differ : EachIsSound → StatesDiffer
states_differ law = of_each law _ differ
