-- The signatures that a plan asks for make an input Ready.
use Rattle.std.proofs.Common.{◌≡◌, ℕ, ◌≤◌, ◌==◌, ◌&&◌, ◌||◌, nat_lt, true, false, not, cond, IsTrue, IsSome, is_some, All, ◌⊎◌, List, [], ◌∷◌, ◌++◌, length, Contains, Option, Some, None, Ok, inl, inr, refl, sym, ap, subst, ◌∙◌, arith}
use Rattle.std.specs.List.{AllByRecursion}
use Rattle.std.proofs.lemmas.Bool.{eq-eqb, lt-ltb, cases_Bool}
use Rattle.std.proofs.lemmas.Option.{none-some}
use Rattle.std.proofs.lemmas.List.Elements.{recursion_from_All, All-from_recursion, All-contains, Contains-append_right}
use Rattle.def_script.specs.Bytes.{Bytes}
use Rattle.def_script.specs.Witness.{weight}
use Rattle.def_machine.specs.Stacks.{Pairs}
use Rattle.def_tree.specs.Tree.{Key, Tree}
use Rattle.def_assets.specs.Assets.{Assets, IsSignature, AreAssets, sig_of}
use Rattle.def_assets.proofs.Distinct.{only_signature}
use Rattle.def_assets.proofs.Shortest.{held_is_found}
use Rattle.def_sane.specs.Keys.{keys}
use Rattle.def_choice.specs.Strict.{strict}
use Rattle.def_decode.specs.Decoded.{IsDecoded}
use Rattle.def_plan.specs.Lengths.{IsLike, SignBelow}
use Rattle.def_plan.specs.Plan.{Plan}
use Rattle.ms_plan_laws.proofs.Found.{held_of}
use Rattle.ms_plan_laws.proofs.Order.{first_or_other, in_part}
use Rattle.ms_plan_laws.proofs.Plans.{weighs_at_most_always, in_order_always}
use Rattle.def_psbt.specs.Map.{Pair, Map, data_of}
use Rattle.def_spend.specs.declared.State.TheVariants as state
use Rattle.def_spend.specs.Fields.{is_signed, signatures_in, keys_in, last_byte, asked_type}
use Rattle.def_spend.specs.HashTypes.{hash_type_of}
use Rattle.def_spend.specs.declared.Verification.{Verification}
use Rattle.def_spend.specs.declared.Verification.TheVariants.{Verified, Unverified}
use Rattle.def_spend.specs.Good.{is_good, assets_of}
use Rattle.def_spend.specs.Reading.{Input, script_code, ReadsAs, HasReading}
use Rattle.def_spend.specs.States.{has_other_type, is_sighash_wrong, choice_state}
use Rattle.def_spend.specs.Asking.{length_by, lengths_of, plan_with, unsigned_keys}
use Rattle.ms_given_laws.specs.Given.{EachIsSound}
use Rattle.ms_given_laws.proofs.Later.{IsPairOfBytes}
use Rattle.ms_given_laws.proofs.Held.{HasLocks, each_kept, one_signature, assets_are}
use Rattle.ms_spend_laws.specs.Tried.{IsTried}
use Rattle.ms_spend_laws.specs.Planned.{NoPlanIsVain, ConsistsOf, with_map, AreAdded, IsReadyWithin, PlanMakesReady, HasKeysOf, ReadingStays}
use Rattle.ms_spend_laws.proofs.Inputs.{IsGiven, held}
use Rattle.ms_spend_laws.proofs.States.{state_is, stack_is, writes, of_each_in}
use Rattle.ms_spend_laws.proofs.Mixed.{made_stays, made_of, none_among, none_of_some}
use Rattle.ms_spend_laws.proofs.Counted.{is_counted, counted_is, is_in_counted, counted_distinct}
use Rattle.ms_spend_laws.proofs.Reread.{AreSigned, SpendAlike, preimages_stay, asked_stays, alike, alike_both, script_alike, word_alike, decoded_appended, decoded_among}
use Rattle.ms_spend_laws.proofs.Planning.{is_input, listed, no_plan}

pub no_plan_is_vain : EachIsSound → NoPlanIsVain
no_plan_is_vain law = of_each_in law state.Unsatisfied tt _ (λ input tree script given tried e.
    no_plan tree (assets_of input.spend) (is_input tree (assets_of input.spend) (writes input tree script tried) tried.sane (held input given)))

-- an input, its tree, its plan, and the pairs that are added
module _ (input : Input) (tree : Tree) (script : Bytes) (given : IsGiven input) (tried : IsTried input tree script)
    (plan : Plan) (planned : plan_with tree (assets_of input.spend) ≡ Some plan)
    (added later : Map) (are : AreAdded input (unsigned_keys (assets_of input.spend) plan.keys) added later) where
  abbrev one : Assets
  one = assets_of input.spend

  abbrev again : Input
  again = with_map input later

  abbrev other : Assets
  other = assets_of again.spend

  signed : AreSigned added
  signed = recursion_from_All (λ pair. is_signed pair ≡ true) added are.signatures

  -- those whose place is taken
  abbrev IsPassedOver : Pair → Type 0
  IsPassedOver pair = IsTrue (is_signed pair) × (sig_of one (data_of pair.key) ≡ None)

  all_signed : (l : Map) → AllByRecursion IsPassedOver l → AreSigned l
  all_signed [] h = tt
  all_signed (pair ∷ l) h = (h.0.0, all_signed l h.1)

  passed_over : AllByRecursion IsPassedOver are.former
  passed_over = recursion_from_All IsPassedOver are.former are.passed_over

  replaced : AreSigned are.former
  replaced = all_signed are.former passed_over

  -- what the input spends stays
  spend_alike : SpendAlike input.spend.fields later
  spend_alike =
      alike_both are.kept input.spend.fields later (alike input.spend.fields are.kept are.former are.own replaced) (alike later are.kept added are.parts signed)

  locks : HasLocks again.spend
  locks = record { version = given.place.locks.version; sequence = given.place.locks.sequence; lock_time = given.place.locks.lock_time }

  other_held : AreAssets other
  other_held = assets_are are.version again.spend locks are.sound are.bytes

  like : IsLike one other
  like = record {
    locks = refl;
    preimages = preimages_stay later are.kept added are.parts signed ∙ sym (preimages_stay input.spend.fields are.kept are.former are.own replaced);
  }

  -- a signature that counts is there
  abbrev pair_of : Pair → Bytes × Bytes
  pair_of pair = (data_of pair.key, pair.value)

  none_counts : (key sig : Bytes) → Contains (signatures_in are.former) (key, sig) → sig_of one key ≡ None
  none_counts key sig i =
      All-contains (λ pair. sig_of one pair.0 ≡ None) (signatures_in are.former) (key, sig)
      (All-from_recursion (λ pair. sig_of one pair.0 ≡ None) (signatures_in are.former)
      (each_kept IsPassedOver (λ pair. sig_of one pair.0 ≡ None) is_signed pair_of (λ pair test h. h.1) are.former passed_over)) i

  not_former : (key sig : Bytes) → Contains one.pairs (key, sig) → Contains (signatures_in are.former) (key, sig) → ⊥
  not_former key sig held former =
      let found = held_is_found one.pairs key sig held in
      none-some found.0 (sym (none_counts key sig former) ∙ found.1)

  still_counts : (verification : Verification) (pair : Bytes × Bytes) → is_counted verification input.spend pair ≡ true → is_counted verification again.spend pair ≡ true
  still_counts Verified pair e = ap is_good (word_alike input.spend later spend_alike pair) ∙ e
  still_counts Unverified pair e = refl

  old_there : (key sig : Bytes) → Contains one.pairs (key, sig) → Contains other.pairs (key, sig)
  old_there key sig i =
      let counts = counted_is input.spend.verification input.spend (key, sig) i in
      elim (made_of is_signed pair_of input.spend.fields are.kept are.former are.own (key, sig) counts.0) [
        | inl kept ↦ is_in_counted input.spend.verification again.spend (key, sig) (made_stays is_signed pair_of later are.kept added are.parts (key, sig) kept)
            (still_counts input.spend.verification (key, sig) counts.1)
        | inr former ↦ absurd (not_former key sig i former)
      ]

  only : (key sig : Bytes) → Contains other.pairs (key, sig) → sig_of other key ≡ Some sig
  only key sig i =
      only_signature other key sig
      (counted_distinct input.spend.verification again.spend (one_signature are.version [] later are.sound (recursion_from_All IsPairOfBytes later are.bytes))) i

  -- ---- each key of the plan signs

  kept_in : (ks : List Key) (key : Key) → Contains ks key → sig_of one key ≡ None → Contains (unsigned_keys one ks) key
  kept_in [] key i e = absurd (let low = i.1 in omega (arith, low))
  kept_in (first ∷ ks) key i e =
      elim (first_or_other first ks key i) [
        | inl same ↦
            let open_key : not (is_some (sig_of one first)) ≡ true = ap (λ o. not (is_some o)) (ap (sig_of one) (sym same) ∙ e) in
            subst (λ l. Contains l key) (sym (ap (λ b. cond b (first ∷ unsigned_keys one ks) (unsigned_keys one ks)) open_key)) (0, omega arith, sym same)
        | inr rest ↦
            let there = kept_in ks key rest e in
            elim (cases_Bool (not (is_some (sig_of one first)))) [
              | inl is ↦ rw is (Contains-append_right (first ∷ []) (unsigned_keys one ks) key there)
              | inr is ↦ rw is there
            ]
      ]

  signs : (key : Key) → Contains plan.keys key → (o : Option Bytes) → sig_of one key ≡ o → (sig : Bytes) × (sig_of other key ≡ Some sig) × (length sig ≤ length_by o)
  signs key i (Some sig) e =
      let there = old_there key sig (held_of one key sig e) in
      (sig, only key sig there, omega arith)
  signs key i None e =
      let new = are.each key (kept_in plan.keys key i e) in
      let there = new.1 in
      let is : IsSignature new.0 = All-contains (λ pair. IsSignature pair.1) other.pairs (key, new.0) other_held.signatures there in
      (new.0, only key new.0 there, is.few)

  below : SignBelow (Contains plan.keys) (lengths_of tree one) other
  below key i =
      let input_is = is_input tree one (writes input tree script tried) tried.sane (held input given) in
      let order = in_order_always tree one (lengths_of tree one) plan input_is planned in
      let there = in_part plan.keys (keys tree) order.order key i in
      let sig = signs key i (sig_of one key) refl in
      (length_by (sig_of one key), sig.0, listed (λ k. length_by (sig_of one k)) (keys tree) key there, sig.1, sig.2)

  light : (stack : List Bytes) × (strict tree other ≡ Some stack) × (weight stack ≤ plan.weight)
  light =
      let input_is = is_input tree one (writes input tree script tried) tried.sane (held input given) in
      weighs_at_most_always tree one (lengths_of tree one) plan input_is planned other other_held like below

  -- ---- the state

  spends : script_code again.spend ≡ Ok script
  spends = script_alike input.spend later spend_alike ∙ tried.spends

  decoded : IsDecoded (keys_in later) script tree
  decoded =
      let read = are.read in
      subst (λ o. ReadsAs (keys_in later) (Ok script) o) tried.read (subst (λ r. ReadsAs (keys_in later) r input.tree) spends read)

  -- no signature has another type
  old_types : (type : ℕ) (pairs : Pairs) → IsSome (hash_type_of type) → is_sighash_wrong type pairs ≡ false → has_other_type type pairs ≡ false
  old_types type [] some e = refl
  old_types type (pair ∷ pairs) some e =
      let some_pair : nat_lt 0 (length (pair ∷ pairs)) ≡ true = lt-ltb _ _ (omega arith) in
      sym (ap (λ b. not b || has_other_type type (pair ∷ pairs)) some)
      ∙ sym (ap (λ b. b && (not (is_some (hash_type_of type)) || has_other_type type (pair ∷ pairs))) some_pair) ∙ e

  new_types : (type : ℕ) (l : Map) → AllByRecursion (λ pair. last_byte pair.value ≡ type) l → has_other_type type (signatures_in l) ≡ false
  new_types type [] h = refl
  new_types type (pair ∷ l) h =
      let rest = new_types type l h.1 in
      elim (cases_Bool (is_signed pair)) [
        | inl is ↦ rw (is, h.0, eq-eqb type type refl) rest
        | inr other ↦ rw other rest
      ]

  right : (type : ℕ) (pairs : Pairs) → IsSome (hash_type_of type) → has_other_type type pairs ≡ false → is_sighash_wrong type pairs ≡ false
  right type [] some e = refl
  right type (pair ∷ pairs) some e =
      let some_pair : nat_lt 0 (length (pair ∷ pairs)) ≡ true = lt-ltb _ _ (omega arith) in
      ap (λ b. b && (not (is_some (hash_type_of type)) || has_other_type type (pair ∷ pairs))) some_pair
      ∙ ap (λ b. not b || has_other_type type (pair ∷ pairs)) some ∙ e

  types : is_sighash_wrong (asked_type later) (signatures_in later) ≡ false
  types =
      let type : ℕ = asked_type input.spend.fields in
      let old = old_types (asked_type input.spend.fields) (signatures_in input.spend.fields) are.type tried.types in
      let new = new_types (asked_type input.spend.fields) added (recursion_from_All (λ pair. last_byte pair.value ≡ asked_type input.spend.fields) added are.types) in
      let kept = none_of_some (λ pair. not (last_byte pair.1 == type)) is_signed pair_of input.spend.fields are.kept are.former are.own old in
      let all = none_among (λ pair. not (last_byte pair.1 == type)) is_signed pair_of later are.kept added are.parts kept new in
      ap (λ t. is_sighash_wrong t (signatures_in later))
      (asked_stays later are.kept added are.parts signed ∙ sym (asked_stays input.spend.fields are.kept are.former are.own replaced))
      ∙ right (asked_type input.spend.fields) (signatures_in later) are.type all

  pub ready_within : IsReadyWithin again plan.weight
  ready_within =
      let t : IsTried again tree script = record { spends = spends; read = tried.read; decoded = decoded; sane = tried.sane; types = types; few = are.few } in
      record {
        ready = state_is again tree script t ∙ ap choice_state light.1;
        weight = subst (λ s. weight s ≤ plan.weight) (sym (stack_is again tree script light.0 t light.1)) light.2;
      }

pub plan_makes_ready : EachIsSound → PlanMakesReady
plan_makes_ready law = of_each_in law state.Unsatisfied tt _ (λ input tree script given tried e. ready_within input tree script given tried)

-- ---- what it is read as

-- signatures leave what the input is read as
read_stays : (input : Input) (tree : Tree) (script : Bytes) → IsTried input tree script → (kept former added later : Map) → ConsistsOf input.spend.fields kept former
    → ConsistsOf later kept added → All (λ pair. IsTrue (is_signed pair)) former → All (λ pair. IsTrue (is_signed pair)) added
    → (later ≡ input.spend.fields ++ added) ⊎ HasKeysOf input.spend.fields later → HasReading (with_map input later)
read_stays input tree script tried kept former added later own parts replaced signatures how =
    let same =
    alike_both kept input.spend.fields later (alike input.spend.fields kept former own (recursion_from_All (λ pair. is_signed pair ≡ true) former replaced))
    (alike later kept added parts (recursion_from_All (λ pair. is_signed pair ≡ true) added signatures)) in
    let spends = script_alike input.spend later same ∙ tried.spends in
    subst (λ r. ReadsAs (keys_in later) r input.tree) (sym spends) (subst (λ o. ReadsAs (keys_in later) (Ok script) o) (sym tried.read) (decoded_by how))
  where
    decoded_by : (later ≡ input.spend.fields ++ added) ⊎ HasKeysOf input.spend.fields later → IsDecoded (keys_in later) script tree
    decoded_by (inl same) = subst (λ (l : Map). IsDecoded (keys_in l) script tree) (sym same) (decoded_appended input.spend.fields added script tree tried.decoded)
    decoded_by (inr keys) = decoded_among input.spend.fields later script tree keys tried.decoded

pub reading_stays : EachIsSound → ReadingStays
reading_stays law = of_each_in law state.Unsatisfied tt _ (λ input tree script given tried e. read_stays input tree script tried)
