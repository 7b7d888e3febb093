-- Signatures of the asked type are judged for one hash.
use Rattle.std.proofs.Common.{◌≡◌, ℕ, ◌==◌, ◌&&◌, ◌||◌, nat_lt, not, false, true, Bool, List, [], ◌∷◌, ◌++◌, length, map, filter, is_some, Option, Some, refl, sym, ap, subst, ◌∙◌, if◌then◌else◌, arith}
use Rattle.std.specs.Borrow.{Bor}
use Rattle.std.specs.List.{AllByRecursion}
use Rattle.std.specs.Option.{unwrap_or}
use Rattle.std.proofs.lemmas.Bool.{or_parts, eqb-true, lt-ltb}
use Rattle.def_script.specs.Bytes.{Bytes}
use Rattle.def_machine.specs.declared.Locks.{Locks}
use Rattle.def_machine.specs.Stacks.{Pairs}
use Rattle.def_assets.specs.Assets.{Assets}
use Rattle.def_curve.specs.declared.Judgement.{Judgement}
use Rattle.def_curve.specs.Judgement.{judge}
use Rattle.def_spend.specs.declared.Verification.{Verification}
use Rattle.def_spend.specs.declared.Verification.TheVariants.{Verified, Unverified}
use Rattle.def_spend.specs.Fields.{signatures_in, preimages_in, last_byte, asked, asked_type}
use Rattle.def_spend.specs.HashTypes.{hash_type_of}
use Rattle.def_spend.specs.Hashes.{hash_by}
use Rattle.def_spend.specs.Input.{Spend, locks_of}
use Rattle.def_spend.specs.Good.{word_of, is_good, counted_by, assets_of}
use Rattle.def_spend.specs.States.{has_other_type, is_sighash_wrong}
use Rattle.ms_input.specs.Held.{Held, held_in}
use Rattle.ms_input.specs.declared.finalize.judging.Judging.{Judging}
use Rattle.ms_input.specs.declared.finalize.judging.Judging.TheVariants as judging
use Rattle.ms_input.specs.Settled.{asked_hash, IsJudged, IsOf, words_by, word_for, good_for}

-- signatures of a type
abbrev AreOfType : (type : ℕ) → Pairs → Type 0
AreOfType type = AllByRecursion (λ pair. last_byte pair.1 ≡ type)

positive : (b : Bool) → not b ≡ false → b ≡ true
positive true e = refl
positive false e = absurd cc

none_other : (type : ℕ) (pairs : Pairs) → has_other_type type pairs ≡ false → AreOfType type pairs
none_other type [] e = tt
none_other type (pair ∷ pairs) e =
    let parts = or_parts (not (last_byte pair.1 == type)) (has_other_type type pairs) e in
    (eqb-true (last_byte pair.1) type (positive (last_byte pair.1 == type) parts.0), none_other type pairs parts.1)

pub of_type : (type : ℕ) (pairs : Pairs) → is_sighash_wrong type pairs ≡ false → AreOfType type pairs
of_type type [] e = tt
of_type type (pair ∷ pairs) e =
    let some_pair : nat_lt 0 (length (pair ∷ pairs)) ≡ true = lt-ltb _ _ (omega arith) in
    none_other type (pair ∷ pairs)
    (or_parts (not (is_some (hash_type_of type))) (has_other_type type (pair ∷ pairs))
    (sym (ap (λ b. b && (not (is_some (hash_type_of type)) || has_other_type type (pair ∷ pairs))) some_pair) ∙ e)).1

-- by the hash of the asked type
same_word : (spend : Spend) (pair : Bytes × Bytes) → last_byte pair.1 ≡ asked_type spend.fields → word_for (asked_hash spend) pair ≡ word_of spend pair
same_word spend pair e = ap (λ (type : ℕ). judge pair.0 (unwrap_or (hash_by type spend) []) pair.1) (sym e)

same_words : (spend : Spend) (pairs : Pairs) → AreOfType (asked_type spend.fields) pairs → map (word_for (asked_hash spend)) pairs ≡ map (word_of spend) pairs
same_words spend [] h = refl
same_words spend (pair ∷ pairs) h =
    ap (λ (word : Judgement). word ∷ map (word_for (asked_hash spend)) pairs) (same_word spend pair h.0)
    ∙ ap (λ (words : List Judgement). word_of spend pair ∷ words) (same_words spend pairs h.1)

same_good : (spend : Spend) (pairs : Pairs) → AreOfType (asked_type spend.fields) pairs → good_for (asked_hash spend) pairs ≡ filter (λ pair. is_good (word_of spend pair)) pairs
same_good spend [] h = refl
same_good spend (pair ∷ pairs) h =
    ap (λ (word : Judgement). if is_good word then pair ∷ good_for (asked_hash spend) pairs else good_for (asked_hash spend) pairs) (same_word spend pair h.0)
    ∙ ap (λ (good : Pairs). if is_good (word_of spend pair) then pair ∷ good else good) (same_good spend pairs h.1)

-- ---- what counts

abbrev assets_with : Locks → Pairs → List Bytes → Assets
assets_with locks pairs preimages = record { locks = locks; pairs = pairs; preimages = preimages }

-- all
pub all_count : (spend : Spend) (held : Held) (locks : Locks) → held ≡ held_in spend.fields → locks ≡ locks_of spend → spend.verification ≡ Unverified
    → assets_with locks held.pairs held.preimages ≡ assets_of spend
all_count spend held locks fields values unverified =
    ap (λ (l : Locks). assets_with l held.pairs held.preimages) values
    ∙ ap (λ (h : Held). assets_with (locks_of spend) h.pairs h.preimages) fields
    ∙ ap (λ (v : Verification). assets_with (locks_of spend) (counted_by v spend) (preimages_in spend.fields)) (sym unverified)

pub none_judged : (spend : Spend) → spend.verification ≡ Unverified → words_by Unverified spend ≡ words_by spend.verification spend
none_judged spend unverified = ap (λ (v : Verification). words_by v spend) (sym unverified)

-- an input, whose signatures are of the asked type and judged for this hash
pub record AreJudged (spend : Spend) (held : Held) (hash : Bytes) : Type 0 where
  pub fields : held ≡ held_in spend.fields
  pub verified : spend.verification ≡ Verified
  pub hashed : hash ≡ asked_hash spend
  pub types : is_sighash_wrong (asked held.asked) held.pairs ≡ false

are_of_type : (spend : Spend) (held : Held) (hash : Bytes) → AreJudged spend held hash → AreOfType (asked_type spend.fields) (signatures_in spend.fields)
are_of_type spend held hash h =
    of_type (asked_type spend.fields) (signatures_in spend.fields) (sym (ap (λ (f : Held). is_sighash_wrong (asked f.asked) f.pairs) h.fields) ∙ h.types)

pub good_count : (spend : Spend) (held : Held) (locks : Locks) (hash : Bytes) → locks ≡ locks_of spend → AreJudged spend held hash
    → assets_with locks (good_for hash held.pairs) held.preimages ≡ assets_of spend
good_count spend held locks hash values h =
    ap (λ (l : Locks). assets_with l (good_for hash held.pairs) held.preimages) values
    ∙ ap (λ (f : Held). assets_with (locks_of spend) (good_for hash f.pairs) f.preimages) h.fields
    ∙ ap (λ (b : Bytes). assets_with (locks_of spend) (good_for b (signatures_in spend.fields)) (preimages_in spend.fields)) h.hashed
    ∙ ap (λ (pairs : Pairs). assets_with (locks_of spend) pairs (preimages_in spend.fields))
    (same_good spend (signatures_in spend.fields) (are_of_type spend held hash h))
    ∙ ap (λ (v : Verification). assets_with (locks_of spend) (counted_by v spend) (preimages_in spend.fields)) (sym h.verified)

pub are_judged : (spend : Spend) (held : Held) (hash : Bytes) → AreJudged spend held hash → Some (map (word_for hash) held.pairs) ≡ words_by spend.verification spend
are_judged spend held hash h =
    ap (λ (f : Held). Some (map (word_for hash) f.pairs)) h.fields
    ∙ ap (λ (b : Bytes). Some (map (word_for b) (signatures_in spend.fields))) h.hashed
    ∙ ap (λ (words : List Judgement). Some words) (same_words spend (signatures_in spend.fields) (are_of_type spend held hash h))
    ∙ ap (λ (v : Verification). words_by v spend) (sym h.verified)

-- ---- as code counts them

-- an input with this hash, by which its signatures are judged
judged_by : (spend : Spend) (held : Held) (locks : Locks) (told : Judging) (hash : Bor Bytes) → IsOf spend held locks told → told ≡ judging.Verified hash
    → is_sighash_wrong (asked held.asked) held.pairs ≡ false → AreJudged spend held hash.now
judged_by spend held locks told hash of is types =
    let both = subst (λ (j : Judging). IsJudged j spend) is of.judged in
    record { fields = of.fields; verified = both.0; hashed = both.1; types = types }

pub made_count : (spend : Spend) (held : Held) (locks : Locks) (told : Judging) (hash : Bor Bytes) (unsigned : Assets) (pairs : Pairs) (made : Assets)
    → IsOf spend held locks told → told ≡ judging.Verified hash → is_sighash_wrong (asked held.asked) held.pairs ≡ false
    → unsigned ≡ assets_with locks [] held.preimages → pairs ≡ held.pairs → made ≡ record unsigned { pairs = unsigned.pairs ++ good_for hash.now pairs }
    → made ≡ assets_of spend
made_count spend held locks told hash unsigned pairs made of is types unsigned_is pairs_are made_is =
    made_is
    ∙ ap (λ (a : Assets). record a { pairs = a.pairs ++ good_for hash.now pairs }) unsigned_is
    ∙ ap (λ (p : Pairs). assets_with locks (good_for hash.now p) held.preimages) pairs_are
    ∙ good_count spend held locks hash.now of.values (judged_by spend held locks told hash of is types)

pub made_words : (spend : Spend) (held : Held) (locks : Locks) (told : Judging) (hash : Bor Bytes) (pairs : Pairs) (words : Option (List Judgement))
    → IsOf spend held locks told → told ≡ judging.Verified hash → is_sighash_wrong (asked held.asked) held.pairs ≡ false
    → pairs ≡ held.pairs → words ≡ Some (map (word_for hash.now) pairs) → words ≡ words_by spend.verification spend
made_words spend held locks told hash pairs words of is types pairs_are words_are =
    words_are
    ∙ ap (λ (p : Pairs). Some (map (word_for hash.now) p)) pairs_are
    ∙ are_judged spend held hash.now (judged_by spend held locks told hash of is types)
