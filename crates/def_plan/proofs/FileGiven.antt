-- What a plan file that isn't refused gives.
use Rattle.std.proofs.Common.{◌≡◌, ◌≢◌, ℕ, ◌≤◌, nat_le, true, is_some, List, [], ◌∷◌, length, map, All, Option, Some, None, Ok, Err, refl, sym, ◌∙◌, ap, subst, arith, slice_index_or, lit<}
use Rattle.std.specs.List.{list_all, enumerate_from, IsDistinct}
use Rattle.std.specs.Str.{bytes_eq}
use Rattle.std.proofs.lemmas.Bool.{leb-true, and_parts}
use Rattle.std.proofs.lemmas.List.{length-map}
use Rattle.std.proofs.lemmas.List.Elements.{All-map}
use Rattle.std.proofs.lemmas.List.Folds.{list_all-map}
use Rattle.std.proofs.lemmas.List.Sums.{AllPass-from_list_all}
use Rattle.serde_json.specs.Data.{Data}
use Rattle.serde_json.specs.Find.{as_str}
use Rattle.def_script.specs.Bytes.{Bytes}
use Rattle.def_script.specs.Key.{is_key}
use Rattle.def_script.specs.Signature.{MAX_SIGNATURE_SIZE, is_signature_size}
use Rattle.def_tree.specs.Range.{IsKey}
use Rattle.def_assets.specs.Assets.{IsPreimage, same_pair}
use Rattle.def_files.specs.declared.Member.TheVariants as file_member
use Rattle.def_files.specs.Json.{find_member, reading, is_object, is_list_of}
use Rattle.def_files.specs.Parts.{version, sequence, locktime, list, elements, strings, is_text, is_hex, bytes_of, key_of, key_text}
use Rattle.def_files.specs.Refusals.{unless_any}
use Rattle.def_files.specs.AssetFile.{is_preimage, MOST_PREIMAGES}
use Rattle.def_files.proofs.Passing.{none_applies, held, each_held, AllTell, unless_tells, each_tells, first_tells}
use Rattle.def_files.proofs.Strings.{spelled-IsBytes}
use Rattle.def_files.proofs.Distinct.{distinct_keys, is_new}
use Rattle.def_files.proofs.Fits.{key_fits, preimage_fits, number_fits, all_mapped}
use Rattle.def_plan.specs.declared.PlanMember.TheVariants as member
use Rattle.def_plan.specs.declared.PlanFault.{PlanFault}
use Rattle.def_plan.specs.declared.PlanFault.TheVariants as fault
use Rattle.def_plan.specs.Lengths.{MOST_KEYS}
use Rattle.def_plan.specs.PlanFile.{PlanFile, key_list, key_elements, is_estimate, is_hex_key, length_at, plan_refusals, plan_in, given, plan_file_of}
use Rattle.def_plan.specs.FileLaws.{IsPlanFile, PlanFileGivesPlan, PlansWantNoMemory}

abbrev entry_of : Data → Bytes × ℕ
entry_of e = (key_of e, length_at e)

firsts_mapped : (xs : List Data) → map (λ (entry : Bytes × ℕ). entry.0) (map entry_of xs) ≡ map key_of xs
firsts_mapped [] = refl
firsts_mapped (x ∷ xs) = ap (λ ys. key_of x ∷ ys) (firsts_mapped xs)

fewer : {A B : Type 0} (f : A → B) (xs : List A) {most : ℕ} → length xs ≤ most → length (map f xs) ≤ most
fewer f xs h = let same = length-map xs f in omega (arith, same)

-- what the test of lengths says of each element
lengths_fit : (P : ℕ → Type 0) (xs : List Data) → ((n : ℕ) → is_signature_size n ≡ true → P n) → list_all is_signature_size (map length_at xs) ≡ true
    → All (λ x. P (length_at x)) xs
lengths_fit P xs fits e k d h =
    fits (length_at (slice_index_or xs k d)) (AllPass-from_list_all (λ x. is_signature_size (length_at x)) xs (sym (list_all-map is_signature_size length_at xs) ∙ e) k d h)

none_distinct : IsDistinct same_pair []
unfolding IsDistinct
none_distinct = tt

plan_fits : (value : Data) (file : PlanFile) → unless_any (plan_refusals value) (plan_in value) ≡ Ok file → IsPlanFile file
plan_fits value file e =
    let none = none_applies (plan_refusals value) (plan_in value) file e in
    -- those from number 5 on
    let rest = none.0.1.1.1.1.1.1.1.1 in
    let keys = key_elements value in
    let preimages = elements file_member.Preimages value in
    let fit = all_mapped key_of is_key IsKey keys key_fits (each_held is_key fault.KeyForm (map key_of keys) rest.0) (λ x. spelled-IsBytes (key_text x)) in
    let lengths = each_held is_signature_size fault.Length (map length_at keys) rest.1.0 in
    let some = lengths_fit (λ n. 1 ≤ n) keys (λ n q. leb-true 1 n (and_parts (nat_le 1 n) (nat_le n MAX_SIGNATURE_SIZE) q).0) lengths in
    let short = lengths_fit (λ n. n ≤ MAX_SIGNATURE_SIZE) keys (λ n q. leb-true n MAX_SIGNATURE_SIZE (and_parts (nat_le 1 n) (nat_le n MAX_SIGNATURE_SIZE) q).1) lengths in
    let texts = all_mapped bytes_of is_preimage IsPreimage preimages preimage_fits (each_held is_preimage fault.PreimageLength (map bytes_of preimages) rest.1.1.0) (λ x. spelled-IsBytes (as_str x)) in
    let distinct = distinct_keys fault.RepeatedKey (map key_of keys) rest.1.1.1.1.1.0 in
    subst IsPlanFile none.1 (record {
      held = record {
        held = record {
          keys = λ k d h. absurd (omega arith);
          signatures = λ k d h. absurd (omega arith);
          distinct = none_distinct;
          preimages = All-map IsPreimage bytes_of preimages texts;
          version = number_fits 2 (find_member file_member.Version value) (lit< tt);
          sequence = number_fits 0xfffffffe (find_member file_member.Sequence value) (lit< tt);
          locktime = number_fits 0 (find_member file_member.Locktime value) (lit< tt);
        };
        signatures = omega arith;
        preimages = fewer bytes_of preimages (leb-true (length preimages) 256 (held _ _ rest.1.1.1.1.0));
      };
      unsigned = refl;
      lengths = record {
        few = fewer entry_of keys (leb-true (length keys) 256 (held _ _ rest.1.1.1.0));
        keys = All-map (λ entry. IsKey entry.0) entry_of keys fit;
        distinct = rw (firsts_mapped keys) distinct;
        some = All-map (λ entry. 1 ≤ entry.1) entry_of keys some;
        short = All-map (λ entry. entry.1 ≤ MAX_SIGNATURE_SIZE) entry_of keys short;
      };
    })

given_ok : (read : Option Data) (file : PlanFile) → given read ≡ Ok file → (value : Data) × (unless_any (plan_refusals value) (plan_in value) ≡ Ok file)
given_ok None file e = cc e
given_ok (Some value) file e = (value, e)

pub plan_file_gives_plan : PlanFileGivesPlan
unfolding plan_file_of
plan_file_gives_plan bytes file e =
    let read = given_ok (reading bytes) file e in
    plan_fits read.0 file read.1

-- ---- which refusal never comes

abbrev IsNotMemory : PlanFault → Type 0
IsNotMemory e = e ≢ fault.Memory

faults_tell : (value : Data) → AllTell IsNotMemory (plan_refusals value)
faults_tell value =
    let P = IsNotMemory in
    let keys = key_elements value in
    let preimages = elements file_member.Preimages value in (
      unless_tells P (is_object value) (fault.Shape member.Whole) (λ q. cc q),
      (
        unless_tells P (is_list_of is_estimate (key_list value)) (fault.Shape member.Keys) (λ q. cc q),
        (
          unless_tells P (is_list_of is_text (list file_member.Preimages value)) (fault.Shape member.Preimages) (λ q. cc q),
          (
            unless_tells P (is_some (version value)) (fault.Number member.Version) (λ q. cc q),
            (
              unless_tells P (is_some (sequence value)) (fault.Number member.Sequence) (λ q. cc q),
              (
                unless_tells P (is_some (locktime value)) (fault.Number member.Locktime) (λ q. cc q),
                (
                  each_tells P is_hex_key (fault.Hex member.Keys) keys (λ i q. cc q),
                  (
                    each_tells P is_hex (fault.Hex member.Preimages) preimages (λ i q. cc q),
                    (
                      each_tells P is_key fault.KeyForm (map key_of keys) (λ i q. cc q),
                      (
                        each_tells P is_signature_size fault.Length (map length_at keys) (λ i q. cc q),
                        (
                          each_tells P is_preimage fault.PreimageLength (strings file_member.Preimages value) (λ i q. cc q),
                          (
                            unless_tells P (nat_le (length keys) MOST_KEYS) (fault.TooMany member.Keys) (λ q. cc q),
                            (
                              unless_tells P (nat_le (length preimages) MOST_PREIMAGES) (fault.TooMany member.Preimages) (λ q. cc q),
                              (
                                each_tells P (is_new bytes_eq (map key_of keys)) fault.RepeatedKey (enumerate_from 0 (map key_of keys)) (λ i q. cc q),
                                tt,
                              ),
                            ),
                          ),
                        ),
                      ),
                    ),
                  ),
                ),
              ),
            ),
          ),
        ),
      ),
    )

given_tells : (read : Option Data) → given read ≢ Err fault.Memory
given_tells None e = cc e
given_tells (Some value) e = first_tells IsNotMemory (plan_refusals value) (plan_in value) fault.Memory (faults_tell value) e refl

pub plans_want_no_memory : PlansWantNoMemory
unfolding plan_file_of
plans_want_no_memory bytes e = given_tells (reading bytes) e
