-- What a file that isn't refused gives.
use Rattle.std.proofs.Common.{◌≡◌, ℕ, ◌≤◌, List, Ok, map, subst, arith, length, slice_index_or, unwrap_or, lit<}
use Rattle.std.proofs.lemmas.Bool.{leb-true}
use Rattle.std.proofs.lemmas.List.{length-map}
use Rattle.std.proofs.lemmas.List.Elements.{All-map}
use Rattle.serde_json.specs.Data.{Data}
use Rattle.serde_json.specs.Find.{as_str}
use Rattle.def_script.specs.Bytes.{IsBytes}
use Rattle.def_script.specs.Key.{is_key}
use Rattle.def_tree.specs.Range.{IsKey}
use Rattle.def_assets.specs.Assets.{Assets, IsSignature, IsPreimage}
use Rattle.def_files.specs.declared.Format.TheVariants.{One as one}
use Rattle.def_files.specs.declared.Member.TheVariants as member
use Rattle.def_files.specs.declared.AssetFault.TheVariants as fault
use Rattle.def_files.specs.Json.{find_member, reading}
use Rattle.def_files.specs.Parts.{format, elements, bytes_of, key_of, sig_of, key_text, sig_text, pairs}
use Rattle.def_files.specs.Refusals.{unless_any}
use Rattle.def_files.specs.AssetFile.{assets_of, asset_refusals, assets_in, is_signature, is_preimage}
use Rattle.def_files.specs.RunFile.{RunFile, run_of, script_text, run_refusals, run_in}
use Rattle.def_files.specs.Laws.{AssetFileGivesAssets, AreFewAssets, RunFileGivesRun, IsRunFile}
use Rattle.def_files.proofs.Passing.{none_applies, held, each_held, given_ok}
use Rattle.def_files.proofs.Strings.{spelled-IsBytes}
use Rattle.def_files.proofs.Distinct.{distinct_pairs}
use Rattle.def_files.proofs.Fits.{key_fits, signature_fits, preimage_fits, number_fits, all_mapped}

-- a mapped list is no longer
fewer : {A B : Type 0} (f : A → B) (xs : List A) {most : ℕ} → length xs ≤ most → length (map f xs) ≤ most
fewer f xs h = let same = length-map xs f in omega (arith, same)

assets_fit : (file : Data) (assets : Assets) → unless_any (asset_refusals file) (assets_in file) ≡ Ok assets →
    AreFewAssets assets
assets_fit file assets e =
    let value = assets_in file in
    let none = none_applies (asset_refusals file) value assets e in
    let same = none.1 in
    -- those from number 5 on
    let rest = none.0.1.1.1.1.1.1.1.1.1 in
    let signatures = elements member.Signatures file in
    let preimages = elements member.Preimages file in
    let keys = all_mapped key_of is_key IsKey signatures key_fits (each_held is_key fault.KeyForm (map key_of signatures) rest.0) (λ x. spelled-IsBytes (key_text x)) in
    let sigs = all_mapped sig_of is_signature IsSignature signatures signature_fits (each_held is_signature fault.SigLength (map sig_of signatures) rest.1.0) (λ x. spelled-IsBytes (sig_text x)) in
    let strings = all_mapped bytes_of is_preimage IsPreimage preimages preimage_fits
    (each_held is_preimage fault.PreimageLength (map bytes_of preimages) rest.1.1.0) (λ x. spelled-IsBytes (as_str x)) in
    let distinct = distinct_pairs fault.RepeatedKey (unwrap_or (format file) one) (pairs file) rest.1.1.1.1.1.0 in
    subst AreFewAssets same (record {
      held = record {
        keys = All-map (λ pair. IsKey pair.0) (λ x. (key_of x, sig_of x)) signatures keys;
        signatures = All-map (λ pair. IsSignature pair.1) (λ x. (key_of x, sig_of x)) signatures sigs;
        distinct = distinct;
        preimages = All-map IsPreimage bytes_of preimages strings;
        version = number_fits 2 (find_member member.Version file) (lit< tt);
        sequence = number_fits 0xfffffffe (find_member member.Sequence file) (lit< tt);
        locktime = number_fits 0 (find_member member.Locktime file) (lit< tt);
      };
      signatures = fewer (λ x. (key_of x, sig_of x)) signatures (leb-true (length signatures) 256 (held _ _ rest.1.1.1.0));
      preimages = fewer bytes_of preimages (leb-true (length preimages) 256 (held _ _ rest.1.1.1.1.0));
    })

pub asset_file_gives_assets : AssetFileGivesAssets
unfolding assets_of
asset_file_gives_assets bytes assets e =
    let read = given_ok (λ file. unless_any (asset_refusals file) (assets_in file)) (reading bytes) assets e in
    assets_fit read.0 assets read.1

-- ---- run files

run_fits : (file : Data) (given : RunFile) → unless_any (run_refusals file) (run_in file) ≡ Ok given → IsRunFile given
run_fits file given e =
    let none = none_applies (run_refusals file) (run_in file) given e in
    let signatures = elements member.Signatures file in
    let stack = elements member.Witness file in
    -- those of number 8
    let rest = none.0.1.1.1.1.1.1.1.1.1.1 in
    subst IsRunFile none.1 (record {
      script = spelled-IsBytes (script_text file);
      stack = All-map IsBytes bytes_of stack (λ k d h. spelled-IsBytes (as_str (slice_index_or stack k d)));
      elements = fewer bytes_of stack (leb-true (length stack) 2000 (held _ _ rest.1.0));
      keys = All-map (λ pair. IsBytes pair.0) (λ x. (key_of x, sig_of x)) signatures (λ k d h. spelled-IsBytes (key_text (slice_index_or signatures k d)));
      sigs = All-map (λ pair. IsBytes pair.1) (λ x. (key_of x, sig_of x)) signatures (λ k d h. spelled-IsBytes (sig_text (slice_index_or signatures k d)));
      signatures = fewer (λ x. (key_of x, sig_of x)) signatures (leb-true (length signatures) 256 (held _ _ rest.0));
      version = number_fits 2 (find_member member.Version file) (lit< tt);
      sequence = number_fits 0xfffffffe (find_member member.Sequence file) (lit< tt);
      locktime = number_fits 0 (find_member member.Locktime file) (lit< tt);
    })

pub run_file_gives_run : RunFileGivesRun
unfolding run_of
run_file_gives_run bytes given e =
    let read = given_ok (λ file. unless_any (run_refusals file) (run_in file)) (reading bytes) given e in
    run_fits read.0 given read.1
