-- Every PSBT that a source of bytes gives is whole, and its inputs hold keys and assets.
use Rattle.std.proofs.Common.{ℕ, ◌+◌, List, [], ◌∷◌, subst}
use Rattle.std.specs.List.{AllByRecursion}
use Rattle.std.proofs.lemmas.List.Elements.{All-from_recursion, All-weaker, recursion_from_All}
use Rattle.def_script.specs.Bytes.{IsBytes}
use Rattle.def_psbt.specs.Transaction.{TransactionInput, Transaction}
use Rattle.def_psbt.specs.Map.{Map, Psbt}
use Rattle.def_psbt.specs.Listed.{input_form}
use Rattle.def_psbt.specs.declared.PsbtVersion.{PsbtVersion}
use Rattle.def_psbt.specs.Fields.{version_of}
use Rattle.def_psbt.specs.Reading.{input_rules}
use Rattle.def_psbt.specs.Laws.{IsSoundMap, IsWholeMap, ReadIsWritten}
use Rattle.def_spend.specs.declared.Verification.{Verification}
use Rattle.def_spend.specs.Input.{Spend, spends_from, spends_of}
use Rattle.ms_given_laws.specs.Given.{IsInput, IsTransaction, IsMapOfBytes, IsWhole, EachIsSound, EachHasKeys, EachHasAssets}
use Rattle.ms_given_laws.proofs.Decoded.{from_source}
use Rattle.ms_given_laws.proofs.Maps.{whole_is}
use Rattle.ms_given_laws.proofs.Held.{HasLocks, keys_are, assets_are}

-- what each input has beside its map
pub record HasPlace (spend : Spend) : Type 0 where
  pub locks : HasLocks spend
  pub version : PsbtVersion
  pub sound : IsSoundMap (input_form version) [] spend.fields
  pub fits : IsMapOfBytes spend.fields

places_from : (verification : Verification) (version : PsbtVersion) (transaction : Transaction) (number : ℕ) (inputs : List TransactionInput) (maps : List Map) → IsTransaction transaction
    → AllByRecursion IsInput inputs → AllByRecursion (IsWholeMap (input_rules version)) maps → AllByRecursion IsMapOfBytes maps
    → AllByRecursion HasPlace (spends_from verification transaction number inputs maps)
places_from verification version transaction number [] maps whole ins sound fits = tt
places_from verification version transaction number (input ∷ inputs) [] whole ins sound fits = tt
places_from verification version transaction number (input ∷ inputs) (fields ∷ maps) whole ins sound fits = (
  record {
    locks = record { version = whole.version; sequence = ins.0.sequence; lock_time = whole.lock_time };
    version = version;
    sound = sound.0.sound;
    fits = fits.0;
  },
  places_from verification version transaction (number + 1) inputs maps whole ins.1 sound.1 fits.1,
)

-- of a PSBT that is whole
pub places : (verification : Verification) (psbt : Psbt) → IsWhole psbt → AllByRecursion HasPlace (spends_of verification psbt)
places verification psbt whole =
    places_from verification (version_of psbt.global) psbt.transaction 0 psbt.transaction.inputs psbt.inputs whole.transaction
    (recursion_from_All IsInput psbt.transaction.inputs whole.transaction.inputs)
    (recursion_from_All (IsWholeMap (input_rules (version_of psbt.global))) psbt.inputs whole.sound.inputs)
    (recursion_from_All IsMapOfBytes psbt.inputs whole.inputs)

pub each_is_sound : ReadIsWritten → EachIsSound
each_is_sound law source psbt fits e =
    let b = from_source source psbt fits e in
    let told = law b.0 psbt b.1.fits b.1.short b.1.magic b.1.read in
    whole_is psbt told.0 (subst IsBytes told.1 b.1.fits)

pub each_has_keys : ReadIsWritten → EachHasKeys
each_has_keys law source psbt fits e verification =
    All-weaker HasPlace _ (λ spend place. keys_are spend.fields place.fits) (spends_of verification psbt)
    (All-from_recursion HasPlace (spends_of verification psbt) (places verification psbt (each_is_sound law source psbt fits e)))

pub each_has_assets : ReadIsWritten → EachHasAssets
each_has_assets law source psbt fits e verification =
    All-weaker HasPlace _ (λ spend place. assets_are place.version spend place.locks place.sound place.fits) (spends_of verification psbt)
    (All-from_recursion HasPlace (spends_of verification psbt) (places verification psbt (each_is_sound law source psbt fits e)))
