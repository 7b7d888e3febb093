-- How the signatures of an input are judged.
use Rattle.std.proofs.Common.{◌≡◌, ℕ, Bool, true, false, List, map, slice_get, Some, None, if◌then◌else◌, refl, sym, ap, subst, ◌∙◌}
use Rattle.std.specs.Option.{option_map}
use Rattle.std.proofs.lemmas.Option.{slice_get-map}
use Rattle.def_script.specs.Bytes.{Bytes}
use Rattle.def_curve.specs.declared.Judgement.{Judgement}
use Rattle.def_spend.specs.declared.State.{State}
use Rattle.def_spend.specs.declared.State.TheVariants as state
use Rattle.def_spend.specs.declared.Verification.{Verification}
use Rattle.def_spend.specs.declared.Verification.TheVariants.{Verified, Unverified}
use Rattle.def_spend.specs.Fields.{signatures_in}
use Rattle.def_spend.specs.Good.{word_of}
use Rattle.def_spend.specs.Input.{Spend}
use Rattle.def_spend.specs.States.{is_sane}
use Rattle.def_psbt_answer.specs.Report.{word_by, told_word}
use Rattle.ms_input.specs.Settled.{words_by, words_in}
use Rattle.ms_psbt_report.specs.Scaffolding.Words.{EachIsTold}

-- the word with a number
pub word_told : (known : Bool) (spend : Spend) (words : List Judgement) (number : ℕ) (pair : Bytes × Bytes) → words ≡ map (word_of spend) (signatures_in spend.fields)
    → EachIsTold known spend → slice_get (signatures_in spend.fields) number ≡ Some pair → slice_get words number ≡ told_word known spend pair
word_told known spend words number pair are told is =
    ap (λ (ws : List Judgement). slice_get ws number) are ∙ slice_get-map (word_of spend) (signatures_in spend.fields) number
    ∙ ap (option_map (word_of spend)) is ∙ sym (told pair)

-- ---- where signatures are verified

pub told_verified : (known : Bool) (spend : Spend) → known ≡ true → spend.verification ≡ Verified → EachIsTold known spend
told_verified known spend is verified =
    subst (λ b. EachIsTold b spend) (sym is) (λ pair. ap (λ v. word_by v spend pair) verified)

abbrev pub AreJudged : (known : Bool) → Spend → List Judgement → Type 0
AreJudged known spend words = (words ≡ map (word_of spend) (signatures_in spend.fields)) × EachIsTold known spend

judged_by : (v : Verification) (spend : Spend) (words : List Judgement) → spend.verification ≡ v → Some words ≡ words_by v spend → AreJudged true spend words
judged_by Verified spend words is e =
    let same : words ≡ map (word_of spend) (signatures_in spend.fields) = cc in
    (same, told_verified true spend refl is)
judged_by Unverified spend words is e = absurd cc

-- the words that were found where an input was read
pub words_judged : (s : State) (spend : Spend) (words : List Judgement) → Some words ≡ words_in s spend → AreJudged (is_sane s) spend words
words_judged state.Final spend words e = absurd cc
words_judged state.NoUtxo spend words e = absurd cc
words_judged state.WrongUtxo spend words e = absurd cc
words_judged state.OtherOutput spend words e = absurd cc
words_judged state.NoScript spend words e = absurd cc
words_judged state.WrongScript spend words e = absurd cc
words_judged state.NoReading spend words e = absurd cc
words_judged (state.Unfit unfit) spend words e = absurd cc
words_judged state.WrongSighash spend words e = absurd cc
words_judged state.TooMany spend words e = absurd cc
words_judged state.Unsatisfied spend words e = judged_by spend.verification spend words refl e
words_judged state.Ready spend words e = judged_by spend.verification spend words refl e

-- ---- where they aren't, or it isn't known what they sign

pub untold_unverified : (known : Bool) (spend : Spend) → spend.verification ≡ Unverified → (pair : Bytes × Bytes) → told_word known spend pair ≡ None
untold_unverified true spend is pair = ap (λ v. word_by v spend pair) is
untold_unverified false spend is pair = refl

pub untold_unknown : (known : Bool) (spend : Spend) → known ≡ false → (pair : Bytes × Bytes) → told_word known spend pair ≡ None
untold_unknown known spend is pair = ap (λ (b : Bool). if b then word_by spend.verification spend pair else None) is
