-- What an input's signatures are judged by.
use Rattle.std.proofs.Common.{◌≡◌, ℕ, Option, Some, None, Result, Ok, Err, refl, sym, ap, subst, ◌∙◌}
use Rattle.std.specs.Prelude.{IfSome}
use Rattle.def_script.specs.Bytes.{Bytes}
use Rattle.def_psbt.specs.Transaction.{TransactionInput, Transaction}
use Rattle.def_psbt.specs.Map.{Psbt}
use Rattle.def_spend.specs.declared.State.{State}
use Rattle.def_spend.specs.declared.Verification.{Verification}
use Rattle.def_spend.specs.declared.Verification.TheVariants.{Verified, Unverified}
use Rattle.def_spend.specs.Fields.{asked, asked_type}
use Rattle.def_spend.specs.Hashes.{script_or_none, script_in, hash_by}
use Rattle.def_spend.specs.Input.{Spend}
use Rattle.def_spend.specs.Reading.{script_code}
use Rattle.ms_input.specs.Held.{Held, held_in}
use Rattle.ms_input.specs.declared.input.verifying.Verifying.{Verifying}
use Rattle.ms_input.specs.Verified.{IsVerifying, verification_of}
use Rattle.ms_input.specs.Scaffolding.Kept.{IsAt, asked_by}

-- what is shared is of the spend's transaction
pub told_verifying : (verifying : Verifying) (psbt : Psbt) (number : ℕ) (spend : Spend) {verification : Verification} {input : TransactionInput} {held : Held}
    → IsAt verification psbt number spend input held → IsVerifying verifying psbt.transaction number → IsVerifying verifying spend.transaction spend.number
told_verifying verifying psbt number spend {verification} {input} {held} at h =
    subst (λ (t : Transaction). IsVerifying verifying t spend.number) (sym at.transaction)
    (subst (λ (n : ℕ). IsVerifying verifying psbt.transaction n) (sym at.same_number) h)

pub script_in_is : (spend : Spend) (script : Bytes) → script_code spend ≡ Ok script → script ≡ script_in spend
script_in_is spend script e = sym (ap script_or_none e)

-- the hash is of the asked type
pub is_judged : (verifying : Verifying) (spend : Spend) (held : Held) (number : ℕ) (hash : Option Bytes) → held ≡ held_in spend.fields → number ≡ asked held.asked
    → (verification_of verifying ≡ Verified → hash ≡ hash_by number spend) → verification_of verifying ≡ Verified → hash ≡ hash_by (asked_type spend.fields) spend
is_judged verifying spend held number hash fields is told verified =
    told verified ∙ ap (λ (n : ℕ). hash_by n spend) (is ∙ ap (λ (h : Held). asked h.asked) fields)

-- ---- the hash that is kept

-- where there is a Script it is what was made for the judgements
pub asked_made : (verification : Verification) (read : Result Bytes State) (script : Bytes) (spend : Spend) (hash : Option Bytes) → read ≡ Ok script
    → (verification ≡ Verified → hash ≡ hash_by (asked_type spend.fields) spend) → (verification ≡ Unverified → hash ≡ None) → hash ≡ asked_by verification read spend
asked_made Verified (Ok code) script spend hash e verified unverified = verified refl
asked_made Verified (Err state) script spend hash e verified unverified = absurd cc
asked_made Unverified read script spend hash e verified unverified = unverified refl

-- and none where there is none
pub asked_none : (verification : Verification) (read : Result Bytes State) (state : State) (spend : Spend) (hash : Option Bytes) → read ≡ Err state → hash ≡ None
    → hash ≡ asked_by verification read spend
asked_none Verified (Ok code) state spend hash e none = absurd cc
asked_none Verified (Err other) state spend hash e none = none
asked_none Unverified read state spend hash e none = none

-- the judgements are by it
pub asked_judged : (verification : Verification) (read : Result Bytes State) (script : Bytes) (spend : Spend) (hash : Option Bytes) → hash ≡ asked_by verification read spend
    → read ≡ Ok script → verification ≡ Verified → hash ≡ hash_by (asked_type spend.fields) spend
asked_judged Verified (Ok code) script spend hash is e verified = is
asked_judged Verified (Err state) script spend hash is e verified = absurd cc
asked_judged Unverified read script spend hash is e verified = absurd cc

-- where one is kept it is that of the asked type
pub asked_there : (verification : Verification) (read : Result Bytes State) (spend : Spend) (kept : Option Bytes) (hash : Bytes) (number : ℕ) → kept ≡ asked_by verification read spend
    → kept ≡ Some hash → number ≡ asked_type spend.fields → Some hash ≡ hash_by number spend
asked_there Verified (Ok code) spend kept hash number is there n = sym there ∙ is ∙ ap (λ (m : ℕ). hash_by m spend) (sym n)
asked_there Verified (Err state) spend kept hash number is there n = absurd cc
asked_there Unverified read spend kept hash number is there n = absurd cc

pub asked_kept : (verification : Verification) (read : Result Bytes State) (spend : Spend) (kept : Option Bytes) (number : ℕ) → kept ≡ asked_by verification read spend
    → number ≡ asked_type spend.fields → IfSome kept (λ hash. Some hash ≡ hash_by number spend)
asked_kept verification read spend (Some hash) number is n = asked_there verification read spend (Some hash) hash number is refl n
asked_kept verification read spend None number is n = tt
