-- What is replied to a source.
use Rattle.std.proofs.Common.{◌≡◌, Bool, refl, ap, subst, Result, Ok, Err, ℕ}
use Rattle.def_script.specs.Bytes.{Bytes}
use Rattle.def_psbt.specs.declared.Refusal.{Refusal}
use Rattle.def_psbt.specs.Map.{Psbt}
use Rattle.def_psbt.specs.Source.{psbt_bytes, psbt_of}
use Rattle.def_psbt.specs.Reading.{read_psbt}
use Rattle.def_psbt_answer.specs.declared.words.Command.{Command}
use Rattle.def_psbt_answer.specs.Lines.{refusal_line}
use Rattle.def_psbt_answer.specs.Reply.{Reply as PsbtReply, form_of}
use Rattle.def_psbt_answer.specs.Answer.{RepliesToSource}
use Rattle.ms_update.specs.declared.updating.Updated.{Updated}
use Rattle.ms_update.specs.Outcome.{IsUpdated, Makes}

-- a source that is refused
pub refused_report : (command : Command) (source : Bytes) (refusal : Refusal) (r : PsbtReply) → psbt_of source ≡ Err refusal
    → RepliesToSource command (form_of source) (psbt_of source) r → r.report ≡ refusal_line refusal
refused_report command source refusal r e h =
    ap (λ (z : PsbtReply). z.report) (subst (λ (o : Result Psbt Refusal). RepliesToSource command (form_of source) o r) e h)

-- what bytes and what is read of them say of a source
pub not_bytes : (source : Bytes) (refusal : Refusal) → psbt_bytes source ≡ Err refusal → psbt_of source ≡ Err refusal
unfolding psbt_of
not_bytes source refusal e = rw e refl

pub not_psbt : (source bytes : Bytes) (refusal : Refusal) → psbt_bytes source ≡ Ok bytes → read_psbt bytes ≡ Err refusal → psbt_of source ≡ Err refusal
unfolding psbt_of
not_psbt source bytes refusal e f = rw e f

pub is_psbt : (source bytes : Bytes) (psbt : Psbt) → psbt_bytes source ≡ Ok bytes → read_psbt bytes ≡ Ok psbt → psbt_of source ≡ Ok psbt
unfolding psbt_of
is_psbt source bytes psbt e f = rw e f

-- what was made
pub record IsMade (made : Updated) (r : Result (Psbt × Bool) ℕ) : Type 0 where
  pub whole : Psbt × Bool
  pub is : r ≡ Ok whole
  pub updated : IsUpdated made whole

pub is_made : (made : Updated) (r : Result (Psbt × Bool) ℕ) → Makes made r → IsMade made r
is_made made (Ok whole) h = record { whole = whole; is = refl; updated = h }
is_made made (Err at) h = absurd h
