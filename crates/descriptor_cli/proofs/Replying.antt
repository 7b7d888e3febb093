-- From the reply to a source, and to what a text is opened to, to the reply to the words.
use Rattle.std.proofs.Common.{◌≡◌, ◌≢◌, ◌<◌, ◌≤◌, ℕ, Bool, true, false, nat_lt, Some, None, Ok, Err, inl, inr, refl, sym, ap, subst, arith, List, length}
use Rattle.std.proofs.lemmas.Bool.{ltb-false}
use Rattle.std.specs.Prelude.{Option, Result, ⊤}
use Rattle.def_script.specs.Bytes.{Bytes}
use Rattle.ms_io.specs.Sides.{Side}
use Rattle.ms_io.specs.Reads.{IsUnread, Held}
use Rattle.def_psbt.specs.declared.Refusal.{Refusal}
use Rattle.def_psbt.specs.declared.Refusal.TheVariants.{TooLong}
use Rattle.def_psbt.specs.Map.{Psbt}
use Rattle.def_psbt.specs.Source.{MAX_SOURCE_SIZE, psbt_bytes, psbt_of}
use Rattle.def_psbt_answer.specs.declared.words.Form.{Form}
use Rattle.def_psbt_answer.specs.Reply.{form_of}
use Rattle.def_update.specs.Known.{Known}
use Rattle.def_update.specs.Updated.{update_of}
use Rattle.def_descriptor_answer.specs.declared.status.Status.TheVariants as status
use Rattle.def_descriptor_answer.specs.Words.{Command, update, command_of}
use Rattle.def_descriptor_answer.specs.Reply.{Reply, reply, usage_reply}
use Rattle.def_descriptor_answer.specs.Update.{update_status, updated_reply, psbt_reply, known_reply}
use Rattle.def_descriptor_answer.specs.Answer.{RepliesToCommand, RepliesToWords}
use Rattle.def_descriptor_answer.specs.Laws.{IsUpdate}
use Rattle.ms_descriptor_replies.specs.declared.reply.Reply.{Reply as Made}
use Rattle.ms_descriptor_update.specs.declared.book.DescriptorBook.{DescriptorBook}
use Rattle.ms_descriptor_update.specs.Opening.{IsBookOf}
use Rattle.descriptor_cli.specs.declared.answer.Stop.{Stop}
use Rattle.descriptor_cli.specs.declared.answer.Stop.TheVariants as stop
use Rattle.descriptor_cli.specs.Scaffolding.Steps.{IsOfSource, Answered, too_long_reply, EndsBy, EndsKnown, EndsCommand, AnswersWords, EndsWords}

-- ---- a source that was read

-- one that is too long is refused so
too_long : (bytes : Bytes) → MAX_SOURCE_SIZE < length bytes → psbt_of bytes ≡ Err TooLong
unfolding psbt_of psbt_bytes
too_long bytes over = go (nat_lt MAX_SOURCE_SIZE (length bytes)) refl
  where
    go : (b : Bool) → nat_lt MAX_SOURCE_SIZE (length bytes) ≡ b → psbt_of bytes ≡ Err TooLong
    go true e = rw e refl
    go false e = absurd (omega (arith, ltb-false MAX_SOURCE_SIZE (length bytes) e))

pub refused_too_long : (known : List Known) (source : Side) → (bytes : Bytes) × Held MAX_SOURCE_SIZE source bytes × (MAX_SOURCE_SIZE < length bytes)
    → EndsKnown known source (Err stop.TooLong)
refused_too_long known source (bytes, held, over) =
    inr (
      tt,
      record {
        bytes = bytes;
        held = held;
        replies = sym (ap (psbt_reply known (form_of bytes)) (too_long bytes over));
        of_source = tt;
        long = λ l. refl;
      },
    )

-- the reply has a status of its own
updated_status : (b : Bool) → IsOfSource (update_status b)
updated_status true = tt
updated_status false = tt

of_updated : (form : Form) (o : Result (Psbt × Bool) ℕ) → IsOfSource (updated_reply form o).status
of_updated form (Ok whole) = updated_status whole.1
of_updated form (Err at) = tt

of_psbt : (known : List Known) (form : Form) (o : Result Psbt Refusal) → IsOfSource (psbt_reply known form o).status
of_psbt known form (Ok psbt) = of_updated form (update_of known psbt)
of_psbt known form (Err refusal) = tt

pub replied : (known : List Known) (source : Side) (bytes : Bytes) (made : Made) → Held MAX_SOURCE_SIZE source bytes → length bytes ≤ MAX_SOURCE_SIZE
    → reply made.status made.report.items ≡ known_reply bytes (Ok known) → EndsKnown known source (Ok made)
replied known source bytes made held short is =
    inr (
      tt,
      record {
        bytes = bytes;
        held = held;
        replies = is;
        of_source = subst (λ (r : Reply). IsOfSource r.status) (sym is) (of_psbt known (form_of bytes) (psbt_of bytes));
        long = λ over. absurd (omega (arith, short, over));
      },
    )

-- ---- an update

module _ (text : Bytes) (count : ℕ) (book : DescriptorBook) (is : IsBookOf text count book) where
  abbrev To : (source : Bytes) → Reply → Type 0
  To = RepliesToCommand (update text count)

  to_text : (bytes : Bytes) (r : Reply) → r ≡ known_reply bytes (Ok book.known.0) → To bytes r
  to_text bytes r e = (Ok is.descriptor, is.read, (Ok book.known.0, is.knows, e))

  answered : (source : Side) (r : Reply) → Answered (λ bytes s. s ≡ known_reply bytes (Ok book.known.0)) ⊤ source r → Answered To ⊤ source r
  answered source r (inl (unread, other, all)) = inl (unread, other, λ bytes. to_text bytes r (all bytes))
  answered source r (inr (reads, h)) =
      inr (tt, record { bytes = h.bytes; held = h.held; replies = to_text h.bytes r h.replies; of_source = h.of_source; long = h.long })

  pub updated : (source : Side) (result : Result Made Stop) → EndsKnown book.known.0 source result → EndsBy To ⊤ source result
  updated source (Ok made) h = answered source (reply made.status made.report.items) h
  updated source (Err stop.Usage) h = h
  updated source (Err stop.TooLong) h = answered source too_long_reply h
  updated source (Err stop.ReadFault) h = h
  updated source (Err stop.Memory) h = h

-- the text or a tree is refused, whatever the source holds
pub not_opened : (text : Bytes) (count : ℕ) (source : Side) (made : Made) → IsUnread source → made.status ≡ status.Refused
    → ((bytes : Bytes) → RepliesToCommand (update text count) bytes (reply made.status made.report.items)) → EndsBy (RepliesToCommand (update text count)) ⊤ source (Ok made)
not_opened text count source made unread is all = inl (unread, (λ reads of. subst IsOfSource is of), all)

-- ---- the words

module _ (words : List Bytes) (command : Command) (is : Some command ≡ command_of words) where
  named : command_of words ≢ None
  named none = cc

  asked : (source : Side) (r : Reply) → Answered (RepliesToCommand command) (IsUpdate (Some command)) source r → AnswersWords words source r
  asked source r h = subst (λ (z : Option Command). Answered (RepliesToWords z) (IsUpdate z) source r) is h

  pub worded : (source : Side) (result : Result Made Stop) → EndsCommand command source result → EndsWords words source result
  worded source (Ok made) h = asked source (reply made.status made.report.items) h
  worded source (Err stop.Usage) h = absurd h
  worded source (Err stop.TooLong) h = asked source too_long_reply h
  worded source (Err stop.ReadFault) h = (h.0, subst IsUpdate is h.1)
  worded source (Err stop.Memory) h = named

-- words that ask nothing
pub unworded : (words : List Bytes) (source : Side) → command_of words ≡ None → IsUnread source → EndsWords words source (Err stop.Usage)
unworded words source none unread = inl (unread, (λ reads of. of), λ bytes. subst (λ (z : Option Command). RepliesToWords z bytes usage_reply) (sym none) refl)

pub lone : (words : List Bytes) (o : Option Command) → o ≡ command_of words → (IsUpdate (command_of words) → ⊥) → IsUpdate o → ⊥
lone words o is h u = h (subst IsUpdate is u)
