-- What a call for the text of a Script shows.
use Rattle.std.proofs.Common.{◌≡◌, List, [], map, inl, inr, refl, sym, ap, subst, ◌∙◌}
use Rattle.std.specs.Io.KnownBytes.{Appends}
use Rattle.def_script.specs.Bytes.{Bytes}
use Rattle.ms_decode_laws.proofs.Decoding.{each_is_decoded, decoded_is_alike}
use Rattle.ms_decode_laws.proofs.ReadText.{decoded_is_read_back}
use Rattle.def_answer.specs.declared.status.Status.TheVariants as status
use Rattle.def_answer.specs.Answer.{bytes_of, decode_reply, no_reading_reply, RepliesToScript, Replies, RepliesToWords, Answer}
use Rattle.def_answer.specs.Decode.{no_reading_line, decode_report}
use Rattle.def_answer.specs.Reply.{Reply, reply}
use Rattle.def_answer.specs.Sources.{NeedsSource, ReadsSource}
use Rattle.def_answer.specs.Words.{decode, IsForm}
use Rattle.ms_answer_laws.proofs.Early.{no_reading_is_of_decode}
use Rattle.ms_answer_laws.proofs.SpelledKeys.{are_keys}
use Rattle.ms_answer_laws.proofs.Unique.{one_form}
use Rattle.ms_words.specs.Commands.{HaveUtf8}
use Rattle.msat_cli.specs.Ends.{HasAnswer, Ends}
use Rattle.msat_cli.specs.Calls.{Call}
use Rattle.msat_cli.specs.Decodings.{PrintsTree, PrintsNone, ReadsBack, ShowsReading}
use Rattle.msat_cli.proofs.EndLemmas.{told_answer, ends_as_answered}

-- ---- the answer

-- the words don't read the source
unread : (digits : Bytes) (words all : List Bytes) → IsForm all (decode digits words) → ¬ ReadsSource all
unread digits words all form reads = subst NeedsSource (one_form all reads.0 (decode digits words) reads.1 form) reads.2

answer : (digits : Bytes) (words all : List Bytes) (r : Reply) → IsForm all (decode digits words)
    → RepliesToScript (map bytes_of words) (bytes_of digits) r → Answer all [] r.status r.report
answer digits words all r form replies = record { replies = inl (decode digits words, form, replies) }

-- the reply to these words is one to the Script
script_reply : (digits : Bytes) (words all : List Bytes) (source : Bytes) (r : Reply) → IsForm all (decode digits words) → RepliesToWords all source r
    → RepliesToScript (map bytes_of words) (bytes_of digits) r
script_reply digits words all source r form (inl h) = subst (λ c. Replies c source r) (one_form all h.0 (decode digits words) h.1 form) h.2
script_reply digits words all source r form (inr h) = absurd (h.0 (decode digits words) form)

-- the reply that was written
written_reply : (call : Call) (digits : Bytes) (words : List Bytes) (report : Bytes) → IsForm call.words (decode digits words)
    → HasAnswer call.words call.source call.status report → RepliesToScript (map bytes_of words) (bytes_of digits) (reply call.status report)
written_reply call digits words report form h =
    let told = told_answer call.words call.source [] call.status report (inl (unread digits words call.words form)) h in
    script_reply digits words call.words [] (reply call.status report) form told.replies

-- ---- what is shown

prints_tree : (call : Call) (digits : Bytes) (words : List Bytes) (report : Bytes) → IsForm call.words (decode digits words) → call.status ≡ status.Done
    → Appends call.sink.old call.sink.new report → RepliesToScript (map bytes_of words) (bytes_of digits) (reply call.status report)
    → PrintsTree call.sink (map bytes_of words) (bytes_of digits)
unfolding decode_report
prints_tree call digits words report form is w (inl h) = record {
  tree = h.0;
  decoded = h.1;
  alike = decoded_is_alike (map bytes_of words) (bytes_of digits) h.0 (are_keys words form.in_range.1) h.1;
  read = decoded_is_read_back (map bytes_of words) (bytes_of digits) h.0 h.1;
  written = subst (Appends call.sink.old call.sink.new) (ap (λ (r : Reply). r.report) h.2) w;
}
prints_tree call digits words report form is w (inr h) =
    let other : call.status ≡ status.NoReading = ap (λ (r : Reply). r.status) h.1 in absurd (cc (sym is ∙ other))

prints_none : (call : Call) (digits : Bytes) (words : List Bytes) (report : Bytes) → call.status ≡ status.NoReading
    → Appends call.sink.old call.sink.new report → RepliesToScript (map bytes_of words) (bytes_of digits) (reply call.status report)
    → PrintsNone call.sink (map bytes_of words) (bytes_of digits)
prints_none call digits words report is w (inl h) =
    let other : call.status ≡ status.Done = ap (λ (r : Reply). r.status) h.2 in absurd (cc (sym is ∙ other))
prints_none call digits words report is w (inr h) = record {
  none = h.0;
  written = subst (Appends call.sink.old call.sink.new) (ap (λ (r : Reply). r.report) h.1) w;
}

some_shown : (call : Call) (digits : Bytes) (words : List Bytes) → IsForm call.words (decode digits words) → Ends call → call.status ≡ status.Done
    → PrintsTree call.sink (map bytes_of words) (bytes_of digits)
some_shown call digits words form (inl (report, h, w)) is = prints_tree call digits words report form is w (written_reply call digits words report form h)
some_shown call digits words form (inr (inl w)) is = absurd (cc (sym w.0 ∙ is))
some_shown call digits words form (inr (inr (inl r))) is = absurd (cc (sym r.0 ∙ is))
some_shown call digits words form (inr (inr (inr m))) is = absurd (cc (sym m.0 ∙ is))

none_shown : (call : Call) (digits : Bytes) (words : List Bytes) → IsForm call.words (decode digits words) → Ends call → call.status ≡ status.NoReading
    → PrintsNone call.sink (map bytes_of words) (bytes_of digits)
none_shown call digits words form (inl (report, h, w)) is = prints_none call digits words report is w (written_reply call digits words report form h)
none_shown call digits words form (inr (inl w)) is = absurd (cc (sym w.0 ∙ is))
none_shown call digits words form (inr (inr (inl r))) is = absurd (cc (sym r.0 ∙ is))
none_shown call digits words form (inr (inr (inr m))) is = absurd (cc (sym m.0 ∙ is))

reads_back : (call : Call) (digits : Bytes) (words : List Bytes) → HaveUtf8 call.words → Ends call → IsForm call.words (decode digits words)
    → ReadsBack call (map bytes_of words) (bytes_of digits)
reads_back call digits words utf8 e form = record {
  where_some = λ tree reading.
      let found = each_is_decoded (map bytes_of words) (bytes_of digits) tree (are_keys words form.in_range.1) reading in
      ends_as_answered call utf8 e [] status.Done (decode_report found.nested) (inl (unread digits words call.words form))
      (answer digits words call.words (decode_reply found.nested) form (inl (found.nested, found.decoded, refl)));
  where_none = λ never.
      ends_as_answered call utf8 e [] status.NoReading no_reading_line (inl (unread digits words call.words form))
      (answer digits words call.words no_reading_reply form (inr (never, refl)));
  some = λ is. some_shown call digits words form e is;
  none = λ is. none_shown call digits words form e is;
}

-- no other words end so
asked : (call : Call) → Ends call → call.status ≡ status.NoReading → (digits : Bytes) × (words : List Bytes) × IsForm call.words (decode digits words)
asked call (inl (report, h, w)) is =
    no_reading_is_of_decode call.words h.0 report (subst (λ s. Answer call.words h.0 s report) is h.2)
asked call (inr (inl w)) is = absurd (cc (sym w.0 ∙ is))
asked call (inr (inr (inl r))) is = absurd (cc (sym r.0 ∙ is))
asked call (inr (inr (inr m))) is = absurd (cc (sym m.0 ∙ is))

pub shows_reading : (call : Call) → HaveUtf8 call.words → Ends call → ShowsReading call
shows_reading call utf8 e = record {
  reads = λ digits words form. reads_back call digits words utf8 e form;
  asked = asked call e;
}
