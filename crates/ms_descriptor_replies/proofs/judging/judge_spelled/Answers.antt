-- What is given, with the judgement of its text.
use Rattle.std.proofs.Common.{◌≡◌, ◌≤◌, length, ap, ◌∙◌, sym, subst, refl, Ok}
use Rattle.std.specs.Prelude.{IsUtf8}
use Rattle.std.specs.declared.vec.Vec.{Vec}
use Rattle.std.specs.declared.alloc.Global.{Global}
use Rattle.std.specs.Prelude.{ℕ}
use Rattle.def_script.specs.Bytes.{Bytes}
use Rattle.def_text.specs.Refusal.{MOST_BYTES}
use Rattle.def_descriptor.specs.Gives.{pieces_in}
use Rattle.ms_descriptor.specs.declared.parts.Body.{Body}
use Rattle.ms_descriptor.specs.Expressions.{expression_at}
use Rattle.ms_descriptor.specs.Bodies.{body_at, descriptor_at, BodyWithin}
use Rattle.ms_key_laws.proofs.Read.{text_utf8, text_read}
use Rattle.ms_descriptor_replies.specs.declared.judging.Judgement.{Judgement}
use Rattle.ms_descriptor_replies.specs.declared.judging.Judgement.TheVariants as judgement
use Rattle.ms_descriptor_replies.specs.Scaffolding.Steps.{HasTree, TellsOf}
use Rattle.ms_descriptor_replies.proofs.Finding.{finds_key, finds_tree, finds_reason, spelled_tree, not_single, is_short}
use Rattle.ms_descriptor_replies.proofs.judging.judge_spelled.Goals as goal

-- of a text that is the same, and of the same judgement
told : (text other own own_text : Bytes) (found : Body) (a b : Judgement) → other ≡ text → own_text ≡ own → a ≡ b
    → TellsOf own_text (pieces_in (body_at other found)) a → TellsOf own (pieces_in (body_at text found)) b
told text other own own_text found a b e f k h =
    subst (λ (z : Bytes). TellsOf own (pieces_in (body_at z found)) b) e
    (subst (λ (z : Bytes). TellsOf z (pieces_in (body_at other found)) b) f (subst (TellsOf own_text (pieces_in (body_at other found))) k h))

pub judge_text-requires : goal.judge_text-requires
judge_text-requires c =
    let text = c.args.text.now in
    let found = c.args.descriptor.now in
    let d = descriptor_at text found in
    let keys = c.args.spelled.keys.items in
    let g = c.requires.spelled in
    let other = not_single text found.body c.in_default.not-Single in
    record {
      within = subst (λ (z : Bytes). BodyWithin z found.body) (sym c.as_bytes.ensures.value) c.requires.within;
      short = subst (λ (z : Bytes). length z ≤ MOST_BYTES) (sym c.as_bytes.ensures.value) (is_short text (Ok d) d refl c.requires.read);
      utf8 = subst IsUtf8 (sym (c.deref.ensures.value ∙ g.2.text)) (text_utf8 text d keys c.utf8.text c.requires.read);
      tree =
          subst HasTree (sym c.deref.ensures.value)
          (spelled_tree d keys c.args.spelled.text.items g.2.text other (text_read text d g.0 g.1 keys c.utf8.text c.requires.read g.2.keys));
    }

pub returns-in-Single : goal.returns-in-Single
returns-in-Single c branch index g =
    let text = c.args.text.now in
    finds_key c.args.network (descriptor_at text c.args.descriptor.now) branch index c.in_ok-given.given
    (c.in_ok-given.ensures.given text branch index g)
    (expression_at c.in-Single.field-0) (ap (body_at text) c.in-Single.is)

pub returns-in_ok-given-in-Sane : goal.returns-in_ok-given-in-Sane
returns-in_ok-given-in-Sane c branch index g =
    let text = c.args.text.now in
    let found = c.args.descriptor.now in
    let given = c.in_ok-given-in-Sane.given in
    let same : c.deref.result.now ≡ given.text.items =
    c.deref.ensures.value ∙ ap (λ (z : Vec ℕ Global). z.items) (sym c.in_ok-given-in-Sane.ensures.text) in
    finds_tree c.args.network (descriptor_at text found) branch index given
    (c.in_ok-given-in-Sane.ensures.given text branch index g)
    (not_single text found.body c.in_default.not-Single) c.in-Sane.measures c.in-Sane.script
    (told text c.as_bytes.result.now given.text.items c.deref.result.now found.body c.in_ok-measures.field-0
    (judgement.Sane c.in-Sane.measures c.in-Sane.script) c.as_bytes.ensures.value same c.in-Sane.is c.in_ok-measures.ensures)

pub returns-in-Unfit : goal.returns-in-Unfit
returns-in-Unfit c branch index g =
    let text = c.args.text.now in
    let found = c.args.descriptor.now in
    let spelled = c.args.spelled in
    finds_reason c.args.network (descriptor_at text found) branch index spelled.keys.items spelled.text.items g.keys g.text
    (not_single text found.body c.in_default.not-Single) c.in-Unfit.reason
    (told text c.as_bytes.result.now spelled.text.items c.deref.result.now found.body c.in_ok-measures.field-0 (judgement.Unfit c.in-Unfit.reason)
    c.as_bytes.ensures.value c.deref.ensures.value c.in-Unfit.is c.in_ok-measures.ensures)
