use Rattle.std.proofs.Common.{ℕ, Vec, Global, ◌≡◌, ◌≤◌, Bool, true, false, length, refl, sym, ap, subst, ◌∙◌, arith}
use Rattle.std.proofs.lemmas.Bool.{ne_eqb}
use Rattle.std.proofs.lemmas.Grind.{common_steps}
use Rattle.std.proofs.lemmas.Result.{err_from_is_err_and}
use Rattle.def_script.specs.Bytes.{Bytes}
use Rattle.def_psbt.specs.Fields.{version_number}
use Rattle.def_psbt.specs.Map.{psbt_text}
use Rattle.def_psbt.specs.Source.{MAX_SOURCE_SIZE}
use Rattle.def_psbt.specs.TransactionReading.{transaction_of}
use Rattle.def_combine.specs.Combine.{lines, lines_from}
use Rattle.def_combine.specs.Joined.{joined_all}
use Rattle.ms_combine.specs.Scaffolding.Again.{SaysTransaction}
use Rattle.ms_combine.specs.Scaffolding.Kept.{AreKept}
use Rattle.ms_combine.specs.Scaffolding.Left.{texts_left}
use Rattle.ms_combine.proofs.Keeping.{placed}
use Rattle.ms_combine.proofs.Lining.{left_is}
use Rattle.ms_combine.proofs.Sizing.{source_size}
use Rattle.ms_combine.proofs.Wholes.{known, joined_is, refused_so, source_long, text_short, given_zero, given_same, given_other}
use Rattle.ms_combine.proofs.whole.combine.Goals.{else-version-eq-VERSION_TWO-via-then-version-eq-VERSION_TWO+in_ok-has_transaction+else-not-branch, else-version-eq-VERSION_TWO-via-else-version-eq-VERSION_TWO}
use Rattle.ms_combine.proofs.whole.combine.Goals as goal

pub read_parts-requires-clause-short : goal.read_parts-requires-clause-short
read_parts-requires-clause-short c =
    let texts : texts_left c.all_lines-left.result ≡ lines_from 1 (lines c.args.source.now) =
    left_is c.all_lines-left.result c.args.source.now c.all_lines-left.ensures.rest ∙ ap (λ n. lines_from n (lines c.args.source.now)) c.all_lines-left.ensures.number in
    let size = source_size c.args.source.now in
    let short = c.if-source-gt-MAX_SOURCE_SIZE.false in
    rw texts (omega (arith, size, short))

pub returns-then-source-gt-MAX_SOURCE_SIZE : goal.returns-then-source-gt-MAX_SOURCE_SIZE
returns-then-source-gt-MAX_SOURCE_SIZE c = let long = c.if-source-gt-MAX_SOURCE_SIZE.true in source_long c.args.source.now (omega (arith, long))

pub returns-in_err-has_transaction : goal.returns-in_err-has_transaction
returns-in_err-has_transaction c =
    let refused = err_from_is_err_and c.from_residual-in_err-has_transaction.result c.from_residual-in_err-has_transaction.ensures.1 in
    rw (refused.1, refused.2, c.in_err-has_transaction.ensures.memory) tt

pub returns-in_err-parts : goal.returns-in_err-parts
returns-in_err-parts c =
    let texts : texts_left c.all_lines-left.result ≡ lines_from 1 (lines c.args.source.now) =
    left_is c.all_lines-left.result c.args.source.now c.all_lines-left.ensures.rest ∙ ap (λ n. lines_from n (lines c.args.source.now)) c.all_lines-left.ensures.number in
    let short = c.if-source-gt-MAX_SOURCE_SIZE.false in
    let refused = err_from_is_err_and c.from_residual.result c.from_residual.ensures.1 in
    rw (refused.1, refused.2)
    (refused_so (λ kept parts. AreKept kept parts.first parts.others) (λ
    (text : Vec ℕ Global) whole. text.items ≡ psbt_text whole.global whole.inputs whole.outputs) c.in_err-parts.field-0.0 c.args.source.now
    (texts_left c.all_lines-left.result) (omega (arith, short)) texts c.in_err-parts.ensures.parts)

pub joined_text-requires-clause-end : goal.joined_text-requires-clause-end
joined_text-requires-clause-end c =
    let given = c.in_ok-parts.ensures.parts in
    let end = (placed c.in_ok-parts.parts given.0.first given.0.others given.2).end_inside in
    let same = ap length c.as_slice.ensures.value in
    omega (arith, end, same)

pub joined_text-requires-clause-inside : goal.joined_text-requires-clause-inside
joined_text-requires-clause-inside c = λ k d less.
    let given = c.in_ok-parts.ensures.parts in
    let inside = (placed c.in_ok-parts.parts given.0.first given.0.others given.2).inside k d less in
    let same = ap length c.as_slice.ensures.value in
    omega (arith, inside, same)

pub has_transaction-requires-clause-magic : goal.has_transaction-requires-clause-magic
has_transaction-requires-clause-magic c =
    let short = c.if-source-gt-MAX_SOURCE_SIZE.false in
    let texts = left_is c.all_lines-left.result c.args.source.now c.all_lines-left.ensures.rest ∙ ap (λ n. lines_from n (lines c.args.source.now)) c.all_lines-left.ensures.number in
    let k = known c.given.ensures.sound c.args.source.now (λ i. omega (arith, c.type_inv.source i)) (omega (arith, short))
    (texts_left c.all_lines-left.result) texts c.in_ok-parts.parts c.in_ok-parts.ensures.parts in
    let text = joined_is c.args.source.now c.in_ok-parts.parts k.0 c.as_slice.result.now c.in_ok-text.text.items k.1 c.as_slice.ensures.value c.in_ok-text.ensures in
    rw (c.as_slice-then-version-eq-VERSION_TWO.ensures.value, text) refl

pub has_transaction-requires-clause-short : goal.has_transaction-requires-clause-short
has_transaction-requires-clause-short c =
    let short = c.if-source-gt-MAX_SOURCE_SIZE.false in
    let texts = left_is c.all_lines-left.result c.args.source.now c.all_lines-left.ensures.rest ∙ ap (λ n. lines_from n (lines c.args.source.now)) c.all_lines-left.ensures.number in
    let k = known c.given.ensures.sound c.args.source.now (λ i. omega (arith, c.type_inv.source i)) (omega (arith, short))
    (texts_left c.all_lines-left.result) texts c.in_ok-parts.parts c.in_ok-parts.ensures.parts in
    let text = joined_is c.args.source.now c.in_ok-parts.parts k.0 c.as_slice.result.now c.in_ok-text.text.items k.1 c.as_slice.ensures.value c.in_ok-text.ensures in
    subst (λ (l : Bytes). length l ≤ MAX_SOURCE_SIZE) (sym (c.as_slice-then-version-eq-VERSION_TWO.ensures.value ∙ text))
    (text_short c.in_ok-parts.parts k.0 k.1.are_kept c.in_ok-parts.ensures.short)

pub returns-then-not-branch : goal.returns-then-not-branch
returns-then-not-branch c =
    let short = c.if-source-gt-MAX_SOURCE_SIZE.false in
    let texts = left_is c.all_lines-left.result c.args.source.now c.all_lines-left.ensures.rest ∙ ap (λ n. lines_from n (lines c.args.source.now)) c.all_lines-left.ensures.number in
    let k = known c.given.ensures.sound c.args.source.now (λ i. omega (arith, c.type_inv.source i)) (omega (arith, short))
    (texts_left c.all_lines-left.result) texts c.in_ok-parts.parts c.in_ok-parts.ensures.parts in
    let text = joined_is c.args.source.now c.in_ok-parts.parts k.0 c.as_slice.result.now c.in_ok-text.text.items k.1 c.as_slice.ensures.value c.in_ok-text.ensures in
    let no : c.in_ok-has_transaction.field-0 ≡ false = grind (arith, common_steps) in
    let said = c.in_ok-has_transaction.ensures.says k.0.first.transaction (ap transaction_of c.as_slice-then-version-eq-VERSION_TWO-2.ensures.value ∙ k.1.are_kept.transaction) in
    given_other c.psbts.ensures.read_back c.args.source.now k.0 k.1.given_parts k.1.all_together
    (subst (λ (l : Bytes). SaysTransaction l k.0.first.transaction false) (c.as_slice-then-version-eq-VERSION_TWO.ensures.value ∙ text)
    (subst (λ (b : Bool). SaysTransaction c.as_slice-then-version-eq-VERSION_TWO.result.now k.0.first.transaction b) no said))

pub returns : goal.returns
returns c =
    let short = c.if-source-gt-MAX_SOURCE_SIZE.false in
    let texts = left_is c.all_lines-left.result c.args.source.now c.all_lines-left.ensures.rest ∙ ap (λ n. lines_from n (lines c.args.source.now)) c.all_lines-left.ensures.number in
    let k = known c.given.ensures.sound c.args.source.now (λ i. omega (arith, c.type_inv.source i)) (omega (arith, short))
    (texts_left c.all_lines-left.result) texts c.in_ok-parts.parts c.in_ok-parts.ensures.parts in
    let text = joined_is c.args.source.now c.in_ok-parts.parts k.0 c.as_slice.result.now c.in_ok-text.text.items k.1 c.as_slice.ensures.value c.in_ok-text.ensures in
    elim c.else-version-eq-VERSION_TWO.branch [
      | else-version-eq-VERSION_TWO-via-then-version-eq-VERSION_TWO+in_ok-has_transaction+else-not-branch w ↦
          let yes : w.in_ok-has_transaction.field-0 ≡ true = grind (arith, common_steps) in
          let said = w.in_ok-has_transaction.ensures.says k.0.first.transaction (ap transaction_of w.as_slice-then-version-eq-VERSION_TWO-2.ensures.value ∙ k.1.are_kept.transaction) in (
            joined_all k.0.first k.0.others,
            given_same c.args.source.now k.0 k.1.given_parts k.1.all_together
                (subst (λ (l : Bytes). SaysTransaction l k.0.first.transaction true) (w.as_slice-then-version-eq-VERSION_TWO.ensures.value ∙ text)
                (subst (λ (b : Bool). SaysTransaction w.as_slice-then-version-eq-VERSION_TWO.result.now k.0.first.transaction b) yes said)),
            text,
          )
      | else-version-eq-VERSION_TWO-via-else-version-eq-VERSION_TWO w ↦
          let other = w.if-version-eq-VERSION_TWO.false in
          let version = k.1.are_kept.version in (
            joined_all k.0.first k.0.others,
            given_zero c.args.source.now k.0 k.1.given_parts k.1.all_together (ne_eqb (version_number k.0.first.global) 2 (λ same. omega (arith, same, version, other))),
            text,
          )
    ]
