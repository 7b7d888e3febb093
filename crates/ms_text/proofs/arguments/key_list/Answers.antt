use Rattle.std.proofs.Common.{rules, ◌≡◌, ◌+◌, [], ◌∷◌, ◌++◌, ap, ◌∙◌, length, length-append, arith}
use Rattle.std.proofs.lemmas.List.Elements.{All-push}
use Rattle.def_tree.specs.Range.{IsKey}
use Rattle.ms_text.specs.declared.tokens.Separator.TheVariants as separator
use Rattle.ms_text.specs.Scaffolding.Place.{machine_from}
use Rattle.ms_text.proofs.AnswerLemmas.{refused, along, key_read, key_behind}
use Rattle.ms_text.proofs.StateLemmas.{takes_multi_comma, takes_multi_key, takes_multi_next, key_next}
use Rattle.ms_text.proofs.arguments.key_list.Goals as goal

pub returns-in_err-at-clause-reads : goal.returns-in_err-at-clause-reads
returns-in_err-at-clause-reads c = λ k fs os.
    refused _ _ _ _ c.from_residual.ensures.1 (c.in_err-at.ensures.reads _ _ (takes_multi_comma k fs os))

pub loop-keys-init : goal.loop-keys-init
loop-keys-init c = record {
  place = c.in_ok-at.ensures.place;
  measure = omega (arith, ap length c.new-keys.ensures.items, c.in_ok-at.ensures.next);
  writable = search rules;
  reads = λ k fs os.
      rw c.new-keys.ensures.items (c.in_ok-at.ensures.reads _ _ (takes_multi_comma k fs os));
}

pub returns-in_err-read-clause-reads : goal.returns-in_err-read-clause-reads
returns-in_err-read-clause-reads c = λ k fs os.
    refused _ _ _ _ c.from_residual-in_err-read.ensures.1 (along _ _ _ (c.loop-keys.invariant.reads k fs os)
    (c.in_err-read.ensures.reads _ _ (takes_multi_key k c.loop-keys.keys.items fs os)))

pub returns-in_err-found-clause-reads : goal.returns-in_err-found-clause-reads
returns-in_err-found-clause-reads c = λ k fs os.
    let keys = c.loop-keys.keys.items ++ c.in_ok-read.read.value ∷ [] in
    refused _ _ _ _ c.from_residual-in_err-found.ensures.1 (along _ _ _
    (key_read c.args.text.now c.args.at c.loop-keys.at c.in_ok-read.read.end c.loop-keys.keys.items c.in_ok-read.read.value k fs os
    (c.loop-keys.invariant.reads k fs os) c.in_ok-read.ensures.reads)
    (c.in_err-found.ensures.reads _ _ (takes_multi_next k keys fs os)))

pub returns-then-eq-clause-reads : goal.returns-then-eq-clause-reads
returns-then-eq-clause-reads c = λ k fs os.
    let pushed : c.push.new.self.items ≡ c.loop-keys.keys.items ++ c.in_ok-read.read.value ∷ [] = search rules in
    let last : c.in_ok-found.found ≡ separator.Close = search rules in
    rw pushed (key_behind c.args.text.now c.args.at c.loop-keys.at c.in_ok-read.read.end c.loop-keys.keys.items c.in_ok-read.read.value k fs os c.in_ok-found.found
    (c.loop-keys.invariant.reads k fs os) c.in_ok-read.ensures.reads c.in_ok-found.ensures.reads
    ∙ ap (λ f. machine_from (key_next k (c.loop-keys.keys.items ++ c.in_ok-read.read.value ∷ []) fs os f) c.args.text.now (c.in_ok-read.read.end + 1)) last)

pub loop-keys-preserved : goal.loop-keys-preserved
loop-keys-preserved c =
    let pushed : c.push.new.self.items ≡ c.loop-keys.keys.items ++ c.in_ok-read.read.value ∷ [] = search rules in
    let more : c.in_ok-found.found ≡ separator.Comma = search rules in
    record {
      place = c.in_ok-found.ensures.place;
      measure = omega (arith, ap length pushed ∙ length-append c.loop-keys.keys.items (c.in_ok-read.read.value ∷ []), c.loop-keys.invariant.measure, c.in_ok-read.ensures.after);
      writable = rw pushed (All-push IsKey c.loop-keys.keys.items c.in_ok-read.read.value c.loop-keys.invariant.writable c.in_ok-read.ensures.writable);
      reads = λ k fs os.
          rw pushed (key_behind c.args.text.now c.args.at c.loop-keys.at c.in_ok-read.read.end c.loop-keys.keys.items c.in_ok-read.read.value k fs os c.in_ok-found.found
          (c.loop-keys.invariant.reads k fs os) c.in_ok-read.ensures.reads c.in_ok-found.ensures.reads
          ∙ ap (λ f. machine_from (key_next k (c.loop-keys.keys.items ++ c.in_ok-read.read.value ∷ []) fs os f) c.args.text.now (c.in_ok-read.read.end + 1)) more);
    }
