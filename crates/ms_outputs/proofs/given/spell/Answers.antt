-- The keys and the text, and why there are none.
use Rattle.std.proofs.Common.{ℕ, List, ◌∙◌, sym, subst, Result}
use Rattle.def_tree.specs.Tree.{Key}
use Rattle.ms_descriptor.specs.Bodies.{body_at}
use Rattle.ms_outputs.specs.Keys.{expressions_of_body, TellsNoKey}
use Rattle.ms_outputs.specs.Given.{IsNotGiven}
use Rattle.ms_outputs.proofs.Together.{handed_on, keys_are, not_by_keys, text_is}
use Rattle.ms_outputs.proofs.Starting.{starts_keys, starts_safe}
use Rattle.ms_outputs.proofs.given.spell.Goals as goal

pub keys_from-requires : goal.keys_from-requires
keys_from-requires c = starts_safe c.requires.starts.0 (expressions_of_body c.args.descriptor.now.body) c.args.starts.now c.requires.starts.1

pub returns-in_err-keys-clause-refused : goal.returns-in_err-keys-clause-refused
returns-in_err-keys-clause-refused c branch h =
    let body = c.args.descriptor.now.body in
    let text = c.args.text.now in
    let why = c.in_err-keys.field-0.0 in
    handed_on c.from_residual.result why (IsNotGiven (body_at text body) branch c.args.index) c.from_residual.ensures.1
    (not_by_keys text body branch c.args.index why
    (subst (λ (z : Result (List Key) ℕ). TellsNoKey z why) (starts_keys branch c.args.index (expressions_of_body body) c.args.starts.now h) c.in_err-keys.ensures))

pub returns-clause-spelled : goal.returns-clause-spelled
returns-clause-spelled c branch h =
    let body = c.args.descriptor.now.body in
    let text = c.args.text.now in
    let keys = c.in_ok-keys.keys.items in
    record {
      keys =
          keys_are text body branch c.args.index keys
          (sym (starts_keys branch c.args.index (expressions_of_body body) c.args.starts.now h) ∙ c.in_ok-keys.ensures);
      text =
          text_is text c.as_bytes.result.now body keys c.deref.result.now c.in_ok-own.own.items c.as_bytes.ensures.value c.deref.ensures.value c.in_ok-own.ensures;
    }
