use Rattle.std.proofs.Common.{◌++◌, [], ap, sym, ◌∙◌, append-nil, map}
use Rattle.def_descriptor_answer.specs.Update.{with_origins}
use Rattle.ms_descriptor.specs.declared.parts.Body.{Body}
use Rattle.ms_outputs.specs.Keys.{expressions_of_body}
use Rattle.ms_update.specs.Seen.{key_at}
use Rattle.ms_descriptor_update.proofs.origins.push_of_body.Goals as goal

pub returns-in_ok-push_first-in-Single : goal.returns-in_ok-push_first-in-Single
returns-in_ok-push_first-in-Single c =
    sym (append-nil (map key_at c.push_first.new.known.items))
    ∙ (c.in_ok-push_first-in-Single.ensures []
    ∙ ap (λ (z : Body). map key_at c.args.known.now.items ++ with_origins c.args.branch c.args.index (expressions_of_body z) c.args.keys.now) (sym c.in-Single.is))
