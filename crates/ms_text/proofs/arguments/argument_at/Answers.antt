use Rattle.std.proofs.Common.{sym, ap, ◌∙◌, arith}
use Rattle.std.specs.Option.{option_map}
use Rattle.def_text.specs.Scaffolding.Reader.{leaf_of as spelled_by}
use Rattle.ms_text.specs.Scaffolding.Leaves.{leaf_tree}
use Rattle.ms_text.specs.Scaffolding.Names.{leaf_of}
use Rattle.ms_text.proofs.NameLemmas.{no_empty_leaf}
use Rattle.ms_text.proofs.PlaceLemmas.{word_goes, word_stops, word_some}
use Rattle.ms_text.proofs.arguments.argument_at.Goals as goal

pub returns-in_default-clause-reads : goal.returns-in_default-clause-reads
returns-in_default-clause-reads c = λ s next t.
    word_stops (spelled_by (leaf_of c.args.name)) c.args.text.now c.args.at c.word_at-word.result.now s next c.word_at-word.ensures.first
    (sym c.leaf_spelled.ensures.value ∙ ap (option_map (leaf_tree c.args.name)) c.in_default.is) t

pub returns-clause-after : goal.returns-clause-after
returns-clause-after c =
    omega (
      arith,
      word_some (spelled_by (leaf_of c.args.name)) c.word_at-word.result.now (leaf_tree c.args.name c.in-Some.value) (no_empty_leaf (leaf_of c.args.name))
          (sym c.leaf_spelled.ensures.value ∙ ap (option_map (leaf_tree c.args.name)) c.in-Some.is),
    )

pub returns-clause-reads : goal.returns-clause-reads
returns-clause-reads c = λ s next t.
    word_goes (spelled_by (leaf_of c.args.name)) c.args.text.now c.args.at c.word_at-word.result.now s next (leaf_tree c.args.name c.in-Some.value) (no_empty_leaf (leaf_of c.args.name))
    c.word_at-word.ensures.first (sym c.leaf_spelled.ensures.value ∙ ap (option_map (leaf_tree c.args.name)) c.in-Some.is) t
