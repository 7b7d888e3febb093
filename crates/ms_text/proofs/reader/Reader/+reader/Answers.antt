use Rattle.std.proofs.Common.{rules, ◌≡◌, ◌+◌, [], ◌∷◌, ◌++◌, ap, subst, sym, ◌∙◌, arith}
use Rattle.def_tree.specs.Tree.{thresh, more, none}
use Rattle.def_text.specs.Scaffolding.Reader as machine
use Rattle.ms_tree.specs.Shape.{shape, shapes}
use Rattle.ms_text.specs.declared.tokens.Separator.TheVariants as separator
use Rattle.ms_text.specs.Scaffolding.Names.{form_of, pair_of, HeadIs, IsLetters}
use Rattle.ms_text.specs.Scaffolding.Place.{machine_from}
use Rattle.ms_text.proofs.AnswerLemmas.{refused, along, answers_along}
use Rattle.ms_text.proofs.PartLemmas.{part_at, part_with, and_or_part, pair_part, one_more, joined_count, joined_measure, joined_depth, joined_writable}
use Rattle.ms_text.proofs.ExpressionLemmas.{name_begins, run_too_deep, run_begins}
use Rattle.ms_text.proofs.NameLemmas.{letters_are_long}
use Rattle.def_tree.specs.InRange.{MOST_DEPTH}
use Rattle.ms_text.specs.Scaffolding.Room.{AreParts}
use Rattle.ms_text.specs.Scaffolding.Place.{rest}
use Rattle.ms_text.proofs.RunLemmas.{run_offsets_are, run_is_long}
use Rattle.ms_text.proofs.StateLemmas.{child_next, takes_colon_next, takes_andor_open, takes_andor_first, takes_andor_second, takes_pair_open, takes_pair_first, takes_thresh_open, takes_thresh_number, takes_thresh_comma, takes_thresh_child}
use Rattle.ms_text.proofs.reader.Reader.+reader.Goals as goal

pub pair_form-returns-in_err-x-clause-reads : goal.pair_form-returns-in_err-x-clause-reads
pair_form-returns-in_err-x-clause-reads t c = λ fs l.
    refused _ _ _ _ c.from_residual.ensures.1
    (c.in_err-x.ensures.reads _ _ (takes_pair_open (pair_of c.args.pair) c.args.name fs _) (omega (arith, l)))

pub pair_form-returns-in_err-y-clause-reads : goal.pair_form-returns-in_err-y-clause-reads
pair_form-returns-in_err-y-clause-reads t c = λ fs l.
    refused _ _ _ _ c.from_residual-in_err-y.ensures.1 (along _ _ _
    (c.in_ok-x.ensures.reads _ _ (takes_pair_open (pair_of c.args.pair) c.args.name fs _) (omega (arith, l)))
    (c.in_err-y.ensures.reads _ _ (takes_pair_first (pair_of c.args.pair) (shape c.in_ok-x.x.tree) c.args.name fs _) (omega (arith, l))))

pub pair_form-returns-clause-reads : goal.pair_form-returns-clause-reads
pair_form-returns-clause-reads t c = λ fs l.
    answers_along _ _ _ _
    (c.in_ok-x.ensures.reads _ _ (takes_pair_open (pair_of c.args.pair) c.args.name fs _) (omega (arith, l))
    ∙ c.in_ok-y.ensures.reads _ _ (takes_pair_first (pair_of c.args.pair) (shape c.in_ok-x.x.tree) c.args.name fs _) (omega (arith, l)))
    (c.closed_pair.ensures.reads fs)

pub pair_form-returns-clause-part : goal.pair_form-returns-clause-part
pair_form-returns-clause-part t c =
    part_with c.args.self.now.text.now c.args.name c.args.depth c.closed_pair.result _ _ _ c.closed_pair.ensures.tree c.closed_pair.ensures.end c.closed_pair.ensures.place
    (λ p is ends place.
    pair_part c.args.self.now.text.now c.args.name c.args.at c.in_ok-x.x.end c.in_ok-y.y.end c.args.depth p.end (pair_of c.args.pair) (shape c.in_ok-x.x.tree) (shape c.in_ok-y.y.tree) (shape p.tree)
    is ends place c.requires.before c.in_ok-x.ensures.part c.in_ok-y.ensures.part)

pub and_or_form-returns-in_err-x-clause-reads : goal.and_or_form-returns-in_err-x-clause-reads
and_or_form-returns-in_err-x-clause-reads t c = λ fs l.
    refused _ _ _ _ c.from_residual.ensures.1 (c.in_err-x.ensures.reads _ _ (takes_andor_open c.args.name fs _) (omega (arith, l)))

pub and_or_form-returns-in_err-y-clause-reads : goal.and_or_form-returns-in_err-y-clause-reads
and_or_form-returns-in_err-y-clause-reads t c = λ fs l.
    refused _ _ _ _ c.from_residual-in_err-y.ensures.1 (along _ _ _
    (c.in_ok-x.ensures.reads _ _ (takes_andor_open c.args.name fs _) (omega (arith, l)))
    (c.in_err-y.ensures.reads _ _ (takes_andor_first (shape c.in_ok-x.x.tree) c.args.name fs _) (omega (arith, l))))

pub and_or_form-returns-in_err-z-clause-reads : goal.and_or_form-returns-in_err-z-clause-reads
and_or_form-returns-in_err-z-clause-reads t c = λ fs l.
    refused _ _ _ _ c.from_residual-in_err-z.ensures.1 (along _ _ _
    (c.in_ok-x.ensures.reads _ _ (takes_andor_open c.args.name fs _) (omega (arith, l))
    ∙ c.in_ok-y.ensures.reads _ _ (takes_andor_first (shape c.in_ok-x.x.tree) c.args.name fs _) (omega (arith, l)))
    (c.in_err-z.ensures.reads _ _ (takes_andor_second (shape c.in_ok-x.x.tree) (shape c.in_ok-y.y.tree) c.args.name fs _) (omega (arith, l))))

pub and_or_form-returns-clause-reads : goal.and_or_form-returns-clause-reads
and_or_form-returns-clause-reads t c = λ fs l.
    answers_along _ _ _ _
    (c.in_ok-x.ensures.reads _ _ (takes_andor_open c.args.name fs _) (omega (arith, l))
    ∙ c.in_ok-y.ensures.reads _ _ (takes_andor_first (shape c.in_ok-x.x.tree) c.args.name fs _) (omega (arith, l))
    ∙ c.in_ok-z.ensures.reads _ _ (takes_andor_second (shape c.in_ok-x.x.tree) (shape c.in_ok-y.y.tree) c.args.name fs _) (omega (arith, l)))
    (c.closed_and_or.ensures.reads fs)

pub and_or_form-returns-clause-part : goal.and_or_form-returns-clause-part
and_or_form-returns-clause-part t c =
    part_with c.args.self.now.text.now c.args.name c.args.depth c.closed_and_or.result _ _ _ c.closed_and_or.ensures.tree c.closed_and_or.ensures.end c.closed_and_or.ensures.place
    (λ p is ends place.
    and_or_part c.args.self.now.text.now c.args.name c.args.at c.in_ok-x.x.end c.in_ok-y.y.end c.in_ok-z.z.end c.args.depth p.end (shape c.in_ok-x.x.tree)
    (shape c.in_ok-y.y.tree) (shape c.in_ok-z.z.tree) (shape p.tree)
    is ends place c.requires.before c.in_ok-x.ensures.part c.in_ok-y.ensures.part c.in_ok-z.ensures.part)

pub child-returns-in_err-at-clause-reads : goal.child-returns-in_err-at-clause-reads
child-returns-in_err-at-clause-reads t c = λ s fs takes l.
    refused _ _ _ _ c.from_residual.ensures.1 (c.in_err-at.ensures.reads s (machine.expression, fs, c.args.offsets.now.items) takes)

pub child-returns-clause-reads : goal.child-returns-clause-reads
child-returns-clause-reads t c = λ s fs takes l.
    answers_along _ _ _ _ (c.in_ok-at.ensures.reads s (machine.expression, fs, c.args.offsets.now.items) takes) (c.expression.ensures.reads fs l)

pub thresh_form-returns-in_err-at-clause-reads : goal.thresh_form-returns-in_err-at-clause-reads
thresh_form-returns-in_err-at-clause-reads t c = λ fs l.
    refused _ _ _ _ c.from_residual.ensures.1 (c.in_err-at.ensures.reads _ _ (takes_thresh_open c.args.name fs _))

pub thresh_form-returns-in_err-k-clause-reads : goal.thresh_form-returns-in_err-k-clause-reads
thresh_form-returns-in_err-k-clause-reads t c = λ fs l.
    refused _ _ _ _ c.from_residual-in_err-k.ensures.1 (along _ _ _
    (c.in_ok-at.ensures.reads _ _ (takes_thresh_open c.args.name fs _))
    (c.in_err-k.ensures.reads _ _ (takes_thresh_number c.args.name fs _)))

pub thresh_form-returns-in_err-read-clause-reads : goal.thresh_form-returns-in_err-read-clause-reads
thresh_form-returns-in_err-read-clause-reads t c = λ fs l.
    refused _ _ _ _ c.from_residual-in_err-read.ensures.1 (along _ _ _
    (c.in_ok-at.ensures.reads _ _ (takes_thresh_open c.args.name fs _)
    ∙ c.in_ok-k.ensures.reads _ _ (takes_thresh_number c.args.name fs _))
    (c.in_err-read.ensures.reads c.in_ok-k.k.value c.args.name fs (omega arith)))

pub thresh_form-returns-clause-reads : goal.thresh_form-returns-clause-reads
thresh_form-returns-clause-reads t c = λ fs l.
    rw (c.in_ok-tree.ensures.tree, c.in_ok-add_offset.ensures.added)
    (c.in_ok-at.ensures.reads _ _ (takes_thresh_open c.args.name fs _)
    ∙ c.in_ok-k.ensures.reads _ _ (takes_thresh_number c.args.name fs _)
    ∙ c.in_ok-read.ensures.reads c.in_ok-k.k.value c.args.name fs (omega arith))

pub fragment-returns-in-Leaf-clause-part : goal.fragment-returns-in-Leaf-clause-part
fragment-returns-in-Leaf-clause-part t c = part_at c.args.self.now.text.now c.args.name c.args.depth c.leaf_form.result c.leaf_form.ensures.part c.requires.depth

pub fragment-returns-in-Multi-clause-part : goal.fragment-returns-in-Multi-clause-part
fragment-returns-in-Multi-clause-part t c = part_at c.args.self.now.text.now c.args.name c.args.depth c.multi_form.result c.multi_form.ensures.part c.requires.depth

pub expression-returns-then-word-depth-clause-reads : goal.expression-returns-then-word-depth-clause-reads
expression-returns-then-word-depth-clause-reads t c = λ fs l.
    let letters : IsLetters c.heading_at-head.result.word.now = subst (λ h. HeadIs h c.heading_at-head.result.word.now) c.in-Letters.is c.heading_at-head.ensures.head in
    run_too_deep c.args.self.now.text.now c.args.at c.heading_at-head.result.word.now fs c.args.offsets.now.items c.heading_at-head.ensures.first letters.first letters.others c.args.depth letters.is
    (letters_are_long c.heading_at-head.result.word.now (letters.first ∷ letters.others) letters.spells) l (omega arith)

pub expression-returns-else-depth-eq-MOST_LEVELS-clause-reads : goal.expression-returns-else-depth-eq-MOST_LEVELS-clause-reads
expression-returns-else-depth-eq-MOST_LEVELS-clause-reads t c = λ fs l.
    answers_along _ _ _ _ (name_begins c.args.self.now.text.now c.args.at c.heading_at-head.result.word.now fs c.args.offsets.now.items
    c.heading_at-head.ensures.first (form_of c.in-Name.form) c.args.depth
    (subst (λ h. HeadIs h c.heading_at-head.result.word.now) c.in-Name.is c.heading_at-head.ensures.head) l (omega arith))
    (c.fragment.ensures.reads fs l)

pub expression-returns-else-word-depth-clause-reads : goal.expression-returns-else-word-depth-clause-reads
expression-returns-else-word-depth-clause-reads t c = λ fs l.
    let letters : IsLetters c.heading_at-head.result.word.now = subst (λ h. HeadIs h c.heading_at-head.result.word.now) c.in-Letters.is c.heading_at-head.ensures.head in
    answers_along _ _ _ _
    (run_begins c.args.self.now.text.now c.args.at c.heading_at-head.result.word.now fs c.args.offsets.now.items c.heading_at-head.ensures.first letters.first letters.others c.args.depth letters.is
    (letters_are_long c.heading_at-head.result.word.now (letters.first ∷ letters.others) letters.spells) l (omega arith))
    (c.letters.ensures.reads (letters.first ∷ letters.others) fs letters.spells l)

pub letters-returns-in_err-x-clause-reads : goal.letters-returns-in_err-x-clause-reads
letters-returns-in_err-x-clause-reads t c = λ ls fs h l.
    refused _ _ _ _ c.from_residual-in_err-x.ensures.1 (along _ _ _
    (run_offsets_are c.args.run.now ls c.args.name fs c.args.offsets.now.items c.add_offsets_before.new.offsets.items c.args.self.now.text.now c.args.end h c.in_ok-add_offsets_before.ensures.added)
    (c.in_err-x.ensures.reads _ _ (takes_colon_next (machine.run_frames c.args.name ls fs) _) (omega (arith, run_is_long c.args.run.now ls c.args.name fs h, l))))

pub letters-returns-clause-reads : goal.letters-returns-clause-reads
letters-returns-clause-reads t c = λ ls fs h l.
    run_offsets_are c.args.run.now ls c.args.name fs c.args.offsets.now.items c.add_offsets_before.new.offsets.items c.args.self.now.text.now c.args.end h c.in_ok-add_offsets_before.ensures.added
    ∙ c.in_ok-x.ensures.reads _ _ (takes_colon_next (machine.run_frames c.args.name ls fs) _) (omega (arith, run_is_long c.args.run.now ls c.args.name fs h, l))
    ∙ c.in_ok-tree.ensures.reads ls fs (rest c.args.self.now.text.now c.in_ok-x.x.end) h

pub child_list-returns-in_err-at-clause-reads : goal.child_list-returns-in_err-at-clause-reads
child_list-returns-in_err-at-clause-reads t c = λ k name fs l.
    refused _ _ _ _ c.from_residual.ensures.1 (c.in_err-at.ensures.reads _ _ (takes_thresh_comma k name fs _))

pub child_list-loop-trees-init : goal.child_list-loop-trees-init
child_list-loop-trees-init t c = record {
  place = c.in_ok-at.ensures.place;
  after = omega (arith, c.in_ok-at.ensures.next);
  measure = rw c.new-trees.ensures.items (omega (arith, c.in_ok-at.ensures.next));
  depth = rw c.new-trees.ensures.items (omega (arith, c.requires.depth));
  writable = rw c.new-trees.ensures.items tt;
  reads = λ k name fs l.
      rw c.new-trees.ensures.items (c.in_ok-at.ensures.reads _ _ (takes_thresh_comma k name fs _));
}

pub child_list-returns-in_err-x-clause-reads : goal.child_list-returns-in_err-x-clause-reads
child_list-returns-in_err-x-clause-reads t c = λ k name fs l.
    refused _ _ _ _ c.from_residual-in_err-x.ensures.1 (along _ _ _
    (c.loop-trees.invariant.reads k name fs l)
    (c.in_err-x.ensures.reads (machine.thresh_child k (shapes c.loop-trees.trees.items) name ∷ fs) (omega (arith, l))))

pub child_list-returns-in_err-found-clause-reads : goal.child_list-returns-in_err-found-clause-reads
child_list-returns-in_err-found-clause-reads t c = λ k name fs l.
    refused _ _ _ _ c.from_residual-in_err-found.ensures.1 (along _ _ _
    (c.loop-trees.invariant.reads k name fs l
    ∙ c.in_ok-x.ensures.reads (machine.thresh_child k (shapes c.loop-trees.trees.items) name ∷ fs) (omega (arith, l)))
    (c.in_err-found.ensures.reads _ _ (takes_thresh_child k (shapes c.loop-trees.trees.items) (shape c.in_ok-x.x.tree) name fs _)))

pub child_list-returns-then-eq-clause-parts : goal.child_list-returns-then-eq-clause-parts
child_list-returns-then-eq-clause-parts t c =
    let same : shapes c.add_child.new.children.items ≡ machine.joined (shapes c.loop-trees.trees.items) (more (shape c.in_ok-x.x.tree) none) =
    ap shapes c.in_ok-add_child.ensures.added ∙ one_more c.loop-trees.trees.items c.in_ok-x.x.tree in
    subst (λ ts. AreParts c.args.self.now.text.now (c.args.at + 1) c.args.depth ts (c.in_ok-x.x.end + 1)) (sym same) (record {
      after = omega (arith, c.loop-trees.invariant.after, c.in_ok-x.ensures.part.after);
      place = c.in_ok-found.ensures.place;
      some = joined_count (shapes c.loop-trees.trees.items) (shape c.in_ok-x.x.tree);
      measure = omega (arith, joined_measure (shapes c.loop-trees.trees.items) (shape c.in_ok-x.x.tree), c.loop-trees.invariant.measure, c.in_ok-x.ensures.part.measure);
      depth = joined_depth (shapes c.loop-trees.trees.items) (shape c.in_ok-x.x.tree) c.args.depth MOST_DEPTH c.loop-trees.invariant.depth c.in_ok-x.ensures.part.depth;
      writable = joined_writable (shapes c.loop-trees.trees.items) (shape c.in_ok-x.x.tree) c.loop-trees.invariant.writable c.in_ok-x.ensures.part.writable;
    })

pub child_list-returns-then-eq-clause-reads : goal.child_list-returns-then-eq-clause-reads
child_list-returns-then-eq-clause-reads t c = λ k name fs l.
    let same : shapes c.add_child.new.children.items ≡ machine.joined (shapes c.loop-trees.trees.items) (more (shape c.in_ok-x.x.tree) none) =
    ap shapes c.in_ok-add_child.ensures.added ∙ one_more c.loop-trees.trees.items c.in_ok-x.x.tree in
    let last : c.in_ok-found.found ≡ separator.Close = search rules in
    c.loop-trees.invariant.reads k name fs l
    ∙ c.in_ok-x.ensures.reads (machine.thresh_child k (shapes c.loop-trees.trees.items) name ∷ fs) (omega (arith, l))
    ∙ c.in_ok-found.ensures.reads _ _ (takes_thresh_child k (shapes c.loop-trees.trees.items) (shape c.in_ok-x.x.tree) name fs _)
    ∙ ap (λ f. machine_from (child_next k (machine.joined (shapes c.loop-trees.trees.items)
    (more (shape c.in_ok-x.x.tree) none)) name fs c.expression.new.offsets.items f) c.args.self.now.text.now (c.in_ok-x.x.end + 1)) last
    ∙ ap (λ ts. machine_from (machine.ended (thresh k ts), fs, c.expression.new.offsets.items ++ name ∷ []) c.args.self.now.text.now (c.in_ok-x.x.end + 1)) (sym same)

pub child_list-loop-trees-preserved : goal.child_list-loop-trees-preserved
child_list-loop-trees-preserved t c =
    let same : shapes c.add_child.new.children.items ≡ machine.joined (shapes c.loop-trees.trees.items) (more (shape c.in_ok-x.x.tree) none) =
    ap shapes c.in_ok-add_child.ensures.added ∙ one_more c.loop-trees.trees.items c.in_ok-x.x.tree in
    let another : c.in_ok-found.found ≡ separator.Comma = search rules in
    record {
      place = c.in_ok-found.ensures.place;
      after = omega (arith, c.loop-trees.invariant.after, c.in_ok-x.ensures.part.after);
      measure = rw same (omega (arith, joined_measure (shapes c.loop-trees.trees.items) (shape c.in_ok-x.x.tree), c.loop-trees.invariant.measure, c.in_ok-x.ensures.part.measure));
      depth = rw same (joined_depth (shapes c.loop-trees.trees.items) (shape c.in_ok-x.x.tree) c.args.depth MOST_DEPTH c.loop-trees.invariant.depth c.in_ok-x.ensures.part.depth);
      writable = rw same (joined_writable (shapes c.loop-trees.trees.items) (shape c.in_ok-x.x.tree) c.loop-trees.invariant.writable c.in_ok-x.ensures.part.writable);
      reads = λ k name fs l.
          c.loop-trees.invariant.reads k name fs l
          ∙ c.in_ok-x.ensures.reads (machine.thresh_child k (shapes c.loop-trees.trees.items) name ∷ fs) (omega (arith, l))
          ∙ c.in_ok-found.ensures.reads _ _ (takes_thresh_child k (shapes c.loop-trees.trees.items) (shape c.in_ok-x.x.tree) name fs _)
          ∙ ap (λ f. machine_from (child_next k (machine.joined (shapes c.loop-trees.trees.items)
          (more (shape c.in_ok-x.x.tree) none)) name fs c.expression.new.offsets.items f) c.args.self.now.text.now (c.in_ok-x.x.end + 1)) another
          ∙ ap (λ ts. machine_from (machine.expression, machine.thresh_child k ts name ∷ fs, c.expression.new.offsets.items) c.args.self.now.text.now (c.in_ok-x.x.end + 1)) (sym same);
    }
