use Rattle.std.proofs.lemmas.Grind.{common_steps}
use Rattle.std.proofs.Common.{◌≡◌, ◌+◌, ◌∙◌, ap, sym, subst, refl, arith, Bool, if◌then◌else◌}
use Rattle.def_tree.specs.Tree as model
use Rattle.ms_tree.specs.Shape.{shape, shapes}
use Rattle.ms_tree.proofs.Parts.{nodes_at, in_range_at}
use Rattle.ms_interp.specs.Answering.{given_by}
use Rattle.ms_audit.specs.Scaffolding.Walking.{Walks}
use Rattle.ms_audit.proofs.Courses.{ends_by, stays, few_counted, own_done, leaf_nodes, and_or_y, and_or_z, or_i_x}
use Rattle.ms_audit.proofs.Courses.{or_i_z, first_done, two_done, wrap_empty_done, wrap_done, thresh_done, count_step, nodes_left}
use Rattle.ms_audit.proofs.spend.Spend.+walk.Goals as goal
use Rattle.ms_audit.proofs.spend.Spend.+walk.Goals.{count-then-branch, count-else-branch}

pub count-walk-requires : goal.count-walk-requires
count-walk-requires g t c κs within =
    let xs = c.args.children.now in
    let i = c.loop-child.child-index in
    let few = nodes_at xs i c.child-item.result c.loop-child-test.true c.child-item.is in
    let left = nodes_left xs i c.child-item.result c.loop-child-test.true c.child-item.is in (
      omega (arith, c.decreases, few),
      (
        within,
        (
          record {
            in_range = in_range_at xs i c.child-item.result c.loop-child-test.true c.child-item.is c.requires.children;
            room = omega (arith, c.requires.room, c.loop-child.invariant.next, left);
            left = c.loop-child.invariant.left;
          },
          c.requires.sound,
        ),
      ),
    )

pub count-loop-child-preserved : goal.count-loop-child-preserved
count-loop-child-preserved g t c =
    let xs = c.args.children.now in
    let i = c.loop-child.child-index in
    let left = nodes_left xs i c.child-item.result c.loop-child-test.true c.child-item.is in
    let next = c.in_ok-walk.ensures.next in
    let total : c.if-branch.count ≡ (if c.in_ok-walk.field-0 then c.loop-child.count + 1 else c.loop-child.count) =
    elim c.if-branch.branch [
      | count-then-branch w ↦ w.count-is ∙ sym (ap (λ (b : Bool). if b then c.loop-child.count + 1 else c.loop-child.count) w.if-branch.true)
      | count-else-branch w ↦ w.count-is ∙ sym (ap (λ (b : Bool). if b then c.loop-child.count + 1 else c.loop-child.count) w.if-branch.false)
    ]
    in
    record {
      count = few_counted c.in_ok-walk.field-0 c.loop-child.count i c.if-branch.count total c.loop-child.invariant.count;
      left = c.in_ok-walk.ensures.left;
      next = omega (arith, next, left, c.loop-child.invariant.next);
      found =
          count_step (given_by (g.C.SignatureChecker.checker c.args.self.now.sigs.now) c.args.self.now.locks.now) c.args.self.now.stack.now xs i
          c.child-item.result c.loop-child.course c.walk.new.course
          c.in_ok-walk.field-0 c.loop-child.count c.if-branch.count c.loop-child-test.true c.child-item.is c.in_ok-walk.ensures total
          ∙ c.loop-child.invariant.found;
    }

pub thresh-returns : goal.thresh-returns
thresh-returns g t c =
    thresh_done _ _ c.args.k (shapes c.args.children.now) c.args.course.now _ c.end.new.self c.end.result c.in_ok-count.count c.in_ok-count.ensures
    (ends_by _ _ _ c.end.new.self c.end.result c.of_count.ensures c.end.ensures)

pub walk-returns-in_ok-row-in-Leaf : goal.walk-returns-in_ok-row-in-Leaf
walk-returns-in_ok-row-in-Leaf g t c =
    let Goes : model.Tree → Type 0 = λ tree. Walks (given_by
    (g.C.SignatureChecker.checker c.args.self.now.sigs.now) c.args.self.now.locks.now) c.args.self.now.stack.now tree c.args.course.now c.end.new.self c.end.result in
    subst Goes (sym c.in-Leaf.ensures.shows)
    (own_done _ _ _ c.args.course.now _ _ c.end.new.self c.end.result c.args.course.now.next _ refl (c.in_ok-row-in-Leaf.ensures.row c.args.course.now.next)
    c.in_ok-row-in-Leaf.ensures.left (stays _ _ refl) (omega (arith, leaf_nodes c.in-Leaf.leaf)) c.end.ensures)

pub walk-returns-in_ok-row-in-Multi : goal.walk-returns-in_ok-row-in-Multi
walk-returns-in_ok-row-in-Multi g t c =
    let Goes : model.Tree → Type 0 = λ tree. Walks (given_by
    (g.C.SignatureChecker.checker c.args.self.now.sigs.now) c.args.self.now.locks.now) c.args.self.now.stack.now tree c.args.course.now c.end-in-Multi.new.self
    c.end-in-Multi.result in
    subst Goes (sym c.in-Multi.ensures.shows)
    (own_done _ _ _ c.args.course.now _ _ c.end-in-Multi.new.self c.end-in-Multi.result c.args.course.now.next _ refl
    (c.in_ok-row-in-Multi.ensures.row c.args.course.now.next) c.in_ok-row-in-Multi.ensures.left (stays _ _ refl) refl c.end-in-Multi.ensures)

pub and_or-returns-in_ok-sat : goal.and_or-returns-in_ok-sat
and_or-returns-in_ok-sat g t c =
    let done = ends_by _ _ _ c.end.new.self c.end.result (c.of_and_or.ensures ∙ and_or_y c.in_ok-sat.sat) c.end.ensures in
    grind (arith, common_steps, done)

pub and_or-returns-in_ok-sat-2 : goal.and_or-returns-in_ok-sat-2
and_or-returns-in_ok-sat-2 g t c =
    let done = ends_by _ _ _ c.end-else-branch.new.self c.end-else-branch.result (c.of_and_or-else-branch.ensures ∙ and_or_z c.in_ok-sat-2.sat) c.end-else-branch.ensures in
    grind (arith, common_steps, done)

pub or_i-returns-in_ok-sat : goal.or_i-returns-in_ok-sat
or_i-returns-in_ok-sat g t c =
    let done = ends_by _ _ _ c.end.new.self c.end.result (c.of_two.ensures ∙ or_i_x c.in_ok-sat.sat) c.end.ensures in
    grind (arith, common_steps, done)

pub or_i-returns-in_ok-sat-2 : goal.or_i-returns-in_ok-sat-2
or_i-returns-in_ok-sat-2 g t c =
    let done = ends_by _ _ _ c.end-else-branch.new.self c.end-else-branch.result (c.of_two-else-branch.ensures ∙ or_i_z c.in_ok-sat-2.sat) c.end-else-branch.ensures in
    grind (arith, common_steps, done)

pub two-returns-then-ends : goal.two-returns-then-ends
two-returns-then-ends g t c =
    first_done _ _ c.args.kind (shape c.args.x.now) (shape c.args.z.now) c.args.course.now _ _ c.end.new.self c.end.result c.in_ok-first.first c.requires.not_or_i
    c.in_ok-first.ensures (sym c.ends.ensures ∙ c.if-ends.true) c.skip.ensures (ends_by _ _ _ c.end.new.self c.end.result c.of_two.ensures c.end.ensures)

pub two-returns : goal.two-returns
two-returns g t c =
    two_done _ _ c.args.kind (shape c.args.x.now) (shape c.args.z.now) c.args.course.now _ _ c.end-2.new.self c.end-2.result c.in_ok-first.first c.in_ok-second.second
    c.requires.not_or_i c.in_ok-first.ensures (sym c.ends.ensures ∙ c.if-ends.false) c.in_ok-second.ensures
    (ends_by _ _ _ c.end-2.new.self c.end-2.result c.of_two-2.ensures c.end-2.ensures)

pub wrap-returns-then-is_empty : goal.wrap-returns-then-is_empty
wrap-returns-then-is_empty g t c =
    wrap_empty_done _ _ c.args.wrapper (shape c.args.x.now) c.args.course.now _ _ c.end.new.self c.end.result c.in_ok-item.item c.in_ok-item.ensures.item
    (sym c.is_empty.ensures ∙ c.if-is_empty.true) refl refl c.in_ok-item.ensures.left c.skip.ensures
    (ends_by _ _ _ c.end.new.self c.end.result c.of_wrap.ensures c.end.ensures)

pub wrap-returns : goal.wrap-returns
wrap-returns g t c =
    wrap_done _ _ c.args.wrapper (shape c.args.x.now) c.args.course.now _ _ c.end-2.new.self c.end-2.result c.in_ok-item.item c.in_ok-sat.sat
    c.in_ok-item.ensures.item (sym c.is_empty.ensures ∙ c.if-is_empty.false) refl refl c.in_ok-sat.ensures
    (ends_by _ _ _ c.end-2.new.self c.end-2.result c.of_wrap-2.ensures c.end-2.ensures)
