use Rattle.std.proofs.Common.{◌≤◌, sym, subst}
use Rattle.def_policy.specs.Laws.{SaysSatisfiable, IsSimple, WantsKey}
use Rattle.def_policy.specs.Plain.{plain}
use Rattle.def_policy.specs.Policy.{Policy}
use Rattle.def_policy.specs.Keys.{HasDistinctKeys}
use Rattle.def_policy.specs.Size.{size, depth, HasLocks, MOST_POLICIES, MOST_POLICY_DEPTH}
use Rattle.def_sane.proofs.Meanings.{sane_means, valid_means}
use Rattle.ms_tree.specs.Shape.{shape}
use Rattle.ms_policy.proofs.Bounds.{on_ok, policy_is_few, policy_is_shallow}
use Rattle.ms_policy.proofs.Kept.{distinct_keys, in_range_locks}
use Rattle.def_policy.proofs.Forms.{simple_is_simple}
use Rattle.ms_policy_laws.proofs.NeedsKey.{sane_wants_key}
use Rattle.ms_policy_laws.proofs.Satisfied.{policy_of_sane}
use Rattle.ms_policy.proofs.of_tree.policy_of.Goals as goal

pub returns-clause-satisfied : goal.returns-clause-satisfied
returns-clause-satisfied c =
    let tree = shape c.args.tree.now in
    let says = policy_of_sane tree c.requires.in_range.writable c.requires.sane in
    on_ok _ _ c.simplified.result (λ p e. subst (SaysSatisfiable tree) (sym e) says) c.simplified.ensures

pub returns-clause-form : goal.returns-clause-form
returns-clause-form c =
    on_ok _ _ c.simplified.result (λ p e. subst IsSimple (sym e) (simple_is_simple (plain (shape c.args.tree.now)))) c.simplified.ensures

pub returns-clause-signed : goal.returns-clause-signed
returns-clause-signed c =
    let wants = sane_wants_key (shape c.args.tree.now) c.requires.in_range.writable c.requires.sane in
    on_ok _ _ c.simplified.result (λ p e. subst WantsKey (sym e) wants) c.simplified.ensures

pub returns-clause-few : goal.returns-clause-few
returns-clause-few c =
    let Few : Policy → Type 0 = λ p. size p ≤ MOST_POLICIES in
    on_ok _ _ c.simplified.result (λ p e. subst Few (sym e) (policy_is_few (shape c.args.tree.now) c.requires.in_range)) c.simplified.ensures

pub returns-clause-shallow : goal.returns-clause-shallow
returns-clause-shallow c =
    let Shallow : Policy → Type 0 = λ p. depth p ≤ MOST_POLICY_DEPTH in
    on_ok _ _ c.simplified.result (λ p e. subst Shallow (sym e) (policy_is_shallow (shape c.args.tree.now) c.requires.in_range)) c.simplified.ensures

pub returns-clause-distinct : goal.returns-clause-distinct
returns-clause-distinct c =
    let tree = shape c.args.tree.now in
    let means = (sane_means tree).0 c.requires.sane in
    on_ok _ _ c.simplified.result (λ p e. subst HasDistinctKeys (sym e) (distinct_keys tree means.4)) c.simplified.ensures

pub returns-clause-locks : goal.returns-clause-locks
returns-clause-locks c =
    let tree = shape c.args.tree.now in
    let means = (sane_means tree).0 c.requires.sane in
    let typed = ((valid_means tree).0 means.0).0 in
    on_ok _ _ c.simplified.result (λ p e. subst HasLocks (sym e) (in_range_locks tree typed)) c.simplified.ensures
