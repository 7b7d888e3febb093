-- What is found of an input, and what its state says of it.
use Rattle.std.proofs.Common.{◌≡◌, ◌≤◌, ◌^◌, Bool, true, false, List, [], Option, Some, None, Result, Ok, Err, if◌then◌else◌, refl, sym, ap, subst, ◌∙◌}
use Rattle.std.specs.Prelude.{IfSome, IfOk}
use Rattle.std.specs.Option.{option_map, unwrap_or}
use Rattle.std.proofs.lemmas.Bool.{or_parts}
use Rattle.def_script.specs.Bytes.{Bytes}
use Rattle.def_script.specs.Witness.{weight}
use Rattle.def_machine.specs.declared.Locks.{Locks}
use Rattle.def_tree.specs.Tree.{Tree}
use Rattle.def_tree.specs.InRange.{IsInRange}
use Rattle.def_emit.specs.Emit.{script_of}
use Rattle.def_assets.specs.Assets.{Assets}
use Rattle.def_sane.specs.declared.Unfit.{Unfit}
use Rattle.def_sane.specs.Unfit.{first_unfit, IsSane}
use Rattle.def_choice.specs.Strict.{strict}
use Rattle.def_spend.specs.declared.Kind.{Kind}
use Rattle.def_spend.specs.declared.State.{State}
use Rattle.def_spend.specs.declared.State.TheVariants as state
use Rattle.def_spend.specs.Fields.{keys_in, signatures_in, asked_type}
use Rattle.def_spend.specs.Hashes.{script_or_none, script_in}
use Rattle.def_spend.specs.Input.{Spend}
use Rattle.def_spend.specs.Good.{assets_of}
use Rattle.def_spend.specs.Reading.{Input, script_code, IsReadAs, ReadsAs, HasReading}
use Rattle.def_spend.specs.Kinds.{kind_of}
use Rattle.def_spend.specs.Utxo.{utxo_of, amount_of}
use Rattle.def_promises.specs.Accepted.{Unchangeable}
use Rattle.def_spend.specs.States.{is_sighash_wrong, are_too_many, choice_state, held_state, unless_unfit, tree_state, state_by, state_of, is_ready, choice_of, stack_of}
use Rattle.ms_input.specs.declared.finalize.settled.Settled.{Settled}
use Rattle.ms_input.specs.declared.finalize.judging.Judging.{Judging}
use Rattle.ms_input.specs.declared.utxo.amount.Amount.{Amount}
use Rattle.ms_input.specs.Held.{Held}
use Rattle.ms_input.specs.Settled.{IsOf, is_unsatisfied, is_late, input_of, assets_in, words_by, words_in, chosen_in}
use Rattle.ms_input.specs.Spending.{amount_seen}
use Rattle.ms_input.specs.Scaffolding.Kept.{IsGuarded, IsFound}
use Rattle.ms_tree.specs.declared.tree.Tree.{Tree as CodeTree}
use Rattle.ms_tree.specs.Shape.{shape}
use Rattle.ms_input.proofs.Early.{IsTold, is_told}

-- the tree of the code is in range
pub in_range_of : (o : Option CodeTree) → IfSome o (λ t. IsInRange (shape t)) → IfSome (option_map shape o) IsInRange
in_range_of None h = tt
in_range_of (Some t) h = h

-- ---- what it demands

pub guarded_by : (spend : Spend) (amount : Amount) (kind : Kind) (read : Result Bytes State) (script : Bytes)
    → amount_seen amount ≡ amount_of (utxo_of spend.input.outpoint spend.fields) → kind ≡ kind_of spend → read ≡ script_code spend → script ≡ script_or_none read
    → IsGuarded spend amount kind script
guarded_by spend amount kind read script amount_is kind_is read_is script_is =
    record { amount_is = amount_is; kind_is = kind_is; script_is = script_is ∙ ap script_or_none read_is }

-- ---- an early state

not_ready : (told : State) → is_late told ≡ false → is_ready told ≡ false
not_ready told early = (or_parts (is_ready told) (is_unsatisfied told) early).0

pub found_early : (spend : Spend) (told : State) (settled : Settled) → settled ≡ record { tree = None; state = told; assets = None; words = None; stack = None } →
    Err told ≡ script_code spend → IsFound (input_of spend (option_map shape settled.tree)) settled
found_early spend told settled made is =
    let early : is_late told ≡ false = subst IsTold (sym is) (is_told spend) in
    let none : Option Tree = None in
    let P : Settled → Type 0 = λ s. IsFound (input_of spend (option_map shape s.tree)) s in
    subst P (sym made) (record {
      tree_is = refl;
      reading = subst (λ (r : Result Bytes State). ReadsAs (keys_in spend.fields) r none) is refl;
      in_range = tt;
      state_is = ap (λ (r : Result Bytes State). state_by r none spend) is;
      assets_are = sym (ap (λ (b : Bool). if b then Some (assets_of spend) else None) early);
      words_are = sym (ap (λ (b : Bool). if b then words_by spend.verification spend else None) early);
      stack_is = sym (ap (λ (b : Bool). if b then choice_of (input_of spend none) else None) (not_ready told early));
      light = tt;
    })

-- what holds of an answer for each, holds for each of the answer
pub each_of : {E X : Type 0} {A : X → Type 0} (o : Result Settled E) (P : X → Settled → Type 0) → ((x : X) → A x → IfOk o (P x)) → IfOk o (λ s. (x : X) → A x → P x s)
each_of (Ok s) P h = h
each_of (Err e) P h = tt

abbrev found : Bytes → Result Bytes State
found bytes = Ok bytes

pub ap_ok : {s t : Bytes} → s ≡ t → found s ≡ found t
ap_ok e = ap found e

-- ---- a script that is read

pub found_settled : {E : Type 0} (o : Result Settled E) (spend : Spend) (held : Held) (locks : Locks) (judging : Judging) (script : Bytes)
    → found script ≡ script_code spend → IsOf spend held locks judging
    → IfOk o (λ s. IsReadAs held.keys script (option_map shape s.tree))
    → IfOk o (λ s. IfSome s.tree (λ tree. IsInRange (shape tree)))
    → IfOk o (λ s. (x : Spend) → IsOf x held locks judging → s.state ≡ tree_state (option_map shape s.tree) x)
    → IfOk o (λ s. (x : Spend) → IsOf x held locks judging → s.assets ≡ assets_in s.state x)
    → IfOk o (λ s. (x : Spend) → IsOf x held locks judging → option_map (λ w. w.items) s.words ≡ words_in s.state x)
    → IfOk o (λ s. (x : Spend) → IsOf x held locks judging → s.stack ≡ chosen_in s.state (input_of x (option_map shape s.tree)))
    → IfOk o (λ s. IfSome s.stack (λ items. weight items ≤ 2 ^ 40))
    → IfOk o (λ s. IsFound (input_of spend (option_map shape s.tree)) s)
found_settled (Ok s) spend held locks judging script is of reading in_range told assets words stack light = record {
  tree_is = refl;
  reading = subst (λ (r : Result Bytes State). ReadsAs (keys_in spend.fields) r (option_map shape s.tree)) is
      (subst (λ (h : Held). IsReadAs h.keys script (option_map shape s.tree)) of.fields reading);
  in_range = in_range_of s.tree in_range;
  state_is = told spend of ∙ ap (λ (r : Result Bytes State). state_by r (option_map shape s.tree) spend) is;
  assets_are = assets spend of;
  words_are = words spend of;
  stack_is = stack spend of;
  light = light;
}
found_settled (Err e) spend held locks judging script is of reading in_range told assets words stack light = tt

-- ---- what a late state says

-- the miniscript of an input, which is sane, and its Script
pub record IsSaneWith (input : Input) (tree : Tree) : Type 0 where
  pub is : input.tree ≡ Some tree
  pub sane : IsSane tree
  pub same : script_of tree ≡ script_in input.spend

sane_by : (o : Option Unfit) (next : State) → is_late (unless_unfit o next) ≡ true → o ≡ None
sane_by None next l = refl
sane_by (Some unfit) next l = absurd cc

sane_tree : (spend : Spend) (script : Bytes) (found : Option Tree) → script_code spend ≡ Ok script → IsReadAs (keys_in spend.fields) script found →
    is_late (tree_state found spend) ≡ true → (tree : Tree) × IsSaneWith (input_of spend found) tree
sane_tree spend script None is read l = absurd cc
sane_tree spend script (Some tree) is read l = (
  tree,
  record {
    is = refl;
    sane = sane_by (first_unfit tree) (held_state tree spend) l;
    same = read.reading.same ∙ sym (ap script_or_none is);
  },
)

pub late_is_sane : (input : Input) → HasReading input → is_late (state_of input) ≡ true → (tree : Tree) × IsSaneWith input tree
late_is_sane input read l = go (script_code input.spend) refl (is_told input.spend) read l
  where
    go : (r : Result Bytes State) → script_code input.spend ≡ r → IsTold r → ReadsAs (keys_in input.spend.fields) r input.tree →
        is_late (state_by r input.tree input.spend) ≡ true → (tree : Tree) × IsSaneWith input tree
    go (Ok script) e told read l = sane_tree input.spend script input.tree e read l
    go (Err early) e told read l = absurd cc

-- the assets of an input in a late state
pub held_assets : (input : Input) (settled : Settled) → IsFound input settled → is_late (state_of input) ≡ true → settled.assets ≡ Some (assets_of input.spend)
held_assets input settled found l = found.assets_are ∙ ap (λ (b : Bool). if b then Some (assets_of input.spend) else None) (ap is_late found.state_is ∙ l)

-- by two names of one miniscript
same_some : {A : Type 0} (o : Option A) (s t : A) → o ≡ Some s → o ≡ Some t → s ≡ t
same_some o s t e f = cc

pub is_sane : (input : Input) (tree : Tree) → HasReading input → is_late (state_of input) ≡ true → input.tree ≡ Some tree → IsSane tree
is_sane input tree read l is =
    let found = late_is_sane input read l in
    subst IsSane (same_some input.tree found.0 tree found.1.is is) found.1.sane

pub has_script : (input : Input) (tree : Tree) → HasReading input → is_late (state_of input) ≡ true → input.tree ≡ Some tree → script_of tree ≡ script_in input.spend
has_script input tree read l is =
    let found = late_is_sane input read l in
    subst (λ (t : Tree). script_of t ≡ script_in input.spend) (same_some input.tree found.0 tree found.1.is is) found.1.same

-- the tree that is kept of an input
pub tree_is : (input : Input) (settled : Settled) (tree : CodeTree) → IsFound input settled → settled.tree ≡ Some tree → input.tree ≡ Some (shape tree)
tree_is input settled tree found is = found.tree_is ∙ ap (option_map shape) is

-- ---- the satisfaction of a Ready input

choice_is : (o : Option (List Bytes)) → is_ready (choice_state o) ≡ true → o ≡ Some (unwrap_or o [])
choice_is None e = absurd cc
choice_is (Some stack) e = refl

held_choice : (wrong many : Bool) (o : Option (List Bytes)) →
    is_ready (if wrong then state.WrongSighash else if many then state.TooMany else choice_state o) ≡ true → o ≡ Some (unwrap_or o [])
held_choice true many o e = absurd cc
held_choice false true o e = absurd cc
held_choice false false o e = choice_is o e

unless_choice : (u : Option Unfit) (tree : Tree) (spend : Spend) → is_ready (unless_unfit u (held_state tree spend)) ≡ true →
    strict tree (assets_of spend) ≡ Some (unwrap_or (strict tree (assets_of spend)) [])
unless_choice None tree spend e = held_choice (is_sighash_wrong (asked_type spend.fields) (signatures_in spend.fields)) (are_too_many spend.fields) (strict tree (assets_of spend)) e
unless_choice (Some unfit) tree spend e = absurd cc

tree_choice : (spend : Spend) (found : Option Tree) → is_ready (tree_state found spend) ≡ true → choice_of (input_of spend found) ≡ Some (stack_of (input_of spend found))
tree_choice spend None e = absurd cc
tree_choice spend (Some tree) e = unless_choice (first_unfit tree) tree spend e

pub ready_choice : (input : Input) → is_ready (state_of input) ≡ true → choice_of input ≡ Some (stack_of input)
ready_choice input e = go (script_code input.spend) (is_told input.spend) e
  where
    go : (r : Result Bytes State) → IsTold r → is_ready (state_by r input.tree input.spend) ≡ true → choice_of input ≡ Some (stack_of input)
    go (Ok script) told e = tree_choice input.spend input.tree e
    go (Err early) told e = let no = not_ready early told in absurd cc

abbrev pub ready_stack : Input → Option (List Bytes)
ready_stack input = if is_ready (state_of input) then Some (stack_of input) else None

pub stack_told : (input : Input) (settled : Settled) → IsFound input settled → settled.stack ≡ ready_stack input
stack_told input settled found = found.stack_is ∙ ap (λ (x : State). chosen_in x input) found.state_is ∙ go (is_ready (state_of input)) refl
  where
    go : (b : Bool) → is_ready (state_of input) ≡ b → (if b then choice_of input else None) ≡ (if b then Some (stack_of input) else None)
    go true e = ready_choice input e
    go false e = refl

pub ready_has_stack : (input : Input) (settled : Settled) → IsFound input settled → state_of input ≡ state.Ready → settled.stack ≡ Some (stack_of input)
ready_has_stack input settled found ready =
    stack_told input settled found ∙ ap (λ (x : State). if is_ready x then Some (stack_of input) else None) ready

-- a late one has a miniscript and assets, and a Ready one a satisfaction
pub no_tree : (input : Input) (settled : Settled) → IsFound input settled → is_late (state_of input) ≡ true → settled.tree ≡ None → ⊥
no_tree input settled found l none =
    let some = (late_is_sane input found.reading l).1.is in
    let no = found.tree_is ∙ ap (option_map shape) none in
    cc

pub no_assets : (input : Input) (settled : Settled) → IsFound input settled → is_late (state_of input) ≡ true → settled.assets ≡ None → ⊥
no_assets input settled found l none = let some = held_assets input settled found l in cc

pub no_stack : (input : Input) (settled : Settled) → IsFound input settled → state_of input ≡ state.Ready → settled.stack ≡ None → ⊥
no_stack input settled found ready none = let some = ready_has_stack input settled found ready in cc

-- what is kept of a late one, and of a Ready one
pub kept_assets : (input : Input) (settled : Settled) (assets : Assets) → IsFound input settled → is_late (state_of input) ≡ true → settled.assets ≡ Some assets
    → assets ≡ assets_of input.spend
kept_assets input settled assets found l is = same_some settled.assets assets (assets_of input.spend) is (held_assets input settled found l)

pub kept_stack : (input : Input) (settled : Settled) (stack : List Bytes) → IsFound input settled → state_of input ≡ state.Ready → settled.stack ≡ Some stack
    → stack ≡ stack_of input
kept_stack input settled stack found ready is = same_some settled.stack stack (stack_of input) is (ready_has_stack input settled found ready)

-- what is made of the miniscript and the assets of an Unsatisfied input
pub told_plan : {X : Type 0} (make : Tree → Assets → X) (input : Input) (settled : Settled) (own : CodeTree) (tree : Tree) (assets : Assets) (plan : X) →
    IsFound input settled → state_of input ≡ state.Unsatisfied → settled.tree ≡ Some own → settled.assets ≡ Some assets →
    input.tree ≡ Some tree → plan ≡ make (shape own) assets → plan ≡ make tree (assets_of input.spend)
told_plan make input settled own tree assets plan found unmet is assets_is other e =
    e ∙ ap (λ (t : Tree). make t assets) (same_some input.tree (shape own) tree (tree_is input settled own found is) other)
    ∙ ap (make tree) (kept_assets input settled assets found (ap is_late unmet) assets_is)

-- nobody can change it
pub unchanged : (input : Input) (settled : Settled) (tree : CodeTree) (assets : Assets) (stack : List Bytes) →
    IsFound input settled → state_of input ≡ state.Ready → settled.tree ≡ Some tree → settled.assets ≡ Some assets → settled.stack ≡ Some stack →
    Unchangeable (shape tree) assets stack → (other : Tree) → input.tree ≡ Some other → Unchangeable other (assets_of input.spend) (stack_of input)
unchanged input settled tree assets stack found ready is assets_is stack_is h other is_other =
    subst (λ (t : Tree). Unchangeable t (assets_of input.spend) (stack_of input)) (same_some input.tree (shape tree) other (tree_is input settled tree found is) is_other)
    (subst (λ (a : Assets). Unchangeable (shape tree) a (stack_of input)) (kept_assets input settled assets found (ap is_late ready) assets_is)
    (subst (λ (x : List Bytes). Unchangeable (shape tree) assets x) (kept_stack input settled stack found ready stack_is) h))
