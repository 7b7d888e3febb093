-- Which inputs are Ready or Unsatisfied.
use Rattle.std.proofs.Common.{◌≡◌, ◌↔◌, ◌⊎◌, Bool, true, false, List, [], Option, Some, None, Result, Ok, Err, refl, sym, ap, subst, ◌∙◌, if◌then◌else◌, inl, inr}
use Rattle.std.proofs.lemmas.Bool.{cases_Bool, false≢true}
use Rattle.std.specs.Bool.{⊤}
use Rattle.std.specs.Prelude.{unwrap_or}
use Rattle.std.specs.Option.{option_and_then}
use Rattle.std.specs.Str.{bytes_eq}
use Rattle.std.proofs.lemmas.Slice.Eq.{bytes_eq-Decides}
use Rattle.def_script.specs.Bytes.{Bytes}
use Rattle.def_machine.specs.Program.{program_of}
use Rattle.def_tree.specs.Tree.{Tree}
use Rattle.def_tree.specs.Range.{IsWritable}
use Rattle.def_sane.specs.declared.Unfit.{Unfit}
use Rattle.def_sane.specs.declared.Rules.TheVariants.{Policy, Consensus}
use Rattle.def_sane.specs.Unfit.{first_unfit, IsSaneUnder}
use Rattle.def_sane.proofs.Meanings.{sane_under_consensus}
use Rattle.def_satisfaction.specs.Satisfaction.{Sat}
use Rattle.def_choice.specs.Strict.{strict}
use Rattle.ms_strict_laws.proofs.StrictChoiceExists.{strict_exists}
use Rattle.def_psbt.specs.Transaction.{TransactionOutput}
use Rattle.def_spend.specs.declared.Kind.{Kind}
use Rattle.def_spend.specs.declared.Kind.TheVariants as kind
use Rattle.def_spend.specs.declared.State.{State}
use Rattle.def_spend.specs.declared.State.TheVariants as state
use Rattle.def_psbt.specs.Types.{IN_REDEEM_SCRIPT, IN_WITNESS_SCRIPT}
use Rattle.def_spend.specs.Fields.{field, keys_in, signatures_in, asked_type}
use Rattle.def_spend.specs.Utxo.{Utxo}
use Rattle.def_spend.specs.Utxo as utxo
use Rattle.def_spend.specs.Input.{Spend}
use Rattle.def_spend.specs.Good.{assets_of}
use Rattle.def_spend.specs.Kinds.{is_p2sh, p2sh_of, redeemed, program_in, program_of_utxo, is_nested, is_script_hash, is_key_hash, kind_by, kind_with, kind_of, spent_utxo, spent_program, pushed, script_sig_by, IsGuardedBy, ends_in_script}
use Rattle.def_spend.specs.Reading.{Input, has_final, script_for, key_hash_script, script_of_program, script_with, script_code, ReadsAs, HasReading}
use Rattle.def_spend.specs.States.{is_sighash_wrong, are_too_many, choice_state, held_state, unless_unfit, tree_state, state_by, state_of, is_ready, stack_of}
use Rattle.def_spend.specs.Finalized.{script_sig_of}
use Rattle.ms_given_laws.specs.Given.{EachIsSound}
use Rattle.ms_spend_laws.specs.Tried.{IsTried, IsTriedWith, ReadyExactly, UnsatisfiedExactly, OfEachIn}
use Rattle.ms_spend_laws.specs.Ready.{output_in, spent_output}
use Rattle.ms_spend_laws.proofs.Inputs.{IsGiven, held, of_each}

-- the states of an input whose signatures and preimages count
abbrev pub IsChoice : State → Type 0
IsChoice state.Ready = ⊤
IsChoice state.Unsatisfied = ⊤
IsChoice other = ⊥

-- ---- the program

-- an output is a program, or P2SH of it, which is the redeem script
abbrev Guards : (nested : Bool) (redeem : Option Bytes) (program output : Bytes) → Type 0
Guards nested redeem program output =
    ((nested ≡ false) × (output ≡ program)) ⊎ ((nested ≡ true) × (redeem ≡ Some program) × (output ≡ p2sh_of program))

-- what a program that is found, and a state that is, tell
abbrev Found : Option TransactionOutput → (nested : Bool) → (redeem : Option Bytes) → Result Bytes State → Type 0
Found known nested redeem (Ok program) = (output : TransactionOutput) × (known ≡ Some output) × Guards nested redeem program output.script
Found known nested redeem (Err s) = ¬ IsChoice s

redeemed_found : (output : TransactionOutput) (redeem : Option Bytes) → Found (Some output) true redeem (redeemed output.script redeem)
redeemed_found output None = λ h. h
redeemed_found output (Some redeem) = elim (cases_Bool (bytes_eq output.script (p2sh_of redeem))) [
  | inl e ↦ rw e (output, refl, inr (refl, refl, (bytes_eq-Decides output.script (p2sh_of redeem)).0 e))
  | inr e ↦ rw e (λ h. h)
]

program_found : (output : TransactionOutput) (redeem : Option Bytes) → Found (Some output) (is_p2sh output.script) redeem (program_in output.script redeem)
program_found output redeem = elim (cases_Bool (is_p2sh output.script)) [
  | inl e ↦ rw e (redeemed_found output redeem)
  | inr e ↦ rw e (output, refl, inl (refl, refl))
]

utxo_found : (u : Utxo) (redeem : Option Bytes) → Found (output_in u) (is_nested u) redeem (program_of_utxo u redeem)
utxo_found utxo.none redeem = λ h. h
utxo_found utxo.wrong redeem = λ h. h
utxo_found (utxo.proved output) redeem = program_found output redeem
utxo_found (utxo.claimed output) redeem = program_found output redeem

-- ---- the Script

-- of P2WSH the script is that of the map, and the spent output is its program, or P2SH of that
pub record IsScriptFor (known : Option TransactionOutput) (given : Option Bytes) (one : Kind) (script_sig script : Bytes) : Type 0 where
  pub kind : ends_in_script one ≡ true
  pub output : TransactionOutput
  pub spent : known ≡ Some output
  pub held : given ≡ Some script
  pub guarded : IsGuardedBy (program_of script) output.script script_sig

-- of P2WPKH it is that of a program, which is the spent output, or of which that is P2SH
pub record IsKeyHashFor (known : Option TransactionOutput) (one : Kind) (script_sig script : Bytes) : Type 0 where
  pub kind : ends_in_script one ≡ false
  pub output : TransactionOutput
  pub spent : known ≡ Some output
  pub program : Bytes
  pub key_hash : is_key_hash program ≡ true
  pub is_script : script ≡ key_hash_script program
  pub guarded : IsGuardedBy program output.script script_sig

-- what a script that is found, and a state that is, tell
abbrev pub Tells : Option TransactionOutput → (given : Option Bytes) → Kind → (script_sig : Bytes) → Result Bytes State → Type 0
Tells known given one script_sig (Ok script) = IsScriptFor known given one script_sig script ⊎ IsKeyHashFor known one script_sig script
Tells known given one script_sig (Err s) = ¬ IsChoice s

-- the scriptSig of an output of a kind
abbrev sig_by : Kind → (redeem : Option Bytes) → Bytes
sig_by kind redeem = unwrap_or (script_sig_by kind (unwrap_or redeem [])) []

-- the kind of a program, which has the hash of a key, or of a script
abbrev kind_for : (key nested : Bool) → Kind
kind_for true nested = if nested then kind.P2shP2wpkh else kind.P2wpkh
kind_for false nested = if nested then kind.P2shP2wsh else kind.P2wsh

ends_in : (nested : Bool) → ends_in_script (kind_for false nested) ≡ true
ends_in true = refl
ends_in false = refl

ends_without : (nested : Bool) → ends_in_script (kind_for true nested) ≡ false
ends_without true = refl
ends_without false = refl

guards_by : (key nested : Bool) (redeem : Option Bytes) (program output : Bytes) → Guards nested redeem program output
    → IsGuardedBy program output (sig_by (kind_for key nested) redeem)
guards_by key true redeem program output (inl h) = absurd (false≢true (sym h.0))
guards_by true false redeem program output (inl h) = inl (h.1, refl)
guards_by false false redeem program output (inl h) = inl (h.1, refl)
guards_by true true redeem program output (inr h) = inr (h.2, ap (λ (o : Option Bytes). pushed (unwrap_or o [])) h.1)
guards_by false true redeem program output (inr h) = inr (h.2, ap (λ (o : Option Bytes). pushed (unwrap_or o [])) h.1)
guards_by key false redeem program output (inr h) = absurd (false≢true h.0)

for_tells : (known : Option TransactionOutput) (nested : Bool) (redeem : Option Bytes) (program : Bytes) (o : Option Bytes)
    → Found known nested redeem (Ok program) → Tells known o (kind_for false nested) (sig_by (kind_for false nested) redeem) (script_for program o)
for_tells known nested redeem program None found = λ h. h
for_tells known nested redeem program (Some script) found = elim (cases_Bool (bytes_eq program (program_of script))) [
  | inl e ↦ rw e (inl (record {
    kind = ends_in nested;
    output = found.0;
    spent = found.1;
    held = refl;
    guarded = subst (λ (p : Bytes). IsGuardedBy p found.0.script (sig_by (kind_for false nested) redeem)) ((bytes_eq-Decides program (program_of script)).0 e)
        (guards_by false nested redeem program found.0.script found.2);
  }))
  | inr e ↦ rw e (λ h. h)
]

program_tells : (known : Option TransactionOutput) (nested : Bool) (redeem : Option Bytes) (program : Bytes) (o : Option Bytes)
    → Found known nested redeem (Ok program) → Tells known o (kind_by nested program) (sig_by (kind_by nested program) redeem) (script_of_program program o)
program_tells known nested redeem program o found = elim (cases_Bool (is_script_hash program)) [
  | inl e ↦ rw e (for_tells known nested redeem program o found)
  | inr e ↦ elim (cases_Bool (is_key_hash program)) [
    | inl k ↦ rw (e, k) (inr (record {
      kind = ends_without nested;
      output = found.0;
      spent = found.1;
      program = program;
      key_hash = k;
      is_script = refl;
      guarded = guards_by true nested redeem program found.0.script found.2;
    }))
    | inr k ↦ rw (e, k) (λ h. h)
  ]
]

with_tells : (known : Option TransactionOutput) (nested : Bool) (redeem : Option Bytes) (r : Result Bytes State) (o : Option Bytes)
    → Found known nested redeem r → Tells known o (kind_with nested r) (sig_by (kind_with nested r) redeem) (script_with r o)
with_tells known nested redeem (Ok program) o found = program_tells known nested redeem program o found
with_tells known nested redeem (Err s) o found = found

-- what the Script of an input tells
abbrev pub SpendTells : Spend → Result Bytes State → Type 0
SpendTells spend r = Tells (spent_output spend) (field IN_WITNESS_SCRIPT spend.fields) (kind_of spend) (script_sig_of spend) r

spend_tells : (spend : Spend) → SpendTells spend (script_code spend)
spend_tells spend = elim (cases_Bool (has_final spend.fields)) [
  | inl e ↦ rw e (λ h. h)
  | inr e ↦ rw e (with_tells (spent_output spend) (is_nested (spent_utxo spend)) (field IN_REDEEM_SCRIPT spend.fields) (spent_program spend)
      (field IN_WITNESS_SCRIPT spend.fields) (utxo_found (spent_utxo spend) (field IN_REDEEM_SCRIPT spend.fields)))
]

pub script_is : (spend : Spend) (script : Bytes) → script_code spend ≡ Ok script → SpendTells spend (Ok script)
script_is spend script e = subst (SpendTells spend) e (spend_tells spend)

-- ---- an input whose state is a choice

pub record IsOpen (input : Input) (wanted : State) : Type 0 where
  pub tree : Tree
  pub script : Bytes
  pub tried : IsTried input tree script
  pub chosen : choice_state (strict tree (assets_of input.spend)) ≡ wanted

other_state : (s wanted : State) → IsChoice wanted → (¬ IsChoice s) → s ≡ wanted → ⊥
other_state s wanted choice never e = never (subst IsChoice (sym e) choice)

pub opens : (input : Input) (wanted : State) → HasReading input → IsChoice wanted → state_of input ≡ wanted → IsOpen input wanted
opens input wanted read choice e = by_script (script_code input.spend) refl (spend_tells input.spend) read e
  where
    by_reason : (tree : Tree) (script : Bytes) (o : Option Unfit) → first_unfit tree ≡ o
        → (first_unfit tree ≡ None → is_sighash_wrong (asked_type input.spend.fields) (signatures_in input.spend.fields) ≡ false → are_too_many input.spend.fields ≡ false → IsTried input tree script)
        → unless_unfit o (held_state tree input.spend) ≡ wanted → IsOpen input wanted
    by_reason tree script (Some unfit) is tried e = absurd (other_state (state.Unfit unfit) wanted choice (λ h. h) e)
    by_reason tree script None is tried e = elim (cases_Bool (is_sighash_wrong (asked_type input.spend.fields) (signatures_in input.spend.fields))) [
      | inl wrong ↦ absurd (other_state state.WrongSighash wanted choice (λ h. h) (rw wrong at e))
      | inr types ↦ elim (cases_Bool (are_too_many input.spend.fields)) [
        | inl many ↦ absurd (other_state state.TooMany wanted choice (λ h. h) (rw (types, many) at e))
        | inr few ↦ record { tree = tree; script = script; tried = tried is types few; chosen = rw (types, few) at e }
      ]
    ]

    by_tree : (script : Bytes) → script_code input.spend ≡ Ok script → (o : Option Tree) → input.tree ≡ o → ReadsAs (keys_in input.spend.fields) (Ok script) o
        → tree_state o input.spend ≡ wanted → IsOpen input wanted
    by_tree script spends None is reads e = absurd (other_state state.NoReading wanted choice (λ h. h) e)
    by_tree script spends (Some tree) is reads e =
        by_reason tree script (first_unfit tree) refl
        (λ sane types few. record { spends = spends; read = is; decoded = reads; sane = sane; types = types; few = few }) e

    by_script : (r : Result Bytes State) → script_code input.spend ≡ r → SpendTells input.spend r
        → ReadsAs (keys_in input.spend.fields) r input.tree → state_by r input.tree input.spend ≡ wanted → IsOpen input wanted
    by_script (Err s) is told reads e = absurd (other_state s wanted choice told e)
    by_script (Ok script) is told reads e = by_tree script is input.tree refl reads e

-- and an input that is tried has this state
pub state_is : (input : Input) (tree : Tree) (script : Bytes) → IsTried input tree script → state_of input ≡ choice_state (strict tree (assets_of input.spend))
state_is input tree script t =
    ap (λ r. state_by r input.tree input.spend) t.spends
    ∙ ap (λ o. tree_state o input.spend) t.read
    ∙ ap (λ o. unless_unfit o (held_state tree input.spend)) t.sane
    ∙ ap (λ b. if b then state.WrongSighash else if are_too_many input.spend.fields then state.TooMany else choice_state (strict tree (assets_of input.spend))) t.types
    ∙ ap (λ b. if b then state.TooMany else choice_state (strict tree (assets_of input.spend))) t.few

-- ---- the choice

pub ready_some : (o : Option (List Bytes)) → choice_state o ≡ state.Ready → (stack : List Bytes) × (o ≡ Some stack)
ready_some None e = absurd cc
ready_some (Some stack) e = (stack, refl)

-- a state that is ready is Ready
pub ready_is : (s : State) → is_ready s ≡ true → s ≡ state.Ready
ready_is state.Ready e = refl
ready_is s e = absurd cc

pub unsatisfied_none : (o : Option (List Bytes)) → choice_state o ≡ state.Unsatisfied → o ≡ None
unsatisfied_none None e = refl
unsatisfied_none (Some stack) e = absurd cc

pub writes : (input : Input) (tree : Tree) (script : Bytes) → IsTried input tree script → IsWritable tree
writes input tree script t = t.decoded.reading.writable

pub sane_for_all : (input : Input) (tree : Tree) (script : Bytes) → IsTried input tree script → IsSaneUnder Consensus tree
sane_for_all input tree script t = sane_under_consensus Policy tree t.sane

-- the stack of the input is the one that is chosen
pub stack_is : (input : Input) (tree : Tree) (script : Bytes) (stack : List Bytes) → IsTried input tree script → strict tree (assets_of input.spend) ≡ Some stack → stack_of input ≡ stack
stack_is input tree script stack t e =
    let none : List Bytes = [] in
    ap (λ o. unwrap_or (option_and_then (λ t. strict t (assets_of input.spend)) o) none) t.read ∙ ap (λ o. unwrap_or o none) e

one_tree : (a b : Tree) (o : Option Tree) → o ≡ Some a → o ≡ Some b → a ≡ b
one_tree a b o p q = cc (sym p ∙ q)

-- what holds of the inputs in such a state that are tried
pub of_each_in : EachIsSound → (wanted : State) → IsChoice wanted → (Holds : Input → Tree → Type 0)
    → ((input : Input) (tree : Tree) (script : Bytes) → IsGiven input → IsTried input tree script → choice_state (strict tree (assets_of input.spend)) ≡ wanted → Holds input tree)
    → OfEachIn wanted Holds
of_each_in law wanted choice Holds holds =
    of_each law (λ input. state_of input ≡ wanted → (tree : Tree) → input.tree ≡ Some tree → Holds input tree) (λ input given e tree is.
    let o = opens input wanted given.read choice e in
    let tried = o.tried in
    subst (Holds input) (one_tree o.tree tree input.tree tried.read is) (holds input o.tree o.script given tried o.chosen))

-- ---- exactly where

exists : (input : Input) (tree : Tree) (script : Bytes) → IsGiven input → IsTried input tree script
    → ((stack : List Bytes) × (strict tree (assets_of input.spend) ≡ Some stack)) ↔ ((stack : List Bytes) × Sat tree (assets_of input.spend) stack)
exists input tree script given t =
    strict_exists tree (assets_of input.spend) (writes input tree script t) (sane_for_all input tree script t) (held input given)

ready_here : (input : Input) → IsGiven input → (state_of input ≡ state.Ready) ↔ IsTriedWith input (λ tree. (stack : List Bytes) × Sat tree (assets_of input.spend) stack)
ready_here input given = (
  λ e.
      let o = opens input state.Ready given.read tt e in
      (o.tree, o.script, o.tried, (exists input o.tree o.script given o.tried).0 (ready_some _ o.chosen)),
  λ h.
      let some = (exists input h.0 h.1 given h.2).1 h.3 in
      state_is input h.0 h.1 h.2 ∙ ap choice_state some.1,
)

pub ready_exactly : EachIsSound → ReadyExactly
ready_exactly law = of_each law _ ready_here

none_chosen : (o : Option (List Bytes)) → ((stack : List Bytes) → o ≡ Some stack → ⊥) → o ≡ None
none_chosen None h = refl
none_chosen (Some stack) h = absurd (h stack refl)

pub none_satisfies : (input : Input) (tree : Tree) (script : Bytes) → IsGiven input → IsTried input tree script → strict tree (assets_of input.spend) ≡ None
    → (stack : List Bytes) → ¬ Sat tree (assets_of input.spend) stack
none_satisfies input tree script given t e stack sat =
    let some = (exists input tree script given t).1 (stack, sat) in
    cc (sym e ∙ some.1)

unsatisfied_here : (input : Input) → IsGiven input → (state_of input ≡ state.Unsatisfied) ↔ IsTriedWith input (λ tree. (stack : List Bytes) → ¬ Sat tree (assets_of input.spend) stack)
unsatisfied_here input given = (
  λ e.
      let o = opens input state.Unsatisfied given.read tt e in
      (o.tree, o.script, o.tried, none_satisfies input o.tree o.script given o.tried (unsatisfied_none _ o.chosen)),
  λ h.
      let none = none_chosen (strict h.0 (assets_of input.spend)) (λ stack e.
      let some = (exists input h.0 h.1 given h.2).0 (stack, e) in
      h.3 some.0 some.1) in
      state_is input h.0 h.1 h.2 ∙ ap choice_state none,
)

pub unsatisfied_exactly : EachIsSound → UnsatisfiedExactly
unsatisfied_exactly law = of_each law _ unsatisfied_here
