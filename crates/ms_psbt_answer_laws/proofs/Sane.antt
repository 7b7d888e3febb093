-- In which states the miniscript is sane, and which inputs are Final.
use Rattle.std.proofs.Common.{◌≡◌, Bool, true, false, List, Option, Some, None, Result, Ok, Err, if◌then◌else◌, refl, subst}
use Rattle.std.specs.Str.{bytes_eq}
use Rattle.def_script.specs.Bytes.{Bytes}
use Rattle.def_machine.specs.Program.{program_of}
use Rattle.def_tree.specs.Tree.{Tree}
use Rattle.def_sane.specs.declared.Unfit.{Unfit}
use Rattle.def_choice.specs.Strict.{strict}
use Rattle.def_sane.specs.Unfit.{first_unfit, IsSane}
use Rattle.def_spend.specs.declared.State.{State}
use Rattle.def_spend.specs.declared.State.TheVariants as state
use Rattle.def_psbt.specs.Types.{IN_REDEEM_SCRIPT, IN_WITNESS_SCRIPT}
use Rattle.def_spend.specs.Fields.{field, signatures_in, asked_type}
use Rattle.def_spend.specs.Input.{Spend}
use Rattle.def_spend.specs.Good.{assets_of}
use Rattle.def_spend.specs.Kinds.{is_p2sh, p2sh_of, redeemed, program_in, program_of_utxo, is_script_hash, is_key_hash, spent_utxo, spent_program}
use Rattle.def_spend.specs.Reading.{Input, has_final, script_for, key_hash_script, script_of_program, script_with, open_script, script_code}
use Rattle.def_spend.specs.States.{is_sane, is_final, is_sighash_wrong, are_too_many, choice_state, held_state, unless_unfit, tree_state, state_by, state_of}
use Rattle.def_spend.specs.Utxo.{Utxo}
use Rattle.def_spend.specs.Utxo as utxo

-- where there is no script, the state is none of a sane miniscript, and not Final
abbrev IsEarly : Result Bytes State → Type 0
IsEarly (Ok script) = Unit {0}
IsEarly (Err told) = (is_sane told ≡ false) × (is_final told ≡ false)

early_redeemed : (spent : Bytes) (o : Option Bytes) → IsEarly (redeemed spent o)
early_redeemed spent None = (refl, refl)
early_redeemed spent (Some redeem) = go (bytes_eq spent (p2sh_of redeem))
  where
    go : (b : Bool) → IsEarly (if b then Ok redeem else Err state.WrongScript)
    go true = tt
    go false = (refl, refl)

early_program : (spent : Bytes) (o : Option Bytes) → IsEarly (program_in spent o)
early_program spent o = go (is_p2sh spent)
  where
    go : (b : Bool) → IsEarly (if b then redeemed spent o else Ok spent)
    go true = early_redeemed spent o
    go false = tt

early_utxo : (spent : Utxo) (o : Option Bytes) → IsEarly (program_of_utxo spent o)
early_utxo utxo.none o = (refl, refl)
early_utxo utxo.wrong o = (refl, refl)
early_utxo (utxo.proved output) o = early_program output.script o
early_utxo (utxo.claimed output) o = early_program output.script o

early_for : (program : Bytes) (o : Option Bytes) → IsEarly (script_for program o)
early_for program None = (refl, refl)
early_for program (Some script) = go (bytes_eq program (program_of script))
  where
    go : (b : Bool) → IsEarly (if b then Ok script else Err state.WrongScript)
    go true = tt
    go false = (refl, refl)

early_script : (program : Bytes) (o : Option Bytes) → IsEarly (script_of_program program o)
early_script program o = go (is_script_hash program) (is_key_hash program)
  where
    go : (b k : Bool) → IsEarly (if b then script_for program o else if k then Ok (key_hash_script program) else Err state.OtherOutput)
    go true k = early_for program o
    go false true = tt
    go false false = (refl, refl)

early_with : (r : Result Bytes State) (o : Option Bytes) → IsEarly r → IsEarly (script_with r o)
early_with (Ok program) o early = early_script program o
early_with (Err told) o early = early

early_open : (spend : Spend) → IsEarly (open_script spend)
early_open spend = early_with (spent_program spend) (field IN_WITNESS_SCRIPT spend.fields) (early_utxo (spent_utxo spend) (field IN_REDEEM_SCRIPT spend.fields))

-- ---- in which states the miniscript is sane

no_reason : (o : Option Unfit) (next : State) → is_sane (unless_unfit o next) ≡ true → o ≡ None
no_reason None next h = refl
no_reason (Some unfit) next h = cc

sane_by : (r : Result Bytes State) (tree : Tree) (spend : Spend) → IsEarly r → is_sane (state_by r (Some tree) spend) ≡ true → IsSane tree
sane_by (Ok script) tree spend early h = no_reason (first_unfit tree) (held_state tree spend) h
sane_by (Err told) tree spend early h = let no : is_sane told ≡ false = early.0 in cc

sane_unless : (b : Bool) (tree : Tree) (spend : Spend)
    → is_sane (state_by (if b then Err state.Final else open_script spend) (Some tree) spend) ≡ true → IsSane tree
sane_unless true tree spend h = cc
sane_unless false tree spend h = sane_by (open_script spend) tree spend (early_open spend) h

pub sane_state : (input : Input) (tree : Tree) → input.tree ≡ Some tree → is_sane (state_of input) ≡ true → IsSane tree
sane_state input tree is h =
    sane_unless (has_final input.spend.fields) tree input.spend
    (subst (λ (o : Option Tree). is_sane (state_by (script_code input.spend) o input.spend) ≡ true) is h)

-- ---- which inputs are Final

open_choice : (o : Option (List Bytes)) → is_final (choice_state o) ≡ false
open_choice None = refl
open_choice (Some stack) = refl

open_held : (wrong many : Bool) (o : Option (List Bytes)) → is_final (if wrong then state.WrongSighash else if many then state.TooMany else choice_state o) ≡ false
open_held true many o = refl
open_held false true o = refl
open_held false false o = open_choice o

open_unless : (o : Option Unfit) (next : State) → is_final next ≡ false → is_final (unless_unfit o next) ≡ false
open_unless None next h = h
open_unless (Some unfit) next h = refl

open_tree : (found : Option Tree) (spend : Spend) → is_final (tree_state found spend) ≡ false
open_tree None spend = refl
open_tree (Some tree) spend =
    open_unless (first_unfit tree) (held_state tree spend)
    (open_held (is_sighash_wrong (asked_type spend.fields) (signatures_in spend.fields)) (are_too_many spend.fields) (strict tree (assets_of spend)))

open_by : (r : Result Bytes State) (found : Option Tree) (spend : Spend) → IsEarly r → is_final (state_by r found spend) ≡ false
open_by (Ok script) found spend early = open_tree found spend
open_by (Err told) found spend early = early.1

final_by : (b : Bool) (found : Option Tree) (spend : Spend)
    → is_final (state_by (if b then Err state.Final else open_script spend) found spend) ≡ b
final_by true found spend = refl
final_by false found spend = open_by (open_script spend) found spend (early_open spend)

pub final_state : (input : Input) → is_final (state_of input) ≡ has_final input.spend.fields
final_state input = final_by (has_final input.spend.fields) input.tree input.spend
