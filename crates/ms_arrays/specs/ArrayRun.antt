-- A run, as arrays give it, or why they are refused: for what a run file with the same stack and signatures is.
use Rattle.std.specs.Prelude.{ℕ, ◌==◌, ◌*◌, nat_le, List, [], ◌∷◌, length, sum, Result}
use Rattle.def_script.specs.Bytes.{Bytes}
use Rattle.def_machine.specs.declared.Locks.{Locks}
use Rattle.def_files.specs.declared.Member.TheVariants as member
use Rattle.def_files.specs.declared.AssetFault.{AssetFault}
use Rattle.def_files.specs.declared.AssetFault.TheVariants as fault
use Rattle.def_files.specs.Refusals.{Refusal, unless, unless_any, MOST_SIGNATURES}
use Rattle.def_files.specs.RunFile.{RunFile, MOST_ELEMENTS}
use Rattle.ms_arrays.specs.Pieces.{KEY_SIZE, pairs_at, items_at}

-- the script, and the arrays of a run: the items of the stack, bottom first, and the good signatures with their keys
pub record RunArrays : Type 0 where
  pub script : Bytes
  pub items : Bytes
  pub item_lengths : List ℕ
  pub keys : Bytes
  pub signatures : Bytes
  pub signature_lengths : List ℕ

abbrev pub run_arrays : (script items : Bytes) → (item_lengths : List ℕ) → (keys signatures : Bytes) → (signature_lengths : List ℕ) → RunArrays
run_arrays script items item_lengths keys signatures signature_lengths = record {
  script = script;
  items = items;
  item_lengths = item_lengths;
  keys = keys;
  signatures = signatures;
  signature_lengths = signature_lengths;
}

-- the refusals of arrays that haven't the length that is told, or hold too much
abbrev pub run_shape_refusals : RunArrays → List Refusal
run_shape_refusals a =
    unless (length a.keys == KEY_SIZE * length a.signature_lengths) (fault.Shape member.Signatures) ∷
    unless (sum a.signature_lengths == length a.signatures) (fault.Shape member.Signatures) ∷
    unless (sum a.item_lengths == length a.items) (fault.Shape member.Witness) ∷
    unless (nat_le (length a.signature_lengths) MOST_SIGNATURES) (fault.TooMany member.Signatures) ∷
    unless (nat_le (length a.item_lengths) MOST_ELEMENTS) (fault.TooMany member.Witness) ∷ []

-- what the arrays give: the first refusal that applies, or the run. Keys have any form, and signatures any length
abbrev pub run_of_arrays : Locks → RunArrays → Result RunFile AssetFault
run_of_arrays locks a =
    unless_any (run_shape_refusals a) (record {
      script = a.script;
      stack = items_at a.item_lengths a.items;
      locks = locks;
      pairs = pairs_at a.signature_lengths a.keys a.signatures;
    })
