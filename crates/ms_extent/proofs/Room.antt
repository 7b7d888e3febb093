-- What a tree in range comes to fits 64 bits.
use Rattle.std.proofs.Common.{◌≡◌, ℕ, ◌+◌, ◌*◌, ◌^◌, ◌<◌, ◌≤◌, Option, Some, None, List, [], ◌∷◌, length, All, arith, length-append}
use Rattle.std.proofs.Math.ListN.{length-map}
use Rattle.std.proofs.lemmas.List.Elements.{All-head, All-tail}
use Rattle.def_script.specs.declared.Op.{Op}
use Rattle.def_script.specs.Bytes.{Bytes}
use Rattle.def_script.specs.Instruction.{Instruction, push, code, opcode_count}
use Rattle.def_script.specs.Spell.{IsShort, sized_push, byte_push, shortest_push, spell}
use Rattle.def_script.specs.Verify.{verify_form, verified_op, verified}
use Rattle.def_tree.specs.declared.Two.TheVariants as kind
use Rattle.def_tree.specs.declared.Wrapper.TheVariants as wrapper
use Rattle.def_tree.specs.Tree.{Tree, Trees, just_0, just_1, pk_k, pk_h, older, after, hash, and_or, two, thresh, multi, wrap, none, more}
use Rattle.def_tree.specs.InRange.{measure, measure_of, IsInRange}
use Rattle.def_emit.specs.Emit.{emit, emit_sum, emit_added, script_of}
use Rattle.def_emit.proofs.Short.{short-emit}
use Rattle.ms_extent.specs.declared.extent.Extent.{Extent}
use Rattle.ms_extent.specs.Extent.{extended, extended_by}

-- a push takes five bytes more than what it pushes, or fewer
sized_room : (bytes : Bytes) → length (sized_push bytes) ≤ length bytes + 5
sized_room bytes = grind (arith, length-append {A = ℕ})

byte_room : (b : ℕ) → length (byte_push b) ≤ 6
byte_room b = grind (arith, sized_room (b ∷ []))

push_room : (bytes : Bytes) → length (shortest_push bytes) ≤ length bytes + 5
push_room [] = omega arith
push_room (b ∷ []) = omega (arith, byte_room b)
push_room (b ∷ c ∷ bytes) = sized_room (b ∷ c ∷ bytes)

-- a Script whose pushes are short takes so many bytes at most
spell_room : (xs : List Instruction) → All IsShort xs → length (spell xs) ≤ 525 * length xs
spell_room [] short = omega arith
spell_room (push bytes ∷ xs) short =
    let whole = length-append (shortest_push bytes) (spell xs) in
    let first = All-head IsShort (push bytes) xs short in
    omega (arith, whole, first, push_room bytes, spell_room xs (All-tail IsShort (push bytes) xs short))
spell_room (code op ∷ xs) short = omega (arith, spell_room xs (All-tail IsShort (code op) xs short))

-- VERIFY is one instruction more, or none
op_few : (op : Op) (form : Option Op) → length (verified_op op form) ≤ 2
op_few op None = omega arith
op_few op (Some form) = omega arith

verified_few : (xs : List Instruction) → length (verified xs) ≤ length xs + 1
verified_few [] = omega arith
verified_few (push bytes ∷ []) = omega arith
verified_few (code op ∷ []) = op_few op (verify_form op)
verified_few (x ∷ y ∷ xs) = omega (arith, verified_few (y ∷ xs))

-- a tree's Script has fewer than eight instructions for each node and each key of `multi`
mutual
  few : (t : Tree) → length (emit t) + 1 ≤ 8 * measure t
  few just_0 = omega arith
  few just_1 = omega arith
  few (pk_k key) = omega arith
  few (pk_h key) = omega arith
  few (older n) = omega arith
  few (after n) = omega arith
  few (hash kind value) = omega arith
  few (and_or x y z) = simp length-append (omega (arith, few x, few y, few z))
  few (two kind.AndV x y) = simp length-append (omega (arith, few x, few y))
  few (two other x y) = simp length-append (omega (arith, few x, few y))
  few (thresh k xs) = simp length-append (omega (arith, few_sum xs))
  few (multi k keys) = simp (length-append, length-map) (omega arith)
  few (wrap wrapper.S x) = omega (arith, few x)
  few (wrap wrapper.V x) = omega (arith, few x, verified_few (emit x))
  few (wrap other x) = simp length-append (omega (arith, few x))

  few_sum : (xs : Trees) → length (emit_sum xs) ≤ 8 * measure_of xs
  few_sum none = omega arith
  few_sum (more x xs) = simp length-append (omega (arith, few x, few_added xs))

  few_added : (xs : Trees) → length (emit_added xs) ≤ 8 * measure_of xs
  few_added none = omega arith
  few_added (more x xs) = simp length-append (omega (arith, few x, few_added xs))

-- the bytes are extended exactly where they fit
bytes_of_all : (e : Extent) (xs : List Instruction) → e.bytes + length (spell xs) < 2 ^ 64 → (extended_by e xs).bytes ≡ e.bytes + length (spell xs)
bytes_of_all e [] fits = omega arith
bytes_of_all e (push bytes ∷ xs) fits =
    let whole = length-append (shortest_push bytes) (spell xs) in
    let rest = bytes_of_all (extended e (push bytes)) xs (omega (arith, fits, whole)) in
    omega (arith, fits, whole, rest)
bytes_of_all e (code op ∷ xs) fits =
    let rest = bytes_of_all (extended e (code op)) xs (omega (arith, fits)) in
    omega (arith, fits, rest)

-- the bytes of a tree's Script
pub bytes_of_script : (e : Extent) (t : Tree) → e.bytes ≡ 0 → IsInRange t → (extended_by e (emit t)).bytes ≡ length (script_of t)
bytes_of_script e t from_zero range =
    let room = spell_room (emit t) (short-emit t range.writable).all in
    let all = bytes_of_all e (emit t) (omega (arith, from_zero, room, few t, range.measure)) in
    omega (arith, from_zero, all)

-- the opcodes are extended exactly where they fit
opcodes_of_all : (e : Extent) (xs : List Instruction) → e.opcodes + length xs < 2 ^ 64 → (extended_by e xs).opcodes ≡ e.opcodes + opcode_count xs
opcodes_of_all e [] fits = omega arith
opcodes_of_all e (push bytes ∷ xs) fits = opcodes_of_all (extended e (push bytes)) xs (omega (arith, fits))
opcodes_of_all e (code op ∷ xs) fits =
    let rest = opcodes_of_all (extended e (code op)) xs (omega (arith, fits)) in
    omega (arith, fits, rest)

-- the opcodes of a tree's Script
pub opcodes_of_script : (e : Extent) (t : Tree) → e.opcodes ≡ 0 → IsInRange t → (extended_by e (emit t)).opcodes ≡ opcode_count (emit t)
opcodes_of_script e t from_zero range =
    let all = opcodes_of_all e (emit t) (omega (arith, from_zero, few t, range.measure)) in
    omega (arith, from_zero, all)

all_opcodes : (xs : List Instruction) → opcode_count xs ≤ length xs
all_opcodes [] = omega arith
all_opcodes (push bytes ∷ xs) = omega (arith, all_opcodes xs)
all_opcodes (code op ∷ xs) = omega (arith, all_opcodes xs)

pub few_opcodes : (t : Tree) → opcode_count (emit t) ≤ 8 * measure t
few_opcodes t = omega (arith, all_opcodes (emit t), few t)
