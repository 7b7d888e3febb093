-- What final fields have consensus run.
use Rattle.std.proofs.Common.{◌≡◌, ℕ, ◌-◌, ◌==◌, ◌&&◌, ◌||◌, not, Bool, true, false, List, [], ◌∷◌, ◌++◌, length, take, slice_get, slice_index, inl, inr, Some, Result, Ok, Err, refl, ap, subst, ◌∙◌, if◌then◌else◌, arith}
use Rattle.std.specs.Str.{bytes_eq}
use Rattle.std.proofs.Math.Seq.{take-append_seam}
use Rattle.std.proofs.lemmas.Bool.{and_parts, eqb-true, eq-eqb}
use Rattle.std.proofs.lemmas.List.{length-append}
use Rattle.std.proofs.lemmas.Slice.Eq.{bytes_eq-Decides}
use Rattle.def_hash.specs.declared.HashKind.TheVariants as hash_kind
use Rattle.def_hash.specs.Hash.{sha256, hash160}
use Rattle.def_hash.proofs.Lengths.{digest_has_its_length}
use Rattle.def_script.specs.Bytes.{Bytes}
use Rattle.def_machine.specs.Program.{program_of}
use Rattle.def_spend.specs.Kinds.{is_p2sh, p2sh_of, is_script_hash, is_key_hash, pushed, IsGuardedBy}
use Rattle.def_spend.specs.Reading.{key_hash_script}
use Rattle.def_verify.specs.declared.Flaw.{Flaw}
use Rattle.def_verify.specs.declared.Flaw.TheVariants as flaw
use Rattle.def_verify.specs.Final.{Execution, pushed_program, script_execution, key_execution, program_execution, execution_by, execution_of}

same_bytes : (bytes : Bytes) → bytes_eq bytes bytes ≡ true
same_bytes bytes = (bytes_eq-Decides bytes bytes).1 refl

-- ---- the program

hash_length : (bytes : Bytes) → length (hash160 bytes) ≡ 20
hash_length bytes = digest_has_its_length hash_kind.Hash160 bytes

-- the byte behind some bytes
behind : (bytes : Bytes) (byte : ℕ) → slice_index (bytes ++ byte ∷ []) (length bytes) ≡ byte
behind [] byte = refl
behind (first ∷ bytes) byte = behind bytes byte

p2sh_by : (hash : Bytes) → length hash ≡ 20 → is_p2sh (0xa9 ∷ 0x14 ∷ hash ++ 0x87 ∷ []) ≡ true
p2sh_by hash long =
    let whole : length (0xa9 ∷ 0x14 ∷ hash ++ 0x87 ∷ []) ≡ 23 = omega (arith, long, length-append hash (0x87 ∷ [])) in
    let last : slice_index (hash ++ 0x87 ∷ []) 20 ≡ 0x87 = subst (λ (n : ℕ). slice_index (hash ++ 0x87 ∷ []) n ≡ 0x87) long (behind hash 0x87) in
    rw (eq-eqb (length (0xa9 ∷ 0x14 ∷ hash ++ 0x87 ∷ [])) 23 whole, eq-eqb (slice_index (hash ++ 0x87 ∷ []) 20) 0x87 last) refl

is_nested : (program : Bytes) → is_p2sh (p2sh_of program) ≡ true
is_nested program = p2sh_by (hash160 program) (hash_length program)

pushed_is : (program : Bytes) → pushed_program (p2sh_of program) (pushed program) ≡ Some program
pushed_is program = rw (eq-eqb (length program) (length program) refl, same_bytes (p2sh_of program)) refl

-- by the program and what a scriptSig is beside
abbrev execution_with : (nested : Bool) → (spent script_sig : Bytes) → (items : List Bytes) → Result Execution Flaw
execution_with nested spent script_sig items =
    execution_by (if nested then pushed_program spent script_sig else Some spent) (not nested && not (bytes_eq script_sig [])) items

-- what is run for a program of one of both kinds
abbrev known_execution : (known beside : Bool) → (program : Bytes) → (items : List Bytes) → Result Execution Flaw
known_execution known beside program items =
    if not known then Err flaw.OtherOutput else if beside then Err flaw.ScriptSig else program_execution program items

guarded_execution : (program output script_sig : Bytes) (items : List Bytes) → IsGuardedBy program output script_sig → is_p2sh program ≡ false
    → (is_script_hash program || is_key_hash program) ≡ true → execution_of output script_sig items ≡ program_execution program items
guarded_execution program output script_sig items (inl h) plain known =
    ap (λ (o : Bytes). execution_of o script_sig items) h.0
    ∙ ap (λ (s : Bytes). execution_of program s items) h.1
    ∙ ap (λ b. execution_with b program [] items) plain
    ∙ ap (λ b. known_execution b false program items) known
guarded_execution program output script_sig items (inr h) plain known =
    ap (λ (o : Bytes). execution_of o script_sig items) h.0
    ∙ ap (λ (s : Bytes). execution_of (p2sh_of program) s items) h.1
    ∙ ap (λ b. execution_with b (p2sh_of program) (pushed program) items) (is_nested program)
    ∙ ap (λ o. execution_by o false items) (pushed_is program)
    ∙ ap (λ b. known_execution b false program items) known

-- ---- of P2WSH

program_length : (script : Bytes) → length (program_of script) ≡ 34
program_length script =
    let long : length (sha256 script) ≡ 32 = digest_has_its_length hash_kind.Sha256 script in
    omega (arith, long)

not_p2sh : (program : Bytes) (n : ℕ) → length program ≡ n → (n == 23) ≡ false → is_p2sh program ≡ false
not_p2sh program n long other = ap (λ (m : ℕ). (m == 23) && (slice_index program 0 == 0xa9) && (slice_index program 1 == 0x14) && (slice_index program 22 == 0x87)) long ∙ rw other refl

script_hash : (script : Bytes) → is_script_hash (program_of script) ≡ true
script_hash script = rw (eq-eqb (length (program_of script)) 34 (program_length script)) refl

last_item : (stack : List Bytes) (script : Bytes) → slice_get (stack ++ script ∷ []) (length stack) ≡ Some script
last_item [] script = refl
last_item (item ∷ stack) script = last_item stack script

seam : (stack : List Bytes) (script : Bytes) → length (stack ++ script ∷ []) - 1 ≡ length stack
seam stack script = omega (arith, length-append stack (script ∷ []))

abbrev split_at : (program : Bytes) → (items : List Bytes) → ℕ → Result Execution Flaw
split_at program items n = script_execution program (slice_get items n) (take n items)

script_run : (script : Bytes) (stack : List Bytes) → program_execution (program_of script) (stack ++ script ∷ []) ≡ Ok (script, stack)
script_run script stack =
    ap (λ b. if b then split_at (program_of script) (stack ++ script ∷ []) (length (stack ++ script ∷ []) - 1) else key_execution (program_of script) (stack ++ script ∷ [])) (script_hash script)
    ∙ ap (split_at (program_of script) (stack ++ script ∷ [])) (seam stack script)
    ∙ ap (λ o. script_execution (program_of script) o (take (length stack) (stack ++ script ∷ []))) (last_item stack script)
    ∙ ap (λ items. script_execution (program_of script) (Some script) items) (take-append_seam stack (script ∷ []))
    ∙ ap (λ b. if b then Ok (script, stack) else Err flaw.WrongScript) (same_bytes (program_of script))

pub script_executed : (script output script_sig : Bytes) (stack : List Bytes) → IsGuardedBy (program_of script) output script_sig
    → execution_of output script_sig (stack ++ script ∷ []) ≡ Ok (script, stack)
script_executed script output script_sig stack guarded =
    guarded_execution (program_of script) output script_sig (stack ++ script ∷ []) guarded (not_p2sh (program_of script) 34 (program_length script) refl)
    (ap (λ b. b || is_key_hash (program_of script)) (script_hash script))
    ∙ script_run script stack

-- ---- of P2WPKH

key_length : (program : Bytes) → is_key_hash program ≡ true → length program ≡ 22
key_length program is =
    let front = and_parts ((length program == 22) && (slice_index program 0 == 0x00)) (slice_index program 1 == 0x14) is in
    eqb-true (length program) 22 (and_parts (length program == 22) (slice_index program 0 == 0x00) front.0).0

not_script_hash : (program : Bytes) → length program ≡ 22 → is_script_hash program ≡ false
not_script_hash program long = ap (λ (m : ℕ). (m == 34) && (slice_index program 0 == 0x00) && (slice_index program 1 == 0x20)) long

pub key_executed : (program output script_sig sig key : Bytes) → is_key_hash program ≡ true → IsGuardedBy program output script_sig
    → execution_of output script_sig (sig ∷ key ∷ []) ≡ Ok (key_hash_script program, sig ∷ key ∷ [])
key_executed program output script_sig sig key is guarded =
    let long = key_length program is in
    let other = not_script_hash program long in
    guarded_execution program output script_sig (sig ∷ key ∷ []) guarded (not_p2sh program 22 long refl) (ap (λ b. b || is_key_hash program) other ∙ is)
    ∙ ap (λ b. if b then split_at program (sig ∷ key ∷ []) 1 else key_execution program (sig ∷ key ∷ [])) other
