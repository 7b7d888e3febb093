-- The items of a spelled Script.
use Rattle.std.proofs.Common.{◌≡◌, ℕ, zero, suc, ◌+◌, ◌-◌, ◌^◌, ◌<◌, ◌≤◌, pos, nat_lt, nat_le, ◌==◌, ◌&&◌, true, false, All, map, List, [], ◌∷◌, ◌++◌, length, drop, slice_index, Some, Ok, inl, inr, arith, refl, sym, ◌∙◌, ap, lit<}
use Rattle.std.proofs.lemmas.Bool.{cases_Bool, lt-ltb, le-ltb, lt-leb, le-leb, ne_eqb, eq-eqb, leb-true, and_parts, eqb-true}
use Rattle.std.proofs.lemmas.List.{append-nil, append_assoc, length-append}
use Rattle.std.proofs.lemmas.List.Elements.{All-head, All-tail}
use Rattle.std.proofs.lemmas.Nat.{from_le_bytes-to_le_bytes_2, from_le_bytes-to_le_bytes_4}
use Rattle.std.proofs.Math.Seq.{take-append_seam, drop-append_seam}
use Rattle.std.specs.Int.{w16, w32, to_le_bytes, from_le_bytes}
use Rattle.def_script.specs.declared.Op.{Op}
use Rattle.def_script.specs.declared.Op.TheVariants as op
use Rattle.def_script.specs.Bytes.{Bytes}
use Rattle.def_script.specs.Instruction.{Instruction, push, code}
use Rattle.def_script.specs.Numbers.{number_bytes}
use Rattle.def_script.specs.Spell.{opcode_byte, shortest_push, sized_push, byte_push, spell_one, spell, IsShort}
use Rattle.def_script.specs.Item as item
use Rattle.def_script.specs.Items.{is_minimal_push, read_push, push_size, first_item, items_after, items}
use Rattle.def_script.specs.Laws.{item_of, CanSpell, ByteStandsForOp, SpellingIsReadBack}

pub byte_stands_for_op : ByteStandsForOp
byte_stands_for_op op.If = refl
byte_stands_for_op other = refl

-- skipping is dropping
pub items_after-drop : (skipped : ℕ) (bytes : Bytes) → items_after skipped bytes ≡ items (drop skipped bytes)
unfolding items_after
items_after-drop zero [] = refl
items_after-drop zero (byte ∷ bytes) = refl
items_after-drop (suc skipped) [] = refl
items_after-drop (suc skipped) (byte ∷ bytes) = items_after-drop skipped bytes

-- skipping a front
pub items_after-front : (front rest : Bytes) → items_after (length front) (front ++ rest) ≡ items rest
unfolding items_after
items_after-front front rest = items_after-drop (length front) (front ++ rest) ∙ ap items (drop-append_seam front rest)

-- a push is read whole where its length field and its bytes are there
read_push-whole : (first : ℕ) (field bytes rest : Bytes) → is_minimal_push first bytes ≡ true
    → read_push first (length field) (length bytes) (field ++ (bytes ++ rest)) ≡ Ok (item.push bytes true, length field + length bytes)
read_push-whole first field bytes rest least =
    let whole : length (field ++ (bytes ++ rest)) ≡ length field + (length bytes + length rest) = simp length-append in
    let there : nat_lt (length (field ++ (bytes ++ rest))) (length field + length bytes) ≡ false = le-ltb _ _ (omega (arith, whole)) in
    rw (there, drop-append_seam field (bytes ++ rest), take-append_seam bytes rest, least) refl

followed-push : (first : ℕ) (field bytes rest : Bytes) → is_minimal_push first bytes ≡ true
    → push_size first (field ++ (bytes ++ rest)) ≡ Some (length field, length bytes)
    → items (first ∷ (field ++ (bytes ++ rest))) ≡ item.push bytes true ∷ items rest
unfolding items_after first_item
followed-push first field bytes rest least size =
    let joined : field ++ (bytes ++ rest) ≡ (field ++ bytes) ++ rest = sym (append_assoc field bytes rest) in
    let both : length (field ++ bytes) ≡ length field + length bytes = length-append field bytes in
    rw (size, read_push-whole first field bytes rest least)
    (ap (λ s. item.push bytes true ∷ s) (rw (← both, joined) (items_after-front (field ++ bytes) rest)))

-- a sized push is read back where it is the shortest
sized_push-read : (bytes rest : Bytes) → length bytes < 2 ^ 32 → slice_index (shortest_push bytes) 0 ≡ slice_index (sized_push bytes) 0
    → items (sized_push bytes ++ rest) ≡ item.push bytes true ∷ items rest
sized_push-read bytes rest low same =
    elim (cases_Bool (nat_le (length bytes) 75)) [
      | inl direct ↦
          let first : slice_index (shortest_push bytes) 0 ≡ length bytes = same ∙ rw direct refl in
          rw direct (followed-push (length bytes) [] bytes rest (eq-eqb _ _ first) (rw direct refl))
      | inr over_75 ↦ elim (cases_Bool (nat_le (length bytes) 255)) [
        | inl one ↦
            let first : slice_index (shortest_push bytes) 0 ≡ 0x4c = same ∙ rw (over_75, one) refl in
            rw (over_75, one) (followed-push 0x4c (length bytes ∷ []) bytes rest (eq-eqb _ _ first) refl)
        | inr over_255 ↦ elim (cases_Bool (nat_le (length bytes) 65535)) [
          | inl two ↦
              let first : slice_index (shortest_push bytes) 0 ≡ 0x4d = same ∙ rw (over_75, over_255, two) refl in
              let fits : length bytes ≤ 65535 = leb-true _ _ two in
              let size : from_le_bytes w16 (to_le_bytes w16 (length bytes)) ≡ length bytes = from_le_bytes-to_le_bytes_2 (length bytes) (omega arith) in
              rw (over_75, over_255, two) (followed-push 0x4d (to_le_bytes w16 (length bytes)) bytes rest (eq-eqb _ _ first) (ap (λ (n : ℕ). Some (2, n)) size))
          | inr over_65535 ↦
              let first : slice_index (shortest_push bytes) 0 ≡ 0x4e = same ∙ rw (over_75, over_255, over_65535) refl in
              let size : from_le_bytes w32 (to_le_bytes w32 (length bytes)) ≡ length bytes = from_le_bytes-to_le_bytes_4 (length bytes) low in
              rw (over_75, over_255, over_65535) (followed-push 0x4e (to_le_bytes w32 (length bytes)) bytes rest (eq-eqb _ _ first) (ap (λ (n : ℕ). Some (4, n)) size))
        ]
      ]
    ]

-- a number that one byte holds
pub number_bytes-small : (n : ℕ) → 1 ≤ n → n < 128 → number_bytes (pos n) ≡ n ∷ []
number_bytes-small zero some low = absurd (omega arith)
number_bytes-small (suc n) some low =
    let last : nat_lt (suc n) 128 ≡ true = lt-ltb _ _ low in
    let value : suc n + 0 ≡ suc n = omega arith in
    rw (last, value) refl

-- 1 to 16 as opcodes of their own
small_number-read : (b : ℕ) (rest : Bytes) → 1 ≤ b → b ≤ 16 → items ((0x50 + b) ∷ rest) ≡ item.push (b ∷ []) true ∷ items rest
unfolding items_after first_item
small_number-read b rest low high =
    let beyond : nat_le (0x50 + b) 75 ≡ false = lt-leb _ _ (omega arith) in
    let not_1 : ((0x50 + b) == 0x4c) ≡ false = ne_eqb _ _ (λ e. omega arith) in
    let not_2 : ((0x50 + b) == 0x4d) ≡ false = ne_eqb _ _ (λ e. omega arith) in
    let not_4 : ((0x50 + b) == 0x4e) ≡ false = ne_eqb _ _ (λ e. omega arith) in
    let not_negate : ((0x50 + b) == 0x4f) ≡ false = ne_eqb _ _ (λ e. omega arith) in
    let from_1 : nat_le 0x51 (0x50 + b) ≡ true = le-leb _ _ (omega arith) in
    let to_16 : nat_le (0x50 + b) 0x60 ≡ true = le-leb _ _ (omega arith) in
    let value : 0x50 + b - 0x50 ≡ b = omega arith in
    rw (beyond, not_1, not_2, not_4, not_negate, from_1, to_16, value) (ap (λ (bytes : Bytes). item.push bytes true ∷ items rest) (number_bytes-small b low (omega arith)))

byte_push-read : (b : ℕ) (rest : Bytes) → items (byte_push b ++ rest) ≡ item.push (b ∷ []) true ∷ items rest
unfolding items_after first_item
byte_push-read b rest =
    elim (cases_Bool (nat_le 1 b && nat_le b 16)) [
      | inl small ↦
          let parts = and_parts (nat_le 1 b) (nat_le b 16) small in
          rw small (small_number-read b rest (leb-true _ _ parts.0) (leb-true _ _ parts.1))
      | inr large ↦ elim (cases_Bool (b == 0x81)) [
        | inl negate ↦ rw (large, negate) (ap (λ (n : ℕ). item.push (n ∷ []) true ∷ items rest) (sym (eqb-true b 0x81 negate)))
        | inr other ↦ rw (large, other) (sized_push-read (b ∷ []) rest (lit< tt) (rw (large, other) refl))
      ]
    ]

pub push-read : (bytes rest : Bytes) → length bytes < 2 ^ 32 → items (shortest_push bytes ++ rest) ≡ item.push bytes true ∷ items rest
push-read [] rest low = followed-push 0 [] [] rest refl refl
push-read (b ∷ []) rest low = byte_push-read b rest
push-read (b ∷ c ∷ bytes) rest low = sized_push-read (b ∷ c ∷ bytes) rest low refl

pub op-read : (op : Op) (rest : Bytes) → items (opcode_byte op ∷ rest) ≡ item.code op ∷ items rest
unfolding items_after first_item
op-read op.If rest = refl
op-read other rest = refl

instruction-read : (i : Instruction) (rest : Bytes) → CanSpell i → items (spell_one i ++ rest) ≡ item_of i ∷ items rest
instruction-read (push bytes) rest can = push-read bytes rest can
instruction-read (code op) rest can = op-read op rest

pub spelling_is_read_back : SpellingIsReadBack
spelling_is_read_back [] rest can = refl
spelling_is_read_back (i ∷ script) rest can =
    rw append_assoc (instruction-read i (spell script ++ rest) (All-head CanSpell i script can)
    ∙ ap (λ s. item_of i ∷ s) (spelling_is_read_back script rest (All-tail CanSpell i script can)))

-- instructions with short pushes can be spelled
short-spells : (i : Instruction) → IsShort i → CanSpell i
short-spells (push bytes) short = omega (arith, short)
short-spells (code op) short = tt

pub all_short-spell : (script : List Instruction) → All IsShort script → All CanSpell script
all_short-spell script short k d below = short-spells _ (short k d below)

-- the items of a spelled Script are its instructions
pub items-spell : (script : List Instruction) → All CanSpell script → items (spell script) ≡ map item_of script
unfolding items_after
items-spell script can =
    ap items (sym (append-nil (spell script))) ∙ spelling_is_read_back script [] can ∙ append-nil (map item_of script)
