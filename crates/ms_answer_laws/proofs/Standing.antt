-- The instructions of a tree's Script stand where they are listed.
use Rattle.std.proofs.Common.{◌≡◌, ℕ, ◌+◌, ◌≤◌, nat_lt, nat_le, ◌==◌, ◌&&◌, Bool, true, false, All, map, List, [], ◌∷◌, ◌++◌, length, drop, drop-drop, Some, Ok, Err, inl, inr, arith, refl, sym, ◌∙◌, ap, subst}
use Rattle.std.specs.Int.{w16, to_le_bytes, from_le_bytes}
use Rattle.std.proofs.lemmas.Bool.{cases_Bool, lt-leb, le-leb, ne_eqb, leb-true, and_parts}
use Rattle.std.proofs.lemmas.List.Elements.{All-head, All-tail}
use Rattle.std.proofs.lemmas.Nat.{from_le_bytes-to_le_bytes_2}
use Rattle.std.proofs.Math.Seq.{drop-append_seam}
use Rattle.def_script.specs.declared.Op.{Op}
use Rattle.def_script.specs.declared.Op.TheVariants as op
use Rattle.def_script.specs.declared.InstrFault.{InstrFault}
use Rattle.def_script.specs.Bytes.{Bytes}
use Rattle.def_script.specs.Instruction.{Instruction, push, code}
use Rattle.def_script.specs.Spell.{opcode_byte, sized_push, byte_push, spell_one, spell, IsShort}
use Rattle.def_script.specs.Item.{Item}
use Rattle.def_script.specs.Item as item
use Rattle.def_script.specs.Items.{ItemReading, push_size, read_push, first_item}
use Rattle.def_script.specs.Laws.{item_of}
use Rattle.def_emit.specs.Emit.{emit, script_of}
use Rattle.def_emit.proofs.Short.{short-emit, items-script_of}
use Rattle.def_trace.specs.Laws.{IsRead, Adjoin}
use Rattle.def_trace.specs.Placed.{Placed, placed}
use Rattle.def_trace.proofs.Places.{placed_are_items, places_adjoin}
use Rattle.ms_answer_laws.specs.Laws.{Stand, InstructionsStand}

-- ---- how many bytes the reading of a spelled instruction takes

-- behind the first byte of what was read
abbrev taken_of : ItemReading → ℕ
taken_of (Ok read) = read.1
taken_of (Err fault) = 0

-- a push with a length field
sized : (first field count : ℕ) (rest : Bytes) (r : Item × ℕ) → push_size first rest ≡ Some (field, count) → first_item first rest ≡ Ok r → r.1 ≡ field + count
unfolding first_item
sized first field count rest r size read = by_room (nat_lt (length rest) (field + count)) refl (rw size at read)
  where
    by_room : (b : Bool) → nat_lt (length rest) (field + count) ≡ b → read_push first field count rest ≡ Ok r → r.1 ≡ field + count
    by_room true e found = cc (rw e at found)
    by_room false e found = sym (ap taken_of (rw e at found))

record Whole (spelling : Bytes) (first : ℕ) (all : Bytes) : Type 0 where
  taken : (r : Item × ℕ) → first_item first all ≡ Ok r → length spelling ≡ 1 + r.1

sized_whole : (bytes rest : Bytes) (first : ℕ) (all : Bytes) → length bytes ≤ 520 → sized_push bytes ++ rest ≡ first ∷ all → Whole (sized_push bytes) first all
sized_whole bytes rest first all short is =
    elim (cases_Bool (nat_le (length bytes) 75)) [
      | inl direct ↦
          let same : length bytes ∷ bytes ++ rest ≡ first ∷ all = rw direct at is in
          let byte : length bytes ≡ first = cc same in
          let size : push_size first all ≡ Some (0, length bytes) = rw (← byte, direct) refl in
          record { taken = λ r read. let n = sized first 0 (length bytes) all r size read in rw direct (omega (arith, n)) }
      | inr over_75 ↦ elim (cases_Bool (nat_le (length bytes) 255)) [
        | inl one ↦
            let same : 0x4c ∷ length bytes ∷ bytes ++ rest ≡ first ∷ all = rw (over_75, one) at is in
            let byte : 0x4c ≡ first = cc same in
            let others : length bytes ∷ bytes ++ rest ≡ all = cc same in
            let size : push_size first all ≡ Some (1, length bytes) = rw (← byte, ← others) refl in
            record { taken = λ r read. let n = sized first 1 (length bytes) all r size read in rw (over_75, one) (omega (arith, n)) }
        | inr over_255 ↦
            let two : nat_le (length bytes) 65535 ≡ true = le-leb _ _ (omega arith) in
            let same : 0x4d ∷ to_le_bytes w16 (length bytes) ++ bytes ++ rest ≡ first ∷ all = rw (over_75, over_255, two) at is in
            let byte : 0x4d ≡ first = cc same in
            let others : to_le_bytes w16 (length bytes) ++ bytes ++ rest ≡ all = cc same in
            let number : from_le_bytes w16 (to_le_bytes w16 (length bytes)) ≡ length bytes = from_le_bytes-to_le_bytes_2 (length bytes) (omega arith) in
            let size : push_size first all ≡ Some (2, length bytes) = rw (← byte, ← others) (ap (λ (n : ℕ). Some (2, n)) number) in
            record { taken = λ r read. let n = sized first 2 (length bytes) all r size read in rw (over_75, over_255, two) (omega (arith, n)) }
      ]
    ]

-- 1 to 16 and -1 are one byte
small_whole : (b : ℕ) (all : Bytes) (r : Item × ℕ) → 1 ≤ b → b ≤ 16 → first_item (0x50 + b) all ≡ Ok r → 1 ≡ 1 + r.1
unfolding first_item
small_whole b all r low high read =
    let beyond : nat_le (0x50 + b) 75 ≡ false = lt-leb _ _ (omega arith) in
    let not_1 : ((0x50 + b) == 0x4c) ≡ false = ne_eqb _ _ (λ e. omega arith) in
    let not_2 : ((0x50 + b) == 0x4d) ≡ false = ne_eqb _ _ (λ e. omega arith) in
    let not_4 : ((0x50 + b) == 0x4e) ≡ false = ne_eqb _ _ (λ e. omega arith) in
    let not_negate : ((0x50 + b) == 0x4f) ≡ false = ne_eqb _ _ (λ e. omega arith) in
    let from_1 : nat_le 0x51 (0x50 + b) ≡ true = le-leb _ _ (omega arith) in
    let to_16 : nat_le (0x50 + b) 0x60 ≡ true = le-leb _ _ (omega arith) in
    let n : 0 ≡ r.1 = ap taken_of (rw (beyond, not_1, not_2, not_4, not_negate, from_1, to_16) at read) in
    omega (arith, n)

negate_whole : (all : Bytes) (r : Item × ℕ) → first_item 0x4f all ≡ Ok r → 1 ≡ 1 + r.1
unfolding first_item
negate_whole all r read = let n : 0 ≡ r.1 = ap taken_of read in omega (arith, n)

byte_whole : (b : ℕ) (rest : Bytes) (first : ℕ) (all : Bytes) → byte_push b ++ rest ≡ first ∷ all → Whole (byte_push b) first all
byte_whole b rest first all is =
    elim (cases_Bool (nat_le 1 b && nat_le b 16)) [
      | inl small ↦
          let parts = and_parts (nat_le 1 b) (nat_le b 16) small in
          let byte : 0x50 + b ≡ first = cc (rw small at is) in
          record { taken = λ r read. rw small (small_whole b all r (leb-true _ _ parts.0) (leb-true _ _ parts.1) (rw (← byte) at read)) }
      | inr large ↦ elim (cases_Bool (b == 0x81)) [
        | inl negate ↦
            let byte : 0x4f ≡ first = cc (rw (large, negate) at is) in
            record { taken = λ r read. rw (large, negate) (negate_whole all r (rw (← byte) at read)) }
        | inr other ↦ let w = sized_whole (b ∷ []) rest first all (omega arith) (rw (large, other) at is) in record { taken = λ r read. rw (large, other) (w.taken r read) }
      ]
    ]

op_whole : (o : Op) (all : Bytes) (r : Item × ℕ) → first_item (opcode_byte o) all ≡ Ok r → 1 ≡ 1 + r.1
unfolding first_item
op_whole op.If all r read = let n : 0 ≡ r.1 = ap taken_of read in omega (arith, n)
op_whole other all r read = let n : 0 ≡ r.1 = ap taken_of read in omega (arith, n)

whole : (i : Instruction) (rest : Bytes) (first : ℕ) (all : Bytes) → IsShort i → spell_one i ++ rest ≡ first ∷ all → Whole (spell_one i) first all
whole (push []) rest first all short is = sized_whole [] rest first all (omega arith) is
whole (push (b ∷ [])) rest first all short is = byte_whole b rest first all is
whole (push (b ∷ c ∷ bytes)) rest first all short is = sized_whole (b ∷ c ∷ bytes) rest first all short is
whole (code o) rest first all short is =
    let byte : opcode_byte o ≡ first = cc is in record { taken = λ r read. op_whole o all r (rw (← byte) at read) }

-- ---- one after the other

no_fault : (i : Instruction) (fault : InstrFault) → item.fault fault ≡ item_of i → ⊥
no_fault (push bytes) fault is = cc is
no_fault (code o) fault is = cc is

-- what an instruction was read as, and what comes behind it
by_reading : (i : Item) (ps : List Placed) (r : ItemReading) (Follow : ℕ → Type 0) (Goal : Type 0) → IsRead i ps r Follow
    → ((read : Item × ℕ) → r ≡ Ok read → Follow read.1 → Goal) → ((fault : InstrFault) → i ≡ item.fault fault → Goal) → Goal
by_reading i ps (Ok read) Follow Goal h good bad = good read refl h.1
by_reading i ps (Err fault) Follow Goal h good bad = bad fault h.0

stand : (script : Bytes) (place : ℕ) (ps : List Placed) (is : List Instruction) → All IsShort is → drop place script ≡ spell is
    → map (λ (p : Placed). p.item) ps ≡ map item_of is → Adjoin script place ps → Stand script place ps is
stand script place [] [] short left items adjoin = left
stand script place [] (i ∷ is) short left items adjoin = cc items
stand script place (p ∷ ps) [] short left items adjoin = cc items
stand script place (p ∷ ps) (i ∷ is) short left items adjoin =
    let same : p.item ≡ item_of i = cc items in
    let others : map (λ (q : Placed). q.item) ps ≡ map item_of is = cc items in
    let behind : drop (place + length (spell_one i)) script ≡ spell is =
    sym (drop-drop (length (spell_one i)) place script) ∙ ap (λ (bs : Bytes). drop (length (spell_one i)) bs) left ∙ drop-append_seam (spell_one i) (spell is)
    in (
      adjoin.0,
      same,
      (spell is, left),
      by_reading p.item ps (first_item p.first adjoin.1.0) _ (Stand script (place + length (spell_one i)) ps is) adjoin.1.2
          (λ read found follow.
          let n = (whole i (spell is) p.first adjoin.1.0 (All-head IsShort i is short) (sym left ∙ adjoin.1.1)).taken read found in
          let next : place + 1 + read.1 ≡ place + length (spell_one i) = omega (arith, n) in
          stand script (place + length (spell_one i)) ps is (All-tail IsShort i is short) behind others (subst (λ (m : ℕ). Adjoin script m ps) next follow))
          (λ fault is_fault. absurd (no_fault i fault (sym is_fault ∙ same))),
    )

pub instructions_stand : InstructionsStand
instructions_stand tree writes =
    stand (script_of tree) 0 (placed (script_of tree)) (emit tree) (short-emit tree writes).all refl
    (placed_are_items (script_of tree) ∙ items-script_of tree writes) (places_adjoin (script_of tree))
