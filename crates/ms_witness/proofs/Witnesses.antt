-- A witness that is read is the witness that was written, and what was written is read again.
use Rattle.std.proofs.Common.{◌≡◌, ℕ, ◌+◌, ◌-◌, ◌<◌, ◌≤◌, nat_lt, ◌==◌, Bool, true, false, cond, List, [], ◌∷◌, ◌++◌, length, Result, Ok, Err, refl, sym, ap, subst, ◌∙◌, arith}
use Rattle.std.specs.Prelude.{IfOk}
use Rattle.std.specs.List.{flat_map}
use Rattle.std.proofs.lemmas.Bool.{eqb-true, eqb-false, ltb-false, le-ltb, ne_eqb}
use Rattle.std.proofs.lemmas.List.{append-nil, length-append, nil_from_length}
use Rattle.std.proofs.lemmas.List.Elements.{All-from_recursion, recursion_from_All}
use Rattle.std.proofs.lemmas.Grind.{flat_map-append}
use Rattle.std.proofs.lemmas.Slice.Eq.{bytes_eq-Decides}
use Rattle.std.specs.Str.{bytes_eq}
use Rattle.def_machine.specs.Program.{program_of}
use Rattle.def_script.specs.Bytes.{Bytes, IsBytes}
use Rattle.def_script.specs.Sizes.{size_bytes}
use Rattle.def_script.specs.Witness.{sized, witness_text}
use Rattle.ms_witness.specs.declared.fault.WitnessFault.{WitnessFault}
use Rattle.ms_witness.specs.declared.fault.WitnessFault.TheVariants.{Empty, TooLong, Trailing}
use Rattle.ms_witness.specs.Reading.{◌>>=◌, MOST_WITNESS, FitsWitness, first_size, first_count, first_item, first_items, read_witness}
use Rattle.ms_witness.specs.Answering.{Gives}
use Rattle.ms_witness.specs.Laws.{WitnessIsReadBack, WitnessHasOneSpelling, WitnessIsReplayed}
use Rattle.ms_witness.proofs.Parts.{bind_ok, guard_ok, ok_is, Takes, Takes-then, size_takes, size_again}
use Rattle.ms_witness.proofs.Items.{FitsItem, item_takes, item_again, items_take, items_again}

count_takes : (bytes : Bytes) (part : ℕ × Bytes) → IsBytes bytes → first_count bytes ≡ Ok part → Takes bytes (size_bytes part.0) part.1 × (0 < part.0) × (part.0 ≤ MOST_WITNESS)
unfolding first_count
count_takes bytes part fits e =
    let a = bind_ok (first_size bytes) (λ count. cond (count.0 == 0) (Err Empty) (cond (nat_lt MOST_WITNESS count.0) (Err TooLong) (Ok count))) part e in
    let some = guard_ok (a.0.0 == 0) Empty (cond (nat_lt MOST_WITNESS a.0.0) (Err TooLong) (Ok a.0)) part a.2 in
    let few = guard_ok (nat_lt MOST_WITNESS a.0.0) TooLong (Ok a.0) part some.1 in
    let first = size_takes bytes a.0 fits a.1 in
    let any : a.0.0 ≡ 0 → ⊥ = eqb-false a.0.0 0 some.0 in
    let most : a.0.0 ≤ MOST_WITNESS = ltb-false _ _ few.0 in
    subst (λ (p : ℕ × Bytes). Takes bytes (size_bytes p.0) p.1 × (0 < p.0) × (p.0 ≤ MOST_WITNESS)) (ok_is _ _ few.1) (first, omega arith, most)

count_again : (count : ℕ) (rest : Bytes) → 0 < count → count ≤ MOST_WITNESS → first_count (size_bytes count ++ rest) ≡ Ok (count, rest)
unfolding first_count
count_again count rest some few =
    let any : (count == 0) ≡ false = ne_eqb count 0 (λ z. omega arith) in
    let most : nat_lt MOST_WITNESS count ≡ false = le-ltb _ _ few in
    rw (size_again count rest (omega arith), any, most) refl

guard_ended : {A : Type 0} (b : Bool) (d : WitnessFault) (x y : A) → cond b (Ok x) (Err d) ≡ Ok y → (b ≡ true) × (x ≡ y)
guard_ended true d x y e = (refl, ok_is _ _ e)
guard_ended false d x y e = absurd cc

-- the text of a witness, part by part
text_parts : (stack : List Bytes) (script : Bytes) → witness_text stack script ≡ size_bytes (length stack + 1) ++ (flat_map sized stack ++ sized script)
text_parts stack script =
    let count : length (stack ++ script ∷ []) ≡ length stack + 1 = length-append stack (script ∷ []) in
    let items : flat_map sized (stack ++ script ∷ []) ≡ flat_map sized stack ++ sized script = flat_map-append sized stack (script ∷ [])
    ∙ ap (λ (x : Bytes). flat_map sized stack ++ x) (append-nil (sized script)) in
    rw (count, items) refl

-- bytes with a count, the stack and the Script, and nothing after them
all_text : (bytes : Bytes) (count : ℕ) (stack : List Bytes) (script rest : Bytes) → bytes ≡ (size_bytes count ++ (flat_map sized stack ++ sized script)) ++ rest → rest ≡ [] → count ≡ length stack + 1
    → bytes ≡ witness_text stack script
all_text bytes count stack script rest parts nothing counted =
    let text = text_parts stack script in
    let ended : (size_bytes count ++ (flat_map sized stack ++ sized script)) ++ [] ≡ size_bytes count
    ++ (flat_map sized stack ++ sized script) = append-nil (size_bytes count ++ (flat_map sized stack ++ sized script)) in
    cc

pub witness_has_one_spelling : WitnessHasOneSpelling
unfolding read_witness
witness_has_one_spelling bytes read fits e =
    let a = bind_ok (first_count bytes) (λ count. first_items (count.0 - 1) count.1 >>= λ stack. first_item stack.1 >>= λ script. cond (length script.1 == 0)
    (Ok (stack.0, script.0)) (Err Trailing)) read e in
    let b = bind_ok (first_items (a.0.0 - 1) a.0.1) (λ stack. first_item stack.1 >>= λ script. cond (length script.1 == 0) (Ok (stack.0, script.0)) (Err Trailing)) read a.2 in
    let c = bind_ok (first_item b.0.1) (λ script. cond (length script.1 == 0) (Ok (b.0.0, script.0)) (Err Trailing)) read b.2 in
    let g = guard_ended (length c.0.1 == 0) Trailing (b.0.0, c.0.0) read c.2 in
    let count = count_takes bytes a.0 fits a.1 in
    let stack = items_take (a.0.0 - 1) a.0.1 b.0 count.0.rest_fits b.1 in
    let script = item_takes b.0.1 c.0 stack.0.rest_fits c.1 in
    let nothing : c.0.1 ≡ [] = nil_from_length c.0.1 (eqb-true _ _ g.0) in
    let items = Takes-then a.0.1 (flat_map sized b.0.0) b.0.1 (sized c.0.0) c.0.1 stack.0 script.0 in
    let all = (Takes-then bytes (size_bytes a.0.0) a.0.1 (flat_map sized b.0.0 ++ sized c.0.0) c.0.1 count.0 items).parts in
    let counted : a.0.0 ≡ length b.0.0 + 1 = omega (arith, count.1, stack.1) in
    let whole = all_text bytes a.0.0 b.0.0 c.0.0 c.0.1 all nothing counted in
    subst (λ (r : List Bytes × Bytes). FitsWitness r.0 r.1 × (bytes ≡ witness_text r.0 r.1)) {x = (b.0.0, c.0.0)} g.1
    (record { few = omega (arith, count.2, stack.1); items = All-from_recursion FitsItem b.0.0 stack.2; last = script.1 }, whole)

pub witness_is_read_back : WitnessIsReadBack
unfolding read_witness
witness_is_read_back stack script short =
    let less : (length stack + 1) - 1 ≡ length stack = omega arith in
    let last : first_item (sized script) ≡ Ok (script, []) = ap first_item (sym (append-nil (sized script))) ∙ item_again script [] short.last in
    ap read_witness (text_parts stack script)
    ∙ rw (
      count_again (length stack + 1) (flat_map sized stack ++ sized script) (omega arith) (omega (arith, short.few)),
      less,
      items_again stack (sized script) (recursion_from_All FitsItem stack short.items),
      last,
    ) refl

pub witness_is_replayed : WitnessIsReplayed
witness_is_replayed given stack script short =
    let read : read_witness (witness_text stack script) ≡ Ok (stack, script) = witness_is_read_back stack script short in
    let same : bytes_eq (program_of script) (program_of script) ≡ true = (bytes_eq-Decides (program_of script) (program_of script)).1 refl in
    rw (read, same) refl

pub is_spelled : (bytes : Bytes) (r : Result (List Bytes × Bytes) WitnessFault) → IsBytes bytes → Gives r (read_witness bytes)
    → IfOk r (λ read. FitsWitness read.0 read.1 × (bytes ≡ witness_text read.0 read.1))
is_spelled bytes (Ok read) fits reading = witness_has_one_spelling bytes read fits reading
is_spelled bytes (Err why) fits reading = tt
