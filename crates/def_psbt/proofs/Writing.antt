-- What was written is read back.
use Rattle.std.proofs.Common.{◌≡◌, ℕ, zero, suc, ◌+◌, ◌-◌, ◌^◌, ◌<◌, ◌≤◌, ◌==◌, nat_lt, Bool, true, false, cond, List, [], ◌∷◌, ◌++◌, length, length-append, drop, Some, None, inl, inr, Ok, refl, sym, ap, subst, ◌∙◌, append_assoc, arith}
use Rattle.std.proofs.lemmas.Bool.{cases_Bool, le-ltb, ne_eqb}
use Rattle.std.proofs.lemmas.List.{take_at, drop_at, length-drop, drop-drop, append-nil}
use Rattle.std.proofs.lemmas.List.Concat.{flat_map-cons}
use Rattle.std.proofs.lemmas.List.Elements.{recursion_from_All}
use Rattle.std.specs.List.{flat_map, AllByRecursion}
use Rattle.def_script.specs.Bytes.{Bytes}
use Rattle.def_script.specs.Sizes.{size_bytes, read_size}
use Rattle.def_script.specs.Witness.{sized}
use Rattle.def_script.proofs.Sizing.{size_is_read_back}
use Rattle.def_psbt.specs.declared.PsbtFault.TheVariants.{RepeatedKey, KeyForm}
use Rattle.def_psbt.specs.Map.{Pair, Map, type_of, pair_text, map_text, magic, psbt_text}
use Rattle.def_psbt.specs.Fields.{version_of}
use Rattle.def_psbt.specs.Listed.{Form, is_typed, stands, form_fault, global_form, shape_fault, pair_fault}
use Rattle.def_psbt.specs.Reading.{Read, size_at, bytes_at, string_at, pair_at, sound_pair_at, pairs_at, map_at, Rules, input_rules, output_rules, whole_map_at, maps_at, input_count, output_count, read_psbt}
use Rattle.def_psbt.specs.Laws.{IsSoundMap, IsWholeMap, WrittenIsReadBack}

-- what stands at a place, to the end
pub record Here (psbt : Bytes) (at : ℕ) (tail : Bytes) : Type 0 where
  pub rest : drop at psbt ≡ tail
  pub inside : at ≤ length psbt

pub next : (psbt : Bytes) (at : ℕ) (text rest : Bytes) → Here psbt at (text ++ rest) → Here psbt (at + length text) rest
next psbt at text rest h =
    let r = h.rest in
    let inside = h.inside in
    let long : length (text ++ rest) ≡ length psbt - at = ap length (sym r) ∙ length-drop at psbt in
    record {
      rest = sym (drop-drop (length text) at psbt) ∙ ap (drop (length text)) r ∙ drop_at text rest (length text) refl;
      inside = omega (arith, length-append text rest);
    }

pub size_here : (psbt : Bytes) (at n : ℕ) (rest : Bytes) → Here psbt at (size_bytes n ++ rest) → n < 2 ^ 64 → size_at psbt at ≡ Ok (n, at + length (size_bytes n))
unfolding size_at
size_here psbt at n rest h low = let r = h.rest in rw (r, size_is_read_back n rest low) refl

bytes_here : (psbt : Bytes) (at : ℕ) (text rest : Bytes) → Here psbt at (text ++ rest) → bytes_at psbt (length text) at ≡ Ok (text, at + length text)
unfolding bytes_at
bytes_here psbt at text rest h =
    let r = h.rest in
    let after = next psbt at text rest h in
    let inside = after.inside in
    let there : nat_lt (length psbt) (at + length text) ≡ false = le-ltb _ _ inside in
    rw (there, r, take_at text rest (length text) refl) refl

string_here : (psbt : Bytes) (at : ℕ) (text rest : Bytes) → Here psbt at (sized text ++ rest) → length text < 2 ^ 64 → string_at psbt at ≡ Ok (text, at + length (sized text))
unfolding string_at
string_here psbt at text rest h low =
    let parts = append_assoc (size_bytes (length text)) text rest in
    let split : Here psbt at (size_bytes (length text) ++ (text ++ rest)) = subst (Here psbt at) parts h in
    let size = size_here psbt at (length text) (text ++ rest) split low in
    let bytes = bytes_here psbt (at + length (size_bytes (length text))) text rest (next psbt at (size_bytes (length text)) (text ++ rest) split) in
    let long : at + length (size_bytes (length text)) + length text ≡ at + length (sized text) = omega (arith, length-append (size_bytes (length text)) text) in
    rw (size, bytes) (ap (λ (n : ℕ). let y : Read Bytes = Ok (text, n) in y) long)

pair_here : (psbt : Bytes) (at : ℕ) (pair : Pair) (rest : Bytes) → Here psbt at (pair_text pair ++ rest) → length pair.key < 2 ^ 64 → length pair.value < 2 ^ 64
    → pair_at psbt at ≡ Ok (pair, at + length (pair_text pair))
unfolding pair_at
pair_here psbt at pair rest h low high =
    let split : Here psbt at (sized pair.key ++ (sized pair.value ++ rest)) = subst (Here psbt at) (append_assoc (sized pair.key) (sized pair.value) rest) h in
    let key = string_here psbt at pair.key (sized pair.value ++ rest) split low in
    let value = string_here psbt (at + length (sized pair.key)) pair.value rest (next psbt at (sized pair.key) (sized pair.value ++ rest) split) high in
    let long : at + length (sized pair.key) + length (sized pair.value) ≡ at + length (pair_text pair) = omega (arith, length-append (sized pair.key) (sized pair.value)) in
    rw (key, value) (ap (λ (n : ℕ). let y : Read Pair = Ok (pair, n) in y) long)

-- the size of a key, and that of the key that ends a map
key_size_here : (psbt : Bytes) (at : ℕ) (pair : Pair) (rest : Bytes) → Here psbt at (pair_text pair ++ rest) → length pair.key < 2 ^ 64
    → size_at psbt at ≡ Ok (length pair.key, at + length (size_bytes (length pair.key)))
key_size_here psbt at pair rest h low =
    let split : Here psbt at (size_bytes (length pair.key) ++ (pair.key ++ (sized pair.value ++ rest))) =
    subst (Here psbt at) (append_assoc (sized pair.key) (sized pair.value) rest ∙ append_assoc (size_bytes (length pair.key)) pair.key (sized pair.value ++ rest)) h in
    size_here psbt at (length pair.key) (pair.key ++ (sized pair.value ++ rest)) split low

zero_here : (psbt : Bytes) (at : ℕ) (rest : Bytes) → Here psbt at (0x00 ∷ rest) → size_at psbt at ≡ Ok (0, at + 1)
unfolding size_bytes
zero_here psbt at rest h = size_here psbt at 0 rest h (omega arith)

-- a key with nothing wrong isn't empty
some_key : (forms : ℕ → Form) (before : Map) (pair : Pair) → pair_fault forms before pair ≡ None → length pair.key ≡ 0 → ⊥
unfolding pair_fault shape_fault read_size
some_key forms before pair e none = go (stands pair.key before) pair.key none e
  where
    go : (b : Bool) (key : Bytes) → length key ≡ 0 → cond b (Some RepeatedKey) (cond (is_typed (read_size key)) (form_fault (forms (type_of pair.key)) pair) (Some KeyForm)) ≡ None → ⊥
    go true key z e = cc
    go false [] z e = cc
    go false (x ∷ key) z e = omega arith

pub map_cons : (pair : Pair) (map : Map) → map_text (pair ∷ map) ≡ pair_text pair ++ map_text map
map_cons pair map = ap (λ (x : Bytes). x ++ 0x00 ∷ []) (flat_map-cons pair_text pair map) ∙ append_assoc (pair_text pair) (flat_map pair_text map) (0x00 ∷ [])

some_size : (n : ℕ) → 1 ≤ length (size_bytes n)
unfolding size_bytes
some_size n =
    elim (cases_Bool (nat_lt n 0xfd)) [
      | inl one ↦ rw one (omega arith)
      | inr over ↦ elim (cases_Bool (nat_lt n (2 ^ 16))) [
        | inl two ↦ rw (over, two) (omega arith)
        | inr not_2 ↦ elim (cases_Bool (nat_lt n (2 ^ 32))) [
          | inl four ↦ rw (over, not_2, four) (omega arith)
          | inr not_4 ↦ rw (over, not_2, not_4) (omega arith)
        ]
      ]
    ]

few_pairs : (map : Map) → length map ≤ length (flat_map pair_text map)
few_pairs [] = omega arith
few_pairs (pair ∷ map) =
    let long : length (flat_map pair_text (pair ∷ map)) ≡ length (pair_text pair) + length (flat_map pair_text map) =
    ap length (flat_map-cons pair_text pair map) ∙ length-append (pair_text pair) (flat_map pair_text map) in
    let key : length (pair_text pair) ≡ length (sized pair.key) + length (sized pair.value) = length-append (sized pair.key) (sized pair.value) in
    let size : length (sized pair.key) ≡ length (size_bytes (length pair.key)) + length pair.key = length-append (size_bytes (length pair.key)) pair.key in
    omega (arith, some_size (length pair.key), few_pairs map)

pairs_here : (forms : ℕ → Form) (psbt : Bytes) (map : Map) (room : ℕ) (before : Map) (at : ℕ) (rest : Bytes) → Here psbt at (map_text map ++ rest) → IsSoundMap forms before map → length map < room
    → pairs_at forms psbt room before at ≡ Ok (map, at + length (map_text map))
unfolding pairs_at sound_pair_at
pairs_here forms psbt map zero before at rest h sound less = absurd (omega arith)
pairs_here forms psbt [] (suc room) before at rest h sound less =
    let size : size_at psbt at ≡ Ok (0, at + 1) = zero_here psbt at rest h in
    rw size refl
pairs_here forms psbt (pair ∷ map) (suc room) before at rest h sound less =
    let first : Here psbt at (pair_text pair ++ (map_text map ++ rest)) =
    subst (Here psbt at) (ap (λ (x : Bytes). x ++ rest) (map_cons pair map) ∙ append_assoc (pair_text pair) (map_text map) rest) h in
    let fault = sound.0.fault in
    let size = key_size_here psbt at pair (map_text map ++ rest) first sound.0.key in
    let some : (length pair.key == 0) ≡ false = ne_eqb _ _ (some_key forms before pair fault) in
    let read = pair_here psbt at pair (map_text map ++ rest) first sound.0.key sound.0.value in
    let others = pairs_here forms psbt map room (before ++ pair ∷ []) (at + length (pair_text pair)) rest (next psbt at (pair_text pair) (map_text map ++ rest) first) sound.1 (omega arith) in
    let long : at + length (pair_text pair) + length (map_text map)
    ≡ at + length (map_text (pair ∷ map)) = omega (arith, ap length (map_cons pair map), length-append (pair_text pair) (map_text map)) in
    rw (size, some, read, fault, others) (ap (λ (n : ℕ). let y : Read Map = Ok (pair ∷ map, n) in y) long)

map_here : (forms : ℕ → Form) (psbt : Bytes) (map : Map) (at : ℕ) (rest : Bytes) → Here psbt at (map_text map ++ rest) → IsSoundMap forms [] map
    → map_at forms psbt at ≡ Ok (map, at + length (map_text map))
map_here forms psbt map at rest h sound =
    let after = next psbt at (map_text map) rest h in
    let inside = after.inside in
    let long : length (map_text map) ≡ length (flat_map pair_text map) + 1 = length-append (flat_map pair_text map) (0x00 ∷ []) in
    pairs_here forms psbt map (suc (length psbt)) [] at rest h sound (omega (arith, few_pairs map))

whole_here : (rules : Rules) (psbt : Bytes) (map : Map) (at : ℕ) (rest : Bytes) → Here psbt at (map_text map ++ rest) → IsWholeMap rules map
    → whole_map_at rules psbt at ≡ Ok (map, at + length (map_text map))
whole_here rules psbt map at rest h whole =
    let needed = whole.needed in
    rw (map_here rules.forms psbt map at rest h whole.sound, needed) refl

maps_here : (rules : Rules) (psbt : Bytes) (maps : List Map) (at : ℕ) (rest : Bytes) → Here psbt at (flat_map map_text maps ++ rest) → AllByRecursion (IsWholeMap rules) maps
    → maps_at rules psbt (length maps) at ≡ Ok (maps, at + length (flat_map map_text maps))
unfolding maps_at
maps_here rules psbt [] at rest h sound = let none : at + 0 ≡ at = omega arith in ap (λ (n : ℕ). let y : Read (List Map) = Ok ([], n) in y) (sym none)
maps_here rules psbt (map ∷ maps) at rest h sound =
    let cons : flat_map map_text (map ∷ maps) ≡ map_text map ++ flat_map map_text maps = flat_map-cons map_text map maps in
    let first : Here psbt at (map_text map ++ (flat_map map_text maps ++ rest)) =
    subst (Here psbt at) (ap (λ (x : Bytes). x ++ rest) cons ∙ append_assoc (map_text map) (flat_map map_text maps) rest) h in
    let read = whole_here rules psbt map at (flat_map map_text maps ++ rest) first sound.0 in
    let others = maps_here rules psbt maps (at + length (map_text map)) rest (next psbt at (map_text map) (flat_map map_text maps ++ rest) first) sound.1 in
    let long : at + length (map_text map) + length (flat_map map_text maps)
    ≡ at + length (flat_map map_text (map ∷ maps)) = omega (arith, ap length cons, length-append (map_text map) (flat_map map_text maps)) in
    rw (read, others) (ap (λ (n : ℕ). let y : Read (List Map) = Ok (map ∷ maps, n) in y) long)

pub written_is_read_back : WrittenIsReadBack
unfolding read_psbt
written_is_read_back psbt sound =
    let version = version_of psbt.global in
    let inputs_text = flat_map map_text psbt.inputs in
    let outputs_text = flat_map map_text psbt.outputs in
    let text = psbt_text psbt.global psbt.inputs psbt.outputs in
    let start : Here (psbt_text psbt.global psbt.inputs psbt.outputs) 5 (map_text psbt.global ++ (flat_map map_text psbt.inputs ++ flat_map map_text psbt.outputs)) =
    record { rest = refl; inside = omega (arith, length-append magic (map_text psbt.global ++ (flat_map map_text psbt.inputs ++ flat_map map_text psbt.outputs))) } in
    let global = map_here global_form text psbt.global 5 (inputs_text ++ outputs_text) start sound.global in
    let at_inputs = next text 5 (map_text psbt.global) (inputs_text ++ outputs_text) start in
    let inputs = maps_here (input_rules version) text psbt.inputs (5 + length (map_text psbt.global)) outputs_text at_inputs
    (recursion_from_All (IsWholeMap (input_rules version)) psbt.inputs sound.inputs) in
    let inputs_are : maps_at (input_rules (version_of psbt.global)) text (input_count sound.outline) (5 + length (map_text psbt.global))
    ≡ Ok (psbt.inputs, 5 + length (map_text psbt.global) + length (flat_map map_text psbt.inputs)) =
    ap (λ (n : ℕ). maps_at (input_rules version) text n (5 + length (map_text psbt.global))) (sym sound.each_input) ∙ inputs in
    let at_outputs : Here (psbt_text psbt.global psbt.inputs psbt.outputs) (5 + length (map_text psbt.global) + length (flat_map map_text psbt.inputs)) (flat_map map_text psbt.outputs ++ []) =
    subst (Here text (5 + length (map_text psbt.global) + length inputs_text)) (sym (append-nil outputs_text)) (next text (5 + length (map_text psbt.global)) inputs_text outputs_text at_inputs) in
    let outputs = maps_here (output_rules version) text psbt.outputs (5 + length (map_text psbt.global) + length inputs_text) [] at_outputs
    (recursion_from_All (IsWholeMap (output_rules version)) psbt.outputs sound.outputs) in
    let outputs_are : maps_at (output_rules (version_of psbt.global)) text (output_count sound.outline) (5 + length (map_text psbt.global) + length inputs_text)
    ≡ Ok (psbt.outputs, 5 + length (map_text psbt.global) + length (flat_map map_text psbt.inputs) + length (flat_map map_text psbt.outputs)) =
    ap (λ (n : ℕ). maps_at (output_rules version) text n (5 + length (map_text psbt.global) + length inputs_text)) (sym sound.each_output) ∙ outputs in
    let at_end = next text (5 + length (map_text psbt.global) + length inputs_text) outputs_text [] at_outputs in
    let nothing : length text - (5 + length (map_text psbt.global) + length inputs_text + length outputs_text) ≡ 0 = sym (length-drop _ text) ∙ ap length at_end.rest in
    let allowed = sound.allowed in
    let said = sound.said in
    let joined = sound.joined in
    let transaction = sound.transaction in
    let last : nat_lt (5 + length (map_text psbt.global) + length (flat_map map_text psbt.inputs) + length (flat_map map_text psbt.outputs))
    (length (psbt_text psbt.global psbt.inputs psbt.outputs)) ≡ false = le-ltb _ _ (omega arith) in
    rw (global, allowed, said, inputs_are, outputs_are, last, joined, ← transaction) refl
