-- What is read was written so, and has nothing wrong.
use Rattle.std.proofs.Common.{◌≡◌, ℕ, zero, suc, ◌+◌, ◌-◌, ◌^◌, ◌<◌, ◌≤◌, ◌==◌, nat_lt, Bool, true, false, cond, List, [], ◌∷◌, ◌++◌, length, length-append, take, drop, Option, Some, None, Result, Ok, Err, refl, sym, ap, subst, ◌∙◌, append_assoc, arith}
use Rattle.std.proofs.lemmas.Bool.{ltb-false, eqb-true}
use Rattle.std.proofs.lemmas.List.{length-drop, length-take-le, drop-drop, take-append-drop, get_or-drop, append-nil, drop_all}
use Rattle.std.proofs.lemmas.List.Concat.{flat_map-cons}
use Rattle.std.proofs.lemmas.List.Elements.{All-from_recursion}
use Rattle.std.proofs.lemmas.Slice.Eq.{bytes_eq-Decides}
use Rattle.std.specs.List.{flat_map, AllByRecursion}
use Rattle.def_script.specs.Bytes.{Bytes, IsBytes}
use Rattle.def_script.specs.Sizes.{SizeReading, size_bytes, read_size}
use Rattle.def_script.specs.Witness.{sized}
use Rattle.def_script.proofs.Sizing.{size_has_one_spelling}
use Rattle.def_psbt.specs.declared.PsbtFault.{PsbtFault}
use Rattle.def_psbt.specs.declared.PsbtFault.TheVariants.{Truncated, NoTransaction, Trailing}
use Rattle.def_psbt.specs.declared.Refusal.{Refusal}
use Rattle.def_psbt.specs.declared.Refusal.TheVariants.{At}
use Rattle.def_psbt.specs.Map.{Pair, Map, Psbt, pair_text, map_text, magic, psbt_text, has_types}
use Rattle.def_psbt.specs.Fields.{version_of}
use Rattle.def_psbt.specs.Listed.{Form, global_form, pair_fault}
use Rattle.def_psbt.specs.Reading.{◌>>=◌, placed, size_at, bytes_at, string_at, pair_at, tested, sound_pair_at, pairs_at, map_at, Rules, input_rules, output_rules, complete, whole_map_at, maps_at, unless, misplaced, Outline, outline_in, outline_or, outline_at, input_count, output_count, transaction_by, ended, unjoined, read_psbt}
use Rattle.def_psbt.specs.Laws.{IsSoundMap, IsWholeMap, IsSound, ReadIsWritten}
use Rattle.def_psbt.proofs.Writing.{map_cons}

bind_ok : {A B : Type 0} (r : Result A Refusal) (f : A → Result B Refusal) (y : B) → (r >>= f) ≡ Ok y → (x : A) × (r ≡ Ok x) × (f x ≡ Ok y)
bind_ok (Ok x) f y e = (x, refl, e)
bind_ok (Err refusal) f y e = absurd cc

abbrev done : {A : Type 0} → A → Result A Refusal
done x = Ok x

ok_is : {A : Type 0} (x y : A) → done x ≡ done y → x ≡ y
ok_is x y e = cc

-- what stands from one place to another
pub record From (psbt : Bytes) (at : ℕ) (text : Bytes) (end : ℕ) : Type 0 where
  pub parts : drop at psbt ≡ text ++ drop end psbt
  pub long : end ≡ at + length text

then : (psbt : Bytes) (at : ℕ) (first : Bytes) (middle : ℕ) (second : Bytes) (end : ℕ) → From psbt at first middle → From psbt middle second end → From psbt at (first ++ second) end
then psbt at first middle second end p q = record {
  parts = p.parts ∙ ap (λ (x : Bytes). first ++ x) q.parts ∙ sym (append_assoc first second (drop end psbt));
  long = let a = p.long in let b = q.long in omega (arith, length-append first second);
}

size_inside : (bytes : Bytes) (read : ℕ × ℕ) → read_size bytes ≡ Ok read → read.1 ≤ length bytes
unfolding read_size
size_inside bytes read e = grind arith

drop_fits : (n : ℕ) (bytes : Bytes) → IsBytes bytes → IsBytes (drop n bytes)
drop_fits n bytes h i = rw get_or-drop (h (n + i))

size_from : (psbt : Bytes) (at : ℕ) (read : ℕ × ℕ) → IsBytes psbt → size_at psbt at ≡ Ok read → From psbt at (size_bytes read.0) read.1
unfolding size_at
size_from psbt at read fits e = go (read_size (drop at psbt)) refl e
  where
    go : (reading : SizeReading) → read_size (drop at psbt) ≡ reading → placed at reading ≡ Ok read → From psbt at (size_bytes read.0) read.1
    go (Ok size) is e =
        let same : (size.0, at + size.1) ≡ read = ok_is _ _ e in
        let spelled = size_has_one_spelling (drop at psbt) size (drop_fits at psbt fits) is in
        let long : length (drop at psbt) ≡ length (size_bytes size.0) + (length (drop at psbt) - size.1) =
        ap length spelled ∙ length-append (size_bytes size.0) (drop size.1 (drop at psbt)) ∙ ap (λ (n : ℕ). length (size_bytes size.0) + n) (length-drop size.1 (drop at psbt)) in
        subst (λ (r : ℕ × ℕ). From psbt at (size_bytes r.0) r.1) same (record {
          parts = spelled ∙ ap (λ (x : Bytes). size_bytes size.0 ++ x) (drop-drop size.1 at psbt);
          long = omega (arith, size_inside (drop at psbt) size is);
        })
    go (Err fault) is e = absurd cc

guard_ok : {A : Type 0} (b : Bool) (refusal : Refusal) (x y : A) → cond b (Err refusal) (Ok x) ≡ Ok y → (b ≡ false) × (x ≡ y)
guard_ok true refusal x y e = absurd cc
guard_ok false refusal x y e = (refl, ok_is x y e)

-- a string that was read is as long as its size says, and lies within the bytes
string_from : (psbt : Bytes) (at : ℕ) (read : Bytes × ℕ) → IsBytes psbt → string_at psbt at ≡ Ok read → From psbt at (sized read.0) read.1 × (length read.0 ≤ length psbt)
unfolding string_at bytes_at
string_from psbt at read fits e =
    let s = bind_ok (size_at psbt at) (λ size. cond (nat_lt (length psbt) (size.1 + size.0)) (Err (At Truncated size.1)) (Ok (take size.0 (drop size.1 psbt), size.1 + size.0))) read e in
    let g = guard_ok (nat_lt (length psbt) (s.0.1 + s.0.0)) (At Truncated s.0.1) (take s.0.0 (drop s.0.1 psbt), s.0.1 + s.0.0) read s.2 in
    let inside : s.0.1 + s.0.0 ≤ length psbt = ltb-false _ _ g.0 in
    let room : length (drop s.0.1 psbt) ≡ length psbt - s.0.1 = length-drop s.0.1 psbt in
    let long : length (take s.0.0 (drop s.0.1 psbt)) ≡ s.0.0 = length-take-le s.0.0 (drop s.0.1 psbt) (omega arith) in
    let size = size_from psbt at s.0 fits s.1 in
    let text : From psbt s.0.1 (take s.0.0 (drop s.0.1 psbt)) (s.0.1 + s.0.0) =
    record {
      parts = sym (take-append-drop s.0.0 (drop s.0.1 psbt)) ∙ ap (λ (x : Bytes). take s.0.0 (drop s.0.1 psbt) ++ x) (drop-drop s.0.0 s.0.1 psbt);
      long = omega (arith, long);
    } in
    let both = then psbt at (size_bytes s.0.0) s.0.1 (take s.0.0 (drop s.0.1 psbt)) (s.0.1 + s.0.0) size text in
    let whole : From psbt at (sized (take s.0.0 (drop s.0.1 psbt))) (s.0.1 + s.0.0) = subst (λ (n : ℕ). From psbt at (size_bytes n ++ take s.0.0 (drop s.0.1 psbt)) (s.0.1 + s.0.0)) (sym long) both in
    subst (λ (r : Bytes × ℕ). From psbt at (sized r.0) r.1 × (length r.0 ≤ length psbt)) g.1 (whole, omega arith)

pub pair_from : (psbt : Bytes) (at : ℕ) (read : Pair × ℕ) → IsBytes psbt → pair_at psbt at ≡ Ok read
    → From psbt at (pair_text read.0) read.1 × (length read.0.key ≤ length psbt) × (length read.0.value ≤ length psbt)
unfolding pair_at
pair_from psbt at read fits e =
    let k = bind_ok (string_at psbt at) (λ key. string_at psbt key.1 >>= λ value. Ok (record { key = key.0; value = value.0 }, value.1)) read e in
    let v = bind_ok (string_at psbt k.0.1) (λ value. Ok (record { key = k.0.0; value = value.0 }, value.1)) read k.2 in
    let key = string_from psbt at k.0 fits k.1 in
    let value = string_from psbt k.0.1 v.0 fits v.1 in
    let made : Pair × ℕ = (record { key = k.0.0; value = v.0.0 }, v.0.1) in
    subst (λ (r : Pair × ℕ). From psbt at (pair_text r.0) r.1 × (length r.0.key ≤ length psbt) × (length r.0.value ≤ length psbt)) (ok_is made read v.2)
    (then psbt at (sized k.0.0) k.0.1 (sized v.0.0) v.0.1 key.0 value.0, key.1, value.1)

tested_ok : (o : Option PsbtFault) (at : ℕ) (read x : Pair × ℕ) → tested o at read ≡ Ok x → (o ≡ None) × (read ≡ x)
tested_ok None at read x e = (refl, ok_is read x e)
tested_ok (Some fault) at read x e = absurd cc

-- pairs that were read stand there, and have nothing wrong
pub pairs_from : (forms : ℕ → Form) (psbt : Bytes) (room : ℕ) (before : Map) (at : ℕ) (read : Map × ℕ) → IsBytes psbt → length psbt < 2 ^ 64 → pairs_at forms psbt room before at ≡ Ok read
    → From psbt at (map_text read.0) read.1 × IsSoundMap forms before read.0
unfolding pairs_at sound_pair_at size_bytes
pairs_from forms psbt zero before at read fits small e = absurd cc
pairs_from forms psbt (suc room) before at read fits small e =
    let s = bind_ok (size_at psbt at) (λ size. cond (size.0 == 0) (Ok ([], size.1)) (sound_pair_at forms psbt before at
    >>= λ pair. pairs_at forms psbt room (before ++ pair.0 ∷ []) pair.1 >>= λ pairs. Ok (pair.0 ∷ pairs.0, pairs.1))) read e in
    let size = size_from psbt at s.0 fits s.1 in
    go (λ before at read. pairs_from forms psbt room before at read fits small) s.0 size (s.0.0 == 0) refl s.2
  where
    go : ((before : Map) (at : ℕ) (read : Map × ℕ) → pairs_at forms psbt room before at ≡ Ok read → From psbt at (map_text read.0) read.1 × IsSoundMap forms before read.0)
        → (size : ℕ × ℕ) → From psbt at (size_bytes size.0) size.1 → (b : Bool) → (size.0 == 0) ≡ b → cond b (Ok ([], size.1)) (sound_pair_at forms psbt before at
        >>= λ pair. pairs_at forms psbt room (before ++ pair.0 ∷ []) pair.1 >>= λ pairs. Ok (pair.0 ∷ pairs.0, pairs.1)) ≡ Ok read
        → From psbt at (map_text read.0) read.1 × IsSoundMap forms before read.0
    go again size from true z e =
        let zero_size : size.0 ≡ 0 = eqb-true _ _ z in
        subst (λ (r : Map × ℕ). From psbt at (map_text r.0) r.1 × IsSoundMap forms before r.0) (ok_is ([], size.1) read e)
        (subst (λ (n : ℕ). From psbt at (size_bytes n) size.1) zero_size from, tt)
    go again size from false z e =
        let p = bind_ok (sound_pair_at forms psbt before at) (λ pair. pairs_at forms psbt room (before ++ pair.0 ∷ []) pair.1 >>= λ pairs. Ok (pair.0 ∷ pairs.0, pairs.1)) read e in
        let q = bind_ok (pair_at psbt at) (λ read. tested (pair_fault forms before read.0) at read) p.0 p.1 in
        let t = tested_ok (pair_fault forms before q.0.0) at q.0 p.0 q.2 in
        let r = bind_ok (pairs_at forms psbt room (before ++ p.0.0 ∷ []) p.0.1) (λ pairs. Ok (p.0.0 ∷ pairs.0, pairs.1)) read p.2 in
        let fault : pair_fault forms before p.0.0 ≡ None = subst (λ (x : Pair × ℕ). pair_fault forms before x.0 ≡ None) t.1 t.0 in
        let first = pair_from psbt at p.0 fits (q.1 ∙ ap (λ (x : Pair × ℕ). done x) t.1) in
        let others = again (before ++ p.0.0 ∷ []) p.0.1 r.0 r.1 in
        let made : Map × ℕ = (p.0.0 ∷ r.0.0, r.0.1) in
        let text = then psbt at (pair_text p.0.0) p.0.1 (map_text r.0.0) r.0.1 first.0 others.0 in
        let key = first.1 in
        let value = first.2 in
        subst (λ (x : Map × ℕ). From psbt at (map_text x.0) x.1 × IsSoundMap forms before x.0) (ok_is made read r.2)
        (subst (λ (x : Bytes). From psbt at x r.0.1) (sym (map_cons p.0.0 r.0.0)) text, (record { fault = fault; key = omega (arith, key); value = omega (arith, value) }, others.1))

-- a whole map that was read has the types that have to stand in it
complete_ok : (needed : List ℕ) (read x : Map × ℕ) → complete needed read ≡ Ok x → (has_types needed read.0 ≡ true) × (read ≡ x)
complete_ok needed read x e = go (has_types needed read.0) e
  where
    go : (b : Bool) → cond b (Ok read) (Err (At NoTransaction (read.1 - 1))) ≡ Ok x → (b ≡ true) × (read ≡ x)
    go true e = (refl, ok_is read x e)
    go false e = absurd cc

pub whole_from : (rules : Rules) (psbt : Bytes) (at : ℕ) (read : Map × ℕ) → IsBytes psbt → length psbt < 2 ^ 64 → whole_map_at rules psbt at ≡ Ok read
    → From psbt at (map_text read.0) read.1 × IsWholeMap rules read.0
whole_from rules psbt at read fits small e =
    let m = bind_ok (map_at rules.forms psbt at) (complete rules.needed) read e in
    let c = complete_ok rules.needed m.0 read m.2 in
    let from = pairs_from rules.forms psbt (suc (length psbt)) [] at m.0 fits small m.1 in
    subst (λ (r : Map × ℕ). From psbt at (map_text r.0) r.1 × IsWholeMap rules r.0) c.1 (from.0, record { sound = from.1; needed = c.0 })

maps_from : (rules : Rules) (psbt : Bytes) (count : ℕ) (at : ℕ) (read : List Map × ℕ) → IsBytes psbt → length psbt < 2 ^ 64 → maps_at rules psbt count at ≡ Ok read
    → From psbt at (flat_map map_text read.0) read.1 × AllByRecursion (IsWholeMap rules) read.0 × (length read.0 ≡ count)
unfolding maps_at
maps_from rules psbt zero at read fits small e =
    subst (λ (r : List Map × ℕ). From psbt at (flat_map map_text r.0) r.1 × AllByRecursion (IsWholeMap rules) r.0 × (length r.0 ≡ 0))
    (ok_is ([], at) read e) (record { parts = refl; long = omega arith }, tt, refl)
maps_from rules psbt (suc count) at read fits small e =
    let m = bind_ok (whole_map_at rules psbt at) (λ map. maps_at rules psbt count map.1 >>= λ maps. Ok (map.0 ∷ maps.0, maps.1)) read e in
    let r = bind_ok (maps_at rules psbt count m.0.1) (λ maps. Ok (m.0.0 ∷ maps.0, maps.1)) read m.2 in
    let first = whole_from rules psbt at m.0 fits small m.1 in
    let others = maps_from rules psbt count m.0.1 r.0 fits small r.1 in
    let made : List Map × ℕ = (m.0.0 ∷ r.0.0, r.0.1) in
    let text = then psbt at (map_text m.0.0) m.0.1 (flat_map map_text r.0.0) r.0.1 first.0 others.0 in
    subst (λ (x : List Map × ℕ). From psbt at (flat_map map_text x.0) x.1 × AllByRecursion (IsWholeMap rules) x.0 × (length x.0 ≡ suc count)) (ok_is made read r.2)
    (subst (λ (x : Bytes). From psbt at x r.0.1) (sym (flat_map-cons map_text m.0.0 r.0.0)) text, (first.1, others.1), ap suc others.2)

-- ---- the steps of the reading

unless_ok : {A : Type 0} (o : Option Refusal) (next : Result A Refusal) (x : A) → unless o next ≡ Ok x → (o ≡ None) × (next ≡ Ok x)
unless_ok None next x e = (refl, e)
unless_ok (Some refusal) next x e = absurd cc

there_is : (o : Option Outline) (after : ℕ) (outline : Outline) → outline_or o after ≡ Ok outline → o ≡ Some outline
there_is (Some found) after outline e = ap Some (ok_is found outline e)
there_is None after outline e = absurd cc

ended_ok : (psbt : Bytes) (at : ℕ) (made read : Psbt) → ended psbt at made ≡ Ok read → (length psbt ≤ at) × (made ≡ read)
ended_ok psbt at made read e = let g = guard_ok (nat_lt at (length psbt)) (At Trailing at) made read e in (ltb-false _ _ g.0, g.1)

-- what follows the maps of outputs, those of inputs, what the global map says, and the global map
abbrev made_of : Map × ℕ → Outline → List Map × ℕ → List Map × ℕ → Psbt
made_of global outline inputs outputs = record { global = global.0; transaction = transaction_by outline global.0 inputs.0 outputs.0; inputs = inputs.0; outputs = outputs.0 }

abbrev pub after_outputs : (bytes : Bytes) → Map × ℕ → Outline → List Map × ℕ → List Map × ℕ → Result Psbt Refusal
after_outputs bytes global outline inputs outputs =
    ended bytes outputs.1 (made_of global outline inputs outputs) >>= λ read. unless (unjoined (version_of global.0) global.1 inputs.0) (Ok read)

abbrev pub after_inputs : (bytes : Bytes) → Map × ℕ → Outline → List Map × ℕ → Result Psbt Refusal
after_inputs bytes global outline inputs = maps_at (output_rules (version_of global.0)) bytes (output_count outline) inputs.1 >>= after_outputs bytes global outline inputs

abbrev pub after_outline : (bytes : Bytes) → Map × ℕ → Outline → Result Psbt Refusal
after_outline bytes global outline = maps_at (input_rules (version_of global.0)) bytes (input_count outline) global.1 >>= after_inputs bytes global outline

abbrev pub after_global : (bytes : Bytes) → Map × ℕ → Result Psbt Refusal
after_global bytes global = outline_at global >>= after_outline bytes global

pub read_is_written : ReadIsWritten
unfolding read_psbt
read_is_written bytes psbt fits size begins e =
    let small : length bytes < 2 ^ 64 = omega arith in
    let g = bind_ok (map_at global_form bytes 5) (after_global bytes) psbt e in
    let t = bind_ok (outline_at g.0) (after_outline bytes g.0) psbt g.2 in
    let i = bind_ok (maps_at (input_rules (version_of g.0.0)) bytes (input_count t.0) g.0.1) (after_inputs bytes g.0 t.0) psbt t.2 in
    let o = bind_ok (maps_at (output_rules (version_of g.0.0)) bytes (output_count t.0) i.0.1) (after_outputs bytes g.0 t.0 i.0) psbt i.2 in
    let made : Psbt = made_of g.0 t.0 i.0 o.0 in
    let l = bind_ok (ended bytes o.0.1 made) (λ read. unless (unjoined (version_of g.0.0) g.0.1 i.0.0) (Ok read)) psbt o.2 in
    let end = ended_ok bytes o.0.1 made l.0 l.1 in
    let j = unless_ok (unjoined (version_of g.0.0) g.0.1 i.0.0) (Ok l.0) psbt l.2 in
    let same : made ≡ psbt = end.1 ∙ ok_is l.0 psbt j.1 in
    let m = unless_ok (misplaced (version_of g.0.0) g.0.0) (outline_or (outline_in (version_of g.0.0) g.0.0) g.0.1) t.0 t.1 in
    let global = pairs_from global_form bytes (suc (length bytes)) [] 5 g.0 fits small g.1 in
    let inputs = maps_from (input_rules (version_of g.0.0)) bytes (input_count t.0) g.0.1 i.0 fits small i.1 in
    let outputs = maps_from (output_rules (version_of g.0.0)) bytes (output_count t.0) i.0.1 o.0 fits small o.1 in
    let at_inputs : g.0.1 ≡ 5 + length (map_text g.0.0) = global.0.long in
    let both = then bytes g.0.1 (flat_map map_text i.0.0) i.0.1 (flat_map map_text o.0.0) o.0.1 inputs.0 outputs.0 in
    let all = then bytes 5 (map_text g.0.0) g.0.1 (flat_map map_text i.0.0 ++ flat_map map_text o.0.0) o.0.1 global.0 both in
    let nothing : drop o.0.1 bytes ≡ [] = drop_all o.0.1 bytes end.0 in
    let front : take 5 bytes ≡ magic = (bytes_eq-Decides (take 5 bytes) magic).0 begins in
    let tail : drop 5 bytes ≡ map_text g.0.0 ++ (flat_map map_text i.0.0 ++ flat_map map_text o.0.0) =
    all.parts ∙ ap (λ (x : Bytes). (map_text g.0.0 ++ (flat_map map_text i.0.0 ++ flat_map map_text o.0.0)) ++ x) nothing ∙ append-nil _ in
    let text : bytes ≡ psbt_text g.0.0 i.0.0 o.0.0 =
    sym (take-append-drop 5 bytes) ∙ ap (λ (x : Bytes). x ++ drop 5 bytes) front ∙ ap (λ (x : Bytes). magic ++ x) tail in
    subst (λ (p : Psbt). IsSound p × (bytes ≡ psbt_text p.global p.inputs p.outputs)) same (
      record {
        global = global.1;
        allowed = m.0;
        outline = t.0;
        said = there_is (outline_in (version_of g.0.0) g.0.0) g.0.1 t.0 m.1;
        inputs = All-from_recursion (IsWholeMap (input_rules (version_of g.0.0))) i.0.0 inputs.1;
        outputs = All-from_recursion (IsWholeMap (output_rules (version_of g.0.0))) o.0.0 outputs.1;
        each_input = inputs.2;
        each_output = outputs.2;
        transaction = refl;
        joined = ap (λ (n : ℕ). unjoined (version_of g.0.0) n i.0.0) (sym at_inputs) ∙ j.0;
      },
      text,
    )
