-- A witness that is read was written so.
use Rattle.std.proofs.Common.{◌≡◌, ℕ, zero, suc, ◌^◌, ◌<◌, nat_le, List, [], ◌∷◌, ◌++◌, length, take, drop, Some, None, Ok, Err, refl, sym, ap, subst, ◌∙◌, append_assoc, arith}
use Rattle.std.specs.List.{flat_map, AllByRecursion}
use Rattle.std.proofs.lemmas.Bool.{leb-true}
use Rattle.std.proofs.lemmas.List.{take-append-drop, length-take-le, append-nil, nil_from_length}
use Rattle.std.proofs.lemmas.List.Concat.{flat_map-cons}
use Rattle.def_script.specs.Bytes.{Bytes, IsBytes}
use Rattle.def_script.specs.Sizes.{SizeReading, size_bytes, read_size}
use Rattle.def_script.specs.Witness.{sized, items_text}
use Rattle.def_script.proofs.Sizing.{size_has_one_spelling}
use Rattle.def_psbt.specs.Part.{Part, ◌>>=◌, first_bytes, size_part, first_size, first_string, first_many, first_list, whole}
use Rattle.def_psbt.specs.Forms as forms
use Rattle.ms_given_laws.proofs.BytesOf.{dropped}
use Rattle.ms_given_laws.proofs.Parts.{bind_some, some_is, guard_some, size_low}
use Rattle.ms_given_laws.proofs.PartsBack.{AreItems}

-- bytes are these, and what is behind them
pub record Begins (bytes text rest : Bytes) : Type 0 where
  pub parts : bytes ≡ text ++ rest
  pub fits : IsBytes rest

size_written : (bytes : Bytes) (read : ℕ × Bytes) → IsBytes bytes → first_size bytes ≡ Some read → Begins bytes (size_bytes read.0) read.1 × (read.0 < 2 ^ 64)
unfolding first_size
size_written bytes read fits e = go (read_size bytes) refl e
  where
    go : (reading : SizeReading) → read_size bytes ≡ reading → size_part bytes reading ≡ Some read → Begins bytes (size_bytes read.0) read.1 × (read.0 < 2 ^ 64)
    go (Ok size) is e =
        subst (λ (r : ℕ × Bytes). Begins bytes (size_bytes r.0) r.1 × (r.0 < 2 ^ 64)) (some_is (size.0, drop size.1 bytes) read e)
        (record { parts = size_has_one_spelling bytes size fits is; fits = dropped size.1 bytes fits }, size_low bytes size fits is)
    go (Err fault) is e = absurd cc

string_written : (bytes : Bytes) (read : Bytes × Bytes) → IsBytes bytes → first_string bytes ≡ Some read → Begins bytes (sized read.0) read.1 × (length read.0 < 2 ^ 64)
unfolding first_string first_bytes
string_written bytes read fits e =
    let s = bind_some (first_size bytes) (λ size. first_bytes size.0 size.1) read e in
    let size = size_written bytes s.0 fits s.1 in
    let g = guard_some (nat_le s.0.0 (length s.0.1)) (take s.0.0 s.0.1, drop s.0.0 s.0.1) read s.2 in
    let long : length (take s.0.0 s.0.1) ≡ s.0.0 = length-take-le s.0.0 s.0.1 (leb-true s.0.0 (length s.0.1) g.0) in
    let low = size.1 in
    let parts : bytes ≡ sized (take s.0.0 s.0.1) ++ drop s.0.0 s.0.1 =
    size.0.parts ∙ ap (λ (l : Bytes). size_bytes s.0.0 ++ l) (sym (take-append-drop s.0.0 s.0.1))
    ∙ sym (append_assoc (size_bytes s.0.0) (take s.0.0 s.0.1) (drop s.0.0 s.0.1))
    ∙ ap (λ (n : ℕ). (size_bytes n ++ take s.0.0 s.0.1) ++ drop s.0.0 s.0.1) (sym long) in
    subst (λ (r : Bytes × Bytes). Begins bytes (sized r.0) r.1 × (length r.0 < 2 ^ 64)) g.1
    (record { parts = parts; fits = dropped s.0.0 s.0.1 size.0.fits }, omega (arith, long, low))

strings_written : (count : ℕ) (bytes : Bytes) (read : List Bytes × Bytes) → IsBytes bytes → first_many first_string count bytes ≡ Some read
    → Begins bytes (flat_map sized read.0) read.1 × AllByRecursion (λ (item : Bytes). length item < 2 ^ 64) read.0 × (length read.0 ≡ count)
unfolding first_many
strings_written zero bytes read fits e =
    subst (λ (r : List Bytes × Bytes). Begins bytes (flat_map sized r.0) r.1 × AllByRecursion (λ (item : Bytes). length item < 2 ^ 64) r.0 × (length r.0 ≡ 0))
    (some_is ([], bytes) read e) (record { parts = refl; fits = fits }, tt, refl)
strings_written (suc count) bytes read fits e =
    let p = bind_some (first_string bytes) (λ part. first_many first_string count part.1 >>= λ parts. Some (part.0 ∷ parts.0, parts.1)) read e in
    let q = bind_some (first_many first_string count p.0.1) (λ parts. Some (p.0.0 ∷ parts.0, parts.1)) read p.2 in
    let one = string_written bytes p.0 fits p.1 in
    let others = strings_written count p.0.1 q.0 one.0.fits q.1 in
    let parts : bytes ≡ flat_map sized (p.0.0 ∷ q.0.0) ++ q.0.1 =
    one.0.parts ∙ ap (λ (l : Bytes). sized p.0.0 ++ l) others.0.parts ∙ sym (append_assoc (sized p.0.0) (flat_map sized q.0.0) q.0.1)
    ∙ ap (λ (l : Bytes). l ++ q.0.1) (sym (flat_map-cons sized p.0.0 q.0.0)) in
    subst (λ (r : List Bytes × Bytes). Begins bytes (flat_map sized r.0) r.1 × AllByRecursion (λ (item : Bytes). length item < 2 ^ 64) r.0 × (length r.0 ≡ suc count))
    (some_is (p.0.0 ∷ q.0.0, q.0.1) read q.2) (record { parts = parts; fits = others.0.fits }, (one.1, others.1), ap suc others.2)

-- a witness, whole
pub witness_written : (bytes : Bytes) (items : List Bytes) → IsBytes bytes → forms.witness_of bytes ≡ Some items → (bytes ≡ items_text items) × AreItems items
unfolding whole first_list
witness_written bytes items fits e = go (first_list first_string bytes) refl e
  where
    go : (o : Part (List Bytes)) → first_list first_string bytes ≡ o → whole o ≡ Some items → (bytes ≡ items_text items) × AreItems items
    go None is e = absurd cc
    go (Some read) is e =
        let g = guard_some (nat_le (length read.1) 0) read.0 items e in
        let nothing : read.1 ≡ [] = nil_from_length read.1 (omega (arith, leb-true (length read.1) 0 g.0)) in
        let c = bind_some (first_size bytes) (λ count. first_many first_string count.0 count.1) read is in
        let size = size_written bytes c.0 fits c.1 in
        let strings = strings_written c.0.0 c.0.1 read size.0.fits c.2 in
        let low = size.1 in
        let long = strings.2 in
        let parts : bytes ≡ items_text read.0 =
        size.0.parts ∙ ap (λ (l : Bytes). size_bytes c.0.0 ++ l) (strings.0.parts ∙ ap (λ (l : Bytes). flat_map sized read.0 ++ l) nothing ∙ append-nil (flat_map sized read.0))
        ∙ ap (λ (n : ℕ). size_bytes n ++ flat_map sized read.0) (sym long) in
        subst (λ (l : List Bytes). (bytes ≡ items_text l) × AreItems l) g.1 (parts, record { few = omega (arith, long, low); short = strings.1 })
