-- What is read at the front of bytes was written so, and is read back.
use Rattle.std.proofs.Common.{◌≡◌, ℕ, zero, suc, ◌+◌, ◌-◌, ◌^◌, ◌<◌, ◌≤◌, ⊎_elim, nat_le, Bool, true, false, cond, List, [], ◌∷◌, ◌++◌, length, length-append, take, drop, Option, Some, None, Ok, Err, refl, sym, ap, subst, ◌∙◌, append_assoc, arith}
use Rattle.std.proofs.lemmas.Bool.{cases_lt, leb-true, le-leb}
use Rattle.std.proofs.lemmas.List.{length-take-le, take_at, drop_at, take-append-drop, get_or-append-add, get_or_append_left, get_or_past}
use Rattle.std.proofs.lemmas.List.Concat.{flat_map-cons}
use Rattle.std.proofs.lemmas.Nat.{le_bytes_4, le_bytes_8}
use Rattle.std.specs.Int.{Width, byte_len, w32, w64, to_le_bytes, from_le_bytes}
use Rattle.std.specs.List.{flat_map, AllByRecursion}
use Rattle.def_script.specs.Bytes.{Bytes, IsBytes}
use Rattle.def_script.specs.Sizes.{SizeReading, size_bytes, read_size}
use Rattle.def_script.specs.Witness.{sized}
use Rattle.def_script.proofs.Sizing.{size_has_one_spelling}
use Rattle.def_psbt.specs.Part.{Part, ◌>>=◌, first_bytes, first_number, first_size, size_part, first_string, first_many, first_list}
use Rattle.ms_psbt.specs.Pairs.{parts_in}

pub bind_some : {A B : Type 0} (o : Option A) (f : A → Option B) (y : B) → (o >>= f) ≡ Some y → (x : A) × (o ≡ Some x) × (f x ≡ Some y)
bind_some (Some x) f y e = (x, refl, e)
bind_some None f y e = absurd cc

pub some_is : {A : Type 0} (x y : A) → Some x ≡ Some y → x ≡ y
some_is x y e = cc

-- ---- bytes behind others

fits_behind : (front rest : Bytes) → IsBytes (front ++ rest) → IsBytes rest
fits_behind front rest h i = let at = get_or-append-add front rest i 0 in subst (λ (n : ℕ). n < 256) at (h (length front + i))

fits_before : (front rest : Bytes) → IsBytes (front ++ rest) → IsBytes front
fits_before front rest h i =
    ⊎_elim (λ inside. subst (λ (n : ℕ). n < 256) (get_or_append_left front rest 0 i inside) (h i))
    (λ past. subst (λ (n : ℕ). n < 256) (sym (get_or_past front i 0 past)) (omega arith)) (cases_lt i (length front))

-- a part that was read: its bytes stand at the front, and the others behind them
pub record Reads {A : Type 0} (text : A → Bytes) (good : A → Type 0) (bytes : Bytes) (part : A × Bytes) : Type 0 where
  pub is : bytes ≡ text part.0 ++ part.1
  pub good_part : good part.0
  pub fits : IsBytes part.1

-- what a reading gives was written so
abbrev pub Spells : {A : Type 0} → (Bytes → Part A) → (text : A → Bytes) → (good : A → Type 0) → Type 0
Spells {A} first text good = (bytes : Bytes) (part : A × Bytes) → IsBytes bytes → first bytes ≡ Some part → Reads text good bytes part

-- what was written is read back
abbrev pub ReadsBack : {A : Type 0} → (Bytes → Part A) → (text : A → Bytes) → (good : A → Type 0) → Type 0
ReadsBack {A} first text good = (x : A) (rest : Bytes) → good x → first (text x ++ rest) ≡ Some (x, rest)

-- ---- what stands before the rest of bytes

pub rest_inside : (bytes front rest : Bytes) → bytes ≡ front ++ rest → length rest ≤ length bytes
rest_inside bytes front rest e = omega (arith, ap length e, length-append front rest)

pub before_is : (bytes front rest : Bytes) → bytes ≡ front ++ rest → take (length bytes - length rest) bytes ≡ front
before_is bytes front rest e =
    let size : length front ≡ length bytes - length rest = omega (arith, ap length e, length-append front rest) in
    ap (take (length bytes - length rest)) e ∙ take_at front rest (length bytes - length rest) size

-- ---- so many bytes, numbers, sizes and strings

guarded : {A : Type 0} (b : Bool) (x y : A) → cond b (Some x) None ≡ Some y → (b ≡ true) × (x ≡ y)
guarded true x y e = (refl, some_is x y e)
guarded false x y e = absurd cc

pub bytes_spelled : (count : ℕ) → Spells (first_bytes count) (λ bytes. bytes) (λ bytes. length bytes ≡ count)
unfolding first_bytes
bytes_spelled count bytes part fits e =
    let g = guarded (nat_le count (length bytes)) (take count bytes, drop count bytes) part e in
    let there : count ≤ length bytes = leb-true _ _ g.0 in
    let split : take count bytes ++ drop count bytes ≡ bytes = take-append-drop count bytes in
    let behind : IsBytes (drop count bytes) = fits_behind (take count bytes) (drop count bytes) (subst IsBytes (sym split) fits) in
    subst (λ (p : Bytes × Bytes). Reads (λ (x : Bytes). x) (λ (x : Bytes). length x ≡ count) bytes p) g.1
    (record { is = sym split; good_part = length-take-le count bytes there; fits = behind })

pub bytes_back : (bytes rest : Bytes) → first_bytes (length bytes) (bytes ++ rest) ≡ Some (bytes, rest)
unfolding first_bytes
bytes_back bytes rest =
    let there : nat_le (length bytes) (length (bytes ++ rest)) ≡ true = le-leb _ _ (omega (arith, length-append bytes rest)) in
    rw (there, take_at bytes rest (length bytes) refl, drop_at bytes rest (length bytes) refl) refl

-- a number that is read back from its bytes
abbrev pub IsNumber : Width → ℕ → Type 0
IsNumber width n = from_le_bytes width (to_le_bytes width n) ≡ n

number_some : (width : Width) → ((bytes : Bytes) → length bytes ≡ byte_len width → IsBytes bytes → to_le_bytes width (from_le_bytes width bytes) ≡ bytes)
    → Spells (first_number width) (to_le_bytes width) (IsNumber width)
unfolding first_number
number_some width back bytes part fits e =
    let b = bind_some (first_bytes (byte_len width) bytes) (λ p. Some (from_le_bytes width p.0, p.1)) part e in
    let s = bytes_spelled (byte_len width) bytes b.0 fits b.1 in
    let front : IsBytes b.0.0 = fits_before b.0.0 b.0.1 (subst IsBytes s.is fits) in
    let spelled : to_le_bytes width (from_le_bytes width b.0.0) ≡ b.0.0 = back b.0.0 s.good_part front in
    subst (λ (p : ℕ × Bytes). Reads (to_le_bytes width) (IsNumber width) bytes p) (some_is (from_le_bytes width b.0.0, b.0.1) part b.2)
    (record { is = s.is ∙ ap (λ (x : Bytes). x ++ b.0.1) (sym spelled); good_part = ap (from_le_bytes width) spelled; fits = s.fits })

pub u32_spelled : Spells (first_number w32) (to_le_bytes w32) (IsNumber w32)
u32_spelled = number_some w32 (λ bytes long fits. le_bytes_4 bytes (from_le_bytes w32 bytes) long fits refl)

pub u64_spelled : Spells (first_number w64) (to_le_bytes w64) (IsNumber w64)
u64_spelled = number_some w64 (λ bytes long fits. le_bytes_8 bytes (from_le_bytes w64 bytes) long fits refl)

number_back : (width : Width) (n : ℕ) (rest : Bytes) → length (to_le_bytes width n) ≡ byte_len width → IsNumber width n → first_number width (to_le_bytes width n ++ rest) ≡ Some (n, rest)
unfolding first_number
number_back width n rest long is =
    let front : first_bytes (byte_len width) (to_le_bytes width n ++ rest) ≡ Some (to_le_bytes width n, rest) =
    ap (λ (k : ℕ). first_bytes k (to_le_bytes width n ++ rest)) (sym long) ∙ bytes_back (to_le_bytes width n) rest in
    rw (front, is) refl

pub u32_back : ReadsBack (first_number w32) (to_le_bytes w32) (IsNumber w32)
u32_back n rest is = number_back w32 n rest refl is

pub u64_back : ReadsBack (first_number w64) (to_le_bytes w64) (IsNumber w64)
u64_back n rest is = number_back w64 n rest refl is

pub size_spelled : (bytes : Bytes) (part : ℕ × Bytes) → IsBytes bytes → first_size bytes ≡ Some part → (bytes ≡ size_bytes part.0 ++ part.1) × IsBytes part.1
unfolding first_size
size_spelled bytes part fits e = go (read_size bytes) refl e
  where
    go : (reading : SizeReading) → read_size bytes ≡ reading → size_part bytes reading ≡ Some part → (bytes ≡ size_bytes part.0 ++ part.1) × IsBytes part.1
    go (Ok read) is e =
        let spelled : bytes ≡ size_bytes read.0 ++ drop read.1 bytes = size_has_one_spelling bytes read fits is in
        subst (λ (p : ℕ × Bytes). (bytes ≡ size_bytes p.0 ++ p.1) × IsBytes p.1) (some_is (read.0, drop read.1 bytes) part e)
        (spelled, fits_behind (size_bytes read.0) (drop read.1 bytes) (subst IsBytes spelled fits))
    go (Err fault) is e = absurd cc

-- a length that can be spelled
abbrev pub IsShort : Bytes → Type 0
IsShort bytes = length bytes < 2 ^ 64

pub string_spelled : (bytes : Bytes) (part : Bytes × Bytes) → length bytes < 2 ^ 64 → IsBytes bytes → first_string bytes ≡ Some part → Reads sized IsShort bytes part
unfolding first_string
string_spelled bytes part small fits e =
    let z = bind_some (first_size bytes) (λ size. first_bytes size.0 size.1) part e in
    let size = size_spelled bytes z.0 fits z.1 in
    let b = bytes_spelled z.0.0 z.0.1 part size.1 z.2 in
    let text : bytes ≡ size_bytes (length part.0) ++ (part.0 ++ part.1) = size.0 ∙ ap (λ (x : Bytes). size_bytes z.0.0 ++ x) b.is
    ∙ ap (λ (n : ℕ). size_bytes n ++ (part.0 ++ part.1)) (sym b.good_part) in
    let long : length bytes ≡ length (size_bytes (length part.0)) + (length part.0 + length part.1) =
    ap length text ∙ length-append (size_bytes (length part.0)) (part.0 ++ part.1) ∙ ap (λ (n : ℕ). length (size_bytes (length part.0)) + n) (length-append part.0 part.1) in
    record { is = text ∙ sym (append_assoc (size_bytes (length part.0)) part.0 part.1); good_part = omega arith; fits = b.fits }

-- ---- many parts, one after the other

-- the parts of a list that was read, each behind the one before
pub record ReadsMany {A : Type 0} (text : A → Bytes) (good : A → Type 0) (count : ℕ) (bytes : Bytes) (part : List A × Bytes) : Type 0 where
  pub is : bytes ≡ flat_map text part.0 ++ part.1
  pub each : AllByRecursion good part.0
  pub number : length part.0 ≡ count
  pub fits : IsBytes part.1

module _ {A : Type 0} (first : Bytes → Part A) (text : A → Bytes) (good : A → Type 0) where
  -- parts of bytes that are fewer than 2^64
  abbrev pub SpellsShort : Type 0
  SpellsShort = (bytes : Bytes) (part : A × Bytes) → length bytes < 2 ^ 64 → IsBytes bytes → first bytes ≡ Some part → Reads text good bytes part

  pub many_spelled : SpellsShort → (count : ℕ) (bytes : Bytes) (part : List A × Bytes) → length bytes < 2 ^ 64 → IsBytes bytes → first_many first count bytes
      ≡ Some part → ReadsMany text good count bytes part
  unfolding first_many
  many_spelled spells zero bytes part small fits e =
      subst (λ (p : List A × Bytes). ReadsMany text good zero bytes p) (some_is ([], bytes) part e) (record { is = refl; each = tt; number = refl; fits = fits })
  many_spelled spells (suc count) bytes part small fits e =
      let f = bind_some (first bytes) (λ p. first_many first count p.1 >>= λ ps. Some (p.0 ∷ ps.0, ps.1)) part e in
      let m = bind_some (first_many first count f.0.1) (λ ps. Some (f.0.0 ∷ ps.0, ps.1)) part f.2 in
      let one = spells bytes f.0 small fits f.1 in
      let fewer : length bytes ≡ length (text f.0.0) + length f.0.1 = ap length one.is ∙ length-append (text f.0.0) f.0.1 in
      let others = many_spelled spells count f.0.1 m.0 (omega arith) one.fits m.1 in
      let whole : bytes ≡ flat_map text (f.0.0 ∷ m.0.0) ++ m.0.1 =
      one.is ∙ ap (λ (x : Bytes). text f.0.0 ++ x) others.is ∙ sym (append_assoc (text f.0.0) (flat_map text m.0.0) m.0.1) ∙ ap (λ (x : Bytes). x ++ m.0.1) (sym (flat_map-cons text f.0.0 m.0.0)) in
      subst (λ (p : List A × Bytes). ReadsMany text good (suc count) bytes p) (some_is (f.0.0 ∷ m.0.0, m.0.1) part m.2)
      (record { is = whole; each = (one.good_part, others.each); number = ap suc others.number; fits = others.fits })

  -- behind their number
  pub list_spelled : SpellsShort → (bytes : Bytes) (part : List A × Bytes) → length bytes < 2 ^ 64 → IsBytes bytes → first_list first bytes ≡ Some part
      → (size : ℕ × Bytes) × (first_size bytes ≡ Some size) × (bytes ≡ size_bytes size.0 ++ size.1) × ReadsMany text good size.0 size.1 part
  unfolding first_list
  list_spelled spells bytes part small fits e =
      let z = bind_some (first_size bytes) (λ count. first_many first count.0 count.1) part e in
      let size = size_spelled bytes z.0 fits z.1 in
      let fewer : length bytes ≡ length (size_bytes z.0.0) + length z.0.1 = ap length size.0 ∙ length-append (size_bytes z.0.0) z.0.1 in
      (z.0, z.1, size.0, many_spelled spells z.0.0 z.0.1 part (omega arith) size.1 z.2)

  -- parts that were written are read back, as many as there are
  pub many_back : ReadsBack first text good → first [] ≡ None → (xs : List A) (room : ℕ) → AllByRecursion good xs → length xs ≤ room → parts_in first room (flat_map text xs) ≡ xs
  unfolding parts_in
  many_back back none [] zero all less = refl
  many_back back none [] (suc room) all less = rw none refl
  many_back back none (x ∷ xs) zero all less = absurd (omega arith)
  many_back back none (x ∷ xs) (suc room) all less =
      let one : first (text x ++ flat_map text xs) ≡ Some (x, flat_map text xs) = back x (flat_map text xs) all.0 in
      rw (flat_map-cons text x xs, one) (ap (λ (ys : List A). x ∷ ys) (many_back back none xs room all.1 (omega arith)))

  pub enough : ((x : A) → 1 ≤ length (text x)) → (xs : List A) → length xs ≤ length (flat_map text xs)
  enough some [] = omega arith
  enough some (x ∷ xs) =
      let long : length (flat_map text (x ∷ xs)) ≡ length (text x) + length (flat_map text xs) = ap length (flat_map-cons text x xs) ∙ length-append (text x) (flat_map text xs) in
      omega (arith, some x, enough some xs)

  -- the parts that bytes are
  pub all_back : ReadsBack first text good → first [] ≡ None → ((x : A) → 1 ≤ length (text x)) → (bytes : Bytes) (xs : List A) → bytes ≡ flat_map text xs → AllByRecursion good xs
      → parts_in first (length bytes) bytes ≡ xs
  all_back back none some bytes xs e all =
      ap (λ (b : Bytes). parts_in first (length b) b) e ∙ many_back back none xs (length (flat_map text xs)) all (enough some xs)
