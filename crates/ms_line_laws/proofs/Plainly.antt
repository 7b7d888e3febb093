-- The characters of reports: each is one that JSON writes as it is, or a line feed.
use Rattle.std.proofs.Common.{ℕ, ◌≡◌, ◌/◌, ◌%◌, ◌<◌, ◌==◌, ◌&&◌, Bool, true, false, List, [], ◌∷◌, ◌++◌, zero, suc, get_or, length, refl, sym, ◌∙◌, ap, arith, if◌then◌else◌}
use Rattle.std.specs.Prelude.{codes, decimal, flat_map, slice_index}
use Rattle.std.specs.Fmt.{digit_glyph, digits_onto, digits}
use Rattle.std.specs.List.{list_all}
use Rattle.std.proofs.lemmas.List.Folds.{list_all-append, list_all_at}
use Rattle.hex.specs.Hex.{encode_with, encode_lower, lower_digits}
use Rattle.def_script.specs.Bytes.{Bytes, IsBytes}
use Rattle.def_lines.specs.Laws.{is_reported}
use Rattle.def_lines.proofs.Lists.{Every}

abbrev pub AreReported : Bytes → Type 0
AreReported bytes = list_all is_reported bytes ≡ true

both : (a b : Bool) → a ≡ true → b ≡ true → (a && b) ≡ true
both a b p q = ap (λ a. a && b) p ∙ q

pub reported : (a b : Bytes) → AreReported a → AreReported b → AreReported (a ++ b)
reported a b p q = list_all-append is_reported a b ∙ both (list_all is_reported a) (list_all is_reported b) p q

pub all_reported : {A : Type 0} (f : A → Bytes) → ((x : A) → AreReported (f x)) → (xs : List A) → AreReported (flat_map f xs)
all_reported f each [] = refl
all_reported f each (x ∷ xs) = reported (f x) (flat_map f xs) (each x) (all_reported f each xs)

-- where it holds of each element that its text is reported
pub each_reported : {A : Type 0} (f : A → Bytes) (P : A → Type 0) → ((x : A) → P x → AreReported (f x)) → (xs : List A) → Every P xs → AreReported (flat_map f xs)
each_reported f P each [] h = refl
each_reported f P each (x ∷ xs) h = reported (f x) (flat_map f xs) (each x h.0) (each_reported f P each xs h.1)

-- what stands at a place of a list that is reported
pub at_place : (xs : Bytes) (i : ℕ) → AreReported xs → i < length xs → is_reported (slice_index xs i) ≡ true
at_place xs i all within = by (is_reported (get_or xs i 0)) refl
  where
    by : (b : Bool) → is_reported (get_or xs i 0) ≡ b → b ≡ true
    by true e = refl
    by false e = absurd (let no = sym all ∙ list_all_at is_reported xs i 0 within e in cc)

-- ---- numbers

abbrev ten_digits : Bytes
ten_digits = codes "0123456789"

glyph_is : (d : ℕ) → d < 10 → digit_glyph false d ≡ slice_index ten_digits d
glyph_is zero h = refl
glyph_is (suc zero) h = refl
glyph_is (suc (suc zero)) h = refl
glyph_is (suc (suc (suc zero))) h = refl
glyph_is (suc (suc (suc (suc zero)))) h = refl
glyph_is (suc (suc (suc (suc (suc zero))))) h = refl
glyph_is (suc (suc (suc (suc (suc (suc zero)))))) h = refl
glyph_is (suc (suc (suc (suc (suc (suc (suc zero))))))) h = refl
glyph_is (suc (suc (suc (suc (suc (suc (suc (suc zero)))))))) h = refl
glyph_is (suc (suc (suc (suc (suc (suc (suc (suc (suc zero))))))))) h = refl
glyph_is (suc (suc (suc (suc (suc (suc (suc (suc (suc (suc d)))))))))) h = absurd (omega arith)

glyph_reported : (n : ℕ) → is_reported (digit_glyph false (n % 10)) ≡ true
glyph_reported n = ap is_reported (glyph_is (n % 10) (omega arith)) ∙ at_place ten_digits (n % 10) refl (omega arith)

chosen : (b : Bool) (one two : Bytes) → AreReported one → AreReported two → AreReported (if b then one else two)
chosen true one two p q = p
chosen false one two p q = q

onto_reported : (k n : ℕ) (acc : Bytes) → AreReported acc → AreReported (digits_onto k 10 false n acc)
onto_reported zero n acc all = all
onto_reported (suc k) n acc all =
    let g = digit_glyph false (n % 10) in
    let more : AreReported (g ∷ acc) = both (is_reported g) (list_all is_reported acc) (glyph_reported n) all in
    chosen (n / 10 == 0) (g ∷ acc) (digits_onto k 10 false (n / 10) (g ∷ acc)) more (onto_reported k (n / 10) (g ∷ acc) more)

-- whatever the number is
pub decimal_reported : (n : ℕ) → AreReported (decimal n)
unfolding digits
decimal_reported n = onto_reported 64 n [] refl

-- ---- bytes in digits

pub hex_reported : (bytes : Bytes) → IsBytes bytes → AreReported (encode_lower bytes)
unfolding encode_with
hex_reported [] all = refl
hex_reported (b ∷ bytes) all =
    let small : b < 256 = all 0 in
    both (is_reported (slice_index lower_digits (b / 16))) _ (at_place lower_digits (b / 16) refl (omega (arith, small)))
    (both (is_reported (slice_index lower_digits (b % 16))) _ (at_place lower_digits (b % 16) refl (omega arith)) (hex_reported bytes (λ i. all (suc i))))
