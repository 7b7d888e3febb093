-- A key in two slots: no two keys are packed alike.
use Rattle.std.proofs.Common.{◌≡◌, ◌<◌, ℕ, ◌+◌, ◌/◌, ◌^◌, true, nat_eq, List, [], ◌∷◌, ◌++◌, length, take, drop, get_or, pos, ℤ, ⊎_elim, refl, sym, ◌∙◌, ap, arith, subst}
use Rattle.std.specs.Int.{w64, from_be_bytes, cast_signed}
use Rattle.std.specs.Simd.{first_chunks}
use Rattle.std.proofs.lemmas.Bool.{eqb-true, eq-eqb}
use Rattle.std.specs.Str.{bytes_eq}
use Rattle.std.proofs.lemmas.Bool.{and_parts, cases_lt}
use Rattle.std.proofs.lemmas.Bool.Decides.{same_from_decides}
use Rattle.std.proofs.lemmas.Int.{of_z-to_z}
use Rattle.std.proofs.lemmas.Nat.{be_bytes_8}
use Rattle.std.proofs.lemmas.List.{take-append-drop, length-take-le, length-drop, get_or-take, get_or-drop, get_or_past, drop-drop, drop_all}
use Rattle.std.proofs.lemmas.Slice.Eq.{bytes_eq-Decides}
use Rattle.std.proofs.Math.Seq.{drop-cons}
use Rattle.def_script.specs.Bytes.{IsBytes}
use Rattle.def_tree.specs.Tree.{Key}
use Rattle.def_tree.specs.Range.{IsKey}
use Rattle.ms_mixing.specs.Scaffolding.Repeats.{word, entry, is_equal, is_same}
use Rattle.def_script.proofs.KeyLemmas.{key_length}

-- eight bytes make a number of 64 bits
within : (bytes : List ℕ) → IsBytes bytes → from_be_bytes w64 bytes < 2 ^ 64
within bytes all = omega (arith, all 0, all 1, all 2, all 3, all 4, all 5, all 6, all 7)

-- so many bytes
record AreBytes (count : ℕ) (xs : List ℕ) : Type 0 where
  count_is : length xs ≡ count
  all : IsBytes xs

-- no other eight bytes make the same number
word_injective : (xs ys : List ℕ) → AreBytes 8 xs → AreBytes 8 ys → from_be_bytes w64 xs ≡ from_be_bytes w64 ys → xs ≡ ys
word_injective xs ys x y same = sym (be_bytes_8 xs (from_be_bytes w64 xs) x.count_is x.all refl) ∙ be_bytes_8 ys (from_be_bytes w64 xs) y.count_is y.all same

-- the first eight of more, and the others
first_eight : (n : ℕ) (bytes : List ℕ) → AreBytes (8 + n) bytes → AreBytes 8 (take 8 bytes)
first_eight n bytes are = record {
  count_is = length-take-le 8 bytes (omega (arith, are.count_is));
  all = λ i. ⊎_elim (λ below. rw (get_or-take 8 bytes i 0 below) (are.all i))
      (λ past. rw (get_or_past (take 8 bytes) i 0 (omega (arith, past, length-take-le 8 bytes (omega (arith, are.count_is))))) (omega arith)) (cases_lt i 8);
}

others : (n : ℕ) (bytes : List ℕ) → AreBytes (8 + n) bytes → AreBytes n (drop 8 bytes)
others n bytes are = record {
  count_is = omega (arith, length-drop 8 bytes, are.count_is);
  all = λ i. rw (get_or-drop 8 bytes i 0) (are.all (8 + i));
}

-- what two slots hold is the same only where the numbers are
same_number : (x y : ℕ) → x < 2 ^ 64 → y < 2 ^ 64 → is_equal (cast_signed w64 x) (cast_signed w64 y) ≡ true → x ≡ y
same_number x y x_fits y_fits same = sym (of_z-to_z w64 x x_fits) ∙ eqb-true _ _ same ∙ of_z-to_z w64 y y_fits

-- bytes whose first eight make the same number, and whose others are the same
from_parts : (n : ℕ) (xs ys : List ℕ) → AreBytes (8 + n) xs → AreBytes (8 + n) ys → is_equal (word (take 8 xs)) (word (take 8 ys)) ≡ true → drop 8 xs ≡ drop 8 ys → xs ≡ ys
from_parts n xs ys x y first rest =
    let x_eight = first_eight n xs x in
    let y_eight = first_eight n ys y in
    let number = same_number _ _ (within (take 8 xs) x_eight.all) (within (take 8 ys) y_eight.all) first in
    sym (take-append-drop 8 xs)
    ∙ ap (λ l. l ++ drop 8 xs) (word_injective (take 8 xs) (take 8 ys) x_eight y_eight number)
    ∙ ap (λ l. take 8 ys ++ l) rest
    ∙ take-append-drop 8 ys

-- the last byte of a key stands alone
last_alone : (key : Key) → length key ≡ 33 → drop 8 (drop 8 (drop 8 (drop 8 key))) ≡ get_or key 32 0 ∷ []
last_alone key long =
    rw (drop-drop 8 8 key, drop-drop 8 16 key, drop-drop 8 24 key, drop-cons key 32 0 (omega (arith, long)), drop_all 33 key (omega (arith, long))) refl

-- two keys in whose slots each number is the same are the same
record AreAlike (k l : Key) : Type 0 where
  first : is_equal (word (take 8 k)) (word (take 8 l)) ≡ true
  second : is_equal (word (take 8 (drop 8 k))) (word (take 8 (drop 8 l))) ≡ true
  third : is_equal (word (take 8 (drop 8 (drop 8 k)))) (word (take 8 (drop 8 (drop 8 l)))) ≡ true
  fourth : is_equal (word (take 8 (drop 8 (drop 8 (drop 8 k))))) (word (take 8 (drop 8 (drop 8 (drop 8 l))))) ≡ true
  last : is_equal (cast_signed w64 (get_or k 32 0)) (cast_signed w64 (get_or l 32 0)) ≡ true

from_slots : (k l : Key) → IsKey k → IsKey l → AreAlike k l → k ≡ l
from_slots k l k_is l_is alike =
    let k_33 : AreBytes 33 k = record { count_is = key_length k k_is.form; all = k_is.bytes } in
    let l_33 : AreBytes 33 l = record { count_is = key_length l l_is.form; all = l_is.bytes } in
    let k_25 = others 25 k k_33 in
    let l_25 = others 25 l l_33 in
    let k_17 = others 17 (drop 8 k) k_25 in
    let l_17 = others 17 (drop 8 l) l_25 in
    let k_9 = others 9 (drop 8 (drop 8 k)) k_17 in
    let l_9 = others 9 (drop 8 (drop 8 l)) l_17 in
    let byte = same_number (get_or k 32 0) (get_or l 32 0) (omega (arith, k_is.bytes 32)) (omega (arith, l_is.bytes 32)) alike.last in
    let ends : drop 8 (drop 8 (drop 8 (drop 8 k))) ≡ drop 8 (drop 8 (drop 8 (drop 8 l))) =
    last_alone k (key_length k k_is.form) ∙ ap (λ b. b ∷ []) byte ∙ sym (last_alone l (key_length l l_is.form)) in
    from_parts 25 k l k_33 l_33 alike.first
    (from_parts 17 (drop 8 k) (drop 8 l) k_25 l_25 alike.second
    (from_parts 9 (drop 8 (drop 8 k)) (drop 8 (drop 8 l)) k_17 l_17 alike.third
    (from_parts 1 (drop 8 (drop 8 (drop 8 k))) (drop 8 (drop 8 (drop 8 l))) k_9 l_9 alike.fourth ends)))

-- two entries are the same exactly where their keys are
pub same_keys : (m : ℕ) (k : Key) (n : ℕ) (l : Key) → IsKey k → IsKey l → is_same (entry (m, k)) (entry (n, l)) ≡ bytes_eq k l
same_keys m k n l k_is l_is = same_from_decides _ _ (apart, alike) (bytes_eq-Decides k l)
  where
    itself : (x : ℕ) → nat_eq x x ≡ true
    itself x = eq-eqb x x refl

    alike : k ≡ l → is_same (entry (m, k)) (entry (n, l)) ≡ true
    alike same = subst (λ (other : Key). is_same (entry (m, k)) (entry (n, other)) ≡ true) same (simp itself refl)

    apart : is_same (entry (m, k)) (entry (n, l)) ≡ true → k ≡ l
    apart same =
        let four = and_parts _ _ same in
        let three = and_parts _ _ four.0 in
        let two = and_parts _ _ three.0 in
        let one = and_parts _ _ two.0 in
        from_slots k l k_is l_is (record { first = one.0; second = one.1; third = two.1; fourth = three.1; last = four.1 })

-- so an entry is what the words of a key and its last byte make
pub packed : (node : ℕ) (key : Key) (words : List (List ℕ)) (a b c d : ℤ) → IsKey key → words ≡ first_chunks 8 (length key / 8) key
    → a ≡ word (get_or words 0 []) → b ≡ word (get_or words 1 []) → c ≡ word (get_or words 2 []) → d ≡ word (get_or words 3 [])
    → (record { first = a; second = b; third = c; place = 0 } ∷ record { first = d; second = cast_signed w64 (get_or key 32 0); third = pos 0; place = node } ∷ []) ≡ entry (node, key)
packed node key words a b c d is chunks first second third fourth =
    let four : words ≡ first_chunks 8 4 key = rw (key_length key is.form) at chunks in
    rw (first, second, third, fourth, four) (refl {a = entry (node, key)})
