-- The printed form of a tree is hardly longer than its Script: at most 18 bytes for each of these.
use Rattle.std.proofs.Common.{◌≡◌, ℕ, ◌+◌, ◌*◌, ◌≤◌, ◌<◌, List, [], ◌∷◌, ◌++◌, length, map, codes, decimal, All, refl, ap, arith}
use Rattle.std.proofs.lemmas.List.{length-append}
use Rattle.std.proofs.lemmas.List.Elements.{All-head, All-tail}
use Rattle.std.proofs.lemmas.Fmt.{length-decimal-le}
use Rattle.hex.specs.Hex.{encode_lower, lower_digits}
use Rattle.hex.proofs.HexLemmas.{length-encode_with}
use Rattle.def_hash.specs.declared.HashKind.{HashKind}
use Rattle.def_hash.specs.declared.HashKind.TheVariants as hash_kind
use Rattle.def_hash.specs.Hash.{hash160, digest_length}
use Rattle.def_hash.proofs.Lengths.{digest_has_its_length}
use Rattle.def_script.specs.Bytes.{Bytes}
use Rattle.def_script.specs.declared.Op.TheVariants as op
use Rattle.def_script.specs.Instruction.{Instruction, push, code}
use Rattle.def_script.specs.Spell.{sized_push, byte_push, spell_one, spell}
use Rattle.def_script.proofs.KeyLemmas.{key_length}
use Rattle.def_tree.specs.declared.Two.{Two}
use Rattle.def_tree.specs.declared.Two.TheVariants as kind
use Rattle.def_tree.specs.declared.Wrapper.TheVariants as wrapper
use Rattle.def_tree.specs.Tree.{Tree, Trees, Key, just_0, just_1, pk_k, pk_h, older, after, hash, and_or, two, thresh, multi, wrap, none, more}
use Rattle.def_tree.specs.Range.{IsKey, TEN_DIGITS, IsWritable, AreWritable}
use Rattle.def_text.specs.Word.{hash_name, two_name}
use Rattle.def_text.specs.Print.{printed, printed_behind, printed_keys, printed_children}
use Rattle.def_text.specs.Refusal.{MOST_BYTES}
use Rattle.def_emit.specs.Emit.{push_number, emit, script_of}
use Rattle.def_sane.specs.Unfit.{MOST_SIZE}
use Rattle.ms_decode_laws.proofs.Onto.{back, fused, onto, onto_sum, onto_added, onto_back}
use Rattle.ms_decode_laws.proofs.Few.{spare}

-- ---- instructions

-- how many bytes spell some instructions
abbrev spelled : List Instruction → ℕ
spelled [] = 0
spelled (i ∷ l) = length (spell_one i) + spelled l

spelled_is : (l : List Instruction) → spelled l ≡ length (spell l)
spelled_is [] = refl
spelled_is (i ∷ l) =
    let a = spelled_is l in
    let b : length (spell_one i ++ spell l) ≡ length (spell_one i) + length (spell l) = length-append (spell_one i) (spell l) in
    omega (arith, a, b)

spelled_back : (l m : List Instruction) → spelled (back l m) ≡ spelled l + spelled m
spelled_back [] m = omega arith
spelled_back (i ∷ l) m = omega (arith, spelled_back l (i ∷ m))

-- every instruction takes a byte, and a push the bytes that it pushes
sized_long : (bytes : Bytes) → length bytes + 1 ≤ length (sized_push bytes)
sized_long bytes = grind (arith, length-append)

byte_long : (b : ℕ) → 1 ≤ length (byte_push b)
byte_long b = grind (arith, sized_long (b ∷ []))

pub some_spelled : (i : Instruction) → 1 ≤ length (spell_one i)
some_spelled (push []) = omega arith
some_spelled (push (b ∷ [])) = byte_long b
some_spelled (push (b ∷ c ∷ bytes)) = omega (arith, sized_long (b ∷ c ∷ bytes))
some_spelled (code op) = omega arith

push_long : (bytes : Bytes) → length bytes ≤ length (spell_one (push bytes))
push_long [] = omega arith
push_long (b ∷ []) = byte_long b
push_long (b ∷ c ∷ bytes) = omega (arith, sized_long (b ∷ c ∷ bytes))

-- VERIFY behind some is an instruction, or is fused
spelled_fused : (l : List Instruction) → spelled (fused l) + spare l ≡ spelled l + 1
spelled_fused l = grind arith

spare_fused : (l : List Instruction) → spare (fused l) ≡ 0
spare_fused l = grind arith

spare_low : (l : List Instruction) → spare l ≤ 1
spare_low l = grind arith

-- ---- words

decimal_size : (n : ℕ) → n < TEN_DIGITS → length (decimal n) ≤ 10
decimal_size n h = length-decimal-le 10 n (omega arith) h (omega (arith, h))

key_size : (key : Key) → IsKey key → length (encode_lower key) ≡ 66
key_size key h = omega (arith, length-encode_with lower_digits key, key_length key h.form)

digest_size : (which : HashKind) → digest_length which ≤ 32
digest_size which = grind arith

hash_name_size : (which : HashKind) → length (hash_name which) ≤ 9
hash_name_size hash_kind.Sha256 = omega arith
hash_name_size which = omega arith

two_name_size : (which : Two) → length (two_name which) ≤ 5
two_name_size kind.AndV = omega arith
two_name_size which = omega arith

-- behind letters a colon stands before a fragment
behind_size : (t : Tree) → length (printed_behind (codes ":") t) ≤ length (printed t) + 1
behind_size (wrap w x) = omega arith
behind_size t = omega arith

-- parts of a text, one after the other
two_parts : (a b : Bytes) → length (a ++ b) ≡ length a + length b
two_parts a b = length-append a b

three_parts : (a b c : Bytes) → length ((a ++ b) ++ c) ≡ length a + length b + length c
three_parts a b c = omega (arith, length-append (a ++ b) c, length-append a b)

four_parts : (a b c d : Bytes) → length (((a ++ b) ++ c) ++ d) ≡ length a + length b + length c + length d
four_parts a b c d = omega (arith, length-append ((a ++ b) ++ c) d, three_parts a b c)

six_parts : (a b c d e f : Bytes) → length (((((a ++ b) ++ c) ++ d) ++ e) ++ f) ≡ length a + length b + length c + length d + length e + length f
six_parts a b c d e f = omega (arith, length-append ((((a ++ b) ++ c) ++ d) ++ e) f, length-append (((a ++ b) ++ c) ++ d) e, four_parts a b c d)

-- two expressions behind a name
pair_size : (which : Two) (x y : Tree) → length (printed (two which x y)) ≤ length (printed x) + length (printed y) + 8
pair_size which x y =
    omega (arith, six_parts (two_name which) (codes "(") (printed x) (codes ",") (printed y) (codes ")"), two_name_size which)

-- ---- trees

-- of a text, and of instructions with others behind them
record Light (size : ℕ) (l whole : List Instruction) : Type 0 where
  light : size + 8 + 2 * spare whole + 18 * spelled l ≤ 18 * spelled whole

keys_light : (keys : List Key) → All IsKey keys → (l : List Instruction) → length (printed_keys keys) + 18 * spelled l ≤ 18 * spelled (back (map push keys) l)
keys_light [] h l = omega arith
keys_light (key ∷ keys) h l =
    let own = All-head IsKey key keys h in
    omega (
      arith,
      two_parts (encode_lower key) (printed_keys keys),
      key_size key own,
      push_long key,
      key_length key own.form,
      keys_light keys (All-tail IsKey key keys h) (push key ∷ l),
    )

mutual
  light_of : (t : Tree) → IsWritable t → (l : List Instruction) → Light (length (printed t)) l (onto t l)
  light_of just_0 w l = record { light = omega (arith, some_spelled (push_number 0)) }
  light_of just_1 w l = record { light = omega (arith, some_spelled (push_number 1)) }
  light_of (pk_k key) w l =
      record { light = omega (arith, two_parts (encode_lower key) (codes ")"), key_size key w, push_long key, key_length key w.form) }
  light_of (pk_h key) w l =
      record {
        light = omega (
          arith,
          two_parts (encode_lower key) (codes ")"),
          key_size key w,
          push_long (hash160 key),
          digest_has_its_length hash_kind.Hash160 key,
        );
      }
  light_of (older n) w l =
      record { light = omega (arith, two_parts (decimal n) (codes ")"), decimal_size n w, some_spelled (push_number n)) }
  light_of (after n) w l =
      record { light = omega (arith, two_parts (decimal n) (codes ")"), decimal_size n w, some_spelled (push_number n)) }
  light_of (hash which value) w l =
      record {
        light = omega (
          arith,
          four_parts (hash_name which) (codes "(") (encode_lower value) (codes ")"),
          hash_name_size which,
          length-encode_with lower_digits value,
          w.length,
          digest_size which,
          some_spelled (push value),
          some_spelled (push_number 32),
        );
      }
  light_of (and_or x y z) w l =
      record {
        light = omega (
          arith,
          six_parts (printed x) (codes ",") (printed y) (codes ",") (printed z) (codes ")"),
          (light_of x w.0 l).light,
          (light_of z w.2 (code op.NotIf ∷ onto x l)).light,
          (light_of y w.1 (code op.Else ∷ onto z (code op.NotIf ∷ onto x l))).light,
        );
      }
  light_of (two kind.OrC x y) w l =
      record { light = omega (arith, pair_size kind.OrC x y, (light_of x w.0 l).light, (light_of y w.1 (code op.NotIf ∷ onto x l)).light) }
  light_of (two kind.OrD x y) w l =
      record {
        light = omega (arith, pair_size kind.OrD x y, (light_of x w.0 l).light, (light_of y w.1 (code op.NotIf ∷ code op.IfDup ∷ onto x l)).light);
      }
  light_of (two kind.OrI x y) w l =
      record {
        light = omega (arith, pair_size kind.OrI x y, (light_of x w.0 (code op.If ∷ l)).light, (light_of y w.1 (code op.Else ∷ onto x (code op.If ∷ l))).light);
      }
  light_of (two which x y) w l =
      record { light = omega (arith, pair_size which x y, (light_of x w.0 l).light, (light_of y w.1 (onto x l)).light) }
  light_of (thresh k xs) w l =
      record {
        light = omega (
          arith,
          three_parts (decimal k) (printed_children xs) (codes ")"),
          decimal_size k w.0,
          some_spelled (push_number k),
          sum_light xs w.2 l,
        );
      }
  light_of (multi k keys) w l =
      record {
        light = omega (
          arith,
          three_parts (decimal k) (printed_keys keys) (codes ")"),
          decimal_size k w.0,
          some_spelled (push_number k),
          some_spelled (push_number (length keys)),
          keys_light keys w.2 (push_number k ∷ l),
        );
      }
  light_of (wrap wrapper.A x) w l = record { light = omega (arith, behind_size x, (light_of x w (code op.ToAltStack ∷ l)).light) }
  light_of (wrap wrapper.S x) w l = record { light = omega (arith, behind_size x, (light_of x w (code op.Swap ∷ l)).light) }
  light_of (wrap wrapper.D x) w l = record { light = omega (arith, behind_size x, (light_of x w (code op.If ∷ code op.Dup ∷ l)).light) }
  light_of (wrap wrapper.V x) w l =
      record {
        light = omega (arith, behind_size x, (light_of x w l).light, spelled_fused (onto x l), spare_fused (onto x l), spare_low (onto x l));
      }
  light_of (wrap wrapper.J x) w l =
      record { light = omega (arith, behind_size x, (light_of x w (code op.If ∷ code op.ZeroNotEqual ∷ code op.Size ∷ l)).light) }
  light_of (wrap letter x) w l = record { light = omega (arith, behind_size x, (light_of x w l).light) }

  sum_light : (xs : Trees) → AreWritable xs → (l : List Instruction) → length (printed_children xs) + 18 * spelled l ≤ 18 * spelled (onto_sum xs l)
  sum_light none w l = omega arith
  sum_light (more x xs) w l =
      omega (arith, two_parts (printed x) (printed_children xs), (light_of x w.0 l).light, added_light xs w.1 (onto x l))

  added_light : (xs : Trees) → AreWritable xs → (l : List Instruction) → length (printed_children xs) + 18 * spelled l ≤ 18 * spelled (onto_added xs l)
  added_light none w l = omega arith
  added_light (more x xs) w l =
      omega (arith, two_parts (printed x) (printed_children xs), (light_of x w.0 l).light, added_light xs w.1 (code op.Add ∷ onto x l))

-- so it isn't too long for a text
pub printed_is_short : (t : Tree) → IsWritable t → length (script_of t) ≤ MOST_SIZE → length (printed t) ≤ MOST_BYTES
printed_is_short t w short =
    let a = (light_of t w []).light in
    let b : spelled (onto t []) ≡ spelled (back (emit t) []) = ap spelled (onto_back t []) in
    omega (arith, a, b, spelled_back (emit t) [], spelled_is (emit t), short)
