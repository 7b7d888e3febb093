-- The Script of a tree that can be written is a byte string.
use Rattle.std.proofs.Common.{ℕ, zero, suc, ℤ, pos, negsuc, ◌≡◌, ◌+◌, ◌%◌, ◌/◌, ◌<◌, ◌≤◌, ◌==◌, ◌&&◌, Bool, true, false, List, [], ◌∷◌, ◌++◌, length, map, Option, Some, None, refl, arith, rules, if◌then◌else◌}
use Rattle.std.specs.Prelude.{⊤, nat_lt, nat_le, All}
use Rattle.std.specs.Int.{w16, w32, to_le_bytes, byte_at, bytes_low_first}
use Rattle.def_hash.specs.declared.HashKind.TheVariants as hash_kind
use Rattle.def_hash.proofs.Lengths.{digest_has_bytes}
use Rattle.def_script.specs.declared.Op.{Op}
use Rattle.def_script.specs.declared.Op.TheVariants as op
use Rattle.def_script.specs.Bytes.{Bytes, IsBytes}
use Rattle.def_script.specs.Instruction.{Instruction, push, code}
use Rattle.def_script.specs.Numbers.{sign_bit, natural_bytes, signed_bytes, number_bytes}
use Rattle.def_script.specs.Spell.{opcode_byte, sized_push, byte_push, shortest_push, spell_one, spell}
use Rattle.def_script.specs.Verify.{verified, verified_op, verify_form}
use Rattle.def_tree.specs.declared.Two.TheVariants as kind
use Rattle.def_tree.specs.declared.Wrapper.TheVariants as wrapper
use Rattle.def_tree.specs.Tree.{Key, Tree, Trees, just_0, just_1, pk_k, pk_h, older, after, hash, and_or, two, thresh, multi, wrap, none, more}
use Rattle.def_tree.specs.Range.{IsKey, IsWritable, AreWritable}
use Rattle.def_emit.specs.Emit.{emit, emit_sum, emit_added, push_number, script_of}

-- ---- comparisons

pub lt_of : (n m : ℕ) → nat_lt n m ≡ true → n < m
lt_of n m e = search rules

pub le_of : (n m : ℕ) → nat_le n m ≡ true → n ≤ m
le_of n m e = search rules

-- ---- byte strings

pub no_bytes : IsBytes []
no_bytes i = omega arith

pub more_bytes : (b : ℕ) (bs : Bytes) → b < 256 → IsBytes bs → IsBytes (b ∷ bs)
more_bytes b bs low rest zero = low
more_bytes b bs low rest (suc i) = rest i

pub joined_bytes : (bs cs : Bytes) → IsBytes bs → IsBytes cs → IsBytes (bs ++ cs)
joined_bytes [] cs left right = right
joined_bytes (b ∷ bs) cs left right = more_bytes b (bs ++ cs) (left 0) (joined_bytes bs cs (λ i. left (suc i)) right)

low_byte : (i n : ℕ) → byte_at i n < 256
low_byte zero n = omega arith
low_byte (suc i) n = omega arith

pub low_first : (i k n : ℕ) → IsBytes (bytes_low_first i k n)
low_first i zero n = no_bytes
low_first i (suc k) n = more_bytes (byte_at i n) (bytes_low_first (suc i) k n) (low_byte i n) (low_first (suc i) k n)

-- ---- numbers

signed_low : (negative : Bool) (n : ℕ) → n < 128 → n + sign_bit negative < 256
signed_low true n low = omega (arith, low)
signed_low false n low = omega (arith, low)

pub signed_are_bytes : (most : ℕ) (negative : Bool) (n : ℕ) → IsBytes (signed_bytes most negative n)
signed_are_bytes zero negative n = no_bytes
signed_are_bytes (suc most) negative n = by (nat_lt n 128) refl (signed_are_bytes most negative (n / 256))
  where
    by : (b : Bool) → nat_lt n 128 ≡ b → IsBytes (signed_bytes most negative (n / 256))
        → IsBytes (if b then (n + sign_bit negative) ∷ [] else (n % 256) ∷ signed_bytes most negative (n / 256))
    by true e rest = more_bytes (n + sign_bit negative) [] (signed_low negative n (lt_of n 128 e)) no_bytes
    by false e rest = more_bytes (n % 256) (signed_bytes most negative (n / 256)) (omega arith) rest

pub number_is_bytes : (n : ℕ) → IsBytes (natural_bytes n)
number_is_bytes zero = no_bytes
number_is_bytes (suc n) = signed_are_bytes 5 false (suc n)

pub integer_is_bytes : (z : ℤ) → IsBytes (number_bytes z)
integer_is_bytes (pos n) = number_is_bytes n
integer_is_bytes (negsuc n) = signed_are_bytes 5 true (suc n)

-- ---- pushes

sized_are_bytes : (bytes : Bytes) → IsBytes bytes → IsBytes (sized_push bytes)
sized_are_bytes bytes all = by (nat_le (length bytes) 75) refl
  where
    wide : (b : Bool) → IsBytes (if b then 0x4d ∷ to_le_bytes w16 (length bytes) ++ bytes else 0x4e ∷ to_le_bytes w32 (length bytes) ++ bytes)
    wide true =
        more_bytes 0x4d (to_le_bytes w16 (length bytes) ++ bytes) (omega arith)
        (joined_bytes (to_le_bytes w16 (length bytes)) bytes (low_first 0 2 (length bytes)) all)
    wide false =
        more_bytes 0x4e (to_le_bytes w32 (length bytes) ++ bytes) (omega arith)
        (joined_bytes (to_le_bytes w32 (length bytes)) bytes (low_first 0 4 (length bytes)) all)

    then_one : (b : Bool) → nat_le (length bytes) 255 ≡ b
        → IsBytes (if b then 0x4c ∷ length bytes ∷ bytes
        else if nat_le (length bytes) 65535 then 0x4d ∷ to_le_bytes w16 (length bytes) ++ bytes else 0x4e ∷ to_le_bytes w32 (length bytes) ++ bytes)
    then_one true e = let low = le_of (length bytes) 255 e in more_bytes 0x4c (length bytes ∷ bytes) (omega arith) (more_bytes (length bytes) bytes (omega (arith, low)) all)
    then_one false e = wide (nat_le (length bytes) 65535)

    by : (b : Bool) → nat_le (length bytes) 75 ≡ b
        → IsBytes (if b then length bytes ∷ bytes
        else if nat_le (length bytes) 255 then 0x4c ∷ length bytes ∷ bytes
        else if nat_le (length bytes) 65535 then 0x4d ∷ to_le_bytes w16 (length bytes) ++ bytes else 0x4e ∷ to_le_bytes w32 (length bytes) ++ bytes)
    by true e = let low = le_of (length bytes) 75 e in more_bytes (length bytes) bytes (omega (arith, low)) all
    by false e = then_one (nat_le (length bytes) 255) refl

byte_is_bytes : (b : ℕ) → b < 256 → IsBytes (byte_push b)
byte_is_bytes b low = small (nat_le 1 b) (nat_le b 16) refl
  where
    other : (c : Bool) → IsBytes (if c then 0x4f ∷ [] else sized_push (b ∷ []))
    other true = more_bytes 0x4f [] (omega arith) no_bytes
    other false = sized_are_bytes (b ∷ []) (more_bytes b [] low no_bytes)

    small : (one most : Bool) → nat_le b 16 ≡ most → IsBytes (if one && most then (0x50 + b) ∷ [] else if b == 0x81 then 0x4f ∷ [] else sized_push (b ∷ []))
    small true true e = let most = le_of b 16 e in more_bytes (0x50 + b) [] (omega (arith, most)) no_bytes
    small true false e = other (b == 0x81)
    small false most e = other (b == 0x81)

pub pushed_are_bytes : (bytes : Bytes) → IsBytes bytes → IsBytes (shortest_push bytes)
pushed_are_bytes [] all = more_bytes 0 [] (omega arith) no_bytes
pushed_are_bytes (b ∷ []) all = byte_is_bytes b (all 0)
pushed_are_bytes (b ∷ c ∷ bytes) all = sized_are_bytes (b ∷ c ∷ bytes) all

-- ---- instructions

-- what they push are byte strings
abbrev pub HasBytes : Instruction → Type 0
HasBytes (push bytes) = IsBytes bytes
HasBytes (code op) = ⊤

abbrev pub HaveBytes : List Instruction → Type 0
HaveBytes [] = ⊤
HaveBytes (i ∷ is) = HasBytes i × HaveBytes is

opcode_is_byte : (o : Op) → opcode_byte o < 256
opcode_is_byte op.If = omega arith
opcode_is_byte op.NotIf = omega arith
opcode_is_byte op.Else = omega arith
opcode_is_byte op.EndIf = omega arith
opcode_is_byte op.Verify = omega arith
opcode_is_byte op.ToAltStack = omega arith
opcode_is_byte op.FromAltStack = omega arith
opcode_is_byte op.IfDup = omega arith
opcode_is_byte op.Dup = omega arith
opcode_is_byte op.Swap = omega arith
opcode_is_byte op.Size = omega arith
opcode_is_byte op.Equal = omega arith
opcode_is_byte op.EqualVerify = omega arith
opcode_is_byte op.ZeroNotEqual = omega arith
opcode_is_byte op.Add = omega arith
opcode_is_byte op.BoolAnd = omega arith
opcode_is_byte op.BoolOr = omega arith
opcode_is_byte op.Ripemd160 = omega arith
opcode_is_byte op.Sha256 = omega arith
opcode_is_byte op.Hash160 = omega arith
opcode_is_byte op.Hash256 = omega arith
opcode_is_byte op.CheckSig = omega arith
opcode_is_byte op.CheckSigVerify = omega arith
opcode_is_byte op.CheckMultiSig = omega arith
opcode_is_byte op.CheckMultiSigVerify = omega arith
opcode_is_byte op.CheckLockTimeVerify = omega arith
opcode_is_byte op.CheckSequenceVerify = omega arith

one_is_bytes : (i : Instruction) → HasBytes i → IsBytes (spell_one i)
one_is_bytes (push bytes) all = pushed_are_bytes bytes all
one_is_bytes (code o) all = more_bytes (opcode_byte o) [] (opcode_is_byte o) no_bytes

pub spelled_are_bytes : (is : List Instruction) → HaveBytes is → IsBytes (spell is)
spelled_are_bytes [] all = no_bytes
spelled_are_bytes (i ∷ is) all = joined_bytes (spell_one i) (spell is) (one_is_bytes i all.0) (spelled_are_bytes is all.1)

then_have : (xs ys : List Instruction) → HaveBytes xs → HaveBytes ys → HaveBytes (xs ++ ys)
then_have [] ys p q = q
then_have (x ∷ xs) ys p q = (p.0, then_have xs ys p.1 q)

op_have : (o : Op) (form : Option Op) → HaveBytes (verified_op o form)
op_have o None = (tt, (tt, tt))
op_have o (Some form) = (tt, tt)

verified_have : (xs : List Instruction) → HaveBytes xs → HaveBytes (verified xs)
verified_have [] p = (tt, tt)
verified_have (push bytes ∷ []) p = (p.0, (tt, tt))
verified_have (code o ∷ []) p = op_have o (verify_form o)
verified_have (x ∷ y ∷ rest) p = (p.0, verified_have (y ∷ rest) p.1)

keys_have : (keys : List Key) → All IsKey keys → HaveBytes (map push keys)
keys_have [] all = tt
keys_have (key ∷ keys) all =
    let here = all 0 key (omega arith) in
    (here.bytes, keys_have keys (λ k d l. all (suc k) d (omega (arith, l))))

-- ---- trees

three : (xs ys : List Instruction) (o : Op) → HaveBytes xs → HaveBytes ys → HaveBytes (xs ++ ys ++ code o ∷ [])
three xs ys o p q = then_have (xs ++ ys) (code o ∷ []) (then_have xs ys p q) (tt, tt)

mutual
  pub tree_has_bytes : (t : Tree) → IsWritable t → HaveBytes (emit t)
  tree_has_bytes just_0 w = (number_is_bytes 0, tt)
  tree_has_bytes just_1 w = (number_is_bytes 1, tt)
  tree_has_bytes (pk_k key) w = (w.bytes, tt)
  tree_has_bytes (pk_h key) w = (tt, (tt, (digest_has_bytes hash_kind.Hash160 key, (tt, tt))))
  tree_has_bytes (older n) w = (number_is_bytes n, (tt, tt))
  tree_has_bytes (after n) w = (number_is_bytes n, (tt, tt))
  tree_has_bytes (hash kind value) w = (tt, (number_is_bytes 32, (tt, (tt, (w.bytes, (tt, tt))))))
  tree_has_bytes (and_or x y z) w =
      then_have (emit x ++ code op.NotIf ∷ emit z ++ code op.Else ∷ emit y) (code op.EndIf ∷ [])
      (then_have (emit x ++ code op.NotIf ∷ emit z) (code op.Else ∷ emit y)
      (then_have (emit x) (code op.NotIf ∷ emit z) (tree_has_bytes x w.0) (tt, tree_has_bytes z w.2)) (tt, tree_has_bytes y w.1)) (tt, tt)
  tree_has_bytes (two kind.AndV x y) w = then_have (emit x) (emit y) (tree_has_bytes x w.0) (tree_has_bytes y w.1)
  tree_has_bytes (two kind.AndB x y) w = three (emit x) (emit y) op.BoolAnd (tree_has_bytes x w.0) (tree_has_bytes y w.1)
  tree_has_bytes (two kind.OrB x y) w = three (emit x) (emit y) op.BoolOr (tree_has_bytes x w.0) (tree_has_bytes y w.1)
  tree_has_bytes (two kind.OrC x y) w =
      then_have (emit x ++ code op.NotIf ∷ emit y) (code op.EndIf ∷ [])
      (then_have (emit x) (code op.NotIf ∷ emit y) (tree_has_bytes x w.0) (tt, tree_has_bytes y w.1)) (tt, tt)
  tree_has_bytes (two kind.OrD x y) w =
      then_have (emit x ++ code op.IfDup ∷ code op.NotIf ∷ emit y) (code op.EndIf ∷ [])
      (then_have (emit x) (code op.IfDup ∷ code op.NotIf ∷ emit y) (tree_has_bytes x w.0) (tt, (tt, tree_has_bytes y w.1))) (tt, tt)
  tree_has_bytes (two kind.OrI x y) w =
      then_have (code op.If ∷ emit x ++ code op.Else ∷ emit y) (code op.EndIf ∷ [])
      (then_have (code op.If ∷ emit x) (code op.Else ∷ emit y) (tt, tree_has_bytes x w.0) (tt, tree_has_bytes y w.1)) (tt, tt)
  tree_has_bytes (thresh k xs) w = then_have (emit_sum xs) (push_number k ∷ code op.Equal ∷ []) (sum_has_bytes xs w.2) (number_is_bytes k, (tt, tt))
  tree_has_bytes (multi k keys) w =
      (number_is_bytes k, then_have (map push keys) (push_number (length keys) ∷ code op.CheckMultiSig ∷ []) (keys_have keys w.2) (number_is_bytes (length keys), (tt, tt)))
  tree_has_bytes (wrap wrapper.A x) w = (tt, then_have (emit x) (code op.FromAltStack ∷ []) (tree_has_bytes x w) (tt, tt))
  tree_has_bytes (wrap wrapper.S x) w = (tt, tree_has_bytes x w)
  tree_has_bytes (wrap wrapper.C x) w = then_have (emit x) (code op.CheckSig ∷ []) (tree_has_bytes x w) (tt, tt)
  tree_has_bytes (wrap wrapper.D x) w = (tt, (tt, then_have (emit x) (code op.EndIf ∷ []) (tree_has_bytes x w) (tt, tt)))
  tree_has_bytes (wrap wrapper.V x) w = verified_have (emit x) (tree_has_bytes x w)
  tree_has_bytes (wrap wrapper.J x) w = (tt, (tt, (tt, then_have (emit x) (code op.EndIf ∷ []) (tree_has_bytes x w) (tt, tt))))
  tree_has_bytes (wrap wrapper.N x) w = then_have (emit x) (code op.ZeroNotEqual ∷ []) (tree_has_bytes x w) (tt, tt)

  sum_has_bytes : (xs : Trees) → AreWritable xs → HaveBytes (emit_sum xs)
  sum_has_bytes none w = tt
  sum_has_bytes (more x xs) w = then_have (emit x) (emit_added xs) (tree_has_bytes x w.0) (added_has_bytes xs w.1)

  added_has_bytes : (xs : Trees) → AreWritable xs → HaveBytes (emit_added xs)
  added_has_bytes none w = tt
  added_has_bytes (more x xs) w =
      then_have (emit x) (code op.Add ∷ emit_added xs) (tree_has_bytes x w.0) (tt, added_has_bytes xs w.1)

pub script_is_bytes : (t : Tree) → IsWritable t → IsBytes (script_of t)
script_is_bytes t w = spelled_are_bytes (emit t) (tree_has_bytes t w)
