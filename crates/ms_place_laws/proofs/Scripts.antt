-- The length of a Script, and how many opcodes it has, depend on no key: keys have one length, and so have their hashes.
use Rattle.std.proofs.Common.{◌≡◌, ℕ, suc, ◌+◌, ◌≤◌, Bool, true, false, List, [], ◌∷◌, ◌++◌, length, length-append, map, cond, refl, sym, ap, ◌∙◌, subst, arith}
use Rattle.std.specs.Prelude.{All, nat_le}
use Rattle.std.specs.Int.{w16, w32, to_le_bytes}
use Rattle.std.proofs.lemmas.List.Elements.{All-head, All-tail}
use Rattle.def_hash.specs.declared.HashKind.TheVariants as hash_kind
use Rattle.def_hash.specs.Hash.{hash160}
use Rattle.def_hash.proofs.Lengths.{digest_has_its_length}
use Rattle.def_script.specs.declared.Op.TheVariants as op
use Rattle.def_script.specs.Bytes.{Bytes}
use Rattle.def_script.specs.Instruction.{Instruction, push, code, opcode_count}
use Rattle.def_script.specs.Spell.{sized_push, shortest_push, spell_one, spell}
use Rattle.def_script.specs.Verify.{verified_last, verified}
use Rattle.def_script.proofs.KeyLemmas.{key_length}
use Rattle.def_tree.specs.declared.Two.TheVariants as kind
use Rattle.def_tree.specs.declared.Wrapper.TheVariants as wrapper
use Rattle.def_tree.specs.Range.{IsKey, IsWritable, AreWritable}
use Rattle.def_tree.specs.Tree.{Key, Tree, Trees, pk_k, pk_h, and_or, two, thresh, multi, wrap, none, more}
use Rattle.def_emit.specs.Emit.{push_number, emit, emit_sum, emit_added, script_of}
use Rattle.ms_place_laws.proofs.Filled.{fill, filled, all_filled, keys_long}

-- the same instructions, but for what pushes of more than 1 byte push
data AreAlike : List Instruction → List Instruction → Type 0 where
  no_instruction : AreAlike [] []
  same_one : (i : Instruction) {is js : List Instruction} → AreAlike is js → AreAlike (i ∷ is) (i ∷ js)
  pushes : (a b : Bytes) {is js : List Instruction} → 2 ≤ length a → length a ≡ length b → AreAlike is js → AreAlike (push a ∷ is) (push b ∷ js)

-- ---- what they come to

opcodes_alike : {is js : List Instruction} → AreAlike is js → opcode_count is ≡ opcode_count js
opcodes_alike no_instruction = refl
opcodes_alike (same_one (push bytes) h) = opcodes_alike h
opcodes_alike (same_one (code op) h) = ap (λ (z : ℕ). 1 + z) (opcodes_alike h)
opcodes_alike (pushes a b long e h) = opcodes_alike h

-- the push of more than 1 byte is as long as that of as many others
size_by : (x y z : Bool) → ℕ → ℕ
size_by x y z n = cond x (suc n) (cond y (suc (suc n)) (cond z (suc (suc (suc n))) (suc (suc (suc (suc (suc n)))))))

sized_by : (x y z : Bool) (bytes : Bytes)
    → length (cond x (length bytes ∷ bytes) (cond y (0x4c ∷ length bytes ∷ bytes) (cond z (0x4d ∷ to_le_bytes w16 (length bytes) ++ bytes) (0x4e ∷ to_le_bytes w32 (length bytes) ++ bytes))))
    ≡ size_by x y z (length bytes)
unfolding size_by
sized_by true y z bytes = refl
sized_by false true z bytes = refl
sized_by false false true bytes = refl
sized_by false false false bytes = refl

sized_is : (bytes : Bytes) → length (sized_push bytes) ≡ size_by (nat_le (length bytes) 75) (nat_le (length bytes) 255) (nat_le (length bytes) 65535) (length bytes)
sized_is bytes = sized_by (nat_le (length bytes) 75) (nat_le (length bytes) 255) (nat_le (length bytes) 65535) bytes

sized_push_size : (a b : Bytes) → length a ≡ length b → length (sized_push a) ≡ length (sized_push b)
sized_push_size a b e = sized_is a ∙ (ap (λ (n : ℕ). size_by (nat_le n 75) (nat_le n 255) (nat_le n 65535) n) e ∙ sym (sized_is b))

pushed_size : (a b : Bytes) → 2 ≤ length a → length a ≡ length b → length (shortest_push a) ≡ length (shortest_push b)
pushed_size [] b long e = absurd (omega arith)
pushed_size (x ∷ []) b long e = absurd (omega arith)
pushed_size (x ∷ y ∷ a) [] long e = absurd (omega arith)
pushed_size (x ∷ y ∷ a) (z ∷ []) long e = absurd (omega arith)
pushed_size (x ∷ y ∷ a) (z ∷ w ∷ b) long e = sized_push_size (x ∷ y ∷ a) (z ∷ w ∷ b) e

spelled_alike : {is js : List Instruction} → AreAlike is js → length (spell is) ≡ length (spell js)
spelled_alike no_instruction = refl
spelled_alike (same_one i {is = is} {js = js} h) =
    length-append (spell_one i) (spell is) ∙ (ap (λ (z : ℕ). length (spell_one i) + z) (spelled_alike h) ∙ sym (length-append (spell_one i) (spell js)))
spelled_alike (pushes a b {is = is} {js = js} long e h) =
    let rest : length (spell is) ≡ length (spell js) = spelled_alike h in
    let first : length (shortest_push a) ≡ length (shortest_push b) = pushed_size a b long e in
    length-append (shortest_push a) (spell is) ∙ (omega arith ∙ sym (length-append (shortest_push b) (spell js)))

-- ---- one after the other

alike_behind : {is js ks ls : List Instruction} → AreAlike is js → AreAlike ks ls → AreAlike (is ++ ks) (js ++ ls)
alike_behind no_instruction g = g
alike_behind (same_one i h) g = same_one i (alike_behind h g)
alike_behind (pushes a b long e h) g = pushes a b long e (alike_behind h g)

all_same : (is : List Instruction) → AreAlike is is
all_same [] = no_instruction
all_same (i ∷ is) = same_one i (all_same is)

verified_alike : {is js : List Instruction} → AreAlike is js → AreAlike (verified is) (verified js)
verified_alike no_instruction = all_same (code op.Verify ∷ [])
verified_alike (same_one i no_instruction) = all_same (verified_last i)
verified_alike (pushes a b long e no_instruction) = pushes a b long e (all_same (code op.Verify ∷ []))
verified_alike (same_one i (same_one j h)) = same_one i (verified_alike (same_one j h))
verified_alike (same_one i (pushes a b long e h)) = same_one i (verified_alike (pushes a b long e h))
verified_alike (pushes a b long e (same_one j h)) = pushes a b long e (verified_alike (same_one j h))
verified_alike (pushes a b long e (pushes c d wide f h)) = pushes a b long e (verified_alike (pushes c d wide f h))

-- ---- trees

key_long : (key : Key) → IsKey key → length key ≡ 33
key_long key h = key_length key h.form

keys_alike : (keys : List Key) (rest : List Instruction) → All IsKey keys → AreAlike (map push keys ++ rest) (map push (map fill keys) ++ rest)
keys_alike [] rest all = all_same rest
keys_alike (key ∷ keys) rest all =
    let long = key_long key (All-head IsKey key keys all) in
    pushes key (fill key) (omega arith) long (keys_alike keys rest (All-tail IsKey key keys all))

mutual
  emit_alike : (x : Tree) → IsWritable x → AreAlike (emit x) (emit (filled x))
  emit_alike (pk_k key) h = let long = key_long key h in pushes key (fill key) (omega arith) long no_instruction
  emit_alike (pk_h key) h =
      let long : length (hash160 key) ≡ 20 = digest_has_its_length hash_kind.Hash160 key in
      let other : length (hash160 (fill key)) ≡ 20 = digest_has_its_length hash_kind.Hash160 (fill key) in
      same_one (code op.Dup) (same_one (code op.Hash160) (pushes (hash160 key) (hash160 (fill key)) (omega arith) (omega arith) (all_same (code op.EqualVerify ∷ []))))
  emit_alike (and_or x y z) h =
      alike_behind
      (alike_behind (alike_behind (emit_alike x h.0) (same_one (code op.NotIf) (emit_alike z h.2))) (same_one (code op.Else) (emit_alike y h.1)))
      (all_same (code op.EndIf ∷ []))
  emit_alike (two kind.AndV x y) h = alike_behind (emit_alike x h.0) (emit_alike y h.1)
  emit_alike (two kind.AndB x y) h = alike_behind (alike_behind (emit_alike x h.0) (emit_alike y h.1)) (all_same (code op.BoolAnd ∷ []))
  emit_alike (two kind.OrB x y) h = alike_behind (alike_behind (emit_alike x h.0) (emit_alike y h.1)) (all_same (code op.BoolOr ∷ []))
  emit_alike (two kind.OrC x y) h =
      alike_behind (alike_behind (emit_alike x h.0) (same_one (code op.NotIf) (emit_alike y h.1))) (all_same (code op.EndIf ∷ []))
  emit_alike (two kind.OrD x y) h =
      alike_behind (alike_behind (emit_alike x h.0) (same_one (code op.IfDup) (same_one (code op.NotIf) (emit_alike y h.1)))) (all_same (code op.EndIf ∷ []))
  emit_alike (two kind.OrI x y) h =
      alike_behind (alike_behind (same_one (code op.If) (emit_alike x h.0)) (same_one (code op.Else) (emit_alike y h.1))) (all_same (code op.EndIf ∷ []))
  emit_alike (thresh k xs) h = alike_behind (sum_alike xs h.2) (all_same (push_number k ∷ code op.Equal ∷ []))
  emit_alike (multi k keys) h =
      same_one (push_number k)
      (subst
      (λ (n : ℕ). AreAlike (map push keys ++ push_number (length keys) ∷ code op.CheckMultiSig ∷ []) (map push (map fill keys) ++ push_number n ∷ code op.CheckMultiSig ∷ []))
      (sym (keys_long keys)) (keys_alike keys (push_number (length keys) ∷ code op.CheckMultiSig ∷ []) h.2))
  emit_alike (wrap wrapper.A x) h = same_one (code op.ToAltStack) (alike_behind (emit_alike x h) (all_same (code op.FromAltStack ∷ [])))
  emit_alike (wrap wrapper.S x) h = same_one (code op.Swap) (emit_alike x h)
  emit_alike (wrap wrapper.C x) h = alike_behind (emit_alike x h) (all_same (code op.CheckSig ∷ []))
  emit_alike (wrap wrapper.D x) h = same_one (code op.Dup) (same_one (code op.If) (alike_behind (emit_alike x h) (all_same (code op.EndIf ∷ []))))
  emit_alike (wrap wrapper.V x) h = verified_alike (emit_alike x h)
  emit_alike (wrap wrapper.J x) h =
      same_one (code op.Size) (same_one (code op.ZeroNotEqual) (same_one (code op.If) (alike_behind (emit_alike x h) (all_same (code op.EndIf ∷ [])))))
  emit_alike (wrap wrapper.N x) h = alike_behind (emit_alike x h) (all_same (code op.ZeroNotEqual ∷ []))
  emit_alike x h = all_same (emit x)

  sum_alike : (xs : Trees) → AreWritable xs → AreAlike (emit_sum xs) (emit_sum (all_filled xs))
  sum_alike none h = no_instruction
  sum_alike (more x xs) h = alike_behind (emit_alike x h.0) (added_alike xs h.1)

  added_alike : (xs : Trees) → AreWritable xs → AreAlike (emit_added xs) (emit_added (all_filled xs))
  added_alike none h = no_instruction
  added_alike (more x xs) h = alike_behind (emit_alike x h.0) (same_one (code op.Add) (added_alike xs h.1))

pub size_filled : (x : Tree) → IsWritable x → length (script_of x) ≡ length (script_of (filled x))
size_filled x h = spelled_alike (emit_alike x h)

pub opcodes_filled : (x : Tree) → IsWritable x → opcode_count (emit x) ≡ opcode_count (emit (filled x))
opcodes_filled x h = opcodes_alike (emit_alike x h)
