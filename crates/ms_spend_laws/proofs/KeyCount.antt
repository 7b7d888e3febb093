-- How many keys a miniscript has: no more than its Script has room for.
use Rattle.std.proofs.Common.{◌≡◌, ℕ, ◌+◌, ◌*◌, ◌≤◌, nat_le, Bool, true, false, List, [], ◌∷◌, ◌++◌, length, map, All, refl, if◌then◌else◌, arith, inl, inr}
use Rattle.std.proofs.lemmas.Bool.{le-leb, leb-true, cases_Bool}
use Rattle.std.proofs.lemmas.List.{length-append}
use Rattle.std.proofs.lemmas.List.Elements.{All-nil, All-cons, All-append, All-head, All-tail}
use Rattle.def_hash.specs.declared.HashKind.TheVariants as hash_kind
use Rattle.def_hash.specs.Hash.{hash160}
use Rattle.def_hash.proofs.Lengths.{digest_has_its_length}
use Rattle.def_script.specs.Bytes.{Bytes}
use Rattle.def_script.specs.Instruction.{Instruction, push, code}
use Rattle.def_script.specs.Spell.{sized_push, spell_one, spell}
use Rattle.def_script.specs.Verify.{verified}
use Rattle.def_script.specs.declared.Op.TheVariants as op
use Rattle.std.specs.Int.{w16, w32, to_le_bytes}
use Rattle.def_script.proofs.KeyLemmas.{key_length}
use Rattle.def_tree.specs.declared.Two.TheVariants as kind
use Rattle.def_tree.specs.declared.Wrapper.TheVariants as wrapper
use Rattle.def_tree.specs.Tree.{Key, Tree, Trees, pk_k, pk_h, and_or, two, thresh, multi, wrap, none, more}
use Rattle.def_tree.specs.Range.{IsKey, IsWritable, AreWritable}
use Rattle.def_emit.specs.Emit.{push_number, emit, emit_sum, emit_added, script_of}
use Rattle.def_sane.specs.Keys.{keys, keys_of_all}

-- 1 for a push of 20 bytes or more
abbrev wide_one : Instruction → ℕ
wide_one (push bytes) = if nat_le 20 (length bytes) then 1 else 0
wide_one (code op) = 0

-- how many such pushes there are
unfoldable wide : List Instruction → ℕ
wide [] = 0
wide (i ∷ is) = wide_one i + wide is

wide-cons : (i : Instruction) (is : List Instruction) → wide (i ∷ is) ≡ wide_one i + wide is
unfolding wide
wide-cons i is = refl

wide-append : (xs ys : List Instruction) → wide (xs ++ ys) ≡ wide xs + wide ys
unfolding wide
wide-append [] ys = omega arith
wide-append (x ∷ xs) ys = omega (arith, wide-append xs ys)

wide_push : (bytes : Bytes) (is : List Instruction) → 20 ≤ length bytes → wide (push bytes ∷ is) ≡ 1 + wide is
unfolding wide
wide_push bytes is large = rw (le-leb 20 (length bytes) large) refl

wide_inside : (before is behind : List Instruction) → wide is ≤ wide (before ++ (is ++ behind))
wide_inside before is behind = omega (arith, wide-append before (is ++ behind), wide-append is behind)

-- ---- the room that they take

some_size : (bytes : Bytes) → 1 + length bytes ≤ length (sized_push bytes)
some_size bytes = go (nat_le (length bytes) 75) (nat_le (length bytes) 255) (nat_le (length bytes) 65535)
  where
    go : (a b c : Bool) → 1 + length bytes ≤ length (if a then length bytes ∷ bytes
        else if b then 0x4c ∷ length bytes ∷ bytes
        else if c then 0x4d ∷ to_le_bytes w16 (length bytes) ++ bytes
        else 0x4e ∷ to_le_bytes w32 (length bytes) ++ bytes)
    go true b c = omega arith
    go false true c = omega arith
    go false false true = omega (arith, length-append (to_le_bytes w16 (length bytes)) bytes)
    go false false false = omega (arith, length-append (to_le_bytes w32 (length bytes)) bytes)

room_one : (i : Instruction) → 21 * wide_one i ≤ length (spell_one i)
room_one (code op) = omega arith
room_one (push []) = omega arith
room_one (push (b ∷ [])) = omega arith
room_one (push (b ∷ c ∷ bytes)) = elim (cases_Bool (nat_le 20 (length (b ∷ c ∷ bytes)))) [
  | inl e ↦ rw e (omega (arith, leb-true 20 (length (b ∷ c ∷ bytes)) e, some_size (b ∷ c ∷ bytes)))
  | inr e ↦ rw e (omega arith)
]

room : (is : List Instruction) → 21 * wide is ≤ length (spell is)
unfolding wide
room [] = omega arith
room (i ∷ is) = omega (arith, room_one i, room is, length-append (spell_one i) (spell is))

-- ---- VERIFY at the end adds no push

verified_wide : (is : List Instruction) → wide is ≤ wide (verified is)
unfolding wide
verified_wide [] = omega arith
verified_wide (push bytes ∷ []) = omega arith
verified_wide (code op ∷ []) = omega arith
verified_wide (i ∷ j ∷ rest) = omega (arith, verified_wide (j ∷ rest))

-- ---- the keys

key_is_long : (key : Key) → IsKey key → 20 ≤ length key
key_is_long key is = omega (arith, key_length key is.form)

own_keys : (ks : List Key) → All IsKey ks → length ks ≤ wide (map push ks)
own_keys [] all = omega arith
own_keys (key ∷ ks) all =
    let first = key_is_long key (All-head IsKey key ks all) in
    omega (arith, wide_push key (map push ks) first, own_keys ks (All-tail IsKey key ks all))

mutual
  few : (t : Tree) → IsWritable t → length (keys t) ≤ wide (emit t)
  few (pk_k key) w = let long = key_is_long key w in omega (arith, wide_push key [] long)
  few (pk_h key) w =
      let long : 20 ≤ length (hash160 key) = omega (arith, digest_has_its_length hash_kind.Hash160 key) in
      simp wide-cons (omega (arith, wide_push (hash160 key) [] long, wide-cons (push (hash160 key)) []))
  few (and_or x y z) w = simp (length-append, wide-append, wide-cons) (omega (arith, few x w.0, few y w.1, few z w.2))
  few (two kind.AndV x y) w = simp (length-append, wide-append) (omega (arith, few x w.0, few y w.1))
  few (two kind.AndB x y) w = simp (length-append, wide-append) (omega (arith, few x w.0, few y w.1))
  few (two kind.OrB x y) w = simp (length-append, wide-append) (omega (arith, few x w.0, few y w.1))
  few (two kind x y) w = simp (length-append, wide-append, wide-cons) (omega (arith, few x w.0, few y w.1))
  few (thresh k xs) w = simp wide-append (omega (arith, few_sum xs w.2))
  few (multi k ks) w =
      let behind : List Instruction = push_number (length ks) ∷ code op.CheckMultiSig ∷ [] in
      simp wide-cons (omega (arith, own_keys ks w.2, wide-append (map push ks) behind))
  few (wrap wrapper.A x) w = omega (arith, few x w, wide_inside (code op.ToAltStack ∷ []) (emit x) (code op.FromAltStack ∷ []))
  few (wrap wrapper.S x) w = simp wide-cons (omega (arith, few x w))
  few (wrap wrapper.D x) w = omega (arith, few x w, wide_inside (code op.Dup ∷ code op.If ∷ []) (emit x) (code op.EndIf ∷ []))
  few (wrap wrapper.V x) w = omega (arith, few x w, verified_wide (emit x))
  few (wrap wrapper.J x) w = omega (arith, few x w, wide_inside (code op.Size ∷ code op.ZeroNotEqual ∷ code op.If ∷ []) (emit x) (code op.EndIf ∷ []))
  few (wrap wrapper x) w = simp wide-append (omega (arith, few x w))
  few leaf w = omega arith

  few_sum : (xs : Trees) → AreWritable xs → length (keys_of_all xs) ≤ wide (emit_sum xs)
  few_sum none w = omega arith
  few_sum (more x xs) w = simp (length-append, wide-append) (omega (arith, few x w.0, few_added xs w.1))

  few_added : (xs : Trees) → AreWritable xs → length (keys_of_all xs) ≤ wide (emit_added xs)
  few_added none w = omega arith
  few_added (more x xs) w = simp (length-append, wide-append, wide-cons) (omega (arith, few x w.0, few_added xs w.1))

-- each key takes 21 bytes at least
pub keys_take_room : (t : Tree) → IsWritable t → 21 * length (keys t) ≤ length (script_of t)
keys_take_room t w = omega (arith, few t w, room (emit t))

-- ---- their form

mutual
  pub written_keys : (t : Tree) → IsWritable t → All IsKey (keys t)
  written_keys (pk_k key) w = All-cons IsKey key [] w (All-nil IsKey)
  written_keys (pk_h key) w = All-cons IsKey key [] w (All-nil IsKey)
  written_keys (and_or x y z) w =
      All-append IsKey (keys x ++ keys y) (keys z) (All-append IsKey (keys x) (keys y) (written_keys x w.0) (written_keys y w.1)) (written_keys z w.2)
  written_keys (two kind x y) w = All-append IsKey (keys x) (keys y) (written_keys x w.0) (written_keys y w.1)
  written_keys (thresh k xs) w = keys_of_written xs w.2
  written_keys (multi k ks) w = w.2
  written_keys (wrap wrapper x) w = written_keys x w
  written_keys leaf w = All-nil IsKey

  keys_of_written : (xs : Trees) → AreWritable xs → All IsKey (keys_of_all xs)
  keys_of_written none w = All-nil IsKey
  keys_of_written (more x xs) w = All-append IsKey (keys x) (keys_of_all xs) (written_keys x w.0) (keys_of_written xs w.1)
