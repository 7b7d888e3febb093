-- A sane miniscript has at most 256 keys: each takes 20 bytes of its Script at least.
use Rattle.std.proofs.Common.{◌≡◌, ℕ, ◌+◌, ◌*◌, ◌≤◌, List, [], ◌∷◌, ◌++◌, length, map, All, Some, None, Option, refl, ap, arith, length-append}
use Rattle.std.proofs.lemmas.List.Elements.{All-head, All-tail}
use Rattle.def_hash.specs.declared.HashKind.TheVariants as hash_kind
use Rattle.def_hash.proofs.Lengths.{digest_has_its_length}
use Rattle.def_script.specs.declared.Op.{Op}
use Rattle.def_script.specs.Bytes.{Bytes}
use Rattle.def_script.specs.Instruction.{Instruction, push, code}
use Rattle.def_script.specs.Spell.{sized_push, byte_push, shortest_push, spell}
use Rattle.def_script.specs.Verify.{verify_form, verified_op, verified}
use Rattle.def_script.proofs.KeyLemmas.{key_length}
use Rattle.def_tree.specs.declared.Two.TheVariants as kind
use Rattle.def_tree.specs.declared.Wrapper.TheVariants as wrapper
use Rattle.def_tree.specs.Tree.{Key, Tree, Trees, just_0, just_1, pk_k, pk_h, older, after, hash, and_or, two, thresh, multi, wrap, none, more}
use Rattle.def_tree.specs.Range.{IsKey, IsWritable, AreWritable}
use Rattle.def_emit.specs.Emit.{emit, emit_sum, emit_added}
use Rattle.def_sane.specs.Keys.{keys, keys_of_all}
use Rattle.def_sane.specs.Unfit.{IsSane}
use Rattle.def_limits.proofs.Greatest.{limits_are_computed}
use Rattle.def_sane.proofs.Meanings.{sane_means, valid_means}

-- how many bytes are pushed
abbrev pushed : List Instruction → ℕ
pushed [] = 0
pushed (push bytes ∷ rest) = length bytes + pushed rest
pushed (code op ∷ rest) = pushed rest

pushed-append : (xs ys : List Instruction) → pushed (xs ++ ys) ≡ pushed xs + pushed ys
pushed-append [] ys = omega arith
pushed-append (push bytes ∷ xs) ys = omega (arith, pushed-append xs ys)
pushed-append (code op ∷ xs) ys = pushed-append xs ys

pushed-op : (op : Op) (form : Option Op) → pushed (verified_op op form) ≡ 0
pushed-op op None = refl
pushed-op op (Some form) = refl

pushed-verified : (xs : List Instruction) → pushed (verified xs) ≡ pushed xs
pushed-verified [] = refl
pushed-verified (push bytes ∷ []) = refl
pushed-verified (code op ∷ []) = pushed-op op (verify_form op)
pushed-verified (push bytes ∷ y ∷ xs) = ap (λ n. length bytes + n) (pushed-verified (y ∷ xs))
pushed-verified (code op ∷ y ∷ xs) = pushed-verified (y ∷ xs)

-- a push takes what it pushes at least
sized_long : (bytes : Bytes) → length bytes ≤ length (sized_push bytes)
sized_long bytes = grind (arith, length-append {A = ℕ})

byte_long : (b : ℕ) → 1 ≤ length (byte_push b)
byte_long b = grind (arith, sized_long (b ∷ []))

push_long : (bytes : Bytes) → length bytes ≤ length (shortest_push bytes)
push_long [] = omega arith
push_long (b ∷ []) = omega (arith, byte_long b)
push_long (b ∷ c ∷ bytes) = sized_long (b ∷ c ∷ bytes)

spell_long : (xs : List Instruction) → pushed xs ≤ length (spell xs)
spell_long [] = omega arith
spell_long (push bytes ∷ xs) = let whole = length-append (shortest_push bytes) (spell xs) in omega (arith, whole, push_long bytes, spell_long xs)
spell_long (code op ∷ xs) = omega (arith, spell_long xs)

own_long : (ks : List Key) → All IsKey ks → 20 * length ks ≤ pushed (map push ks)
own_long [] h = omega arith
own_long (key ∷ ks) h =
    let long = key_length key (All-head IsKey key ks h).form in
    omega (arith, long, own_long ks (All-tail IsKey key ks h))

mutual
  keys_long : (t : Tree) → IsWritable t → 20 * length (keys t) ≤ pushed (emit t)
  keys_long just_0 w = omega arith
  keys_long just_1 w = omega arith
  keys_long (pk_k key) w = let long = key_length key w.form in omega (arith, long)
  keys_long (pk_h key) w = let long = digest_has_its_length hash_kind.Hash160 key in omega (arith, long)
  keys_long (older n) w = omega arith
  keys_long (after n) w = omega arith
  keys_long (hash kind value) w = omega arith
  keys_long (and_or x y z) w = simp (length-append, pushed-append) (omega (arith, keys_long x w.0, keys_long y w.1, keys_long z w.2))
  keys_long (two kind.AndV x y) w = simp (length-append, pushed-append) (omega (arith, keys_long x w.0, keys_long y w.1))
  keys_long (two kind.AndB x y) w = simp (length-append, pushed-append) (omega (arith, keys_long x w.0, keys_long y w.1))
  keys_long (two kind.OrB x y) w = simp (length-append, pushed-append) (omega (arith, keys_long x w.0, keys_long y w.1))
  keys_long (two kind.OrC x y) w = simp (length-append, pushed-append) (omega (arith, keys_long x w.0, keys_long y w.1))
  keys_long (two kind.OrD x y) w = simp (length-append, pushed-append) (omega (arith, keys_long x w.0, keys_long y w.1))
  keys_long (two kind.OrI x y) w = simp (length-append, pushed-append) (omega (arith, keys_long x w.0, keys_long y w.1))
  keys_long (thresh k xs) w = simp pushed-append (omega (arith, sum_long xs w.2))
  keys_long (multi k ks) w = simp pushed-append (omega (arith, own_long ks w.2))
  keys_long (wrap wrapper.A x) w = simp pushed-append (omega (arith, keys_long x w))
  keys_long (wrap wrapper.S x) w = omega (arith, keys_long x w)
  keys_long (wrap wrapper.C x) w = simp pushed-append (omega (arith, keys_long x w))
  keys_long (wrap wrapper.D x) w = simp pushed-append (omega (arith, keys_long x w))
  keys_long (wrap wrapper.V x) w = omega (arith, keys_long x w, pushed-verified (emit x))
  keys_long (wrap wrapper.J x) w = simp pushed-append (omega (arith, keys_long x w))
  keys_long (wrap wrapper.N x) w = simp pushed-append (omega (arith, keys_long x w))

  sum_long : (xs : Trees) → AreWritable xs → 20 * length (keys_of_all xs) ≤ pushed (emit_sum xs)
  sum_long none w = omega arith
  sum_long (more x xs) w = simp (length-append, pushed-append) (omega (arith, keys_long x w.0, added_long xs w.1))

  added_long : (xs : Trees) → AreWritable xs → 20 * length (keys_of_all xs) ≤ pushed (emit_added xs)
  added_long none w = omega arith
  added_long (more x xs) w = simp (length-append, pushed-append) (omega (arith, keys_long x w.0, added_long xs w.1))

pub few_keys : (t : Tree) → IsWritable t → IsSane t → length (keys t) ≤ 256
few_keys t w sane =
    let size = ((valid_means t).0 ((sane_means t).0 sane).0).2 in
    let is = (limits_are_computed t).size in
    omega (arith, size, is, keys_long t w, spell_long (emit t))
