-- The pushes of a tree's Script are short, so its items are its instructions.
use Rattle.std.proofs.Common.{◌≡◌, ℕ, zero, suc, ◌+◌, ◌/◌, ◌%◌, ◌≤◌, nat_lt, Bool, true, false, List, [], ◌∷◌, ◌++◌, length, map, Option, Some, None, All, if◌then◌else◌, arith, slice_index_or}
use Rattle.std.proofs.lemmas.List.Elements.{All-nil, All-append, All-cons, All-head, All-tail, All-map}
use Rattle.def_hash.specs.declared.HashKind.{HashKind}
use Rattle.def_hash.specs.declared.HashKind.TheVariants as hash_kind
use Rattle.def_hash.specs.Hash.{digest_length, hash160}
use Rattle.def_hash.proofs.Lengths.{digest_has_its_length}
use Rattle.def_script.specs.declared.Op.{Op}
use Rattle.def_script.specs.Instruction.{Instruction, push, code}
use Rattle.def_script.specs.Numbers.{natural_bytes, signed_bytes, sign_bit}
use Rattle.def_script.specs.Spell.{IsShort}
use Rattle.def_script.specs.Verify.{verify_form, verified_op, verified}
use Rattle.def_script.specs.Items.{items}
use Rattle.def_script.specs.Laws.{item_of}
use Rattle.def_script.proofs.Reading.{items-spell, all_short-spell}
use Rattle.def_tree.specs.declared.Two.TheVariants as kind
use Rattle.def_tree.specs.declared.Wrapper.TheVariants as wrapper
use Rattle.def_tree.specs.Tree.{Key, Tree, Trees, just_0, just_1, pk_k, pk_h, older, after, hash, and_or, two, thresh, multi, wrap, none, more}
use Rattle.def_tree.specs.Range.{IsWritable, AreWritable, IsKey}
use Rattle.def_emit.specs.Emit.{push_number, emit, emit_sum, emit_added, script_of}
use Rattle.def_script.proofs.KeyLemmas.{key_length}

-- a record, so that the lists are found from the facts about them
pub record AllShort (instructions : List Instruction) : Type 0 where
  pub all : All IsShort instructions

empty : AllShort []
empty = record { all = All-nil IsShort }

opcode : (op : Op) (rest : List Instruction) → AllShort rest → AllShort (code op ∷ rest)
opcode op rest h = record { all = All-cons IsShort (code op) rest tt h.all }

pushed : (bytes : List ℕ) (rest : List Instruction) → length bytes ≤ 520 → AllShort rest → AllShort (push bytes ∷ rest)
pushed bytes rest short h = record { all = All-cons IsShort (push bytes) rest short h.all }

joined : (xs ys : List Instruction) → AllShort xs → AllShort ys → AllShort (xs ++ ys)
joined xs ys h i = record { all = All-append IsShort xs ys h.all i.all }

-- a number has at most so many bytes
length-signed_bytes : (most : ℕ) (negative : Bool) (n : ℕ) → length (signed_bytes most negative n) ≤ most
length-signed_bytes zero negative n = omega arith
length-signed_bytes (suc most) negative n = go (nat_lt n 128) (length-signed_bytes most negative (n / 256))
  where
    go : (small : Bool) → length (signed_bytes most negative (n / 256)) ≤ most → length (if small then (n + sign_bit negative) ∷ [] else (n % 256) ∷ signed_bytes most negative (n / 256)) ≤ suc most
    go true h = omega arith
    go false h = omega (arith, h)

length-natural_bytes : (n : ℕ) → length (natural_bytes n) ≤ 520
length-natural_bytes zero = omega arith
length-natural_bytes (suc n) = omega (arith, length-signed_bytes 5 false (suc n))

counted : (n : ℕ) (rest : List Instruction) → AllShort rest → AllShort (push_number n ∷ rest)
counted n rest = pushed (natural_bytes n) rest (length-natural_bytes n)

digest : (kind : HashKind) (value : List ℕ) → length value ≡ digest_length kind → length value ≤ 520
digest hash_kind.Sha256 value is = omega (arith, is)
digest other value is = omega (arith, is)

keys : (ks : List Key) → All IsKey ks → AllShort (map push ks)
keys ks all = record { all = All-map IsShort push ks (λ k d below. let long = key_length (slice_index_or ks k d) (all k d below).form in omega (arith, long)) }

short_verified_op : (op : Op) (form : Option Op) → AllShort (verified_op op form)
short_verified_op op None = opcode _ _ (opcode _ _ empty)
short_verified_op op (Some form) = opcode _ _ empty

short-verified : (xs : List Instruction) → AllShort xs → AllShort (verified xs)
short-verified [] h = opcode _ _ empty
short-verified (push bytes ∷ []) h = pushed bytes _ (All-head IsShort (push bytes) [] h.all) (opcode _ _ empty)
short-verified (code op ∷ []) h = short_verified_op op (verify_form op)
short-verified (x ∷ y ∷ xs) h =
    let rest = short-verified (y ∷ xs) (record { all = All-tail IsShort x (y ∷ xs) h.all }) in
    record { all = All-cons IsShort x (verified (y ∷ xs)) (All-head IsShort x (y ∷ xs) h.all) rest.all }

mutual
  pub short-emit : (t : Tree) → IsWritable t → AllShort (emit t)
  short-emit just_0 w = counted 0 _ empty
  short-emit just_1 w = counted 1 _ empty
  short-emit (pk_k key) w = let long = key_length key w.form in pushed key _ (omega (arith, long)) empty
  short-emit (pk_h key) w =
      opcode _ _ (opcode _ _ (pushed (hash160 key) _ (digest hash_kind.Hash160 _ (digest_has_its_length hash_kind.Hash160 key)) (opcode _ _ empty)))
  short-emit (older n) w = counted n _ (opcode _ _ empty)
  short-emit (after n) w = counted n _ (opcode _ _ empty)
  short-emit (hash kind value) w =
      opcode _ _ (counted 32 _ (opcode _ _ (opcode _ _ (pushed value _ (digest kind value w.length) (opcode _ _ empty)))))
  short-emit (and_or x y z) w =
      joined _ _ (joined _ _ (joined _ _ (short-emit x w.0) (opcode _ _ (short-emit z w.2))) (opcode _ _ (short-emit y w.1))) (opcode _ _ empty)
  short-emit (two kind.AndV x y) w = joined _ _ (short-emit x w.0) (short-emit y w.1)
  short-emit (two kind.AndB x y) w = joined _ _ (joined _ _ (short-emit x w.0) (short-emit y w.1)) (opcode _ _ empty)
  short-emit (two kind.OrB x y) w = joined _ _ (joined _ _ (short-emit x w.0) (short-emit y w.1)) (opcode _ _ empty)
  short-emit (two kind.OrC x y) w = joined _ _ (joined _ _ (short-emit x w.0) (opcode _ _ (short-emit y w.1))) (opcode _ _ empty)
  short-emit (two kind.OrD x y) w =
      joined _ _ (joined _ _ (short-emit x w.0) (opcode _ _ (opcode _ _ (short-emit y w.1)))) (opcode _ _ empty)
  short-emit (two kind.OrI x y) w =
      joined _ _ (joined _ _ (opcode _ _ (short-emit x w.0)) (opcode _ _ (short-emit y w.1))) (opcode _ _ empty)
  short-emit (thresh k xs) w = joined _ _ (short_sum xs w.2) (counted k _ (opcode _ _ empty))
  short-emit (multi k ks) w = joined _ _ (counted k _ (keys ks w.2)) (counted (length ks) _ (opcode _ _ empty))
  short-emit (wrap wrapper.A x) w = joined _ _ (opcode _ _ (short-emit x w)) (opcode _ _ empty)
  short-emit (wrap wrapper.S x) w = opcode _ _ (short-emit x w)
  short-emit (wrap wrapper.C x) w = joined _ _ (short-emit x w) (opcode _ _ empty)
  short-emit (wrap wrapper.D x) w = joined _ _ (opcode _ _ (opcode _ _ (short-emit x w))) (opcode _ _ empty)
  short-emit (wrap wrapper.V x) w = short-verified (emit x) (short-emit x w)
  short-emit (wrap wrapper.J x) w = joined _ _ (opcode _ _ (opcode _ _ (opcode _ _ (short-emit x w)))) (opcode _ _ empty)
  short-emit (wrap wrapper.N x) w = joined _ _ (short-emit x w) (opcode _ _ empty)

  short_sum : (xs : Trees) → AreWritable xs → AllShort (emit_sum xs)
  short_sum none w = empty
  short_sum (more x xs) w = joined _ _ (short-emit x w.0) (short_added xs w.1)

  short_added : (xs : Trees) → AreWritable xs → AllShort (emit_added xs)
  short_added none w = empty
  short_added (more x xs) w = joined _ _ (short-emit x w.0) (opcode _ _ (short_added xs w.1))

pub items-script_of : (t : Tree) → IsWritable t → items (script_of t) ≡ map item_of (emit t)
items-script_of t writable = let short = short-emit t writable in items-spell (emit t) (all_short-spell (emit t) short.all)
