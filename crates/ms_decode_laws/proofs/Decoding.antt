-- What a Script is decoded to: the tree that the reader finds, where there is one.
use Rattle.std.proofs.Common.{inl, inr, ◌≡◌, ◌↔◌, ℕ, zero, suc, ◌+◌, ◌<◌, ◌≤◌, Bool, true, List, [], ◌∷◌, ◌++◌, length, map, reverse, append-nil, slice_index_or, All, Option, Some, None, Ok, refl, sym, ◌∙◌, ap, subst, arith}
use Rattle.std.specs.List.{find, Contains}
use Rattle.std.specs.Str.{bytes_eq}
use Rattle.std.proofs.lemmas.List.{length-append, reverse-reverse}
use Rattle.std.proofs.lemmas.Bool.{cases_Bool}
use Rattle.std.proofs.lemmas.List.Elements.{All-contains}
use Rattle.std.proofs.lemmas.Slice.Eq.{bytes_eq-Decides}
use Rattle.def_hash.specs.Hash.{hash160}
use Rattle.def_script.specs.Bytes.{Bytes}
use Rattle.def_script.specs.Instruction.{Instruction, push, code, opcode_count}
use Rattle.def_script.specs.Spell.{spell_one, spell}
use Rattle.def_script.specs.Items.{items}
use Rattle.def_script.specs.Laws.{item_of}
use Rattle.def_tree.specs.Tree.{Tree, Trees, Key, pk_h, and_or, two, thresh, wrap, none, more}
use Rattle.def_tree.specs.InRange.{measure, depth, MOST_MEASURE}
use Rattle.def_tree.specs.Range.{IsKey}
use Rattle.def_types.specs.declared.Base.TheVariants.{B, W}
use Rattle.def_types.specs.declared.CorrectnessType.{CorrectnessType}
use Rattle.def_types.specs.declared.MalleabilityProperties.{MalleabilityProperties}
use Rattle.def_types.specs.Malleable.{malleability_of}
use Rattle.def_types.specs.Typed.{type_of, IsTyped, properties_of, IsMalleabilityTyped}
use Rattle.def_types.proofs.Typing.{malleability_is_typed}
use Rattle.def_emit.specs.Emit.{emit, script_of}
use Rattle.def_emit.proofs.Short.{items-script_of}
use Rattle.def_limits.specs.declared.Limits.{Limits}
use Rattle.def_limits.specs.Limits.{AreLimits}
use Rattle.def_limits.specs.Scaffolding.Most.{most_sat, number_of, limits_of}
use Rattle.def_limits.proofs.Greatest.{as_computed, limits_by}
use Rattle.def_sane.specs.Locks.{mix}
use Rattle.def_sane.specs.Keys as held
use Rattle.def_sane.specs.Keys.{AreDistinct}
use Rattle.def_script.specs.Limits.{MAX_OPS_PER_SCRIPT}
use Rattle.def_sane.specs.Unfit.{MOST_SIZE, MOST_ITEMS, IsValid, IsSane}
use Rattle.def_sane.proofs.Meanings.{valid_means, sane_means}
use Rattle.def_decode.specs.Nested.{RightNested, EachHashed, EachHashedOf}
use Rattle.def_decode.specs.Decoded.{first_with, IsReading, IsDecoded}
use Rattle.def_decode.specs.Alike.{HasFirstKeys, IsAlike}
use Rattle.def_decode.specs.Laws.{HasDecoded, EachIsDecoded, OneIsDecoded, DecodedIsAlike}
use Rattle.ms_decode_laws.specs.Scaffolding.Reader.{read}
use Rattle.ms_decode_laws.proofs.Onto.{back, back_reverse, onto, onto_back}
use Rattle.ms_decode_laws.proofs.ReadBack.{tree_reads}
use Rattle.ms_decode_laws.proofs.Nest.{nest, IsNest, is_nest}
use Rattle.ms_decode_laws.proofs.Alike.{nest_properties, nest_typed, nest_mix, nest_keys}
use Rattle.ms_decode_laws.proofs.Low.{ops-onto, low}
use Rattle.ms_decode_laws.proofs.Few.{few_of}
use Rattle.ms_decode_laws.proofs.Fitting.{Fit, parses}
use Rattle.ms_decode_laws.proofs.PrintedSize.{some_spelled}

-- the first element that passes a test
module _ (X : Type 0) (p : X → Bool) where
  found_passes : (xs : List X) (y : X) → find p xs ≡ Some y → p y ≡ true
  found_passes [] y e = cc
  found_passes (x ∷ xs) y e = grind (arith, found_passes xs y)

  found_at : (xs : List X) (k : ℕ) (d : X) → k < length xs → p (slice_index_or xs k d) ≡ true → (z : X) × (find p xs ≡ Some z)
  found_at [] k d below e = absurd (omega (arith, below))
  found_at (x ∷ xs) zero d below e = (x, rw e refl)
  found_at (x ∷ xs) (suc k) d below e = elim (cases_Bool (p x)) [
    | inl q ↦ (x, rw q refl)
    | inr q ↦ (let r = found_at xs k d (omega (arith, below)) e in (r.0, rw q r.1))
  ]

  pub found_in : (xs : List X) (y : X) → find p xs ≡ Some y → Contains xs y
  found_in [] y e = cc
  found_in (x ∷ xs) y e = elim (cases_Bool (p x)) [
    | inl q ↦ (let f = rw q at e in let same : x ≡ y = cc in (0, omega arith, same))
    | inr q ↦ (let r = found_in xs y (rw q at e) in let below = r.1 in (suc r.0, omega (arith, below), r.2))
  ]

-- the first listed key with the HASH160 of a key, or else that key
abbrev or_key : Option Key → Key → Key
or_key None key = key
or_key (Some k) key = k

abbrev first_of : List Key → Key → Key
first_of keys key = or_key (first_with keys (hash160 key)) key

found_hash : (keys : List Key) (value : Bytes) (k : Key) → first_with keys value ≡ Some k → hash160 k ≡ value
found_hash keys value k e = (bytes_eq-Decides (hash160 k) value).0 (found_passes Key (λ key. bytes_eq (hash160 key) value) keys k e)

first_same : (keys : List Key) (k : Key) → hash160 (first_of keys k) ≡ hash160 k
first_same keys k = go (first_with keys (hash160 k)) refl
  where
    go : (o : Option Key) → first_with keys (hash160 k) ≡ o → hash160 (or_key o k) ≡ hash160 k
    go None e = refl
    go (Some z) e = found_hash keys (hash160 k) z e

-- a listed key has a first one
record IsFirst (keys : List Key) (k : Key) : Type 0 where
  first : first_with keys (hash160 (first_of keys k)) ≡ Some (first_of keys k)
  key : IsKey (first_of keys k)

first_from_listed : (keys : List Key) (k : Key) → All IsKey keys → Contains keys k → IsFirst keys k
first_from_listed keys k all h =
    let p : Key → Bool = λ key. bytes_eq (hash160 key) (hash160 k) in
    let passes : p (slice_index_or keys h.0 k) ≡ true = subst (λ (z : Key). p z ≡ true) (sym h.2) ((bytes_eq-Decides (hash160 k) (hash160 k)).1 refl) in
    let r = found_at Key p keys h.0 k h.1 passes in
    let found : first_with keys (hash160 k) ≡ Some r.0 = r.1 in
    let is : first_of keys k ≡ r.0 = ap (λ (o : Option Key). or_key o k) found in
    let same : hash160 r.0 ≡ hash160 k = found_hash keys (hash160 k) r.0 found in
    record {
      first = subst (λ (z : Key). first_with keys (hash160 z) ≡ Some z) (sym is) (ap (first_with keys) same ∙ found);
      key = subst IsKey (sym is) (All-contains IsKey keys r.0 all (found_in Key p keys r.0 found));
    }

mutual
  each_map : (P Q : Key → Type 0) (f : (k : Key) → P k → Q k) (t : Tree) → EachHashed P t → EachHashed Q t
  each_map P Q f (pk_h key) h = f key h
  each_map P Q f (and_or x y z) h = (each_map P Q f x h.0, each_map P Q f y h.1, each_map P Q f z h.2)
  each_map P Q f (two kind x y) h = (each_map P Q f x h.0, each_map P Q f y h.1)
  each_map P Q f (thresh k xs) h = each_map_of P Q f xs h
  each_map P Q f (wrap w x) h = each_map P Q f x h
  each_map P Q f leaf h = tt

  each_map_of : (P Q : Key → Type 0) (f : (k : Key) → P k → Q k) (ts : Trees) → EachHashedOf P ts → EachHashedOf Q ts
  each_map_of P Q f none h = tt
  each_map_of P Q f (more x xs) h = (each_map P Q f x h.0, each_map_of P Q f xs h.1)

-- a tree's instructions backwards
onto_reverse : (t : Tree) → onto t [] ≡ reverse (emit t)
onto_reverse t = onto_back t [] ∙ back_reverse (emit t) [] ∙ append-nil (reverse (emit t))

-- the same instructions
same_emit : (t n : Tree) → onto n [] ≡ onto t [] → emit n ≡ emit t
same_emit t n e =
    sym (reverse-reverse (emit n)) ∙ ap reverse (sym (onto_reverse n) ∙ e ∙ onto_reverse t) ∙ reverse-reverse (emit t)

-- the same limits
same_limits : (t n : Tree) → emit n ≡ emit t → most_sat n ≡ most_sat t → limits_of n ≡ limits_of t
same_limits t n e s = λ k. record {
  size = length (spell (e k));
  ops = opcode_count (e k) + number_of (λ t. t.keys) (s k);
  items = number_of (λ t. t.items) (s k);
  weight = number_of (λ t. t.weight) (s k);
}

same_greatest : (t n : Tree) → limits_of n ≡ limits_of t → (limits : Limits) → AreLimits n limits ↔ AreLimits t limits
same_greatest t n same limits = (
  λ are. limits_by t limits (sym same ∙ sym (as_computed n limits are)),
  λ are. limits_by n limits (same ∙ sym (as_computed t limits are)),
)

-- the same malleability properties, and sane alike
same_properties : (t n : Tree) → IsMalleabilityTyped n ↔ IsMalleabilityTyped t → properties_of n ≡ properties_of t → (m : MalleabilityProperties)
    → (malleability_of n ≡ Ok m) ↔ (malleability_of t ≡ Ok m)
same_properties t n typed is m =
    let a = malleability_is_typed n m in
    let b = malleability_is_typed t m in (
      λ e. let h = a.0 e in b.1 (typed.0 h.0, h.1 ∙ is),
      λ e. let h = b.0 e in a.1 (typed.1 h.0, h.1 ∙ sym is),
    )

same_sane : (t n : Tree) → IsValid n ↔ IsValid t → IsMalleabilityTyped n ↔ IsMalleabilityTyped t → properties_of n ≡ properties_of t → (mix n ≡ None) ↔ (mix t ≡ None)
    → held.keys n ≡ held.keys t → IsSane n ↔ IsSane t
same_sane t n valid typed is locks keys =
    let a = sane_means n in
    let b = sane_means t in
    let s : (properties_of n).s ≡ (properties_of t).s = ap (λ (m : MalleabilityProperties). m.s) is in (
      λ e. let h = a.0 e in b.1 (valid.0 h.0, typed.0 h.1, sym s ∙ h.2, locks.0 h.3, subst AreDistinct keys h.4),
      λ e. let h = b.0 e in a.1 (valid.1 h.0, typed.1 h.1, s ∙ h.2, locks.1 h.3, subst AreDistinct (sym keys) h.4),
    )

nest_is_decoded : (keys : List Key) (script : Bytes) (t : Tree) → All IsKey keys → IsReading keys script t → HasDecoded keys script t
nest_is_decoded keys script t all h =
    let P : Key → Type 0 = λ k. first_with keys (hash160 k) ≡ Some k in
    let v = (valid_means t).0 h.valid in
    let found : EachHashed (λ k. P (first_of keys k) × IsKey (first_of keys k)) t =
    each_map (λ k. Contains keys k) (λ k. P (first_of keys k) × IsKey (first_of keys k)) (λ k c. let r = first_from_listed keys k all c in (r.first, r.key)) t h.listed in
    let n = nest (first_of keys) t in
    let i : IsNest P t n = is_nest P (first_of keys) (first_same keys) t v.0 h.writable found in
    let e : emit n ≡ emit t = same_emit t n (i.order []) in
    let l : limits_of n ≡ limits_of t = same_limits t n e i.sat in
    let size : (limits_of n).size ≤ MOST_SIZE = subst (λ (m : Limits). m.size ≤ MOST_SIZE) (sym l) v.2 in
    let count : (limits_of n).ops ≤ MAX_OPS_PER_SCRIPT = subst (λ (m : Limits). m.ops ≤ MAX_OPS_PER_SCRIPT) (sym l) v.3 in
    let stack : (limits_of n).items ≤ MOST_ITEMS = subst (λ (m : Limits). m.items ≤ MOST_ITEMS) (sym l) v.4 in
    let base : (type_of n).base ≡ B = ap (λ (ty : CorrectnessType). ty.base) i.type ∙ v.1 in
    let listed : EachHashed (λ k. Contains keys k) n = each_map P (λ k. Contains keys k) (λ k f. found_in Key (λ key. bytes_eq (hash160 key) (hash160 k)) keys k f) n i.hashed in
    let valid : IsValid n = (valid_means n).1 (i.typed, base, size, count, stack) in
    record {
      nested = n;
      decoded = record {
        reading = record {
          valid = valid;
          writable = i.writable;
          listed = listed;
          same = ap spell e ∙ h.same;
        };
        nested = i.nested;
        first = i.hashed;
      };
      alike = record {
        type = i.type;
        limits = same_greatest t n l;
        properties = same_properties t n (nest_typed (first_of keys) t) (nest_properties (first_of keys) t);
        locks = nest_mix (first_of keys) t;
        held = λ first. nest_keys (first_of keys) t (kept first);
        sane = λ first.
            same_sane t n ((λ e. h.valid), (λ e. valid)) (nest_typed (first_of keys) t) (nest_properties (first_of keys) t) (nest_mix (first_of keys) t)
            (nest_keys (first_of keys) t (kept first));
      };
    }
  where
    -- the first listed key with the HASH160 of a first one is that one
    kept : HasFirstKeys keys t → EachHashed (λ key. first_of keys key ≡ key) t
    kept first =
        each_map (λ key. first_with keys (hash160 key) ≡ Some key) (λ key. first_of keys key ≡ key) (λ key e. ap (λ (o : Option Key). or_key o key) e) t first

pub each_is_decoded : EachIsDecoded
each_is_decoded keys script t all h = nest_is_decoded keys script t all h

-- every instruction takes a byte
length-spell : (l : List Instruction) → length l ≤ length (spell l)
length-spell [] = omega arith
length-spell (i ∷ l) =
    let a = some_spelled i in
    let b = length-spell l in
    let c : length (spell_one i ++ spell l) ≡ length (spell_one i) + length (spell l) = length-append (spell_one i) (spell l) in
    omega (arith, a, b, c)

length-back : (l is : List Instruction) → length (back l is) ≡ length l + length is
length-back [] is = omega arith
length-back (i ∷ l) is = omega (arith, length-back l (i ∷ is))

count-back : (l is : List Instruction) → opcode_count (back l is) ≡ opcode_count l + opcode_count is
count-back [] is = omega arith
count-back (push bytes ∷ l) is = omega (arith, count-back l (push bytes ∷ is))
count-back (code op ∷ l) is = omega (arith, count-back l (code op ∷ is))

-- such a tree is neither deep nor too large
pub depth_within : (t : Tree) → IsTyped t → RightNested t → opcode_count (emit t) ≤ MAX_OPS_PER_SCRIPT → depth t ≤ MAX_OPS_PER_SCRIPT + 4
depth_within t h n o =
    let a = (low t h n).four in
    let b = ops-onto t h n [] in
    let c : opcode_count (onto t []) ≡ opcode_count (back (emit t) []) = ap opcode_count (onto_back t []) in
    let d = count-back (emit t) [] in
    omega (arith, a, b, c, d, o)

large_within : (t : Tree) → length (script_of t) ≤ MOST_SIZE → measure t ≤ MOST_MEASURE
large_within t s =
    let a = (few_of t []).few in
    let b : length (onto t []) ≡ length (back (emit t) []) = ap length (onto_back t []) in
    let c = length-back (emit t) [] in
    let d = length-spell (emit t) in
    omega (arith, a, b, c, d, s)

-- a decoded tree is what the reader finds
decoded_is_read : (keys : List Key) (script : Bytes) (t : Tree) → IsDecoded keys script t → read (first_with keys) (reverse (emit t)) ≡ Some t
decoded_is_read keys script t h =
    let v = (valid_means t).0 h.reading.valid in
    let o : opcode_count (emit t) ≤ MAX_OPS_PER_SCRIPT = let k = v.3 in omega (arith, k) in
    let f : Fit (first_with keys) t = record {
      typed = v.0;
      nested = h.nested;
      writable = h.reading.writable;
      found = h.first;
      deep = let d = depth_within t v.0 h.nested o in omega (arith, d);
      large = large_within t v.2;
    } in
    ap (read (first_with keys)) (sym (onto_reverse t))
    ∙ tree_reads (first_with keys) t ((parses (first_with keys) t f).row (λ w. let b = v.1 in let e : B ≡ W = sym b ∙ w in cc))

-- instructions are known by their items
item_injective : (i j : Instruction) → item_of i ≡ item_of j → i ≡ j
item_injective i j e = grind arith

map_injective : (a b : List Instruction) → map item_of a ≡ map item_of b → a ≡ b
map_injective [] [] e = refl
map_injective [] (j ∷ b) e = cc
map_injective (i ∷ a) [] e = cc
map_injective (i ∷ a) (j ∷ b) e =
    let p = item_injective i j (cc) in
    let q = map_injective a b (cc) in
    cc

-- so these are the instructions of a tree with this Script
emit_of : (keys : List Key) (script : Bytes) (t : Tree) (is : List Instruction) → items script ≡ map item_of is → IsReading keys script t → emit t ≡ is
emit_of keys script t is e h = map_injective (emit t) is (sym (items-script_of t h.writable) ∙ ap items h.same ∙ e)

-- a Script that can be read: what the reader finds can be read too
pub record IsFound (keys : List Key) (script : Bytes) (is : List Instruction) : Type 0 where
  pub tree : Tree
  pub found : read (first_with keys) (reverse is) ≡ Some tree
  pub decoded : IsDecoded keys script tree

pub reading_is_found : (keys : List Key) (script : Bytes) (is : List Instruction) (t : Tree) → All IsKey keys → items script ≡ map item_of is → IsReading keys script t → IsFound keys script is
reading_is_found keys script is t all e h =
    let d = nest_is_decoded keys script t all h in
    let same : emit d.nested ≡ is = emit_of keys script d.nested is e d.decoded.reading in
    record {
      tree = d.nested;
      found = ap (λ (l : List Instruction). read (first_with keys) (reverse l)) (sym same) ∙ decoded_is_read keys script d.nested d.decoded;
      decoded = d.decoded;
    }

-- and what it finds is decoded where it can be read
pub found_is_decoded : (keys : List Key) (script : Bytes) (is : List Instruction) (t : Tree) → All IsKey keys → items script ≡ map item_of is
    → read (first_with keys) (reverse is) ≡ Some t → IsReading keys script t → IsDecoded keys script t
found_is_decoded keys script is t all e f h =
    let d = reading_is_found keys script is t all e h in
    let both : Some d.tree ≡ Some t = sym d.found ∙ f in
    let same : d.tree ≡ t = cc in
    subst (IsDecoded keys script) same d.decoded

pub one_is_decoded : OneIsDecoded
one_is_decoded keys script t v h i =
    let e : items script ≡ map item_of (emit v) = ap items (sym i.reading.same) ∙ items-script_of v i.reading.writable in
    let same : emit t ≡ emit v = emit_of keys script t (emit v) e h.reading in
    let both : Some t ≡ Some v = sym (decoded_is_read keys script t h) ∙ ap (λ (l : List Instruction). read (first_with keys) (reverse l)) same ∙ decoded_is_read keys script v i in
    cc

-- what a Script is decoded to is like each of its readings
pub decoded_is_alike : DecodedIsAlike
decoded_is_alike keys script decoded all d tree h =
    let found = nest_is_decoded keys script tree all h in
    subst (IsAlike keys tree) (one_is_decoded keys script found.nested decoded found.decoded d) found.alike
