-- What the Script of P2WPKH is read as, and what satisfies it.
use Rattle.std.proofs.Common.{◌≡◌, ℕ, ◌==◌, ◌&&◌, nat_le, not, Bool, true, false, List, [], ◌∷◌, ◌++◌, All, Contains, length, map, drop, reverse, if◌then◌else◌, Option, Some, None, inl, inr, refl, sym, ap, subst, ◌∙◌, arith}
use Rattle.std.specs.Str.{bytes_eq}
use Rattle.std.specs.Int.{w16, w32, to_le_bytes}
use Rattle.std.proofs.lemmas.Bool.{false≢true, and_parts, or_cases, eqb-true}
use Rattle.std.proofs.lemmas.List.{reverse-reverse}
use Rattle.std.proofs.lemmas.List.Elements.{All-from_recursion, All-weaker, All-contains_itself, Contains-append_left, Contains-append_right, Contains-append_cases}
use Rattle.std.specs.Option.{option_map}
use Rattle.std.proofs.lemmas.Slice.Eq.{bytes_eq-Decides}
use Rattle.def_hash.specs.declared.HashKind.TheVariants as hash_kind
use Rattle.def_hash.specs.Hash.{hash160}
use Rattle.def_hash.proofs.Lengths.{digest_has_its_length}
use Rattle.def_script.specs.declared.Op.TheVariants as op
use Rattle.def_script.specs.Bytes.{Bytes}
use Rattle.def_script.specs.Instruction.{Instruction, push, code}
use Rattle.def_script.specs.Items.{items}
use Rattle.def_script.specs.Laws.{item_of}
use Rattle.def_script.specs.Spell.{IsShort, spell}
use Rattle.def_script.proofs.Reading.{items-spell, all_short-spell}
use Rattle.def_machine.specs.Stacks.{Pairs, member, is_empty}
use Rattle.def_tree.specs.declared.Wrapper.TheVariants as wrapper
use Rattle.def_tree.specs.Tree.{Key, Tree, Trees, pk_h, and_or, two, thresh, wrap, none, more}
use Rattle.def_tree.specs.Range.{IsKey, IsWritable, AreWritable}
use Rattle.def_assets.specs.Assets.{Assets, sig_of}
use Rattle.def_choice.specs.Least.{both, item}
use Rattle.def_choice.specs.Strict.{strict}
use Rattle.def_decode.specs.Nested.{EachHashed, EachHashedOf}
use Rattle.def_decode.specs.Decoded.{IsReading, IsDecoded, first_with}
use Rattle.ms_decode_laws.specs.Scaffolding.Frame as frame
use Rattle.ms_decode_laws.specs.Scaffolding.Reader.{fits, keyed, finish, read}
use Rattle.ms_decode_laws.proofs.Decoding.{reading_is_found, one_is_decoded}
use Rattle.def_spend.specs.Kinds.{is_key_hash}
use Rattle.def_spend.specs.Reading.{key_hash_script}
use Rattle.ms_spend_laws.specs.KeyHash.{pkh, KeyHashIsPkh, KeyHashIsReadAsPkh, PkhStack}
use Rattle.ms_spend_laws.proofs.Mixed.{first_or_rest}
use Rattle.ms_spend_laws.proofs.Reread.{found_is}

-- ---- its instructions

abbrev instructions : (hash : Bytes) → List Instruction
instructions hash = code op.Dup ∷ code op.Hash160 ∷ push hash ∷ code op.EqualVerify ∷ code op.CheckSig ∷ []

abbrev script_with : (hash : Bytes) → Bytes
script_with hash = 0x76 ∷ 0xa9 ∷ 0x14 ∷ hash ++ 0x88 ∷ 0xac ∷ []

-- a push of so many bytes, and what stands behind it
abbrev pushed_behind : ℕ → (hash behind : Bytes) → Bytes
pushed_behind n hash behind =
    (if nat_le n 75 then n ∷ hash
    else if nat_le n 255 then 0x4c ∷ n ∷ hash
    else if nat_le n 65535 then 0x4d ∷ to_le_bytes w16 n ++ hash
    else 0x4e ∷ to_le_bytes w32 n ++ hash) ++ behind

spelled : (hash : Bytes) → length hash ≡ 20 → spell (instructions hash) ≡ script_with hash
spelled [] e = absurd (omega (arith, e))
spelled (a ∷ []) e = absurd (omega (arith, e))
spelled (a ∷ b ∷ hash) e = ap (λ n. 0x76 ∷ 0xa9 ∷ pushed_behind n (a ∷ b ∷ hash) (0x88 ∷ 0xac ∷ [])) e

all_short : (hash : Bytes) → length hash ≡ 20 → All IsShort (instructions hash)
all_short hash e = All-from_recursion IsShort (instructions hash) (tt, (tt, (omega (arith, e), (tt, (tt, tt)))))

-- ---- the program of a key

hash_length : (key : Key) → length (hash160 key) ≡ 20
hash_length key = digest_has_its_length hash_kind.Hash160 key

pub key_hash_is_pkh : KeyHashIsPkh
key_hash_is_pkh key = sym (spelled (hash160 key) (hash_length key))

-- a program of version 0 and 20 bytes
record IsProgram (program : Bytes) : Type 0 where
  pub is : program ≡ 0x00 ∷ 0x14 ∷ drop 2 program
  pub long : length (drop 2 program) ≡ 20

is_program : (program : Bytes) → is_key_hash program ≡ true → IsProgram program
is_program [] e = absurd cc
is_program (a ∷ []) e = absurd cc
is_program (a ∷ b ∷ hash) e =
    let parts = and_parts ((length (a ∷ b ∷ hash) == 22) && (a == 0x00)) (b == 0x14) e in
    let front = and_parts (length (a ∷ b ∷ hash) == 22) (a == 0x00) parts.0 in
    let first : a ≡ 0x00 = eqb-true a 0x00 front.1 in
    let second : b ≡ 0x14 = eqb-true b 0x14 parts.1 in
    let size : length (a ∷ b ∷ hash) ≡ 22 = eqb-true (length (a ∷ b ∷ hash)) 22 front.0 in
    record {
      is = ap (λ (n : ℕ). n ∷ b ∷ hash) first ∙ ap (λ (n : ℕ). 0x00 ∷ n ∷ hash) second;
      long = omega (arith, size);
    }

-- ---- the keys of the `pk_h` of a tree

abbrev mutual
  hashed : Tree → List Key
  hashed (pk_h key) = key ∷ []
  hashed (and_or x y z) = hashed x ++ (hashed y ++ hashed z)
  hashed (two kind x y) = hashed x ++ hashed y
  hashed (thresh k xs) = hashed_of xs
  hashed (wrap wrapper x) = hashed x
  hashed leaf = []

  hashed_of : Trees → List Key
  hashed_of none = []
  hashed_of (more x xs) = hashed x ++ hashed_of xs

none_of : (key : Key) → Contains [] key → ⊥
none_of key i = let low = i.1 in omega (arith, low)

-- what holds of each `pk_h` key holds of each of these
mutual
  of_hashed : (P : Key → Type 0) (t : Tree) → EachHashed P t → (key : Key) → Contains (hashed t) key → P key
  of_hashed P (pk_h own) h key i = elim (first_or_rest key own [] i) [ inl same ↦ subst P same h | inr j ↦ absurd (none_of key j) ]
  of_hashed P (and_or x y z) h key i = elim (Contains-append_cases (hashed x) (hashed y ++ hashed z) key i) [
    | inl j ↦ of_hashed P x h.0 key j
    | inr j ↦ elim (Contains-append_cases (hashed y) (hashed z) key j) [ inl k ↦ of_hashed P y h.1 key k | inr k ↦ of_hashed P z h.2 key k ]
  ]
  of_hashed P (two kind x y) h key i = elim (Contains-append_cases (hashed x) (hashed y) key i) [ inl j ↦ of_hashed P x h.0 key j | inr j ↦ of_hashed P y h.1 key j ]
  of_hashed P (thresh k xs) h key i = of_hashed_of P xs h key i
  of_hashed P (wrap wrapper x) h key i = of_hashed P x h key i
  of_hashed P leaf h key i = absurd (none_of key i)

  of_hashed_of : (P : Key → Type 0) (xs : Trees) → EachHashedOf P xs → (key : Key) → Contains (hashed_of xs) key → P key
  of_hashed_of P none h key i = absurd (none_of key i)
  of_hashed_of P (more x xs) h key i =
      elim (Contains-append_cases (hashed x) (hashed_of xs) key i) [ inl j ↦ of_hashed P x h.0 key j | inr j ↦ of_hashed_of P xs h.1 key j ]

-- each of them is listed where they are
mutual
  listed_in : (keys : List Key) (t : Tree) → ((key : Key) → Contains (hashed t) key → Contains keys key) → EachHashed (λ key. Contains keys key) t
  listed_in keys (pk_h own) within = within own (0, omega arith, refl)
  listed_in keys (and_or x y z) within = (
    listed_in keys x (λ key i. within key (Contains-append_left (hashed x) (hashed y ++ hashed z) key i)),
    listed_in keys y (λ key i. within key (Contains-append_right (hashed x) (hashed y ++ hashed z) key (Contains-append_left (hashed y) (hashed z) key i))),
    listed_in keys z (λ key i. within key (Contains-append_right (hashed x) (hashed y ++ hashed z) key (Contains-append_right (hashed y) (hashed z) key i))),
  )
  listed_in keys (two kind x y) within = (
    listed_in keys x (λ key i. within key (Contains-append_left (hashed x) (hashed y) key i)),
    listed_in keys y (λ key i. within key (Contains-append_right (hashed x) (hashed y) key i)),
  )
  listed_in keys (thresh k xs) within = listed_in_all keys xs within
  listed_in keys (wrap wrapper x) within = listed_in keys x within
  listed_in keys leaf within = tt

  listed_in_all : (keys : List Key) (xs : Trees) → ((key : Key) → Contains (hashed_of xs) key → Contains keys key) → EachHashedOf (λ key. Contains keys key) xs
  listed_in_all keys none within = tt
  listed_in_all keys (more x xs) within = (
    listed_in keys x (λ key i. within key (Contains-append_left (hashed x) (hashed_of xs) key i)),
    listed_in_all keys xs (λ key i. within key (Contains-append_right (hashed x) (hashed_of xs) key i)),
  )

-- the keys of a tree that can be written are keys
mutual
  hashed_keys : (t : Tree) → IsWritable t → EachHashed IsKey t
  hashed_keys (pk_h key) h = h
  hashed_keys (and_or x y z) h = (hashed_keys x h.0, hashed_keys y h.1, hashed_keys z h.2)
  hashed_keys (two kind x y) h = (hashed_keys x h.0, hashed_keys y h.1)
  hashed_keys (thresh k xs) h = hashed_keys_of xs h.2
  hashed_keys (wrap wrapper x) h = hashed_keys x h
  hashed_keys leaf h = tt

  hashed_keys_of : (xs : Trees) → AreWritable xs → EachHashedOf IsKey xs
  hashed_keys_of none h = tt
  hashed_keys_of (more x xs) h = (hashed_keys x h.0, hashed_keys_of xs h.1)

-- ---- what is read

some_tree : (a b : Tree) → Some a ≡ Some b → a ≡ b
some_tree a b e = cc

-- the key that is found by the hash, and `pkh` of it
found_key : (find : Bytes → Option Key) (hash : Bytes) (tree : Tree) → read find (reverse (instructions hash)) ≡ Some tree
    → (key : Key) × (find hash ≡ Some key) × (tree ≡ pkh key)
found_key find hash tree e = go (find hash) refl e
  where
    fitting : (key : Key) (b : Bool) → fits (pkh key) ≡ b
        → finish (keyed (Some key) (frame.under wrapper.C ∷ frame.chain ∷ [])) ≡ Some tree → tree ≡ pkh key
    fitting key true is e = sym (some_tree (pkh key) tree (rw is at e))
    fitting key false is e = absurd (nothing (rw is at e))
      where
        nothing : None ≡ Some tree → ⊥
        nothing e = cc

    go : (o : Option Key) → find hash ≡ o → finish (keyed o (frame.under wrapper.C ∷ frame.chain ∷ [])) ≡ Some tree
        → (key : Key) × (find hash ≡ Some key) × (tree ≡ pkh key)
    go None is e = absurd cc
    go (Some key) is e = (key, is, fitting key (fits (pkh key)) refl e)

pub key_hash_is_read_as_pkh : KeyHashIsReadAsPkh
key_hash_is_read_as_pkh keys program tree is decoded =
    let p = is_program program is in
    let hash : Bytes = drop 2 program in
    let script : Bytes = key_hash_script program in
    let same : items script ≡ map item_of (instructions hash) =
    ap items (sym (spelled hash p.long)) ∙ items-spell (instructions hash) (all_short-spell (instructions hash) (all_short hash p.long)) in
    let read = decoded.reading in
    let own : IsReading (hashed tree) script tree = record {
      valid = read.valid;
      writable = read.writable;
      listed = listed_in (hashed tree) tree (λ key i. i);
      same = read.same;
    } in
    let are_keys : All IsKey (hashed tree) =
    All-weaker (λ key. Contains (hashed tree) key) IsKey (λ key i. of_hashed IsKey tree (hashed_keys tree read.writable) key i) (hashed tree) (All-contains_itself (hashed tree)) in
    let found = reading_is_found (hashed tree) script (instructions hash) tree are_keys same own in
    let key = found_key (first_with (hashed tree)) hash found.tree found.found in
    let among = found_is (λ k. bytes_eq (hash160 k) hash) (hashed tree) key.0 key.1 in
    let hashed_as : hash160 key.0 ≡ hash = (bytes_eq-Decides (hash160 key.0) hash).0 among.0 in
    let of_key : IsDecoded (hashed tree) script (pkh key.0) = subst (IsDecoded (hashed tree) script) key.2 found.decoded in
    let listed : Contains keys key.0 = of_hashed (λ k. Contains keys k) tree read.listed key.0 among.1 in
    let with_keys : IsDecoded keys script (pkh key.0) = record {
      reading = record { valid = of_key.reading.valid; writable = of_key.reading.writable; listed = listed; same = of_key.reading.same };
      nested = of_key.nested;
      first = of_hashed (λ k. first_with keys (hash160 k) ≡ Some k) tree decoded.first key.0 among.1;
    } in
    record {
      key = key.0;
      among = listed;
      miniscript = one_is_decoded keys script tree (pkh key.0) decoded with_keys;
      is_program = p.is ∙ ap (λ (h : Bytes). 0x00 ∷ 0x14 ∷ h) (sym hashed_as);
    }

-- ---- what satisfies it

-- a pair that is good is among the pairs
pub member_in : (pairs : Pairs) (key sig : Bytes) → member pairs key sig ≡ true → Contains pairs (key, sig)
member_in [] key sig h = absurd (false≢true h)
member_in (pair ∷ pairs) key sig h =
    elim (or_cases (bytes_eq pair.0 key && bytes_eq pair.1 sig) (member pairs key sig) h) [
      | inl a ↦
          let p = and_parts (bytes_eq pair.0 key) (bytes_eq pair.1 sig) a in
          (0, omega arith, ap (λ x. (x, pair.1)) ((bytes_eq-Decides pair.0 key).0 p.0) ∙ ap (λ x. (key, x)) ((bytes_eq-Decides pair.1 sig).0 p.1))
      | inr a ↦ Contains-append_right (pair ∷ []) pairs (key, sig) (member_in pairs key sig a)
    ]

pub pkh_stack : PkhStack
pkh_stack key assets stack (other, form, hash, same, (below, above, (sig, good, is_below), is_above, joined)) =
    let turned : reverse stack ≡ key ∷ sig ∷ [] =
    joined ∙ ap (λ (l : List Bytes). l ++ below) is_above ∙ ap (λ (l : List Bytes). (other ∷ []) ++ l) is_below ∙ ap (λ (k : Bytes). k ∷ sig ∷ []) same in
    record {
      sig = sig;
      held = member_in assets.pairs key sig
          (subst (λ (k : Bytes). member assets.pairs k sig ≡ true) same (and_parts (not (is_empty sig)) (member assets.pairs other sig) good).1);
      is_stack = sym (reverse-reverse stack) ∙ ap (λ (l : List Bytes). reverse l) turned;
    }

-- ---- the strict choice

abbrev strict_pkh : Key → Option Bytes → Option (List Bytes)
strict_pkh key sig = option_map (λ (stack : List Bytes). reverse stack) (both (item sig) (Some (key ∷ [])))

-- it is never the empty stack
pub strict_has_item : (key : Key) (assets : Assets) (stack : List Bytes) → strict (pkh key) assets ≡ Some stack → (sig : Bytes) × (stack ≡ sig ∷ key ∷ [])
strict_has_item key assets stack e = go (sig_of assets key) e
  where
    go : (sig : Option Bytes) → strict_pkh key sig ≡ Some stack → (sig : Bytes) × (stack ≡ sig ∷ key ∷ [])
    go None e = absurd cc
    go (Some sig) e = let same : sig ∷ key ∷ [] ≡ stack = cc in (sig, sym same)
