-- Whether a Script can be read back, computed: the reader finds a tree, and the tree is tested.
use Rattle.std.proofs.Common.{◌≡◌, ℕ, zero, suc, ◌<◌, ◌≤◌, ◌==◌, ◌&&◌, nat_lt, Bool, true, false, List, [], ◌∷◌, length, map, reverse, All, Option, Some, None, if◌then◌else◌, refl, sym, ◌∙◌, ap, subst, arith}
use Rattle.std.specs.Prelude.{is_none}
use Rattle.std.specs.Bool.{Decides}
use Rattle.std.specs.List.{list_all, list_any, Contains}
use Rattle.std.specs.Str.{bytes_eq}
use Rattle.std.proofs.lemmas.Bool.Decides.{Decides-and, Decides-like, Decides-eqb, Decides-ltb, Decides-by_and, Decides-by_or}
use Rattle.std.proofs.lemmas.List.Elements.{Decides-contains}
use Rattle.std.proofs.lemmas.Slice.Eq.{bytes_eq-Decides}
use Rattle.def_hash.specs.declared.HashKind.{HashKind}
use Rattle.def_hash.specs.Hash.{digest_length}
use Rattle.def_script.specs.Bytes.{Bytes, IsBytes}
use Rattle.def_script.specs.Instruction.{Instruction, push, code}
use Rattle.def_script.specs.Item.{Item}
use Rattle.def_script.specs.Item as item
use Rattle.def_script.specs.Items.{items}
use Rattle.def_script.specs.Laws.{item_of}
use Rattle.def_tree.specs.Tree.{Key, Tree, Trees, pk_k, pk_h, older, after, hash, and_or, two, thresh, multi, wrap, none, more}
use Rattle.def_tree.specs.Range.{IsKey, IsDigest, IsWritable, AreWritable, TEN_DIGITS, count}
use Rattle.def_emit.specs.Emit.{emit, script_of}
use Rattle.def_emit.proofs.Short.{items-script_of}
use Rattle.def_sane.specs.Unfit.{first_unfit_valid}
use Rattle.def_decode.specs.Nested.{EachHashed, EachHashedOf}
use Rattle.def_decode.specs.Decoded.{first_with, IsReading, IsDecoded}
use Rattle.ms_decode_laws.specs.Scaffolding.Reader.{read}
use Rattle.ms_decode_laws.proofs.Decoding.{reading_is_found, found_is_decoded}
use Rattle.def_script.specs.Key.{is_key}

-- ---- which trees can be written in a text

bytes_tell : (xs : Bytes) → Decides (list_all (λ b. nat_lt b 256) xs) (IsBytes xs)
bytes_tell [] = (λ e i. omega arith, λ h. refl)
bytes_tell (x ∷ xs) = Decides-like _ to (λ h. (h 0, λ i. h (suc i))) (Decides-and (nat_lt x 256) _ (Decides-ltb x 256) (bytes_tell xs))
  where
    to : (x < 256) × IsBytes xs → IsBytes (x ∷ xs)
    to h zero = h.0
    to h (suc i) = h.1 i

abbrev pub is_key_bytes : Bytes → Bool
is_key_bytes k = is_key k && list_all (λ b. nat_lt b 256) k

key_tells : (k : Key) → Decides (is_key_bytes k) (IsKey k)
key_tells k = Decides-like _ (λ h. record { form = h.0; bytes = h.1 }) (λ h. (h.form, h.bytes)) (Decides-and (is_key k) _ (λ e. e, λ e. e) (bytes_tell k))

pub keys_tell : (ks : List Key) → Decides (list_all is_key_bytes ks) (All IsKey ks)
keys_tell ks = Decides-by_and is_key_bytes IsKey (list_all is_key_bytes) key_tells refl (λ x xs. refl) ks

abbrev pub is_digest_bytes : HashKind → Bytes → Bool
is_digest_bytes kind value = (length value == digest_length kind) && list_all (λ b. nat_lt b 256) value

digest_tells : (kind : HashKind) (value : Bytes) → Decides (is_digest_bytes kind value) (IsDigest kind value)
digest_tells kind value =
    Decides-like _ (λ h. record { length = h.0; bytes = h.1 }) (λ h. (h.length, h.bytes))
    (Decides-and _ _ (Decides-eqb (length value) (digest_length kind)) (bytes_tell value))

some_tell : (n : ℕ) → Decides (nat_lt 0 n) (1 ≤ n)
some_tell n = Decides-like _ (λ h. omega (arith, h)) (λ h. omega (arith, h)) (Decides-ltb 0 n)

abbrev mutual
  pub writable : Tree → Bool
  writable (pk_k key) = is_key_bytes key
  writable (pk_h key) = is_key_bytes key
  writable (older n) = nat_lt n TEN_DIGITS
  writable (after n) = nat_lt n TEN_DIGITS
  writable (hash kind value) = is_digest_bytes kind value
  writable (and_or x y z) = writable x && writable y && writable z
  writable (two kind x y) = writable x && writable y
  writable (thresh k xs) = nat_lt k TEN_DIGITS && nat_lt 0 (count xs) && writable_each xs
  writable (multi k keys) = nat_lt k TEN_DIGITS && nat_lt 0 (length keys) && list_all is_key_bytes keys
  writable (wrap wrapper x) = writable x
  writable leaf = true

  pub writable_each : Trees → Bool
  writable_each none = true
  writable_each (more x xs) = writable x && writable_each xs

-- three facts that are told
all_three : {P Q R : Type 0} (a b c : Bool) → Decides a P → Decides b Q → Decides c R → Decides (a && b && c) (P × Q × R)
all_three a b c p q r = Decides-like _ (λ h. (h.0.0, h.0.1, h.1)) (λ h. ((h.0, h.1), h.2)) (Decides-and _ _ (Decides-and _ _ p q) r)

mutual
  writable_tells : (t : Tree) → Decides (writable t) (IsWritable t)
  writable_tells (pk_k key) = key_tells key
  writable_tells (pk_h key) = key_tells key
  writable_tells (older n) = Decides-ltb n TEN_DIGITS
  writable_tells (after n) = Decides-ltb n TEN_DIGITS
  writable_tells (hash kind value) = digest_tells kind value
  writable_tells (and_or x y z) = all_three _ _ _ (writable_tells x) (writable_tells y) (writable_tells z)
  writable_tells (two kind x y) = Decides-and _ _ (writable_tells x) (writable_tells y)
  writable_tells (thresh k xs) = all_three _ _ _ (Decides-ltb k TEN_DIGITS) (some_tell (count xs)) (writable_each_tells xs)
  writable_tells (multi k keys) = all_three _ _ _ (Decides-ltb k TEN_DIGITS) (some_tell (length keys)) (keys_tell keys)
  writable_tells (wrap wrapper x) = writable_tells x
  writable_tells leaf = (λ e. tt, λ h. refl)

  writable_each_tells : (ts : Trees) → Decides (writable_each ts) (AreWritable ts)
  writable_each_tells none = (λ e. tt, λ h. refl)
  writable_each_tells (more x xs) = Decides-and _ _ (writable_tells x) (writable_each_tells xs)

-- ---- whose `pk_h` keys are listed

abbrev pub lists : List Key → Key → Bool
lists keys key = list_any (λ k. bytes_eq k key) keys

lists_tells : (keys : List Key) (key : Key) → Decides (lists keys key) (Contains keys key)
lists_tells keys key =
    Decides-contains keys key (lists keys key)
    (Decides-by_or (λ k. bytes_eq k key) (λ k. k ≡ key) (list_any (λ k. bytes_eq k key)) (λ k. bytes_eq-Decides k key) refl (λ x xs. refl) keys)

abbrev mutual
  pub each_listed : List Key → Tree → Bool
  each_listed keys (pk_h key) = lists keys key
  each_listed keys (and_or x y z) = each_listed keys x && each_listed keys y && each_listed keys z
  each_listed keys (two kind x y) = each_listed keys x && each_listed keys y
  each_listed keys (thresh k xs) = all_listed keys xs
  each_listed keys (wrap wrapper x) = each_listed keys x
  each_listed keys leaf = true

  pub all_listed : List Key → Trees → Bool
  all_listed keys none = true
  all_listed keys (more x xs) = each_listed keys x && all_listed keys xs

mutual
  listed_tells : (keys : List Key) (t : Tree) → Decides (each_listed keys t) (EachHashed (λ key. Contains keys key) t)
  listed_tells keys (pk_h key) = lists_tells keys key
  listed_tells keys (and_or x y z) = all_three _ _ _ (listed_tells keys x) (listed_tells keys y) (listed_tells keys z)
  listed_tells keys (two kind x y) = Decides-and _ _ (listed_tells keys x) (listed_tells keys y)
  listed_tells keys (thresh k xs) = all_listed_tells keys xs
  listed_tells keys (wrap wrapper x) = listed_tells keys x
  listed_tells keys leaf = (λ e. tt, λ h. refl)

  all_listed_tells : (keys : List Key) (ts : Trees) → Decides (all_listed keys ts) (EachHashedOf (λ key. Contains keys key) ts)
  all_listed_tells keys none = (λ e. tt, λ h. refl)
  all_listed_tells keys (more x xs) = Decides-and _ _ (listed_tells keys x) (all_listed_tells keys xs)

-- ---- readings

pub none_tells : {A : Type 0} (o : Option A) → Decides (is_none o) (o ≡ None)
none_tells o = grind arith

abbrev pub is_reading : List Key → Bytes → Tree → Bool
is_reading keys script t = (is_none (first_unfit_valid t) && writable t) && (each_listed keys t && bytes_eq (script_of t) script)

reading_tells : (keys : List Key) (script : Bytes) (t : Tree) → Decides (is_reading keys script t) (IsReading keys script t)
reading_tells keys script t =
    Decides-like _ (λ h. record { valid = h.0.0; writable = h.0.1; listed = h.1.0; same = h.1.1 })
    (λ h. ((h.valid, h.writable), (h.listed, h.same)))
    (Decides-and _ _ (Decides-and _ _ (none_tells (first_unfit_valid t)) (writable_tells t))
    (Decides-and _ _ (listed_tells keys t) (bytes_eq-Decides (script_of t) script)))

-- ---- the tree that the reader finds

-- the instructions of a Script, faults aside
abbrev pub instructions : List Item → List Instruction
instructions [] = []
instructions (item.push bytes minimal ∷ rest) = push bytes ∷ instructions rest
instructions (item.code op ∷ rest) = code op ∷ instructions rest
instructions (item.fault fault ∷ rest) = instructions rest

same_instructions : (is : List Instruction) → instructions (map item_of is) ≡ is
same_instructions [] = refl
same_instructions (push bytes ∷ is) = ap (λ rest. push bytes ∷ rest) (same_instructions is)
same_instructions (code op ∷ is) = ap (λ rest. code op ∷ rest) (same_instructions is)

items_of : (keys : List Key) (script : Bytes) (t : Tree) → IsReading keys script t → items script ≡ map item_of (emit t)
items_of keys script t h =
    ap items (sym h.same) ∙ items-script_of t h.writable

abbrev pub found_in : List Key → Bytes → Option Tree
found_in keys script = read (first_with keys) (reverse (instructions (items script)))

-- what the reader finds of a Script is what it reads of its instructions
found_same : (keys : List Key) (script : Bytes) (is : List Instruction) → items script ≡ map item_of is
    → found_in keys script ≡ read (first_with keys) (reverse is)
found_same keys script is same = ap (λ l. read (first_with keys) (reverse l)) (ap instructions same ∙ same_instructions is)

-- the tree that a Script is decoded to, if it can be read
abbrev pub if_reading : List Key → Bytes → Option Tree → Option Tree
if_reading keys script None = None
if_reading keys script (Some t) = if is_reading keys script t then Some t else None

unfoldable pub decided : List Key → Bytes → Option Tree
decided keys script = if_reading keys script (found_in keys script)

some_true : {A : Type 0} (b : Bool) (x y : A) → (if b then Some x else None) ≡ Some y → (b ≡ true) × (x ≡ y)
some_true b x y e = grind arith

none_false : {A : Type 0} (b : Bool) (x : A) → (if b then Some x else None) ≡ None → b ≡ false
none_false b x e = grind arith

pub decided_is : (keys : List Key) (script : Bytes) (t : Tree) → All IsKey keys → decided keys script ≡ Some t → IsDecoded keys script t
unfolding decided
decided_is keys script t all e = go (found_in keys script) refl e
  where
    go : (o : Option Tree) → found_in keys script ≡ o → if_reading keys script o ≡ Some t → IsDecoded keys script t
    go None f e = cc e
    go (Some u) f e =
        let told = some_true (is_reading keys script u) u t e in
        let reading = (reading_tells keys script u).0 told.0 in
        let same = items_of keys script u reading in
        subst (IsDecoded keys script) told.1
        (found_is_decoded keys script (emit u) u all same (sym (found_same keys script (emit u) same) ∙ f) reading)

pub decided_not : (keys : List Key) (script : Bytes) (t : Tree) → All IsKey keys → decided keys script ≡ None → ¬ IsReading keys script t
unfolding decided
decided_not keys script t all e h =
    let same = items_of keys script t h in
    let found = reading_is_found keys script (emit t) t all same h in
    let is = found_same keys script (emit t) same ∙ found.found in
    let no : is_reading keys script found.tree ≡ false = none_false (is_reading keys script found.tree) found.tree (sym (ap (if_reading keys script) is) ∙ e) in
    let yes = (reading_tells keys script found.tree).1 found.decoded.reading in
    cc (sym no ∙ yes)
