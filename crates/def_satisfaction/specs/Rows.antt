-- The satisfaction table (BIP 379, satisfaction) of stacks: which stacks dissatisfy a fragment, and which satisfy it. The rows of fragments
-- without children, and of thresholds, stand here; the others are those of the table.
use Rattle.std.specs.Prelude.{◌≡◌, ◌≢◌, ℕ, suc, ◌+◌, ◌⊎◌, ⊤, IsTrue, false, List, [], ◌∷◌, length, reverse, replicate}
use Rattle.def_hash.specs.declared.HashKind.{HashKind}
use Rattle.def_hash.specs.Hash.{digest_of, hash160}
use Rattle.def_script.specs.Bytes.{Bytes}
use Rattle.def_machine.specs.Stacks.{Stack, Checker, is_empty}
use Rattle.def_script.specs.Key.{is_key}
use Rattle.def_machine.specs.Locks.{older_holds, after_holds}
use Rattle.def_machine.specs.MultiSig.{is_good}
use Rattle.def_tree.specs.Tree.{Tree, Trees, Key}
use Rattle.def_table.specs.Table as table
use Rattle.def_table.specs.Table.{Table, row_of, rows_of}
use Rattle.def_satisfaction.specs.StackSet.{StackSet, Never, Nothing, Element, Is, If, Both, Either}
use Rattle.def_satisfaction.specs.Setting.{Setting, CountsAsPreimage, CountsAsKey}

abbrev pub Row : Type 1
Row = table.Row StackSet StackSet

-- a part of a row that isn't canonical
abbrev pub NotCanonical : Setting → StackSet → StackSet
NotCanonical s P = If (IsTrue s.all_rows) P

-- the items that the table writes as `0` and `1`: the empty string and the byte 1
abbrev pub EMPTY : Bytes
EMPTY = []

abbrev pub ONE : Bytes
ONE = 0x01 ∷ []

-- what stands for the preimage where a hash is dissatisfied
abbrev pub ZEROS : Bytes
ZEROS = replicate 32 0x00

-- a signature of the key: a string that isn't empty and is good with it
abbrev pub Signature : Setting → Key → StackSet
Signature s key = Element (λ sig. IsTrue (is_good s.given.checker key sig))

-- `pk_k(key)`
abbrev pub pk_k_row : Setting → Key → Row
pk_k_row s key = record { dsat = Is EMPTY; sat = Signature s key }

-- with one of the keys that have the hash of a key
abbrev pub WithHashOf : Setting → Key → (Key → StackSet) → StackSet
WithHashOf s key P stack =
    (other : Key) × IsTrue (is_key other) × (hash160 other ≡ hash160 key) ×
    CountsAsKey s.mode key other × P other stack

-- `pk_h(key)`
abbrev pub pk_h_row : Setting → Key → Row
pk_h_row s key = record {
  dsat = WithHashOf s key (λ other. Both (Is EMPTY) (Is other));
  sat = WithHashOf s key (λ other. Both (Signature s other) (Is other));
}

-- `older(n)`
abbrev pub older_row : Setting → ℕ → Row
older_row s n = record { dsat = Never; sat = If (IsTrue (older_holds n s.given.locks)) Nothing }

-- `after(n)`
abbrev pub after_row : Setting → ℕ → Row
after_row s n = record { dsat = Never; sat = If (IsTrue (after_holds n s.given.locks)) Nothing }

-- 32 bytes that hash to a value, and that don't
abbrev pub IsPreimageOf : HashKind → (value preimage : Bytes) → Type 0
IsPreimageOf kind value preimage = (length preimage ≡ 32) × (digest_of kind preimage ≡ value)

abbrev pub IsNoPreimageOf : HashKind → (value bytes : Bytes) → Type 0
IsNoPreimageOf kind value bytes = (length bytes ≡ 32) × (digest_of kind bytes ≢ value)

-- `sha256(value)`, `hash256(value)`, `ripemd160(value)` and `hash160(value)`
abbrev pub hash_row : Setting → HashKind → Bytes → Row
hash_row s kind value = record {
  dsat =
      Either (If (IsNoPreimageOf kind value ZEROS) (Is ZEROS))
      (NotCanonical s (Element (IsNoPreimageOf kind value)));
  sat = Element (λ preimage. IsPreimageOf kind value preimage × CountsAsPreimage s.mode kind value preimage);
}

-- the stacks of several children, the first one's on top: n of them satisfied, and the others
-- dissatisfied
abbrev pub PartsOfNone : (n : ℕ) → StackSet
PartsOfNone n = If (n ≡ 0) Nothing

abbrev pub PartsOf : (first : Row) → (others : ℕ → StackSet) → (n : ℕ) → StackSet
PartsOf x others n =
    Either (λ stack. (m : ℕ) × (n ≡ suc m) × Both (others m) x.sat stack) (Both (others n) x.dsat)

abbrev pub Parts : List Row → (n : ℕ) → StackSet
Parts [] = PartsOfNone
Parts (x ∷ xs) = PartsOf x (Parts xs)

-- `thresh(k,X1,..,Xn)`, from the stacks of its children
abbrev pub thresh_row : Setting → (k : ℕ) → (parts : ℕ → StackSet) → Row
thresh_row s k parts = record {
  dsat = Either (parts 0) (NotCanonical s (λ stack. (n : ℕ) × (n ≢ 0) × (n ≢ k) × parts n stack));
  sat = parts k;
}

-- these are signatures of keys of the list, in their order: each key has one, or is passed over
abbrev pub AreSignatures : Checker → List Key → List Bytes → Type 0
AreSignatures checker keys [] = ⊤
AreSignatures checker [] (sig ∷ sigs) = ⊥
AreSignatures checker (key ∷ keys) (sig ∷ sigs) =
    (IsTrue (is_good checker key sig) × AreSignatures checker keys sigs) ⊎ AreSignatures checker keys (sig ∷ sigs)

-- k signatures in the order of the keys; the last key's stands on top
abbrev pub Signatures : Setting → (k : ℕ) → List Key → StackSet
Signatures s k keys sigs = (length sigs ≡ k) × AreSignatures s.given.checker (reverse keys) sigs

-- `multi(k,key1,..,keyn)`
abbrev pub multi_row : Setting → (k : ℕ) → List Key → Row
multi_row s k keys = record {
  dsat = λ stack. stack ≡ replicate (k + 1) EMPTY;
  sat = Both (Is EMPTY) (Signatures s k keys);
}

-- the top item isn't empty
abbrev pub HasTop : StackSet
HasTop stack = (top : Bytes) × (rest : Stack) × (stack ≡ top ∷ rest) × (is_empty top ≡ false)

-- the table
abbrev pub stacks : Setting → Table StackSet StackSet
stacks s = record {
  no_dsat = Never;
  no_sat = Never;
  nothing_dsat = Nothing;
  nothing_sat = Nothing;
  empty_dsat = Is EMPTY;
  one_dsat = Is ONE;
  empty = Is EMPTY;
  one = Is ONE;
  both_dsat = Both;
  either_dsat = Either;
  both = Both;
  either = Either;
  still = λ P. P;
  extra = NotCanonical s;
  beside_dsat = λ P Q. Either P (NotCanonical s Q);
  beside = λ P Q. Either P (NotCanonical s Q);
  topped = λ P stack. HasTop stack × P stack;
  pk_k_row = pk_k_row s;
  pk_h_row = pk_h_row s;
  older_row = older_row s;
  after_row = after_row s;
  hash_row = hash_row s;
  multi_row = multi_row s;
  thresh_row = λ k children rows. thresh_row s k (Parts rows);
}

-- the row of each fragment
abbrev pub row : Setting → Tree → Row
row s = row_of (stacks s)

abbrev pub parts : Setting → Trees → (n : ℕ) → StackSet
parts s xs = Parts (rows_of (stacks s) xs)
