-- Formal satisfactions (BIP 379, resource limits, over the rows of its satisfaction table): the
-- canonical ones as if each signature were at hand with 73 bytes, each preimage were at hand, each lock
-- held, and each hash could be dissatisfied by 32 bytes.
use Rattle.std.specs.Prelude.{◌≡◌, ℕ, zero, suc, ◌+◌, ◌*◌, ◌⊎◌, List, [], ◌∷◌, length}
use Rattle.def_script.specs.Signature.{MAX_SIGNATURE_SIZE}
use Rattle.def_tree.specs.Tree.{Tree, Trees}
use Rattle.def_table.specs.Table.{Row, Table, row_of, rows_of}

-- what a satisfaction or dissatisfaction takes: stack items, their weight (for each item 1 and its
-- length), and keys of the `multi` fragments that are executed
pub record Takes : Type 0 where
  pub items : ℕ
  pub weight : ℕ
  pub keys : ℕ

-- no item
abbrev pub nothing : Takes
nothing = record { items = 0; weight = 0; keys = 0 }

-- an item of so many bytes
abbrev pub item : (bytes : ℕ) → Takes
item bytes = record { items = 1; weight = 1 + bytes; keys = 0 }

-- so many items of so many bytes each
abbrev pub same_items : (count bytes : ℕ) → Takes
same_items count bytes = record { items = count; weight = count * (1 + bytes); keys = 0 }

-- so many keys are tried
abbrev pub tried : (keys : ℕ) → Takes
tried keys = record { items = 0; weight = 0; keys = keys }

-- both together
abbrev pub plus : Takes → Takes → Takes
plus a b = record { items = a.items + b.items; weight = a.weight + b.weight; keys = a.keys + b.keys }

-- a preimage, and what stands for one in a dissatisfaction
abbrev pub PREIMAGE : ℕ
PREIMAGE = 32

-- the empty item and the item `01`
abbrev pub empty : Takes
empty = item 0

abbrev pub one : Takes
one = item 1

-- there is none; there is this one; one of the left with one of the right; one of either
abbrev pub Never : Takes → Type 0
Never t = ⊥

abbrev pub Is : Takes → Takes → Type 0
Is a t = t ≡ a

abbrev pub Both : (Takes → Type 0) → (Takes → Type 0) → Takes → Type 0
Both P Q t = (a : Takes) × (b : Takes) × P a × Q b × (t ≡ plus a b)

abbrev pub Either : (Takes → Type 0) → (Takes → Type 0) → Takes → Type 0
Either P Q t = P t ⊎ Q t

-- the children of a threshold, so many satisfied and the others dissatisfied
abbrev pub Parts : List (Row (Takes → Type 0) (Takes → Type 0)) → (satisfied : ℕ) → Takes → Type 0
Parts [] zero = Is nothing
Parts [] (suc k) = Never
Parts (x ∷ xs) zero = Both (Parts xs zero) x.dsat
Parts (x ∷ xs) (suc k) = Either (Both (Parts xs k) x.sat) (Both (Parts xs (suc k)) x.dsat)

-- the table of what canonical satisfactions and dissatisfactions take
abbrev pub formal : Table (Takes → Type 0) (Takes → Type 0)
formal = record {
  no_dsat = Never;
  no_sat = Never;
  nothing_dsat = Is nothing;
  nothing_sat = Is nothing;
  empty_dsat = Is empty;
  one_dsat = Is one;
  empty = Is empty;
  one = Is one;
  both_dsat = Both;
  either_dsat = Either;
  both = Both;
  either = Either;
  still = λ P. P;
  extra = λ P. Never;
  beside_dsat = λ P Q. P;
  beside = λ P Q. P;
  topped = λ P. P;
  pk_k_row = λ key. record { dsat = Is empty; sat = Is (item MAX_SIGNATURE_SIZE) };
  pk_h_row = λ key. record { dsat = Is (plus empty (item (length key))); sat = Is (plus (item MAX_SIGNATURE_SIZE) (item (length key))) };
  older_row = λ n. record { dsat = Never; sat = Is nothing };
  after_row = λ n. record { dsat = Never; sat = Is nothing };
  hash_row = λ kind value. record { dsat = Is (item PREIMAGE); sat = Is (item PREIMAGE) };
  multi_row = λ k keys. record {
    dsat = Is (plus (same_items (k + 1) 0) (tried (length keys)));
    sat = Is (plus (plus empty (same_items k MAX_SIGNATURE_SIZE)) (tried (length keys)));
  };
  thresh_row = λ k children rows. record { dsat = Parts rows 0; sat = Parts rows k };
}

-- `FormalSat x t`: x has a formal satisfaction that takes t. `FormalDsat` says it of dissatisfactions, and
-- `FormalParts xs k` of the children of a threshold, k of them satisfied and the others dissatisfied
abbrev pub FormalSat : Tree → Takes → Type 0
FormalSat tree = (row_of formal tree).sat

abbrev pub FormalDsat : Tree → Takes → Type 0
FormalDsat tree = (row_of formal tree).dsat

abbrev pub FormalParts : Trees → (satisfied : ℕ) → Takes → Type 0
FormalParts xs = Parts (rows_of formal xs)
