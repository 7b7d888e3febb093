-- What the formal satisfactions take at most, computed by the table.
use Rattle.std.specs.Prelude.{ℕ, zero, suc, ◌+◌, max, List, [], ◌∷◌, Option, Some, None, length}
use Rattle.def_tree.specs.Tree.{Tree, Trees}
use Rattle.def_table.specs.Table.{Row, Table, row_of, rows_of}
use Rattle.def_emit.specs.Emit.{emit, script_of}
use Rattle.def_limits.specs.declared.Limits.{Limits}
use Rattle.def_limits.specs.Formal.{Takes, nothing, item, same_items, tried, plus, PREIMAGE, empty, one}
use Rattle.def_script.specs.Signature.{MAX_SIGNATURE_SIZE}
use Rattle.def_script.specs.Instruction.{opcode_count}

-- the greater of each number
abbrev pub greater : Takes → Takes → Takes
greater a b = record { items = max a.items b.items; weight = max a.weight b.weight; keys = max a.keys b.keys }

-- the greatest of one of the left with one of the right; of either
abbrev pub both : Option Takes → Option Takes → Option Takes
both None b = None
both (Some a) None = None
both (Some a) (Some b) = Some (plus a b)

abbrev pub either : Option Takes → Option Takes → Option Takes
either None b = b
either (Some a) None = Some a
either (Some a) (Some b) = Some (greater a b)

-- of the children of a threshold, from what a first child takes satisfied and dissatisfied, and from what
-- the others take with any number of them satisfied
abbrev pub counted : (sat dsat : Option Takes) → (ℕ → Option Takes) → ℕ → Option Takes
counted sat dsat others zero = both (others zero) dsat
counted sat dsat others (suc k) = either (both (others k) sat) (both (others (suc k)) dsat)

abbrev pub only : ℕ → Option Takes
only zero = Some nothing
only (suc k) = None

abbrev pub parts_most : List (Row (Option Takes) (Option Takes)) → (satisfied : ℕ) → Option Takes
parts_most [] = only
parts_most (x ∷ xs) = counted x.sat x.dsat (parts_most xs)

-- what the formal satisfactions take at most, in each number by itself
abbrev pub most : Table (Option Takes) (Option Takes)
most = record {
  no_dsat = None;
  no_sat = None;
  nothing_dsat = Some nothing;
  nothing_sat = Some nothing;
  empty_dsat = Some empty;
  one_dsat = Some one;
  empty = Some empty;
  one = Some one;
  both_dsat = both;
  either_dsat = either;
  both = both;
  either = either;
  still = λ m. m;
  extra = λ m. None;
  beside_dsat = λ m n. m;
  beside = λ m n. m;
  topped = λ m. m;
  pk_k_row = λ key. record { dsat = Some empty; sat = Some (item MAX_SIGNATURE_SIZE) };
  pk_h_row = λ key. record { dsat = Some (plus empty (item (length key))); sat = Some (plus (item MAX_SIGNATURE_SIZE) (item (length key))) };
  older_row = λ n. record { dsat = None; sat = Some nothing };
  after_row = λ n. record { dsat = None; sat = Some nothing };
  hash_row = λ kind value. record { dsat = Some (item PREIMAGE); sat = Some (item PREIMAGE) };
  multi_row = λ k keys. record {
    dsat = Some (plus (same_items (k + 1) 0) (tried (length keys)));
    sat = Some (plus (plus empty (same_items k MAX_SIGNATURE_SIZE)) (tried (length keys)));
  };
  thresh_row = λ k children rows. record { dsat = parts_most rows 0; sat = parts_most rows k };
}

abbrev pub most_sat : Tree → Option Takes
most_sat tree = (row_of most tree).sat

abbrev pub most_dsat : Tree → Option Takes
most_dsat tree = (row_of most tree).dsat

abbrev pub most_parts : Trees → (satisfied : ℕ) → Option Takes
most_parts xs = parts_most (rows_of most xs)

-- a number of what is taken at most, or 0 where nothing is
abbrev pub number_of : (Takes → ℕ) → Option Takes → ℕ
number_of number None = 0
number_of number (Some t) = number t

-- the limits of a tree, as they are computed
abbrev pub limits_of : Tree → Limits
limits_of tree = record {
  size = length (script_of tree);
  ops = opcode_count (emit tree) + number_of (λ t. t.keys) (most_sat tree);
  items = number_of (λ t. t.items) (most_sat tree);
  weight = number_of (λ t. t.weight) (most_sat tree);
}
