-- Which satisfaction is chosen, by the satisfaction table (BIP 379). The cheapest: of each fragment the option of least weight, and of several
-- of that weight the one that is written first. The strict one, which nobody can change: as the cheapest, but an option that needs no signature
-- is taken before one that does, and of a threshold every child that needs none is satisfied (BIP 379, malleability). Besides, the keys whose
-- signatures the strict one takes. Inside, the top of a stack stands first.
use Rattle.std.specs.Prelude.{◌&&◌, ◌||◌, not, nat_lt, ℕ, ◌+◌, Bool, true, false, List, [], ◌∷◌, ◌++◌, length, map, filter, replicate, is_some, if◌then◌else◌, Option, Some, None}
use Rattle.std.specs.Str.{bytes_eq}
use Rattle.def_hash.specs.Hash.{digest_of}
use Rattle.def_script.specs.Witness.{weight}
use Rattle.def_machine.specs.Stacks.{Stack}
use Rattle.def_machine.specs.Locks.{older_holds, after_holds}
use Rattle.def_tree.specs.Tree.{Key}
use Rattle.def_assets.specs.Assets.{Assets, sig_of, known, unsigned}
use Rattle.def_table.specs.Table.{Row, Table}
use Rattle.def_satisfaction.specs.Rows.{EMPTY, ONE, ZEROS}
use Rattle.def_choice.specs.Sets.{sets}
use Rattle.def_choice.specs.Least.{item, both, least}

-- the satisfactions that are chosen with some assets, or none; and the keys whose signatures the strict one takes, in the order of the nodes and,
-- in a `multi`, of its positions
pub record Choices : Type 0 where
  pub cheapest : Assets → Option Stack
  pub strict : Assets → Option Stack
  pub taken : Assets → List Key

-- both choose this one, with signatures of these keys; with none
abbrev pub signed : (Assets → List Key) → (Assets → Option Stack) → Choices
signed keys chosen = record { cheapest = chosen; strict = chosen; taken = keys }

abbrev pub only : (Assets → Option Stack) → Choices
only chosen = signed (λ assets. []) chosen

-- a child of a threshold: the stacks that satisfy it and that dissatisfy it
pub record Child : Type 0 where
  pub sat : Option Stack
  pub dsat : Option Stack

-- the children's stacks, the first one's on top: those that are chosen satisfied, and the others dissatisfied
abbrev pub stack_of : List Child → (set : List Bool) → Option Stack
stack_of [] [] = Some []
stack_of [] (chosen ∷ set) = None
stack_of (child ∷ children) [] = None
stack_of (child ∷ children) (chosen ∷ set) =
    both (stack_of children set) (if chosen then child.sat else child.dsat)

-- the signatures of the keys that are chosen, the last key's on top
abbrev pub signatures_of : Assets → List Key → (set : List Bool) → Option Stack
signatures_of assets [] [] = Some []
signatures_of assets [] (chosen ∷ set) = None
signatures_of assets (key ∷ keys) [] = None
signatures_of assets (key ∷ keys) (true ∷ set) = both (item (sig_of assets key)) (signatures_of assets keys set)
signatures_of assets (key ∷ keys) (false ∷ set) = signatures_of assets keys set

-- k signatures of the keys: of all sets of k the first of least weight
abbrev pub signatures : Assets → (k : ℕ) → List Key → Option Stack
signatures assets k keys = least (map (signatures_of assets keys) (sets (length keys) k))

-- of two options one that has a free stack, the first one first; where neither has one, the first of least
-- weight
abbrev pub free_first : (free_1 free_2 : Option Stack) → (option_1 option_2 : Option Stack) → Option Stack
free_first free_1 free_2 option_1 option_2 =
    if is_some free_1 then option_1
    else if is_some free_2 then option_2
    else least (option_1 ∷ option_2 ∷ [])

-- of two options the former is taken, and not the latter: as `lighter` takes them
abbrev pub is_former : (former latter : Option Stack) → Bool
is_former None latter = false
is_former (Some former) None = true
is_former (Some former) (Some latter) = not (nat_lt (weight latter) (weight former))

-- of two options with their free stacks: as `free_first` takes them
abbrev pub takes_former : (free_1 free_2 : Option Stack) → (option_1 option_2 : Option Stack) → Bool
takes_former free_1 free_2 option_1 option_2 =
    if is_some free_1 then true
    else if is_some free_2 then false
    else is_former option_1 option_2

-- of some sets the one whose stack `least` takes
abbrev pub set_taken : (stack : List Bool → Option Stack) → (sets : List (List Bool)) → List Bool
set_taken stack [] = []
set_taken stack (set ∷ sets) = if is_former (stack set) (least (map stack sets)) then set else set_taken stack sets

-- every child of these is chosen
abbrev pub has_all : (wanted set : List Bool) → Bool
has_all [] set = true
has_all (wanted ∷ rest) [] = true
has_all (wanted ∷ rest) (chosen ∷ set) = (not wanted || chosen) && has_all rest set

-- of the children of a threshold: the stacks by one of both choices, which of them have a free satisfaction, and that in which all are dissatisfied
abbrev pub children : (Choices → Option Stack) → List (Row (Option Stack) Choices) → List Child
children chosen rows = map (λ row. record { sat = chosen row.sat; dsat = row.dsat }) rows

abbrev pub free_rows : Assets → List (Row (Option Stack) Choices) → List Bool
free_rows assets rows = map (λ row. is_some (row.sat.cheapest (unsigned assets))) rows

abbrev pub none_satisfied : List (Row (Option Stack) Choices) → Option Stack
none_satisfied [] = Some []
none_satisfied (row ∷ rows) = both (none_satisfied rows) row.dsat

-- the children of a threshold that are satisfied, and the keys of a `multi` that sign
abbrev pub rows_taken : Assets → (k count : ℕ) → List (Row (Option Stack) Choices) → List Bool
rows_taken assets k count rows =
    set_taken (stack_of (children (λ c. c.strict assets) rows)) (filter (has_all (free_rows assets rows)) (sets count k))

abbrev pub signers_taken : Assets → (k : ℕ) → List Key → List Bool
signers_taken assets k keys = set_taken (signatures_of assets keys) (sets (length keys) k)

-- the keys that a set chooses
abbrev pub keys_of_set : List Key → (set : List Bool) → List Key
keys_of_set [] set = []
keys_of_set (key ∷ keys) [] = []
keys_of_set (key ∷ keys) (chosen ∷ set) = if chosen then key ∷ keys_of_set keys set else keys_of_set keys set

-- those of the children that a set chooses
abbrev pub taken_of_rows : Assets → List (Row (Option Stack) Choices) → (set : List Bool) → List Key
taken_of_rows assets [] set = []
taken_of_rows assets (row ∷ rows) [] = []
taken_of_rows assets (row ∷ rows) (chosen ∷ set) =
    if chosen then row.sat.taken assets ++ taken_of_rows assets rows set
    else taken_of_rows assets rows set

-- the table. A dissatisfaction needs no assets, and takes no signature; the option that isn't taken takes none
abbrev pub chosen : Table (Option Stack) Choices
chosen = record {
  no_dsat = None;
  no_sat = only (λ assets. None);
  nothing_dsat = Some [];
  nothing_sat = only (λ assets. Some []);
  empty_dsat = Some (EMPTY ∷ []);
  one_dsat = Some (ONE ∷ []);
  empty = only (λ assets. Some (EMPTY ∷ []));
  one = only (λ assets. Some (ONE ∷ []));
  both_dsat = both;
  either_dsat = λ first second. least (first ∷ second ∷ []);
  both = λ below above. record {
    cheapest = λ assets. both (below.cheapest assets) (above.cheapest assets);
    strict = λ assets. both (below.strict assets) (above.strict assets);
    taken = λ assets. above.taken assets ++ below.taken assets;
  };
  either = λ first second. record {
    cheapest = λ assets. least (first.cheapest assets ∷ second.cheapest assets ∷ []);
    strict = λ assets.
        free_first (first.cheapest (unsigned assets)) (second.cheapest (unsigned assets)) (first.strict assets) (second.strict assets);
    taken = λ assets.
        if takes_former (first.cheapest (unsigned assets)) (second.cheapest (unsigned assets)) (first.strict assets) (second.strict assets)
        then first.taken assets
        else second.taken assets;
  };
  still = λ dsat. only (λ assets. dsat);
  extra = λ sat. None;
  beside_dsat = λ dsat sat. dsat;
  beside = λ canonical extra. canonical;
  topped = λ dsat. only (λ assets. dsat);
  pk_k_row = λ key. record { dsat = Some (EMPTY ∷ []); sat = signed (λ assets. key ∷ []) (λ assets. item (sig_of assets key)) };
  pk_h_row = λ key. record {
    dsat = Some (key ∷ EMPTY ∷ []);
    sat = signed (λ assets. key ∷ []) (λ assets. both (item (sig_of assets key)) (Some (key ∷ [])));
  };
  older_row = λ n. record { dsat = None; sat = only (λ assets. if older_holds n assets.locks then Some [] else None) };
  after_row = λ n. record { dsat = None; sat = only (λ assets. if after_holds n assets.locks then Some [] else None) };
  hash_row = λ kind value. record {
    dsat = if bytes_eq (digest_of kind ZEROS) value then None else Some (ZEROS ∷ []);
    sat = only (λ assets. item (known assets kind value));
  };
  multi_row = λ k keys. record {
    dsat = Some (replicate (k + 1) EMPTY);
    sat = signed (λ assets. keys_of_set keys (signers_taken assets k keys)) (λ assets. both (Some (EMPTY ∷ [])) (signatures assets k keys));
  };
  thresh_row = λ k count rows. record {
    dsat = none_satisfied rows;
    sat = record {
      cheapest = λ assets. least (map (stack_of (children (λ c. c.cheapest assets) rows)) (sets count k));
      strict = λ assets.
          least (map (stack_of (children (λ c. c.strict assets) rows)) (filter (has_all (free_rows assets rows)) (sets count k)));
      taken = λ assets. taken_of_rows assets rows (rows_taken assets k count rows);
    };
  };
}
