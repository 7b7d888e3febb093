-- Instructions that are read from bytes.
use Rattle.std.proofs.Common.{◌≡◌, List, [], ◌∷◌, ◌++◌, map, refl, ap, ◌∙◌}
use Rattle.def_script.specs.declared.InstrFault.{InstrFault}
use Rattle.def_script.specs.Instruction.{Instruction, push, code}
use Rattle.def_script.specs.Item.{Item}
use Rattle.def_script.specs.Item as item
use Rattle.def_script.specs.Items.{items, items_after}
use Rattle.def_script.specs.Laws.{item_of}
use Rattle.ms_reading.specs.declared.codes.Code.{Code}
use Rattle.ms_reading.specs.Scaffolding.States.{instruction_of}

-- a fault is no instruction
pub fault_is_none : (fault : InstrFault) (j : Instruction) → item.fault fault ≡ item_of j → ⊥
fault_is_none fault (push b) e = cc
fault_is_none fault (code op) e = cc

-- and so no instructions begin with such a one
pub headed_none : (x : Item) (r xs : List Item) → xs ≡ x ∷ r → ((j : Instruction) → x ≡ item_of j → ⊥) → (is : List Instruction) → xs ≡ map item_of is → ⊥
headed_none x r xs e none [] f = cc
headed_none x r xs e none (i ∷ is) f = let same : x ≡ item_of i = cc in none i same

-- nor do any others end with it
pub none_behind : (a : List Instruction) (r : List Item) → ((is : List Instruction) → r ≡ map item_of is → ⊥) → (is : List Instruction) → map item_of a ++ r ≡ map item_of is → ⊥
none_behind [] r none is e = none is e
none_behind (x ∷ a) r none [] e = cc
none_behind (x ∷ a) r none (i ∷ is) e = let rest : map item_of a ++ r ≡ map item_of is = cc in none_behind a r none is rest

-- one more instruction
pub one_more : (xs : List Item) (done : List Code) (c : Code) (r s : List Item) → xs ≡ map item_of (map instruction_of done) ++ r → r
    ≡ item_of (instruction_of c) ∷ s → xs ≡ map item_of (map instruction_of (done ++ c ∷ [])) ++ s
one_more xs done c r s e f = e ∙ ap (λ l. map item_of (map instruction_of done) ++ l) f ∙ go done
  where
    go : (d : List Code) → map item_of (map instruction_of d) ++ item_of (instruction_of c) ∷ s ≡ map item_of (map instruction_of (d ++ c ∷ [])) ++ s
    go [] = refl
    go (x ∷ d) = ap (λ l. item_of (instruction_of x) ∷ l) (go d)

-- no bytes hold no items
pub items_none : items [] ≡ []
unfolding items_after
items_none = refl
