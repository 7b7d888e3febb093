-- Maps at their places. No public clause cites it, so it need not be believed.
use Rattle.std.specs.Prelude.{◌≡◌, ℕ, ◌+◌, ⊤, List, [], ◌∷◌, length, Ok}
use Rattle.def_script.specs.Bytes.{Bytes}
use Rattle.def_psbt.specs.declared.PsbtVersion.TheVariants as version
use Rattle.def_psbt.specs.Map.{Map, map_text}
use Rattle.def_psbt.specs.Reading.{Rules, input_rules, output_rules, whole_map_at}

-- a map begins at a place, and is whole
pub record IsMapAt (rules : Rules) (psbt : Bytes) (place : ℕ) (map : Map) : Type 0 where
  pub end : ℕ
  pub read : whole_map_at rules psbt place ≡ Ok (map, end)

-- maps begin at these places, one after the other from a place on
abbrev pub Placed : Rules → (psbt : Bytes) → (at : ℕ) → (places : List ℕ) → List Map → Type 0
Placed rules psbt at [] [] = ⊤
Placed rules psbt at [] (map ∷ maps) = ⊥
Placed rules psbt at (place ∷ places) [] = ⊥
Placed rules psbt at (place ∷ places) (map ∷ maps) =
    (place ≡ at) × IsMapAt rules psbt place map × Placed rules psbt (at + length (map_text map)) places maps

-- those of inputs, and of outputs, of version 2
abbrev pub InputsAt : (psbt : Bytes) → (at : ℕ) → (places : List ℕ) → List Map → Type 0
InputsAt = Placed (input_rules version.Two)

abbrev pub OutputsAt : (psbt : Bytes) → (at : ℕ) → (places : List ℕ) → List Map → Type 0
OutputsAt = Placed (output_rules version.Two)
