-- What is combined, as contracts see it.
use Rattle.std.specs.Prelude.{◌≡◌, Result, Ok, Err}
use Rattle.def_combine.specs.declared.CombineRefusal.{CombineRefusal}
use Rattle.ms_combine.specs.declared.stop.CombineStop.{CombineStop}
use Rattle.ms_combine.specs.declared.stop.CombineStop.TheVariants as stop

-- this holds of what is given and of what a definition gives, or the refusal is the definition's; only want of memory may come in
-- place of either
abbrev pub CombinesOr : {A B : Type 0} → (Holds : B → A → Type 0) → Result B CombineStop → Result A CombineRefusal → Type 0
CombinesOr {A} Holds (Ok given) reading = (read : A) × (reading ≡ Ok read) × Holds given read
CombinesOr Holds (Err (stop.Refused refusal)) reading = reading ≡ Err refusal
CombinesOr Holds (Err stop.Memory) reading = Unit {0}
