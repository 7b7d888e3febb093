-- Which steps and origins of the definitions those of the code stand for.
use Rattle.std.specs.Prelude.{ℕ, ◌||◌, ◌&&◌, nat_lt, Bool, if◌then◌else◌, List, [], map, drop, length, codes, Option, Some, Ok, Err}
use Rattle.std.specs.Option.{option_map}
use Rattle.std.specs.declared.vec.Vec.{Vec}
use Rattle.std.specs.declared.alloc.Global.{Global}
use Rattle.def_descriptor.specs.declared.DescriptorFault.{DescriptorFault}
use Rattle.def_descriptor.specs.declared.DescriptorFault.TheVariants as fault
use Rattle.def_descriptor.specs.Token.{Token, starts, place, Read, and_then}
use Rattle.def_descriptor.specs.Expression as the
use Rattle.def_descriptor.specs.Steps.{Step as TheStep, MOST_BRANCHES, read_step, read_plain, read_numbers, fits}
use Rattle.ms_paths.specs.declared.words.Step.{Step}
use Rattle.ms_paths.specs.declared.steps.Way.{Way}
use Rattle.ms_paths.specs.declared.steps.Way.TheVariants as way
use Rattle.ms_paths.specs.declared.origins.Origin.{Origin}

abbrev pub step_at : Step → TheStep
step_at step = (step.number, step.hardened)

abbrev pub way_at : Way → the.Way
way_at (way.Number n) = the.number n
way_at (way.Branches numbers) = the.branches numbers.items
way_at way.Index = the.index

abbrev pub ways_at : Vec Way Global → List the.Way
ways_at ways = map way_at ways.items

abbrev pub origin_at : Origin → the.Origin
origin_at origin = record { print = origin.print; steps = origin.steps.items }

abbrev pub some_origin : Origin → Option the.Origin
some_origin origin = Some (origin_at origin)

abbrev pub origins_at : Option Origin → Option the.Origin
origins_at origin = option_map origin_at origin

-- ---- what is read in between

-- the end of the numbers of a `<..>`
abbrev pub closed_read : List ℕ → List Token → Read (List ℕ)
closed_read numbers ts = if starts (codes ">") ts && nat_lt 1 (length numbers) then Ok (numbers, drop 1 ts) else Err (fault.Syntax (place ts))

-- the numbers of a `<..>` at some tokens, as many as an earlier one fixed
abbrev pub branches_read : (fixed : Option ℕ) → List Token → Read (List ℕ)
branches_read fixed ts =
    and_then (read_numbers MOST_BRANCHES [] (drop 1 ts)) (λ ns end. if fits fixed (length ns) then Ok (ns, end) else Err (fault.Multipath (place ts)))

-- an index
abbrev pub index_read : List Token → Read the.Way
index_read ts =
    let rest = drop 1 ts in
    if starts (codes "h") rest || starts (codes "'") rest then Err (fault.Hardened (place ts)) else Ok (the.index, rest)

-- a step behind an extended key
abbrev pub way_read : (fixed : Option ℕ) → (had : Bool) → List Token → Read the.Way
way_read fixed had ts =
    let by_number : Read the.Way = and_then (read_plain ts) (λ n end. Ok (the.number n, end)) in
    let by_branch : Read the.Way = and_then (branches_read fixed ts) (λ ns end. Ok (the.branches ns, end)) in
    if starts (codes "*") ts then index_read ts
    else if starts (codes "<") ts then (if had then Err (fault.Multipath (place ts)) else by_branch)
    else by_number

-- why one step more than there may be is refused, and one behind an extended key
abbrev pub fault_of : {A : Type 0} → Read A → DescriptorFault → DescriptorFault
fault_of (Ok x) why = why
fault_of (Err own) why = own

abbrev pub step_over : List Token → DescriptorFault
step_over ts = fault_of (read_step ts) (fault.Depth (place ts))

abbrev pub way_over : List Token → DescriptorFault
way_over ts = if starts (codes "*") ts || starts (codes "<") ts then fault.Depth (place ts) else step_over ts
