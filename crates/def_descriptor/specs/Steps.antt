-- How the steps of an origin, and those behind an extended key, are read (BIP 380, BIP 389).
use Rattle.std.specs.Prelude.{ℕ, zero, suc, ◌+◌, ◌-◌, ◌^◌, ◌==◌, ◌&&◌, ◌||◌, nat_eq, nat_lt, Bool, true, false, if◌then◌else◌, List, [], ◌∷◌, ◌++◌, length, take, drop, codes, Option, Some, None, Ok, Err}
use Rattle.std.specs.List.{list_any}
use Rattle.std.specs.Option.{option_and_then, option_map}
use Rattle.std.specs.Str.{bytes_eq}
use Rattle.def_script.specs.Bytes.{Bytes}
use Rattle.def_text.specs.Word.{number_of}
use Rattle.def_descriptor.specs.declared.DescriptorFault.TheVariants.{Syntax, Depth, Hardened, Multipath}
use Rattle.def_descriptor.specs.Token.{Token, token, starts, place, Read, and_then}
use Rattle.def_descriptor.specs.Expression.{Way, number, branches, index}

-- hardened numbers have 2 ^ 31 added (BIP 32)
abbrev pub HARDENED : ℕ
HARDENED = 2 ^ 31

-- the most steps of a path: a depth is one byte (BIP 32)
abbrev pub MOST_STEPS : ℕ
MOST_STEPS = 255

-- the most numbers of a `<..>`
abbrev pub MOST_BRANCHES : ℕ
MOST_BRANCHES = 16

-- a number and whether it is hardened
abbrev pub Step : Type 0
Step = ℕ × Bool

-- a decimal number below 2 ^ 31, without a leading zero
abbrev pub step_number : Bytes → Option ℕ
step_number word = option_and_then (λ n. if nat_lt n HARDENED then Some n else None) (number_of word)

-- the same with or without an `h` behind, which hardens it
abbrev pub step_of : Bytes → Option Step
step_of word =
    let digits = take (length word - 1) word in
    if bytes_eq (drop (length word - 1) word) (codes "h") then option_map (λ n. (n, true)) (step_number digits)
    else option_map (λ n. (n, false)) (step_number word)

-- or with a `'` behind
abbrev pub marked : (at : ℕ) → Option Step → List Token → Read Step
marked at None ts = Err (Syntax at)
marked at (Some (n, true)) ts = Ok ((n, true), ts)
marked at (Some (n, false)) ts = if starts (codes "'") ts then Ok ((n, true), drop 1 ts) else Ok ((n, false), ts)

abbrev pub read_step : List Token → Read Step
read_step [] = Err (Syntax 0)
read_step (token at word ∷ ts) = marked at (step_of word) ts

-- ---- the steps of an origin, each behind a `/`, of which there may be so many

abbrev pub numbered : Step → ℕ
numbered (n, true) = n + HARDENED
numbered (n, false) = n

unfoldable pub read_steps : (most : ℕ) → List Token → Read (List ℕ)
read_steps zero ts =
    let over : Read (List ℕ) = and_then (read_step (drop 1 ts)) (λ step rest. Err (Depth (place (drop 1 ts)))) in
    if starts (codes "/") ts then over else Ok ([], ts)
read_steps (suc most) ts =
    let found : Read (List ℕ) =
    and_then (read_step (drop 1 ts)) (λ step rest. and_then (read_steps most rest) (λ steps end. Ok (numbered step ∷ steps, end))) in
    if starts (codes "/") ts then found else Ok ([], ts)

-- ---- the numbers of a `<..>`

-- a number that isn't hardened
abbrev pub plain : (at : ℕ) → Step → List Token → Read ℕ
plain at (n, true) ts = Err (Hardened at)
plain at (n, false) ts = Ok (n, ts)

abbrev pub read_plain : List Token → Read ℕ
read_plain ts = and_then (read_step ts) (plain (place ts))

-- those up to `>`, of which so many may follow those before
unfoldable pub read_numbers : (most : ℕ) → (before : List ℕ) → List Token → Read (List ℕ)
read_numbers zero before ts = and_then (read_plain ts) (λ n rest. Err (Multipath (place ts)))
read_numbers (suc most) before ts =
    and_then (read_plain ts) (λ n rest.
    let more : Read (List ℕ) = read_numbers most (before ++ n ∷ []) (drop 1 rest) in
    let all : Read (List ℕ) = Ok (before ++ n ∷ [], drop 1 rest) in
    if list_any (nat_eq n) before then Err (Multipath (place ts))
    else if starts (codes ";") rest then more
    else if starts (codes ">") rest && nat_lt 0 (length before) then all
    else Err (Syntax (place rest)))

-- ---- the steps behind an extended key

-- whether a length is the one that was fixed, if one was
abbrev pub fits : (fixed : Option ℕ) → ℕ → Bool
fits None n = true
fits (Some fixed) n = n == fixed

-- the index, behind which no mark of hardened numbers stands
abbrev pub read_index : List Token → Read (List Way)
read_index ts =
    let rest = drop 1 ts in
    if starts (codes "h") rest || starts (codes "'") rest then Err (Hardened (place ts)) else Ok (index ∷ [], rest)

-- each behind a `/`: so many may follow, a `<..>` where none stands before, of the length that an earlier one fixed; the index is the last
unfoldable pub read_ways : (most : ℕ) → (fixed : Option ℕ) → (had : Bool) → List Token → Read (List Way)
read_ways zero fixed had ts =
    let rest = drop 1 ts in
    let over : Read (List Way) = and_then (read_step rest) (λ step end. Err (Depth (place rest))) in
    if starts (codes "/") ts
    then (if starts (codes "*") rest || starts (codes "<") rest then Err (Depth (place rest)) else over)
    else Ok ([], ts)
read_ways (suc most) fixed had ts =
    let rest = drop 1 ts in
    let by_number : Read (List Way) =
    and_then (read_plain rest) (λ n end. and_then (read_ways most fixed had end) (λ ways last. Ok (number n ∷ ways, last))) in
    let by_branch : Read (List Way) =
    and_then (read_numbers MOST_BRANCHES [] (drop 1 rest)) (λ ns end.
    let more : Read (List Way) = and_then (read_ways most fixed true end) (λ ways last. Ok (branches ns ∷ ways, last)) in
    if fits fixed (length ns) then more else Err (Multipath (place rest))) in
    if starts (codes "/") ts
    then (if starts (codes "*") rest then read_index rest
    else if starts (codes "<") rest then (if had then Err (Multipath (place rest)) else by_branch)
    else by_number)
    else Ok ([], ts)
