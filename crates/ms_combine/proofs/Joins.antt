-- Several maps joined: of each pair the first with its key.
use Rattle.std.proofs.Common.{◌≡◌, ◌||◌, not, Bool, true, false, cond, List, [], ◌∷◌, ◌++◌, filter, inl, inr, refl, sym, ap, ◌∙◌, append_assoc}
use Rattle.std.specs.List.{AllByRecursion}
use Rattle.std.specs.Str.{bytes_eq}
use Rattle.std.proofs.lemmas.Bool.{cases_Bool}
use Rattle.std.proofs.lemmas.List.{append-nil}
use Rattle.std.proofs.lemmas.List.Folds.{list_any-append}
use Rattle.def_script.specs.Bytes.{Bytes}
use Rattle.def_psbt.specs.Map.{Pair, Map}
use Rattle.def_psbt.specs.Listed.{stands}
use Rattle.def_combine.specs.Joined.{is_new, joined_map, joined_maps}
use Rattle.ms_combine_laws.proofs.Found.{joined_stands}
use Rattle.ms_combine.specs.Scaffolding.Rows.{IsApart, IsPlain, rows_joined}

-- the pairs whose keys haven't stood before
abbrev pub firsts : (before map : Map) → Map
firsts before [] = []
firsts before (pair ∷ map) = cond (is_new before pair) (pair ∷ firsts (before ++ pair ∷ []) map) (firsts (before ++ pair ∷ []) map)

or-false : (b : Bool) → (b || false) ≡ b
or-false true = refl
or-false false = refl

-- of a map in which no key stands twice
firsts_apart : (before done map : Map) → IsApart done map → firsts (before ++ done) map ≡ filter (is_new before) map
firsts_apart before done [] h = refl
firsts_apart before done (pair ∷ map) h =
    let same : is_new (before ++ done) pair ≡ is_new before pair =
    ap not (list_any-append (λ (p : Pair). bytes_eq pair.key p.key) before done ∙ ap (λ (b : Bool). stands pair.key before || b) h.0 ∙ or-false (stands pair.key before)) in
    let rest : firsts ((before ++ done) ++ pair ∷ []) map ≡ filter (is_new before) map =
    ap (λ (l : Map). firsts l map) (append_assoc before done (pair ∷ [])) ∙ firsts_apart before (done ++ pair ∷ []) map h.1 in
    rw same (ap (λ (l : Map). cond (is_new before pair) (pair ∷ l) l) rest)

firsts_new : (before map : Map) → IsPlain map → firsts before map ≡ filter (is_new before) map
firsts_new before map h = ap (λ (l : Map). firsts l map) (sym (append-nil before)) ∙ firsts_apart before [] map h.apart

pub firsts_both : (before a b : Map) → firsts before (a ++ b) ≡ firsts before a ++ firsts (before ++ a) b
firsts_both before [] b = ap (λ (l : Map). firsts l b) (sym (append-nil before))
firsts_both before (pair ∷ a) b =
    let rest : firsts (before ++ pair ∷ []) (a ++ b) ≡ firsts (before ++ pair ∷ []) a ++ firsts (before ++ pair ∷ a) b =
    firsts_both (before ++ pair ∷ []) a b ∙ ap (λ (l : Map). firsts (before ++ pair ∷ []) a ++ firsts l b) (append_assoc before (pair ∷ []) a) in
    elim (cases_Bool (is_new before pair)) [ inl e ↦ rw e (ap (λ (l : Map). pair ∷ l) rest) | inr e ↦ rw e rest ]

-- maps joined with a first one
abbrev pub all_joined : (first : Map) → List Map → Map
all_joined first [] = first
all_joined first (map ∷ maps) = all_joined (joined_map first map) maps

abbrev pub together : List Map → Map
together [] = []
together (map ∷ maps) = map ++ together maps

same_new : (a b : Map) → ((key : Bytes) → stands key a ≡ stands key b) → (map : Map) → filter (is_new a) map ≡ filter (is_new b) map
same_new a b same [] = refl
same_new a b same (pair ∷ map) =
    let one : is_new a pair ≡ is_new b pair = ap not (same pair.key) in
    rw one (ap (λ (l : Map). cond (is_new b pair) (pair ∷ l) l) (same_new a b same map))

behind_all : (first before : Map) (maps : List Map) → ((key : Bytes) → stands key first ≡ stands key before) → AllByRecursion IsPlain maps
    → all_joined first maps ≡ first ++ firsts before (together maps)
behind_all first before [] same h = sym (append-nil first)
behind_all first before (map ∷ maps) same h =
    let next = behind_all (joined_map first map) (before ++ map) maps
    (λ key. joined_stands key first map ∙ ap (λ (b : Bool). b || stands key map) (same key) ∙ sym (list_any-append (λ (p : Pair). bytes_eq key p.key) before map)) h.1 in
    next ∙ append_assoc first (filter (is_new first) map) (firsts (before ++ map) (together maps))
    ∙ ap (λ (l : Map). first ++ (l ++ firsts (before ++ map) (together maps))) (same_new first before same map ∙ sym (firsts_new before map h.0))
    ∙ ap (λ (l : Map). first ++ l) (sym (firsts_both before map (together maps)))

none_before : (map : Map) → filter (is_new []) map ≡ map
none_before [] = refl
none_before (pair ∷ map) = ap (λ (l : Map). pair ∷ l) (none_before map)

pub all_joined_is : (first : Map) (maps : List Map) → AllByRecursion IsPlain (first ∷ maps) → all_joined first maps ≡ firsts [] (together (first ∷ maps))
all_joined_is first maps h =
    behind_all first first maps (λ key. refl) h.1
    ∙ ap (λ (l : Map). l ++ firsts first (together maps)) (sym (firsts_new [] first h.0 ∙ none_before first))
    ∙ sym (firsts_both [] first (together maps))

-- ---- rows, of which the first maps are put together first

-- a map and those behind it in its row
abbrev pub Row : Type 0
Row = Map × List Map

abbrev pub whole_row : Row → List Map
whole_row row = row.0 ∷ row.1

abbrev pub heads : List Row → List Map
heads [] = []
heads (row ∷ rows) = row.0 ∷ heads rows

abbrev pub tails : List Row → List (List Map)
tails [] = []
tails (row ∷ rows) = row.1 ∷ tails rows

abbrev pub wholes : List Row → List (List Map)
wholes [] = []
wholes (row ∷ rows) = whole_row row ∷ wholes rows

pub rows_split : (row : Row) (rows : List Row) → rows_joined (whole_row row) (wholes rows) ≡ all_joined row.0 (heads rows) ∷ rows_joined row.1 (tails rows)
rows_split row [] = refl
rows_split row (other ∷ rows) = rows_split (joined_map row.0 other.0, joined_maps row.1 other.1) rows

pub nothing_joined : (rows : List (List Map)) → rows_joined [] rows ≡ []
nothing_joined [] = refl
nothing_joined (row ∷ rows) = nothing_joined rows
