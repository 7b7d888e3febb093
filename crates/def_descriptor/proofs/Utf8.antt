-- The tokens of a text in UTF-8 are in UTF-8, and so is the text of its pieces.
use Rattle.std.proofs.Common.{◌≡◌, ℕ, zero, suc, ◌+◌, ◌≤◌, Bool, true, false, List, [], ◌∷◌, ◌++◌, length, drop, get_or, arith, refl, sym, subst, cond, Option, Some, None, Result, Ok, Err, length-drop}
use Rattle.std.specs.Prelude.{◌&&◌, ◌||◌, ⊤, nat_le, nat_eq, nat_lt, IsUtf8, IsCharBoundary, codes}
use Rattle.std.specs.List.{list_any}
use Rattle.std.specs.Str.{bytes_eq}
use Rattle.std.proofs.lemmas.Str.{IsUtf8-nil, IsUtf8-take, IsUtf8-drop}
use Rattle.def_script.specs.Bytes.{Bytes}
use Rattle.def_descriptor.specs.declared.DescriptorFault.{DescriptorFault}
use Rattle.def_descriptor.specs.Token.{Token, token, belongs, tokens_from, tokens, starts, place, and_then, behind}
use Rattle.def_descriptor.specs.declared.DescriptorFault.TheVariants.{Hardened}
use Rattle.def_descriptor.specs.Expression.{Way, index}
use Rattle.def_descriptor.specs.Steps.{MOST_BRANCHES, Step, step_of, marked, read_step, read_steps, plain as plain_step, read_plain, read_numbers, fits, read_index, read_ways}
use Rattle.def_descriptor.proofs.Tokens.{first_length, first_token, first_within, first_apart}

abbrev pub AllUtf8 : List Token → Type 0
AllUtf8 [] = ⊤
AllUtf8 (token at bytes ∷ ts) = IsUtf8 bytes × AllUtf8 ts

-- ---- the tokens of a text

lead : (c : ℕ) → (nat_le 0x80 c && nat_le c 0xbf) ≡ false → 128 ≤ c → 192 ≤ c
lead c h low = go (nat_le c 0xbf) refl
  where
    both : (x y : Bool) → x ≡ true → (x && y) ≡ false → y ≡ false
    both true y e h = h
    both false y e h = absurd (cc)

    go : (t : Bool) → nat_le c 0xbf ≡ t → 192 ≤ c
    go true e = absurd (cc (both (nat_le 0x80 c) (nat_le c 0xbf) (search (arith, low)) h, e))
    go false e = search (arith, e)

boundary : (bytes : Bytes) → IsCharBoundary bytes (first_length bytes)
boundary bytes = (first_within bytes, λ inside. lead (get_or bytes (first_length bytes) 0) (first_apart bytes inside))

all_from : (most at : ℕ) (bytes : Bytes) → length bytes ≤ most → IsUtf8 bytes → AllUtf8 (tokens_from at bytes)
unfolding first_length
all_from most at [] short h = (IsUtf8-nil, tt)
all_from zero at (b ∷ bytes) short h = absurd (omega (arith, short))
all_from (suc most) at (b ∷ bytes) short h =
    let n : ℕ = cond (belongs b bytes) (first_length bytes) 0 in
    let edge : IsCharBoundary (b ∷ bytes) (suc n) = boundary (b ∷ bytes) in
    let left : length (drop (suc n) (b ∷ bytes)) ≤ most = omega (arith, length-drop (suc n) (b ∷ bytes), short) in
    subst AllUtf8 (sym (first_token at b bytes))
    (IsUtf8-take (b ∷ bytes) (suc n) h edge, all_from most (at + suc n) (drop (suc n) (b ∷ bytes)) left (IsUtf8-drop (b ∷ bytes) (suc n) h edge))

pub all_utf8 : (text : Bytes) → IsUtf8 text → AllUtf8 (tokens text)
all_utf8 text h = all_from (length text) 0 text (omega arith) h

-- ---- what is left of them behind what is read

abbrev pub Keeps : {A : Type 0} → Result (A × List Token) DescriptorFault → Type 0
Keeps (Ok (x, ts)) = AllUtf8 ts
Keeps (Err fault) = ⊤

pub keeps_then : {A B : Type 0} (r : Result (A × List Token) DescriptorFault) (next : A → List Token → Result (B × List Token) DescriptorFault)
    → Keeps r → ((x : A) (ts : List Token) → AllUtf8 ts → Keeps (next x ts)) → Keeps (and_then r next)
keeps_then (Ok (x, ts)) next h go = go x ts h
keeps_then (Err fault) next h go = tt

pub keeps_if : {A : Type 0} (t : Bool) (r s : Result (A × List Token) DescriptorFault) → Keeps r → Keeps s → Keeps (cond t r s)
keeps_if true r s h k = h
keeps_if false r s h k = k

pub all_behind : (ts : List Token) → AllUtf8 ts → AllUtf8 (drop 1 ts)
all_behind [] h = tt
all_behind (token at bytes ∷ ts) h = h.1

pub keeps_behind : {B : Type 0} (bytes : Bytes) (ts : List Token) (next : List Token → Result (B × List Token) DescriptorFault)
    → AllUtf8 ts → ((rest : List Token) → AllUtf8 rest → Keeps (next rest)) → Keeps (behind bytes ts next)
keeps_behind bytes [] next h go = tt
keeps_behind bytes (token at own ∷ ts) next h go = keeps_if (bytes_eq own bytes) (next ts) (Err _) (go ts h.1) tt

keeps_marked : (at : ℕ) (step : Option Step) (ts : List Token) → AllUtf8 ts → Keeps (marked at step ts)
keeps_marked at None ts h = tt
keeps_marked at (Some (n, true)) ts h = h
keeps_marked at (Some (n, false)) ts h = keeps_if (starts (codes "'") ts) _ _ (all_behind ts h) h

keeps_step : (ts : List Token) → AllUtf8 ts → Keeps (read_step ts)
keeps_step [] h = tt
keeps_step (token at word ∷ ts) h = keeps_marked at (step_of word) ts h.1

pub keeps_steps : (most : ℕ) (ts : List Token) → AllUtf8 ts → Keeps (read_steps most ts)
unfolding read_steps
keeps_steps zero ts h =
    keeps_if (starts (codes "/") ts) _ _ (keeps_then (read_step (drop 1 ts)) _ (keeps_step (drop 1 ts) (all_behind ts h)) (λ step rest k. tt)) h
keeps_steps (suc most) ts h =
    keeps_if (starts (codes "/") ts) _ _
    (keeps_then (read_step (drop 1 ts)) _ (keeps_step (drop 1 ts) (all_behind ts h))
    (λ step rest k. keeps_then (read_steps most rest) _ (keeps_steps most rest k) (λ steps end last. last)))
    h

keeps_plain_by : (at : ℕ) (step : Step) (ts : List Token) → AllUtf8 ts → Keeps (plain_step at step ts)
keeps_plain_by at (n, true) ts h = tt
keeps_plain_by at (n, false) ts h = h

keeps_plain : (ts : List Token) → AllUtf8 ts → Keeps (read_plain ts)
keeps_plain ts h = keeps_then (read_step ts) (plain_step (place ts)) (keeps_step ts h) (λ step rest k. keeps_plain_by (place ts) step rest k)

keeps_numbers : (most : ℕ) (before : List ℕ) (ts : List Token) → AllUtf8 ts → Keeps (read_numbers most before ts)
unfolding read_numbers
keeps_numbers zero before ts h = keeps_then (read_plain ts) _ (keeps_plain ts h) (λ n rest k. tt)
keeps_numbers (suc most) before ts h =
    keeps_then (read_plain ts) _ (keeps_plain ts h)
    (λ n rest k. keeps_if (list_any (nat_eq n) before) _ _ tt
    (keeps_if (starts (codes ";") rest) _ _ (keeps_numbers most (before ++ n ∷ []) (drop 1 rest) (all_behind rest k))
    (keeps_if (starts (codes ">") rest && nat_lt 0 (length before)) _ _ (all_behind rest k) tt)))

keeps_index : (ts : List Token) → AllUtf8 ts → Keeps (read_index ts)
keeps_index ts h =
    keeps_if {A = List Way} (starts (codes "h") (drop 1 ts) || starts (codes "'") (drop 1 ts)) (Err (Hardened (place ts))) (Ok (index ∷ [], drop 1 ts)) tt
    (all_behind ts h)

pub keeps_ways : (most : ℕ) (fixed : Option ℕ) (had : Bool) (ts : List Token) → AllUtf8 ts → Keeps (read_ways most fixed had ts)
unfolding read_ways
keeps_ways zero fixed had ts h =
    keeps_if (starts (codes "/") ts) _ _
    (keeps_if (starts (codes "*") (drop 1 ts) || starts (codes "<") (drop 1 ts)) _ _ tt (keeps_then (read_step (drop 1 ts)) _ (keeps_step (drop 1 ts) (all_behind ts h)) (λ step rest k. tt)))
    h
keeps_ways (suc most) fixed had ts h =
    let rest = drop 1 ts in
    let k : AllUtf8 rest = all_behind ts h in
    keeps_if (starts (codes "/") ts) _ _
    (keeps_if (starts (codes "*") rest) _ _ (keeps_index rest k)
    (keeps_if (starts (codes "<") rest) _ _
    (keeps_if had _ _ tt
    (keeps_then (read_numbers MOST_BRANCHES [] (drop 1 rest)) _ (keeps_numbers MOST_BRANCHES [] (drop 1 rest) (all_behind rest k))
    (λ ns end l. keeps_if (fits fixed (length ns)) _ _ (keeps_then (read_ways most fixed true end) _ (keeps_ways most fixed true end l) (λ ways last m. m)) tt)))
    (keeps_then (read_plain rest) _ (keeps_plain rest k) (λ n end l. keeps_then (read_ways most fixed had end) _ (keeps_ways most fixed had end l) (λ ways last m. m)))))
    h
