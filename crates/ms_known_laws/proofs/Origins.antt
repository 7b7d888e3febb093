-- The origin of each key: a fingerprint of 4 bytes, and few steps.
use Rattle.std.proofs.Common.{◌≡◌, Bool, true, false, ℕ, zero, suc, ◌+◌, ◌-◌, ◌^◌, ◌<◌, ◌≤◌, ◌==◌, ◌||◌, List, [], ◌∷◌, ◌++◌, length, length-append, map, take, drop, refl, arith, Option, Some, None, Ok, Err}
use Rattle.std.specs.Prelude.{⊤, codes}
use Rattle.std.proofs.lemmas.Bool.{eqb-true}
use Rattle.std.proofs.lemmas.List.{length-map}
use Rattle.hex.specs.Hex.{decode_of}
use Rattle.def_hash.specs.declared.HashKind.TheVariants as hash_kind
use Rattle.def_hash.specs.Hash.{hash160}
use Rattle.def_hash.proofs.Lengths.{digest_has_its_length}
use Rattle.def_script.specs.Bytes.{Bytes}
use Rattle.def_text.specs.Word.{key_of}
use Rattle.def_curve.specs.Key.{point_of}
use Rattle.def_derive.specs.Extended.{Extended}
use Rattle.def_descriptor.specs.declared.DescriptorFault.TheVariants.{Depth, Hardened}
use Rattle.def_descriptor.specs.Token.{Token, token, starts, place, Read, and_then}
use Rattle.def_descriptor.specs.Expression.{Origin, Way, index, Named, point, extended, Expression}
use Rattle.def_descriptor.specs.Steps.{MOST_STEPS, MOST_BRANCHES, fits, read_step, read_steps, read_plain, read_numbers, read_index, read_ways}
use Rattle.def_descriptor.specs.ReadKey.{Seen, print_of, origin_by, read_print, read_origin, extended_word, ways_behind, named_by, read_named, read_key}
use Rattle.def_descriptor.specs.Gives.{number_at, own_print, own_steps, written_origin, origin_at}
use Rattle.ms_key_laws.proofs.Words.{decoded}
use Rattle.ms_known_laws.proofs.Read.{IfRead, read_if, read_then, read_after, read_behind, read_point}

-- ---- steps

steps_within : (most : ℕ) (ts : List Token) → IfRead (λ (steps : List ℕ). length steps ≤ most) (read_steps most ts)
unfolding read_steps
steps_within zero ts = read_if (λ (steps : List ℕ). length steps ≤ 0) (starts (codes "/") ts) _ _ (read_after _ (read_step (drop 1 ts)) _ (λ step rest. tt)) (omega arith)
steps_within (suc most) ts =
    read_if (λ (steps : List ℕ). length steps ≤ suc most) (starts (codes "/") ts) _ _
    (read_after _ (read_step (drop 1 ts)) _ (λ step rest.
    read_then (λ (steps : List ℕ). length steps ≤ most) _ (read_steps most rest) _ (steps_within most rest) (λ steps end h. omega (arith, h)))) (omega arith)

index_within : (most : ℕ) (ts : List Token) → IfRead (λ (ways : List Way). length ways ≤ suc most) (read_index ts)
index_within most ts =
    let rest = drop 1 ts in
    read_if (λ (ways : List Way). length ways ≤ suc most) (starts (codes "h") rest || starts (codes "'") rest) (Err (Hardened (place ts))) (Ok (index ∷ [], rest)) tt (omega arith)

ways_within : (most : ℕ) (fixed : Option ℕ) (had : Bool) (ts : List Token) → IfRead (λ (ways : List Way). length ways ≤ most) (read_ways most fixed had ts)
unfolding read_ways
ways_within zero fixed had ts =
    let rest = drop 1 ts in
    let NoStep : List Way → Type 0 = λ ways. length ways ≤ 0 in
    let fault : Read (List Way) = Err (Depth (place rest)) in
    let over : Read (List Way) = and_then (read_step rest) (λ step end. fault) in
    read_if NoStep (starts (codes "/") ts) _ _
    (read_if NoStep (starts (codes "*") rest || starts (codes "<") rest) fault over tt (read_after NoStep (read_step rest) (λ step end. fault) (λ step end. tt))) (omega arith)
ways_within (suc most) fixed had ts =
    let rest = drop 1 ts in
    let Own : List Way → Type 0 = λ ways. length ways ≤ suc most in
    let Later : List Way → Type 0 = λ ways. length ways ≤ most in
    read_if Own (starts (codes "/") ts) _ _
    (read_if Own (starts (codes "*") rest) _ _ (index_within most rest)
    (read_if Own (starts (codes "<") rest) _ _
    (read_if Own had _ _ tt
    (read_after Own (read_numbers MOST_BRANCHES [] (drop 1 rest)) _ (λ ns end.
    read_if Own (fits fixed (length ns)) _ _ (read_then Later Own (read_ways most fixed true end) _ (ways_within most fixed true end) (λ ways last h. omega (arith, h))) tt)))
    (read_after Own (read_plain rest) _ (λ n end.
    read_then Later Own (read_ways most fixed had end) _ (ways_within most fixed had end) (λ ways last h. omega (arith, h)))))) (omega arith)

-- ---- the origin

abbrev IsOrigin : Option Origin → Type 0
IsOrigin None = ⊤
IsOrigin (Some origin) = (length origin.print ≡ 4) × (length origin.steps ≤ 255)

print_long : (word print : Bytes) → print_of word ≡ Some print → length print ≡ 4
print_long word print e = eqb-true (length print) 4 (decoded (λ bytes. length bytes == 4) (decode_of word) print e).1

origin_is_by : (at : ℕ) (o : Option Bytes) (ts : List Token) → ((print : Bytes) → o ≡ Some print → length print ≡ 4) → IfRead IsOrigin (origin_by at o ts)
origin_is_by at None ts h = tt
origin_is_by at (Some print) ts h =
    read_then (λ (steps : List ℕ). length steps ≤ 255) IsOrigin (read_steps MOST_STEPS ts) _ (steps_within MOST_STEPS ts) (λ steps rest few.
    read_behind IsOrigin (codes "]") rest _ (λ end. (h print refl, few)))

print_is : (ts : List Token) → IfRead IsOrigin (read_print ts)
print_is [] = tt
print_is (token at word ∷ ts) = origin_is_by at (print_of word) ts (print_long word)

origin_is : (ts : List Token) → IfRead IsOrigin (read_origin ts)
origin_is ts = read_if IsOrigin (starts (codes "[") ts) _ _ (print_is (drop 1 ts)) tt

-- ---- the key

abbrev HasFewSteps : Named → Type 0
HasFewSteps (point key) = ⊤
HasFewSteps (extended key ways) = length ways ≤ 255

ways_are : (seen : Seen) (at : ℕ) (key : Extended) (ts : List Token) → IfRead HasFewSteps (ways_behind seen at key ts)
ways_are seen at key ts =
    read_if HasFewSteps (fits seen.version key.version) _ _
    (read_then (λ (ways : List Way). length ways ≤ MOST_STEPS - key.depth) HasFewSteps (read_ways (MOST_STEPS - key.depth) seen.length false ts) _
    (ways_within (MOST_STEPS - key.depth) seen.length false ts) (λ ways rest h. omega (arith, h))) tt

named_is_by : (seen : Seen) (at : ℕ) (word : Bytes) (o : Option Bytes) (p : Option Extended) (ts : List Token) → IfRead HasFewSteps (named_by seen at word o p ts)
named_is_by seen at word (Some key) p ts = read_point HasFewSteps at (point_of key) _ tt
named_is_by seen at word None (Some key) ts = read_point HasFewSteps at (point_of key.key) _ (ways_are seen at key ts)
named_is_by seen at word None None ts = tt

named_is : (seen : Seen) (ts : List Token) → IfRead HasFewSteps (read_named seen ts)
unfolding read_named
named_is seen [] = tt
named_is seen (token at word ∷ ts) = named_is_by seen at word (key_of word) (extended_word word) ts

-- ---- the expression

abbrev pub IsShort : Expression → Type 0
IsShort e = IsOrigin e.origin × HasFewSteps e.named

pub key_is : (seen : Seen) (ts : List Token) → IfRead IsShort (read_key seen ts)
unfolding read_key
key_is seen ts =
    read_then IsOrigin IsShort (read_origin ts) _ (origin_is ts) (λ origin rest h.
    read_then HasFewSteps IsShort (read_named seen rest) _ (named_is seen rest) (λ named end k. (h, k)))

-- ---- at a branch and an index

taken : (n : ℕ) (xs : Bytes) → n ≤ length xs → length (take n xs) ≡ n
taken zero xs h = refl
taken (suc n) [] h = absurd (omega arith)
taken (suc n) (x ∷ xs) h = let rest : length (take n xs) ≡ n = taken n xs (omega arith) in omega arith

four : (key : Bytes) → length (take 4 (hash160 key)) ≡ 4
four key = let long : length (hash160 key) ≡ 20 = digest_has_its_length hash_kind.Hash160 key in taken 4 (hash160 key) (omega arith)

own_four : (named : Named) → length (own_print named) ≡ 4
own_four (point key) = four key
own_four (extended key ways) = four key.key

own_few : (branch i : ℕ) (named : Named) → HasFewSteps named → length (own_steps branch i named) ≤ 255
own_few branch i (point key) h = omega arith
own_few branch i (extended key ways) h = let long : length (map (number_at branch i) ways) ≡ length ways = length-map ways (number_at branch i) in omega (arith, h)

written_four : (o : Option Origin) (named : Named) → IsOrigin o → length (written_origin o named).print ≡ 4
written_four None named h = own_four named
written_four (Some origin) named h = h.0

written_few : (o : Option Origin) (named : Named) → IsOrigin o → length (written_origin o named).steps ≤ 255
written_few None named h = omega arith
written_few (Some origin) named h = h.1

pub origin_print : (branch i : ℕ) (e : Expression) → IsShort e → length (origin_at branch i e).print ≡ 4
origin_print branch i e h = written_four e.origin e.named h.0

pub origin_steps : (branch i : ℕ) (e : Expression) → IsShort e → length (origin_at branch i e).steps < 2 ^ 32
origin_steps branch i e h =
    let written : List ℕ = (written_origin e.origin e.named).steps in
    let own : List ℕ = own_steps branch i e.named in
    let both : length (written ++ own) ≡ length written + length own = length-append written own in
    let few : length written ≤ 255 = written_few e.origin e.named h.0 in
    let more : length own ≤ 255 = own_few branch i e.named h.1 in
    omega (arith, both, few, more)
