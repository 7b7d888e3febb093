-- The token at a place: up to the first byte that doesn't belong to the one before.
use Rattle.std.proofs.Common.{◌≡◌, ℕ, suc, ◌+◌, ◌-◌, ◌<◌, ◌≤◌, true, false, List, [], ◌∷◌, length, take, drop, get_or, arith, refl, sym, ap, ◌∙◌, cond}
use Rattle.std.proofs.lemmas.Bool.{cond-true, cond-false}
use Rattle.std.proofs.lemmas.List.{drop_more, drop_all, drop-drop, length-take, length-drop}
use Rattle.def_script.specs.Bytes.{Bytes}
use Rattle.def_descriptor.specs.Token.{Token, token, belongs, place, tokens_from}
use Rattle.def_descriptor.proofs.Tokens.{first_length, first_token}
use Rattle.ms_paths.specs.Places.{tokens_at, behind}

-- the tokens at a place before the end
pub first_at : (text : Bytes) (at end : ℕ) → at < length text → end ≡ at + first_length (drop at text)
    → tokens_at text at ≡ token at (take (end - at) (drop at text)) ∷ tokens_at text end
unfolding tokens_at first_length
first_at text at end inside e =
    let b = get_or text at 0 in
    let bytes = drop (at + 1) text in
    let split : drop at text ≡ b ∷ bytes = drop_more text at 0 inside in
    let n = first_length (drop at text) in
    let own : first_length (drop at text) ≡ suc (cond (belongs b bytes) (first_length bytes) 0) = ap first_length split in
    let count : n ≡ end - at = omega (arith, e) in
    let behind : drop n (drop at text) ≡ drop end text = drop-drop n at text ∙ ap (λ (z : ℕ). drop z text) (sym e) in
    ap (tokens_from at) split
    ∙ (first_token at b bytes
    ∙ (ap (λ (z : ℕ). token at (take z (b ∷ bytes)) ∷ tokens_from (at + z) (drop z (b ∷ bytes))) (sym own)
    ∙ (ap (λ (z : Bytes). token at (take n z) ∷ tokens_from (at + n) (drop n z)) (sym split)
    ∙ (ap (λ (z : Bytes). token at (take n (drop at text)) ∷ tokens_from (at + n) z) behind
    ∙ (ap (λ (z : ℕ). token at (take n (drop at text)) ∷ tokens_from z (drop end text)) (sym e)
    ∙ ap (λ (z : ℕ). token at (take z (drop at text)) ∷ tokens_from end (drop end text)) count)))))

-- the end
pub end_at : (text : Bytes) (at : ℕ) → at ≡ length text → tokens_at text at ≡ token at [] ∷ []
unfolding tokens_at
end_at text at e = ap (tokens_from at) (drop_all at text (omega (arith, e)))

-- the first of the tokens at a place stands there
place_first : (at : ℕ) (bytes : Bytes) → place (tokens_from at bytes) ≡ at
place_first at [] = refl
place_first at (b ∷ bytes) = ap place (first_token at b bytes)

pub place_is : (text : Bytes) (at : ℕ) → place (tokens_at text at) ≡ at
unfolding tokens_at
place_is text at = place_first at (drop at text)

-- what is behind a token that isn't the end
pub behind_some : (text : Bytes) (at : ℕ) (w : Bytes) → 0 < length w → behind text at w ≡ tokens_at text (at + length w)
behind_some text at [] h = absurd (omega (arith, h))
behind_some text at (b ∷ w) h = refl

pub end_found : (text w : Bytes) (at : ℕ) → at ≡ length text → length w ≡ 0 → tokens_at text at ≡ token at w ∷ behind text at w
end_found text [] at e h = end_at text at e
end_found text (b ∷ w) at e h = absurd (omega (arith, h))

pub token_found : (text w : Bytes) (at end : ℕ) → at < end → end ≤ length text → w ≡ take (end - at) (drop at text)
    → tokens_at text at ≡ token at (take (end - at) (drop at text)) ∷ tokens_at text end → tokens_at text at ≡ token at w ∷ behind text at w
token_found text w at end some within e h =
    let count : length w ≡ end - at = omega (arith, ap length e, length-take (end - at) (drop at text), length-drop at text) in
    let last : at + length w ≡ end = omega (arith, count, some) in
    h
    ∙ (ap (λ (z : Bytes). token at z ∷ tokens_at text end) (sym e)
    ∙ (ap (λ (z : ℕ). token at w ∷ tokens_at text z) (sym last)
    ∙ ap (λ (z : List Token). token at w ∷ z) (sym (behind_some text at w (omega (arith, count, some))))))

-- ---- its length, byte by byte

pub length_more : (text : Bytes) (i : ℕ) → i + 1 < length text → belongs (get_or text i 0) (get_or text (i + 1) 0 ∷ []) ≡ true
    → first_length (drop i text) ≡ suc (first_length (drop (i + 1) text))
unfolding first_length
length_more text i inside h =
    let y = get_or text (i + 1) 0 in
    let rest = drop (i + 1 + 1) text in
    let second : drop (i + 1) text ≡ y ∷ rest = drop_more text (i + 1) 0 inside in
    let first : drop i text ≡ get_or text i 0 ∷ drop (i + 1) text = drop_more text i 0 (omega (arith, inside)) in
    ap first_length first
    ∙ (ap (λ (z : Bytes). suc (cond (belongs (get_or text i 0) z) (first_length (drop (i + 1) text)) 0)) second
    ∙ ap suc (cond-true (belongs (get_or text i 0) (y ∷ rest)) (first_length (drop (i + 1) text)) 0 h))

pub length_last : (text : Bytes) (i : ℕ) → i + 1 < length text → belongs (get_or text i 0) (get_or text (i + 1) 0 ∷ []) ≡ false → first_length (drop i text) ≡ 1
unfolding first_length
length_last text i inside h =
    let y = get_or text (i + 1) 0 in
    let rest = drop (i + 1 + 1) text in
    let second : drop (i + 1) text ≡ y ∷ rest = drop_more text (i + 1) 0 inside in
    let first : drop i text ≡ get_or text i 0 ∷ drop (i + 1) text = drop_more text i 0 (omega (arith, inside)) in
    ap first_length first
    ∙ (ap (λ (z : Bytes). suc (cond (belongs (get_or text i 0) z) (first_length (drop (i + 1) text)) 0)) second
    ∙ ap suc (cond-false (belongs (get_or text i 0) (y ∷ rest)) (first_length (drop (i + 1) text)) 0 h))

pub length_end : (text : Bytes) (i : ℕ) → i + 1 ≡ length text → first_length (drop i text) ≡ 1
unfolding first_length
length_end text i h =
    let none : drop (i + 1) text ≡ [] = drop_all (i + 1) text (omega (arith, h)) in
    let first : drop i text ≡ get_or text i 0 ∷ [] = drop_more text i 0 (omega (arith, h)) ∙ ap (λ (z : Bytes). get_or text i 0 ∷ z) none in
    ap first_length first

-- ---- the loop: `total` is the place and the length of the token, and one more

pub loop_begins : (text : Bytes) (at : ℕ) → at + first_length (drop at text) + 1 ≡ at + 1 + first_length (drop (at + 1 - 1) text)
loop_begins text at =
    let same : at + 1 - 1 ≡ at = omega arith in
    let e = ap (λ (z : ℕ). first_length (drop z text)) same in
    omega (arith, e)

pub loop_goes : (text : Bytes) (end total : ℕ) → 0 < end → end < length text → belongs (get_or text (end - 1) 0) (get_or text end 0 ∷ []) ≡ true
    → total ≡ end + first_length (drop (end - 1) text) → total ≡ end + 1 + first_length (drop (end + 1 - 1) text)
loop_goes text end total some inside h e =
    let i : ℕ = end - 1 in
    let up : i + 1 ≡ end = omega arith in
    let same : end + 1 - 1 ≡ i + 1 = omega arith in
    let test : belongs (get_or text i 0) (get_or text (i + 1) 0 ∷ []) ≡ true = ap (λ (z : ℕ). belongs (get_or text i 0) (get_or text z 0 ∷ [])) up ∙ h in
    let more = length_more text i (omega (arith, up, inside)) test in
    let last = ap (λ (z : ℕ). first_length (drop z text)) same in
    omega (arith, e, more, last)

pub loop_stops : (text : Bytes) (at end : ℕ) → at < end → end < length text → belongs (get_or text (end - 1) 0) (get_or text end 0 ∷ []) ≡ false
    → at + first_length (drop at text) + 1 ≡ end + first_length (drop (end - 1) text) → end ≡ at + first_length (drop at text)
loop_stops text at end some inside h e =
    let i : ℕ = end - 1 in
    let up : i + 1 ≡ end = omega arith in
    let test : belongs (get_or text i 0) (get_or text (i + 1) 0 ∷ []) ≡ false = ap (λ (z : ℕ). belongs (get_or text i 0) (get_or text z 0 ∷ [])) up ∙ h in
    let last = length_last text i (omega (arith, up, inside)) test in
    omega (arith, e, last)

pub loop_ends : (text : Bytes) (at end : ℕ) → at < end → end ≡ length text
    → at + first_length (drop at text) + 1 ≡ end + first_length (drop (end - 1) text) → end ≡ at + first_length (drop at text)
loop_ends text at end some all e =
    let i : ℕ = end - 1 in
    let last = length_end text i (omega (arith, all, some)) in
    omega (arith, e, last)
