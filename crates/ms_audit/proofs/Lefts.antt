-- What is left of a stack, and what a walk takes of it.
use Rattle.std.proofs.Common.{◌≡◌, ℕ, zero, suc, ◌+◌, ◌-◌, ◌<◌, ◌≤◌, ◌==◌, ◌⊎◌, Bool, true, false, List, [], ◌∷◌, length, reverse, take, drop, get_or, refl, sym, ◌∙◌, ap, inl, inr, arith, nat_eq, if◌then◌else◌}
use Rattle.std.specs.List.{list_all}
use Rattle.std.proofs.lemmas.Bool.{eq-eqb, ne_eqb}
use Rattle.std.proofs.lemmas.List.{take_more, reverse-append}
use Rattle.def_script.specs.Bytes.{Bytes}
use Rattle.def_machine.specs.Stacks.{Stack, Checker, is_empty}
use Rattle.def_machine.specs.MultiSig.{is_good}
use Rattle.def_tree.specs.Tree.{Key}
use Rattle.def_machine.specs.Machine.{Given}
use Rattle.ms_audit_laws.specs.Walk.{with_step, are_found, multi_verdict, walk_multi_off, walk_multi}
use Rattle.ms_audit.specs.Scaffolding.Walking.{below}

-- the last of the first elements of a list stands first, turned round
pub last_first : {A : Type 0} (xs : List A) (n : ℕ) (d : A) → 0 < n → n ≤ length xs → reverse (take n xs) ≡ get_or xs (n - 1) d ∷ reverse (take (n - 1) xs)
last_first xs n d some within =
    let same : n ≡ n - 1 + 1 = omega arith in
    ap (λ m. reverse (take m xs)) same
    ∙ ap reverse (take_more xs (n - 1) d (omega arith))
    ∙ reverse-append (take (n - 1) xs) (get_or xs (n - 1) d ∷ [])

-- the top, and what is below it
pub below_step : (stack : List Bytes) (left : ℕ) → 0 < left → left ≤ length stack → below stack left ≡ get_or stack (left - 1) [] ∷ below stack (left - 1)
below_step stack left some within = last_first stack left [] some within

-- the items from one place to another, the top first
abbrev pub between : (stack : List Bytes) → (bottom end : ℕ) → Stack
between stack bottom end = take (end - bottom) (below stack end)

pub between_step : (stack : List Bytes) (bottom end : ℕ) → bottom < end → end ≤ length stack → between stack bottom end ≡ get_or stack (end - 1) [] ∷ between stack bottom (end - 1)
between_step stack bottom end some within =
    let same : end - bottom ≡ suc (end - 1 - bottom) = omega arith in
    ap (λ s. take (end - bottom) s) (below_step stack end (omega arith) within)
    ∙ ap (λ n. take n (get_or stack (end - 1) [] ∷ below stack (end - 1))) same

pub between_none : (stack : List Bytes) (bottom end : ℕ) → end ≤ bottom → between stack bottom end ≡ []
between_none stack bottom end none =
    let same : end - bottom ≡ 0 = omega arith in ap (λ n. take n (below stack end)) same

-- so many items off what is left
pub drop_below : (stack : List Bytes) (top k : ℕ) → k ≤ top → top ≤ length stack → drop k (below stack top) ≡ below stack (top - k)
drop_below stack top zero few within = let same : top ≡ top - 0 = omega arith in ap (below stack) same
drop_below stack top (suc k) few within =
    let same : top - 1 - k ≡ top - suc k = omega arith in
    ap (λ s. drop (suc k) s) (below_step stack top (omega arith) within)
    ∙ drop_below stack (top - 1) k (omega arith) (omega arith)
    ∙ ap (below stack) same

-- what `multi` takes
pub multi_off : (given : Given) (node k : ℕ) (keys : List Key) (stack : List Bytes) (left : ℕ) → k < left → left ≤ length stack →
    walk_multi given node k keys (below stack left) ≡
    with_step node (multi_verdict (is_empty (get_or stack (left - k - 1) []))
    (are_found given.checker (reverse keys) (take (left - (left - k)) (below stack left))) (list_all is_empty (take (left - (left - k)) (below stack left))))
    []
    (below stack (left - k - 1))
multi_off given node k keys stack left some within =
    let same : k ≡ left - (left - k) = omega (arith, some) in
    ap (λ n. walk_multi_off given node keys (take n (below stack left)) (drop k (below stack left))) same
    ∙ ap (walk_multi_off given node keys (take (left - (left - k)) (below stack left)))
    (drop_below stack left k (omega (arith, some)) within ∙ below_step stack (left - k) (omega (arith, some)) (omega (arith, some, within)))

-- a key is tried
pub try_key : (checker : Checker) (keys : List Key) (stack : List Bytes) (count bottom end : ℕ) (good : Bool) (key sig : Bytes) → 0 < count → count ≤ length keys → bottom < end → end ≤ length stack →
    key ≡ get_or keys (count - 1) [] → sig ≡ get_or stack (end - 1) [] → is_good checker key sig ≡ good →
    are_found checker (reverse (take count keys)) (between stack bottom end) ≡
    are_found checker (reverse (take (count - 1) keys)) (between stack bottom (if good then end - 1 else end))
try_key checker keys stack count bottom end good key sig some within many there key_is sig_is good_is =
    let key_first : reverse (take count keys) ≡ key ∷ reverse (take (count - 1) keys) = rw key_is (last_first keys count [] some within) in
    let sig_first : between stack bottom end ≡ sig ∷ between stack bottom (end - 1) = rw sig_is (between_step stack bottom end many there) in
    ap (λ ks. are_found checker ks (between stack bottom end)) key_first
    ∙ ap (are_found checker (key ∷ reverse (take (count - 1) keys))) sig_first
    ∙ go good good_is sig_first
  where
    go : (good : Bool) → is_good checker key sig ≡ good → between stack bottom end ≡ sig ∷ between stack bottom (end - 1) →
        are_found checker (key ∷ reverse (take (count - 1) keys)) (sig ∷ between stack bottom (end - 1))
        ≡ are_found checker (reverse (take (count - 1) keys)) (between stack bottom (if good then end - 1 else end))
    go true e first = rw e refl
    go false e first = rw e (ap (are_found checker (reverse (take (count - 1) keys))) (sym first))

-- no signature is left
pub none_left : (checker : Checker) (keys : List Key) (stack : List Bytes) (bottom end : ℕ) → end ≤ bottom → are_found checker keys (between stack bottom end) ≡ true
none_left checker keys stack bottom end none = ap (are_found checker keys) (between_none stack bottom end none) ∙ nothing keys
  where
    nothing : (keys : List Key) → are_found checker keys [] ≡ true
    nothing [] = refl
    nothing (key ∷ keys) = refl

-- and no key
pub no_key : (checker : Checker) (keys : List Key) (stack : List Bytes) (bottom end : ℕ) → bottom < end → end ≤ length stack
    → are_found checker (reverse (take 0 keys)) (between stack bottom end) ≡ false
no_key checker keys stack bottom end some within = ap (are_found checker []) (between_step stack bottom end some within)

pub empty_step : (stack : List Bytes) (bottom end : ℕ) (e : Bool) → bottom < end → end ≤ length stack → is_empty (get_or stack (end - 1) []) ≡ e
    → list_all is_empty (between stack bottom end) ≡ (if e then list_all is_empty (between stack bottom (end - 1)) else false)
empty_step stack bottom end true some within e = ap (list_all is_empty) (between_step stack bottom end some within) ∙ (rw e refl)
empty_step stack bottom end false some within e = ap (list_all is_empty) (between_step stack bottom end some within) ∙ (rw e refl)

-- a string of no length
pub empty_is : (bytes : Bytes) → is_empty bytes ≡ (length bytes == 0)
empty_is [] = refl
empty_is (b ∷ bytes) = sym (ne_eqb (length (b ∷ bytes)) 0 (λ e. absurd (omega (arith, e))))

-- the tries came to an end
pub tried_all : (checker : Checker) (keys : List Key) (stack : List Bytes) (count bottom end : ℕ) → count ≤ 0 → bottom ≤ end → end ≤ length stack →
    are_found checker (reverse (take count keys)) (between stack bottom end) ≡ nat_eq end bottom
tried_all checker keys stack count bottom end none low high =
    elim (le_cases end bottom) [
      | inl gone ↦
          let same : end ≡ bottom = omega (arith, gone, low) in
          none_left checker (reverse (take count keys)) stack bottom end gone ∙ sym (eq-eqb end bottom same)
      | inr some ↦
          let zero_keys : count ≡ 0 = omega (arith, none) in
          ap (λ n. are_found checker (reverse (take n keys)) (between stack bottom end)) zero_keys
          ∙ no_key checker keys stack bottom end some high ∙ sym (ne_eqb end bottom (λ e. absurd (omega (arith, e, some))))
    ]
  where
    le_cases : (a b : ℕ) → (a ≤ b) ⊎ (b < a)
    le_cases zero b = inl (omega arith)
    le_cases (suc a) zero = inr (omega arith)
    le_cases (suc a) (suc b) = elim (le_cases a b) [ inl e ↦ inl (omega (arith, e)) | inr e ↦ inr (omega (arith, e)) ]
