-- What is left has none, one, two or at least three characters.
use Rattle.std.proofs.Common.{ℕ, ◌≤◌, ◌-◌, arith, length, take, drop, sym, ap, ◌∙◌}
use Rattle.ms_address.specs.After.{after}
use Rattle.ms_address.proofs.Symbols.{end_is, first_none, second_none, third_none, one_is, two_is, three_is}
use Rattle.ms_address.proofs.checksum.with_text.Goals as goal

pub returns-in-empty : goal.returns-in-empty
returns-in-empty c = let e = end_is c.threes.remainder c.threes.rest.now c.in-empty.len_below in cc

pub returns-in_err-a-in-len1 : goal.returns-in_err-a-in-len1
returns-in_err-a-in-len1 c =
    let e = first_none c.threes.remainder c.threes.rest.now c.in-len1.len_at_least (sym c.in_err-a-in-len1.ensures.place) in cc

pub returns-in-len1 : goal.returns-in-len1
returns-in-len1 c =
    let e = one_is c.threes.remainder c.in_ok-a-in-len1.a c.threes.rest.now c.in-len1.len_at_least c.in-len1.len_below (sym c.in_ok-a-in-len1.ensures.place) in cc

pub returns-in_err-a-in-len2 : goal.returns-in_err-a-in-len2
returns-in_err-a-in-len2 c =
    let long : 1 ≤ length c.threes.rest.now = omega (arith, c.in-len2.len_at_least) in
    let e = first_none c.threes.remainder c.threes.rest.now long (sym c.in_err-a-in-len2.ensures.place) in cc

pub returns-in_err-b-in-len2 : goal.returns-in_err-b-in-len2
returns-in_err-b-in-len2 c =
    let e = second_none c.threes.remainder c.threes.rest.now c.in-len2.len_at_least (sym c.in_err-b-in-len2.ensures.place) in cc

pub returns-in-len2 : goal.returns-in-len2
returns-in-len2 c =
    let e = two_is c.threes.remainder c.in_ok-a-in-len2.a c.in_ok-b-in-len2.b c.threes.rest.now c.in-len2.len_at_least c.in-len2.len_below
    (sym c.in_ok-a-in-len2.ensures.place) (sym c.in_ok-b-in-len2.ensures.place) in cc

pub returns-in_err-a-in-len3-up : goal.returns-in_err-a-in-len3-up
returns-in_err-a-in-len3-up c =
    let long : 1 ≤ length c.threes.rest.now = omega (arith, c.in-len3-up.len_at_least) in
    let e = first_none c.threes.remainder c.threes.rest.now long (sym c.in_err-a-in-len3-up.ensures.place) in cc

pub returns-in_err-b-in-len3-up : goal.returns-in_err-b-in-len3-up
returns-in_err-b-in-len3-up c =
    let long : 2 ≤ length c.threes.rest.now = omega (arith, c.in-len3-up.len_at_least) in
    let e = second_none c.threes.remainder c.threes.rest.now long (sym c.in_err-b-in-len3-up.ensures.place) in cc

pub returns-in_err-c-in-len3-up : goal.returns-in_err-c-in-len3-up
returns-in_err-c-in-len3-up c =
    let e = third_none c.threes.remainder c.threes.rest.now c.in-len3-up.len_at_least (sym c.in_err-c-in-len3-up.ensures.place) in cc

pub threes-preserved : goal.threes-preserved
threes-preserved c =
    let rest = c.threes.rest.now in
    let e = three_is c.threes.remainder c.in_ok-a-in-len3-up.a c.in_ok-b-in-len3-up.b c.in_ok-c-in-len3-up.c rest c.in-len3-up.len_at_least
    (sym c.in_ok-a-in-len3-up.ensures.place) (sym c.in_ok-b-in-len3-up.ensures.place) (sym c.in_ok-c-in-len3-up.ensures.place) in
    ap (λ (z : ℕ). after z (take (length rest - 3) (drop 3 rest))) c.with_three-remainder.ensures ∙ (e ∙ c.threes.invariant)
