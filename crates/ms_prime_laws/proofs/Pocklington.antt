-- Pocklington's criterion, and primes by trial division.
use Rattle.std.proofs.Common.{◌≡◌, ℕ, zero, suc, ◌+◌, ◌-◌, ◌*◌, ◌/◌, ◌%◌, ◌^◌, ◌<◌, ◌≤◌, Bool, true, ◌&&◌, ltb, refl, sym, ◌∙◌, ap, subst, inl, inr, arith}
use Rattle.std.proofs.lemmas.Bool.{cases_lt, ltb-true, and_parts}
use Rattle.std.proofs.lemmas.Nat.{pow-add, mul-le, mod_below, div-add-mod'}
use Rattle.std.proofs.Math.Nat.{pow-suc, pow-zero, mod-eq_of_lt}
use Rattle.def_curve.specs.Modular.{power}
use Rattle.ms_prime_laws.specs.Prime.{IsPrime}
use Rattle.ms_prime_laws.proofs.Congruence.{Same, at, by, back, ◌⨟◌, times, less, multiple, multiple_more}
use Rattle.ms_prime_laws.proofs.Euclid.{down_to_rest, to_unit, euclid}
use Rattle.ms_prime_laws.proofs.Fermat.{fermat_unit}
use Rattle.ms_prime_laws.proofs.Powers.{power-same}

-- the least divisor over 1 of a number is a prime
pub record PrimeFactor (a : ℕ) : Type 0 where
  pub factor : ℕ
  pub other : ℕ
  pub prime : IsPrime factor
  pub product : factor * other ≡ a

least_is_prime : (a d c : ℕ) → 1 < d → 0 < a → d * c ≡ a → ((e : ℕ) → 1 < e → e < d → 0 < a % e) → IsPrime d
least_is_prime a d c big pos product least = record {
  above = big;
  only = λ x y e.
      elim (cases_lt 1 x) [
        | inr small ↦ inl (one_or x y d e (omega arith) small)
        | inl x_big ↦
            elim (cases_lt 1 y) [
              | inr small ↦ inr (one_or y x d (omega (arith, e)) (omega arith) small)
              | inl y_big ↦
                  let below : x < d = smaller x y d e x_big y_big in
                  let whole : x * (y * c) ≡ a = omega (arith, ap (λ z. z * c) e, product) in
                  let none : a % x ≡ 0 = ap (λ z. z % x) (sym whole) ∙ multiple x (y * c) in
                  absurd (omega (arith, least x x_big below, none))
            ]
      ];
}
  where
    one_or : (x y d : ℕ) → x * y ≡ d → 1 < d → x ≤ 1 → x ≡ 1
    one_or zero y d e big small = absurd (omega arith)
    one_or (suc x) y d e big small = omega arith

    smaller : (x y d : ℕ) → x * y ≡ d → 1 < x → 1 < y → x < d
    smaller x y d e x_big y_big = omega (arith, mul-le x 2 x y (omega arith) y_big, e)

search_factor : (a fuel d : ℕ) → d + fuel ≡ a → 1 < d → ((e : ℕ) → 1 < e → e < d → 0 < a % e) → PrimeFactor a
search_factor a zero d e big least =
    let same : d * 1 ≡ a = omega arith in
    record { factor = d; other = 1; prime = least_is_prime a d 1 big (omega arith) same least; product = same }
search_factor a (suc fuel) d e big least =
    elim (cases_lt 0 (a % d)) [
      | inl some ↦ search_factor a fuel (suc d) (omega arith) (omega arith) (λ x above below.
          elim (cases_lt x d) [ inl before ↦ least x above before | inr here ↦ let same : d ≡ x = omega arith in let P : ℕ → Type 0 = λ z. 0 < a % z in subst P same some ])
      | inr none ↦
          let product : d * (a / d) ≡ a = omega (arith, div-add-mod' a d) in
          record { factor = d; other = a / d; prime = least_is_prime a d (a / d) big (omega arith) product least; product = product }
    ]

prime_factor : (a : ℕ) → 1 < a → PrimeFactor a
prime_factor a big = search_factor a (a - 2) 2 (omega arith) (omega arith) (λ e above below. absurd (omega arith))

-- each prime divisor of m is 1 more than a multiple of f
pub record Steps (m f : ℕ) : Type 0 where
  pub step : (r c : ℕ) → IsPrime r → r * c ≡ m → (r - 1) % f ≡ 0

-- numbers b and u that show this of a prime q: b ^ q is 1 modulo m, and (b - 1) * u too
pub before : (m q b u bits : ℕ) → IsPrime q → 1 < m → 0 < b → q < 2 ^ bits → power m bits b q ≡ 1 → (b - 1) * u % m ≡ 1 → Steps m q
before m q b u bits prime big some short root unit = record { step = λ r c is r_divides. at_prime r c is r_divides }
  where
    divided : (r c x : ℕ) → r * c ≡ m → 1 < r → x % m ≡ 1 → Same r x 1
    divided r c x e above one =
        let k : ℕ = x / m in
        let parts : k * m + 1 ≡ x = omega (arith, div-add-mod' x m) in
        let whole : (k * c) * r + 1 ≡ x = omega (arith, ap (λ z. k * z) e, parts) in
        by (sym whole) ⨟ record { same = multiple_more (k * c) r }

    at_prime : (r c : ℕ) → IsPrime r → r * c ≡ m → (r - 1) % q ≡ 0
    at_prime r c is e =
        let above : 1 < r = is.above in
        let P : ℕ → Type 0 = λ k. Same r (b ^ k) 1 in
        let step : (x y : ℕ) → Same r (b ^ (x + y)) 1 → Same r (b ^ y) 1 → Same r (b ^ x) 1 =
        λ x y both second.
        let single : b ^ x ≡ b ^ x * 1 = omega arith in
        by single ⨟ times (at (b ^ x)) (back second) ⨟ by (sym (pow-add b x y)) ⨟ both in
        let one_mod : power m bits b q % m ≡ 1 = ap (λ z. z % m) root ∙ mod-eq_of_lt big in
        let at_q : Same r (b ^ q) 1 = divided r c (b ^ q) e above (sym ((power-same m bits b q short).same) ∙ one_mod) in
        let unit_here : Same r ((b - 1) * u) 1 = divided r c ((b - 1) * u) e above unit in
        elim (cases_lt 0 ((r - 1) % q)) [
          | inr none ↦ omega arith
          | inl rest ↦
              let b_some : 0 < b % r = not_zero r above at_q in
              let at_rest : Same r (b ^ ((r - 1) % q)) 1 = down_to_rest P step (r - 1) q (fermat_unit r b is b_some) at_q in
              let one : Same r (b ^ 1) 1 = to_unit P step q ((r - 1) % q) prime at_q rest (mod_below (r - 1) q (omega (arith, prime.above))) at_rest in
              absurd (no_unit r above one unit_here)
        ]
      where
        not_zero : (r : ℕ) → 1 < r → Same r (b ^ q) 1 → 0 < b % r
        not_zero r above s =
            elim (cases_lt 0 (b % r)) [
              | inl pos ↦ pos
              | inr none ↦
                  let b_zero : Same r b 0 = record { same = none_is r none ∙ sym (mod-eq_of_lt (omega arith)) } in
                  let split : b ^ q ≡ b ^ (q - 1) * b = ap (λ k. b ^ k) (pred_q) ∙ pow-suc b (q - 1) in
                  let nothing : b ^ (q - 1) * 0 ≡ 0 = omega arith in
                  let zero_one : Same r 0 1 = by (sym nothing) ⨟ times (at (b ^ (q - 1))) (back b_zero) ⨟ by (sym split) ⨟ s in
                  absurd (omega (arith, zero_one.same, mod-eq_of_lt above, mod-eq_of_lt {n = 0} {m = r} (omega arith)))
            ]
          where
            none_is : (r : ℕ) → b % r ≤ 0 → b % r ≡ 0
            none_is r h = omega arith

            pred_q : q ≡ suc (q - 1)
            pred_q = omega (arith, prime.above)

        no_unit : (r : ℕ) → 1 < r → Same r (b ^ 1) 1 → Same r ((b - 1) * u) 1 → ⊥
        no_unit r above one unit_here =
            let d : ℕ = b - 1 in
            let parts : b ≡ d + 1 = omega arith in
            let power_one : b ^ 1 ≡ b = pow-suc b 0 ∙ ap (λ z. z * b) (pow-zero b) ∙ (omega arith) in
            let zero_d : Same r d 0 = less 1 (omega arith) (by (sym parts) ⨟ by (sym power_one) ⨟ one ⨟ by one_is) in
            let nothing : 0 ≡ 0 * u = omega arith in
            let zero_one : Same r 0 1 = by nothing ⨟ times (back zero_d) (at u) ⨟ unit_here in
            absurd (omega (arith, zero_one.same, mod-eq_of_lt above, mod-eq_of_lt {n = 0} {m = r} (omega arith)))
          where
            one_is : 1 ≡ 0 + 1
            one_is = refl

-- the same of a product with a further prime
pub join : (m f q : ℕ) → Steps m f → Steps m q → IsPrime q → 0 < f → 0 < f % q → Steps m (f * q)
join m f q first second prime some apart = record {
  step = λ r c is e.
      let k : ℕ = (r - 1) / f in
      let by_f : f * k ≡ r - 1 = omega (arith, div-add-mod' (r - 1) f, first.step r c is e) in
      let whole : f * k % q ≡ 0 = ap (λ z. z % q) by_f ∙ second.step r c is e in
      let rest : k % q ≡ 0 = euclid q f k prime whole apart in
      let l : ℕ = k / q in
      let by_q : l * q ≡ k = omega (arith, div-add-mod' k q, rest) in
      let both : (f * q) * l ≡ r - 1 = omega (arith, ap (λ z. f * z) by_q, by_f) in
      ap (λ z. z % (f * q)) (sym both) ∙ multiple (f * q) l;
}

-- a number whose prime divisors are all over its root is a prime
pub prime_by : (m f : ℕ) → 1 < m → m < f * f → Steps m f → IsPrime m
prime_by m f big square steps = record {
  above = big;
  only = λ a b e.
      elim (cases_lt 1 a) [
        | inr small ↦ inl (one_or a b e small)
        | inl a_big ↦
            elim (cases_lt 1 b) [
              | inr small ↦ inr (one_or b a (omega (arith, e)) small)
              | inl b_big ↦
                  let r = prime_factor a a_big in
                  let s = prime_factor b b_big in
                  let r_over : f < r.factor = over r.factor (r.other * b) r.prime (omega (arith, ap (λ z. z * b) r.product, e)) in
                  let s_over : f < s.factor = over s.factor (s.other * a) s.prime (omega (arith, ap (λ z. z * a) s.product, e)) in
                  let r_le : r.factor ≤ a = factor_le r.factor r.other a r.product (omega arith) in
                  let s_le : s.factor ≤ b = factor_le s.factor s.other b s.product (omega arith) in
                  absurd (omega (arith, mul-le f f a b (omega (arith, r_over, r_le)) (omega (arith, s_over, s_le)), e, square))
            ]
      ];
}
  where
    one_or : (x y : ℕ) → x * y ≡ m → x ≤ 1 → x ≡ 1
    one_or zero y e small = absurd (omega (arith, big))
    one_or (suc x) y e small = omega arith

    factor_le : (r o a : ℕ) → r * o ≡ a → 0 < a → r ≤ a
    factor_le r zero a e pos = absurd (omega arith)
    factor_le r (suc o) a e pos = omega (arith, mul-le r 1 r (suc o) (omega arith) (omega arith))

    over : (r c : ℕ) → IsPrime r → r * c ≡ m → f < r
    over r c is e =
        elim (cases_lt f r) [
          | inl above ↦ above
          | inr below ↦
              let small : (r - 1) % f ≡ r - 1 = mod-eq_of_lt (omega (arith, is.above)) in
              absurd (omega (arith, steps.step r c is e, small, is.above))
        ]

-- so many numbers from d on don't divide m
unfoldable pub undivided : (m fuel d : ℕ) → Bool
undivided m zero d = true
undivided m (suc fuel) d = ltb 0 (m % d) && undivided m fuel (suc d)

undivided-each : (m fuel d : ℕ) → undivided m fuel d ≡ true → (e : ℕ) → d ≤ e → e < d + fuel → 0 < m % e
unfolding undivided
undivided-each m zero d test e low high = absurd (omega arith)
undivided-each m (suc fuel) d test e low high =
    let parts = and_parts (ltb 0 (m % d)) (undivided m fuel (suc d)) test in
    elim (cases_lt d e) [
      | inl above ↦ undivided-each m fuel (suc d) parts.1 e above (omega arith)
      | inr here ↦ let same : d ≡ e = omega arith in let P : ℕ → Type 0 = λ z. 0 < m % z in subst P same (ltb-true 0 (m % d) parts.0)
    ]

-- a number that none from 2 to its root divides is a prime
pub prime_by_trial : (m fuel : ℕ) → 1 < m → m < (fuel + 2) * (fuel + 2) → undivided m fuel 2 ≡ true → IsPrime m
prime_by_trial m fuel big square test = record {
  above = big;
  only = λ a b e.
      elim (cases_lt 1 a) [
        | inr small ↦ inl (one_or a b e small)
        | inl a_big ↦
            elim (cases_lt 1 b) [
              | inr small ↦ inr (one_or b a (omega (arith, e)) small)
              | inl b_big ↦
                  elim (cases_lt a (fuel + 2)) [
                    | inl a_short ↦ absurd (divided a b e a_big a_short)
                    | inr a_long ↦
                        elim (cases_lt b (fuel + 2)) [
                          | inl b_short ↦ absurd (divided b a (omega (arith, e)) b_big b_short)
                          | inr b_long ↦ absurd (omega (arith, mul-le (fuel + 2) (fuel + 2) a b a_long b_long, e, square))
                        ]
                  ]
            ]
      ];
}
  where
    one_or : (x y : ℕ) → x * y ≡ m → x ≤ 1 → x ≡ 1
    one_or zero y e small = absurd (omega (arith, big))
    one_or (suc x) y e small = omega arith

    divided : (x y : ℕ) → x * y ≡ m → 1 < x → x < fuel + 2 → ⊥
    divided x y e above short =
        let some = undivided-each m fuel 2 test x (omega arith) (omega arith) in
        let none : m % x ≡ 0 = ap (λ z. z % x) (sym e) ∙ multiple x y in
        omega (arith, some, none)
