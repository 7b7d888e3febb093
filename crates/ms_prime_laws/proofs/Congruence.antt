-- Numbers that are the same modulo another one. A chain of these steps is read from left to right.
use Rattle.std.proofs.Common.{◌≡◌, ℕ, ◌+◌, ◌-◌, ◌*◌, ◌%◌, ◌<◌, ◌≤◌, refl, sym, ◌∙◌, ap, arith}
use Rattle.std.proofs.lemmas.Nat.{mul-mod}
use Rattle.std.proofs.Math.Nat.{add-mod, mod-mod, mod-eq_of_lt, add-mul-mod_self_left, mul-add-mod_self_right, mul-mod_right, add-mod_right}
use Rattle.def_curve.specs.Modular.{minus}

pub record Same (m a b : ℕ) : Type 0 where
  pub same : a % m ≡ b % m

pub at : {m : ℕ} (a : ℕ) → Same m a a
at a = record { same = refl }

pub by : {m a b : ℕ} → a ≡ b → Same m a b
by {m} e = record { same = ap (λ x. x % m) e }

pub back : {m a b : ℕ} → Same m a b → Same m b a
back s = record { same = sym s.same }

infixl 10 ◌⨟◌
pub ◌⨟◌ : {m a b c : ℕ} → Same m a b → Same m b c → Same m a c
s ⨟ t = record { same = s.same ∙ t.same }

-- products, and sums
pub times : {m a b c d : ℕ} → Same m a b → Same m c d → Same m (a * c) (b * d)
times {m} {a} {b} {c} {d} s t = record {
  same = mul-mod a c m ∙ ap (λ x. x * (c % m) % m) s.same ∙ ap (λ x. b % m * x % m) t.same ∙ sym (mul-mod b d m);
}

pub plus : {m a b c d : ℕ} → Same m a b → Same m c d → Same m (a + c) (b + d)
plus {m} {a} {b} {c} {d} s t = record {
  same = add-mod a c m ∙ ap (λ x. (x + c % m) % m) s.same ∙ ap (λ x. (b % m + x) % m) t.same ∙ sym (add-mod b d m);
}

whole : (m a c : ℕ) → 0 < m → Same m ((a + c) + (m - 1) * c) a
whole m a c pos =
    let k : ℕ = m - 1 in
    let e : m ≡ k + 1 = omega arith in
    let f : m * c ≡ (k + 1) * c = ap (λ z. z * c) e in
    let g : (a + c) + (m - 1) * c ≡ a + m * c = omega (arith, f) in
    record { same = ap (λ x. x % m) g ∙ add-mul-mod_self_left a m c }

-- what is added to both sides is taken off
pub less : {m a b : ℕ} (c : ℕ) → 0 < m → Same m (a + c) (b + c) → Same m a b
less {m} {a} {b} c pos s = back (whole m a c pos) ⨟ plus s (at ((m - 1) * c)) ⨟ whole m b c pos

pub of_mod : {m : ℕ} (a : ℕ) → Same m (a % m) a
of_mod {m} a = record { same = mod-mod a m }

pub of_eq : {m : ℕ} (a b : ℕ) → a ≡ b % m → Same m a b
of_eq {m} a b e = record { same = ap (λ x. x % m) e ∙ mod-mod b m }

pub to_eq : {m a b : ℕ} → a < m → Same m a b → a ≡ b % m
to_eq h s = sym (mod-eq_of_lt h) ∙ s.same

pub to_one : {m a b : ℕ} → a < m → b < m → Same m a b → a ≡ b
to_one h k s = sym (mod-eq_of_lt h) ∙ s.same ∙ mod-eq_of_lt k

-- a difference is what gives the first number together with the second
pub of_minus : {m : ℕ} (r a b : ℕ) → b ≤ m → r ≡ minus m a b → Same m (r + b) a
of_minus {m} r a b h e =
    let f : (a + (m - b)) + b ≡ a + m = omega arith in
    plus (of_eq r (a + (m - b)) e) (at b) ⨟ by f ⨟ record { same = add-mod_right a m }

-- a multiple leaves nothing, and one more leaves 1
pub multiple : (m c : ℕ) → m * c % m ≡ 0
multiple m c = mul-mod_right m c

pub multiple_more : (c m : ℕ) → (c * m + 1) % m ≡ 1 % m
multiple_more c m = mul-add-mod_self_right c m 1
