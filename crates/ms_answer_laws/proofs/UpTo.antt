-- A fact of each number from 1 up to some other one.
use Rattle.std.proofs.Common.{◌≡◌, ◌⊎◌, inl, inr, ℕ, zero, suc, ◌≤◌, arith, subst, sym}
use Rattle.std.specs.Prelude.{⊤}

abbrev pub UpTo : (P : ℕ → Type 0) → (most : ℕ) → Type 0
UpTo P zero = ⊤
UpTo P (suc n) = UpTo P n × P (suc n)

last_or_before : (n m : ℕ) → n ≤ suc m → (n ≡ suc m) ⊎ (n ≤ m)
last_or_before n m h = grind arith

pub holds_at : (P : ℕ → Type 0) (most n : ℕ) → UpTo P most → 1 ≤ n → n ≤ most → P n
holds_at P zero n h some few = absurd (omega arith)
holds_at P (suc m) n h some few = elim (last_or_before n m few) [
  | inl last ↦ subst P (sym last) h.1
  | inr before ↦ holds_at P m n h.0 some before
]
