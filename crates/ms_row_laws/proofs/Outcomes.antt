-- A value or a fault: equal values, a fault is no value, and what follows from steps one after the other.
use Rattle.std.proofs.Common.{◌≡◌, Ok, Err, refl}
use Rattle.def_machine.specs.declared.ScriptFault.{ScriptFault}
use Rattle.def_machine.specs.Faults.{OrFault, ◌>>=◌}

-- a value
abbrev pub sure : {A : Type 0} → A → OrFault A
sure a = Ok a

pub same_ok : {A : Type 0} (a b : A) → sure a ≡ Ok b → a ≡ b
same_ok a b h = cc

-- what follows an Ok
pub bind_split : {A B : Type 0} (r : OrFault A) (f : A → OrFault B) (b : B) → (r >>= f) ≡ Ok b → (a : A) × (r ≡ Ok a) × (f a ≡ Ok b)
bind_split (Ok a) f b h = (a, refl, h)
bind_split (Err e) f b h = absurd cc

-- no fault is a value
pub no_fault : {A : Type 0} (fault : ScriptFault) (x : A) → Err fault ≡ sure x → ⊥
no_fault fault x e = cc

-- what follows alike ends alike
pub bind_same : {A B : Type 0} (r : OrFault A) (f g : A → OrFault B) → ((a : A) → f a ≡ g a) → (r >>= f) ≡ (r >>= g)
bind_same (Ok a) f g same = same a
bind_same (Err e) f g same = refl

pub bind_assoc : {A B C : Type 0} (r : OrFault A) (f : A → OrFault B) (g : B → OrFault C) → ((r >>= f) >>= g) ≡ (r >>= λ a. f a >>= g)
bind_assoc (Ok a) f g = refl
bind_assoc (Err e) f g = refl

pub bind_ok : {A : Type 0} (r : OrFault A) → (r >>= λ a. Ok a) ≡ r
bind_ok (Ok a) = refl
bind_ok (Err e) = refl
