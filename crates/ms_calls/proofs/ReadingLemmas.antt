-- Keys that lie one after the other, one at a time.
use Rattle.std.proofs.Common.{◌≡◌, ℕ, suc, ◌+◌, ◌-◌, ◌*◌, ◌/◌, ◌<◌, ◌==◌, ◌&&◌, Bool, true, false, ◌∷◌, length, take, drop, refl, sym, ◌∙◌, ap, arith}
use Rattle.std.specs.List.{list_all}
use Rattle.def_script.specs.Bytes.{Bytes}
use Rattle.def_script.specs.Key.{is_key}
use Rattle.ms_arrays.specs.Pieces.{KEY_SIZE}
use Rattle.ms_calls.specs.Readings.{keys_at, keys_in, are_keys}

-- the first key of those that are left
pub keys_step : (count i : ℕ) (bytes : Bytes) → i < count
    → keys_at (count - i) bytes ≡ take KEY_SIZE bytes ∷ keys_at (count - (i + 1)) (drop KEY_SIZE bytes)
keys_step count i bytes h = let e : count - i ≡ suc (count - (i + 1)) = omega (arith, h) in ap (λ n. keys_at n bytes) e

and_false : (b : Bool) → b && false ≡ false
and_false true = refl
and_false false = refl

-- the first of those that are left is none
pub no_key : (count i : ℕ) (bytes rest first : Bytes) → i < count → list_all is_key (keys_at (count - i) rest) ≡ list_all is_key (keys_in bytes)
    → first ≡ take KEY_SIZE rest → is_key first ≡ false → are_keys bytes ≡ false
no_key count i bytes rest first h same is none =
    let left : list_all is_key (keys_at (count - i) rest) ≡ false =
    ap (list_all is_key) (keys_step count i rest h)
    ∙ ap (λ b. b && list_all is_key (keys_at (count - (i + 1)) (drop KEY_SIZE rest))) (ap is_key (sym is) ∙ none) in
    ap (λ b. (length bytes == KEY_SIZE * (length bytes / KEY_SIZE)) && b) (sym same ∙ left)
    ∙ and_false (length bytes == KEY_SIZE * (length bytes / KEY_SIZE))

-- it is one
pub one_key : (count i : ℕ) (bytes rest first back : Bytes) → i < count → list_all is_key (keys_at (count - i) rest) ≡ list_all is_key (keys_in bytes)
    → first ≡ take KEY_SIZE rest → back ≡ drop KEY_SIZE rest → is_key first ≡ true
    → list_all is_key (keys_at (count - (i + 1)) back) ≡ list_all is_key (keys_in bytes)
one_key count i bytes rest first back h same is after one =
    ap (λ b. list_all is_key (keys_at (count - (i + 1)) b)) after
    ∙ sym (ap (λ b. b && list_all is_key (keys_at (count - (i + 1)) (drop KEY_SIZE rest))) (ap is_key (sym is) ∙ one))
    ∙ sym (ap (list_all is_key) (keys_step count i rest h))
    ∙ same
