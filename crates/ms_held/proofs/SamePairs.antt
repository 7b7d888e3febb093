-- Byte strings and pairs that are the same.
use Rattle.std.proofs.Common.{◌≡◌, Bool, true, false, ◌&&◌, ◌||◌, [], ◌∷◌, refl, sym, ◌∙◌, ap, arith}
use Rattle.std.proofs.lemmas.Bool.{and_parts, or_parts}
use Rattle.std.specs.Cmp.{IsEquivalence}
use Rattle.std.specs.List.{list_any}
use Rattle.std.specs.Str.{bytes_eq}
use Rattle.std.proofs.lemmas.Slice.Eq.{bytes_eq-Decides}
use Rattle.def_script.specs.Bytes.{Bytes}
use Rattle.def_machine.specs.Stacks.{Pairs, member}
use Rattle.def_assets.specs.Assets.{same_pair}

same_bool : (a b : Bool) → (a ≡ true → b ≡ true) → (b ≡ true → a ≡ true) → a ≡ b
same_bool a b p q = grind arith

pub bytes_eq-symm : (x y : Bytes) → bytes_eq x y ≡ bytes_eq y x
bytes_eq-symm x y =
    same_bool (bytes_eq x y) (bytes_eq y x) (λ e. (bytes_eq-Decides y x).1 (sym ((bytes_eq-Decides x y).0 e))) (λ e. (bytes_eq-Decides x y).1 (sym ((bytes_eq-Decides y x).0 e)))

pub same_pair-symm : (x y : Bytes × Bytes) → same_pair x y ≡ same_pair y x
same_pair-symm x y = ap (λ b. b && bytes_eq x.1 y.1) (bytes_eq-symm x.0 y.0) ∙ ap (λ b. bytes_eq y.0 x.0 && b) (bytes_eq-symm x.1 y.1)

pub same_pair-laws : IsEquivalence same_pair
same_pair-laws = record {
  refl = λ x. ap (λ b. b && bytes_eq x.1 x.1) ((bytes_eq-Decides x.0 x.0).1 refl) ∙ (bytes_eq-Decides x.1 x.1).1 refl;
  symm = same_pair-symm;
  congr = λ x y z e.
      let parts = and_parts (bytes_eq x.0 y.0) (bytes_eq x.1 y.1) e in
      ap (λ key. bytes_eq key z.0 && bytes_eq x.1 z.1) ((bytes_eq-Decides x.0 y.0).0 parts.0) ∙ ap (λ sig. bytes_eq y.0 z.0 && bytes_eq sig z.1) ((bytes_eq-Decides x.1 y.1).0 parts.1);
}

-- where no pair has the key, none is the same
pub no_key : (key sig : Bytes) (table : Pairs) → list_any (λ pair. bytes_eq key pair.0) table ≡ false → list_any (same_pair (key, sig)) table ≡ false
no_key key sig [] e = refl
no_key key sig (pair ∷ table) e =
    let parts = or_parts (bytes_eq key pair.0) _ e in
    ap (λ b. (b && bytes_eq sig pair.1) || list_any (same_pair (key, sig)) table) parts.0 ∙ no_key key sig table parts.1

-- a member is the same as a pair of the table
pub same_member : (key sig : Bytes) (table : Pairs) → list_any (same_pair (key, sig)) table ≡ member table key sig
same_member key sig [] = refl
same_member key sig (pair ∷ table) =
    ap (λ b. b || list_any (same_pair (key, sig)) table) (same_pair-symm (key, sig) pair) ∙ ap (λ b. same_pair pair (key, sig) || b) (same_member key sig table)
