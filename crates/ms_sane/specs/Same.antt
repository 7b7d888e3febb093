-- What a call leaves of a tree that it writes the working room of.
use Rattle.std.specs.Prelude.{◌≡◌}
use Rattle.ms_sane.specs.declared.passed.ValidTree.{ValidTree}

-- all but its working room is as it was
pub record IsSame (old new : ValidTree) : Type 0 where
  pub tree : new.tree ≡ old.tree
  pub rules : new.rules ≡ old.rules
  pub ty : new.ty ≡ old.ty
  pub limits : new.limits ≡ old.limits
