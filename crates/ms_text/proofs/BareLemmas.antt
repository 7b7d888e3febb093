-- The trees without arguments.
use Rattle.std.proofs.Common.{◌≡◌, true, refl}
use Rattle.def_tree.specs.Tree.{Tree, just_0, just_1}
use Rattle.ms_text.specs.Scaffolding.Bare.{is_just_0, is_just_1}

pub just_0_is : (t : Tree) → is_just_0 t ≡ true → t ≡ just_0
just_0_is just_0 h = refl
just_0_is t h = absurd (cc)

pub just_1_is : (t : Tree) → is_just_1 t ≡ true → t ≡ just_1
just_1_is just_1 h = refl
just_1_is t h = absurd (cc)
