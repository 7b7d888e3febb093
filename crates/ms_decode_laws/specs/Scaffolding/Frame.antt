-- What a reader of a Script, which goes from its last instruction to its first, has still to close.
use Rattle.std.specs.Prelude.{ℕ}
use Rattle.def_tree.specs.declared.Two.{Two}
use Rattle.def_tree.specs.declared.Wrapper.{Wrapper}
use Rattle.def_tree.specs.Tree.{Tree, Trees}

pub data Frame : Type 0 where
  -- the expression is what `c`, `v` or `n` is put on
  under : (wrapper : Wrapper) → Frame
  -- it ends a chain of `and_v`, whose further parts stand before it
  chain : Frame
  -- it is the first child of the fragment, whose second one is read
  first_of : (kind : Two) → (y : Tree) → Frame
  -- it is the second child of `and_b` or `or_b`
  second_of : (kind : Two) → Frame
  -- it stands before ENDIF
  ended : Frame
  -- it stands before ELSE, and this one between ELSE and ENDIF
  else_seen : (y : Tree) → Frame
  -- it is the X of `andor(X,y,z)`
  condition : (y z : Tree) → Frame
  -- it is what `a` or `s` is put on
  alt_stack : Frame
  swapped : Frame
  -- it is a further child, or the first one, of a threshold with these children behind it
  further : (k : ℕ) → (ys : Trees) → Frame
  first : (k : ℕ) → (ys : Trees) → Frame
