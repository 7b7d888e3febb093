-- What rows answer for a tree, in the steps of the code.
use Rattle.std.proofs.Common.{◌≡◌, ℕ, ◌+◌, sym, [], ◌∷◌, List, Bool, true, false, Ok, Err, refl, ap, ◌∙◌, if◌then◌else◌}
use Rattle.def_tree.specs.declared.Two.{Two}
use Rattle.def_tree.specs.declared.Wrapper.{Wrapper}
use Rattle.def_tree.specs.Tree.{Tree, Trees, Key, and_or, two, thresh, multi, wrap}
use Rattle.def_tree.specs.Size.{nodes, nodes_of}
use Rattle.def_types.specs.Row.{Need, Row, Rows, unless_broken, answer, if_ok}
use Rattle.def_types.specs.System.{typed_from, typed_each}
use Rattle.ms_tree.specs.declared.tree.Leaf.{Leaf}
use Rattle.ms_tree.specs.declared.tree.Leaf.TheVariants as leaf
use Rattle.ms_tree.specs.Shape.{leaf_shape}
use Rattle.ms_types.specs.Checked.{first_broken, checked, at_node}
use Rattle.ms_types.specs.Rows.{leaf_row}

unless_broken_is : {A : Type 0} (node : ℕ) (needs : List Need) (value : A) → at_node node (if_ok (first_broken needs) (λ held. Ok value)) ≡ unless_broken node needs value
unless_broken_is node [] value = refl
unless_broken_is {A} node (n ∷ needs) value = go n.holds (unless_broken_is node needs value)
  where
    go : (holds : Bool) → at_node node (if_ok (first_broken needs) (λ held. Ok value)) ≡ unless_broken node needs value
        → at_node node (if_ok (if holds then first_broken needs else Err n.rule) (λ held. Ok value)) ≡ (if holds then unless_broken node needs value else Err (record { node = node; rule = n.rule }))
    go true rest = rest
    go false rest = refl

pub answer_is : {A : Type 0} (node : ℕ) (row : Row A) → at_node node (checked row) ≡ answer node row
answer_is node row = unless_broken_is node row.needs row.gives

module _ {A : Type 0} (rows : Rows A) where
  pub leaf_is : (t : Tree) (shown : Leaf) (first : ℕ) → t ≡ leaf_shape shown → at_node first (checked (leaf_row rows shown)) ≡ typed_from rows first t
  leaf_is t shown first is = of_leaf shown ∙ ap (typed_from rows first) (sym is)
    where
      of_leaf : (l : Leaf) → at_node first (checked (leaf_row rows l)) ≡ typed_from rows first (leaf_shape l)
      of_leaf leaf.Zero = answer_is first rows.just_0
      of_leaf leaf.One = answer_is first rows.just_1
      of_leaf (leaf.PkK key) = answer_is first rows.pk_k
      of_leaf (leaf.PkH key) = answer_is first rows.pk_h
      of_leaf (leaf.Older n) = answer_is first (rows.older n)
      of_leaf (leaf.After n) = answer_is first (rows.after n)
      of_leaf (leaf.Hash value) = answer_is first rows.hash

  pub and_or_is : (t x y z : Tree) (first x_end y_end z_end : ℕ) (a b c : A) → t ≡ and_or x y z →
      Ok a ≡ typed_from rows first x → x_end ≡ first + nodes x → Ok b ≡ typed_from rows x_end y → y_end ≡ x_end + nodes y →
      Ok c ≡ typed_from rows y_end z → z_end ≡ y_end + nodes z →
      at_node z_end (checked (rows.and_or a b c)) ≡ typed_from rows first t
  and_or_is t x y z first x_end y_end z_end a b c is x_is x_at y_is y_at z_is z_at =
      rw is (rw (sym x_is) (rw (sym x_at) (rw (sym y_is) (rw (sym y_at) (rw (sym z_is) (rw (sym z_at) (answer_is z_end (rows.and_or a b c))))))))

  pub two_is : (t x y : Tree) (kind : Two) (first x_end y_end : ℕ) (a b : A) → t ≡ two kind x y →
      Ok a ≡ typed_from rows first x → x_end ≡ first + nodes x → Ok b ≡ typed_from rows x_end y → y_end ≡ x_end + nodes y →
      at_node y_end (checked (rows.two kind a b)) ≡ typed_from rows first t
  two_is t x y kind first x_end y_end a b is x_is x_at y_is y_at =
      rw is (rw (sym x_is) (rw (sym x_at) (rw (sym y_is) (rw (sym y_at) (answer_is y_end (rows.two kind a b))))))

  pub thresh_is : (t : Tree) (xs : Trees) (k first end : ℕ) (types : List A) → t ≡ thresh k xs →
      typed_each rows first xs ≡ Ok types → end ≡ first + nodes_of xs →
      at_node end (checked (rows.thresh k types)) ≡ typed_from rows first t
  thresh_is t xs k first end types is types_are at = rw is (rw types_are (rw (sym at) (answer_is end (rows.thresh k types))))

  pub multi_is : (t : Tree) (k first : ℕ) (keys : List Key) → t ≡ multi k keys → at_node first (checked (rows.multi k keys)) ≡ typed_from rows first t
  multi_is t k first keys is = rw is (answer_is first (rows.multi k keys))

  pub wrap_is : (t x : Tree) (wrapper : Wrapper) (first end : ℕ) (a : A) → t ≡ wrap wrapper x →
      Ok a ≡ typed_from rows first x → end ≡ first + nodes x →
      at_node end (checked (rows.wrap wrapper a)) ≡ typed_from rows first t
  wrap_is t x wrapper first end a is x_is at = rw is (rw (sym x_is) (rw (sym at) (answer_is end (rows.wrap wrapper a))))
