-- Which letter before a child lets a node pass that breaks a rule of the types.
use Rattle.std.specs.Prelude.{ℕ, ◌+◌, ◌-◌, ◌==◌, ◌&&◌, not, Bool, true, false, List, [], ◌∷◌, ◌++◌, map, find, slice_get, slice_index, Option, Some, None, Result, Ok, Err}
use Rattle.def_tree.specs.declared.Wrapper.TheVariants.{A, S, C, D, V, J, N}
use Rattle.def_tree.specs.Children.{children}
use Rattle.def_tree.specs.Nodes.{all_nodes}
use Rattle.def_tree.specs.Size.{nodes}
use Rattle.def_tree.specs.Tree.{Tree, Trees, and_or, two, thresh, wrap, none, more}
use Rattle.def_text.specs.Letter.{Letter, letter_of_wrapper, letter_t, letter_l, letter_u, letter_tree}
use Rattle.def_types.specs.declared.CorrectnessType.{CorrectnessType}
use Rattle.def_types.specs.declared.rule.RuleAt.{RuleAt}
use Rattle.def_types.specs.Correctness.{correctness_of}

-- the letters, in the order in which they are tried
abbrev pub tried_letters : List Letter
tried_letters =
    letter_of_wrapper V ∷ letter_of_wrapper S ∷ letter_of_wrapper A ∷ letter_of_wrapper J ∷ letter_of_wrapper N
    ∷ letter_of_wrapper C ∷ letter_of_wrapper D ∷ letter_t ∷ letter_l ∷ letter_u ∷ []

-- a letter before a child: the number of the child, the letter, and all children with it
pub record Trial : Type 0 where
  pub child : ℕ
  pub letter : Letter
  pub children : Trees

abbrev pub trial : (child : ℕ) → (x : Tree) → (xs : Trees) → Letter → Trial
trial child x xs letter = record { child = child; letter = letter; children = more (letter_tree letter x) xs }

abbrev pub behind : Tree → Trial → Trial
behind x t = record { child = t.child; letter = t.letter; children = more x t.children }

-- each letter before each of these children, from left to right; their nodes have the numbers from `first` on
abbrev pub trials : (first : ℕ) → Trees → List Trial
trials first none = []
trials first (more x xs) =
    map (trial (first + nodes x - 1) x xs) tried_letters ++ map (behind x) (trials (first + nodes x) xs)

-- a tree with other children
abbrev pub over : Tree → Trees → Tree
over (and_or x y z) (more a (more b (more c none))) = and_or a b c
over (two kind x y) (more a (more b none)) = two kind a b
over (thresh k xs) others = thresh k others
over (wrap wrapper x) (more a none) = wrap wrapper a
over tree others = tree

abbrev pub has_type : Result CorrectnessType RuleAt → Bool
has_type (Ok ty) = true
has_type (Err at) = false

-- the child stands in the text, at another place than the node itself, and with the letter the node breaks no rule
abbrev pub fits : (offsets : List ℕ) → (number : ℕ) → Tree → Trial → Bool
fits offsets number tree t =
    not (slice_index offsets t.child == slice_index offsets number) && has_type (correctness_of (over tree t.children))

-- the first letter that fits before a child of the node of this number, where there is one
abbrev pub fit_of : (offsets : List ℕ) → (number : ℕ) → Option Tree → Option Trial
fit_of offsets number None = None
fit_of offsets number (Some tree) = find (fits offsets number tree) (trials (number + 1 - nodes tree) (children tree))

-- the same of the node of a tree that breaks a rule
abbrev pub fit : (offsets : List ℕ) → Tree → RuleAt → Option Trial
fit offsets tree at = fit_of offsets at.node (slice_get (all_nodes tree) at.node)
