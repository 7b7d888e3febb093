-- Where keys start from: the steps before the first `*`, one expression after another, and the keys of starts.
use Rattle.std.proofs.Common.{◌≡◌, ℕ, ◌+◌, ◌<◌, List, [], ◌∷◌, ◌++◌, length, map, drop, get_or, ap, ◌∙◌, refl, sym, subst, append_assoc, append-nil, Option, Some, None, Result, Ok, Err, option_and_then, option_map}
use Rattle.std.specs.Prelude.{All}
use Rattle.std.proofs.lemmas.List.{map-append}
use Rattle.std.proofs.lemmas.List.Elements.{All-nil, All-cons, All-head, All-tail}
use Rattle.def_tree.specs.Tree.{Key}
use Rattle.def_curve.specs.Encoding.{compressed}
use Rattle.def_derive.specs.Child.{Node as TheNode, child, descendant, node_of}
use Rattle.def_derive.specs.Extended.{Extended}
use Rattle.def_descriptor.specs.Expression as the
use Rattle.def_descriptor.specs.Expression.{Expression}
use Rattle.def_descriptor.specs.Gives.{number_at, key_at, with_key, keys_at}
use Rattle.ms_paths.specs.declared.steps.Way.{Way as OwnWay}
use Rattle.ms_paths.specs.declared.steps.Way.TheVariants as way
use Rattle.ms_paths.specs.Paths.{way_at}
use Rattle.ms_descriptor.specs.declared.pieces.Piece.{Piece}
use Rattle.ms_descriptor.specs.declared.pieces.Piece.TheVariants as piece
use Rattle.ms_descriptor.specs.Expressions.{expression_at}
use Rattle.ms_outputs.specs.declared.starts.Left.{Left}
use Rattle.ms_outputs.specs.declared.starts.Start.{Start}
use Rattle.ms_outputs.specs.Keys.{expressions_in}
use Rattle.ms_outputs.specs.Starts.{left_number, start_key, start_keys, StartsSafe, AreStarts}
use Rattle.ms_outputs.proofs.Lists.{left_of}
use Rattle.ms_outputs.proofs.Finding.{numbers_of}

-- ---- along the steps before the first `*`

same_number : (branch i : ℕ) (w : OwnWay) → (w ≡ way.Index → ⊥) → number_at branch 0 (way_at w) ≡ number_at branch i (way_at w)
same_number branch i (way.Number n) other = refl
same_number branch i (way.Branches numbers) other = refl
same_number branch i way.Index other = absurd (other refl)

module _ (branch : ℕ) (w : OwnWay) (rest : List OwnWay) (other : w ≡ way.Index → ⊥) (node : TheNode) where
  pub step_on : (next : TheNode) → Some next ≡ child (number_at branch 0 (way_at w)) node → (i : ℕ)
      → descendant (numbers_of branch i rest) next ≡ descendant (numbers_of branch i (w ∷ rest)) node
  unfolding descendant
  step_on next step i =
      ap (option_and_then (descendant (numbers_of branch i rest))) (step ∙ ap (λ (z : ℕ). child z node) (same_number branch i w other))

  pub no_step : None ≡ child (number_at branch 0 (way_at w)) node → (i : ℕ) → None ≡ descendant (numbers_of branch i (w ∷ rest)) node
  unfolding descendant
  no_step step i =
      ap (option_and_then (descendant (numbers_of branch i rest))) (step ∙ ap (λ (z : ℕ). child z node) (same_number branch i w other))

-- the numbers of the steps so far, with one step more
pub left_more : (branch i : ℕ) (ways : List OwnWay) (j : ℕ) (w : OwnWay) → j < length ways → w ≡ get_or ways j w → (left : List Left) (one : Left)
    → left_number i one ≡ number_at branch i (way_at w)
    → map (left_number i) (left ++ one ∷ []) ++ numbers_of branch i (drop (j + 1) ways) ≡ map (left_number i) left ++ numbers_of branch i (drop j ways)
left_more branch i ways j w inside is left one same =
    ap (λ (z : List ℕ). z ++ numbers_of branch i (drop (j + 1) ways)) (map-append (left_number i) left (one ∷ []))
    ∙ (append_assoc (map (left_number i) left) (left_number i one ∷ []) (numbers_of branch i (drop (j + 1) ways))
    ∙ (ap (λ (z : ℕ). map (left_number i) left ++ z ∷ numbers_of branch i (drop (j + 1) ways)) same
    ∙ ap (λ (z : List OwnWay). map (left_number i) left ++ numbers_of branch i z) (sym (left_of ways j w inside is))))

-- what an extended key leads to: without a node of its own nothing, and else what its steps do
module _ (branch : ℕ) (key : Extended) (ways : List OwnWay) where
  abbrev at_index : (i : ℕ) → Option TheNode → Option Key
  at_index i found = option_map (λ node. compressed node.point) (option_and_then (descendant (numbers_of branch i ways)) found)

  pub no_node : None ≡ node_of key → (i : ℕ) → None ≡ key_at branch i (the.extended key (map way_at ways))
  no_node none i = ap (at_index i) none

  pub no_step_of : (first : TheNode) → Some first ≡ node_of key → ((i : ℕ) → None ≡ descendant (numbers_of branch i ways) first) → (i : ℕ)
      → None ≡ key_at branch i (the.extended key (map way_at ways))
  no_step_of first is none i = ap (option_map (λ node. compressed node.point)) (none i) ∙ ap (at_index i) is

  pub key_behind : (first node : TheNode) (rest : List OwnWay) (left : List Left) → Some first ≡ node_of key
      → ((i : ℕ) → descendant (numbers_of branch i rest) node ≡ descendant (numbers_of branch i ways) first)
      → ((i : ℕ) → map (left_number i) left ≡ numbers_of branch i rest) → (i : ℕ)
      → option_map (λ last. compressed last.point) (descendant (map (left_number i) left) node) ≡ key_at branch i (the.extended key (map way_at ways))
  key_behind first node rest left is path same i =
      ap (option_map (λ (last : TheNode). compressed last.point)) (ap (λ (z : List ℕ). descendant z node) (same i) ∙ path i) ∙ ap (at_index i) is

-- ---- one expression after another

one_more : (branch : ℕ) (es more : List Expression) (ss rest : List Start) → AreStarts branch es ss → AreStarts branch more rest
    → AreStarts branch (es ++ more) (ss ++ rest)
one_more branch [] more [] rest h k = k
one_more branch [] more (s ∷ ss) rest h k = absurd h
one_more branch (e ∷ es) more [] rest h k = absurd h
one_more branch (e ∷ es) more (s ∷ ss) rest h k = (h.0, h.1, one_more branch es more ss rest h.2 k)

none_before : (branch : ℕ) (ss rest : List Start) (more : List Expression) → AreStarts branch [] ss → AreStarts branch more rest → AreStarts branch more (ss ++ rest)
none_before branch [] rest more h k = k
none_before branch (s ∷ ss) rest more h k = absurd h

piece_more : (branch : ℕ) (p : Piece) (ps : List Piece) (ss rest : List Start) → AreStarts branch (expressions_in (p ∷ [])) ss
    → AreStarts branch (expressions_in ps) rest → AreStarts branch (expressions_in (p ∷ ps)) (ss ++ rest)
piece_more branch (piece.Plain at end) ps ss rest h k = none_before branch ss rest (expressions_in ps) h k
piece_more branch (piece.Key expression) ps ss rest h k = one_more branch (expression_at expression.value ∷ []) (expressions_in ps) ss rest h k

-- how far the starts of pieces were found: those before, and those of the pieces that are left
pub record Begun (branch : ℕ) (pieces left : List Piece) (before now : List Start) : Type 0 where
  pub got : List Start
  pub added : now ≡ before ++ got
  pub whole : (rest : List Start) → AreStarts branch (expressions_in left) rest → AreStarts branch (expressions_in pieces) (got ++ rest)

pub begun_first : (branch : ℕ) (pieces : List Piece) (before : List Start) → Begun branch pieces pieces before before
begun_first branch pieces before = record { got = []; added = sym (append-nil before); whole = λ rest h. h }

module _ {branch : ℕ} {pieces left : List Piece} {before now : List Start} (begun : Begun branch pieces left before now) where
  pub begun_end : left ≡ [] → (ss : List Start) × AreStarts branch (expressions_in pieces) ss × (now ≡ before ++ ss)
  begun_end e = (
    begun.got,
    subst (AreStarts branch (expressions_in pieces)) (append-nil begun.got)
        (begun.whole [] (subst (λ (z : List Piece). AreStarts branch (expressions_in z) []) (sym e) tt)),
    begun.added,
  )

  pub begun_more : (p : Piece) (rest : List Piece) → left ≡ p ∷ rest → (after : List Start)
      → (ss : List Start) × AreStarts branch (expressions_in (p ∷ [])) ss × (after ≡ now ++ ss) → Begun branch pieces rest before after
  begun_more p rest first after found = record {
    got = begun.got ++ found.0;
    added = found.2 ∙ (ap (λ (z : List Start). z ++ found.0) begun.added ∙ append_assoc before begun.got found.0);
    whole = λ more h.
        subst (AreStarts branch (expressions_in pieces)) (sym (append_assoc begun.got found.0 more))
        (begun.whole (found.0 ++ more)
        (subst (λ (z : List Piece). AreStarts branch (expressions_in z) (found.0 ++ more)) (sym first) (piece_more branch p rest found.0 more found.1 h)));
  }

-- ---- the keys of starts

pub starts_keys : (branch i : ℕ) (es : List Expression) (ss : List Start) → AreStarts branch es ss → start_keys i ss ≡ keys_at branch i es
starts_keys branch i [] [] h = refl
starts_keys branch i [] (s ∷ ss) h = absurd h
starts_keys branch i (e ∷ es) [] h = absurd h
starts_keys branch i (e ∷ es) (s ∷ ss) h =
    ap (λ (z : ℕ). with_key z (start_key i s.reached) (start_keys i ss)) h.0
    ∙ (ap (λ (z : Option Key). with_key e.at z (start_keys i ss)) (h.1.key i)
    ∙ ap (with_key e.at (key_at branch i e.named)) (starts_keys branch i es ss h.2))

pub starts_safe : (branch : ℕ) (es : List Expression) (ss : List Start) → AreStarts branch es ss → All StartsSafe ss
starts_safe branch [] [] h = All-nil StartsSafe
starts_safe branch [] (s ∷ ss) h = absurd h
starts_safe branch (e ∷ es) [] h = absurd h
starts_safe branch (e ∷ es) (s ∷ ss) h = All-cons StartsSafe s ss h.1.safe (starts_safe branch es ss h.2)

-- with keys before those that are found
abbrev pub behind_keys : List Key → Result (List Key) ℕ → Result (List Key) ℕ
behind_keys got (Ok keys) = Ok (got ++ keys)
behind_keys got (Err at) = Err at

behind_none : (r : Result (List Key) ℕ) → behind_keys [] r ≡ r
behind_none (Ok keys) = refl
behind_none (Err at) = refl

behind_one : (got : List Key) (at : ℕ) (key : Key) (r : Result (List Key) ℕ) → behind_keys got (with_key at (Some key) r) ≡ behind_keys (got ++ key ∷ []) r
behind_one got at key (Ok keys) = ap Ok (sym (append_assoc got (key ∷ []) keys))
behind_one got at key (Err later) = refl

-- what is left of the starts, before which these keys were found
pub record Goes (i : ℕ) (starts left : List Start) (keys : List Key) : Type 0 where
  pub whole : start_keys i starts ≡ behind_keys keys (start_keys i left)
  pub safe : All StartsSafe left

pub goes_first : (i : ℕ) (starts : List Start) → All StartsSafe starts → Goes i starts starts []
goes_first i starts safe = record { whole = sym (behind_none (start_keys i starts)); safe = safe }

module _ {i : ℕ} {starts left : List Start} {keys : List Key} (goes : Goes i starts left keys) where
  pub goes_end : left ≡ [] → start_keys i starts ≡ Ok keys
  goes_end e = goes.whole ∙ (ap (λ (z : List Start). behind_keys keys (start_keys i z)) e ∙ ap (λ (z : List Key). Ok z) (append-nil keys))

  module _ (s : Start) (rest : List Start) (first : left ≡ s ∷ rest) where
    there : start_keys i starts ≡ behind_keys keys (with_key s.at (start_key i s.reached) (start_keys i rest))
    there = goes.whole ∙ ap (λ (z : List Start). behind_keys keys (start_keys i z)) first

    all_safe : All StartsSafe (s ∷ rest)
    all_safe = subst (All StartsSafe) first goes.safe

    pub next_safe : StartsSafe s
    next_safe = All-head StartsSafe s rest all_safe

    pub goes_more : (key : Key) → Some key ≡ start_key i s.reached → Goes i starts rest (keys ++ key ∷ [])
    goes_more key is = record {
      whole =
          there
          ∙ (ap (λ (z : Option Key). behind_keys keys (with_key s.at z (start_keys i rest))) (sym is)
          ∙ behind_one keys s.at key (start_keys i rest));
      safe = All-tail StartsSafe s rest all_safe;
    }

    pub goes_wrong : None ≡ start_key i s.reached → start_keys i starts ≡ Err s.at
    goes_wrong is = there ∙ ap (λ (z : Option Key). behind_keys keys (with_key s.at z (start_keys i rest))) (sym is)
