-- What there is at a branch and an index, by what is given.
use Rattle.std.proofs.Common.{◌≡◌, ℕ, ◌≤◌, List, [], ◌∷◌, ◌++◌, length, map, codes, ap, ◌∙◌, sym, subst, refl, Option, Some, None, Result, Ok, Err}
use Rattle.std.specs.Prelude.{unwrap_or}
use Rattle.std.specs.declared.vec.Vec.{Vec}
use Rattle.std.specs.declared.alloc.Global.{Global}
use Rattle.def_script.specs.Bytes.{Bytes}
use Rattle.def_tree.specs.Tree.{Key, Tree}
use Rattle.def_text.specs.Refusal.{MOST_BYTES, TextReads}
use Rattle.def_text.proofs.Complete.{one_tree}
use Rattle.def_emit.specs.Emit.{script_of}
use Rattle.def_sane.specs.declared.Unfit.{Unfit}
use Rattle.def_sane.specs.Unfit.{first_unfit}
use Rattle.def_answer.specs.Lines.{line, script_line}
use Rattle.def_address.specs.declared.Network.{Network}
use Rattle.def_descriptor.specs.Expression.{Expression}
use Rattle.def_descriptor.specs.Pieces.{Piece, place_of}
use Rattle.def_descriptor.specs.Parts.{Body, miniscript, sorted, single}
use Rattle.def_descriptor.specs.Gives.{expressions_of, keys_at, pieces_in, text_of, HasTree, key_program, tree_program, output_of, address_at}
use Rattle.def_descriptor.specs.declared.DescriptorFault.{DescriptorFault}
use Rattle.def_descriptor.specs.Answer.{Descriptor, Answers, too_long, wrong_parts, wrong_miniscript, right_parts}
use Rattle.def_descriptor_answer.specs.Places.{Place, of_key, of_tree, nothing, no_key, unfit, judged, IsTreeOf, IsWithKeys, IsByKeys, IsAt}
use Rattle.def_descriptor_answer.specs.Lines.{condition_lines}
use Rattle.ms_descriptor.specs.declared.parts.Body.{Body as OwnBody}
use Rattle.ms_descriptor.specs.declared.parts.Body.TheVariants as body
use Rattle.ms_descriptor.specs.declared.expression.Expression.{Expression as OwnExpression}
use Rattle.ms_descriptor.specs.Bodies.{body_at}
use Rattle.ms_outputs.specs.declared.given.Given.{Given}
use Rattle.ms_key_laws.specs.Laws.{HasSomeTree}
use Rattle.ms_outputs.specs.Given.{IsProgram, IsScripted, IsGiven}
use Rattle.ms_outputs.proofs.Together.{scripted}
use Rattle.ms_descriptor_replies.specs.declared.judging.Place.{Place as Own}
use Rattle.ms_descriptor_replies.specs.declared.judging.Place.TheVariants as own
use Rattle.ms_descriptor_replies.specs.declared.judging.Judgement.TheVariants as judgement
use Rattle.ms_descriptor_replies.specs.declared.measures.Measures.{Measures}
use Rattle.ms_descriptor_replies.specs.Found.{condition_of, IsOutput, IsMeasured, IsFound}
use Rattle.ms_descriptor_replies.specs.Scaffolding.Steps.{HasTree as TextHasTree, TellsOf, Finds}

-- ---- the body of a miniscript

abbrev IsSingle : Body → Type 0
IsSingle body = (expression : Expression) × (body ≡ single expression)

abbrev IsTree : Body → List Key → (script : Option Bytes) → (program : Bytes) → Type 0
IsTree body keys script program =
    (tree : Tree) × (offsets : List ℕ) × HasTree body keys tree offsets × (script ≡ Some (script_of tree)) × (program ≡ tree_program tree)

of_program : (body : Body) (keys : List Key) (script : Option Bytes) (program : Bytes) → ¬ IsSingle body → IsProgram body keys script program
    → IsTree body keys script program
of_program (miniscript ps) keys script program other h = h
of_program (sorted ps) keys script program other h = h
of_program (single expression) keys script program other h = absurd (other (expression, refl))

with_keys : (body : Body) (keys : List Key) (place : Place) → ¬ IsSingle body → IsTreeOf body keys place → IsWithKeys body keys place
with_keys (miniscript ps) keys place other h = h
with_keys (sorted ps) keys place other h = h
with_keys (single expression) keys place other h = absurd (other (expression, refl))

at_keys : (body : Body) (branch index : ℕ) (keys : List Key) (place : Place) → keys_at branch index (expressions_of body) ≡ Ok keys
    → IsWithKeys body keys place → IsAt body branch index place
at_keys body branch index keys place is h = subst (λ (z : Result (List Key) ℕ). IsByKeys body z place) (sym is) h

-- an expression without a key
pub finds_no_key : (network : Option Network) (d : Descriptor) (branch index at : ℕ) (reason : Own) → keys_at branch index (expressions_of d.body) ≡ Err at
    → IsFound network d (nothing (no_key at)) reason → Finds network d branch index reason
finds_no_key network d branch index at reason is found =
    (nothing (no_key at), subst (λ (z : Result (List Key) ℕ). IsByKeys d.body z (nothing (no_key at))) (sym is) refl, found)

-- ---- the tree of a text with keys

-- a text that has a tree with its keys has one
pub spelled_tree : (d : Descriptor) (keys : List Key) (text : Bytes) → text ≡ text_of d.body keys → ¬ IsSingle d.body → HasSomeTree d.body keys → TextHasTree text
spelled_tree d keys text t other h = by_body d.body keys text t other h
  where
    by_body : (body : Body) (keys : List Key) (text : Bytes) → text ≡ text_of body keys → ¬ IsSingle body → HasSomeTree body keys → TextHasTree text
    by_body (miniscript ps) keys text t other h = (h.0, h.2.0, subst (λ (z : Bytes). TextReads z h.0 h.2.0) (sym t) h.2.1)
    by_body (sorted ps) keys text t other h = (h.0, h.2.0, subst (λ (z : Bytes). TextReads z h.0 h.2.0) (sym t) h.2.1)
    by_body (single expression) keys text t other h = absurd (other (expression, refl))

module _ (network : Option Network) (d : Descriptor) (branch index : ℕ) (keys : List Key) (text : Bytes) (k : keys_at branch index (expressions_of d.body) ≡ Ok keys)
    (t : text ≡ text_of d.body keys) (other : ¬ IsSingle d.body) where
  module _ (tree : Tree) (offsets : List ℕ) (reads : TextReads text tree offsets) where
    abbrev places : List ℕ
    places = map (place_of 0 (pieces_in d.body)) offsets

    own_reads : TextReads (text_of d.body keys) tree offsets
    own_reads = subst (λ (z : Bytes). TextReads z tree offsets) t reads

    at_tree : (place : Place) → place ≡ judged keys tree places (first_unfit tree) → IsAt d.body branch index place
    at_tree place e = at_keys d.body branch index keys place k (with_keys d.body keys place other (tree, places, (offsets, own_reads, refl), e))

    finds_unfit : (reason : Own) (why : Unfit) → first_unfit tree ≡ Some why → IsFound network d (nothing (unfit places why)) reason
        → Finds network d branch index reason
    finds_unfit reason why some found =
        (nothing (unfit places why), at_tree (nothing (unfit places why)) (ap (judged keys tree places) (sym some)), found)

  pub finds_reason : (reason : Vec ℕ Global) → TellsOf text (pieces_in d.body) (judgement.Unfit reason) → Finds network d branch index (own.Nothing reason)
  finds_reason reason h = finds_unfit h.0 h.1 h.2 (own.Nothing reason) h.3.0 h.3.1 h.3.2

-- ---- what is given

module _ (network : Option Network) (d : Descriptor) (branch index : ℕ) (given : Given) (g : IsGiven d.body d.under network branch index given) where
  is_output : (program condition : Bytes) (keys : List Key) → given.program.items ≡ program → condition_of given.script given.text.items ≡ condition
      → given.keys.items ≡ keys → IsOutput network d program condition keys given
  is_output program condition keys p c k =
      let output : given.output.items ≡ output_of d.under program = g.output ∙ ap (output_of d.under) p in
      record {
        address = ap (λ (z : Option Bytes). unwrap_or z []) (ap (address_at network d.body) (sym output) ∙ g.address);
        output = output;
        program = p;
        condition = c;
        keys = k;
      }

  pub finds_key : (expression : Expression) → d.body ≡ single expression → Finds network d branch index (own.Key given)
  finds_key expression is =
      let program : IsProgram (single expression) given.keys.items given.script given.program.items =
      subst (λ (z : Body). IsProgram z given.keys.items given.script given.program.items) is g.program in
      let key = program.0 in
      let with : IsWithKeys d.body given.keys.items (of_key key) =
      subst (λ (z : Body). IsWithKeys z given.keys.items (of_key key)) (sym is) (key, program.1, refl) in (
        of_key key,
        at_keys d.body branch index given.keys.items (of_key key) g.keys with,
        is_output (key_program key) [] (key ∷ []) program.3 (ap (λ (z : Option Bytes). condition_of z given.text.items) program.2) program.1,
      )

  module _ (other : ¬ IsSingle d.body) where
    finds_sane : (tree : Tree) (offsets : List ℕ) (reads : TextReads given.text.items tree offsets) (measures : Measures) → first_unfit tree ≡ None
        → IsMeasured tree measures → Finds network d branch index (own.Tree given measures)
    finds_sane tree offsets reads measures none measured =
        let found = of_program d.body given.keys.items given.script given.program.items other g.program in
        let place = map (place_of 0 (pieces_in d.body)) offsets in
        let own_text = subst (λ (z : Bytes). TextReads z tree offsets) g.text reads in
        let same : found.0 ≡ tree = (one_tree found.2.1.spelled own_text.spelled).0 in
        let script : given.script ≡ Some (script_of tree) = found.3 ∙ ap (λ (z : Tree). Some (script_of z)) same in (
          of_tree given.keys.items tree,
          at_tree network d branch index given.keys.items given.text.items g.keys g.text other tree offsets reads (of_tree given.keys.items tree)
              (ap (judged given.keys.items tree place) (sym none)),
          (
            is_output (tree_program tree) (condition_lines d.body given.keys.items tree) given.keys.items (found.4 ∙ ap tree_program same)
                (ap (λ (z : Option Bytes). condition_of z given.text.items) script
                ∙ ap (λ (z : Bytes). script_line (script_of tree) ++ line (codes "text " ++ z)) g.text)
                refl,
            measured,
          ),
        )

    pub finds_tree : (measures : Measures) (script : Bytes) → TellsOf given.text.items (pieces_in d.body) (judgement.Sane measures script)
        → Finds network d branch index (own.Tree given measures)
    finds_tree measures script h = finds_sane h.0 h.1 h.2 measures h.3.0 h.3.1

-- a text that was judged sane has this Script
pub scripted_text : (text : Bytes) (found : OwnBody) (pieces : List Piece) (measures : Measures) (script : Bytes)
    → ((expression : OwnExpression) → found ≡ body.Single expression → ⊥) → TellsOf text pieces (judgement.Sane measures script) → IsScripted found text (Some script)
scripted_text text found pieces measures script other h =
    scripted text script found other (record { tree = h.0; offsets = h.1; reads = h.2; is = h.3.2 })

-- ---- the body in the code

pub not_single : (text : Bytes) (found : OwnBody) → ((expression : OwnExpression) → found ≡ body.Single expression → ⊥) → ¬ IsSingle (body_at text found)
not_single text (body.Miniscript pieces) h (expression, is) = absurd (cc)
not_single text (body.Sorted at pieces) h (expression, is) = absurd (cc)
not_single text (body.Single expression) h k = h expression refl

-- ---- texts of descriptors aren't too long

pub is_short : (text : Bytes) (r : Result Descriptor DescriptorFault) (d : Descriptor) → r ≡ Ok d → Answers text r → length text ≤ MOST_BYTES
is_short text r d is (too_long over) = absurd (cc)
is_short text r d is (wrong_parts short wrong) = short
is_short text r d is (wrong_miniscript why short read pieces refused) = short
is_short text r d is (right_parts short read is_read) = short
