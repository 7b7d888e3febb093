-- What is known at a place.
use Rattle.std.proofs.Common.{◌≡◌, ℕ, zero, suc, ◌+◌, ◌/◌, ◌%◌, Bool, true, false, List, [], ◌∷◌, refl, ap, ◌∙◌, sym, subst, arith, Option, Some, None, Result, Ok, Err}
use Rattle.std.specs.Prelude.{slice_get, if◌then◌else◌}
use Rattle.std.specs.Str.{bytes_eq}
use Rattle.def_script.specs.Bytes.{Bytes}
use Rattle.def_tree.specs.Tree.{Key, Tree}
use Rattle.def_text.proofs.Complete.{one_tree}
use Rattle.def_emit.specs.Emit.{script_of}
use Rattle.def_sane.specs.declared.Unfit.{Unfit}
use Rattle.def_sane.specs.Unfit.{first_unfit}
use Rattle.def_address.specs.declared.Network.{Network}
use Rattle.def_descriptor.specs.Expression.{Origin, Expression}
use Rattle.def_descriptor.specs.Parts.{Body, miniscript, sorted, single}
use Rattle.def_descriptor.specs.Gives.{expressions_of, HasTree, key_program, tree_program, output_of}
use Rattle.def_descriptor.specs.Answer.{Descriptor}
use Rattle.def_update.specs.Known.{Known, known_by}
use Rattle.def_descriptor_answer.specs.Places.{Place, of_key, of_tree, nothing, judged, IsTreeOf, IsWithKeys, IsByKeys}
use Rattle.def_descriptor_answer.specs.Update.{known_at, known_before, KnowsFrom, with_origins}
use Rattle.ms_outputs.specs.declared.given.Given.{Given}
use Rattle.ms_outputs.specs.declared.given.GivenFault.TheVariants.{NoKey}
use Rattle.ms_outputs.specs.Given.{IsProgram, IsGiven, IsNotGiven}
use Rattle.ms_descriptor_update.specs.Book.{first_place}
use Rattle.ms_descriptor_update.specs.Scaffolding.Steps.{IsKnownOf, KnowsOne}

-- ---- the first output with a script

pub record IsFirst (script : Bytes) (from at : ℕ) (known : List Known) : Type 0 where
  pub one : Known
  pub number : ℕ
  pub is : at ≡ from + number
  pub by : known_by known script ≡ Some one
  pub there : slice_get known number ≡ Some one

inside : (a b : ℕ) → Some a ≡ Some b → a ≡ b
inside a b e = cc

some_none : (n : ℕ) → Some n ≡ None → ⊥
some_none n h = cc

first_of : (script : Bytes) (from at : ℕ) (one : Known) (rest : List Known) (b : Bool) → bytes_eq script one.output ≡ b
    → (if b then Some from else first_place script (from + 1) rest) ≡ Some at
    → (first_place script (from + 1) rest ≡ Some at → IsFirst script (from + 1) at rest) → IsFirst script from at (one ∷ rest)
first_of script from at one rest true is e later = record {
  one = one;
  number = 0;
  is = omega (arith, inside from at e);
  by = ap (λ (b : Bool). if b then Some one else known_by rest script) is;
  there = refl;
}
first_of script from at one rest false isnt e later =
    let found = later e in
    record {
      one = found.one;
      number = suc found.number;
      is = omega (arith, found.is);
      by = ap (λ (b : Bool). if b then Some one else known_by rest script) isnt ∙ found.by;
      there = found.there;
    }

pub first_found : (script : Bytes) (from at : ℕ) (known : List Known) → first_place script from known ≡ Some at → IsFirst script from at known
first_found script from at [] e = absurd cc
first_found script from at (one ∷ rest) e =
    first_of script from at one rest (bytes_eq script one.output) refl e (λ h. first_found script (from + 1) at rest h)

none_of : (script : Bytes) (from : ℕ) (one : Known) (rest : List Known) (b : Bool) → bytes_eq script one.output ≡ b
    → (if b then Some from else first_place script (from + 1) rest) ≡ None
    → (first_place script (from + 1) rest ≡ None → known_by rest script ≡ None) → known_by (one ∷ rest) script ≡ None
none_of script from one rest true is e later = absurd (some_none from e)
none_of script from one rest false isnt e later = ap (λ (b : Bool). if b then Some one else known_by rest script) isnt ∙ later e

pub none_found : (script : Bytes) (from : ℕ) (known : List Known) → first_place script from known ≡ None → known_by known script ≡ None
none_found script from [] e = refl
none_found script from (one ∷ rest) e = none_of script from one rest (bytes_eq script one.output) refl e (λ h. none_found script (from + 1) rest h)

-- ---- what is known at a number

module _ (d : Descriptor) (of_branch : ℕ) where
  -- the first of what is known from a place on, and what is known behind it
  record Parts (place : ℕ) (count : ℕ) (known : List Known) : Type 0 where
    pub one : Known
    pub rest : List Known
    pub is : known ≡ one ∷ rest
    pub knows : KnowsOne d (place / of_branch) (place % of_branch) one
    pub later : KnowsFrom d of_branch count (place + 1) (Ok rest)

  abbrev Listed : Type 0
  Listed = Result (List Known) Bytes

  abbrev all : List Known → Listed
  all known = Ok known

  abbrev wrong_line : Bytes → Listed
  wrong_line line = Err line

  inside_all : (a b : List Known) → all a ≡ all b → a ≡ b
  inside_all a b e = cc

  not_wrong : (known : List Known) (line : Bytes) → all known ≡ wrong_line line → ⊥
  not_wrong known line e = cc

  split : (one : Known) (known : List Known) (later : Listed) → all known ≡ known_before one later → (rest : List Known) × (later ≡ all rest) × (known ≡ one ∷ rest)
  split one known (Ok rest) e = (rest, refl, inside_all known (one ∷ rest) e)
  split one known (Err line) e = absurd (not_wrong known line e)

  parts : (place count : ℕ) (known : List Known) → KnowsFrom d of_branch (suc count) place (Ok known) → Parts place count known
  parts place count known (of_key key, at, (later, h, e)) =
      let one = known_at d (place / of_branch) (place % of_branch) (key_program key) None (key ∷ []) in
      let cut = split one known later e in
      record {
        one = one;
        rest = cut.0;
        is = cut.2;
        knows = (of_key key, at, refl);
        later = subst (KnowsFrom d of_branch count (place + 1)) cut.1 h;
      }
  parts place count known (of_tree keys tree, at, (later, h, e)) =
      let one = known_at d (place / of_branch) (place % of_branch) (tree_program tree) (Some (script_of tree)) keys in
      let cut = split one known later e in
      record {
        one = one;
        rest = cut.0;
        is = cut.2;
        knows = (of_tree keys tree, at, refl);
        later = subst (KnowsFrom d of_branch count (place + 1)) cut.1 h;
      }
  parts place count known (nothing reason, at, e) = absurd (not_wrong known _ e)

  none : (known : List Known) → all known ≡ all [] → known ≡ []
  none known e = inside_all known [] e

  nothing_there : (number : ℕ) (one : Known) → slice_get [] number ≡ Some one → ⊥
  nothing_there number one h = cc

  same_one : (a b : Known) → Some a ≡ Some b → a ≡ b
  same_one a b e = cc

  at_number : (place count : ℕ) (known : List Known) (cut : Parts place count known) (one : Known)
      → ((n : ℕ) → slice_get cut.rest n ≡ Some one → KnowsOne d (((place + 1) + n) / of_branch) (((place + 1) + n) % of_branch) one)
      → (number : ℕ) → slice_get (cut.one ∷ cut.rest) number ≡ Some one → KnowsOne d ((place + number) / of_branch) ((place + number) % of_branch) one
  at_number place count known cut one later zero here =
      subst (λ (z : ℕ). KnowsOne d (z / of_branch) (z % of_branch) one) (omega arith)
      (subst (KnowsOne d (place / of_branch) (place % of_branch)) (same_one cut.one one here) cut.knows)
  at_number place count known cut one later (suc n) there = subst (λ (z : ℕ). KnowsOne d (z / of_branch) (z % of_branch) one) (omega arith) (later n there)

  pub known_there : (count place number : ℕ) (known : List Known) (one : Known) → KnowsFrom d of_branch count place (Ok known) → slice_get known number ≡ Some one
      → KnowsOne d ((place + number) / of_branch) ((place + number) % of_branch) one
  known_there zero place number known one h e = absurd (nothing_there number one (sym (ap (λ (z : List Known). slice_get z number) (none known h)) ∙ e))
  known_there (suc count) place number known one h e =
      let cut = parts place count known h in
      at_number place count known cut one (λ n there. known_there count (place + 1) n cut.rest one cut.later there) number
      (subst (λ (z : List Known). slice_get z number ≡ Some one) cut.is e)

-- ---- what is given

module _ (d : Descriptor) (branch index : ℕ) where
  -- a tree of the same text is the same tree
  by_tree : (body : Body) (keys : List Key) (place : Place) (one : Known) (script : Option Bytes) (program : Bytes) (tree : Tree) (offsets : List ℕ)
      → HasTree body keys tree offsets → script ≡ Some (script_of tree) → program ≡ tree_program tree
      → IsTreeOf body keys place → IsKnownOf d branch index place one → known_at d branch index program script keys ≡ one
  by_tree body keys place one script program tree offsets has s p (other, places, (own, reads, is), e) h =
      let same : tree ≡ other = (one_tree has.1.spelled reads.spelled).0 in
      go (first_unfit other) refl same
    where
      go : (o : Option Unfit) → first_unfit other ≡ o → tree ≡ other → known_at d branch index program script keys ≡ one
      go None sane same =
          let place_is : place ≡ of_tree keys other = e ∙ ap (judged keys other places) sane in
          let known : one ≡ known_at d branch index (tree_program other) (Some (script_of other)) keys = subst (λ (z : Place). IsKnownOf d branch index z one) place_is h in
          ap (λ (z : Bytes). known_at d branch index z script keys) p
          ∙ (ap (λ (z : Option Bytes). known_at d branch index (tree_program tree) z keys) s
          ∙ (ap (λ (z : Tree). known_at d branch index (tree_program z) (Some (script_of z)) keys) same ∙ sym known))
      go (Some why) unfit same = absurd (subst (λ (z : Place). IsKnownOf d branch index z one) (e ∙ ap (judged keys other places) unfit) h)

  by_key : (key : Key) (keys : List Key) (place : Place) (one : Known) (script : Option Bytes) (program : Bytes) → keys ≡ key ∷ [] → script ≡ None → program ≡ key_program key
      → ((other : Key) × (keys ≡ other ∷ []) × (place ≡ of_key other)) → IsKnownOf d branch index place one → known_at d branch index program script keys ≡ one
  by_key key keys place one script program k s p (other, also, is) h =
      let same : key ≡ other = first key other (sym k ∙ also) in
      let known : one ≡ known_at d branch index (key_program other) None (other ∷ []) = subst (λ (z : Place). IsKnownOf d branch index z one) is h in
      ap (λ (z : Bytes). known_at d branch index z script keys) p
      ∙ (ap (λ (z : Option Bytes). known_at d branch index (key_program key) z keys) s
      ∙ (ap (known_at d branch index (key_program key) None) k
      ∙ (ap (λ (z : Key). known_at d branch index (key_program z) None (z ∷ [])) same ∙ sym known)))
    where
      first : (a b : Key) → a ∷ [] ≡ b ∷ [] → a ≡ b
      first a b e = cc

  by_body : (body : Body) (keys : List Key) (place : Place) (one : Known) (script : Option Bytes) (program : Bytes) → IsProgram body keys script program
      → IsWithKeys body keys place → IsKnownOf d branch index place one → known_at d branch index program script keys ≡ one
  by_body (miniscript ps) keys place one script program (tree, offsets, has, s, p) at h = by_tree (miniscript ps) keys place one script program tree offsets has s p at h
  by_body (sorted ps) keys place one script program (tree, offsets, has, s, p) at h = by_tree (sorted ps) keys place one script program tree offsets has s p at h
  by_body (single expression) keys place one script program (key, k, s, p) at h = by_key key keys place one script program k s p at h

  pub given_is : (network : Option Network) (given : Given) (one : Known) → IsGiven d.body d.under network branch index given → KnowsOne d branch index one
      → known_at d branch index given.program.items given.script given.keys.items ≡ one
  given_is network given one g (place, at, h) =
      by_body d.body given.keys.items place one given.script given.program.items g.program
      (subst (λ (z : Result (List Key) ℕ). IsByKeys d.body z place) g.keys at) h

  pub is_given : (at : ℕ) (one : Known) → IsNotGiven d.body branch index (NoKey at) → KnowsOne d branch index one → ⊥
  is_given at one e (place, by, h) =
      let none = subst (λ (z : Result (List Key) ℕ). IsByKeys d.body z place) e by in
      absurd (subst (λ (z : Place). IsKnownOf d branch index z one) none h)

-- ---- what is made

abbrev made : (output : Bytes) (redeem witness : Option Bytes) (all : List (Key × Origin)) → Known
made output redeem witness all = record { output = output; redeem = redeem; witness = witness; keys = all }

pub known_made : (d : Descriptor) (branch index : ℕ) (program : Bytes) (script : Option Bytes) (keys : List Key)
    (output : Bytes) (redeem witness : Option Bytes) (all : List (Key × Origin)) (expressions : List Expression)
    → output ≡ output_of d.under program → redeem ≡ (if d.under then Some program else None) → witness ≡ script
    → all ≡ with_origins branch index expressions keys → expressions_of d.body ≡ expressions
    → made output redeem witness all ≡ known_at d branch index program script keys
known_made d branch index program script keys output redeem witness all expressions o r w k e = rw (o, r, w, k, sym e) refl
