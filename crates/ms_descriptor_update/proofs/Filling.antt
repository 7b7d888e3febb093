-- Places are filled in one after another.
use Rattle.std.proofs.Common.{◌≡◌, ℕ, suc, ◌+◌, ◌-◌, ◌/◌, ◌%◌, ◌<◌, ◌≤◌, Bool, true, false, List, [], ◌∷◌, ◌++◌, length, append-nil, append_assoc, refl, ap, ◌∙◌, sym, subst, arith, Option, Some, None, Result, Ok, Err}
use Rattle.std.specs.Prelude.{if◌then◌else◌}
use Rattle.std.specs.Option.{option_or}
use Rattle.std.specs.Str.{bytes_eq}
use Rattle.std.specs.declared.vec.Vec.{Vec}
use Rattle.std.specs.declared.alloc.Global.{Global}
use Rattle.def_script.specs.Bytes.{Bytes}
use Rattle.def_emit.specs.Emit.{script_of}
use Rattle.def_descriptor.specs.Gives.{key_program, tree_program}
use Rattle.def_descriptor.specs.Answer.{Descriptor}
use Rattle.def_update.specs.Known.{Known}
use Rattle.def_descriptor_answer.specs.Places.{Reason, Place, of_key, of_tree, nothing}
use Rattle.def_descriptor_answer.specs.Lines.{reason_line, place_refused_line}
use Rattle.def_descriptor_answer.specs.Update.{known_at, known_before, KnowsPlace, KnowsFrom}
use Rattle.ms_outputs.specs.declared.given.Given.{Given}
use Rattle.ms_descriptor_replies.specs.declared.judging.Place.TheVariants as own
use Rattle.ms_descriptor_replies.specs.declared.measures.Measures.{Measures}
use Rattle.ms_descriptor_replies.specs.Scaffolding.Steps.{Finds}
use Rattle.ms_descriptor_update.specs.Book.{Places, place_of, first_place}
use Rattle.ms_descriptor_update.specs.Scaffolding.Steps.{IsKnownOf, PutsPlace, known_behind, IsFilled}

-- ---- a place that is found

module _ (d : Descriptor) (count place : ℕ) (before after : Places) where
  abbrev Puts : Bytes → Type 0
  Puts output = (script : Bytes) → place_of script after ≡ option_or (place_of script before) (if bytes_eq script output then Some place else None)

  with_output : (one : Known) (output : Bytes) → output ≡ one.output → Puts output → Puts one.output
  with_output one output e h = subst Puts e h

  pub puts_key : (given : Given) → Finds None d (place / count) (place % count) (own.Key given) → Puts given.output.items → PutsPlace d count place before after None
  puts_key given (of_key key, at, found) puts =
      let one = known_at d (place / count) (place % count) (key_program key) None (key ∷ []) in (one, (of_key key, at, refl), with_output one given.output.items found.output puts)
  puts_key given (of_tree keys tree, at, found) puts = absurd found
  puts_key given (nothing reason, at, found) puts = absurd found

  pub puts_tree : (given : Given) (measures : Measures) → Finds None d (place / count) (place % count) (own.Tree given measures) → Puts given.output.items
      → PutsPlace d count place before after None
  puts_tree given measures (of_key key, at, found) puts = absurd found
  puts_tree given measures (of_tree keys tree, at, found) puts =
      let one = known_at d (place / count) (place % count) (tree_program tree) (Some (script_of tree)) keys in
      (one, (of_tree keys tree, at, refl), with_output one given.output.items found.0.output puts)
  puts_tree given measures (nothing reason, at, found) puts = absurd found

  pub puts_none : (reason : Vec ℕ Global) → Finds None d (place / count) (place % count) (own.Nothing reason) → PutsPlace d count place before after (Some reason)
  puts_none reason (of_key key, at, found) = absurd found
  puts_none reason (of_tree keys tree, at, found) = absurd found
  puts_none reason (nothing why, at, found) = (why, at, found)

-- ---- the first place of a script, with one output more

behind_one : (script : Bytes) (from : ℕ) (first one : Known) (rest : List Known) (b : Bool)
    → first_place script (from + 1) (rest ++ one ∷ [])
    ≡ option_or (first_place script (from + 1) rest) (if bytes_eq script one.output then Some ((from + 1) + length rest) else None)
    → (if b then Some from else first_place script (from + 1) (rest ++ one ∷ []))
    ≡ option_or (if b then Some from else first_place script (from + 1) rest) (if bytes_eq script one.output then Some (from + length (first ∷ rest)) else None)
behind_one script from first one rest true later = refl
behind_one script from first one rest false later =
    later ∙ ap (λ (n : ℕ). option_or (first_place script (from + 1) rest) (if bytes_eq script one.output then Some n else None)) (omega arith)

first_behind : (script : Bytes) (from : ℕ) (known : List Known) (one : Known)
    → first_place script from (known ++ one ∷ []) ≡ option_or (first_place script from known) (if bytes_eq script one.output then Some (from + length known) else None)
first_behind script from [] one = ap (λ (n : ℕ). if bytes_eq script one.output then Some n else None) (omega arith)
first_behind script from (first ∷ rest) one = behind_one script from first one rest (bytes_eq script first.output) (first_behind script (from + 1) rest one)

-- ---- all places

twice : (known : List Known) (one : Known) (later : Result (List Known) Bytes) → known_behind known (known_before one later) ≡ known_behind (known ++ one ∷ []) later
twice known one (Ok later) = ap Ok (sym (append_assoc known (one ∷ []) later))
twice known one (Err line) = refl

module _ (d : Descriptor) (count total : ℕ) where
  pub fills_first : (places : Places) → ((script : Bytes) → place_of script places ≡ None) → IsFilled d count total 0 places
  fills_first places empty = record {
    known = [];
    long = refl;
    goes = λ later h. subst (KnowsFrom d count total 0) (nothing_before later) (subst (λ (n : ℕ). KnowsFrom d count n 0 later) all h);
    found = empty;
  }
    where
      all : total - 0 ≡ total
      all = omega arith

      nothing_before : (later : Result (List Known) Bytes) → later ≡ known_behind [] later
      nothing_before (Ok later) = refl
      nothing_before (Err line) = refl

  module _ (number : ℕ) (inside : number < total) (before : Places) (filled : IsFilled d count total number before) where
    go_on : (r : Result (List Known) Bytes) → KnowsFrom d count (suc (total - (number + 1))) number r → KnowsFrom d count total 0 (known_behind filled.known r)
    go_on r h =
        let more : suc (total - (number + 1)) ≡ total - number = omega arith in
        filled.goes r (subst (λ (n : ℕ). KnowsFrom d count n number r) more h)

    -- with what is known of a place before
    behind : (place : Place) (one : Known) (later : Result (List Known) Bytes) → IsKnownOf d (number / count) (number % count) place one
        → KnowsFrom d count (total - (number + 1)) (number + 1) later
        → KnowsPlace d (number / count) (number % count) place (KnowsFrom d count (total - (number + 1)) (number + 1)) (known_before one later)
    behind (of_key key) one later e h = (later, h, ap (λ (z : Known). known_before z later) e)
    behind (of_tree keys tree) one later e h = (later, h, ap (λ (z : Known). known_before z later) e)
    behind (nothing reason) one later e h = absurd e

    pub fills_next : (after : Places) → PutsPlace d count number before after None → IsFilled d count total (number + 1) after
    fills_next after (one, (place, at, is), puts) = record {
      known = filled.known ++ one ∷ [];
      long = long_behind filled.known ∙ ap (λ (n : ℕ). n + 1) filled.long;
      goes = λ later h. subst (KnowsFrom d count total 0) (twice filled.known one later) (go_on (known_before one later) (place, at, behind place one later is h));
      found = λ script.
          puts script
          ∙ (ap (λ (z : Option ℕ). option_or z (if bytes_eq script one.output then Some number else None)) (filled.found script)
          ∙ (ap (λ (n : ℕ). option_or (first_place script 0 filled.known) (if bytes_eq script one.output then Some n else None)) (omega (arith, filled.long))
          ∙ sym (first_behind script 0 filled.known one)));
    }
      where
        long_behind : (known : List Known) → length (known ++ one ∷ []) ≡ length known + 1
        long_behind [] = refl
        long_behind (first ∷ rest) = omega (arith, long_behind rest)

    pub fills_wrong : (after : Places) (reason : Vec ℕ Global) → PutsPlace d count number before after (Some reason)
        → (why : Reason) × (reason.items ≡ reason_line why) × KnowsFrom d count total 0 (Err (place_refused_line (number / count) (number % count) why))
    fills_wrong after reason (why, at, is) = (why, is, go_on (Err (place_refused_line (number / count) (number % count) why)) (nothing why, at, refl))

  pub fills_last : (number : ℕ) (places : Places) → total ≤ number → (filled : IsFilled d count total number places) → KnowsFrom d count total 0 (Ok filled.known)
  fills_last number places past filled =
      let none : 0 ≡ total - number = omega arith in
      subst (λ (z : List Known). KnowsFrom d count total 0 (Ok z)) (append-nil filled.known) (filled.goes (Ok []) (subst (λ (n : ℕ). KnowsFrom d count n number (Ok [])) none refl))
