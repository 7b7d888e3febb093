-- What is given at indices, one after another.
use Rattle.std.proofs.Common.{◌≡◌, ℕ, suc, ◌+◌, ◌-◌, ◌<◌, ◌≤◌, Bool, true, false, List, [], ◌∷◌, ◌++◌, codes, append-nil, append_assoc, ap, ◌∙◌, sym, subst, refl, arith, lt-ltb, le-ltb, le-leb, leb-true, ◌⊎◌, inl, inr, Option, Some, None, Result, Ok, Err}
use Rattle.std.specs.Prelude.{decimal, nat_le, nat_lt, not, ◌&&◌, if◌then◌else◌, unwrap_or}
use Rattle.std.specs.declared.vec.Vec.{Vec}
use Rattle.std.specs.declared.alloc.Global.{Global}
use Rattle.def_script.specs.Bytes.{Bytes}
use Rattle.def_tree.specs.Tree.{Key}
use Rattle.def_answer.specs.Lines.{line}
use Rattle.def_address.specs.declared.Network.{Network}
use Rattle.def_descriptor.specs.Expression.{Expression}
use Rattle.def_descriptor.specs.Gives.{expressions_of, key_program, tree_program, output_of, address_at, branch_count, is_ranged}
use Rattle.def_descriptor.specs.Answer.{Descriptor}
use Rattle.def_descriptor_answer.specs.declared.status.Status.TheVariants as status
use Rattle.def_descriptor_answer.specs.Words.{Derivation}
use Rattle.def_descriptor_answer.specs.Places.{Reason, Place, of_key, of_tree, nothing, IsAt}
use Rattle.def_descriptor_answer.specs.Lines.{output_lines, condition_lines, key_lines, index_lines, reason_line, place_refused_line, no_branch_line, not_ranged_line}
use Rattle.def_descriptor_answer.specs.Reply.{Reply, reply, followed, Lists, ListsPlace, bar_of, RepliesByBar, RepliesToDerive}
use Rattle.ms_outputs.specs.declared.given.Given.{Given}
use Rattle.ms_descriptor_replies.specs.declared.judging.Place.TheVariants as own
use Rattle.ms_descriptor_replies.specs.declared.measures.Measures.{Measures}
use Rattle.ms_descriptor_replies.specs.Found.{condition_of, IsOutput}
use Rattle.ms_descriptor_replies.specs.Scaffolding.Steps.{Finds, AddsIndex, RepliesByList}
use Rattle.ms_descriptor_replies.proofs.Joined.{four_texts}

-- ---- the lines of an index

pub given_lines : (network : Option Network) (branch : ℕ) (d : Descriptor) (index : ℕ) (program condition : Bytes) (keys : List Key) (given : Given)
    (expressions : List Expression) (address output own : Bytes) (all : List Key) (before first second third after : Bytes)
    → IsOutput network d program condition keys given → expressions_of d.body ≡ expressions
    → address ≡ given.address.items → output ≡ given.output.items → own ≡ given.program.items → all ≡ given.keys.items
    → first ≡ before ++ line (codes "index " ++ decimal index) → second ≡ first ++ output_lines address d.under output own
    → third ≡ second ++ condition_of given.script given.text.items → after ≡ third ++ key_lines branch index expressions all
    → after ≡ before ++ index_lines network branch d index program condition keys
given_lines network branch d index program condition keys given expressions address output own all before first second third after h es a o p k e1 e2 e3 e4 =
    let address_is : address ≡ unwrap_or (address_at network d.body (output_of d.under program)) [] = a ∙ sym h.address in
    let output_is : output ≡ output_of d.under program = o ∙ h.output in
    let program_is : own ≡ program = p ∙ h.program in
    let keys_are : all ≡ keys = k ∙ h.keys in
    let first_line = line (codes "index " ++ decimal index) in
    let script = output_of d.under program in
    let lines = λ (x y z c : Bytes). λ (ks : List Key). λ (es : List Expression).
    before ++ (first_line ++ (output_lines x d.under y z ++ (c ++ key_lines branch index es ks))) in
    let known = unwrap_or (address_at network d.body script) [] in
    let own_condition = condition_of given.script given.text.items in
    four_texts before first_line (output_lines address d.under output own) own_condition (key_lines branch index expressions all) first second third after e1 e2 e3 e4
    ∙ (ap (λ (z : Bytes). lines z output own own_condition all expressions) address_is
    ∙ (ap (λ (z : Bytes). lines known z own own_condition all expressions) output_is
    ∙ (ap (λ (z : Bytes). lines known script z own_condition all expressions) program_is
    ∙ (ap (λ (z : Bytes). lines known script program z all expressions) h.condition
    ∙ (ap (λ (z : List Key). lines known script program condition z expressions) keys_are
    ∙ ap (λ (z : List Expression). lines known script program condition keys z) (sym es))))))

module _ (network : Option Network) (branch : ℕ) (d : Descriptor) (index : ℕ) (before after : Bytes) where
  abbrev Given_lines : Given → Type 0
  Given_lines given =
      (program condition : Bytes) (keys : List Key) → IsOutput network d program condition keys given → after ≡ before ++ index_lines network branch d index program condition keys

  pub adds_key : (given : Given) → Finds network d branch index (own.Key given) → Given_lines given → AddsIndex network branch d index before after None
  adds_key given (of_key key, at, found) lines = (of_key key, at, lines (key_program key) [] (key ∷ []) found)
  adds_key given (of_tree keys tree, at, found) lines = absurd found
  adds_key given (nothing reason, at, found) lines = absurd found

  pub adds_tree : (given : Given) (measures : Measures) → Finds network d branch index (own.Tree given measures) → Given_lines given
      → AddsIndex network branch d index before after None
  adds_tree given measures (of_key key, at, found) lines = absurd found
  adds_tree given measures (of_tree keys tree, at, found) lines = (of_tree keys tree, at, lines (tree_program tree) (condition_lines d.body keys tree) keys found.0)
  adds_tree given measures (nothing reason, at, found) lines = absurd found

  pub adds_reason : (reason : Vec ℕ Global) → Finds network d branch index (own.Nothing reason) → AddsIndex network branch d index before after (Some reason)
  adds_reason reason (of_key key, at, found) = absurd found
  adds_reason reason (of_tree keys tree, at, found) = absurd found
  adds_reason reason (nothing why, at, found) = (nothing why, at, found)

-- ---- the indices

twice : (before lines : Bytes) (later : Result Bytes Bytes) → followed before (followed lines later) ≡ followed (before ++ lines) later
twice before lines (Ok later) = ap Ok (sym (append_assoc before lines later))
twice before lines (Err line) = refl

module _ (d : Descriptor) (asked : Derivation) where
  -- the lines so far go on as those of all
  abbrev pub Goes : (end index : ℕ) → (report : Bytes) → Type 0
  Goes end index report =
      (later : Result Bytes Bytes) → Lists d asked (end - index) index later → Lists d asked asked.count asked.index (followed report later)

  pub goes_first : (report : Bytes) → report ≡ [] → Goes (asked.index + asked.count) asked.index report
  goes_first report none later h =
      let all : (asked.index + asked.count) - asked.index ≡ asked.count = omega arith in
      subst (λ (z : Bytes). Lists d asked asked.count asked.index (followed z later)) (sym none)
      (subst (Lists d asked asked.count asked.index) (nothing_before later) (subst (λ (n : ℕ). Lists d asked n asked.index later) all h))
    where
      nothing_before : (later : Result Bytes Bytes) → later ≡ followed [] later
      nothing_before (Ok later) = refl
      nothing_before (Err line) = refl

  module _ (end index : ℕ) (inside : index < end) (before : Bytes) (goes : Goes end index before) where
    go_on : (r : Result Bytes Bytes) → Lists d asked (suc (end - (index + 1))) index r → Lists d asked asked.count asked.index (followed before r)
    go_on r h =
        let more : suc (end - (index + 1)) ≡ end - index = omega arith in
        goes r (subst (λ (n : ℕ). Lists d asked n index r) more h)

    go_behind : (place : Place) (lines after : Bytes) → IsAt d.body asked.branch index place
        → ((later : Result Bytes Bytes) → Lists d asked (end - (index + 1)) (index + 1) later
        → ListsPlace d asked index place (Lists d asked (end - (index + 1)) (index + 1)) (followed lines later))
        → after ≡ before ++ lines → Goes end (index + 1) after
    go_behind place lines after at lists e later h =
        subst (λ (z : Bytes). Lists d asked asked.count asked.index (followed z later)) (sym e)
        (subst (Lists d asked asked.count asked.index) (twice before lines later) (go_on (followed lines later) (place, at, lists later h)))

    pub goes_next : (after : Bytes) → AddsIndex asked.network asked.branch d index before after None → Goes end (index + 1) after
    goes_next after (of_key key, at, e) =
        go_behind (of_key key) (index_lines asked.network asked.branch d index (key_program key) [] (key ∷ [])) after at (λ later h. (later, h, refl)) e
    goes_next after (of_tree keys tree, at, e) =
        go_behind (of_tree keys tree) (index_lines asked.network asked.branch d index (tree_program tree) (condition_lines d.body keys tree) keys) after at
        (λ later h. (later, h, refl)) e
    goes_next after (nothing reason, at, e) = absurd e

    pub record IsWrong (reason : Vec ℕ Global) : Type 0 where
      pub why : Reason
      pub is : reason.items ≡ reason_line why
      pub replies : (r : Reply) → r ≡ reply status.Refused (place_refused_line asked.branch index why) → RepliesByList d asked r

    pub goes_wrong : (after : Bytes) (reason : Vec ℕ Global) → AddsIndex asked.network asked.branch d index before after (Some reason) → IsWrong reason
    goes_wrong after reason (of_key key, at, e) = absurd e
    goes_wrong after reason (of_tree keys tree, at, e) = absurd e
    goes_wrong after reason (nothing why, at, e) = record {
      why = why;
      is = e;
      replies = λ r made. (Err (place_refused_line asked.branch index why), go_on (Err (place_refused_line asked.branch index why)) (nothing why, at, refl), made);
    }

  pub goes_last : (end index : ℕ) (report : Bytes) → end ≤ index → Goes end index report → RepliesByList d asked (reply status.Done report)
  goes_last end index report past goes =
      let none : 0 ≡ end - index = omega arith in
      (Ok (report ++ []), goes (Ok []) (subst (λ (n : ℕ). Lists d asked n index (Ok [])) none refl), ap (reply status.Done) (sym (append-nil report)))

-- ---- what bars all indices

over_not : (a b : ℕ) → b < a → nat_le a b ≡ false
over_not a b h = go (nat_le a b) refl
  where
    go : (t : Bool) → nat_le a b ≡ t → nat_le a b ≡ false
    go false e = e
    go true e = absurd (omega (arith, leb-true a b e, h))

bar_by : (over ranged more : Bool) → Option Bytes
bar_by over ranged more = if over then Some no_branch_line else if not ranged && more then Some not_ranged_line else None

by_bar : (d : Descriptor) (asked : Derivation) (r : Reply) (bar : Option Bytes) → bar_of d asked ≡ bar → RepliesByBar bar d asked r → RepliesToDerive asked d r
by_bar d asked r bar is h = subst (λ (z : Option Bytes). RepliesByBar z d asked r) (sym is) h

over_is : (d : Descriptor) (asked : Derivation) (n : ℕ) (b : Bool) → n ≡ branch_count d.body → nat_le n asked.branch ≡ b → nat_le (branch_count d.body) asked.branch ≡ b
over_is d asked n b is test = subst (λ (z : ℕ). nat_le z asked.branch ≡ b) is test

barred : (over ranged more : Bool) → over ≡ true → bar_by over ranged more ≡ Some no_branch_line
unfolding bar_by
barred true ranged more e = refl
barred false ranged more e = absurd (cc)

unranged : (over ranged more : Bool) → over ≡ false → ranged ≡ false → more ≡ true → bar_by over ranged more ≡ Some not_ranged_line
unfolding bar_by
unranged false false true e f g = refl
unranged false false false e f g = absurd (cc)
unranged false true more e f g = absurd (cc)
unranged true ranged more e f g = absurd (cc)

free : (over ranged more : Bool) → over ≡ false → ((ranged ≡ true) ⊎ (more ≡ false)) → bar_by over ranged more ≡ None
unfolding bar_by
free false true more e h = refl
free false false false e h = refl
free false false true e (inl h) = absurd (cc)
free false false true e (inr h) = absurd (cc)
free true ranged more e h = absurd (cc)

module _ (d : Descriptor) (asked : Derivation) where
  bar_is : bar_of d asked ≡ bar_by (nat_le (branch_count d.body) asked.branch) (is_ranged d.body) (nat_lt 1 (asked.index + asked.count))
  unfolding bar_by
  bar_is = refl

  pub no_branch : (r : Reply) (n : ℕ) → n ≡ branch_count d.body → n ≤ asked.branch → r ≡ reply status.Refused no_branch_line → RepliesToDerive asked d r
  no_branch r n is over e =
      by_bar d asked r (Some no_branch_line) (bar_is ∙ barred _ _ _ (over_is d asked n true is (le-leb n asked.branch over))) e

  pub not_ranged : (r : Reply) (n : ℕ) (ranged : Bool) → n ≡ branch_count d.body → asked.branch < n → ranged ≡ is_ranged d.body → ranged ≡ false
      → 1 < asked.index + asked.count → r ≡ reply status.Refused not_ranged_line → RepliesToDerive asked d r
  not_ranged r n ranged is within same none more e =
      by_bar d asked r (Some not_ranged_line)
      (bar_is ∙ unranged _ _ _ (over_is d asked n false is (over_not n asked.branch within)) (sym same ∙ none) (lt-ltb 1 (asked.index + asked.count) more)) e

  pub listed : (r : Reply) (n : ℕ) (ranged : Bool) → n ≡ branch_count d.body → asked.branch < n → ranged ≡ is_ranged d.body
      → ((ranged ≡ true) ⊎ (asked.index + asked.count ≤ 1)) → RepliesByList d asked r → RepliesToDerive asked d r
  listed r n ranged is within same h list =
      by_bar d asked r None (bar_is ∙ free _ _ _ (over_is d asked n false is (over_not n asked.branch within)) (either h)) list
    where
      either : (ranged ≡ true) ⊎ (asked.index + asked.count ≤ 1) → (is_ranged d.body ≡ true) ⊎ (nat_lt 1 (asked.index + asked.count) ≡ false)
      either (inl is_so) = inl (sym same ∙ is_so)
      either (inr few) = inr (le-ltb 1 (asked.index + asked.count) few)
