-- What the code tells of a step is what the step changed.
use Rattle.std.proofs.Common.{◌≡◌, ℕ, ◌+◌, ◌-◌, ◌||◌, Bool, true, false, List, [], ◌∷◌, ◌++◌, length, map, take, drop, Ok, arith, refl, sym, ◌∙◌, ap, subst, append_assoc, length-append, if◌then◌else◌}
use Rattle.std.specs.Prelude.{reverse, codes}
use Rattle.std.specs.List.{list_all, flat_map}
use Rattle.def_script.specs.declared.Op.{Op}
use Rattle.def_script.specs.declared.Op.TheVariants as op
use Rattle.def_script.specs.Bytes.{Bytes}
use Rattle.def_script.specs.Item.{Item}
use Rattle.def_script.specs.Item as item
use Rattle.def_machine.specs.Stacks.{Stack, Pairs}
use Rattle.def_machine.specs.Machine.{Given, State, is_live, is_branching, act, step, carry_out}
use Rattle.def_trace.specs.Seen.{Seen, seen}
use Rattle.def_trace.specs.Changes.{Change, pushed, alt_pushed, opened, checked, opcode_puts, pops, main_changes, alt_changes, branch_changes, check_changes, changes}
use Rattle.def_trace.specs.Trace.{stepped, skipped, is_carried_out, event_of}
use Rattle.def_trace.specs.Written.{change_text}
use Rattle.def_trace.proofs.Told.{Trades}
use Rattle.def_trace.proofs.Acts.{Opens, opens, acted, Carried, opcode_carried}
use Rattle.ms_trace.specs.declared.changes.Before.{Before}
use Rattle.ms_trace.specs.Scaffolding.Brief.{brief_main, brief_branch, brief, brief_event, named_digits, check_word}

-- ---- words

flat_append : (f : Change → Bytes) (one two : List Change) → flat_map f (one ++ two) ≡ flat_map f one ++ flat_map f two
flat_append f [] two = refl
flat_append f (c ∷ one) two = ap (λ (bs : Bytes). f c ++ bs) (flat_append f one two) ∙ sym (append_assoc (f c) (flat_map f one) (flat_map f two))

pub pushed_words : (elements : List Bytes) → flat_map change_text (map pushed elements) ≡ flat_map (named_digits (codes " push ")) elements
pushed_words [] = refl
pushed_words (x ∷ elements) = ap (λ (bs : Bytes). change_text (pushed x) ++ bs) (pushed_words elements)

alt_words : (elements : List Bytes) → flat_map change_text (map alt_pushed elements) ≡ flat_map (named_digits (codes " altpush ")) elements
alt_words [] = refl
alt_words (x ∷ elements) = ap (λ (bs : Bytes). change_text (alt_pushed x) ++ bs) (alt_words elements)

reverse_one : (alt : Stack) → reverse (take 1 alt) ≡ take 1 alt
reverse_one [] = refl
reverse_one (x ∷ alt) = refl

pub alt_text : (alt : Stack) → flat_map (named_digits (codes " altpush ")) (reverse (take 1 alt)) ≡ flat_map change_text (alt_changes op.ToAltStack alt)
alt_text alt = ap (λ (xs : Stack). flat_map (named_digits (codes " altpush ")) xs) (reverse_one alt) ∙ sym (alt_words (take 1 alt))

check_words : (pairs : Pairs) → flat_map change_text (map checked pairs) ≡ flat_map check_word pairs
check_words [] = refl
check_words (pair ∷ pairs) = ap (λ (bs : Bytes). change_text (checked pair) ++ bs) (check_words pairs)

-- all words of a step, one after the other
pub brief_text : (o : Op) (main_before checks_before : ℕ) (main alt : Stack) (live : Bool) (checks : Pairs) (report : Bytes)
    → report ++ flat_map change_text (pops (main_before - (length main - opcode_puts o main_before (length main))))
    ++ flat_map (named_digits (codes " push ")) (reverse (take (opcode_puts o main_before (length main)) main))
    ++ flat_map change_text (alt_changes o alt) ++ flat_map change_text (brief_branch o live) ++ flat_map check_word (drop checks_before checks)
    ≡ report ++ flat_map change_text (brief o main_before checks_before main alt live checks)
brief_text o main_before checks_before main alt live checks report =
    let puts = opcode_puts o main_before (length main) in
    let a = pops (main_before - (length main - puts)) in
    let b = map pushed (reverse (take puts main)) in
    let c = alt_changes o alt in
    let d = brief_branch o live in
    let e = check_changes checks_before checks in
    let f : List Change → Bytes = λ cs. flat_map change_text cs in
    let whole : f ((((a ++ b) ++ c) ++ d) ++ e) ≡ (((f a ++ f b) ++ f c) ++ f d) ++ f e =
    flat_append change_text (((a ++ b) ++ c) ++ d) e
    ∙ ap (λ (bs : Bytes). bs ++ f e)
    (flat_append change_text ((a ++ b) ++ c) d
    ∙ ap (λ (bs : Bytes). bs ++ f d)
    (flat_append change_text (a ++ b) c ∙ ap (λ (bs : Bytes). bs ++ f c) (flat_append change_text a b)))
    in
    sym
    (ap (λ (bs : Bytes). report ++ bs)
    (whole
    ∙ ap (λ (bs : Bytes). (((f a ++ bs) ++ f c) ++ f d) ++ f e) (pushed_words (reverse (take puts main)))
    ∙ ap (λ (bs : Bytes). (((f a ++ flat_map (named_digits (codes " push ")) (reverse (take puts main))) ++ f c) ++ f d) ++ bs)
    (check_words (drop checks_before checks)))
    ∙ five report (f a) (flat_map (named_digits (codes " push ")) (reverse (take puts main))) (f c) (f d) (flat_map check_word (drop checks_before checks))) where
      five : (r a b c d e : Bytes) → r ++ ((((a ++ b) ++ c) ++ d) ++ e) ≡ ((((r ++ a) ++ b) ++ c) ++ d) ++ e
      five r a b c d e = simp append_assoc

-- ---- changes

fewer : (puts before : ℕ) (m w : Stack) → length m ≡ before → Trades puts m w → main_changes puts before w ≡ brief_main puts before w
fewer puts before m w same t =
    let after = ap (λ (main : Stack). length main) t.now ∙ length-append t.up t.rest in
    let put = t.put in
    let count : before + puts - length w ≡ before - (length w - puts) = omega (arith, after, put) in
    ap (λ (n : ℕ). pops n ++ map pushed (reverse (take puts w))) count

opened_is : (a b : State) → Opens a b → map opened (take 1 b.branches) ≡ opened (is_live b) ∷ []
opened_is a b h = ap (λ (bs : List Bool). map opened (take 1 bs)) h.branches ∙ ap (λ (taken : Bool). opened taken ∷ []) (sym h.live)

branch_is : (given : Given) (o : Op) (a b : State) → act given o a ≡ Ok b → branch_changes o b.branches ≡ brief_branch o (is_live b)
unfolding act
branch_is given op.If a b is = opened_is a b (opens true a b is)
branch_is given op.NotIf a b is = opened_is a b (opens false a b is)
branch_is given other a b is = refl

live_alike : (s t : State) → seen t ≡ seen s → is_live t ≡ is_live s
live_alike s t same = ap (λ (v : Seen). list_all (λ taken. taken) v.branches) same

brief_is : (given : Given) (o : Op) (s t : State) → Carried given o s t
    → changes (item.code o) (seen s) (seen t) ≡ brief o (length s.main) (length s.checks) t.main t.alt (is_live t) t.checks
unfolding changes
brief_is given o s t c =
    let tells = acted given o c.before c.after c.acts in
    let main_was : length c.before.main ≡ length s.main = ap (λ (v : Seen). length v.main) c.was in
    let main_now : c.after.main ≡ t.main = ap (λ (v : Seen). v.main) (sym c.now) in
    let n = length s.main in
    let trades : Trades (opcode_puts o n (length t.main)) c.before.main t.main =
    subst (λ (k : ℕ). Trades (opcode_puts o k (length t.main)) c.before.main t.main) main_was
    (subst (λ (w : Stack). Trades (opcode_puts o (length c.before.main) (length w)) c.before.main w) main_now tells.main)
    in
    let main = fewer (opcode_puts o n (length t.main)) n c.before.main t.main main_was trades in
    let branches : branch_changes o t.branches ≡ brief_branch o (is_live t) =
    ap (λ (v : Seen). branch_changes o v.branches) c.now ∙ branch_is given o c.before c.after c.acts
    ∙ ap (λ (live : Bool). brief_branch o live) (sym (live_alike c.after t c.now))
    in
    ap (λ (cs : List Change). cs ++ alt_changes o t.alt ++ branch_changes o t.branches ++ check_changes (length s.checks) t.checks) main
    ∙ ap (λ (cs : List Change). brief_main (opcode_puts o n (length t.main)) n t.main ++ alt_changes o t.alt ++ cs ++ check_changes (length s.checks) t.checks)
    branches

-- ---- what became of an instruction

-- what a line needs of the machine before a step
abbrev pub before_of : State → Before
before_of s = record { live = is_live s; main = length s.main; checks = length s.checks }

by_live : (given : Given) (o : Op) (s t : State) (live : Bool) → is_carried_out (item.code o) s ≡ live → step given (item.code o) s ≡ Ok t
    → (if live then stepped (changes (item.code o) (seen s) (seen t)) else skipped)
    ≡ (if live then stepped (brief o (length s.main) (length s.checks) t.main t.alt (is_live t) t.checks) else skipped)
by_live given o s t true live is = ap (λ (cs : List Change). stepped cs) (brief_is given o s t (opcode_carried given o s t live is))
by_live given o s t false dead is = refl

pub event_is : (given : Given) (i : Item) (s t : State) → step given i s ≡ Ok t
    → event_of i s (Ok t) ≡ brief_event i (before_of s) t.main t.alt (is_live t) t.checks
unfolding step carry_out changes
event_is given (item.push bytes minimal) s t is = refl
event_is given (item.code o) s t is = by_live given o s t (is_branching o || is_live s) refl is
event_is given (item.fault e) s t is = absurd cc
