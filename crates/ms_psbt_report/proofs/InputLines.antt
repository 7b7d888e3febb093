-- The lines of an input, piece by piece.
use Rattle.std.proofs.Common.{◌≡◌, ℕ, ◌+◌, ◌*◌, ◌≤◌, ◌++◌, List, [], length, drop, append_assoc, append-nil, Option, Some, None, if◌then◌else◌, sym, ap, subst, ◌∙◌, arith}
use Rattle.std.specs.Prelude.{IfSome}
use Rattle.std.specs.List.{flat_map}
use Rattle.std.proofs.lemmas.List.{drop_all}
use Rattle.def_script.specs.Bytes.{Bytes}
use Rattle.def_machine.specs.Stacks.{Pairs}
use Rattle.def_tree.specs.Tree.{Key, Tree}
use Rattle.def_assets.specs.Assets.{Assets}
use Rattle.def_plan.specs.Plan.{Plan}
use Rattle.def_policy.specs.Print.{printed as printed_policy}
use Rattle.def_curve.specs.declared.Judgement.{Judgement}
use Rattle.def_spend.specs.declared.State.{State}
use Rattle.def_spend.specs.Asking.{plan_with}
use Rattle.def_spend.specs.Fields.{signatures_in, asked_type, last_byte}
use Rattle.def_spend.specs.Hashes.{hash_by}
use Rattle.def_spend.specs.Input.{Spend}
use Rattle.def_spend.specs.States.{is_read, is_sane}
use Rattle.def_answer.specs.Decode.{decode_report}
use Rattle.def_answer.specs.Policy.{policy_of}
use Rattle.def_answer.specs.Plan.{ask_line, weight_line}
use Rattle.def_psbt_answer.specs.Lines.{policy_line, signature_line, sign_line, check_line}
use Rattle.def_psbt_answer.specs.Report.{plan_lines, last_lines, tree_lines, word_by, told_word, signature_lines, checked_line, hash_lines}
use Rattle.ms_input.specs.Asked.{asked_plan}
use Rattle.ms_psbt_report.proofs.Asked.{asked_lines, lines_asked}

-- the lines of a list, after the last one
pub no_more : {X : Type 0} (f : X → Bytes) (before all : Bytes) (xs : List X) (i : ℕ) → length xs ≤ i → before ++ flat_map f (drop i xs) ≡ all → before ≡ all
no_more f before all xs i past h =
    sym (append-nil before) ∙ subst (λ ds. before ++ flat_map f ds ≡ all) (drop_all i xs past) h

-- the lines of all signatures, by those that were told
pub all_signed : (before after : Bytes) (s : State) (spend : Spend) (pairs : Pairs) → pairs ≡ signatures_in spend.fields
    → after ≡ before ++ flat_map (λ pair. signature_line pair (told_word (is_sane s) spend pair)) pairs → after ≡ before ++ signature_lines s spend
all_signed before after s spend pairs are e =
    e ∙ ap (λ (ps : Pairs). before ++ flat_map (λ pair. signature_line pair (told_word (is_sane s) spend pair)) ps) are

-- ---- hashes

abbrev pub checks : Spend → Pairs → Bytes
checks spend = flat_map (checked_line spend)

pub hashed : (spend : Spend) (asked : ℕ) (hash : Option Bytes) (pairs : Pairs) (before between after : Bytes) → asked ≡ asked_type spend.fields
    → hash ≡ hash_by asked spend → pairs ≡ signatures_in spend.fields → between ≡ before ++ sign_line asked hash → after ≡ between ++ checks spend pairs
    → after ≡ before ++ hash_lines spend
hashed spend asked hash pairs before between after is_asked is_hash are e1 e2 =
    e2 ∙ ap (λ bytes. bytes ++ checks spend pairs) e1
    ∙ ap (λ ps. (before ++ sign_line asked hash) ++ checks spend ps) are
    ∙ ap (λ h. (before ++ sign_line asked h) ++ checks spend (signatures_in spend.fields)) is_hash
    ∙ ap (λ a. (before ++ sign_line a (hash_by a spend)) ++ checks spend (signatures_in spend.fields)) is_asked
    ∙ append_assoc before (sign_line (asked_type spend.fields) (hash_by (asked_type spend.fields) spend)) (checks spend (signatures_in spend.fields))

-- the line of a signature, by its hash and its word
pub check_told : (before : Bytes) (spend : Spend) (pair : Bytes × Bytes) (hash : Option Bytes) (word : Option Judgement) → hash ≡ hash_by (last_byte pair.1) spend
    → word ≡ word_by spend.verification spend pair → before ++ check_line pair hash word ≡ before ++ checked_line spend pair
check_told before spend pair hash word is told =
    ap (λ h. before ++ check_line pair h word) is ∙ ap (λ w. before ++ check_line pair (hash_by (last_byte pair.1) spend) w) told

-- ---- the miniscript

pub told_plan : (tree : Tree) (assets : Assets) (plan : Plan) (keys : List Key) (weight : ℕ) (before after : Bytes) → Some plan ≡ asked_plan tree assets
    → keys ≡ plan.keys → weight ≡ plan.weight → after ≡ before ++ (flat_map ask_line keys ++ weight_line weight)
    → after ≡ before ++ plan_lines assets (plan_with tree assets)
told_plan tree assets plan keys weight before after is are weighs e =
    e ∙ ap (λ ks. before ++ (flat_map ask_line ks ++ weight_line weight)) are
    ∙ ap (λ w. before ++ (flat_map ask_line plan.keys ++ weight_line w)) weighs
    ∙ ap (λ o. before ++ asked_lines o) is ∙ ap (λ bytes. before ++ bytes) (lines_asked assets (plan_with tree assets))

abbrev head : State → Tree → Bytes
head s tree =
    (if is_read s then decode_report tree else []) ++ (if is_sane s then policy_line (printed_policy (policy_of tree)) else [])

pub tree_told : (s told : State) (found : Option Tree) (tree : Tree) (spend : Spend) (stack : List Bytes) (before between after : Bytes) → found ≡ Some tree
    → told ≡ s → between ≡ before ++ head told tree → after ≡ between ++ last_lines s tree spend stack → after ≡ before ++ tree_lines s found spend stack
tree_told s told found tree spend stack before between after is same e1 e2 =
    subst (λ (o : Option Tree). after ≡ before ++ tree_lines s o spend stack) (sym is)
    (e2 ∙ ap (λ bytes. bytes ++ last_lines s tree spend stack) (e1 ∙ ap (λ t. before ++ head t tree) same)
    ∙ append_assoc before (head s tree) (last_lines s tree spend stack))

-- ---- sums

abbrev MOST : ℕ
MOST = 0xffff_ffff_ffff_ffff

pub most_more : (sum : Option ℕ) (n : ℕ) → IfSome sum (λ s. s ≤ n * MOST + MOST) → IfSome sum (λ s. s ≤ (n + 1) * MOST)
most_more None n h = tt
most_more (Some s) n h = omega arith
