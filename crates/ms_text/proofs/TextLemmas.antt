-- What the machine answers to a text is what is said of the text.
use Rattle.std.proofs.Common.{◌≢◌, ◌≡◌, refl, ℕ, ◌<◌, ◌≤◌, List, [], length, subst, ap, ◌∙◌, arith}
use Rattle.std.specs.Str.{IsUtf8}
use Rattle.std.proofs.lemmas.Str.{IsCharBoundary-start}
use Rattle.def_script.specs.Bytes.{Bytes}
use Rattle.def_tree.specs.Tree.{Tree}
use Rattle.def_tree.specs.Size.{nodes}
use Rattle.def_tree.specs.InRange.{IsInRange}
use Rattle.def_text.specs.declared.TextFault.{TextFault}
use Rattle.def_text.specs.declared.TextFault.TheVariants.{TooLong, Syntax, TooDeep, Memory}
use Rattle.def_text.specs.Token.{tokens}
use Rattle.def_text.specs.Refusal.{MOST_BYTES, TextReads, TextRefusal}
use Rattle.def_text.specs.Scaffolding.Reader.{START, ended, finished, tree_outcome, syntax_outcome, outcome}
use Rattle.def_text.proofs.Report.{Reports, report}
use Rattle.def_text.proofs.OffsetCount.{count_text}
use Rattle.ms_text.specs.Scaffolding.Place.{IsPlace, machine_from, Refused, rest}
use Rattle.ms_text.specs.Scaffolding.Room.{IsPart}
use Rattle.ms_text.proofs.PlaceLemmas.{rest_end, not_the_end, elsewhere_stops}
use Rattle.ms_text.proofs.StateLemmas.{end_read, takes_end}

pub place_first : (text : Bytes) → IsUtf8 text → length text ≤ MOST_BYTES → IsPlace text 0
place_first text utf8 short = record { utf8 = utf8; short = short; boundary = IsCharBoundary-start text utf8 }

pub whole : (text : Bytes) (x : Tree) (os : List ℕ) (at : ℕ) → IsUtf8 text → length text ≤ MOST_BYTES → outcome START (tokens text) ≡ machine_from (ended x, [], os) text at →
    length text ≤ at → TextReads text x os
whole text x os at utf8 short reads l =
    let e : outcome START (tokens text) ≡ tree_outcome x os = reads ∙ ap (outcome (ended x, [], os)) (rest_end text at l) in
    let r : Reports text (tree_outcome x os) = subst (Reports text) e (report text utf8) in
    record { short = short; spelled = r.0; none_deep = r.1 }

pub refusal : (text : Bytes) (e : TextFault) → IsUtf8 text → length text ≤ MOST_BYTES → Refused (outcome START (tokens text)) e → e ≢ Memory → TextRefusal text e
refusal text TooLong utf8 short h known = absurd h
refusal text (Syntax at) utf8 short h known = (short, subst (Reports text) h (report text utf8))
refusal text (TooDeep at) utf8 short h known = (short, subst (Reports text) h (report text utf8))
refusal text Memory utf8 short h known = absurd (known refl)

pub trailing : (text : Bytes) (x : Tree) (os : List ℕ) (at : ℕ) → outcome START (tokens text) ≡ machine_from (ended x, [], os) text at → IsPlace text at → at < length text →
    outcome START (tokens text) ≡ syntax_outcome at
trailing text x os at reads p l =
    reads ∙ elsewhere_stops end_read (ended x, [], os) (λ u. (finished x, [], os)) (rest text at) at (takes_end x os) (not_the_end text at p l)

pub in_range : (text : Bytes) (x : Tree) (at : ℕ) → length text ≤ MOST_BYTES → at ≤ length text → IsPart text 0 0 x at → IsInRange x
in_range text x at short l part = record { measure = omega (arith, part.measure); depth = omega (arith, part.depth); writable = part.writable }

pub offset_each : (text : Bytes) (x : Tree) (os : List ℕ) → TextReads text x os → length os ≡ nodes x
offset_each text x os reads = count_text reads.spelled
