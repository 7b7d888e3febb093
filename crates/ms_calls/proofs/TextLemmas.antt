-- From what a step found of a tree to what the text's reading gives.
use Rattle.std.proofs.Common.{◌≡◌, ℕ, List, Option, Some, None, Ok, Err, refl, sym, ◌∙◌, ap, subst}
use Rattle.std.specs.Prelude.{Result}
use Rattle.std.specs.Str.{IsUtf8}
use Rattle.def_script.specs.Bytes.{Bytes}
use Rattle.def_tree.specs.Tree.{Tree}
use Rattle.def_text.specs.declared.TextFault.{TextFault}
use Rattle.def_text.specs.Refusal.{TextReads}
use Rattle.def_sane.specs.declared.Unfit.{Unfit}
use Rattle.def_answer.specs.Reading.{Reading, read, refused, HasReading}
use Rattle.ms_answer_laws.proofs.Unique.{one_reading}
use Rattle.ms_calls.specs.declared.stopping.Stop.{Stop}
use Rattle.ms_calls.specs.declared.stopping.Stop.TheVariants as stop
use Rattle.ms_calls.specs.Reasons.{code_of_fault, code_of_reason}
use Rattle.ms_calls.specs.TextReply.{TextReply, text_refused, text_given, unless_unfit}
use Rattle.ms_calls.specs.Stops.{Finds, FindsOf, StopsReading, StopsFitting}

finds_of : {A : Type 0} (text : Bytes) (given : Reading → TextReply A) (result : Result A Stop) → IsUtf8 text
    → ((reading : Reading) → HasReading text reading → Finds (given reading) result) → (result ≡ Err stop.Unreadable → ⊥) → FindsOf text given result
finds_of text given (Ok a) utf8 finds readable = (utf8, finds)
finds_of text given (Err (stop.TextRefused reason)) utf8 finds readable = (utf8, finds)
finds_of text given (Err (stop.FileRefused reason)) utf8 finds readable = (utf8, finds)
finds_of text given (Err stop.NoSatisfaction) utf8 finds readable = (utf8, finds)
finds_of text given (Err stop.Unreadable) utf8 finds readable = absurd (readable refl)
finds_of text given (Err stop.Memory) utf8 finds readable = (utf8, finds)

is_readable : {A : Type 0} (given : TextReply A) (result : Result A Stop) → Finds given result → result ≡ Err stop.Unreadable → ⊥
is_readable given (Ok a) finds is = cc is
is_readable given (Err (stop.TextRefused reason)) finds is = cc is
is_readable given (Err (stop.FileRefused reason)) finds is = cc is
is_readable given (Err stop.NoSatisfaction) finds is = cc is
is_readable given (Err stop.Unreadable) finds is = absurd finds
is_readable given (Err stop.Memory) finds is = cc is

-- a text that was read
pub finds_of_reading : {A : Type 0} (text : Bytes) (given : Reading → TextReply A) (tree : Tree) (offsets : List ℕ) (result : Result A Stop)
    → IsUtf8 text → TextReads text tree offsets → Finds (given (read tree offsets)) result → FindsOf text given result
finds_of_reading text given tree offsets result utf8 reads finds =
    finds_of text given result utf8
    (λ reading has. subst (λ r. Finds (given r) result) (one_reading text (read tree offsets) reading utf8 reads has) finds)
    (is_readable (given (read tree offsets)) result finds)

-- a text that wasn't read
pub finds_of_no_reading : {A : Type 0} (text : Bytes) (given : Reading → TextReply A) (s : Stop)
    → ((fault : TextFault) → given (refused fault) ≡ text_refused (code_of_fault fault)) → StopsReading text s → FindsOf text given (Err s)
finds_of_no_reading text given (stop.TextRefused reason) refuses (utf8, why) =
    (utf8, λ reading h. subst (λ r. given r ≡ text_refused reason) (one_reading text (refused why.0) reading utf8 why.1 h) (refuses why.0 ∙ ap text_refused (sym why.2)))
finds_of_no_reading text given (stop.FileRefused reason) refuses stops = absurd stops
finds_of_no_reading text given stop.NoSatisfaction refuses stops = absurd stops
finds_of_no_reading text given stop.Unreadable refuses stops = stops
finds_of_no_reading text given stop.Memory refuses utf8 = (utf8, λ reading h. tt)

-- a tree that was read
pub finds_of_tree : {A : Type 0} (text : Bytes) (first_reason : Tree → Option Unfit) (next : Tree → TextReply A) (tree : Tree) (offsets : List ℕ) (result : Result A Stop)
    → IsUtf8 text → TextReads text tree offsets → Finds (unless_unfit (first_reason tree) offsets (next tree)) result → FindsOf text (text_given first_reason next) result
finds_of_tree text first_reason next tree offsets result utf8 reads finds =
    finds_of_reading text (text_given first_reason next) tree offsets result utf8 reads finds

pub finds_of_stop : {A : Type 0} (text : Bytes) (first_reason : Tree → Option Unfit) (next : Tree → TextReply A) (s : Stop) → StopsReading text s
    → FindsOf text (text_given first_reason next) (Err s)
finds_of_stop text first_reason next s stops = finds_of_no_reading text (text_given first_reason next) s (λ fault. refl) stops

-- ---- what is asked of a tree

-- a tree that doesn't pass
pub finds_of_misfit : {A : Type 0} (reason : Option Unfit) (offsets : List ℕ) (next : TextReply A) (s : Stop) → StopsFitting reason offsets s
    → Finds (unless_unfit reason offsets next) (Err s)
finds_of_misfit None offsets next (stop.TextRefused why) stops = let none : None ≡ Some why = stops in absurd (let no : ⊥ = cc in no)
finds_of_misfit (Some unfit) offsets next (stop.TextRefused why) stops =
    let some : Some (code_of_reason offsets unfit) ≡ Some why = stops in
    let same : code_of_reason offsets unfit ≡ why = cc in
    ap text_refused same
finds_of_misfit reason offsets next (stop.FileRefused why) stops = absurd stops
finds_of_misfit reason offsets next stop.NoSatisfaction stops = absurd stops
finds_of_misfit reason offsets next stop.Unreadable stops = absurd stops
finds_of_misfit reason offsets next stop.Memory stops = tt
