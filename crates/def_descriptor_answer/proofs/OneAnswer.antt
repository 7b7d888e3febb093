-- Words and a source have at most one answer: the reading of a text, its keys and its trees are one.
use Rattle.std.proofs.Common.{◌≡◌, ℕ, zero, suc, ◌+◌, ◌*◌, ◌/◌, ◌%◌, Bool, true, false, List, [], ◌∷◌, map, ap, ◌∙◌, sym, subst, Option, Some, None, Result, Ok, Err}
use Rattle.std.specs.Prelude.{IsUtf8}
use Rattle.def_script.specs.Bytes.{Bytes}
use Rattle.def_tree.specs.Tree.{Key, Tree}
use Rattle.def_text.proofs.Complete.{one_tree}
use Rattle.def_sane.specs.Unfit.{first_unfit}
use Rattle.def_descriptor.specs.declared.DescriptorFault.{DescriptorFault}
use Rattle.def_descriptor.specs.Pieces.{place_of}
use Rattle.def_descriptor.specs.Parts.{Body, miniscript, sorted, single}
use Rattle.def_descriptor.specs.Gives.{expressions_of, keys_at, key_program, tree_program, pieces_in, branch_count}
use Rattle.def_descriptor.specs.Answer.{Descriptor}
use Rattle.def_descriptor.specs.Laws.{OneAnswer as OneReading}
use Rattle.def_descriptor_answer.specs.declared.status.Status.{Status}
use Rattle.def_descriptor_answer.specs.Words.{Derivation, Command, check, derive, update, command_of}
use Rattle.def_descriptor_answer.specs.Places.{Place, of_key, of_tree, nothing, judged, IsTreeOf, IsWithKeys, IsByKeys, IsAt}
use Rattle.def_descriptor_answer.specs.Lines.{index_lines, condition_lines, check_report}
use Rattle.def_descriptor_answer.specs.Reply.{Reply, reply, check_status, RepliesToCheck, bar_of, followed, ListsPlace, Lists, listed_reply, RepliesByBar, RepliesToDerive, RepliesToAnswer, RepliesToText}
use Rattle.def_descriptor_answer.specs.Answer.{RepliesToWords, Answer}
use Rattle.def_emit.specs.Emit.{script_of}
use Rattle.def_psbt.specs.declared.Refusal.{Refusal}
use Rattle.def_psbt.specs.Map.{Psbt}
use Rattle.def_psbt.specs.Source.{psbt_of}
use Rattle.def_psbt_answer.specs.declared.words.Form.{Form}
use Rattle.def_psbt_answer.specs.Reply.{form_of}
use Rattle.def_update.specs.Known.{Known}
use Rattle.def_update.specs.Updated.{update_of}
use Rattle.def_descriptor_answer.specs.Update.{known_at, known_before, KnowsPlace, KnowsFrom, index_count, updated_reply, psbt_reply, known_reply, RepliesToUpdate}
use Rattle.def_descriptor_answer.specs.Laws.{AskUtf8, IsUpdate, IsAnswered}

-- ---- places

one_judged : (body : Body) (keys : List Key) (p q : Place) → IsTreeOf body keys p → IsTreeOf body keys q → p ≡ q
one_judged body keys p q (t, os, (own, reads, is), e) (u, ps, (other, again, also), f) =
    let same = one_tree reads.spelled again.spelled in
    let places : os ≡ ps = is ∙ (ap (map (place_of 0 (pieces_in body))) same.1 ∙ sym also) in
    e ∙ (ap (λ (z : Tree). judged keys z os (first_unfit z)) same.0 ∙ (ap (λ (z : List ℕ). judged keys u z (first_unfit u)) places ∙ sym f))

first_key : (a b : Key) → a ∷ [] ≡ b ∷ [] → a ≡ b
first_key a b e = cc

one_with_keys : (body : Body) (keys : List Key) (p q : Place) → IsWithKeys body keys p → IsWithKeys body keys q → p ≡ q
one_with_keys (miniscript ps) keys p q h k = one_judged (miniscript ps) keys p q h k
one_with_keys (sorted ps) keys p q h k = one_judged (sorted ps) keys p q h k
one_with_keys (single expression) keys p q (key, is, e) (other, also, f) =
    e ∙ (ap of_key (first_key key other (sym is ∙ also)) ∙ sym f)

one_by_keys : (body : Body) (r : Result (List Key) ℕ) (p q : Place) → IsByKeys body r p → IsByKeys body r q → p ≡ q
one_by_keys body (Err at) p q h k = h ∙ sym k
one_by_keys body (Ok keys) p q h k = one_with_keys body keys p q h k

pub one_place : (body : Body) (branch index : ℕ) (p q : Place) → IsAt body branch index p → IsAt body branch index q → p ≡ q
one_place body branch index p q h k = one_by_keys body (keys_at branch index (expressions_of body)) p q h k

-- ---- replies to descriptors

one_check : (text : Bytes) (d : Descriptor) (r s : Reply) → RepliesToCheck text d r → RepliesToCheck text d s → r ≡ s
one_check text d r s (p, at, e) (q, also, f) =
    e ∙ (ap (λ (z : Place). reply (check_status z) (check_report text d z)) (one_place d.body 0 0 p q at also) ∙ sym f)

module _ (d : Descriptor) (asked : Derivation) where
  one_listed : (index : ℕ) (place : Place) (L : Result Bytes Bytes → Type 0) (r s : Result Bytes Bytes) → ((a b : Result Bytes Bytes) → L a → L b → a ≡ b)
      → ListsPlace d asked index place L r → ListsPlace d asked index place L s → r ≡ s
  one_listed index (of_key key) L r s one (a, h, e) (b, k, f) =
      e ∙ (ap (followed (index_lines asked.network asked.branch d index (key_program key) [] (key ∷ []))) (one a b h k) ∙ sym f)
  one_listed index (of_tree keys tree) L r s one (a, h, e) (b, k, f) =
      e ∙ (ap (followed (index_lines asked.network asked.branch d index (tree_program tree) (condition_lines d.body keys tree) keys)) (one a b h k) ∙ sym f)
  one_listed index (nothing reason) L r s one e f = e ∙ sym f

  one_list : (count index : ℕ) (r s : Result Bytes Bytes) → Lists d asked count index r → Lists d asked count index s → r ≡ s
  one_list zero index r s h k = h ∙ sym k
  one_list (suc count) index r s (p, at, h) (q, also, k) =
      let same = one_place d.body asked.branch index q p also at in
      one_listed index p (Lists d asked count (index + 1)) r s (one_list count (index + 1)) h
      (subst (λ (z : Place). ListsPlace d asked index z (Lists d asked count (index + 1)) s) same k)

  one_by_bar : (bar : Option Bytes) (r s : Reply) → RepliesByBar bar d asked r → RepliesByBar bar d asked s → r ≡ s
  one_by_bar (Some line) r s h k = h ∙ sym k
  one_by_bar None r s (a, h, e) (b, k, f) = e ∙ (ap listed_reply (one_list asked.count asked.index a b h k) ∙ sym f)

module _ (d : Descriptor) (of_branch : ℕ) where
  one_known_at : (branch index : ℕ) (place : Place) (L : Result (List Known) Bytes → Type 0) (r s : Result (List Known) Bytes) → ((a b : Result (List Known) Bytes) → L a → L b → a ≡ b)
      → KnowsPlace d branch index place L r → KnowsPlace d branch index place L s → r ≡ s
  one_known_at branch index (of_key key) L r s one (a, h, e) (b, k, f) =
      e ∙ (ap (known_before (known_at d branch index (key_program key) None (key ∷ []))) (one a b h k) ∙ sym f)
  one_known_at branch index (of_tree keys tree) L r s one (a, h, e) (b, k, f) =
      e ∙ (ap (known_before (known_at d branch index (tree_program tree) (Some (script_of tree)) keys)) (one a b h k) ∙ sym f)
  one_known_at branch index (nothing reason) L r s one e f = e ∙ sym f

  pub one_known : (count from : ℕ) (r s : Result (List Known) Bytes) → KnowsFrom d of_branch count from r → KnowsFrom d of_branch count from s → r ≡ s
  one_known zero from r s h k = h ∙ sym k
  one_known (suc count) from r s (p, at, h) (q, also, k) =
      let same = one_place d.body (from / of_branch) (from % of_branch) q p also at in
      one_known_at (from / of_branch) (from % of_branch) p (KnowsFrom d of_branch count (from + 1)) r s (one_known count (from + 1)) h
      (subst (λ (z : Place). KnowsPlace d (from / of_branch) (from % of_branch) z (KnowsFrom d of_branch count (from + 1)) s) same k)

one_update : (count : ℕ) (source : Bytes) (d : Descriptor) (r s : Reply) → RepliesToUpdate count source d r → RepliesToUpdate count source d s → r ≡ s
one_update count source d r s (a, h, e) (b, k, f) =
    e ∙ (ap (known_reply source) (one_known d (index_count d count) (branch_count d.body * index_count d count) 0 a b h k) ∙ sym f)

-- ---- replies to texts and to words

one_to_answer : (To : Descriptor → Reply → Type 0) (answer : Result Descriptor DescriptorFault) (r s : Reply)
    → ((d : Descriptor) (x y : Reply) → To d x → To d y → x ≡ y) → RepliesToAnswer To answer r → RepliesToAnswer To answer s → r ≡ s
one_to_answer To (Ok d) r s one h k = one d r s h k
one_to_answer To (Err why) r s one h k = h ∙ sym k

one_to_text : OneReading → (text : Bytes) (To : Descriptor → Reply → Type 0) (r s : Reply) → IsUtf8 text
    → ((d : Descriptor) (x y : Reply) → To d x → To d y → x ≡ y) → RepliesToText text To r → RepliesToText text To s → r ≡ s
one_to_text one_reading text To r s utf8 one (a, reads, h) (b, also, k) =
    one_to_answer To a r s one h (subst (λ (z : Result Descriptor DescriptorFault). RepliesToAnswer To z s) (one_reading text b a utf8 also reads) k)

one_to_words : OneReading → (o : Option Command) (source : Bytes) (r s : Reply) → AskUtf8 o → RepliesToWords o source r → RepliesToWords o source s → r ≡ s
one_to_words law None source r s utf8 h k = h ∙ sym k
one_to_words law (Some (check text)) source r s utf8 h k = one_to_text law text (RepliesToCheck text) r s utf8 (one_check text) h k
one_to_words law (Some (derive asked)) source r s utf8 h k =
    one_to_text law asked.text (RepliesToDerive asked) r s utf8 (λ d x y. one_by_bar d asked (bar_of d asked) x y) h k
one_to_words law (Some (update text count)) source r s utf8 h k = one_to_text law text (RepliesToUpdate count source) r s utf8 (one_update count source) h k

pub one_answer : OneReading → (words : List Bytes) (source : Bytes) (s t : Status) (p q : Bytes) → AskUtf8 (command_of words)
    → Answer words source s p → Answer words source t q → (s ≡ t) × (p ≡ q)
one_answer law words source s t p q utf8 a b =
    let same = one_to_words law (command_of words) source (reply s p) (reply t q) utf8 a.replies b.replies in
    (ap (λ (z : Reply). z.status) same, ap (λ (z : Reply). z.report) same)

-- ---- what the source holds

alike : (o : Option Command) (source other : Bytes) (r : Reply) → (IsUpdate o → ⊥) → RepliesToWords o source r → RepliesToWords o other r
alike None source other r lone h = h
alike (Some (check text)) source other r lone h = h
alike (Some (derive asked)) source other r lone h = h
alike (Some (update text count)) source other r lone h = absurd (lone tt)

pub others_alike : (words : List Bytes) (source other : Bytes) (s : Status) (p : Bytes) → (IsUpdate (command_of words) → ⊥) → Answer words source s p → Answer words other s p
others_alike words source other s p lone a = record { replies = alike (command_of words) source other (reply s p) lone a.replies }

-- ---- statuses

check_answered : (text : Bytes) (d : Descriptor) (r : Reply) → RepliesToCheck text d r → IsAnswered r.status
check_answered text d r (of_key key, at, e) = subst (λ (z : Reply). IsAnswered z.status) (sym e) tt
check_answered text d r (of_tree keys tree, at, e) = subst (λ (z : Reply). IsAnswered z.status) (sym e) tt
check_answered text d r (nothing reason, at, e) = subst (λ (z : Reply). IsAnswered z.status) (sym e) tt

listed_answered : (listed : Result Bytes Bytes) → IsAnswered (listed_reply listed).status
listed_answered (Ok lines) = tt
listed_answered (Err line) = tt

bar_answered : (bar : Option Bytes) (d : Descriptor) (asked : Derivation) (r : Reply) → RepliesByBar bar d asked r → IsAnswered r.status
bar_answered (Some line) d asked r e = subst (λ (z : Reply). IsAnswered z.status) (sym e) tt
bar_answered None d asked r (listed, h, e) = subst (λ (z : Reply). IsAnswered z.status) (sym e) (listed_answered listed)

text_answered : (To : Descriptor → Reply → Type 0) (answer : Result Descriptor DescriptorFault) (r : Reply)
    → ((d : Descriptor) → To d r → IsAnswered r.status) → RepliesToAnswer To answer r → IsAnswered r.status
text_answered To (Ok d) r status h = status d h
text_answered To (Err why) r status e = subst (λ (z : Reply). IsAnswered z.status) (sym e) tt

updated_answered : (form : Form) (o : Result (Psbt × Bool) ℕ) → IsAnswered (updated_reply form o).status
updated_answered form (Ok (whole, true)) = tt
updated_answered form (Ok (whole, false)) = tt
updated_answered form (Err at) = tt

psbt_answered : (known : List Known) (form : Form) (o : Result Psbt Refusal) → IsAnswered (psbt_reply known form o).status
psbt_answered known form (Ok psbt) = updated_answered form (update_of known psbt)
psbt_answered known form (Err refusal) = tt

known_answered : (source : Bytes) (o : Result (List Known) Bytes) → IsAnswered (known_reply source o).status
known_answered source (Ok known) = psbt_answered known (form_of source) (psbt_of source)
known_answered source (Err line) = tt

update_answered : (count : ℕ) (source : Bytes) (d : Descriptor) (r : Reply) → RepliesToUpdate count source d r → IsAnswered r.status
update_answered count source d r (known, h, e) = subst (λ (z : Reply). IsAnswered z.status) (sym e) (known_answered source known)

words_answered : (o : Option Command) (source : Bytes) (r : Reply) → RepliesToWords o source r → IsAnswered r.status
words_answered None source r e = subst (λ (z : Reply). IsAnswered z.status) (sym e) tt
words_answered (Some (check text)) source r (a, reads, h) = text_answered (RepliesToCheck text) a r (λ d. check_answered text d r) h
words_answered (Some (update text count)) source r (a, reads, h) = text_answered (RepliesToUpdate count source) a r (λ d. update_answered count source d r) h
words_answered (Some (derive asked)) source r (a, reads, h) = text_answered (RepliesToDerive asked) a r (λ d. bar_answered (bar_of d asked) d asked r) h

pub answers_have_status : (words : List Bytes) (source : Bytes) (s : Status) (p : Bytes) → Answer words source s p → IsAnswered s
answers_have_status words source s p a = words_answered (command_of words) source (reply s p) a.replies
