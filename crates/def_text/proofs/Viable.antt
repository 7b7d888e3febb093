-- Tokens begin a spelled text exactly where the machine takes them.
use Rattle.std.proofs.Common.{◌≡◌, ℕ, ◌+◌, Bool, true, false, ◌&&◌, List, [], ◌∷◌, ◌++◌, Option, Some, None, codes, refl, sym, ap, ◌∙◌, subst, append_assoc, append-nil, arith}
use Rattle.std.specs.Prelude.{⊤}
use Rattle.std.specs.Option.{option_and_then}
use Rattle.std.specs.Str.{IsUtf8}
use Rattle.std.proofs.lemmas.Str.{IsUtf8-append}
use Rattle.hex.proofs.OnLiterals.{hex_on_literals}
use Rattle.def_script.specs.Bytes.{Bytes}
use Rattle.def_tree.specs.Tree.{Tree}
use Rattle.def_text.specs.Token.{Token, word, offset, tokens, tokens_from}
use Rattle.def_text.specs.Letter.{letter_tree}
use Rattle.def_text.specs.Word.{key_of}
use Rattle.def_text.specs.Refusal.{IsViable, MayBegin}
use Rattle.def_text.specs.Scaffolding.Reader.{Leaf, leaf_pk_k, leaf_of, Head, Want, expression, leaf_open, finished, Frame, letter_frame, State, START, begin, step_word, comma_behind, closing_behind, step, behind, offsets_behind}
use Rattle.def_text.proofs.Complete.{complete_text}
use Rattle.def_text.proofs.Sound.{spelled}
use Rattle.def_text.proofs.Cut.{Cut, cut, front_is_utf8, is_end, ends_word, starts_word, NoEnd}
use Rattle.def_text.proofs.Completion.{completion, completes, completion_starts, completion_is_utf8, ascii_is_utf8, is_finished, wants_word}

-- ---- some tokens, and then others

pub behind-append : (us vs : List Token) (s : State) → behind s (us ++ vs) ≡ option_and_then (λ n. behind n vs) (behind s us)
behind-append [] vs s = refl
behind-append (u ∷ us) vs s = grind (arith, behind-append us vs)

pub some_first : (f : State → Option State) (o : Option State) (r : State) → option_and_then f o ≡ Some r →
    (n : State) × (o ≡ Some n) × (f n ≡ Some r)
some_first f None r h = absurd (cc)
some_first f (Some n) r h = (n, refl, h)

-- the machine takes the front of a spelled text
pub viable_goes : {us : List Token} → IsViable us → (n : State) × (behind START us ≡ Some n)
viable_goes {us = us} v =
    let whole : behind START (us ++ v.after) ≡ Some (finished v.tree, [], v.offsets) =
    ap (behind START) (sym v.split) ∙ complete_text v.spelled in
    let (n, e, rest) = some_first (λ n. behind n v.after) (behind START us) (finished v.tree, [], v.offsets)
    (sym (behind-append us v.after START) ∙ whole) in
    (n, e)

-- ---- what is wanted behind a word, and behind tokens that aren't the end

abbrev NextWant : (Want → Bool) → Option State → Type 0
NextWant test None = ⊤
NextWant test (Some n) = test n.0 ≡ false

next_want : (test : Want → Bool) (o : Option State) (n : State) → NextWant test o → o ≡ Some n → test n.0 ≡ false
next_want test o n h e = let k : NextWant test (Some n) = subst (NextWant test) e h in k

head_wants : (head : Head) (a : ℕ) (fs : List Frame) (os : List ℕ) → NextWant wants_word (begin head a fs os)
head_wants head a fs os = grind arith

step_wants : (s : State) (t : Token) → ends_word (t ∷ []) ≡ true → NextWant wants_word (step s t)
step_wants s (word a w) h = grind (arith, head_wants)
step_wants s t h = absurd (cc)

-- no word is wanted behind a word
behind_word : (us : List Token) (s n : State) → behind s us ≡ Some n → ends_word us ≡ true → wants_word n.0 ≡ false
behind_word [] s n h w = absurd (cc)
behind_word (u ∷ []) s n h w =
    let (m, e, same) = some_first (λ m. Some m) (step s u) n h in
    next_want wants_word (step s u) n (step_wants s u w) (e ∙ same)
behind_word (u ∷ v ∷ us) s n h w =
    let (m, e, rest) = some_first (λ m. behind m (v ∷ us)) (step s u) n h in
    behind_word (v ∷ us) m n rest w

closed_goes : (x : Tree) (fs : List Frame) (os : List ℕ) → NextWant is_finished (closing_behind x fs os)
closed_goes x [] os = tt
closed_goes x (letter_frame l a ∷ fs) os = closed_goes (letter_tree l x) fs (os ++ offsets_behind l a)
closed_goes x (frame ∷ fs) os = grind arith

next_goes : (x : Tree) (fs : List Frame) (os : List ℕ) → NextWant is_finished (comma_behind x fs os)
next_goes x [] os = tt
next_goes x (letter_frame l a ∷ fs) os = next_goes (letter_tree l x) fs (os ++ offsets_behind l a)
next_goes x (frame ∷ fs) os = grind arith

step_goes : (s : State) (t : Token) → is_end t ≡ false → NextWant is_finished (step s t)
step_goes s t = grind (arith, closed_goes, next_goes)

-- a text isn't finished behind tokens of which none is the end
unfinished : (us : List Token) (s n : State) → NoEnd us → is_finished s.0 ≡ false → behind s us ≡ Some n → is_finished n.0 ≡ false
unfinished [] s n none f h = let e : s ≡ n = cc in subst (λ (r : State). is_finished r.0 ≡ false) e f
unfinished (u ∷ us) s n (first, others) f h =
    let (m, e, rest) = some_first (λ m. behind m us) (step s u) n h in
    unfinished us m n others (next_want is_finished (step s u) m (step_goes s u first) e) rest

-- ---- a text that goes on from a state

unjoined : (us : List Token) (w : Bool) (n : State) (at : ℕ) → ends_word us ≡ w → behind START us ≡ Some n →
    (w && starts_word (tokens_from at (completion n.0 n.1))) ≡ false
unjoined us true n at e h = completion_starts n.0 n.1 at (behind_word us START n h e)
unjoined us false n at e h = refl

-- other bytes in the place of the rest of a text, which the machine reads to the end
other_text : (text : Bytes) (us : List Token) (t : Token) (after : List Token) (n : State)
    (later : Bytes) (vs ws : List Token) (z : Tree) (zs : List ℕ) →
    IsUtf8 text → tokens text ≡ us ++ t ∷ after → behind START us ≡ Some n → IsUtf8 later →
    (ends_word us && starts_word (tokens_from (offset t) later)) ≡ false → tokens_from (offset t) later ≡ vs ++ ws →
    behind n (vs ++ ws) ≡ Some (finished z, [], zs) → IsViable (us ++ vs)
other_text text us t after n later vs ws z zs utf8 split goes later_utf8 join same ends =
    let c : Cut 0 text us t = cut text 0 us t after split in
    let read : tokens (c.front ++ later) ≡ us ++ (vs ++ ws) = c.same later join ∙ ap (λ r. us ++ r) same in
    let last : behind START (us ++ (vs ++ ws)) ≡ Some (finished z, [], zs) =
    behind-append us (vs ++ ws) START ∙ (ap (λ o. option_and_then (λ m. behind m (vs ++ ws)) o) goes ∙ ends) in
    record {
      text = c.front ++ later;
      after = ws;
      tree = z;
      offsets = zs;
      utf8 = IsUtf8-append c.front later (front_is_utf8 c utf8) later_utf8;
      split = read ∙ sym (append_assoc us vs ws);
      spelled = spelled (tokens (c.front ++ later)) z [] zs (ap (behind START) read ∙ last);
    }

-- tokens of a text that the machine takes, and that aren't all, begin a spelled text
pub goes_viable : (text : Bytes) (us : List Token) (t : Token) (after : List Token) (n : State) →
    IsUtf8 text → tokens text ≡ us ++ t ∷ after → behind START us ≡ Some n → IsViable us
goes_viable text us t after n utf8 split goes =
    let c : Cut 0 text us t = cut text 0 us t after split in
    let (z, zs, ends) = completes n.0 n.1 n.2 (offset t) (unfinished us START n c.no_end refl goes) in
    subst IsViable (append-nil us)
    (other_text text us t after n (completion n.0 n.1) [] (tokens_from (offset t) (completion n.0 n.1)) z zs utf8 split goes
    (completion_is_utf8 n.0 n.1) (unjoined us (ends_word us) n (offset t) refl goes) refl ends)

-- ---- where an expression may begin

-- no word stands before a word that is wanted
wanted : (us : List Token) (w q : Bool) (fs : List Frame) (os : List ℕ) → ends_word us ≡ w →
    behind START us ≡ Some (expression, fs, os) →
    (w && q) ≡ false
wanted us true q fs os e h = let k = behind_word us START (expression, fs, os) h e in absurd (cc)
wanted us false q fs os e h = refl

-- where an expression is wanted before a token of a text, it may begin there
pub may_begin : (text : Bytes) (us : List Token) (t : Token) (after : List Token) (fs : List Frame) (os : List ℕ) →
    IsUtf8 text → tokens text ≡ us ++ t ∷ after → behind START us ≡ Some (expression, fs, os) → MayBegin us (offset t)
may_begin text us t after fs os utf8 split goes =
    let later : Bytes = codes "pk_k" ++ completion (leaf_open leaf_pk_k) fs in
    let (z, zs, ends) = completes (leaf_open leaf_pk_k) fs (os ++ offset t ∷ []) (offset t + 1 + 1 + 1 + 1) refl in
    other_text text us t after (expression, fs, os) later (word (offset t) (codes "pk_k") ∷ [])
    (tokens_from (offset t + 1 + 1 + 1 + 1) (completion (leaf_open leaf_pk_k) fs)) z zs utf8 split goes
    (IsUtf8-append (codes "pk_k") (completion (leaf_open leaf_pk_k) fs) (ascii_is_utf8 (codes "pk_k") refl)
    (completion_is_utf8 (leaf_open leaf_pk_k) fs))
    (wanted us (ends_word us) (starts_word (tokens_from (offset t) later)) fs os refl goes) refl ends

-- `pk_k` is no key, no hash value and no number
no_leaf : (leaf : Leaf) → leaf_of leaf (codes "pk_k") ≡ None
unfolding hex_on_literals
no_leaf leaf = grind arith

no_key : key_of (codes "pk_k") ≡ None
unfolding hex_on_literals
no_key = refl

-- where the name `pk_k` can stand, an expression is wanted
name_stands : (want : Want) (a : ℕ) (fs : List Frame) (os : List ℕ) (n : State) → step_word want a (codes "pk_k") fs os ≡ Some n →
    want ≡ expression
name_stands expression a fs os n h = refl
name_stands want a fs os n h = grind (arith, no_leaf, no_key)

pub begins_expression : (us : List Token) (a : ℕ) (s : State) → behind START us ≡ Some s → MayBegin us a → s.0 ≡ expression
begins_expression us a s goes v =
    let (n, e) = viable_goes v in
    let split : option_and_then (λ m. behind m (word a (codes "pk_k") ∷ [])) (behind START us) ≡ Some n =
    sym (behind-append us (word a (codes "pk_k") ∷ []) START) ∙ e in
    let there : behind s (word a (codes "pk_k") ∷ []) ≡ Some n =
    sym (ap (λ o. option_and_then (λ m. behind m (word a (codes "pk_k") ∷ [])) o) goes) ∙ split in
    let (m, f, same) = some_first (λ m. Some m) (step_word s.0 a (codes "pk_k") s.1 s.2) n there in
    name_stands s.0 a s.1 s.2 m f
