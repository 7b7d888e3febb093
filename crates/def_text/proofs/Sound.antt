-- What the machine reads is spelled: what fills a next state and the token before it fill the state.
use Rattle.std.proofs.Common.{◌≡◌, ℕ, ◌+◌, List, [], ◌∷◌, ◌++◌, Option, Some, None, refl, sym, ap, ◌∙◌, subst, append_assoc, append-nil}
use Rattle.std.specs.Option.{option_and_then, option_map}
use Rattle.def_script.specs.Bytes.{Bytes}
use Rattle.def_tree.specs.declared.Wrapper.TheVariants.{C}
use Rattle.def_tree.specs.Tree.{Key, Tree, Trees, just_0, just_1, pk_k, pk_h, older, after, hash, and_or, thresh, multi, wrap, none, more}
use Rattle.def_text.specs.Token.{Token, word, opening, closing, comma, colon, other, end}
use Rattle.def_text.specs.Word.{key_of, number_of, hash_of}
use Rattle.def_text.specs.Letter.{Letter, letter_tree, letters_tree, letters_offsets, letter_word}
use Rattle.def_text.specs.Spells.{call, Spells, text_0, text_1, text_pk_k, text_pk_h, text_pk, text_pkh, text_older, text_after, text_hash, text_andor, text_two, text_and_n, text_thresh, text_multi, text_letters, SpellsChildren, last_child, next_child, SpellsKeys, last_key, next_key, SpellsText, text_whole}
use Rattle.def_text.specs.Scaffolding.Reader.{Leaf, leaf_pk_k, leaf_pk_h, leaf_pk, leaf_pkh, leaf_older, leaf_after, leaf_hash, leaf_name, leaf_of, leaf_offsets, Pair, pair_two, pair_and_n, pair_name, pair_tree, pair_offsets, Form, form_0, form_1, form_leaf, form_andor, form_pair, form_thresh, form_multi, form_name, Head, named, run, neither, head_of, Want, expression, colon_next, leaf_open, leaf_word, leaf_close, andor_open, pair_open, thresh_open, thresh_number, thresh_comma, multi_open, multi_number, multi_comma, multi_key, multi_next, ended, finished, Frame, letter_frame, andor_first, andor_second, andor_third, pair_first, pair_second, thresh_child, State, START, joined, offsets_before, offsets_behind, begin_form, run_frames, run_offsets, begin, comma_behind, closing_behind, end_behind, step_word, step_opening, step_closing, step_comma, step_colon, step_end, step, behind}
use Rattle.def_text.proofs.Words.{name_of_head, letters_of_head}
use Rattle.def_text.proofs.Complete.{joined_assoc, offsets_of_letter}
use Rattle.def_text.proofs.Fills.{OtherChildren, no_child, some_children, OtherKeys, no_key, some_keys, EndedFills, ExpressionFills, Fills, NextFills}

-- ---- fragments

-- a value that was mapped, at its result
by_value : {A : Type 0} {ts : List Token} {os : List ℕ} (f : A → Tree) (o : Option A) (x : Tree) →
    ((v : A) → o ≡ Some v → Spells ts (f v) os) → option_map f o ≡ Some x → Spells ts x os
by_value f None x h e = absurd (cc)
by_value {ts = ts} {os = os} f (Some v) x h e = let same : f v ≡ x = cc in subst (λ y. Spells ts y os) same (h v refl)

abbrev leaf_tokens : Leaf → (a b c d : ℕ) (w : Bytes) → List Token
leaf_tokens leaf a b c d w = call a (leaf_name leaf) b (word c w ∷ []) d

spells_leaf : (leaf : Leaf) (a b c d : ℕ) (w : Bytes) (x : Tree) → leaf_of leaf w ≡ Some x →
    Spells (leaf_tokens leaf a b c d w) x (leaf_offsets leaf a)
spells_leaf leaf_pk_k a b c d w x h = by_value pk_k (key_of w) x (λ v e. text_pk_k e) h
spells_leaf leaf_pk_h a b c d w x h = by_value pk_h (key_of w) x (λ v e. text_pk_h e) h
spells_leaf leaf_pk a b c d w x h = by_value (λ key. wrap C (pk_k key)) (key_of w) x (λ v e. text_pk e) h
spells_leaf leaf_pkh a b c d w x h = by_value (λ key. wrap C (pk_h key)) (key_of w) x (λ v e. text_pkh e) h
spells_leaf leaf_older a b c d w x h = by_value older (number_of w) x (λ v e. text_older e) h
spells_leaf leaf_after a b c d w x h = by_value after (number_of w) x (λ v e. text_after e) h
spells_leaf (leaf_hash kind) a b c d w x h = by_value (hash kind) (hash_of kind w) x (λ v e. text_hash kind e) h

spells_pair : (pair : Pair) (a b c d : ℕ) {xs ys : List Token} {x y : Tree} {os ps : List ℕ} → Spells xs x os → Spells ys y ps →
    Spells (call a (pair_name pair) b (xs ++ comma c ∷ ys) d) (pair_tree pair x y) (os ++ ps ++ pair_offsets pair a)
spells_pair (pair_two kind) a b c d hx hy = text_two kind c d hx hy
spells_pair pair_and_n a b c d hx hy = text_and_n c d hx hy

keys_from : (c d : ℕ) (w : Bytes) (key : Key) {ts : List Token} {keys : List Key} → key_of w ≡ Some key → OtherKeys ts keys →
    SpellsKeys (comma c ∷ word d w ∷ ts) (key ∷ keys)
keys_from c d w key h no_key = last_key h
keys_from c d w key h (some_keys others) = next_key h others

children_from : (c : ℕ) {xs ys : List Token} {x : Tree} {y : Trees} {os ps : List ℕ} → Spells xs x os → OtherChildren ys y ps →
    SpellsChildren (comma c ∷ (xs ++ ys)) (more x y) (os ++ ps)
children_from c {xs = xs} {x = x} {os = os} h no_child =
    subst (λ ts. SpellsChildren (comma c ∷ ts) (more x none) (os ++ [])) (sym (append-nil xs))
    (subst (λ ps. SpellsChildren (comma c ∷ xs) (more x none) ps) (sym (append-nil os)) (last_child h))
children_from c h (some_children others) = next_child h others

-- ---- what stands behind an expression

comma_fills : (x : Tree) (fs : List Frame) (os : List ℕ) (c : ℕ) (ts : List Token) (z : Tree) (zs : List ℕ) →
    NextFills (comma_behind x fs os) ts z zs → EndedFills fs x os (comma c ∷ ts) z zs
comma_fills x (letter_frame l a ∷ fs) os c ts z zs h = comma_fills (letter_tree l x) fs (os ++ offsets_behind l a) c ts z zs h
comma_fills x (andor_first a ∷ fs) os c ts z zs (us, rest, u, ps, e, hu, (d, f, vs, tail, v, qs, g, hv, last)) =
    (c, d, f, us, vs, tail, u, v, ps, qs, simp (e, g), hu, hv, last)
comma_fills x (andor_second y a ∷ fs) os c ts z zs (us, rest, u, ps, e, hu, (d, tail, g, last)) =
    (c, d, us, tail, u, ps, simp (e, g), hu, last)
comma_fills x (pair_first pair a ∷ fs) os c ts z zs (us, rest, u, ps, e, hu, (d, tail, g, last)) =
    (c, d, us, tail, u, ps, simp (e, g), hu, last)
comma_fills x (thresh_child k xs a ∷ fs) os c ts z zs (us, rest, u, ps, e, hu, (d, cs, tail, ys, qs, g, hy, last)) = (
  d,
  comma c ∷ (us ++ cs),
  tail,
  more u ys,
  ps ++ qs,
  simp (e, g, append_assoc),
  some_children (children_from c hu hy),
  simp append_assoc (simp (append_assoc, joined_assoc) at last),
)
comma_fills x fs os c ts z zs h = absurd h

closing_fills : (x : Tree) (fs : List Frame) (os : List ℕ) (d : ℕ) (ts : List Token) (z : Tree) (zs : List ℕ) →
    NextFills (closing_behind x fs os) ts z zs → EndedFills fs x os (closing d ∷ ts) z zs
closing_fills x (letter_frame l a ∷ fs) os d ts z zs h = closing_fills (letter_tree l x) fs (os ++ offsets_behind l a) d ts z zs h
closing_fills x (andor_third y u a ∷ fs) os d ts z zs h = (d, ts, refl, h)
closing_fills x (pair_second pair y a ∷ fs) os d ts z zs h = (d, ts, refl, h)
closing_fills x (thresh_child k xs a ∷ fs) os d ts z zs h = (
  d,
  [],
  ts,
  none,
  [],
  refl,
  no_child,
  subst (λ r. EndedFills fs (thresh k (joined xs (more x none))) (r ++ a ∷ []) ts z zs) (sym (append-nil os)) h,
)
closing_fills x fs os d ts z zs h = absurd h

end_fills : (x : Tree) (fs : List Frame) (os : List ℕ) (e : ℕ) (ts : List Token) (z : Tree) (zs : List ℕ) →
    NextFills (end_behind x fs os) ts z zs → EndedFills fs x os (end e ∷ ts) z zs
end_fills x [] os e ts z zs h = (e, ap (λ r. end e ∷ r) h.0, h.1, h.2)
end_fills x (letter_frame l a ∷ fs) os e ts z zs h = end_fills (letter_tree l x) fs (os ++ offsets_behind l a) e ts z zs h
end_fills x (frame ∷ fs) os e ts z zs h = absurd h

-- ---- where an expression begins

name_fills : (form : Form) (a : ℕ) (fs : List Frame) (os : List ℕ) (ts : List Token) (z : Tree) (zs : List ℕ) →
    NextFills (begin_form form a fs os) ts z zs → ExpressionFills fs os (word a (form_name form) ∷ ts) z zs
name_fills form_0 a fs os ts z zs h = (word a (form_name form_0) ∷ [], ts, just_0, a ∷ [], refl, text_0, h)
name_fills form_1 a fs os ts z zs h = (word a (form_name form_1) ∷ [], ts, just_1, a ∷ [], refl, text_1, h)
name_fills (form_leaf leaf) a fs os ts z zs (b, c, w, x, rest, e, h, (d, tail, g, last)) = (
  leaf_tokens leaf a b c d w,
  tail,
  x,
  leaf_offsets leaf a,
  simp (e, g),
  spells_leaf leaf a b c d w x h,
  last,
)
name_fills form_andor a fs os ts z zs (b, rest, e, (xs, tail, x, ps, g, hx, (c, d, f, us, vs, rest', u, v, qs, rs, k, hu, hv, last))) = (
  call a (form_name form_andor) b (xs ++ comma c ∷ us ++ comma d ∷ vs) f,
  rest',
  and_or x u v,
  ps ++ qs ++ rs ++ a ∷ [],
  simp (e, g, k, append_assoc),
  text_andor c d f hx hu hv,
  simp append_assoc (simp append_assoc at last),
)
name_fills (form_pair pair) a fs os ts z zs (b, rest, e, (xs, tail, x, ps, g, hx, (c, d, vs, rest', v, qs, k, hv, last))) = (
  call a (pair_name pair) b (xs ++ comma c ∷ vs) d,
  rest',
  pair_tree pair x v,
  ps ++ qs ++ pair_offsets pair a,
  simp (e, g, k, append_assoc),
  spells_pair pair a b c d hx hv,
  simp append_assoc (simp append_assoc at last),
)
name_fills form_thresh a fs os ts z zs
    (b, c, w, k, rest, e, h, (f, tail, g, (us, rest', u, ps, i, hu, (d, cs, rest'', ys, qs, j, hy, last)))) = (
      call a (form_name form_thresh) b (word c w ∷ comma f ∷ (us ++ cs)) d,
      rest'',
      thresh k (more u ys),
      ps ++ qs ++ a ∷ [],
      simp (e, g, i, j, append_assoc),
      text_thresh d h (children_from f hu hy),
      simp append_assoc (simp append_assoc at last),
    )
name_fills form_multi a fs os ts z zs
    (b, c, w, k, rest, e, h, (f, tail, g, (i, v, key, rest', j, hk, (d, cs, rest'', others, m, ho, last)))) = (
      call a (form_name form_multi) b (word c w ∷ comma f ∷ word i v ∷ cs) d,
      rest'',
      multi k (key ∷ others),
      a ∷ [],
      simp (e, g, j, m, append_assoc),
      text_multi d h (keys_from f i v key hk ho),
      last,
    )

-- letters that wait are applied to their expression
letters_fill : (a : ℕ) (ls : List Letter) (x : Tree) (fs : List Frame) (os ps : List ℕ) (ts : List Token) (z : Tree) (zs : List ℕ) →
    EndedFills (run_frames a ls fs) x (run_offsets a ls os ++ ps) ts z zs →
    EndedFills fs (letters_tree ls x) (os ++ letters_offsets a ls ps) ts z zs
letters_fill a [] x fs os ps ts z zs h = h
letters_fill a (l ∷ ls) x fs os ps ts z zs h =
    subst (λ r. EndedFills fs (letters_tree (l ∷ ls) x) r ts z zs) (offsets_of_letter l a os (letters_offsets (a + 1) ls ps))
    (letters_fill (a + 1) ls x (letter_frame l a ∷ fs) (os ++ offsets_before l a) ps ts z zs h)

run_fills : (l : Letter) (ls : List Letter) (a : ℕ) (fs : List Frame) (os : List ℕ) (ts : List Token) (z : Tree) (zs : List ℕ) →
    Fills colon_next (run_frames a (l ∷ ls) fs) (run_offsets a (l ∷ ls) os) ts z zs →
    ExpressionFills fs os (word a (letter_word (l ∷ ls)) ∷ ts) z zs
run_fills l ls a fs os ts z zs (b, rest, e, (us, tail, u, ps, g, hu, last)) = (
  word a (letter_word (l ∷ ls)) ∷ colon b ∷ us,
  tail,
  letters_tree (l ∷ ls) u,
  letters_offsets a (l ∷ ls) ps,
  simp (e, g),
  text_letters l ls hu,
  letters_fill a (l ∷ ls) u fs os ps tail z zs last,
)

head_fills : (w : Bytes) (head : Head) (a : ℕ) (fs : List Frame) (os : List ℕ) (ts : List Token) (z : Tree) (zs : List ℕ) →
    head_of w ≡ head → NextFills (begin head a fs os) ts z zs → ExpressionFills fs os (word a w ∷ ts) z zs
head_fills w (named form) a fs os ts z zs e h =
    subst (λ v. ExpressionFills fs os (word a v ∷ ts) z zs) (sym (name_of_head w form e)) (name_fills form a fs os ts z zs h)
head_fills w (run l ls) a fs os ts z zs e h =
    subst (λ v. ExpressionFills fs os (word a v ∷ ts) z zs) (sym (letters_of_head w l ls e)) (run_fills l ls a fs os ts z zs h)
head_fills w neither a fs os ts z zs e h = absurd h

-- ---- every state

-- a next state from a value
some_next : {A : Type 0} (f : A → State) (o : Option A) (ts : List Token) (z : Tree) (zs : List ℕ) →
    NextFills (option_map f o) ts z zs →
    (v : A) × (o ≡ Some v) × Fills (f v).0 (f v).1 (f v).2 ts z zs
some_next f None ts z zs h = absurd h
some_next f (Some v) ts z zs h = (v, refl, h)

word_fills : (want : Want) (a : ℕ) (w : Bytes) (fs : List Frame) (os : List ℕ) (ts : List Token) (z : Tree) (zs : List ℕ) →
    NextFills (step_word want a w fs os) ts z zs → Fills want fs os (word a w ∷ ts) z zs
word_fills expression a w fs os ts z zs h = head_fills w (head_of w) a fs os ts z zs refl h
word_fills (leaf_word leaf) a w fs os ts z zs h =
    let (x, e, rest) = some_next (λ x. (leaf_close x, fs, os)) (leaf_of leaf w) ts z zs h in
    (a, w, x, ts, refl, e, rest)
word_fills (thresh_number b) a w fs os ts z zs h =
    let (k, e, rest) = some_next (λ k. (thresh_comma k b, fs, os)) (number_of w) ts z zs h in
    (a, w, k, ts, refl, e, rest)
word_fills multi_number a w fs os ts z zs h =
    let (k, e, rest) = some_next (λ k. (multi_comma k, fs, os)) (number_of w) ts z zs h in
    (a, w, k, ts, refl, e, rest)
word_fills (multi_key k keys) a w fs os ts z zs h =
    let (key, e, rest) = some_next (λ key. (multi_next k (keys ++ key ∷ []), fs, os)) (key_of w) ts z zs h in
    (a, w, key, ts, refl, e, rest)
word_fills want a w fs os ts z zs h = absurd h

opening_fills : (want : Want) (a : ℕ) (fs : List Frame) (os : List ℕ) (ts : List Token) (z : Tree) (zs : List ℕ) →
    NextFills (step_opening want fs os) ts z zs → Fills want fs os (opening a ∷ ts) z zs
opening_fills (leaf_open leaf) a fs os ts z zs (c, w, x, rest, e, h, last) =
    (a, c, w, x, rest, ap (λ r. opening a ∷ r) e, h, last)
opening_fills (andor_open b) a fs os ts z zs h = (a, ts, refl, h)
opening_fills (pair_open pair b) a fs os ts z zs h = (a, ts, refl, h)
opening_fills (thresh_open b) a fs os ts z zs (c, w, k, rest, e, h, last) = (a, c, w, k, rest, ap (λ r. opening a ∷ r) e, h, last)
opening_fills multi_open a fs os ts z zs (c, w, k, rest, e, h, last) = (a, c, w, k, rest, ap (λ r. opening a ∷ r) e, h, last)
opening_fills want a fs os ts z zs h = absurd h

close_fills : (want : Want) (a : ℕ) (fs : List Frame) (os : List ℕ) (ts : List Token) (z : Tree) (zs : List ℕ) →
    NextFills (step_closing want fs os) ts z zs → Fills want fs os (closing a ∷ ts) z zs
close_fills (leaf_close x) a fs os ts z zs h = (a, ts, refl, h)
close_fills (multi_next k keys) a fs os ts z zs h =
    (a, [], ts, [], refl, no_key, subst (λ r. EndedFills fs (multi k r) os ts z zs) (sym (append-nil keys)) h)
close_fills (ended x) a fs os ts z zs h = closing_fills x fs os a ts z zs h
close_fills want a fs os ts z zs h = absurd h

next_key_fills : (k : ℕ) (keys : List Key) (a : ℕ) (fs : List Frame) (os : List ℕ) (ts : List Token) (z : Tree) (zs : List ℕ) →
    Fills (multi_key k keys) fs os ts z zs → Fills (multi_next k keys) fs os (comma a ∷ ts) z zs
next_key_fills k keys a fs os ts z zs (c, w, key, rest, e, h, (d, cs, tail, others, g, ho, last)) = (
  d,
  comma a ∷ word c w ∷ cs,
  tail,
  key ∷ others,
  simp (e, g),
  some_keys (keys_from a c w key h ho),
  subst (λ r. EndedFills fs (multi k r) os tail z zs) (append_assoc keys (key ∷ []) others) last,
)

commas_fill : (want : Want) (a : ℕ) (fs : List Frame) (os : List ℕ) (ts : List Token) (z : Tree) (zs : List ℕ) →
    NextFills (step_comma want fs os) ts z zs → Fills want fs os (comma a ∷ ts) z zs
commas_fill (thresh_comma k b) a fs os ts z zs h = (a, ts, refl, h)
commas_fill (multi_comma k) a fs os ts z zs h = (a, ts, refl, h)
commas_fill (multi_next k keys) a fs os ts z zs h = next_key_fills k keys a fs os ts z zs h
commas_fill (ended x) a fs os ts z zs h = comma_fills x fs os a ts z zs h
commas_fill want a fs os ts z zs h = absurd h

colon_fills : (want : Want) (a : ℕ) (fs : List Frame) (os : List ℕ) (ts : List Token) (z : Tree) (zs : List ℕ) →
    NextFills (step_colon want fs os) ts z zs → Fills want fs os (colon a ∷ ts) z zs
colon_fills colon_next a fs os ts z zs h = (a, ts, refl, h)
colon_fills want a fs os ts z zs h = absurd h

ends_fill : (want : Want) (a : ℕ) (fs : List Frame) (os : List ℕ) (ts : List Token) (z : Tree) (zs : List ℕ) →
    NextFills (step_end want fs os) ts z zs → Fills want fs os (end a ∷ ts) z zs
ends_fill (ended x) a fs os ts z zs h = end_fills x fs os a ts z zs h
ends_fill want a fs os ts z zs h = absurd h

fills_back : (want : Want) (fs : List Frame) (os : List ℕ) (t : Token) (ts : List Token) (z : Tree) (zs : List ℕ) →
    NextFills (step (want, fs, os) t) ts z zs → Fills want fs os (t ∷ ts) z zs
fills_back want fs os (word a w) ts z zs h = word_fills want a w fs os ts z zs h
fills_back want fs os (opening a) ts z zs h = opening_fills want a fs os ts z zs h
fills_back want fs os (closing a) ts z zs h = close_fills want a fs os ts z zs h
fills_back want fs os (comma a) ts z zs h = commas_fill want a fs os ts z zs h
fills_back want fs os (colon a) ts z zs h = colon_fills want a fs os ts z zs h
fills_back want fs os (other a) ts z zs h = absurd h
fills_back want fs os (end a) ts z zs h = ends_fill want a fs os ts z zs h

-- ---- whole texts

next_sound : (o : Option State) (ts : List Token) (z : Tree) (fs : List Frame) (zs : List ℕ) →
    ((n : State) → behind n ts ≡ Some (finished z, fs, zs) → Fills n.0 n.1 n.2 ts z zs) →
    option_and_then (λ n. behind n ts) o ≡ Some (finished z, fs, zs) → NextFills o ts z zs
next_sound None ts z fs zs later h = cc
next_sound (Some n) ts z fs zs later h = later n h

sound : (ts : List Token) (s : State) (z : Tree) (fs : List Frame) (zs : List ℕ) → behind s ts ≡ Some (finished z, fs, zs) →
    Fills s.0 s.1 s.2 ts z zs
sound [] s z fs zs h =
    let e : s ≡ (finished z, fs, zs) = cc in
    subst (λ (r : State). Fills r.0 r.1 r.2 [] z zs) (sym e) (refl, refl, refl)
sound (t ∷ ts) s z fs zs h =
    fills_back s.0 s.1 s.2 t ts z zs (next_sound (step s t) ts z fs zs (λ n. sound ts n z fs zs) h)

-- what the machine reads from the start is a spelled text
pub spelled : (ts : List Token) (z : Tree) (fs : List Frame) (zs : List ℕ) → behind START ts ≡ Some (finished z, fs, zs) →
    SpellsText ts z zs
spelled ts z fs zs h =
    let (us, rest, u, ps, e, hu, (f, g, same_tree, same_offsets)) = sound ts START z fs zs h in
    let split : ts ≡ us ++ end f ∷ [] = e ∙ ap (λ r. us ++ r) g in
    subst (λ r. SpellsText r z zs) (sym split)
    (subst (λ r. SpellsText (us ++ end f ∷ []) z r) same_offsets
    (subst (λ r. SpellsText (us ++ end f ∷ []) r ps) same_tree (text_whole f hu)))
