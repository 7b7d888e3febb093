-- A letter in a part of a fragment's tokens is one in the fragment's.
use Rattle.std.proofs.Common.{◌≡◌, ℕ, zero, suc, ◌+◌, ◌≤◌, false, List, [], ◌∷◌, ◌++◌, map, codes, length-append, slice_index, length, refl, sym, ap, ◌∙◌, subst, arith}
use Rattle.std.proofs.lemmas.List.{map-append, append_assoc, append-nil}
use Rattle.def_script.specs.Bytes.{Bytes}
use Rattle.def_tree.specs.declared.Two.{Two}
use Rattle.def_tree.specs.Size.{nodes}
use Rattle.def_tree.specs.Tree.{Tree, Trees, just_0, and_or, two, thresh, none, more}
use Rattle.def_text.specs.Token.{Token, word, opening, closing, comma, colon}
use Rattle.def_text.specs.Word.{two_name, number_of}
use Rattle.def_text.specs.Letter.{Letter, letter_word, letter_tree, letters_tree, letters_offsets}
use Rattle.def_text.specs.Spells.{call, Spells, text_andor, text_two, text_and_n, text_thresh, text_letters, SpellsChildren, last_child, next_child, text_whole}
use Rattle.def_text.proofs.Cut.{ends_word}
use Rattle.def_text.proofs.OffsetCount.{count_text}
use Rattle.std.specs.Prelude.{Some}
use Rattle.ms_outline_laws.proofs.Moved.{moved, SpellsTree, SpellsTrees, moves, moves_children}
use Rattle.ms_outline_laws.proofs.Holes.{Hole, in_part, ends_append, ends_other, begins, before_root}

-- ---- places

pub place_front : (xs ys : List ℕ) (i : ℕ) → suc i ≤ length xs → slice_index (xs ++ ys) i ≡ slice_index xs i
place_front [] ys i h = absurd (omega (arith, h))
place_front (x ∷ xs) ys zero h = refl
place_front (x ∷ xs) ys (suc i) h = place_front xs ys i (omega (arith, h))

pub place_back : (xs ys : List ℕ) (i k : ℕ) → i ≡ length xs + k → slice_index (xs ++ ys) i ≡ slice_index ys k
place_back [] ys i k e = let same : i ≡ k = omega (arith, e) in ap (slice_index ys) same
place_back (x ∷ xs) ys zero k e = absurd (omega (arith, e))
place_back (x ∷ xs) ys (suc i) k e = place_back xs ys i k (omega (arith, e))

pub count : {ts : List Token} {x : Tree} {os : List ℕ} → Spells ts x os → length os ≡ nodes x
count h = count_text (text_whole 0 h)

-- the letter before an expression
pub root_hole : {ts : List Token} {x : Tree} {os : List ℕ} (L : Letter) → Spells ts x os → (k : ℕ) → k + 1 ≡ nodes x → Hole L ts (slice_index os k) (SpellsTree (letter_tree L x))
root_hole {ts = ts} {x = x} {os = os} L h k e =
    let b = begins h in
    let long : length (b.init ++ b.at ∷ []) ≡ nodes x = ap length (sym b.last) ∙ count h in
    subst (λ at. Hole L ts at (SpellsTree (letter_tree L x)))
    (sym (ap (λ l. slice_index l k) b.last ∙ place_back b.init (b.at ∷ []) k 0 (omega (arith, e, long, length-append b.init (b.at ∷ [])))))
    (before_root L b h)

-- ---- the arguments of a fragment

first_argument : (a : ℕ) (name : Bytes) (b : ℕ) (us : List Token) (c : ℕ) (ys : List Token) (d : ℕ) →
    call a name b (us ++ comma c ∷ ys) d ≡ (word a name ∷ opening b ∷ []) ++ (us ++ comma c ∷ (ys ++ closing d ∷ []))
first_argument a name b us c ys d = ap (λ r. word a name ∷ opening b ∷ r) (append_assoc us (comma c ∷ ys) (closing d ∷ []))

last_argument : (a : ℕ) (name : Bytes) (b : ℕ) (xs : List Token) (c : ℕ) (us : List Token) (d : ℕ) →
    call a name b (xs ++ comma c ∷ us) d ≡ (word a name ∷ opening b ∷ (xs ++ comma c ∷ [])) ++ (us ++ closing d ∷ [])
last_argument a name b xs c us d =
    ap (λ r. word a name ∷ opening b ∷ r) (append_assoc xs (comma c ∷ us) (closing d ∷ []) ∙ sym (append_assoc xs (comma c ∷ []) (us ++ closing d ∷ [])))

last_ends : (a : ℕ) (name : Bytes) (b : ℕ) (xs : List Token) (c : ℕ) (f : List Token) → ends_word f ≡ false →
    ends_word ((word a name ∷ opening b ∷ (xs ++ comma c ∷ [])) ++ f) ≡ false
last_ends a name b xs c f h = ends_append (word a name ∷ opening b ∷ (xs ++ comma c ∷ [])) f (ends_other (word a name ∷ opening b ∷ xs) (comma c) refl) h

first_ends : (a : ℕ) (name : Bytes) (b : ℕ) (f : List Token) → ends_word f ≡ false → ends_word ((word a name ∷ opening b ∷ []) ++ f) ≡ false
first_ends a name b f h = ends_append (word a name ∷ opening b ∷ []) f refl h

moved_end : (ys : List Token) (c d : ℕ) → map (moved 2) (comma c ∷ (ys ++ closing d ∷ [])) ≡ comma (c + 2) ∷ (map (moved 2) ys ++ closing (d + 2) ∷ [])
moved_end ys c d = ap (λ r. comma (c + 2) ∷ r) (map-append (moved 2) ys (closing d ∷ []))

pub in_left : {L : Letter} {xs ys : List Token} {x y : Tree} {ps : List ℕ} {a b at : ℕ} (kind : Two) (c d : ℕ) → Spells ys y ps →
    Hole L xs at (SpellsTree x) → Hole L (call a (two_name kind) b (xs ++ comma c ∷ ys) d) at (SpellsTree (two kind x y))
in_left {xs = xs} {ys = ys} {x = x} {y = y} {a = a} {b = b} kind c d hy h =
    in_part (word a (two_name kind) ∷ opening b ∷ []) (comma c ∷ (ys ++ closing d ∷ [])) (first_argument a (two_name kind) b xs c ys d)
    (λ vs g.
    let (ps, gy) = moves 2 hy in (
      g.0 ++ ps ++ a ∷ [],
      subst (λ ts. Spells ts (two kind x y) (g.0 ++ ps ++ a ∷ []))
          (first_argument a (two_name kind) b vs (c + 2) (map (moved 2) ys) (d + 2) ∙ ap (λ r. word a (two_name kind) ∷ opening b ∷ (vs ++ r)) (sym (moved_end ys c d)))
          (text_two {a = a} {b = b} kind (c + 2) (d + 2) g.1 gy),
    ))
    h (first_ends a (two_name kind) b h.front h.apart)

pub in_right : {L : Letter} {xs ys : List Token} {x y : Tree} {os : List ℕ} {a b at : ℕ} (kind : Two) (c d : ℕ) → Spells xs x os →
    Hole L ys at (SpellsTree y) → Hole L (call a (two_name kind) b (xs ++ comma c ∷ ys) d) at (SpellsTree (two kind x y))
in_right {xs = xs} {ys = ys} {x = x} {y = y} {os = os} {a = a} {b = b} kind c d hx h =
    in_part (word a (two_name kind) ∷ opening b ∷ (xs ++ comma c ∷ [])) (closing d ∷ []) (last_argument a (two_name kind) b xs c ys d)
    (λ vs g. (
      os ++ g.0 ++ a ∷ [],
      subst (λ ts. Spells ts (two kind x y) (os ++ g.0 ++ a ∷ [])) (last_argument a (two_name kind) b xs c vs (d + 2))
          (text_two {a = a} {b = b} kind c (d + 2) hx g.1),
    ))
    h (last_ends a (two_name kind) b xs c h.front h.apart)

pub in_n_left : {L : Letter} {xs ys : List Token} {x y : Tree} {ps : List ℕ} {a b at : ℕ} (c d : ℕ) → Spells ys y ps →
    Hole L xs at (SpellsTree x) → Hole L (call a (codes "and_n") b (xs ++ comma c ∷ ys) d) at (SpellsTree (and_or x y just_0))
in_n_left {xs = xs} {ys = ys} {x = x} {y = y} {a = a} {b = b} c d hy h =
    in_part (word a (codes "and_n") ∷ opening b ∷ []) (comma c ∷ (ys ++ closing d ∷ [])) (first_argument a (codes "and_n") b xs c ys d)
    (λ vs g.
    let (ps, gy) = moves 2 hy in (
      g.0 ++ ps ++ a ∷ a ∷ [],
      subst (λ ts. Spells ts (and_or x y just_0) (g.0 ++ ps ++ a ∷ a ∷ []))
          (first_argument a (codes "and_n") b vs (c + 2) (map (moved 2) ys) (d + 2) ∙ ap (λ r. word a (codes "and_n") ∷ opening b ∷ (vs ++ r)) (sym (moved_end ys c d)))
          (text_and_n {a = a} {b = b} (c + 2) (d + 2) g.1 gy),
    ))
    h (first_ends a (codes "and_n") b h.front h.apart)

pub in_n_right : {L : Letter} {xs ys : List Token} {x y : Tree} {os : List ℕ} {a b at : ℕ} (c d : ℕ) → Spells xs x os →
    Hole L ys at (SpellsTree y) → Hole L (call a (codes "and_n") b (xs ++ comma c ∷ ys) d) at (SpellsTree (and_or x y just_0))
in_n_right {xs = xs} {ys = ys} {x = x} {y = y} {os = os} {a = a} {b = b} c d hx h =
    in_part (word a (codes "and_n") ∷ opening b ∷ (xs ++ comma c ∷ [])) (closing d ∷ []) (last_argument a (codes "and_n") b xs c ys d)
    (λ vs g. (
      os ++ g.0 ++ a ∷ a ∷ [],
      subst (λ ts. Spells ts (and_or x y just_0) (os ++ g.0 ++ a ∷ a ∷ [])) (last_argument a (codes "and_n") b xs c vs (d + 2))
          (text_and_n {a = a} {b = b} c (d + 2) hx g.1),
    ))
    h (last_ends a (codes "and_n") b xs c h.front h.apart)

-- ---- `andor`

three_first : (a b : ℕ) (us : List Token) (c : ℕ) (ys : List Token) (d : ℕ) (zs : List Token) (e : ℕ) →
    call a (codes "andor") b (us ++ comma c ∷ ys ++ comma d ∷ zs) e
    ≡ (word a (codes "andor") ∷ opening b ∷ []) ++ (us ++ comma c ∷ (ys ++ comma d ∷ (zs ++ closing e ∷ [])))
three_first a b us c ys d zs e =
    ap (λ r. word a (codes "andor") ∷ opening b ∷ r)
    (append_assoc (us ++ comma c ∷ ys) (comma d ∷ zs) (closing e ∷ []) ∙ append_assoc us (comma c ∷ ys) (comma d ∷ (zs ++ closing e ∷ [])))

three_second : (a b : ℕ) (xs : List Token) (c : ℕ) (us : List Token) (d : ℕ) (zs : List Token) (e : ℕ) →
    call a (codes "andor") b (xs ++ comma c ∷ us ++ comma d ∷ zs) e
    ≡ (word a (codes "andor") ∷ opening b ∷ (xs ++ comma c ∷ [])) ++ (us ++ comma d ∷ (zs ++ closing e ∷ []))
three_second a b xs c us d zs e =
    three_first a b xs c us d zs e
    ∙ ap (λ r. word a (codes "andor") ∷ opening b ∷ r) (sym (append_assoc xs (comma c ∷ []) (us ++ comma d ∷ (zs ++ closing e ∷ []))))

pub in_x : {L : Letter} {xs ys zs : List Token} {x y z : Tree} {ps qs : List ℕ} {a b at : ℕ} (c d e : ℕ) → Spells ys y ps → Spells zs z qs →
    Hole L xs at (SpellsTree x) → Hole L (call a (codes "andor") b (xs ++ comma c ∷ ys ++ comma d ∷ zs) e) at (SpellsTree (and_or x y z))
in_x {xs = xs} {ys = ys} {zs = zs} {x = x} {y = y} {z = z} {a = a} {b = b} c d e hy hz h =
    in_part (word a (codes "andor") ∷ opening b ∷ []) (comma c ∷ (ys ++ comma d ∷ (zs ++ closing e ∷ []))) (three_first a b xs c ys d zs e)
    (λ vs g.
    let (ps, gy) = moves 2 hy in
    let (qs, gz) = moves 2 hz in
    let rest : map (moved 2) (comma c ∷ (ys ++ comma d ∷ (zs ++ closing e ∷ []))) ≡ comma (c + 2) ∷ (map (moved 2) ys ++ comma (d + 2) ∷ (map (moved 2) zs ++ closing (e + 2) ∷ [])) =
    ap (λ r. comma (c + 2) ∷ r) (map-append (moved 2) ys (comma d ∷ (zs ++ closing e ∷ [])) ∙ ap (λ r. map (moved 2) ys ++ r) (moved_end zs d e)) in (
      g.0 ++ ps ++ qs ++ a ∷ [],
      subst (λ ts. Spells ts (and_or x y z) (g.0 ++ ps ++ qs ++ a ∷ []))
          (three_first a b vs (c + 2) (map (moved 2) ys) (d + 2) (map (moved 2) zs) (e + 2) ∙ ap (λ r. word a (codes "andor") ∷ opening b ∷ (vs ++ r)) (sym rest))
          (text_andor {a = a} {b = b} (c + 2) (d + 2) (e + 2) g.1 gy gz),
    ))
    h (first_ends a (codes "andor") b h.front h.apart)

pub in_y : {L : Letter} {xs ys zs : List Token} {x y z : Tree} {os qs : List ℕ} {a b at : ℕ} (c d e : ℕ) → Spells xs x os → Spells zs z qs →
    Hole L ys at (SpellsTree y) → Hole L (call a (codes "andor") b (xs ++ comma c ∷ ys ++ comma d ∷ zs) e) at (SpellsTree (and_or x y z))
in_y {xs = xs} {ys = ys} {zs = zs} {x = x} {y = y} {z = z} {os = os} {a = a} {b = b} c d e hx hz h =
    in_part (word a (codes "andor") ∷ opening b ∷ (xs ++ comma c ∷ [])) (comma d ∷ (zs ++ closing e ∷ [])) (three_second a b xs c ys d zs e)
    (λ vs g.
    let (qs, gz) = moves 2 hz in (
      os ++ g.0 ++ qs ++ a ∷ [],
      subst (λ ts. Spells ts (and_or x y z) (os ++ g.0 ++ qs ++ a ∷ []))
          (three_second a b xs c vs (d + 2) (map (moved 2) zs) (e + 2)
          ∙ ap (λ r. (word a (codes "andor") ∷ opening b ∷ (xs ++ comma c ∷ [])) ++ (vs ++ r)) (sym (moved_end zs d e)))
          (text_andor {a = a} {b = b} c (d + 2) (e + 2) hx g.1 gz),
    ))
    h (last_ends a (codes "andor") b xs c h.front h.apart)

pub in_z : {L : Letter} {xs ys zs : List Token} {x y z : Tree} {os ps : List ℕ} {a b at : ℕ} (c d e : ℕ) → Spells xs x os → Spells ys y ps →
    Hole L zs at (SpellsTree z) → Hole L (call a (codes "andor") b (xs ++ comma c ∷ ys ++ comma d ∷ zs) e) at (SpellsTree (and_or x y z))
in_z {xs = xs} {ys = ys} {zs = zs} {x = x} {y = y} {z = z} {os = os} {ps = ps} {a = a} {b = b} c d e hx hy h =
    in_part (word a (codes "andor") ∷ opening b ∷ ((xs ++ comma c ∷ ys) ++ comma d ∷ [])) (closing e ∷ []) (last_argument a (codes "andor") b (xs ++ comma c ∷ ys) d zs e)
    (λ vs g. (
      os ++ ps ++ g.0 ++ a ∷ [],
      subst (λ ts. Spells ts (and_or x y z) (os ++ ps ++ g.0 ++ a ∷ [])) (last_argument a (codes "andor") b (xs ++ comma c ∷ ys) d vs (e + 2))
          (text_andor {a = a} {b = b} c d (e + 2) hx hy g.1),
    ))
    h (last_ends a (codes "andor") b (xs ++ comma c ∷ ys) d h.front h.apart)

-- ---- `thresh` and letters

ends_seam : (p : List Token) (t : Token) (f : List Token) → ends_word (t ∷ f) ≡ false → ends_word (p ++ t ∷ f) ≡ false
ends_seam [] t f h = h
ends_seam (u ∷ []) t f h = h
ends_seam (u ∷ v ∷ p) t f h = ends_seam (v ∷ p) t f h

-- what begins with a comma
comma_ends : (p f : List Token) (c : ℕ) (us : List Token) (n : ℕ) (w : Bytes) (back : List Token) → comma c ∷ us ≡ f ++ word n w ∷ back → ends_word f ≡ false →
    ends_word (p ++ f) ≡ false
comma_ends p [] c us n w back e h = absurd (cc e)
comma_ends p (t ∷ f) c us n w back e h = ends_seam p t f h

starts_comma : {ts : List Token} {xs : Trees} {os : List ℕ} → SpellsChildren ts xs os → (c : ℕ) × (us : List Token) × (ts ≡ comma c ∷ us)
starts_comma (last_child {c = c} {ts = ts} h) = (c, ts, refl)
starts_comma (next_child {c = c} {ts = ts} {us = us} h k) = (c, ts ++ us, refl)

behind_comma : {L : Letter} {ts : List Token} {at : ℕ} {P : List Token → Type 0} {xs : Trees} {os : List ℕ} (p : List Token) →
    SpellsChildren ts xs os → (h : Hole L ts at P) → ends_word (p ++ h.front) ≡ false
behind_comma p s h =
    let (c, us, e) = starts_comma s in
    comma_ends p h.front c us h.start (h.pre ++ h.first ∷ h.rest) h.back (sym e ∙ h.split) h.apart

pub in_last : {L : Letter} {ts : List Token} {x : Tree} {c at : ℕ} → Hole L ts at (SpellsTree x) → Hole L (comma c ∷ ts) at (SpellsTrees (more x none))
in_last {ts = ts} {x = x} {c = c} h =
    in_part (comma c ∷ []) [] (ap (λ r. comma c ∷ r) (sym (append-nil ts)))
    (λ vs g. (g.0, subst (λ us. SpellsChildren (comma c ∷ us) (more x none) g.0) (sym (append-nil vs)) (last_child g.1)))
    h (ends_append (comma c ∷ []) h.front refl h.apart)

pub in_this : {L : Letter} {ts us : List Token} {x : Tree} {xs : Trees} {ps : List ℕ} {c at : ℕ} → SpellsChildren us xs ps →
    Hole L ts at (SpellsTree x) → Hole L (comma c ∷ (ts ++ us)) at (SpellsTrees (more x xs))
in_this {us = us} {c = c} hy h =
    in_part (comma c ∷ []) us refl (λ vs g. let (ps, gy) = moves_children 2 hy in (g.0 ++ ps, next_child g.1 gy)) h (ends_append (comma c ∷ []) h.front refl h.apart)

pub in_next : {L : Letter} {ts us : List Token} {x : Tree} {ys xs : Trees} {os ps : List ℕ} {c at : ℕ} → Spells ts x os → SpellsChildren us ys ps →
    Hole L us at (SpellsTrees xs) → Hole L (comma c ∷ (ts ++ us)) at (SpellsTrees (more x xs))
in_next {ts = ts} {us = us} {x = x} {xs = xs} {os = os} {c = c} hx hy h =
    in_part (comma c ∷ ts) [] (ap (λ r. comma c ∷ (ts ++ r)) (sym (append-nil us)))
    (λ vs g. (os ++ g.0, subst (λ r. SpellsChildren (comma c ∷ (ts ++ r)) (more x xs) (os ++ g.0)) (sym (append-nil vs)) (next_child hx g.1)))
    h (behind_comma (comma c ∷ ts) hy h)

pub in_thresh : {L : Letter} {ts : List Token} {ys xs : Trees} {os : List ℕ} {a b c at k : ℕ} {w : Bytes} (d : ℕ) → number_of w ≡ Some k → SpellsChildren ts ys os →
    Hole L ts at (SpellsTrees xs) → Hole L (call a (codes "thresh") b (word c w ∷ ts) d) at (SpellsTree (thresh k xs))
in_thresh {ts = ts} {a = a} {b = b} {c = c} {w = w} d n hx h =
    in_part (word a (codes "thresh") ∷ opening b ∷ word c w ∷ []) (closing d ∷ []) refl
    (λ vs g. (g.0 ++ a ∷ [], text_thresh {a = a} {b = b} {c = c} (d + 2) n g.1))
    h (behind_comma (word a (codes "thresh") ∷ opening b ∷ word c w ∷ []) hx h)

pub in_letters : {L : Letter} {xs : List Token} {x : Tree} {a b at : ℕ} (l : Letter) (ls : List Letter) → Hole L xs at (SpellsTree x) →
    Hole L (word a (letter_word (l ∷ ls)) ∷ colon b ∷ xs) at (SpellsTree (letters_tree (l ∷ ls) x))
in_letters {xs = xs} {x = x} {a = a} {b = b} l ls h =
    in_part (word a (letter_word (l ∷ ls)) ∷ colon b ∷ []) [] (ap (λ r. word a (letter_word (l ∷ ls)) ∷ colon b ∷ r) (sym (append-nil xs)))
    (λ vs g. (
      letters_offsets a (l ∷ ls) g.0,
      subst (λ r. Spells (word a (letter_word (l ∷ ls)) ∷ colon b ∷ r) (letters_tree (l ∷ ls) x) (letters_offsets a (l ∷ ls) g.0)) (sym (append-nil vs)) (text_letters l ls g.1),
    ))
    h (ends_append (word a (letter_word (l ∷ ls)) ∷ colon b ∷ []) h.front refl h.apart)
