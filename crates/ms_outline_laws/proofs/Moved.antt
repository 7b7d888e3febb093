-- The offsets of tokens say nothing of the tree that they spell.
use Rattle.std.proofs.Common.{◌≡◌, ℕ, ◌+◌, List, [], ◌∷◌, ◌++◌, map, codes, sym, ap, ◌∙◌, subst}
use Rattle.std.proofs.lemmas.List.{map-append}
use Rattle.def_script.specs.Bytes.{Bytes}
use Rattle.def_tree.specs.Tree.{Key, Tree, Trees, and_or, two, thresh, multi, more, just_0}
use Rattle.def_text.specs.Token.{Token, word, opening, closing, comma, colon, other, end}
use Rattle.def_text.specs.Word.{two_name}
use Rattle.def_text.specs.Letter.{letters_offsets}
use Rattle.def_text.specs.Spells.{call, Spells, text_0, text_1, text_pk_k, text_pk_h, text_pk, text_pkh, text_older, text_after, text_hash, text_andor, text_two, text_and_n, text_thresh, text_multi, text_letters, SpellsChildren, last_child, next_child, SpellsKeys, last_key, next_key}

-- a token that stands so many bytes further on
abbrev pub moved : ℕ → Token → Token
moved k (word a w) = word (a + k) w
moved k (opening a) = opening (a + k)
moved k (closing a) = closing (a + k)
moved k (comma a) = comma (a + k)
moved k (colon a) = colon (a + k)
moved k (other a) = other (a + k)
moved k (end a) = end (a + k)

-- some tokens spell a tree, or trees behind commas
abbrev pub SpellsTree : Tree → List Token → Type 0
SpellsTree x ts = (os : List ℕ) × Spells ts x os

abbrev pub SpellsTrees : Trees → List Token → Type 0
SpellsTrees xs ts = (os : List ℕ) × SpellsChildren ts xs os

called : (k a : ℕ) (name : Bytes) (b : ℕ) (ts : List Token) (d : ℕ) →
    call (a + k) name (b + k) (map (moved k) ts) (d + k) ≡ map (moved k) (call a name b ts d)
called k a name b ts d = ap (λ r. word (a + k) name ∷ opening (b + k) ∷ r) (sym (map-append (moved k) ts (closing d ∷ [])))

pub moves_keys : {ts : List Token} {keys : List Key} (k : ℕ) → SpellsKeys ts keys → SpellsKeys (map (moved k) ts) keys
moves_keys k (last_key h) = last_key h
moves_keys k (next_key h later) = next_key h (moves_keys k later)

mutual
  pub moves : {ts : List Token} {x : Tree} {os : List ℕ} (k : ℕ) → Spells ts x os → SpellsTree x (map (moved k) ts)
  moves k (text_0 {a = a}) = ((a + k) ∷ [], text_0)
  moves k (text_1 {a = a}) = ((a + k) ∷ [], text_1)
  moves k (text_pk_k {a = a} h) = ((a + k) ∷ [], text_pk_k h)
  moves k (text_pk_h {a = a} h) = ((a + k) ∷ [], text_pk_h h)
  moves k (text_pk {a = a} h) = ((a + k) ∷ (a + k) ∷ [], text_pk h)
  moves k (text_pkh {a = a} h) = ((a + k) ∷ (a + k) ∷ [], text_pkh h)
  moves k (text_older {a = a} h) = ((a + k) ∷ [], text_older h)
  moves k (text_after {a = a} h) = ((a + k) ∷ [], text_after h)
  moves k (text_hash {a = a} kind h) = ((a + k) ∷ [], text_hash kind h)
  moves k (text_andor {a = a} {b = b} c d e {xs = xs} {ys = ys} {zs = zs} {x = x} {y = y} {z = z} hx hy hz) =
      let (os, gx) = moves k hx in
      let (ps, gy) = moves k hy in
      let (qs, gz) = moves k hz in
      let inner = map-append (moved k) (xs ++ comma c ∷ ys) (comma d ∷ zs)
      ∙ ap (λ r. r ++ comma (d + k) ∷ map (moved k) zs) (map-append (moved k) xs (comma c ∷ ys)) in (
        os ++ ps ++ qs ++ (a + k) ∷ [],
        subst (λ ts. Spells ts (and_or x y z) (os ++ ps ++ qs ++ (a + k) ∷ []))
            (ap (λ r. call (a + k) (codes "andor") (b + k) r (e + k)) (sym inner) ∙ called k a (codes "andor") b (xs ++ comma c ∷ ys ++ comma d ∷ zs) e)
            (text_andor {a = a + k} {b = b + k} (c + k) (d + k) (e + k) gx gy gz),
      )
  moves k (text_two {a = a} {b = b} kind c d {xs = xs} {ys = ys} {x = x} {y = y} hx hy) =
      let (os, gx) = moves k hx in
      let (ps, gy) = moves k hy in (
        os ++ ps ++ (a + k) ∷ [],
        subst (λ ts. Spells ts (two kind x y) (os ++ ps ++ (a + k) ∷ []))
            (ap (λ r. call (a + k) (two_name kind) (b + k) r (d + k)) (sym (map-append (moved k) xs (comma c ∷ ys))) ∙ called k a (two_name kind) b (xs ++ comma c ∷ ys) d)
            (text_two {a = a + k} {b = b + k} kind (c + k) (d + k) gx gy),
      )
  moves k (text_and_n {a = a} {b = b} c d {xs = xs} {ys = ys} {x = x} {y = y} hx hy) =
      let (os, gx) = moves k hx in
      let (ps, gy) = moves k hy in (
        os ++ ps ++ (a + k) ∷ (a + k) ∷ [],
        subst (λ ts. Spells ts (and_or x y just_0) (os ++ ps ++ (a + k) ∷ (a + k) ∷ []))
            (ap (λ r. call (a + k) (codes "and_n") (b + k) r (d + k)) (sym (map-append (moved k) xs (comma c ∷ ys))) ∙ called k a (codes "and_n") b (xs ++ comma c ∷ ys) d)
            (text_and_n {a = a + k} {b = b + k} (c + k) (d + k) gx gy),
      )
  moves k (text_thresh {a = a} {b = b} {c = c} d {w = w} {k = m} {ts = ts} {xs = xs} h hx) =
      let (os, gx) = moves_children k hx in
      (os ++ (a + k) ∷ [], subst (λ ts. Spells ts (thresh m xs) (os ++ (a + k) ∷ [])) (called k a (codes "thresh") b (word c w ∷ ts) d) (text_thresh {a = a + k} {b = b + k} (d + k) h gx))
  moves k (text_multi {a = a} {b = b} {c = c} d {w = w} {k = m} {ts = ts} {keys = keys} h hk) =
      ((a + k) ∷ [], subst (λ ts. Spells ts (multi m keys) ((a + k) ∷ [])) (called k a (codes "multi") b (word c w ∷ ts) d) (text_multi {a = a + k} {b = b + k} (d + k) h (moves_keys k hk)))
  moves k (text_letters {a = a} l ls hx) = let (os, gx) = moves k hx in (letters_offsets (a + k) (l ∷ ls) os, text_letters l ls gx)

  pub moves_children : {ts : List Token} {xs : Trees} {os : List ℕ} (k : ℕ) → SpellsChildren ts xs os → SpellsTrees xs (map (moved k) ts)
  moves_children k (last_child hx) = let (os, gx) = moves k hx in (os, last_child gx)
  moves_children k (next_child {c = c} {ts = ts} {us = us} {x = x} {xs = xs} hx hy) =
      let (os, gx) = moves k hx in
      let (ps, gy) = moves_children k hy in
      (os ++ ps, subst (λ ts. SpellsChildren ts (more x xs) (os ++ ps)) (ap (λ r. comma (c + k) ∷ r) (sym (map-append (moved k) ts us))) (next_child gx gy))
