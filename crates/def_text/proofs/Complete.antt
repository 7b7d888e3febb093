-- The machine reads what is spelled: behind the tokens of an expression its tree has been read.
use Rattle.std.specs.Option.{option_and_then}
use Rattle.std.proofs.Common.{◌≡◌, ℕ, ◌+◌, List, [], ◌∷◌, ◌++◌, Option, Some, refl, sym, ap, ◌∙◌, append_assoc, append-nil, arith}
use Rattle.def_tree.specs.Tree.{Key, Tree, Trees, and_or, thresh, more, none}
use Rattle.def_text.specs.Token.{Token, closing, comma, end}
use Rattle.def_text.specs.Letter.{Letter, letter_of_wrapper, letter_t, letter_l, letter_u, letter_tree, letter_offsets, letters_tree, letters_offsets}
use Rattle.def_text.specs.Spells.{Spells, text_0, text_1, text_pk_k, text_pk_h, text_pk, text_pkh, text_older, text_after, text_hash, text_andor, text_two, text_and_n, text_thresh, text_multi, text_letters, SpellsChildren, last_child, next_child, SpellsKeys, last_key, next_key, SpellsText, text_whole}
use Rattle.def_text.specs.Scaffolding.Reader.{expression, ended, finished, multi_comma, multi_next, thresh_comma, Frame, letter_frame, thresh_child, andor_first, andor_second, andor_third, pair_first, pair_second, pair_two, pair_and_n, Pair, pair_tree, pair_offsets, State, START, step, behind, run_frames, run_offsets, joined, offsets_before, offsets_behind}
use Rattle.def_text.proofs.Words.{head_of_letters, head_of_hash, head_of_two}

-- ---- letters

-- a letter that waits is applied by whichever token follows
pub step_letter : (l : Letter) (a : ℕ) (x : Tree) (fs : List Frame) (os : List ℕ) (t : Token) →
    step (ended x, letter_frame l a ∷ fs, os) t ≡ step (ended (letter_tree l x), fs, os ++ offsets_behind l a) t
step_letter l a x fs os t = grind arith

pub offsets_of_letter : (l : Letter) (a : ℕ) (ps os : List ℕ) →
    ((ps ++ offsets_before l a) ++ os) ++ offsets_behind l a ≡ ps ++ letter_offsets a l os
offsets_of_letter (letter_of_wrapper w) a ps os = simp (append_assoc, append-nil)
offsets_of_letter letter_t a ps os = simp (append_assoc, append-nil)
offsets_of_letter letter_l a ps os = simp append_assoc
offsets_of_letter letter_u a ps os = simp (append_assoc, append-nil)

-- behind the expression of a group of letters that wait
unwound : (a : ℕ) (ls : List Letter) (x : Tree) (fs : List Frame) (ps os : List ℕ) (t : Token) (ts : List Token) →
    behind (ended x, run_frames a ls fs, run_offsets a ls ps ++ os) (t ∷ ts)
    ≡ behind (ended (letters_tree ls x), fs, ps ++ letters_offsets a ls os) (t ∷ ts)
unwound a [] x fs ps os t ts = refl
unwound a (l ∷ ls) x fs ps os t ts =
    unwound (a + 1) ls x (letter_frame l a ∷ fs) (ps ++ offsets_before l a) os t ts
    ∙ (ap (λ o. option_and_then (λ next. behind next ts) o)
    (step_letter l a (letters_tree ls x) fs ((ps ++ offsets_before l a) ++ letters_offsets (a + 1) ls os) t)
    ∙ ap (λ r. behind (ended (letters_tree (l ∷ ls) x), fs, r) (t ∷ ts))
    (offsets_of_letter l a ps (letters_offsets (a + 1) ls os)))

-- ---- expressions

-- from one state on, tokens lead to where another stands, whatever follows
abbrev pub Leads : State → List Token → State → Type 0
Leads s ts n = (t : Token) (rest : List Token) → behind s (ts ++ t ∷ rest) ≡ behind n (t ∷ rest)

-- two children and what stands behind the second
two_children : (s n m : State) (xs ys : List Token) (c d : ℕ) (rest : List Token) → step n (comma c) ≡ Some m →
    Leads s xs n → (e : State) → Leads m ys e → behind s (xs ++ comma c ∷ (ys ++ closing d ∷ rest)) ≡ behind e (closing d ∷ rest)
two_children s n m xs ys c d rest goes first e second =
    first (comma c) (ys ++ closing d ∷ rest)
    ∙ (ap (λ o. option_and_then (λ next. behind next (ys ++ closing d ∷ rest)) o) goes ∙ second (closing d) rest)

keys_on : {ts : List Token} {keys : List Key} → SpellsKeys ts keys → (k : ℕ) (before : List Key) (fs : List Frame) (os : List ℕ) →
    Leads (multi_next k before, fs, os) ts (multi_next k (before ++ keys), fs, os)
keys_on (last_key h) k before fs os t rest = rw h refl
keys_on (next_key {w = w} {key = key} {ts = ts} {keys = keys} h later) k before fs os t rest =
    rw h (keys_on later k (before ++ key ∷ []) fs os t rest
    ∙ ap (λ r. behind (multi_next k r, fs, os) (t ∷ rest)) (append_assoc before (key ∷ []) keys))

-- the first key, behind the number
first_key : {ts : List Token} {keys : List Key} → SpellsKeys ts keys → (k : ℕ) (fs : List Frame) (os : List ℕ) →
    Leads (multi_comma k, fs, os) ts (multi_next k keys, fs, os)
first_key (last_key h) k fs os t rest = rw h refl
first_key (next_key {key = key} h later) k fs os t rest = rw h (keys_on later k (key ∷ []) fs os t rest)

-- children that have been read and one more, in either grouping
pub joined_assoc : (xs ys zs : Trees) → joined (joined xs ys) zs ≡ joined xs (joined ys zs)
joined_assoc none ys zs = refl
joined_assoc (more x xs) ys zs = ap (more x) (joined_assoc xs ys zs)

-- whatever follows, where it isn't empty
leads_to : (s n : State) (xs ys : List Token) (t : Token) (rest : List Token) → Leads s xs n →
    behind s (xs ++ (ys ++ t ∷ rest)) ≡ behind n (ys ++ t ∷ rest)
leads_to s n xs [] t rest h = h t rest
leads_to s n xs (y ∷ ys) t rest h = h y (ys ++ t ∷ rest)

-- a fragment of two children, where each is read
pair_ended : (pair : Pair) (a c d : ℕ) (xs ys : List Token) (x y : Tree) (fs : List Frame) (ps os qs : List ℕ) (rest : List Token) →
    Leads (expression, pair_first pair a ∷ fs, ps) xs (ended x, pair_first pair a ∷ fs, ps ++ os) →
    Leads (expression, pair_second pair x a ∷ fs, ps ++ os) ys (ended y, pair_second pair x a ∷ fs, (ps ++ os) ++ qs) →
    behind (expression, pair_first pair a ∷ fs, ps) ((xs ++ comma c ∷ ys ++ closing d ∷ []) ++ rest)
    ≡ behind (ended (pair_tree pair x y), fs, ps ++ (os ++ qs ++ pair_offsets pair a)) rest
pair_ended pair a c d xs ys x y fs ps os qs rest hx hy =
    simp append_assoc
    (simp append_assoc at (two_children (expression, pair_first pair a ∷ fs, ps) (ended x, pair_first pair a ∷ fs, ps ++ os)
    (expression, pair_second pair x a ∷ fs, ps ++ os) xs ys c d rest refl hx (ended y, pair_second pair x a ∷ fs, (ps ++ os) ++ qs) hy))

-- `andor`, where each of its children is read
andor_ended : (a c d e : ℕ) (xs ys zs : List Token) (x y z : Tree) (fs : List Frame) (ps os qs rs : List ℕ) (rest : List Token) →
    Leads (expression, andor_first a ∷ fs, ps) xs (ended x, andor_first a ∷ fs, ps ++ os) →
    Leads (expression, andor_second x a ∷ fs, ps ++ os) ys (ended y, andor_second x a ∷ fs, (ps ++ os) ++ qs) →
    Leads (expression, andor_third x y a ∷ fs, (ps ++ os) ++ qs) zs (ended z, andor_third x y a ∷ fs, ((ps ++ os) ++ qs) ++ rs) →
    behind (expression, andor_first a ∷ fs, ps) ((xs ++ comma c ∷ ys ++ comma d ∷ zs ++ closing e ∷ []) ++ rest)
    ≡ behind (ended (and_or x y z), fs, ps ++ (os ++ qs ++ rs ++ a ∷ [])) rest
andor_ended a c d e xs ys zs x y z fs ps os qs rs rest hx hy hz =
    simp append_assoc
    (simp append_assoc at (hx (comma c) (ys ++ comma d ∷ (zs ++ closing e ∷ rest))
    ∙ two_children (expression, andor_second x a ∷ fs, ps ++ os) (ended y, andor_second x a ∷ fs, (ps ++ os) ++ qs)
    (expression, andor_third x y a ∷ fs, (ps ++ os) ++ qs) ys zs d e rest refl hy (ended z, andor_third x y a ∷ fs, ((ps ++ os) ++ qs) ++ rs) hz))

mutual
  pub complete : {ts : List Token} {x : Tree} {os : List ℕ} → Spells ts x os → (fs : List Frame) (ps : List ℕ) →
      Leads (expression, fs, ps) ts (ended x, fs, ps ++ os)
  complete text_0 fs ps t rest = refl
  complete text_1 fs ps t rest = refl
  complete (text_pk_k h) fs ps t rest = rw h refl
  complete (text_pk_h h) fs ps t rest = rw h refl
  complete (text_pk h) fs ps t rest = rw h refl
  complete (text_pkh h) fs ps t rest = rw h refl
  complete (text_older h) fs ps t rest = rw h refl
  complete (text_after h) fs ps t rest = rw h refl
  complete (text_hash kind h) fs ps t rest = rw (head_of_hash kind, h) refl
  complete (text_andor {a = a} c d e {xs = xs} {ys = ys} {zs = zs} {x = x} {y = y} {z = z} {os = os} {ps = qs} {qs = rs} hx hy hz)
      fs ps t rest =
      andor_ended a c d e xs ys zs x y z fs ps os qs rs (t ∷ rest) (complete hx (andor_first a ∷ fs) ps)
      (complete hy (andor_second x a ∷ fs) (ps ++ os)) (complete hz (andor_third x y a ∷ fs) ((ps ++ os) ++ qs))
  complete (text_two {a = a} kind c d {xs = xs} {ys = ys} {x = x} {y = y} {os = os} {ps = qs} hx hy) fs ps t rest =
      rw (head_of_two kind)
      (pair_ended (pair_two kind) a c d xs ys x y fs ps os qs (t ∷ rest)
      (complete hx (pair_first (pair_two kind) a ∷ fs) ps) (complete hy (pair_second (pair_two kind) x a ∷ fs) (ps ++ os)))
  complete (text_and_n {a = a} c d {xs = xs} {ys = ys} {x = x} {y = y} {os = os} {ps = qs} hx hy) fs ps t rest =
      pair_ended pair_and_n a c d xs ys x y fs ps os qs (t ∷ rest)
      (complete hx (pair_first pair_and_n a ∷ fs) ps) (complete hy (pair_second pair_and_n x a ∷ fs) (ps ++ os))
  complete (text_thresh {a = a} d {k = k} {ts = xs} {xs = x} {os = os} h hx) fs ps t rest =
      rw h (ap (behind (thresh_comma k a, fs, ps)) (append_assoc xs (closing d ∷ []) (t ∷ rest))
      ∙ (first_child hx k a fs ps d (t ∷ rest)
      ∙ ap (λ r. behind (ended (thresh k x), fs, r) (t ∷ rest)) (append_assoc ps os (a ∷ []))))
  complete (text_multi {a = a} d {k = k} {ts = ts} h hk) fs ps t rest =
      rw h (ap (behind (multi_comma k, fs, ps ++ a ∷ [])) (append_assoc ts (closing d ∷ []) (t ∷ rest))
      ∙ first_key hk k fs (ps ++ a ∷ []) (closing d) (t ∷ rest))
  complete (text_letters {a = a} l ls {xs = xs} {x = x} {os = os} hx) fs ps t rest =
      rw (head_of_letters l ls)
      (complete hx (run_frames a (l ∷ ls) fs) (run_offsets a (l ∷ ls) ps) t rest
      ∙ unwound a (l ∷ ls) x fs ps os t rest)

  first_child : {ts : List Token} {xs : Trees} {os : List ℕ} → SpellsChildren ts xs os →
      (k a : ℕ) (fs : List Frame) (ps : List ℕ) (d : ℕ) (rest : List Token) →
      behind (thresh_comma k a, fs, ps) (ts ++ closing d ∷ rest) ≡ behind (ended (thresh k xs), fs, (ps ++ os) ++ a ∷ []) rest
  first_child (last_child hx) k a fs ps d rest = complete hx (thresh_child k none a ∷ fs) ps (closing d) rest
  first_child (next_child {c = c} {ts = xs} {us = ys} {x = x} {xs = y} {os = os} {ps = qs} hx hy) k a fs ps d rest =
      simp append_assoc
      (simp append_assoc at (leads_to (expression, thresh_child k none a ∷ fs, ps) (ended x, thresh_child k none a ∷ fs, ps ++ os)
      xs ys (closing d) rest (complete hx (thresh_child k none a ∷ fs) ps)
      ∙ next_children hy k none x a fs (ps ++ os) d rest))

  next_children : {ts : List Token} {xs : Trees} {os : List ℕ} → SpellsChildren ts xs os →
      (k : ℕ) (before : Trees) (y : Tree) (a : ℕ) (fs : List Frame) (ps : List ℕ) (d : ℕ) (rest : List Token) →
      behind (ended y, thresh_child k before a ∷ fs, ps) (ts ++ closing d ∷ rest)
      ≡ behind (ended (thresh k (joined before (more y xs))), fs, (ps ++ os) ++ a ∷ []) rest
  next_children (last_child {x = x} {os = os} hx) k before y a fs ps d rest =
      complete hx (thresh_child k (joined before (more y none)) a ∷ fs) ps (closing d) rest
      ∙ ap (λ r. behind (ended (thresh k r), fs, (ps ++ os) ++ a ∷ []) rest) (joined_assoc before (more y none) (more x none))
  next_children (next_child {c = c} {ts = xs} {us = ys} {x = x} {xs = z} {os = os} {ps = qs} hx hy) k before y a fs ps d rest =
      simp (append_assoc, joined_assoc)
      (simp (append_assoc, joined_assoc) at (leads_to (expression, thresh_child k (joined before (more y none)) a ∷ fs, ps)
      (ended x, thresh_child k (joined before (more y none)) a ∷ fs, ps ++ os) xs ys (closing d) rest
      (complete hx (thresh_child k (joined before (more y none)) a ∷ fs) ps)
      ∙ next_children hy k (joined before (more y none)) x a fs (ps ++ os) d rest))

-- ---- whole texts

pub complete_text : {ts : List Token} {x : Tree} {os : List ℕ} → SpellsText ts x os → behind START ts ≡ Some (finished x, [], os)
complete_text (text_whole e h) = complete h [] [] (end e) []

same_end : (x y : Tree) (os ps : List ℕ) →
    ◌≡◌ {A = Option State} (Some (finished x, [], os)) (Some (finished y, [], ps)) → (x ≡ y) × (os ≡ ps)
same_end x y os ps h = (grind arith, grind arith)

-- a text spells at most one tree, with one list of offsets
pub one_tree : {ts : List Token} {x y : Tree} {os ps : List ℕ} → SpellsText ts x os → SpellsText ts y ps → (x ≡ y) × (os ≡ ps)
one_tree {x = x} {y = y} {os = os} {ps = ps} hx hy = same_end x y os ps (sym (complete_text hx) ∙ complete_text hy)
