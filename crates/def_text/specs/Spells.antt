-- Which tokens spell which tree (BIP 379, translation table): one case for each form of the text. With the
-- tree stand the offsets of its nodes, in the order of their numbers: a node has the offset of the name or
-- letter that wrote it. No limit of depth stands here.
use Rattle.std.specs.Prelude.{◌≡◌, ℕ, List, [], ◌∷◌, ◌++◌, codes, Some}
use Rattle.def_script.specs.Bytes.{Bytes}
use Rattle.def_hash.specs.declared.HashKind.{HashKind}
use Rattle.def_tree.specs.declared.Two.{Two}
use Rattle.def_tree.specs.declared.Wrapper.TheVariants.{C}
use Rattle.def_tree.specs.Tree.{Key, Tree, Trees, just_0, just_1, pk_k, pk_h, older, after, hash, and_or, two, thresh, multi, wrap, none, more}
use Rattle.def_text.specs.Token.{Token, word, opening, closing, comma, colon, end}
use Rattle.def_text.specs.Word.{key_of, number_of, hash_of, hash_name, two_name}
use Rattle.def_text.specs.Letter.{Letter, letter_word, letters_tree, letters_offsets}

-- a name, and arguments in parentheses, with the offsets of the three tokens
abbrev pub call : (at : ℕ) → (name : Bytes) → (open_at : ℕ) → (arguments : List Token) → (close_at : ℕ) → List Token
call a name b arguments d = word a name ∷ opening b ∷ (arguments ++ closing d ∷ [])

-- one or more keys, each behind a comma
pub data SpellsKeys : List Token → List Key → Type 0 where
  last_key : {c d : ℕ} {w : Bytes} {key : Key} → key_of w ≡ Some key →
      SpellsKeys (comma c ∷ word d w ∷ []) (key ∷ [])
  next_key : {c d : ℕ} {w : Bytes} {key : Key} {ts : List Token} {keys : List Key} →
      key_of w ≡ Some key → SpellsKeys ts keys →
      SpellsKeys (comma c ∷ word d w ∷ ts) (key ∷ keys)

mutual
  -- an expression
  pub data Spells : List Token → Tree → (offsets : List ℕ) → Type 0 where
    -- `0` and `1`
    text_0 : {a : ℕ} → Spells (word a (codes "0") ∷ []) just_0 (a ∷ [])
    text_1 : {a : ℕ} → Spells (word a (codes "1") ∷ []) just_1 (a ∷ [])
    -- `pk_k(key)` and `pk_h(key)`
    text_pk_k : {a b c d : ℕ} {w : Bytes} {key : Key} → key_of w ≡ Some key →
        Spells (call a (codes "pk_k") b (word c w ∷ []) d) (pk_k key) (a ∷ [])
    text_pk_h : {a b c d : ℕ} {w : Bytes} {key : Key} → key_of w ≡ Some key →
        Spells (call a (codes "pk_h") b (word c w ∷ []) d) (pk_h key) (a ∷ [])
    -- the sugar `pk(key)`, which is `c:pk_k(key)`, and `pkh(key)`, which is `c:pk_h(key)`
    text_pk : {a b c d : ℕ} {w : Bytes} {key : Key} → key_of w ≡ Some key →
        Spells (call a (codes "pk") b (word c w ∷ []) d) (wrap C (pk_k key)) (a ∷ a ∷ [])
    text_pkh : {a b c d : ℕ} {w : Bytes} {key : Key} → key_of w ≡ Some key →
        Spells (call a (codes "pkh") b (word c w ∷ []) d) (wrap C (pk_h key)) (a ∷ a ∷ [])
    -- `older(n)` and `after(n)`
    text_older : {a b c d : ℕ} {w : Bytes} {n : ℕ} → number_of w ≡ Some n →
        Spells (call a (codes "older") b (word c w ∷ []) d) (older n) (a ∷ [])
    text_after : {a b c d : ℕ} {w : Bytes} {n : ℕ} → number_of w ≡ Some n →
        Spells (call a (codes "after") b (word c w ∷ []) d) (after n) (a ∷ [])
    -- `sha256(value)`, `hash256(value)`, `ripemd160(value)` and `hash160(value)`
    text_hash : {a b c d : ℕ} {w : Bytes} (kind : HashKind) {value : Bytes} → hash_of kind w ≡ Some value →
        Spells (call a (hash_name kind) b (word c w ∷ []) d) (hash kind value) (a ∷ [])
    -- `andor(x,y,z)`
    text_andor : {a b : ℕ} (c d e : ℕ) {xs ys zs : List Token} {x y z : Tree} {os ps qs : List ℕ} →
        Spells xs x os → Spells ys y ps → Spells zs z qs →
        Spells (call a (codes "andor") b (xs ++ comma c ∷ ys ++ comma d ∷ zs) e) (and_or x y z) (os ++ ps ++ qs ++ a ∷ [])
    -- `and_v(x,y)`, `and_b(x,y)`, `or_b(x,y)`, `or_c(x,y)`, `or_d(x,y)` and `or_i(x,y)`
    text_two : {a b : ℕ} (kind : Two) (c d : ℕ) {xs ys : List Token} {x y : Tree} {os ps : List ℕ} →
        Spells xs x os → Spells ys y ps →
        Spells (call a (two_name kind) b (xs ++ comma c ∷ ys) d) (two kind x y) (os ++ ps ++ a ∷ [])
    -- the sugar `and_n(x,y)`, which is `andor(x,y,0)`
    text_and_n : {a b : ℕ} (c d : ℕ) {xs ys : List Token} {x y : Tree} {os ps : List ℕ} →
        Spells xs x os → Spells ys y ps →
        Spells (call a (codes "and_n") b (xs ++ comma c ∷ ys) d) (and_or x y just_0) (os ++ ps ++ a ∷ a ∷ [])
    -- `thresh(k,x1,..,xn)`
    text_thresh : {a b c : ℕ} (d : ℕ) {w : Bytes} {k : ℕ} {ts : List Token} {xs : Trees} {os : List ℕ} →
        number_of w ≡ Some k → SpellsChildren ts xs os →
        Spells (call a (codes "thresh") b (word c w ∷ ts) d) (thresh k xs) (os ++ a ∷ [])
    -- `multi(k,key1,..,keyn)`
    text_multi : {a b c : ℕ} (d : ℕ) {w : Bytes} {k : ℕ} {ts : List Token} {keys : List Key} →
        number_of w ≡ Some k → SpellsKeys ts keys →
        Spells (call a (codes "multi") b (word c w ∷ ts) d) (multi k keys) (a ∷ [])
    -- a group of one or more letters, a colon, and an expression
    text_letters : {a b : ℕ} (l : Letter) (ls : List Letter) {xs : List Token} {x : Tree} {os : List ℕ} →
        Spells xs x os →
        Spells (word a (letter_word (l ∷ ls)) ∷ colon b ∷ xs) (letters_tree (l ∷ ls) x) (letters_offsets a (l ∷ ls) os)

  -- one or more expressions, each behind a comma
  pub data SpellsChildren : List Token → Trees → (offsets : List ℕ) → Type 0 where
    last_child : {c : ℕ} {ts : List Token} {x : Tree} {os : List ℕ} → Spells ts x os →
        SpellsChildren (comma c ∷ ts) (more x none) os
    next_child : {c : ℕ} {ts us : List Token} {x : Tree} {xs : Trees} {os ps : List ℕ} →
        Spells ts x os → SpellsChildren us xs ps →
        SpellsChildren (comma c ∷ (ts ++ us)) (more x xs) (os ++ ps)

-- a whole text: an expression, and then the end
pub data SpellsText : List Token → Tree → (offsets : List ℕ) → Type 0 where
  text_whole : {ts : List Token} {x : Tree} {os : List ℕ} (e : ℕ) → Spells ts x os →
      SpellsText (ts ++ end e ∷ []) x os
