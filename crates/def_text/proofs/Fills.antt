-- What fills a state of the machine: the tokens that lead from it to the end of a text, in terms of what is spelled.
use Rattle.std.proofs.Common.{◌≡◌, ℕ, List, [], ◌∷◌, ◌++◌, Option, Some, None}
use Rattle.def_script.specs.Bytes.{Bytes}
use Rattle.def_tree.specs.Tree.{Key, Tree, Trees, and_or, thresh, multi, none, more}
use Rattle.def_text.specs.Token.{Token, word, opening, closing, comma, colon, end}
use Rattle.def_text.specs.Word.{number_of, key_of}
use Rattle.def_text.specs.Letter.{letter_tree}
use Rattle.def_text.specs.Spells.{Spells, SpellsChildren, SpellsKeys}
use Rattle.def_text.specs.Scaffolding.Reader.{Want, expression, colon_next, leaf_open, leaf_word, leaf_close, andor_open, pair_open, thresh_open, thresh_number, thresh_comma, multi_open, multi_number, multi_comma, multi_key, multi_next, ended, finished, Frame, letter_frame, andor_first, andor_second, andor_third, pair_first, pair_second, thresh_child, State, leaf_of, pair_tree, pair_offsets, offsets_behind, joined}

-- any number of expressions, each behind a comma
pub data OtherChildren : List Token → Trees → List ℕ → Type 0 where
  no_child : OtherChildren [] none []
  some_children : {ts : List Token} {xs : Trees} {os : List ℕ} → SpellsChildren ts xs os → OtherChildren ts xs os

-- any number of keys, each behind a comma
pub data OtherKeys : List Token → List Key → Type 0 where
  no_key : OtherKeys [] []
  some_keys : {ts : List Token} {keys : List Key} → SpellsKeys ts keys → OtherKeys ts keys

-- behind an expression, with what waits for its end
abbrev pub EndedFills : List Frame → Tree → List ℕ → List Token → Tree → List ℕ → Type 0
EndedFills [] x os ts z zs = (e : ℕ) × (ts ≡ end e ∷ []) × (x ≡ z) × (os ≡ zs)
EndedFills (letter_frame l a ∷ fs) x os ts z zs = EndedFills fs (letter_tree l x) (os ++ offsets_behind l a) ts z zs
EndedFills (andor_first a ∷ fs) x os ts z zs =
    (c d e : ℕ) × (us vs rest : List Token) × (u v : Tree) × (ps qs : List ℕ)
    × (ts ≡ comma c ∷ (us ++ comma d ∷ (vs ++ closing e ∷ rest))) × Spells us u ps × Spells vs v qs
    × EndedFills fs (and_or x u v) (((os ++ ps) ++ qs) ++ a ∷ []) rest z zs
EndedFills (andor_second y a ∷ fs) x os ts z zs =
    (c d : ℕ) × (vs rest : List Token) × (v : Tree) × (qs : List ℕ)
    × (ts ≡ comma c ∷ (vs ++ closing d ∷ rest)) × Spells vs v qs × EndedFills fs (and_or y x v) ((os ++ qs) ++ a ∷ []) rest z zs
EndedFills (andor_third y u a ∷ fs) x os ts z zs =
    (d : ℕ) × (rest : List Token) × (ts ≡ closing d ∷ rest) × EndedFills fs (and_or y u x) (os ++ a ∷ []) rest z zs
EndedFills (pair_first pair a ∷ fs) x os ts z zs =
    (c d : ℕ) × (vs rest : List Token) × (v : Tree) × (qs : List ℕ)
    × (ts ≡ comma c ∷ (vs ++ closing d ∷ rest)) × Spells vs v qs
    × EndedFills fs (pair_tree pair x v) ((os ++ qs) ++ pair_offsets pair a) rest z zs
EndedFills (pair_second pair y a ∷ fs) x os ts z zs =
    (d : ℕ) × (rest : List Token) × (ts ≡ closing d ∷ rest) × EndedFills fs (pair_tree pair y x) (os ++ pair_offsets pair a) rest z zs
EndedFills (thresh_child k xs a ∷ fs) x os ts z zs =
    (d : ℕ) × (cs rest : List Token) × (ys : Trees) × (ps : List ℕ)
    × (ts ≡ cs ++ closing d ∷ rest) × OtherChildren cs ys ps
    × EndedFills fs (thresh k (joined xs (more x ys))) ((os ++ ps) ++ a ∷ []) rest z zs

-- where an expression is wanted
abbrev pub ExpressionFills : List Frame → List ℕ → List Token → Tree → List ℕ → Type 0
ExpressionFills fs os ts z zs =
    (us rest : List Token) × (u : Tree) × (ps : List ℕ) × (ts ≡ us ++ rest) × Spells us u ps × EndedFills fs u (os ++ ps) rest z zs

-- the rest of a fragment whose argument is one word
abbrev pub LeafCloseFills : Tree → List Frame → List ℕ → List Token → Tree → List ℕ → Type 0
LeafCloseFills x fs os ts z zs = (d : ℕ) × (rest : List Token) × (ts ≡ closing d ∷ rest) × EndedFills fs x os rest z zs

-- the rest of `multi`
abbrev pub NextKeyFills : ℕ → List Key → List Frame → List ℕ → List Token → Tree → List ℕ → Type 0
NextKeyFills k keys fs os ts z zs =
    (d : ℕ) × (cs rest : List Token) × (others : List Key)
    × (ts ≡ cs ++ closing d ∷ rest) × OtherKeys cs others × EndedFills fs (multi k (keys ++ others)) os rest z zs

abbrev pub KeyFills : ℕ → List Key → List Frame → List ℕ → List Token → Tree → List ℕ → Type 0
KeyFills k keys fs os ts z zs =
    (c : ℕ) × (w : Bytes) × (key : Key) × (rest : List Token)
    × (ts ≡ word c w ∷ rest) × (key_of w ≡ Some key) × NextKeyFills k (keys ++ key ∷ []) fs os rest z zs

abbrev pub KeysFills : ℕ → List Frame → List ℕ → List Token → Tree → List ℕ → Type 0
KeysFills k fs os ts z zs = (c : ℕ) × (rest : List Token) × (ts ≡ comma c ∷ rest) × KeyFills k [] fs os rest z zs

-- the children of `thresh`
abbrev pub ChildrenFills : ℕ → ℕ → List Frame → List ℕ → List Token → Tree → List ℕ → Type 0
ChildrenFills k a fs os ts z zs =
    (c : ℕ) × (rest : List Token) × (ts ≡ comma c ∷ rest) × ExpressionFills (thresh_child k none a ∷ fs) os rest z zs

-- tokens fill what is wanted, with what waits, so that a text's tree and offsets come out
abbrev pub Fills : Want → List Frame → List ℕ → List Token → Tree → List ℕ → Type 0
Fills expression fs os ts z zs = ExpressionFills fs os ts z zs
Fills colon_next fs os ts z zs = (b : ℕ) × (rest : List Token) × (ts ≡ colon b ∷ rest) × ExpressionFills fs os rest z zs
Fills (leaf_open leaf) fs os ts z zs =
    (b c : ℕ) × (w : Bytes) × (x : Tree) × (rest : List Token)
    × (ts ≡ opening b ∷ word c w ∷ rest) × (leaf_of leaf w ≡ Some x) × LeafCloseFills x fs os rest z zs
Fills (leaf_word leaf) fs os ts z zs =
    (c : ℕ) × (w : Bytes) × (x : Tree) × (rest : List Token)
    × (ts ≡ word c w ∷ rest) × (leaf_of leaf w ≡ Some x) × LeafCloseFills x fs os rest z zs
Fills (leaf_close x) fs os ts z zs = LeafCloseFills x fs os ts z zs
Fills (andor_open a) fs os ts z zs =
    (b : ℕ) × (rest : List Token) × (ts ≡ opening b ∷ rest) × ExpressionFills (andor_first a ∷ fs) os rest z zs
Fills (pair_open pair a) fs os ts z zs =
    (b : ℕ) × (rest : List Token) × (ts ≡ opening b ∷ rest) × ExpressionFills (pair_first pair a ∷ fs) os rest z zs
Fills (thresh_open a) fs os ts z zs =
    (b c : ℕ) × (w : Bytes) × (k : ℕ) × (rest : List Token)
    × (ts ≡ opening b ∷ word c w ∷ rest) × (number_of w ≡ Some k) × ChildrenFills k a fs os rest z zs
Fills (thresh_number a) fs os ts z zs =
    (c : ℕ) × (w : Bytes) × (k : ℕ) × (rest : List Token)
    × (ts ≡ word c w ∷ rest) × (number_of w ≡ Some k) × ChildrenFills k a fs os rest z zs
Fills (thresh_comma k a) fs os ts z zs = ChildrenFills k a fs os ts z zs
Fills multi_open fs os ts z zs =
    (b c : ℕ) × (w : Bytes) × (k : ℕ) × (rest : List Token)
    × (ts ≡ opening b ∷ word c w ∷ rest) × (number_of w ≡ Some k) × KeysFills k fs os rest z zs
Fills multi_number fs os ts z zs =
    (c : ℕ) × (w : Bytes) × (k : ℕ) × (rest : List Token)
    × (ts ≡ word c w ∷ rest) × (number_of w ≡ Some k) × KeysFills k fs os rest z zs
Fills (multi_comma k) fs os ts z zs = KeysFills k fs os ts z zs
Fills (multi_key k keys) fs os ts z zs = KeyFills k keys fs os ts z zs
Fills (multi_next k keys) fs os ts z zs = NextKeyFills k keys fs os ts z zs
Fills (ended x) fs os ts z zs = EndedFills fs x os ts z zs
Fills (finished x) fs os ts z zs = (ts ≡ []) × (x ≡ z) × (os ≡ zs)

-- the same of a next state
abbrev pub NextFills : Option State → List Token → Tree → List ℕ → Type 0
NextFills None ts z zs = ⊥
NextFills (Some n) ts z zs = Fills n.0 n.1 n.2 ts z zs
