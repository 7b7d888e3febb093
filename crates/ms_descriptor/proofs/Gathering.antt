-- The pieces of a miniscript, one more and the last one.
use Rattle.std.proofs.Common.{◌≡◌, ℕ, suc, ◌+◌, ◌-◌, ◌<◌, ◌≤◌, true, false, Bool, List, [], ◌∷◌, ◌++◌, length, map, take, drop, ap, ◌∙◌, refl, sym, subst, cond, arith, Some, None, Ok, Err}
use Rattle.std.specs.Prelude.{◌&&◌, codes}
use Rattle.std.specs.Str.{bytes_eq}
use Rattle.std.proofs.lemmas.Bool.{cond-true, cond-false}
use Rattle.std.proofs.lemmas.List.{append-nil, append_assoc}
use Rattle.def_script.specs.Bytes.{Bytes}
use Rattle.def_descriptor.specs.declared.DescriptorFault.{DescriptorFault}
use Rattle.def_descriptor.specs.declared.DescriptorFault.TheVariants as fault
use Rattle.def_descriptor.specs.Token.{Token, token, belongs, is_word, tokens_from, Read}
use Rattle.def_descriptor.proofs.Tokens.{first_length, first_token}
use Rattle.def_descriptor.specs.Expression.{Expression}
use Rattle.def_descriptor.specs.ReadKey.{Seen, seen_with, read_key}
use Rattle.def_descriptor.specs.Pieces.{Piece, plain, key, Spot, takes_key, follows_key, spot_behind, spot_behind_key, opened, ends_at, Gathered, with_piece, with_key, gather}
use Rattle.ms_paths.specs.Places.{IsPlace, tokens_at, behind}
use Rattle.ms_paths.proofs.Places.{behind_some}
use Rattle.ms_descriptor.specs.declared.expression.Expression.{Expression as OwnExpression}
use Rattle.ms_descriptor.specs.declared.pieces.Piece.{Piece as OwnPiece}
use Rattle.ms_descriptor.specs.declared.pieces.Next.TheVariants as next
use Rattle.ms_descriptor.specs.Expressions.{expression_at}
use Rattle.ms_descriptor.specs.Miniscripts.{between, piece_at, IsNextToken, IsNextBy, IsNext}

-- ---- a token that is a piece

ends_some : (level : ℕ) (w : Bytes) → ends_at level w ≡ false → 0 < length w
ends_some level [] h = absurd (cc)
ends_some level (b ∷ w) h = omega arith

pub next_is : (text w : Bytes) (at : ℕ) (spot : Spot) (level : ℕ) → IsPlace text at → tokens_at text at ≡ token at w ∷ behind text at w
    → at + length w ≤ length text → w ≡ take (length w) (drop at text) → (follows_key spot && is_word w) ≡ false → ends_at level w ≡ false
    → IsNextToken text at spot level (next.Token (at + length w))
next_is text w at spot level place e within is h k =
    let end : ℕ = at + length w in
    let some : 0 < length w = ends_some level w k in
    let count : end - at ≡ length w = omega arith in
    let same : between text at end ≡ w = ap (λ (z : ℕ). take z (drop at text)) count ∙ sym is in
    let whole : tokens_at text at ≡ token at w ∷ tokens_at text end = e ∙ ap (λ (z : List Token). token at w ∷ z) (behind_some text at w some) in
    subst
    (λ (z : Bytes).
    (tokens_at text at ≡ token at z ∷ tokens_at text end) × ((follows_key spot && is_word z) ≡ false) × (ends_at level z ≡ false) × IsPlace text end × at < end)
    (sym same) (whole, h, k, record { short = place.short; within = within }, omega (arith, some))

-- ---- pieces before those that are gathered

abbrev pub before : List Piece → Gathered → Gathered
before ps g = record { pieces = ps ++ g.pieces; refused = g.refused; rest = g.rest }

pub before_none : (g : Gathered) → g ≡ before [] g
before_none g = refl

before_one : (ps : List Piece) (p : Piece) (g : Gathered) → before ps (with_piece p g) ≡ before (ps ++ p ∷ []) g
before_one ps p g = ap (λ (z : List Piece). record { pieces = z; refused = g.refused; rest = g.rest }) (sym (append_assoc ps (p ∷ []) g.pieces))

module _ (most : ℕ) (spot : Spot) (level : ℕ) (seen : Seen) (ps : List Piece) where
  module _ (ts later : List Token) (at : ℕ) (w : Bytes) (e : ts ≡ token at w ∷ later) where
    pub key_more : (expression : Expression) (rest : List Token) → takes_key spot ≡ true → read_key seen ts ≡ Ok (expression, rest)
        → before ps (gather (suc most) spot level seen ts)
        ≡ before (ps ++ key expression ∷ []) (gather most (spot_behind_key spot) level (seen_with seen expression) rest)
    unfolding gather
    key_more expression rest takes read =
        ap (λ (z : List Token). before ps (gather (suc most) spot level seen z)) e
        ∙ (ap (before ps) (cond-true (takes_key spot) _ _ takes)
        ∙ (ap (λ (z : Read Expression). before ps (with_key seen z (gather most (spot_behind_key spot) level))) (ap (read_key seen) (sym e) ∙ read)
        ∙ before_one ps (key expression) (gather most (spot_behind_key spot) level (seen_with seen expression) rest)))

    pub key_refused : (why : DescriptorFault) → takes_key spot ≡ true → read_key seen ts ≡ Err why
        → before ps (gather (suc most) spot level seen ts) ≡ record { pieces = ps; refused = Some why; rest = [] }
    unfolding gather
    key_refused why takes read =
        ap (λ (z : List Token). before ps (gather (suc most) spot level seen z)) e
        ∙ (ap (before ps) (cond-true (takes_key spot) _ _ takes)
        ∙ (ap (λ (z : Read Expression). before ps (with_key seen z (gather most (spot_behind_key spot) level))) (ap (read_key seen) (sym e) ∙ read)
        ∙ ap (λ (z : List Piece). record { pieces = z; refused = Some why; rest = [] }) (append-nil ps)))

    module _ (other : takes_key spot ≡ false) where
      pub word_refused : (follows_key spot && is_word w) ≡ true
          → before ps (gather (suc most) spot level seen ts) ≡ record { pieces = ps; refused = Some (fault.Syntax at); rest = [] }
      unfolding gather
      word_refused stuck =
          ap (λ (z : List Token). before ps (gather (suc most) spot level seen z)) e
          ∙ (ap (before ps) (cond-false (takes_key spot) _ _ other ∙ cond-true (follows_key spot && is_word w) _ _ stuck)
          ∙ ap (λ (z : List Piece). record { pieces = z; refused = Some (fault.Syntax at); rest = [] }) (append-nil ps))

      module _ (free : (follows_key spot && is_word w) ≡ false) where
        pub pieces_end : ends_at level w ≡ true → before ps (gather (suc most) spot level seen ts) ≡ record { pieces = ps; refused = None; rest = ts }
        unfolding gather
        pieces_end last =
            ap (λ (z : List Token). before ps (gather (suc most) spot level seen z)) e
            ∙ (ap (before ps) (cond-false (takes_key spot) _ _ other ∙ (cond-false (follows_key spot && is_word w) _ _ free ∙ cond-true (ends_at level w) _ _ last))
            ∙ (ap (λ (z : List Piece). record { pieces = z; refused = None; rest = token at w ∷ later }) (append-nil ps)
            ∙ ap (λ (z : List Token). record { pieces = ps; refused = None; rest = z }) (sym e)))

        pub token_more : ends_at level w ≡ false
            → before ps (gather (suc most) spot level seen ts) ≡ before (ps ++ plain at w ∷ []) (gather most (spot_behind spot w) (opened level w) seen later)
        unfolding gather
        token_more more =
            ap (λ (z : List Token). before ps (gather (suc most) spot level seen z)) e
            ∙ (ap (before ps) (cond-false (takes_key spot) _ _ other ∙ (cond-false (follows_key spot && is_word w) _ _ free ∙ cond-false (ends_at level w) _ _ more))
            ∙ before_one ps (plain at w) (gather most (spot_behind spot w) (opened level w) seen later))

-- ---- what stands at a place, and what is gathered from there on

some_token : (at : ℕ) (bytes : Bytes) → (w : Bytes) × (later : List Token) × (tokens_from at bytes ≡ token at w ∷ later)
some_token at [] = ([], [], refl)
some_token at (b ∷ bytes) =
    let n : ℕ = cond (belongs b bytes) (first_length bytes) 0 in
    (take (suc n) (b ∷ bytes), tokens_from (at + suc n) (drop (suc n) (b ∷ bytes)), first_token at b bytes)

token_there : (text : Bytes) (at : ℕ) → (w : Bytes) × (later : List Token) × (tokens_at text at ≡ token at w ∷ later)
unfolding tokens_at
token_there text at = some_token at (drop at text)

module _ (text : Bytes) (at : ℕ) (spot : Spot) (level : ℕ) (seen : Seen) (ps : List Piece) (most : ℕ) where
  abbrev pub gathered : Gathered
  gathered = before ps (gather (suc most) spot level seen (tokens_at text at))

  pub step_key : (e : OwnExpression) (end : ℕ) → IsNext text at spot level seen (next.Key e end)
      → gathered
      ≡ before (ps ++ key (expression_at e) ∷ []) (gather most (spot_behind_key spot) level (seen_with seen (expression_at e)) (tokens_at text end))
  step_key e end h = go (takes_key spot) refl h
    where
      go : (t : Bool) → takes_key spot ≡ t → IsNextBy t text at spot level seen (next.Key e end)
          → before ps (gather (suc most) spot level seen (tokens_at text at))
          ≡ before (ps ++ key (expression_at e) ∷ []) (gather most (spot_behind_key spot) level (seen_with seen (expression_at e)) (tokens_at text end))
      go true takes k =
          let there = token_there text at in
          key_more most spot level seen ps (tokens_at text at) there.1 at there.0 there.2 (expression_at e) (tokens_at text end) takes k.0
      go false takes k = absurd k

  pub step_token : (end : ℕ) → IsNext text at spot level seen (next.Token end)
      → gathered
      ≡ before (ps ++ plain at (between text at end) ∷ [])
      (gather most (spot_behind spot (between text at end)) (opened level (between text at end)) seen (tokens_at text end))
  step_token end h = go (takes_key spot) refl h
    where
      go : (t : Bool) → takes_key spot ≡ t → IsNextBy t text at spot level seen (next.Token end)
          → before ps (gather (suc most) spot level seen (tokens_at text at))
          ≡ before (ps ++ plain at (between text at end) ∷ [])
          (gather most (spot_behind spot (between text at end)) (opened level (between text at end)) seen (tokens_at text end))
      go true takes k = absurd k
      go false takes k = token_more most spot level seen ps (tokens_at text at) (tokens_at text end) at (between text at end) k.0 takes k.1 k.2

  pub step_end : IsNext text at spot level seen next.End → gathered ≡ record { pieces = ps; refused = None; rest = tokens_at text at }
  step_end h = go (takes_key spot) refl h
    where
      go : (t : Bool) → takes_key spot ≡ t → IsNextBy t text at spot level seen next.End
          → before ps (gather (suc most) spot level seen (tokens_at text at)) ≡ record { pieces = ps; refused = None; rest = tokens_at text at }
      go true takes k = absurd k
      go false takes k = pieces_end most spot level seen ps (tokens_at text at) (behind text at k.0) at k.0 k.1 takes k.2 k.3

  pub step_refused : (why : DescriptorFault) → IsNext text at spot level seen (next.Refused why)
      → gathered ≡ record { pieces = ps; refused = Some why; rest = [] }
  step_refused why h = go (takes_key spot) refl h
    where
      go : (t : Bool) → takes_key spot ≡ t → IsNextBy t text at spot level seen (next.Refused why)
          → before ps (gather (suc most) spot level seen (tokens_at text at)) ≡ record { pieces = ps; refused = Some why; rest = [] }
      go true takes k =
          let there = token_there text at in
          key_refused most spot level seen ps (tokens_at text at) there.1 at there.0 there.2 why takes k
      go false takes k =
          word_refused most spot level seen ps (tokens_at text at) (behind text at k.0) at k.0 k.1 takes k.2
          ∙ ap (λ (z : DescriptorFault). record { pieces = ps; refused = Some z; rest = [] }) (sym k.3)

-- ---- places of what stands there

pub key_after : (text : Bytes) (at : ℕ) (spot : Spot) (level : ℕ) (seen : Seen) (e : OwnExpression) (end : ℕ) → IsNext text at spot level seen (next.Key e end)
    → IsPlace text end × at < end × (e.at ≡ at)
key_after text at spot level seen e end h = go (takes_key spot) h
  where
    go : (t : Bool) → IsNextBy t text at spot level seen (next.Key e end) → IsPlace text end × at < end × (e.at ≡ at)
    go true k = (k.1, k.2, k.3)
    go false k = absurd k

pub token_after : (text : Bytes) (at : ℕ) (spot : Spot) (level : ℕ) (seen : Seen) (end : ℕ) → IsNext text at spot level seen (next.Token end)
    → IsPlace text end × at < end
token_after text at spot level seen end h = go (takes_key spot) h
  where
    go : (t : Bool) → IsNextBy t text at spot level seen (next.Token end) → IsPlace text end × at < end
    go true k = absurd k
    go false k = (k.3, k.4)

pub opened_up : (level : ℕ) (w : Bytes) → opened level w ≤ level + 1
opened_up level w = go (bytes_eq w (codes "(")) (bytes_eq w (codes ")"))
  where
    go : (s t : Bool) → cond s (level + 1) (cond t (level - 1) level) ≤ level + 1
    go true t = omega arith
    go false true = omega arith
    go false false = omega arith

-- one more piece of the code's
pub pieces_push : (text : Bytes) (items : List OwnPiece) (p : OwnPiece) → map (piece_at text) (items ++ p ∷ []) ≡ map (piece_at text) items ++ piece_at text p ∷ []
pieces_push text [] p = refl
pieces_push text (first ∷ items) p = ap (λ (z : List Piece). piece_at text first ∷ z) (pieces_push text items p)
