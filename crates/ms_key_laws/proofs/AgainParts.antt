-- What is read before the end of a text is read alike where a checksum follows: pieces, parts, and the whole.
use Rattle.std.proofs.Common.{◌≡◌, ℕ, zero, suc, ◌+◌, ◌-◌, ◌≤◌, arith, Bool, true, false, List, [], ◌∷◌, length, drop, codes, refl, sym, ap, subst, cond, Option, Some, None, Result, Ok, Err}
use Rattle.std.specs.Prelude.{◌&&◌, ⊤}
use Rattle.std.specs.Str.{bytes_eq}
use Rattle.def_script.specs.Bytes.{Bytes}
use Rattle.def_descriptor.specs.declared.Form.{Form}
use Rattle.def_descriptor.specs.declared.Form.TheVariants.{Wsh, Wpkh}
use Rattle.def_descriptor.specs.declared.DescriptorFault.{DescriptorFault}
use Rattle.def_descriptor.specs.Token.{Token, token, belongs, byte_before, tokens_from, tokens, is_word, starts, place, and_then, mapped}
use Rattle.def_text.specs.Word.{key_of}
use Rattle.def_curve.specs.Point.{Point}
use Rattle.def_curve.specs.Key.{point_of}
use Rattle.def_derive.specs.Extended.{Extended}
use Rattle.def_descriptor.specs.Expression.{Named, Expression}
use Rattle.def_descriptor.specs.Steps.{MOST_STEPS, fits, read_ways}
use Rattle.def_descriptor.specs.ReadKey.{read_origin, Seen, NOTHING_SEEN, seen_with, extended_word, with_point, ways_behind, named_by, read_named, read_key}
use Rattle.def_descriptor.specs.Pieces.{Piece, plain, key, Spot, takes_key, spot_behind, spot_behind_key, follows_key, Gathered, opened, ends_at, with_key, with_piece, elsewhere, multi_name, gather}
use Rattle.def_descriptor.specs.Parts.{read_form, read_head, miniscript, sorted, single, Found, found_by, gather_sorted, read_wsh, read_body, read_parts}
use Rattle.ms_key_laws.proofs.Clean.{AreGood, Reaches, here, past, still_good, ReachesBy, past_mark, reach_if, reach_then}
use Rattle.ms_key_laws.proofs.Passing.{reach_origin, reach_ways}
use Rattle.ms_key_laws.proofs.Passed.{reach_key, reach_head, NoneRefused}
use Rattle.ms_key_laws.proofs.Again.{Parallel, ends, more, SameBy, same_key, same_start, same_place, same_then, same_if, same_mark, same_behind, behind_mark}

-- ---- how many tokens are left

shorter : {ts rest : List Token} → Reaches ts rest → length rest ≤ length ts
shorter here = omega arith
shorter (past clean h) = let later = shorter h in omega arith

abbrev AtMost : {A : Type 0} → ℕ → Result (A × List Token) DescriptorFault → Type 0
AtMost k (Ok (x, rest)) = length rest ≤ k
AtMost k (Err fault) = ⊤

abbrev Below : {A : Type 0} → ℕ → Result (A × List Token) DescriptorFault → Type 0
Below k (Ok (x, rest)) = suc (length rest) ≤ k
Below k (Err fault) = ⊤

by_reach : {A : Type 0} (ts : List Token) (r : Result (A × List Token) DescriptorFault) → ReachesBy ts r → AtMost (length ts) r
by_reach ts (Ok (x, rest)) h = shorter h
by_reach ts (Err fault) h = tt

most_point : {A : Type 0} (k at : ℕ) (own : Option Point) (r : Result (A × List Token) DescriptorFault) → AtMost k r → AtMost k (with_point at own r)
most_point k at None r h = tt
most_point k at (Some own) r h = h

named_most : (seen : Seen) (at : ℕ) (word : Bytes) (own : Option Bytes) (other : Option Extended) (ts : List Token) → AreGood ts
    → AtMost (length ts) (named_by seen at word own other ts)
named_most seen at word (Some own) other ts good = most_point (length ts) at (point_of own) _ (omega arith)
named_most seen at word None (Some own) ts good =
    most_point (length ts) at (point_of own.key) (ways_behind seen at own ts)
    (by_reach ts (ways_behind seen at own ts) (reach_if ts (fits seen.version own.version) _ _
    (λ e. reach_then ts (read_ways (MOST_STEPS - own.depth) seen.length false ts) _ good (reach_ways (MOST_STEPS - own.depth) seen.length false ts good) (λ ways rest l. here)) tt))
named_most seen at word None None ts good = tt

below_by : {A B : Type 0} (k : ℕ) (r : Result (A × List Token) DescriptorFault) (f : A → List Token → B) → AtMost k r → Below (suc k) (and_then r (λ x rest. Ok (f x rest, rest)))
below_by k (Ok (x, rest)) f h = omega arith
below_by k (Err fault) f h = tt

lower : {A : Type 0} (k l : ℕ) (r : Result (A × List Token) DescriptorFault) → k ≤ l → Below k r → Below l r
lower k l (Ok (x, rest)) h b = omega arith
lower k l (Err fault) h b = tt

named_below : (seen : Seen) (ts : List Token) (f : Named → List Token → Expression) → AreGood ts
    → Below (length ts) (and_then (read_named seen ts) (λ named end. Ok (f named end, end)))
unfolding read_named
named_below seen [] f good = tt
named_below seen (token at word ∷ ts) f good =
    below_by (length ts) (named_by seen at word (key_of word) (extended_word word) ts) f (named_most seen at word (key_of word) (extended_word word) ts good.1)

below_then : {A B : Type 0} (ts : List Token) (r : Result (A × List Token) DescriptorFault) (next : A → List Token → Result (B × List Token) DescriptorFault)
    → AreGood ts → ReachesBy ts r → ((x : A) (rest : List Token) → AreGood rest → Below (length rest) (next x rest)) → Below (length ts) (and_then r next)
below_then ts (Ok (x, rest)) next good h go = lower (length rest) (length ts) (next x rest) (shorter h) (go x rest (still_good h good))
below_then ts (Err fault) next good h go = tt

-- a key expression has a token
key_below : (seen : Seen) (ts : List Token) → AreGood ts → Below (length ts) (read_key seen ts)
unfolding read_key
key_below seen ts good =
    below_then ts (read_origin ts) _ good (reach_origin ts good)
    (λ origin rest l. named_below seen rest (λ named end. record { at = place ts; origin = origin; named = named }) l)

reached : {A : Type 0} (ts rest : List Token) (x : A) (r : Result (A × List Token) DescriptorFault) → ReachesBy ts r → r ≡ Ok (x, rest) → Reaches ts rest
reached ts rest x r h e = subst (ReachesBy ts) e h

left_below : {A : Type 0} (k : ℕ) (rest : List Token) (x : A) (r : Result (A × List Token) DescriptorFault) → Below k r → r ≡ Ok (x, rest) → suc (length rest) ≤ k
left_below k rest x r h e = subst (Below k) e h

module _ (n : ℕ) (sum : List Token) where
  -- where no key was refused and a `)` comes next, the pieces are the same
  record SameGathered (g h : Gathered) : Type 0 where
    pieces : h.pieces ≡ g.pieces
    refused : h.refused ≡ None
    rest : Parallel n sum h.rest g.rest

  abbrev SameIf : Gathered → Gathered → Type 0
  SameIf g h = g.refused ≡ None → starts (codes ")") g.rest ≡ true → SameGathered g h

  same_gathered_if : (b : Bool) (g h k l : Gathered) → SameIf g k → SameIf h l → SameIf (cond b g h) (cond b k l)
  same_gathered_if true g h k l a b = a
  same_gathered_if false g h k l a b = b

  one_more : (p : Piece) (g h : Gathered) → SameIf g h → SameIf (with_piece p g) (with_piece p h)
  one_more p g h go = λ none closes.
      let s = go none closes in record { pieces = ap (λ (z : List Piece). p ∷ z) s.pieces; refused = s.refused; rest = s.rest }

  by_key : (seen : Seen) (r s : Result (Expression × List Token) DescriptorFault) (go last : Seen → List Token → Gathered) → SameBy n sum r s
      → ((later : Seen) (expression : Expression) (rest other : List Token) → r ≡ Ok (expression, rest) → Parallel n sum other rest → SameIf (go later rest) (last later other))
      → SameIf (with_key seen r go) (with_key seen s last)
  by_key seen (Err fault) s go last h each = λ none closes. absurd (cc)
  by_key seen (Ok (expression, rest)) s go last h each =
      subst (λ (z : Result (Expression × List Token) DescriptorFault). SameIf (with_piece (key expression) (go (seen_with seen expression) rest)) (with_key seen z last)) (sym h.1)
      (one_more (key expression) (go (seen_with seen expression) rest) (last (seen_with seen expression) h.0) (each (seen_with seen expression) expression rest h.0 refl h.2))

  some_token : {ts us : List Token} → Parallel n sum ts us → 1 ≤ length us
  some_token ends = omega arith
  some_token (more at b bytes l p) = omega arith

  -- at the end no `)` comes
  gather_same : (most others : ℕ) (spot : Spot) (level : ℕ) (seen : Seen) {ts us : List Token} → Parallel n sum ts us → AreGood us → length us ≤ most → most ≤ others
      → SameIf (gather most spot level seen us) (gather others spot level seen ts)
  unfolding gather
  gather_same zero others spot level seen p good short few = let some = some_token p in absurd (omega arith)
  gather_same (suc most) zero spot level seen p good short few = absurd (omega arith)
  gather_same (suc most) (suc others) spot level seen ends good short few =
      same_gathered_if (takes_key spot) _ _ _ _
      (by_key seen (read_key seen (token n [] ∷ [])) (read_key seen (token n (codes "#") ∷ sum)) (gather most (spot_behind_key spot) level) (gather others (spot_behind_key spot) level)
      (same_key n sum seen ends)
      (λ later expression rest other e q.
      let less = left_below (length (token n [] ∷ [])) rest expression (read_key seen (token n [] ∷ [])) (key_below seen (token n [] ∷ []) good) e in
      gather_same most others (spot_behind_key spot) level later q
      (still_good (reached (token n [] ∷ []) rest expression _ (reach_key seen (token n [] ∷ []) good) e) good) (omega arith) (omega arith)))
      (same_gathered_if (follows_key spot && false) _ _ _ _ (λ none closes. absurd (cc)) (λ none closes. absurd (cc)))
  gather_same (suc most) (suc others) spot level seen (more at b bytes {ts = ts} {us = us} l p) good short few =
      same_gathered_if (takes_key spot) _ _ _ _
      (by_key seen (read_key seen (token at (b ∷ bytes) ∷ us)) (read_key seen (token at (b ∷ bytes) ∷ ts)) (gather most (spot_behind_key spot) level)
      (gather others (spot_behind_key spot) level) (same_key n sum seen (more at b bytes l p))
      (λ later expression rest other e q.
      let less = left_below (length (token at (b ∷ bytes) ∷ us)) rest expression (read_key seen (token at (b ∷ bytes) ∷ us)) (key_below seen (token at (b ∷ bytes) ∷ us) good) e in
      gather_same most others (spot_behind_key spot) level later q
      (still_good (reached (token at (b ∷ bytes) ∷ us) rest expression _ (reach_key seen (token at (b ∷ bytes) ∷ us) good) e) good) (omega arith) (omega arith)))
      (same_gathered_if (follows_key spot && is_word (b ∷ bytes)) _ _ _ _ (λ none closes. absurd (cc))
      (same_gathered_if (ends_at level (b ∷ bytes)) _ _ _ _ (λ none closes. record { pieces = refl; refused = refl; rest = more at b bytes l p })
      (one_more (plain at (b ∷ bytes)) _ _ (gather_same most others (spot_behind spot (b ∷ bytes)) (opened level (b ∷ bytes)) seen p good.1 (omega arith) (omega arith)))))

  -- ---- parts

  pub record SameFound (f g : Found) : Type 0 where
    pub body : g.body ≡ f.body
    pub refused : f.refused ≡ None → g.refused ≡ None
    pub rest : Parallel n sum g.rest f.rest

  abbrev SameFoundIf : Found → Found → Type 0
  SameFoundIf f g = NoneRefused f.body f.refused → starts (codes ")") f.rest ≡ true → SameFound f g

  same_found_if : (b c : Bool) (f g h k : Found) → c ≡ b → (b ≡ true → SameFoundIf f h) → (b ≡ false → SameFoundIf g k) → SameFoundIf (cond b f g) (cond c h k)
  same_found_if true c f g h k e a z = subst (λ (t : Bool). SameFoundIf f (cond t h k)) (sym e) (a refl)
  same_found_if false c f g h k e a z = subst (λ (t : Bool). SameFoundIf g (cond t h k)) (sym e) (z refl)

  as_sorted : (g h : Gathered) → SameIf g h → SameFoundIf (found_by sorted g) (found_by sorted h)
  as_sorted g h go = λ none closes. let s = go none closes in record { body = ap sorted s.pieces; refused = λ e. s.refused; rest = s.rest }

  as_miniscript : (g h : Gathered) → SameIf g h → SameFoundIf (found_by miniscript g) (found_by miniscript h)
  as_miniscript g h go = λ none closes. let s = go none closes in record { body = ap miniscript s.pieces; refused = λ e. s.refused; rest = s.rest }

  wsh_same : (most others : ℕ) {ts us : List Token} → Parallel n sum ts us → AreGood us → length us ≤ most → most ≤ others → SameFoundIf (read_wsh most us) (read_wsh others ts)
  wsh_same most others {ts = ts} {us = us} p good short few =
      same_found_if (starts (codes "sortedmulti") us) (starts (codes "sortedmulti") ts) _ _ _ _ (same_start n sum (codes "sortedmulti") (refl, refl) p)
      (λ e.
      let first : Reaches us (drop 1 us) = past_mark (codes "sortedmulti") us refl e in
      let size = shorter first in
      as_sorted (gather_sorted most us) (gather_sorted others ts)
      (subst
      (λ (z : ℕ). SameIf (gather_sorted most us) (with_piece (plain z (codes "multi")) (gather others multi_name 0 NOTHING_SEEN (drop 1 ts))))
      (sym (same_place n sum p))
      (one_more (plain (place us) (codes "multi")) (gather most multi_name 0 NOTHING_SEEN (drop 1 us)) (gather others multi_name 0 NOTHING_SEEN (drop 1 ts))
      (gather_same most others multi_name 0 NOTHING_SEEN (behind_mark n sum (codes "sortedmulti") (refl, refl) p e) (still_good first good) (omega arith) few))))
      (λ e. as_miniscript (gather most elsewhere 0 NOTHING_SEEN us) (gather others elsewhere 0 NOTHING_SEEN ts) (gather_same most others elsewhere 0 NOTHING_SEEN p good short few))

  abbrev pub PartsSame : Result (Bool × Found) DescriptorFault → Result (Bool × Found) DescriptorFault → Type 0
  PartsSame (Ok (under, f)) s = NoneRefused f.body f.refused → starts (codes ")") f.rest ≡ true → (g : Found) × (s ≡ Ok (under, g)) × SameFound f g
  PartsSame (Err fault) s = ⊤

  abbrev of_single : Bool → Result (Expression × List Token) DescriptorFault → Result (Bool × Found) DescriptorFault
  of_single under r = mapped (λ found. (under, found)) (and_then r (λ expression rest. Ok (record { body = single expression; refused = None; rest = rest })))

  single_same : (under : Bool) (r s : Result (Expression × List Token) DescriptorFault) → SameBy n sum r s → PartsSame (of_single under r) (of_single under s)
  single_same under (Ok (expression, rest)) s h = λ none closes.
      (record { body = single expression; refused = None; rest = h.0 }, ap (of_single under) h.1, record { body = refl; refused = λ e. e; rest = h.2 })
  single_same under (Err fault) s h = tt

  body_same : (most others : ℕ) (under : Bool) (form : Form) {ts us : List Token} → Parallel n sum ts us → AreGood us → length us ≤ most → most ≤ others
      → PartsSame (mapped (λ found. (under, found)) (read_body most form us)) (mapped (λ found. (under, found)) (read_body others form ts))
  body_same most others under Wsh {ts = ts} p good short few = λ none closes. (read_wsh others ts, refl, wsh_same most others p good short few none closes)
  body_same most others under Wpkh {ts = ts} {us = us} p good short few = single_same under (read_key NOTHING_SEEN us) (read_key NOTHING_SEEN ts) (same_key n sum NOTHING_SEEN p)

  same_form : {ts us : List Token} → Parallel n sum ts us → SameBy n sum (read_form us) (read_form ts)
  same_form ends = tt
  same_form (more at b bytes {ts = ts} {us = us} l p) =
      same_if n sum (bytes_eq (b ∷ bytes) (codes "wsh")) (bytes_eq (b ∷ bytes) (codes "wsh")) _ _ _ _ refl
      (λ e. same_behind n sum (codes "(") _ _ (refl, refl) p (λ rest other q. (other, refl, q)))
      (λ e. same_if n sum (bytes_eq (b ∷ bytes) (codes "wpkh")) (bytes_eq (b ∷ bytes) (codes "wpkh")) _ _ _ _ refl
      (λ e. same_behind n sum (codes "(") _ _ (refl, refl) p (λ rest other q. (other, refl, q))) (λ e. tt))

  same_head : {ts us : List Token} → Parallel n sum ts us → SameBy n sum (read_head us) (read_head ts)
  same_head {ts = ts} {us = us} p =
      same_mark n sum (codes "sh") _ _ _ _ (refl, refl) p
      (λ q. same_behind n sum (codes "(") _ _ (refl, refl) q
      (λ rest other k. same_then n sum (read_form rest) (read_form other) _ _ (same_form k) (λ form end last m. (last, refl, m))))
      (same_then n sum (read_form us) (read_form ts) _ _ (same_form p) (λ form end last m. (last, refl, m)))

  abbrev of_head : ℕ → Result ((Bool × Form) × List Token) DescriptorFault → Result (Bool × Found) DescriptorFault
  of_head most r = and_then r (λ head rest. mapped (λ found. (head.0, found)) (read_body most head.1 rest))

  head_same : (most others : ℕ) (us : List Token) (r s : Result ((Bool × Form) × List Token) DescriptorFault) → SameBy n sum r s → ReachesBy us r → AreGood us
      → length us ≤ most → most ≤ others → PartsSame (of_head most r) (of_head others s)
  head_same most others us (Ok ((under, form), rest)) s h reach good short few =
      let size = shorter reach in
      subst (λ (z : Result ((Bool × Form) × List Token) DescriptorFault). PartsSame (of_head most (Ok ((under, form), rest))) (of_head others z)) (sym h.1)
      (body_same most others under form h.2 (still_good reach good) (omega arith) few)
  head_same most others us (Err fault) s h reach good short few = tt

few_tokens : (bytes : Bytes) (at : ℕ) → length (tokens_from at bytes) ≤ suc (length bytes)
few_tokens [] at = omega arith
few_tokens (b ∷ bytes) at = go (tokens_from (at + 1) bytes) (few_tokens bytes (at + 1))
  where
    go : (ts : List Token) → length ts ≤ suc (length bytes) → length (byte_before at b ts) ≤ suc (suc (length bytes))
    go [] h = omega arith
    go (token next own ∷ ts) h = both (belongs b own)
      where
        both : (t : Bool) → length (cond t (token at (b ∷ own) ∷ ts) (token at (b ∷ []) ∷ token next own ∷ ts)) ≤ suc (suc (length bytes))
        both true = omega arith
        both false = omega arith

pub parts_same : (n : ℕ) (sum : List Token) (text other : Bytes) → Parallel n sum (tokens other) (tokens text) → AreGood (tokens text) → length text ≤ length other
    → PartsSame n sum (read_parts text) (read_parts other)
unfolding read_parts
parts_same n sum text other p good few =
    head_same n sum (suc (length text)) (suc (length other)) (tokens text) (read_head (tokens text)) (read_head (tokens other)) (same_head n sum p) (reach_head (tokens text) good) good
    (few_tokens text 0) (omega arith)
