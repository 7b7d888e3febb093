-- What is read before the end of a text is read alike where a checksum follows: tokens and key expressions.
use Rattle.std.proofs.Common.{◌≡◌, ℕ, zero, suc, ◌-◌, ◌<◌, Bool, true, false, List, [], ◌∷◌, ◌++◌, length, drop, codes, refl, sym, ap, ◌∙◌, subst, cond, Option, Some, None, Result, Ok, Err}
use Rattle.std.specs.Prelude.{◌&&◌, ◌||◌, ⊤, nat_eq, nat_lt}
use Rattle.std.specs.List.{list_any}
use Rattle.std.specs.Str.{bytes_eq}
use Rattle.std.proofs.lemmas.Bool.{and_parts}
use Rattle.def_script.specs.Bytes.{Bytes}
use Rattle.def_text.specs.Word.{key_of}
use Rattle.def_curve.specs.Point.{Point}
use Rattle.def_curve.specs.Key.{point_of}
use Rattle.def_derive.specs.Extended.{Extended}
use Rattle.def_descriptor.specs.declared.DescriptorFault.{DescriptorFault}
use Rattle.def_descriptor.specs.declared.DescriptorFault.TheVariants.{Hardened}
use Rattle.def_descriptor.specs.Token.{Token, token, starts, place, and_then, behind}
use Rattle.def_descriptor.specs.Expression.{Origin, Way, index, Named}
use Rattle.def_descriptor.specs.Steps.{MOST_STEPS, MOST_BRANCHES, Step, step_of, marked, read_step, read_steps, plain as plain_step, read_plain, read_numbers, fits, read_index, read_ways}
use Rattle.def_descriptor.specs.ReadKey.{print_of, origin_by, read_print, read_origin, Seen, extended_word, with_point, ways_behind, named_by, read_named, read_key}
use Rattle.ms_key_laws.proofs.Passing.{key_first, print_first}

-- tokens with a checksum behind them, and the same with the end there
pub data Parallel (n : ℕ) (sum : List Token) : List Token → List Token → Type 0 where
  ends : Parallel n sum (token n (codes "#") ∷ sum) (token n [] ∷ [])
  more : (at b : ℕ) (bytes : Bytes) {ts us : List Token} → at < n → Parallel n sum ts us → Parallel n sum (token at (b ∷ bytes) ∷ ts) (token at (b ∷ bytes) ∷ us)

-- a token that is neither `#` nor the end
abbrev pub IsMark : Bytes → Type 0
IsMark mark = (bytes_eq (codes "#") mark ≡ false) × (bytes_eq [] mark ≡ false)

module _ (n : ℕ) (sum : List Token) where
  pub same_start : {ts us : List Token} (mark : Bytes) → IsMark mark → Parallel n sum ts us → starts mark ts ≡ starts mark us
  same_start mark is ends = is.0 ∙ sym is.1
  same_start mark is (more at b bytes l h) = refl

  pub same_place : {ts us : List Token} → Parallel n sum ts us → place ts ≡ place us
  same_place ends = refl
  same_place (more at b bytes l h) = refl

  pub behind_mark : {ts us : List Token} (mark : Bytes) → IsMark mark → Parallel n sum ts us → starts mark us ≡ true → Parallel n sum (drop 1 ts) (drop 1 us)
  behind_mark mark is ends e = absurd (cc (is.1, e))
  behind_mark mark is (more at b bytes l h) e = h

  -- what is read of the one is read of the other
  abbrev pub SameBy : {A : Type 0} → Result (A × List Token) DescriptorFault → Result (A × List Token) DescriptorFault → Type 0
  SameBy (Ok (x, rest)) r = (other : List Token) × (r ≡ Ok (x, other)) × Parallel n sum other rest
  SameBy (Err fault) r = ⊤

  pub same_then : {A B : Type 0} (r s : Result (A × List Token) DescriptorFault) (next last : A → List Token → Result (B × List Token) DescriptorFault) → SameBy r s
      → ((x : A) (rest other : List Token) → Parallel n sum other rest → SameBy (next x rest) (last x other)) → SameBy (and_then r next) (and_then s last)
  same_then {A} {B} (Ok (x, rest)) s next last h go =
      subst (λ (z : Result (A × List Token) DescriptorFault). SameBy (next x rest) (and_then z last)) (sym h.1) (go x rest h.0 h.2)
  same_then (Err fault) s next last h go = tt

  pub same_if : {A : Type 0} (b c : Bool) (r s t u : Result (A × List Token) DescriptorFault) → c ≡ b → (b ≡ true → SameBy r t) → (b ≡ false → SameBy s u)
      → SameBy (cond b r s) (cond c t u)
  same_if {A} true c r s t u e h k = subst (λ (z : Bool). SameBy r (cond z t u)) (sym e) (h refl)
  same_if {A} false c r s t u e h k = subst (λ (z : Bool). SameBy s (cond z t u)) (sym e) (k refl)

  -- a token that is known, or something else
  pub same_mark : {A : Type 0} {ts us : List Token} (mark : Bytes) (r s t u : Result (A × List Token) DescriptorFault) → IsMark mark → Parallel n sum ts us
      → (Parallel n sum (drop 1 ts) (drop 1 us) → SameBy r t) → SameBy s u → SameBy (cond (starts mark us) r s) (cond (starts mark ts) t u)
  same_mark {ts = ts} {us = us} mark r s t u is p h k = same_if (starts mark us) (starts mark ts) r s t u (same_start mark is p) (λ e. h (behind_mark mark is p e)) (λ e. k)

  pub same_behind : {A : Type 0} {ts us : List Token} (mark : Bytes) (next last : List Token → Result (A × List Token) DescriptorFault) → IsMark mark → Parallel n sum ts us
      → ((rest other : List Token) → Parallel n sum other rest → SameBy (next rest) (last other)) → SameBy (behind mark us next) (behind mark ts last)
  same_behind mark next last is ends go =
      same_if (bytes_eq [] mark) (bytes_eq (codes "#") mark) (next []) (Err _) (last sum) (Err _) (is.0 ∙ sym is.1) (λ e. absurd (cc (is.1, e))) (λ e. tt)
  same_behind mark next last is (more at b bytes {ts = ts} {us = us} l p) go =
      same_if (bytes_eq (b ∷ bytes) mark) (bytes_eq (b ∷ bytes) mark) (next us) (Err _) (last ts) (Err _) refl (λ e. go us ts p) (λ e. tt)

  -- ---- steps

  pub same_marked : (at : ℕ) (o : Option Step) {ts us : List Token} → Parallel n sum ts us → SameBy (marked at o us) (marked at o ts)
  same_marked at None p = tt
  same_marked at (Some (m, true)) {ts = ts} p = (ts, refl, p)
  same_marked at (Some (m, false)) {ts = ts} {us = us} p =
      same_mark (codes "'") (Ok ((m, true), drop 1 us)) (Ok ((m, false), us)) (Ok ((m, true), drop 1 ts)) (Ok ((m, false), ts)) (refl, refl) p (λ q. (drop 1 ts, refl, q))
      (ts, refl, p)

  pub same_step : {ts us : List Token} → Parallel n sum ts us → SameBy (read_step us) (read_step ts)
  same_step ends = tt
  same_step (more at b bytes l p) = same_marked at (step_of (b ∷ bytes)) p

  pub same_steps : (most : ℕ) {ts us : List Token} → Parallel n sum ts us → SameBy (read_steps most us) (read_steps most ts)
  unfolding read_steps
  same_steps zero {ts = ts} {us = us} p =
      same_mark (codes "/") _ _ _ _ (refl, refl) p (λ q. same_then (read_step (drop 1 us)) (read_step (drop 1 ts)) _ _ (same_step q) (λ step rest other l. tt)) (ts, refl, p)
  same_steps (suc most) {ts = ts} {us = us} p =
      same_mark (codes "/") _ _ _ _ (refl, refl) p
      (λ q. same_then (read_step (drop 1 us)) (read_step (drop 1 ts)) _ _ (same_step q)
      (λ step rest other l. same_then (read_steps most rest) (read_steps most other) _ _ (same_steps most l) (λ steps end last m. (last, refl, m))))
      (ts, refl, p)

  pub same_plain_by : (at place : ℕ) (step : Step) {ts us : List Token} → Parallel n sum ts us → SameBy (plain_step at step us) (plain_step place step ts)
  same_plain_by at place (m, true) p = tt
  same_plain_by at place (m, false) {ts = ts} p = (ts, refl, p)

  pub same_plain : {ts us : List Token} → Parallel n sum ts us → SameBy (read_plain us) (read_plain ts)
  same_plain {ts = ts} {us = us} p =
      same_then (read_step us) (read_step ts) (plain_step (place us)) (plain_step (place ts)) (same_step p)
      (λ step rest other l. same_plain_by (place us) (place ts) step l)

  pub same_numbers : (most : ℕ) (before : List ℕ) {ts us : List Token} → Parallel n sum ts us → SameBy (read_numbers most before us) (read_numbers most before ts)
  unfolding read_numbers
  same_numbers zero before {ts = ts} {us = us} p = same_then (read_plain us) (read_plain ts) _ _ (same_plain p) (λ m rest other l. tt)
  same_numbers (suc most) before {ts = ts} {us = us} p =
      same_then (read_plain us) (read_plain ts) _ _ (same_plain p)
      (λ m rest other l. same_if (list_any (nat_eq m) before) (list_any (nat_eq m) before) _ _ _ _ refl (λ e. tt) (λ e.
      same_mark (codes ";") _ _ _ _ (refl, refl) l (λ q. same_numbers most (before ++ m ∷ []) q)
      (same_if (starts (codes ">") rest && nat_lt 0 (length before)) (starts (codes ">") other && nat_lt 0 (length before)) _ _ _ _
      (ap (λ (z : Bool). z && nat_lt 0 (length before)) (same_start (codes ">") (refl, refl) l))
      (λ f. (drop 1 other, refl, behind_mark (codes ">") (refl, refl) l (and_parts (starts (codes ">") rest) (nat_lt 0 (length before)) f).0)) (λ f. tt))))

  pub same_either : {ts us : List Token} → Parallel n sum ts us
      → (starts (codes "h") ts || starts (codes "'") ts) ≡ (starts (codes "h") us || starts (codes "'") us)
  same_either p = rw (same_start (codes "h") (refl, refl) p, same_start (codes "'") (refl, refl) p) refl

  pub same_star : {ts us : List Token} → Parallel n sum ts us
      → (starts (codes "*") ts || starts (codes "<") ts) ≡ (starts (codes "*") us || starts (codes "<") us)
  same_star p = rw (same_start (codes "*") (refl, refl) p, same_start (codes "<") (refl, refl) p) refl

  -- behind the index
  pub same_index : {ts us : List Token} → Parallel n sum ts us → starts (codes "*") us ≡ true → SameBy (read_index us) (read_index ts)
  same_index {ts = ts} {us = us} p e =
      let q = behind_mark (codes "*") (refl, refl) p e in
      same_if {A = List Way} (starts (codes "h") (drop 1 us) || starts (codes "'") (drop 1 us)) (starts (codes "h") (drop 1 ts) || starts (codes "'") (drop 1 ts))
      (Err (Hardened (place us))) (Ok (index ∷ [], drop 1 us)) (Err (Hardened (place ts))) (Ok (index ∷ [], drop 1 ts)) (same_either q) (λ f. tt) (λ f. (drop 1 ts, refl, q))

  pub same_ways : (most : ℕ) (fixed : Option ℕ) (had : Bool) {ts us : List Token} → Parallel n sum ts us → SameBy (read_ways most fixed had us) (read_ways most fixed had ts)
  unfolding read_ways
  same_ways zero fixed had {ts = ts} {us = us} p =
      same_mark (codes "/") _ _ _ _ (refl, refl) p
      (λ q. same_if (starts (codes "*") (drop 1 us) || starts (codes "<") (drop 1 us)) (starts (codes "*") (drop 1 ts) || starts (codes "<") (drop 1 ts)) _ _ _ _ (same_star q)
      (λ e. tt) (λ e. same_then (read_step (drop 1 us)) (read_step (drop 1 ts)) _ _ (same_step q) (λ step rest other l. tt)))
      (ts, refl, p)
  same_ways (suc most) fixed had {ts = ts} {us = us} p =
      same_mark (codes "/") _ _ _ _ (refl, refl) p
      (λ q. same_if (starts (codes "*") (drop 1 us)) (starts (codes "*") (drop 1 ts)) _ _ _ _ (same_start (codes "*") (refl, refl) q) (same_index q) (λ e.
      same_mark (codes "<") _ _ _ _ (refl, refl) q
      (λ k. same_if had had _ _ _ _ refl (λ f. tt) (λ f.
      same_then (read_numbers MOST_BRANCHES [] (drop 1 (drop 1 us))) (read_numbers MOST_BRANCHES [] (drop 1 (drop 1 ts))) _ _ (same_numbers MOST_BRANCHES [] k)
      (λ ns rest other l. same_if (fits fixed (length ns)) (fits fixed (length ns)) _ _ _ _ refl
      (λ g. same_then (read_ways most fixed true rest) (read_ways most fixed true other) _ _ (same_ways most fixed true l) (λ ways end last m. (last, refl, m))) (λ g. tt))))
      (same_then (read_plain (drop 1 us)) (read_plain (drop 1 ts)) _ _ (same_plain q)
      (λ m rest other l. same_then (read_ways most fixed had rest) (read_ways most fixed had other) _ _ (same_ways most fixed had l) (λ ways end last k. (last, refl, k))))))
      (ts, refl, p)

  -- ---- key expressions

  pub same_origin_by : (at : ℕ) (print : Option Bytes) {ts us : List Token} → Parallel n sum ts us → SameBy (origin_by at print us) (origin_by at print ts)
  same_origin_by at None p = tt
  same_origin_by at (Some print) {ts = ts} {us = us} p =
      same_then (read_steps MOST_STEPS us) (read_steps MOST_STEPS ts) _ _ (same_steps MOST_STEPS p)
      (λ steps rest other l. same_behind (codes "]") _ _ (refl, refl) l (λ end last m. (last, refl, m)))

  no_print : (o : Option Bytes) (r : Result (Option Origin × List Token) DescriptorFault) → print_of [] ≡ o → SameBy (origin_by n o []) r
  no_print None r e = tt
  no_print (Some print) r e = absurd (print_first [] print e)

  pub same_print : {ts us : List Token} → Parallel n sum ts us → SameBy (read_print us) (read_print ts)
  same_print ends = no_print (print_of []) _ refl
  same_print (more at b bytes l p) = same_origin_by at (print_of (b ∷ bytes)) p

  pub same_origin : {ts us : List Token} → Parallel n sum ts us → SameBy (read_origin us) (read_origin ts)
  same_origin {ts = ts} {us = us} p = same_mark (codes "[") (read_print (drop 1 us)) (Ok (None, us)) (read_print (drop 1 ts)) (Ok (None, ts)) (refl, refl) p same_print (ts, refl, p)

  pub same_point : {A : Type 0} (at : ℕ) (own : Option Point) (r s : Result (A × List Token) DescriptorFault) → SameBy r s → SameBy (with_point at own r) (with_point at own s)
  same_point at None r s h = tt
  same_point at (Some own) r s h = h

  pub same_named_by : (seen : Seen) (at : ℕ) (word : Bytes) (own : Option Bytes) (other : Option Extended) {ts us : List Token} → Parallel n sum ts us
      → SameBy (named_by seen at word own other us) (named_by seen at word own other ts)
  same_named_by seen at word (Some own) other {ts = ts} {us = us} p = same_point at (point_of own) _ _ (ts, refl, p)
  same_named_by seen at word None (Some own) {ts = ts} {us = us} p =
      same_point at (point_of own.key) (ways_behind seen at own us) (ways_behind seen at own ts)
      (same_if (fits seen.version own.version) (fits seen.version own.version) _ _ _ _ refl
      (λ e. same_then (read_ways (MOST_STEPS - own.depth) seen.length false us) (read_ways (MOST_STEPS - own.depth) seen.length false ts) _ _
      (same_ways (MOST_STEPS - own.depth) seen.length false p) (λ ways rest last l. (last, refl, l))) (λ e. tt))
  same_named_by seen at word None None p = tt

  no_named : (seen : Seen) (o : Option Bytes) (r : Result (Named × List Token) DescriptorFault) → key_of [] ≡ o → SameBy (named_by seen n [] o None []) r
  no_named seen None r e = tt
  no_named seen (Some own) r e = absurd (key_first [] own e)

  pub same_named : (seen : Seen) {ts us : List Token} → Parallel n sum ts us → SameBy (read_named seen us) (read_named seen ts)
  unfolding read_named
  same_named seen ends = no_named seen (key_of []) _ refl
  same_named seen (more at b bytes l p) = same_named_by seen at (b ∷ bytes) (key_of (b ∷ bytes)) (extended_word (b ∷ bytes)) p

  pub same_key : (seen : Seen) {ts us : List Token} → Parallel n sum ts us → SameBy (read_key seen us) (read_key seen ts)
  unfolding read_key
  same_key seen {ts = ts} {us = us} p =
      same_then (read_origin us) (read_origin ts) _ _ (same_origin p)
      (λ origin rest other l. same_then (read_named seen rest) (read_named seen other) _ _ (same_named seen l)
      (λ named end last m. (last, ap (λ (z : ℕ). Ok (record { at = z; origin = origin; named = named }, last)) (same_place p), m)))
