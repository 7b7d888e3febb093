-- The greatest number of elements on the ways of a set, and how it goes on from part to part.
use Rattle.std.proofs.Common.{◌≡◌, ℕ, ◌+◌, max, ◌<◌, ◌≤◌, ◌⊎◌, [], ◌∷◌, ◌++◌, Option, Some, None, refl, sym, ◌∙◌, ap, inl, inr, arith}
use Rattle.std.proofs.lemmas.Bool.{cases_lt}
use Rattle.def_height.specs.Course.{up, down, Course, rise}
use Rattle.def_height.specs.Formal.{Way, then, Never, Is, Either, Then, Followed}
use Rattle.def_height.specs.Height.{peak}
use Rattle.def_height.specs.declared.Highest.{Highest}
use Rattle.def_height.specs.Scaffolding.Highest.{only, both, either, at_least}

-- all steps up, and all steps down
abbrev pub ups : Course → ℕ
ups [] = 0
ups (up n ∷ rest) = n + ups rest
ups (down n ∷ rest) = ups rest

abbrev pub downs : Course → ℕ
downs [] = 0
downs (up n ∷ rest) = downs rest
downs (down n ∷ rest) = n + downs rest

pub ups_append : (a b : Course) → ups (a ++ b) ≡ ups a + ups b
ups_append [] b = omega arith
ups_append (up n ∷ a) b = omega (arith, ups_append a b)
ups_append (down n ∷ a) b = ups_append a b

pub downs_append : (a b : Course) → downs (a ++ b) ≡ downs a + downs b
downs_append [] b = omega arith
downs_append (up n ∷ a) b = downs_append a b
downs_append (down n ∷ a) b = omega (arith, downs_append a b)

-- the rise of two courses is that of the former, or that of the latter from where the former ends
pub rise_append : (a b : Course) → rise (a ++ b) + downs a ≡ max (rise a + downs a) (ups a + rise b)
rise_append [] b = omega arith
rise_append (up n ∷ a) b = omega (arith, rise_append a b)
rise_append (down n ∷ a) b = omega (arith, rise_append a b)

-- a course rises at least to its end
pub rise_ends : (a : Course) → ups a ≤ rise a + downs a
rise_ends [] = omega arith
rise_ends (up n ∷ a) = omega (arith, rise_ends a)
rise_ends (down n ∷ a) = omega (arith, rise_ends a)

-- each way of P leaves so many elements of those that it found, and these are the greatest numbers
pub record IsBest (left : ℕ) (P : Way → Type 0) (m : Highest) : Type 0 where
  pub leaves : (w : Way) → P w → w.items + ups w.course ≡ left + downs w.course
  pub items : (w : Way) × P w × (w.items ≡ m.items)
  pub few : (w : Way) → P w → w.items ≤ m.items
  pub height : (w : Way) × P w × (peak w ≡ m.height)
  pub low : (w : Way) → P w → peak w ≤ m.height

abbrev pub IsHighest : (left : ℕ) → (P : Way → Type 0) → Option Highest → Type 0
IsHighest left P None = (w : Way) → P w → ⊥
IsHighest left P (Some m) = IsBest left P m

-- how two ways go on
peak_then : (left : ℕ) (a b : Way) → a.items + ups a.course ≡ left + downs a.course → peak (then a b) ≡ max (peak a + b.items) (left + peak b)
peak_then left a b leaves = omega (arith, leaves, rise_append a.course b.course)

leaves_then : (l m left : ℕ) (a b : Way) → left ≡ l + m → a.items + ups a.course ≡ l + downs a.course → b.items + ups b.course ≡ m + downs b.course
    → (then a b).items + ups (then a b).course ≡ left + downs (then a b).course
leaves_then l m left a b sum x y = omega (arith, sum, x, y, ups_append a.course b.course, downs_append a.course b.course)

pub is_highest : (left : ℕ) (items : ℕ) (course : Course) (height : ℕ) → items + ups course ≡ left + downs course → items + rise course ≡ height → IsHighest left (Is items course) (only items height)
is_highest left items course height leaves high =
    let way : Way = record { items = items; course = course } in
    record {
      leaves = λ w is. ap (λ (x : Way). x.items + ups x.course) is ∙ leaves ∙ sym (ap (λ (x : Way). left + downs x.course) is);
      items = (way, refl, refl);
      few = λ w is. let e : w.items ≡ items = ap (λ (x : Way). x.items) is in omega arith;
      height = (way, refl, high);
      low = λ w is. let e : peak w ≡ items + rise course = ap peak is in omega (arith, e, high);
    }

pub never_highest : (left : ℕ) → IsHighest left Never None
never_highest left w h = h

pub then_highest : (l m left : ℕ) (P Q : Way → Type 0) (o p : Option Highest) → left ≡ l + m → IsHighest l P o → IsHighest m Q p → IsHighest left (Then P Q) (both l o p)
then_highest l m left P Q None p sum x y = λ w h. x h.0 h.2
then_highest l m left P Q (Some a) None sum x y = λ w h. y h.1 h.3
then_highest l m left P Q (Some a) (Some b) sum x y =
    let i = x.items in let j = y.items in let g = x.height in let h = y.height in
    record {
      leaves = λ w is.
          let e : w.items + ups w.course ≡ (then is.0 is.1).items + ups (then is.0 is.1).course = ap (λ (z : Way). z.items + ups z.course) is.4 in
          let f : left + downs w.course ≡ left + downs (then is.0 is.1).course = ap (λ (z : Way). left + downs z.course) is.4 in
          e ∙ leaves_then l m left is.0 is.1 sum (x.leaves is.0 is.2) (y.leaves is.1 is.3) ∙ sym f;
      items = (then i.0 j.0, (i.0, j.0, i.1, j.1, refl), omega (arith, i.2, j.2));
      few = λ w is.
          let e : w.items ≡ is.0.items + is.1.items = ap (λ (z : Way). z.items) is.4 in
          omega (arith, e, x.few is.0 is.2, y.few is.1 is.3);
      height = highest (cases_lt (a.height + b.items) (l + b.height));
      low = λ w is.
          let e : peak w ≡ peak (then is.0 is.1) = ap peak is.4 in
          omega (arith, e, peak_then l is.0 is.1 (x.leaves is.0 is.2), x.low is.0 is.2, y.low is.1 is.3, y.few is.1 is.3);
    }
  where
    highest : (a.height + b.items < l + b.height) ⊎ (l + b.height ≤ a.height + b.items) → (w : Way) × Then P Q w × (peak w ≡ max (a.height + b.items) (l + b.height))
    highest (inl latter) =
        let i = x.items in let h = y.height in
        (then i.0 h.0, (i.0, h.0, i.1, h.1, refl), omega (arith, peak_then l i.0 h.0 (x.leaves i.0 i.1), h.2, x.low i.0 i.1, y.few h.0 h.1, latter))
    highest (inr former) =
        let g = x.height in let j = y.items in
        (then g.0 j.0, (g.0, j.0, g.1, j.1, refl), omega (arith, peak_then l g.0 j.0 (x.leaves g.0 g.1), g.2, j.2, y.low j.0 j.1, former))

-- of either
greater : (number : Way → ℕ) (P Q : Way → Type 0) (a b : ℕ) → (w : Way) × P w × (number w ≡ a) → (w : Way) × Q w × (number w ≡ b)
    → (w : Way) × Either P Q w × (number w ≡ max a b)
greater number P Q a b x y = elim (cases_lt a b) [
  | inl below ↦ (y.0, inr y.1, omega (arith, y.2, below))
  | inr above ↦ (x.0, inl x.1, omega (arith, x.2, above))
]

-- the same ways
same_ways : (left : ℕ) (P Q : Way → Type 0) (o : Option Highest) → ((w : Way) → P w → Q w) → ((w : Way) → Q w → P w) → IsHighest left P o → IsHighest left Q o
same_ways left P Q None to from x = λ w q. x w (from w q)
same_ways left P Q (Some m) to from x = record {
  leaves = λ w q. x.leaves w (from w q);
  items = (x.items.0, to x.items.0 x.items.1, x.items.2);
  few = λ w q. x.few w (from w q);
  height = (x.height.0, to x.height.0 x.height.1, x.height.2);
  low = λ w q. x.low w (from w q);
}

pub either_highest : (left : ℕ) (P Q : Way → Type 0) (o p : Option Highest) → IsHighest left P o → IsHighest left Q p → IsHighest left (Either P Q) (either o p)
either_highest left P Q None p x y = same_ways left Q (Either P Q) p (λ w q. inr q) (λ w h. elim h [ inl a ↦ absurd (x w a) | inr q ↦ q ]) y
either_highest left P Q (Some a) None x y = same_ways left P (Either P Q) (Some a) (λ w p. inl p) (λ w h. elim h [ inl p ↦ p | inr b ↦ absurd (y w b) ]) x
either_highest left P Q (Some a) (Some b) x y = record {
  leaves = λ w h. elim h [ inl p ↦ x.leaves w p | inr q ↦ y.leaves w q ];
  items = greater (λ w. w.items) P Q a.items b.items x.items y.items;
  few = λ w h. elim h [ inl p ↦ omega (arith, x.few w p) | inr q ↦ omega (arith, y.few w q) ];
  height = greater peak P Q a.height b.height x.height y.height;
  low = λ w h. elim h [ inl p ↦ omega (arith, x.low w p) | inr q ↦ omega (arith, y.low w q) ];
}

-- a way and further steps
peak_followed : (left : ℕ) (w : Way) (course : Course) → w.items + ups w.course ≡ left + downs w.course → peak (then w (record { items = 0; course = course })) ≡ max (peak w) (left + rise course)
peak_followed left w course leaves = omega (arith, leaves, rise_append w.course course)

-- at the end of a way there are as many elements as it leaves
peak_ends : (left : ℕ) (w : Way) → w.items + ups w.course ≡ left + downs w.course → left ≤ peak w
peak_ends left w leaves = omega (arith, leaves, rise_ends w.course)

pub at_least_highest : (l left : ℕ) (P : Way → Type 0) (course : Course) (o : Option Highest) → l + ups course ≡ left + downs course → IsHighest l P o
    → IsHighest left (Followed P course) (at_least (l + rise course) o)
at_least_highest l left P course None ends x = λ w h. x h.0 h.2
at_least_highest l left P course (Some a) ends x =
    let steps : Way = record { items = 0; course = course } in
    let i = x.items in let g = x.height in
    record {
      leaves = λ w is.
          let b : is.1 ≡ steps = is.3 in
          let e : w ≡ then is.0 steps = is.4 ∙ ap (then is.0) b in
          let f : w.items + ups w.course ≡ is.0.items + 0 + ups (is.0.course ++ course) = ap (λ (z : Way). z.items + ups z.course) e in
          let g : downs w.course ≡ downs (is.0.course ++ course) = ap (λ (z : Way). downs z.course) e in
          omega (arith, f, g, ends, x.leaves is.0 is.2, ups_append is.0.course course, downs_append is.0.course course);
      items = (then i.0 steps, (i.0, steps, i.1, refl, refl), omega (arith, i.2));
      few = λ w is.
          let e : w ≡ then is.0 steps = is.4 ∙ ap (then is.0) is.3 in
          let f : w.items ≡ is.0.items + 0 = ap (λ (z : Way). z.items) e in
          omega (arith, f, x.few is.0 is.2);
      height = (then g.0 steps, (g.0, steps, g.1, refl, refl), peak_followed l g.0 course (x.leaves g.0 g.1) ∙ ap (λ n. max n (l + rise course)) g.2);
      low = λ w is.
          let e : w ≡ then is.0 steps = is.4 ∙ ap (then is.0) is.3 in
          let f : peak w ≡ peak (then is.0 steps) = ap peak e in
          omega (arith, f, peak_followed l is.0 course (x.leaves is.0 is.2), x.low is.0 is.2);
    }

-- steps that don't rise leave the greatest numbers
same_highest : (left : ℕ) (P : Way → Type 0) (a : Highest) (n : ℕ) → n ≤ a.height → IsHighest left P (at_least n (Some a)) → IsHighest left P (Some a)
same_highest left P a n le x = record {
  leaves = x.leaves;
  items = x.items;
  few = x.few;
  height = (x.height.0, x.height.1, omega (arith, x.height.2, le));
  low = λ w is. omega (arith, x.low w is, le);
}

pub followed_highest : (l left : ℕ) (P : Way → Type 0) (course : Course) (o : Option Highest) → rise course ≡ 0 → l + ups course ≡ left + downs course
    → IsHighest l P o → IsHighest left (Followed P course) o
followed_highest l left P course None flat ends x = at_least_highest l left P course None ends x
followed_highest l left P course (Some a) flat ends x =
    same_highest left (Followed P course) a (l + rise course)
    (omega (arith, flat, peak_ends l x.height.0 (x.leaves x.height.0 x.height.1), x.height.2))
    (at_least_highest l left P course (Some a) ends x)

-- before a way, an item and some steps
pub begun_highest : (l m left : ℕ) (items : ℕ) (course : Course) (height : ℕ) (P : Way → Type 0) (o : Option Highest) → left ≡ l + m → items + ups course
    ≡ l + downs course → items + rise course ≡ height → IsHighest m P o → IsHighest left (Then (Is items course) P) (both l (only items height) o)
begun_highest l m left items course height P o sum leaves high x = then_highest l m left (Is items course) P (only items height) o sum (is_highest l items course height leaves high) x

-- before a way, a step that changes nothing
pub led_highest : (left : ℕ) (P : Way → Type 0) (o : Option Highest) → IsHighest left P o → IsHighest left (Then (Is 0 (up 0 ∷ [])) P) o
led_highest left P None x = then_highest 0 left left (Is 0 (up 0 ∷ [])) P (only 0 0) None (omega arith) (is_highest 0 0 (up 0 ∷ []) 0 refl refl) x
led_highest left P (Some a) x =
    let y = then_highest 0 left left (Is 0 (up 0 ∷ [])) P (only 0 0) (Some a) (omega arith) (is_highest 0 0 (up 0 ∷ []) 0 refl refl) x in
    record {
      leaves = y.leaves;
      items = (y.items.0, y.items.1, omega (arith, y.items.2));
      few = λ w is. omega (arith, y.few w is);
      height = (y.height.0, y.height.1, omega (arith, y.height.2, peak_items x.height.0, x.height.2, x.few x.items.0 x.items.1, x.low x.items.0 x.items.1, x.items.2));
      low = λ w is. omega (arith, y.low w is, x.low x.items.0 x.items.1, x.items.2);
    }
  where
    peak_items : (w : Way) → w.items ≤ peak w
    peak_items w = omega arith
