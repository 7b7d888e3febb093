-- Where the instructions of a script stand.
use Rattle.std.proofs.Common.{◌≡◌, ℕ, zero, suc, ◌+◌, ◌≤◌, All, map, List, [], ◌∷◌, length, drop, Ok, Err, arith, refl, sym, ap, subst, length-drop}
use Rattle.std.proofs.lemmas.List.Elements.{All-cons}
use Rattle.def_script.specs.Bytes.{Bytes}
use Rattle.def_script.specs.Item.{Item}
use Rattle.def_script.specs.Item as item
use Rattle.def_script.specs.Items.{ItemReading, first_item, followed, items_after}
use Rattle.def_trace.specs.Placed.{Placed, placed_by, placed_after, placed}
use Rattle.def_trace.specs.Laws.{PlacedAreItems, IsRead, Adjoin, PlacesAdjoin, Grow, PlacesGrow}

by_items : (offset first : ℕ) (r : ItemReading) (f : ℕ → List Placed) (g : ℕ → List Item) → ((n : ℕ) → map (λ (p : Placed). p.item) (f n) ≡ g n)
    → map (λ (p : Placed). p.item) (placed_by offset first r f) ≡ followed r g
by_items offset first (Ok read) f g same = ap (λ is. read.0 ∷ is) (same read.1)
by_items offset first (Err fault) f g same = refl

items_of : (offset skipped : ℕ) (bytes : Bytes) → map (λ (p : Placed). p.item) (placed_after offset skipped bytes) ≡ items_after skipped bytes
unfolding placed_after items_after
items_of offset skipped [] = refl
items_of offset zero (byte ∷ bytes) = by_items offset byte (first_item byte bytes) _ _ (λ n. items_of (offset + 1) n bytes)
items_of offset (suc skipped) (byte ∷ bytes) = items_of (offset + 1) skipped bytes

pub placed_are_items : PlacedAreItems
placed_are_items script = items_of 0 0 script

-- the bytes behind a place
tail_at : (script : Bytes) (place byte : ℕ) (bytes : Bytes) → drop place script ≡ byte ∷ bytes → drop (place + 1) script ≡ bytes
tail_at [] zero byte bytes is = absurd cc
tail_at [] (suc place) byte bytes is = absurd cc
tail_at (b ∷ script) zero byte bytes is = cc
tail_at (b ∷ script) (suc place) byte bytes is =
    let next : suc place + 1 ≡ suc (place + 1) = omega arith in
    rw next (tail_at script place byte bytes is)

none_left : (script : Bytes) (place : ℕ) → drop place script ≡ [] → length script ≤ place
none_left script place none = let same : length (drop place script) ≡ 0 = ap length none in omega (arith, same, length-drop place script)

module _ (script : Bytes) where
  here : (place byte : ℕ) (bytes : Bytes) (r : ItemReading) (f : ℕ → List Placed) → drop place script ≡ byte ∷ bytes → first_item byte bytes ≡ r
      → ((n : ℕ) → Adjoin script (place + 1 + n) (f n)) → Adjoin script place (placed_by place byte r f)
  here place byte bytes (Ok read) f stands is follow =
      let P : ItemReading → Type 0 = λ r. IsRead read.0 (f read.1) r (λ taken. Adjoin script (place + 1 + taken) (f read.1)) in
      (refl, (bytes, stands, subst P (sym is) (refl, follow read.1)))
  here place byte bytes (Err fault) f stands is follow =
      let P : ItemReading → Type 0 = λ r. IsRead (item.fault fault) [] r (λ taken. Adjoin script (place + 1 + taken) []) in
      (refl, (bytes, stands, subst P (sym is) (refl, refl)))

  adjoin : (offset skipped place : ℕ) (bytes : Bytes) → place ≡ offset + skipped → drop offset script ≡ bytes → Adjoin script place (placed_after offset skipped bytes)
  unfolding placed_after
  adjoin offset skipped place [] at none = let past = none_left script offset none in omega arith
  adjoin offset zero place (byte ∷ bytes) at stands =
      let same : offset ≡ place = omega arith in
      let P : ℕ → Type 0 = λ n. Adjoin script n (placed_by offset byte (first_item byte bytes) (λ taken. placed_after (offset + 1) taken bytes)) in
      subst P same
      (here offset byte bytes (first_item byte bytes) (λ taken. placed_after (offset + 1) taken bytes) stands refl
      (λ n. adjoin (offset + 1) n (offset + 1 + n) bytes refl (tail_at script offset byte bytes stands)))
  adjoin offset (suc skipped) place (byte ∷ bytes) at stands =
      adjoin (offset + 1) skipped place bytes (omega arith) (tail_at script offset byte bytes stands)

pub places_adjoin : PlacesAdjoin
places_adjoin script = adjoin script 0 0 0 script refl refl

-- what comes after an instruction: more of them, or none
read_on : (i : Item) (ps : List Placed) (r : ItemReading) (Follow : ℕ → Type 0) (Goal : Type 0) → IsRead i ps r Follow → ((n : ℕ) → Follow n → Goal)
    → (ps ≡ [] → Goal) → Goal
read_on i ps (Ok read) Follow Goal h more none = more read.1 h.1
read_on i ps (Err fault) Follow Goal h more none = none h.1

abbrev AllFrom : ℕ → List Placed → Type 0
AllFrom low ps = All (λ (p : Placed). low ≤ p.offset) ps

no_more : (low : ℕ) (ps : List Placed) → ps ≡ [] → AllFrom low ps × Grow ps
no_more low [] none = ((λ k d inside. absurd (omega arith)), tt)
no_more low (p ∷ ps) none = absurd cc

-- each stands at the place, or behind it
from_there : (script : Bytes) (place : ℕ) (ps : List Placed) → Adjoin script place ps → AllFrom place ps × Grow ps
from_there script place [] h = no_more place [] refl
from_there script place (p ∷ ps) h =
    let behind : AllFrom (p.offset + 1) ps × Grow ps =
    read_on p.item ps (first_item p.first h.1.0) _ _ h.1.2
    (λ n follow. let more = from_there script (place + 1 + n) ps follow in
    ((λ k d inside. let at = h.0 in let low = more.0 k d inside in omega arith), more.1))
    (no_more (p.offset + 1) ps)
    in (
      All-cons (λ (q : Placed). place ≤ q.offset) p ps (omega (arith, h.0)) (λ k d inside. let at = h.0 in let low = behind.0 k d inside in omega arith),
      ((λ k d inside. let low = behind.0 k d inside in omega arith), behind.1),
    )

pub places_grow : PlacesGrow
places_grow script = (from_there script 0 (placed script) (places_adjoin script)).1
