-- The instructions of a script, listed one after the other.
use Rattle.std.proofs.Common.{◌≡◌, ℕ, ◌+◌, ◌<◌, ◌≤◌, List, [], ◌∷◌, ◌++◌, length, drop, Result, Ok, Err, arith, refl, sym, ◌∙◌, ap, append_assoc}
use Rattle.std.specs.Prelude.{slice_index, OnOk}
use Rattle.std.proofs.lemmas.List.{append-nil, drop_all}
use Rattle.def_script.specs.declared.InstrFault.{InstrFault}
use Rattle.def_script.specs.Bytes.{Bytes}
use Rattle.def_script.specs.Item as item
use Rattle.def_trace.specs.Placed.{Placed, placed_after, placed}
use Rattle.def_trace.specs.Listing.{listed, listing}
use Rattle.ms_script.specs.declared.reading.InstrRef.{InstrRef}
use Rattle.ms_script.specs.declared.reading.InstrRef.TheVariants.{Push, Small, Code}
use Rattle.ms_script.specs.Reads.{item_of}
use Rattle.ms_trace.specs.Scaffolding.Brief.{listed_unread}
use Rattle.ms_trace.proofs.Loop.{Begins, Breaks, next_place, first_there}

-- what a step that took memory comes to, where memory wasn't wanting
pub on_ok : {T E P Q : Type 0} (r : Result T E) → (P → Q) → OnOk r P → OnOk r Q
on_ok (Ok x) then holds = then holds
on_ok (Err e) then holds = holds

-- the lines so far and those that are left
pub record KeepsList (script : Bytes) (places : List ℕ) (begun : Bytes) (from count : ℕ) (report : Bytes) : Type 0 where
  pub inside : from ≤ length script
  pub counted : count ≤ from
  pub told : report ++ listing (drop count places) (placed_after from 0 (drop from script)) ≡ begun ++ listing places (placed script)

pub list_begun : (script : Bytes) (places : List ℕ) (report : Bytes) → KeepsList script places report 0 0 report
list_begun script places report = record { inside = omega arith; counted = omega arith; told = refl }

listing_from : (p : Placed) (ps all : List Placed) (places : List ℕ) → all ≡ p ∷ ps → listing places all ≡ listed places p ++ listing (drop 1 places) ps
unfolding listing
listing_from p ps all places is = rw is refl

-- the first byte isn't told of an instruction that was read
first_untold : (offset first : ℕ) (instr : InstrRef) (places : List ℕ)
    → listed places (record { offset = offset; first = 0; item = item_of instr }) ≡ listed places (record { offset = offset; first = first; item = item_of instr })
first_untold offset first (Push bytes minimal) places = refl
first_untold offset first (Small n) places = refl
first_untold offset first (Code op) places = refl

-- an instruction more
pub list_goes_on : (script : Bytes) (places : List ℕ) (start : Bytes) (from count next : ℕ) (instr : InstrRef) (before after : Bytes)
    → KeepsList script places start from count before → Begins script from next (item_of instr) → from < next → next ≤ length script
    → after ≡ before ++ listed (drop count places) (record { offset = from; first = 0; item = item_of instr })
    → KeepsList script places start next (count + 1) after
list_goes_on script places start from count next instr before after k b on within added =
    let counted = k.counted in
    let rest = placed_after next 0 (drop next script) in
    let line = listed (drop count places) (record { offset = from; first = b.first; item = item_of instr }) in
    let whole : listing (drop count places) (placed_after from 0 (drop from script)) ≡ line ++ listing (drop (count + 1) places) rest =
    listing_from (record { offset = from; first = b.first; item = item_of instr }) rest _ (drop count places) b.whole
    ∙ ap (λ (ns : List ℕ). line ++ listing ns rest) (next_place places count)
    in
    record {
      inside = within;
      counted = omega arith;
      told =
          ap (λ (bs : Bytes). bs ++ listing (drop (count + 1) places) rest)
          (added ∙ ap (λ (bs : Bytes). before ++ bs) (first_untold from b.first instr (drop count places)))
          ∙ append_assoc before line (listing (drop (count + 1) places) rest) ∙ ap (λ (bs : Bytes). before ++ bs) (sym whole) ∙ k.told;
    }

-- the end
none_left : (places : List ℕ) (from : ℕ) (rest : Bytes) → rest ≡ [] → listing places (placed_after from 0 rest) ≡ []
unfolding listing placed_after
none_left places from rest none = rw none refl

pub list_ends : (script : Bytes) (places : List ℕ) (start : Bytes) (from count : ℕ) (report : Bytes)
    → KeepsList script places start from count report → from ≡ length script → report ≡ start ++ listing places (placed script)
list_ends script places start from count report k end =
    let past : length script ≤ from = omega arith in
    sym (append-nil report) ∙ ap (λ (bs : Bytes). report ++ bs) (sym (none_left (drop count places) from (drop from script) (drop_all from script past)))
    ∙ k.told

-- one that can't be read is the last
last_listed : (p : Placed) (all : List Placed) (places : List ℕ) → all ≡ p ∷ [] → listing places all ≡ listed places p ++ []
unfolding listing
last_listed p all places is = rw is refl

pub list_breaks : (script : Bytes) (places : List ℕ) (start : Bytes) (from count : ℕ) (before after : Bytes) (e : InstrFault)
    → KeepsList script places start from count before → Breaks script from e
    → after ≡ before ++ listed_unread (drop count places) from (slice_index script from)
    → after ≡ start ++ listing places (placed script)
list_breaks script places start from count before after e k b added =
    let p : Placed = record { offset = from; first = b.first; item = item.fault e } in
    added
    ∙ ap (λ (n : ℕ). before ++ listed_unread (drop count places) from n) (first_there script from b.first b.rest b.stands)
    ∙ ap (λ (bs : Bytes). before ++ bs) (sym (append-nil (listed (drop count places) p)) ∙ sym (last_listed p _ (drop count places) b.whole))
    ∙ k.told
