-- Places in the order of their keys. No public clause cites it, so it need not be believed.
use Rattle.std.specs.Prelude.{◌≡◌, ℕ, ◌%◌, ◌^◌, ◌<◌, ◌≤◌, Bool, true, false, List, length}
use Rattle.std.specs.Cmp.Lexicographic.{slice_cmp}
use Rattle.std.specs.Hash.DefaultHasher as sip
use Rattle.std.specs.List.{All, slice_index_or}
use Rattle.std.specs.List.Sorted.{IsPartitionPoint, IsSortedByKey}
use Rattle.std.specs.Ordering.{nat_cmp, ordering_then, is_lt}
use Rattle.std.specs.declared.cmp.Ordering.{Ordering}
use Rattle.def_script.specs.Bytes.{Bytes}
use Rattle.ms_combine.specs.declared.keys.Marked.{Marked}
use Rattle.ms_combine.specs.Scaffolding.Places.{key_at}

-- SipHash-1-3 of a key, cut to 32 bits
unfoldable pub mark_of : Bytes → ℕ
mark_of key = sip.finish (sip.write sip.initial key) % 2 ^ 32

-- what tells where a place stands: the mark of its key, the key, and the place
abbrev pub Rank : Type 0
Rank = ℕ × (Bytes × ℕ)

abbrev pub rank_cmp : (first second : Rank) → Ordering
rank_cmp first second = ordering_then (nat_cmp first.0 second.0) (ordering_then (slice_cmp nat_cmp first.1.0 second.1.0) (nat_cmp first.1.1 second.1.1))

abbrev pub rank_of : (bytes : Bytes) → Marked → Rank
rank_of bytes marked = (marked.mark, (key_at bytes marked.place, marked.place))

-- the rank before all places with the key at a place
abbrev pub least_rank : (bytes : Bytes) → (place : ℕ) → Rank
least_rank bytes place = (mark_of (key_at bytes place), (key_at bytes place, 0))

abbrev pub is_before : (bytes : Bytes) → Rank → Marked → Bool
is_before bytes rank marked = is_lt (rank_cmp (rank_of bytes marked) rank)

abbrev pub SplitsAt : (bytes : Bytes) → Rank → List Marked → ℕ → Type 0
SplitsAt bytes rank order = IsPartitionPoint (λ marked. is_before bytes rank marked ≡ true) (λ marked. is_before bytes rank marked ≡ false) order

-- the mark at a place is that of the key there
abbrev pub IsMarked : (bytes : Bytes) → Marked → Type 0
IsMarked bytes marked = marked.mark ≡ mark_of (key_at bytes marked.place)

-- places with their marks in the order of their ranks
pub record IsOrder (bytes : Bytes) (order : List Marked) : Type 0 where
  pub marks : All (IsMarked bytes) order
  pub sorted : IsSortedByKey (rank_of bytes) rank_cmp order

-- a place is one of some
pub record StandsIn (order : List Marked) (place : ℕ) : Type 0 where
  pub at : ℕ
  pub inside : at < length order
  pub is : (d : Marked) → (slice_index_or order at d).place ≡ place

-- an earlier one of some places has the key at a place
pub record HasEarlier (bytes : Bytes) (order : List Marked) (place : ℕ) : Type 0 where
  pub at : ℕ
  pub inside : at < length order
  pub same : (d : Marked) → key_at bytes (slice_index_or order at d).place ≡ key_at bytes place
  pub earlier : (d : Marked) → (slice_index_or order at d).place < place

-- whether of some places one is the first with its key
abbrev pub IsFirst : (bytes : Bytes) → List Marked → (place : ℕ) → Bool → Type 0
IsFirst bytes order place true =
    (k : ℕ) (d : Marked) → k < length order → key_at bytes (slice_index_or order k d).place ≡ key_at bytes place → place ≤ (slice_index_or order k d).place
IsFirst bytes order place false = HasEarlier bytes order place
