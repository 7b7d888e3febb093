-- The order of held signatures in which the shortest of a key is found by halves. No public clause cites it, so it need
-- not be believed.
use Rattle.std.specs.Prelude.{◌≡◌, ◌<◌, ℕ, List, length, Bool, true, false, if◌then◌else◌, Option, Some, None}
use Rattle.std.specs.Cmp.Lexicographic.{slice_cmp}
use Rattle.std.specs.List.{range_with_len}
use Rattle.std.specs.List.Sorted.{IsPartitionPoint, IsPermutation, IsSortedByKey}
use Rattle.std.specs.Ordering.{nat_cmp, ordering_then, is_lt}
use Rattle.std.specs.Str.{bytes_eq}
use Rattle.std.specs.declared.cmp.Ordering.{Ordering}
use Rattle.def_script.specs.Bytes.{Bytes}
use Rattle.def_machine.specs.Stacks.{Pairs}
use Rattle.def_assets.specs.Assets.{shorter}
use Rattle.ms_oracle.specs.Places.{pair_at}

-- what tells where a signature stands in the order: its key, its length and its place in the table
pub record Rank : Type 0 where
  pub key : Bytes
  pub size : ℕ
  pub place : ℕ

-- by the bytes of the keys, then by the lengths, then by the places
abbrev pub rank_cmp : (first second : Rank) → Ordering
rank_cmp first second =
    ordering_then (ordering_then (slice_cmp nat_cmp first.key second.key) (nat_cmp first.size second.size)) (nat_cmp first.place second.place)

-- the rank of the pair at a place of a table
abbrev pub rank_of : Pairs → ℕ → Rank
rank_of table place = record { key = (pair_at table place).0; size = length (pair_at table place).1; place = place }

-- the pair at a place stands before this rank
abbrev pub is_before : Pairs → Rank → ℕ → Bool
is_before table rank place = is_lt (rank_cmp (rank_of table place) rank)

-- of some places, those before this one stand before a rank, and the others don't
abbrev pub SplitsAt : Pairs → Rank → (order : List ℕ) → ℕ → Type 0
SplitsAt table rank order = IsPartitionPoint (λ place. is_before table rank place ≡ true) (λ place. is_before table rank place ≡ false) order

-- all places of a table, in the order of their ranks
pub record IsOrder (table : Pairs) (order : List ℕ) : Type 0 where
  pub whole : IsPermutation (range_with_len 0 (length table)) order
  pub sorted : IsSortedByKey (rank_of table) rank_cmp order

-- up to how many pairs no order is kept
abbrev pub FEW : ℕ
FEW = 16

-- where they are many, all places of a table, in the order of their ranks
abbrev pub IsOrderOfMany : Pairs → (order : List ℕ) → Type 0
IsOrderOfMany table order = FEW < length table → IsOrder table order

-- the shortest signature with one more behind the others
abbrev pub shortest_with : Option Bytes → (sig : Bytes) → Bytes
shortest_with None sig = sig
shortest_with (Some former) sig = shorter former (Some sig)

-- the signature at a place, where its key is this one
abbrev pub sig_under : Pairs → ℕ → (key : Bytes) → Option Bytes
sig_under table place key = if bytes_eq (pair_at table place).0 key then Some (pair_at table place).1 else None
