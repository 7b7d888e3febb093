-- Keys that stand twice, by their places. No public clause cites it, so it need not be believed.
use Rattle.std.specs.Prelude.{◌≡◌, ℕ, ◌+◌, ◌-◌, ◌%◌, ◌^◌, ◌<◌, ◌≤◌, nat_le, List, [], ◌∷◌, ◌++◌, length, take, drop, map, slice_index, if◌then◌else◌, Option, Some, None, Ok, Err}
use Rattle.std.specs.Cmp.Lexicographic.{slice_cmp}
use Rattle.std.specs.Hash.DefaultHasher as sip
use Rattle.std.specs.Int.{w32, from_be_bytes}
use Rattle.std.specs.List.{All, list_any}
use Rattle.std.specs.Ordering.{nat_cmp, ordering_then}
use Rattle.std.specs.Str.{bytes_eq}
use Rattle.std.specs.declared.cmp.Ordering.{Ordering}
use Rattle.def_script.specs.Bytes.{Bytes}
use Rattle.def_psbt.specs.Reading.{Read, string_at}
use Rattle.ms_psbt.specs.declared.repeats.Keys.{Keys}
use Rattle.ms_psbt.specs.declared.repeats.Keys.TheVariants as keys
use Rattle.ms_psbt.specs.declared.repeats.Marked.{Marked}

abbrev pub key_read : Read Bytes → Bytes
key_read (Ok read) = read.0
key_read (Err refusal) = []

-- the key at a place
abbrev pub key_at : Keys → (bytes : Bytes) → (place : ℕ) → Bytes
key_at keys.Pairs bytes place = key_read (string_at bytes place)
key_at keys.Outpoints bytes place = take 36 (drop place bytes)

-- the first four bytes as a number, with zeros for those that aren't there
abbrev pub first_four : Bytes → ℕ
first_four [] = 0
first_four (a ∷ []) = from_be_bytes w32 (a ∷ 0 ∷ 0 ∷ 0 ∷ [])
first_four (a ∷ b ∷ []) = from_be_bytes w32 (a ∷ b ∷ 0 ∷ 0 ∷ [])
first_four (a ∷ b ∷ c ∷ []) = from_be_bytes w32 (a ∷ b ∷ c ∷ 0 ∷ [])
first_four (a ∷ b ∷ c ∷ d ∷ rest) = from_be_bytes w32 (a ∷ b ∷ c ∷ d ∷ [])

-- the sum of the first four bytes of a key and of its last four, as a number of 32 bits
unfoldable pub mark_of : Bytes → ℕ
mark_of key = (first_four key + first_four (drop (length key - 4) key)) % 2 ^ 32

-- SipHash-1-3 of a key, cut to 32 bits
unfoldable pub hash_of : Bytes → ℕ
hash_of key = sip.finish (sip.write sip.initial key) % 2 ^ 32

abbrev pub marked : (key : Bytes) → (place : ℕ) → Marked
marked key place = record { mark = mark_of key; place = place }

-- a place with the hash of its key for its mark
abbrev pub hashed : Keys → (bytes : Bytes) → Marked → Marked
hashed keys bytes place = record place { mark = hash_of (key_at keys bytes place.place) }

-- the mark at a place is what its key gives
abbrev pub IsMarkedBy : (mark : Bytes → ℕ) → Keys → (bytes : Bytes) → Marked → Type 0
IsMarkedBy mark keys bytes place = place.mark ≡ mark (key_at keys bytes place.place)

abbrev pub AreMarkedBy : (mark : Bytes → ℕ) → Keys → (bytes : Bytes) → List Marked → Type 0
AreMarkedBy mark keys bytes = All (IsMarkedBy mark keys bytes)

abbrev pub AreMarked : Keys → (bytes : Bytes) → List Marked → Type 0
AreMarked = AreMarkedBy mark_of

-- by some way of marking, the same for all
abbrev pub HaveMarks : Keys → (bytes : Bytes) → List Marked → Type 0
HaveMarks keys bytes places = (mark : Bytes → ℕ) × AreMarkedBy mark keys bytes places

-- places without their marks
abbrev pub places_of : List Marked → List ℕ
places_of = map (λ (place : Marked). place.place)

-- a mark, its key, and its place
abbrev pub rank_cmp : (first second : ℕ × (Bytes × ℕ)) → Ordering
rank_cmp first second = ordering_then (nat_cmp first.0 second.0) (ordering_then (slice_cmp nat_cmp first.1.0 second.1.0) (nat_cmp first.1.1 second.1.1))

abbrev pub rank_of : Keys → (bytes : Bytes) → Marked → ℕ × (Bytes × ℕ)
rank_of keys bytes place = (place.mark, (key_at keys bytes place.place, place.place))

-- the first of some places whose key is one of some, or that of an earlier one
unfoldable pub repeat_in : Keys → (bytes : Bytes) → (before : List Bytes) → (places : List ℕ) → Option ℕ
repeat_in keys bytes before [] = None
repeat_in keys bytes before (place ∷ places) =
    if list_any (bytes_eq (key_at keys bytes place)) before then Some place
    else repeat_in keys bytes (before ++ key_at keys bytes place ∷ []) places

-- of neighbours among the first places of an order whose keys are the same, the least latter one
pub record IsLeastRepeat (keys : Keys) (bytes : Bytes) (order : List ℕ) (high least : ℕ) : Type 0 where
  pub place : ℕ
  pub inside : place + 1 < high
  pub same : key_at keys bytes (slice_index order place) ≡ key_at keys bytes (slice_index order (place + 1))
  pub is : least ≡ slice_index order (place + 1)
  pub bound : (k : ℕ) → k + 1 < high → key_at keys bytes (slice_index order k) ≡ key_at keys bytes (slice_index order (k + 1)) → least ≤ slice_index order (k + 1)

abbrev pub LeastOf : Keys → (bytes : Bytes) → (order : List ℕ) → (high : ℕ) → Option ℕ → Type 0
LeastOf keys bytes order high (Some least) = IsLeastRepeat keys bytes order high least
LeastOf keys bytes order high None = (k : ℕ) → k + 1 < high → key_at keys bytes (slice_index order k) ≡ key_at keys bytes (slice_index order (k + 1)) → ⊥

abbrev pub least_of : Option ℕ → ℕ → ℕ
least_of (Some other) place = if nat_le other place then other else place
least_of None place = place
