-- The calls by which bytes are written and read.
use Rattle.std.specs.Prelude.{ℕ, ◌+◌, ◌<◌, ◌≤◌, List, [], ◌++◌, length, drop}

-- ---- of a sink

-- calls of a sink that take bytes one after the other, each of which was offered all that was left
pub data Offers {Sink : Type 0} (takes : Sink → List ℕ → ℕ → Sink → Type 0) (old : Sink) (bytes : List ℕ) : Sink → (rest : List ℕ) → Type 0 where
  no_call : Offers takes old bytes old bytes
  one_call : (now next : Sink) → (rest : List ℕ) → (count : ℕ) → Offers takes old bytes now rest → 0 < length rest → takes now rest count next
      → Offers takes old bytes next (drop count rest)

-- such calls, and then one that was offered all that was left and failed
pub record OffersUntilFault {Sink : Type 0} (takes : Sink → List ℕ → ℕ → Sink → Type 0) (fails : Sink → List ℕ → Sink → Type 0)
    (old new : Sink) (bytes : List ℕ) : Type 0 where
  pub now : Sink
  pub rest : List ℕ
  pub offered : Offers takes old bytes now rest
  pub left : 0 < length rest
  pub failed : fails now rest new

-- ---- of a source

-- calls of a source, each of which gave at least one byte, and all that they gave, one after the other
pub data Gives {Source : Type 0} (gives : Source → ℕ → List ℕ → Source → Type 0) (old : Source) : Source → (bytes : List ℕ) → Type 0 where
  no_read : Gives gives old old []
  one_read : (now next : Source) → (bytes more : List ℕ) → (room : ℕ) → Gives gives old now bytes → 0 < length more → gives now room more next
      → Gives gives old next (bytes ++ more)

-- such calls, and then one that gave nothing, though it had room: the last one
pub record GivesToEnd {Source : Type 0} (gives : Source → ℕ → List ℕ → Source → Type 0) (old new : Source) (bytes : List ℕ) : Type 0 where
  pub now : Source
  pub room : ℕ
  pub given : Gives gives old now bytes
  pub open_room : 0 < room
  pub ended : gives now room [] new

-- such calls, and then one that failed
pub record GivesUntilFault {Source : Type 0} (gives : Source → ℕ → List ℕ → Source → Type 0) (fails : Source → ℕ → Source → Type 0)
    (old new : Source) : Type 0 where
  pub now : Source
  pub bytes : List ℕ
  pub room : ℕ
  pub given : Gives gives old now bytes
  pub failed : fails now room new

-- such calls, of which the last one alone passed a limit
pub record GivesPast {Source : Type 0} (gives : Source → ℕ → List ℕ → Source → Type 0) (old new : Source) (limit : ℕ) : Type 0 where
  pub now : Source
  pub bytes : List ℕ
  pub more : List ℕ
  pub room : ℕ
  pub given : Gives gives old now bytes
  pub within : length bytes ≤ limit
  pub passed : limit < length bytes + length more
  pub last : gives now room more new

-- such calls, none of which passed a limit
pub record GivesShort {Source : Type 0} (gives : Source → ℕ → List ℕ → Source → Type 0) (old new : Source) (limit : ℕ) : Type 0 where
  pub bytes : List ℕ
  pub given : Gives gives old new bytes
  pub within : length bytes ≤ limit
