-- How a call ends that answers words: what it did to its source and to its sink, and with which status.
use Rattle.std.specs.Prelude.{◌≡◌, ◌⊎◌, List, ℕ}
use Rattle.std.specs.Io.KnownBytes.{Appends, Keeps}
use Rattle.ms_io.specs.Sides.{Rose, Side, CallWith}
use Rattle.ms_io.specs.Moves.{AppendsPrefix}
use Rattle.ms_io.specs.Reads.{AreTold}

-- which statuses and reports are answers to words and to the bytes of a source
abbrev pub AnswersWith : (S : Type 0) → Type 1
AnswersWith S = (words : List (List ℕ)) → (source : List ℕ) → S → (report : List ℕ) → Type 0

-- an answer to the words and to the bytes that the source held
abbrev pub HasAnswerOf : {S : Type 0} → AnswersWith S → (words : List (List ℕ)) → (source : Side) → S → (report : List ℕ) → Type 0
HasAnswerOf IsAnswer words source status report = (bytes : List ℕ) × AreTold source.old bytes × IsAnswer words bytes status report

-- the answer's report was written whole
abbrev pub WritesAnswerOf : {S : Type 0} → AnswersWith S → CallWith S → Type 0
WritesAnswerOf IsAnswer call =
    (report : List ℕ) × HasAnswerOf IsAnswer call.words call.source call.status report
    × Appends call.sink.old call.sink.new report

-- the sink failed, and its count of faults rose: a prefix of the answer's report was written
abbrev pub WritesPrefixOf : {S : Type 0} → AnswersWith S → (fault : S) → CallWith S → Type 0
WritesPrefixOf {S} IsAnswer fault call =
    (call.status ≡ fault) × Rose call.sink.before call.sink.now
    × ((answer : S) × (report : List ℕ) × HasAnswerOf IsAnswer call.words call.source answer report
    × AppendsPrefix call.sink.old call.sink.new report)

-- the source failed, and its count of faults rose: nothing was written, and the words are such that read it
abbrev pub FailsToReadOf : {S : Type 0} → (fault : S) → (Reads : List (List ℕ) → Type 0) → CallWith S → Type 0
FailsToReadOf fault Reads call =
    (call.status ≡ fault) × Rose call.source.before call.source.now × Keeps call.sink.old call.sink.new × Reads call.words

-- memory was wanting: nothing was written, and the words are such that take some
abbrev pub WantsMemoryOf : {S : Type 0} → (fault : S) → (Takes : List (List ℕ) → Type 0) → CallWith S → Type 0
WantsMemoryOf fault Takes call = (call.status ≡ fault) × Keeps call.sink.old call.sink.new × Takes call.words

-- with the answer's report written whole, with a prefix of it where the sink failed, or without one
abbrev pub EndsOf : {S : Type 0} → AnswersWith S → (read write memory : S) → (Reads Takes : List (List ℕ) → Type 0) → CallWith S → Type 0
EndsOf IsAnswer read write memory Reads Takes call =
    WritesAnswerOf IsAnswer call ⊎ (WritesPrefixOf IsAnswer write call ⊎ (FailsToReadOf read Reads call ⊎ WantsMemoryOf memory Takes call))

-- ---- how a report is written

-- whole, or up to a fault of the sink, which was counted
abbrev pub Writes : {S : Type 0} → (fault answer : S) → (report : List ℕ) → (sink : Side) → (result : S) → Type 0
Writes fault answer report sink result =
    ((result ≡ answer) × Appends sink.old sink.new report)
    ⊎ ((result ≡ fault) × AppendsPrefix sink.old sink.new report × Rose sink.before sink.now)

-- nothing is written
abbrev pub WritesNothing : {S : Type 0} → (wanted : S) → (sink : Side) → (result : S) → Type 0
WritesNothing wanted sink result = (result ≡ wanted) × Keeps sink.old sink.new
