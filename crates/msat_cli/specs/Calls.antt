-- A call of `msat`, and how it ends unless memory was wanting or a fault came.
use Rattle.std.specs.Prelude.{◌≡◌, ◌⊎◌, ⊤}
use Rattle.def_answer.specs.declared.status.Status.{Status}
use Rattle.def_answer.specs.declared.status.Status.TheVariants as status
use Rattle.ms_io.specs.Sides.{Rose, Side, CallWith}

-- the words of a call, what it did to the source and to the sink, and its status
abbrev pub Call : Type 0
Call = CallWith Status

-- memory was wanting, or a fault came, which was counted
abbrev pub IsFault : Status → (source sink : Side) → Type 0
IsFault status.Done source sink = ⊥
IsFault status.Usage source sink = ⊥
IsFault status.TextRefused source sink = ⊥
IsFault status.FileRefused source sink = ⊥
IsFault status.NoSatisfaction source sink = ⊥
IsFault status.ReadFault source sink = Rose source.before source.now
IsFault status.WriteFault source sink = Rose sink.before sink.now
IsFault status.Memory source sink = ⊤
IsFault status.ScriptRefused source sink = ⊥
IsFault status.NotAccepted source sink = ⊥
IsFault status.NoReading source sink = ⊥

-- with this status, unless memory was wanting or a fault came
abbrev pub EndsAs : Status → Call → Type 0
EndsAs wanted call = (call.status ≡ wanted) ⊎ IsFault call.status call.source call.sink
