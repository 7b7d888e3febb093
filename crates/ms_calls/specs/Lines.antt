-- The answers to the lines of a source, in a buffer.
use Rattle.std.specs.Prelude.{◌≡◌, ◌≢◌, ℕ, [], ◌∷◌, length, codes}
use Rattle.def_script.specs.Bytes.{Bytes}
use Rattle.def_lines.specs.Answers.{AnswersLines}
use Rattle.def_lines.specs.Msat.{msat_answers}
use Rattle.ms_calls.specs.Buffers.{written_over}
use Rattle.ms_calls.specs.Words.{AreWords}

-- the code, what a buffer held and holds, and how many bytes the answers have that were written over it
pub record LinesReply (source : Bytes) (code : ℕ) (old new : Bytes) (needed : ℕ) : Type 0 where
  pub answers : Bytes
  pub are : AnswersLines msat_answers source answers
  pub done : code ≡ 0
  pub written : new ≡ written_over old answers
  pub whole : needed ≡ length answers

-- so it is where the bytes are the one word `lines`, unless the call's code says that memory was wanting
abbrev pub HoldsOfLines : (count : ℕ) → (bytes source : Bytes) → (code : ℕ) → (old new : Bytes) → (needed : ℕ) → Type 0
HoldsOfLines count bytes source code old new needed =
    AreWords count bytes (codes "lines" ∷ []) → code ≢ 7 → LinesReply source code old new needed
