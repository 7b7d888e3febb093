-- What the places of a descriptor are filled to.
use Rattle.std.specs.Prelude.{◌≡◌, ℕ, ◌*◌, Err}
use Rattle.def_script.specs.Bytes.{Bytes}
use Rattle.def_descriptor.specs.Gives.{branch_count}
use Rattle.def_descriptor.specs.Answer.{Descriptor}
use Rattle.def_descriptor_answer.specs.declared.status.Status.TheVariants as status
use Rattle.def_descriptor_answer.specs.Reply.{reply}
use Rattle.def_descriptor_answer.specs.Update.{KnowsFrom}
use Rattle.ms_descriptor_update.specs.Known.{KnowsAll}
use Rattle.ms_descriptor_update.specs.declared.opening.Opened.{Opened}
use Rattle.ms_descriptor_update.specs.declared.opening.Opened.TheVariants as opened
use Rattle.ms_descriptor_update.specs.Book.{IsBook}

-- a book of all places, or the line of the first without a sane tree
abbrev pub Fills : (text : Bytes) → Descriptor → (count : ℕ) → Opened → Type 0
Fills text d count (opened.Book book) = KnowsAll d count book.known.0 × IsBook book.text.now book.descriptor book.count book.places book.known.0
Fills text d count (opened.Refused made) =
    (line : Bytes) × KnowsFrom d count (branch_count d.body * count) 0 (Err line) × (reply made.status made.report.items ≡ reply status.Refused line)
