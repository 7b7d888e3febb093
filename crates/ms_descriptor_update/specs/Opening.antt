-- What a text is opened to.
use Rattle.std.specs.Prelude.{◌≡◌, ℕ, Ok}
use Rattle.def_script.specs.Bytes.{Bytes}
use Rattle.def_descriptor.specs.Answer.{Descriptor, Answers}
use Rattle.def_descriptor_answer.specs.declared.status.Status.TheVariants as status
use Rattle.def_descriptor_answer.specs.Reply.{reply, RepliesToText}
use Rattle.def_descriptor_answer.specs.Update.{Knows, RepliesToUpdate}
use Rattle.ms_descriptor_update.specs.declared.book.DescriptorBook.{DescriptorBook}
use Rattle.ms_descriptor_update.specs.declared.opening.Opened.{Opened}
use Rattle.ms_descriptor_update.specs.declared.opening.Opened.TheVariants as opened
use Rattle.ms_descriptor_update.specs.Book.{IsBook}

-- each output of a book is found by its script
abbrev pub IsOpen : DescriptorBook → Type 0
IsOpen book = IsBook book.text.now book.descriptor book.count book.places book.known.0

-- a book holds all that the descriptor of a text says of its outputs
pub record IsBookOf (text : Bytes) (count : ℕ) (book : DescriptorBook) : Type 0 where
  pub descriptor : Descriptor
  pub read : Answers text (Ok descriptor)
  pub knows : Knows descriptor count (Ok book.known.0)
  pub is_open : IsOpen book

-- or the text is refused, or the first place without a sane tree, whatever the source holds
abbrev pub Opens : (text : Bytes) → (count : ℕ) → Opened → Type 0
Opens text count (opened.Book book) = IsBookOf text count book
Opens text count (opened.Refused made) =
    (made.status ≡ status.Refused) × ((source : Bytes) → RepliesToText text (RepliesToUpdate count source) (reply made.status made.report.items))
