-- From the places of a descriptor to what its text is opened to.
use Rattle.std.proofs.Common.{◌≡◌, ℕ, ◌*◌, List, ap, subst, Ok, Err}
use Rattle.std.proofs.Math.Logic.{∥∥₁_elim}
use Rattle.def_script.specs.Bytes.{Bytes}
use Rattle.def_descriptor.specs.Gives.{branch_count}
use Rattle.def_descriptor.specs.declared.DescriptorFault.{DescriptorFault}
use Rattle.def_descriptor.specs.Answer.{Descriptor, Answers}
use Rattle.def_descriptor_answer.specs.declared.status.Status.TheVariants as status
use Rattle.def_descriptor_answer.specs.Lines.{fault_line}
use Rattle.def_descriptor_answer.specs.Reply.{Reply, reply}
use Rattle.def_descriptor_answer.specs.Update.{KnowsFrom, index_count}
use Rattle.def_update.specs.Known.{Known}
use Rattle.ms_descriptor.specs.declared.parts.Descriptor.{Descriptor as Own}
use Rattle.ms_descriptor.specs.Bodies.{descriptor_at}
use Rattle.ms_descriptor_replies.specs.declared.reply.Reply.{Reply as Made}
use Rattle.ms_descriptor_update.specs.declared.opening.Opened.{Opened}
use Rattle.ms_descriptor_update.specs.declared.opening.Opened.TheVariants as opened
use Rattle.ms_descriptor_update.specs.Known.{KnowsAll, IsKnown}
use Rattle.ms_descriptor_update.specs.Book.{Places, IsBook}
use Rattle.ms_descriptor_update.specs.Scaffolding.Once.{known_set, one_of}
use Rattle.ms_descriptor_update.specs.Opening.{Opens}
use Rattle.ms_descriptor_update.specs.Scaffolding.Filling.{Fills}

module _ (text : Bytes) (d : Descriptor) (read : Answers text (Ok d)) (asked count : ℕ) (is : count ≡ index_count d asked) where
  pub filled : (o : Opened) → Fills text d count o → Opens text asked o
  filled (opened.Book book) (knows, is_open) = record {
    descriptor = d;
    read = read;
    knows = subst (λ (n : ℕ). KnowsFrom d n (branch_count d.body * n) 0 (Ok book.known.0)) is knows;
    is_open = is_open;
  }
  filled (opened.Refused made) (line, knows, e) = (
    ap (λ (r : Reply). r.status) e,
    λ source. (Ok d, read, (Err line, subst (λ (n : ℕ). KnowsFrom d n (branch_count d.body * n) 0 (Err line)) is knows, e)),
  )

pub not_read : (text : Bytes) (asked : ℕ) (why : DescriptorFault) (made : Made) → Answers text (Err why)
    → reply made.status made.report.items ≡ reply status.Refused (fault_line why) → Opens text asked (opened.Refused made)
not_read text asked why made wrong e = (ap (λ (r : Reply). r.status) e, λ source. (Err why, wrong, e))

-- there is one list of what is known
module _ (text : Bytes) (own : Own) (count : ℕ) (places : Places) (known : List Known) where
  abbrev of_text : Descriptor
  of_text = descriptor_at text own

  pub booked : KnowsAll of_text count known → IsBook text own count places known → (k : IsKnown of_text count)
      → KnowsAll of_text count k.0 × IsBook text own count places k.0
  booked knows book k =
      let same : known ≡ k.0 = ∥∥₁_elim k.1 (known_set known k.0) (λ other. one_of of_text count known k.0 knows other) in
      (subst (KnowsAll of_text count) same knows, subst (IsBook text own count places) same book)
