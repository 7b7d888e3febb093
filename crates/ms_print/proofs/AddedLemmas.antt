-- What stands behind a text, where adding to it stopped.
use Rattle.std.proofs.Common.{◌≡◌, ◌++◌, take, length, sym, ap, ◌∙◌, Ok, Err, OnErr}
use Rattle.std.specs.Prelude.{Result}
use Rattle.std.proofs.Math.Seq.{take-append_seam}
use Rattle.def_script.specs.Bytes.{Bytes}
use Rattle.ms_print.specs.Added.{AddsFront}

pub on_err : {A E : Type 0} (P : Type 0) (r : Result A E) → P → OnErr r P
on_err P (Ok x) p = tt
on_err P (Err e) p = p

-- a first part of it was added
pub adds_front : (old new added part rest : Bytes) → new ≡ old ++ part → added ≡ part ++ rest → AddsFront old new added
adds_front old new added part rest grown split =
    record { count = length part; kept = grown ∙ ap (λ p. old ++ p) (sym (ap (take (length part)) split ∙ take-append_seam part rest)) }
