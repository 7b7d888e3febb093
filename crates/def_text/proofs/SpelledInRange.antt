-- What a text spells is in range.
use Rattle.std.proofs.Common.{◌≤◌, ℕ, List, length, arith}
use Rattle.std.specs.Str.{IsUtf8}
use Rattle.def_script.specs.Bytes.{Bytes}
use Rattle.def_tree.specs.Tree.{Tree}
use Rattle.def_tree.specs.InRange.{IsInRange}
use Rattle.def_text.specs.Refusal.{MOST_BYTES, TextReads}
use Rattle.def_text.proofs.SpelledWritable.{spelled_writable}
use Rattle.def_text.proofs.SpelledMeasure.{measure_of_text}
use Rattle.def_text.proofs.SpelledDepth.{depth_of_text}

pub spelled_in_range : (text : Bytes) (x : Tree) (os : List ℕ) → IsUtf8 text → TextReads text x os → IsInRange x
spelled_in_range text x os utf8 reads =
    let small = measure_of_text text x os reads.spelled in
    let short : length text ≤ MOST_BYTES = reads.short in
    record {
      measure = omega arith;
      depth = depth_of_text text x os utf8 reads;
      writable = spelled_writable reads.spelled;
    }
