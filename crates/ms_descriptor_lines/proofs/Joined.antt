-- Pieces that are added one after the other.
use Rattle.std.proofs.Common.{◌≡◌, ◌++◌, [], ◌∷◌, append_assoc}
use Rattle.def_script.specs.Bytes.{Bytes}
use Rattle.def_answer.specs.Lines.{line}

-- four texts, and four that a line feed follows
pub four_texts : (before a b c d first second third after : Bytes)
    → first ≡ before ++ a → second ≡ first ++ b → third ≡ second ++ c → after ≡ third ++ d
    → after ≡ before ++ (a ++ (b ++ (c ++ d)))
four_texts before a b c d first second third after e1 e2 e3 e4 = rw (e4, e3, e2, e1) (simp append_assoc)

pub four_and_end : (before a b c d first second third fourth after : Bytes)
    → first ≡ before ++ a → second ≡ first ++ b → third ≡ second ++ c → fourth ≡ third ++ d → after ≡ fourth ++ 10 ∷ []
    → after ≡ before ++ line (a ++ (b ++ (c ++ d)))
four_and_end before a b c d first second third fourth after e1 e2 e3 e4 e5 = rw (e5, e4, e3, e2, e1) (simp append_assoc)
