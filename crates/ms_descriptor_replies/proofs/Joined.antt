-- Pieces that are added one after the other.
use Rattle.std.proofs.Common.{◌≡◌, ◌++◌, append_assoc}
use Rattle.def_script.specs.Bytes.{Bytes}

-- three, four and six texts
pub three_texts : (before a b c first second after : Bytes)
    → first ≡ before ++ a → second ≡ first ++ b → after ≡ second ++ c → after ≡ before ++ (a ++ (b ++ c))
three_texts before a b c first second after e1 e2 e3 = rw (e3, e2, e1) (simp append_assoc)

pub four_texts : (before a b c d first second third after : Bytes)
    → first ≡ before ++ a → second ≡ first ++ b → third ≡ second ++ c → after ≡ third ++ d
    → after ≡ before ++ (a ++ (b ++ (c ++ d)))
four_texts before a b c d first second third after e1 e2 e3 e4 = rw (e4, e3, e2, e1) (simp append_assoc)

pub six_texts : (before a b c d e f first second third fourth fifth after : Bytes)
    → first ≡ before ++ a → second ≡ first ++ b → third ≡ second ++ c → fourth ≡ third ++ d → fifth ≡ fourth ++ e → after ≡ fifth ++ f
    → after ≡ before ++ (a ++ (b ++ (c ++ (d ++ (e ++ f)))))
six_texts before a b c d e f first second third fourth fifth after e1 e2 e3 e4 e5 e6 = rw (e6, e5, e4, e3, e2, e1) (simp append_assoc)
