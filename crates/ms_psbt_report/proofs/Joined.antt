-- Pieces that are added one after the other.
use Rattle.std.proofs.Common.{◌≡◌, ◌++◌, append_assoc}
use Rattle.def_script.specs.Bytes.{Bytes}

-- three texts
pub three_texts : (before a b c first second after : Bytes)
    → first ≡ before ++ a → second ≡ first ++ b → after ≡ second ++ c → after ≡ before ++ (a ++ b ++ c)
three_texts before a b c first second after e1 e2 e3 = rw (e3, e2, e1) (simp append_assoc)

-- four texts with a number each, and three texts
pub four_and_three : (before a1 n1 a2 n2 a3 n3 a4 n4 a5 a6 a7 first second third fourth fifth sixth after : Bytes)
    → first ≡ before ++ (a1 ++ n1) → second ≡ first ++ (a2 ++ n2) → third ≡ second ++ (a3 ++ n3) → fourth ≡ third ++ (a4 ++ n4)
    → fifth ≡ fourth ++ a5 → sixth ≡ fifth ++ a6 → after ≡ sixth ++ a7
    → after ≡ before ++ (a1 ++ n1 ++ a2 ++ n2 ++ a3 ++ n3 ++ a4 ++ n4 ++ a5 ++ a6 ++ a7)
four_and_three before a1 n1 a2 n2 a3 n3 a4 n4 a5 a6 a7 first second third fourth fifth sixth after e1 e2 e3 e4 e5 e6 e7 =
    rw (e7, e6, e5, e4, e3, e2, e1) (simp append_assoc)
