-- What pieces come to that are written one after the other.
use Rattle.std.proofs.Common.{◌≡◌, ◌++◌, append_assoc}
use Rattle.def_script.specs.Bytes.{Bytes}

pub letters_written : (old b z o n d u s f e l0 l1 l2 l3 l4 l5 l6 l7 l8 : Bytes) → l0 ≡ old ++ b → l1 ≡ l0 ++ z → l2 ≡ l1 ++ o → l3 ≡ l2 ++ n → l4 ≡ l3 ++ d
    → l5 ≡ l4 ++ u → l6 ≡ l5 ++ s → l7 ≡ l6 ++ f → l8 ≡ l7 ++ e → l8 ≡ old ++ (b ++ z ++ o ++ n ++ d ++ u ++ s ++ f ++ e)
letters_written old b z o n d u s f e l0 l1 l2 l3 l4 l5 l6 l7 l8 e0 e1 e2 e3 e4 e5 e6 e7 e8 = rw (e8, e7, e6, e5, e4, e3, e2, e1, e0) (simp append_assoc)

pub node_written : (old name space end place depth type head l0 l1 l2 l3 l4 l5 l6 l7 new : Bytes) → l0 ≡ old ++ name → l1 ≡ l0 ++ place → l2 ≡ l1 ++ space → l3 ≡ l2 ++ depth
    → l4 ≡ l3 ++ space → l5 ≡ l4 ++ type → l6 ≡ l5 ++ space → l7 ≡ l6 ++ head → new ≡ l7 ++ end
    → new ≡ old ++ ((name ++ place ++ space ++ depth ++ space ++ type ++ space ++ head) ++ end)
node_written old name space end place depth type head l0 l1 l2 l3 l4 l5 l6 l7 new e0 e1 e2 e3 e4 e5 e6 e7 e8 = rw (e8, e7, e6, e5, e4, e3, e2, e1, e0) (simp append_assoc)
