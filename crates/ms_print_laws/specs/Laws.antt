-- Which policies the printed form tells apart.
use Rattle.std.specs.Prelude.{◌≡◌, ◌^◌, ◌<◌, ⊤}
use Rattle.def_script.specs.Bytes.{IsBytes}
use Rattle.def_tree.specs.Tree.{Tree}
use Rattle.def_tree.specs.Range.{IsWritable}
use Rattle.def_policy.specs.Policy.{Policy, Policies, never, always, key, older, after, hash, all, any, thresh, none, more}
use Rattle.def_policy.specs.Plain.{plain}
use Rattle.def_policy.specs.Simple.{simple}
use Rattle.def_policy.specs.Print.{printed}

-- keys and hash values consist of bytes, each of which two digits tell, and each number has 64 bits at most
abbrev mutual
  pub IsPrintable : Policy → Type 0
  IsPrintable never = ⊤
  IsPrintable always = ⊤
  IsPrintable (key k) = IsBytes k
  IsPrintable (older n) = n < 2 ^ 64
  IsPrintable (after n) = n < 2 ^ 64
  IsPrintable (hash kind value) = IsBytes value
  IsPrintable (all parts) = ArePrintable parts
  IsPrintable (any parts) = ArePrintable parts
  IsPrintable (thresh k parts) = (k < 2 ^ 64) × ArePrintable parts

  pub ArePrintable : Policies → Type 0
  ArePrintable none = ⊤
  ArePrintable (more x xs) = IsPrintable x × ArePrintable xs

-- different policies print differently, whether they are simple or not
abbrev pub PrintedApart : Type 0
PrintedApart = (p q : Policy) → IsPrintable p → IsPrintable q → printed p ≡ printed q → p ≡ q

-- the policy of every miniscript that can be written is printable
abbrev pub PolicyIsPrintable : Type 0
PolicyIsPrintable = (tree : Tree) → IsWritable tree → IsPrintable (simple (plain tree))

-- so miniscripts whose policies are printed alike have the same policy
abbrev pub PoliciesApart : Type 0
PoliciesApart =
    (tree other : Tree) → IsWritable tree → IsWritable other →
    printed (simple (plain tree)) ≡ printed (simple (plain other)) → simple (plain tree) ≡ simple (plain other)
