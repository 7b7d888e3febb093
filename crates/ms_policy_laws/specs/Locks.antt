-- The locks of one transaction under which the policy of a sane miniscript is true.
use Rattle.std.specs.Prelude.{◌^◌, ◌<◌, IsTrue, List}
use Rattle.def_machine.specs.declared.Locks.{Locks}
use Rattle.def_machine.specs.Locks.{older_holds, after_holds}
use Rattle.def_tree.specs.Tree.{Tree, Key}
use Rattle.def_tree.specs.Range.{IsWritable}
use Rattle.def_sane.specs.Unfit.{IsSane}
use Rattle.def_policy.specs.Policy.{Policy}
use Rattle.def_policy.specs.Plain.{plain}
use Rattle.def_policy.specs.Simple.{simple}
use Rattle.def_policy.specs.Truth.{Facts, is_true, with_keys}
use Rattle.def_policy.specs.Keys.{KeysSuffice}

-- these keys sign, every hash is met, and the locks are those of a transaction
abbrev pub with_locks : List Key → Locks → Facts
with_locks keys locks = record (with_keys keys) { older = λ n. older_holds n locks; after = λ n. after_holds n locks }

-- some one transaction has locks under which the policy is true, where these keys sign and every hash is met
pub record IsMetByOne (policy : Policy) (signers : List Key) : Type 0 where
  pub locks : Locks
  pub version : locks.version < 2 ^ 32
  pub sequence : locks.sequence < 2 ^ 32
  pub locktime : locks.locktime < 2 ^ 32
  pub met : IsTrue (is_true (with_locks signers locks) policy)

-- of a sane miniscript one does wherever some keys suffice with every lock met: no two of its locks that have to be met
-- together are of two kinds
abbrev pub OneTransactionMeets : Type 0
OneTransactionMeets =
    (tree : Tree) (signers : List Key) → IsWritable tree → IsSane tree → KeysSuffice (simple (plain tree)) signers →
    IsMetByOne (simple (plain tree)) signers
