-- What the signatures of an input sign, by hash type. No public clause cites it, so it need not be believed.
use Rattle.std.specs.Prelude.{◌≡◌}
use Rattle.def_spend.specs.Hashes.{hash_by}
use Rattle.def_spend.specs.Input.{Spend}
use Rattle.ms_psbt_report.specs.declared.table.HashTable.{HashTable}

-- the table holds what signatures of each hash type sign
pub record IsTable (spend : Spend) (table : HashTable) : Type 0 where
  pub all : table.all ≡ hash_by 0x01 spend
  pub none : table.none ≡ hash_by 0x02 spend
  pub single : table.single ≡ hash_by 0x03 spend
  pub all_open : table.all_open ≡ hash_by 0x81 spend
  pub none_open : table.none_open ≡ hash_by 0x82 spend
  pub single_open : table.single_open ≡ hash_by 0x83 spend
