use Rattle.std.proofs.Common.{rules, arith, [], ◌∷◌, slice_index_or}
use Rattle.def_script.specs.Sizes.{size_bytes}
use Rattle.ms_script.proofs.SizeLemmas.{size_read_back}
use Rattle.ms_script.proofs.sizes.compact_size.Goals as goal

pub returns-then-value-lt253-clause-decoded : goal.returns-then-value-lt253-clause-decoded
unfolding size_bytes
returns-then-value-lt253-clause-decoded c = size_read_back c.args.value (slice_index_or c.to_le_bytes.result 0 0 ∷ []) (omega arith) (search rules)

pub returns-after-value-lt65536-clause-decoded : goal.returns-after-value-lt65536-clause-decoded
unfolding size_bytes
returns-after-value-lt65536-clause-decoded c = size_read_back _ _ (omega arith) (search rules)
