use Rattle.std.proofs.Common.{◌≡◌, ◌+◌, ◌-◌, ◌*◌, ◌/◌, ◌++◌, length}
use Rattle.std.specs.List.{list_all}
use Rattle.def_script.specs.Key.{is_key}
use Rattle.ms_arrays.specs.Pieces.{KEY_SIZE}
use Rattle.ms_calls.specs.Readings.{keys_at, keys_in}
use Rattle.ms_calls.proofs.readings.read_keys.Given as goal

abbrev pub invariant-loop : goal.invariant-loop
invariant-loop l = record {
  rest : length l.rest + KEY_SIZE * l.counter ≡ length l.bytes;
  keys : l.keys.items ++ keys_at (length l.bytes / KEY_SIZE - l.counter) l.rest ≡ keys_in l.bytes;
  form : list_all is_key (keys_at (length l.bytes / KEY_SIZE - l.counter) l.rest) ≡ list_all is_key (keys_in l.bytes);
}
