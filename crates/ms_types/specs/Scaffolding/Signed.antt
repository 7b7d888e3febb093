-- What is known of the malleability properties of a threshold's children, one after the other.
use Rattle.std.specs.Prelude.{◌+◌, ◌&&◌, List, if◌then◌else◌}
use Rattle.std.specs.List.{list_all}
use Rattle.def_types.specs.declared.MalleabilityProperties.{MalleabilityProperties}
use Rattle.def_types.specs.Malleable.{count_not_s}
use Rattle.ms_types.specs.declared.children.Signed.{Signed}

-- of children with these properties
abbrev pub signed : List MalleabilityProperties → Signed
signed xs = record { all_e = list_all (λ x. x.e) xs; unsigned = count_not_s xs }

-- with one child more
abbrev pub and : Signed → MalleabilityProperties → Signed
and s x = record {
  all_e = s.all_e && x.e;
  unsigned = if x.s then s.unsigned else s.unsigned + 1;
}
