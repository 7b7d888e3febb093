-- What is known of the children of a threshold, one after the other.
use Rattle.std.specs.Prelude.{◌+◌, ◌&&◌, ◌||◌, nat_eq, List, length, if◌then◌else◌}
use Rattle.def_types.specs.declared.CorrectnessType.{CorrectnessType}
use Rattle.def_types.specs.Correctness.{is_b, is_w, first_fits, others_fit, all_z, all_z_but_one}
use Rattle.ms_types.specs.declared.children.Children.{Children}

-- of the children of these types
abbrev pub seen : List CorrectnessType → Children
seen types = record {
  count = length types;
  first_fits = first_fits types;
  others_fit = others_fit types;
  all_z = all_z types;
  all_z_but_one = all_z_but_one types;
}

-- with one child more
abbrev pub and : Children → CorrectnessType → Children
and s x = record {
  count = s.count + 1;
  first_fits = if nat_eq s.count 0 then is_b x.base && x.d && x.u else s.first_fits;
  others_fit = s.others_fit && (nat_eq s.count 0 || (is_w x.base && x.d && x.u));
  all_z = s.all_z && x.z;
  all_z_but_one = (s.all_z && x.o) || (s.all_z_but_one && x.z);
}
