-- What is known of a sane tree, as plain numbers.
use Rattle.std.specs.Prelude.{ℕ}
use Rattle.def_tree.specs.Tree.{Tree}
use Rattle.def_types.specs.declared.Base.{Base}
use Rattle.def_types.specs.declared.Base.TheVariants as base
use Rattle.def_types.specs.declared.CorrectnessType.{CorrectnessType}
use Rattle.def_types.specs.declared.MalleabilityProperties.{MalleabilityProperties}
use Rattle.def_types.specs.Typed.{type_of, properties_of}
use Rattle.def_limits.specs.declared.Limits.{Limits}
use Rattle.def_sane.specs.TheLimits.{the_limits}
use Rattle.def_answer.specs.TheHeight.{the_height}
use Rattle.ms_calls.specs.declared.facts.Facts.{Facts}

-- base types are numbered in the order B, V, K, W
abbrev pub code_of_base : Base → ℕ
code_of_base base.B = 0
code_of_base base.V = 1
code_of_base base.K = 2
code_of_base base.W = 3

abbrev pub facts_by : CorrectnessType → MalleabilityProperties → Limits → (height : ℕ) → Facts
facts_by ty malleability_of limits height =
    record {
      size = limits.size;
      ops = limits.ops;
      items = limits.items;
      weight = limits.weight;
      height = height;
      base = code_of_base ty.base;
      z = ty.z;
      o = ty.o;
      n = ty.n;
      d = ty.d;
      u = ty.u;
      s = malleability_of.s;
      f = malleability_of.f;
      e = malleability_of.e;
    }

abbrev pub facts_of : Tree → Facts
facts_of tree = facts_by (type_of tree) (properties_of tree) (the_limits tree) (the_height tree)
