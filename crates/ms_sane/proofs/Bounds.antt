-- Each number of what is taken is at most 128 times the measure.
use Rattle.std.proofs.Common.{◌≡◌, ℕ, zero, suc, ◌+◌, ◌*◌, ◌^◌, ◌<◌, ◌≤◌, Option, Some, None, subst, sym, arith}
use Rattle.std.specs.Prelude.{⊤}
use Rattle.def_tree.specs.Tree.{Tree, Trees, multi, none, more}
use Rattle.def_tree.specs.InRange.{IsInRange, measure, measure_of}
use Rattle.def_types.specs.Typed.{IsTyped}
use Rattle.def_limits.specs.Formal.{Takes}
use Rattle.def_limits.specs.Scaffolding.Most.{both, either, most, most_sat, most_dsat, most_parts}
use Rattle.ms_rows.proofs.Within.{AreWithin, IsBounded, within}
use Rattle.ms_work.proofs.Enough.{multi_enough}
use Rattle.ms_sane.specs.declared.takes.Most as rust
use Rattle.ms_sane.specs.declared.takes.Takes as rust_takes
use Rattle.ms_sane.specs.Scaffolding.Most.{IsMost}
use Rattle.ms_sane.specs.Scaffolding.Takes.{taken, IsLightOption, IsLightMost}
use Rattle.def_script.proofs.KeyLemmas.{key_length}

pub record IsWithin (n : ℕ) (t : Takes) : Type 0 where
  pub items : t.items ≤ n
  pub weight : t.weight ≤ n
  pub keys : t.keys ≤ n

abbrev pub Within : ℕ → Option Takes → Type 0
Within n None = ⊤
Within n (Some t) = IsWithin n t

weaker : (m n : ℕ) (o : Option Takes) → m ≤ n → Within m o → Within n o
weaker m n None le h = tt
weaker m n (Some t) le h = record { items = omega (arith, h.items); weight = omega (arith, h.weight); keys = omega (arith, h.keys) }

within_both : (m n : ℕ) (o p : Option Takes) → Within m o → Within n p → Within (m + n) (both o p)
within_both m n None p a b = tt
within_both m n (Some s) None a b = tt
within_both m n (Some s) (Some t) a b = record { items = omega (arith, a.items, b.items); weight = omega (arith, a.weight, b.weight); keys = omega (arith, a.keys, b.keys) }

within_either : (n : ℕ) (o p : Option Takes) → Within n o → Within n p → Within n (either o p)
within_either n None p a b = b
within_either n (Some s) None a b = a
within_either n (Some s) (Some t) a b = record { items = omega (arith, a.items, b.items); weight = omega (arith, a.weight, b.weight); keys = omega (arith, a.keys, b.keys) }

-- each number of one that takes so much
so_much : (n : ℕ) (t : Takes) → t.items ≤ n → t.weight ≤ n → t.keys ≤ n → IsWithin n t
so_much n t items weight keys = record { items = items; weight = weight; keys = keys }

parts_within : (xs : Trees) (k : ℕ) → AreWithin most Within Within xs → Within (128 * measure_of xs) (most_parts xs k)
parts_within none zero h = so_much _ _ (omega arith) (omega arith) (omega arith)
parts_within none (suc k) h = tt
parts_within (more x xs) zero h = weaker (128 * measure_of xs + 128 * measure x) _ _ (omega arith) (within_both _ _ _ _ (parts_within xs zero h.1) h.0.0)
parts_within (more x xs) (suc k) h =
    within_either (128 * measure_of (more x xs)) _ _
    (weaker (128 * measure_of xs + 128 * measure x) _ _ (omega arith) (within_both _ _ _ _ (parts_within xs k h.1) h.0.1))
    (weaker (128 * measure_of xs + 128 * measure x) _ _ (omega arith) (within_both _ _ _ _ (parts_within xs (suc k) h.1) h.0.0))

bounded : IsBounded most Within Within
bounded = record {
  weaker_dsat = weaker;
  weaker = weaker;
  never = λ n. (tt, tt);
  nothing = λ n. (so_much _ _ (omega arith) (omega arith) (omega arith), so_much _ _ (omega arith) (omega arith) (omega arith));
  empty = (so_much _ _ (omega arith) (omega arith) (omega arith), so_much _ _ (omega arith) (omega arith) (omega arith));
  one = (so_much _ _ (omega arith) (omega arith) (omega arith), so_much _ _ (omega arith) (omega arith) (omega arith));
  both_dsat = within_both;
  both = within_both;
  either_dsat = within_either;
  either = within_either;
  still = λ n m h. h;
  extra = λ n m. tt;
  beside_dsat = λ n m extra h. h;
  beside = λ n m extra h. h;
  pk_k = λ key w. (so_much _ _ (omega arith) (omega arith) (omega arith), so_much _ _ (omega arith) (omega arith) (omega arith));
  pk_h = λ key w.
      let long = key_length key w.form in
      (so_much _ _ (omega arith) (omega (arith, long)) (omega arith), so_much _ _ (omega arith) (omega (arith, long)) (omega arith));
  older = λ n. (tt, so_much _ _ (omega arith) (omega arith) (omega arith));
  after = λ n. (tt, so_much _ _ (omega arith) (omega arith) (omega arith));
  hash = λ kind value. (so_much _ _ (omega arith) (omega arith) (omega arith), so_much _ _ (omega arith) (omega arith) (omega arith));
  multi = λ k keys typed.
      let enough = multi_enough k keys typed in
      (so_much _ _ (omega (arith, enough)) (omega (arith, enough)) (omega arith), so_much _ _ (omega (arith, enough)) (omega (arith, enough)) (omega arith));
  thresh = λ k xs h. (parts_within xs 0 h, parts_within xs k h);
}

light_option : (n : ℕ) (o : Option rust_takes.Takes) (p : Option Takes) → n < 2 ^ 32 → taken o ≡ p → Within n p → IsLightOption o
light_option n None p small is h = tt
light_option n (Some t) p small is h =
    let w = subst (Within n) (sym is) h in
    record { items = omega (arith, small, w.items); weight = omega (arith, small, w.weight); keys = omega (arith, small, w.keys) }

-- so each number of a tree in range is below 2^32
pub light_of : (t : Tree) (m : rust.Most) → IsInRange t → IsTyped t → IsMost m t → IsLightMost m
light_of t m range typed is =
    let bound = within most Within Within bounded t range.writable typed in
    record {
      sat = light_option (128 * measure t) m.sat (most_sat t) (omega (arith, range.measure)) is.sat bound.1;
      dsat = light_option (128 * measure t) m.dsat (most_dsat t) (omega (arith, range.measure)) is.dsat bound.0;
    }
