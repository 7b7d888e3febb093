-- What formal satisfactions take depends on no key.
use Rattle.std.proofs.Common.{◌≡◌, ℕ, ◌+◌, List, refl, sym, ap, Option, Some}
use Rattle.def_script.specs.Signature.{MAX_SIGNATURE_SIZE}
use Rattle.def_script.proofs.KeyLemmas.{key_length}
use Rattle.def_tree.specs.declared.Two.TheVariants as kind
use Rattle.def_tree.specs.declared.Wrapper.TheVariants as wrapper
use Rattle.def_tree.specs.Range.{IsWritable, AreWritable}
use Rattle.def_tree.specs.Tree.{Tree, Trees, pk_h, and_or, two, thresh, multi, wrap, none, more}
use Rattle.def_table.specs.Table.{Row, wrap_d_row, wrap_v_row, wrap_j_row, row_of, rows_of}
use Rattle.def_limits.specs.Formal.{Takes, item, same_items, tried, plus, empty}
use Rattle.def_limits.specs.Scaffolding.Most.{most, parts_most}
use Rattle.ms_place_laws.proofs.Filled.{filled, all_filled, keys_long}

abbrev Most : Type 0
Most = Row (Option Takes) (Option Takes)

-- the row of a `pk_h` of a key of so many bytes, and of a `multi` of so many keys
abbrev hashed : ℕ → Most
hashed n = record { dsat = Some (plus empty (item n)); sat = Some (plus (item MAX_SIGNATURE_SIZE) (item n)) }

abbrev of_keys : (k n : ℕ) → Most
of_keys k n = record {
  dsat = Some (plus (same_items (k + 1) 0) (tried n));
  sat = Some (plus (plus empty (same_items k MAX_SIGNATURE_SIZE)) (tried n));
}

mutual
  pub row_filled : (x : Tree) → IsWritable x → row_of most (filled x) ≡ row_of most x
  row_filled (pk_h key) h = ap hashed (sym (key_length key h.form))
  row_filled (and_or x y z) h = rw (row_filled x h.0, row_filled y h.1, row_filled z h.2) refl
  row_filled (two kind.AndV x y) h = rw (row_filled x h.0, row_filled y h.1) refl
  row_filled (two kind.AndB x y) h = rw (row_filled x h.0, row_filled y h.1) refl
  row_filled (two kind.OrB x y) h = rw (row_filled x h.0, row_filled y h.1) refl
  row_filled (two kind.OrC x y) h = rw (row_filled x h.0, row_filled y h.1) refl
  row_filled (two kind.OrD x y) h = rw (row_filled x h.0, row_filled y h.1) refl
  row_filled (two kind.OrI x y) h = rw (row_filled x h.0, row_filled y h.1) refl
  row_filled (thresh k xs) h = ap (λ (z : List Most). record { dsat = parts_most z 0; sat = parts_most z k }) (rows_filled xs h.2)
  row_filled (multi k keys) h = ap (of_keys k) (keys_long keys)
  row_filled (wrap wrapper.D x) h = ap (wrap_d_row most) (row_filled x h)
  row_filled (wrap wrapper.V x) h = ap (wrap_v_row most) (row_filled x h)
  row_filled (wrap wrapper.J x) h = ap (wrap_j_row most) (row_filled x h)
  row_filled (wrap wrapper x) h = row_filled x h
  row_filled x h = refl

  rows_filled : (xs : Trees) → AreWritable xs → rows_of most (all_filled xs) ≡ rows_of most xs
  rows_filled none h = refl
  rows_filled (more x xs) h = rw (row_filled x h.0, rows_filled xs h.1) refl
