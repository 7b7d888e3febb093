-- What the letters d, s, f and e promise.
use Rattle.std.proofs.Common.{reverse, refl, sym, ◌∙◌, ap, subst}
use Rattle.std.proofs.lemmas.Bool.{false≢true}
use Rattle.std.proofs.lemmas.List.{reverse-reverse}
use Rattle.def_tree.specs.Tree.{Tree}
use Rattle.def_tree.specs.Range.{IsWritable}
use Rattle.def_types.specs.Typed.{type_of, IsTyped, properties_of, IsMalleabilityTyped}
use Rattle.def_assets.specs.Assets.{known}
use Rattle.def_sane.specs.Keys.{keys}
use Rattle.def_satisfaction.specs.Setting.{only}
use Rattle.def_satisfaction.specs.Rows.{row}
use Rattle.def_satisfaction.specs.Satisfaction.{canonical, full}
use Rattle.def_satisfaction.proofs.Bare.{dsat_within}
use Rattle.def_satisfaction.proofs.OfBytes.{dsat_bytes, turned_bytes}
use Rattle.def_promises.specs.Letters.{without_signatures, Dissatisfiable, Signed, Forced, Expressive}
use Rattle.ms_row_laws.proofs.NeededSignatures.{needs, no_table}
use Rattle.ms_row_laws.proofs.UniqueDissatisfaction.{free_dsat, one_dsat}
use Rattle.ms_letter_laws.proofs.MissedHashes.{missed_dsat}

pub dissatisfiable : (node : Tree) → IsWritable node → IsTyped node → Dissatisfiable node (type_of node)
dissatisfiable node writable typed locks mode d missed =
    let one = missed_dsat (full (without_signatures locks) mode) refl node writable typed d missed in
    (reverse one.0, turned_bytes one.0 one.1, subst (row (full (without_signatures locks) mode) node).dsat (sym (reverse-reverse one.0)) one.2)

pub signed : (node : Tree) → IsTyped node → Signed node (properties_of node)
signed node typed locks mode stack s sat =
    let setting = full (without_signatures locks) mode in
    (needs setting node typed (no_table setting (keys node) refl)).sat s (reverse stack) sat

pub forced : (node : Tree) → IsTyped node → Forced node (properties_of node)
forced node typed locks mode stack f dsat =
    let setting = full (without_signatures locks) mode in
    (needs setting node typed (no_table setting (keys node) refl)).dsat f (reverse stack) dsat

pub expressive : (node : Tree) → IsWritable node → IsTyped node → IsMalleabilityTyped node → Expressive node (properties_of node)
expressive node writable typed non_malleable locks assets e =
    let there = full (without_signatures locks) (only (known assets)) in
    let one = free_dsat (canonical assets) node writable non_malleable e in
    let wide = dsat_within (canonical assets) there false≢true (λ key other k. k) node one.0 one.1 in
    let bare = no_table there (keys node) refl in (
      reverse one.0,
      turned_bytes one.0 (dsat_bytes assets node writable one.0 one.1),
      subst (row there node).dsat (sym (reverse-reverse one.0)) wide,
      subst (row (canonical assets) node).dsat (sym (reverse-reverse one.0)) one.1,
      λ other d.
          sym (reverse-reverse other)
          ∙ ap reverse (one_dsat there there (λ key other k. k) (λ key other k. k) node typed non_malleable bare bare e (reverse other) one.0 d wide),
    )
