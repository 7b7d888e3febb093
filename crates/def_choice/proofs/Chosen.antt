-- The laws of the choices, with the top of a stack last.
use Rattle.std.proofs.Common.{◌↔◌, reverse, Option, Some, None, refl, sym, subst, IsSome}
use Rattle.std.proofs.lemmas.List.{reverse-reverse}
use Rattle.std.proofs.lemmas.Option.{none-some}
use Rattle.std.proofs.lemmas.Bool.{false≢true}
use Rattle.def_machine.specs.Stacks.{Stack}
use Rattle.def_assets.specs.Assets.{unsigned}
use Rattle.def_satisfaction.specs.StackSet.{StackSet}
use Rattle.def_satisfaction.specs.Rows.{row}
use Rattle.def_satisfaction.specs.Satisfaction.{canonical}
use Rattle.def_choice.specs.Lightest.{IsLightest}
use Rattle.def_choice.specs.Cheapest.{cheapest_of}
use Rattle.def_choice.specs.Dissatisfaction.{dissatisfaction}
use Rattle.def_choice.specs.Strict.{strict_of}
use Rattle.def_choice.specs.Free.{free}
use Rattle.def_choice.specs.Tight.{TightSat}
use Rattle.def_choice.specs.Laws.{CheapestIsLightest, DissatisfactionIsLightest, UnsignedIsFound, TightIsCanonical, TightIsUnsigned, StrictIsTight, StrictIsCanonical}
use Rattle.def_choice.proofs.Best.{best_reverse, turned}
use Rattle.def_choice.proofs.Cheapest.{dsat_best, sat_best}
use Rattle.def_choice.proofs.TightFree.{tight_within, tight_free}
use Rattle.def_choice.proofs.StrictTight.{unsigned_are, strict_tight}

pub cheapest_is_lightest : CheapestIsLightest
cheapest_is_lightest tree assets writable are =
    best_reverse (row (canonical assets) tree).sat (cheapest_of assets tree) (sat_best assets are tree writable)

pub dissatisfaction_is_lightest : DissatisfactionIsLightest
dissatisfaction_is_lightest tree assets writable =
    best_reverse (row (canonical assets) tree).dsat (dissatisfaction tree) (dsat_best assets tree writable)

-- a choice finds a stack exactly where there is one
found : (P : StackSet) (m : Option Stack) → IsLightest P m → ((w : Stack) × P (reverse w)) ↔ IsSome m
found P None best = (λ h. let k = best.lightest (reverse h.0) h.1 in absurd (none-some k.0 k.1), λ h. absurd (false≢true h))
found P (Some v) best = (λ h. refl, λ h. (reverse v, subst P (sym (reverse-reverse v)) (best.is v refl)))

pub unsigned_is_found : UnsignedIsFound
unsigned_is_found tree assets writable are =
    found (row (canonical (unsigned assets)) tree).sat (free assets tree) (sat_best (unsigned assets) (unsigned_are assets are) tree writable)

pub tight_is_canonical : TightIsCanonical
tight_is_canonical tree assets stack tight = tight_within assets tree (reverse stack) tight

pub tight_is_unsigned : TightIsUnsigned
tight_is_unsigned tree assets stack one tight = tight_free assets tree (reverse one.0, one.1) (reverse stack) tight

pub strict_is_tight : StrictIsTight
strict_is_tight tree assets stack writable are h =
    let t = turned (strict_of assets tree) stack h in
    subst (TightSat assets tree) t.2 (strict_tight assets are tree writable t.0 t.1)

pub strict_is_canonical : StrictIsCanonical
strict_is_canonical tree assets stack writable are h = tight_is_canonical tree assets stack (strict_is_tight tree assets stack writable are h)
