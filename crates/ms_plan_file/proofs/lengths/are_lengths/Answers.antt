use Rattle.std.proofs.Common.{◌+◌, subst, sym, refl}
use Rattle.std.proofs.lemmas.Bool.{false≢true}
use Rattle.std.proofs.lemmas.List.{drop_all}
use Rattle.ms_plan_file.specs.Scaffolding.Entries.{CanStandBefore}
use Rattle.ms_plan_file.proofs.Tables.{no_entries, few_entries, entry_at, entry_stands, entries_left, entries_of, to_the_end}
use Rattle.ms_plan_file.proofs.lengths.are_lengths.Goals as goal

pub loop-place-preserved : goal.loop-place-preserved
loop-place-preserved c = (
  entry_at c.args.table.now c.loop-place.place c.index-table-place.result c.loop-place-test.true c.index-table-place.is
      (subst (CanStandBefore c.index-table-place.result) (to_the_end c.args.table.now (c.loop-place.place + 1)) (c.if-not-can_stand_before.ensures.0 refl))
      c.loop-place.invariant.0,
  λ all. entries_left c.args.table.now c.loop-place.place c.index-table-place.result c.loop-place-test.true c.index-table-place.is (c.loop-place.invariant.1 all),
)

-- an entry that can't stand there
pub returns-then-not-can_stand_before : goal.returns-then-not-can_stand_before
returns-then-not-can_stand_before c = (
  λ no. absurd (false≢true no),
  λ right.
      let stands = entry_stands c.args.table.now c.loop-place.place c.index-table-place.result c.loop-place-test.true c.index-table-place.is
      (c.loop-place.invariant.1 (entries_of c.args.table.now right)) in
      c.if-not-can_stand_before.ensures.1
      (subst (CanStandBefore c.index-table-place.result) (sym (to_the_end c.args.table.now (c.loop-place.place + 1))) stands),
)

pub returns : goal.returns
returns c = (
  λ right.
      few_entries c.args.table.now c.if-table-gt-MOST_KEYS.false
      (c.loop-place.invariant.0 (rw (drop_all c.loop-place.place c.args.table.now c.loop-place-test.false) no_entries)),
  λ right. refl,
)
