use Rattle.std.proofs.Common.{◌≡◌, sym, subst, rules}
use Rattle.def_emit.specs.Emit.{script_of}
use Rattle.def_machine.specs.Run.{accepted}
use Rattle.ms_tree.specs.Shape.{shape}
use Rattle.ms_witness.specs.Reading.{FitsWitness}
use Rattle.ms_replay.proofs.Accepted.{is_within, fits_witness, is_accepting, run_is, few_ops}
use Rattle.ms_replay.proofs.carrying.carry.Goals as goal

pub witness_bytes-requires : goal.witness_bytes-requires
witness_bytes-requires g c =
    let same : c.as_slice-2.result.now ≡ script_of (shape c.args.tree.now) = search rules in
    subst (FitsWitness c.args.stack.now) (sym same)
    (fits_witness (shape c.args.tree.now) c.args.assets.now c.args.stack.now
    (record { in_range = c.requires.in_range; valid = c.requires.valid; few = c.locks-locks.ensures.few; sat = c.requires.satisfies }))

pub replay_accepted-requires-clause-accepted : goal.replay_accepted-requires-clause-accepted
replay_accepted-requires-clause-accepted g c =
    is_accepting (shape c.args.tree.now) c.args.assets.now c.args.stack.now c.locks-locks.result c.program_of-program.result c.as_slice-3.result.now (g.C.SignatureChecker.checker c.args.sigs.now)
    (record { in_range = c.requires.in_range; valid = c.requires.valid; few = c.locks-locks.ensures.few; sat = c.requires.satisfies })
    (record { same_locks = search rules; is_program = search rules; is_witness = search rules }) c.requires.holds

pub returns-clause-report : goal.returns-clause-report
returns-clause-report g c =
    let report = c.in_ok-report.report in
    run_is (shape c.args.tree.now) c.args.assets.now c.args.stack.now c.locks-locks.result c.program_of-program.result c.as_slice-3.result.now
    (g.C.SignatureChecker.checker c.args.sigs.now) (accepted report.ops report.peak report.checks)
    (record { in_range = c.requires.in_range; valid = c.requires.valid; few = c.locks-locks.ensures.few; sat = c.requires.satisfies })
    (record { same_locks = search rules; is_program = search rules; is_witness = search rules }) c.in_ok-report.ensures

pub returns-clause-few_ops : goal.returns-clause-few_ops
returns-clause-few_ops g c =
    let report = c.in_ok-report.report in
    few_ops (shape c.args.tree.now) c.args.assets.now c.args.stack.now c.locks-locks.result c.program_of-program.result c.as_slice-3.result.now
    (g.C.SignatureChecker.checker c.args.sigs.now) report.ops report.peak report.checks
    (record { in_range = c.requires.in_range; valid = c.requires.valid; few = c.locks-locks.ensures.few; sat = c.requires.satisfies })
    (record { same_locks = search rules; is_program = search rules; is_witness = search rules }) c.requires.holds c.in_ok-report.ensures

pub returns-in_err-script-clause-within : goal.returns-in_err-script-clause-within
returns-in_err-script-clause-within g c =
    is_within (shape c.args.tree.now) c.args.assets.now c.args.stack.now
    (record { in_range = c.requires.in_range; valid = c.requires.valid; few = c.locks-locks.ensures.few; sat = c.requires.satisfies })

pub returns-in_err-witness-clause-within : goal.returns-in_err-witness-clause-within
returns-in_err-witness-clause-within g c =
    is_within (shape c.args.tree.now) c.args.assets.now c.args.stack.now
    (record { in_range = c.requires.in_range; valid = c.requires.valid; few = c.locks-locks.ensures.few; sat = c.requires.satisfies })

pub returns-in_err-report-clause-within : goal.returns-in_err-report-clause-within
returns-in_err-report-clause-within g c =
    is_within (shape c.args.tree.now) c.args.assets.now c.args.stack.now
    (record { in_range = c.requires.in_range; valid = c.requires.valid; few = c.locks-locks.ensures.few; sat = c.requires.satisfies })

pub returns-clause-within : goal.returns-clause-within
returns-clause-within g c =
    is_within (shape c.args.tree.now) c.args.assets.now c.args.stack.now
    (record { in_range = c.requires.in_range; valid = c.requires.valid; few = c.locks-locks.ensures.few; sat = c.requires.satisfies })
