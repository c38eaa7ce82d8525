use Rattle.std.proofs.Common.{arith, refl}
use Rattle.machine.proofs.Fuel.{ran_paid}
use Rattle.bench_steps.specs.Reached.RunsTo.{here, on}
use Rattle.bench_steps.proofs.run_to_end.Goals as goal

pub run-init : goal.run-init
run-init g c = (c.requires.ready, here _ _)

pub returns-in-Stopped-clause-steps : goal.returns-in-Stopped-clause-steps
returns-in-Stopped-clause-steps g c = on _ _ _ _ _ _ _ c.run.invariant.1 c.step.ensures.step

pub returns-in-Waiting-clause-steps : goal.returns-in-Waiting-clause-steps
returns-in-Waiting-clause-steps g c = on _ _ _ _ _ _ _ c.run.invariant.1 c.step.ensures.step

pub run-smaller : goal.run-smaller
run-smaller g c =
    let paid = ran_paid g.M.Memory.acts _ _ _ _ _ _ refl (rw c.in-Ran.is at c.step.ensures.step) in
    omega (arith, paid)

pub run-preserved : goal.run-preserved
run-preserved g c = (c.step.ensures.ready, on _ _ _ _ _ _ _ c.run.invariant.1 c.step.ensures.step)
