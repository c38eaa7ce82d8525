use Rattle.std.proofs.Common.{◌≡◌, ◌+◌, ℕ, Some, None, arith, subst}
use Rattle.debugger.specs.Running.{StepsRan}
use Rattle.object_store.specs.Lending.{within_memory}
use Rattle.world.proofs.Ran.{part_ends, part_ran, within_run}
use Rattle.world.proofs.running.run_over.Goals as goal

pub returns-in-Some-clause-asks : goal.returns-in-Some-clause-asks
returns-in-Some-clause-asks g c =
    part_ends _ c.args.most c.run.ran c.min-length.result c.run_slice-part.result.run.ran _ _ _ _ _ _ c.in-Some.end c.run.invariant.1
    (omega (arith, c.min-length.ensures)) c.run.invariant.0 (rw c.in-Some.is at c.run_slice-part.ensures)

pub returns-in-Some-clause-runs : goal.returns-in-Some-clause-runs
returns-in-Some-clause-runs g c =
    within_run c.args.who c.args.most c.args.debuggee.now c.args.store.now (c.run.ran + c.run_slice-part.result.run.ran) (Some c.in-Some.end)
    c.run_slice-part.new.debuggee c.run_slice-part.new.store (returns-in-Some-clause-asks g c)

pub run-preserved : goal.run-preserved
run-preserved g c =
    part_ran _ c.args.most c.run.ran c.min-length.result c.run_slice-part.result.run.ran _ _ _ _ _ _ c.run.invariant.1
    (omega (arith, c.min-length.ensures)) c.run.invariant.0 (rw c.in_default.is at c.run_slice-part.ensures)

pub returns-clause-runs : goal.returns-clause-runs
returns-clause-runs g c =
    let all : c.run.ran ≡ c.args.most = omega (arith, c.run.invariant.1, c.run-test.false) in
    let steps : StepsRan (within_memory c.args.who) c.args.most c.args.debuggee.now c.args.store.now c.run.debuggee c.run.store =
    subst (λ (n : ℕ). StepsRan (within_memory c.args.who) n c.args.debuggee.now c.args.store.now c.run.debuggee c.run.store) all c.run.invariant.0 in
    within_run c.args.who c.args.most c.args.debuggee.now c.args.store.now c.run.ran None c.run.debuggee c.run.store (all, steps)
