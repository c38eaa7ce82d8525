use Rattle.std.proofs.Common.{◌-◌, ◌≤◌}
use Rattle.debugger.specs.Running.{StepsRan}
use Rattle.object_store.specs.Lending.{within_memory}
use Rattle.world.proofs.running.run_over.Given as goal

abbrev pub invariant-run : goal.invariant-run
invariant-run g l = StepsRan (within_memory l.who) l.ran l.fn.debuggee l.fn.store l.debuggee l.store × (l.ran ≤ l.most)

abbrev pub decreases-run : goal.decreases-run
decreases-run g l = l.most - l.ran
