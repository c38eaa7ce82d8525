use Rattle.bench_steps.specs.Reached.{RunsTo}
use Rattle.bench_steps.proofs.run_to_end.Given as goal

abbrev pub invariant-run : goal.invariant-run
invariant-run g l = g.M.Memory.is_ready l.memory × RunsTo g.M.Memory.acts l.fn.machine l.fn.memory l.machine l.memory

abbrev pub decreases-run : goal.decreases-run
decreases-run g l = l.machine.fuel
