use Rattle.std.specs.Prelude.{length, ◌-◌, ◌≤◌}
use Rattle.bench_threads.proofs.shared.bodies.Given as goal

abbrev pub invariant-loop-alloc : goal.invariant-loop-alloc
invariant-loop-alloc l = length l.bodies.items ≤ 8

abbrev pub decreases-loop-alloc : goal.decreases-loop-alloc
decreases-loop-alloc l = 8 - length l.bodies.items
