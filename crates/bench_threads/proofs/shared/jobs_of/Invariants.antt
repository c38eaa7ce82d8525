use Rattle.std.specs.Prelude.{All, ◌≤◌}
use Rattle.shared_objects.specs.Tables.{IsActorOf}
use Rattle.bench_threads.proofs.shared.jobs_of.Given as goal

abbrev pub invariant-loop-actor : goal.invariant-loop-actor
invariant-loop-actor l = All (λ j. IsActorOf l.table j.actor) l.jobs.items × (l.number ≤ 8)
