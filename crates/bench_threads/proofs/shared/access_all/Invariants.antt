use Rattle.shared_objects.specs.Tables.{IsActorOf}
use Rattle.bench_threads.proofs.shared.access_all.Given as goal

abbrev pub invariant-loop : goal.invariant-loop
invariant-loop l = IsActorOf l.table l.job.actor
