use Rattle.shared_objects.specs.Phases.{IsObject}
use Rattle.shared_objects.specs.Tables.{IsActorOf}
use Rattle.shared_objects_tests.proofs.threads.look_all.Given as goal

abbrev pub invariant-loop : goal.invariant-loop
invariant-loop l = IsActorOf l.table l.actor × IsObject l.actor.seat.me.0.opening 1
