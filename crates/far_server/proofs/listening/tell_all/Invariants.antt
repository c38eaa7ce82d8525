use Rattle.far_server.specs.Told.{Tells}
use Rattle.far_server.proofs.listening.tell_all.Given as goal

abbrev pub invariant-loop : goal.invariant-loop
invariant-loop g l = Tells (g.E.Write.contents l.fn.errors) (g.E.Write.contents l.errors)
