use Rattle.object_store.proofs.Counting.{below_counts}
use Rattle.object_store.proofs.scoping.end_pushed.Goals as goal

pub end_scope-requires-clause-object : goal.end_scope-requires-clause-object
end_scope-requires-clause-object g c = below_counts c.args.bodies.now c.in-Some.number (rw c.in-Some.is at c.requires.held)

pub returns-in-Some : goal.returns-in-Some
returns-in-Some g c = rw c.in-Some.is c.end_scope.ensures
