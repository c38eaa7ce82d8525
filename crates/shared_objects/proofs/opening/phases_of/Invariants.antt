use Rattle.std.proofs.Common.{◌≡◌, map, take}
use Rattle.shared_objects.specs.declared.seats.Phase.TheVariants.{In}
use Rattle.shared_objects.proofs.opening.phases_of.Given as goal

abbrev pub invariant-loop : goal.invariant-loop
invariant-loop l = l.phases.items ≡ map (λ _. In) (take l.index l.slots)
