use Rattle.std.proofs.Common.{◌≡◌, length, map, take}
use Rattle.shared_objects.proofs.opening.lengths_of.Given as goal

abbrev pub invariant-loop-body : goal.invariant-loop-body
invariant-loop-body l = l.lengths.items ≡ map (λ b. length b.bytes.items) (take l.body-index l.slots)
