use Rattle.std.proofs.Common.{◌≡◌, [], ◌∷◌, map}
use Rattle.shared_objects.proofs.opening.filled.Given as goal

abbrev pub invariant-loop-bytes : goal.invariant-loop-bytes
invariant-loop-bytes l = map (λ b. b.bytes.items) l.slots.items ≡ [] ∷ map (λ b. b.items) l.yielded
