use Rattle.std.proofs.Common.{◌≡◌, ◌<◌, ℕ, map}
use Rattle.placement.specs.declared.places.Place.TheVariants.{Here}
use Rattle.object_store.specs.Stores.{place_of}
use Rattle.object_store.specs.Bodies.{place_in}
use Rattle.object_store.proofs.parts.first_away.Given as goal

abbrev pub invariant-loop-number : goal.invariant-loop-number
invariant-loop-number g l = (k : ℕ) → k < l.number → place_of (map place_in l.bodies) k ≡ Here
