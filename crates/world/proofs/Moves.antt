-- No move changes bytes.
use Rattle.std.proofs.Common.{◌≡◌, ℕ, ap, arith}
use Rattle.placement.specs.declared.places.Place.{Place}
use Rattle.placement.specs.declared.places.Place.TheVariants as place
use Rattle.placement.specs.declared.places.Moved.{Moved}
use Rattle.placement.specs.declared.places.Moved.TheVariants as moved
use Rattle.object_store.specs.Stores.{StoreState}
use Rattle.object_store.specs.Calls.{RefusesMove, EndsLeave}
use Rattle.world.specs.declared.world.moving.Move.{Move as MoveKind}
use Rattle.world.specs.Moves.{Moves}

refuses_stay : (from : Place) (old new : StoreState) (n : ℕ) (m : Moved) → RefusesMove from old n m new → new.objects ≡ old.objects
refuses_stay from old new n moved.NoObject h = ap (λ (s : StoreState). s.objects) h.1
refuses_stay from old new n (moved.Misplaced p) h = ap (λ (s : StoreState). s.objects) h.2
refuses_stay from old new n _ h = absurd h

pub ends_leave : (old new : StoreState) (n : ℕ) (m : Moved) → EndsLeave old n m new → new.objects ≡ old.objects
ends_leave old new n (moved.Fault f) h = ap (λ (s : StoreState). s.objects) h.2
ends_leave old new n moved.Done h = ap (λ (s : StoreState). s.objects) h.2
ends_leave old new n m h = refuses_stay place.Leaving old new n m h

-- a move changes no object's bytes
pub moves_stay : (m : MoveKind) (old new : StoreState) (n : ℕ) (d : Moved) → Moves m old n d new → new.objects ≡ old.objects
moves_stay m old new n d h = grind arith
