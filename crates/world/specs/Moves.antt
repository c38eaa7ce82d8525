-- What each move is: in the store, of the places, and of the far store.
use Rattle.std.specs.Prelude.{ℕ, true}
use Rattle.far_store.specs.Calls.{Call}
use Rattle.placement.specs.declared.places.Place.{Place}
use Rattle.placement.specs.declared.places.Place.TheVariants as place
use Rattle.placement.specs.declared.places.Moved.{Moved}
use Rattle.object_store.specs.Asking.{AsksNothing, AsksToLeave, AsksToReturn}
use Rattle.object_store.specs.Calls.{BeginsLeave, EndsLeave, BeginsReturn, EndsReturn}
use Rattle.object_store.specs.Stores.{StoreState, StoreWithin}
use Rattle.world.specs.declared.world.moving.Move.{Move}
use Rattle.world.specs.declared.world.moving.Move.TheVariants as move

-- what each move is in the store
abbrev pub Moves : Move → StoreState → ℕ → Moved → StoreState → Type 0
Moves move.Leave old n done new = BeginsLeave old n done new
Moves move.Left old n done new = EndsLeave old n done new
Moves move.Return old n done new = BeginsReturn old n done new
Moves move.Returned old n done new = EndsReturn true old n done new

-- where the object is when it is done
abbrev pub place_past : Move → Place
place_past move.Leave = place.Leaving
place_past move.Left = place.Far
place_past move.Return = place.Returning
place_past move.Returned = place.Here

-- where the object was before it began to move, and is again where the far store fails
abbrev pub place_before : Move → Place
place_before move.Leave = place.Here
place_before move.Left = place.Here
place_before move.Return = place.Far
place_before move.Returned = place.Far

-- What each move asks, by what it came to: one that begins asks nothing.
abbrev pub MoveAsks : {X : Type 0} → (X → Call → X → Type 0) → Move → StoreWithin X → ℕ → Moved → StoreWithin X → Type 0
MoveAsks called move.Leave old n moved new = AsksNothing old new
MoveAsks called move.Left old n moved new = AsksToLeave called old n moved new
MoveAsks called move.Return old n moved new = AsksNothing old new
MoveAsks called move.Returned old n moved new = AsksToReturn true called old n moved new
