-- Where objects are, what moves change, and what keeps an object in its place.
use Rattle.std.specs.Prelude.{◌≡◌, ◌≢◌, ◌≤◌, ℕ, List}
use Rattle.placement.specs.declared.places.Place.TheVariants.{Here}
use Rattle.object_store.specs.Stores.{IsScoped, place_of, near_bytes}
use Rattle.world.specs.declared.replies.Reply.{Reply}
use Rattle.world.specs.Run.{Runs}
use Rattle.world.specs.declared.events.Event.{Event}
use Rattle.world.specs.declared.events.Event.TheVariants.{Object}
use Rattle.world.specs.declared.events.ObjectCommand.TheVariants as object
use Rattle.world.specs.declared.world.moving.Move.{Move}
use Rattle.world.specs.WorldState.{WorldState, world_start}
use Rattle.world.specs.Answers.{Answers}
use Rattle.world.specs.Places.{place_after}

-- The replies tell where each object is.
abbrev pub PlacesAreRead : Type 0
PlacesAreRead = (budget faults : ℕ) (commands : List Event) (replies : List Reply) (new : WorldState)
    → Runs Answers (world_start budget faults) commands replies new
    → (n : ℕ) → place_of new.store.places n ≡ place_after n replies

-- A move changes no byte, no machine, no debug state, no window, no budget, and no other object's place. It may change the
-- object's place and the count of faults.
pub record MovesOnly (old : WorldState) (n : ℕ) (new : WorldState) : Type 0 where
  pub machines : new.machines ≡ old.machines
  pub store : new.store ≡ record old.store { places = new.store.places; faults = new.store.faults }
  pub others : (k : ℕ) → k ≢ n → place_of new.store.places k ≡ place_of old.store.places k

-- A move, or its end, changes no more than that, whatever it is answered.
abbrev pub MovesChangeNoByte : Type 0
MovesChangeNoByte = (old new : WorldState) (n : ℕ) (move : Move) (reply : Reply) → Answers old (Object n (object.Move move)) reply new → MovesOnly old n new

-- The objects that aren't far fit into the budget, whatever was done.
abbrev pub BudgetHolds : Type 0
BudgetHolds = (budget faults : ℕ) (commands : List Event) (replies : List Reply) (new : WorldState)
    → Runs Answers (world_start budget faults) commands replies new
    → near_bytes new.store.objects new.store.places ≤ budget

-- An object that a machine has in scope is here. So none is moved while it is in scope.
abbrev pub ScopesStay : Type 0
ScopesStay = (budget faults : ℕ) (commands : List Event) (replies : List Reply) (new : WorldState)
    → Runs Answers (world_start budget faults) commands replies new
    → (n : ℕ) → IsScoped new.store n → place_of new.store.places n ≡ Here
