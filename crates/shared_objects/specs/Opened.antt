-- The seats of a table that was opened.
use Rattle.std.specs.Prelude.{◌≡◌, ℕ, ◌+◌, List}
use mathlib.Core.Option.{some}
use lib.ListN.{get_elem?}
use Rattle.shared_objects.specs.Kinds.{newcomer}
pub use Rattle.shared_objects.specs.Kinds.{dealer}
pub use Rattle.shared_objects.specs.Tables.{IsActorOf, IsMoverOf}
use Rattle.shared_objects.specs.declared.view.View.{View}
use Rattle.shared_objects.specs.declared.seats.ActorSeat.{ActorSeat}

-- the first seat, once it made so many others
abbrev pub seated : ℕ → View → View
seated count v = record v { made = v.made + count; alive = v.alive + count }

-- The seats are those that the first one made, in order: each has its actor's number, knows the opening bytes, and has done
-- nothing.
abbrev pub AreFresh : View → List ActorSeat → Type 0
AreFresh v actors = (k : ℕ) (a : ActorSeat) → get_elem? actors k ≡ some a → (a.seat.me.0 ≡ newcomer (seated k v)) × (a.stamp ≡ 0)
