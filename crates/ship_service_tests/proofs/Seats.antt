-- All seats but the last.
use Rattle.std.specs.Prelude.{Bool}
use Rattle.std.proofs.Common.{◌≡◌, List, [], ◌∷◌, ◌++◌, All, subst}
use Rattle.std.proofs.lemmas.List.Elements.{All-head, All-tail, All-cons, All-nil}
use Rattle.atomic_table.proofs.Lists.{at_longer}
use Rattle.shared_objects.specs.Kinds.{dealer}
use Rattle.shared_objects.specs.Opened.{AreFresh}
use Rattle.shared_objects.specs.Tables.{IsActorOf, table_opening}
use Rattle.shared_objects.specs.declared.view.View.{View}
use Rattle.shared_objects.specs.declared.seats.ActorSeat.{ActorSeat}
use Rattle.shared_objects.specs.declared.table.SharedTable.{SharedTable}
use Rattle.ship_service_tests.specs.Stages.{AreNewSeats}

all_first : (P : ActorSeat → Type 0) (xs ys : List ActorSeat) → All P (xs ++ ys) → All P xs
all_first P [] ys h = All-nil P
all_first P (x ∷ xs) ys h = All-cons P x xs (All-head P x (xs ++ ys) h) (all_first P xs ys (All-tail P x (xs ++ ys) h))

all_rest : (P : ActorSeat → Type 0) (xs ys : List ActorSeat) → All P (xs ++ ys) → All P ys
all_rest P [] ys h = h
all_rest P (x ∷ xs) ys h = all_rest P xs ys (All-tail P x (xs ++ ys) h)

fresh_first : (v : View) (xs ys : List ActorSeat) → AreFresh v (xs ++ ys) → AreFresh v xs
fresh_first v xs ys h k a at = h k a (at_longer xs ys k a at)

-- what is left without the last seat, and that seat
pub seats_left : (returns : Bool) (shared : SharedTable) (old xs ys : List ActorSeat) → old ≡ xs ++ ys → AreNewSeats returns shared old
    → AreNewSeats returns shared xs × All (IsActorOf shared) ys
seats_left returns shared old xs ys e h =
    let k : AreNewSeats returns shared (xs ++ ys) = subst (AreNewSeats returns shared) e h in
    ((fresh_first (dealer returns (table_opening shared)) xs ys k.0, all_first (IsActorOf shared) xs ys k.1), all_rest (IsActorOf shared) xs ys k.1)
