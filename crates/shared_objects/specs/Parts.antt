-- What the seats are that are handed back.
use Rattle.shared_objects.specs.Kinds.{part}
use Rattle.shared_objects.specs.declared.view.Part.{Part}
use Rattle.shared_objects.specs.declared.seats.ActorSeat.{ActorSeat}

-- what an actor had done
abbrev pub part_of : ActorSeat → Part
part_of a = part a.seat.me.0.actor a.seat.me.0.entries a.seat.me.0.marks
