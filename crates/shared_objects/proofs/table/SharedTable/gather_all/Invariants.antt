use Rattle.std.proofs.Common.{◌≡◌, map}
use Rattle.shared_objects.specs.Tables.{IsMoverOf}
use Rattle.shared_objects.specs.Kinds.{gathers_all}
use Rattle.shared_objects.specs.Parts.{part_of}
use Rattle.shared_objects.proofs.table.SharedTable.gather_all.Given as goal

abbrev pub invariant-loop-actor : goal.invariant-loop-actor
invariant-loop-actor l = IsMoverOf l.self l.mover × (l.mover.seat.me.0 ≡ gathers_all l.fn.mover.seat.me.0 (map part_of l.yielded))
