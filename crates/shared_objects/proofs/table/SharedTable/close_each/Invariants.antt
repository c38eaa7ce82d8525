use Rattle.std.proofs.Common.{◌≡◌, map}
use Rattle.std.specs.Prelude.{All}
use Rattle.shared_objects.specs.Tables.{IsShutOf}
use Rattle.shared_objects.specs.Parts.{part_of}
use Rattle.shared_objects.proofs.table.SharedTable.close_each.Given as goal

abbrev pub invariant-loop-actor : goal.invariant-loop-actor
invariant-loop-actor l = All (IsShutOf l.self) l.shut.items × (map part_of l.shut.items ≡ map part_of l.yielded)
