use Rattle.memory.specs.declared.deeds.Deed.TheVariants.{Writes}
use Rattle.memory.specs.declared.deeds.Given.TheVariants.{Nothing}
use Rattle.shared_objects.specs.History.{entry}
use Rattle.shared_objects.proofs.table.SharedTable.put.Given as goal

abbrev pub ghosts-record_write : goal.ghosts-record_write
ghosts-record_write a = record { entry = entry a.seat.now.me.0.actor a.stamp a.found a.n (Writes a._offset a._bytes.now) Nothing }
