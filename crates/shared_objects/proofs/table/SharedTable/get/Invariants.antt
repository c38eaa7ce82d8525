use Rattle.memory.specs.declared.deeds.Deed.TheVariants.{Reads}
use Rattle.memory.specs.declared.deeds.Given.TheVariants.{Bytes}
use Rattle.shared_objects.specs.History.{entry}
use Rattle.shared_objects.proofs.table.SharedTable.get.Given as goal

abbrev pub ghosts-record_read : goal.ghosts-record_read
ghosts-record_read a = record { entry = entry a.seat.now.me.0.actor a.stamp a.found a.n (Reads a._offset a._count) (Bytes a._bytes.now.items) }
