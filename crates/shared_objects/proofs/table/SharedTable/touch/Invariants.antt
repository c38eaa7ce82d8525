use Rattle.memory.specs.declared.deeds.Deed.TheVariants.{Accesses}
use Rattle.memory.specs.declared.deeds.Given.TheVariants.{Number}
use Rattle.shared_objects.specs.History.{entry}
use Rattle.shared_objects.proofs.table.SharedTable.touch.Given as goal

abbrev pub ghosts-record_access : goal.ghosts-record_access
ghosts-record_access a = record { entry = entry a.seat.now.me.0.actor a.stamp a.found a.n (Accesses a._op.now) (Number a._reply) }
