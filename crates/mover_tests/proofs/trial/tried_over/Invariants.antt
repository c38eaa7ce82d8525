use Rattle.std.proofs.Common.{length}
use Rattle.shared_objects.specs.Tables.{table_opening}
use Rattle.workers.specs.TableNames.{each_passed}
use Rattle.workers.specs.Pools.{machines_of}
use Rattle.mover_tests.proofs.trial.tried_over.Given as goal

abbrev pub ghosts-run : goal.ghosts-run
ghosts-run g a = record {
  table = a.parts.shared.table.table.shared.table_id;
  opening = table_opening a.parts.shared.table;
  starts = machines_of a.machines.items;
  seats = length a.parts.seats.items;
  passed = each_passed;
}
