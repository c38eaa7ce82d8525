use Rattle.std.proofs.Common.{length}
use Rattle.shared_objects.specs.Tables.{table_opening}
use Rattle.workers.specs.TableNames.{each_passed}
use Rattle.workers.specs.Pools.{machines_of}
use Rattle.workers_tests.proofs.course.left_of.Given as goal

abbrev pub ghosts-left_over : goal.ghosts-left_over
ghosts-left_over g a = record {
  table = a.shared.table.table.shared.table_id;
  opening = table_opening a.shared.table;
  starts = machines_of a.machines.items;
  seats = length a.seats.items;
  passed = each_passed;
}
