use Rattle.shared_objects.specs.Tables.{table_opening}
use Rattle.workers.specs.TableNames.{each_passed}
use Rattle.workers.specs.Pools.{machines_of}
use Rattle.ship_service_tests.proofs.closing_two.close_over.Given as goal

abbrev pub ghosts-close_after : goal.ghosts-close_after
ghosts-close_after g a = record {
  table = a.parts.shared.table.table.shared.table_id;
  opening = table_opening a.parts.shared.table;
  starts = machines_of a.parts.machines.items;
  seats = 49;
  passed = each_passed;
}
