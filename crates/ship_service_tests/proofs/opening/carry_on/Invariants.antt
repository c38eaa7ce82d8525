use Rattle.shared_objects.specs.Tables.{table_opening}
use Rattle.workers.specs.TableNames.{each_passed}
use Rattle.workers.specs.Pools.{machines_of}
use Rattle.ship_service.specs.Opening.{seat_count}
use Rattle.ship_service_tests.proofs.opening.carry_on.Given as goal

abbrev pub ghosts-serves : goal.ghosts-serves
ghosts-serves g a = record {
  table = a.opened.shared.table.table.shared.table_id;
  opening = table_opening a.opened.shared.table;
  starts = machines_of a.opened.machines.items;
  seats = seat_count;
  passed = each_passed;
}
