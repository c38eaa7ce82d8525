use Rattle.shared_objects.specs.Tables.{table_opening}
use Rattle.workers.specs.TableNames.{each_passed}
use Rattle.workers.specs.Pools.{machines_of}
use Rattle.ship_service_tests.proofs.stage.answers.Given as goal

abbrev pub ghosts-talks : goal.ghosts-talks
ghosts-talks g a = record {
  table = a.parts.shared.table.table.shared.table_id;
  opening = table_opening a.parts.shared.table;
  starts = machines_of a.parts.machines.items;
  seats = 50;
  passed = each_passed;
}
