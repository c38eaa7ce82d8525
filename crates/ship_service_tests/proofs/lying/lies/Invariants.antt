use Rattle.shared_objects.specs.Tables.{table_opening}
use Rattle.workers.specs.TableNames.{each_passed}
use Rattle.workers.specs.Pools.{machines_of}
use Rattle.ship_service_tests.proofs.lying.lies.Given as goal

abbrev pub ghosts-faults_after : goal.ghosts-faults_after
ghosts-faults_after g a = record {
  table = a.parts.shared.table.table.shared.table_id;
  opening = table_opening a.parts.shared.table;
  starts = machines_of a.parts.machines.items;
  seats = 49;
  passed = each_passed;
}
