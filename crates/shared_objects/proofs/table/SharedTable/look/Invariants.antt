use Rattle.shared_objects.specs.Tables.{table_opening, table_returns}
use Rattle.shared_objects.proofs.table.SharedTable.look.Given as goal

abbrev pub ghosts-look_at : goal.ghosts-look_at
ghosts-look_at a = record { returns = table_returns a.self.now; opening = table_opening a.self.now }
