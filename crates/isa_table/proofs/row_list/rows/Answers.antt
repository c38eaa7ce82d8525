use Rattle.isa_table.proofs.Listed.{rows_complete, rows_only, rows_once}
use Rattle.isa_table.proofs.row_list.rows.Goals as goal

pub returns-clause-complete : goal.returns-clause-complete
returns-clause-complete c = rows_complete

pub returns-clause-only : goal.returns-clause-only
returns-clause-only c = rows_only

pub returns-clause-once : goal.returns-clause-once
returns-clause-once c = rows_once
