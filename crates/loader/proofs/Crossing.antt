-- A program may go to another thread. Written out, since an enum of 150 rows is more than a search finds.
use mathlib.Core.List.{List, [], ◌∷◌}
use denote.RattleType.{RattleType}
use denote.Param.Send.{IsSend, EachSend, recorded_send, enum_send, view_send, sendable}
use denote.Param.SendFields.{declared_send}
use Rattle.std.proofs.Crossing.{crosses}
use Rattle.loader.specs.contracts.rows.Row as Row
use Rattle.loader.specs.contracts.rows.Operands as Operands
use Rattle.loader.specs.contracts.program.CodeEntry as CodeEntry
use Rattle.loader.specs.contracts.program.CodeEntry.TheInside as Inside
use Rattle.loader.specs.contracts.program.Program as Program

-- no variant has a field
abbrev Bare : List (List RattleType) → Type 0
Bare [] = Unit {0}
Bare ([] ∷ variants) = Bare variants
Bare ((field ∷ fields) ∷ variants) = ⊥

each_bare : (variants : List (List RattleType)) → Bare variants → EachSend variants
each_bare [] b = tt
each_bare ([] ∷ variants) b = (tt, each_bare variants b)
each_bare ((field ∷ fields) ∷ variants) b = absurd b

row_send : IsSend Row.the_row
row_send = search (recorded_send, enum_send, each_bare, tt)

operands_send : IsSend Operands.the_row
operands_send = search (sendable, crosses) depth 60 fits 20000

entry_send : IsSend CodeEntry.the_row
entry_send = search (declared_send Inside.the_type (search sendable, (search sendable, (row_send, (row_send, (search sendable, (search sendable, (operands_send, tt))))))), view_send)

pub program_send : IsSend Program.the_row
program_send = search (sendable, crosses, entry_send) depth 60 fits 20000
