use Rattle.std.proofs.Common.{take, flat_map}
use Rattle.std.specs.Io.KnownBytes.{Appends}
use Rattle.ship_service.specs.ClosingLines.{cell_line}
use Rattle.ship_service.proofs.closing_lines.write_machines.Given as goal

abbrev pub invariant-loop-cell : goal.invariant-loop-cell
invariant-loop-cell g l = Appends (g.W.Write.contents l.fn.writer) (g.W.Write.contents l.writer) (flat_map cell_line (take l.cell-index l.cells))
