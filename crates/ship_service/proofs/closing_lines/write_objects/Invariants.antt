use Rattle.std.specs.Io.KnownBytes.{Appends}
use Rattle.ship_service.specs.ClosingLines.{object_lines}
use Rattle.ship_service.proofs.closing_lines.write_objects.Given as goal

abbrev pub invariant-loop-number : goal.invariant-loop-number
invariant-loop-number g l = Appends (g.W.Write.contents l.fn.writer) (g.W.Write.contents l.writer) (object_lines l.closed l.number)
