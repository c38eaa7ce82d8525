use Rattle.std.proofs.Common.{ℕ, List, ◌++◌, ap, flat_map, length}
use Rattle.workers.specs.declared.closing.ClosedCell.{ClosedCell}
use Rattle.ship_service.specs.ClosingLines.{object_lines, cell_line}
use Rattle.ship_service.proofs.Written.{even_so, part_before, second_failed, renamed}
use Rattle.ship_service.proofs.closing_lines.write_closing_lines.Goals as goal

pub returns-in_err-write_objects-clause-err : goal.returns-in_err-write_objects-clause-err
returns-in_err-write_objects-clause-err g c =
    let s = c.args.closed.now in
    even_so c.from_residual.result _ (part_before _ _ (object_lines s (length s.lengths)) (flat_map cell_line s.cells) c.in_err-write_objects.ensures.err)

pub returns-clause-err : goal.returns-clause-err
returns-clause-err g c =
    let s = c.args.closed.now in let first : List ℕ = object_lines s (length s.lengths) in
    renamed c.write_machines.result _ _ (first
    ++ flat_map cell_line c.cells.result.now) _ (ap (λ (l : List ClosedCell). first ++ flat_map cell_line l) c.cells.ensures)
    (second_failed c.write_machines.result _ _ _ first (flat_map cell_line c.cells.result.now) c.in_ok-write_objects.ensures.ok c.write_machines.ensures.err)
