use Rattle.std.proofs.Common.{◌≡◌, sym, ap, ◌∙◌}
use Rattle.ship_service.specs.ClosingLines.{machine_line, cell_line}
use Rattle.ship_service.proofs.Written.{renamed}
use Rattle.ship_service.proofs.closing_lines.write_machine.Goals as goal

pub returns-clause-err : goal.returns-clause-err
returns-clause-err g c =
    let e : c.as_slice.result.now ≡ cell_line c.args.cell.now =
    c.as_slice.ensures.value ∙ c.print_machine.ensures ∙ ap (machine_line c.args.cell.now.number) (sym c.in-Some.is) in
    renamed c.put_all.result _ _ c.as_slice.result.now _ e c.put_all.ensures.err
