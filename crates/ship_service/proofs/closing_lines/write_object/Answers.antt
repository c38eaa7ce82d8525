use Rattle.std.proofs.Common.{◌≡◌, ap, ◌∙◌}
use Rattle.ship_service.specs.Closing.{live_object}
use Rattle.ship_service.specs.ClosingLines.{object_line}
use Rattle.ship_service.proofs.Written.{renamed}
use Rattle.ship_service.proofs.closing_lines.write_object.Goals as goal

pub returns-clause-err : goal.returns-clause-err
returns-clause-err g c =
    let e : c.as_slice.result.now ≡ object_line c.args.number (live_object c.args.closed.now c.args.number) =
    c.as_slice.ensures.value ∙ c.print_object.ensures ∙ ap (object_line c.args.number) c.in-Some.ensures in
    renamed c.put_all.result _ _ c.as_slice.result.now _ e c.put_all.ensures.err
