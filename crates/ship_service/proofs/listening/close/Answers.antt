use Rattle.std.proofs.Common.{◌++◌, refl, subst}
use Rattle.std.proofs.KnownBytes.{Appends-trans}
use Rattle.std.proofs.lemmas.Result.{err_from_is_err_and}
use Rattle.std.specs.Io.KnownBytes.{Appends}
use Rattle.streams.specs.Streams.{AppendsPart}
use Rattle.ship_service.specs.ClosingLines.{closing_lines}
use Rattle.ship_service.specs.Listening.{closed_line}
use Rattle.ship_service.proofs.Conversed.{seats_had_clients}
use Rattle.ship_service.proofs.Saying.{part_of_first, part_of_second}
use Rattle.ship_service.proofs.listening.close.Goals as goal

pub returns-in_err-put_all : goal.returns-in_err-put_all
returns-in_err-put_all g c =
    let lines = closing_lines c.in_ok-closed.closed in
    let clients = seats_had_clients g.K.TableName.table g.F.FarStore.RETURNS g.K.TableName.opening g.K.TableName.passed (λ x. x.session.seat) c.args.ended.connections.items c.args.ended.clients in
    let part = subst (AppendsPart (g.W.Write.contents c.args.writer.now) (g.W.Write.contents c.put_all.new.writer)) c.closed_line.ensures
    c.in_err-put_all.ensures.err in
    let p = err_from_is_err_and c.from_residual-in_err-put_all.result c.from_residual-in_err-put_all.ensures.1 in
    rw (p.1, p.2) (closed_line ++ lines, ((_, _, c.in_ok-closed.closed, c.in_ok-closed.ensures, refl), c.args.ended.ran, clients), part_of_first _ _ closed_line lines part)

pub returns-in_err-write_closing_lines : goal.returns-in_err-write_closing_lines
returns-in_err-write_closing_lines g c =
    let lines = closing_lines c.in_ok-closed.closed in
    let clients = seats_had_clients g.K.TableName.table g.F.FarStore.RETURNS g.K.TableName.opening g.K.TableName.passed (λ x. x.session.seat) c.args.ended.connections.items c.args.ended.clients in
    let first = subst (Appends (g.W.Write.contents c.args.writer.now) (g.W.Write.contents c.put_all.new.writer))
    c.closed_line.ensures c.in_ok-put_all.ensures.ok in
    let p = err_from_is_err_and c.from_residual-in_err-write_closing_lines.result c.from_residual-in_err-write_closing_lines.ensures.1 in
    rw (p.1, p.2) (
      closed_line ++ lines,
      ((_, _, c.in_ok-closed.closed, c.in_ok-closed.ensures, refl), c.args.ended.ran, clients),
      part_of_second _ _ _ closed_line lines first c.in_err-write_closing_lines.ensures.err,
    )

pub returns : goal.returns
returns g c =
    let lines = closing_lines c.in_ok-closed.closed in
    let clients = seats_had_clients g.K.TableName.table g.F.FarStore.RETURNS g.K.TableName.opening g.K.TableName.passed (λ x. x.session.seat) c.args.ended.connections.items c.args.ended.clients in
    let first = subst (Appends (g.W.Write.contents c.args.writer.now) (g.W.Write.contents c.put_all.new.writer))
    c.closed_line.ensures c.in_ok-put_all.ensures.ok in
    (closed_line ++ lines, ((_, _, c.in_ok-closed.closed, c.in_ok-closed.ensures, refl), c.args.ended.ran, clients), Appends-trans _ _ _ closed_line lines first c.in_ok-write_closing_lines.ensures.ok)
