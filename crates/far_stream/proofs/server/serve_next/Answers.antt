use Rattle.std.proofs.Common.{Err}
use Rattle.std.proofs.lemmas.Result.{err_from_is_err_and}
use Rattle.far_stream.specs.Frames.{head}
use Rattle.far_stream.proofs.Serving.{serves_from}
use Rattle.far_stream.proofs.server.serve_next.Goals as goal

pub returns-in_err-serve_request-in-Some-clause-err : goal.returns-in_err-serve_request-in-Some-clause-err
returns-in_err-serve_request-in-Some-clause-err g c =
    let r = c.in-Some.request in
    let came = rw c.in-Some.is at c.in_ok-request.ensures.found in
    let p = err_from_is_err_and c.from_residual-in_err-serve_request-in-Some.result c.from_residual-in_err-serve_request-in-Some.ensures.1 in
    rw (p.1, p.2) (serves_from g.S.Read.remaining g.S.Write.contents c.args.stream.now c.read.new.reader c.serve_request.new.stream
    (head r.kind r.id r.count) c.args.kept.now.items c.serve_request.new.kept.items
    (Err c.in_err-serve_request-in-Some.field-0.0) came.1 c.in_err-serve_request-in-Some.ensures)
