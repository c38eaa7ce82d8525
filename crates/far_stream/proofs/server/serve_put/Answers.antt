use Rattle.std.proofs.Common.{rules, ◌≡◌, ◌<◌, ◌^◌, refl}
use Rattle.std.proofs.lemmas.Result.{err_from_is_err_and}
use Rattle.far_stream.specs.Frames.{head}
use Rattle.far_stream.specs.Kinds.{status_number}
use Rattle.far_stream.proofs.Serving.{put_cut, put_served}
use Rattle.far_stream.proofs.server.serve_put.Goals as goal

pub returns : goal.returns
returns g c =
    let fits : c.args.id < 2 ^ 64 = search rules in
    let text : c.bytes.result ≡ head (status_number c.in_ok-status.status) c.args.id 0 =
    rw (c.bytes.ensures, c.head.ensures.kind, c.head.ensures.id, c.head.ensures.count) refl in
    put_served g.S.Read.remaining g.S.Write.contents c.args.stream.now c.take.new.reader c.answer.new.writer c.args.kept.now.items c.take.new.kept.items
    c.args.id c.args.count c.in_ok-status.status
    c.bytes.result c.answer.result fits c.requires.0 c.requires.1 c.in_ok-status.ensures.ok text c.answer.ensures.ok c.answer.ensures.err

pub returns-in_err-status : goal.returns-in_err-status
returns-in_err-status g c =
    let p = err_from_is_err_and c.from_residual.result c.from_residual.ensures.1 in
    rw (p.1, p.2) (put_cut g.S.Read.remaining g.S.Write.contents c.args.stream.now c.take.new.reader c.args.kept.now.items c.take.new.kept.items c.args.id
    c.args.count c.in_err-status.field-0.0 c.requires.0 c.requires.1 c.in_err-status.ensures.err)
