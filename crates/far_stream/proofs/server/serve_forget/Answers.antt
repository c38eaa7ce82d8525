use Rattle.std.proofs.Common.{rules, ◌≡◌, ◌<◌, ◌^◌, ◌∙◌, refl}
use Rattle.far_stream.specs.Frames.{head}
use Rattle.far_stream.specs.Kinds.{status_number}
use Rattle.far_stream.specs.Serving.{status_answer}
use Rattle.far_stream.proofs.Serving.{answer_of_status, forget_served}
use Rattle.far_stream.proofs.server.serve_forget.Goals as goal

pub returns : goal.returns
returns g c =
    let status = c.forget-status.result in
    let fits : c.args.id < 2 ^ 64 = search rules in
    let text : c.bytes.result ≡ head (status_number status) c.args.id 0 =
    rw (c.bytes.ensures, c.head.ensures.kind, c.head.ensures.id, c.head.ensures.count) refl in
    forget_served g.S.Read.remaining g.S.Write.contents c.args.stream.now c.answer.new.writer c.args.kept.now.items c.forget-status.new.kept.items c.args.id
    (status_answer status) c.bytes.result c.answer.result
    fits c.forget-status.ensures (text ∙ answer_of_status c.args.id status) c.answer.ensures.ok c.answer.ensures.err
