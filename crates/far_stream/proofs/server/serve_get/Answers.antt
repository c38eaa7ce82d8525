use Rattle.std.proofs.Common.{rules, ◌≡◌, ◌<◌, ◌^◌, ◌∙◌, ap, sym, refl, Some}
use Rattle.far_stream.specs.Frames.{frame, head, done, refused_id}
use Rattle.far_stream.specs.Server.{kept_under}
use Rattle.far_stream.specs.Server.Answer.{Done, RefusedId}
use Rattle.far_stream.proofs.Serving.{get_served}
use Rattle.far_stream.proofs.server.serve_get.Goals as goal

pub returns-in-Some : goal.returns-in-Some
returns-in-Some g c =
    let k = c.index-kept-place.result in
    let fits : c.args.id < 2 ^ 64 = search rules in
    let id : k.id ≡ c.args.id = ap (λ s. s.id) c.index-kept-place.is ∙ c.in-Some.ensures.id k in
    let under : kept_under c.args.id c.args.kept.now ≡ Some k.bytes = c.in-Some.ensures.bytes k ∙ ap (λ s. Some s.bytes) (sym c.index-kept-place.is) in
    let text : c.answer.result.now ≡ frame done c.args.id k.bytes = c.answer.ensures ∙ ap (λ n. frame done n k.bytes) id in
    get_served g.S.Read.remaining g.S.Write.contents c.args.stream.now c.answer-in-Some.new.writer c.args.kept.now c.args.id (Done k.bytes)
    c.answer.result.now c.answer-in-Some.result
    fits (under, refl) text c.answer-in-Some.ensures.ok c.answer-in-Some.ensures.err

pub returns-in-None : goal.returns-in-None
returns-in-None g c =
    let fits : c.args.id < 2 ^ 64 = search rules in
    let text : c.bytes.result ≡ head refused_id c.args.id 0 = rw (c.bytes.ensures, c.head.ensures.kind, c.head.ensures.id, c.head.ensures.count) refl in
    get_served g.S.Read.remaining g.S.Write.contents c.args.stream.now c.answer-in-None.new.writer c.args.kept.now c.args.id RefusedId
    c.bytes.result c.answer-in-None.result
    fits (c.in-None.ensures.none, refl) text c.answer-in-None.ensures.ok c.answer-in-None.ensures.err
