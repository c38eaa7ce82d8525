use Rattle.far_stream.proofs.Serving.{malformed}
use Rattle.far_stream.proofs.server.serve_request.Goals as goal

pub returns-in-None : goal.returns-in-None
returns-in-None g c =
    malformed g.S.Read.remaining g.S.Write.contents c.args.stream.now c.args.kept.now.items c.args.kept.now.items c.args.request.kind c.args.request.id
    c.args.request.count c.requires c.in-None.ensures.none
