use Rattle.std.proofs.lemmas.List.Elements.{All-append}
use Rattle.ship_service.specs.Conversed.{HadOneClient}
use Rattle.ship_service.proofs.Conversed.{unused_had_none}
use Rattle.ship_service.proofs.threads.Ended.and_unused.Goals as goal

pub invariant_of-result : goal.invariant_of-result
invariant_of-result g c =
    let K = g.K.TableName in let R = g.F.FarStore.RETURNS in record {
      ran = c.args.self.ran;
      clients = rw c.in_ok-append.ensures.items (All-append (λ c'. HadOneClient K.table R K.opening K.passed c'.session.seat) c.args.self.connections.items
          c.args.unused.items c.args.self.clients (unused_had_none K.table R K.opening K.passed (λ c'. c'.session.seat) c.args.unused.items c.requires));
    }
