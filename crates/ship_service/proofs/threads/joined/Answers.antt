use Rattle.std.proofs.Common.{length, ap, arith}
use Rattle.std.proofs.lemmas.List.{length_push}
use Rattle.std.proofs.lemmas.List.Elements.{All-push}
use Rattle.ship_service.specs.Conversed.{HadOneClient}
use Rattle.ship_service.proofs.threads.joined.Goals as goal

pub loop-conversation-preserved : goal.loop-conversation-preserved
loop-conversation-preserved g c =
    let i = c.loop-conversation.invariant in let counted = i.0 in let one = ap length c.in_ok-push.ensures.items in (
      omega (arith, counted, one, length_push c.loop-conversation.ended.items c.join.result, length_push c.loop-conversation.yielded c.in-Some.conversation),
      rw c.in_ok-push.ensures.items (All-push (λ c'. HadOneClient g.K.TableName.table g.F.FarStore.RETURNS g.K.TableName.opening g.K.TableName.passed c'.session.seat)
          c.loop-conversation.ended.items c.join.result i.1 c.join.ensures),
    )
