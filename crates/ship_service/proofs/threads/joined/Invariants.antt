use Rattle.std.proofs.Common.{◌≡◌, length, All}
use Rattle.ship_service.specs.Conversed.{HadOneClient}
use Rattle.ship_service.proofs.threads.joined.Given as goal

abbrev pub invariant-loop-conversation : goal.invariant-loop-conversation
invariant-loop-conversation g l = (length l.ended.items ≡ length l.yielded)
    × All (λ c. HadOneClient g.K.TableName.table g.F.FarStore.RETURNS g.K.TableName.opening g.K.TableName.passed c.session.seat) l.ended.items
