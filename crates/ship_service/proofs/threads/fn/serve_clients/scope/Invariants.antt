use Rattle.std.proofs.Common.{◌≡◌, ◌+◌, length, All}
use Rattle.std.specs.Vec.Iter.{into_iter_items}
use Rattle.ship_service.specs.Conversed.{IsUnused}
use Rattle.ship_service.proofs.threads.fn.serve_clients.scope.Given as goal

abbrev pub invariant-clients : goal.invariant-clients
invariant-clients g l = All (λ c. IsUnused g.K.TableName.table g.F.FarStore.RETURNS g.K.TableName.opening c.session.seat) (into_iter_items l.left)
    × (length l.conversations.items + length (into_iter_items l.left) ≡ l.count)

abbrev pub decreases-clients : goal.decreases-clients
decreases-clients g l = length (into_iter_items l.left)
