use Rattle.std.proofs.lemmas.List.Elements.{All-drop, All-take}
use Rattle.ship_service.specs.Conversed.{IsUnused}
use Rattle.ship_service.proofs.threads.parted.Goals as goal

pub returns-clause-first : goal.returns-clause-first
returns-clause-first g c = rw c.in_ok-others.ensures.items (All-take (λ c'. IsUnused g.K.TableName.table g.F.FarStore.RETURNS g.K.TableName.opening c'.session.seat)
    c.min-most.result c.args.connections.items c.requires)

pub returns-clause-others : goal.returns-clause-others
returns-clause-others g c = rw c.in_ok-others.ensures.tail (All-drop (λ c'. IsUnused g.K.TableName.table g.F.FarStore.RETURNS g.K.TableName.opening c'.session.seat)
    c.min-most.result c.args.connections.items c.requires)
