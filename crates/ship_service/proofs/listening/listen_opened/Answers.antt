use Rattle.scopes.specs.Windows.{machine_limit}
use Rattle.std.proofs.Common.{◌+◌}
use Rattle.ship_service.proofs.Conversed.{fresh_are_unused}
use Rattle.ship_service.proofs.Saying.{says_after}
use Rattle.ship_service.proofs.listening.listen_opened.Goals as goal

pub serve_all-requires-clause-unused : goal.serve_all-requires-clause-unused
serve_all-requires-clause-unused g c κs within =
    fresh_are_unused g.K.TableName.table g.F.FarStore.RETURNS g.K.TableName.opening (λ x. x.session.seat) (machine_limit + 1) _ c.in_ok-agent.ensures.seats

pub returns-clause-says : goal.returns-clause-says
returns-clause-says g c = says_after _ c.args.name.now.items _ (g.W.Write.contents c.announce_at.new.writer) _ c.close.result c.in_ok-announce_at.ensures.ok c.close.ensures
