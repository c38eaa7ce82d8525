use Rattle.std.proofs.Common.{inr}
use Rattle.ship_service.proofs.threads.serve_client.Goals as goal

pub returns : goal.returns
returns g c = ∣ inr (c.args.unused.session.seat, c.requires, c.serve-outcome.ensures.conversed) ∣₁
