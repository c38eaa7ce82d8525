use Rattle.std.proofs.Common.{refl}
use Rattle.agent.proofs.front.show_error.Goals as goal

pub returns : goal.returns
returns g c = (_, c.some_text.ensures.some, c.say-told.ensures.some, refl)
