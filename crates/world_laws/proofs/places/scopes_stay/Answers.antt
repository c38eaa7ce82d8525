use Rattle.world_laws.proofs.Scoping.{scopes_stay}
use Rattle.world_laws.proofs.places.scopes_stay.Goals as goal

pub returns : goal.returns
returns c = scopes_stay
