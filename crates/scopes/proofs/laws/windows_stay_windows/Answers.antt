use Rattle.scopes.proofs.Staying.{stays}
use Rattle.scopes.proofs.laws.windows_stay_windows.Goals as goal

pub returns : goal.returns
returns c = stays
