use Rattle.debugger.proofs.Sets.{breaks_begin}
use Rattle.debugger.proofs.laws.breaks_stay_at_instructions.Goals as goal

pub returns : goal.returns
returns c = breaks_begin
