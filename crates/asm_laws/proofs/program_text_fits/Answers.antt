use Rattle.asm_laws.proofs.Fitted.{text_fits}
use Rattle.asm_laws.proofs.program_text_fits.Goals as goal

pub returns : goal.returns
returns c = text_fits
