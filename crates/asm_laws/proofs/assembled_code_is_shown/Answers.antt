use Rattle.asm_laws.proofs.Taken.{shown_of}
use Rattle.asm_laws.proofs.assembled_code_is_shown.Goals as goal

pub returns : goal.returns
returns c = shown_of
