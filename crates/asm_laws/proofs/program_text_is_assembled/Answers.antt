use Rattle.asm_laws.proofs.Taken.{is_assembled}
use Rattle.asm_laws.proofs.program_text_is_assembled.Goals as goal

pub returns : goal.returns
returns c = is_assembled
