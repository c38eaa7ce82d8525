use Rattle.asm_text.proofs.Spelled.{hex_same}
use Rattle.asm_text.proofs.laws.hex_case_doesnt_matter.Goals as goal

pub returns : goal.returns
returns c = hex_same
