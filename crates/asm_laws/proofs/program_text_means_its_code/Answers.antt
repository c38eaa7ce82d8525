use Rattle.std.proofs.Common.{ap, ◌∙◌}
use Rattle.loader.proofs.Positions.{one_code}
use Rattle.asm_table.specs.Canonical.{text_of}
use Rattle.assembler.specs.Passes.{meaning}
use Rattle.assembler.proofs.Again.{canonical_spells}
use Rattle.disassembler.proofs.Fitting.{all_fit_parts}
use Rattle.asm_laws.proofs.Fitted.{few_slots}
use Rattle.asm_laws.proofs.program_text_means_its_code.Goals as goal

pub returns : goal.returns
returns c = λ bytes text code t is.
    ap meaning t.2 ∙ ap (λ l. meaning (text_of l)) (one_code bytes t.0 code t.1 is)
    ∙ canonical_spells code (all_fit_parts code is.fits) (few_slots bytes code is)
