use Rattle.std.proofs.Common.{◌∙◌, rules}
use Rattle.agent.proofs.Encoded.{character_128}
use Rattle.agent.proofs.assembly.assembling.char_of.Goals as goal

pub returns-else-byte-lt128 : goal.returns-else-byte-lt128
returns-else-byte-lt128 c = character_128 ∙ search rules
