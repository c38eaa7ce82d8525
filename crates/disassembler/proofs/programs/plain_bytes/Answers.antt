use Rattle.std.proofs.lemmas.Result.{IfOk-weaker}
use Rattle.disassembler.proofs.Walked.{plain_text}
use Rattle.disassembler.proofs.programs.plain_bytes.Goals as goal

pub returns : goal.returns
returns c = IfOk-weaker c.spelled_lines.result _ _ (λ t s. plain_text c.args.program.now t.items s) c.spelled_lines.ensures
