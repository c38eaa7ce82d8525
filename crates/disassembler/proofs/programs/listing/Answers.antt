use Rattle.std.proofs.lemmas.Result.{IfOk-weaker}
use Rattle.disassembler.proofs.Walked.{shown}
use Rattle.disassembler.proofs.programs.listing.Goals as goal

pub returns : goal.returns
returns c = IfOk-weaker c.spelled_lines.result _ _ (λ t s. shown c.args.has_slots c.args.program.now t.items s) c.spelled_lines.ensures
