use Rattle.std.proofs.Common.{rules}
use Rattle.world.specs.declared.replies.Reply.TheVariants.{Bytes}
use Rattle.console.proofs.answerer.print_get_through.Goals as goal

pub returns-in-Ok : goal.returns-in-Ok
returns-in-Ok g c = (Bytes c.read.new.into, search rules, c.print_bytes.ensures)
