use Rattle.console.proofs.Finding.{found, missing}
use Rattle.console.proofs.tokens.find.Goals as goal

pub returns-clause-found : goal.returns-clause-found
returns-clause-found c = found c.args.byte c.args.text.now c.memchr.result c.memchr.ensures

pub returns-clause-none : goal.returns-clause-none
returns-clause-none c = missing c.args.byte c.args.text.now c.memchr.result c.memchr.ensures
