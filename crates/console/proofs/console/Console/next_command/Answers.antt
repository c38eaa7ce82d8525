use Rattle.console.proofs.console.Console.next_command.Goals as goal
use Rattle.std.proofs.lemmas.List.{take_all}

pub returns-then-not-self-clause-line : goal.returns-then-not-self-clause-line
returns-then-not-self-clause-line c = rw (← c.self.view_is) (c.self.invariant.0, take_all 70001 _ c.self.invariant.1)

pub returns-clause-line : goal.returns-clause-line
returns-clause-line c = rw (← c.self.view_is) (c.self.invariant.0, take_all 70001 _ c.self.invariant.1)
