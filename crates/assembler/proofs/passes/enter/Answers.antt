use Rattle.std.proofs.Common.{sym, ap, ◌∙◌, Some}
use Rattle.asm_grammar.specs.Views.{look_in, label_seen}
use Rattle.assembler.specs.Passes.{with_label}
use Rattle.assembler.proofs.Steps.{entered, below_after}
use Rattle.assembler.proofs.passes.enter.Goals as goal

pub returns-in-Ok-clause-labels : goal.returns-in-Ok-clause-labels
returns-in-Ok-clause-labels c =
    entered c.in-Some.name.now c.args.labels.now c.insert.new.self c.args.n c.in-Ok.ensures.updates
    ∙ ap (λ l. with_label (look_in c.args.labels.now) (label_seen l) c.args.n) (sym c.in-Some.is)

pub returns-in-Ok-clause-slots : goal.returns-in-Ok-clause-slots
returns-in-Ok-clause-slots c =
    below_after (look_in c.args.labels.now) (look_in c.insert.new.self) (Some c.in-Some.name.now) c.args.n
    (entered c.in-Some.name.now c.args.labels.now c.insert.new.self c.args.n c.in-Ok.ensures.updates) c.requires.n c.requires.slots
