use Rattle.std.proofs.Common.{length, ◌≡◌, ◌∙◌, rules, arith}
use Rattle.console.proofs.LineTokens.{hex_empty}
use Rattle.console.proofs.commands.decode.Goals as goal

pub returns-then-is_empty-clause-ok : goal.returns-then-is_empty-clause-ok
returns-then-is_empty-clause-ok c =
    let none : length c.args.text.now ≡ 0 = search (rules, arith) in
    let e = c.new-then-is_empty.ensures ∙ c.new.ensures.items in
    rw e (hex_empty c.args.text.now c.requires.0 none c.requires.1)
