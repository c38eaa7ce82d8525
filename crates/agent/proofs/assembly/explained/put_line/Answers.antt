use Rattle.std.proofs.Common.{◌≡◌, ◌≤◌, ◌++◌, [], ◌∷◌, length, take, map, sym, ap, ◌∙◌, append-nil, arith, rules}
use Rattle.std.proofs.lemmas.Bool.Decides.{nat_tests}
use Rattle.std.proofs.lemmas.List.{drop_all}
use Rattle.agent.specs.Explained.{shown_byte}
use Rattle.agent.proofs.Shown.{is_explanation}
use Rattle.agent.proofs.assembly.explained.put_line.Goals as goal

pub returns : goal.returns
returns c =
    let before = c.args.out.now.items in
    let shown = take c.min.result c.args.text.now in
    let over : length shown ≤ c.loop-b.b-index = grind (arith, nat_tests) in
    let all : c.loop-b.out.items ≡ before ++ map shown_byte shown =
    sym (append-nil c.loop-b.out.items) ∙ ap (λ l. c.loop-b.out.items ++ map shown_byte l) (sym (drop_all c.loop-b.b-index shown over))
    ∙ c.loop-b.invariant.items in (
      map shown_byte shown,
      is_explanation c.min.result c.args.text.now (search rules),
      c.end.ensures ∙ ap (λ l. l ++ 10 ∷ []) all,
    )
