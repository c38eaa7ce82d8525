use Rattle.std.proofs.Common.{ap, ◌∙◌}
use Rattle.std.proofs.lemmas.List.{take_rest}
use Rattle.console.specs.Tokens.{left_of, tokens_of}
use Rattle.console.proofs.LineTokens.{tokens_at, tokens_whole}
use Rattle.console.proofs.tokens.Tokens.next.Goals as goal

pub returns-in-Some : goal.returns-in-Some
returns-in-Some c =
    let f = c.in-Some.ensures.found in
    ap left_of c.in_ok-rest.was ∙ ap tokens_of f.1 ∙ rw take_rest (tokens_at _ _ f.2)

pub returns-in-None : goal.returns-in-None
returns-in-None c = ap left_of c.in_ok-rest.was ∙ tokens_whole _ c.in-None.ensures.none
