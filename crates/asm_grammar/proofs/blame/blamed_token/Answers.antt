use Rattle.std.proofs.Common.{◌≡◌, List, [], ◌∷◌, ℕ, subst, sym, ◌∙◌}
use Rattle.asm_text.specs.Tokens.{Lexeme, IsFirstOf, lexeme_seen, lexemes_left}
use Rattle.asm_grammar.proofs.blame.blamed_token.Goals as goal

pub returns-clause-token : goal.returns-clause-token
returns-clause-token c =
    let e = c.find-rest.ensures in
    subst (λ (ts : List Lexeme). IsFirstOf ts c.args.line.now c.in_ok-found.found.start c.in_ok-found.found.end) e.tokens
    (subst (λ (line : List ℕ). IsFirstOf (lexemes_left c.find-rest.result) line c.in_ok-found.found.start c.in_ok-found.found.end)
    e.line c.in_ok-found.ensures.whole)

pub returns-clause-some : goal.returns-clause-some
returns-clause-some c = λ none.
    let e : lexeme_seen c.in_ok-found.found.token ∷ lexemes_left c.next.new.self ≡ [] = sym c.in_ok-found.ensures.tokens ∙ c.find-rest.ensures.tokens ∙ none in
    cc
