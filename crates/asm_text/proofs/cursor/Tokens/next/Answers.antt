use Rattle.std.proofs.Common.{arith, refl, ◌≡◌, ◌+◌, ◌-◌, [], ◌∷◌, length, drop, take, sym, ap, ◌∙◌, cond}
use Rattle.std.proofs.lemmas.Bool.Decides.{nat_tests}
use Rattle.std.proofs.lemmas.List.{drop_all}
use Rattle.asm_text.specs.Tokens.{tokens}
use Rattle.asm_text.specs.Tokens.Lexeme.{Stray}
use Rattle.asm_text.proofs.Scanned.{ends_comment, ends_next, left_none, left_comment, left_next, place_next, start_is}
use Rattle.asm_text.proofs.Digits.{word_at}
use Rattle.asm_text.proofs.cursor.Tokens.next.Goals as goal

pub returns-then-is_empty-clause-tokens : goal.returns-then-is_empty-clause-tokens
returns-then-is_empty-clause-tokens c =
    let e : length (take (length c.args.self.now.line.now - (c.args.self.now.at + c.run.result))
    (drop (c.args.self.now.at + c.run.result) c.args.self.now.line.now)) ≡ 0 = grind (arith, nat_tests) in
    left_none _ _ c.run.result c.run.ensures.run e

pub returns-then-is_clean-clause-tokens : goal.returns-then-is_clean-clause-tokens
returns-then-is_clean-clause-tokens c =
    left_comment _ _ c.run.result c.run.ensures.run (grind (arith, nat_tests)) (sym c.begins_comment.ensures ∙ c.if-begins_comment.true)
    ∙ ap (λ b. cond b [] (Stray ∷ [])) (sym c.is_clean.ensures ∙ c.if-is_clean.true)

pub returns-then-begins_comment-clause-tokens : goal.returns-then-begins_comment-clause-tokens
returns-then-begins_comment-clause-tokens c =
    left_comment _ _ c.run.result c.run.ensures.run (grind (arith, nat_tests)) (sym c.begins_comment.ensures ∙ c.if-begins_comment.true)
    ∙ ap (λ b. cond b [] (Stray ∷ [])) (sym c.is_clean.ensures ∙ c.if-is_clean.false)
    ∙ ap (λ l. Stray ∷ tokens l) (sym (drop_all (length c.args.self.now.line.now) c.args.self.now.line.now (omega arith)))

pub token-requires : goal.token-requires
token-requires c = word_at _ _ (grind (arith, nat_tests)) c.word_length-length.ensures.length

pub returns-clause-tokens : goal.returns-clause-tokens
returns-clause-tokens c =
    left_next _ _ c.run.result c.run.ensures.run c.word_length-length.result (grind (arith, nat_tests)) (sym c.begins_comment.ensures
    ∙ c.if-begins_comment.false) c.word_length-length.ensures.length c.word_length-length.ensures.some
    ∙ ap (λ t. t ∷ tokens (drop (c.args.self.now.at + c.run.result + c.word_length-length.result) c.args.self.now.line.now)) (sym c.token.ensures)

pub invariant_of-self-clause-whole : goal.invariant_of-self-clause-whole
invariant_of-self-clause-whole c =
    place_next _ _ _ c.args.self.now.whole (ends_comment _ _ c.run.result c.run.ensures.run (grind (arith, nat_tests)) (sym c.begins_comment.ensures
    ∙ c.if-begins_comment.true))

pub returns-then-begins_comment-clause-whole : goal.returns-then-begins_comment-clause-whole
returns-then-begins_comment-clause-whole c = (
  c.args.self.now.at,
  c.args.self.now.whole,
  refl,
  start_is _ _ _ c.run.ensures.run,
  ends_comment _ _ c.run.result c.run.ensures.run (grind (arith, nat_tests)) (sym c.begins_comment.ensures ∙ c.if-begins_comment.true),
)

pub invariant_of-self-2-clause-whole : goal.invariant_of-self-2-clause-whole
invariant_of-self-2-clause-whole c =
    place_next _ _ _ c.args.self.now.whole (ends_next _ _ c.run.result c.run.ensures.run c.word_length-length.result (grind (
      arith,
      nat_tests,
    )) (sym c.begins_comment.ensures ∙ c.if-begins_comment.false) c.word_length-length.ensures.length)

pub returns-clause-whole : goal.returns-clause-whole
returns-clause-whole c = (
  c.args.self.now.at,
  c.args.self.now.whole,
  refl,
  start_is _ _ _ c.run.ensures.run,
  ends_next _ _ c.run.result c.run.ensures.run c.word_length-length.result (grind (arith, nat_tests)) (sym c.begins_comment.ensures
      ∙ c.if-begins_comment.false) c.word_length-length.ensures.length,
)
