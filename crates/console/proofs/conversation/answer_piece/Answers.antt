use Rattle.std.proofs.Common.{ℕ, List, [], ◌∷◌, ◌++◌, ◌≡◌, take, drop, sym, ap, ◌∙◌, refl, subst, append_assoc, append-nil, take-append-drop, length, ◌-◌, ◌<◌}
use Rattle.std.proofs.Common.{arith, rules, length-append, length-drop, map}
use Rattle.std.proofs.lemmas.List.{take_rest}
use Rattle.std.proofs.lemmas.Result.{err_from_is_err_and}
use Rattle.console.specs.Conversations.{FailsInReply}
use Rattle.console.specs.StreamCalls.StreamCall.{LineWritten, LineBroken}
use Rattle.console.proofs.CallsMade.{calls_append, written_append, fed_ends, more_replies, fewer_replies, one_waits}
use Rattle.console.proofs.Exchanges.{answers_none, answers_fed, fails_fed, fails_more}
use Rattle.console.proofs.conversation.answer_piece.Goals as goal

-- the part that is taken goes over
moved : (seen rest piece : List ℕ) (n : ℕ) → piece ≡ seen ++ rest → piece ≡ (seen ++ take n rest) ++ take (length rest - n) (drop n rest)
moved seen rest piece n e =
    e ∙ ap (λ l. seen ++ l) (sym (take-append-drop n rest)) ∙ sym (append_assoc seen (take n rest) (drop n rest))
    ∙ ap (λ l. seen ++ take n rest ++ l) (sym (take_rest rest n))

whole : (line seen rest piece : List ℕ) (n : ℕ) → piece ≡ seen ++ rest → (line ++ seen) ++ take n rest ++ drop n rest ≡ line ++ piece
whole line seen rest piece n e =
    append_assoc (line ++ seen) (take n rest) (drop n rest) ∙ ap (λ l. (line ++ seen) ++ l) (take-append-drop n rest)
    ∙ append_assoc line seen rest ∙ ap (λ l. line ++ l) (sym e)

-- what is left after some of it is taken is shorter than the whole
shorter : (seen rest piece : List ℕ) (n : ℕ) → piece ≡ seen ++ rest → 0 < n → 0 < length rest → length (drop n rest) < length piece
shorter seen rest piece n e some more =
    let a = ap length e in
    let b = length-append seen rest in
    let d = length-drop n rest in
    omega (arith, a, b, d, some, more)

pub loop-rest-init : goal.loop-rest-init
loop-rest-init g c = record {
  open_line = c.requires;
  answers = ([], refl, λ line l e. rw append-nil (answers_none g.A.Answerer.protocol _ line _ _ l e c.requires), [], refl, (refl, refl));
}

pub loop-rest-preserved : goal.loop-rest-preserved
loop-rest-preserved g c =
    let i = c.loop-rest.invariant in
    let n = c.feed-taken.result in
    let rest = c.loop-rest.rest.now in
    let a = c.in_ok-answer_waiting.ensures in
    record {
      open_line = a.open;
      answers = (
        i.answers.0 ++ take n rest,
        moved i.answers.0 rest _ n i.answers.1,
        λ line l e. rw (← append_assoc line i.answers.0 (take n rest))
            (answers_fed g.A.Answerer.protocol _ _ _ _ rest _ _ _ _ _ n _ (i.answers.2 line l e) (c.feed-taken.ensures.feeds i.open_line) a.ok),
        i.answers.3 ++ a.calls.0,
        more_replies i.answers.3 a.calls.0 i.answers.0 (take n rest) i.answers.4 (a.calls.1
            ∙ sym (fed_ends _ rest n _ (c.feed-taken.ensures.feeds i.open_line))),
        written_append g.L.Link.called i.answers.3 a.calls.0 _ _ _ _ _ _ i.answers.5 a.calls.2,
      );
    }

pub returns-in_err-answer_waiting-clause-err : goal.returns-in_err-answer_waiting-clause-err
returns-in_err-answer_waiting-clause-err g c =
    let x = err_from_is_err_and c.from_residual.result c.from_residual.ensures.1 in
    let i = c.loop-rest.invariant in
    let n = c.feed-taken.result in
    let rest = c.loop-rest.rest.now in
    let more : 0 < length rest = search (rules, arith) in
    rw x.1 (λ line l e. (
      drop n rest,
      shorter i.answers.0 rest _ n i.answers.1 (c.feed-taken.ensures.progress i.open_line more) more,
      subst (λ y. FailsInReply g.A.Answerer.protocol (drop n rest) (g.A.Answerer.state c.args.answerer.now) y (g.L.Link.contents c.args.link.now c.args.writer.now)
          (g.L.Link.contents c.answer_waiting.new.link c.answer_waiting.new.writer) (g.A.Answerer.state c.answer_waiting.new.answerer))
          (whole line i.answers.0 rest _ n i.answers.1)
          (fails_more g.A.Answerer.protocol [] _ _ _ (drop n rest) _ _
          (fails_fed g.A.Answerer.protocol _ _ _ _ rest _ _ _ _ _ n (i.answers.2 line l e) (c.feed-taken.ensures.feeds i.open_line)
          c.in_err-answer_waiting.ensures.err)),
    ))

pub returns-in_err-answer_waiting-clause-broken : goal.returns-in_err-answer_waiting-clause-broken
returns-in_err-answer_waiting-clause-broken g c =
    let x = err_from_is_err_and c.from_residual.result c.from_residual.ensures.1 in
    let i = c.loop-rest.invariant in
    let n = c.feed-taken.result in
    let rest = c.loop-rest.rest.now in
    let b = c.in_err-answer_waiting.ensures.broken in
    rw x.1 (
      i.answers.3,
      fewer_replies i.answers.3 i.answers.0 (take n rest) _ _ (moved i.answers.0 rest _ n i.answers.1) i.answers.4 (one_waits _ b.0
          ∙ sym (fed_ends _ rest n _ (c.feed-taken.ensures.feeds i.open_line))),
      b.1,
      calls_append g.L.Link.called (map LineWritten i.answers.3) (LineBroken b.1 ∷ []) _ _ _ _ _ _ i.answers.5 b.2,
    )
