use Rattle.std.proofs.Common.{[], ◌∷◌, refl, sym, ◌∙◌, subst}
use Rattle.std.proofs.lemmas.Result.{err_from_is_err_and}
use Rattle.std.specs.Io.KnownBytes.{Appends}
use Rattle.console.specs.Commands.{Reads, SpellsCommand}
use Rattle.console.proofs.Clips.{reads_clip}
use Rattle.console.proofs.CallsMade.{one_waits}
use Rattle.console.proofs.Exchanges.{answers_none, answers_line, fails_line, so_far_waits, so_far_open}
use Rattle.console.proofs.conversation.answer_waiting.Goals as goal

pub returns-in_err-write_line-clause-err : goal.returns-in_err-write_line-clause-err
returns-in_err-write_line-clause-err g c =
    let p = err_from_is_err_and c.from_residual.result c.from_residual.ensures.1 in
    let q = c.in-Some.ensures.some in
    let r = c.in_err-write_line.ensures.err in
    rw p.1 (λ line l e.
    let a = c.perform.ensures line l (reads_clip line c.in-Some.command (subst (λ x. Reads (SpellsCommand x) c.in-Some.command) e q.1)) in
    fails_line g.A.Answerer.protocol _ _ line _ _ r.0 r.1 _ _ (so_far_waits line _ q.0) a (sym c.deref.ensures.0 ∙ r.2) r.3 r.4)

pub returns-in_ok-write_line-clause-ok : goal.returns-in_ok-write_line-clause-ok
returns-in_ok-write_line-clause-ok g c = λ line l e.
    let q = c.in-Some.ensures.some in
    let a = c.perform.ensures line l (reads_clip line c.in-Some.command (subst (λ x. Reads (SpellsCommand x) c.in-Some.command) e q.1)) in
    let w = subst (λ x. Appends (g.L.Link.contents c.args.link.now c.args.writer.now) (g.L.Link.contents c.write_line.new.self c.write_line.new.writer) x) c.deref.ensures.0
    c.in_ok-write_line.ensures.ok in
    answers_line g.A.Answerer.protocol _ _ line _ _ _ _ _ (so_far_waits line _ q.0) a w q.2

pub returns-in_default-clause-ok : goal.returns-in_default-clause-ok
returns-in_default-clause-ok g c = λ line l e.
    let q = c.in_default.ensures.none in
    rw (q.1, so_far_open line c.args.console.now.waits q.0)
    (answers_none g.A.Answerer.protocol (g.A.Answerer.state c.args.answerer.now) line (g.L.Link.contents c.args.link.now c.args.writer.now) c.args.console.now l e q.0)

pub returns-in_ok-write_line-clause-calls : goal.returns-in_ok-write_line-clause-calls
returns-in_ok-write_line-clause-calls g c = (_ ∷ [], one_waits _ c.in-Some.ensures.some.0, (_, _, c.in_ok-write_line.ensures.written, (refl, refl)))
