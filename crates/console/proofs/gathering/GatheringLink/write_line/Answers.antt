use Rattle.std.proofs.Common.{◌∙◌, sym}
use Rattle.std.proofs.lemmas.Result.{err_from_is_err_and}
use Rattle.std.proofs.KnownBytes.{append_known-moved}
use Rattle.console.proofs.Gathers.{appends_none, grown_ok, grown_err}
use Rattle.console.proofs.gathering.GatheringLink.write_line.Goals as goal

pub returns-in_err-send-clause-err : goal.returns-in_err-send-clause-err
returns-in_err-send-clause-err g c =
    let x = err_from_is_err_and c.from_residual.result c.from_residual.ensures.1 in
    let a = c.add.ensures in
    let s = c.in_err-send.ensures.sends in
    rw x.1 (appends_none _ _ _ (append_known-moved _ _ _ _ _ s.2 (sym (a.same c.if-add.false) ∙ s.1)) (a.some c.if-add.false))

pub returns-clause-written : goal.returns-clause-written
returns-clause-written g c = grown_ok c.put_all.result _ _ _ c.send.ensures.sends.0 _ c.send.ensures.sends.2 c.put_all.ensures.ok

pub returns-clause-broken : goal.returns-clause-broken
returns-clause-broken g c = grown_err c.put_all.result _ _ _ c.send.ensures.sends.0 _ c.send.ensures.sends.2 c.put_all.ensures.err
