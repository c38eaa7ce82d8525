use Rattle.std.proofs.Common.{◌∙◌, ap, sym, ◌+◌, ℕ}
use Rattle.loader.proofs.Complaints.{writes_it, calls_missing, falls_off}
use Rattle.loader.proofs.checks.complaint.Goals as goal

pub returns-in-Some : goal.returns-in-Some
returns-in-Some c = λ code after e last. rw c.in-Some.is at (c.jump_complaint.ensures code after e)

pub returns-then-writes_frame_pointer : goal.returns-then-writes_frame_pointer
returns-then-writes_frame_pointer c = λ code after e last.
    writes_it code _ _ after (rw c.in_default.is at (c.jump_complaint.ensures code after e)) (sym c.writes_frame_pointer.ensures
    ∙ c.if-writes_frame_pointer.true)

pub returns-then-calls_missing_helper : goal.returns-then-calls_missing_helper
returns-then-calls_missing_helper c = λ code after e last.
    let leads = rw c.in_default.is at (c.jump_complaint.ensures code after e) in
    calls_missing code _ _ after leads (sym c.writes_frame_pointer.ensures ∙ c.if-writes_frame_pointer.false) (sym c.calls_missing_helper.ensures
    ∙ c.if-calls_missing_helper.true)

pub returns-then-not-never_goes_on : goal.returns-then-not-never_goes_on
returns-then-not-never_goes_on c = λ code after e last.
    let leads = rw c.in_default.is at (c.jump_complaint.ensures code after e) in
    falls_off code _ _ after leads (sym c.writes_frame_pointer.ensures ∙ c.if-writes_frame_pointer.false) (sym c.calls_missing_helper.ensures
    ∙ c.if-calls_missing_helper.false) (last.1 (ap (λ (n : ℕ). c.args.slot + n) (sym c.slots_of.ensures) ∙ c.if-slot-slots_of.true))
    (sym c.never_goes_on.ensures ∙ c.if-not-never_goes_on.true)
