use Rattle.console.specs.Held.{held_bytes}
use Rattle.console.proofs.Gathers.{calls_grow, short_of, short_by_write, answers_whole}
use Rattle.console.proofs.conversation.converse_gathering.Goals as goal

pub returns-in_default-clause-write : goal.returns-in_default-clause-write
returns-in_default-clause-write g c = λ _.
    let o = c.converse_over-outcome.ensures in
    let s = c.in_default.ensures.sends in
    short_of g.A.Answerer.protocol _ _ (g.R.Read.remaining c.args.reader.now) (held_bytes c.args.console.now) _ _ _ _ _ _ _ _
    c.new-gathering.ensures s.1 s.2 c.converse_over-outcome.result _ (calls_grow g.W.Write.contents o.calls.0 _ _ _ _ o.calls.1) c.in_default.ensures.err o.ok o.read o.write

pub returns-clause-ok : goal.returns-clause-ok
returns-clause-ok g c =
    let o = c.converse_over-outcome.ensures in
    let s = c.in-Ok.ensures.sends in
    answers_whole g.A.Answerer.protocol _ _ (g.R.Read.remaining c.args.reader.now) (held_bytes c.args.console.now) _ _ _ _ _ _ _ (g.R.Read.remaining c.args.reader.now)
    c.new-gathering.ensures s.1 s.2 c.in-Ok.ensures.ok c.converse_over-outcome.result o.ok

pub returns-clause-write : goal.returns-clause-write
returns-clause-write g c = λ e.
    let o = c.converse_over-outcome.ensures in
    let s = c.in-Ok.ensures.sends in
    short_by_write g.A.Answerer.protocol _ _ (g.R.Read.remaining c.args.reader.now) (held_bytes c.args.console.now) _ _ _ _ _ _ _ _
    c.new-gathering.ensures s.1 s.2 (calls_grow g.W.Write.contents o.calls.0 _ _ _ _ o.calls.1) (o.write e)
