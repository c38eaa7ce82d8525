use Rattle.std.proofs.Common.{rules, ◌<◌, length}
use Rattle.std.proofs.lemmas.Result.{err_from_is_err_and}
use Rattle.far_stream.proofs.Deferred.{hears_next, hears_last}
use Rattle.far_stream.proofs.forgets.hear_all.Goals as goal

pub returns-in_err-read_forgotten : goal.returns-in_err-read_forgotten
returns-in_err-read_forgotten g c =
    let i = c.loop-id.id-index in
    let ids = c.args.ids.now in
    let within : i < length ids = search rules in
    let p = err_from_is_err_and c.from_residual.result c.from_residual.ensures.1 in
    rw (p.1, p.2) (hears_last ids i (g.R.Read.remaining c.args.reader.now) (g.R.Read.remaining c.loop-id.reader)
    (g.R.Read.remaining c.read_forgotten.new.reader) c.in_err-read_forgotten.field-0.0 within c.loop-id.invariant c.in_err-read_forgotten.ensures)

pub loop-id-preserved : goal.loop-id-preserved
loop-id-preserved g c =
    let i = c.loop-id.id-index in
    let ids = c.args.ids.now in
    let within : i < length ids = search rules in
    hears_next ids i (g.R.Read.remaining c.args.reader.now) (g.R.Read.remaining c.loop-id.reader) (g.R.Read.remaining c.read_forgotten.new.reader) within
    c.loop-id.invariant c.in_ok-read_forgotten.ensures
