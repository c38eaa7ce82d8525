use Rattle.std.proofs.Common.{rules, arith, ◌≡◌, [], ◌∷◌, ◌++◌, ap, length, length-append, true, Ok}
use Rattle.std.proofs.lemmas.Result.{err_from_is_err_and}
use Rattle.std.specs.Io.KnownBytes.{Appends}
use Rattle.far_stream.proofs.Serving.{ends_unanswered, takes_whole, turns_on}
use Rattle.far_stream.proofs.server.converse.Goals as goal

pub loop-turns-preserved : goal.loop-turns-preserved
loop-turns-preserved g c =
    let i = c.loop-turns.invariant in
    let yes : c.in_ok-serve_next.field-0 ≡ true = search rules in
    let one = takes_whole g.S.Read.remaining g.S.Write.contents Appends c.loop-turns.stream c.serve_next.new.stream
    c.loop-turns.kept.items c.serve_next.new.kept.items
    (c.in_ok-serve_next.ensures.served (ap (λ b. Ok b) yes)) in (
      i.0 ++ one.0 ∷ [],
      omega (arith, length-append i.0 (one.0 ∷ []), i.1),
      turns_on g.S.Read.remaining g.S.Write.contents c.args.stream.now c.loop-turns.stream c.serve_next.new.stream [] c.loop-turns.kept.items
          c.serve_next.new.kept.items i.0 one.0 i.2 one.1,
    )

pub returns-in_err-serve_next : goal.returns-in_err-serve_next
returns-in_err-serve_next g c =
    let i = c.loop-turns.invariant in
    let p = err_from_is_err_and c.from_residual.result c.from_residual.ensures.1 in
    rw (p.1, p.2) (record {
      turns = i.0;
      kept = c.loop-turns.kept.items;
      last = c.loop-turns.stream;
      so_far = i.2;
      ends = ends_unanswered g.S.Read.remaining g.S.Write.contents (length i.0) c.loop-turns.stream c.serve_next.new.stream c.loop-turns.kept.items
          c.serve_next.new.kept.items c.in_err-serve_next.field-0.0 c.in_err-serve_next.ensures.err;
    })
