use Rattle.std.proofs.Common.{arith, ◌∙◌, ◌++◌, ap, sym, subst, length}
use Rattle.std.specs.Io.KnownBytes.{Consumes}
use Rattle.far_stream.proofs.Parcels.{answer_is_frame, payload_of_answer}
use Rattle.far_stream.proofs.keeping.Kept.read.Goals as goal

pub read_payload-requires : goal.read_payload-requires
read_payload-requires g c = omega (arith, c.in-Ok.ensures.len)

pub invariant_of-result : goal.invariant_of-result
invariant_of-result g c =
    let p = c.in_ok-read_payload.ensures.ok in
    answer_is_frame c.read_payload.new.to.items p.0 c.args.id c.args.count (p.3 ∙ ap (λ l. l ++ p.0) c.in-Ok.ensures.head) p.1

pub returns-clause-count : goal.returns-clause-count
returns-clause-count g c =
    let p = c.in_ok-read_payload.ensures.ok in
    ap length (payload_of_answer c.read_payload.new.to.items p.0 c.args.id c.args.count (p.3 ∙ ap (λ l. l ++ p.0) c.in-Ok.ensures.head)) ∙ p.1

pub returns-clause-bytes : goal.returns-clause-bytes
returns-clause-bytes g c =
    let p = c.in_ok-read_payload.ensures.ok in
    subst (Consumes _ _) (sym (payload_of_answer c.read_payload.new.to.items p.0 c.args.id c.args.count (p.3 ∙ ap (λ l. l ++ p.0) c.in-Ok.ensures.head))) p.2
