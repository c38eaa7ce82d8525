use Rattle.std.proofs.Common.{rules, arith, ◌≡◌, ◌∙◌, ◌++◌, ◌<◌, length, ap, sym, get_or, length-append}
use Rattle.far_stream.specs.Frames.{head, forget_kind}
use Rattle.far_stream.proofs.Bytes.{length-head}
use Rattle.far_stream.proofs.Deferred.{frames_next}
use Rattle.far_stream.proofs.forgets.Forgets.frames.Goals as goal

pub loop-id-preserved : goal.loop-id-preserved
loop-id-preserved c =
    let i = c.loop-id.id-index in
    let ids = c.as_slice-id-items.result.now in
    let old = c.loop-id.frames.items in
    let one = head forget_kind (get_or ids i 0) 0 in
    let within : i < length ids = search rules in
    let text : c.put.new.self.items ≡ old ++ one = search rules in
    let len = length-head forget_kind (get_or ids i 0) 0 in (
      text ∙ ap (λ l. l ++ one) c.loop-id.invariant.0 ∙ sym (frames_next ids i within),
      omega (arith, ap length text, length-append old one, len, c.loop-id.invariant.1),
    )
