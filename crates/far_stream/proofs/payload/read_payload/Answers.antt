use Rattle.std.proofs.Common.{rules, arith, ◌≡◌, ◌<◌, ◌≤◌, ◌+◌, ◌-◌, ◌∙◌, length, take, subst, length-take-le}
use Rattle.std.proofs.lemmas.List.{take_all}
use Rattle.std.specs.Io.KnownBytes.{Consumes}
use Rattle.far_stream.proofs.Filling.{filled, front_of_grown}
use Rattle.far_stream.proofs.payload.read_payload.Goals as goal

pub returns-in-Ok-fill-clause-ok : goal.returns-in-Ok-fill-clause-ok
returns-in-Ok-fill-clause-ok g c =
    let start = c.len-start.result in
    let held = c.deref_mut.result.now in
    let buffer = c.fill.new.buffer in
    let start_is : start ≡ length c.args.to.now.items = search rules in
    let len : length buffer ≡ c.args.count = search rules in
    let most : length buffer ≤ c.in-Ok-fill.n = search rules in
    let room : c.lengthen.new.bytes.len ≡ start + length buffer = search rules in
    let within : start ≤ length held = search rules in
    let front = front_of_grown start (start + c.args.count) c.args.to.now.items _ held (c.deref_mut.ensures.value
    ∙ c.in-Ok.ensures.items) start_is (omega arith) in (
      buffer,
      len,
      subst (Consumes _ _) (take_all c.in-Ok-fill.n buffer most) c.in-Ok-fill.ensures.came,
      filled start c.lengthen.new.bytes.len (length held - start) held c.args.to.now.items _ buffer within room front,
    )

pub returns-in-Ok-2-clause-err : goal.returns-in-Ok-2-clause-err
returns-in-Ok-2-clause-err g c =
    let n = c.in-Ok-2.field-0 in
    let buffer = c.fill.new.buffer in
    let fewer : n < c.args.count = search rules in
    let short : n < length buffer = search rules in
    ((take n buffer, omega (arith, length-take-le n buffer c.in-Ok-2.ensures.most, fewer), c.in-Ok-2.ensures.came), c.in-Ok-2.ensures.end short)
