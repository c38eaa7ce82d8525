use Rattle.std.proofs.Common.{arith, ap, subst, sym, ◌∙◌, refl, ◌≡◌, ℕ, List, length}
use Rattle.memory.specs.Access.{IsInside}
use Rattle.memory.specs.Objects.{bytes_of}
use Rattle.memory.specs.declared.deeds.Deed.TheVariants.{Accesses}
use Rattle.memory.specs.declared.deeds.Given.TheVariants.{Number}
use Rattle.shared_objects.proofs.Acting.{denied_seat, done_seat, reaches_some}
use Rattle.shared_objects.proofs.table.SharedTable.touch.Goals as goal

pub invariant_of-actor : goal.invariant_of-actor
invariant_of-actor c = denied_seat c.args.self.now c.args.actor.now c.requires c.args.number
    (c.length.ensures.object (let i : IsInside c.args.op.now c.length.result = c.if-not-is_inside.ensures.inside.0 refl in
    omega (arith, reaches_some c.args.op.now))) c.begin.new.seat.me c.begin.new.window c.in-Err.denied c.in-Err.ensures.begins

pub invariant_of-actor-in-Ok : goal.invariant_of-actor-in-Ok
invariant_of-actor-in-Ok c = done_seat (Accesses c.args.op.now) (Number c.act-reply.result) c.args.self.now c.args.actor.now c.requires c.args.number
    (c.length.ensures.object (let i : IsInside c.args.op.now c.length.result = c.if-not-is_inside.ensures.inside.0 refl in
    omega (arith, reaches_some c.args.op.now)))
    _ _ _ _ c.in-Ok.ensures.begins c.act-reply.ensures.view c.record_access.ensures.me

pub act-reply-requires-clause-held : goal.act-reply-requires-clause-held
act-reply-requires-clause-held c = let t = c.in-Ok.ensures.begins.2 in
    let i : IsInside c.args.op.now c.length.result = c.if-not-is_inside.ensures.inside.0 refl in
    let long : length t.0.bytes.items ≡ c.length.result =
    t.2.1 ∙ ap (λ (o : List (List ℕ)). length (bytes_of o c.args.number)) c.requires.1 ∙ sym c.length.ensures.length in
    (t.0, t.1, subst (IsInside c.args.op.now) (sym long) i)
