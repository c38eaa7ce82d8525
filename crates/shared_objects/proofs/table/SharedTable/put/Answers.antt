use Rattle.std.proofs.Common.{arith, ap, sym, ◌∙◌, refl, ◌≡◌, ℕ, List, [], length}
use Rattle.memory.specs.Access.{replaced}
use Rattle.memory.specs.Objects.{bytes_of}
use Rattle.memory.specs.declared.deeds.Deed.TheVariants.{Writes}
use Rattle.memory.specs.declared.deeds.Given.TheVariants.{Nothing}
use Rattle.shared_objects.specs.declared.body.Body.{Body}
use Rattle.shared_objects.specs.declared.view.View.{View}
use Rattle.shared_objects.proofs.Acting.{denied_seat, done_seat, same_body}
use Rattle.shared_objects.proofs.table.SharedTable.put.Goals as goal

pub invariant_of-actor : goal.invariant_of-actor
invariant_of-actor c = denied_seat c.args.self.now c.args.actor.now c.requires _ (c.if-not-has_range.ensures.object refl) c.begin.new.seat.me c.begin.new.window
    c.in_err-found.field-0.0 c.in_err-found.ensures.begins

pub invariant_of-actor-2 : goal.invariant_of-actor-2
invariant_of-actor-2 c = done_seat (Writes c.args.offset c.args.bytes.now) Nothing c.args.self.now c.args.actor.now c.requires _
    (c.if-not-has_range.ensures.object refl) _ _ _ _ c.in_ok-found.ensures.begins c.write.ensures.view c.record_write.ensures.me

pub write-requires-clause-held : goal.write-requires-clause-held
write-requires-clause-held c = let t = c.in_ok-found.ensures.begins.2 in let h = c.if-not-has_range.ensures.value.0 refl in
    let long = t.2.1 ∙ ap (λ (o : List (List ℕ)). length (bytes_of o c.args.number)) c.requires.1 in
    (t.0, t.1, omega (arith, h.1, long))

pub record_write-requires-clause-held : goal.record_write-requires-clause-held
record_write-requires-clause-held c = let t = c.in_ok-found.ensures.begins.2 in let h = c.if-not-has_range.ensures.value.0 refl in
    let long = t.2.1 ∙ ap (λ (o : List (List ℕ)). length (bytes_of o c.args.number)) c.requires.1 in
    let w = c.write.ensures.held in
    let same : w.0 ≡ t.0 = same_body c.args.number w.0 t.0 [] [] (sym w.1 ∙ t.1) in (
      t.0.bytes.items,
      ap (λ (u : View). u.turn) (c.write.ensures.view ∙ t.2.0),
      omega (arith, h.0, long),
      omega (arith, h.1, long),
      (w.2.0, w.2.1, w.2.2 ∙ ap (λ (b : Body). replaced c.args.offset c.args.bytes.now b.bytes.items) same),
    )
