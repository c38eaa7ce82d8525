use Rattle.std.proofs.Common.{arith, ap, sym, ◌∙◌, refl, ◌≡◌, ℕ, List, [], length}
use Rattle.memory.specs.Access.{part}
use Rattle.memory.specs.Objects.{bytes_of}
use Rattle.memory.specs.declared.deeds.Deed.TheVariants.{Reads}
use Rattle.memory.specs.declared.deeds.Given.TheVariants.{Bytes}
use Rattle.shared_objects.specs.declared.body.Body.{Body}
use Rattle.shared_objects.specs.declared.view.View.{View}
use Rattle.shared_objects.proofs.Acting.{denied_seat, done_seat, same_body}
use Rattle.shared_objects.proofs.table.SharedTable.get.Goals as goal

pub invariant_of-actor : goal.invariant_of-actor
invariant_of-actor c = denied_seat c.args.self.now c.args.actor.now c.requires _ (c.if-not-has_range.ensures.object refl) c.begin.new.seat.me c.begin.new.window
    c.in_err-found.field-0.0 c.in_err-found.ensures.begins

pub invariant_of-actor-2 : goal.invariant_of-actor-2
invariant_of-actor-2 c = done_seat (Reads c.args.offset c.args.count) (Bytes c.read.new.into.items) c.args.self.now c.args.actor.now c.requires _
    (c.if-not-has_range.ensures.object refl) _ _ _ _ c.in_ok-found.ensures.begins c.read.ensures.view c.record_read.ensures.me

pub read-requires-clause-held : goal.read-requires-clause-held
read-requires-clause-held c = let t = c.in_ok-found.ensures.begins.2 in let h = c.if-not-has_range.ensures.value.0 refl in
    let long = t.2.1 ∙ ap (λ (o : List (List ℕ)). length (bytes_of o c.args.number)) c.requires.1 in
    (t.0, t.1, omega (arith, h.1, long, c.in_ok-bytes.ensures.len))

pub record_read-requires-clause-held : goal.record_read-requires-clause-held
record_read-requires-clause-held c = let t = c.in_ok-found.ensures.begins.2 in let h = c.if-not-has_range.ensures.value.0 refl in
    let long = t.2.1 ∙ ap (λ (o : List (List ℕ)). length (bytes_of o c.args.number)) c.requires.1 in
    let w = c.read.ensures.held in
    let count_is : length c.in_ok-bytes.bytes.items ≡ c.args.count = omega (arith, c.in_ok-bytes.bytes.ok.0, c.in_ok-bytes.ensures.len) in
    let same : w.0 ≡ t.0 = same_body c.args.number w.0 t.0 [] [] (sym w.1 ∙ t.1) in (
      t.0.bytes.items,
      ap (λ (u : View). u.turn) (c.read.ensures.view ∙ t.2.0),
      omega (arith, h.0, long),
      omega (arith, h.1, long),
      w.2.0 ∙ ap (λ (k : ℕ). part c.args.offset k w.0.bytes.items) count_is ∙ ap (λ (b : Body). part c.args.offset c.args.count b.bytes.items) same,
      (w.2.1.0, w.2.1.1, w.2.1.2 ∙ ap (λ (b : Body). b.bytes.items) same),
    )
