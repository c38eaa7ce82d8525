use Rattle.std.proofs.Common.{ap, ◌∙◌, sym, ◌≡◌, ◌+◌, map, subst, List, length}
use Rattle.std.proofs.lemmas.List.{length-map}
use Rattle.std.specs.Mem.Slots.{slots_items}
use Rattle.shared_objects.specs.Ends.{all_shown, Closes}
use Rattle.shared_objects.specs.Kinds.{gathers_all}
use Rattle.shared_objects.specs.Opening.{opening_bytes}
use Rattle.shared_objects.specs.Phases.{phase_of}
use Rattle.shared_objects.specs.Parts.{part_of}
use Rattle.shared_objects.specs.declared.closing.ObjectEnd.{ObjectEnd}
use Rattle.shared_objects.specs.declared.seats.Phase.{Phase}
use Rattle.shared_objects.proofs.Joining.{closes}
use Rattle.shared_objects.proofs.table.SharedTable.close.Goals as goal

pub returns : goal.returns
returns c = let f = c.close_with-closed.ensures.values.2 in let m = c.args.mover in let d = m.makes in
    let same = c.in_ok-shut.ensures.1 in
    let phases : c.deref.result.now ≡ map phase_of m.seat.me.0.out =
    c.deref.ensures.value ∙ c.gather_all.new.mover.phased ∙ ap (λ v. map phase_of v.out) c.gather_all.ensures.view in
    subst (λ (l : List ObjectEnd). Closes c.args.self.table.shared.key.returns (opening_bytes c.args.self.table.shared.key.bodies.value) m.seat.me.0
    (map part_of c.args.actors.items) l)
    (sym (c.emptied.ensures ∙ ap (λ (ps : List Phase). all_shown ps (slots_items c.close_with-closed.result.slots)) phases))
    (closes _ _ _ m.seat.me.0 _ (map part_of c.args.actors.items) _ f.0 (c.gather_all.ensures.view
    ∙ ap (gathers_all m.seat.me.0) same) c.requires.mover.1 d.0 d.1 d.2 d.3 (m.wide ∙ ap length c.requires.mover.0.1)
    (c.requires.all ∙ ap (λ n. n + 1) (sym (length-map c.args.actors.items part_of))) f.1.0 f.1.1 f.3 f.4)
