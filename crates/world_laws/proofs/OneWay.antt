-- Commands have one run.
use Rattle.std.proofs.Common.{◌≡◌, List, [], ◌∷◌, refl, ap, sym, subst, ◌∙◌}
use Rattle.object_store.specs.Stores.{StoreState}
use Rattle.debugger.specs.declared.debuggee.Debuggee.{Debuggee}
use Rattle.world.specs.declared.replies.Reply.{Reply}
use Rattle.world.specs.declared.events.Event.{Event}
use Rattle.world.specs.declared.events.Event.TheVariants.{Make, Ship, Object, Machine}
use Rattle.world.specs.WorldState.{WorldState}
use Rattle.world.specs.Answers.{Answers}
use Rattle.world_laws.specs.Replies.{without_faults, AnswersOneWay, RunsOneWay}
use Rattle.world_laws.proofs.ObjectsOneWay as objects
use Rattle.world_laws.proofs.ObjectsOneWay.{OneWay}
use Rattle.world_laws.proofs.MachinesOneWay as machines
use Rattle.world_laws.proofs.Unfaulted.{unfaulted}

abbrev world : List Debuggee → StoreState → WorldState
world ms s = record { machines = ms; store = s }

in_both : (new other : WorldState) (a b : Reply) → (a ≡ b) × (new.machines ≡ other.machines) × (new.store ≡ other.store) → (a ≡ b) × (new ≡ other)
in_both new other a b e = (e.0, ap (λ ms. world ms new.store) e.1 ∙ ap (λ s. world other.machines s) e.2)

-- where as many faults are left
exact : (c : Event) → OneWay (λ old a new. Answers old c a new)
exact (Make z) old new other a b g h f p q = objects.make z old new other a b g h f p q
exact (Object n c) old new other a b g h f p q = objects.object n c old new other a b g h f p q
exact (Ship start code) old new other a b g h f p q =
    let e = machines.ship start code old.machines new.machines other.machines a b g.0 h.0 p q in in_both new other a b (e.0, e.1, g.1 ∙ sym h.1)
exact (Machine m c) old new other a b g h f p q =
    in_both new other a b (machines.machine m c old.machines new.machines other.machines old.store new.store other.store a b g h p q)

pub answers_one_way : AnswersOneWay
answers_one_way old aside new other c a b e g h p q =
    let k : Answers (without_faults old) c b (without_faults other) =
    subst (λ (w : WorldState). Answers w c b (without_faults other)) (sym e) (unfaulted aside other c b h q) in
    exact c (without_faults old) (without_faults new) (without_faults other) a b (unfaulted old new c a g p) k refl p q

pub runs_one_way : RunsOneWay
runs_one_way old aside new other [] [] [] e g h p q = (refl, ap without_faults g ∙ e ∙ sym (ap without_faults h))
runs_one_way old aside new other (c ∷ cs) (a ∷ as') (b ∷ bs) e g h p q =
    let one = answers_one_way old aside g.0 h.0 c a b e g.1 h.1 p.0 q.0 in
    let more = runs_one_way g.0 h.0 new other cs as' bs one.1 g.2 h.2 p.1 q.1 in
    (rw (one.0, more.0) refl, more.1)
runs_one_way old aside new other [] (a ∷ as') bs e g h p q = absurd g
runs_one_way old aside new other [] [] (b ∷ bs) e g h p q = absurd h
runs_one_way old aside new other (c ∷ cs) [] bs e g h p q = absurd g
runs_one_way old aside new other (c ∷ cs) (a ∷ as') [] e g h p q = absurd h
