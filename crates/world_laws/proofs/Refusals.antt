-- What is refused, and what is shown, changes nothing.
use Rattle.std.proofs.Common.{◌≡◌, ℕ, Bool, true, inl, inr, ap}
use Rattle.object_store.specs.Stores.{store_memory}
use Rattle.debugger.specs.declared.show.ShowCommand.{ShowCommand}
use Rattle.debugger.specs.declared.commands.MachineCommand.TheVariants.{Show}
use Rattle.world.specs.declared.replies.Reply.{Reply}
use Rattle.world.specs.declared.events.Event.{Event}
use Rattle.world.specs.declared.events.Event.TheVariants.{Object, Machine}
use Rattle.world.specs.declared.events.ObjectCommand.TheVariants.{Get}
use Rattle.world.specs.WorldState.{WorldState}
use Rattle.world.specs.Machines.{AnswersMachine}
use Rattle.world_laws.specs.Replies.{is_refusal, RefusalsChangeNothing, ShowingChangesNothing}
use Rattle.world_laws.proofs.Sorts.{Marks, Sort, Stays, Stores, Ships, Tunes, Pauses, Walks, off, as_it_was, both, sort_of}

abbrev refused : Marks → Bool
refused m = m.refused

keeps : (old new : WorldState) (c : Event) (r : Reply) → Sort old c r new → is_refusal r ≡ true → new ≡ old
keeps old new c r (Stays q n e) t = e
keeps old new c r (Stores k s e) t = off (is_refusal r) (ap refused k) t
keeps old new c r (Ships d k q n a e) t = off (is_refusal r) (ap refused k) t
keeps old new c r (Tunes m k q s e) t = off (is_refusal r) (ap refused k) t
keeps old new c r (Pauses m k q s e) t = off (is_refusal r) (ap refused k) t
keeps old new c r (Walks m way k q h) t = off (is_refusal r) (ap refused k) t

pub refusals_keep : RefusalsChangeNothing
refusals_keep old new c r h t = keeps old new c r (sort_of old new c r h) t

shown : (old new : WorldState) (m : ℕ) (c : ShowCommand) (r : Reply)
    → AnswersMachine (store_memory m) old.machines old.store m (Show c) r new.machines new.store → new ≡ old
shown old new m c r (inl h) = both old new h.unchanged h.same
shown old new m c r (inr h) = both old new (as_it_was old.machines m h.debuggee h.became new.machines h.found h.changed h.answers.3) h.answers.4

pub showing_keeps : ShowingChangesNothing
showing_keeps old new (Object n (Get offset size)) r h t = h.1
showing_keeps old new (Machine m (Show c)) r h t = shown old new m c r h
showing_keeps old new _ r h t = absurd (cc)
