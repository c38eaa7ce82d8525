-- What machines weren't granted, nobody learns from them.
use Rattle.std.specs.Prelude.{◌≡◌, ◌≢◌, ℕ, Bool, true, false, List, length, All, Some}
use Rattle.memory.specs.Objects.{IsLive, bytes_of, with_bytes}
use Rattle.machine.specs.Grants.{is_granted}
use Rattle.debugger.specs.declared.debuggee.Debuggee.{Debuggee}
use Rattle.world.specs.declared.events.Event.{Event}
use Rattle.world.specs.declared.events.Event.TheVariants.{Make, Ship, Object, Machine}
use Rattle.world.specs.declared.replies.Reply.{Reply}
use Rattle.world.specs.Run.{Runs}
use Rattle.world.specs.WorldState.{WorldState, machine_at}
use Rattle.world.specs.Answers.{Answers}

-- the state, with other bytes as object n
abbrev pub with_other : ℕ → List ℕ → WorldState → WorldState
with_other n bytes w = record w { store = record w.store { objects = with_bytes w.store.objects n bytes } }

-- the machine may not read object n
abbrev pub LacksGrant : ℕ → Debuggee → Type 0
LacksGrant n d = is_granted d.machine.grants false n ≡ false

-- those of the machines that are called ours may not read object n
abbrev pub AllLackGrant : ℕ → (ℕ → Bool) → WorldState → Type 0
AllLackGrant n is_ours w = (m : ℕ) (d : Debuggee) → is_ours m ≡ true → machine_at w.machines m ≡ Some d → LacksGrant n d

-- The command names neither object n nor a machine that isn't ours, and ships none that may read n.
abbrev pub KeepsOff : ℕ → (ℕ → Bool) → Event → Type 0
KeepsOff n is_ours (Make size) = Unit {0}
KeepsOff n is_ours (Ship start code) = is_granted start.grants false n ≡ false
KeepsOff n is_ours (Object k command) = k ≢ n
KeepsOff n is_ours (Machine m command) = is_ours m ≡ true

-- Where none of our machines may read object n, commands that name neither n nor another machine have the same replies
-- whatever bytes n has, and leave the same but for these. (Its length and its place may show, by the budget.)
abbrev pub RunsAreConfined : Type 0
RunsAreConfined = (n : ℕ) (is_ours : ℕ → Bool) (bytes : List ℕ) (old new : WorldState) (commands : List Event) (replies : List Reply)
    → IsLive old.store.objects n → length bytes ≡ length (bytes_of old.store.objects n) → AllLackGrant n is_ours old → All (KeepsOff n is_ours) commands
    → Runs Answers old commands replies new → Runs Answers (with_other n bytes old) commands replies (with_other n bytes new)
