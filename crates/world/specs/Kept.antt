-- Parts of a run.
use Rattle.std.specs.Prelude.{Bool, List, [], ◌∷◌, cond}
use Rattle.world.specs.declared.events.Event.{Event}
use Rattle.world.specs.declared.replies.Reply.{Reply}

-- the commands that are kept, in order
abbrev pub commands_kept : (Event → Reply → Bool) → List Event → List Reply → List Event
commands_kept stays (c ∷ cs) (r ∷ rs) = cond (stays c r) (c ∷ commands_kept stays cs rs) (commands_kept stays cs rs)
commands_kept stays _ _ = []

-- their replies
abbrev pub replies_kept : (Event → Reply → Bool) → List Event → List Reply → List Reply
replies_kept stays (c ∷ cs) (r ∷ rs) = cond (stays c r) (r ∷ replies_kept stays cs rs) (replies_kept stays cs rs)
replies_kept stays _ _ = []
