use Rattle.std.proofs.Common.{◌≡◌, List, ◌++◌, ◌+◌, ◌≤◌, vec_len, vec_capacity}
use Rattle.world.specs.Run.{Runs}
use Rattle.world.specs.Answers.{Answers}
use Rattle.world.specs.Asking.{AnswersWithin}
use Rattle.world.specs.WorldState.{state_of}
use Rattle.world.specs.Unseen.{IsPlainRun}
use Rattle.world.specs.declared.replies.Reply.{Reply}
use Rattle.world.proofs.world.World.run.Given as goal

abbrev pub invariant-loop-event : goal.invariant-loop-event
invariant-loop-event g l = record {
  run : (given : List Reply) × (l.replies.items ≡ l.fn.replies.items ++ given) × Runs (AnswersWithin g.F.FarStore.called) l.fn.self l.yielded given l.self
      × Runs Answers (state_of l.fn.self) l.yielded given (state_of l.self)
      × IsPlainRun (state_of l.fn.self) l.yielded given (state_of l.self);
  room : vec_len l.replies + (goal.iterator-loop-event g).remaining l.event-iterator ≤ vec_capacity l.replies;
}
