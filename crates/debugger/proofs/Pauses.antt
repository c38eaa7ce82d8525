-- Before and after steps.
use Rattle.std.proofs.Common.{◌≡◌, Bool, true, false, not, ◌||◌, ◌&&◌, ap, [], Option, Some, None, refl}
use Rattle.machine.specs.declared.state.Written.{Written}
use Rattle.debugger.specs.DebugState.{DebugState, has_break, hits}
use Rattle.debugger.specs.Laws as laws
use Rattle.debugger.proofs.Sets.{or_true}

again : (p q : Bool) → ((p || q) || q) ≡ (p || q)
again true q = refl
again false true = refl
again false false = refl

pub stays : laws.PausingStays
stays slot d =
    let with_paused : Bool → DebugState = λ b. record d { paused = b } in
    ap with_paused (again d.paused (not d.pass && has_break slot d))

pub goes_on : laws.ResumingGoesOn
goes_on slot d = refl

pub ends : laws.PassingEnds
ends slot w d h = rw h (or_true (d.paused || hits w d))

never : (b : Bool) → (b && false) ≡ false
never true = refl
never false = refl

no_hits : (w : Option Written) (d : DebugState) → d.watches ≡ [] → hits w d ≡ false
no_hits None d e = refl
no_hits (Some w) d e = rw e refl

pub nothing_set : laws.NothingSetNothingPauses
nothing_set slot w d no_breaks no_watches runs = (rw (runs, no_breaks) (never (not d.pass)), no_hits w d no_watches)

pub waits : laws.WaitingChangesNothing
waits way n d = refl

pub stops : laws.StopsEndPauses
stops way s d = refl

pub ones : laws.OnesPause
ones w d = refl
