use Rattle.std.proofs.Common.{ℕ, List, ◌≡◌, refl, subst, Result, Err}
use Rattle.world.specs.declared.events.Event.{Event}
use Rattle.console.specs.Lines.{IsLine, ended, bad_text, nomem_text}
use Rattle.console.specs.Commands.{Reads, SpellsCommand}
use Rattle.console.specs.Conversations.{Protocol, Answered}
use Rattle.console.specs.Conversations.Turn.{Done, Unread, Bad}
use Rattle.console.specs.declared.fault.LineFault.{LineFault}
use Rattle.console.specs.declared.fault.LineFault.TheVariants as fault
use Rattle.console.proofs.conversation.perform.Goals as goal

-- a line of which no command comes is answered by the fault's text, and changes nothing
fault_answered : (p : Protocol) (s : p.State) (line bytes : List ℕ) (f : LineFault) → IsLine line → Reads (SpellsCommand line) (Err f)
    → (f ≡ fault.Bad → bytes ≡ ended bad_text) → (f ≡ fault.NoMemory → bytes ≡ ended nomem_text) → Answered p s line bytes s
fault_answered p s line bytes fault.Bad l r bad no_memory = (Bad line, refl, (l, r), refl, bad refl)
fault_answered p s line bytes fault.NoMemory l r bad no_memory = (Unread line, refl, (l, r), refl, no_memory refl)

pub perform-requires : goal.perform-requires
perform-requires g c = (c.requires.0, subst (λ (x : Result Event LineFault). Reads (SpellsCommand c.requires.0) x) c.in-Ok.is c.requires.1)

pub returns-in-Ok : goal.returns-in-Ok
returns-in-Ok g c = λ line l r.
    let s = subst (λ (x : Result Event LineFault). Reads (SpellsCommand line) x) c.in-Ok.is r in
    let t = c.perform.ensures in
    (Done line c.in-Ok.event t.0, refl, (l, s), (g.A.Answerer.state c.perform.new.self, t.1, refl), t.2)

pub returns-in-Err : goal.returns-in-Err
returns-in-Err g c = λ line l r. fault_answered _ _ line _ c.in-Err.fault l
    (subst (λ (x : Result Event LineFault). Reads (SpellsCommand line) x) c.in-Err.is r) c.print_fault.ensures.bad c.print_fault.ensures.no_memory
