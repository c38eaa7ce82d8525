-- Commands on machines have one answer.
use Rattle.std.proofs.Common.{◌≡◌, ◌≢◌, ℕ, true, false, List, [], ◌∷◌, ◌+◌, ◌≤◌, length, take, drop, inl, inr, refl, ap, sym, subst, ◌∙◌}
use Rattle.isa_table.specs.declared.instr.Instr.{Instr}
use Rattle.asm_table.specs.Canonical.{line_text}
use Rattle.loader.specs.declared.loading.LoadError.{LoadError}
use Rattle.loader.specs.declared.loading.Why.TheVariants as why
use Rattle.loader.specs.Refusals.{Refuses}
use Rattle.loader.specs.ValidCode.{IsAt, IsRowAt, ValidCode}
use Rattle.loader.proofs.Positions.{same_first}
use Rattle.loader.proofs.OneReason.{one_refusal, no_refusal_of_valid}
use Rattle.object_store.specs.Stores.{StoreState, store_memory}
use Rattle.machine.specs.MachineState.{MachineState}
use Rattle.machine.specs.declared.state.Stepped.{Stepped}
use Rattle.machine.proofs.OneWay.{steps_one_way}
use Rattle.debugger.specs.DebugState.{DebugState}
use Rattle.debugger.specs.Refusals.{Decides}
use Rattle.debugger.specs.Changes.{Needs, refusals_of, left_by, change_of}
use Rattle.debugger.specs.Pausing.{with_pause, debugged}
use Rattle.debugger.specs.Showing.{Shows, ShowsBytes, ShowsLine, IsLineAt}
use Rattle.debugger.specs.Debuggees.{Walks, AnswersStep, DebugsMachine, holds_back, reply_after}
use Rattle.debugger.specs.declared.start.Start.{Start}
use Rattle.debugger.specs.declared.commands.Way.{Way}
use Rattle.debugger.specs.declared.commands.MachineCommand.{MachineCommand}
use Rattle.debugger.specs.declared.commands.MachineCommand.TheVariants.{Step, Show, Debug}
use Rattle.debugger.specs.declared.show.ShowCommand.{ShowCommand}
use Rattle.debugger.specs.declared.show.ShowCommand.TheVariants.{Stack, Line}
use Rattle.debugger.specs.declared.commands.DebugCommand.{DebugCommand}
use Rattle.debugger.specs.declared.replies.StepReply.{StepReply}
use Rattle.debugger.specs.declared.replies.StepReply.TheVariants as step_reply
use Rattle.debugger.specs.declared.show.ShowReply.{ShowReply}
use Rattle.debugger.specs.declared.show.ShowReply.TheVariants as show_reply
use Rattle.debugger.specs.declared.replies.Debugged.{Debugged}
use Rattle.debugger.specs.declared.replies.Debugged.TheVariants as debug_reply
use Rattle.debugger.specs.declared.debuggee.Debuggee.{Debuggee}
use Rattle.world.specs.declared.replies.Reply.{Reply}
use Rattle.world.specs.declared.replies.Reply.TheVariants.{Shipped, NoMemory, Full, Refused}
use Rattle.world.specs.declared.replies.Reply.TheVariants as reply
use Rattle.world.specs.WorldState.{AreAllShipped, machine_at, with_machine}
use Rattle.world.specs.Machines.{AnswersCommand, AnswersMachine, Finds}
use Rattle.world.specs.Answers.{AnswersShip}
use Rattle.world_laws.specs.Replies.{is_settled}
use Rattle.world_laws.proofs.Machines.{found_once, found_none}
use Rattle.world_laws.proofs.Deciding.{HasOne, Unless, decides_once, this_once, unless_once}
use Rattle.world_laws.proofs.Awaited.{store_determined}

-- two answers to one command are the same
abbrev MachinesOneWay : (List Debuggee → Reply → List Debuggee → Type 0) → Type 0
MachinesOneWay answers = (old new other : List Debuggee) (a b : Reply) → answers old a new → answers old b other → is_settled a ≡ true
    → is_settled b ≡ true → (a ≡ b) × (new ≡ other)

-- ---- shipping

same_error : (d e : LoadError) → (d.slot ≡ e.slot) × (d.why ≡ e.why) → d ≡ e
same_error d e h = rw (h.0, h.1) refl

-- what code that isn't valid is answered
abbrev TellsWhy : List ℕ → Reply → Type 0
TellsWhy c r = (e : LoadError) × (r ≡ Refused e) × Refuses c e.slot e.why × (e.why ≢ why.Memory)

one_reason : (c : List ℕ) → HasOne (TellsWhy c)
one_reason c a b g h = g.1 ∙ ap Refused (same_error g.0 h.0 (one_refusal c g.0.slot h.0.slot g.0.why h.0.why g.2 h.2 g.3 h.3)) ∙ sym h.1

-- the code is valid
abbrev IsShipped : List ℕ → ℕ → Reply → Type 0
IsShipped c count = Unless (ValidCode c) (TellsWhy c) (λ (r : Reply). r ≡ Shipped (count + 1))

-- there is room for a machine, and the code is valid
abbrev ShipsOrNot : List Debuggee → List ℕ → Reply → Type 0
ShipsOrNot old c = Unless (AreAllShipped old → ⊥) (λ (r : Reply). r ≡ Full) (IsShipped c (length old))

ship_first : (f : Start) (c : List ℕ) (old new : List Debuggee) (r : Reply) → AnswersShip old f c r new → is_settled r ≡ true → ShipsOrNot old c r
ship_first f c old new Full g p = inl ((λ n. n g.0), refl)
ship_first f c old new (Refused e) g p = inr (g.0, inl ((λ v. g.2 (no_refusal_of_valid c e.slot e.why v g.1).1), (e, refl, g.1, g.2)))
ship_first f c old new (Shipped m) g p = inr (g.0, inr (g.1, ap Shipped g.2))
ship_first f c old new NoMemory g p = absurd (cc)
ship_first f c old new _ g p = absurd g

ship_leads : (f : Start) (c : List ℕ) (old new other : List Debuggee) (r : Reply) → AnswersShip old f c r new → AnswersShip old f c r other → new ≡ other
ship_leads f c old new other Full g h = g.1 ∙ sym h.1
ship_leads f c old new other (Refused e) g h = g.3 ∙ sym h.3
ship_leads f c old new other (Shipped m) g h = g.3 ∙ sym h.3
ship_leads f c old new other NoMemory g h = g.2 ∙ sym h.2
ship_leads f c old new other _ g h = absurd g

ship_once : (old : List Debuggee) (c : List ℕ) → HasOne (ShipsOrNot old c)
ship_once old c =
    let n = length old in
    unless_once (AreAllShipped old → ⊥) (λ (r : Reply). r ≡ Full) (IsShipped c n) (this_once Full)
    (unless_once (ValidCode c) (TellsWhy c) (λ (r : Reply). r ≡ Shipped (n + 1)) (one_reason c) (this_once (Shipped (n + 1))))

pub ship : (f : Start) (c : List ℕ) → MachinesOneWay (λ old x new. AnswersShip old f c x new)
ship f c old new other a b g h p q =
    let e = ship_once old c a b (ship_first f c old new a g p) (ship_first f c old other b h q) in
    (e, ship_leads f c old new other b (subst (λ (x : Reply). AnswersShip old f c x new) e g) h)

-- ---- showing

bytes_first : (m : ℕ) (bytes : List ℕ) (o z : ℕ) (replied : ShowReply) → ShowsBytes bytes o z replied → is_settled (reply.Shown m replied) ≡ true
    → Decides (λ r. o + z ≤ length bytes) (show_reply.Outside ∷ []) (show_reply.Bytes (take z (drop o bytes))) replied
bytes_first m bytes o z show_reply.Outside g p = inl (g, refl)
bytes_first m bytes o z (show_reply.Bytes shown) g p = inr (g.0, ap show_reply.Bytes g.1)
bytes_first m bytes o z show_reply.NoMemory g p = absurd (cc)
bytes_first m bytes o z _ g p = absurd g

same_row : (bytes : List ℕ) (n : ℕ) (i j : Instr) → IsRowAt bytes n i → IsRowAt bytes n j → i ≡ j
same_row bytes n i j g h = same_first i j g.begins.0 h.begins.0 g.fits h.fits (sym g.begins.1 ∙ h.begins.1)

at_row : (bytes : List ℕ) (n : ℕ) (i : Instr) → IsRowAt bytes n i → IsAt bytes n
at_row bytes n i h = (h.code, h.is_code, (i, h.stands))

same_line : (code : List ℕ) (n : ℕ) (t u : List ℕ) → IsLineAt code n t → IsLineAt code n u → t ≡ u
same_line code n t u g h = g.spelled ∙ ap line_text (same_row code n g.instr h.instr g.row h.row) ∙ sym h.spelled

-- the instruction at the slot, spelled
abbrev TellsLine : List ℕ → ℕ → ShowReply → Type 0
TellsLine code n r = (text : List ℕ) × (r ≡ show_reply.Disassembled n text) × IsLineAt code n text

one_line : (code : List ℕ) (n : ℕ) → HasOne (TellsLine code n)
one_line code n a b g h = g.1 ∙ ap (λ (t : List ℕ). show_reply.Disassembled n t) (same_line code n g.0 h.0 g.2 h.2) ∙ sym h.1

line_first : (m : ℕ) (code : List ℕ) (n : ℕ) (r : ShowReply) → ShowsLine code n r → is_settled (reply.Shown m r) ≡ true
    → Unless (IsAt code n) (λ (x : ShowReply). x ≡ show_reply.NoSlot) (TellsLine code n) r
line_first m code n show_reply.NoSlot g p = inl (g, refl)
line_first m code n (show_reply.Disassembled i t) g p = inr (at_row code n g.1.instr g.1.row, (t, ap (λ k. show_reply.Disassembled k t) g.0, g.1))
line_first m code n show_reply.NoMemory g p = absurd (cc)
line_first m code n _ g p = absurd g

show_once : (m : ℕ) (c : ShowCommand) (d : Debuggee) (a b : ShowReply) → Shows c d a → Shows c d b → is_settled (reply.Shown m a) ≡ true
    → is_settled (reply.Shown m b) ≡ true → a ≡ b
show_once m (Stack o z) d a b g h p q =
    decides_once (λ r. o + z ≤ length d.machine.stack) (show_reply.Outside ∷ []) (show_reply.Bytes (take z (drop o d.machine.stack))) a b
    (bytes_first m d.machine.stack o z a g p) (bytes_first m d.machine.stack o z b h q)
show_once m (Line n) d a b g h p q =
    let code = d.machine.code in
    unless_once (IsAt code n) (λ (x : ShowReply). x ≡ show_reply.NoSlot) (TellsLine code n) (this_once show_reply.NoSlot) (one_line code n) a b
    (line_first m code n a g p) (line_first m code n b h q)
show_once m _ d a b g h p q = g ∙ sym h

-- ---- steps

abbrev debuggee : MachineState → DebugState → Debuggee
debuggee m d = record { machine = m; debugger = d }

walk_once : (who : ℕ) (w : Way) (old x y : Debuggee) (s t u : StoreState) (a b : StepReply) → Walks (store_memory who) w old s a x t
    → Walks (store_memory who) w old s b y u
    → (a ≡ b) × (x ≡ y) × (t ≡ u)
walk_once who w old x y s t u a b d e =
    let k = steps_one_way (store_memory who) (store_determined who) old.machine d.machine e.machine s t u d.answer e.answer d.step e.step in (
      d.replied ∙ ap (λ (r : Stepped). reply_after r d.machine.slot old.debugger) k.0
          ∙ ap (λ (m : MachineState). reply_after e.answer m.slot old.debugger) k.1 ∙ sym e.replied,
      d.changed ∙ ap (λ (r : Stepped). debuggee d.machine (debugged w r old.debugger)) k.0
          ∙ ap (λ (m : MachineState). debuggee m (debugged w e.answer old.debugger)) k.1 ∙ sym e.changed,
      k.2,
    )

-- a machine is held back or it isn't
not_both : {X : Type 0} (w : Way) (d : Debuggee) → holds_back w d ≡ true → holds_back w d ≡ false → X
not_both w d h k = absurd (cc)

step_once : (who : ℕ) (w : Way) (old x y : Debuggee) (s t u : StoreState) (a b : StepReply) → AnswersStep (store_memory who) w old s a x t
    → AnswersStep (store_memory who) w old s b y u
    → (a ≡ b) × (x ≡ y) × (t ≡ u)
step_once who w old x y s t u (step_reply.Paused i) (step_reply.Paused j) g h =
    let e : i ≡ j = g.slot_is ∙ sym h.slot_is in
    (ap step_reply.Paused e, g.changed ∙ ap (λ k. record old { debugger = with_pause k old.debugger }) e ∙ sym h.changed, g.same ∙ sym h.same)
step_once who w old x y s t u (step_reply.Paused i) b g h = not_both w old g.held h.goes
step_once who w old x y s t u a (step_reply.Paused j) g h = not_both w old h.held g.goes
step_once who w old x y s t u a b g h = walk_once who w old x y s t u a b g h

-- ---- debugging

debug_once : (c : DebugCommand) (d x y : Debuggee) (a b : Debugged) → DebugsMachine c d a x → DebugsMachine c d b y → (a ≡ b) × (x ≡ y)
debug_once c d x y a b g h =
    let e = decides_once (Needs c d.machine.code d.debugger) (refusals_of c) debug_reply.Done a b g.0.0 h.0.0 in (
      e,
      g.1 ∙ ap (λ (s : DebugState). record d { debugger = s }) (g.0.1
          ∙ ap (λ (o : Debugged). left_by o d.debugger (change_of c d.debugger)) e ∙ sym h.0.1) ∙ sym h.1,
    )

-- ---- all commands on machines

command_once : (who : ℕ) (c : MachineCommand) (d x y : Debuggee) (s t u : StoreState) (a b : Reply) → AnswersCommand (store_memory who) d s who c a x t
    → AnswersCommand (store_memory who) d s who c b y u → is_settled a ≡ true → is_settled b ≡ true → (a ≡ b) × (x ≡ y) × (t ≡ u)
command_once who (Step w) d x y s t u a b g h p q =
    let e = step_once who w d x y s t u g.0 h.0 g.2 h.2 in (g.1 ∙ ap (reply.Stepped who) e.0 ∙ sym h.1, e.1, e.2)
command_once who (Show c) d x y s t u a b g h p q =
    let e = show_once who c d g.0 h.0 g.2 h.2 (sym (ap is_settled g.1) ∙ p) (sym (ap is_settled h.1) ∙ q) in
    (g.1 ∙ ap (reply.Shown who) e ∙ sym h.1, g.3 ∙ sym h.3, g.4 ∙ sym h.4)
command_once who (Debug c) d x y s t u a b g h p q =
    let e = debug_once c d x y g.0 h.0 g.2 h.2 in (g.1 ∙ ap reply.Debugged e.0 ∙ sym h.1, e.1, g.3 ∙ sym h.3)

abbrev Same : List Debuggee → List Debuggee → StoreState → StoreState → Reply → Reply → Type 0
Same new other t u a b = (a ≡ b) × (new ≡ other) × (t ≡ u)

finds_once : (who : ℕ) (c : MachineCommand) (old new other : List Debuggee) (s t u : StoreState) (a b : Reply) → Finds (store_memory who) old s who c a new t
    → Finds (store_memory who) old s who c b other u → is_settled a ≡ true → is_settled b ≡ true → Same new other t u a b
finds_once who c old new other s t u a b g h p q =
    let same = found_once (machine_at old who) g.debuggee h.debuggee g.found h.found in
    let e = command_once who c h.debuggee g.became h.became s t u a b
    (subst (λ (d : Debuggee). AnswersCommand (store_memory who) d s who c a g.became t) same g.answers) h.answers p q in
    (e.0, g.changed ∙ ap (λ (d : Debuggee). with_machine old who d) e.1 ∙ sym h.changed, e.2)

pub machine : (who : ℕ) (c : MachineCommand) (old new other : List Debuggee) (s t u : StoreState) (a b : Reply)
    → AnswersMachine (store_memory who) old s who c a new t
    → AnswersMachine (store_memory who) old s who c b other u → is_settled a ≡ true → is_settled b ≡ true → Same new other t u a b
machine who c old new other s t u a b (inl g) (inl h) p q = (g.replied ∙ sym h.replied, g.unchanged ∙ sym h.unchanged, g.same ∙ sym h.same)
machine who c old new other s t u a b (inl g) (inr h) p q = found_none (machine_at old who) h.debuggee g.none h.found
machine who c old new other s t u a b (inr g) (inl h) p q = found_none (machine_at old who) g.debuggee h.none g.found
machine who c old new other s t u a b (inr g) (inr h) p q = finds_once who c old new other s t u a b g h p q
