-- Each entry of a machine was granted, and the machine learns nothing of anything else.
use Rattle.std.proofs.Common.{◌≡◌, ℕ, zero, suc, Bool, List, [], ◌∷◌, ◌++◌, All, None, refl, ap, sym, ◌∙◌, subst, append_assoc, arith, inl, inr, ◌⊎◌}
use Rattle.std.proofs.lemmas.List.Elements.{All-nil, All-cons, All-append}
use Rattle.isa_table.specs.declared.instr.Instr.{Instr}
use Rattle.memory.specs.declared.access.Reach.TheVariants as reach
use Rattle.memory.specs.declared.deeds.Deed.TheVariants.{Accesses}
use Rattle.memory.specs.declared.deeds.Entry.{Entry}
use Rattle.memory.specs.declared.deeds.Given.TheVariants.{Number}
use Rattle.memory.specs.Memories.{entries_added}
use Rattle.machine.specs.Granted.{WasGranted, EntriesAreGranted, AnswersAgree, ReplaysAreConfined}
use Rattle.machine.specs.Grants.{GrantState}
use Rattle.machine.specs.MachineState.{MachineState}
use Rattle.machine.specs.Replay.{recorded_memory, Replays, StopsThere}
use Rattle.machine.specs.Rows.{Request, Answer, asks, row_outcome}
use Rattle.machine.specs.Rows.Request.{Nothing, Touch, Measure}
use Rattle.machine.proofs.Confined.{Allowed, allowed, keeps}
use Rattle.machine.proofs.SameReplays.{Fed, Advanced, AdvancedBy, advanced}
use Rattle.machine.proofs.Stopping.{stops_in_place}
use Rattle.machine.proofs.ValidRows.{same_next}

-- ---- what was done was granted

none_granted : (lengths : ℕ → ℕ) (g : GrantState) (more : List Entry) → more ≡ [] → All (WasGranted lengths g) more
none_granted lengths g more e = subst (λ (l : List Entry). All (WasGranted lengths g) l) (sym e) (All-nil (WasGranted lengths g))

fed_granted : (lengths : ℕ → ℕ) (g : GrantState) (q : Request) (more : List Entry) (said : Answer q) → Allowed g q → Fed lengths q more said
    → All (WasGranted lengths g) more
fed_granted lengths g Nothing more said l f = none_granted lengths g more f
fed_granted lengths g (Measure n) more k l f = none_granted lengths g more f.0
fed_granted lengths g (Touch n op) more (reach.Done v) l f =
    subst (λ (es : List Entry). All (WasGranted lengths g) es) (sym f.1)
    (All-cons (WasGranted lengths g) (record { number = n; deed = Accesses op; given = Number v }) []
    (record { op = op; deed_is = refl; inside = f.0; granted = l }) (All-nil (WasGranted lengths g)))
fed_granted lengths g (Touch n op) more _ l f = absurd f

step_granted : (lengths : ℕ → ℕ) (g : GrantState) (old new : MachineState) (es fs : List Entry) → old.grants ≡ g → Advanced lengths old es new fs
    → All (WasGranted lengths g) es → All (WasGranted lengths g) fs
step_granted lengths g old new es fs same a h =
    let l = subst (λ (x : GrantState). Allowed x (asks a.instr old)) same (allowed a.instr old a.attempts.free) in
    subst (λ (x : List Entry). All (WasGranted lengths g) x) (sym a.by.added.grown)
    (All-append (WasGranted lengths g) es a.by.added.more h (fed_granted lengths g (asks a.instr old) a.by.added.more a.by.said l a.by.added.fed))

all_granted : (lengths : ℕ → ℕ) (worn : ℕ → Bool) (k : ℕ) (start m : MachineState) (es : List Entry) → Replays lengths worn k start es m
    → (m.grants ≡ start.grants) × All (WasGranted lengths start.grants) es
all_granted lengths worn zero start m es h = (ap (λ (x : MachineState). x.grants) h.1, none_granted lengths start.grants es h.0)
all_granted lengths worn (suc k) start m es h =
    let before = all_granted lengths worn k start h.0 h.1 h.2 in (
      keeps (recorded_memory lengths worn) h.0 m h.1 es h.3.answer h.3.step ∙ before.0,
      step_granted lengths start.grants h.0 m h.1 es before.0 (advanced lengths worn h.0 h.1 m es h.3) before.1,
    )

stop_keeps : (lengths : ℕ → ℕ) (worn : ℕ → Bool) (reached m : MachineState) (es : List Entry) → (m ≡ reached) ⊎ StopsThere lengths worn reached es m
    → m.grants ≡ reached.grants
stop_keeps lengths worn reached m es (inl e) = ap (λ (x : MachineState). x.grants) e
stop_keeps lengths worn reached m es (inr s) = keeps (recorded_memory lengths worn) reached m es es _ s.step

pub entries_are_granted : EntriesAreGranted
entries_are_granted lengths worn start es m r =
    let h = all_granted lengths worn r.steps start r.reached es r.replays in (stop_keeps lengths worn r.reached m es r.stops ∙ h.0, h.1)

-- ---- nothing else is learnt

number_is : (x y : ℕ) → Number x ≡ Number y → x ≡ y
number_is x y e = cc

-- the part of what a machine did in which it went on from these entries
same_answer : (lengths others : ℕ → ℕ) (g : GrantState) (q : Request) (es more other xs ys : List Entry) (said heard : Answer q) → Allowed g q
    → AnswersAgree g lengths others ((es ++ more) ++ xs) ((es ++ other) ++ ys) → Fed lengths q more said → Fed others q other heard
    → (said ≡ heard) × (more ≡ other)
same_answer lengths others g Nothing es more other xs ys said heard l a f h = (refl, f ∙ sym h)
same_answer lengths others g (Measure n) es more other xs ys j k l a f h = (f.1 ∙ a.long n l ∙ sym h.1, f.0 ∙ sym h.0)
same_answer lengths others g (Touch n op) es more other xs ys (reach.Done v) (reach.Done w) l a f h =
    let e : Entry = record { number = n; deed = Accesses op; given = Number v } in
    let d : Entry = record { number = n; deed = Accesses op; given = Number w } in
    let one = ap (λ (t : List Entry). (es ++ t) ++ xs) f.1 ∙ append_assoc es (e ∷ []) xs in
    let two = ap (λ (t : List Entry). (es ++ t) ++ ys) h.1 ∙ append_assoc es (d ∷ []) ys in
    let same : v ≡ w = number_is v w (a.given es xs ys e d one two refl refl l) in
    (ap (λ c. reach.Done c) same, f.1 ∙ ap (λ c. entries_added n op (reach.Done c)) same ∙ sym h.1)
same_answer lengths others g (Touch n op) es more other xs ys (reach.Done v) _ l a f h = absurd h
same_answer lengths others g (Touch n op) es more other xs ys _ heard l a f h = absurd f

same_step : (lengths others : ℕ → ℕ) (g : GrantState) (old new aside : MachineState) (es fs gs xs ys : List Entry) → old.grants ≡ g
    → AnswersAgree g lengths others (fs ++ xs) (gs ++ ys) → Advanced lengths old es new fs → Advanced others old es aside gs → (new ≡ aside) × (fs ≡ gs)
same_step lengths others g old new aside es fs gs xs ys kept a p q =
    let instr : q.instr ≡ p.instr = same_next old q.instr p.instr q.attempts.next p.attempts.next in
    let d = subst (λ (i : Instr). AdvancedBy others old es aside gs i) instr q.by in
    let l = subst (λ (x : GrantState). Allowed x (asks p.instr old)) kept (allowed p.instr old p.attempts.free) in
    let b = subst (λ (t : List Entry). AnswersAgree g lengths others (t ++ xs) ((es ++ d.added.more) ++ ys)) p.by.added.grown
    (subst (λ (t : List Entry). AnswersAgree g lengths others (fs ++ xs) (t ++ ys)) d.added.grown a) in
    let same = same_answer lengths others g (asks p.instr old) es p.by.added.more d.added.more xs ys p.by.said d.said l b p.by.added.fed d.added.fed in (
      p.by.becomes ∙ ap (λ (s : Answer (asks p.instr old)). (row_outcome p.instr old s).machine) same.0 ∙ sym d.becomes,
      p.by.added.grown ∙ ap (λ (t : List Entry). es ++ t) same.1 ∙ sym d.added.grown,
    )

same_replay : (lengths others : ℕ → ℕ) (worn marked : ℕ → Bool) (k : ℕ) (start m n : MachineState) (es fs xs ys : List Entry)
    → AnswersAgree start.grants lengths others (es ++ xs) (fs ++ ys) → Replays lengths worn k start es m → Replays others marked k start fs n
    → (m ≡ n) × (es ≡ fs)
same_replay lengths others worn marked zero start m n es fs xs ys a p q = (p.1 ∙ sym q.1, p.0 ∙ sym q.0)
same_replay lengths others worn marked (suc k) start m n es fs xs ys a p q =
    let g : GrantState = start.grants in
    let c = advanced lengths worn p.0 p.1 m es p.3 in
    let d = advanced others marked q.0 q.1 n fs q.3 in
    let one = ap (λ (l : List Entry). l ++ xs) c.by.added.grown ∙ append_assoc p.1 c.by.added.more xs in
    let two = ap (λ (l : List Entry). l ++ ys) d.by.added.grown ∙ append_assoc q.1 d.by.added.more ys in
    let b = subst (λ (t : List Entry). AnswersAgree g lengths others t (q.1 ++ (d.by.added.more ++ ys))) one
    (subst (λ (t : List Entry). AnswersAgree g lengths others (es ++ xs) t) two a) in
    let before = same_replay lengths others worn marked k start p.0 q.0 p.1 q.1 (c.by.added.more ++ xs) (d.by.added.more ++ ys) b p.2 q.2 in
    let e = subst (λ (x : MachineState). Advanced others x p.1 n fs) (sym before.0)
    (subst (λ (l : List Entry). Advanced others q.0 l n fs) (sym before.1) d) in
    same_step lengths others g p.0 m n p.1 es fs xs ys (all_granted lengths worn k start p.0 p.1 p.2).0 a c e

-- but for its stop, a machine is the state that was reached
apart_from_stop : (lengths : ℕ → ℕ) (worn : ℕ → Bool) (reached m : MachineState) (es : List Entry) → (m ≡ reached) ⊎ StopsThere lengths worn reached es m
    → record m { stop = None } ≡ record reached { stop = None }
apart_from_stop lengths worn reached m es (inl e) = ap (λ (x : MachineState). record x { stop = None }) e
apart_from_stop lengths worn reached m es (inr s) =
    ap (λ (x : MachineState). record x { stop = None }) (stops_in_place (recorded_memory lengths worn) reached m es es s.stop s.other s.step)

append_none : (es : List Entry) → es ++ [] ≡ es
append_none [] = refl
append_none (e ∷ es) = ap (λ (l : List Entry). e ∷ l) (append_none es)

pub replays_are_confined : ReplaysAreConfined
replays_are_confined lengths others worn marked start m n es fs a p q fuel =
    let steps : q.steps ≡ p.steps = omega (arith, p.fuel, q.fuel, fuel) in
    let b = subst (λ (t : List Entry). AnswersAgree start.grants lengths others t (fs ++ [])) (sym (append_none es))
    (subst (λ (t : List Entry). AnswersAgree start.grants lengths others es t) (sym (append_none fs)) a) in
    let r = subst (λ k. Replays others marked k start fs q.reached) steps q.replays in
    let same = same_replay lengths others worn marked p.steps start p.reached q.reached es fs [] [] b p.replays r in (
      same.1,
      apart_from_stop lengths worn p.reached m es p.stops ∙ ap (λ (x : MachineState). record x { stop = None }) same.0
          ∙ sym (apart_from_stop others marked q.reached n fs q.stops),
    )
