-- With the same entries a machine goes the same way.
use Rattle.std.proofs.Common.{◌≡◌, ℕ, zero, suc, ◌+◌, Bool, true, false, List, [], ◌∷◌, ◌++◌, refl, ap, sym, ◌∙◌, subst, append_assoc, arith, inl, inr}
use Rattle.isa_table.specs.declared.instr.Instr.{Instr}
use Rattle.memory.specs.declared.access.Reach.{Reach}
use Rattle.memory.specs.declared.access.Reach.TheVariants as reach
use Rattle.memory.specs.declared.deeds.Entry.{Entry}
use Rattle.memory.specs.declared.deeds.Given.TheVariants.{Number}
use Rattle.memory.specs.Access.{IsInside}
use Rattle.memory.specs.Memories.{entries_added}
use Rattle.machine.specs.declared.state.Accessing.{Accessing}
use Rattle.machine.specs.Rows.{Work}
use Rattle.machine.specs.Rows.Work.{Computes, AccessesStack, Accesses, Measures}
use Rattle.machine.specs.MachineState.{MachineState}
use Rattle.machine.specs.Rows.{Request, Answer, Outcome, asks, asks_for, row_outcome, work_outcome, object_outcome, work_of}
use Rattle.machine.specs.Rows.Request.{Nothing, Touch, Measure}
use Rattle.machine.specs.TableStep.{Attempts, AnswersRequest, Closes}
use Rattle.machine.specs.Replay.{recorded_memory, Advances, Replays, ReplaysOneWay}
use Rattle.machine.proofs.ValidRows.{same_next}
use Rattle.machine.proofs.StepCases.{StepCase, step_case}

-- ---- what an instruction that took fuel was answered, by the entries that it added

-- an access that was done was inside its object
abbrev pub Fed : (ℕ → ℕ) → (q : Request) → List Entry → Answer q → Type 0
Fed lengths Nothing more said = more ≡ []
Fed lengths (Measure n) more k = (more ≡ []) × (k ≡ lengths n)
Fed lengths (Touch n op) more (reach.Done v) = IsInside op (lengths n) × (more ≡ entries_added n op (reach.Done v))
Fed lengths (Touch n op) more _ = ⊥

pub record Grown (lengths : ℕ → ℕ) (q : Request) (said : Answer q) (es fs : List Entry) : Type 0 where
  pub more : List Entry
  pub fed : Fed lengths q more said
  pub grown : fs ≡ es ++ more

unchanged : (es fs : List Entry) → fs ≡ es → fs ≡ es ++ []
unchanged es fs e = e ∙ sym (append_nil es)
  where
    append_nil : (l : List Entry) → l ++ [] ≡ l
    append_nil [] = refl
    append_nil (x ∷ l) = ap (λ (r : List Entry). x ∷ r) (append_nil l)

grown_reach : (lengths : ℕ → ℕ) (worn : ℕ → Bool) (i : Instr) (x : Accessing) (old : MachineState) (es fs : List Entry) (r : Reach)
    → (object_outcome i x old r).machine.fuel + 1 ≡ old.fuel
    → (recorded_memory lengths worn).reaches es x.number x.op r fs → Grown lengths (Touch x.number x.op) r es fs
grown_reach lengths worn i x old es fs (reach.Done v) f h = record { more = entries_added x.number x.op (reach.Done v); fed = (h.0, refl); grown = h.1 }
grown_reach lengths worn i x old es fs reach.Outside f h = absurd (omega arith)
grown_reach lengths worn i x old es fs reach.Worn f h = absurd (omega arith)
grown_reach lengths worn i x old es fs reach.Away f h = absurd h
grown_reach lengths worn i x old es fs reach.Busy f h = absurd h

grown_by : (lengths : ℕ → ℕ) (worn : ℕ → Bool) (w : Work) (i : Instr) (old : MachineState) (es fs : List Entry) (said : Answer (asks_for w))
    → (work_outcome w i old said).machine.fuel + 1 ≡ old.fuel
    → AnswersRequest (recorded_memory lengths worn) (asks_for w) es said fs → Grown lengths (asks_for w) said es fs
grown_by lengths worn Computes i old es fs said f h = record { more = []; fed = refl; grown = unchanged es fs h }
grown_by lengths worn (Measures n) i old es fs k f h = record { more = []; fed = (refl, h.0); grown = unchanged es fs h.1 }
grown_by lengths worn (AccessesStack x) i old es fs said f h = record { more = []; fed = refl; grown = unchanged es fs h }
grown_by lengths worn (Accesses x) i old es fs r f h = grown_reach lengths worn i x old es fs r f h

-- ---- an instruction that took fuel

pub record AdvancedBy (lengths : ℕ → ℕ) (old : MachineState) (es : List Entry) (new : MachineState) (fs : List Entry) (instr : Instr) : Type 0 where
  pub said : Answer (asks instr old)
  pub added : Grown lengths (asks instr old) said es fs
  pub becomes : new ≡ (row_outcome instr old said).machine

pub record Advanced (lengths : ℕ → ℕ) (old : MachineState) (es : List Entry) (new : MachineState) (fs : List Entry) : Type 0 where
  pub instr : Instr
  pub attempts : Attempts old instr
  pub by : AdvancedBy lengths old es new fs instr

closes_same : (lengths : ℕ → ℕ) (worn : ℕ → Bool) (b : Bool) (es fs : List Entry) → Closes b (recorded_memory lengths worn) es fs → fs ≡ es
closes_same lengths worn true es fs h = h
closes_same lengths worn false es fs h = h

case_advanced : (lengths : ℕ → ℕ) (worn : ℕ → Bool) (old : MachineState) (es fs : List Entry) (o : Outcome) → o.machine.fuel + 1 ≡ old.fuel
    → StepCase (recorded_memory lengths worn) old es o fs → Advanced lengths old es o.machine fs
case_advanced lengths worn old es fs o f (inl d) = let k = ap (λ (x : Outcome). x.machine.fuel) d.becomes in absurd (omega arith)
case_advanced lengths worn old es fs o f (inr (inl d)) = let k = ap (λ (x : Outcome). x.machine.fuel) d.becomes in absurd (omega arith)
case_advanced lengths worn old es fs o f (inr (inr d)) =
    let k = ap (λ (x : Outcome). x.machine.fuel) d.becomes in
    record {
      instr = d.instr;
      attempts = d.attempts;
      by = record {
        said = d.said;
        added = grown_by lengths worn (work_of d.instr old) d.instr old es fs d.said (ap (λ n. n + 1) (sym k) ∙ f) d.answers;
        becomes = ap (λ (x : Outcome). x.machine) d.becomes;
      };
    }

pub advanced : (lengths : ℕ → ℕ) (worn : ℕ → Bool) (old : MachineState) (es : List Entry) (new : MachineState) (fs : List Entry)
    → Advances lengths worn old es new fs → Advanced lengths old es new fs
advanced lengths worn old es new fs a =
    let c = case_advanced lengths worn old es a.step.mid _ a.paid (step_case (recorded_memory lengths worn) old.stop old es _ a.step.mid refl a.step.steps) in
    subst (λ (l : List Entry). Advanced lengths old es new l) (sym (closes_same lengths worn a.step.closes a.step.mid fs a.step.closed)) c

-- ---- two instructions

number_is : (x y : ℕ) → Number x ≡ Number y → x ≡ y
number_is x y e = cc

head_is : (a b : Entry) (xs ys : List Entry) → a ∷ xs ≡ b ∷ ys → a ≡ b
head_is a b xs ys e = cc

tail_is : (a b : Entry) (xs ys : List Entry) → a ∷ xs ≡ b ∷ ys → xs ≡ ys
tail_is a b xs ys e = cc

next_is : (es : List Entry) (a b : Entry) (xs ys : List Entry) → (es ++ a ∷ []) ++ xs ≡ (es ++ b ∷ []) ++ ys → a ≡ b
next_is [] a b xs ys e = head_is a b xs ys e
next_is (z ∷ es) a b xs ys e = next_is es a b xs ys (tail_is z z _ _ e)

same_answer : (lengths : ℕ → ℕ) (q : Request) (es more other xs ys : List Entry) (said heard : Answer q) → Fed lengths q more said
    → Fed lengths q other heard → (es ++ more) ++ xs ≡ (es ++ other) ++ ys
    → (said ≡ heard) × (more ≡ other)
same_answer lengths Nothing es more other xs ys said heard f g e = (refl, f ∙ sym g)
same_answer lengths (Measure n) es more other xs ys k l f g e = (f.1 ∙ sym g.1, f.0 ∙ sym g.0)
same_answer lengths (Touch n op) es more other xs ys (reach.Done v) (reach.Done w) f g e =
    let joined = ap (λ (l : List Entry). (es ++ l) ++ xs) (sym f.1) ∙ e ∙ ap (λ (l : List Entry). (es ++ l) ++ ys) g.1 in
    let same : v ≡ w = number_is v w (ap (λ (x : Entry). x.given) (next_is es _ _ xs ys joined)) in
    (ap (λ c. reach.Done c) same, f.1 ∙ ap (λ c. entries_added n op (reach.Done c)) same ∙ sym g.1)
same_answer lengths (Touch n op) es more other xs ys (reach.Done v) _ f g e = absurd g
same_answer lengths (Touch n op) es more other xs ys _ heard f g e = absurd f

same_step : (lengths : ℕ → ℕ) (old new other : MachineState) (es fs gs xs ys : List Entry) → Advanced lengths old es new fs
    → Advanced lengths old es other gs → fs ++ xs ≡ gs ++ ys → (new ≡ other) × (fs ≡ gs)
same_step lengths old new other es fs gs xs ys p q e =
    let instr : q.instr ≡ p.instr = same_next old q.instr p.instr q.attempts.next p.attempts.next in
    let d = subst (λ (i : Instr). AdvancedBy lengths old es other gs i) instr q.by in
    let joined = ap (λ (l : List Entry). l ++ xs) (sym p.by.added.grown) ∙ e ∙ ap (λ (l : List Entry). l ++ ys) d.added.grown in
    let same = same_answer lengths (asks p.instr old) es p.by.added.more d.added.more xs ys p.by.said d.said p.by.added.fed d.added.fed joined in (
      p.by.becomes ∙ ap (λ (a : Answer (asks p.instr old)). (row_outcome p.instr old a).machine) same.0 ∙ sym d.becomes,
      p.by.added.grown ∙ ap (λ (l : List Entry). es ++ l) same.1 ∙ sym d.added.grown,
    )

same_replay : (lengths : ℕ → ℕ) (worn : ℕ → Bool) (k : ℕ) (start new other : MachineState) (es fs xs ys : List Entry) → Replays lengths worn k start es new
    → Replays lengths worn k start fs other
    → es ++ xs ≡ fs ++ ys → (new ≡ other) × (es ≡ fs)
same_replay lengths worn zero start new other es fs xs ys p q e = (p.1 ∙ sym q.1, p.0 ∙ sym q.0)
same_replay lengths worn (suc k) start new other es fs xs ys p q e =
    let a = advanced lengths worn p.0 p.1 new es p.3 in
    let b = advanced lengths worn q.0 q.1 other fs q.3 in
    let one = ap (λ (l : List Entry). l ++ xs) a.by.added.grown ∙ append_assoc p.1 a.by.added.more xs in
    let two = ap (λ (l : List Entry). l ++ ys) b.by.added.grown ∙ append_assoc q.1 b.by.added.more ys in
    let before = same_replay lengths worn k start p.0 q.0 p.1 q.1 (a.by.added.more ++ xs) (b.by.added.more ++ ys) p.2 q.2 (sym one ∙ e ∙ two) in
    let c = subst (λ (m : MachineState). Advanced lengths m p.1 other fs) (sym before.0)
    (subst (λ (l : List Entry). Advanced lengths q.0 l other fs) (sym before.1) b) in
    same_step lengths p.0 new other p.1 es fs xs ys a c e

pub replays_one_way : ReplaysOneWay
replays_one_way lengths worn k start new other es p q = (same_replay lengths worn k start new other es es [] [] p q refl).0
