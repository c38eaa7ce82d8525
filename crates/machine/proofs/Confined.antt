-- A machine learns nothing, and writes nothing, but what it was granted.
use Rattle.std.proofs.Common.{◌≡◌, ◌≢◌, ℕ, Bool, true, false, cond, nat_eq, not, ◌||◌, ◌&&◌, List, [], ◌∷◌, length, Option, Some, None, refl, ap, sym, ◌∙◌}
use Rattle.std.proofs.Common.{subst, inl, inr, arith}
use Rattle.std.specs.List.{list_any}
use Rattle.std.proofs.lemmas.Bool.Decides.{nat_tests}
use Rattle.isa_table.specs.declared.instr.Reg.TheVariants.{R1}
use Rattle.isa_table.specs.declared.instr.Instr.{Instr}
use Rattle.isa_table.specs.declared.instr.Instr.TheVariants.{CallHelper, Exit, Load, LoadSigned, Store, Atomic}
use Rattle.memory.specs.declared.access.Action.{Action}
use Rattle.memory.specs.declared.access.Action.TheVariants as action
use Rattle.memory.specs.declared.access.Op.{Op}
use Rattle.memory.specs.declared.access.Reach.{Reach}
use Rattle.memory.specs.declared.access.Reach.TheVariants as reach
use Rattle.memory.specs.Access.{IsInside, is_inside, answer, after}
use Rattle.memory.specs.Objects.{bytes_of, with_bytes}
use Rattle.memory.specs.MapMemory.{map_memory}
use Rattle.memory.specs.Memories.{Memories}
use Rattle.memory.proofs.Accesses as accesses
use Rattle.helpers.specs.declared.helper.Helper.{Helper}
use Rattle.helpers.specs.declared.helper.Helper.TheVariants.{Length}
use Rattle.helpers.specs.Helpers.{helper_of}
use Rattle.machine.specs.declared.grants.Grant.{Grant}
use Rattle.machine.specs.declared.state.Accessing.{Accessing}
use Rattle.machine.specs.declared.state.Frame.{Frame}
use Rattle.machine.specs.declared.state.Stop.{Stop}
use Rattle.machine.specs.declared.state.Stepped.{Stepped}
use Rattle.machine.specs.Rows.{Work}
use Rattle.machine.specs.Rows.Work.{Computes, AccessesStack, Accesses, Measures}
use Rattle.machine.specs.Grants.{GrantState, is_granted, is_listed, is_object_number, is_writing}
use Rattle.machine.specs.MachineState.{MachineState, stack_size}
use Rattle.machine.specs.Rows.{Request, Answer, Outcome, read, asks, asks_for, work_outcome, stack_outcome, call_outcome, exits, work_of, call_work, stop_before}
use Rattle.machine.specs.Rows.{is_aligned, is_too_deep, is_granted_work}
use Rattle.machine.specs.Rows.Request.{Nothing, Touch, Measure}
use Rattle.machine.specs.TableStep.{TableStep, AnswersRequest, Closes, StepsFrom}
use Rattle.machine.specs.Confinement.{Agree, StepIsConfined, StepsAreConfined, StepsProtect}
use Rattle.machine.proofs.StepCases.{StepCase, step_case, steps_answered, steps_stayed}
use Rattle.machine.proofs.Changes.{map_closes}

-- ---- what is asked is granted

granted_work : (a b d : Bool) (x y z : Stop) → cond a (cond b (cond d (Some x) None) (Some y)) (Some z) ≡ None → b ≡ true
granted_work true true d x y z e = refl
granted_work true false d x y z e = absurd (cc)
granted_work false b d x y z e = absurd (cc)

-- what is asked is granted: an access to read, or to write too, and a length to read
abbrev pub Allowed : GrantState → Request → Type 0
Allowed g Nothing = Unit {0}
Allowed g (Touch n op) = is_granted g (is_writing op.action) n ≡ true
Allowed g (Measure n) = is_granted g false n ≡ true

measured : (g : GrantState) (n : ℕ) (b : Bool) → is_granted g false n ≡ b → Allowed g (asks_for (cond b (Measures n) Computes))
measured g n true e = e
measured g n false e = tt

call_allowed : (h : Option Helper) (m : MachineState) → Allowed m.grants (asks_for (call_work h m))
call_allowed (Some Length) m = measured m.grants (read m.registers R1) _ refl
call_allowed _ m = tt

access_allowed : (g : GrantState) (own : Bool) (x : Accessing) → is_granted_work g (cond own (AccessesStack x) (Accesses x)) ≡ true
    → Allowed g (asks_for (cond own (AccessesStack x) (Accesses x)))
access_allowed g true x e = tt
access_allowed g false x e = e

work_allowed : (i : Instr) (m : MachineState) → is_granted_work m.grants (work_of i m) ≡ true → Allowed m.grants (asks i m)
work_allowed (CallHelper id) m e = call_allowed (helper_of id) m
work_allowed (Load size d s o) m e = access_allowed m.grants _ _ e
work_allowed (LoadSigned size d s o) m e = access_allowed m.grants _ _ e
work_allowed (Store size d x o) m e = access_allowed m.grants _ _ e
work_allowed (Atomic width o d s offset) m e = access_allowed m.grants _ _ e
work_allowed _ m e = tt

pub allowed : (i : Instr) (m : MachineState) → stop_before i m ≡ None → Allowed m.grants (asks i m)
allowed i m e = work_allowed i m (granted_work (is_aligned i m.registers) (is_granted_work m.grants (work_of i m)) (is_too_deep i m) _ _ _ e)

-- ---- a grant for writing is one for reading

listed_reads : (w : Bool) (n : ℕ) (gs : List Grant) → list_any (is_listed w n) gs ≡ true → list_any (is_listed false n) gs ≡ true
listed_reads w n [] e = e
listed_reads w n (x ∷ gs) e = either (nat_eq x.number n) x.writes w (list_any (is_listed w n) gs) (list_any (is_listed false n) gs) (listed_reads w n gs) e
  where
    either : (a b w c d : Bool) → (c ≡ true → d ≡ true) → ((a && (b || not w)) || c) ≡ true → ((a && (b || true)) || d) ≡ true
    either true true w c d f e = refl
    either true false w c d f e = refl
    either false b w c d f e = f e

pub reads : (g : GrantState) (w : Bool) (n : ℕ) → is_granted g w n ≡ true → is_granted g false n ≡ true
reads g w n e = either (not (is_object_number n)) g.all _ _ (listed_reads w n g.listed) e
  where
    either : (a b c d : Bool) → (c ≡ true → d ≡ true) → (a || (b || c)) ≡ true → (a || (b || d)) ≡ true
    either true b c d f e = refl
    either false true c d f e = refl
    either false false c d f e = f e

-- ---- one request

either_number : {P : Type 0} (k n : ℕ) → (k ≡ n → P) → (k ≢ n → P) → P
either_number {P} k n f g = elim (nat_eq k n) as (λ b. nat_eq k n ≡ b → P) [
  | true ↦ λ e. f (grind (arith, nat_tests))
  | false ↦ λ e. g (grind (arith, nat_tests))
] refl

touched : (a b mid nid : List (List ℕ)) (n k : ℕ) (op : Op) (r s : Reach) → bytes_of a n ≡ bytes_of b n → IsInside op (length (bytes_of a n))
    → IsInside op (length (bytes_of b n))
    → mid ≡ with_bytes a n (after op (bytes_of a n)) → nid ≡ with_bytes b n (after op (bytes_of b n))
    → map_memory.reaches a n op r mid → map_memory.reaches b n op s nid → (k ≢ n → bytes_of a k ≡ bytes_of b k) → bytes_of mid k ≡ bytes_of nid k
touched a b mid nid n k op r s e i j f h p q o = either_number k n
    (λ (t : k ≡ n). subst (λ l. bytes_of mid l ≡ bytes_of nid l) (sym t)
    (ap (λ (x : List (List ℕ)). bytes_of x n) f ∙ accesses.bytes_accessed a n op i ∙ ap (after op) e
    ∙ sym (ap (λ (x : List (List ℕ)). bytes_of x n) h ∙ accesses.bytes_accessed b n op j)))
    (λ t. accesses.others a mid n k op r p t ∙ o t ∙ sym (accesses.others b nid n k op s q t))

abbrev Confined : GrantState → (q : Request) → List (List ℕ) → List (List ℕ) → Answer q → Type 0
Confined g q other mid said = (nid : List (List ℕ)) × AnswersRequest map_memory q other said nid × Agree g mid nid

unchanged : (g : GrantState) (before other mid : List (List ℕ)) → Agree g before other → mid ≡ before → Agree g mid other
unchanged g before other mid agree e = subst (λ (x : List (List ℕ)). Agree g x other) (sym e) agree

reach_confined : (g : GrantState) (n : ℕ) (op : Op) (r : Reach) (before other mid : List (List ℕ)) → bytes_of before n ≡ bytes_of other n → Agree g before other
    → map_memory.reaches before n op r mid → Confined g (Touch n op) other mid r
reach_confined g n op (reach.Done v) before other mid e agree h =
    let j = subst (λ l. IsInside op (length l)) e h.0 in
    let nid = with_bytes other n (after op (bytes_of other n)) in
    let q : map_memory.reaches other n op (reach.Done v) nid = (j, h.1 ∙ ap (answer op) e, refl) in
    (nid, q, λ k granted. touched before other mid nid n k op (reach.Done v) (reach.Done v) e h.0 j h.2 refl h q (λ t. agree k granted))
reach_confined g n op reach.Outside before other mid e agree h =
    (other, ((λ i. h.0 (subst (λ l. IsInside op (length l)) (sym e) i)), refl), unchanged g before other mid agree h.1)
reach_confined g n op _ before other mid e agree h = absurd h

answer_confined : (g : GrantState) (q : Request) (before other mid : List (List ℕ)) (said : Answer q) → Allowed g q → Agree g before other
    → AnswersRequest map_memory q before said mid → Confined g q other mid said
answer_confined g Nothing before other mid said l agree h = (other, refl, unchanged g before other mid agree h)
answer_confined g (Measure n) before other mid k l agree h = (other, (h.0 ∙ ap length (agree n l), refl), unchanged g before other mid agree h.1)
answer_confined g (Touch n op) before other mid r l agree h = reach_confined g n op r before other mid (agree n (reads g _ n l)) agree h

-- ---- one step

abbrev ConfinedFrom : MachineState → Outcome → List (List ℕ) → List (List ℕ) → Type 0
ConfinedFrom old o other mid = (nid : List (List ℕ)) × StepsFrom old.stop map_memory old other o nid × Agree old.grants mid nid

case_confined : (old : MachineState) (before other mid : List (List ℕ)) (o : Outcome) → Agree old.grants before other → StepCase map_memory old before o mid
    → ConfinedFrom old o other mid
case_confined old before other mid o agree (inl d) = (
  other,
  subst (λ (p : Outcome). StepsFrom old.stop map_memory old other p other) (sym d.becomes)
      (steps_stayed map_memory old.stop d.stop old other d.stopped),
  unchanged old.grants before other mid agree d.same,
)
case_confined old before other mid o agree (inr (inl d)) = (
  other,
  subst (λ (p : Outcome). StepsFrom old.stop map_memory old other p other) (sym d.becomes) (d.again other),
  unchanged old.grants before other mid agree d.same,
)
case_confined old before other mid o agree (inr (inr d)) =
    let a = answer_confined old.grants (asks d.instr old) before other mid d.said (allowed d.instr old d.attempts.free) agree d.answers in (
      a.0,
      subst (λ (p : Outcome). StepsFrom old.stop map_memory old other p a.0) (sym d.becomes)
          (steps_answered map_memory d.instr old other a.0 d.said d.attempts a.1),
      a.2,
    )

closed_map : (b : Bool) (x : List (List ℕ)) → Closes b map_memory x x
closed_map true x = refl
closed_map false x = refl

-- ---- the grants stay

own_keeps : (b : Bool) (i : Instr) (x : Accessing) (old : MachineState) → (stack_outcome b i x old).machine.grants ≡ old.grants
own_keeps true i x old = refl
own_keeps false i x old = refl

call_keeps : (o : Option Helper) (i : Instr) (bytes : ℕ) (old : MachineState) → (call_outcome i o bytes old).machine.grants ≡ old.grants
call_keeps (Some h) i bytes old = refl
call_keeps None i bytes old = refl

exit_keeps : (frames : List Frame) (old : MachineState) → (exits frames old).machine.grants ≡ old.grants
exit_keeps [] old = refl
exit_keeps (f ∷ frames) old = refl

outcome_keeps : (w : Work) (i : Instr) (old : MachineState) (a : Answer (asks_for w)) → (work_outcome w i old a).machine.grants ≡ old.grants
outcome_keeps (Accesses x) i old (reach.Done v) = refl
outcome_keeps (Accesses x) i old reach.Away = refl
outcome_keeps (Accesses x) i old reach.Busy = refl
outcome_keeps (Accesses x) i old reach.Outside = refl
outcome_keeps (Accesses x) i old reach.Worn = refl
outcome_keeps (AccessesStack x) i old a = own_keeps (is_inside x.op stack_size) i x old
outcome_keeps (Measures k) i old l = refl
outcome_keeps Computes Exit old a = exit_keeps old.frames old
outcome_keeps Computes (CallHelper id) old a = call_keeps (helper_of id) (CallHelper id) 0 old
outcome_keeps Computes _ old a = refl

case_keeps : {M : Type 0} (mem : Memories M) (old : MachineState) (before mid : M) (o : Outcome) → StepCase mem old before o mid → o.machine.grants ≡ old.grants
case_keeps mem old before mid o (inl d) = ap (λ (x : Outcome). x.machine.grants) d.becomes
case_keeps mem old before mid o (inr (inl d)) = ap (λ (x : Outcome). x.machine.grants) d.becomes
case_keeps mem old before mid o (inr (inr d)) = ap (λ (x : Outcome). x.machine.grants) d.becomes ∙ outcome_keeps (work_of d.instr old) d.instr old d.said

pub keeps : {M : Type 0} (mem : Memories M) (old new : MachineState) (before after : M) (a : Stepped)
    → TableStep mem old before a new after → new.grants ≡ old.grants
keeps mem old new before after a t = case_keeps mem old before t.mid _ (step_case mem old.stop old before _ t.mid refl t.steps)

pub step_is_confined : StepIsConfined
step_is_confined old new before other after a agree t =
    let c = case_confined old before other t.mid _ agree (step_case map_memory old.stop old before _ t.mid refl t.steps) in (
      c.0,
      record { closes = t.closes; mid = c.0; steps = c.1; closed = closed_map t.closes c.0 },
      subst (λ (x : List (List ℕ)). Agree old.grants x c.0) (sym (map_closes t.closes t.mid after t.closed)) c.2,
      keeps map_memory old new before after a t,
    )

pub steps_are_confined : StepsAreConfined
steps_are_confined [] old new before other after agree h = (other, (h.0, refl), unchanged old.grants before other after agree h.1)
steps_are_confined (a ∷ answers) old new before other after agree h =
    let s = step_is_confined old h.0 before other h.1 a agree h.2 in
    let r = steps_are_confined answers h.0 new h.1 s.0 after (subst (λ g. Agree g h.1 s.0) (sym s.3) s.2) h.3 in
    (r.0, (h.0, s.0, s.1, r.1), subst (λ g. Agree g after r.0) s.3 r.2)

-- ---- what isn't granted for writing

kept_bytes : (a : Action) (offset : ℕ) (bytes : List ℕ) → is_writing a ≡ false → after (record { offset = offset; action = a }) bytes ≡ bytes
kept_bytes (action.Load size) offset bytes e = refl
kept_bytes (action.Store size value) offset bytes e = absurd (cc)
kept_bytes (action.Atomic width op src r0) offset bytes e = absurd (cc)

not_both : {P : Type 0} (b : Bool) → b ≡ true → b ≡ false → P
not_both b e f = let k : true ≡ false = sym e ∙ f in absurd (cc)

touch_protects : (g : GrantState) (n k : ℕ) (op : Op) (r : Reach) (before mid : List (List ℕ)) (w : Bool) → is_writing op.action ≡ w
    → is_granted g w n ≡ true → is_granted g true k ≡ false
    → map_memory.reaches before n op r mid → bytes_of mid k ≡ bytes_of before k
touch_protects g n k op reach.Outside before mid w e l p h = ap (λ (x : List (List ℕ)). bytes_of x k) h.1
touch_protects g n k op (reach.Done v) before mid true e l p h =
    accesses.others before mid n k op (reach.Done v) h (λ t. not_both (is_granted g true n) l (subst (λ j. is_granted g true j ≡ false) t p))
touch_protects g n k op (reach.Done v) before mid false e l p h = either_number k n
    (λ (t : k ≡ n). subst (λ j. bytes_of mid j ≡ bytes_of before j) (sym t)
    (ap (λ (x : List (List ℕ)). bytes_of x n) h.2 ∙ accesses.bytes_accessed before n op h.0 ∙ kept_bytes op.action op.offset (bytes_of before n) e))
    (λ t. accesses.others before mid n k op (reach.Done v) h t)
touch_protects g n k op _ before mid w e l p h = absurd h

answer_protects : (g : GrantState) (q : Request) (k : ℕ) (before mid : List (List ℕ)) (said : Answer q) → Allowed g q → is_granted g true k ≡ false
    → AnswersRequest map_memory q before said mid → bytes_of mid k ≡ bytes_of before k
answer_protects g Nothing k before mid said l p h = ap (λ (x : List (List ℕ)). bytes_of x k) h
answer_protects g (Measure n) k before mid b l p h = ap (λ (x : List (List ℕ)). bytes_of x k) h.1
answer_protects g (Touch n op) k before mid r l p h = touch_protects g n k op r before mid _ refl l p h

case_protects : (old : MachineState) (k : ℕ) (before mid : List (List ℕ)) (o : Outcome) → is_granted old.grants true k ≡ false
    → StepCase map_memory old before o mid → bytes_of mid k ≡ bytes_of before k
case_protects old k before mid o p (inl d) = ap (λ (x : List (List ℕ)). bytes_of x k) d.same
case_protects old k before mid o p (inr (inl d)) = ap (λ (x : List (List ℕ)). bytes_of x k) d.same
case_protects old k before mid o p (inr (inr d)) =
    answer_protects old.grants (asks d.instr old) k before mid d.said (allowed d.instr old d.attempts.free) p d.answers

step_protects : (old new : MachineState) (before after : List (List ℕ)) (a : Stepped) (k : ℕ) → is_granted old.grants true k ≡ false
    → TableStep map_memory old before a new after → bytes_of after k ≡ bytes_of before k
step_protects old new before after a k p t =
    ap (λ (x : List (List ℕ)). bytes_of x k) (map_closes t.closes t.mid after t.closed)
    ∙ case_protects old k before t.mid _ p (step_case map_memory old.stop old before _ t.mid refl t.steps)

pub steps_protect : StepsProtect
steps_protect [] old new before after n p h = ap (λ (x : List (List ℕ)). bytes_of x n) h.1
steps_protect (a ∷ answers) old new before after n p h =
    steps_protect answers h.0 new h.1 after n (subst (λ g. is_granted g true n ≡ false) (sym (keeps map_memory old h.0 before h.1 a h.2)) p) h.3
    ∙ step_protects old h.0 before h.1 a n p h.2
