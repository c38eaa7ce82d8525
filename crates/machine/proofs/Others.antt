-- Machines that reach different objects.
use Rattle.std.proofs.Common.{◌≡◌, ◌≢◌, ℕ, zero, suc, Bool, true, false, List, length, refl, ap, sym, ◌∙◌, subst, inl, inr}
use Rattle.memory.specs.declared.access.Op.{Op}
use Rattle.memory.specs.declared.access.Reach.{Reach}
use Rattle.memory.specs.Objects.{bytes_of}
use Rattle.memory.specs.MapMemory.{map_memory}
use Rattle.memory.proofs.Accesses as accesses
use Rattle.machine.specs.declared.state.Stepped.{Stepped}
use Rattle.machine.specs.MachineState.{MachineState}
use Rattle.machine.specs.Rows.{Request, Answer, Outcome, asks}
use Rattle.machine.specs.Rows.Request.{Nothing, Touch, Measure}
use Rattle.machine.specs.TableStep.{TableStep, AnswersRequest, Closes, StepsFrom}
use Rattle.machine.specs.Laws.{AccessesNext, LeavesOthers, StepsCommute}
use Rattle.machine.proofs.StepCases.{StepCase, step_case, steps_answered, steps_stayed}
use Rattle.machine.proofs.Changes.{map_closes}

-- a step as a request and its answer: with the same answer it is done over any other objects
record Asked (m : MachineState) (o : Outcome) (before mid : List (List ℕ)) : Type 0 where
  request : Request
  said : Answer request
  answers : AnswersRequest map_memory request before said mid
  touches : (n : ℕ) (op : Op) → request ≡ Touch n op → AccessesNext m n
  again : (x y : List (List ℕ)) → AnswersRequest map_memory request x said y → StepsFrom m.stop map_memory m x o y

pub no_touch : {P : Type 0} (n : ℕ) (op : Op) → Nothing ≡ Touch n op → P
no_touch n op e = absurd (cc)

over : (m : MachineState) (o p : Outcome) (x y : List (List ℕ)) → o ≡ p → y ≡ x → StepsFrom m.stop map_memory m x p x → StepsFrom m.stop map_memory m x o y
over m o p x y e f s = rw (e, f) s

case_asked : (m : MachineState) (o : Outcome) (before mid : List (List ℕ)) → StepCase map_memory m before o mid → Asked m o before mid
case_asked m o before mid (inl d) = record {
  request = Nothing;
  said = tt;
  answers = d.same;
  touches = λ n op e. no_touch n op e;
  again = λ x y e. over m o _ x y d.becomes e (steps_stayed map_memory m.stop d.stop m x d.stopped);
}
case_asked m o before mid (inr (inl d)) = record {
  request = Nothing;
  said = tt;
  answers = d.same;
  touches = λ n op e. no_touch n op e;
  again = λ x y e. over m o _ x y d.becomes e (d.again x);
}
case_asked m o before mid (inr (inr d)) = record {
  request = asks d.instr m;
  said = d.said;
  answers = d.answers;
  touches = λ n op e. record { instr = d.instr; op = op; attempts = d.attempts; asks = e };
  again = λ x y a. subst (λ (p : Outcome). StepsFrom m.stop map_memory m x p y) (sym d.becomes) (steps_answered map_memory d.instr m x y d.said d.attempts a);
}

asked : (m : MachineState) (o : Outcome) (before mid : List (List ℕ)) → StepsFrom m.stop map_memory m before o mid → Asked m o before mid
asked m o before mid s = case_asked m o before mid (step_case map_memory m.stop m before o mid refl s)

closed_map : (b : Bool) (x : List (List ℕ)) → Closes b map_memory x x
closed_map true x = refl
closed_map false x = refl

-- ---- an object that no access goes to

touch_leaves : (n k : ℕ) (op : Op) (r : Reach) (before mid : List (List ℕ)) → k ≢ n → map_memory.reaches before n op r mid → bytes_of mid k ≡ bytes_of before k
touch_leaves n k op r before mid d h = accesses.others before mid n k op r h d

answer_leaves : (q : Request) (k : ℕ) (before mid : List (List ℕ)) (a : Answer q) → ((n : ℕ) (op : Op) → q ≡ Touch n op → k ≢ n)
    → AnswersRequest map_memory q before a mid → bytes_of mid k ≡ bytes_of before k
answer_leaves Nothing k before mid a d h = ap (λ (o : List (List ℕ)). bytes_of o k) h
answer_leaves (Touch n op) k before mid r d h = touch_leaves n k op r before mid (d n op refl) h
answer_leaves (Measure n) k before mid l d h = ap (λ (o : List (List ℕ)). bytes_of o k) h.1

step_leaves : (n : ℕ) (old new : MachineState) (before after : List (List ℕ)) (a : Stepped) → (AccessesNext old n → ⊥)
    → TableStep map_memory old before a new after → bytes_of after n ≡ bytes_of before n
step_leaves n old new before after a d t =
    let s = asked old (record { machine = new; answer = a; closes = t.closes }) before t.mid t.steps in
    let same = map_closes t.closes t.mid after t.closed in
    ap (λ (o : List (List ℕ)). bytes_of o n) same ∙
    answer_leaves s.request n before t.mid s.said (λ m op e k. d (subst (λ j. AccessesNext old j) (sym k) (s.touches m op e))) s.answers

pub leaves_others : LeavesOthers
leaves_others n zero old new before after h = ap (λ (o : List (List ℕ)). bytes_of o n) h.1
leaves_others n (suc k) old new before after h =
    leaves_others n k h.1.1 new h.1.2 after h.1.4 ∙ step_leaves n old h.1.1 before h.1.2 h.1.0 h.0 h.1.3

-- ---- two machines that reach no common object

record Turned (q r : Request) (a : Answer q) (b : Answer r) (before after : List (List ℕ)) : Type 0 where
  other : List (List ℕ)
  first : AnswersRequest map_memory r before b other
  then : AnswersRequest map_memory q other a after

measured_after : (q : Request) (k l : ℕ) (before mid : List (List ℕ)) (a : Answer q) → AnswersRequest map_memory q before a mid
    → l ≡ length (bytes_of mid k) → l ≡ length (bytes_of before k)
measured_after Nothing k l before mid a h e = e ∙ ap (λ (o : List (List ℕ)). length (bytes_of o k)) h
measured_after (Touch n op) k l before mid r h e = e ∙ accesses.lengths before mid n k op r h
measured_after (Measure n) k l before mid m h e = e ∙ ap (λ (o : List (List ℕ)). length (bytes_of o k)) h.1

turned : (q r : Request) (a : Answer q) (b : Answer r) (before mid after : List (List ℕ)) → ((n m : ℕ) (op other : Op) → q ≡ Touch n op → r ≡ Touch m other → n ≢ m)
    → AnswersRequest map_memory q before a mid → AnswersRequest map_memory r mid b after → Turned q r a b before after
turned q Nothing a b before mid after d h k =
    record { other = before; first = refl; then = subst (λ (o : List (List ℕ)). AnswersRequest map_memory q before a o) (sym k) h }
turned q (Measure n) a l before mid after d h k =
    record {
      other = before;
      first = (measured_after q n l before mid a h k.0, refl);
      then = subst (λ (o : List (List ℕ)). AnswersRequest map_memory q before a o) (sym k.1) h;
    }
turned Nothing (Touch m op) a r before mid after d h k =
    record { other = after; first = subst (λ (o : List (List ℕ)). map_memory.reaches o m op r after) h k; then = refl }
turned (Measure n) (Touch m op) l r before mid after d h k =
    let there = subst (λ (o : List (List ℕ)). map_memory.reaches o m op r after) h.1 k in
    record { other = after; first = there; then = (h.0 ∙ sym (accesses.lengths before after m n op r there), refl) }
turned (Touch n op) (Touch m other) r s before mid after d h k =
    let c = accesses.commute before mid after n m op other r s (d n m op other refl refl) h k in
    record { other = c.0; first = c.1; then = c.2 }

pub steps_commute : StepsCommute
steps_commute p q r s before mid after a b d t u =
    let x = asked p (record { machine = r; answer = a; closes = t.closes }) before t.mid t.steps in
    let y = asked q (record { machine = s; answer = b; closes = u.closes }) mid u.mid u.steps in
    let here = map_closes t.closes t.mid mid t.closed in
    let there = map_closes u.closes u.mid after u.closed in
    let begun = subst (λ (o : List (List ℕ)). AnswersRequest map_memory y.request o y.said u.mid) here y.answers in
    let c = turned x.request y.request x.said y.said before t.mid u.mid
    (λ n m op other e f k. d n (x.touches n op e) (subst (λ j. AccessesNext q j) (sym k) (y.touches m other f))) x.answers begun in (
      c.other,
      record { closes = u.closes; mid = c.other; steps = y.again before c.other c.first; closed = closed_map u.closes c.other },
      record {
        closes = t.closes;
        mid = after;
        steps = x.again c.other after (subst (λ (o : List (List ℕ)). AnswersRequest map_memory x.request c.other x.said o) (sym there) c.then);
        closed = closed_map t.closes after;
      },
    )
