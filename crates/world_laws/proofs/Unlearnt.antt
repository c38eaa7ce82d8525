-- Commands on other objects, and on machines without a grant, don't look at the bytes of an object.
use Rattle.std.proofs.Common.{◌≡◌, ◌≢◌, ℕ, zero, suc, ◌<◌, Bool, true, false, nat_eq, List, [], ◌∷◌, ◌++◌, length, replicate, set, All, Some, ◌⊎◌, inl, inr}
use Rattle.std.proofs.Common.{refl, ap, sym, ◌∙◌, subst, arith}
use Rattle.std.specs.Prelude.{slice_get}
use Rattle.std.proofs.Math.ListN.{length-set}
use Rattle.std.proofs.lemmas.List.{set-append_left}
use Rattle.std.proofs.lemmas.List.Elements.{All-head, All-tail}
use Rattle.std.proofs.lemmas.Bool.Decides.{nat_tests}
use Rattle.memory.specs.declared.access.Op.{Op}
use Rattle.memory.specs.declared.access.Reach.{Reach}
use Rattle.memory.specs.declared.access.Reach.TheVariants as reach
use Rattle.memory.specs.declared.deeds.Deed.TheVariants.{Reads, Writes}
use Rattle.memory.specs.Access.{IsInside, answer, after, part}
use Rattle.memory.specs.Deeds.{EndsInside, left_by}
use Rattle.memory.specs.Objects.{bytes_of}
use Rattle.memory.proofs.Accesses.{set_commutes}
use Rattle.scopes.specs.Windows.{noted}
use Rattle.object_store.specs.Stores.{StoreState, store_memory, Touches, window_of}
use Rattle.placement.specs.declared.places.Place.TheVariants as place
use Rattle.machine.specs.Grants.{GrantState, is_granted}
use Rattle.machine.specs.MachineState.{MachineState}
use Rattle.machine.specs.Rows.{Request, Answer, Outcome, asks}
use Rattle.machine.specs.Rows.Request.{Nothing, Touch, Measure}
use Rattle.machine.specs.TableStep.{TableStep, AnswersRequest, Closes, StepsFrom}
use Rattle.machine.specs.declared.state.Stepped.{Stepped}
use Rattle.machine.proofs.StepCases.{StepCase, step_case, steps_answered, steps_stayed}
use Rattle.machine.proofs.Confined.{Allowed, allowed, reads, keeps}
use Rattle.debugger.specs.Debuggees.{Walks, AnswersStep}
use Rattle.debugger.specs.declared.commands.Way.{Way}
use Rattle.debugger.specs.declared.commands.MachineCommand.{MachineCommand}
use Rattle.debugger.specs.declared.commands.MachineCommand.TheVariants.{Step, Show, Debug}
use Rattle.debugger.specs.declared.replies.StepReply.{StepReply}
use Rattle.debugger.specs.declared.replies.StepReply.TheVariants as step_reply
use Rattle.debugger.specs.declared.start.Start.{Start}
use Rattle.debugger.specs.declared.debuggee.Debuggee.{Debuggee}
use Rattle.world.specs.declared.replies.Reply.{Reply}
use Rattle.world.specs.declared.replies.Reply.TheVariants.{Made, Done, Bytes, Shipped, NoMemory, Full, NoRoom, Outside, Away, Refused}
use Rattle.world.specs.declared.events.Event.{Event}
use Rattle.world.specs.declared.events.Event.TheVariants.{Make, Ship, Object, Machine}
use Rattle.world.specs.declared.events.ObjectCommand.{ObjectCommand}
use Rattle.world.specs.declared.events.ObjectCommand.TheVariants.{Free, Put, Get, Move}
use Rattle.world.specs.Run.{Runs}
use Rattle.world.specs.WorldState.{WorldState, machine_at, with_machine}
use Rattle.world.specs.Machines.{AnswersCommand, AnswersMachine}
use Rattle.world.specs.Answers.{Answers, AnswersMake, AnswersShip, AnswersObject, AnswersPut, AnswersGet}
use Rattle.world_laws.specs.Confinement.{with_other, LacksGrant, KeepsOff, RunsAreConfined}
use Rattle.world_laws.proofs.Blinded.{Leaves, Suits, blind, leaves_both, leaves_more, leaves_objects, leaves_same, leaves_set, near_same, other, suits_on}
use Rattle.world_laws.proofs.EachMove.{frees_blind, moves_blind}
use Rattle.world_laws.proofs.Machines.{found_once, found_set, other_machine}

is_there : (os : List (List ℕ)) (n : ℕ) → 0 < length (bytes_of os n) → n < length os
is_there [] n h = absurd (omega (arith, h))
is_there (x ∷ xs) zero h = omega arith
is_there (x ∷ xs) (suc n) h = let i = is_there xs n h in omega (arith, i)

-- ---- steps

abbrev Off : ℕ → Request → Type 0
Off n Nothing = Unit {0}
Off n (Touch k op) = k ≢ n
Off n (Measure k) = k ≢ n

clash : (g : GrantState) (n k : ℕ) → is_granted g false n ≡ false → is_granted g false k ≡ true → k ≢ n
clash g n k l a = λ e. let t = subst (λ j. is_granted g false j ≡ true) e a in let z : true ≡ false = sym t ∙ l in absurd (cc)

off : (g : GrantState) (n : ℕ) (q : Request) → is_granted g false n ≡ false → Allowed g q → Off n q
off g n Nothing l a = tt
off g n (Touch k op) l a = clash g n k l (reads g _ k a)
off g n (Measure k) l a = clash g n k l a

module _ (n : ℕ) (b : List ℕ) (who : ℕ) where
  touch : (old new : StoreState) (k : ℕ) (op : Op) (r : Reach) → k ≢ n → Touches who old k op r new
      → Touches who (blind n b old) k op r (blind n b new) × Leaves n old new
  touch old new k op (reach.Done x) h t =
      let e = other old.objects n k b h in
      let c = after op (bytes_of old.objects k) in
      let windows = set old.windows who (noted k (window_of old.windows who)) in
      let both : set (set old.objects k c) n b ≡ set (set old.objects n b) k (after op (bytes_of (set old.objects n b) k)) =
      set_commutes old.objects k n c b h ∙ ap (λ (y : List ℕ). set (set old.objects n b) k (after op y)) (sym e) in (
        (
          subst (λ (y : List ℕ). IsInside op (length y)) (sym e) t.0,
          t.1,
          t.2 ∙ ap (answer op) (sym e),
          ap (blind n b) t.3 ∙ ap (λ (os : List (List ℕ)). record old { objects = os; windows = windows }) both,
        ),
        leaves_set n old new k c h (ap (λ (s : StoreState). s.objects) t.3),
      )
  touch old new k op reach.Away h t =
      ((subst (λ (y : List ℕ). IsInside op (length y)) (sym (other old.objects n k b h)) t.0, t.1, ap (blind n b) t.2), leaves_same n old new t.2)
  touch old new k op reach.Outside h t =
      (((λ i. t.0 (subst (λ (y : List ℕ). IsInside op (length y)) (other old.objects n k b h) i)), ap (blind n b) t.1), leaves_same n old new t.1)
  touch old new k op _ h t = absurd t

  answered : (q : Request) (old new : StoreState) (said : Answer q) → Off n q → AnswersRequest (store_memory who) q old said new
      → AnswersRequest (store_memory who) q (blind n b old) said (blind n b new) × Leaves n old new
  answered Nothing old new said h a = (ap (blind n b) a, leaves_same n old new a)
  answered (Measure k) old new c h a = ((a.0 ∙ ap length (sym (other old.objects n k b h)), ap (blind n b) a.1), leaves_same n old new a.1)
  answered (Touch k op) old new r h a = touch old new k op r h a

  case_blind : (m : MachineState) (old mid : StoreState) (o : Outcome) → is_granted m.grants false n ≡ false → StepCase (store_memory who) m old o mid
      → StepsFrom m.stop (store_memory who) m (blind n b old) o (blind n b mid) × Leaves n old mid
  case_blind m old mid o l (inl d) = (
    subst (λ (x : StoreState). StepsFrom m.stop (store_memory who) m (blind n b old) o x) (ap (blind n b) (sym d.same))
        (subst (λ (p : Outcome). StepsFrom m.stop (store_memory who) m (blind n b old) p (blind n b old)) (sym d.becomes)
        (steps_stayed (store_memory who) m.stop d.stop m (blind n b old) d.stopped)),
    leaves_same n old mid d.same,
  )
  case_blind m old mid o l (inr (inl d)) = (
    subst (λ (x : StoreState). StepsFrom m.stop (store_memory who) m (blind n b old) o x) (ap (blind n b) (sym d.same))
        (subst (λ (p : Outcome). StepsFrom m.stop (store_memory who) m (blind n b old) p (blind n b old)) (sym d.becomes) (d.again (blind n b old))),
    leaves_same n old mid d.same,
  )
  case_blind m old mid o l (inr (inr d)) =
      let a = answered (asks d.instr m) old mid d.said (off m.grants n (asks d.instr m) l (allowed d.instr m d.attempts.free)) d.answers in (
        subst (λ (p : Outcome). StepsFrom m.stop (store_memory who) m (blind n b old) p (blind n b mid)) (sym d.becomes)
            (steps_answered (store_memory who) d.instr m (blind n b old) (blind n b mid) d.said d.attempts a.0),
        a.1,
      )

  closes_blind : (c : Bool) (old new : StoreState) → Closes c (store_memory who) old new
      → Closes c (store_memory who) (blind n b old) (blind n b new) × Leaves n old new
  closes_blind true old new h = (ap (blind n b) h, leaves_objects n old new (ap (λ (s : StoreState). s.objects) h))
  closes_blind false old new h = (ap (blind n b) h, leaves_same n old new h)

  step_blind : (m new : MachineState) (s t : StoreState) (a : Stepped) → is_granted m.grants false n ≡ false → TableStep (store_memory who) m s a new t
      → TableStep (store_memory who) m (blind n b s) a new (blind n b t) × Leaves n s t
  step_blind m new s t a l h =
      let c = case_blind m s h.mid _ l (step_case (store_memory who) m.stop m s _ h.mid refl h.steps) in
      let d = closes_blind h.closes h.mid t h.closed in
      (record { closes = h.closes; mid = blind n b h.mid; steps = c.0; closed = d.0 }, leaves_both n s h.mid t c.1 d.1)

  -- ---- machines

  walk : (w : Way) (old new : Debuggee) (s t : StoreState) (replied : StepReply) → LacksGrant n old → Walks (store_memory who) w old s replied new t
      → Walks (store_memory who) w old (blind n b s) replied new (blind n b t) × Leaves n s t × (new.machine.grants ≡ old.machine.grants)
  walk w old new s t replied l d =
      let h = step_blind old.machine d.machine s t d.answer l d.step in (
        record { goes = d.goes; answer = d.answer; machine = d.machine; step = h.0; replied = d.replied; changed = d.changed },
        h.1,
        ap (λ (x : Debuggee). x.machine.grants) d.changed ∙ keeps (store_memory who) old.machine d.machine s t d.answer d.step,
      )

  step : (w : Way) (old new : Debuggee) (s t : StoreState) (replied : StepReply) → LacksGrant n old → AnswersStep (store_memory who) w old s replied new t
      → AnswersStep (store_memory who) w old (blind n b s) replied new (blind n b t) × Leaves n s t × (new.machine.grants ≡ old.machine.grants)
  step w old new s t (step_reply.Paused slot) l h = (
    record { held = h.held; slot_is = h.slot_is; changed = h.changed; same = ap (blind n b) h.same },
    leaves_same n s t h.same,
    ap (λ (x : Debuggee). x.machine.grants) h.changed,
  )
  step w old new s t replied l h = walk w old new s t replied l h

  command : (c : MachineCommand) (old new : Debuggee) (s t : StoreState) (r : Reply) → LacksGrant n old → AnswersCommand (store_memory who) old s who c r new t
      → AnswersCommand (store_memory who) old (blind n b s) who c r new (blind n b t) × Leaves n s t × (new.machine.grants ≡ old.machine.grants)
  command (Step w) old new s t r l h = let k = step w old new s t h.0 l h.2 in ((h.0, h.1, k.0), k.1, k.2)
  command (Show c) old new s t r l h = ((h.0, h.1, h.2, h.3, ap (blind n b) h.4), leaves_same n s t h.4, ap (λ (x : Debuggee). x.machine.grants) h.3)
  command (Debug c) old new s t r l h = ((h.0, h.1, h.2, ap (blind n b) h.3), leaves_same n s t h.3, ap (λ (x : Debuggee). x.machine.grants) h.2.1)

either_number : {P : Type 0} (k n : ℕ) → (k ≡ n → P) → (k ≢ n → P) → P
either_number {P} k n f g = elim (nat_eq k n) as (λ b. nat_eq k n ≡ b → P) [
  | true ↦ λ e. f (grind (arith, nat_tests))
  | false ↦ λ e. g (grind (arith, nat_tests))
] refl

abbrev LackingIn : ℕ → (ℕ → Bool) → List Debuggee → Type 0
LackingIn n is_ours ms = (m : ℕ) (d : Debuggee) → is_ours m ≡ true → machine_at ms m ≡ Some d → LacksGrant n d

written_back : (n : ℕ) (is_ours : ℕ → Bool) (ms : List Debuggee) (m : ℕ) (x y : Debuggee) → machine_at ms m ≡ Some x → LacksGrant n y
    → LackingIn n is_ours ms → LackingIn n is_ours (with_machine ms m y)
written_back n is_ours ms m x y f l all = λ k d o e. either_number k m
    (λ (t : k ≡ m). subst (LacksGrant n) (found_once _ y d (found_set ms m x y f) (subst (λ j. machine_at (with_machine ms m y) j ≡ Some d) t e)) l)
    (λ t. all k d o (sym (other_machine ms m k x y f t) ∙ e))

machine : (n : ℕ) (b : List ℕ) (is_ours : ℕ → Bool) (who : ℕ) (c : MachineCommand) (old new : List Debuggee) (s t : StoreState) (r : Reply)
    → is_ours who ≡ true → LackingIn n is_ours old
    → AnswersMachine (store_memory who) old s who c r new t
    → AnswersMachine (store_memory who) old (blind n b s) who c r new (blind n b t) × Leaves n s t × LackingIn n is_ours new
machine n b is_ours who c old new s t r o all (inl h) = (
  inl (record { none = h.none; replied = h.replied; unchanged = h.unchanged; same = ap (blind n b) h.same }),
  leaves_same n s t h.same,
  subst (LackingIn n is_ours) (sym h.unchanged) all,
)
machine n b is_ours who c old new s t r o all (inr h) =
    let l = all who h.debuggee o h.found in
    let k = command n b who c h.debuggee h.became s t r l h.answers in (
      inr (record { debuggee = h.debuggee; became = h.became; found = h.found; answers = k.0; changed = h.changed }),
      k.1,
      subst (LackingIn n is_ours) (sym h.changed)
          (written_back n is_ours old who h.debuggee h.became h.found (subst (λ (g : GrantState). is_granted g false n ≡ false) (sym k.2) l) all),
    )

-- ---- a machine that is shipped

last_or_before : (ms : List Debuggee) (x d : Debuggee) (m : ℕ) → slice_get (ms ++ x ∷ []) m ≡ Some d → (slice_get ms m ≡ Some d) ⊎ (x ≡ d)
last_or_before [] x d zero e = inr (cc)
last_or_before [] x d (suc m) e = absurd (cc)
last_or_before (y ∷ ms) x d zero e = inl e
last_or_before (y ∷ ms) x d (suc m) e = last_or_before ms x d m e

one_more : (n : ℕ) (is_ours : ℕ → Bool) (ms : List Debuggee) (x : Debuggee) → LacksGrant n x → LackingIn n is_ours ms → LackingIn n is_ours (ms ++ x ∷ [])
one_more n is_ours ms x l all zero d o e = absurd (cc)
one_more n is_ours ms x l all (suc m) d o e = elim (last_or_before ms x d m e) [
  | inl f ↦ all (suc m) d o f
  | inr f ↦ subst (LacksGrant n) f l
]

shipped : (n : ℕ) (is_ours : ℕ → Bool) (old new : List Debuggee) (start : Start) (code : List ℕ) (r : Reply)
    → is_granted start.grants false n ≡ false → LackingIn n is_ours old
    → AnswersShip old start code r new → LackingIn n is_ours new
shipped n is_ours old new start code Full l all h = subst (LackingIn n is_ours) (sym h.1) all
shipped n is_ours old new start code (Refused e) l all h = subst (LackingIn n is_ours) (sym h.3) all
shipped n is_ours old new start code NoMemory l all h = subst (LackingIn n is_ours) (sym h.2) all
shipped n is_ours old new start code (Shipped m) l all h = subst (LackingIn n is_ours) (sym h.3) (one_more n is_ours old _ l all)
shipped n is_ours old new start code _ l all h = absurd h

-- ---- objects

module _ (n : ℕ) (b : List ℕ) (k : ℕ) (h : k ≢ n) where
  put : (o : ℕ) (c : List ℕ) (old new : WorldState) (r : Reply) → AnswersPut old k o c r new
      → AnswersPut (with_other n b old) k o c r (with_other n b new) × Leaves n old.store new.store
  put o c old new Outside g = (
    (
      ((λ i. g.0.0 (subst (λ (y : List ℕ). EndsInside (Reads o (length c)) (length y)) (other old.store.objects n k b h) i)), ap (blind n b) g.0.1),
      ap (with_other n b) g.1,
    ),
    leaves_same n old.store new.store g.0.1,
  )
  put o c old new (Away j) g = (
    (
      g.0,
      (
        (
          subst (λ (y : List ℕ). EndsInside (Reads o (length c)) (length y)) (sym (other old.store.objects n k b h)) g.1.0.0,
          g.1.0.1,
          ap (blind n b) g.1.0.2,
        ),
        ap (with_other n b) g.1.1,
      ),
    ),
    leaves_same n old.store new.store g.1.0.2,
  )
  put o c old new Done g =
      let e = other old.store.objects n k b h in
      let d = left_by (Writes o c) (bytes_of old.store.objects k) in
      let both : set (set old.store.objects k d) n b ≡ set (set old.store.objects n b) k (left_by (Writes o c) (bytes_of (set old.store.objects n b) k)) =
      set_commutes old.store.objects k n d b h ∙ ap (λ (y : List ℕ). set (set old.store.objects n b) k (left_by (Writes o c) y)) (sym e) in (
        (
          (
            subst (λ (y : List ℕ). EndsInside (Reads o (length c)) (length y)) (sym e) g.0.0,
            g.0.1,
            ap (blind n b) g.0.2 ∙ ap (λ (os : List (List ℕ)). record old.store { objects = os }) both,
          ),
          ap (with_other n b) g.1,
        ),
        leaves_set n old.store new.store k d h (ap (λ (s : StoreState). s.objects) g.0.2),
      )
  put o c old new _ g = absurd g

  get : (s : StoreState) (o z : ℕ) (r : Reply) → AnswersGet s k o z r → AnswersGet (blind n b s) k o z r
  get s o z Outside g = λ i. g (subst (λ (y : List ℕ). EndsInside (Reads o z) (length y)) (other s.objects n k b h) i)
  get s o z (Away j) g = (g.0, (subst (λ (y : List ℕ). EndsInside (Reads o z) (length y)) (sym (other s.objects n k b h)) g.1.0, g.1.1))
  get s o z NoMemory g = (subst (λ (y : List ℕ). EndsInside (Reads o z) (length y)) (sym (other s.objects n k b h)) g.0, g.1)
  get s o z (Bytes x) g = (
    subst (λ (y : List ℕ). EndsInside (Reads o z) (length y)) (sym (other s.objects n k b h)) g.0,
    g.1,
    g.2 ∙ ap (part o z) (sym (other s.objects n k b h)),
  )
  get s o z _ g = absurd g

  object : (c : ObjectCommand) (old new : WorldState) (r : Reply) → Suits n b old.store → AnswersObject old k c r new
      → AnswersObject (with_other n b old) k c r (with_other n b new) × Leaves n old.store new.store × (new.machines ≡ old.machines)
  object Free old new r f g =
      let d = frees_blind n b k h old.store new.store g.moved f g.move in
      (record { moved = g.moved; move = d.0; replied = g.replied; changed = ap (with_other n b) g.changed }, d.1, ap (λ (w : WorldState). w.machines) g.changed)
  object (Move kind) old new r f g =
      let d = moves_blind n b k h kind old.store new.store g.moved f g.move in
      (record { moved = g.moved; move = d.0; replied = g.replied; changed = ap (with_other n b) g.changed }, d.1, ap (λ (w : WorldState). w.machines) g.changed)
  object (Put o c) old new r f g = let d = put o c old new r g in (d.0, d.1, put_machines r g)
    where
      put_machines : (r : Reply) → AnswersPut old k o c r new → new.machines ≡ old.machines
      put_machines Outside g = ap (λ (w : WorldState). w.machines) g.1
      put_machines (Away j) g = ap (λ (w : WorldState). w.machines) g.1.1
      put_machines Done g = ap (λ (w : WorldState). w.machines) g.1
      put_machines _ g = absurd g
  object (Get o z) old new r f g = (
    (get old.store o z r g.0, ap (with_other n b) g.1),
    leaves_same n old.store new.store (ap (λ (w : WorldState). w.store) g.1),
    ap (λ (w : WorldState). w.machines) g.1,
  )

make : (n : ℕ) (b : List ℕ) (z : ℕ) (old new : WorldState) (r : Reply) → Suits n b old.store → AnswersMake old z r new
    → AnswersMake (with_other n b old) z r (with_other n b new) × Leaves n old.store new.store × (new.machines ≡ old.machines)
make n b z old new Full f g =
    let l = length-set old.store.objects n b in (
      ((omega (arith, l, g.0.0), ap (blind n b) g.0.1), ap (with_other n b) g.1),
      leaves_same n old.store new.store g.0.1,
      ap (λ (w : WorldState). w.machines) g.1,
    )
make n b z old new NoRoom f g =
    let l = length-set old.store.objects n b in
    let x = near_same old.store.objects old.store.places n b f.long in (
      (((λ i. g.0.0 (omega (arith, l, i))), (λ r. g.0.1 (omega (arith, x, r))), ap (blind n b) g.0.2), ap (with_other n b) g.1),
      leaves_same n old.store new.store g.0.2,
      ap (λ (w : WorldState). w.machines) g.1,
    )
make n b z old new NoMemory f g =
    let l = length-set old.store.objects n b in
    let x = near_same old.store.objects old.store.places n b f.long in (
      (((λ i. g.0.0 (omega (arith, l, i))), omega (arith, x, g.0.1), ap (blind n b) g.0.2), ap (with_other n b) g.1),
      leaves_same n old.store new.store g.0.2,
      ap (λ (w : WorldState). w.machines) g.1,
    )
make n b z old new (Made m) f g =
    let l = length-set old.store.objects n b in
    let x = near_same old.store.objects old.store.places n b f.long in
    let longer = set-append_left old.store.objects (replicate z 0 ∷ []) n b f.there in (
      (
        (
          (λ i. g.0.0 (omega (arith, l, i))),
          omega (arith, x, g.0.1),
          g.0.2 ∙ sym l,
          ap (blind n b) g.0.3 ∙ ap (λ (os : List (List ℕ)). record old.store { objects = os; places = old.store.places ++ place.Here ∷ [] }) longer,
        ),
        ap (with_other n b) g.1,
      ),
      leaves_more n old.store new.store (replicate z 0) f.there (ap (λ (s : StoreState). s.objects) g.0.3),
      ap (λ (w : WorldState). w.machines) g.1,
    )
make n b z old new _ f g = absurd g

-- ---- all commands

one : (n : ℕ) (is_ours : ℕ → Bool) (b : List ℕ) (old new : WorldState) (c : Event) (r : Reply) → Suits n b old.store → LackingIn n is_ours old.machines
    → KeepsOff n is_ours c → Answers old c r new
    → Answers (with_other n b old) c r (with_other n b new) × Suits n b new.store × LackingIn n is_ours new.machines
one n is_ours b old new (Make z) r f all k g =
    let d = make n b z old new r f g in
    (d.0, suits_on n b old.store new.store f d.1, subst (LackingIn n is_ours) (sym d.2) all)
one n is_ours b old new (Ship start code) r f all k g = (
  (g.0, ap (blind n b) g.1),
  suits_on n b old.store new.store f (leaves_same n old.store new.store g.1),
  shipped n is_ours old.machines new.machines start code r k all g.0,
)
one n is_ours b old new (Object j c) r f all k g =
    let d = object n b j k c old new r f g in
    (d.0, suits_on n b old.store new.store f d.1, subst (LackingIn n is_ours) (sym d.2) all)
one n is_ours b old new (Machine m c) r f all k g =
    let d = machine n b is_ours m c old.machines new.machines old.store new.store r k all g in
    (d.0, suits_on n b old.store new.store f d.1, d.2)

run : (n : ℕ) (is_ours : ℕ → Bool) (b : List ℕ) (old new : WorldState) (cs : List Event) (rs : List Reply) → Suits n b old.store
    → LackingIn n is_ours old.machines → All (KeepsOff n is_ours) cs
    → Runs Answers old cs rs new → Runs Answers (with_other n b old) cs rs (with_other n b new)
run n is_ours b old new [] [] f all k g = ap (with_other n b) g
run n is_ours b old new (c ∷ cs) (r ∷ rs) f all k g =
    let d = one n is_ours b old g.0 c r f all (All-head (KeepsOff n is_ours) c cs k) g.1 in
    (with_other n b g.0, d.0, run n is_ours b g.0 new cs rs d.1 d.2 (All-tail (KeepsOff n is_ours) c cs k) g.2)
run n is_ours b old new [] (r ∷ rs) f all k g = absurd g
run n is_ours b old new (c ∷ cs) [] f all k g = absurd g

pub runs_are_confined : RunsAreConfined
runs_are_confined n is_ours bytes old new cs rs live long all k g =
    run n is_ours bytes old new cs rs (record { there = is_there old.store.objects n live; long = long }) all k g
