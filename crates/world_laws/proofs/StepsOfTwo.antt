-- Steps of two machines over one store: what they do to it commute.
use Rattle.std.proofs.Common.{◌≡◌, ◌≢◌, ℕ, Bool, true, false, List, [], length, get_or, set, refl, sym, ap, ◌∙◌, subst, inl, inr}
use Rattle.std.proofs.lemmas.List.{get_or-set_other}
use Rattle.memory.specs.declared.access.Op.{Op}
use Rattle.memory.specs.declared.access.Reach.{Reach}
use Rattle.memory.specs.declared.access.Reach.TheVariants as reach
use Rattle.memory.specs.Access.{IsInside, answer, after}
use Rattle.memory.specs.Memories.{Memories}
use Rattle.memory.specs.Objects.{bytes_of, with_bytes}
use Rattle.memory.proofs.Accesses.{set_commutes}
use Rattle.memory.proofs.Lengths.{length-after, length-set_at}
use Rattle.scopes.specs.Windows.{noted}
use Rattle.placement.specs.declared.places.Place.{Place}
use Rattle.placement.specs.declared.places.Place.TheVariants.{Here}
use Rattle.object_store.specs.Stores.{StoreState, store_memory, place_of, window_of, with_window}
use Rattle.machine.specs.declared.state.Stepped.{Stepped}
use Rattle.machine.specs.MachineState.{MachineState}
use Rattle.machine.specs.Rows.{Request, Answer, Outcome, asks}
use Rattle.machine.specs.Rows.Request.{Nothing, Touch, Measure}
use Rattle.machine.specs.TableStep.{TableStep, AnswersRequest, Closes, StepsFrom}
use Rattle.machine.specs.Laws.{AccessesNext}
use Rattle.machine.proofs.StepCases.{StepCase, step_case, steps_answered, steps_stayed}
use Rattle.machine.proofs.Others.{no_touch}

-- ---- a step as a request and its answer, which does it again over any other store

record Asked {M : Type 0} (mem : Memories M) (m : MachineState) (o : Outcome) (before mid : M) : Type 0 where
  request : Request
  said : Answer request
  answers : AnswersRequest mem request before said mid
  touches : (n : ℕ) (op : Op) → request ≡ Touch n op → AccessesNext m n
  again : (x y : M) → AnswersRequest mem request x said y → StepsFrom m.stop mem m x o y

over : {M : Type 0} (mem : Memories M) (m : MachineState) (o p : Outcome) (x y : M) → o ≡ p → y ≡ x → StepsFrom m.stop mem m x p x
    → StepsFrom m.stop mem m x o y
over mem m o p x y e f s = rw (e, f) s

case_asked : {M : Type 0} (mem : Memories M) (m : MachineState) (o : Outcome) (before mid : M) → StepCase mem m before o mid → Asked mem m o before mid
case_asked mem m o before mid (inl d) = record {
  request = Nothing;
  said = tt;
  answers = d.same;
  touches = λ n op e. no_touch n op e;
  again = λ x y e. over mem m o _ x y d.becomes e (steps_stayed mem m.stop d.stop m x d.stopped);
}
case_asked mem m o before mid (inr (inl d)) = record {
  request = Nothing;
  said = tt;
  answers = d.same;
  touches = λ n op e. no_touch n op e;
  again = λ x y e. over mem m o _ x y d.becomes e (d.again x);
}
case_asked mem m o before mid (inr (inr d)) = record {
  request = asks d.instr m;
  said = d.said;
  answers = d.answers;
  touches = λ n op e. record { instr = d.instr; op = op; attempts = d.attempts; asks = e };
  again = λ x y a. subst (λ (p : Outcome). StepsFrom m.stop mem m x p y) (sym d.becomes) (steps_answered mem d.instr m x y d.said d.attempts a);
}

-- ---- what a request does to the store

abbrev touched : ℕ → ℕ → Op → StoreState → StoreState
touched who n op s = record s {
  objects = with_bytes s.objects n (after op (bytes_of s.objects n));
  windows = set s.windows who (noted n (window_of s.windows who));
}

abbrev effect : ℕ → (q : Request) → Answer q → StoreState → StoreState
effect who (Touch n op) (reach.Done v) s = touched who n op s
effect who _ _ s = s

abbrev closed : Bool → ℕ → StoreState → StoreState
closed true who s = with_window s who []
closed false who s = s

-- what is answered, by the bytes and the place of the object
abbrev Allows : Op → List ℕ → Place → Reach → Type 0
Allows op bytes p reach.Outside = IsInside op (length bytes) → ⊥
Allows op bytes p reach.Away = IsInside op (length bytes) × (p ≡ Here → ⊥)
Allows op bytes p (reach.Done v) = IsInside op (length bytes) × (p ≡ Here) × (v ≡ answer op bytes)
Allows op bytes p _ = ⊥

abbrev Says : StoreState → (q : Request) → Answer q → Type 0
Says s Nothing a = Unit {0}
Says s (Touch n op) r = Allows op (bytes_of s.objects n) (place_of s.places n) r
Says s (Measure n) k = k ≡ length (bytes_of s.objects n)

split : (who : ℕ) (q : Request) (a : Answer q) (x y : StoreState) → AnswersRequest (store_memory who) q x a y → Says x q a × (y ≡ effect who q a x)
split who Nothing a x y h = (tt, h)
split who (Touch n op) (reach.Done v) x y h = ((h.0, h.1, h.2), h.3)
split who (Touch n op) reach.Away x y h = ((h.0, h.1), h.2)
split who (Touch n op) reach.Outside x y h = (h.0, h.1)
split who (Touch n op) reach.Busy x y h = absurd h
split who (Touch n op) reach.Worn x y h = absurd h
split who (Measure n) k x y h = (h.0, h.1)

join : (who : ℕ) (q : Request) (a : Answer q) (x : StoreState) → Says x q a → AnswersRequest (store_memory who) q x a (effect who q a x)
join who Nothing a x h = refl
join who (Touch n op) (reach.Done v) x h = (h.0, h.1, h.2, refl)
join who (Touch n op) reach.Away x h = (h.0, h.1, refl)
join who (Touch n op) reach.Outside x h = (h, refl)
join who (Touch n op) reach.Busy x h = absurd h
join who (Touch n op) reach.Worn x h = absurd h
join who (Measure n) k x h = (h, refl)

closes_so : (b : Bool) (who : ℕ) (x y : StoreState) → Closes b (store_memory who) x y → y ≡ closed b who x
closes_so true who x y h = h
closes_so false who x y h = h

so_closes : (b : Bool) (who : ℕ) (x y : StoreState) → y ≡ closed b who x → Closes b (store_memory who) x y
so_closes true who x y h = h
so_closes false who x y h = h

-- ---- two that are done

-- two that change by what they were
changed_commute : (xs : List (List ℕ)) (n m : ℕ) (f g : List ℕ → List ℕ) → n ≢ m
    → set (set xs n (f (get_or xs n []))) m (g (get_or (set xs n (f (get_or xs n []))) m []))
    ≡ set (set xs m (g (get_or xs m []))) n (f (get_or (set xs m (g (get_or xs m []))) n []))
changed_commute xs n m f g d =
    rw (get_or-set_other xs n m (f (get_or xs n [])) [] (λ e. d (sym e)), get_or-set_other xs m n (g (get_or xs m [])) [] d)
    (set_commutes xs n m (f (get_or xs n [])) (g (get_or xs m [])) d)

touched_commute : (m k n i : ℕ) (op other : Op) (s : StoreState) → m ≢ k → n ≢ i → touched k i other (touched m n op s) ≡ touched m n op (touched k i other s)
touched_commute m k n i op other s d e =
    ap (λ (os : List (List ℕ)). record (touched k i other (touched m n op s)) { objects = os }) (changed_commute s.objects n i (after op) (after other) e)
    ∙ ap (λ (ws : List (List ℕ)). record (touched m n op (touched k i other s)) { windows = ws }) (changed_commute s.windows m k (noted n) (noted i) d)

abbrev Apart : Request → Request → Type 0
Apart q r = (n : ℕ) (op other : Op) → q ≡ Touch n op → r ≡ Touch n other → ⊥

effects_commute : (m k : ℕ) (q r : Request) (a : Answer q) (b : Answer r) (s : StoreState) → m ≢ k → Apart q r
    → effect k r b (effect m q a s) ≡ effect m q a (effect k r b s)
effects_commute m k (Touch n op) (Touch i other) (reach.Done v) (reach.Done w) s d p =
    touched_commute m k n i op other s d (λ e. p n op other refl (ap (λ j. Touch j other) (sym e)))
effects_commute m k (Touch n op) (Touch i other) (reach.Done v) _ s d p = refl
effects_commute m k (Touch n op) _ (reach.Done v) _ s d p = refl
effects_commute m k _ _ _ _ s d p = refl

effect_closed : (b : Bool) (m k : ℕ) (r : Request) (c : Answer r) (s : StoreState) → m ≢ k → effect k r c (closed b m s) ≡ closed b m (effect k r c s)
effect_closed false m k r c s d = refl
effect_closed true m k (Touch n op) (reach.Done v) s d =
    ap (λ (ws : List (List ℕ)). record (touched k n op s) { windows = ws }) (changed_commute s.windows m k (λ w. []) (noted n) d)
effect_closed true m k _ _ s d = refl

closed_commute : (b c : Bool) (m k : ℕ) (s : StoreState) → m ≢ k → closed c k (closed b m s) ≡ closed b m (closed c k s)
closed_commute true true m k s d = ap (λ (ws : List (List ℕ)). record s { windows = ws }) (set_commutes s.windows m k [] [] d)
closed_commute true false m k s d = refl
closed_commute false c m k s d = refl

abbrev acted : ℕ → (q : Request) → Answer q → Bool → StoreState → StoreState
acted who q a b s = closed b who (effect who q a s)

acted_commute : (m k : ℕ) (q r : Request) (a : Answer q) (c : Answer r) (b d : Bool) (s : StoreState) → m ≢ k → Apart q r
    → acted k r c d (acted m q a b s) ≡ acted m q a b (acted k r c d s)
acted_commute m k q r a c b d s e p =
    ap (closed d k) (effect_closed b m k r c (effect m q a s) e ∙ ap (closed b m) (effects_commute m k q r a c s e p))
    ∙ closed_commute b d m k (effect m q a (effect k r c s)) e
    ∙ ap (closed b m) (sym (effect_closed d k m q a (effect k r c s) (λ z. e (sym z))))

-- ---- what is said stays so

effect_places : (who : ℕ) (q : Request) (a : Answer q) (s : StoreState) → (effect who q a s).places ≡ s.places
effect_places who (Touch n op) (reach.Done v) s = refl
effect_places who _ _ s = refl

acted_places : (who : ℕ) (q : Request) (a : Answer q) (b : Bool) (s : StoreState) → (acted who q a b s).places ≡ s.places
acted_places who q a true s = effect_places who q a s
acted_places who q a false s = effect_places who q a s

acted_objects : (who : ℕ) (q : Request) (a : Answer q) (b : Bool) (s : StoreState) → (acted who q a b s).objects ≡ (effect who q a s).objects
acted_objects who q a true s = refl
acted_objects who q a false s = refl

effect_bytes : (who : ℕ) (q : Request) (a : Answer q) (s : StoreState) (n : ℕ) → ((op : Op) → q ≡ Touch n op → ⊥)
    → bytes_of (effect who q a s).objects n ≡ bytes_of s.objects n
effect_bytes who (Touch k op) (reach.Done v) s n d = get_or-set_other s.objects k n _ [] (λ e. d op (ap (λ j. Touch j op) (sym e)))
effect_bytes who _ _ s n d = refl

effect_lengths : (who : ℕ) (q : Request) (a : Answer q) (s : StoreState) (n : ℕ) → Says s q a
    → length (bytes_of (effect who q a s).objects n) ≡ length (bytes_of s.objects n)
effect_lengths who (Touch k op) (reach.Done v) s n h =
    length-set_at s.objects k n (after op (bytes_of s.objects k)) (length-after op (bytes_of s.objects k) h.0)
effect_lengths who _ _ s n h = refl

says_stays : (s t : StoreState) (r : Request) (c : Answer r) → t.places ≡ s.places
    → ((n : ℕ) (op : Op) → r ≡ Touch n op → bytes_of t.objects n ≡ bytes_of s.objects n)
    → ((n : ℕ) → length (bytes_of t.objects n) ≡ length (bytes_of s.objects n)) → Says s r c → Says t r c
says_stays s t Nothing c p e l h = tt
says_stays s t (Touch n op) x p e l h =
    subst (λ (o : List ℕ). Allows op o (place_of t.places n) x) (sym (e n op refl))
    (subst (λ (ps : List Place). Allows op (bytes_of s.objects n) (place_of ps n) x) (sym p) h)
says_stays s t (Measure n) k p e l h = h ∙ sym (l n)

-- ---- two steps

record Turned (m k : ℕ) (q r : Request) (a : Answer q) (c : Answer r) (b d : Bool) (x z : StoreState) : Type 0 where
  second : Says x r c
  first : Says (acted k r c d x) q a
  ends : z ≡ acted m q a b (acted k r c d x)

turned : (m k : ℕ) (q r : Request) (a : Answer q) (c : Answer r) (b d : Bool) (x y z : StoreState) → m ≢ k → Apart q r → Says x q a → y ≡ acted m q a b x
    → Says y r c → z ≡ acted k r c d y
    → Turned m k q r a c b d x z
turned m k q r a c b d x y z e p h f g i =
    let g' = subst (λ (s : StoreState). Says s r c) f g in
    let here : Says x r c = says_stays (acted m q a b x) x r c (sym (acted_places m q a b x))
    (λ n op j. sym (ap (λ (o : List (List ℕ)). bytes_of o n) (acted_objects m q a b x) ∙ effect_bytes m q a x n (λ other l. p n other op l j)))
    (λ n. sym (ap (λ (o : List (List ℕ)). length (bytes_of o n)) (acted_objects m q a b x) ∙ effect_lengths m q a x n h)) g' in
    record {
      second = here;
      first = says_stays x (acted k r c d x) q a (acted_places k r c d x)
          (λ n op j. ap (λ (o : List (List ℕ)). bytes_of o n) (acted_objects k r c d x) ∙ effect_bytes k r c x n (λ other l. p n op other j l))
          (λ n. ap (λ (o : List (List ℕ)). length (bytes_of o n)) (acted_objects k r c d x) ∙ effect_lengths k r c x n here) h;
      ends = i ∙ (ap (acted k r c d) f ∙ acted_commute m k q r a c b d x e p);
    }

-- a step, by its request and what is said
record Stepping (who : ℕ) (p : MachineState) (x : StoreState) (a : Stepped) (q : MachineState) (y : StoreState) : Type 0 where
  request : Request
  said : Answer request
  closes : Bool
  says : Says x request said
  becomes : y ≡ acted who request said closes x
  touches : (n : ℕ) (op : Op) → request ≡ Touch n op → AccessesNext p n
  again : (s t : StoreState) → Says s request said → t ≡ acted who request said closes s → TableStep (store_memory who) p s a q t

stepping_so : (who : ℕ) (p q : MachineState) (x y : StoreState) (a : Stepped) → TableStep (store_memory who) p x a q y → Stepping who p x a q y
stepping_so who p q x y a t =
    let o : Outcome = record { machine = q; answer = a; closes = t.closes } in
    let k = case_asked (store_memory who) p o x t.mid (step_case (store_memory who) p.stop p x o t.mid refl t.steps) in
    let s = split who k.request k.said x t.mid k.answers in
    record {
      request = k.request;
      said = k.said;
      closes = t.closes;
      says = s.0;
      becomes = closes_so t.closes who t.mid y t.closed ∙ ap (closed t.closes who) s.1;
      touches = k.touches;
      again = λ u v h e. record {
        closes = t.closes;
        mid = effect who k.request k.said u;
        steps = k.again u (effect who k.request k.said u) (join who k.request k.said u h);
        closed = so_closes t.closes who (effect who k.request k.said u) v e;
      };
    }

pub store_steps_commute : (m k : ℕ) (p q r s : MachineState) (before mid after : StoreState) (a b : Stepped) → m ≢ k
    → ((n : ℕ) → AccessesNext p n → AccessesNext q n → ⊥)
    → TableStep (store_memory m) p before a r mid → TableStep (store_memory k) q mid b s after
    → (other : StoreState) × TableStep (store_memory k) q before b s other × TableStep (store_memory m) p other a r after
store_steps_commute m k p q r s before mid after a b d apart t u =
    let x = stepping_so m p r before mid a t in
    let y = stepping_so k q s mid after b u in
    let c = turned m k x.request y.request x.said y.said x.closes y.closes before mid after d
    (λ n op other e f. apart n (x.touches n op e) (y.touches n other f)) x.says x.becomes y.says y.becomes in
    let other = acted k y.request y.said y.closes before in
    (other, y.again before other c.second refl, x.again other after c.first c.ends)
