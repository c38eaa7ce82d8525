-- The slots that are with the mover, in turns, and its phases.
use Rattle.std.proofs.Common.{◌≡◌, ℕ, zero, suc, ◌+◌, ◌<◌, ◌≤◌, ◌≢◌, List, [], ◌∷◌, ◌++◌, length, set, map, take, drop, get_or, replicate, sym, refl, ap, ◌∙◌}
use Rattle.std.proofs.Common.{arith, cond, eq-eqb, ne_eqb, length-append, length-set, subst, Some}
use Rattle.std.specs.Prelude.{slice_index_or, slice_set, vec_capacity}
use Rattle.std.proofs.lemmas.List.{map-set}
use mathlib.Core.Logic.{dite}
use native.Mathlib.Decide.{ℕ_discrete}
use Rattle.atomic_table.specs.Table.{turned, rest}
use Rattle.shared_objects.specs.Rule.{times, total, place_of, bytes_taken, is_moving}
use Rattle.shared_objects.specs.Kinds.{placed}
use Rattle.shared_objects.specs.Phases.{phase_of, place_in, Makes}
use Rattle.shared_objects.specs.declared.body.Body.{Body}
use Rattle.shared_objects.specs.declared.view.Whereabouts.{Whereabouts}
use Rattle.shared_objects.specs.declared.view.Whereabouts.TheVariants.{Here, Moving, Far}
use Rattle.shared_objects.specs.declared.seats.MoverSeat.{MoverSeat}
use Rattle.shared_objects.specs.declared.seats.Phase.{Phase}
use Rattle.shared_objects.specs.declared.seats.Phase.TheVariants as phases
use Rattle.shared_objects.specs.declared.view.View.{View}
use Rattle.shared_objects.proofs.Sums.{is_here, is_else, total_few}
use Rattle.shared_objects.proofs.Keeps.{none_is_not}
use Rattle.shared_objects.proofs.Steps.{placed_here, placed_else}

pub times-append : (n : ℕ) (xs ys : List ℕ) → times n (xs ++ ys) ≡ times n xs + times n ys
times-append n [] ys = omega arith
times-append n (x ∷ xs) ys = omega (arith, times-append n xs ys)

abbrev pub numbers : List (ℕ × Body) → List ℕ
numbers c = map (λ (p : ℕ × Body). p.0) c

pub map-append : (xs ys : List (ℕ × Body)) → numbers (xs ++ ys) ≡ numbers xs ++ numbers ys
map-append [] ys = refl
map-append (x ∷ xs) ys = ap (λ l. x.0 ∷ l) (map-append xs ys)

-- the numbers turn with the slots
pub numbers_turned : (c : List (ℕ × Body)) → numbers (turned c) ≡ drop 1 (numbers c) ++ take 1 (numbers c)
numbers_turned [] = refl
numbers_turned (x ∷ xs) = map-append xs (x ∷ [])

-- the first is taken off and put on at the end
pub first_last : (l : List ℕ) (x : ℕ) → 0 < length l → x ≡ get_or l 0 x → drop 1 l ++ x ∷ [] ≡ drop 1 l ++ take 1 l
first_last [] x h e = absurd (omega arith)
first_last (y ∷ ys) x h e = ap (λ z. ys ++ z ∷ []) e

pub times_turned : (m : ℕ) (l : List ℕ) → times m (drop 1 l ++ take 1 l) ≡ times m l
times_turned m [] = refl
times_turned m (x ∷ xs) = omega (arith, times-append m xs (x ∷ []))

pub times_long : (l : List ℕ) → length (drop 1 l ++ take 1 l) ≡ length l
times_long [] = refl
times_long (x ∷ xs) = omega (arith, length-append xs (x ∷ []))

place_on : (n x : ℕ) (xs : List ℕ) → x ≢ n → place_in n (x ∷ xs) ≡ place_in n xs + 1
place_on n x xs ne = ap (λ b. cond b 0 (place_in n xs + 1)) (ne_eqb x n ne)

place_here : (n x : ℕ) (xs : List ℕ) → x ≡ n → place_in n (x ∷ xs) ≡ 0
place_here n x xs e = ap (λ b. cond b 0 (place_in n xs + 1)) (eq-eqb x n e)

place_longer : (n x : ℕ) (xs : List ℕ) → 0 < times n xs → place_in n (xs ++ x ∷ []) ≡ place_in n xs
place_longer n x [] h = absurd (omega arith)
place_longer n x (y ∷ ys) h = dite (ℕ_discrete y n)
    (λ e. place_here n y (ys ++ x ∷ []) e ∙ sym (place_here n y ys e))
    (λ ne. place_on n y (ys ++ x ∷ []) ne ∙ ap (λ k. k + 1) (place_longer n x ys (omega (arith, is_else y n ne))) ∙ sym (place_on n y ys ne))

-- a turn brings the object nearer
pub nearer : (n : ℕ) (l : List ℕ) (y : ℕ) → y ≡ get_or l 0 y → y ≢ n → 0 < times n l → place_in n (drop 1 l ++ take 1 l) < place_in n l
nearer n [] y e ne h = absurd (omega arith)
nearer n (x ∷ xs) y e ne h = let other : x ≢ n = λ q. ne (e ∙ q) in omega (arith, place_on n x xs other, place_longer n x xs (omega (arith, is_else x n other)))

pub some_held : (n : ℕ) (l : List ℕ) → 0 < times n l → 0 < length l
some_held n [] h = absurd (omega arith)
some_held n (x ∷ xs) h = omega arith

pub first_is : (n : ℕ) (l : List ℕ) → 0 < length l → get_or l 0 n ≡ n → (rest : List ℕ) × (l ≡ n ∷ rest)
first_is n [] h e = absurd (omega arith)
first_is n (x ∷ xs) h e = (xs, ap (λ y. y ∷ xs) e)

-- a slot stands where its number does
pub first_slot : (c : List (ℕ × Body)) (n : ℕ) (r : List ℕ) → numbers c ≡ n ∷ r → (x : Body) × (c ≡ (n, x) ∷ rest c)
first_slot [] n r e = absurd (omega (arith, ap length e))
first_slot (p ∷ ps) n r e = (p.1, ap (λ (k : ℕ). (k, p.1) ∷ ps) (ap (λ (l : List ℕ). get_or l 0 0) e))

pub numbers_rest : (c : List (ℕ × Body)) → drop 1 (numbers c) ≡ numbers (rest c)
numbers_rest [] = refl
numbers_rest (p ∷ ps) = refl

-- ---- where an object is

inside_list : (l : List Whereabouts) (n : ℕ) (bytes : List ℕ) → bytes_taken (slice_index_or l n Here) ≡ Some bytes → n < length l
inside_list [] n bytes e = absurd (none_is_not bytes e)
inside_list (x ∷ xs) zero bytes e = omega arith
inside_list (x ∷ xs) (suc n) bytes e = omega (arith, inside_list xs n bytes e)

-- an object that is out has a place in the list
pub inside : (v : View) (n : ℕ) (bytes : List ℕ) → bytes_taken (place_of v n) ≡ Some bytes → n < length v.out
inside v n bytes e = inside_list v.out n bytes e

-- how many objects are on their way, after one of them has another place
pub total_placed : (l : List Whereabouts) (n : ℕ) (p : Whereabouts) → n < length l
    → total is_moving (slice_set l n p) + is_moving (slice_index_or l n Here) ≡ total is_moving l + is_moving p
total_placed [] n p h = absurd (omega arith)
total_placed (x ∷ xs) zero p h = omega arith
total_placed (x ∷ xs) (suc n) p h = omega (arith, total_placed xs n p (omega arith))

few_moving : (p : Whereabouts) → is_moving p ≤ 1
few_moving Here = omega arith
few_moving (Moving bytes) = omega arith
few_moving (Far bytes) = omega arith

all_moving : (l : List Whereabouts) → total is_moving l ≤ length l
all_moving l = total_few is_moving l (λ j v e. few_moving v)

-- where one isn't on its way, fewer are than there are objects
pub room_left : (l : List Whereabouts) (n : ℕ) → n < length l → is_moving (slice_index_or l n Here) ≡ 0 → total is_moving l < length l
room_left [] n h e = absurd (omega arith)
room_left (x ∷ xs) zero h e = omega (arith, all_moving xs)
room_left (x ∷ xs) (suc n) h e = omega (arith, room_left xs n (omega arith) e, few_moving x)

no_moving : phases.In ≡ phases.Moving → ⊥
no_moving e = cc

no_moving' : phases.Far ≡ phases.Moving → ⊥
no_moving' e = cc

no_far : phases.In ≡ phases.Far → ⊥
no_far e = cc

no_far' : phases.Moving ≡ phases.Far → ⊥
no_far' e = cc

no_in : phases.Moving ≡ phases.In → ⊥
no_in e = cc

no_in' : phases.Far ≡ phases.In → ⊥
no_in' e = cc

pub is_moving_place : (p : Whereabouts) → phase_of p ≡ phases.Moving → (bytes : List ℕ) × (p ≡ Moving bytes)
is_moving_place Here e = absurd (no_moving e)
is_moving_place (Moving bytes) e = (bytes, refl)
is_moving_place (Far bytes) e = absurd (no_moving' e)

pub is_far_place : (p : Whereabouts) → phase_of p ≡ phases.Far → (bytes : List ℕ) × (p ≡ Far bytes)
is_far_place Here e = absurd (no_far e)
is_far_place (Moving bytes) e = absurd (no_far' e)
is_far_place (Far bytes) e = (bytes, refl)

pub is_here_place : (p : Whereabouts) → phase_of p ≡ phases.In → p ≡ Here
is_here_place Here e = refl
is_here_place (Moving bytes) e = absurd (no_in e)
is_here_place (Far bytes) e = absurd (no_in' e)

pub all_in : {A B : Type 0} (xs : List A) (ys : List B) → length xs ≡ length ys → map (λ (_ : A). phases.In) xs ≡ map phase_of (map (λ (_ : B). Here) ys)
all_in [] [] e = refl
all_in [] (y ∷ ys) e = absurd (omega (arith, e))
all_in (x ∷ xs) [] e = absurd (omega (arith, e))
all_in (x ∷ xs) (y ∷ ys) e = ap (λ l. phases.In ∷ l) (all_in xs ys (omega (arith, e)))

-- ---- after a step of the mover

phased_after : (ps : List Phase) (out : List Whereabouts) (n : ℕ) (p : Whereabouts) (q : Phase) → ps ≡ map phase_of out → phase_of p ≡ q
    → slice_set ps n q ≡ map phase_of (slice_set out n p)
phased_after ps out n p q e is = ap (λ l. set l n q) e ∙ ap (set (map phase_of out) n) (sym is) ∙ sym (map-set phase_of out n p)

-- one more is on its way
held_taken : (v : View) (n : ℕ) (p : Whereabouts) (order : List ℕ) → ((m : ℕ) → is_moving (place_of v m) ≡ 1 → 0 < times m order)
    → (m : ℕ) → is_moving (place_of (placed n p v) m) ≡ 1 → 0 < times m (order ++ n ∷ [])
held_taken v n p order held m e = dite (ℕ_discrete n m)
    (λ here. omega (arith, times-append m order (n ∷ []), is_here n m here))
    (λ ne. let old = held m (sym (ap is_moving (placed_else v n p m (λ q. ne (sym q)))) ∙ e) in omega (arith, times-append m order (n ∷ [])))

-- one is on its way no more
held_landed : (v : View) (n : ℕ) (p : Whereabouts) (order before rest : List ℕ) → n < length v.out → is_moving p ≡ 0 → before ≡ n ∷ rest
    → ((m : ℕ) → times m before ≡ times m order) → ((m : ℕ) → is_moving (place_of v m) ≡ 1 → 0 < times m order)
    → (m : ℕ) → is_moving (place_of (placed n p v) m) ≡ 1 → 0 < times m rest
held_landed v n p order before rest wide still is same_times held m e = dite (ℕ_discrete n m)
    (λ here. absurd (let z : is_moving (place_of (placed n p v) m) ≡ 0 = ap is_moving (ap (place_of (placed n p v)) (sym here) ∙ placed_here v n p wide)
    ∙ still in omega (arith, z, e)))
    (λ ne. let old = held m (sym (ap is_moving (placed_else v n p m (λ q. ne (sym q)))) ∙ e) in omega (arith, same_times m, ap (times m) is, is_else n m ne))

-- a mover's seat: its view, its slots, its phases, and the numbers of its slots, with room for so many
abbrev MoverFits : View → List (ℕ × Body) → List Phase → List ℕ → ℕ → Type 0
MoverFits v slots named order most = record {
  makes : Makes v;
  phased : named ≡ map phase_of v.out;
  wide : length v.out ≡ length v.opening;
  ordered : order ≡ numbers slots;
  held : (m : ℕ) → is_moving (place_of v m) ≡ 1 → 0 < times m order;
  counted : length order ≡ total is_moving v.out;
  room : length v.opening ≤ most;
}

module _ (m : MoverSeat) (w : View) (n : ℕ) (p : Whereabouts) (new : List (ℕ × Body)) (phase : Phase) (after : List ℕ) (most : ℕ)
    (within : n < length m.seat.me.0.out) (is : w ≡ placed n p m.seat.me.0) (is_phase : phase_of p ≡ phase) (slots : after ≡ numbers new)
    (roomy : vec_capacity m.order ≤ most) where
  placed_fits : ((k : ℕ) → is_moving (place_of (placed n p m.seat.me.0) k) ≡ 1 → 0 < times k after)
      → length after + is_moving (place_of m.seat.me.0 n) ≡ length m.order.items + is_moving p → MoverFits w new (slice_set m.phases.items n phase) after most
  placed_fits held count = subst (λ u. MoverFits u new (slice_set m.phases.items n phase) after most) (sym is) (record {
    makes = m.makes;
    phased = phased_after m.phases.items m.seat.me.0.out n p phase m.phased is_phase;
    wide = length-set m.seat.me.0.out n p ∙ m.wide;
    ordered = slots;
    held = held;
    counted = omega (arith, count, m.counted, total_placed m.seat.me.0.out n p within);
    room = omega (arith, m.room);
  })

  -- one more is on its way, behind the others
  pub taken_fits : after ≡ m.order.items ++ n ∷ [] → is_moving (place_of m.seat.me.0 n) ≡ 0 → is_moving p ≡ 1
      → MoverFits w new (slice_set m.phases.items n phase) after most
  taken_fits longer was still = placed_fits (subst (λ l. (k : ℕ) → is_moving (place_of (placed n p m.seat.me.0) k) ≡ 1
      → 0 < times k l) (sym longer) (held_taken m.seat.me.0 n p m.order.items m.held))
      (omega (arith, ap length longer, length-append m.order.items (n ∷ []), was, still))

  -- the first of them is on its way no more
  pub landed_fits : (before : List ℕ) → before ≡ n ∷ after → ((k : ℕ) → times k before ≡ times k m.order.items) → length before ≡ length m.order.items
      → is_moving (place_of m.seat.me.0 n) ≡ 1 → is_moving p ≡ 0
      → MoverFits w new (slice_set m.phases.items n phase) after most
  landed_fits before first same_times as_long was still =
      placed_fits (held_landed m.seat.me.0 n p m.order.items before after within still first same_times m.held)
      (omega (arith, ap length first, as_long, was, still))

abbrev pub zeros : ℕ → List ℕ
zeros k = replicate k 0

pub zeros_at : (k n : ℕ) → get_or (zeros k) n 0 ≡ 0
zeros_at zero n = refl
zeros_at (suc k) zero = refl
zeros_at (suc k) (suc n) = zeros_at k n

pub zeros_long : (k : ℕ) → length (zeros k) ≡ k
zeros_long zero = refl
zeros_long (suc k) = omega (arith, zeros_long k)

-- at first no object is on its way
pub none_on_way : {A : Type 0} (xs : List A) → total is_moving (map (λ (_ : A). Here) xs) ≡ 0
none_on_way [] = refl
none_on_way (x ∷ xs) = omega (arith, none_on_way xs)
