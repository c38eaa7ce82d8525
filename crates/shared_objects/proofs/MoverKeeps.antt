-- Each step of the mover keeps the rule.
use Rattle.std.proofs.Common.{◌≡◌, true, false, Bool, ℕ, zero, suc, ◌≢◌, ◌+◌, ◌-◌, ◌*◌, ◌/◌, ◌%◌, ◌^◌, ◌<◌, ◌≤◌, List, [], ◌∷◌, ◌++◌, length, set, sym, refl, ap, ◌∙◌, subst, arith}
use Rattle.std.proofs.Common.{eqb, ◌⊎◌, ⊎_elim, slice_index, bit_and, min}
use prog.Atomic.{either}
use lib.Bits.{and_step, and_mask}
use Rattle.std.specs.Prelude.{nat_eq}
use mathlib.Core.Option.{some, none}
use mathlib.Core.Option as maybe
use lib.ListN.{get_elem?}
use Rattle.atomic_table.specs.Table.{State, step, Act, keeps, takes, gives, Allows}
use Rattle.atomic_table.proofs.Lists.{exchanged}
use Rattle.shared_objects.specs.History.{top}
use Rattle.memory.specs.Objects.{bytes_of}
use Rattle.shared_objects.specs.Rule.{has_moving, has_far, place_of, bytes_taken, is_moving, is_far, Stands, word_of, tally, SlotFits, Kept}
use Rattle.shared_objects.specs.Kinds.{Sat, placed, sent, called, with_cooling, cooling, begins_leave, ends_leave, begins_return, ends_return, cools}
use Rattle.shared_objects.specs.Rule.{total, cooled_on}
use Rattle.shared_objects.specs.declared.view.Cooling.{Cooling}
use Rattle.shared_objects.specs.Rule.SlotFits.{AtHome, Lent, Idle}
use Rattle.shared_objects.specs.declared.body.Body.{Body}
use Rattle.shared_objects.specs.declared.view.Whereabouts.{Whereabouts}
use Rattle.shared_objects.specs.declared.view.Whereabouts.TheVariants.{Here, Moving, Far}
use Rattle.shared_objects.specs.declared.view.View.{View}
use Rattle.shared_objects.proofs.Sums.{term_le, total-append, is_here, is_else}
use Rattle.shared_objects.proofs.Moves.{St, state, body_in, body_far}
use Rattle.shared_objects.proofs.Steps.{keeps_slot, puts, gives_back}
use Rattle.shared_objects.proofs.Logs.{object_home}
use Rattle.shared_objects.proofs.Keeps.{few_open, unmoved, none_is_not, some_is}

-- begin leave: the word was that of an object that is here, with no scope open and no turn held
pub lifts_ok : (returns : Bool) (key : List (List ℕ)) (slots id : ℕ) (m : Sat) (n old next : ℕ) → n < slots → (old % 65536 ≡ 0) ⊎ (old % 65536 ≡ 8)
    → next ≡ old - old % 65536 + 1 → n < length m.0.out → m.0.live ≡ true
    → Allows (Kept returns key) slots id m (word_of n) (λ y. either (eqb y old) next y) (begins_leave (step slots (word_of n) old next none) m)
lifts_ok returns key slots id m n old next lt quiet next_is wide alive_ s o long me small =
    let v : View = m.0 in
    let near : n < length key = omega (arith, o.objects.slots) in
    let f = o.objects.fits n near in let few = few_open returns key s o n in
    let k = o.seats.knows id v me in
    let x : ℕ = slice_index s.words (word_of n) in
    let low : old % 65536 ≤ 8 = ⊎_elim (λ e. omega (arith, e)) (λ e. omega (arith, e)) quiet in
    let bit : (old % 65536 ≡ 0) ⊎ (old % 65536 ≡ 8) = quiet in
    exchanged x old next
    (λ y. (w : View) × (a : Act Body) × Rattle.atomic_table.specs.Table.Valid s.homes m.1 a
    × Kept returns key (Rattle.atomic_table.specs.Table.stepped s (word_of n) y id m.1 w a)
    × begins_leave (step slots (word_of n) old next none) m x (w, Rattle.atomic_table.specs.Table.carried_after m.1 a))
    (λ hit.
    let z : (tally n s.views).moving + (tally n s.views).far + (tally n s.views).turns ≡ 0 =
    ⊎_elim (λ e. omega (arith, e, hit, f.word_is, f.one_hot, f.one_turn, f.one_out)) (λ e. omega (
      arith,
      e,
      hit,
      f.word_is,
      f.one_hot,
      f.one_turn,
      f.one_out,
    )) bit in
    let none-open : (tally n s.views).opens + (tally n s.views).passes ≡ 0 =
    ⊎_elim (λ e. omega (arith, e, hit, z, f.word_is, f.one_hot)) (λ e. omega (arith, e, hit, z, f.word_is, f.one_hot)) bit in
    let rest_is : old - old % 65536 ≡ 65536 * top 0 (o.logs n) = omega (arith, hit, z, none-open, f.word_is, f.one_hot) in
    let y = body_in f z in let body : Body = y.0 in
    let p : Whereabouts = Moving body.bytes.items in
    let w : View = placed n p v in
    let was = term_le (has_moving n) s.views id v me in let was' = term_le (has_far n) s.views id v me in (
      w,
      takes n body,
      y.1,
      puts returns key s o id v n next 0 me near alive_ (omega arith) none p wide
          (λ moving far a b. (omega (arith, rest_is, next_is), omega arith, (λ _. omega arith), Lent (omega arith) refl))
          (λ bytes e. subst (Stands returns (bytes_of key n) (o.logs n)) (some_is body.bytes.items bytes e) y.2) (omega (arith, f.heat)),
      (
        next_is,
        (λ _. subst (λ j. (b : Body) × (◌≡◌ {A = Sat} (w, (n, body) ∷ m.1) (placed j (Moving b.bytes.items) v, (j, b) ∷ m.1))
            × (length b.bytes.items ≡ length (bytes_of v.opening j))) (sym (object_home n)) (
              body,
              refl,
              y.2.0 ∙ ap (λ (q : List (List ℕ)). length (bytes_of q n)) (sym (k.opening_is alive_)),
            )),
        λ ne. absurd (ne hit),
      ),
    ))
    (λ miss. (v, keeps, tt, unmoved returns key s o id v n me alive_ near, (next_is, (λ e. absurd (miss e)), λ _. refl)))

sent_taken : (p : Whereabouts) → bytes_taken (sent p) ≡ bytes_taken p
sent_taken Here = refl
sent_taken (Moving bytes) = refl
sent_taken (Far bytes) = refl

called_taken : (p : Whereabouts) → bytes_taken (called p) ≡ bytes_taken p
called_taken Here = refl
called_taken (Moving bytes) = refl
called_taken (Far bytes) = refl

-- an object that is out gets into the other place out, with its bytes, and its word changes by so much
stays_out : (returns : Bool) (key : List (List ℕ)) (s : St) (o : Kept returns key s) (id n by : ℕ) (v : View) (slot : maybe.Option Body) (p : Whereabouts)
    → get_elem? s.views id ≡ some v → n < length key → v.live ≡ true
    → n < length v.out → bytes_taken p ≡ bytes_taken (place_of v n) → has_moving n v + has_far n v ≡ 1 → is_moving p + is_far p ≡ 1
    → (by + has_moving n v + 2 * has_far n v) % 2 ^ 64 ≡ is_moving p + 2 * is_far p
    → ((moving far : ℕ) → moving ≡ is_moving p → far ≡ is_far p
    → SlotFits returns (bytes_of key n) (record (tally n s.views) { moving = moving; far = far }) (some slot) (o.logs n))
    → Kept returns key (state (set s.words (word_of n) ((slice_index s.words (word_of n) + by) % 2 ^ 64)) (set s.homes n slot) (set s.views id (placed n p v)))
stays_out returns key s o id n by v slot p me near alive_ wide same out out' changes fits =
    let f = o.objects.fits n near in let few = few_open returns key s o n in
    let moves = term_le (has_moving n) s.views id v me in let fars = term_le (has_far n) s.views id v me in
    let quiet = f.here (omega arith) in
    puts returns key s o id v n ((slice_index s.words (word_of n) + by) % 2 ^ 64) f.hot me near alive_ f.one_hot slot p wide
    (λ moving far a b. (
      omega (arith, f.word_is, f.one_hot, f.small, f.one_turn, f.one_out),
      omega (arith, f.one_out),
      (λ _. quiet),
      fits moving far (omega (arith, f.one_out)) (omega (arith, f.one_out)),
    ))
    (λ b e. (o.seats.knows id v me).out n b (sym same ∙ e)) f.heat

-- what is on its way is far, and its slot goes home
pub sends_ok : (returns : Bool) (key : List (List ℕ)) (slots id : ℕ) (m : Sat) (n : ℕ) (bytes : List ℕ) (body : Body) (more : List (ℕ × Body))
    → n < slots → m.1 ≡ (n, body) ∷ more
    → place_of m.0 n ≡ Moving bytes → n < length m.0.out → m.0.live ≡ true
    → Allows (Kept returns key) slots id m (word_of n) (λ x. (x + 1) % 2 ^ 64) (ends_leave (step slots (word_of n) 1 0 none) m)
sends_ok returns key slots id m n bytes body more lt carried at wide alive_ s o long me small =
    let v : View = m.0 in let p : Whereabouts = sent (place_of v n) in
    let near : n < length key = omega (arith, o.objects.slots) in
    let was : has_moving n v ≡ 1 = ap is_moving at in let was' : has_far n v ≡ 0 = ap is_far at in
    let is : is_moving p ≡ 0 = ap (λ q. is_moving (sent q)) at in let is' : is_far p ≡ 1 = ap (λ q. is_far (sent q)) at in
    gives_back (Kept returns key) s id (word_of n) ((slice_index s.words (word_of n) + 1) % 2 ^ 64) (slice_index s.words (word_of n)) m
    (ends_leave (step slots (word_of n) 1 0 none)) n body more (placed n p v) carried
    (stays_out returns key s o id n 1 v (some body) p me near alive_ wide (sent_taken (place_of v n)) (omega arith) (omega arith) (omega arith)
    (λ moving far a b. Idle (omega arith) body refl))
    (ap (λ j. (placed j (sent (place_of v j)) v, more)) (sym (object_home n)))

-- what is far is on its way, and its slot is with the mover
pub calls_ok : (returns : Bool) (key : List (List ℕ)) (slots id : ℕ) (m : Sat) (n : ℕ) (bytes : List ℕ) → n < slots → place_of m.0 n ≡ Far bytes
    → n < length m.0.out → m.0.live ≡ true
    → Allows (Kept returns key) slots id m (word_of n) (λ x. (x + (2 ^ 64 - 1)) % 2 ^ 64) (begins_return (step slots (word_of n) 1 0 none) m)
calls_ok returns key slots id m n bytes lt at wide alive_ s o long me small =
    let v : View = m.0 in let p : Whereabouts = called (place_of v n) in
    let near : n < length key = omega (arith, o.objects.slots) in
    let was : has_moving n v ≡ 0 = ap is_moving at in let was' : has_far n v ≡ 1 = ap is_far at in
    let is : is_moving p ≡ 1 = ap (λ q. is_moving (called q)) at in let is' : is_far p ≡ 0 = ap (λ q. is_far (called q)) at in
    let y = body_far (o.objects.fits n near) (omega (arith, term_le (has_far n) s.views id v me)) in let body : Body = y.0 in (
      placed n p v,
      takes n body,
      y.1,
      stays_out returns key s o id n (2 ^ 64 - 1) v none p me near alive_ wide (called_taken (place_of v n)) (omega arith) (omega arith) (omega arith)
          (λ moving far a b. Lent (omega arith) refl),
      (body, ap (λ j. (placed j (called (place_of v j)) v, (j, body) ∷ m.1)) (sym (object_home n))),
    )

-- all bits but that of heat
cold_mask : (x : ℕ) → x < 2 ^ 64 → bit_and x (2 ^ 64 - 9) + x / 8 % 2 * 8 ≡ x
cold_mask x small =
    let a : bit_and x 18446744073709551607 ≡ bit_and (x / 2) 9223372036854775803 * 2 + min (x % 2) 1 = and_step x 18446744073709551607 in
    let b : bit_and (x / 2) 9223372036854775803 ≡ bit_and (x / 2 / 2) 4611686018427387901 * 2 + min (x / 2 % 2) 1 = and_step (x / 2) 9223372036854775803 in
    let c : bit_and (x / 2 / 2) 4611686018427387901 ≡ bit_and (x / 2 / 2 / 2) 2305843009213693950 * 2 + min (x / 2 / 2 % 2) 1 =
    and_step (x / 2 / 2) 4611686018427387901 in
    let d : bit_and (x / 2 / 2 / 2) 2305843009213693950 ≡ bit_and (x / 2 / 2 / 2 / 2) 1152921504606846975 * 2 + min (x / 2 / 2 / 2 % 2) 0 =
    and_step (x / 2 / 2 / 2) 2305843009213693950 in
    let e : bit_and (x / 2 / 2 / 2 / 2) 1152921504606846975 ≡ x / 2 / 2 / 2 / 2 % 2 ^ 60 = and_mask (x / 2 / 2 / 2 / 2) 60 in
    omega (arith, a, b, c, d, e)

-- one cooling more is counted
cooled-snoc : (n : ℕ) (coolings : List Cooling) (new : Cooling) → total (cooled_on n) (coolings ++ new ∷ []) ≡ total (cooled_on n) coolings + cooled_on n new
cooled-snoc n coolings new = omega (arith, total-append (cooled_on n) coolings (new ∷ []))

-- it counts by the mark that it found
cooled_here : (n hot : ℕ) → hot ≤ 1 → cooled_on n (cooling n (nat_eq hot 1)) ≡ hot
cooled_here n zero few = refl
cooled_here n (suc zero) few = is_here n n refl
cooled_here n (suc (suc k)) few = absurd (omega arith)

-- and not at another object
cooled_else : (m n : ℕ) (hot : Bool) → m ≢ n → cooled_on m (cooling n hot) ≡ 0
cooled_else m n true ne = is_else n m (λ q. ne (sym q))
cooled_else m n false ne = refl

-- the object is cooled, wherever it is
pub cools_ok : (returns : Bool) (key : List (List ℕ)) (slots id : ℕ) (m : Sat) (n : ℕ) → n < slots → m.0.live ≡ true
    → Allows (Kept returns key) slots id m (word_of n) (λ x. bit_and x (2 ^ 64 - 9)) (cools (step slots (word_of n) (2 ^ 64 - 9) 0 none) m)
cools_ok returns key slots id m n lt alive_ s o long me small =
    let v : View = m.0 in
    let near : n < length key = omega (arith, o.objects.slots) in
    let f = o.objects.fits n near in let few = few_open returns key s o n in
    let k = o.seats.knows id v me in
    let x : ℕ = slice_index s.words (word_of n) in
    let bits = cold_mask x small in
    let hot_is : x / 8 % 2 ≡ f.hot = omega (arith, f.word_is, f.one_turn, f.one_hot, f.one_out) in (
      with_cooling n (nat_eq (x / 8 % 2) 1) v,
      keeps,
      tt,
      keeps_slot returns key s o id v n (bit_and x (2 ^ 64 - 9)) 0 me near alive_ (omega arith) v.scopes v.passing v.marks (v.coolings
          ++ cooling n (nat_eq (x / 8 % 2) 1) ∷ [])
          (λ _ _. (refl, refl)) (k.opens_once n) (λ opens passes a b. (
            omega (arith, f.word_is, f.one_hot, bits, hot_is),
            λ out. let h = f.here out in
                omega arith,
          )) k.first k.turn k.marks
          (λ j ne. (refl, omega (arith, cooled-snoc j v.coolings (cooling n (nat_eq (x / 8 % 2) 1)), cooled_else j n (nat_eq (x / 8 % 2) 1) ne)))
          (omega (arith, f.heat, hot_is, cooled-snoc n v.coolings (cooling n (nat_eq (x / 8 % 2) 1)), cooled_here n (x / 8 % 2) (omega (arith, hot_is, f.one_hot)))),
      (refl, ap (λ j. (with_cooling j (nat_eq (x / 8 % 2) 1) v, m.1)) (sym (object_home n))),
    )

-- end return: the body is back. It is as long as the opening bytes, and what was taken where the store gives back what was put
pub lands_ok : (returns : Bool) (key : List (List ℕ)) (slots id : ℕ) (m : Sat) (n : ℕ) (bytes : List ℕ) (body : Body) (more : List (ℕ × Body))
    → n < slots → m.1 ≡ (n, body) ∷ more
    → place_of m.0 n ≡ Moving bytes → (length bytes ≡ length (bytes_of key n) → length body.bytes.items ≡ length (bytes_of key n))
    → (returns ≡ true → body.bytes.items ≡ bytes) → n < length m.0.out → m.0.live ≡ true
    → Allows (Kept returns key) slots id m (word_of n) (λ x. (x + (2 ^ 64 - 1)) % 2 ^ 64) (ends_return (step slots (word_of n) 1 0 none) m)
lands_ok returns key slots id m n bytes body more lt carried at as_long back_ wide alive_ s o long me small =
    let v : View = m.0 in
    let near : n < length key = omega (arith, o.objects.slots) in
    let f = o.objects.fits n near in let few = few_open returns key s o n in
    let k = o.seats.knows id v me in
    let x : ℕ = slice_index s.words (word_of n) in
    let part = term_le (has_moving n) s.views id v me in
    let was : has_moving n v ≡ 1 = ap is_moving at in let was' : has_far n v ≡ 0 = ap is_far at in
    let stood = k.out n bytes (ap bytes_taken at) in
    let stands : Stands returns (bytes_of key n) (o.logs n) body.bytes.items = (as_long stood.0, λ r. back_ r ∙ stood.1 r) in
    let quiet = f.here (omega arith) in
    gives_back (Kept returns key) s id (word_of n) ((x + (2 ^ 64 - 1)) % 2 ^ 64) x m (ends_return (step slots (word_of n) 1 0 none)) n body
    more (placed n Here v) carried
    (puts returns key s o id v n ((x + (2 ^ 64 - 1)) % 2 ^ 64) f.hot me near alive_ f.one_hot (some body) Here wide
    (λ moving far a b. (
      omega (arith, f.word_is, f.one_hot, f.small, f.one_turn, f.one_out, few, quiet),
      omega (arith, f.one_out),
      (λ out. absurd (omega (arith, f.one_out))),
      AtHome (omega (arith, f.one_out)) body refl stands,
    ))
    (λ b e. absurd (none_is_not b e)) (omega (arith, f.heat)))
    (ap (λ j. (placed j Here v, more)) (sym (object_home n)))
