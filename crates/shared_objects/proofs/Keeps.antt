-- Each step of an actor keeps the rule.
use Rattle.std.proofs.Common.{◌≡◌, true, false, Bool, ℕ, zero, suc, ◌+◌, ◌-◌, ◌*◌, ◌/◌, ◌%◌, ◌^◌, ◌<◌, ◌≤◌, ◌≢◌, List, [], ◌∷◌, ◌++◌, length, set, get_or, sym}
use Rattle.std.proofs.Common.{refl, ap, ◌∙◌, subst, arith, inl, inr, ⊎_elim, length-set, length-append, map, slice_index, lit<, Some, None, bit_or, bit_and}
use Rattle.std.proofs.Common.{min}
use Rattle.std.specs.Prelude.{slice_index_or}
use Rattle.std.proofs.lemmas.List.{length-map}
use lib.Bits.{and_step, and_mask, or_add_and}
use mathlib.Core.Logic.{dite}
use native.Mathlib.Decide.{ℕ_discrete}
use mathlib.Core.Option.{some, none, some-injective, some-ne-none}
use mathlib.Core.Option as maybe
use lib.ListN.{get_elem?}
use Rattle.atomic_table.specs.Table.{step, keeps, takes, Allows, Splits, opening}
use Rattle.atomic_table.proofs.Lists.{set_here, at_set, set_else, at_longer}
use Rattle.memory.specs.Deeds.{EndsInside, given_by, left_by}
use Rattle.shared_objects.specs.History.{Has, top}
use Rattle.memory.specs.Objects.{bytes_of}
use Rattle.shared_objects.specs.Rule.{seat_limit, total, times, same, has_turn, has_open, has_pass, has_moving, has_far, bytes_taken, is_moving, is_far, is_live, spent}
use Rattle.shared_objects.specs.Rule.{entry_on, mark_on, has_touched, has_cooled}
use Rattle.shared_objects.specs.Rule.{Written, PartFits, TurnFits, MarkFits, Stands, turns_on, word_of, tally, Knows, Kept}
use Rattle.shared_objects.specs.Kinds.{Sat, object_at, turn, with_scope, without, without_scope, with_pass, without_pass, marked, holding, recorded, worn_out}
use Rattle.shared_objects.specs.Kinds.{opens_scope, closes_scope, leaves_pass, takes_turn, gives_turn, gives_up_turn, Took, dealer, dealt, newcomer}
use Rattle.shared_objects.specs.Rule.SlotFits.{AtHome, Lent}
use Rattle.shared_objects.specs.declared.body.Body.{Body}
use Rattle.shared_objects.specs.declared.view.SharedEntry.{SharedEntry}
use Rattle.shared_objects.specs.declared.view.Turn.{Turn}
use Rattle.shared_objects.specs.declared.view.Mark.{Mark}
use Rattle.shared_objects.specs.declared.view.Part.{Part}
use Rattle.shared_objects.specs.declared.view.Whereabouts.TheVariants.{Here}
use Rattle.shared_objects.specs.declared.view.View.{View}
use Rattle.shared_objects.specs.declared.view.Mark.TheVariants.{Away, Busy, Worn}
use Rattle.shared_objects.proofs.Sums.{at_end, total-set, total-append, term_le, total_few, set_there, is_here, is_else, times-snoc, times-without}
use Rattle.shared_objects.proofs.Sums.{times-without_other}
use Rattle.shared_objects.proofs.Logs.{object_home, length-left_by, has_longer, has_last, has_snoc, Rises-snoc, Chained-snoc, AllInside-snoc, top-snoc}
use Rattle.shared_objects.proofs.Logs.{fold-snoc, Answers-snoc}
use Rattle.shared_objects.proofs.Steps.{keeps_slot, moves_slot, gives_back, is_in}
use Rattle.shared_objects.proofs.Moves.{St, state, knows_again, same_fits, grown, grown_here, grown_else, moves, entry_stays, mark_stays, turn_here, no_live}
use Rattle.shared_objects.proofs.Moves.{out_weighs, body_in}

-- the marks of a turn and of heat are set
or_turn : (x : ℕ) → bit_or x 12 + (x / 4 % 2 * 4 + x / 8 % 2 * 8) ≡ x + 12
or_turn x =
    let a : bit_and x 12 ≡ bit_and (x / 2) 6 * 2 + min (x % 2) 0 = and_step x 12 in
    let b : bit_and (x / 2) 6 ≡ bit_and (x / 2 / 2) 3 * 2 + min (x / 2 % 2) 0 = and_step (x / 2) 6 in
    let c : bit_and (x / 2 / 2) 3 ≡ x / 2 / 2 % 4 = and_mask (x / 2 / 2) 2 in
    let d : bit_or x 12 + bit_and x 12 ≡ x + 12 = or_add_and x 12 in
    omega (arith, a, b, c, d)

pub total-sum : {A : Type 0} (f g : A → ℕ) (l : List A) → total (λ x. f x + g x) l ≡ total f l + total g l
total-sum f g [] = refl
total-sum f g (x ∷ xs) = omega (arith, total-sum f g xs)

pub some_is : {A : Type 0} (x y : A) → Some x ≡ Some y → x ≡ y
some_is x y e = cc

pub none_is_not : {A : Type 0} (x : A) → None ≡ Some x → ⊥
none_is_not x e = cc

no_turn : (n : ℕ) (v : View) → v.turn ≡ None → has_turn n v ≡ 0
no_turn n v e = ap (turns_on n) e

module _ (returns : Bool) (key : List (List ℕ)) (s : St) (o : Kept returns key s) where
  pub few_open : (n : ℕ) → total (has_open n) s.views + total (has_pass n) s.views ≤ seat_limit
  few_open n = let a = total_few (λ v. has_open n v + has_pass n v) s.views (λ j v e. (o.seats.knows j v e).opens_once n) in let b = o.seats.few in
      let c = total-sum (has_open n) (has_pass n) s.views in omega arith

  -- an actor's seat is not the first
  pub not_first : (id : ℕ) (v : View) → get_elem? s.views id ≡ some v → v.made ≡ 0 → id ≡ 0 → ⊥
  not_first id v me young z = let h = ((o.seats.knows id v me).first z).0 in omega (arith, young)

  -- the same number is written, and the seat does nothing
  pub unmoved : (id : ℕ) (v : View) (n : ℕ) → get_elem? s.views id ≡ some v → v.live ≡ true → n < length key
      → Kept returns key (state (set s.words (word_of n) (slice_index s.words (word_of n))) s.homes (set s.views id v))
  unmoved id v n me alive_ near = let f = o.objects.fits n near in let k = o.seats.knows id v me in
      keeps_slot returns key s o id v n (slice_index s.words (word_of n)) f.hot me near alive_ f.one_hot v.scopes v.passing v.marks v.coolings
      (λ _ _. (refl, refl)) (k.opens_once n) (λ opens passes a b. (omega (arith, f.word_is), λ out. let h = f.here out in omega arith)) k.first k.turn k.marks
      (λ _ _. (refl, refl)) (omega (arith, f.heat))

-- one mark more is counted
marks-snoc : (n : ℕ) (marks : List Mark) (new : Mark) → total (mark_on n) (marks ++ new ∷ []) ≡ total (mark_on n) marks + mark_on n new
marks-snoc n marks new = omega (arith, total-append (mark_on n) marks (new ∷ []))

-- one entry more is counted
entries-snoc : (n : ℕ) (entries : List SharedEntry) (new : SharedEntry) → total (entry_on n) (entries ++ new ∷ []) ≡ total (entry_on n) entries + same new.object n
entries-snoc n entries new = omega (arith, total-append (entry_on n) entries (new ∷ []))

-- one mark more
mark_more : (returns : Bool) (key : List (List ℕ)) (s : St) (o : Kept returns key s) (id : ℕ) (v : View) (new : Mark) → get_elem? s.views id ≡ some v
    → MarkFits o.logs new → (m : Mark) → Has (v.marks ++ new ∷ []) m → MarkFits o.logs m
mark_more returns key s o id v new me h m has =
    ⊎_elim (λ old. (o.seats.knows id v me).marks m old) (λ e. subst (MarkFits o.logs) e h) (has_snoc v.marks new m has)

-- a seat that has no turn has none that would have to fit
turnless : (P : Turn → Type 0) (v : View) → v.turn ≡ None → (t : Turn) → v.turn ≡ Some t → P t
turnless P v free t is = absurd (none_is_not t (sym free ∙ is))

-- open scope
pub opens_ok : (returns : Bool) (key : List (List ℕ)) (slots id : ℕ) (m : Sat) (n : ℕ) → n < slots → has_open n m.0 + has_pass n m.0 ≡ 0 → m.0.live ≡ true
    → m.0.made ≡ 0 → m.0.turn ≡ None
    → Allows (Kept returns key) slots id m (word_of n) (λ x. (x + 256) % 2 ^ 64) (opens_scope (step slots (word_of n) 256 0 none) m)
opens_ok returns key slots id m n lt shut alive_ young free s o wide me small =
    let v : View = m.0 in
    let near : n < length key = omega (arith, o.objects.slots) in
    let f = o.objects.fits n near in let few = few_open returns key s o n in
    let k = o.seats.knows id v me in
    let x : ℕ = slice_index s.words (word_of n) in
    let away : ℕ = (tally n s.views).moving + (tally n s.views).far in
    let more : (xs : List ℕ) (j : ℕ) → j ≢ n
    → times j (xs ++ n ∷ []) ≡ times j xs = λ xs j ne. omega (arith, times-snoc j n xs, is_else n j (λ e. ne (sym e))) in
    let one : (xs : List ℕ) → times n (xs ++ n ∷ []) ≡ times n xs + 1 = λ xs. omega (arith, times-snoc n n xs, is_here n n refl) in
    let opened = one v.scopes in let passed = one v.passing in
    dite (ℕ_discrete away 0)
    (λ is_here_. (
      with_scope n v,
      keeps,
      tt,
      keeps_slot returns key s o id v n ((x + 256) % 2 ^ 64) f.hot me near alive_ f.one_hot (v.scopes ++ n ∷ []) v.passing v.marks v.coolings
          (λ j ne. (more v.scopes j ne, refl)) (omega arith) (λ opens passes a b. (
            omega (arith, f.word_is, f.one_hot, f.small, f.one_turn),
            λ out. absurd (omega arith),
          ))
          (λ z. absurd (not_first returns key s o id v me young z)) (turnless _ v free) k.marks (λ _ _. (refl, refl)) (omega (arith, f.heat)),
      ((λ _. ap (λ j. (with_scope j v, m.1)) (sym (object_home n))), λ ne. absurd (ne (omega (arith, f.word_is)))),
    ))
    (λ is_away. (
      with_pass n v,
      keeps,
      tt,
      keeps_slot returns key s o id v n ((x + 256) % 2 ^ 64) f.hot me near alive_ f.one_hot v.scopes (v.passing ++ n ∷ []) (v.marks ++ Away n ∷ []) v.coolings
          (λ j ne. (refl, more v.passing j ne)) (omega arith) (λ opens passes a b. (
            omega (arith, f.word_is, f.one_hot, f.small, f.one_turn, f.one_out),
            λ out. let h = f.here out in omega arith,
          ))
          (λ z. absurd (not_first returns key s o id v me young z)) k.turn (mark_more returns key s o id v (Away n) me tt)
          (λ j ne. (omega (arith, marks-snoc j v.marks (Away n)), refl)) (omega (arith, f.heat, marks-snoc n v.marks (Away n))),
      ((λ q. let q' : x % 4 ≡ 0 = q in absurd (is_away (omega (arith, f.word_is, f.one_out, q')))), λ _. ap (λ j. (with_pass j v, m.1)) (sym (object_home n))),
    ))

module _ (returns : Bool) (key : List (List ℕ)) (s : St) (o : Kept returns key s) where
  -- the seat has the object open once less, or counted away once less
  closes : (id n : ℕ) (v : View) → get_elem? s.views id ≡ some v → n < length key → v.live ≡ true → v.made ≡ 0 → (scopes passing : List ℕ)
      → ((j : ℕ) → j ≢ n → (times j scopes ≡ has_open j v) × (times j passing ≡ has_pass j v))
      → times n scopes ≤ has_open n v → times n passing ≤ has_pass n v → times n scopes + times n passing + 1 ≡ has_open n v + has_pass n v
      → ((t : Turn) → v.turn ≡ Some t → TurnFits returns key o.logs scopes t)
      → Kept returns key (state (set s.words (word_of n) ((slice_index s.words (word_of n) + (2 ^ 64 - 256)) % 2 ^ 64)) s.homes
      (set s.views id (record v { scopes = scopes; passing = passing })))
  closes id n v me near alive_ young scopes passing apart opens_less passes_less less turn =
      let f = o.objects.fits n near in let few = few_open returns key s o n in
      let k = o.seats.knows id v me in let once = k.opens_once n in
      keeps_slot returns key s o id v n ((slice_index s.words (word_of n) + (2 ^ 64 - 256)) % 2 ^ 64) f.hot me near alive_ f.one_hot
      scopes passing v.marks v.coolings
      apart (omega arith) (λ opens passes a b. (omega (arith, f.word_is, f.one_hot, f.small, f.one_turn, f.one_out), λ out. let h = f.here out in omega arith))
      (λ z. absurd (not_first returns key s o id v me young z)) turn k.marks (λ _ _. (refl, refl)) (omega (arith, f.heat))

-- close scope, of a number that was open
pub closes_ok : (returns : Bool) (key : List (List ℕ)) (slots id : ℕ) (m : Sat) (n : ℕ) → n < slots → has_open n m.0 ≡ 1 → m.0.live ≡ true
    → m.0.made ≡ 0 → m.0.turn ≡ None
    → Allows (Kept returns key) slots id m (word_of n) (λ x. (x + (2 ^ 64 - 256)) % 2 ^ 64) (closes_scope (step slots (word_of n) 256 0 none) m)
closes_ok returns key slots id m n lt held alive_ young free s o wide me small =
    let v : View = m.0 in
    let less : times n (without n v.scopes) + 1 ≡ has_open n v = times-without n v.scopes (omega arith) in (
      without_scope n v,
      keeps,
      tt,
      closes returns key s o id n v me (omega (arith, o.objects.slots)) alive_ young (without n v.scopes) v.passing
          (λ j ne. (times-without_other j n v.scopes ne, refl)) (omega arith) (omega arith) (omega arith) (turnless _ v free),
      ap (λ j. (without_scope j v, m.1)) (sym (object_home n)),
    )

-- close scope, of a number that was found away
pub leaves_ok : (returns : Bool) (key : List (List ℕ)) (slots id : ℕ) (m : Sat) (n : ℕ) → n < slots → has_pass n m.0 ≡ 1 → m.0.live ≡ true → m.0.made ≡ 0
    → Allows (Kept returns key) slots id m (word_of n) (λ x. (x + (2 ^ 64 - 256)) % 2 ^ 64) (leaves_pass (step slots (word_of n) 256 0 none) m)
leaves_ok returns key slots id m n lt held alive_ young s o wide me small =
    let v : View = m.0 in
    let less : times n (without n v.passing) + 1 ≡ has_pass n v = times-without n v.passing (omega arith) in (
      without_pass n v,
      keeps,
      tt,
      closes returns key s o id n v me (omega (arith, o.objects.slots)) alive_ young v.scopes (without n v.passing)
          (λ j ne. (refl, times-without_other j n v.passing ne)) (omega arith) (omega arith) (omega arith) (o.seats.knows id v me).turn,
      ap (λ j. (without_pass j v, m.1)) (sym (object_home n)),
    )

-- take turn, of an object that is open
pub turns_ok : (returns : Bool) (key : List (List ℕ)) (slots id : ℕ) (m : Sat) (n : ℕ) → n < slots → m.0.turn ≡ None → has_open n m.0 ≡ 1
    → length m.0.scopes ≤ 4 → m.0.live ≡ true → m.0.made ≡ 0
    → Allows (Kept returns key) slots id m (word_of n) (λ x. bit_or x 12) (takes_turn (step slots (word_of n) 12 0 none) m)
turns_ok returns key slots id m n lt free opened_ few_scopes alive_ young s o wide me small =
    let v : View = m.0 in
    let near : n < length key = omega (arith, o.objects.slots) in
    let f = o.objects.fits n near in let few = few_open returns key s o n in
    let k = o.seats.knows id v me in
    let x : ℕ = slice_index s.words (word_of n) in
    let held : ℕ = total (has_turn n) s.views in
    let part = term_le (has_open n) s.views id v me in
    let here = is_in f (omega arith) in
    let nothing : has_turn n v ≡ 0 = no_turn n v free in
    let bit = or_turn x in
    let bit_is : x / 4 % 2 ≡ held = omega (arith, f.word_is, f.one_turn, f.one_hot, f.one_out) in
    let hot_is : x / 8 % 2 ≡ f.hot = omega (arith, f.word_is, f.one_turn, f.one_hot, f.one_out) in
    dite (ℕ_discrete held 0)
    (λ zero-held.
    let y = body_in f (omega arith) in let body : Body = y.0 in
    let t : Turn = turn n (x / 65536) body.bytes.items in
    let stamp_is : x / 65536 ≡ top 0 (o.logs n) = omega (arith, f.word_is, f.one_hot) in
    let mine : same n n ≡ 1 = is_here n n refl in (
      holding n (x / 65536) body.bytes.items v,
      takes n body,
      y.1,
      moves_slot returns key s o id v n (bit_or x 12) 1 me near alive_ (omega arith) none (Some t) v.marks v.out
          (λ j ne. (is_else n j (λ q. ne (sym q)) ∙ sym (no_turn j v free), refl))
          (λ turns moving far a b c. (
            omega (arith, f.word_is, f.one_hot, bit, hot_is, bit_is),
            omega arith,
            omega (arith, f.one_out),
            (λ out. absurd (omega arith)),
            Lent (omega arith) refl,
          ))
          (λ u q. subst (TurnFits returns key o.logs v.scopes) (some_is t u q) (stamp_is, y.2, few_scopes)) (k.out n) k.marks
          (λ _ _. refl) (omega (arith, f.heat, f.one_hot, nothing, mine)),
      (
        refl,
        (λ _. subst (λ j. Took j x m (holding n (x / 65536) body.bytes.items v, (n, body) ∷ m.1)) (sym (object_home n)) (
          body,
          refl,
          y.2.0 ∙ ap (λ (p : List (List ℕ)). length (bytes_of p n)) (sym (k.opening_is alive_)),
        )),
        λ one. let q : x / 4 % 2 ≡ 1 = one in absurd (omega (arith, q)),
      ),
    ))
    (λ some-held. (
      marked (Busy n) v,
      keeps,
      tt,
      keeps_slot returns key s o id v n (bit_or x 12) 1 me near alive_ (omega arith) v.scopes v.passing (v.marks ++ Busy n ∷ []) v.coolings
          (λ _ _. (refl, refl)) (k.opens_once n) (λ opens passes a b. (
            omega (arith, f.word_is, f.one_hot, f.one_turn, bit, hot_is, bit_is),
            λ out. absurd (omega arith),
          ))
          (λ z. absurd (not_first returns key s o id v me young z)) k.turn (mark_more returns key s o id v (Busy n) me tt)
          (λ j ne. (omega (arith, marks-snoc j v.marks (Busy n), is_else n j (λ q. ne (sym q))), refl))
          (omega (arith, f.heat, f.one_hot, marks-snoc n v.marks (Busy n), is_here n n refl)),
      (refl, (λ zero. let q : x / 4 % 2 ≡ 0 = zero in absurd (omega (arith, f.one_turn, q))), λ _. ap (λ j. (marked (Busy j) v, m.1)) (sym (object_home n))),
    ))

-- give turn: it ends with one entry more, which carries the bytes on
pub records_ok : (returns : Bool) (key : List (List ℕ)) (slots id : ℕ) (m : Sat) (t : Turn) (body : Body) (more : List (ℕ × Body)) (e : SharedEntry) (k : ℕ)
    → t.object < slots → m.1 ≡ (t.object, body) ∷ more → m.0.turn ≡ Some t
    → e.actor ≡ m.0.actor → e.object ≡ t.object → e.found ≡ t.stamp → EndsInside e.deed (length t.bytes) → t.stamp < e.stamp
    → top 0 m.0.entries < e.stamp → e.stamp < 2 ^ 48
    → e.given ≡ given_by e.deed t.bytes → body.bytes.items ≡ left_by e.deed t.bytes → k + 4 ≡ (e.stamp - t.stamp) * 65536 → m.0.live ≡ true → m.0.made ≡ 0
    → Allows (Kept returns key) slots id m (word_of t.object) (λ x. (x + k) % 2 ^ 64) (gives_turn e (step slots (word_of t.object) k 0 none) m)
records_ok returns key slots id m t body more e k lt carried has by on found_is within above later small_stamp answered done k_is
    alive_ young s o wide me small =
    let v : View = m.0 in let w : View = recorded e v in let n : ℕ = t.object in
    let near : n < length key = omega (arith, o.objects.slots) in
    let f = o.objects.fits n near in let few = few_open returns key s o n in
    let kn = o.seats.knows id v me in
    let log : List SharedEntry = o.logs n ++ e ∷ [] in
    let x : ℕ = slice_index s.words (word_of n) in
    let at = kn.turn t has in
    let mine : has_turn n v ≡ 1 = turn_here v t has in
    let part = term_le (has_turn n) s.views id v me in
    let a₁ = total-set (has_open n) s.views id v w me in let b₁ = total-set (has_turn n) s.views id v w me in
    let c₁ = total-set (has_pass n) s.views id v w me in
    let d₁ = total-set (has_moving n) s.views id v w me in let e₁ = total-set (has_far n) s.views id v w me in
    let g₁ = total-set (has_touched n) s.views id v w me in let h₁ = total-set (has_cooled n) s.views id v w me in
    let counted : (j : ℕ) → total (entry_on j) w.entries ≡ total (entry_on j) v.entries + same e.object j = λ j. entries-snoc j v.entries e in
    let here = is_in f (omega arith) in
    let stamp_is : t.stamp ≡ top 0 (o.logs n) = at.0 in
    let last : top 0 log ≡ e.stamp = top-snoc 0 (o.logs n) e in
    let rising : top 0 (o.logs n) < e.stamp = omega arith in
    let hs : List (maybe.Option Body) = set s.homes n (some body) in
    let back : get_elem? hs n ≡ some (some body) = set_here s.homes n (some body) (omega (arith, o.objects.slots)) in
    let done' : Stands returns (bytes_of key n) log body.bytes.items = (
      ap length done ∙ length-left_by e.deed t.bytes within ∙ at.1.0,
      λ r. done ∙ ap (left_by e.deed) (at.1.1 r) ∙ sym (fold-snoc (bytes_of key n) (o.logs n) e),
    ) in
    let not_mine : (j : ℕ) → j ≢ n → has_turn j v ≡ 0 = λ j ne. ap (turns_on j) has ∙ is_else n j (λ q. ne (sym q)) in
    let kept = moves returns key s o id v w n ((x + k) % 2 ^ 64) hs log me near alive_ (length-set s.homes n (some body))
    (λ j ne. set_else s.homes n j (some body) ne)
    (λ j ne. record {
      turns = sym (not_mine j ne);
      opens = refl;
      passes = refl;
      moving = refl;
      far = refl;
      touched = omega (arith, not_mine j ne, counted j, is_else e.object j (λ q. ne (sym q ∙ on)));
      cooled = refl;
    }) (refl, refl, refl, refl, refl, refl, refl)
    (record {
      hot = f.hot;
      one_hot = f.one_hot;
      heat = omega (arith, f.heat, g₁, h₁, mine, counted n, is_here e.object n on);
      word_is = omega (arith, f.word_is, f.one_hot, f.one_turn, f.small);
      one_turn = omega (arith, f.one_turn);
      one_out = omega (arith, f.one_out);
      here = λ out. absurd (omega arith);
      small = omega arith;
      chained = Chained-snoc 0 (o.logs n) e f.chained (found_is ∙ stamp_is) rising;
      inside = AllInside-snoc (length (bytes_of key n)) (o.logs n) e f.inside (subst (EndsInside e.deed) at.1.0 within);
      answers = λ r. Answers-snoc (bytes_of key n) (o.logs n) e (f.answers r) (answered ∙ ap (given_by e.deed) (at.1.1 r));
      slot = AtHome (omega (arith, f.one_turn)) body back done';
    })
    (record {
      actor = kn.actor;
      opening_is = kn.opening_is;
      returns_is = kn.returns_is;
      idle = λ no. absurd (no_live (sym no ∙ alive_));
      first = λ z. absurd (not_first returns key s o id v me young z);
      alone = kn.alone;
      opens_once = kn.opens_once;
      turn = λ u is. absurd (none_is_not u is);
      out = λ j bytes q. dite (ℕ_discrete j n)
          (λ here. let weighs : has_moving n v + has_far n v ≡ 1 = subst (λ i. has_moving i v + has_far i v ≡ 1) here (out_weighs v j bytes q) in
          absurd (omega (arith, term_le (has_moving n) s.views id v me, term_le (has_far n) s.views id v me)))
          (λ else. subst (λ l. Stands returns (bytes_of key j) l bytes) (sym (grown_else o.logs n log j else)) (kn.out j bytes q));
      entries = λ y h. ⊎_elim
          (λ old. let q = kn.entries y old in (
            q.0,
            entry_stays returns key s o id v w n ((x + k) % 2 ^ 64) hs log me near alive_ (has_longer (o.logs n) (e ∷ [])) y q.1,
          ))
          (λ (new : e ≡ y). subst (λ (z : SharedEntry). (z.actor ≡ id) × Has (grown o.logs n log z.object) z) new
          (by ∙ kn.actor alive_, subst (λ l. Has l e) (sym (grown_here o.logs n log e.object on)) (has_last (o.logs n) e)))
          (has_snoc v.entries e y h);
      marks = λ y h. mark_stays returns key s o id v w n ((x + k) % 2 ^ 64) hs log me near alive_ (omega arith) y (kn.marks y h);
      rises = Rises-snoc 0 v.entries e kn.rises later;
    })
    (has_longer (o.logs n) (e ∷ []))
    (λ y h. ⊎_elim (λ old. inl old) (λ (new : e ≡ y).
    inr (subst (λ (z : SharedEntry). (z.object ≡ n) × Has w.entries z) new (on, has_last v.entries e))) (has_snoc (o.logs n) e y h))
    (has_longer v.entries (e ∷ [])) (omega arith) (inr mine) in
    gives_back (Kept returns key) s id (word_of n) ((x + k) % 2 ^ 64) x m (gives_turn e (step slots (word_of n) k 0 none)) n body more w carried kept refl

-- give turn: it ends with no entry
pub wears_ok : (returns : Bool) (key : List (List ℕ)) (slots id : ℕ) (m : Sat) (t : Turn) (body : Body) (more : List (ℕ × Body))
    → t.object < slots → m.1 ≡ (t.object, body) ∷ more → m.0.turn ≡ Some t → body.bytes.items ≡ t.bytes → m.0.live ≡ true → m.0.made ≡ 0
    → Allows (Kept returns key) slots id m (word_of t.object) (λ x. (x + (2 ^ 64 - 4)) % 2 ^ 64) (gives_up_turn (step slots (word_of t.object) 4 0 none) m)
wears_ok returns key slots id m t body more lt carried has done alive_ young s o wide me small =
    let n : ℕ = t.object in let v : View = m.0 in
    let near : n < length key = omega (arith, o.objects.slots) in
    let f = o.objects.fits n near in let few = few_open returns key s o n in
    let k = o.seats.knows id v me in
    let x : ℕ = slice_index s.words (word_of n) in
    let at = k.turn t has in
    let mine : has_turn n v ≡ 1 = turn_here v t has in
    let part = term_le (has_turn n) s.views id v me in
    let here = is_in f (omega arith) in
    let stamp_low : t.stamp ≤ top 0 (o.logs n) = let q : t.stamp ≡ top 0 (o.logs n) = at.0 in omega arith in
    gives_back (Kept returns key) s id (word_of n) ((x + (2 ^ 64 - 4)) % 2 ^ 64) x m (gives_up_turn (step slots (word_of n) 4 0 none)) n body more
    (worn_out n t.stamp v) carried
    (moves_slot returns key s o id v n ((x + (2 ^ 64 - 4)) % 2 ^ 64) f.hot me near alive_ f.one_hot (some body) None (v.marks ++ Worn n t.stamp ∷ []) v.out
    (λ j ne. (sym (ap (turns_on j) has ∙ is_else n j (λ q. ne (sym q))), refl))
    (λ turns moving far a b c. (
      omega (arith, f.word_is, f.one_hot, f.one_turn, f.small),
      omega (arith, f.one_turn),
      omega (arith, f.one_out),
      (λ out. absurd (omega arith)),
      AtHome (omega (arith, f.one_turn)) body refl (ap length done ∙ at.1.0, λ r. done ∙ at.1.1 r),
    ))
    (λ u is. absurd (none_is_not u is)) (k.out n) (mark_more returns key s o id v (Worn n t.stamp) me stamp_low)
    (λ j ne. omega (arith, marks-snoc j v.marks (Worn n t.stamp), is_else n j (λ q. ne (sym q))))
    (omega (arith, f.heat, mine, marks-snoc n v.marks (Worn n t.stamp), is_here n n refl)))
    (refl, (t, has, refl))

-- a look changes nothing, and shows a table that keeps the rule
pub sees_ok : (returns : Bool) (key : List (List ℕ)) (slots id : ℕ) (m : Sat) (n : ℕ) → n < slots → m.0.live ≡ true
    → Allows (Kept returns key) slots id m (word_of n) (λ x. x) (Rattle.shared_objects.specs.Kinds.looks returns key (step slots (word_of n) 0 0 none) m)
sees_ok returns key slots id m n lt alive_ s o wide me small =
    let near : n < length key = omega (arith, o.objects.slots) in
    (m.0, keeps, tt, unmoved returns key s o id m.0 n me alive_ near, (refl, refl, (s, (id, o, me, ap (λ j. slice_index s.words (word_of j)) (object_home n)))))

module _ (returns : Bool) (key : List (List ℕ)) (logs : ℕ → List SharedEntry) (id : ℕ) where
  -- a seat that has done nothing yet, or whose part was taken in
  pub knows_nothing : (live sees : Bool) (actor : ℕ) (opening : List (List ℕ)) → id ≢ 0
      → (live ≡ true → (actor ≡ id) × (opening ≡ key) × (sees ≡ returns))
      → (live ≡ false → record spent { live = live; actor = actor; opening = opening; returns = sees } ≡ spent)
      → Knows returns key logs id (record spent { live = live; actor = actor; opening = opening; returns = sees })
  knows_nothing live sees actor opening apart same idle = record {
    actor = λ e. (same e).0;
    opening_is = λ e. (same e).1;
    returns_is = λ e. (same e).2;
    idle = idle;
    first = λ z. absurd (apart z);
    alone = λ _. refl;
    opens_once = λ n. omega arith;
    turn = λ t e. absurd (none_is_not t e);
    out = λ n bytes e. absurd (none_is_not bytes e);
    entries = λ e h. absurd (some-ne-none e (sym h.1));
    marks = λ m h. absurd (some-ne-none m (sym h.1));
    rises = tt;
  }

  -- a seat that makes another, or takes one in, knows what it knew
  pub knows_still : (v : View) (made alive : ℕ) (gathered : List Part) → Knows returns key logs id v → v.live ≡ true → 0 < made → id ≡ 0
      → Knows returns key logs id (record v { made = made; alive = alive; gathered = gathered })
  knows_still v made alive gathered k here maker zeroth =
      knows_again returns key logs logs id v made alive gathered k (λ no. absurd (no_live (sym no ∙ here))) (λ _. maker) (λ ne. absurd (ne zeroth)) k.turn
      k.out (λ e has. (k.entries e has).1) k.marks

-- The first seat makes one more
pub deals_ok : (returns : Bool) (key : List (List ℕ)) (id : ℕ) (v : View) → 0 < v.made → v.made < seat_limit → v.live ≡ true
    → Splits (Kept returns key) id v (dealt v) (newcomer v)
deals_ok returns key id v is_dealer room alive_ s o me =
    let d = o.seats.dealer id v me is_dealer in
    let w : View = dealt v in let new : View = newcomer v in
    let vs : List View = set s.views id w in
    let long : length vs ≡ length s.views = length-set s.views id w in
    let longer : length (vs ++ new ∷ []) ≡ length s.views + 1 = omega (arith, length-append vs (new ∷ []), long) in
    let k = o.seats.knows id v me in
    let sum : (g : View → ℕ) → g w ≡ g v → g new ≡ 0
    → total g (vs ++ new ∷ []) ≡ total g s.views = λ g p q. omega (arith, total-append g vs (new ∷ []), total-set g s.views id v w me, p, q) in
    let keeps_part : (p : Part) → PartFits o.logs s.views p → PartFits o.logs (vs ++ new ∷ []) p = λ p f. record {
      rises = f.rises;
      entries = f.entries;
      marks = f.marks;
      gone = at_longer vs (new ∷ []) p.actor spent
          (set_else s.views id p.actor w (λ same. no_live (ap (λ (y : View). y.live) (some-injective spent v (sym f.gone ∙ ap (get_elem? s.views) same ∙ me))
          ∙ alive_)) ∙ f.gone);
    } in
    record {
      logs = o.logs;
      objects = record {
        words = o.objects.words;
        slots = o.objects.slots;
        fits = λ n lt. let f = o.objects.fits n lt in
            same_fits _ _ _ _ _ _ _ _ _ _ (λ i. record {
              turns = sum (has_turn n) refl refl i;
              opens = sum (has_open n) refl refl i;
              passes = sum (has_pass n) refl refl i;
              moving = sum (has_moving n) refl refl i;
              far = sum (has_far n) refl refl i;
              touched = sum (has_touched n) refl refl i;
              cooled = sum (has_cooled n) refl refl i;
            }) refl refl refl f;
        nowhere = o.objects.nowhere;
      };
      seats = record {
        few = omega (arith, longer, d.1);
        knows = λ j u at. ⊎_elim
            (λ old. ⊎_elim
            (λ (t : (j ≡ id) × (w ≡ u)). subst (λ y. Knows returns key o.logs j y) t.1 (subst (λ i. Knows returns key o.logs i w) (sym t.0)
            (knows_still returns key o.logs id v (v.made + 1) (v.alive + 1) v.gathered k alive_ (omega arith) d.0)))
            (λ t. o.seats.knows j u t.1)
            (at_set s.views id j w u old))
            (λ (t : (j ≡ length vs) × (new ≡ u)). subst (λ y. Knows returns key o.logs j y) t.1
            (knows_nothing returns key o.logs j true v.returns v.made v.opening (λ z. absurd (omega (arith, z, t.0, long, d.1, is_dealer)))
            (λ _. (d.1 ∙ sym long ∙ sym t.0, k.opening_is alive_, k.returns_is alive_)) (λ no. absurd (no_live (sym no)))))
            (at_end vs new u j at);
        dealer = λ j u at some-made. ⊎_elim
            (λ old. ⊎_elim
            (λ (t : (j ≡ id) × (w ≡ u)). (
              t.0 ∙ d.0,
              omega (arith, ap (λ (y : View). y.made) t.1, longer, d.1),
              omega (arith, ap (λ (y : View). y.alive) t.1, d.2, total-append is_live vs (new ∷ []), total-set is_live s.views id v w me),
            ))
            (λ (t : (j ≢ id) × (get_elem? s.views j ≡ some u)). absurd (t.0 ((o.seats.dealer j u t.1 some-made).0 ∙ sym d.0)))
            (at_set s.views id j w u old))
            (λ (t : (j ≡ length vs) × (new ≡ u)). absurd (omega (arith, ap (λ (y : View). y.made) t.1, some-made)))
            (at_end vs new u j at);
        parts = λ j u at p has. ⊎_elim
            (λ old. ⊎_elim
            (λ (t : (j ≡ id) × (w ≡ u)). keeps_part p (o.seats.parts id v me p (subst (λ l. Has l p) (ap (λ (y : View). y.gathered) (sym t.1)) has)))
            (λ (t : (j ≢ id) × (get_elem? s.views j ≡ some u)). keeps_part p (o.seats.parts j u t.1 p has))
            (at_set s.views id j w u old))
            (λ (t : (j ≡ length vs) × (new ≡ u)). absurd (let none-there : Has [] p = subst (λ l. Has l p) (ap (λ (y : View). y.gathered) (sym t.1)) has in
            some-ne-none p (sym none-there.1)))
            (at_end vs new u j at);
        apart = λ j u at a b p q hp hq same. ⊎_elim
            (λ old. ⊎_elim
            (λ (t : (j ≡ id) × (w ≡ u)). let e : u.gathered ≡ v.gathered = ap (λ (y : View). y.gathered) (sym t.1) in
            o.seats.apart id v me a b p q (subst (λ l. get_elem? l a ≡ some p) e hp) (subst (λ l. get_elem? l b ≡ some q) e hq) same)
            (λ (t : (j ≢ id) × (get_elem? s.views j ≡ some u)). o.seats.apart j u t.1 a b p q hp hq same)
            (at_set s.views id j w u old))
            (λ (t : (j ≡ length vs) × (new ≡ u)). absurd (let none-there : get_elem? {A = Part} [] a ≡ some p =
            subst (λ l. get_elem? l a ≡ some p) (ap (λ (y : View). y.gathered) (sym t.1)) hp in some-ne-none p (sym none-there)))
            (at_end vs new u j at);
      };
      whole = λ n e h. let t = o.whole n e h in (
        t.0,
        dite (ℕ_discrete t.1.0 id)
            (λ here. (
              id,
              w,
              at_longer vs (new ∷ []) id w (set_there s.views id v w me),
              subst (λ (y : View). Written y e) (some-injective t.1.1 v (sym t.1.2 ∙ ap (get_elem? s.views) here ∙ me)) t.1.3,
            ))
            (λ ne. (t.1.0, t.1.1, at_longer vs (new ∷ []) t.1.0 t.1.1 (set_else s.views id t.1.0 w ne ∙ t.1.2), t.1.3)),
      );
    }

abbrev pub body_bytes : Body → List ℕ
body_bytes b = b.bytes.items

body_at : (bs : List Body) (n : ℕ) → n < length bs → (b : Body) × (get_elem? (map some bs) n ≡ some (some b)) × (body_bytes b ≡ bytes_of (map body_bytes bs) n)
body_at [] n h = absurd (omega arith)
body_at (b ∷ bs) zero h = (b, refl, refl)
body_at (b ∷ bs) (suc n) h = body_at bs n (omega arith)

one_only : (returns : Bool) (key : List (List ℕ)) (j : ℕ) (u : View) → get_elem? (dealer returns key ∷ []) j ≡ some u → (j ≡ 0) × (dealer returns key ≡ u)
one_only returns key zero u e = (refl, some-injective (dealer returns key) u e)
one_only returns key (suc j) u e = absurd (some-ne-none u (sym e))

-- at first each object is here
pub all_here : {A : Type 0} (xs : List A) (n : ℕ) → slice_index_or (map (λ (_ : A). Here) xs) n Here ≡ Here
all_here [] n = refl
all_here (x ∷ xs) zero = refl
all_here (x ∷ xs) (suc n) = all_here xs n

-- the table at the start
pub starts_ok : (returns : Bool) (key : List (List ℕ)) (ws : List ℕ) (bs : List Body) → length ws ≡ word_of (length key) → ((n : ℕ) → get_or ws n 0 ≡ 0)
    → map body_bytes bs ≡ key → Kept returns key (opening ws bs (dealer returns key))
starts_ok returns key ws bs long quiet same_bytes =
    let many : length bs ≡ length key = sym (length-map bs body_bytes) ∙ ap length same_bytes in
    let none-moving : (n : ℕ) → has_moving n (dealer returns key) ≡ 0 = λ n. ap is_moving (all_here key n) in
    let none-far : (n : ℕ) → has_far n (dealer returns key) ≡ 0 = λ n. ap is_far (all_here key n) in
    record {
      logs = λ _. [];
      objects = record {
        words = long;
        slots = length-map bs some ∙ many;
        fits = λ n lt. let z₀ = none-moving n in let z₁ = none-far n in record {
          hot = 0;
          one_hot = omega arith;
          heat = omega arith;
          word_is = quiet (word_of n) ∙ omega arith;
          one_turn = omega arith;
          one_out = omega arith;
          here = λ out. absurd (omega arith);
          small = lit< tt;
          chained = tt;
          inside = tt;
          answers = λ _. tt;
          slot = let t = body_at bs n (omega arith) in let q = t.2 ∙ ap (λ (l : List (List ℕ)). bytes_of l n) same_bytes in
              AtHome (omega arith) t.0 t.1 (ap length q, λ _. q);
        };
        nowhere = λ n far. refl;
      };
      seats = record {
        few = omega arith;
        knows = λ j u at. let t = one_only returns key j u at in subst (λ y. Knows returns key (λ _. []) j y) t.1 (record {
          actor = λ _. sym t.0;
          opening_is = λ _. refl;
          returns_is = λ _. refl;
          idle = λ no. absurd (no_live (sym no));
          first = λ _. (omega arith, refl, refl);
          alone = λ _. refl;
          opens_once = λ n. omega arith;
          turn = λ t e. absurd (none_is_not t e);
          out = λ n bytes e. absurd (none_is_not bytes (sym (ap bytes_taken (all_here key n)) ∙ e));
          entries = λ e h. absurd (some-ne-none e (sym h.1));
          marks = λ m h. absurd (some-ne-none m (sym h.1));
          rises = tt;
        });
        dealer = λ j u at some-made. let t = one_only returns key j u at in (t.0, sym (ap (λ (y : View). y.made) t.1), sym (ap (λ (y : View). y.alive) t.1));
        parts = λ j u at p has. absurd (let none-there : Has [] p =
            subst (λ l. Has l p) (ap (λ (y : View). y.gathered) (sym (one_only returns key j u at).1)) has in some-ne-none p (sym none-there.1));
        apart = λ j u at a b p q hp hq same. absurd (let none-there : get_elem? {A = Part} [] a ≡ some p =
            subst (λ l. get_elem? l a ≡ some p) (ap (λ (y : View). y.gathered) (sym (one_only returns key j u at).1)) hp in some-ne-none p (sym none-there));
      };
      whole = λ n e h. absurd (some-ne-none e (sym h.1));
    }
