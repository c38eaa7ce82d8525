-- A step that adds no entry keeps the rule if the object's word, heat and slot fit.
use Rattle.std.proofs.Common.{◌≡◌, true, Bool, ℕ, ◌+◌, ◌*◌, ◌<◌, ◌≤◌, ◌≢◌, List, [], ◌∷◌, length, set, sym, refl, ap, ◌∙◌, subst, arith, inl, length-set}
use Rattle.std.proofs.Common.{get_or-set_other, get_or-set_same, Some, Option}
use Rattle.std.specs.Prelude.{slice_index_or}
use mathlib.Core.Logic.{dite}
use native.Mathlib.Decide.{ℕ_discrete}
use mathlib.Core.Option.{some}
use mathlib.Core.Option as maybe
use lib.ListN.{get_elem?}
use Rattle.atomic_table.specs.Table.{Act, gives, Valid, stepped, carried_after}
use Rattle.atomic_table.proofs.Lists.{set_here, set_else}
use Rattle.memory.specs.Objects.{bytes_of}
use Rattle.pointer_word.specs.Words.{packed}
use Rattle.shared_objects.specs.History.{Has, Rises, top}
use Rattle.shared_objects.specs.Kinds.{Sat, placed}
use Rattle.shared_objects.specs.Rule.{total, times, has_turn, has_open, has_pass, has_moving, has_far, place_of, is_moving, is_far, bytes_taken, turns_on}
use Rattle.shared_objects.specs.Rule.{mark_on, cooled_on, has_touched, has_cooled}
use Rattle.shared_objects.specs.Rule.{Stands, word_of, Tally, tally, SlotFits, TurnFits, MarkFits, Fits, Knows, Kept}
use Rattle.shared_objects.specs.Rule.SlotFits.{AtHome, Lent, Idle}
use Rattle.shared_objects.specs.declared.body.Body.{Body}
use Rattle.shared_objects.specs.declared.view.Cooling.{Cooling}
use Rattle.shared_objects.specs.declared.view.SharedEntry.{SharedEntry}
use Rattle.shared_objects.specs.declared.view.Turn.{Turn}
use Rattle.shared_objects.specs.declared.view.Mark.{Mark}
use Rattle.shared_objects.specs.declared.view.Whereabouts.{Whereabouts}
use Rattle.shared_objects.specs.declared.view.Whereabouts.TheVariants.{Here}
use Rattle.shared_objects.specs.declared.view.View.{View}
use Rattle.shared_objects.proofs.Sums.{total-set}
use Rattle.shared_objects.proofs.Moves.{St, state, grown_same, Alike, SameSeat, moves, no_live}

-- an object that is open, or whose turn is held, is here
pub is_in : {returns : Bool} {opening : List ℕ} {t : Tally} {word : ℕ} {home : maybe.Option (maybe.Option Body)} {log : List SharedEntry}
    → Fits returns opening t word home log → 0 < t.opens + t.turns → t.moving + t.far ≡ 0
is_in {t = t} f busy = dite (ℕ_discrete (t.moving + t.far) 0) (λ z. z) (λ out. let h = f.here (omega arith) in absurd (omega arith))

-- the slot fits as before where the turns and the places are counted as before
same_slot : {returns : Bool} {opening : List ℕ} {t t' : Tally} {home : maybe.Option (maybe.Option Body)} {log : List SharedEntry}
    → t'.turns ≡ t.turns → t'.moving ≡ t.moving → t'.far ≡ t.far → SlotFits returns opening t home log → SlotFits returns opening t' home log
same_slot turns moving far (AtHome calm body at stands) = AtHome (omega arith) body at stands
same_slot turns moving far (Lent out at) = Lent (omega arith) at
same_slot turns moving far (Idle away body at) = Idle (omega arith) body at

-- an object fits as before where fewer coolings are counted
pub cooler : {returns : Bool} {opening : List ℕ} {t : Tally} {word : ℕ} {home : maybe.Option (maybe.Option Body)} {log : List SharedEntry} (cooled : ℕ)
    → Fits returns opening t word home log → cooled ≤ t.cooled → Fits returns opening (record t { cooled = cooled }) word home log
cooler cooled f fewer = record {
  hot = f.hot;
  word_is = f.word_is;
  one_hot = f.one_hot;
  heat = omega (arith, f.heat, fewer);
  one_turn = f.one_turn;
  one_out = f.one_out;
  here = f.here;
  small = f.small;
  chained = f.chained;
  inside = f.inside;
  answers = f.answers;
  slot = same_slot refl refl refl f.slot;
}

-- a seat gives the first of its bodies back
pub gives_back : (holds : St → Type 0) (s : St) (id at next found : ℕ) (m : Sat) (told : Sat → ℕ → Sat
    → Type 0) (n : ℕ) (body : Body) (more : List (ℕ × Body)) (w : View)
    → m.1 ≡ (n, body) ∷ more → holds (state (set s.words at next) (set s.homes n (some body)) (set s.views id w)) → told (m.0, (n, body) ∷ more) found (w, more)
    → (w : View) × (a : Act Body) × Valid s.homes m.1 a × holds (stepped s at next id m.1 w a) × told m found (w, carried_after m.1 a)
gives_back holds s id at next found m told n body more w carried kept tells =
    let P : List (ℕ × Body) → Type 0 = λ c. (w : View) × (a : Act Body) × Valid s.homes c a × holds (stepped s at next id c w a)
    × told (m.0, c) found (w, carried_after c a) in
    subst P (sym carried) (w, gives, tt, kept, tells)

-- the object that was placed is there, and the others are where they were
pub placed_here : (v : View) (n : ℕ) (p : Whereabouts) → n < length v.out → place_of (placed n p v) n ≡ p
placed_here v n p wide = get_or-set_same v.out n p Here wide

pub placed_else : (v : View) (n : ℕ) (p : Whereabouts) (m : ℕ) → m ≢ n → place_of (placed n p v) m ≡ place_of v m
placed_else v n p m ne = get_or-set_other v.out n m p Here ne

module _ (returns : Bool) (key : List (List ℕ)) (s : St) (o : Kept returns key s) (id : ℕ) (v : View) (n x hot : ℕ) (me : get_elem? s.views id ≡ some v)
    (near : n < length key) (alive_ : v.live ≡ true) (one_hot : hot ≤ 1) where
  -- what all seats have of the object before the step
  abbrev was : Tally
  was = tally n s.views

  -- the word has the heat and the last stamp, and these counts
  abbrev WordIs : Tally → Type 0
  WordIs t = x ≡ packed (t.moving + 2 * t.far) t.turns hot (t.opens + t.passes) (top 0 (o.logs n))

  -- an object that is not here is at rest
  abbrev RestsOut : Tally → Type 0
  RestsOut t = 0 < t.moving + t.far → t.opens + t.turns + hot ≡ 0

  -- the step adds no entry
  unlogged : (w : View) (hs : List (maybe.Option Body)) → SameSeat v w → w.entries ≡ v.entries → length hs ≡ length s.homes
      → ((m : ℕ) → m ≢ n → get_elem? hs m ≡ get_elem? s.homes m) → ((m : ℕ) → m ≢ n → Alike m v w)
      → Fits returns (bytes_of key n) (tally n (set s.views id w)) x (get_elem? hs n) (o.logs n)
      → (id ≡ 0 → (0 < w.made) × (w.scopes ≡ []) × (w.passing ≡ [])) → ((m : ℕ) → has_open m w + has_pass m w ≤ 1)
      → ((t : Turn) → w.turn ≡ Some t → TurnFits returns key o.logs w.scopes t)
      → ((m : ℕ) (bytes : List ℕ) → bytes_taken (place_of w m) ≡ Some bytes → Stands returns (bytes_of key m) (o.logs m) bytes)
      → ((m : Mark) → Has w.marks m → MarkFits o.logs m)
      → Kept returns key (state (set s.words (word_of n) x) hs (set s.views id w))
  unlogged w hs made wrote long homes alike fits first once turn out marks =
      let k = o.seats.knows id v me in
      moves returns key s o id v w n x hs (o.logs n) me near alive_ long homes alike made
      fits
      (subst (λ l. Knows returns key l id w) (grown_same o.logs n) (record {
        actor = λ _. made.4 ∙ k.actor alive_;
        opening_is = λ _. made.5 ∙ k.opening_is alive_;
        returns_is = λ _. made.6 ∙ k.returns_is alive_;
        idle = λ no. absurd (no_live (sym no ∙ made.2 ∙ alive_));
        first = first;
        alone = λ ne. made.3 ∙ k.alone ne;
        opens_once = once;
        turn = turn;
        out = out;
        entries = λ e has. k.entries e (subst (λ l. Has l e) wrote has);
        marks = marks;
        rises = subst (Rises 0) (sym wrote) k.rises;
      }))
      (λ e h. h) (λ e h. inl h) (λ e h. subst (λ l. Has l e) (sym wrote) h) (omega arith) (inl refl)

  -- the seat takes no slot, and gives none back
  pub keeps_slot : (scopes passing : List ℕ) (marks : List Mark) (coolings : List Cooling)
      → ((m : ℕ) → m ≢ n → (times m scopes ≡ has_open m v) × (times m passing ≡ has_pass m v)) → times n scopes + times n passing ≤ 1
      → ((opens passes : ℕ) → opens + has_open n v ≡ was.opens + times n scopes → passes + has_pass n v ≡ was.passes + times n passing
      → WordIs (record was { opens = opens; passes = passes }) × RestsOut (record was { opens = opens; passes = passes }))
      → (id ≡ 0 → (0 < v.made) × (scopes ≡ []) × (passing ≡ [])) → ((t : Turn) → v.turn ≡ Some t → TurnFits returns key o.logs scopes t)
      → ((m : Mark) → Has marks m → MarkFits o.logs m)
      → ((m : ℕ) → m ≢ n → (total (mark_on m) marks ≡ total (mark_on m) v.marks) × (total (cooled_on m) coolings ≡ has_cooled m v))
      → hot + total (cooled_on n) coolings + total (mark_on n) v.marks + was.cooled ≤ was.touched + total (mark_on n) marks + has_cooled n v
      → Kept returns key (state (set s.words (word_of n) x) s.homes
      (set s.views id (record v { scopes = scopes; passing = passing; marks = marks; coolings = coolings })))
  keeps_slot scopes passing marks coolings apart once left first turn marked unheard heat =
      let w : View = record v { scopes = scopes; passing = passing; marks = marks; coolings = coolings } in let vs : List View = set s.views id w in
      let f = o.objects.fits n near in let k = o.seats.knows id v me in
      let a = total-set (has_turn n) s.views id v w me in let b = total-set (has_moving n) s.views id v w me in
      let c = total-set (has_far n) s.views id v w me in
      let d = total-set (has_touched n) s.views id v w me in let e = total-set (has_cooled n) s.views id v w me in
      let h = left (total (has_open n) vs) (total (has_pass n) vs) (total-set (has_open n) s.views id v w me) (total-set (has_pass n) s.views id v w me) in
      unlogged w s.homes (
        refl,
        refl,
        refl,
        refl,
        refl,
        refl,
        refl,
      ) refl refl (λ _ _. refl) (λ m ne. record {
        turns = refl;
        opens = (apart m ne).0;
        passes = (apart m ne).1;
        moving = refl;
        far = refl;
        touched = omega (arith, (unheard m ne).0);
        cooled = (unheard m ne).1;
      })
      (record {
        hot = hot;
        word_is = omega (arith, h.0);
        one_hot = one_hot;
        heat = omega (arith, d, e, heat);
        one_turn = omega (arith, f.one_turn);
        one_out = omega (arith, f.one_out);
        here = λ out. let r = h.1 (omega arith) in omega arith;
        small = f.small;
        chained = f.chained;
        inside = f.inside;
        answers = f.answers;
        slot = same_slot (omega arith) (omega arith) (omega arith) f.slot;
      })
      first (λ m. dite (ℕ_discrete m n) (λ e. subst (λ i. times i scopes + times i passing ≤ 1) (sym e) once) (λ ne. omega (
        arith,
        (apart m ne).0,
        (apart m ne).1,
        k.opens_once m,
      ))) turn k.out marked

  -- the seat takes the slot of the object, or gives it back
  pub moves_slot : (slot : maybe.Option Body) (turn : Option Turn) (marks : List Mark) (out : List Whereabouts)
      → ((m : ℕ) → m ≢ n → (turns_on m turn ≡ has_turn m v) × (slice_index_or out m Here ≡ place_of v m))
      → ((turns moving far : ℕ) → turns + has_turn n v ≡ was.turns + turns_on n turn
      → moving + has_moving n v ≡ was.moving + is_moving (slice_index_or out n Here) → far + has_far n v ≡ was.far + is_far (slice_index_or out n Here)
      → WordIs (record was { turns = turns; moving = moving; far = far }) × (turns ≤ 1) × (moving + far ≤ 1)
      × RestsOut (record was { turns = turns; moving = moving; far = far })
      × SlotFits returns (bytes_of key n) (record was { turns = turns; moving = moving; far = far }) (some slot) (o.logs n))
      → ((t : Turn) → turn ≡ Some t → TurnFits returns key o.logs v.scopes t)
      → ((bytes : List ℕ) → bytes_taken (slice_index_or out n Here) ≡ Some bytes → Stands returns (bytes_of key n) (o.logs n) bytes)
      → ((m : Mark) → Has marks m → MarkFits o.logs m)
      → ((m : ℕ) → m ≢ n → total (mark_on m) marks ≡ total (mark_on m) v.marks)
      → hot + has_turn n v + total (mark_on n) v.marks + was.cooled ≤ was.touched + turns_on n turn + total (mark_on n) marks
      → Kept returns key (state (set s.words (word_of n) x) (set s.homes n slot) (set s.views id (record v { turn = turn; marks = marks; out = out })))
  moves_slot slot turn marks out apart left held stands marked unheard heat =
      let w : View = record v { turn = turn; marks = marks; out = out } in let vs : List View = set s.views id w in
      let f = o.objects.fits n near in let k = o.seats.knows id v me in
      let a = total-set (has_open n) s.views id v w me in let b = total-set (has_pass n) s.views id v w me in
      let d = total-set (has_touched n) s.views id v w me in let e = total-set (has_cooled n) s.views id v w me in
      let h = left (total (has_turn n) vs) (total (has_moving n) vs) (total (has_far n) vs) (total-set (has_turn n) s.views id v w me)
      (total-set (has_moving n) s.views id v w me) (total-set (has_far n) s.views id v w me) in
      unlogged w (set s.homes n slot) (refl, refl, refl, refl, refl, refl, refl) refl (length-set s.homes n slot) (λ m ne. set_else s.homes n m slot ne)
      (λ m ne. record {
        turns = (apart m ne).0;
        opens = refl;
        passes = refl;
        moving = ap is_moving (apart m ne).1;
        far = ap is_far (apart m ne).1;
        touched = omega (arith, (apart m ne).0, unheard m ne);
        cooled = refl;
      })
      (record {
        hot = hot;
        word_is = omega (arith, h.0);
        one_hot = one_hot;
        heat = omega (arith, d, e, heat);
        one_turn = h.1;
        one_out = h.2;
        here = λ away. let r = h.3 (omega arith) in omega arith;
        small = f.small;
        chained = f.chained;
        inside = f.inside;
        answers = f.answers;
        slot = subst (λ home. SlotFits returns (bytes_of key n) (tally n vs) home (o.logs n)) (sym (set_here s.homes n slot (omega (arith, o.objects.slots))))
            (same_slot refl refl refl h.4);
      })
      k.first k.opens_once held
      (λ m bytes e. dite (ℕ_discrete m n)
      (λ here. subst (λ i. Stands returns (bytes_of key i) (o.logs i) bytes) (sym here)
      (stands bytes (ap (λ i. bytes_taken (slice_index_or out i Here)) (sym here) ∙ e)))
      (λ ne. k.out m bytes (ap bytes_taken (sym (apart m ne).1) ∙ e)))
      marked

  -- the mover puts the object into another place, with bytes that stand, and takes its slot or gives it back
  pub puts : (slot : maybe.Option Body) (p : Whereabouts) → n < length v.out
      → ((moving far : ℕ) → moving + has_moving n v ≡ was.moving + is_moving p → far + has_far n v ≡ was.far + is_far p
      → WordIs (record was { moving = moving; far = far }) × (moving + far ≤ 1) × RestsOut (record was { moving = moving; far = far })
      × SlotFits returns (bytes_of key n) (record was { moving = moving; far = far }) (some slot) (o.logs n))
      → ((bytes : List ℕ) → bytes_taken p ≡ Some bytes → Stands returns (bytes_of key n) (o.logs n) bytes)
      → hot + was.cooled ≤ was.touched
      → Kept returns key (state (set s.words (word_of n) x) (set s.homes n slot) (set s.views id (placed n p v)))
  puts slot p wide left stands heat =
      let f = o.objects.fits n near in let k = o.seats.knows id v me in
      let is = placed_here v n p wide in
      moves_slot slot v.turn v.marks (set v.out n p) (λ j ne. (refl, placed_else v n p j ne))
      (λ turns moving far a b c. let h = left moving far (b ∙ ap (λ q. was.moving + is_moving q) is) (c ∙ ap (λ q. was.far + is_far q) is) in
      (omega (arith, h.0), omega (arith, f.one_turn), h.1, (λ out. let r = h.2 out in omega arith), same_slot (omega arith) refl refl h.3))
      k.turn (λ bytes e. stands bytes (sym (ap bytes_taken is) ∙ e)) k.marks (λ _ _. refl) (omega (arith, heat))
