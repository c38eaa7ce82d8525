-- One seat steps on one object, and the rule stays.
use Rattle.std.proofs.Common.{◌≡◌, true, false, Bool, ℕ, ◌+◌, ◌<◌, ◌≤◌, ◌≢◌, List, [], length, set, sym, refl, ap, ◌∙◌, subst, arith, cond, eqb, eq-eqb, ne_eqb}
use Rattle.std.proofs.Common.{◌⊎◌, inl, inr, ⊎_elim, length-set, get_or-set_other, get_or-set_same, slice_index, Some, None}
use mathlib.Core.Logic.{dite}
use native.Mathlib.Decide.{ℕ_discrete}
use mathlib.Core.Option.{some, none, some-injective, some-ne-none}
use mathlib.Core.Option as maybe
use lib.ListN.{get_elem?}
use Rattle.atomic_table.specs.Table.{State}
use Rattle.atomic_table.proofs.Lists.{at_set, set_else}
use Rattle.shared_objects.specs.History.{Has, top}
use Rattle.memory.specs.Objects.{bytes_of}
use Rattle.shared_objects.specs.Rule.{seat_limit, total, has_turn, has_open, has_pass, has_moving, has_far, place_of, is_moving, is_far, bytes_taken, is_live, spent, has_touched, has_cooled}
use Rattle.shared_objects.specs.Rule.{HasPart, Written, PartFits, TurnFits, MarkFits, Stands, turns_on, word_of, Tally, tally, SlotFits, Fits, Knows, Kept}
use Rattle.shared_objects.specs.Rule.SlotFits.{AtHome, Lent, Idle}
use Rattle.shared_objects.specs.declared.body.Body.{Body}
use Rattle.shared_objects.specs.declared.view.SharedEntry.{SharedEntry}
use Rattle.shared_objects.specs.declared.view.Turn.{Turn}
use Rattle.shared_objects.specs.declared.view.Mark.{Mark}
use Rattle.shared_objects.specs.declared.view.Mark.TheVariants.{Away, Busy, Worn}
use Rattle.shared_objects.specs.declared.view.Part.{Part}
use Rattle.shared_objects.specs.declared.view.Whereabouts.{Whereabouts}
use Rattle.shared_objects.specs.declared.view.Whereabouts.TheVariants.{Here, Moving, Far}
use Rattle.shared_objects.specs.declared.view.View.{View}
use Rattle.shared_objects.proofs.Sums.{set_there, total-set, term_le, terms_le, is_here}

abbrev pub St : Type 0
St = State Body View

abbrev pub state : List ℕ → List (maybe.Option Body) → List View → St
state ws hs vs = record { words = ws; homes = hs; views = vs }

-- the logs, with that of n replaced
abbrev pub grown : (ℕ → List SharedEntry) → ℕ → List SharedEntry → ℕ → List SharedEntry
grown logs n log m = cond (eqb m n) log (logs m)

pub grown_here : (logs : ℕ → List SharedEntry) (n : ℕ) (log : List SharedEntry) (m : ℕ) → m ≡ n → grown logs n log m ≡ log
grown_here logs n log m e = ap (λ b. cond b log (logs m)) (eq-eqb m n e)

pub grown_else : (logs : ℕ → List SharedEntry) (n : ℕ) (log : List SharedEntry) (m : ℕ) → m ≢ n → grown logs n log m ≡ logs m
grown_else logs n log m e = ap (λ b. cond b log (logs m)) (ne_eqb m n e)

pub grown_same : (logs : ℕ → List SharedEntry) (n : ℕ) → logs ≡ grown logs n (logs n)
grown_same logs n = λ i m. dite {P = m ≡ n} {C = logs m ≡ grown logs n (logs n) m} (ℕ_discrete m n) (λ e. ap logs e
    ∙ sym (grown_here logs n (logs n) m e)) (λ ne. sym (grown_else logs n (logs n) m ne)) i

pub same_fits : (returns : Bool) (opening : List ℕ) (t t' : Tally) (w w' : ℕ) (h h' : maybe.Option (maybe.Option Body)) (l l' : List SharedEntry)
    → t' ≡ t → w' ≡ w → h' ≡ h → l' ≡ l → Fits returns opening t w h l → Fits returns opening t' w' h' l'
same_fits returns opening t t' w w' h h' l l' p₁ p₃ p₄ p₅ f =
    subst (λ a. Fits returns opening a w' h' l') (sym p₁)
    (subst (λ a. Fits returns opening t a h' l') (sym p₃)
    (subst (λ a. Fits returns opening t w a l') (sym p₄) (subst (λ a. Fits returns opening t w h a) (sym p₅) f)))

-- ---- where the body of an object is

in_of : {returns : Bool} {opening : List ℕ} {t : Tally} {home : maybe.Option (maybe.Option Body)} {log : List SharedEntry}
    → SlotFits returns opening t home log → t.moving + t.far + t.turns ≡ 0
    → (body : Body) × (home ≡ some (some body)) × Stands returns opening log body.bytes.items
in_of (AtHome calm body at stands) z = (body, at, stands)
in_of (Lent out at) z = absurd (omega arith)
in_of (Idle far body at) z = absurd (omega arith)

far_of : {returns : Bool} {opening : List ℕ} {t : Tally} {home : maybe.Option (maybe.Option Body)} {log : List SharedEntry} (hot : ℕ)
    → t.moving + t.far ≤ 1 → (0 < t.moving + t.far → t.opens + t.turns + hot ≡ 0) → SlotFits returns opening t home log → 0 < t.far
    → (body : Body) × (home ≡ some (some body))
far_of hot one here (AtHome calm body at stands) z = absurd (omega arith)
far_of hot one here (Lent out at) z = absurd (let h = here (omega arith) in omega arith)
far_of hot one here (Idle far body at) z = (body, at)

-- here and with no turn held the body is at home
pub body_in : {returns : Bool} {opening : List ℕ} {t : Tally} {word : ℕ} {home : maybe.Option (maybe.Option Body)} {log : List SharedEntry}
    → Fits returns opening t word home log → t.moving + t.far + t.turns ≡ 0
    → (body : Body) × (home ≡ some (some body)) × Stands returns opening log body.bytes.items
body_in f z = in_of f.slot z

-- where it is far some body is at home
pub body_far : {returns : Bool} {opening : List ℕ} {t : Tally} {word : ℕ} {home : maybe.Option (maybe.Option Body)} {log : List SharedEntry}
    → Fits returns opening t word home log → 0 < t.far → (body : Body) × (home ≡ some (some body))
body_far f z = far_of f.hot f.one_out f.here f.slot z

-- two views that count the same at an object
pub record Alike (m : ℕ) (v w : View) : Type 0 where
  pub turns : has_turn m w ≡ has_turn m v
  pub opens : has_open m w ≡ has_open m v
  pub passes : has_pass m w ≡ has_pass m v
  pub moving : has_moving m w ≡ has_moving m v
  pub far : has_far m w ≡ has_far m v
  pub touched : has_touched m w ≡ has_touched m v
  pub cooled : has_cooled m w ≡ has_cooled m v

pub tally_set : (vs : List View) (id : ℕ) (v w : View) (m : ℕ) → get_elem? vs id ≡ some v → Alike m v w → tally m (set vs id w) ≡ tally m vs
tally_set vs id v w m me a =
    let step : (g : View → ℕ) → g w ≡ g v → total g (set vs id w) ≡ total g vs = λ g e. omega (arith, total-set g vs id v w me, e) in
    λ i. record {
      turns = step (has_turn m) a.turns i;
      opens = step (has_open m) a.opens i;
      passes = step (has_pass m) a.passes i;
      moving = step (has_moving m) a.moving i;
      far = step (has_far m) a.far i;
      touched = step (has_touched m) a.touched i;
      cooled = step (has_cooled m) a.cooled i;
    }

-- a place with bytes counts
pub place_weighs : (p : Whereabouts) (bytes : List ℕ) → bytes_taken p ≡ Some bytes → is_moving p + is_far p ≡ 1
place_weighs Here bytes e = let none : None ≡ Some bytes = e in cc
place_weighs (Moving b) bytes e = refl
place_weighs (Far b) bytes e = refl

pub out_weighs : (u : View) (n : ℕ) (bytes : List ℕ) → bytes_taken (place_of u n) ≡ Some bytes → has_moving n u + has_far n u ≡ 1
out_weighs u n bytes e = place_weighs (place_of u n) bytes e

-- a seat that holds the turn of an object
pub turn_here : (v : View) (t : Turn) → v.turn ≡ Some t → has_turn t.object v ≡ 1
turn_here v t e = ap (turns_on t.object) e ∙ is_here t.object t.object refl

pub no_live : false ≡ true → ⊥
no_live e = cc

-- what a step leaves of a seat
abbrev pub SameSeat : View → View → Type 0
SameSeat v w = (w.made ≡ v.made) × (w.alive ≡ v.alive) × (w.live ≡ v.live) × (w.gathered ≡ v.gathered) × (w.actor ≡ v.actor)
    × (w.opening ≡ v.opening) × (w.returns ≡ v.returns)

-- a seat knows what it knew, of other entries and with other counts of seats, where these facts hold again
pub knows_again : (returns : Bool) (opening : List (List ℕ)) (logs logs' : ℕ → List SharedEntry) (id : ℕ) (v : View) (made alive : ℕ) (gathered : List Part)
    → Knows returns opening logs id v
    → (v.live ≡ false → record v { made = made; alive = alive; gathered = gathered } ≡ spent) → (id ≡ 0 → 0 < made) → (id ≢ 0 → gathered ≡ [])
    → ((t : Turn) → v.turn ≡ Some t → TurnFits returns opening logs' v.scopes t)
    → ((n : ℕ) (bytes : List ℕ) → bytes_taken (place_of v n) ≡ Some bytes → Stands returns (bytes_of opening n) (logs' n) bytes)
    → ((e : SharedEntry) → Has v.entries e → Has (logs' e.object) e) → ((m : Mark) → Has v.marks m → MarkFits logs' m)
    → Knows returns opening logs' id (record v { made = made; alive = alive; gathered = gathered })
knows_again returns opening logs logs' id v made alive gathered k idle maker alone turn out entries marks = record {
  actor = k.actor;
  opening_is = k.opening_is;
  returns_is = k.returns_is;
  idle = idle;
  first = λ z. (maker z, (k.first z).1, (k.first z).2);
  alone = alone;
  opens_once = k.opens_once;
  turn = turn;
  out = out;
  entries = λ e has. ((k.entries e has).0, entries e has);
  marks = marks;
  rises = k.rises;
}

module _ (returns : Bool) (opening : List (List ℕ)) (s : St) (o : Kept returns opening s) (id : ℕ) (v w : View) (n x : ℕ)
    (hs : List (maybe.Option Body)) (log : List SharedEntry)
    (me : get_elem? s.views id ≡ some v) (near : n < length opening) (alive_ : v.live ≡ true) where
  abbrev logs' : ℕ → List SharedEntry
  logs' = grown o.logs n log

  abbrev vs' : List View
  vs' = set s.views id w

  -- an entry stands as before
  pub entry_stays : ((e : SharedEntry) → Has (o.logs n) e → Has log e) → (e : SharedEntry) → Has (o.logs e.object) e → Has (logs' e.object) e
  entry_stays keeps e old = dite (ℕ_discrete e.object n)
      (λ here. subst (λ l. Has l e) (sym (grown_here o.logs n log e.object here)) (keeps e (subst (λ m. Has (o.logs m) e) here old)))
      (λ else. subst (λ l. Has l e) (sym (grown_else o.logs n log e.object else)) old)

  -- a mark stands as before
  pub mark_stays : top 0 (o.logs n) ≤ top 0 log → (m : Mark) → MarkFits o.logs m → MarkFits logs' m
  mark_stays higher (Away k) h = tt
  mark_stays higher (Busy k) h = tt
  mark_stays higher (Worn k found) h = dite (ℕ_discrete k n)
      (λ here. let a : top 0 (o.logs k) ≡ top 0 (o.logs n) = ap (λ j. top 0 (o.logs j)) here in
      let b : top 0 (logs' k) ≡ top 0 log = ap (top 0) (grown_here o.logs n log k here) in omega arith)
      (λ else. let b : top 0 (logs' k) ≡ top 0 (o.logs k) = ap (top 0) (grown_else o.logs n log k else) in omega arith)

  -- what another seat knows
  others : ((e : SharedEntry) → Has (o.logs n) e → Has log e) → top 0 (o.logs n) ≤ top 0 log → (log ≡ o.logs n) ⊎ (has_turn n v ≡ 1)
      → (j : ℕ) (u : View) → j ≢ id → get_elem? s.views j ≡ some u → Knows returns opening logs' j u
  others keeps higher mine j u ne at = let k = o.seats.knows j u at in
      knows_again returns opening o.logs logs' j u u.made u.alive u.gathered k k.idle (λ z. (k.first z).0) k.alone
      (λ t e. dite (ℕ_discrete t.object n)
      (λ here. ⊎_elim (λ (same : log ≡ o.logs n).
      let eq : logs' t.object ≡ o.logs t.object = grown_here o.logs n log t.object here ∙ same ∙ ap o.logs (sym here) in
      subst (λ l. (t.stamp ≡ top 0 l) × Stands returns (bytes_of opening t.object) l t.bytes × (length u.scopes ≤ 4)) (sym eq) (k.turn t e))
      (λ (held : has_turn n v ≡ 1). let theirs : has_turn n u ≡ 1 = subst (λ m. has_turn m u ≡ 1) here (turn_here u t e) in
      let few = (o.objects.fits n near).one_turn in
      absurd (omega (arith, terms_le (has_turn n) s.views id j v u ne me at)))
      mine)
      (λ else. subst (λ l. (t.stamp ≡ top 0 l) × Stands returns (bytes_of opening t.object) l t.bytes
      × (length u.scopes ≤ 4)) (sym (grown_else o.logs n log t.object else)) (k.turn t e)))
      (λ m bytes e. dite (ℕ_discrete m n)
      (λ here. ⊎_elim (λ (same : log ≡ o.logs n).
      let eq : logs' m ≡ o.logs m = grown_here o.logs n log m here ∙ same ∙ ap o.logs (sym here) in
      subst (λ l. Stands returns (bytes_of opening m) l bytes) (sym eq) (k.out m bytes e))
      (λ (held : has_turn n v ≡ 1).
      let gone = (o.objects.fits n near).here in
      let theirs : has_moving n u + has_far n u ≡ 1 = subst (λ i. has_moving i u + has_far i u ≡ 1) here (out_weighs u m bytes e) in
      absurd (omega (arith, gone, term_le (has_turn n) s.views id v me, term_le (has_moving n) s.views j u at, term_le (has_far n) s.views j u at)))
      mine)
      (λ else. subst (λ l. Stands returns (bytes_of opening m) l bytes) (sym (grown_else o.logs n log m else)) (k.out m bytes e)))
      (λ e has. entry_stays keeps e (k.entries e has).1) (λ m has. mark_stays higher m (k.marks m has))

  abbrev WrittenIn : List View → SharedEntry → Type 0
  WrittenIn vs e = (j : ℕ) × (u : View) × (get_elem? vs j ≡ some u) × Written u e

  -- what is written in the seats stays written
  stays : ((e : SharedEntry) → Has v.entries e → Has w.entries e) → w.gathered ≡ v.gathered → (e : SharedEntry) → WrittenIn s.views e → WrittenIn vs' e
  stays mine got e h = dite (ℕ_discrete h.0 id)
      (λ same. let is : h.1 ≡ v = some-injective h.1 v (sym h.2 ∙ ap (get_elem? s.views) same ∙ me) in (
        id,
        w,
        set_there s.views id v w me,
        ⊎_elim (λ own. inl (mine e (subst (λ (y : View). Has y.entries e) is own)))
            (λ part. inr (subst (λ l. HasPart l e) (sym got) (subst (λ (y : View). HasPart y.gathered e) is part))) h.3,
      ))
      (λ ne. (h.0, h.1, set_else s.views id h.0 w ne ∙ h.2, h.3))

  -- a seat that was taken in stays so
  fits_on : ((e : SharedEntry) → Has (o.logs n) e → Has log e) → top 0 (o.logs n) ≤ top 0 log → (p : Part) → PartFits o.logs s.views p → PartFits logs' vs' p
  fits_on keeps higher p f = record {
    rises = f.rises;
    entries = λ e has. let old = f.entries e has in (old.0, entry_stays keeps e old.1);
    marks = λ m has. mark_stays higher m (f.marks m has);
    gone = set_else s.views id p.actor w (λ same. let is : spent ≡ v = some-injective spent v (sym f.gone ∙ ap (get_elem? s.views) same ∙ me) in
        no_live (ap (λ (y : View). y.live) is ∙ alive_)) ∙ f.gone;
  }

  pub moves : length hs ≡ length s.homes
      → ((m : ℕ) → m ≢ n → get_elem? hs m ≡ get_elem? s.homes m)
      → ((m : ℕ) → m ≢ n → Alike m v w)
      → SameSeat v w
      → Fits returns (bytes_of opening n) (tally n vs') x (get_elem? hs n) log
      → Knows returns opening logs' id w
      → ((e : SharedEntry) → Has (o.logs n) e → Has log e)
      → ((e : SharedEntry) → Has log e → Has (o.logs n) e ⊎ ((e.object ≡ n) × Has w.entries e))
      → ((e : SharedEntry) → Has v.entries e → Has w.entries e)
      → top 0 (o.logs n) ≤ top 0 log
      → (log ≡ o.logs n) ⊎ (has_turn n v ≡ 1)
      → Kept returns opening (state (set s.words (word_of n) x) hs vs')
  moves long homes alike made fits knows keeps news mine higher only =
      let long' : length vs' ≡ length s.views = length-set s.views id w in
      let same_live : is_live w ≡ is_live v = ap {B = ℕ} (λ (b : Bool). cond b 1 0) made.2 in
      let living : total is_live vs' ≡ total is_live s.views = omega (arith, total-set is_live s.views id v w me, same_live) in
      record {
        logs = logs';
        objects = record {
          words = length-set s.words (word_of n) x ∙ o.objects.words;
          slots = long ∙ o.objects.slots;
          fits = λ m lt. dite (ℕ_discrete m n)
              (λ e. subst (λ k. Fits returns (bytes_of opening k) (tally k vs') (slice_index (set s.words (word_of n) x) (word_of k))
              (get_elem? hs k) (logs' k)) (sym e)
              (same_fits _ _ _ _ _ _ _ _ _ _ refl (get_or-set_same s.words (word_of n) x 0 (omega (arith, o.objects.words, near))) refl
              (grown_here o.logs n log n refl) fits))
              (λ ne. same_fits _ _ _ _ _ _ _ _ _ _ (tally_set s.views id v w m me (alike m ne))
              (get_or-set_other s.words (word_of n) (word_of m) x 0 (λ q. ne (omega (arith, q)))) (homes m ne)
              (grown_else o.logs n log m ne) (o.objects.fits m lt));
          nowhere = λ m far. grown_else o.logs n log m (λ same. omega (arith, same)) ∙ o.objects.nowhere m far;
        };
        seats = record {
          few = subst (λ k. k ≤ seat_limit) (sym long') o.seats.few;
          knows = λ j u at. ⊎_elim
              (λ (t : (j ≡ id) × (w ≡ u)). subst (λ y. Knows returns opening logs' j y) t.1 (subst (λ k. Knows returns opening logs' k w) (sym t.0) knows))
              (λ (t : (j ≢ id) × (get_elem? s.views j ≡ some u)). others keeps higher only j u t.0 t.1) (at_set s.views id j w u at);
          dealer = λ j u at some-made. ⊎_elim
              (λ (t : (j ≡ id) × (w ≡ u)). let e : u.made ≡ v.made = ap (λ (y : View). y.made) (sym t.1) ∙ made.0 in
              let d = o.seats.dealer id v me (subst (λ k. 0 < k) e some-made) in
              (t.0 ∙ d.0, e ∙ d.1 ∙ sym long', ap (λ (y : View). y.alive) (sym t.1) ∙ made.1 ∙ d.2 ∙ sym living))
              (λ t. let d = o.seats.dealer j u t.1 some-made in (d.0, d.1 ∙ sym long', d.2 ∙ sym living)) (at_set s.views id j w u at);
          parts = λ j u at p has. ⊎_elim
              (λ (t : (j ≡ id) × (w ≡ u)). fits_on keeps higher p
              (o.seats.parts id v me p (subst (λ l. Has l p) (ap (λ (y : View). y.gathered) (sym t.1) ∙ made.3) has)))
              (λ (t : (j ≢ id) × (get_elem? s.views j ≡ some u)). fits_on keeps higher p (o.seats.parts j u t.1 p has)) (at_set s.views id j w u at);
          apart = λ j u at a b p q hp hq same. ⊎_elim
              (λ (t : (j ≡ id) × (w ≡ u)). let e : u.gathered ≡ v.gathered = ap (λ (y : View). y.gathered) (sym t.1) ∙ made.3 in
              o.seats.apart id v me a b p q (subst (λ l. get_elem? l a ≡ some p) e hp) (subst (λ l. get_elem? l b ≡ some q) e hq) same)
              (λ (t : (j ≢ id) × (get_elem? s.views j ≡ some u)). o.seats.apart j u t.1 a b p q hp hq same) (at_set s.views id j w u at);
        };
        whole = λ m e has. dite (ℕ_discrete m n)
            (λ here. let at : Has log e = subst (λ l. Has l e) (grown_here o.logs n log m here) has in
            ⊎_elim (λ old. let t = o.whole n e old in (t.0 ∙ sym here, stays mine made.3 e t.1))
            (λ (new : (e.object ≡ n) × Has w.entries e). (new.0 ∙ sym here, (id, w, set_there s.views id v w me, inl new.1))) (news e at))
            (λ else. let t = o.whole m e (subst (λ l. Has l e) (grown_else o.logs n log m else) has) in (t.0, stays mine made.3 e t.1));
      }
