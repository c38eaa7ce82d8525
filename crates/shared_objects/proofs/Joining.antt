-- Seats are taken in, and the last one knows all.
use Rattle.std.proofs.Common.{◌≡◌, ℕ, zero, suc, ◌+◌, ◌-◌, ◌<◌, ◌≤◌, ◌≢◌, Bool, true, false, List, [], ◌∷◌, ◌++◌, length, set, sym, refl, ap, ◌∙◌, subst, arith}
use Rattle.std.proofs.Common.{cond, ◌⊎◌, inl, inr, ⊎_elim, length-set, map, take, Some, None}
use Rattle.std.specs.Prelude.{slice_index_or}
use Rattle.std.proofs.lemmas.Bool.{cases_lt}
use mathlib.Core.Logic.{dite}
use native.Mathlib.Decide.{ℕ_discrete}
use mathlib.Core.Option.{some, some-injective, some-ne-none}
use lib.ListN.{get_elem?}
use Rattle.atomic_table.specs.Table.{State, Joins}
use Rattle.atomic_table.proofs.Lists.{at_set, set_else}
use Rattle.shared_objects.specs.History.{Has, Chained, AllInside, Answers}
use Rattle.memory.specs.Objects.{bytes_of}
use Rattle.shared_objects.specs.Rule.{seat_limit, total, times, has_turn, has_open, has_pass, has_moving, has_far, place_of, bytes_taken, is_moving, is_far, is_live, spent}
use Rattle.shared_objects.specs.Rule.{part_touches, has_touched, has_cooled}
use Rattle.shared_objects.specs.Rule.{HasPart, PartFits, MarkFits, Stands, turns_on, Knows, Kept}
use Rattle.shared_objects.specs.Kinds.{gathers, gathers_all, part}
use Rattle.shared_objects.specs.declared.body.Body.{Body}
use Rattle.shared_objects.specs.declared.view.SharedEntry.{SharedEntry}
use Rattle.shared_objects.specs.declared.view.Part.{Part}
use Rattle.shared_objects.specs.declared.view.Mark.{Mark}
use Rattle.shared_objects.specs.declared.view.View.{View}
use Rattle.shared_objects.proofs.Sums.{at_end, total-append, total-set, terms_le, set_there}
use Rattle.shared_objects.proofs.Logs.{has_longer, has_last, has_snoc}
use Rattle.shared_objects.proofs.Moves.{no_live, same_fits, body_in}
use Rattle.shared_objects.proofs.Steps.{cooler}
use Rattle.shared_objects.proofs.Keeps.{none_is_not, some_is, knows_nothing, knows_still}
use Rattle.shared_objects.specs.Ends.{shown, all_shown, Shows, Closes}
use Rattle.shared_objects.specs.Phases.{phase_of}
use Rattle.shared_objects.specs.declared.view.Whereabouts.{Whereabouts}
use Rattle.shared_objects.specs.declared.view.Whereabouts.TheVariants.{Here, Moving, Far}
use Rattle.shared_objects.specs.declared.seats.Phase.{Phase}
use Rattle.shared_objects.specs.declared.closing.ObjectEnd.{ObjectEnd}
use Rattle.shared_objects.proofs.One.{one_list}
use Rattle.shared_objects.specs.One.{PartsFit}

-- The seat that makes the others takes in one that holds no turn and has no scope open
pub joins_ok : (returns : Bool) (key : List (List ℕ)) (id : ℕ) (v : View) (other : ℕ) (u : View) → 0 < v.made → v.live ≡ true → u.live ≡ true → u.made ≡ 0
    → u.turn ≡ None → u.scopes ≡ [] → u.gathered ≡ [] → u.passing ≡ [] → u.out ≡ []
    → Joins (Kept returns key) id v other u (gathers v u) spent
joins_ok returns key id v other u maker alive_ here young free shut clean past home s o me apart them =
    let w : View = gathers v u in
    let new : Part = part u.actor u.entries u.marks in
    let vs : List View = set s.views id w in
    let vs' : List View = set vs other spent in
    let there : get_elem? s.views other ≡ some u = sym (set_else s.views id other w apart) ∙ them in
    let k = o.seats.knows id v me in let ku = o.seats.knows other u there in
    let d = o.seats.dealer id v me maker in
    let both : (g : View → ℕ) → total g vs' + g u + g v ≡ total g s.views + g w + g spent =
    λ g. omega (arith, total-set g s.views id v w me, total-set g vs other u spent them) in
    let long : length vs' ≡ length s.views = length-set vs other spent ∙ length-set s.views id w in
    let one : is_live v ≡ 1 = ap {B = ℕ} (λ (b : Bool). cond b 1 0) alive_ in let one' : is_live u ≡ 1 = ap {B = ℕ} (λ (b : Bool). cond b 1 0) here in
    let numbered : u.actor ≡ other = ku.actor here in
    let gone : get_elem? vs' other ≡ some spent = set_there vs other u spent them in
    let not_live : (n : ℕ) (y : View) → get_elem? s.views n ≡ some y → y.live ≡ true → get_elem? s.views n ≡ some spent
    → ⊥ = λ n y at lively is. no_live (ap (λ (z : View). z.live) (some-injective spent y (sym is ∙ at)) ∙ lively) in
    -- a seat that was taken in stays so
    let stays : (p : Part) → PartFits o.logs s.views p → PartFits o.logs vs' p = λ p f. record {
      rises = f.rises;
      entries = f.entries;
      marks = f.marks;
      gone = set_else vs other p.actor spent (λ e. not_live other u there here (sym (ap (get_elem? s.views) e) ∙ f.gone))
          ∙ set_else s.views id p.actor w (λ e. not_live id v me alive_ (sym (ap (get_elem? s.views) e) ∙ f.gone)) ∙ f.gone;
    } in
    let news : PartFits o.logs vs' new = record {
      rises = ku.rises;
      entries = λ e h. (let q = ku.entries e h in (q.0 ∙ sym numbered, q.1));
      marks = ku.marks;
      gone = ap (get_elem? vs') numbered ∙ gone;
    } in
    let not_zero : other ≡ 0 → ⊥ = λ z. (let h = (ku.first z).0 in omega (arith, young)) in
    let fresh : (p : Part) → Has v.gathered p → p.actor ≡ new.actor → ⊥ = λ p h e. let f = o.seats.parts id v me p h in
    not_live other u there here (sym (ap (get_elem? s.views) (e ∙ numbered)) ∙ f.gone) in
    -- which seat it is
    let which : (j : ℕ) (x : View) → get_elem? vs' j ≡ some x
    → ((j ≡ other) × (spent ≡ x)) ⊎ (((j ≡ id) × (w ≡ x)) ⊎ ((j ≢ id) × (get_elem? s.views j ≡ some x))) = λ j x at. ⊎_elim
    (λ (t : (j ≡ other) × (spent ≡ x)). inl t) (λ (t : (j ≢ other)
    × (get_elem? vs j ≡ some x)). inr (at_set s.views id j w x t.1)) (at_set vs other j spent x at) in
    record {
      logs = o.logs;
      objects = record {
        words = o.objects.words;
        slots = o.objects.slots;
        fits = λ n lt.
            let turns : total (has_turn n) vs' ≡ total (has_turn n) s.views = omega (arith, both (has_turn n), ap (turns_on n) free) in
            let opens : total (has_open n) vs' ≡ total (has_open n) s.views = omega (arith, both (has_open n), ap (times n) shut) in
            let passes : total (has_pass n) vs' ≡ total (has_pass n) s.views = omega (arith, both (has_pass n), ap (times n) past) in
            let still : has_moving n u ≡ 0 = ap (λ (l : List Whereabouts). is_moving (slice_index_or l n Here)) home in
            let near : has_far n u ≡ 0 = ap (λ (l : List Whereabouts). is_far (slice_index_or l n Here)) home in
            let moving : total (has_moving n) vs' ≡ total (has_moving n) s.views = omega (arith, both (has_moving n), still) in
            let far : total (has_far n) vs' ≡ total (has_far n) s.views = omega (arith, both (has_far n), near) in
            let none-took : total (part_touches n) u.gathered ≡ 0 = ap (total (part_touches n)) clean in
            let touched : total (has_touched n) vs' ≡ total (has_touched n) s.views = omega (
              arith,
              both (has_touched n),
              ap (turns_on n) free,
              none-took,
              total-append (part_touches n) v.gathered (new ∷ []),
            ) in
            let cooled : total (has_cooled n) vs' ≤ total (has_cooled n) s.views = omega (arith, both (has_cooled n)) in
            same_fits _ _ _ _ _ _ _ _ _ _ (λ i. record {
              turns = turns i;
              opens = opens i;
              passes = passes i;
              moving = moving i;
              far = far i;
              touched = touched i;
              cooled = total (has_cooled n) vs';
            }) refl refl refl (cooler (total (has_cooled n) vs') (o.objects.fits n lt) cooled);
        nowhere = o.objects.nowhere;
      };
      seats = record {
        few = subst (λ n. n ≤ seat_limit) (sym long) o.seats.few;
        knows = λ j x at. ⊎_elim
            (λ (t : (j ≡ other) × (spent ≡ x)). subst (λ y. Knows returns key o.logs j y) t.1
            (knows_nothing returns key o.logs j false spent.returns spent.actor spent.opening (λ z. not_zero (sym t.0 ∙ z))
            (λ e. absurd (no_live e)) (λ _. refl)))
            (λ t. ⊎_elim
            (λ (q : (j ≡ id) × (w ≡ x)). subst (λ y. Knows returns key o.logs j y) q.1
            (subst (λ i. Knows returns key o.logs i w) (sym q.0)
            (knows_still returns key o.logs id v v.made (v.alive - 1) (v.gathered ++ new ∷ []) k alive_ maker d.0)))
            (λ (q : (j ≢ id) × (get_elem? s.views j ≡ some x)). o.seats.knows j x q.1) t)
            (which j x at);
        dealer = λ j x at some-made. ⊎_elim
            (λ (t : (j ≡ other) × (spent ≡ x)). absurd (omega (arith, ap (λ (y : View). y.made) t.1)))
            (λ t. ⊎_elim
            (λ (q : (j ≡ id) × (w ≡ x)). (
              q.0 ∙ d.0,
              ap (λ (y : View). y.made) (sym q.1) ∙ d.1 ∙ sym long,
              omega (arith, ap (λ (y : View). y.alive) q.1, d.2, both is_live, terms_le is_live s.views id other v u apart me there),
            ))
            (λ (q : (j ≢ id) × (get_elem? s.views j ≡ some x)). absurd (q.0 ((o.seats.dealer j x q.1 some-made).0 ∙ sym d.0))) t)
            (which j x at);
        parts = λ j x at p has. ⊎_elim
            (λ (t : (j ≡ other) × (spent ≡ x)). absurd (let bad : Has [] p = subst (λ l. Has l p) (ap (λ (y : View). y.gathered) (sym t.1)) has in
            some-ne-none p (sym bad.1)))
            (λ t. ⊎_elim
            (λ (q : (j ≡ id) × (w ≡ x)). ⊎_elim (λ old. stays p (o.seats.parts id v me p old)) (λ (e : new ≡ p). subst (PartFits o.logs vs') e news)
            (has_snoc v.gathered new p (subst (λ l. Has l p) (ap (λ (y : View). y.gathered) (sym q.1)) has)))
            (λ (q : (j ≢ id) × (get_elem? s.views j ≡ some x)). stays p (o.seats.parts j x q.1 p has)) t)
            (which j x at);
        apart = λ j x at a b p q hp hq same. ⊎_elim
            (λ (t : (j ≡ other) × (spent ≡ x)). absurd (let bad : get_elem? {A = Part} [] a ≡ some p =
            subst (λ l. get_elem? l a ≡ some p) (ap (λ (y : View). y.gathered) (sym t.1)) hp in some-ne-none p (sym bad)))
            (λ t. ⊎_elim
            (λ (z : (j ≡ id) × (w ≡ x)). let e : x.gathered ≡ v.gathered ++ new ∷ [] = ap (λ (y : View). y.gathered) (sym z.1) in
            ⊎_elim
            (λ (pa : get_elem? v.gathered a ≡ some p). ⊎_elim
            (λ (qa : get_elem? v.gathered b ≡ some q). o.seats.apart id v me a b p q pa qa same)
            (λ (qa : (b ≡ length v.gathered) × (new ≡ q)). absurd (fresh p (a, pa) (same ∙ ap (λ (y : Part). y.actor) (sym qa.1))))
            (at_end v.gathered new q b (subst (λ l. get_elem? l b ≡ some q) e hq)))
            (λ (pa : (a ≡ length v.gathered) × (new ≡ p)). ⊎_elim
            (λ (qa : get_elem? v.gathered b ≡ some q). absurd (fresh q (b, qa) (sym same ∙ ap (λ (y : Part). y.actor) (sym pa.1))))
            (λ (qa : (b ≡ length v.gathered) × (new ≡ q)). pa.0 ∙ sym qa.0)
            (at_end v.gathered new q b (subst (λ l. get_elem? l b ≡ some q) e hq)))
            (at_end v.gathered new p a (subst (λ l. get_elem? l a ≡ some p) e hp)))
            (λ (z : (j ≢ id) × (get_elem? s.views j ≡ some x)). o.seats.apart j x z.1 a b p q hp hq same) t)
            (which j x at);
      };
      whole = λ n e h. let t = o.whole n e h in (
        t.0,
        dite (ℕ_discrete t.1.0 other)
            (λ it. let is : t.1.1 ≡ u = some-injective t.1.1 u (sym t.1.2 ∙ ap (get_elem? s.views) it ∙ there) in (
              id,
              w,
              set_else vs other id spent (λ q. apart (sym q)) ∙ set_there s.views id v w me,
              ⊎_elim (λ own. inr (new, has_last v.gathered new, subst (λ (y : View). Has y.entries e) is own))
                  (λ got. absurd (let bad : HasPart [] e = subst (λ l. HasPart l e) (ap (λ (y : View). y.gathered) is ∙ clean) got in
                  some-ne-none bad.0 (sym bad.1.1))) t.1.3,
            ))
            (λ ne. dite (ℕ_discrete t.1.0 id)
            (λ it. let is : t.1.1 ≡ v = some-injective t.1.1 v (sym t.1.2 ∙ ap (get_elem? s.views) it ∙ me) in (
              id,
              w,
              set_else vs other id spent (λ q. apart (sym q)) ∙ set_there s.views id v w me,
              ⊎_elim (λ own. inl (subst (λ (y : View). Has y.entries e) is own)) (λ got. let g = subst (λ (y : View). HasPart y.gathered e) is got in
                  inr (g.0, has_longer v.gathered (new ∷ []) g.0 g.1, g.2)) t.1.3,
            ))
            (λ ne'. (t.1.0, t.1.1, set_else vs other t.1.0 spent ne ∙ set_else s.views id t.1.0 w ne' ∙ t.1.2, t.1.3))),
      );
    }

-- What the last seat knows: it has all entries; each body that is here, and the bytes of each object that is out, stand
pub record Settled (returns : Bool) (key : List (List ℕ)) (v : View) (s : State Body View) : Type 0 where
  pub logs : ℕ → List SharedEntry
  pub parts : PartsFit v.gathered
  pub into : (e : SharedEntry) → HasPart v.gathered e → (e.object < length key) × Has (logs e.object) e
  pub from : (n : ℕ) (e : SharedEntry) → Has (logs n) e → (e.object ≡ n) × HasPart v.gathered e
  pub nowhere : (n : ℕ) → length key ≤ n → logs n ≡ []
  pub marks : (p : Part) → Has v.gathered p → (m : Mark) → Has p.marks m → MarkFits logs m
  pub legal : (n : ℕ) → n < length key → Chained 0 (logs n) × AllInside (length (bytes_of key n)) (logs n)
      × (returns ≡ true → Answers (bytes_of key n) (logs n))
  pub slots : length s.homes ≡ length key
  pub here : (n : ℕ) → n < length key → place_of v n ≡ Here
      → (body : Body) × (get_elem? s.homes n ≡ some (some body)) × Stands returns (bytes_of key n) (logs n) body.bytes.items
  pub away : (n : ℕ) (bytes : List ℕ) → bytes_taken (place_of v n) ≡ Some bytes → Stands returns (bytes_of key n) (logs n) bytes

alone : (g : View → ℕ) (vs : List View) (j k : ℕ) (v x : View) → get_elem? vs j ≡ some v → get_elem? vs k ≡ some x → g v ≡ 1 → total g vs ≡ 1 → k ≢ j → g x ≡ 0
alone g vs j k v x at at' one all ne = omega (arith, terms_le g vs j k v x ne at at')

abbrev bit : Bool → ℕ
bit b = cond b 1 0

live_or : (b : Bool) → bit b ≡ 0 → b ≡ false
live_or true e = absurd (omega arith)
live_or false e = refl

total_none : {A : Type 0} (g : A → ℕ) (l : List A) → ((j : ℕ) (a : A) → get_elem? l j ≡ some a → g a ≡ 0) → total g l ≡ 0
total_none g [] h = refl
total_none g (x ∷ xs) h = omega (arith, h 0 x refl, total_none g xs (λ j a e. h (suc j) a e))

pub settles : (returns : Bool) (key : List (List ℕ)) (id : ℕ) (v : View) (s : State Body View) → Kept returns key s → get_elem? s.views id ≡ some v
    → 0 < v.made → v.live ≡ true → v.alive ≡ 1 → v.turn ≡ None → v.entries ≡ [] → Settled returns key v s
settles returns key id v s o me maker alive_ last free idle_hands =
    let d = o.seats.dealer id v me maker in
    let one : is_live v ≡ 1 = ap {B = ℕ} (λ (b : Bool). cond b 1 0) alive_ in
    let others : (j : ℕ) (x : View) → j ≢ id → get_elem? s.views j ≡ some x → x ≡ spent = λ j x ne at.
    (o.seats.knows j x at).idle (live_or x.live (alone is_live s.views id j v x me at one (sym d.2 ∙ last) ne)) in
    let idle : (g : View → ℕ) → g spent ≡ 0 → g v ≡ 0 → total g s.views ≡ 0 = λ g none mine. total_none g s.views (λ j x at. dite (ℕ_discrete j id)
    (λ e. ap g (some-injective x v (sym at ∙ ap (get_elem? s.views) e ∙ me)) ∙ mine)
    (λ ne. ap g (others j x ne at) ∙ none)) in
    record {
      logs = o.logs;
      parts = ((λ p h. let f = o.seats.parts id v me p h in (f.rises, λ e q. (f.entries e q).0)), o.seats.apart id v me);
      into = λ e h. let f = o.seats.parts id v me h.0 h.1 in let q : Has (o.logs e.object) e = (f.entries e h.2).1 in (
        ⊎_elim (λ near. near) (λ (far : length key ≤ e.object). absurd (let bad : Has [] e = subst (λ l. Has l e) (o.objects.nowhere e.object far) q in
            some-ne-none e (sym bad.1))) (cases_lt e.object (length key)),
        q,
      );
      from = λ n e h. let t = o.whole n e h in (
        t.0,
        dite (ℕ_discrete t.1.0 id)
            (λ it. ⊎_elim
            (λ own. absurd (let bad : Has [] e = subst (λ l. Has l e)
            (ap (λ (y : View). y.entries) (some-injective t.1.1 v (sym t.1.2 ∙ ap (get_elem? s.views) it ∙ me)) ∙ idle_hands) own in
            some-ne-none e (sym bad.1)))
            (λ got. subst (λ (y : View). HasPart y.gathered e) (some-injective t.1.1 v (sym t.1.2 ∙ ap (get_elem? s.views) it ∙ me)) got) t.1.3)
            (λ ne. let z = others t.1.0 t.1.1 ne t.1.2 in ⊎_elim
            (λ own. absurd (let bad : Has [] e = subst (λ (y : View). Has y.entries e) z own in some-ne-none e (sym bad.1)))
            (λ got. absurd (let bad : HasPart [] e = subst (λ (y : View). HasPart y.gathered e) z got in some-ne-none bad.0 (sym bad.1.1))) t.1.3),
      );
      nowhere = o.objects.nowhere;
      marks = λ p h. (o.seats.parts id v me p h).marks;
      legal = λ n lt. let f = o.objects.fits n lt in (f.chained, f.inside, f.answers);
      slots = o.objects.slots;
      here = λ n lt at.
          let turns = idle (has_turn n) refl (ap (turns_on n) free) in
          let moving = idle (has_moving n) refl (ap is_moving at) in
          let far = idle (has_far n) refl (ap is_far at) in
          body_in (o.objects.fits n lt) (omega arith);
      away = (o.seats.knows id v me).out;
    }

-- the bytes of each object, by where it is
abbrev end_of : Whereabouts → Body → List ℕ
end_of Here body = body.bytes.items
end_of (Moving bytes) body = bytes
end_of (Far bytes) body = bytes

abbrev all_ends : List Whereabouts → List Body → List (List ℕ)
all_ends [] bodies = []
all_ends (p ∷ ps) [] = []
all_ends (p ∷ ps) (b ∷ bs) = end_of p b ∷ all_ends ps bs

ends_long : (out : List Whereabouts) (bs : List Body) → length out ≡ length bs → length (all_ends out bs) ≡ length bs
ends_long [] [] e = refl
ends_long [] (b ∷ bs) e = absurd (omega (arith, e))
ends_long (p ∷ ps) [] e = absurd (omega (arith, e))
ends_long (p ∷ ps) (b ∷ bs) e = omega (arith, ends_long ps bs (omega (arith, e)))

shown_long : (out : List Whereabouts) (bs : List Body) → length out ≡ length bs → length (all_shown (map phase_of out) bs) ≡ length bs
shown_long [] [] e = refl
shown_long [] (b ∷ bs) e = absurd (omega (arith, e))
shown_long (p ∷ ps) [] e = absurd (omega (arith, e))
shown_long (p ∷ ps) (b ∷ bs) e = omega (arith, shown_long ps bs (omega (arith, e)))

shows_one : (p : Whereabouts) (b : Body) → Shows p (end_of p b) (shown (phase_of p) b)
shows_one Here b = refl
shows_one (Moving bytes) b = refl
shows_one (Far bytes) b = refl

shows_all : (out : List Whereabouts) (bs : List Body) (n : ℕ) (e : ObjectEnd) → get_elem? (all_shown (map phase_of out) bs) n ≡ some e
    → Shows (slice_index_or out n Here) (bytes_of (all_ends out bs) n) e
shows_all [] bs n e at = absurd (some-ne-none e (sym at))
shows_all (p ∷ ps) [] n e at = absurd (some-ne-none e (sym at))
shows_all (p ∷ ps) (b ∷ bs) zero e at = subst (Shows p (end_of p b)) (some-injective (shown (phase_of p) b) e at) (shows_one p b)
shows_all (p ∷ ps) (b ∷ bs) (suc n) e at = shows_all ps bs n e at

end_here : (out : List Whereabouts) (bs : List Body) (n : ℕ) (b : Body) → length out ≡ length bs → get_elem? bs n ≡ some b
    → slice_index_or out n Here ≡ Here → bytes_of (all_ends out bs) n ≡ b.bytes.items
end_here [] [] n b long at is = absurd (some-ne-none b (sym at))
end_here [] (x ∷ xs) n b long at is = absurd (omega (arith, long))
end_here (p ∷ ps) [] n b long at is = absurd (omega (arith, long))
end_here (p ∷ ps) (x ∷ xs) zero b long at is = ap (λ q. end_of q x) is ∙ ap (λ (y : Body). y.bytes.items) (some-injective x b at)
end_here (p ∷ ps) (x ∷ xs) (suc n) b long at is = end_here ps xs n b (omega (arith, long)) at is

end_taken : (p : Whereabouts) (b : Body) (bytes : List ℕ) → bytes_taken p ≡ Some bytes → end_of p b ≡ bytes
end_taken Here b bytes e = absurd (none_is_not bytes e)
end_taken (Moving x) b bytes e = some_is x bytes e
end_taken (Far x) b bytes e = some_is x bytes e

end_away : (out : List Whereabouts) (bs : List Body) (n : ℕ) (bytes : List ℕ) → length out ≡ length bs
    → bytes_taken (slice_index_or out n Here) ≡ Some bytes → bytes_of (all_ends out bs) n ≡ bytes
end_away [] bs n bytes long e = absurd (none_is_not bytes e)
end_away (p ∷ ps) [] n bytes long e = absurd (omega (arith, long))
end_away (p ∷ ps) (x ∷ xs) zero bytes long e = end_taken p x bytes e
end_away (p ∷ ps) (x ∷ xs) (suc n) bytes long e = end_away ps xs n bytes (omega (arith, long)) e

here_or : (p : Whereabouts) → (p ≡ Here) ⊎ ((bytes : List ℕ) × (bytes_taken p ≡ Some bytes))
here_or Here = inl refl
here_or (Moving bytes) = inr (bytes, refl)
here_or (Far bytes) = inr (bytes, refl)

-- all seats are taken in, and the table is closed
pub closes : (returns : Bool) (key : List (List ℕ)) (id : ℕ) (d v : View) (parts : List Part) (slots : List Body) (s : State Body View)
    → v ≡ gathers_all d parts → d.gathered ≡ [] → 0 < d.made → d.live ≡ true → d.turn ≡ None → d.entries ≡ []
    → length d.out ≡ length key → d.alive ≡ length parts + 1 → Kept returns key s → get_elem? s.views id ≡ some v → length s.homes ≡ length slots
    → ((k : ℕ) (y : Body) → get_elem? s.homes k ≡ some (some y) → get_elem? slots k ≡ some y)
    → Closes returns key d parts (all_shown (map phase_of d.out) slots)
closes returns key id d v parts slots s is clean maker alive_ free idle_hands wide count kept at long given =
    let z = settles returns key id v s kept at (subst (λ (y : View). 0 < y.made) (sym is) maker) (ap (λ (y : View). y.live) is
    ∙ alive_) (ap (λ (y : View). y.alive) is ∙ omega (arith, count))
    (ap (λ (y : View). y.turn) is ∙ free) (ap (λ (y : View). y.entries) is ∙ idle_hands) in
    let got : v.gathered ≡ parts = ap (λ (y : View). y.gathered) is ∙ ap (λ l. l ++ parts) clean in
    let many : length slots ≡ length key = sym long ∙ z.slots in
    let same : length d.out ≡ length slots = wide ∙ sym many in
    let ends : List (List ℕ) = all_ends d.out slots in
    let places : (n : ℕ) → place_of v n ≡ place_of d n = λ n. ap (λ (y : View). place_of y n) is in
    let stands : (n : ℕ) → n < length key → Stands returns (bytes_of key n) (z.logs n) (bytes_of ends n) = λ n lt. ⊎_elim
    (λ (here : place_of d n ≡ Here). let b = z.here n lt (places n ∙ here) in
    subst (Stands returns (bytes_of key n) (z.logs n)) (sym (end_here d.out slots n b.0 same (given n b.0 b.1) here)) b.2)
    (λ (t : (bytes : List ℕ) × (bytes_taken (place_of d n) ≡ Some bytes)).
    subst (Stands returns (bytes_of key n) (z.logs n)) (sym (end_away d.out slots n t.0 same t.1)) (z.away n t.0 (ap bytes_taken (places n) ∙ t.1)))
    (here_or (place_of d n)) in
    record {
      ends = ends;
      long = (shown_long d.out slots same ∙ many, ends_long d.out slots same ∙ many);
      lengths = λ n lt. (stands n lt).0;
      shows = shows_all d.out slots;
      list = one_list returns key z.logs parts ends (subst PartsFit got z.parts) (λ e h. z.into e (subst (λ l. HasPart l e) (sym got) h)) (λ n e h. let t =
          z.from n e h in (t.0, subst (λ l. HasPart l e) got t.1)) z.legal z.nowhere (λ p h. z.marks p (subst (λ l. Has l p) (sym got) h))
          (ends_long d.out slots same ∙ many) (λ r n lt. (stands n lt).1 r);
    }

shown_more : (ps : List Phase) (bs : List Body) (i : ℕ) (p : Phase) (b : Body) → get_elem? ps i ≡ some p → get_elem? bs i ≡ some b
    → all_shown (take (suc i) ps) (take (suc i) bs) ≡ all_shown (take i ps) (take i bs) ++ shown p b ∷ []
shown_more [] bs i p b e f = absurd (some-ne-none p (sym e))
shown_more (x ∷ xs) [] i p b e f = absurd (some-ne-none b (sym f))
shown_more (x ∷ xs) (y ∷ ys) zero p b e f = λ k. shown (some-injective x p e k) (some-injective y b f k) ∷ []
shown_more (x ∷ xs) (y ∷ ys) (suc i) p b e f = ap (λ l. shown x y ∷ l) (shown_more xs ys i p b e f)

pub phase_at : (ps : List Phase) (i : ℕ) (d : Phase) → i < length ps → get_elem? ps i ≡ some (slice_index_or ps i d)
phase_at [] i d h = absurd (omega arith)
phase_at (p ∷ ps) zero d h = refl
phase_at (p ∷ ps) (suc i) d h = phase_at ps i d (omega arith)

pub taken_long : (ps : List Phase) (bs : List Body) (i : ℕ) → i ≤ length ps → i ≤ length bs → length (all_shown (take i ps) (take i bs)) ≡ i
taken_long ps bs zero h k = refl
taken_long [] bs (suc i) h k = absurd (omega arith)
taken_long (p ∷ ps) [] (suc i) h k = absurd (omega arith)
taken_long (p ∷ ps) (b ∷ bs) (suc i) h k = omega (arith, taken_long ps bs i (omega arith) (omega arith))

-- one more is shown
pub shown_next : (ps : List Phase) (bs : List Body) (i : ℕ) (p : Phase) (b : Body) → get_elem? ps i ≡ some p → get_elem? bs i ≡ some b
    → all_shown (take (i + 1) ps) (take (i + 1) bs) ≡ all_shown (take i ps) (take i bs) ++ shown p b ∷ []
shown_next ps bs i p b e f = let one : i + 1 ≡ suc i = omega arith in ap (λ n. all_shown (take n ps) (take n bs)) one ∙ shown_more ps bs i p b e f
