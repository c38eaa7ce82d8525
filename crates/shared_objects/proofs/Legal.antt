-- All entries of a table are one history, and a legal one runs; what words say.
use Rattle.std.proofs.Common.{◌≡◌, ℕ, zero, suc, ◌+◌, ◌*◌, ◌/◌, ◌<◌, ◌≤◌, ◌≢◌, Bool, true, false, List, [], ◌∷◌, ◌++◌, length, sym, refl, ap, ◌∙◌, subst, arith}
use Rattle.std.proofs.Common.{◌⊎◌, inl, inr, ⊎_elim, slice_index}
use Rattle.std.specs.Prelude.{◌==◌}
use Rattle.std.proofs.lemmas.Bool.{cases_lt}
use mathlib.Core.Logic.{dite}
use native.Mathlib.Decide.{ℕ_discrete}
use mathlib.Core.Option.{some, some-injective}
use lib.ListN.{get_elem?}
use Rattle.atomic_table.specs.Table.{State}
use Rattle.memory.specs.Objects.{bytes_of}
use Rattle.pointer_word.specs.Words.{WordRecord, HasFields, place_number, bit, word_number}
use Rattle.pointer_word.specs.declared.word.WordPlace.{WordPlace}
use Rattle.pointer_word.specs.declared.word.WordPlace.TheVariants.{Local, Moving, Far}
use Rattle.shared_objects.specs.History.{Has, Rises, top, fold, Answers}
use Rattle.shared_objects.specs.Laws.{ShowsSeats, IsWrittenIn, HasHistory}
use Rattle.shared_objects.specs.Legal.{Legal, IsOneRun}
use Rattle.shared_objects.specs.One.{Before, InOrder, OneList, entries_on, entries_by}
use Rattle.shared_objects.specs.Rule.{HasPart, word_of, tally, spent, Kept}
use Rattle.shared_objects.specs.declared.body.Body.{Body}
use Rattle.shared_objects.specs.declared.view.SharedEntry.{SharedEntry}
use Rattle.shared_objects.specs.declared.view.Part.{Part}
use Rattle.shared_objects.specs.declared.view.View.{View}
use Rattle.shared_objects.proofs.Moves.{body_in}
use Rattle.shared_objects.proofs.Few.{counts_few}
use Rattle.shared_objects.proofs.Logs.{chained_rises}
use Rattle.shared_objects.proofs.One.{empty, has_cons, first, later, places, apart_by_actor, rises_above, rises_unique, pick_rises, by_is, own_log, all_after}
use Rattle.shared_objects.proofs.One.{all_runs, all_fold, all_long}
use Rattle.shared_objects.proofs.Sorting.{has_either, has_left, has_right}

-- ---- runs

pub one_run : (opening : List (List ℕ)) (history : List SharedEntry) → Legal opening history → IsOneRun opening history
one_run opening history l = record {
  ends = all_after opening history;
  long = all_long opening history;
  runs = all_runs opening history l.answers l.near;
  folds = λ n lt. all_fold opening history l.near n;
}

actor_later : (e f : SharedEntry) → e.actor ≡ f.actor → Before e f → e.stamp < f.stamp
actor_later e f same b = ⊎_elim (λ (s : e.stamp < f.stamp). s) (λ (t : (e.stamp ≡ f.stamp) × (e.actor < f.actor)). let less = t.1 in
    absurd (omega (arith, same))) b

by_actor : (actor : ℕ) (one : List SharedEntry) → InOrder one → ((e : SharedEntry) → Has one e → 0 < e.stamp) → Rises 0 (entries_by actor one)
by_actor actor one o low = pick_rises (λ e. e.actor == actor) 0 one o (λ e h yes. low e h)
    (λ e f he hf ye yf b. actor_later e f (by_is e.actor actor ye ∙ sym (by_is f.actor actor yf)) b)

pub one_legal : (opening : List (List ℕ)) (parts : List Part) (ends : List (List ℕ)) (l : OneList true opening parts ends) → Legal opening l.one
one_legal opening parts ends l = record {
  ordered = l.ordered;
  near = l.near;
  actors = λ a. by_actor a l.one l.ordered (λ e h. let w = l.only e h in rises_above 0 w.0.entries e (l.apart.0 w.0 w.1).0 w.2);
  objects = λ n lt. chained_rises 0 (entries_on n l.one) (l.chained n lt);
  answers = l.answers refl;
}

-- ---- words

bit_of : (n : ℕ) → n ≤ 1 → (b : Bool) × (bit b ≡ n)
bit_of zero h = (false, refl)
bit_of (suc zero) h = (true, refl)
bit_of (suc (suc n)) h = absurd (omega (arith, h))

place_of_two : (m f : ℕ) → m + f ≤ 1 → (p : WordPlace) × (place_number p ≡ m + 2 * f) × (m + f ≡ 0 → p ≡ Local)
place_of_two zero zero h = (Local, refl, λ _. refl)
place_of_two zero (suc zero) h = (Far, refl, λ z. absurd (omega (arith, z)))
place_of_two zero (suc (suc f)) h = absurd (omega (arith, h))
place_of_two (suc zero) zero h = (Moving, refl, λ z. absurd (omega (arith, z)))
place_of_two (suc zero) (suc f) h = absurd (omega (arith, h))
place_of_two (suc (suc m)) f h = absurd (omega (arith, h))

pub word_shows : (returns : Bool) (opening : List (List ℕ)) (s : State Body View) (k : Kept returns opening s) (n : ℕ) → n < length opening
    → (w : WordRecord) × HasFields w × ShowsSeats (tally n s.views) (k.logs n) w × (slice_index s.words (word_of n) ≡ word_number w)
word_shows returns opening s k n lt =
    let f = k.objects.fits n lt in
    let hot = bit_of f.hot f.one_hot in
    let turn = bit_of (tally n s.views).turns f.one_turn in
    let place = place_of_two (tally n s.views).moving (tally n s.views).far f.one_out in
    let few = counts_few returns opening s k n in
    let hot_is = hot.1 in let turn_is = turn.1 in let place_is = place.1 in (
      record { place = place.0; turn = turn.0; hot = hot.0; count = (tally n s.views).opens + (tally n s.views).passes; stamp = top 0 (k.logs n) },
      (omega (arith, few), f.small),
      record {
        place = place_is;
        turn = turn_is;
        count = refl;
        stamp = refl;
        here = λ used. ⊎_elim (λ (out : 0 < (tally n s.views).moving + (tally n s.views).far). absurd (omega (arith, f.here out, used, hot_is)))
            (λ (none : (tally n s.views).moving + (tally n s.views).far ≤ 0). place.2 (omega (arith, none)))
            (cases_lt 0 ((tally n s.views).moving + (tally n s.views).far));
        heat = omega (arith, f.heat, hot_is);
      },
      f.word_is ∙ omega (arith, place_is, turn_is, hot_is),
    )

-- ---- one history

-- all entries of a list, in order
orders : (es : List SharedEntry) → ((e f : SharedEntry) → Has es e → Has es f → (e ≡ f) ⊎ (Before e f ⊎ Before f e))
    → (m : List SharedEntry) × InOrder m × ((x : SharedEntry) → Has es x → Has m x) × ((x : SharedEntry) → Has m x → Has es x)
orders [] near = ([], tt, (λ x h. h), λ x h. h)
orders (e ∷ es) near =
    let t = orders es (λ x y hx hy. near x y (later e x es hx) (later e y es hy)) in
    let i = places e t.0 t.1 (λ f h. near e f (first e es) (later e f es (t.3 f h))) in (
      i.0,
      i.1,
      (λ x h. ⊎_elim (λ (q : e ≡ x). subst (Has i.0) q i.2) (λ q. i.3 x (t.2 x q)) (has_cons e x es h)),
      λ x h. ⊎_elim (λ (q : e ≡ x). subst (Has (e ∷ es)) q (first e es)) (λ q. later e x es (t.3 x q)) (i.4 x h),
    )

-- the entries of the first so many objects
abbrev all_logs : (ℕ → List SharedEntry) → ℕ → List SharedEntry
all_logs logs zero = []
all_logs logs (suc n) = logs n ++ all_logs logs n

logs_have : (logs : ℕ → List SharedEntry) (count : ℕ) (e : SharedEntry) → Has (all_logs logs count) e → (n : ℕ) × (n < count) × Has (logs n) e
logs_have logs zero e h = absurd (empty e h)
logs_have logs (suc n) e h = ⊎_elim (λ q. (n, omega arith, q)) (λ q. let t = logs_have logs n e q in let lt = t.1 in
    (t.0, omega (arith, lt), t.2)) (has_either (logs n) (all_logs logs n) e h)

logs_there : (logs : ℕ → List SharedEntry) (count n : ℕ) (e : SharedEntry) → n < count → Has (logs n) e → Has (all_logs logs count) e
logs_there logs zero n e lt h = absurd (omega (arith, lt))
logs_there logs (suc k) n e lt h = dite (ℕ_discrete n k)
    (λ (same : n ≡ k). has_left (logs k) (all_logs logs k) e (subst (λ j. Has (logs j) e) same h))
    (λ (ne : n ≢ k). has_right (logs k) (all_logs logs k) e (logs_there logs k n e (omega (arith, lt, ne)) h))

module _ (returns : Bool) (opening : List (List ℕ)) (s : State Body View) (k : Kept returns opening s) where
  same_view : (i j : ℕ) (v w : View) → get_elem? s.views i ≡ some v → get_elem? s.views j ≡ some w → i ≡ j → v ≡ w
  same_view i j v w at at' same = some-injective v w (sym at ∙ ap (get_elem? s.views) same ∙ at')

  -- a seat with entries wasn't taken in
  not_gone : (id : ℕ) (v : View) (p : Part) (e : SharedEntry) → get_elem? s.views id ≡ some v → get_elem? s.views p.actor ≡ some spent
      → Has v.entries e → id ≡ p.actor → ⊥
  not_gone id v p e at gone h same = empty e (subst (λ (u : View). Has u.entries e) (same_view id p.actor v spent at gone same) h)

  -- a seat that took others in is the first
  takes_in : (id : ℕ) (v : View) (p : Part) → get_elem? s.views id ≡ some v → Has v.gathered p → id ≡ 0
  takes_in id v p at h = dite (ℕ_discrete id 0) (λ (same : id ≡ 0). same) (λ (ne : id ≢ 0).
      absurd (empty p (subst (λ l. Has l p) ((k.seats.knows id v at).alone ne) h)))

  -- an actor wrote no two entries at one stamp
  one_each : (e f : SharedEntry) → IsWrittenIn s e → IsWrittenIn s f → e.actor ≡ f.actor → e.stamp ≡ f.stamp → e ≡ f
  one_each e f a b actor stamp =
      let ka = k.seats.knows a.0 a.1 a.2 in let kb = k.seats.knows b.0 b.1 b.2 in
      ⊎_elim
      (λ (own : Has a.1.entries e). ⊎_elim
      (λ (own' : Has b.1.entries f).
      let same : a.1 ≡ b.1 = same_view a.0 b.0 a.1 b.1 a.2 b.2 (sym (ka.entries e own).0 ∙ actor ∙ (kb.entries f own').0) in
      rises_unique 0 b.1.entries e f kb.rises (subst (λ (u : View). Has u.entries e) same own) own' stamp)
      (λ (got' : HasPart b.1.gathered f). let q = k.seats.parts b.0 b.1 b.2 got'.0 got'.1 in
      absurd (not_gone a.0 a.1 got'.0 e a.2 q.gone own (sym (ka.entries e own).0 ∙ actor ∙ (q.entries f got'.2).0))) b.3)
      (λ (got : HasPart a.1.gathered e). let p = k.seats.parts a.0 a.1 a.2 got.0 got.1 in ⊎_elim
      (λ (own' : Has b.1.entries f). absurd (not_gone b.0 b.1 got.0 f b.2 p.gone own' (sym (kb.entries f own').0 ∙ sym actor ∙ (p.entries e got.2).0)))
      (λ (got' : HasPart b.1.gathered f). let q = k.seats.parts b.0 b.1 b.2 got'.0 got'.1 in
      let same : a.1 ≡ b.1 = same_view a.0 b.0 a.1 b.1 a.2 b.2 (takes_in a.0 a.1 got.0 a.2 got.1 ∙ sym (takes_in b.0 b.1 got'.0 b.2 got'.1)) in
      let at : get_elem? b.1.gathered got.1.0 ≡ some got.0 = subst (λ (u : View). get_elem? u.gathered got.1.0 ≡ some got.0) same got.1.1 in
      let place : got.1.0 ≡ got'.1.0 = k.seats.apart b.0 b.1 b.2 got.1.0 got'.1.0 got.0 got'.0 at got'.1.1 (sym (p.entries e got.2).0
      ∙ actor ∙ (q.entries f got'.2).0) in
      let part : got.0 ≡ got'.0 = some-injective got.0 got'.0 (sym at ∙ ap (get_elem? b.1.gathered) place ∙ got'.1.1) in
      rises_unique 0 got'.0.entries e f q.rises (subst (λ (r : Part). Has r.entries e) part got.2) got'.2 stamp) b.3) a.3

  near_log : (n : ℕ) (e : SharedEntry) → Has (k.logs n) e → n < length opening
  near_log n e h = ⊎_elim (λ (near : n < length opening). near) (λ (far : length opening ≤ n).
      absurd (empty e (subst (λ l. Has l e) (k.objects.nowhere n far) h))) (cases_lt n (length opening))

  -- two entries are the same, or one stands before the other
  in_line : (e f : SharedEntry) → IsWrittenIn s e → IsWrittenIn s f → (e ≡ f) ⊎ (Before e f ⊎ Before f e)
  in_line e f a b = dite (ℕ_discrete e.actor f.actor)
      (λ (actor : e.actor ≡ f.actor). dite (ℕ_discrete e.stamp f.stamp)
      (λ (stamp : e.stamp ≡ f.stamp). inl (one_each e f a b actor stamp))
      (λ (ne : e.stamp ≢ f.stamp). inr (⊎_elim (λ (lt : e.stamp < f.stamp). inl (inl lt)) (λ (ge : f.stamp ≤ e.stamp).
      inr (inl (omega (arith, ge, ne)))) (cases_lt e.stamp f.stamp))))
      (λ (ne : e.actor ≢ f.actor). inr (apart_by_actor e f ne))

  -- what a seat wrote is in the entries of its object
  logged : (e : SharedEntry) → IsWrittenIn s e → Has (k.logs e.object) e
  logged e a = ⊎_elim (λ (own : Has a.1.entries e). ((k.seats.knows a.0 a.1 a.2).entries e own).1)
      (λ (got : HasPart a.1.gathered e). ((k.seats.parts a.0 a.1 a.2 got.0 got.1).entries e got.2).1) a.3

  written : (n : ℕ) (e : SharedEntry) → Has (k.logs n) e → IsWrittenIn s e
  written n e h = (k.whole n e h).1

  pub has_history : HasHistory returns opening s
  has_history =
      let es : List SharedEntry = all_logs k.logs (length opening) in
      let from : (e : SharedEntry) → Has es e → IsWrittenIn s e = λ e h. let w = logs_have k.logs (length opening) e h in written w.0 e w.2 in
      let t = orders es (λ e f he hf. in_line e f (from e he) (from f hf)) in
      let history : List SharedEntry = t.0 in
      let only : (e : SharedEntry) → Has history e → IsWrittenIn s e = λ e h. from e (t.3 e h) in
      let all : (e : SharedEntry) → IsWrittenIn s e → Has history e = λ e a. let l = logged e a in
      t.2 e (logs_there k.logs (length opening) e.object e (near_log e.object e l) l) in
      let log : (n : ℕ) → n < length opening → entries_on n history ≡ k.logs n =
      λ n lt. own_log n (k.logs n) history (chained_rises 0 (k.logs n) (k.objects.fits n lt).chained) t.1
      (λ e h on. subst (λ j. Has (k.logs j) e) on (logged e (only e h)))
      (λ e h. (all e (written n e h), (k.whole n e h).0)) in
      let near : (e : SharedEntry) → Has history e → e.object < length opening = λ e h. near_log e.object e (logged e (only e h)) in
      let low : (e : SharedEntry) → Has history e
      → 0 < e.stamp = λ e h. rises_above 0 (k.logs e.object) e
      (chained_rises 0 (k.logs e.object) (k.objects.fits e.object (near e h)).chained) (logged e (only e h)) in
      record {
        history = history;
        only = only;
        all = all;
        stamps = λ n lt. let f = k.objects.fits n lt in let few = counts_few returns opening s k n in let hot = f.one_hot in
            let turn = f.one_turn in let out = f.one_out in
            let stamp_is : slice_index s.words (word_of n) / 65536 ≡ top 0 (k.logs n) = omega (arith, f.word_is, few, hot, turn, out) in
            stamp_is ∙ ap (top 0) (sym (log n lt));
        legal = λ r. record {
          ordered = t.1;
          near = near;
          actors = λ a. by_actor a history t.1 low;
          objects = λ n lt. subst (Rises 0) (sym (log n lt)) (chained_rises 0 (k.logs n) (k.objects.fits n lt).chained);
          answers = λ n lt. subst (Answers (bytes_of opening n)) (sym (log n lt)) ((k.objects.fits n lt).answers r);
        };
        here = λ n lt free. let f = k.objects.fits n lt in let hot = f.one_hot in let turn = f.one_turn in let out = f.one_out in
            let b = body_in f (omega (arith, f.word_is, free, hot, turn, out)) in
            (b.0, b.1, (b.2.0, λ r. b.2.1 r ∙ ap (fold (bytes_of opening n)) (sym (log n lt))));
        out = λ id n v bytes at lt is. let b = (k.seats.knows id v at).out n bytes is in (b.0, λ r. b.1 r ∙ ap (fold (bytes_of opening n)) (sym (log n lt)));
      }
