-- What a seat learnt of stands before what it does afterwards.
use Rattle.std.proofs.Common.{◌≡◌, Result, Ok, Err, ℕ, zero, suc, ◌<◌, ◌≤◌, Bool, List, [], ◌∷◌, ◌++◌, refl, ap, ◌∙◌, subst, arith, max, inl, ⊎_elim}
use Rattle.std.specs.Prelude.{◌==◌}
use mathlib.Core.Option.{some, some-injective}
use lib.ListN.{get_elem?}
use Rattle.atomic_table.specs.Table.{State}
use Rattle.memory.specs.Deeds.{given_by, left_by}
use Rattle.memory.specs.Objects.{bytes_of}
use Rattle.memory.specs.declared.access.Op.{Op}
use Rattle.memory.specs.declared.access.Reach.{Reach}
use Rattle.memory.specs.declared.access.Reach.TheVariants as reach
use Rattle.memory.specs.declared.deeds.Deed.{Deed}
use Rattle.memory.specs.declared.deeds.Deed.TheVariants.{Accesses, Reads, Writes}
use Rattle.memory.specs.declared.deeds.Given.{Given}
use Rattle.memory.specs.declared.deeds.Given.TheVariants.{Number, Bytes, Nothing}
use Rattle.shared_objects.specs.History.{Has, Rises, top, fold, Answers, entry}
use Rattle.shared_objects.specs.Learnt.{Call, Did, DidAll, StandsAfter}
use Rattle.shared_objects.specs.Learnt.Call.{Learn, Touch, Put, Get, CloseScopes}
use Rattle.shared_objects.specs.Legal.{Legal}
use Rattle.shared_objects.specs.One.{entries_on}
use Rattle.shared_objects.specs.Rule.{Kept}
use Rattle.shared_objects.specs.Touches.{Does, Denies, Touches, PutsRange, GetsRange}
use Rattle.shared_objects.specs.declared.body.Body.{Body}
use Rattle.shared_objects.specs.declared.errors.Denied.{Denied}
use Rattle.shared_objects.specs.declared.errors.Denied.TheVariants as denied
use Rattle.shared_objects.specs.declared.errors.GetError.{GetError}
use Rattle.shared_objects.specs.declared.errors.GetError.TheVariants as get_error
use Rattle.shared_objects.specs.declared.view.SharedEntry.{SharedEntry}
use Rattle.shared_objects.specs.declared.view.View.{View}
use Rattle.shared_objects.proofs.One.{empty, has_cons, first, rises_above, picks, by_same}
use Rattle.shared_objects.proofs.Sorting.{has_either}

append_none : (xs : List SharedEntry) → xs ≡ xs ++ []
append_none [] = refl
append_none (x ∷ xs) = ap (λ l. x ∷ l) (append_none xs)

append_twice : (xs ys zs : List SharedEntry) → (xs ++ ys) ++ zs ≡ xs ++ (ys ++ zs)
append_twice [] ys zs = refl
append_twice (x ∷ xs) ys zs = ap (λ l. x ∷ l) (append_twice xs ys zs)

-- ---- stamps

top_above : (floor : ℕ) (es : List SharedEntry) → Rises floor es → floor ≤ top floor es
top_above floor [] r = omega arith
top_above floor (x ∷ xs) r = let low = r.0 in omega (arith, low, top_above x.stamp xs r.1)

-- no stamp is above the last
top_greatest : (floor : ℕ) (es : List SharedEntry) → Rises floor es → (e : SharedEntry) → Has es e → e.stamp ≤ top floor es
top_greatest floor [] r e h = absurd (empty e h)
top_greatest floor (x ∷ xs) r e h = ⊎_elim
    (λ (q : x ≡ e). subst (λ (y : SharedEntry). y.stamp ≤ top x.stamp xs) q (top_above x.stamp xs r.1))
    (λ (q : Has xs e). top_greatest x.stamp xs r.1 e q) (has_cons x e xs h)

pub stamps_cover : (returns : Bool) (opening : List (List ℕ)) (s : State Body View) → Kept returns opening s → (id : ℕ) (v : View)
    → get_elem? s.views id ≡ some v → (x : ℕ) → top 0 v.entries ≤ x → (e : SharedEntry) → Has v.entries e → e.stamp ≤ x
stamps_cover returns opening s k id v at x last e h = omega (arith, last, top_greatest 0 v.entries (k.seats.knows id v at).rises e h)

-- ---- calls

-- what a call adds: the stamp stays or rises, and each new entry has a greater stamp than the seat had
pub record Adds (v : View) (a : ℕ) (w : View) (b : ℕ) : Type 0 where
  pub rising : a ≤ b
  pub added : List SharedEntry
  pub entries : w.entries ≡ v.entries ++ added
  pub above : (e : SharedEntry) → Has added e → a < e.stamp

adds_none : (v w : View) (a b : ℕ) → w.entries ≡ v.entries → a ≤ b → Adds v a w b
adds_none v w a b same up = record { rising = up; added = []; entries = same ∙ append_none v.entries; above = λ e h. absurd (empty e h) }

adds_one : (v : View) (a n : ℕ) (deed : Deed) (given : Given) (w : View) (b : ℕ) → Does v a n deed given w b → Adds v a w b
adds_one v a n deed given w b d =
    let e : SharedEntry = entry v.actor b d.found n deed given in
    let up : a < b = omega (arith, d.stamp_is) in record {
      rising = omega (arith, up);
      added = e ∷ [];
      entries = ap (λ (u : View). u.entries) d.view_is;
      above = λ f h. ⊎_elim (λ (q : e ≡ f). subst (λ (y : SharedEntry). a < y.stamp) q up) (λ q. absurd (empty f q)) (has_cons e f [] h);
    }

touch_adds : (v : View) (a n : ℕ) (op : Op) (r : Reach) (w : View) (b : ℕ) → Touches v a n op r w b → Adds v a w b
touch_adds v a n op (reach.Done x) w b h = adds_one v a n (Accesses op) (Number x) w b h
touch_adds v a n op reach.Away w b h = adds_none v w a b (ap (λ (u : View). u.entries) h.2) (let e = h.1 in omega (arith, e))
touch_adds v a n op reach.Busy w b h = adds_none v w a b (ap (λ (u : View). u.entries) h.2) (let e = h.1 in omega (arith, e))
touch_adds v a n op reach.Outside w b h = adds_none v w a b (ap (λ (u : View). u.entries) h.2) (let e = h.1 in omega (arith, e))
touch_adds v a n op reach.Worn w b h = adds_none v w a b (ap (λ (u : View). u.entries) h.2.2) (let e = h.1 in omega (arith, e))

denied_adds : (v : View) (a n : ℕ) (deed : Deed) (why : Denied) (w : View) (b : ℕ) → Denies v a n deed why w b → Adds v a w b
denied_adds v a n deed denied.Outside w b h = adds_none v w a b (ap (λ (u : View). u.entries) h.2) (let e = h.1 in omega (arith, e))
denied_adds v a n deed denied.Away w b h = adds_none v w a b (ap (λ (u : View). u.entries) h.2) (let e = h.1 in omega (arith, e))
denied_adds v a n deed denied.Busy w b h = adds_none v w a b (ap (λ (u : View). u.entries) h.2) (let e = h.1 in omega (arith, e))
denied_adds v a n deed denied.Worn w b h = adds_none v w a b (ap (λ (u : View). u.entries) h.2.2) (let e = h.1 in omega (arith, e))

put_adds : (v : View) (a n offset : ℕ) (bytes : List ℕ) (r : Result Unit Denied) (w : View) (b : ℕ) → PutsRange v a n offset bytes r w b → Adds v a w b
put_adds v a n offset bytes (Ok u) w b h = adds_one v a n (Writes offset bytes) Nothing w b h
put_adds v a n offset bytes (Err why) w b h = denied_adds v a n (Writes offset bytes) why w b h

get_adds : (v : View) (a n offset count : ℕ) (r : Result (List ℕ) GetError) (w : View) (b : ℕ) → GetsRange v a n offset count r w b → Adds v a w b
get_adds v a n offset count (Ok bytes) w b h = adds_one v a n (Reads offset count) (Bytes bytes) w b h
get_adds v a n offset count (Err (get_error.Denied why)) w b h = denied_adds v a n (Reads offset count) why w b h
get_adds v a n offset count (Err get_error.Memory) w b h = adds_none v w a b (ap (λ (u : View). u.entries) h.2) (let e = h.1 in omega (arith, e))

call_adds : (c : Call) (v : View) (a : ℕ) (w : View) (b : ℕ) → Did c v a w b → Adds v a w b
call_adds (Learn x) v a w b h = adds_none v w a b (ap (λ (u : View). u.entries) h.0) (let e = h.1 in omega (arith, e))
call_adds (Touch n op r) v a w b h = touch_adds v a n op r w b h
call_adds (Put n offset bytes r) v a w b h = put_adds v a n offset bytes r w b h
call_adds (Get n offset count r) v a w b h = get_adds v a n offset count r w b h
call_adds CloseScopes v a w b h = adds_none v w a b (ap (λ (u : View). u.entries) h.0) (let e = h.1 in omega (arith, e))

calls_add : (cs : List Call) (v : View) (a : ℕ) (w : View) (b : ℕ) → DidAll cs v a w b → Adds v a w b
calls_add [] v a w b h = adds_none v w a b (ap (λ (u : View). u.entries) h.0) (let e = h.1 in omega (arith, e))
calls_add (c ∷ cs) v a w b h =
    let u : View = h.0 in let m : ℕ = h.1.0 in
    let one = call_adds c v a u m h.1.1.0 in let more = calls_add cs u m w b h.1.1.1 in
    let up : a ≤ m = one.rising in let up' : m ≤ b = more.rising in record {
      rising = omega (arith, up, up');
      added = one.added ++ more.added;
      entries = more.entries ∙ ap (λ l. l ++ more.added) one.entries ∙ append_twice v.entries one.added more.added;
      above = λ e h'. ⊎_elim (λ (q : Has one.added e). one.above e q) (λ (q : Has more.added e). let far = more.above e q in omega (arith, far, up))
          (has_either one.added more.added e h');
    }

-- ---- the place of an entry

-- the entries of a list before one of them, and those after it
cut : (es : List SharedEntry) (e : SharedEntry) → Has es e → (earlier : List SharedEntry) × ((later : List SharedEntry) × (es ≡ earlier ++ e ∷ later))
cut [] e h = absurd (empty e h)
cut (x ∷ xs) e (zero, at) = ([], (xs, ap (λ y. y ∷ xs) (some-injective x e at)))
cut (x ∷ xs) e (suc k, at) = let t = cut xs e (k, at) in (x ∷ t.0, (t.1.0, ap (λ l. x ∷ l) t.1.1))

-- one with a lesser stamp stands before it
cut_before : (floor : ℕ) (earlier later : List SharedEntry) (e f : SharedEntry) → Rises floor (earlier ++ e ∷ later) → Has (earlier ++ e ∷ later) f
    → f.stamp < e.stamp → Has earlier f
cut_before floor [] later e f r h less = ⊎_elim
    (λ (q : e ≡ f). absurd (let same : e.stamp ≡ f.stamp = ap (λ (y : SharedEntry). y.stamp) q in omega (arith, same, less)))
    (λ (q : Has later f). absurd (let up = rises_above e.stamp later f r.1 q in omega (arith, up, less))) (has_cons e f later h)
cut_before floor (x ∷ xs) later e f r h less = ⊎_elim
    (λ (q : x ≡ f). subst (Has (x ∷ xs)) q (first x xs))
    (λ (q : Has (xs ++ e ∷ later) f). let t = cut_before x.stamp xs later e f r.1 q less in (suc t.0, t.1)) (has_cons x f (xs ++ e ∷ later) h)

-- it was given what its deed gives on what is left by those before it
cut_given : (bytes : List ℕ) (earlier later : List SharedEntry) (e : SharedEntry) → Answers bytes (earlier ++ e ∷ later)
    → e.given ≡ given_by e.deed (fold bytes earlier)
cut_given bytes [] later e a = a.0
cut_given bytes (x ∷ xs) later e a = cut_given (left_by x.deed bytes) xs later e a.1

stands_after : (opening : List (List ℕ)) (history : List SharedEntry) (x : ℕ) (e : SharedEntry) → Legal opening history → Has history e → x < e.stamp
    → StandsAfter opening history x e
stands_after opening history x e l h above =
    let near = l.near e h in
    let mine = cut (entries_on e.object history) e (picks (λ f. f.object == e.object) history e h (by_same e.object e.object refl)) in
    let before : (f : SharedEntry) → f.stamp ≤ x → f.stamp < e.stamp = λ f low. omega (arith, low, above) in record {
      before = λ f at low. inl (before f low);
      earlier = mine.0;
      later = mine.1.0;
      on = mine.1.1;
      seen = λ f at on low. cut_before 0 mine.0 mine.1.0 e f (subst (Rises 0) mine.1.1 (l.objects e.object near))
          (subst (λ es. Has es f) mine.1.1 (picks (λ g. g.object == e.object) history f at (by_same f.object e.object on))) (before f low);
      given_is = cut_given (bytes_of opening e.object) mine.0 mine.1.0 e (subst (Answers (bytes_of opening e.object)) mine.1.1 (l.answers e.object near));
    }

pub learnt_before : (v w : View) (a b x : ℕ) (calls : List Call) → DidAll (Learn x ∷ calls) v a w b → (added : List SharedEntry)
    × ((w.entries ≡ v.entries ++ added)
    × ((opening : List (List ℕ)) (history : List SharedEntry) → Legal opening history → (e : SharedEntry) → Has added e → Has history e
    → StandsAfter opening history x e))
learnt_before v w a b x calls h =
    let u : View = h.0 in let m : ℕ = h.1.0 in
    let t = calls_add calls u m w b h.1.1.1 in
    let same : u ≡ v = h.1.1.0.0 in let high : m ≡ max a x = h.1.1.0.1 in (
      t.added,
      (
        t.entries ∙ ap (λ (y : View). y.entries ++ t.added) same,
        λ opening history l e new has. stands_after opening history x e l has (let up = t.above e new in omega (arith, up, high)),
      ),
    )
