-- The entries of all parts are one list.
use Rattle.std.proofs.Common.{◌≡◌, ℕ, zero, suc, ◌<◌, ◌≤◌, ◌≢◌, Bool, true, false, List, [], ◌∷◌, length, set, sym, refl, ap, ◌∙◌, subst, arith, cond, eqb}
use Rattle.std.proofs.Common.{eq-eqb, ne_eqb, ◌⊎◌, inl, inr, ⊎_elim, length-set}
use Rattle.std.specs.Prelude.{◌==◌}
use Rattle.std.proofs.lemmas.Bool.{cases_lt}
use mathlib.Core.Logic.{dite}
use native.Mathlib.Decide.{ℕ_discrete}
use mathlib.Core.Option.{some-injective, some-ne-none}
use lib.ListN.{get_elem?}
use Rattle.memory.specs.Deeds.{left_by}
use Rattle.shared_objects.specs.History.{Has, Rises, Chained, AllInside, top, fold, Answers}
use Rattle.memory.specs.Objects.{bytes_of}
use Rattle.shared_objects.specs.Rule.{HasPart, MarkFits}
use Rattle.shared_objects.specs.One.{Before, InOrder, pick, entries_by, entries_on, objects_after, Runs, OneList, PartsFit, MarkStands}
use Rattle.shared_objects.specs.declared.view.SharedEntry.{SharedEntry}
use Rattle.shared_objects.specs.declared.view.Part.{Part}
use Rattle.shared_objects.specs.declared.view.Mark.{Mark}
use Rattle.shared_objects.specs.declared.view.Mark.TheVariants.{Away, Busy, Worn}
use Rattle.shared_objects.proofs.Logs.{chained_rises}

pub empty : {A : Type 0} (x : A) → Has [] x → ⊥
empty x h = some-ne-none x (sym h.1)

-- the first, or one behind it
pub has_cons : {A : Type 0} (x y : A) (xs : List A) → Has (x ∷ xs) y → (x ≡ y) ⊎ Has xs y
has_cons x y xs (zero, e) = inl (some-injective x y e)
has_cons x y xs (suc k, e) = inr (k, e)

pub first : {A : Type 0} (x : A) (xs : List A) → Has (x ∷ xs) x
first x xs = (0, refl)

pub later : {A : Type 0} (x y : A) (xs : List A) → Has xs y → Has (x ∷ xs) y
later x y xs h = (suc h.0, h.1)

pub through : (a b c : SharedEntry) → Before a b → Before b c → Before a c
through a b c p q = ⊎_elim
    (λ (x : a.stamp < b.stamp). ⊎_elim (λ (y : b.stamp < c.stamp). inl (omega arith)) (λ (y : (b.stamp ≡ c.stamp) × (b.actor < c.actor)). let y0 = y.0 in
    inl (omega arith)) q)
    (λ (x : (a.stamp ≡ b.stamp) × (a.actor < b.actor)). let x0 = x.0 in let x1 = x.1 in
    ⊎_elim (λ (y : b.stamp < c.stamp). inl (omega arith)) (λ (y : (b.stamp ≡ c.stamp) × (b.actor < c.actor)). let y0 = y.0 in let y1 = y.1 in
    inr (omega arith, omega arith)) q) p

-- an entry has its place in the order, and may be there already
pub places : (e : SharedEntry) (l : List SharedEntry) → InOrder l → ((f : SharedEntry) → Has l f → (e ≡ f) ⊎ (Before e f ⊎ Before f e))
    → (m : List SharedEntry) × InOrder m × Has m e × ((x : SharedEntry) → Has l x → Has m x) × ((x : SharedEntry) → Has m x → (e ≡ x) ⊎ Has l x)
places e [] o near = (e ∷ [], (λ f h. absurd (empty f h), tt), first e [], λ x h. absurd (empty x h), λ x h. has_cons e x [] h)
places e (f ∷ fs) o near = ⊎_elim
    (λ (same : e ≡ f). (f ∷ fs, o, subst (Has (f ∷ fs)) (sym same) (first f fs), (λ x h. h), λ x h. inr h))
    (λ q. ⊎_elim
    (λ (soon : Before e f). (
      e ∷ f ∷ fs,
      (λ g h. ⊎_elim (λ p. subst (Before e) p soon) (λ p. through e f g soon (o.0 g p)) (has_cons f g fs h), o),
      first e (f ∷ fs),
      λ x h. later e x (f ∷ fs) h,
      λ x h. has_cons e x (f ∷ fs) h,
    ))
    (λ (late : Before f e). let t = places e fs o.1 (λ g h. near g (later f g fs h)) in (
      f ∷ t.0,
      (λ g h. ⊎_elim (λ p. subst (Before f) p late) (λ p. o.0 g p) (t.4 g h), t.1),
      later f e t.0 t.2,
      λ x h. ⊎_elim (λ p. subst (Has (f ∷ t.0)) p (first f t.0)) (λ p. later f x t.0 (t.3 x p)) (has_cons f x fs h),
      λ x h. ⊎_elim (λ p. inr (subst (Has (f ∷ fs)) p (first f fs))) (λ p. ⊎_elim (λ r. inl r) (λ r. inr (later f x fs r)) (t.4 x p)) (has_cons f x t.0 h),
    )) q)
    (near f (first f fs))

-- two entries of one stamp or of different actors
pub apart_by_stamp : (e f : SharedEntry) → e.stamp < f.stamp → Before e f ⊎ Before f e
apart_by_stamp e f h = inl (inl h)

pub apart_by_actor : (e f : SharedEntry) → e.actor ≢ f.actor → Before e f ⊎ Before f e
apart_by_actor e f ne = ⊎_elim
    (λ (s : e.stamp < f.stamp). inl (inl s))
    (λ (ge : f.stamp ≤ e.stamp). dite (ℕ_discrete e.stamp f.stamp)
    (λ (same : e.stamp ≡ f.stamp). ⊎_elim (λ (a : e.actor < f.actor). inl (inr (same, a)))
    (λ (b : f.actor ≤ e.actor). inr (inr (sym same, omega (arith, ne)))) (cases_lt e.actor f.actor))
    (λ (other : e.stamp ≢ f.stamp). inr (inl (omega (arith, other)))))
    (cases_lt e.stamp f.stamp)

pub rises_above : (floor : ℕ) (es : List SharedEntry) (e : SharedEntry) → Rises floor es → Has es e → floor < e.stamp
rises_above floor [] e r h = absurd (empty e h)
rises_above floor (x ∷ xs) e r h = ⊎_elim (λ (q : x ≡ e). subst (λ (y : SharedEntry). floor < y.stamp) q r.0)
    (λ q. let up = rises_above x.stamp xs e r.1 q in let low = r.0 in omega arith) (has_cons x e xs h)

-- two rising lists with the same entries are the same
pub rises_same : (f g : ℕ) (xs ys : List SharedEntry) → Rises f xs → Rises g ys → ((e : SharedEntry) → Has xs e → Has ys e)
    → ((e : SharedEntry) → Has ys e → Has xs e) → xs ≡ ys
rises_same f g [] [] r s there back = refl
rises_same f g [] (y ∷ ys) r s there back = absurd (empty y (back y (first y ys)))
rises_same f g (x ∷ xs) [] r s there back = absurd (empty x (there x (first x xs)))
rises_same f g (x ∷ xs) (y ∷ ys) r s there back =
    let same : x ≡ y = ⊎_elim (λ (q : y ≡ x). sym q) (λ (q : Has ys x). ⊎_elim (λ (p : x ≡ y). p)
    (λ (p : Has xs y). let a = rises_above y.stamp ys x s.1 q in let b = rises_above x.stamp xs y r.1 p in
    absurd (omega arith)) (has_cons x y xs (back y (first y ys)))) (has_cons y x ys (there x (first x xs))) in
    let tails : xs ≡ ys = rises_same x.stamp y.stamp xs ys r.1 s.1
    (λ e h. ⊎_elim (λ (q : y ≡ e). let a = rises_above x.stamp xs e r.1 h in let b : x.stamp ≡ e.stamp = ap (λ (z : SharedEntry). z.stamp) (same ∙ q) in
    absurd (omega arith)) (λ q. q) (has_cons y e ys (there e (later x e xs h))))
    (λ e h. ⊎_elim (λ (q : x ≡ e). let a = rises_above y.stamp ys e s.1 h in let b : y.stamp ≡ e.stamp = ap (λ (z : SharedEntry). z.stamp) (sym same ∙ q) in
    absurd (omega arith)) (λ q. q) (has_cons x e xs (back e (later y e ys h)))) in
    ap (λ z. z ∷ xs) same ∙ ap (λ l. y ∷ l) tails

pub rises_unique : (floor : ℕ) (l : List SharedEntry) (e f : SharedEntry) → Rises floor l → Has l e → Has l f → e.stamp ≡ f.stamp → e ≡ f
rises_unique floor [] e f r he hf same = absurd (empty e he)
rises_unique floor (x ∷ xs) e f r he hf same = ⊎_elim
    (λ (p : x ≡ e). ⊎_elim (λ (q : x ≡ f). sym p ∙ q)
    (λ (q : Has xs f). let a = rises_above x.stamp xs f r.1 q in let b : x.stamp ≡ e.stamp = ap (λ (z : SharedEntry). z.stamp) p in
    absurd (omega arith)) (has_cons x f xs hf))
    (λ (p : Has xs e). ⊎_elim
    (λ (q : x ≡ f). let a = rises_above x.stamp xs e r.1 p in let b : x.stamp ≡ f.stamp = ap (λ (z : SharedEntry). z.stamp) q in absurd (omega arith))
    (λ (q : Has xs f). rises_unique x.stamp xs e f r.1 p q same) (has_cons x f xs hf))
    (has_cons x e xs he)

pub fewer : (p : Part) (ps : List Part) → PartsFit (p ∷ ps) → PartsFit ps
fewer p ps f = ((λ q h. f.0 q (later p q ps h)), λ j k a b ha hb same. let e : suc j ≡ suc k = f.1 (suc j) (suc k) a b ha hb same in omega arith)

-- one part more
merge_part : (floor a : ℕ) (es l : List SharedEntry) → Rises floor es → ((e : SharedEntry) → Has es e → e.actor ≡ a) → InOrder l
    → ((e : SharedEntry) → Has l e → e.actor ≢ a)
    → (m : List SharedEntry) × InOrder m × ((x : SharedEntry) → Has es x → Has m x) × ((x : SharedEntry) → Has l x → Has m x)
    × ((x : SharedEntry) → Has m x → Has es x ⊎ Has l x)
merge_part floor a [] l r mine o others = (l, o, (λ x h. absurd (empty x h)), (λ x h. h), λ x h. inr h)
merge_part floor a (e ∷ es) l r mine o others =
    let t = merge_part e.stamp a es l r.1 (λ x h. mine x (later e x es h)) o others in
    let i = places e t.0 t.1 (λ f h. inr (⊎_elim (λ (q : Has es f). apart_by_stamp e f (rises_above e.stamp es f r.1 q))
    (λ (q : Has l f). apart_by_actor e f (λ same. others f q (sym same ∙ mine e (first e es)))) (t.4 f h))) in (
      i.0,
      i.1,
      (λ x h. ⊎_elim (λ (q : e ≡ x). subst (Has i.0) q i.2) (λ q. i.3 x (t.2 x q)) (has_cons e x es h)),
      (λ x h. i.3 x (t.3 x h)),
      λ x h. ⊎_elim (λ (q : e ≡ x). inl (subst (Has (e ∷ es)) q (first e es))) (λ q. ⊎_elim (λ p. inl (later e x es p)) (λ p. inr p) (t.4 x q)) (i.4 x h),
    )

pub merges : (parts : List Part) → PartsFit parts
    → (one : List SharedEntry) × InOrder one × ((e : SharedEntry) → Has one e → HasPart parts e) × ((e : SharedEntry) → HasPart parts e → Has one e)
merges [] f = ([], tt, (λ e h. absurd (empty e h)), λ e h. absurd (empty h.0 h.1))
merges (p ∷ ps) f =
    let t = merges ps (fewer p ps f) in
    let mine = f.0 p (first p ps) in
    let m = merge_part 0 p.actor p.entries t.0 mine.0 mine.1 t.1 (λ e h same. let w = t.2 e h in
    let other = (f.0 w.0 (later p w.0 ps w.1)).1 e w.2 in
    let no : 0 ≡ suc w.1.0 = f.1 0 (suc w.1.0) p w.0 refl w.1.1 (sym same ∙ other) in omega arith) in (
      m.0,
      m.1,
      (λ e h. ⊎_elim (λ q. (p, first p ps, q)) (λ q. let w = t.2 e q in (w.0, later p w.0 ps w.1, w.2)) (m.4 e h)),
      λ e h. ⊎_elim (λ (q : p ≡ h.0). m.2 e (subst (λ (y : Part). Has y.entries e) (sym q) h.2)) (λ q. m.3 e (t.3 e (h.0, q, h.2))) (has_cons p h.0 ps h.1),
    )

-- ---- those that a test picks

pick_here : (q : SharedEntry → Bool) (e : SharedEntry) (es : List SharedEntry) → q e ≡ true → pick q (e ∷ es) ≡ e ∷ pick q es
pick_here q e es is = ap (λ b. cond b (e ∷ pick q es) (pick q es)) is

pick_else : (q : SharedEntry → Bool) (e : SharedEntry) (es : List SharedEntry) → q e ≡ false → pick q (e ∷ es) ≡ pick q es
pick_else q e es is = ap (λ b. cond b (e ∷ pick q es) (pick q es)) is

pub either_way : (b : Bool) → (b ≡ true) ⊎ (b ≡ false)
either_way true = inl refl
either_way false = inr refl

pub picked : (q : SharedEntry → Bool) (es : List SharedEntry) (e : SharedEntry) → Has (pick q es) e → Has es e × (q e ≡ true)
picked q [] e h = absurd (empty e h)
picked q (x ∷ xs) e h = ⊎_elim
    (λ (yes : q x ≡ true). ⊎_elim (λ (p : x ≡ e). (subst (Has (x ∷ xs)) p (first x xs), ap q (sym p) ∙ yes)) (λ p. let t = picked q xs e p in
    (later x e xs t.0, t.1))
    (has_cons x e (pick q xs) (subst (λ l. Has l e) (pick_here q x xs yes) h)))
    (λ (no : q x ≡ false). let t = picked q xs e (subst (λ l. Has l e) (pick_else q x xs no) h) in (later x e xs t.0, t.1))
    (either_way (q x))

not_both : (b : Bool) → b ≡ true → b ≡ false → ⊥
not_both b t f = let e : true ≡ false = sym t ∙ f in cc

pub picks : (q : SharedEntry → Bool) (es : List SharedEntry) (e : SharedEntry) → Has es e → q e ≡ true → Has (pick q es) e
picks q [] e h is = absurd (empty e h)
picks q (x ∷ xs) e h is = ⊎_elim
    (λ (here : q x ≡ true). subst (λ l. Has l e) (sym (pick_here q x xs here))
    (⊎_elim (λ (p : x ≡ e). subst (Has (x ∷ pick q xs)) p (first x (pick q xs))) (λ p. later x e (pick q xs) (picks q xs e p is)) (has_cons x e xs h)))
    (λ (no : q x ≡ false). subst (λ l. Has l e) (sym (pick_else q x xs no))
    (⊎_elim (λ (p : x ≡ e). absurd (not_both (q x) (ap q p ∙ is) no)) (λ p. picks q xs e p is) (has_cons x e xs h)))
    (either_way (q x))

-- what is picked rises, where no two that are picked have one stamp
pub pick_rises : (q : SharedEntry → Bool) (floor : ℕ) (es : List SharedEntry) → InOrder es → ((e : SharedEntry) → Has es e → q e ≡ true → floor < e.stamp)
    → ((e f : SharedEntry) → Has es e → Has es f → q e ≡ true → q f ≡ true → Before e f → e.stamp < f.stamp) → Rises floor (pick q es)
pick_rises q floor [] o low apart = tt
pick_rises q floor (x ∷ xs) o low apart = ⊎_elim
    (λ (yes : q x ≡ true). subst (Rises floor) (sym (pick_here q x xs yes)) (
      low x (first x xs) yes,
      pick_rises q x.stamp xs o.1
          (λ e h p. apart x e (first x xs) (later x e xs h) yes p (o.0 e h)) (λ e f he hf p r b. apart e f (later x e xs he) (later x f xs hf) p r b),
    ))
    (λ (no : q x ≡ false). subst (Rises floor) (sym (pick_else q x xs no))
    (pick_rises q floor xs o.1 (λ e h p. low e (later x e xs h) p) (λ e f he hf p r b. apart e f (later x e xs he) (later x f xs hf) p r b)))
    (either_way (q x))

pub by_is : (a b : ℕ) → (a == b) ≡ true → a ≡ b
by_is a b e = dite (ℕ_discrete a b) (λ same. same) (λ ne. absurd (not_both (eqb a b) e (ne_eqb a b ne)))

pub by_same : (a b : ℕ) → a ≡ b → (a == b) ≡ true
by_same a b e = eq-eqb a b e

-- each part is what its actor has in the one list
pub own_part : (parts : List Part) (one : List SharedEntry) → PartsFit parts → InOrder one → ((e : SharedEntry) → Has one e → HasPart parts e)
    → ((e : SharedEntry) → HasPart parts e → Has one e)
    → (p : Part) → Has parts p → entries_by p.actor one ≡ p.entries
own_part parts one f o only all p at =
    let mine = f.0 p at in
    let q : SharedEntry → Bool = λ e. e.actor == p.actor in
    let owner : (e : SharedEntry) → Has one e → q e ≡ true → Has p.entries e = λ e h yes. let w = only e h in
    let theirs = (f.0 w.0 w.1).1 e w.2 in
    let place : w.1.0 ≡ at.0 = f.1 w.1.0 at.0 w.0 p w.1.1 at.1 (sym theirs ∙ by_is e.actor p.actor yes) in
    let same : w.0 ≡ p = some-injective w.0 p (sym w.1.1 ∙ ap (get_elem? parts) place ∙ at.1) in
    subst (λ (y : Part). Has y.entries e) same w.2 in
    rises_same 0 0 (entries_by p.actor one) p.entries
    (pick_rises q 0 one o (λ e h yes. rises_above 0 p.entries e mine.0 (owner e h yes))
    (λ e g he hg ye yg b. ⊎_elim (λ s. s) (λ (t : (e.stamp ≡ g.stamp) × (e.actor < g.actor)). let less = t.1 in let x = by_is e.actor p.actor ye in
    let y = by_is g.actor p.actor yg in absurd (omega arith)) b))
    mine.0
    (λ e h. let t = picked q one e h in owner e t.0 t.1)
    (λ e h. picks q one e (all e (p, at, h)) (by_same e.actor p.actor (mine.1 e h)))

-- the log of an object is what the one list has of it
pub own_log : (n : ℕ) (log one : List SharedEntry) → Rises 0 log → InOrder one → ((e : SharedEntry) → Has one e → e.object ≡ n → Has log e)
    → ((e : SharedEntry) → Has log e → Has one e × (e.object ≡ n)) → entries_on n one ≡ log
own_log n log one r o there back =
    let q : SharedEntry → Bool = λ e. e.object == n in
    rises_same 0 0 (entries_on n one) log
    (pick_rises q 0 one o (λ e h yes. rises_above 0 log e r (there e h (by_is e.object n yes)))
    (λ e g he hg ye yg b. ⊎_elim (λ s. s) (λ (t : (e.stamp ≡ g.stamp) × (e.actor < g.actor)). let less = t.1 in
    let is = rises_unique 0 log e g r (there e he (by_is e.object n ye)) (there g hg (by_is g.object n yg)) t.0 in
    let x : e.actor ≡ g.actor = ap (λ (z : SharedEntry). z.actor) is in absurd (omega arith)) b))
    r
    (λ e h. let t = picked q one e h in there e t.0 (by_is e.object n t.1))
    (λ e h. let t = back e h in picks q one e t.0 (by_same e.object n t.1))

-- ---- run in order

abbrev pub all_after : List (List ℕ) → List SharedEntry → List (List ℕ)
all_after os [] = os
all_after os (e ∷ es) = all_after (objects_after os e) es

at_same : (os : List (List ℕ)) (n : ℕ) (x : List ℕ) → n < length os → bytes_of (set os n x) n ≡ x
at_same [] n x h = absurd (omega arith)
at_same (o ∷ os) zero x h = refl
at_same (o ∷ os) (suc n) x h = at_same os n x (omega arith)

at_other : (os : List (List ℕ)) (n m : ℕ) (x : List ℕ) → m ≢ n → bytes_of (set os n x) m ≡ bytes_of os m
at_other [] n m x ne = refl
at_other (o ∷ os) zero zero x ne = absurd (ne refl)
at_other (o ∷ os) zero (suc m) x ne = refl
at_other (o ∷ os) (suc n) zero x ne = refl
at_other (o ∷ os) (suc n) (suc m) x ne = at_other os n m x (λ e. ne (ap suc e))

pub all_runs : (os : List (List ℕ)) (es : List SharedEntry) → ((n : ℕ) → n < length os → Answers (bytes_of os n) (entries_on n es))
    → ((e : SharedEntry) → Has es e → e.object < length os)
    → Runs os es (all_after os es)
all_runs os [] a near = refl
all_runs os (e ∷ es) a near =
    let n : ℕ = e.object in let lt = near e (first e es) in
    let q : ℕ → SharedEntry → Bool = λ m x. x.object == m in
    let here = subst (Answers (bytes_of os n)) (pick_here (q n) e es (by_same n n refl)) (a n lt) in
    let new : List ℕ = left_by e.deed (bytes_of os n) in (
      here.0,
      all_runs (objects_after os e) es
          (λ m lt'. dite (ℕ_discrete m n)
          (λ same. subst (λ k. Answers (bytes_of (set os n new) k) (entries_on k es)) (sym same)
          (subst (λ l. Answers l (entries_on n es)) (sym (at_same os n new lt)) here.1))
          (λ ne. subst (λ l. Answers l (entries_on m es)) (sym (at_other os n m new ne))
          (subst (Answers (bytes_of os m)) (pick_else (q m) e es (ne_eqb n m (λ s. ne (sym s)))) (a m (omega (arith, length-set os n new))))))
          (λ x h. let p = near x (later e x es h) in omega (arith, length-set os n new)),
    )

pub all_fold : (os : List (List ℕ)) (es : List SharedEntry) → ((e : SharedEntry) → Has es e → e.object < length os) → (m : ℕ)
    → bytes_of (all_after os es) m ≡ fold (bytes_of os m) (entries_on m es)
all_fold os [] near m = refl
all_fold os (e ∷ es) near m =
    let n : ℕ = e.object in let lt = near e (first e es) in
    let new : List ℕ = left_by e.deed (bytes_of os n) in
    let q : ℕ → SharedEntry → Bool = λ k x. x.object == k in
    let rest = all_fold (objects_after os e) es (λ x h. let p = near x (later e x es h) in omega (arith, length-set os n new)) m in
    dite (ℕ_discrete m n)
    (λ same. rest ∙ ap (λ l. fold l (entries_on m es)) (ap (bytes_of (set os n new)) same ∙ at_same os n new lt)
    ∙ ap (λ k. fold (left_by e.deed (bytes_of os k)) (entries_on m es)) (sym same)
    ∙ ap (fold (bytes_of os m)) (sym (pick_here (q m) e es (by_same n m (sym same)))))
    (λ ne. rest ∙ ap (λ l. fold l (entries_on m es)) (at_other os n m new ne)
    ∙ ap (fold (bytes_of os m)) (sym (pick_else (q m) e es (ne_eqb n m (λ s. ne (sym s))))))

pub all_long : (os : List (List ℕ)) (es : List SharedEntry) → length (all_after os es) ≡ length os
all_long os [] = refl
all_long os (e ∷ es) = all_long (objects_after os e) es ∙ length-set os e.object (left_by e.deed (bytes_of os e.object))

pub same_lists : (xs ys : List (List ℕ)) → length xs ≡ length ys → ((n : ℕ) → n < length ys → bytes_of xs n ≡ bytes_of ys n) → xs ≡ ys
same_lists [] [] l h = refl
same_lists [] (y ∷ ys) l h = absurd (omega arith)
same_lists (x ∷ xs) [] l h = absurd (omega arith)
same_lists (x ∷ xs) (y ∷ ys) l h = ap (λ z. z ∷ xs) (h 0 (omega arith)) ∙ ap (λ z. y ∷ z) (same_lists xs ys (omega arith) (λ n lt. h (suc n) (omega arith)))

mark_stands : (count : ℕ) (logs : ℕ → List SharedEntry) (one : List SharedEntry) → ((n : ℕ) → n < count → entries_on n one ≡ logs n)
    → ((n : ℕ) → count ≤ n → logs n ≡ []) → (m : Mark) → MarkFits logs m → MarkStands one m
mark_stands count logs one same nowhere (Away n) h = tt
mark_stands count logs one same nowhere (Busy n) h = tt
mark_stands count logs one same nowhere (Worn n found) h = ⊎_elim
    (λ (lt : n < count). subst (λ l. found ≤ top 0 l) (sym (same n lt)) h)
    (λ (far : count ≤ n). let z : top 0 (logs n) ≡ 0 = ap (top 0) (nowhere n far) in omega arith)
    (cases_lt n count)

-- Parts whose entries are the logs of the objects, which leave these bytes
pub one_list : (returns : Bool) (opening : List (List ℕ)) (logs : ℕ → List SharedEntry) (parts : List Part) (ends : List (List ℕ)) → PartsFit parts
    → ((e : SharedEntry) → HasPart parts e → (e.object < length opening) × Has (logs e.object) e)
    → ((n : ℕ) (e : SharedEntry) → Has (logs n) e → (e.object ≡ n) × HasPart parts e)
    → ((n : ℕ) → n < length opening → Chained 0 (logs n) × AllInside (length (bytes_of opening n)) (logs n)
    × (returns ≡ true → Answers (bytes_of opening n) (logs n)))
    → ((n : ℕ) → length opening ≤ n → logs n ≡ [])
    → ((p : Part) → Has parts p → (m : Mark) → Has p.marks m → MarkFits logs m)
    → length ends ≡ length opening
    → (returns ≡ true → (n : ℕ) → n < length opening → bytes_of ends n ≡ fold (bytes_of opening n) (logs n))
    → OneList returns opening parts ends
one_list returns opening logs parts ends f into from legal nowhere marks long bytes =
    let t = merges parts f in let one : List SharedEntry = t.0 in
    let near : (e : SharedEntry) → Has one e → e.object < length opening = λ e h. (into e (t.2 e h)).0 in
    let log : (n : ℕ) → n < length opening → entries_on n one ≡ logs n = λ n lt. own_log n (logs n) one (chained_rises 0 (logs n) (legal n lt).0) t.1
    (λ e h on. subst (λ k. Has (logs k) e) on (into e (t.2 e h)).1)
    (λ e h. let w = from n e h in (t.3 e w.1, w.0)) in
    let answers : returns ≡ true → (n : ℕ) → n < length opening
    → Answers (bytes_of opening n) (entries_on n one) = λ r n lt. subst (Answers (bytes_of opening n)) (sym (log n lt)) ((legal n lt).2 r) in
    let runs : returns ≡ true → Runs opening one (all_after opening one) = λ r. all_runs opening one (answers r) near in
    record {
      apart = f;
      one = one;
      ordered = t.1;
      only = t.2;
      all = t.3;
      near = near;
      chained = λ n lt. subst (Chained 0) (sym (log n lt)) (legal n lt).0;
      inside = λ n lt. subst (AllInside (length (bytes_of opening n))) (sym (log n lt)) (legal n lt).1;
      worn = λ p h m has. mark_stands (length opening) logs one log nowhere m (marks p h m has);
      answers = answers;
      runs = λ r. subst (Runs opening one) (same_lists (all_after opening one) ends (all_long opening one
          ∙ sym long) (λ n lt. let small : n < length opening = omega (arith, long) in
          all_fold opening one near n ∙ ap (fold (bytes_of opening n)) (log n small) ∙ sym (bytes r n small))) (runs r);
      own = own_part parts one f t.1 t.2 t.3;
    }
