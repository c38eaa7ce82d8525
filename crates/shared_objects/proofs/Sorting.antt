-- The one list is the sorted one.
use Rattle.std.proofs.Common.{◌≡◌, ℕ, suc, ◌<◌, ◌≤◌, Bool, true, false, List, [], ◌∷◌, ◌++◌, sym, refl, ap, ◌∙◌, subst, arith, cond, eq-eqb, ◌⊎◌, inl, inr}
use Rattle.std.proofs.Common.{⊎_elim}
use Rattle.std.specs.Prelude.{nat_lt, ◌&&◌, ◌||◌, ◌==◌}
use Rattle.std.proofs.lemmas.Bool.Decides.{nat_tests}
use Rattle.shared_objects.specs.History.{Has, Rises}
use Rattle.shared_objects.specs.Rule.{HasPart}
use Rattle.shared_objects.specs.One.{Before, InOrder, is_before, insert, sorted, all_entries, PartsFit, OneList}
use Rattle.shared_objects.specs.declared.view.SharedEntry.{SharedEntry}
use Rattle.shared_objects.specs.declared.view.Part.{Part}
use Rattle.shared_objects.proofs.One.{empty, first, later, has_cons, through, rises_above, apart_by_stamp, apart_by_actor, fewer, either_way}

not_both : (e f : SharedEntry) → Before e f → Before f e → ⊥
not_both e f p q = ⊎_elim
    (λ (x : e.stamp < f.stamp). ⊎_elim (λ (y : f.stamp < e.stamp). omega arith) (λ (y : (f.stamp ≡ e.stamp) × (f.actor < e.actor)). let y0 = y.0 in
    omega arith) q)
    (λ (x : (e.stamp ≡ f.stamp) × (e.actor < f.actor)). let x0 = x.0 in let x1 = x.1 in
    ⊎_elim (λ (y : f.stamp < e.stamp). omega arith) (λ (y : (f.stamp ≡ e.stamp) × (f.actor < e.actor)). let y1 = y.1 in omega arith) q) p

not_self : (e : SharedEntry) → Before e e → ⊥
not_self e p = not_both e e p p

-- two lists in order with the same entries are the same
order_same : (xs ys : List SharedEntry) → InOrder xs → InOrder ys → ((e : SharedEntry) → Has xs e → Has ys e)
    → ((e : SharedEntry) → Has ys e → Has xs e) → xs ≡ ys
order_same [] [] o u there back = refl
order_same [] (y ∷ ys) o u there back = absurd (empty y (back y (first y ys)))
order_same (x ∷ xs) [] o u there back = absurd (empty x (there x (first x xs)))
order_same (x ∷ xs) (y ∷ ys) o u there back =
    let same : x ≡ y = ⊎_elim (λ (q : y ≡ x). sym q) (λ (q : Has ys x). ⊎_elim (λ (p : x ≡ y). p)
    (λ (p : Has xs y). absurd (not_both x y (o.0 y p) (u.0 x q))) (has_cons x y xs (back y (first y ys)))) (has_cons y x ys (there x (first x xs))) in
    let tails : xs ≡ ys = order_same xs ys o.1 u.1
    (λ e h. ⊎_elim (λ (q : y ≡ e). absurd (not_self e (subst (λ (z : SharedEntry). Before z e) (same ∙ q) (o.0 e h)))) (λ q. q)
    (has_cons y e ys (there e (later x e xs h))))
    (λ e h. ⊎_elim (λ (q : x ≡ e). absurd (not_self e (subst (λ (z : SharedEntry). Before z e) (sym same ∙ q) (u.0 e h)))) (λ q. q)
    (has_cons x e xs (back e (later y e ys h)))) in
    ap (λ z. z ∷ xs) same ∙ ap (λ l. y ∷ l) tails

less_true : (a b : ℕ) → nat_lt a b ≡ true → a < b
less_true a b e = grind (arith, nat_tests)

less_false : (a b : ℕ) → nat_lt a b ≡ false → b ≤ a
less_false a b e = grind (arith, nat_tests)

or_left : (a b : Bool) → (a || b) ≡ true → (a ≡ true) ⊎ (b ≡ true)
or_left true b e = inl refl
or_left false b e = inr e

and_both : (a b : Bool) → (a && b) ≡ true → (a ≡ true) × (b ≡ true)
and_both true b e = (refl, e)
and_both false b e = absurd (let z : false ≡ true = e in cc)

test_true : (e f : SharedEntry) → is_before e f ≡ true → Before e f
test_true e f h = ⊎_elim (λ (p : nat_lt e.stamp f.stamp ≡ true). inl (less_true e.stamp f.stamp p))
    (λ (p : ((e.stamp == f.stamp) && nat_lt e.actor f.actor) ≡ true). let q = and_both (e.stamp == f.stamp) (nat_lt e.actor f.actor) p in
    inr (
      Rattle.shared_objects.proofs.One.by_is e.stamp f.stamp q.0,
      less_true e.actor f.actor q.1,
    )) (or_left (nat_lt e.stamp f.stamp) ((e.stamp == f.stamp) && nat_lt e.actor f.actor) h)

clash : (b : Bool) → b ≡ true → b ≡ false → ⊥
clash b t f = let e : true ≡ false = sym t ∙ f in cc

less_is : (a b : ℕ) → a < b → nat_lt a b ≡ true
less_is a b h = ⊎_elim (λ (p : nat_lt a b ≡ true). p) (λ (p : nat_lt a b ≡ false). absurd (let q = less_false a b p in omega arith)) (either_way (nat_lt a b))

or_is : (a b : Bool) → (a ≡ true) ⊎ (b ≡ true) → (a || b) ≡ true
or_is true b h = refl
or_is false b h = ⊎_elim (λ (p : false ≡ true). absurd (let z = p in cc)) (λ p. p) h

and_is : (a b : Bool) → a ≡ true → b ≡ true → (a && b) ≡ true
and_is true b p q = q
and_is false b p q = absurd (let z = p in cc)

test_is : (e f : SharedEntry) → Before e f → is_before e f ≡ true
test_is e f h = or_is (nat_lt e.stamp f.stamp) ((e.stamp == f.stamp) && nat_lt e.actor f.actor)
    (⊎_elim (λ (p : e.stamp < f.stamp). inl (less_is e.stamp f.stamp p))
    (λ (p : (e.stamp ≡ f.stamp) × (e.actor < f.actor)).
    inr (and_is (e.stamp == f.stamp) (nat_lt e.actor f.actor) (eq-eqb e.stamp f.stamp p.0) (less_is e.actor f.actor p.1))) h)

insert_soon : (e f : SharedEntry) (fs : List SharedEntry) → is_before e f ≡ true → insert e (f ∷ fs) ≡ e ∷ f ∷ fs
insert_soon e f fs h = ap (λ b. cond b (e ∷ f ∷ fs) (f ∷ insert e fs)) h

insert_late : (e f : SharedEntry) (fs : List SharedEntry) → is_before e f ≡ false → insert e (f ∷ fs) ≡ f ∷ insert e fs
insert_late e f fs h = ap (λ b. cond b (e ∷ f ∷ fs) (f ∷ insert e fs)) h

-- what has been inserted is there, with all that was there, and nothing else
insert_has : (e x : SharedEntry) (l : List SharedEntry) → Has (insert e l) x → (e ≡ x) ⊎ Has l x
insert_has e x [] h = has_cons e x [] h
insert_has e x (f ∷ fs) h = ⊎_elim
    (λ (p : is_before e f ≡ true). has_cons e x (f ∷ fs) (subst (λ l. Has l x) (insert_soon e f fs p) h))
    (λ (p : is_before e f ≡ false). ⊎_elim (λ (q : f ≡ x). inr (subst (Has (f ∷ fs)) q (first f fs)))
    (λ q. ⊎_elim (λ r. inl r) (λ r. inr (later f x fs r)) (insert_has e x fs q)) (has_cons f x (insert e fs) (subst (λ l. Has l x) (insert_late e f fs p) h)))
    (either_way (is_before e f))

insert_there : (e x : SharedEntry) (l : List SharedEntry) → (e ≡ x) ⊎ Has l x → Has (insert e l) x
insert_there e x [] h = ⊎_elim (λ q. subst (Has (e ∷ [])) q (first e [])) (λ q. absurd (empty x q)) h
insert_there e x (f ∷ fs) h = ⊎_elim
    (λ (p : is_before e f ≡ true). subst (λ l. Has l x) (sym (insert_soon e f fs p))
    (⊎_elim (λ q. subst (Has (e ∷ f ∷ fs)) q (first e (f ∷ fs))) (λ q. later e x (f ∷ fs) q) h))
    (λ (p : is_before e f ≡ false). subst (λ l. Has l x) (sym (insert_late e f fs p))
    (⊎_elim (λ q. later f x (insert e fs) (insert_there e x fs (inl q)))
    (λ q. ⊎_elim (λ (r : f ≡ x). subst (Has (f ∷ insert e fs)) r (first f (insert e fs)))
    (λ r. later f x (insert e fs) (insert_there e x fs (inr r))) (has_cons f x fs q)) h))
    (either_way (is_before e f))

insert_order : (e : SharedEntry) (l : List SharedEntry) → InOrder l → ((f : SharedEntry) → Has l f → Before e f ⊎ Before f e) → InOrder (insert e l)
insert_order e [] o apart = ((λ f h. absurd (empty f h)), tt)
insert_order e (f ∷ fs) o apart = ⊎_elim
    (λ (p : is_before e f ≡ true). let soon = test_true e f p in subst InOrder (sym (insert_soon e f fs p))
    ((λ g h. ⊎_elim (λ q. subst (Before e) q soon) (λ q. through e f g soon (o.0 g q)) (has_cons f g fs h)), o))
    (λ (p : is_before e f ≡ false).
    let late : Before f e = ⊎_elim (λ (q : Before e f). absurd (clash (is_before e f) (test_is e f q) p)) (λ q. q) (apart f (first f fs)) in
    subst InOrder (sym (insert_late e f fs p))
    ((λ g h. ⊎_elim (λ q. subst (Before f) q late) (λ q. o.0 g q) (insert_has e g fs h)), insert_order e fs o.1 (λ g h. apart g (later f g fs h))))
    (either_way (is_before e f))

sorted_has : (es : List SharedEntry) (x : SharedEntry) → Has (sorted es) x → Has es x
sorted_has [] x h = h
sorted_has (e ∷ es) x h = ⊎_elim (λ q. subst (Has (e ∷ es)) q (first e es)) (λ q. later e x es (sorted_has es x q)) (insert_has e x (sorted es) h)

sorted_there : (es : List SharedEntry) (x : SharedEntry) → Has es x → Has (sorted es) x
sorted_there [] x h = h
sorted_there (e ∷ es) x h = insert_there e x (sorted es) (⊎_elim (λ q. inl q) (λ q. inr (sorted_there es x q)) (has_cons e x es h))

-- no two entries have one place in the order
abbrev Apart : List SharedEntry → Type 0
Apart [] = Unit {0}
Apart (e ∷ es) = ((f : SharedEntry) → Has es f → Before e f ⊎ Before f e) × Apart es

sorted_order : (es : List SharedEntry) → Apart es → InOrder (sorted es)
sorted_order [] a = tt
sorted_order (e ∷ es) a = insert_order e (sorted es) (sorted_order es a.1) (λ f h. a.0 f (sorted_has es f h))

pub has_either : {A : Type 0} (xs ys : List A) (x : A) → Has (xs ++ ys) x → Has xs x ⊎ Has ys x
has_either [] ys x h = inr h
has_either (y ∷ xs) ys x h = ⊎_elim (λ q. inl (subst (Has (y ∷ xs)) q (first y xs)))
    (λ q. ⊎_elim (λ r. inl (later y x xs r)) (λ r. inr r) (has_either xs ys x q)) (has_cons y x (xs ++ ys) h)

pub has_left : (xs ys : List SharedEntry) (x : SharedEntry) → Has xs x → Has (xs ++ ys) x
has_left [] ys x h = absurd (empty x h)
has_left (y ∷ xs) ys x h = ⊎_elim (λ q. subst (Has (y ∷ (xs ++ ys))) q (first y (xs ++ ys)))
    (λ q. later y x (xs ++ ys) (has_left xs ys x q)) (has_cons y x xs h)

pub has_right : (xs ys : List SharedEntry) (x : SharedEntry) → Has ys x → Has (xs ++ ys) x
has_right [] ys x h = h
has_right (y ∷ xs) ys x h = later y x (xs ++ ys) (has_right xs ys x h)

all_has : (ps : List Part) (x : SharedEntry) → Has (all_entries ps) x → HasPart ps x
all_has [] x h = absurd (empty x h)
all_has (p ∷ ps) x h = ⊎_elim (λ q. (p, first p ps, q)) (λ q. let t = all_has ps x q in
    (t.0, later p t.0 ps t.1, t.2)) (has_either p.entries (all_entries ps) x h)

all_there : (ps : List Part) (x : SharedEntry) → HasPart ps x → Has (all_entries ps) x
all_there [] x h = absurd (empty h.0 h.1)
all_there (p ∷ ps) x h = ⊎_elim (λ (q : p ≡ h.0). has_left p.entries (all_entries ps) x (subst (λ (y : Part). Has y.entries x) (sym q) h.2))
    (λ q. has_right p.entries (all_entries ps) x (all_there ps x (h.0, q, h.2))) (has_cons p h.0 ps h.1)

apart_more : (floor : ℕ) (es l : List SharedEntry) → Rises floor es
    → ((e f : SharedEntry) → Has es e → Has l f → Before e f ⊎ Before f e) → Apart l → Apart (es ++ l)
apart_more floor [] l r far a = a
apart_more floor (e ∷ es) l r far a = (
  (λ f h. ⊎_elim (λ q. apart_by_stamp e f (rises_above e.stamp es f r.1 q)) (λ q. far e f (first e es) q) (has_either es l f h)),
  apart_more e.stamp es l r.1 (λ x f hx hf. far x f (later e x es hx) hf) a,
)

all_apart : (ps : List Part) → PartsFit ps → Apart (all_entries ps)
all_apart [] f = tt
all_apart (p ∷ ps) f =
    let mine = f.0 p (first p ps) in
    apart_more 0 p.entries (all_entries ps) mine.0 (λ e g he hg. let w = all_has ps g hg in let other = (f.0 w.0 (later p w.0 ps w.1)).1 g w.2 in
    apart_by_actor e g (λ same. let no_ : 0 ≡ suc w.1.0 = f.1 0 (suc w.1.0) p w.0 refl w.1.1 (sym (mine.1 e he) ∙ same ∙ other) in omega arith))
    (all_apart ps (fewer p ps f))

-- the one list is that of all parts, sorted
pub one_is_sorted : (returns : Bool) (opening : List (List ℕ)) (parts : List Part) (ends : List (List ℕ)) (l : OneList returns opening parts ends)
    → l.one ≡ sorted (all_entries parts)
one_is_sorted returns opening parts ends l =
    order_same l.one (sorted (all_entries parts)) l.ordered (sorted_order (all_entries parts) (all_apart parts l.apart))
    (λ e h. sorted_there (all_entries parts) e (all_there parts e (l.only e h)))
    (λ e h. l.all e (all_has parts e (sorted_has (all_entries parts) e h)))
