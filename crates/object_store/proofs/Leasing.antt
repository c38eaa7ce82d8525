-- An object that is out of a store.
use Rattle.std.proofs.Common.{◌≡◌, ℕ, ◌<◌, nat_eq, Bool, true, false, ◌||◌, ◌++◌, List, [], ◌∷◌, Vec, length, map, get_or, set, refl, sym, ap, ◌∙◌, cond, arith, inl, inr}
use Rattle.std.proofs.lemmas.List.{length-map, length-set, set-set, set-get_or, get_or_default, get_or-set_same}
use Rattle.std.specs.List.{list_any}
use Rattle.std.proofs.lemmas.List.Folds.{list_any-append}
use Rattle.std.proofs.lemmas.Bool.Decides.{nat_tests}
use Rattle.isa_table.specs.declared.instr.Size.{Size}
use Rattle.isa_table.specs.declared.instr.Size.TheVariants.{Byte, Half, Word, Double}
use Rattle.isa_table.specs.Table.{size_bytes}
use Rattle.placement.specs.declared.places.Place.TheVariants.{Here}
use Rattle.memory.specs.declared.access.Op.{Op}
use Rattle.memory.specs.declared.access.Reach.TheVariants.{Done}
use Rattle.memory.specs.Access.{IsInside, answer, after, count_of, size_of}
use Rattle.memory.specs.Objects.{bytes_of, with_bytes}
use Rattle.memory.proofs.Accesses.{lengths}
use Rattle.scopes.specs.Windows.{holds, noted, without_oldest}
use Rattle.object_store.specs.Asking.{clean_after}
use Rattle.object_store.specs.Stores.{StoreState, StoreWithin, Sent, StandsAt, place_of, sent_of, unsent, window_of}
use Rattle.object_store.specs.Bodies.{Kept, IsKeptStore, bytes_in, place_in, sent_in}
use Rattle.object_store.specs.Lending.{TouchesWithin}
use Rattle.object_store.specs.Leases.{IsOut, IsLeased, IsLeasing, filled, without}
use Rattle.object_store.proofs.Keeping.{near_filled, in_bytes, not_zero, same_length}
use Rattle.object_store.proofs.Listed.{body_at, no_body, at_bytes, at_place}

-- an access reaches a byte at least
some_bytes : (size : Size) → 0 < size_bytes size
some_bytes Byte = omega arith
some_bytes Half = omega arith
some_bytes Word = omega arith
some_bytes Double = omega arith

pub reaches_some : (op : Op) → 0 < count_of op
reaches_some op = some_bytes (size_of op.action)

-- ---- the list

-- a number of the list is without bytes
pub record IsVacant {Z : Type 0} (v : Vec Kept Z) (n : ℕ) (k : Kept) : Type 0 where
  pub inside : n < length v.items
  pub is : k ≡ body_at v.items n
  pub place : k.place ≡ Here
  pub empty : k.bytes ≡ []
  pub stays : set (map place_in v.items) n Here ≡ map place_in v.items

-- which it is where its object is out
pub vacant : {X Z : Type 0} {lent : List Kept} {windows : List (List ℕ)} {budget faults n : ℕ} {far : X} {k : Kept} (v : Vec Kept Z) (d : Kept)
    → IsOut {X = X} (record {
      state = record { objects = map bytes_in v.items; places = map place_in v.items; windows = windows; budget = budget; faults = faults };
      far = far;
      sent = map sent_in v.items;
    }) n k → lent ≡ v.items → IsVacant v n (get_or lent n d)
vacant {lent} {n} v d out value =
    let inside : n < length v.items = let e = length-map v.items bytes_in in omega (arith, e, out.inside) in
    let one : get_or lent n d ≡ body_at v.items n = rw value (get_or_default v.items n d no_body inside) in
    record {
      inside = inside;
      is = one;
      place = ap place_in one ∙ sym (at_place v.items n) ∙ out.place;
      empty = ap bytes_in one ∙ sym (at_bytes v.items n) ∙ out.none;
      stays = ap (set (map place_in v.items) n) (sym out.place) ∙ set-get_or (map place_in v.items) n Here;
    }

-- ---- what is seen

-- an object that was out is back as it was
pub seen_again : {X : Type 0} (s : StoreWithin X) (n : ℕ) (k : Kept) → k.bytes ≡ bytes_of s.state.objects n → sent_in k ≡ sent_of s.sent n
    → filled (without s n) n k ≡ s
seen_again {X} s n k b e =
    let objects : set (set s.state.objects n []) n k.bytes ≡ s.state.objects =
    set-set s.state.objects n [] k.bytes ∙ (ap (set s.state.objects n) b ∙ set-get_or s.state.objects n []) in
    let sent : set (set s.sent n unsent) n (sent_in k) ≡ s.sent =
    set-set s.sent n unsent (sent_in k) ∙ (ap (set s.sent n) e ∙ set-get_or s.sent n unsent) in
    rw (objects, sent) refl

-- what was taken out fits in again
pub is_out : {X : Type 0} (bodies : List Kept) (windows : List (List ℕ)) (budget spare faults : ℕ) (far : X) (n : ℕ) (k : Kept)
    → IsKeptStore bodies windows budget spare
    → n < length bodies → 0 < length (bytes_of (map bytes_in bodies) n) → place_of (map place_in bodies) n ≡ Here
    → k.bytes ≡ bytes_of (map bytes_in bodies) n → k.place ≡ Here
    → IsOut {X = X} (record {
      state = record {
        objects = with_bytes (map bytes_in bodies) n [];
        places = map place_in bodies;
        windows = windows;
        budget = budget;
        faults = faults;
      };
      far = far;
      sent = set (map sent_in bodies) n unsent;
    }) n k
is_out bodies windows budget spare faults far n k s h live p b t =
    let count = length-set (map bytes_in bodies) n [] in
    let sent = length-set (map sent_in bodies) n unsent in
    let all = length-map bodies bytes_in in
    let all_sent = length-map bodies sent_in in
    let near = rw p at (near_filled (map bytes_in bodies) (map place_in bodies) n [] (in_bytes bodies n h) (same_length bodies)) in
    record {
      inside = omega (arith, count, all, h);
      sent = omega (arith, sent, all_sent, h);
      numbered = not_zero (map bytes_in bodies) n s.objects.none_at_zero live;
      none = get_or-set_same (map bytes_in bodies) n [] [] (in_bytes bodies n h);
      place = p;
      there = t;
      short = rw b (s.objects.sizes n);
      room = rw b (omega (arith, near, s.budget_is));
    }

-- ---- windows

same_number : (n : ℕ) → nat_eq n n ≡ true
same_number n = grind (arith, nat_tests)

either : (a b : Bool) → b ≡ true → (a || (b || false)) ≡ true
either true b h = refl
either false true h = refl
either false false h = absurd (cc)

by_held : (n : ℕ) (w : List ℕ) (b : Bool) → holds n w ≡ b → holds n (cond b w (without_oldest w ++ n ∷ [])) ≡ true
by_held n w true h = h
by_held n w false h = list_any-append (nat_eq n) (without_oldest w) (n ∷ []) ∙ either (list_any (nat_eq n) (without_oldest w)) (nat_eq n n) (same_number n)

noted_by : (n : ℕ) (w : List ℕ) (b : Bool) → b ≡ true → cond b w (without_oldest w ++ n ∷ []) ≡ w
noted_by n w true h = refl
noted_by n w false h = absurd (cc)

-- a number that is held is noted already
noted_again : (n : ℕ) (w : List ℕ) → holds n w ≡ true → noted n w ≡ w
noted_again n w h = noted_by n w (holds n w) h

held_noted : (n : ℕ) (w : List ℕ) → holds n (noted n w) ≡ true
held_noted n w = by_held n w (holds n w) refl

-- so an object that was reached is in scope
pub held_after : (windows : List (List ℕ)) (who n : ℕ) → who < length windows
    → holds n (window_of (set windows who (noted n (window_of windows who))) who) ≡ true
held_after windows who n h = rw (get_or-set_same windows who (noted n (window_of windows who)) [] h) (held_noted n (window_of windows who))

-- ---- accesses to the object that is out

no_room : (op : Op) → IsInside op 0 → ⊥
no_room op h = let e = reaches_some op in omega (arith, h, e)

-- an object is out
pub leased : {X : Type 0} (who : ℕ) (s : StoreWithin X) (n : ℕ) (k : Kept) (op : Op) → IsLeasing who s n k → IsInside op (length k.bytes) → IsLeased who s n k
leased who s n k op (h, inl i) o = absurd (no_room op (rw i.none at o))
leased who s n k op (h, inr l) o = l

pub told_done : {X : Type 0} (who : ℕ) (s : StoreWithin X) (n : ℕ) (k new : Kept) (op : Op) (x : ℕ) → IsLeased who s n k → IsInside op (length k.bytes)
    → x ≡ answer op k.bytes → new ≡ record k { bytes = after op k.bytes; clean = clean_after op.action k.clean }
    → TouchesWithin who (filled s n k) n op (Done x) (filled s n new)
told_done who s n k new op x l i a e =
    let seen : bytes_of (set s.state.objects n k.bytes) n ≡ k.bytes = get_or-set_same s.state.objects n k.bytes [] l.out.inside in
    let got : sent_of (set s.sent n (sent_in k)) n ≡ sent_in k = get_or-set_same s.sent n (sent_in k) unsent l.out.sent in
    let objects : set (set s.state.objects n k.bytes) n (after op (bytes_of (set s.state.objects n k.bytes) n)) ≡ set s.state.objects n (after op k.bytes) =
    set-set s.state.objects n k.bytes (after op (bytes_of (set s.state.objects n k.bytes) n)) ∙ ap (λ (b : List ℕ). set s.state.objects n (after op b)) seen in
    let windows : set s.state.windows who (noted n (window_of s.state.windows who)) ≡ s.state.windows =
    ap (set s.state.windows who) (noted_again n (window_of s.state.windows who) l.held) ∙ set-get_or s.state.windows who [] in
    let sent : set (set s.sent n (sent_in k)) n (record (sent_of (set s.sent n (sent_in k)) n) {
      clean = clean_after op.action (sent_of (set s.sent n (sent_in k)) n).clean;
    }) ≡ set s.sent n (record { parcel = k.parcel; clean = clean_after op.action k.clean }) =
    set-set s.sent n (sent_in k) _ ∙ ap (λ (t : Sent). set s.sent n (record t { clean = clean_after op.action t.clean })) got in
    rw e (record {
      touches = (rw seen i, l.out.place, rw seen a, rw (objects, windows) refl);
      far = refl;
      sent = sym sent;
    })

-- ---- accesses to other objects

-- an object with bytes is out
pub out_of : {X : Type 0} (who : ℕ) (s : StoreWithin X) (n : ℕ) (k : Kept) → IsLeasing who s n k → 0 < length k.bytes → IsLeased who s n k
out_of who s n k (h, inl i) l = let e = rw i.none at l in absurd (omega (arith, e))
out_of who s n k (h, inr l) z = l

-- the object that was reached is here, and in scope
pub record IsReached {X : Type 0} (who : ℕ) (s : StoreWithin X) (n : ℕ) : Type 0 where
  pub stands : StandsAt Here s.state n
  pub window : who < length s.state.windows
  pub held : holds n (window_of s.state.windows who) ≡ true

pub reached : {X : Type 0} (who : ℕ) (s new : StoreWithin X) (n : ℕ) (op : Op) (x : ℕ) → TouchesWithin who s n op (Done x) new → who < length new.state.windows
    → IsReached who new n
reached {X} who s new n op x t h =
    let long : length (bytes_of new.state.objects n) ≡ length (bytes_of s.state.objects n) =
    lengths s.state.objects new.state.objects n n op (Done x) (t.touches.0, t.touches.2, ap (λ (y : StoreState). y.objects) t.touches.3) in
    let windows : new.state.windows ≡ set s.state.windows who (noted n (window_of s.state.windows who)) = ap (λ (y : StoreState). y.windows) t.touches.3 in
    let places : new.state.places ≡ s.state.places = ap (λ (y : StoreState). y.places) t.touches.3 in
    let some = reaches_some op in
    let count = length-set s.state.windows who (noted n (window_of s.state.windows who)) in
    record {
      stands = (omega (arith, long, some, t.touches.0), rw places t.touches.1);
      window = h;
      held = rw windows (held_after s.state.windows who n (let w = rw windows at h in omega (arith, count, w)));
    }
