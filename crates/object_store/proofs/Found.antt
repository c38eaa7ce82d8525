-- One object of a store is found, and another is put in its place, in a list that was lent whole.
use Rattle.std.proofs.Common.{◌≡◌, ℕ, ◌+◌, ◌<◌, ◌≤◌, zero, suc, List, [], ◌∷◌, Vec, length, map, set, get_or, refl, sym, ap, ◌∙◌, arith}
use Rattle.std.specs.Vec.{with_items}
use Rattle.std.proofs.lemmas.List.{with_items_is, get_or_default, get_or-set_same, length-map, length-set, map-set, set-get_or}
use Rattle.placement.specs.declared.places.Place.{Place}
use Rattle.placement.specs.declared.places.Place.TheVariants.{Here}
use Rattle.memory.specs.declared.access.Op.{Op}
use Rattle.memory.specs.Access.{IsInside}
use Rattle.memory.specs.Objects.{HasRange, IsLive, Reaches, number_count, object_bytes, bytes_of}
use Rattle.scopes.specs.Windows.{window_count}
use Rattle.object_store.specs.Stores.{StoreWithin, Sent, StandsAt, IsScoped, holders, unsent, place_of, sent_of, near_length, near_bytes}
use Rattle.object_store.specs.Bodies.{Kept, CountsHold, IsKeptStore, bytes_in, place_in, scopes_in, sent_in}
use Rattle.object_store.proofs.Listed.{body_at, no_body, at_bytes, at_place, at_scopes, at_sent}
use Rattle.object_store.proofs.Keeping.{changed, near_one, not_zero}
use Rattle.object_store.proofs.Leasing.{reaches_some}

in_list : (bodies : List Kept) (n : ℕ) → 0 < length (bytes_of (map bytes_in bodies) n) → n < length bodies
in_list [] n h = absurd (omega arith)
in_list (b ∷ bodies) zero h = omega arith
in_list (b ∷ bodies) (suc n) h = let g = in_list bodies n h in omega arith

-- Object n of a list that was lent is in this place, as it is kept and as the store's callers see it.
pub record IsFound {X Z : Type 0} (s : StoreWithin X) (v : Vec Kept Z) (lent : List Kept) (n : ℕ) (from : Place) (k : Kept) : Type 0 where
  pub value : lent ≡ v.items
  pub all : length lent ≡ v.len
  pub numbered : 0 < n
  pub inside : n < length v.items
  pub is : k ≡ body_at v.items n
  pub live : 0 < length k.bytes
  pub place : k.place ≡ from
  pub same : bytes_of s.state.objects n ≡ k.bytes
  pub size : length (bytes_of s.state.objects n) ≡ length k.bytes
  pub short : length k.bytes ≤ object_bytes
  pub fits : near_length from k.bytes ≤ near_bytes (map bytes_in v.items) (map place_in v.items)
  pub stands : (0 < length (bytes_of (map bytes_in v.items) n)) × (place_of (map place_in v.items) n ≡ from)
  pub bytes : k.bytes ≡ bytes_of (map bytes_in v.items) n
  pub sent : sent_in k ≡ sent_of (map sent_in v.items) n
  pub parcel : k.parcel ≡ (sent_of (map sent_in v.items) n).parcel
  pub clean : k.clean ≡ (sent_of (map sent_in v.items) n).clean
  -- where it is put at its place again
  pub bytes_stay : set (map bytes_in v.items) n k.bytes ≡ map bytes_in v.items
  pub place_stays : set (map place_in v.items) n from ≡ map place_in v.items
  pub sent_stays : set (map sent_in v.items) n (sent_in k) ≡ map sent_in v.items
  -- what is put there is there
  pub again : (l : List ℕ) → bytes_of (set (map bytes_in v.items) n l) n ≡ l
  pub stands_at : (p : Place) → place_of (set (map place_in v.items) n p) n ≡ p

pub found : {X Z : Type 0} {lent : List Kept} {windows : List (List ℕ)} {budget spare faults : ℕ} {far : X} {s : StoreWithin X} {n : ℕ}
    {stands from : Place} (v : Vec Kept Z) (d : Kept) → IsKeptStore v.items windows budget spare × (v.cap ≡ number_count)
    → ◌≡◌ {A = StoreWithin X} (record {
      state = record { objects = map bytes_in v.items; places = map place_in v.items; windows = windows; budget = budget; faults = faults };
      far = far;
      sent = map sent_in v.items;
    }) s → stands ≡ from → StandsAt stands s.state n → lent ≡ v.items → length lent ≡ v.len → IsFound s v lent n from (get_or lent n d)
found {lent} {s} {n} {from} v d kept seen is stands value all =
    let h = rw (is, ← seen) at stands in
    let inside = in_list v.items n h.0 in
    let one : get_or lent n d ≡ body_at v.items n = rw value (get_or_default v.items n d no_body inside) in
    let bytes : (get_or lent n d).bytes ≡ bytes_of (map bytes_in v.items) n = ap bytes_in one ∙ sym (at_bytes v.items n) in
    let place : (get_or lent n d).place ≡ from = ap place_in one ∙ sym (at_place v.items n) ∙ h.1 in
    let sent : sent_in (get_or lent n d) ≡ sent_of (map sent_in v.items) n = ap sent_in one ∙ sym (at_sent v.items n) in
    let same : bytes_of s.state.objects n ≡ (get_or lent n d).bytes =
    ap (λ (x : StoreWithin _). bytes_of x.state.objects n) (sym seen) ∙ sym bytes in
    record {
      value = value;
      all = all;
      numbered = not_zero (map bytes_in v.items) n kept.0.objects.none_at_zero h.0;
      inside = inside;
      is = one;
      live = rw bytes h.0;
      place = place;
      same = same;
      size = ap (λ (l : List ℕ). length l) same;
      short = rw bytes (kept.0.objects.sizes n);
      fits = rw (← place, one) (near_one v.items n inside);
      stands = h;
      bytes = bytes;
      sent = sent;
      parcel = ap (λ (t : Sent). t.parcel) sent;
      clean = ap (λ (t : Sent). t.clean) sent;
      bytes_stay = ap (set (map bytes_in v.items) n) bytes ∙ set-get_or (map bytes_in v.items) n [];
      place_stays = ap (set (map place_in v.items) n) (sym h.1) ∙ set-get_or (map place_in v.items) n Here;
      sent_stays = ap (set (map sent_in v.items) n) sent ∙ set-get_or (map sent_in v.items) n unsent;
      again = λ l. get_or-set_same (map bytes_in v.items) n l [] (let e = length-map v.items bytes_in in omega (arith, e, inside));
      stands_at = λ p. get_or-set_same (map place_in v.items) n p Here (let e = length-map v.items place_in in omega (arith, e, inside));
    }

-- the same of one that is here, and has this range
pub found_in : {X Z : Type 0} {lent : List Kept} {windows : List (List ℕ)} {budget spare faults : ℕ} {far : X} {s : StoreWithin X} {n : ℕ}
    (v : Vec Kept Z) (d : Kept) (offset count : ℕ) → IsKeptStore v.items windows budget spare × (v.cap ≡ number_count)
    → ◌≡◌ {A = StoreWithin X} (record {
      state = record { objects = map bytes_in v.items; places = map place_in v.items; windows = windows; budget = budget; faults = faults };
      far = far;
      sent = map sent_in v.items;
    }) s → HasRange (map bytes_in v.items) n offset count × (place_of (map place_in v.items) n ≡ Here) → lent ≡ v.items → length lent ≡ v.len
    → (offset + count ≤ length (get_or lent n d).bytes) × IsFound s v lent n Here (get_or lent n d)
found_in {lent} {s} {n} v d offset count kept seen h value all =
    let there : IsFound s v lent n Here (get_or lent n d) = found v d kept seen refl (rw (← seen) (h.0.0, h.1)) value all in
    (rw there.bytes h.0.1, there)

-- and of one that is here, for an access inside it
pub found_for : {X Z : Type 0} {lent : List Kept} {windows : List (List ℕ)} {budget spare faults : ℕ} {far : X} {s : StoreWithin X} {n : ℕ}
    (v : Vec Kept Z) (d : Kept) (op : Op) → IsKeptStore v.items windows budget spare × (v.cap ≡ number_count)
    → ◌≡◌ {A = StoreWithin X} (record {
      state = record { objects = map bytes_in v.items; places = map place_in v.items; windows = windows; budget = budget; faults = faults };
      far = far;
      sent = map sent_in v.items;
    }) s → Reaches (map bytes_in v.items) n op × (place_of (map place_in v.items) n ≡ Here) → lent ≡ v.items → length lent ≡ v.len
    → IsInside op (length (get_or lent n d).bytes) × IsFound s v lent n Here (get_or lent n d)
found_for {lent} {s} {n} v d op kept seen h value all =
    let some = reaches_some op in
    let live : 0 < length (bytes_of (map bytes_in v.items) n) = omega (arith, some, h.0) in
    let there : IsFound s v lent n Here (get_or lent n d) = found v d kept seen refl (rw (← seen) (live, h.1)) value all in
    (rw there.bytes h.0, there)

not_some : (n : ℕ) → (0 < n → ⊥) → n ≡ 0
not_some zero h = refl
not_some (suc n) h = absurd (h (omega arith))

-- no window holds it where no machine has it in scope
pub alone : {X Z : Type 0} {v : Vec Kept Z} {lent : List Kept} {windows : List (List ℕ)} {budget spare faults n : ℕ} {far : X} {s : StoreWithin X}
    {from : Place} {k : Kept} → IsKeptStore v.items windows budget spare × (v.cap ≡ number_count)
    → ◌≡◌ {A = StoreWithin X} (record {
      state = record { objects = map bytes_in v.items; places = map place_in v.items; windows = windows; budget = budget; faults = faults };
      far = far;
      sent = map sent_in v.items;
    }) s → IsFound s v lent n from k → (IsScoped s.state n → ⊥) → k.scopes ≡ 0
alone {v} {windows} {n} kept seen there free =
    let none : 0 < holders windows n → ⊥ = λ h. free (rw (← seen) h) in
    ap scopes_in there.is ∙ sym (at_scopes v.items n) ∙ kept.0.counts.each n ∙ not_some (holders windows n) none

-- once the list is back with another object there
pub back : {Z : Type 0} {lent : List Kept} (v : Vec Kept Z) (n : ℕ) (b : Kept) → lent ≡ v.items → length lent ≡ v.len
    → (with_items v (set lent n b)).items ≡ set v.items n b
back {lent} v n b value all = with_items_is v (set lent n b) (length-set lent n b ∙ all) ∙ ap (λ (l : List Kept). set l n b) value

-- what callers see once the list is back, which is this one then
pub record IsSeen {Z : Type 0} (v : Vec Kept Z) (bodies : List Kept) (n : ℕ) (b : Kept) : Type 0 where
  pub bytes : map bytes_in (with_items v bodies).items ≡ set (map bytes_in v.items) n b.bytes
  pub places : map place_in (with_items v bodies).items ≡ set (map place_in v.items) n b.place
  pub sent : map sent_in (with_items v bodies).items ≡ set (map sent_in v.items) n (sent_in b)

pub seen_by : {Z : Type 0} {lent : List Kept} {new b : Kept} (v : Vec Kept Z) (n : ℕ) → lent ≡ v.items → length lent ≡ v.len → new ≡ b
    → IsSeen v (set lent n new) n b
seen_by {lent} {new} {b} v n value all is =
    let e : (with_items v (set lent n new)).items ≡ set v.items n b = back v n new value all ∙ ap (λ (k : Kept). set v.items n k) is in
    record {
      bytes = ap (map bytes_in) e ∙ map-set bytes_in v.items n b;
      places = ap (map place_in) e ∙ map-set place_in v.items n b;
      sent = ap (map sent_in) e ∙ map-set sent_in v.items n b;
    }

pub seen : {X Z : Type 0} {s : StoreWithin X} {v : Vec Kept Z} {lent : List Kept} {n : ℕ} {from : Place} {k b new : Kept}
    → IsFound s v lent n from k → new ≡ b → IsSeen v (set lent n new) n b
seen {v} {n} there is = seen_by v n there.value there.all is

-- The store is as it is always kept, as long as the list is lent.
pub put_there : {X Z : Type 0} {s : StoreWithin X} {v : Vec Kept Z} {lent : List Kept} {windows : List (List ℕ)} {budget spare left n : ℕ} {from : Place}
    {k b new : Kept} → IsKeptStore v.items windows budget spare × (v.cap ≡ number_count) → IsFound s v lent n from k → new ≡ b
    → b.scopes ≡ k.scopes → length b.bytes ≤ object_bytes → left + near_length b.place b.bytes ≡ spare + near_length from k.bytes
    → IsKeptStore (set lent n new) windows budget left
put_there {v} {windows} {budget} {spare} {left} {n} {k} {b} {new} kept there is scopes short room = rw (there.value, is) (
    changed v.items windows budget spare left n b kept.0 there.inside there.numbered (rw there.is at scopes) short
    (rw (← there.is, there.place) room)
    )

-- It is so once the list is back, and has its memory still.
pub put_back : {X Z : Type 0} {s : StoreWithin X} {v : Vec Kept Z} {lent : List Kept} {windows : List (List ℕ)} {budget spare left n : ℕ} {from : Place}
    {k b new : Kept} → IsKeptStore v.items windows budget spare × (v.cap ≡ number_count) → IsFound s v lent n from k → new ≡ b
    → b.scopes ≡ k.scopes → length b.bytes ≤ object_bytes → left + near_length b.place b.bytes ≡ spare + near_length from k.bytes
    → IsKeptStore (with_items v (set lent n new)).items windows budget left × (v.cap ≡ number_count)
put_back {v} {lent} {n} {new} kept there is scopes short room =
    rw (with_items_is v (set lent n new) (length-set lent n new ∙ there.all)) (put_there kept there is scopes short room, kept.1)

-- ---- other windows hold objects then

-- the list has another object at n, and but for how many windows hold each nothing else has changed
pub record IsHeld (lent : List Kept) (n : ℕ) (new : Kept) (bodies : List Kept) : Type 0 where
  pub long : length bodies ≡ length (set lent n new)
  pub bytes : map bytes_in bodies ≡ map bytes_in (set lent n new)
  pub places : map place_in bodies ≡ map place_in (set lent n new)
  pub sent : map sent_in bodies ≡ map sent_in (set lent n new)

held_back : {Z : Type 0} {lent bodies : List Kept} {n : ℕ} {new : Kept} (v : Vec Kept Z) → length lent ≡ v.len → IsHeld lent n new bodies
    → (with_items v bodies).items ≡ bodies
held_back {lent} {bodies} {n} {new} v all h = with_items_is v bodies (h.long ∙ length-set lent n new ∙ all)

pub seen_held : {X Z : Type 0} {s : StoreWithin X} {v : Vec Kept Z} {lent bodies : List Kept} {n : ℕ} {from : Place} {k b new : Kept}
    → IsFound s v lent n from k → new ≡ b → IsHeld lent n new bodies → IsSeen v bodies n b
seen_held {v} {lent} {bodies} {n} {k} {b} {new} there is h =
    let now : IsSeen v (set lent n new) n b = seen there is in
    let first = with_items_is v (set lent n new) (length-set lent n new ∙ there.all) in
    let again = held_back v there.all h in
    record {
      bytes = ap (map bytes_in) again ∙ h.bytes ∙ rw first at now.bytes;
      places = ap (map place_in) again ∙ h.places ∙ rw first at now.places;
      sent = ap (map sent_in) again ∙ h.sent ∙ rw first at now.sent;
    }

pub back_held : {X Z : Type 0} {s : StoreWithin X} {v : Vec Kept Z} {lent bodies : List Kept} {windows after : List (List ℕ)} {budget spare left n : ℕ}
    {from : Place} {k new : Kept} → IsKeptStore v.items windows budget spare × (v.cap ≡ number_count) → IsFound s v lent n from k
    → IsHeld lent n new bodies → IsKeptStore (set lent n new) windows budget left → CountsHold (map scopes_in bodies) after
    → length after ≡ window_count → IsKeptStore (with_items v bodies).items after budget left × (v.cap ≡ number_count)
back_held {v} kept there h old counts all = rw (held_back v there.all h) (
  record { objects = rw h.bytes old.objects; counts = counts; windows_are = all; budget_is = rw (h.bytes, h.places) old.budget_is },
  kept.1,
)

-- ---- one that is read

pub live_inside : {X Z : Type 0} {lent : List Kept} {windows : List (List ℕ)} {budget faults : ℕ} {far : X} {s : StoreWithin X} (v : Vec Kept Z) (n : ℕ)
    → ◌≡◌ {A = StoreWithin X} (record {
      state = record { objects = map bytes_in v.items; places = map place_in v.items; windows = windows; budget = budget; faults = faults };
      far = far;
      sent = map sent_in v.items;
    }) s → lent ≡ v.items → IsLive s.state.objects n → n < length lent
live_inside v n seen value live = rw value (in_list v.items n (rw (← seen) at live))

pub record IsRead {X : Type 0} (s : StoreWithin X) (windows : List (List ℕ)) (n : ℕ) (k : Kept) : Type 0 where
  pub bytes : bytes_of s.state.objects n ≡ k.bytes
  pub place : place_of s.state.places n ≡ k.place
  pub scopes : holders s.state.windows n ≡ k.scopes

pub read : {X Z : Type 0} {lent : List Kept} {windows : List (List ℕ)} {budget spare faults : ℕ} {far : X} {s : StoreWithin X} {k : Kept}
    (v : Vec Kept Z) (n : ℕ) → IsKeptStore v.items windows budget spare × (v.cap ≡ number_count)
    → ◌≡◌ {A = StoreWithin X} (record {
      state = record { objects = map bytes_in v.items; places = map place_in v.items; windows = windows; budget = budget; faults = faults };
      far = far;
      sent = map sent_in v.items;
    }) s → lent ≡ v.items → n < length lent → k ≡ get_or lent n k → IsRead s windows n k
read {k} v n kept seen value inside is =
    let one : k ≡ body_at v.items n = rw value at (is ∙ get_or_default _ n k no_body inside) in
    rw (← seen) (record {
      bytes = at_bytes v.items n ∙ sym (ap bytes_in one);
      place = at_place v.items n ∙ sym (ap place_in one);
      scopes = sym (kept.0.counts.each n) ∙ at_scopes v.items n ∙ sym (ap scopes_in one);
    })
