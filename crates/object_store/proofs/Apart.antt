-- A store is taken apart.
use Rattle.std.proofs.Common.{◌≡◌, ℕ, zero, suc, ◌<◌, ◌≤◌, ◌+◌, ◌⊎◌, inl, inr, ◌∙◌, List, [], ◌∷◌, ◌++◌, length, map, get_or, remove, Vec, refl, sym, ap, subst}
use Rattle.std.proofs.Common.{arith, append_assoc}
use Rattle.std.specs.declared.alloc.Global.{Global}
use Rattle.std.proofs.lemmas.Bool.{cases_lt}
use Rattle.std.proofs.lemmas.List.{append-nil, length-map, map-append}
use Rattle.far_store.specs.Calls.{Call, Calls}
use Rattle.placement.specs.declared.places.Place.{Place}
use Rattle.placement.specs.declared.places.Place.TheVariants.{Here}
use Rattle.memory.specs.Objects.{number_count, object_limit}
use Rattle.object_store.specs.Bodies.{Kept, bytes_in, place_in, sent_in}
use Rattle.object_store.specs.Stores.{place_of}
use Rattle.object_store.specs.Asking.{forgets}
use Rattle.object_store.proofs.Listed.{place_at}
use Rattle.object_store.specs.Parts.{AllHere, AreHere, bodies_of, forgets_all}

-- ---- places

-- where a scan found no other place up to the end, all are here
pub scanned : (places : List Place) (count : ℕ) → length places ≤ count → ((k : ℕ) → k < count → place_of places k ≡ Here) → AllHere places
scanned [] count l h n = refl
scanned (p ∷ ps) zero l h n = absurd (omega arith)
scanned (p ∷ ps) (suc count) l h zero = h 0 (omega arith)
scanned (p ∷ ps) (suc count) l h (suc n) = scanned ps count (omega arith) (λ k b. h (suc k) (omega arith)) n

-- one more
at_or_below : (places : List Place) (n k : ℕ) → k < n + 1 → (k < n) ⊎ (n ≤ k) → ((j : ℕ) → j < n → place_of places j ≡ Here)
    → place_of places n ≡ Here → place_of places k ≡ Here
at_or_below places n k b (inl l) h p = h k l
at_or_below places n k b (inr g) h p = let e : k ≡ n = omega (arith, b, g) in rw e p

pub one_more : (places : List Place) (n : ℕ) → ((k : ℕ) → k < n → place_of places k ≡ Here) → place_of places n ≡ Here → (k : ℕ)
    → k < n + 1 → place_of places k ≡ Here
one_more places n h p k b = at_or_below places n k b (cases_lt k n) h p

pub all_scanned : (bodies : List Kept) (n : ℕ) → length bodies ≤ n → ((k : ℕ) → k < n → place_of (map place_in bodies) k ≡ Here) → AllHere (map place_in bodies)
all_scanned bodies n l h = scanned (map place_in bodies) n (let e = length-map bodies place_in in omega arith) h

pub here_at : (bodies : List Kept) (n : ℕ) (d : Kept) → n < length bodies → (get_or bodies n d).place ≡ Here → place_of (map place_in bodies) n ≡ Here
here_at bodies n d l h = sym (place_at bodies n d l) ∙ h

pub away_at : (bodies : List Kept) (n : ℕ) (d : Kept) → n < length bodies → ((get_or bodies n d).place ≡ Here → ⊥) → place_of (map place_in bodies) n ≡ Here → ⊥
away_at bodies n d l h p = h (place_at bodies n d l ∙ p)

pub ruleset scan_steps = (one_more, all_scanned, here_at, away_at)

pub all_here : (bodies : List Kept) → AllHere (map place_in bodies) → AreHere bodies
all_here [] h = tt
all_here (b ∷ bs) h = (h 0, all_here bs (λ n. h (suc n)))

pub front_here : (bodies : List Kept) (b : Kept) → AreHere (bodies ++ b ∷ []) → AreHere bodies
front_here [] b h = tt
front_here (x ∷ xs) b h = (h.0, front_here xs b h.1)

pub last_here : (bodies : List Kept) (b : Kept) → AreHere (bodies ++ b ∷ []) → b.place ≡ Here
last_here [] b h = h.0
last_here (x ∷ xs) b h = last_here xs b h.1

-- ---- parcels

pub joined : {X : Type 0} (called : X → Call → X → Type 0) (a b d : X) (cs ds : List Call) → Calls called a cs b
    → Calls called b ds d → Calls called a (cs ++ ds) d
joined {X} called a b d [] ds p q = subst (λ (x : X). Calls called x ds d) p q
joined called a b d (c ∷ cs) ds p q = (p.0, p.1, joined called p.0 b d cs ds p.2 q)

more : (bodies : List Kept) (b : Kept) → forgets_all (map sent_in (bodies ++ b ∷ [])) ≡ forgets_all (map sent_in bodies) ++ forgets b.parcel
more [] b = append-nil (forgets b.parcel)
more (x ∷ xs) b = ap (λ (l : List Call). forgets x.parcel ++ l) (more xs b)
    ∙ sym (append_assoc (forgets x.parcel) (forgets_all (map sent_in xs)) (forgets b.parcel))

pub forgotten_too : {X : Type 0} (called : X → Call → X → Type 0) (a b d : X) (bodies : List Kept) (k : Kept)
    → Calls called a (forgets_all (map sent_in bodies)) b → Calls called b (forgets k.parcel) d
    → Calls called a (forgets_all (map sent_in (bodies ++ k ∷ []))) d
forgotten_too called a b d bodies k p q = rw (more bodies k) (joined called a b d (forgets_all (map sent_in bodies)) (forgets k.parcel) p q)

-- ---- bytes

pub bytes_too : (taken : List (Vec ℕ Global)) (bodies : List Kept) (v : Vec ℕ Global) (k : Kept)
    → map (λ (b : Vec ℕ Global). b.items) taken ≡ map bytes_in bodies → v.items ≡ k.bytes
    → map (λ (b : Vec ℕ Global). b.items) (taken ++ v ∷ []) ≡ map bytes_in (bodies ++ k ∷ [])
bytes_too taken bodies v k e h = map-append (λ (b : Vec ℕ Global). b.items) taken (v ∷ []) ∙ ap (λ (l : List (List ℕ)). l ++ v.items ∷ []) e
    ∙ ap (λ (x : List ℕ). map bytes_in bodies ++ x ∷ []) h ∙ sym (map-append bytes_in bodies (k ∷ []))

-- ---- numbers

pub first_gone : (bodies : List (Vec ℕ Global)) → 1 < length bodies
    → map (λ (b : Vec ℕ Global). b.items) (remove bodies 0) ≡ bodies_of (map (λ (b : Vec ℕ Global). b.items) bodies)
first_gone [] h = absurd (omega arith)
first_gone (x ∷ []) h = absurd (omega arith)
first_gone (x ∷ y ∷ ys) h = refl

pub alone_stays : (bodies : List (Vec ℕ Global)) → length bodies ≤ 1
    → map (λ (b : Vec ℕ Global). b.items) bodies ≡ bodies_of (map (λ (b : Vec ℕ Global). b.items) bodies)
alone_stays [] h = refl
alone_stays (x ∷ []) h = refl
alone_stays (x ∷ y ∷ ys) h = absurd (omega arith)

few : (objects : List (List ℕ)) → length objects ≤ number_count → length (bodies_of objects) ≤ object_limit
few [] h = omega arith
few (x ∷ []) h = omega arith
few (x ∷ y ∷ ys) h = omega (arith, h)

-- as many bodies as objects may be made, at most
pub few_bodies : (bodies : List (Vec ℕ Global)) (objects : List (List ℕ)) → map (λ (b : Vec ℕ Global). b.items) bodies ≡ bodies_of objects
    → length objects ≤ number_count → length bodies ≤ object_limit
few_bodies bodies objects e h =
    let l : length (map (λ (b : Vec ℕ Global). b.items) bodies) ≡ length bodies = length-map bodies (λ (b : Vec ℕ Global). b.items) in
    let f : length (map (λ (b : Vec ℕ Global). b.items) bodies) ≤ object_limit = rw e (few objects h) in
    omega (arith, l, f)

pub ruleset number_steps = (first_gone, alone_stays)
