-- What is read of one object of a list, and what a change at one leaves.
use Rattle.std.proofs.Common.{false, None, ◌≡◌, ℕ, ◌<◌, ◌≤◌, zero, suc, List, [], ◌∷◌, refl, length, map, set, get_or, sym, ap, ◌∙◌, arith}
use Rattle.std.proofs.lemmas.List.{get_or-map, map-set, length-map}
use Rattle.std.proofs.Math.ListN.{get_or-eq_default}
use Rattle.std.proofs.Math.Seq.{map-set_same}
use Rattle.placement.specs.declared.places.Place.TheVariants as place
use Rattle.memory.specs.Objects.{bytes_of}
use Rattle.object_store.specs.Bodies.{Kept, IsCounted, bytes_in, place_in, scopes_in, sent_in}
use Rattle.object_store.specs.Stores.{place_of, sent_of}

-- no object
abbrev pub no_body : Kept
no_body = record { bytes = []; place = place.Here; scopes = 0; parcel = None; clean = false }

-- what is kept at number n
abbrev pub body_at : List Kept → ℕ → Kept
body_at bodies n = get_or bodies n no_body

-- what callers see at a number is that of what is kept there
at_part : {Y : Type 0} (f : Kept → Y) (bodies : List Kept) (n : ℕ) → get_or (map f bodies) n (f no_body) ≡ f (body_at bodies n)
at_part f [] n = refl
at_part f (b ∷ bodies) zero = refl
at_part f (b ∷ bodies) (suc n) = at_part f bodies n

pub at_bytes : (bodies : List Kept) (n : ℕ) → bytes_of (map bytes_in bodies) n ≡ (body_at bodies n).bytes
at_bytes bodies n = at_part bytes_in bodies n

pub at_place : (bodies : List Kept) (n : ℕ) → place_of (map place_in bodies) n ≡ (body_at bodies n).place
at_place bodies n = at_part place_in bodies n

pub at_scopes : (bodies : List Kept) (n : ℕ) → get_or (map scopes_in bodies) n 0 ≡ (body_at bodies n).scopes
at_scopes bodies n = at_part scopes_in bodies n

pub at_sent : (bodies : List Kept) (n : ℕ) → sent_of (map sent_in bodies) n ≡ sent_in (body_at bodies n)
at_sent bodies n = at_part sent_in bodies n

pub bytes_at : (bodies : List Kept) (i : ℕ) (d : Kept) → i < length bodies → (get_or bodies i d).bytes ≡ get_or (map bytes_in bodies) i []
bytes_at bodies i d h = sym (get_or-map bytes_in bodies i d [] h)

pub no_bytes_at : (bodies : List Kept) (i : ℕ) → length bodies ≤ i → get_or (map bytes_in bodies) i [] ≡ []
no_bytes_at bodies i h = get_or-eq_default (map bytes_in bodies) [] (let l = length-map bodies bytes_in in omega arith)

pub place_at : (bodies : List Kept) (i : ℕ) (d : Kept) → i < length bodies → (get_or bodies i d).place ≡ get_or (map place_in bodies) i place.Here
place_at bodies i d h = sym (get_or-map place_in bodies i d place.Here h)

-- what is read at a number is what callers see there
pub record IsRead (bodies : List Kept) (n : ℕ) (k : Kept) : Type 0 where
  pub bytes : k.bytes ≡ bytes_of (map bytes_in bodies) n
  pub place : k.place ≡ place_of (map place_in bodies) n

pub read_at : {bodies : List Kept} {k : Kept} (n : ℕ) → n < length bodies → k ≡ get_or bodies n k → IsRead bodies n k
read_at {bodies} {k} n h is =
    record { bytes = ap bytes_in is ∙ bytes_at bodies n k h; place = ap place_in is ∙ place_at bodies n k h }

pub scopes_at : (bodies : List Kept) (i : ℕ) (d : Kept) → i < length bodies → (get_or bodies i d).scopes ≡ get_or (map scopes_in bodies) i 0
scopes_at bodies i d h = sym (get_or-map scopes_in bodies i d 0 h)

-- held by another number of windows
pub counted_at : (bodies : List Kept) (i : ℕ) (d b : Kept) (f : ℕ → ℕ) → i < length bodies
    → b ≡ record (get_or bodies i d) { scopes = f (get_or bodies i d).scopes }
    → IsCounted bodies (set (map scopes_in bodies) i (f (get_or (map scopes_in bodies) i 0))) (set bodies i b)
counted_at bodies i d b f h e = record {
  counts = map-set scopes_in bodies i b ∙ ap (set (map scopes_in bodies) i) (ap scopes_in e ∙ ap f (scopes_at bodies i d h));
  bytes = map-set_same bytes_in bodies i b d (ap bytes_in e);
  places = map-set_same place_in bodies i b d (ap place_in e);
  sent = map-set_same sent_in bodies i b d (ap sent_in e);
}

pub ruleset at_steps = (bytes_at, no_bytes_at, place_at)
