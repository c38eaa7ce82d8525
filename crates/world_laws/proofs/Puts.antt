-- What is put into an object.
use Rattle.std.proofs.Common.{inl, inr, ◌≡◌, ℕ, zero, suc, ◌+◌, ◌<◌, List, [], ◌∷◌, ◌++◌, length, take, drop, refl, sym, ap, ◌∙◌, subst, arith, length-take}
use Rattle.std.specs.Prelude.{◌⊎◌}
use Rattle.std.proofs.lemmas.List.{get_or-set_same, get_or-set_other}
use Rattle.std.proofs.Math.Seq.{drop-append_seam, take-append_seam}
use Rattle.memory.specs.Access.{replaced}
use Rattle.memory.specs.Objects.{bytes_of, HasRange, range_of, with_range}
use Rattle.memory.proofs.Lengths.{length-replaced}
use Rattle.object_store.specs.Stores.{StoreState, place_of}
use Rattle.placement.specs.declared.places.Place.TheVariants as place
use Rattle.world.specs.declared.replies.Reply.{Reply}
use Rattle.world.specs.declared.replies.Reply.TheVariants.{Done, Bytes, NoMemory, Outside, Away}
use Rattle.world.specs.Answers.{AnswersGet}
use Rattle.world_laws.specs.Replies.{PutsStayApart, GetsWhatWasPut}

abbrev bytes_at : ℕ → StoreState → List ℕ
bytes_at k s = bytes_of s.objects k

pub puts_stay_apart : PutsStayApart
puts_stay_apart old new n o k b Outside h u = ap (bytes_at k) h.0.1
puts_stay_apart old new n o k b (Away j) h u = ap (bytes_at k) h.1.0.2
puts_stay_apart old new n o k b Done h u = ap (bytes_at k) h.0.2 ∙ get_or-set_other old.store.objects n k _ [] u
puts_stay_apart old new n o k b _ h u = absurd h

-- a number with bytes is in the list
is_listed : (objects : List (List ℕ)) (n : ℕ) → 0 < length (bytes_of objects n) → n < length objects
is_listed [] n h = absurd (omega arith)
is_listed (b ∷ objects) zero h = omega arith
is_listed (b ∷ objects) (suc n) h = let g = is_listed objects n h in omega arith

seam : (front new rest : List ℕ) (o : ℕ) → length front ≡ o → take (length new) (drop o (front ++ (new ++ rest))) ≡ new
seam front new rest o e = rw (sym e) (rw drop-append_seam (take-append_seam new rest))

got_back : (objects : List (List ℕ)) (n o : ℕ) (bytes : List ℕ) → HasRange objects n o (length bytes)
    → range_of (with_range objects n o bytes) n o (length bytes) ≡ bytes
got_back objects n o bytes h =
    let old = bytes_of objects n in
    let same = get_or-set_same objects n (replaced o bytes old) [] (is_listed objects n h.0) in
    let front = length-take o old in
    ap (λ (b : List ℕ). take (length bytes) (drop o b)) same ∙ seam (take o old) bytes (drop (o + length bytes) old) o (omega (arith, h.1, front))

-- the range stays a range
still_there : (objects : List (List ℕ)) (n o : ℕ) (bytes : List ℕ) → HasRange objects n o (length bytes)
    → HasRange (with_range objects n o bytes) n o (length bytes)
still_there objects n o bytes h =
    let old = bytes_of objects n in
    let same = ap (λ (b : List ℕ). length b) (get_or-set_same objects n (replaced o bytes old) [] (is_listed objects n h.0)) in
    let kept = length-replaced o bytes old h.1 in
    (omega (arith, same, kept, h.0), omega (arith, same, kept, h.1))

got : (s t : StoreState) (n o : ℕ) (bytes : List ℕ) (reply : Reply) → HasRange s.objects n o (length bytes) → place_of s.places n ≡ place.Here
    → t ≡ record s { objects = with_range s.objects n o bytes } → AnswersGet t n o (length bytes) reply → (reply ≡ Bytes bytes) ⊎ (reply ≡ NoMemory)
got s t n o bytes (Bytes shown) r p e h =
    inl (ap Bytes (h.2 ∙ ap (λ (x : StoreState). range_of x.objects n o (length bytes)) e ∙ got_back s.objects n o bytes r))
got s t n o bytes NoMemory r p e h = inr refl
got s t n o bytes Outside r p e h = absurd (h (subst (λ (x : StoreState). HasRange x.objects n o (length bytes)) (sym e) (still_there s.objects n o bytes r)))
got s t n o bytes (Away k) r p e h = absurd (h.1.1 (ap (λ (x : StoreState). place_of x.places n) e ∙ p))
got s t n o bytes _ r p e h = absurd h

pub gets_what_was_put : GetsWhatWasPut
gets_what_was_put old new n o bytes reply h = got old.store h.0.store n o bytes reply h.1.0.0 h.1.0.1 h.1.0.2 h.2.1.0
