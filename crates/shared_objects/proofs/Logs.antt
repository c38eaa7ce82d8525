-- A history that is one entry longer.
use Rattle.std.proofs.Common.{◌≡◌, ℕ, zero, suc, ◌<◌, List, [], ◌∷◌, ◌++◌, length, refl, arith, ◌⊎◌, inl, inr, ⊎_elim, map, slice_index, get_or}
use Rattle.atomic_table.proofs.Lists.{at_longer, at_last, at_snoc}
use Rattle.memory.specs.Deeds.{EndsInside, given_by, left_by}
use Rattle.memory.specs.Objects.{bytes_of}
use Rattle.memory.specs.declared.deeds.Deed.{Deed}
use Rattle.memory.specs.declared.deeds.Deed.TheVariants.{Accesses, Reads, Writes}
use Rattle.memory.proofs.Lengths.{length-after, length-replaced}
use Rattle.shared_objects.specs.History.{Has, Rises, Chained, AllInside, top, fold, Answers}
use Rattle.shared_objects.specs.Kinds.{object_at}
use Rattle.shared_objects.specs.Rule.{word_of}
use Rattle.shared_objects.specs.declared.view.SharedEntry.{SharedEntry}

-- a word stands for its object
pub object_home : (n : ℕ) → object_at (word_of n) ≡ n
object_home n = omega arith

pub length-left_by : (deed : Deed) (bytes : List ℕ) → EndsInside deed (length bytes) → length (left_by deed bytes) ≡ length bytes
length-left_by (Accesses op) bytes h = length-after op bytes h
length-left_by (Reads offset count) bytes h = refl
length-left_by (Writes offset new) bytes h = length-replaced offset new bytes h.1

pub has_longer : {A : Type 0} (xs ys : List A) (x : A) → Has xs x → Has (xs ++ ys) x
has_longer xs ys x h = (h.0, at_longer xs ys h.0 x h.1)

pub has_last : {A : Type 0} (xs : List A) (x : A) → Has (xs ++ x ∷ []) x
has_last xs x = (length xs, at_last xs x (length xs) refl)

pub has_snoc : {A : Type 0} (xs : List A) (x y : A) → Has (xs ++ x ∷ []) y → Has xs y ⊎ (x ≡ y)
has_snoc xs x y h = ⊎_elim (λ e. inl (h.0, e)) (λ e. inr e) (at_snoc xs x y h.0 h.1)

pub Rises-snoc : (floor : ℕ) (es : List SharedEntry) (e : SharedEntry) → Rises floor es → top floor es < e.stamp → Rises floor (es ++ e ∷ [])
Rises-snoc floor [] e r h = (h, tt)
Rises-snoc floor (x ∷ xs) e r h = (r.0, Rises-snoc x.stamp xs e r.1 h)

pub Chained-snoc : (floor : ℕ) (es : List SharedEntry) (e : SharedEntry) → Chained floor es → e.found ≡ top floor es → top floor es < e.stamp
    → Chained floor (es ++ e ∷ [])
Chained-snoc floor [] e r f h = (f, h, tt)
Chained-snoc floor (x ∷ xs) e r f h = (r.0, r.1, Chained-snoc x.stamp xs e r.2 f h)

pub chained_rises : (floor : ℕ) (es : List SharedEntry) → Chained floor es → Rises floor es
chained_rises floor [] c = tt
chained_rises floor (x ∷ xs) c = (c.1, chained_rises x.stamp xs c.2)

pub AllInside-snoc : (count : ℕ) (es : List SharedEntry) (e : SharedEntry) → AllInside count es → EndsInside e.deed count → AllInside count (es ++ e ∷ [])
AllInside-snoc count [] e a h = (h, tt)
AllInside-snoc count (x ∷ xs) e a h = (a.0, AllInside-snoc count xs e a.1 h)

pub top-snoc : (floor : ℕ) (es : List SharedEntry) (e : SharedEntry) → top floor (es ++ e ∷ []) ≡ e.stamp
top-snoc floor [] e = refl
top-snoc floor (x ∷ xs) e = top-snoc x.stamp xs e

pub fold-snoc : (bytes : List ℕ) (es : List SharedEntry) (e : SharedEntry) → fold bytes (es ++ e ∷ []) ≡ left_by e.deed (fold bytes es)
fold-snoc bytes [] e = refl
fold-snoc bytes (x ∷ xs) e = fold-snoc (left_by x.deed bytes) xs e

pub Answers-snoc : (bytes : List ℕ) (es : List SharedEntry) (e : SharedEntry) → Answers bytes es → e.given ≡ given_by e.deed (fold bytes es)
    → Answers bytes (es ++ e ∷ [])
Answers-snoc bytes [] e a h = (h, tt)
Answers-snoc bytes (x ∷ xs) e a h = (a.0, Answers-snoc (left_by x.deed bytes) xs e a.1 h)

pub length_at : (os : List (List ℕ)) (n : ℕ) → slice_index (map length os) n ≡ length (bytes_of os n)
length_at [] n = refl
length_at (x ∷ xs) zero = refl
length_at (x ∷ xs) (suc n) = length_at xs n

pub index_is : (l : List ℕ) (n x : ℕ) → n < length l → x ≡ get_or l n x → x ≡ slice_index l n
index_is [] n x h e = absurd (omega arith)
index_is (y ∷ ys) zero x h e = e
index_is (y ∷ ys) (suc n) x h e = index_is ys n x (omega arith) e

pub map_map : {A : Type 0} (f : A → List ℕ) (xs : List A) → map (λ (a : A). length (f a)) xs ≡ map length (map f xs)
map_map f [] = refl
map_map f (x ∷ xs) = λ i. length (f x) ∷ map_map f xs i
