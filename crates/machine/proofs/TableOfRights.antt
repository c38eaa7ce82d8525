-- The table of rights holds what grants say.
use Rattle.std.proofs.Common.{◌≡◌, ℕ, zero, suc, ◌<◌, ◌≤◌, nat_eq, nat_le, Bool, true, false, not, if◌then◌else◌, ◌||◌, ◌&&◌, List, [], ◌∷◌, ◌++◌, length}
use Rattle.std.proofs.Common.{get_or, set, refl, ap, sym, ◌∙◌, append-nil, arith}
use Rattle.std.specs.List.{list_any}
use Rattle.std.proofs.lemmas.Bool.Decides.{nat_tests}
use Rattle.std.proofs.lemmas.List.{get_or-replicate, get_or-set_same, get_or-set_other, length-replicate}
use Rattle.std.proofs.lemmas.List.Folds.{list_any-append}
use Rattle.memory.specs.Objects.{object_limit}
use Rattle.machine.specs.declared.grants.Grant.{Grant}
use Rattle.machine.specs.declared.rights.Right.{Right}
use Rattle.machine.specs.declared.rights.Right.TheVariants.{Nothing, Reads, Writes}
use Rattle.machine.specs.Grants.{GrantState, is_listed, is_object_number}
use Rattle.machine.specs.KeptGrants.{grants_in}
use Rattle.machine.specs.Rights.{suffices, joined, full_of, IsTableOf, HasMore}

-- ---- the first tables

full_right : (right default : Right) (n : ℕ) → n ≤ object_limit → get_or (full_of right) n default ≡ right
unfolding full_of
full_right right default n h = get_or-replicate 1025 n right default (omega (arith, h))

pub full_length : (right : Right) → length (full_of right) ≡ 1025
unfolding full_of
full_length right = length-replicate 1025 right

or_true : (b : Bool) → true ≡ (b || true)
or_true true = refl
or_true false = refl

-- where all is granted, all may be written
pub all_table : (g : GrantState) (table : List Right) → g.all ≡ true → table ≡ full_of Writes → IsTableOf g table
all_table g table a t n h writes = rw (t, full_right Writes Nothing n h, a) (or_true (not (is_object_number n)))

-- where nothing is granted, number 0 alone needs no grant
pub no_table : IsTableOf (record { all = false; listed = [] }) (set (full_of Nothing) 0 Writes)
no_table zero h writes = rw (get_or-set_same (full_of Nothing) 0 Writes Nothing (omega (arith, full_length Nothing))) refl
no_table (suc n) h writes =
    let first : nat_le 1 (suc n) ≡ true = grind (arith, nat_tests) in
    let last : nat_le (suc n) object_limit ≡ true = grind (arith, nat_tests) in
    rw (get_or-set_other (full_of Nothing) 0 (suc n) Writes Nothing (omega arith), full_right Nothing Nothing (suc n) h, first, last) refl

-- ---- one grant more

by_any : (listed other any : Bool) → (listed || (other || (false || any))) ≡ (other || (false || (any || (listed || false))))
by_any true true any = refl
by_any true false true = refl
by_any true false false = refl
by_any false true any = refl
by_any false false true = refl
by_any false false false = refl

pub more_table : (gs : List Grant) (g : Grant) (old new : List Right) → IsTableOf (record { all = false; listed = gs }) old → HasMore old g new
    → IsTableOf (record { all = false; listed = gs ++ g ∷ [] }) new
more_table gs g old new t m n h writes =
    m n h writes
    ∙ ap (λ b. is_listed writes n g || b) (t n h writes)
    ∙ by_any (is_listed writes n g) (not (is_object_number n)) (list_any (is_listed writes n) gs)
    ∙ ap (λ b. not (is_object_number n) || (false || b)) (sym (list_any-append (is_listed writes n) gs (g ∷ [])))

-- a right that is joined with a grant of its object
pub joined_suffices : (right : Right) (given writes : Bool) → suffices (joined right given) writes ≡ ((true && (given || not writes)) || suffices right writes)
joined_suffices right true writes = refl
joined_suffices Nothing false true = refl
joined_suffices Nothing false false = refl
joined_suffices Reads false true = refl
joined_suffices Reads false false = refl
joined_suffices Writes false true = refl
joined_suffices Writes false false = refl

joined_at : (same : Bool) (old : List Right) (g : Grant) (n : ℕ) (writes : Bool) → nat_eq g.number n ≡ same → length old ≡ 1025 → g.number < 1025
    → suffices (get_or (set old g.number (joined (get_or old g.number Nothing) g.writes)) n Nothing) writes ≡ ((same && (g.writes || not writes))
    || suffices (get_or old n Nothing) writes)
joined_at true old g n writes e long l =
    let number : n ≡ g.number = grind (arith, nat_tests) in
    rw (number, get_or-set_same old g.number (joined (get_or old g.number Nothing) g.writes) Nothing (omega (arith, long, l)))
    (joined_suffices (get_or old g.number Nothing) g.writes writes)
joined_at false old g n writes e long l =
    rw (get_or-set_other old g.number n (joined (get_or old g.number Nothing) g.writes) Nothing (grind (arith, nat_tests))) refl

-- the table where one right is joined with a grant
pub joined_more : (old : List Right) (g : Grant) → length old ≡ 1025 → g.number < 1025
    → HasMore old g (set old g.number (joined (get_or old g.number Nothing) g.writes))
joined_more old g long l n h writes = joined_at (nat_eq g.number n) old g n writes refl long l

-- a grant of another number than an object's adds nothing
pub beyond_more : (old : List Right) (g : Grant) → 1025 ≤ g.number → HasMore old g old
beyond_more old g l n h writes =
    let other : nat_eq g.number n ≡ false = grind (arith, nat_tests) in
    rw other refl

-- ---- one kept grant more

joins : (empty : Bool) (g : Grant) (gs hs tail : List Grant) → gs ≡ hs ++ tail → (if empty then gs else (g ∷ gs)) ≡ (if empty then hs else (g ∷ hs)) ++ tail
joins true g gs hs tail e = e
joins false g gs hs tail e = ap (λ (l : List Grant). g ∷ l) e

grants_append : (kept : List Grant) (one : Grant) → grants_in (kept ++ one ∷ []) ≡ grants_in kept ++ grants_in (one ∷ [])
grants_append [] one = refl
grants_append (first ∷ kept) one = joins (nat_eq first.number 0) first (grants_in (kept ++ one ∷ [])) (grants_in kept)
    (grants_in (one ∷ [])) (grants_append kept one)

-- number 0 keeps no grant
no_more : (kept : List Grant) (one : Grant) (old new : List Right) → one.number ≡ 0 → IsTableOf (record { all = false; listed = grants_in kept }) old
    → HasMore old one new → IsTableOf (record { all = false; listed = grants_in kept }) new
no_more kept one old new e t m zero h writes =
    m zero h writes ∙ ap (λ b. is_listed writes zero one || b) (t zero h writes) ∙ sym (or_true (is_listed writes zero one))
no_more kept one old new e t m (suc n) h writes =
    let other : nat_eq 0 (suc n) ≡ false = grind (arith, nat_tests) in
    let none : is_listed writes (suc n) one ≡ false = rw (e, other) refl in
    m (suc n) h writes ∙ rw none (t (suc n) h writes)

one_more : (empty : Bool) (kept : List Grant) (one : Grant) → nat_eq one.number 0 ≡ empty
    → grants_in (kept ++ one ∷ []) ≡ grants_in kept ++ (if empty then [] else (one ∷ []))
one_more empty kept one e = grants_append kept one ∙ ap (λ b. grants_in kept ++ (if b then [] else (one ∷ []))) e

by_number : (empty : Bool) (kept : List Grant) (one : Grant) (old new : List Right) → nat_eq one.number 0 ≡ empty
    → IsTableOf (record { all = false; listed = grants_in kept }) old → HasMore old one new
    → IsTableOf (record { all = false; listed = grants_in kept ++ (if empty then [] else (one ∷ [])) }) new
by_number true kept one old new e t m = rw (append-nil (grants_in kept)) (no_more kept one old new (grind (arith, nat_tests)) t m)
by_number false kept one old new e t m = more_table (grants_in kept) one old new t m

-- the table of those that are kept, and of one more
pub kept_table : (kept : List Grant) (one : Grant) (old new : List Right) → IsTableOf (record { all = false; listed = grants_in kept }) old
    → HasMore old one new → IsTableOf (record { all = false; listed = grants_in (kept ++ one ∷ []) }) new
kept_table kept one old new t m = rw (one_more (nat_eq one.number 0) kept one refl) (by_number (nat_eq one.number 0) kept one old new refl t m)

-- the table of the grants one by one, where not all are granted
pub listed_table : (g : GrantState) (kept : List Grant) (table : List Right) → g.all ≡ false → grants_in kept ≡ g.listed
    → IsTableOf (record { all = false; listed = grants_in kept }) table → IsTableOf g table
listed_table g kept table a e t n h writes = rw (a, ← e) (t n h writes)
