-- What is noted in a window, as the list of open scopes.
use Rattle.std.proofs.Common.{◌≡◌, true, false, Bool, ℕ, ◌<◌, ◌≢◌, List, [], ◌∷◌, ◌++◌, length, sym, refl, ap, ◌∙◌, subst, arith, cond, eq-eqb, Some, None}
use Rattle.std.specs.Prelude.{nat_eq, nat_le, ◌||◌}
use Rattle.std.proofs.lemmas.Bool.Decides.{nat_tests}
use Rattle.scopes.specs.Windows.{holds, AreDistinct, IsWindow, noted, pushed_out, without_oldest}
use Rattle.shared_objects.specs.Rule.{times}
use Rattle.shared_objects.specs.Kinds.{without}
use Rattle.shared_objects.specs.Resting.{AllBelow}
use Rattle.shared_objects.proofs.Sums.{is_here, is_else, times-snoc}

either_way : (b : Bool) → (P : Type 0) → (b ≡ true → P) → (b ≡ false → P) → P
either_way true P t f = t refl
either_way false P t f = f refl

no_both : (b : Bool) → b ≡ true → b ≡ false → ⊥
no_both b t f = let e : true ≡ false = sym t ∙ f in cc

same_test : (n x : ℕ) → nat_eq n x ≡ true → x ≡ n
same_test n x e = grind (arith, nat_tests)

other_test : (n x : ℕ) → nat_eq n x ≡ false → x ≢ n
other_test n x e q = grind (arith, nat_tests)

or_true : (a b : Bool) → a ≡ false → (a || b) ≡ true → b ≡ true
or_true true b e h = absurd (let z : true ≡ false = e in cc)
or_true false b e h = h

or_false : (a b : Bool) → (a || b) ≡ false → (a ≡ false) × (b ≡ false)
or_false true b h = absurd (let z : true ≡ false = h in cc)
or_false false b h = (refl, h)

-- what isn't held doesn't stand in the list
pub times_none : (n : ℕ) (w : List ℕ) → holds n w ≡ false → times n w ≡ 0
times_none n [] h = refl
times_none n (x ∷ xs) h = let t = or_false (nat_eq n x) (holds n xs) h in omega (arith, is_else x n (other_test n x t.0), times_none n xs t.1)

-- what is held stands once in a list of distinct numbers
pub times_once : (n : ℕ) (w : List ℕ) → AreDistinct w → holds n w ≡ true → times n w ≡ 1
times_once n [] d h = absurd (let z : false ≡ true = h in cc)
times_once n (x ∷ xs) d h = either_way (nat_eq n x) (times n (x ∷ xs) ≡ 1)
    (λ e. let is : x ≡ n = same_test n x e in omega (arith, is_here x n is, times_none n xs (subst (λ k. holds k xs ≡ false) is d.0)))
    (λ ne. omega (arith, is_else x n (other_test n x ne), times_once n xs d.1 (or_true (nat_eq n x) (holds n xs) ne h)))

rest_times : (n : ℕ) (w : List ℕ) → times n w ≡ 0 → times n (without_oldest w) ≡ 0
rest_times n [] h = h
rest_times n (x ∷ xs) h = either_way (nat_le 4 (length (x ∷ xs))) (times n (without_oldest (x ∷ xs)) ≡ 0)
    (λ e. ap (λ b. times n (cond b xs (x ∷ xs))) e ∙ omega arith)
    (λ e. ap (λ b. times n (cond b xs (x ∷ xs))) e ∙ h)

-- each number of a window stands once in it
pub noted_once : (n : ℕ) (w : List ℕ) → IsWindow w → times n (noted n w) ≡ 1
noted_once n w is = either_way (holds n w) (times n (noted n w) ≡ 1)
    (λ e. ap (λ b. times n (cond b w (without_oldest w ++ n ∷ []))) e ∙ times_once n w is.distinct e)
    (λ e. ap (λ b. times n (cond b w (without_oldest w ++ n ∷ []))) e
    ∙ omega (arith, times-snoc n n (without_oldest w), is_here n n refl, rest_times n w (times_none n w e)))

same_self : (x : ℕ) → nat_eq x x ≡ true
same_self x = grind (arith, nat_tests)

or_left : (a b : Bool) → a ≡ true → (a || b) ≡ true
or_left true b e = refl
or_left false b e = absurd (let z : false ≡ true = e in cc)

or_right : (a b : Bool) → b ≡ true → (a || b) ≡ true
or_right true b e = refl
or_right false b e = e

-- each number of the list is below this one
abbrev Each : ℕ → List ℕ → Type 0
Each count [] = Unit {0}
Each count (x ∷ xs) = (x < count) × Each count xs

each_of : (count : ℕ) (w : List ℕ) → AllBelow count w → Each count w
each_of count [] a = tt
each_of count (x ∷ xs) a = (a x (or_left (nat_eq x x) (holds x xs) (same_self x)), each_of count xs (λ k h. a k (or_right (nat_eq k x) (holds k xs) h)))

all_of : (count : ℕ) (w : List ℕ) → Each count w → AllBelow count w
all_of count [] e k h = absurd (let z : false ≡ true = h in cc)
all_of count (x ∷ xs) e k h = either_way (nat_eq k x) (k < count)
    (λ yes. subst (λ j. j < count) (same_test k x yes) e.0)
    (λ no. all_of count xs e.1 k (or_true (nat_eq k x) (holds k xs) no h))

below_snoc : (count n : ℕ) (w : List ℕ) → Each count w → n < count → Each count (w ++ n ∷ [])
below_snoc count n [] a h = (h, tt)
below_snoc count n (x ∷ xs) a h = (a.0, below_snoc count n xs a.1 h)

below_rest : (count : ℕ) (w : List ℕ) → Each count w → Each count (without_oldest w)
below_rest count [] a = tt
below_rest count (x ∷ xs) a = either_way (nat_le 4 (length (x ∷ xs))) (Each count (without_oldest (x ∷ xs)))
    (λ e. subst (λ b. Each count (cond b xs (x ∷ xs))) (sym e) a.1)
    (λ e. subst (λ b. Each count (cond b xs (x ∷ xs))) (sym e) a)

pub below_noted : (count n : ℕ) (w : List ℕ) → AllBelow count w → n < count → AllBelow count (noted n w)
below_noted count n w a h = either_way (holds n w) (AllBelow count (noted n w))
    (λ e. subst (λ b. AllBelow count (cond b w (without_oldest w ++ n ∷ []))) (sym e) a)
    (λ e. subst (λ b. AllBelow count (cond b w (without_oldest w ++ n ∷ []))) (sym e)
    (all_of count (without_oldest w ++ n ∷ []) (below_snoc count n (without_oldest w) (below_rest count w (each_of count w a)) h)))

pub below_none : (count : ℕ) → AllBelow count []
below_none count k h = absurd (let z : false ≡ true = h in cc)

-- what is taken out was below, and so is the rest
pub below_popped : (count n : ℕ) (w : List ℕ) → AllBelow count (n ∷ w) → (n < count) × AllBelow count w
below_popped count n w a = (a n (or_left (nat_eq n n) (holds n w) (same_self n)), λ k h. a k (or_right (nat_eq k n) (holds k w) h))

pub noted_held : (n : ℕ) (w : List ℕ) → holds n w ≡ true → noted n w ≡ w
noted_held n w e = ap (λ b. cond b w (without_oldest w ++ n ∷ [])) e

-- where nothing is pushed out, the number stands at the end
pub noted_more : (n : ℕ) (w : List ℕ) → holds n w ≡ false → pushed_out n w ≡ None → noted n w ≡ w ++ n ∷ []
noted_more n [] e p = ap (λ b. cond b [] (n ∷ [])) e
noted_more n (x ∷ xs) e p = either_way (nat_le 4 (length (x ∷ xs))) (noted n (x ∷ xs) ≡ (x ∷ xs) ++ n ∷ [])
    (λ full. absurd (let q : Some x ≡ None = sym (ap (λ b. cond b None (cond (nat_le 4 (length (x ∷ xs))) (Some x) None)) e
    ∙ ap (λ b. cond b (Some x) None) full) ∙ p in cc))
    (λ room. ap (λ b. cond b (x ∷ xs) (without_oldest (x ∷ xs) ++ n ∷ [])) e ∙ ap (λ b. cond b xs (x ∷ xs) ++ n ∷ []) room)

-- where one is pushed out it was the first
pub noted_full : (n k : ℕ) (w : List ℕ) → holds n w ≡ false → pushed_out n w ≡ Some k → without k (w ++ n ∷ []) ≡ noted n w
noted_full n k [] e p = absurd (let q : None ≡ Some k = sym (ap (λ b. cond b None None) e) ∙ p in cc)
noted_full n k (x ∷ xs) e p = either_way (nat_le 4 (length (x ∷ xs))) (without k ((x ∷ xs) ++ n ∷ []) ≡ noted n (x ∷ xs))
    (λ full. let q : Some x ≡ Some k = sym (ap (λ b. cond b None (cond (nat_le 4 (length (x ∷ xs))) (Some x) None)) e ∙ ap (λ b. cond b (Some x) None) full)
    ∙ p in
    let is : x ≡ k = (cc) in
    ap (λ b. cond b (xs ++ n ∷ []) (x ∷ without k (xs ++ n ∷ []))) (eq-eqb x k is)
    ∙ sym (ap (λ b. cond b (x ∷ xs) (without_oldest (x ∷ xs) ++ n ∷ [])) e ∙ ap (λ b. cond b xs (x ∷ xs) ++ n ∷ []) full))
    (λ room. absurd (let q : None ≡ Some k = sym (ap (λ b. cond b None (cond (nat_le 4 (length (x ∷ xs))) (Some x) None)) e
    ∙ ap (λ b. cond b (Some x) None) room) ∙ p in cc))

-- what is pushed out stands once among the open scopes
pub pushed_once : (n k : ℕ) (w : List ℕ) → IsWindow w → holds n w ≡ false → pushed_out n w ≡ Some k → times k (w ++ n ∷ []) ≡ 1
pushed_once n k [] is e p = absurd (let q : None ≡ Some k = sym (ap (λ b. cond b None None) e) ∙ p in cc)
pushed_once n k (x ∷ xs) is e p = either_way (nat_le 4 (length (x ∷ xs))) (times k ((x ∷ xs) ++ n ∷ []) ≡ 1)
    (λ full. let q : Some x ≡ Some k = sym (ap (λ b. cond b None (cond (nat_le 4 (length (x ∷ xs))) (Some x) None)) e ∙ ap (λ b. cond b (Some x) None) full)
    ∙ p in
    let it : x ≡ k = (cc) in
    let t = or_false (nat_eq n x) (holds n xs) e in
    let other : n ≢ k = λ z. other_test n x t.0 (it ∙ sym z) in
    let none-more : times k xs ≡ 0 = times_none k xs (subst (λ j. holds j xs ≡ false) it is.distinct.0) in
    omega (arith, is_here x k it, times-snoc k n xs, is_else n k other, none-more))
    (λ room. absurd (let q : None ≡ Some k = sym (ap (λ b. cond b None (cond (nat_le 4 (length (x ∷ xs))) (Some x) None)) e
    ∙ ap (λ b. cond b (Some x) None) room) ∙ p in cc))

pub pushed_below : (count n k : ℕ) (w : List ℕ) → AllBelow count w → holds n w ≡ false → pushed_out n w ≡ Some k → k < count
pushed_below count n k [] a e p = absurd (let q : None ≡ Some k = sym (ap (λ b. cond b None None) e) ∙ p in cc)
pushed_below count n k (x ∷ xs) a e p = either_way (nat_le 4 (length (x ∷ xs))) (k < count)
    (λ full. let q : Some x ≡ Some k = sym (ap (λ b. cond b None (cond (nat_le 4 (length (x ∷ xs))) (Some x) None)) e ∙ ap (λ b. cond b (Some x) None) full)
    ∙ p in
    let it : x ≡ k = (cc) in subst (λ j. j < count) it (a x (or_left (nat_eq x x) (holds x xs) (same_self x))))
    (λ room. absurd (let q : None ≡ Some k = sym (ap (λ b. cond b None (cond (nat_le 4 (length (x ∷ xs))) (Some x) None)) e
    ∙ ap (λ b. cond b (Some x) None) room) ∙ p in cc))

-- the first of a list stands at its place once where it stands once
pub without_first : (n : ℕ) (w : List ℕ) → without n (n ∷ w) ≡ w
without_first n w = ap (λ b. cond b w (n ∷ without n w)) (eq-eqb n n refl)

-- what is taken out stood once
pub popped_once : (n : ℕ) (w : List ℕ) → IsWindow (n ∷ w) → times n (n ∷ w) ≡ 1
popped_once n w is = omega (arith, is_here n n refl, times_none n w is.distinct.0)
