-- Words that grant objects.
use Rattle.std.proofs.Common.{◌≡◌, ◌≢◌, ℕ, ◌<◌, Bool, true, false, List, [], ◌∷◌, ◌++◌, length, drop, refl, sym, ap, ◌∙◌, subst, arith}
use Rattle.std.proofs.Common.{append_assoc, length-append}
use Rattle.machine.specs.declared.grants.Grant.{Grant}
use Rattle.machine.specs.Grants.{GrantState}
use Rattle.console.specs.Tokens.{IsNumber, IsNumberWithin}
use Rattle.console.specs.Granting.{object_number, grant_letter, IsGrant, WordsAre, RiseFrom, AreGrants}
use Rattle.console.proofs.LineTokens.{number_one}

letter_one : (a b : Bool) → grant_letter a ≡ grant_letter b → a ≡ b
letter_one true true e = refl
letter_one false false e = refl
letter_one true false e = absurd (omega (arith, e))
letter_one false true e = absurd (omega (arith, e))

-- a word grants one object
grant_one : (word : List ℕ) (g h : Grant) → IsGrant word g → IsGrant word h → g ≡ h
grant_one word g h p q =
    let x : grant_letter g.writes ∷ p.0 ≡ grant_letter h.writes ∷ q.0 = sym p.1 ∙ q.1 in
    let l : grant_letter g.writes ≡ grant_letter h.writes = cc in
    let d : p.0 ≡ q.0 = cc in
    let n = number_one q.0 g.number h.number (subst (λ t. IsNumber t g.number) d p.2.0) q.2.0 in
    let w = letter_one g.writes h.writes l in
    let first : g ≡ record { number = h.number; writes = g.writes } = ap (λ (k : ℕ). record { number = k; writes = g.writes }) n in
    first ∙ ap (λ (v : Bool). record { number = h.number; writes = v }) w

-- behind the letter is the number of the object
pub grant_digits : (word : List ℕ) (g : Grant) → IsGrant word g → IsNumberWithin object_number (drop 1 word) g.number
grant_digits word g i = subst (λ w. IsNumberWithin object_number (drop 1 w) g.number) (sym i.1) i.2

-- ---- words one after the other

-- what the first words grant is the beginning of all that is granted
words_split : (words rest : List (List ℕ)) (listed all : List Grant) → WordsAre words listed → WordsAre (words ++ rest) all
    → (more : List Grant) × (all ≡ listed ++ more) × WordsAre rest more
words_split [] rest [] all a b = (all, refl, b)
words_split [] rest (g ∷ listed) all a b = absurd a
words_split (w ∷ words) rest [] all a b = absurd a
words_split (w ∷ words) rest (g ∷ listed) [] a b = absurd b
words_split (w ∷ words) rest (g ∷ listed) (h ∷ all) a b =
    let m = words_split words rest listed all a.1 b.1 in
    (m.0, ap (λ x. x ∷ all) (grant_one w h g b.0 a.0) ∙ ap (λ l. g ∷ l) m.1, m.2)

-- one more word
words_more : (words : List (List ℕ)) (listed : List Grant) (word : List ℕ) (g : Grant) → WordsAre words listed → IsGrant word g
    → WordsAre (words ++ word ∷ []) (listed ++ g ∷ [])
words_more [] [] word g a i = (i, tt)
words_more [] (h ∷ listed) word g a i = absurd a
words_more (w ∷ words) [] word g a i = absurd a
words_more (w ∷ words) (h ∷ listed) word g a i = (a.0, words_more words listed word g a.1 i)

-- words are read in one way
words_one : (words : List (List ℕ)) (xs ys : List Grant) → WordsAre words xs → WordsAre words ys → xs ≡ ys
words_one [] [] [] a b = refl
words_one [] [] (y ∷ ys) a b = absurd b
words_one [] (x ∷ xs) ys a b = absurd a
words_one (w ∷ words) [] ys a b = absurd a
words_one (w ∷ words) (x ∷ xs) [] a b = absurd b
words_one (w ∷ words) (x ∷ xs) (y ∷ ys) a b = ap (λ z. z ∷ xs) (grant_one w x y a.0 b.0) ∙ ap (λ zs. y ∷ zs) (words_one words xs ys a.1 b.1)

-- and so is what they grant
pub grants_one : (some : Bool) (words : List (List ℕ)) (a b : GrantState) → AreGrants some words a → AreGrants some words b → a ≡ b
grants_one false words a b p q = p.1 ∙ sym q.1
grants_one true words a b p q =
    let e = words_one words p.0 q.0 p.1 q.1 in
    let f : a ≡ record { all = false; listed = q.0 } = p.4 ∙ ap (λ (l : List Grant). record { all = false; listed = l }) e in
    f ∙ sym q.4

-- ---- rising numbers

-- the last number, where the one before the first is n
abbrev pub last_of : ℕ → List Grant → ℕ
last_of n [] = n
last_of n (g ∷ grants) = last_of g.number grants

rise_after : (n : ℕ) (listed more : List Grant) → RiseFrom n (listed ++ more) → RiseFrom (last_of n listed) more
rise_after n [] more r = r
rise_after n (g ∷ listed) more r = rise_after g.number listed more r.1

rise_more : (n : ℕ) (listed : List Grant) (g : Grant) → RiseFrom n listed → last_of n listed < g.number → RiseFrom n (listed ++ g ∷ [])
rise_more n [] g r h = (h, tt)
rise_more n (x ∷ listed) g r h = (r.0, rise_more x.number listed g r.1 h)

last_more : (n : ℕ) (listed : List Grant) (g : Grant) → last_of n (listed ++ g ∷ []) ≡ g.number
last_more n [] g = refl
last_more n (x ∷ listed) g = last_more x.number listed g

-- ---- reading them

-- The first words are read, and the others are left.
pub record ReadSoFar (all left : List (List ℕ)) (grants : GrantState) (last : ℕ) : Type 0 where
  pub words : List (List ℕ)
  pub split : all ≡ words ++ left
  pub granted : WordsAre words grants.listed
  pub rise : RiseFrom 0 grants.listed
  pub last_is : last ≡ last_of 0 grants.listed
  pub some : grants.all ≡ false

module _ (all left : List (List ℕ)) (g : GrantState) (last : ℕ) (s : ReadSoFar all left g last) where
  -- one more is
  pub so_far_more : (rest : List (List ℕ)) (word : List ℕ) (x : Grant) (new : GrantState) → left ≡ word ∷ rest → IsGrant word x → last < x.number
      → new ≡ record g { listed = g.listed ++ x ∷ [] } → ReadSoFar all rest new x.number
  so_far_more rest word x new e i h n =
      let more : ReadSoFar all rest (record g { listed = g.listed ++ x ∷ [] }) x.number = record {
        words = s.words ++ word ∷ [];
        split = s.split ∙ ap (λ l. s.words ++ l) e ∙ sym (append_assoc s.words (word ∷ []) rest);
        granted = words_more s.words g.listed word x s.granted i;
        rise = rise_more 0 g.listed x s.rise (subst (λ k. k < x.number) s.last_is h);
        last_is = sym (last_more 0 g.listed x);
        some = s.some;
      } in
      subst (λ (y : GrantState). ReadSoFar all rest y x.number) (sym n) more

  -- what is granted goes on with what the words grant that are left
  goes_on : (other : GrantState) (a : AreGrants true all other) → (more : List Grant) × (a.0 ≡ g.listed ++ more) × WordsAre left more × RiseFrom last more
  goes_on other a =
      let m = words_split s.words left g.listed a.0 s.granted (subst (λ w. WordsAre w a.0) s.split a.1) in
      let r = rise_after 0 g.listed m.0 (subst (λ l. RiseFrom 0 l) m.1 a.2) in
      (m.0, m.1, m.2, subst (λ k. RiseFrom k m.0) (sym s.last_is) r)

first_wrong : (word : List ℕ) (rest : List (List ℕ)) (last : ℕ) (more : List Grant) → ((x : Grant) → IsGrant word x → last < x.number → ⊥)
    → WordsAre (word ∷ rest) more → RiseFrom last more → ⊥
first_wrong word rest last [] none w r = w
first_wrong word rest last (x ∷ more) none w r = none x w.0 r.0

some_more : (left : List (List ℕ)) (more : List Grant) → left ≢ [] → WordsAre left more → 0 < length more
some_more [] more none w = absurd (none refl)
some_more (word ∷ left) [] none w = absurd w
some_more (word ∷ left) (x ∷ more) none w = omega arith

module _ (all left : List (List ℕ)) (g : GrantState) (last : ℕ) (s : ReadSoFar all left g last) where
  -- the next word grants no object of a greater number
  pub so_far_wrong : (rest : List (List ℕ)) (word : List ℕ) → left ≡ word ∷ rest → ((x : Grant) → IsGrant word x → last < x.number → ⊥)
      → (other : GrantState) → AreGrants true all other → ⊥
  so_far_wrong rest word e none other a =
      let m = goes_on all left g last s other a in
      first_wrong word rest last m.0 none (subst (λ l. WordsAre l m.0) e m.2) m.3

  -- there is a word more than there may be
  pub so_far_full : left ≢ [] → length g.listed ≡ 16 → (other : GrantState) → AreGrants true all other → ⊥
  so_far_full none h other a =
      let m = goes_on all left g last s other a in
      let k = some_more left m.0 none m.2 in
      let e = ap length m.1 in
      let n = length-append g.listed m.0 in
      absurd (omega (arith, k, e, n, h, a.3))
