-- Forgets that are sent ahead of a request.
use Rattle.std.proofs.Common.{◌≡◌, ◌<◌, ◌≤◌, ◌+◌, ℕ, suc, List, [], ◌∷◌, ◌++◌, length, take, drop, get_or, ap, ◌∙◌, sym, subst, refl, append_assoc, append-nil, arith}
use Rattle.std.proofs.Common.{inl, inr, None, Option, Ok, Err}
use Rattle.std.proofs.Math.Seq.{take-suc, drop-cons}
use Rattle.std.proofs.lemmas.List.{take-append-drop}
use Rattle.far_store.specs.Stores.{capped}
use Rattle.far_store.specs.declared.fault.StoreFault.{StoreFault}
use Rattle.far_stream.specs.Client.{Client, broken_by}
use Rattle.far_stream.specs.Deferring.{Deferring, Defers, ForgetsHear, GetsAfter, PutsAfter, SendsForget, SendsGet, SendsPut, deferred_limit, forget_frames}
use Rattle.far_stream.specs.Frames.{head, forget_kind}
use Rattle.far_stream.specs.Hearing.{ForgetHears}
use Rattle.far_stream.specs.Sent.{Sent}

-- one more forget
forgets_join : (ids : List ℕ) (id : ℕ) → forget_frames (ids ++ id ∷ []) ≡ forget_frames ids ++ head forget_kind id 0
forgets_join [] id = append-nil (head forget_kind id 0)
forgets_join (first ∷ ids) id =
    ap (λ l. head forget_kind first 0 ++ l) (forgets_join ids id) ∙ sym (append_assoc (head forget_kind first 0) (forget_frames ids) (head forget_kind id 0))

one_more : (ids : List ℕ) (i : ℕ) → i < length ids → take (i + 1) ids ≡ take i ids ++ get_or ids i 0 ∷ []
one_more ids i within = let n : i + 1 ≡ suc i = omega arith in ap (λ (j : ℕ). take j ids) n ∙ take-suc ids i 0 within

pub frames_next : (ids : List ℕ) (i : ℕ) → i < length ids
    → forget_frames (take (i + 1) ids) ≡ forget_frames (take i ids) ++ head forget_kind (get_or ids i 0) 0
frames_next ids i within = ap forget_frames (one_more ids i within) ∙ forgets_join (take i ids) (get_or ids i 0)

-- one more answer
hears_join : (ids : List ℕ) (id : ℕ) (before mid after : Option (List ℕ)) → ForgetsHear ids before mid (Ok tt) → ForgetHears id mid after (Ok tt)
    → ForgetsHear (ids ++ id ∷ []) before after (Ok tt)
hears_join [] id before mid after none one = inl (after, subst (λ b. ForgetHears id b after (Ok tt)) none one, refl)
hears_join (first ∷ ids) id before mid after (inl some) one = inl (some.0, some.1, hears_join ids id some.0 mid after some.2 one)
hears_join (first ∷ ids) id before mid after (inr some) one = absurd (let e : Ok tt ≡ Err some.0 = some.1 in cc)

pub hears_next : (ids : List ℕ) (i : ℕ) (before mid after : Option (List ℕ)) → i < length ids
    → ForgetsHear (take i ids) before mid (Ok tt) → ForgetHears (get_or ids i 0) mid after (Ok tt) → ForgetsHear (take (i + 1) ids) before after (Ok tt)
hears_next ids i before mid after within some one =
    subst (λ l. ForgetsHear l before after (Ok tt)) (sym (one_more ids i within)) (hears_join (take i ids) (get_or ids i 0) before mid after some one)

-- an answer that is a fault is the last
hears_cut : (ids rest : List ℕ) (id : ℕ) (before mid after : Option (List ℕ)) (fault : StoreFault) → ForgetsHear ids before mid (Ok tt)
    → ForgetHears id mid after (Err fault) → ForgetsHear (ids ++ id ∷ rest) before after (Err fault)
hears_cut [] rest id before mid after fault none one = inr (fault, refl, subst (λ b. ForgetHears id b after (Err fault)) none one)
hears_cut (first ∷ ids) rest id before mid after fault (inl some) one = inl (some.0, some.1, hears_cut ids rest id some.0 mid after fault some.2 one)
hears_cut (first ∷ ids) rest id before mid after fault (inr some) one = absurd (let e : Ok tt ≡ Err some.0 = some.1 in cc)

pub hears_last : (ids : List ℕ) (i : ℕ) (before mid after : Option (List ℕ)) (fault : StoreFault) → i < length ids
    → ForgetsHear (take i ids) before mid (Ok tt) → ForgetHears (get_or ids i 0) mid after (Err fault) → ForgetsHear ids before after (Err fault)
hears_last ids i before mid after fault within some one =
    let whole : take i ids ++ get_or ids i 0 ∷ drop (suc i) ids ≡ ids = ap (λ l. take i ids ++ l) (sym (drop-cons ids i 0 within)) ∙ take-append-drop i ids in
    subst (λ l. ForgetsHear l before after (Err fault)) whole (hears_cut (take i ids) (drop (suc i) ids) (get_or ids i 0) before mid after fault some one)

-- what a call left of a client, and then its fault was counted
moved : {S : Type 0} (F : S → ℕ → Type 0) (m n : Client S) → n.stream ≡ m.stream → n.puts ≡ m.puts → F m.stream m.puts → F n.stream n.puts
moved F m n s p h = subst (λ t. F t n.puts) (sym s) (subst (λ q. F m.stream q) (sym p) h)

pub get_noted : {S : Type 0} (remaining contents : S → Option (List ℕ)) (old : Deferring S) (sent : Sent) (fault : StoreFault) (m n : Client S) (d : List ℕ)
    → (n.broken ≡ broken_by old.client.broken fault) × (n.faults ≡ capped (old.client.faults + 1)) → n.stream ≡ m.stream → n.puts ≡ m.puts
    → SendsGet remaining contents old sent (Err fault) (record { client = m; deferred = d })
    → GetsAfter remaining contents old sent (Err fault) (record { client = n; deferred = d })
get_noted remaining contents old sent fault m n d counts s p h = (
  counts,
  moved (λ t q. SendsGet remaining contents old sent (Err fault)
      (record { client = record { stream = t; puts = q; broken = n.broken; faults = n.faults }; deferred = d })) m n s p h,
)

pub put_noted : {S : Type 0} (remaining contents : S → Option (List ℕ)) (old : Deferring S) (bytes : List ℕ) (fault : StoreFault) (m n : Client S) (d : List ℕ)
    → (n.broken ≡ broken_by old.client.broken fault) × (n.faults ≡ capped (old.client.faults + 1)) → n.stream ≡ m.stream → n.puts ≡ m.puts
    → SendsPut remaining contents old bytes (Err fault) (record { client = m; deferred = d })
    → PutsAfter remaining contents old bytes (Err fault) (record { client = n; deferred = d })
put_noted remaining contents old bytes fault m n d counts s p h = (
  counts,
  moved (λ t q. SendsPut remaining contents old bytes (Err fault)
      (record { client = record { stream = t; puts = q; broken = n.broken; faults = n.faults }; deferred = d })) m n s p h,
)

pub forget_noted : {S : Type 0} (remaining contents : S → Option (List ℕ)) (old : Deferring S) (id : ℕ) (fault : StoreFault) (m n : Client S) (d : List ℕ)
    → (old.client.broken ≡ None → deferred_limit ≤ length old.deferred)
    → (n.broken ≡ broken_by old.client.broken fault) × (n.faults ≡ capped (old.client.faults + 1)) → n.stream ≡ m.stream → n.puts ≡ m.puts
    → SendsForget remaining contents old id (Err fault) (record { client = m; deferred = d })
    → Defers remaining contents old id (record { client = n; deferred = d })
forget_noted remaining contents old id fault m n d full counts s p h =
    let sends = moved (λ t q. SendsForget remaining contents old id (Err fault)
    (record { client = record { stream = t; puts = q; broken = n.broken; faults = n.faults }; deferred = d })) m n s p h in
    inr (full, (Err fault, counts, sends))

pub forget_sent : {S : Type 0} (remaining contents : S → Option (List ℕ)) (old new : Deferring S) (id : ℕ)
    → (old.client.broken ≡ None → deferred_limit ≤ length old.deferred)
    → (new.client.broken ≡ old.client.broken) × (new.client.faults ≡ old.client.faults)
    → SendsForget remaining contents old id (Ok tt) new → Defers remaining contents old id new
forget_sent remaining contents old new id full counts h = inr (full, (Ok tt, counts, h))
