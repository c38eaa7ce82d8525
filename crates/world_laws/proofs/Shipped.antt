-- Whatever was done, the programs are those that were shipped.
use Rattle.std.proofs.Common.{◌≡◌, ℕ, List, [], ◌∷◌, ◌++◌, map, refl, sym, ap, ◌∙◌, append_assoc, append-nil}
use Rattle.std.proofs.lemmas.List.{map-append}
use Rattle.object_store.specs.Stores.{store_memory}
use Rattle.debugger.specs.declared.debuggee.Debuggee.{Debuggee}
use Rattle.world.specs.declared.replies.Reply.{Reply}
use Rattle.world.specs.declared.replies.Reply.TheVariants.{Shipped}
use Rattle.world.specs.Run.{Runs}
use Rattle.world.specs.declared.events.Event.{Event}
use Rattle.world.specs.declared.events.Event.TheVariants.{Ship}
use Rattle.world.specs.WorldState.{WorldState, world_start}
use Rattle.world.specs.Answers.{Answers}
use Rattle.world_laws.specs.Replies.{shipped_codes, code_of, RunsWhatWasShipped}
use Rattle.world_laws.proofs.KeptCode.{step_keeps_code}
use Rattle.world_laws.proofs.Machines.{with_map}
use Rattle.world_laws.proofs.Sorts.{Marks, Sort, Stays, Stores, Ships, Tunes, Pauses, Walks, sort_of}

abbrev codes : List Debuggee → List (List ℕ)
codes ms = map code_of ms

-- ---- one command

abbrev shipped : Marks → List (List ℕ)
shipped x = x.codes

-- it adds these codes
abbrev Adds : WorldState → List (List ℕ) → WorldState → Type 0
Adds old more new = codes new.machines ≡ codes old.machines ++ more

unchanged : (old new : WorldState) (more : List (List ℕ)) → more ≡ [] → codes new.machines ≡ codes old.machines → Adds old more new
unchanged old new more n e = e ∙ sym (append-nil (codes old.machines)) ∙ ap (λ (l : List (List ℕ)). codes old.machines ++ l) (sym n)

one_more : (old new : WorldState) (c : Event) (r : Reply) → Sort old c r new → Adds old (shipped_codes (c ∷ []) (r ∷ [])) new
one_more old new c r (Stays q n e) = unchanged old new _ n (ap (λ (w : WorldState). codes w.machines) e)
one_more old new c r (Stores k s e) = unchanged old new _ (ap shipped k) (ap (λ (w : WorldState). codes w.machines) e)
one_more old new c r (Ships d k q n a e) =
    ap codes a ∙ map-append code_of old.machines (d ∷ []) ∙ ap (λ (l : List (List ℕ)). codes old.machines ++ l) (sym (ap shipped k))
one_more old new c r (Tunes m k q s e) = unchanged old new _ (ap shipped k) (ap codes s.changed ∙ with_map code_of old.machines m s.debuggee _ s.found refl)
one_more old new c r (Pauses m k q s e) = unchanged old new _ (ap shipped k) (ap codes s.changed ∙ with_map code_of old.machines m s.debuggee _ s.found refl)
one_more old new c r (Walks m way k q h) = unchanged old new _ (ap shipped k)
    (ap codes h.changed ∙ with_map code_of old.machines m h.debuggee _ h.found
    (step_keeps_code (store_memory m) h.debuggee.machine h.machine old.store new.store h.answer h.step))

-- ---- a run

first_then : (c : Event) (cs : List Event) (r : Reply) (rs : List Reply)
    → shipped_codes (c ∷ []) (r ∷ []) ++ shipped_codes cs rs ≡ shipped_codes (c ∷ cs) (r ∷ rs)
first_then (Ship start code) cs (Shipped m) rs = refl
first_then (Ship start code) cs _ rs = refl
first_then _ cs r rs = refl

shipped_from : (old new : WorldState) (cs : List Event) (rs : List Reply) → Runs Answers old cs rs new → Adds old (shipped_codes cs rs) new
shipped_from old new [] [] h = unchanged old new [] refl (ap (λ (w : WorldState). codes w.machines) h)
shipped_from old new (c ∷ cs) (r ∷ rs) h =
    shipped_from h.0 new cs rs h.2 ∙ ap (λ (l : List (List ℕ)). l ++ shipped_codes cs rs) (one_more old h.0 c r (sort_of old h.0 c r h.1))
    ∙ append_assoc (codes old.machines) (shipped_codes (c ∷ []) (r ∷ [])) (shipped_codes cs rs)
    ∙ ap (λ (l : List (List ℕ)). codes old.machines ++ l) (first_then c cs r rs)
shipped_from old new [] (r ∷ rs) h = absurd h
shipped_from old new (c ∷ cs) [] h = absurd h

pub runs_what_was_shipped : RunsWhatWasShipped
runs_what_was_shipped b f cs rs new h = shipped_from (world_start b f) new cs rs h
