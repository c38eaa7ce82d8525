-- What a service that ended well says.
use Rattle.std.proofs.Common.{◌≡◌, ◌&&◌, is_some, ℕ, Bool, true, false, List, Option, None, Some, Ok, inl, inr}
use Rattle.std.specs.Prelude.{⊤}
use Rattle.shared_objects.specs.Laws.{OneListsAreLegal, SortedEntriesRun}
use Rattle.shared_objects.specs.Legal.{Legal}
use Rattle.shared_objects.specs.One.{OneList}
use Rattle.shared_objects.specs.declared.view.Part.{Part}
use Rattle.workers.specs.Pools.{machines_of}
use Rattle.world.specs.WorldState.{WorldState}
use Rattle.ship_service.specs.Listening.{TellsClosingOf}
use Rattle.ship_service.specs.Opening.{opened_bytes}
use Rattle.ship_service.proofs.Granted.{shares_granted, unwritten_stay}
use Rattle.ship_service.proofs.Settled.{machines_replay}
use Rattle.agent.specs.ServeLeaves.{LeavesBy, ServesOver}
use Rattle.agent.specs.Theorems.{IsClosingOf, IsServiceOf, ClosingTheorem, parts_of, store_of, returns_of}
use Rattle.agent.proofs.RunOutputs.{is_run}

no : {A : Type 0} → false ≡ true → A
no e = absurd (cc)

legal_one : (returns : Bool) (opening : List (List ℕ)) (parts : List Part) (ends : List (List ℕ)) → OneListsAreLegal
    → (l : OneList returns opening parts ends) → returns ≡ true → Legal opening l.one
legal_one true opening parts ends f l r = f opening parts ends l
legal_one false opening parts ends f l r = no r

closing : (X : Type 0) (returns : Bool) (world : WorldState) (text : List ℕ) → SortedEntriesRun → OneListsAreLegal → TellsClosingOf X returns world text
    → IsClosingOf X returns world text
closing X returns world text sorts legal h =
    let s = h.1.3 in
    let parts = parts_of s.seats h.1.1 in
    let starts = machines_of world.machines in
    let machines = machines_replay X returns h.0 (opened_bytes world) starts h.1.0 h.1.1 h.1.2 s in record {
      table = h.0;
      mover = h.1.0;
      connections = h.1.1;
      state = h.1.2;
      tells = h.1.4;
      settles = s;
      list = (sorts returns (opened_bytes world) parts s.ends s.list).0;
      legal = legal_one returns (opened_bytes world) parts s.ends legal s.list;
      runs = s.list.runs;
      machines = machines;
      granted = λ c r has is. shares_granted (opened_bytes world) starts parts s.list.one c.number r (machines c r has is);
      unwritten = unwritten_stay X returns h.0 (opened_bytes world) starts h.1.0 h.1.1 h.1.2 s;
    }

served : (budget : ℕ) (far unix : Option (List ℕ)) (input : List ℕ) (before after unread : Option (List ℕ)) (done : ⊤) → SortedEntriesRun → OneListsAreLegal
    → ServesOver (store_of far) (returns_of far) budget unix input before after unread (Ok done) → IsServiceOf budget far unix input before after
served budget far unix input before after unread done sorts legal h =
    let said = h.3.2 in record {
      world = h.0;
      replies = h.2.0;
      mid = h.1;
      replied = h.2.1;
      run = is_run budget input h.2.0 h.0 h.2.2;
      name = h.3.0;
      door = h.3.1;
      text = said.0;
      said = said.2;
      closing = closing (store_of far) (returns_of far) h.0 said.0 sorts legal said.1;
    }

left : (twofold : Bool) (budget : ℕ) (far unix : Option (List ℕ)) (input : List ℕ) (before after unread : Option (List ℕ)) (done : ⊤) → SortedEntriesRun
    → OneListsAreLegal → LeavesBy twofold budget far unix input before after unread (Ok done) → IsServiceOf budget far unix input before after
left true budget far unix input before after unread done sorts legal h = absurd (let bad = h.0 in cc)
left false budget None unix input before after unread done sorts legal h = served budget None unix input before after unread done sorts legal h
left false budget (Some far) unix input before after unread done sorts legal (inl h) =
    served budget (Some far) unix input before after unread done sorts legal h.1
left false budget (Some far) unix input before after unread done sorts legal (inr h) = absurd h

pub closing_theorem : SortedEntriesRun → OneListsAreLegal → ClosingTheorem
closing_theorem sorts legal serving far unix input before after unread done h =
    left (serving.has_port && is_some unix) serving.budget far unix input before after unread done sorts legal h
