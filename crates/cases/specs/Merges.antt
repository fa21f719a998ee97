-- Examples of a merge (document 02, #107): for each number one that meets it, beside it one that just does not, and two at once in their order; lists in
-- which two components become one, and a merge inside one. Assumes nothing.
use Rattle.std.specs.Prelude.{ℕ, ◌≡◌, true, List, [], ◌∷◌, ◌++◌}
use Rattle.std.proofs.Math.Option.{some}
use Rattle.graph.specs.Vector.{width}
use Rattle.protocol.specs.Message.{Msg, meet, name, among}
use Rattle.protocol.specs.Rules.{staying}
use Rattle.protocol.specs.State.{open_phase, Seats}
use Rattle.protocol.specs.Calls.{Call, leave, deliver, crash, merge, refusal}
use Rattle.record.specs.Layout.{seats}
use Rattle.record.specs.Call.{called}
use Rattle.check_links.specs.Check.{check_in}
use Rattle.find.specs.Find.{find_in}
use Rattle.runs.specs.Run.{bytes_run}
use Rattle.cases.specs.Lists.{q_calls, Settles, Lot100, LinksOf}
use Rattle.cases.specs.Cases.{found}
use Rattle.cases.specs.Small.{holds, seats_of}
use Rattle.cases.specs.Refusals.{refused}
use Rattle.cases.specs.Reservations.{open_waiting, clearing_waiting}
use Rattle.cases.specs.Crashes.{t_cut}

-- lots on the first and on the last seat
abbrev pub ends : Seats
ends = seats_of open_phase (holds 0 staying 100 0 ∷ holds 63 staying 200 0 ∷ [])

-- lots 100 staying, 200 leaving, 300 staying sit on seats 0, 1, 2, and seat 4 is reserved
pub record MergeExamples : Type 0 where
  -- 3: seat 64 as the first or the second, and 255; 63
  pub seat : (refused ends (merge 64 0) ≡ 3)
      × (refused ends (merge 0 64) ≡ 3)
      × (refused ends (merge 0 255) ≡ 3)
      × (refused ends (merge 63 0) ≡ 0)
      × (refused ends (merge 0 63) ≡ 0)
  -- 7: in phase clearing; in phase open
  pub phase : (refused clearing_waiting (merge 0 2) ≡ 7) × (refused open_waiting (merge 0 2) ≡ 0)
  -- 8: the first or the second is free, or reserved; the first or the second leaves
  pub empty : (refused open_waiting (merge 3 0) ≡ 8)
      × (refused open_waiting (merge 0 3) ≡ 8)
      × (refused open_waiting (merge 4 0) ≡ 8)
      × (refused open_waiting (merge 0 4) ≡ 8)
      × (refused open_waiting (merge 1 0) ≡ 0)
      × (refused open_waiting (merge 0 1) ≡ 0)
  -- 15: the same lot, staying or leaving; another
  pub same : (refused open_waiting (merge 0 0) ≡ 15) × (refused open_waiting (merge 1 1) ≡ 15) × (refused open_waiting (merge 2 0) ≡ 0)
  -- messages that are pending do not matter
  pub pending : (m : Msg) → (refusal seats width open_waiting (among (m ∷ [])) (merge 0 2) ≡ 0)
      × (refusal seats width open_waiting (among (m ∷ [])) (merge 0 0) ≡ 15)
  -- 3 before 7, 7 before 8 and before 15, 3 and 8 before 15
  pub order : (refused clearing_waiting (merge 64 0) ≡ 3)
      × (refused clearing_waiting (merge 3 0) ≡ 7)
      × (refused clearing_waiting (merge 0 0) ≡ 7)
      × (refused open_waiting (merge 64 64) ≡ 3)
      × (refused open_waiting (merge 3 3) ≡ 8)
      × (refused open_waiting (merge 4 4) ≡ 8)

-- lots 100 and 300 are apart (specs/Crashes.antt), and 100 is to meet 300; then all is delivered
abbrev pub t_told : List Call
t_told = t_cut ++ merge 0 2 ∷ []

abbrev pub t_whole : List Call
t_whole =
    t_told ++ deliver (name 1 0 2 0 0) ∷ deliver (name 1 2 0 0 0) ∷ deliver (name 1 0 2 0 0) ∷ deliver (name 2 0 2 0 0) ∷ deliver (name 2 2 0 0 0) ∷ []

-- Q, and 100 is told of 300: it passes the MEET to 200, which has the link
abbrev pub q_told : List Call
q_told = q_calls ++ merge 0 2 ∷ deliver (name 1 0 2 0 0) ∷ deliver (name 1 1 2 0 0) ∷ []

-- on any bytes l that open accepts
pub record Merges (l : List ℕ) : Type 0 where
  -- the first gets MEET about the second, and no link changes; the other way round the second gets it
  pub told : Lot100 l t_told 255 (meet 0 2 0 ∷ [])
  pub turned : Lot100 l (t_cut ++ merge 2 0 ∷ []) 255 (meet 2 0 0 ∷ [])
  -- the same twice, while it is pending; and a leaving lot
  pub twice : Lot100 l (t_told ++ merge 0 2 ∷ []) 255 (meet 0 2 0 ∷ meet 0 2 0 ∷ [])
  pub leaver : Lot100 l (t_cut ++ leave 2 ∷ merge 2 0 ∷ []) 255 (meet 2 0 0 ∷ [])
  -- until it is delivered a crash is refused with 11
  pub waits : called (bytes_run l t_told).now (crash 1) ≡ record { refused = 11; after = (bytes_run l t_told).now }
  -- drained: one list, the check says yes, and a scan from lot 100 sees lot 300
  pub whole : Settles l t_whole 2
  pub linked : LinksOf (bytes_run l t_whole).now 0 0 255 2 × LinksOf (bytes_run l t_whole).now 2 0 0 255
  pub checked : check_in (bytes_run l t_whole).now ≡ record { refused = 0; yes = true }
  pub scan : find_in (bytes_run l t_whole).now 0 350 ≡ found (some 2) 1
  -- and then another crash
  pub again : Settles l (t_whole ++ crash 4 ∷ []) 1
  -- inside one component: delivered, lot 100 has its links as before
  pub inside : Settles l q_told 3
  pub inside_links : LinksOf (bytes_run l q_told).now 0 0 255 1 × LinksOf (bytes_run l q_told).now 0 1 255 2
