-- Examples of reservations (document 02, #105): for each number of each new call one that meets it, beside it one that just does not, and two at once
-- in their order; what the other calls meet at a reserved seat; and lists with reservations. Assumes nothing.
use Rattle.std.specs.Prelude.{ℕ, ◌≡◌, List, [], ◌∷◌, ◌++◌}
use Rattle.std.proofs.Math.Option.{some}
use Rattle.protocol.specs.Message.{meet}
use Rattle.protocol.specs.Rules.{reserved}
use Rattle.protocol.specs.State.{open_phase, clearing, Seats}
use Rattle.protocol.specs.Calls.{Call, join, reserve, confirm, give_back, leave, turn}
use Rattle.record.specs.Reading.{read_lot}
use Rattle.record.specs.Call.{call_refusal}
use Rattle.find.specs.Find.{find_refusal, find_in}
use Rattle.runs.specs.Run.{bytes_run}
use Rattle.cases.specs.Lists.{q_calls, Settles, Lot100}
use Rattle.cases.specs.Cases.{found, lot}
use Rattle.cases.specs.Small.{Held, holds, seats_of, small_bytes, three}
use Rattle.cases.specs.Refusals.{refused}

-- number 400 is reserved on seat 4, beside the lots 100 staying, 200 leaving, 300 staying on seats 0, 1, 2; in phase clearing; and alone
abbrev pub waiting : Held
waiting = holds 4 reserved 400 32

abbrev pub open_waiting : Seats
open_waiting = seats_of open_phase (waiting ∷ three)

abbrev pub clearing_waiting : Seats
clearing_waiting = seats_of clearing (waiting ∷ three)

abbrev pub only_waiting : Seats
only_waiting = seats_of open_phase (waiting ∷ [])

pub record ReserveExamples : Type 0 where
  -- 3: seat 64; 63
  pub seat : (refused open_waiting (reserve 64 500 0) ≡ 3) × (refused open_waiting (reserve 63 500 0) ≡ 0)
  -- 7: in phase clearing; in phase open
  pub phase : (refused clearing_waiting (reserve 3 500 0) ≡ 7) × (refused open_waiting (reserve 3 500 0) ≡ 0)
  -- 4: the seat of a staying lot, of a leaving one, and a reserved one; a free seat
  pub taken : (refused open_waiting (reserve 0 500 0) ≡ 4)
      × (refused open_waiting (reserve 1 500 0) ≡ 4)
      × (refused open_waiting (reserve 4 500 0) ≡ 4)
      × (refused open_waiting (reserve 5 500 0) ≡ 0)
  -- 5: the number of a staying lot, of a leaving one, and a reserved one; the next number, and 0, which free seats read
  pub number : (refused open_waiting (reserve 3 100 0) ≡ 5)
      × (refused open_waiting (reserve 3 200 0) ≡ 5)
      × (refused open_waiting (reserve 3 400 0) ≡ 5)
      × (refused open_waiting (reserve 3 401 0) ≡ 0)
      × (refused open_waiting (reserve 3 0 0) ≡ 0)
  -- 3 before 7, 7 before 4, 4 before 5
  pub order : (refused clearing_waiting (reserve 64 500 0) ≡ 3)
      × (refused clearing_waiting (reserve 4 500 0) ≡ 7)
      × (refused open_waiting (reserve 4 100 0) ≡ 4)

pub record ConfirmExamples : Type 0 where
  -- 3: seat 64; contact 64, and 254; seat 4 with contact 0
  pub seat : (refused open_waiting (confirm 64 0) ≡ 3)
      × (refused open_waiting (confirm 4 64) ≡ 3)
      × (refused open_waiting (confirm 4 254) ≡ 3)
      × (refused open_waiting (confirm 4 0) ≡ 0)
  -- 7: in phase clearing
  pub phase : refused clearing_waiting (confirm 4 0) ≡ 7
  -- 14: the seat of a staying lot, of a leaving one, and a free one
  pub not-reserved : (refused open_waiting (confirm 0 2) ≡ 14) × (refused open_waiting (confirm 1 0) ≡ 14) × (refused open_waiting (confirm 3 0) ≡ 14)
  -- 6: a free seat as contact, its own, and 255 while lots are seated; a leaving lot
  pub contact : (refused open_waiting (confirm 4 3) ≡ 6)
      × (refused open_waiting (confirm 4 4) ≡ 6)
      × (refused open_waiting (confirm 4 255) ≡ 6)
      × (refused open_waiting (confirm 4 1) ≡ 0)
  -- in a record with reservations alone: a seat, its own; 255
  pub first : (refused only_waiting (confirm 4 0) ≡ 6) × (refused only_waiting (confirm 4 4) ≡ 6) × (refused only_waiting (confirm 4 255) ≡ 0)
  -- 3 before 7, 7 before 14, 14 before 6
  pub order : (refused clearing_waiting (confirm 64 0) ≡ 3)
      × (refused clearing_waiting (confirm 3 0) ≡ 7)
      × (refused open_waiting (confirm 3 4) ≡ 14)

pub record GiveBackExamples : Type 0 where
  -- 3: seat 64. 14: the seat of a staying lot, of a leaving one, and a free one; the reserved one, in either phase
  pub seat : refused open_waiting (give_back 64) ≡ 3
  pub not-reserved : (refused open_waiting (give_back 0) ≡ 14) × (refused open_waiting (give_back 1) ≡ 14) × (refused open_waiting (give_back 3) ≡ 14)
  pub given : (refused open_waiting (give_back 4) ≡ 0) × (refused clearing_waiting (give_back 4) ≡ 0) × (refused clearing_waiting (give_back 0) ≡ 14)

-- what a join and a leave meet
pub record OtherExamples : Type 0 where
  -- the seat is taken, the number in use, and no contact sits there; beside each what is accepted
  pub join_4 : (refused open_waiting (join 4 500 0 0) ≡ 4) × (refused open_waiting (join 3 500 0 0) ≡ 0)
  pub join_5 : (refused open_waiting (join 3 400 0 0) ≡ 5) × (refused open_waiting (join 3 401 0 0) ≡ 0)
  pub join_6 : (refused open_waiting (join 3 500 0 4) ≡ 6) × (refused open_waiting (join 3 500 0 255) ≡ 6)
  -- a record with reservations alone needs contact 255
  pub join_first : (refused only_waiting (join 3 500 0 255) ≡ 0)
      × (refused only_waiting (join 3 500 0 4) ≡ 6)
      × (refused only_waiting (join 3 500 0 0) ≡ 6)
  -- nothing leaves there
  pub leave_8 : (refused open_waiting (leave 4) ≡ 8) × (refused open_waiting (leave 0) ≡ 0)

-- the calls on the bytes of these records are refused as on their seats
pub record WaitingBytes : Type 0 where
  pub opens : (c : Call) → call_refusal (small_bytes open_phase (waiting ∷ three) [] []) c ≡ refused open_waiting c
  pub clears : (c : Call) → call_refusal (small_bytes clearing (waiting ∷ three) [] []) c ≡ refused clearing_waiting c
  pub alone : (c : Call) → call_refusal (small_bytes open_phase (waiting ∷ []) [] []) c ≡ refused only_waiting c

-- Q, in which number 400 is reserved
abbrev pub q_waiting : List Call
q_waiting = q_calls ++ reserve 4 400 32 ∷ []

-- a lot and a reservation, and the lot leaves
abbrev pub leaver_waiting : List Call
leaver_waiting = join 0 100 0 255 ∷ reserve 4 400 32 ∷ leave 0 ∷ turn ∷ []

-- on any bytes l that open accepts; lots 100, 200 and 300 sit on seats 0, 1 and 2
pub record Reservations (l : List ℕ) : Type 0 where
  -- it is not counted, nothing is sent, and it reads with its state, number and vector
  pub settles : Settles l q_waiting 3
  pub reads : read_lot (bytes_run l q_waiting).now 4 ≡ lot 0 3 400 32
  -- it is not found, and no scan starts there; a scan of its number ends at lot 300
  pub scans : (find_in (bytes_run l q_waiting).now 0 450 ≡ found (some 2) 1) × (find_refusal (bytes_run l q_waiting).now 4 ≡ 8)
  -- confirmed, it is as joined: its contact has MEET about it, and no more is pending
  pub confirmed : Lot100 l (q_waiting ++ confirm 4 0 ∷ []) 1 (meet 0 4 0 ∷ [])
  pub joined : Lot100 l (q_calls ++ join 4 400 32 0 ∷ []) 1 (meet 0 4 0 ∷ [])
  -- the first lot: nothing is sent
  pub first : Settles l (reserve 4 400 32 ∷ confirm 4 255 ∷ []) 1
  -- turns leave it alone
  pub turned : Settles l (leaver_waiting ++ turn ∷ []) 0
  pub turned_reads : read_lot (bytes_run l (leaver_waiting ++ turn ∷ [])).now 4 ≡ lot 0 3 400 32
  -- given back while clearing
  pub given : Settles l (leaver_waiting ++ give_back 4 ∷ turn ∷ []) 0
  pub given_reads : read_lot (bytes_run l (leaver_waiting ++ give_back 4 ∷ turn ∷ [])).now 4 ≡ lot 8 0 0 0
