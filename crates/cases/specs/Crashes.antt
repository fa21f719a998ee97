-- Examples of a crash (document 02, #106): for each number one that meets it, beside it one that just does not, and two at once in their order; lists
-- with crashes, which leave one component or two; and what the check says of components. Assumes nothing.
use Rattle.std.specs.Prelude.{ℕ, ◌≡◌, true, false, List, [], ◌∷◌, ◌++◌, T}
use Rattle.std.proofs.Math.Option.{none, some}
use Rattle.graph.specs.Side.{left, right}
use Rattle.graph.specs.Vector.{width}
use Rattle.protocol.specs.Message.{Msg, meet, name, among}
use Rattle.protocol.specs.Numbering.{exists}
use Rattle.protocol.specs.State.{open_phase}
use Rattle.protocol.specs.Calls.{Call, join, leave, deliver, crash, refusal}
use Rattle.record.specs.Layout.{seats}
use Rattle.record.specs.Reading.{read_lot}
use Rattle.check_links.specs.Check.{check_in}
use Rattle.find.specs.Find.{find_refusal, find_in}
use Rattle.runs.specs.Run.{bytes_run}
use Rattle.cases.specs.Lists.{q_calls, Settles, Lot100, LinksOf}
use Rattle.cases.specs.Cases.{found, lot}
use Rattle.cases.specs.Small.{LinkOf, linked, small_bytes, three}
use Rattle.cases.specs.Refusals.{refused}
use Rattle.cases.specs.Reservations.{open_waiting, clearing_waiting}

-- lots 100 staying, 200 leaving, 300 staying sit on seats 0, 1, 2, and seat 4 is reserved; bit s of a set is seat s
pub record CrashExamples : Type 0 where
  -- 7: in phase clearing, the set 0 too; in phase open
  pub phase : (refused clearing_waiting (crash 1) ≡ 7) × (refused clearing_waiting (crash 0) ≡ 7) × (refused open_waiting (crash 1) ≡ 0)
  -- 8: a free seat, the last one, a reserved one, a free one beside a lot; all lots, the leaving one too, and none
  pub empty : (refused open_waiting (crash 8) ≡ 8)
      × (refused open_waiting (crash 9223372036854775808) ≡ 8)
      × (refused open_waiting (crash 16) ≡ 8)
      × (refused open_waiting (crash 9) ≡ 8)
      × (refused open_waiting (crash 7) ≡ 0)
      × (refused open_waiting (crash 0) ≡ 0)
  -- 11: while a message is pending, the set 0 too
  pub pending : (m : Msg) → T (exists seats width m)
      → (refusal seats width open_waiting (among (m ∷ [])) (crash 1) ≡ 11) × (refusal seats width open_waiting (among (m ∷ [])) (crash 0) ≡ 11)
  -- 7 before 8, 8 before 11
  pub order : (refused clearing_waiting (crash 8) ≡ 7) × ((m : Msg) → refusal seats width open_waiting (among (m ∷ [])) (crash 8) ≡ 8)

-- Q, lots 100, 200, 300 with vectors 0, 128, 64, in which lot 200 dies; then all is delivered
abbrev pub q_cut : List Call
q_cut = q_calls ++ crash 2 ∷ []

abbrev pub q_mended : List Call
q_mended =
    q_cut ++ deliver (name 1 0 2 0 0) ∷ deliver (name 1 2 0 0 0) ∷ deliver (name 1 0 2 0 0) ∷ deliver (name 2 0 2 0 0)
    ∷ deliver (name 1 0 2 1 0) ∷ deliver (name 2 2 0 0 0) ∷ deliver (name 1 2 0 1 0) ∷ []

-- lots 100, 200, 300 with vectors 0, 64, 128, settled: 100 and 200 share a bit, neither shares one with 300
unfoldable pub t_calls : List Call
t_calls =
    join 0 100 0 255 ∷ join 1 200 64 0 ∷ join 2 300 128 0
    ∷ deliver (name 1 0 1 0 0) ∷ deliver (name 1 0 2 0 0) ∷ deliver (name 1 1 0 0 0) ∷ deliver (name 1 0 1 0 0)
    ∷ deliver (name 1 1 2 0 0) ∷ deliver (name 1 2 1 0 0) ∷ deliver (name 1 1 2 0 0) ∷ deliver (name 2 0 1 0 0)
    ∷ deliver (name 1 0 1 1 0) ∷ deliver (name 1 1 0 1 0) ∷ deliver (name 1 0 1 1 0) ∷ deliver (name 2 0 1 1 0)
    ∷ deliver (name 2 1 0 0 0) ∷ deliver (name 1 1 0 1 0) ∷ deliver (name 2 1 0 1 0) ∷ deliver (name 2 1 2 0 0)
    ∷ deliver (name 2 0 2 0 0) ∷ deliver (name 2 2 1 0 0) ∷ deliver (name 3 0 1 0 0) ∷ []

-- lot 200 dies: 100 and 300 are apart
abbrev pub t_cut : List Call
t_cut = t_calls ++ crash 2 ∷ []

-- on any bytes l that open accepts
pub record Crashes (l : List ℕ) : Type 0 where
  -- lot 200 is gone, and lot 100 has no link at level 0 and the one to 300 at level 1, whose ends are to meet; each of them sends both MEETs
  pub cut : Lot100 l q_cut 255 (meet 0 2 0 ∷ meet 2 0 0 ∷ meet 2 0 0 ∷ meet 0 2 0 ∷ [])
  pub freed : read_lot (bytes_run l q_cut).now 1 ≡ lot 8 0 0 0
  pub above : LinksOf (bytes_run l q_cut).now 0 1 255 2
  -- drained: linked at level 0, too
  pub mends : Settles l q_mended 2
  pub linked_again : LinksOf (bytes_run l q_mended).now 0 0 255 2
  -- the set 0 changes nothing and sends nothing
  pub nobody : Settles l (q_calls ++ crash 0 ∷ []) 3
  -- two components: nothing is sent, the check says yes
  pub two : Settles l t_cut 2
  pub checked : check_in (bytes_run l t_cut).now ≡ record { refused = 0; yes = true }
  -- a scan does not see the other one: 350 from lot 100 is lot 100's, from lot 300 that one's; 250 from lot 300 nobody's
  pub scans : (find_in (bytes_run l t_cut).now 0 350 ≡ found (some 0) 0)
      × (find_in (bytes_run l t_cut).now 2 350 ≡ found (some 2) 0)
      × (find_in (bytes_run l t_cut).now 2 250 ≡ found none 0)
  -- a leaver dies; all die
  pub leaver : Settles l (t_calls ++ leave 1 ∷ crash 2 ∷ []) 2
  pub all : Settles l (t_calls ++ crash 7 ∷ []) 0

-- lots 100 and 300, which share a bit, linked at level 0 alone, and at level 1, too; lot 200 has no links
abbrev pub half_linked : List LinkOf
half_linked = linked 0 0 right 2 ∷ linked 2 0 left 0 ∷ []

abbrev pub whole_linked : List LinkOf
whole_linked = linked 0 1 right 2 ∷ linked 2 1 left 0 ∷ half_linked

-- on small records, field by field
pub record Components : Type 0 where
  -- no links at all: each lot is a component of its own, and a skip graph
  pub alone : (check_in (small_bytes open_phase three [] [])).yes ≡ true
  -- two components, and a link is missing inside one; with it
  pub missing : (check_in (small_bytes open_phase three half_linked [])).yes ≡ false
  pub whole : (check_in (small_bytes open_phase three whole_linked [])).yes ≡ true
  -- a scan waits there, and does not wait here
  pub waits : (find_refusal (small_bytes open_phase three half_linked []) 0 ≡ 13) × (find_refusal (small_bytes open_phase three whole_linked []) 0 ≡ 0)
  -- lot 200 has just joined at lot 100: the MEET that is pending is no link
  pub joining : (check_in (small_bytes open_phase three [] (meet 0 1 0 ∷ []))).yes ≡ true
