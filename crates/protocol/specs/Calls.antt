-- The calls of a list (document 01, "Runs and the roster"), each by its page in pages/: the refusal of a call, and what an accepted one
-- leaves. Refusals 1 and 2 are the record's, 12 is the reading's. Assumes nothing.
use Rattle.std.specs.Prelude.{ℕ, zero, suc, Bool, List}
use Rattle.std.proofs.Math.Option.{Option}
use Rattle.graph.specs.Graph.{Links}
use Rattle.protocol.specs.Message.{Msg, Name}
use Rattle.protocol.specs.State.{Seats, Meaning}
use Rattle.protocol.specs.Refusals.{Row, first}
use Rattle.protocol.specs.Page.{Page, pending_after}
use Rattle.protocol.specs.pages.Join.{join_page}
use Rattle.protocol.specs.pages.Reserve.{reserve_page}
use Rattle.protocol.specs.pages.Confirm.{confirm_page}
use Rattle.protocol.specs.pages.GiveBack.{give_back_page}
use Rattle.protocol.specs.pages.Leave.{leave_page}
use Rattle.protocol.specs.pages.Deliver.{deliver_page}
use Rattle.protocol.specs.pages.Turn.{turn_page}
use Rattle.protocol.specs.pages.Crash.{crash_page}
use Rattle.protocol.specs.pages.Merge.{merge_page}

pub data Call : Type 0 where
  join : (seat number vector contact : ℕ) → Call
  reserve : (seat number vector : ℕ) → Call
  confirm : (seat contact : ℕ) → Call
  give_back : (seat : ℕ) → Call
  leave : (seat : ℕ) → Call
  deliver : Name → Call
  turn : Call
  crash : (set : ℕ) → Call
  merge : (first second : ℕ) → Call

-- the refusal number of a call, 0 if it is accepted, and what is there after it
pub record Outcome (A : Type 0) : Type 0 where
  pub refused : ℕ
  pub after : A

-- what a call with that refusal number leaves: the old if it is refused, else the new
unfoldable pub unless_refused : {A : Type 0} → (refused : ℕ) → A → A → A
unless_refused zero old new = new
unless_refused (suc n) old new = old

module _ (N W : ℕ) where
  -- the page of a call
  abbrev pub page_of : Call → Page
  page_of (join s n v c) = join_page N W s n v c
  page_of (reserve s n v) = reserve_page N W s n v
  page_of (confirm s c) = confirm_page N W s c
  page_of (give_back s) = give_back_page N W s
  page_of (leave s) = leave_page N W s
  page_of (deliver n) = deliver_page N W n
  page_of turn = turn_page N W
  page_of (crash set) = crash_page N W set
  page_of (merge a b) = merge_page N W a b

  -- the arguments fit their types
  abbrev pub InRange : Call → Type 0
  InRange c = (page_of c).fits

  unfoldable pub rows : Seats → (Msg → Bool) → Call → List Row
  rows r p c = (page_of c).rows r p

  -- the refusal number of a call, 0 if it is accepted
  unfoldable pub refusal : Seats → (Msg → Bool) → Call → ℕ
  refusal r p c = first (rows r p c)

  unfoldable pub seats_after : Seats → Call → Seats
  seats_after r c = (page_of c).seats r

  -- for the roster: the component of each lot
  unfoldable pub components_after : Seats → (ℕ → ℕ) → Call → ℕ → ℕ
  components_after r k c = (page_of c).component r k

  unfoldable pub links_after : Meaning → Call → Links
  links_after M c = (page_of c).links M

  -- the messages that an accepted call sends
  unfoldable pub sends : Meaning → Call → List Msg
  sends M c = (page_of c).sends M

  -- the message that an accepted call takes away
  unfoldable pub takes : Call → Option Msg
  takes c = (page_of c).takes

  unfoldable pub accept : Meaning → Call → Meaning
  accept M c = record { seats = seats_after M.seats c; link = links_after M c; pending = pending_after (sends M c) (takes c) M.pending }

  unfoldable pub call : Meaning → Call → Outcome Meaning
  call M c = let n = refusal M.seats M.pending c in record { refused = n; after = unless_refused n M (accept M c) }
