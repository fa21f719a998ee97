-- Lists of calls, the roster of document 01 ("Runs and the roster"), pending by history, and what demand 3 says of the meaning after every
-- list on an opened record. Assumes nothing.
use Rattle.std.specs.Prelude.{ℕ, ◌+◌, ◌≤◌, ◌≡◌, ◌↔◌, Bool, false, List, [], ◌∷◌, map, T}
use Rattle.graph.specs.Graph.{Lots, IsGraph}
use Rattle.protocol.specs.Message.{Msg, Name}
use Rattle.protocol.specs.Numbering.{some_pending}
use Rattle.protocol.specs.State.{Seats, Meaning, seated, members, nobody, opened}
use Rattle.protocol.specs.Tied.{Tied}
use Rattle.protocol.specs.Page.{pending_after}
use Rattle.protocol.specs.Calls.{Call, deliver, Outcome, unless_refused, InRange, refusal, seats_after, components_after, sends, takes, call}

-- a call of a list with its refusal number, 0 if it was accepted
pub record Logged : Type 0 where
  pub call : Call
  pub refused : ℕ

-- the same with what was there before the call
pub record Past (A : Type 0) : Type 0 where
  pub logged : Logged
  pub before : A

-- what is there now, and the calls that led to it, latest first
pub record Standing (A : Type 0) : Type 0 where
  pub now : A
  pub history : List (Past A)

-- the log of a history
unfoldable pub log_of : {A : Type 0} → List (Past A) → List Logged
log_of [] = []
log_of (e ∷ es) = e.logged ∷ log_of es

-- a list of calls, each made of what the one before left
module _ {A : Type 0} (make : A → Call → Outcome A) where
  unfoldable pub step : Standing A → Call → Standing A
  step s c = let o = make s.now c in
      record { now = o.after; history = record { logged = record { call = c; refused = o.refused }; before = s.now } ∷ s.history }

  unfoldable pub steps : Standing A → List Call → Standing A
  steps s [] = s
  steps s (c ∷ cs) = steps (step s c) cs

  unfoldable pub steps_from : A → List Call → Standing A
  steps_from a cs = steps (record { now = a; history = [] }) cs

  -- how many calls of a list are accepted
  unfoldable pub accepted : A → List Call → ℕ
  accepted a [] = 0
  accepted a (c ∷ cs) = let o = make a c in unless_refused o.refused 0 1 + accepted o.after cs

  -- every call of a list is accepted
  unfoldable pub AllAccepted : A → List Call → Type 0
  AllAccepted a [] = Unit {0}
  AllAccepted a (c ∷ cs) = let o = make a c in (o.refused ≡ 0) × AllAccepted o.after cs

-- document 01's roster, kept from the log: what the seats hold, and the component of each lot
pub record Roster : Type 0 where
  pub seats : Seats
  pub component : ℕ → ℕ

-- the members of a roster; their graph is made within each component
abbrev pub members_of : Roster → Lots
members_of o = members o.component o.seats

module _ (N W : ℕ) where
  -- a list of calls on a record that open has just written
  unfoldable pub meaning_run : List Call → Standing Meaning
  meaning_run cs = steps_from (call N W) opened cs

  -- the roster after an accepted call
  unfoldable pub roster_after : Roster → Call → Roster
  roster_after o c = record { seats = seats_after N W o.seats c; component = components_after N W o.seats o.component c }

  -- the roster, kept from the log alone
  unfoldable pub roster_of : List Logged → Roster
  roster_of [] = record { seats = nobody; component = λ x. x }
  roster_of (l ∷ ls) = unless_refused l.refused (roster_of ls) (roster_after (roster_of ls) l.call)

  -- pending from the sending by an accepted call until an accepted delivery takes it away
  unfoldable pub pending_of : List (Past Meaning) → Msg → Bool
  pending_of [] m = false
  pending_of (e ∷ es) m = unless_refused e.logged.refused (pending_of es m)
      (pending_after (sends N W e.before e.logged.call) (takes N W e.logged.call) (pending_of es) m)

  -- each refusal number is the table's, from the roster and the pending messages before the call
  abbrev pub RefusedByTable : List (Past Meaning) → Type 0
  RefusedByTable [] = Unit {0}
  RefusedByTable (e ∷ es) = (e.logged.refused ≡ refusal N W (roster_of (log_of es)).seats (pending_of es) e.logged.call) × RefusedByTable es

  -- nothing is pending
  abbrev pub NothingPending : List (Past Meaning) → Type 0
  NothingPending es = (m : Msg) → pending_of es m ≡ false

  -- demand 3 on the meaning, after a list: its six parts; the bound is a number fixed by the meaning alone
  pub record MeaningDemand3 (bound : Meaning → ℕ) (s : Standing Meaning) : Type 0 where
    pub refusals : RefusedByTable s.history
    pub lots : s.now.seats ≡ (roster_of (log_of s.history)).seats
    pub messages : (m : Msg) → s.now.pending m ≡ pending_of s.history m
    pub none_left : (some_pending N W s.now.pending ≡ false) ↔ NothingPending s.history
    pub components : let o = roster_of (log_of s.history) in
        (x y : ℕ) → T (seated o.seats x) → T (seated o.seats y) → (o.component x ≡ o.component y) ↔ Tied s.now x y
    pub graph : NothingPending s.history → IsGraph N W (members_of (roster_of (log_of s.history))) s.now.link
    pub ends : (ns : List Name) → accepted (call N W) s.now (map deliver ns) ≤ bound s.now

  -- the arguments of every call of a list fit their types
  abbrev pub AllInRange : List Call → Type 0
  AllInRange [] = Unit {0}
  AllInRange (c ∷ cs) = InRange N W c × AllInRange cs
