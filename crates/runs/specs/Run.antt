-- Lists of calls and bundles on the bytes of a record that open has just written, by the definitions that the contracts of the calls cite, and what
-- demand 3 says of the readings after every list. The roster is kept from the log alone, pending messages from the history; table,
-- members and graph are the protocol's and the graph's. `EveryList` is demand 3 whole. Assumes nothing.
use Rattle.std.specs.Prelude.{ℕ, ◌≤◌, ◌<◌, ◌≡◌, ◌↔◌, Bool, not, cond, ◌&&◌, List, [], ◌∷◌, T, eqb}
use Rattle.base.specs.Loops.{one_if, count}
use Rattle.graph.specs.Side.{Side, side_number}
use Rattle.graph.specs.Vector.{width}
use Rattle.graph.specs.Graph.{graph}
use Rattle.protocol.specs.Message.{Name, named}
use Rattle.protocol.specs.State.{Seats, Meaning, taken, seated, stays, is_pending, member}
use Rattle.protocol.specs.Refusals.{empty_seat}
use Rattle.protocol.specs.Calls.{Call, deliver}
use Rattle.protocol.specs.Bundle.{Item, spread}
use Rattle.protocol.specs.Run.{Past, Standing, log_of, steps_from, accepted, Roster, members_of, roster_of, pending_of, RefusedByTable, NothingPending}
use Rattle.record.specs.Layout.{seats, levels}
use Rattle.record.specs.Meaning.{meaning, phase_byte, state_byte, link_byte}
use Rattle.record.specs.Reading.{open_refusal, open_bytes, LotAnswer, read_lot, read_link, read_message, read_counts}
use Rattle.record.specs.Call.{called}
use Rattle.record.specs.Bundle.{bundle_in}
use Rattle.runs.specs.Typed.{AllTyped}
use Rattle.runs.specs.Tied.{TiedIn}

-- open on the bytes l, then the calls
unfoldable pub bytes_run : List ℕ → List Call → Standing (List ℕ)
bytes_run l cs = steps_from called (open_bytes l) cs

-- open on the bytes l, then a list of calls and bundles: the run of the list in which each bundle stands for its deliveries
unfoldable pub list_run : List ℕ → List (Item Call) → Standing (List ℕ)
list_run l is = bytes_run l (spread called bundle_in (λ c. c) (open_bytes l) is)

-- the history with the meaning of the bytes before each call: what it sends is what the rules send there
unfoldable pub meant : List (Past (List ℕ)) → List (Past Meaning)
meant [] = []
meant (e ∷ es) = record { logged = e.logged; before = meaning e.before } ∷ meant es

-- the roster after a history
abbrev pub roster : List (Past (List ℕ)) → Roster
roster es = roster_of seats width (log_of (meant es))

-- the lots among which a scan from the lot on seat x seeks its holder: those of the roster that stay, of x's component
abbrev pub sought_in : Roster → (x z : ℕ) → Bool
sought_in o x z = stays o.seats z && eqb (o.component x) (o.component z)

-- a lot of the roster sits on seat x
abbrev pub Sits : Roster → ℕ → Type 0
Sits o x = T (seated o.seats x)

-- what reading a seat answers of the seats of a roster: its lot or its reservation, or 8
unfoldable pub lot_of : Seats → ℕ → LotAnswer
lot_of r x = cond (not (taken r x)) (record { refused = empty_seat; state = 0; number = 0; vector = 0 })
    (record { refused = 0; state = state_byte (r.state x); number = r.number x; vector = r.vector x })

-- demand 3 after a list, with a bound for the bytes of a record
pub record Demand3 (bound : List ℕ → ℕ) (s : Standing (List ℕ)) : Type 0 where
  -- each refusal number is the table's, from the roster and the pending messages before the call
  pub refusals : RefusedByTable seats width (meant s.history)
  -- reading gives the roster's lots and reservations, 8 at every other seat, the count of the seated lots, and the phase
  pub lots : (x : ℕ) → x < seats → read_lot s.now x ≡ lot_of (roster s.history).seats x
  pub readable : (read_counts s.now).refused ≡ 0
  pub phase : (read_counts s.now).phase ≡ phase_byte (roster s.history).seats.phase
  pub seated : (read_counts s.now).lots ≡ count seats (seated (roster s.history).seats)
  -- a message reads as pending exactly if it is, and the count reads 0 exactly if none is
  pub messages : (n : Name) → read_message s.now n
      ≡ record { refused = 0; pending = one_if (is_pending (pending_of seats width (meant s.history)) (named n)) }
  pub none_left : ((read_counts s.now).pending ≡ 0) ↔ NothingPending seats width (meant s.history)
  -- two lots are in one component of the roster exactly if links and pending MEETs together join them
  pub components : (x y : ℕ) → Sits (roster s.history) x → Sits (roster s.history) y
      → ((roster s.history).component x ≡ (roster s.history).component y) ↔ TiedIn s.now x y
  -- with none pending, each link of each member reads as in the graph of the members, made within each component of the roster
  pub links : NothingPending seats width (meant s.history) → (x k : ℕ) (d : Side) → T (member (roster s.history).seats x) → k < levels
      → read_link s.now x k (side_number d) ≡ record { refused = 0; seat = link_byte (graph seats width (members_of (roster s.history)) x k d) }
  -- no list of deliveries and bundles from here has more accepted deliveries than the bound
  pub ends : (ds : List (Item Name)) → accepted called s.now (spread called bundle_in deliver s.now ds) ≤ bound s.now

-- DEMAND 3: there is a number for the bytes of a record, the same whatever list made them, and with it demand 3 holds after every list of
-- calls and bundles on a record that open has just written over any bytes that it accepts. The arguments are any that the types of the code
-- can hold.
pub record EveryList : Type 0 where
  pub bound : List ℕ → ℕ
  pub after : (l : List ℕ) → open_refusal l ≡ 0 → (is : List (Item Call)) → AllTyped is → Demand3 bound (list_run l is)
