-- Document 01's proved cases (a) to (l), with document 02's scan in (k), one table: 64 seats, width 8, on the bytes, over the definitions that
-- the contracts of the public calls cite; the lists of calls are those of Lists.antt. Assumes nothing.
use Rattle.std.specs.Prelude.{ℕ, ◌≡◌, List, [], ◌∷◌, ◌++◌}
use Rattle.std.proofs.Math.Option.{Option, none, some}
use Rattle.graph.specs.Vector.{width, shared}
use Rattle.protocol.specs.Message.{meet, probe, name}
use Rattle.protocol.specs.State.{opened}
use Rattle.protocol.specs.Calls.{join, leave, deliver, Outcome}
use Rattle.record.specs.Meaning.{bytes_of}
use Rattle.record.specs.Reading.{LotAnswer, read_lot}
use Rattle.record.specs.Call.{called}
use Rattle.find.specs.Find.{FindAnswer, find_in}
use Rattle.runs.specs.Run.{bytes_run}
use Rattle.cases.specs.Lists.{q_calls, i_calls, j_calls, k_calls, l_calls, LinksOf, Settles, Lot100}

-- what find answers
abbrev pub found : Option ℕ → (hops : ℕ) → FindAnswer
found o h = record { refused = 0; holder = o; hops = h }

-- refused, and the bytes as before
abbrev pub refusing : ℕ → List ℕ → Outcome (List ℕ)
refusing n b = record { refused = n; after = b }

-- what reading a lot answers
abbrev pub lot : (refused state number vector : ℕ) → LotAnswer
lot r s n b = record { refused = r; state = s; number = n; vector = b }

-- on any bytes l that open accepts; lots 100, 200 and 300 sit on seats 0, 1 and 2
pub record Cases (l : List ℕ) : Type 0 where
  -- (a) vectors 0 and 128 share 0, 0 and 64 share 1, 64 and 64 share 8
  pub a : (shared width 0 128 ≡ 0) × (shared width 0 64 ≡ 1) × (shared width 64 64 ≡ 8)
  -- Q settles; level 0 reads 100 200 300, level 1 reads 100 300
  pub q : Settles l q_calls 3
  pub q_level_0 : LinksOf (bytes_run l q_calls).now 0 0 255 1 × LinksOf (bytes_run l q_calls).now 1 0 0 2 × LinksOf (bytes_run l q_calls).now 2 0 1 255
  pub q_level_1 : LinksOf (bytes_run l q_calls).now 0 1 255 2 × LinksOf (bytes_run l q_calls).now 1 1 255 255 × LinksOf (bytes_run l q_calls).now 2 1 0 255
  -- In Q: (b) F 0 99 none, 0 hops
  pub b : find_in (bytes_run l q_calls).now 0 99 ≡ found none 0
  -- (c) F 0 300 holder 2, 1 hop
  pub c : find_in (bytes_run l q_calls).now 0 300 ≡ found (some 2) 1
  -- (d) F 2 250 holder 1, 1 hop
  pub d : find_in (bytes_run l q_calls).now 2 250 ≡ found (some 1) 1
  -- (e) F 2 100 holder 0, 1 hop
  pub e : find_in (bytes_run l q_calls).now 2 100 ≡ found (some 0) 1
  -- (f) join 200 on seat 3: 5
  pub f : (vector : ℕ) → called (bytes_run l q_calls).now (join 3 200 vector 0) ≡ refusing 5 (bytes_run l q_calls).now
  -- (g) seat 64: 3
  pub g : (number vector contact : ℕ) → called (bytes_run l q_calls).now (join 64 number vector contact) ≡ refusing 3 (bytes_run l q_calls).now
  -- (h) Empty record, contact 0: 6
  pub h : (number vector : ℕ) → called (bytes_run l []).now (join 0 number vector 0) ≡ refusing 6 (bytes_run l []).now
  -- (i) Lot 100 without a left link, right link 300 at level 0, MEET about 200:
  pub i : Lot100 l i_calls 2 (meet 0 1 0 ∷ [])
  -- link 200, and 200 gets MEET about 100, MEET about 300, PROBE about 100
  pub i_done : Lot100 l (i_calls ++ deliver (name 1 0 1 0 0) ∷ []) 1 (meet 1 0 0 ∷ meet 1 2 0 ∷ probe 1 0 0 ∷ [])
  -- (j) Right link 200, MEET about 300:
  pub j : Lot100 l j_calls 1 (meet 0 2 0 ∷ [])
  -- passed to 200
  pub j_done : Lot100 l (j_calls ++ deliver (name 1 0 2 0 0) ∷ []) 1 (meet 1 2 0 ∷ [])
  -- (k) Q, leave 1, and #104's scan: F 0 250 holder 0, 2 hops
  pub k_scan : find_in (bytes_run l (q_calls ++ leave 1 ∷ [])).now 0 250 ≡ found (some 0) 2
  -- then turn, deliver all, turn:
  pub k : Settles l k_calls 2
  pub k_lots : (read_lot (bytes_run l k_calls).now 0 ≡ lot 0 1 100 0)
      × (read_lot (bytes_run l k_calls).now 1 ≡ lot 8 0 0 0)
      × (read_lot (bytes_run l k_calls).now 2 ≡ lot 0 1 300 64)
  -- both level 0 and level 1 read 100 300
  pub k_level_0 : LinksOf (bytes_run l k_calls).now 0 0 255 2 × LinksOf (bytes_run l k_calls).now 2 0 0 255
  pub k_level_1 : LinksOf (bytes_run l k_calls).now 0 1 255 2 × LinksOf (bytes_run l k_calls).now 2 1 0 255
  -- (l) A sole lot leaves: two turns, empty
  pub sole : Settles l l_calls 0
  pub sole_bytes : (bytes_run l l_calls).now ≡ bytes_of opened
