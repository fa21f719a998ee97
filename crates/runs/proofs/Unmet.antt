-- The turn out of clearing (document 01, "Turn": "a link to a freed seat becomes none (never met in a record made by these calls)"), from
-- demand 3 alone: with nothing pending no link of a staying lot names a leaving lot's seat, so the turn is accepted and leaves every link of
-- every staying lot as it was. Assumes only that the bytes are bytes.
use Prim.Native.Nat.{ℕ, ◌≤◌, ◌<◌}
use mathlib.Core.Path.{◌≡◌, refl, sym, ap, ◌∙◌, subst}
use mathlib.Core.Logic.{◌≢◌}
use mathlib.Core.Option.{Option, none, some}
use mathlib.Core.Bool.{Bool, false}
use mathlib.Core.List.{List}
use native.Mathlib.Omega.{arith}
use lib.Dec.{T}
use Rattle.base.proofs.Tests.{not-T-false}
use Rattle.memory.specs.Bytes.{AreBytes}
use Rattle.graph.specs.Side.{Side, side_number}
use Rattle.graph.specs.Vector.{width}
use Rattle.graph.specs.Graph.{graph}
use Rattle.protocol.specs.Rules.{SeatState, free, staying, leaving, is_staying, reserved}
use Rattle.protocol.specs.State.{clearing, Seats, Meaning, is_free, is_leaving, stays, leaves, seated, member}
use Rattle.protocol.specs.Refusals.{first}
use Rattle.protocol.specs.Calls.{turn, rows, refusal, seats_after, links_after, accept, unless_refused}
use Rattle.protocol.specs.Freeing.{unlinked}
use Rattle.protocol.specs.pages.Turn.{after_turn, turn_links}
use Rattle.protocol.specs.Sound.{Sound}
use Rattle.protocol.specs.Run.{Standing, members_of, NothingPending}
use Rattle.protocol.proofs.SoundFacts.{stays-seated, seated-taken}
use Rattle.protocol.proofs.KeepSound.{accept-sound}
use Rattle.record.specs.Layout.{seats, levels}
use Rattle.record.specs.Meaning.{seats_in, meaning, bytes_of, link_byte}
use Rattle.record.specs.Reading.{LinkAnswer, read_link}
use Rattle.record.specs.Call.{call_refusal, called}
use Rattle.record.proofs.Call.{record-accepted}
use Rattle.search.proofs.Agree.{member_back, graph-member}
use Rattle.runs.specs.Run.{meant, roster, Demand3}
use Rattle.runs.proofs.Readings.{read-link}
use Rattle.runs.proofs.SameLots.{passed, below, same-phase, fine, same-seat, agree}
use Rattle.runs.proofs.Uses.{roster-laws, link-reads, link-is, quiet}

-- a staying lot is not leaving
stays-not : (t : SeatState) → T (is_staying t) → T (is_leaving t) → ⊥
stays-not free p q = q
stays-not staying p q = q
stays-not leaving p q = p
stays-not reserved p q = p

leaving-taken : (t : SeatState) → T (is_leaving t) → is_free t ≡ false
leaving-taken free q = absurd q
leaving-taken staying q = refl
leaving-taken leaving q = refl
leaving-taken reserved q = absurd q

-- the members in clearing are the staying lots
member-stays : (r : Seats) → r.phase ≡ clearing → (x : ℕ) → member r x ≡ stays r x
unfolding member
member-stays r c x = rw c

module _ {bound : List ℕ → ℕ} {s : Standing (List ℕ)} (D : Demand3 bound s) (b : AreBytes s.now)
    (c : (roster s.history).seats.phase ≡ clearing) (q : NothingPending seats width (meant s.history)) where
  -- the bytes and the roster's seats
  abbrev l : List ℕ
  l = s.now

  abbrev R : Seats
  R = (roster s.history).seats

  abbrev link-of : (x k : ℕ) → Side → Option ℕ
  link-of = graph seats width (members_of (roster s.history))

  -- a link of the graph names a staying lot
  names-staying : (x k y : ℕ) (d : Side) → link-of x k d ≡ some y → T (stays R y)
  names-staying x k y d e = subst (λ (t : Bool). T t) (member-stays R c y) (graph-member width (roster-laws D b) x k y d e)

  -- no link of a staying lot reads as a leaving lot's seat
  pub never_met : (x k y : ℕ) (d : Side) → T (stays R x) → k < levels → T (leaves R y) → (read_link s.now x k (side_number d)).seat ≢ y
  never_met x k y d m p t e = by (link-of x k d) refl (sym (ap (λ (a : LinkAnswer). a.seat) reads) ∙ e)
    where
      reads : read_link s.now x k (side_number d) ≡ record { refused = 0; seat = link_byte (link-of x k d) }
      reads = D.links q x k d (rw (member-stays R c x) m) p

      seat : y < seats
      seat = below D y (rw (leaving-taken (R.state y) t) tt)

      by : (o : Option ℕ) → link-of x k d ≡ o → link_byte o ≡ y → ⊥
      by none f z = omega (arith, seat)
      by (some w) f z = stays-not (R.state y) (subst (λ (v : ℕ). T (stays R v)) z (names-staying x k w d f)) t

  -- the turn is accepted
  turn-row : refusal seats width (meaning l).seats (meaning l).pending turn ≡ 0
  unfolding refusal rows first
  turn-row = rw (quiet D b q)

  pub turn-accepted : call_refusal l turn ≡ 0
  turn-accepted = record-accepted l (passed D).sized (passed D).fine turn ∙ turn-row

  abbrev turned : Meaning
  turned = accept seats width (meaning l) turn

  after-turn : (called l turn).after ≡ bytes_of turned
  unfolding called unless_refused
  after-turn = rw turn-accepted

  turned-sound : Sound seats width turned
  turned-sound = accept-sound seats width (meaning l) (fine D b) turn tt turn-row

  -- a staying lot by the bytes
  here-stays : (x : ℕ) → T (stays R x) → T (stays (seats_in l) x)
  here-stays x m = subst (λ (t : SeatState). T (is_staying t)) (sym (same-seat D b x).state) m

  here-member : (x : ℕ) → T (stays R x) → T (member (seats_in l) x)
  here-member x m = member_back (agree D b) x (rw (member-stays R c x) m)

  not-leaving : (x : ℕ) → T (stays R x) → leaves (seats_in l) x ≡ false
  not-leaving x m = not-T-false (λ t. stays-not ((seats_in l).state x) (here-stays x m) t)

  -- it stays, with its links
  still-seated : (x : ℕ) → T (stays R x) → T (seated turned.seats x)
  unfolding accept seats_after after_turn meaning
  still-seated x m = rw (same-phase D, c, not-leaving x m) (stays-seated (seats_in l) x (here-stays x m))

  link_stays : (x k : ℕ) (d : Side) → T (stays R x) → k ≤ width → turned.link x k d ≡ (meaning l).link x k d
  unfolding accept links_after turn_links unlinked meaning
  link_stays x k d m w = rw (same-phase D, c, not-leaving x m) (by ((meaning l).link x k d) (link-is D b q x k d (here-member x m) w))
    where
      by : (o : Option ℕ) → o ≡ link-of x k d → unlinked (leaves (seats_in l)) o ≡ o
      by none f = refl
      by (some y) f = rw (not-leaving y (names-staying x k y d (sym f)))

  -- so each of its links reads after the turn as before it
  pub turn-keeps : (x k : ℕ) (d : Side) → T (stays R x) → k < levels
      → read_link (called s.now turn).after x k (side_number d) ≡ read_link s.now x k (side_number d)
  turn-keeps x k d m p =
      let h = stays-seated R x m in
      ap (λ (a : List ℕ). read_link a x k (side_number d)) after-turn
      ∙ read-link turned turned-sound x k d (below D x (seated-taken R x h)) p (still-seated x m)
      ∙ ap (λ (o : Option ℕ). record { refused = 0; seat = link_byte o }) (link_stays x k d m (omega arith))
      ∙ sym (link-reads D b x k d (here-member x m) (omega arith))
