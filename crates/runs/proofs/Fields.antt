-- What each other part of demand 3 says, of any standing and from that part alone: the pending count and the messages, the count of lots, the
-- refusal numbers, and how long deliveries can go on. Assumes nothing.
use Prim.Native.Nat.{ℕ, ◌≤◌}
use mathlib.Core.Path.{◌≡◌, refl, sym, ap, ◌∙◌, subst}
use mathlib.Core.Logic.{◌↔◌, ◌≢◌}
use mathlib.Core.Option.{Option, none, some}
use mathlib.Core.Bool.{Bool, false, not, cond, ◌||◌}
use mathlib.Core.List.{List, [], ◌∷◌, ◌++◌}
use native.Mathlib.Omega.{arith}
use lib.Dec.{eqb}
use lib.ListN.{length}
use Rattle.base.specs.Loops.{one_if, count}
use Rattle.base.proofs.Count.{one_if-zero, count_same}
use Rattle.graph.specs.Vector.{width}
use Rattle.protocol.specs.Message.{Msg, Name, name_of, named}
use Rattle.protocol.specs.Rules.{SeatState, free, staying, leaving, reserved}
use Rattle.protocol.specs.State.{Seats, Meaning, is_free, is_seated, seated, is_pending}
use Rattle.protocol.specs.Refusals.{wrong_size, unsound, no_such_level, empty_seat, no_such_message}
use Rattle.protocol.specs.Calls.{deliver, refusal}
use Rattle.protocol.specs.Bundle.{Item, spread}
use Rattle.protocol.specs.Run.{Past, Standing, AllAccepted, pending_of, RefusedByTable}
use Rattle.protocol.proofs.Message.{named-name}
use Rattle.protocol.proofs.Bundle.{all-counted}
use Rattle.record.specs.Layout.{seats}
use Rattle.record.specs.Meaning.{meaning, state_byte}
use Rattle.record.specs.Reading.{LotAnswer, read_lot, MessageAnswer, read_message, read_counts}
use Rattle.record.specs.Call.{called}
use Rattle.record.specs.Bundle.{bundle_in}
use Rattle.runs.specs.Run.{meant, roster, lot_of, Demand3}
use Rattle.runs.proofs.History.{refusal-other, refusal-deliver, refused-then}

-- `messages`, `none_left`: the count reads 0 exactly if every message reads as not pending
module _ {bound : List ℕ → ℕ} {s : Standing (List ℕ)} (D : Demand3 bound s) where
  -- pending by the history
  abbrev pend : Msg → Bool
  pend = pending_of seats width (meant s.history)

  none_named : ((m : Msg) → pend m ≡ false) → (n : Name) → is_pending pend (named n) ≡ false
  unfolding is_pending
  none_named q n = by (named n)
    where
      by : (o : Option Msg) → is_pending pend o ≡ false
      by none = refl
      by (some m) = q m

  unread : (m : Msg) → (read_message s.now (name_of m)).pending ≡ 0 → pend m ≡ false
  unfolding is_pending
  unread m e = (one_if-zero (pend m)).0
      (ap (λ (o : Option Msg). one_if (is_pending pend o)) (sym (named-name m)) ∙ sym (ap (λ (a : MessageAnswer). a.pending) (D.messages (name_of m))) ∙ e)

  pub count-exactly : ((read_counts s.now).pending ≡ 0) ↔ ((n : Name) → read_message s.now n ≡ record { refused = 0; pending = 0 })
  count-exactly = (
    λ e n. D.messages n ∙ ap (λ (t : Bool). record { refused = 0; pending = one_if t }) (none_named (D.none_left.0 e) n),
    λ h. omega (arith, D.none_left.1 (λ m. unread m (ap (λ (a : MessageAnswer). a.pending) (h (name_of m))))),
  )

-- `seated`, `lots`: the count of lots is how many seats read as a lot of the graph, staying or leaving
abbrev reads_lot : LotAnswer → Bool
reads_lot a = eqb a.state (state_byte staying) || eqb a.state (state_byte leaving)

reads-lot : (r : Seats) (x : ℕ) → seated r x ≡ reads_lot (lot_of r x)
unfolding lot_of
reads-lot r x = by (r.state x)
  where
    by : (t : SeatState) → is_seated t
        ≡ reads_lot (cond {A = LotAnswer} (not (not (is_free t))) (record { refused = empty_seat; state = 0; number = 0; vector = 0 })
        (record { refused = 0; state = state_byte t; number = r.number x; vector = r.vector x }))
    by free = refl
    by staying = refl
    by leaving = refl
    by reserved = refl

module _ {bound : List ℕ → ℕ} {s : Standing (List ℕ)} (D : Demand3 bound s) where
  pub count-lots : (read_counts s.now).lots
      ≡ count seats (λ x. eqb (read_lot s.now x).state (state_byte staying) || eqb (read_lot s.now x).state (state_byte leaving))
  count-lots = D.seated ∙ count_same seats (seated (roster s.history).seats) (λ x. reads_lot (read_lot s.now x)) (λ x p.
      reads-lot (roster s.history).seats x ∙ ap reads_lot (sym (D.lots x p)))

-- `refusals`, of a call e with the calls before it in `older` and those after it in `newer`
meant-append : (es : List (Past (List ℕ))) (e : Past (List ℕ)) (fs : List (Past (List ℕ)))
    → meant (es ++ (e ∷ fs)) ≡ meant es ++ (record { logged = e.logged; before = meaning e.before } ∷ meant fs)
unfolding meant
meant-append [] e fs = refl
meant-append (f ∷ es) e fs = ap (λ (gs : List (Past Meaning)). record { logged = f.logged; before = meaning f.before } ∷ gs) (meant-append es e fs)

module _ {bound : List ℕ → ℕ} {s : Standing (List ℕ)} (D : Demand3 bound s)
    (newer : List (Past (List ℕ))) (e : Past (List ℕ)) (older : List (Past (List ℕ))) (h : s.history ≡ newer ++ (e ∷ older)) where
  -- its number is the table's, from the roster and the messages pending then
  pub refused-by-table : e.logged.refused ≡ refusal seats width (roster older).seats (pending_of seats width (meant older)) e.logged.call
  refused-by-table = refused-then seats width (meant newer) (record { logged = e.logged; before = meaning e.before }) (meant older)
      (subst (RefusedByTable seats width) (ap meant h ∙ meant-append newer e older) D.refusals)

  -- it is not 1, 2 or 12
  pub never-refused : (e.logged.refused ≢ wrong_size) × (e.logged.refused ≢ unsound) × (e.logged.refused ≢ no_such_level)
  never-refused =
      let f = refusal-other seats width (roster older).seats (pending_of seats width (meant older)) e.logged.call in
      let t = refused-by-table in
      (λ z. f.0 (sym t ∙ z), λ z. f.1 (sym t ∙ z), λ z. f.2 (sym t ∙ z))

  -- a delivery was refused, with 10, exactly if its message was not pending
  pub delivery-refused : (n : Name) → e.logged.call ≡ deliver n
      → e.logged.refused ≡ cond (is_pending (pending_of seats width (meant older)) (named n)) 0 no_such_message
  delivery-refused n c = refused-by-table
      ∙ ap (refusal seats width (roster older).seats (pending_of seats width (meant older))) c
      ∙ refusal-deliver seats width (roster older).seats (pending_of seats width (meant older)) n

-- `ends`: deliveries and bundles that are all accepted make no more deliveries than the bound
pub at_most : {bound : List ℕ → ℕ} {s : Standing (List ℕ)} → Demand3 bound s → (ds : List (Item Name))
    → let cs = spread called bundle_in deliver s.now ds in AllAccepted called s.now cs → length cs ≤ bound s.now
at_most {s = s} D ds t = omega (arith, D.ends ds, all-counted called s.now (spread called bundle_in deliver s.now ds) t)
