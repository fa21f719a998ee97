-- What calls, find and readings answer on the bytes after a list of calls, told by the view after the list. Assumes nothing.
use Prim.Native.Nat.{ℕ, suc, ◌^◌, ◌≤◌, ◌<◌}
use mathlib.Core.Path.{◌≡◌, sym, ap, ◌∙◌, subst}
use mathlib.Core.Logic.{inl, inr}
use mathlib.Core.Bool.{Bool, true, false, ◌&&◌}
use mathlib.Core.List.{List, [], ◌∷◌}
use lib.Dec.{T, ltb, ltb→lt}
use Rattle.base.specs.Loops.{count}
use Rattle.memory.specs.Bytes.{AreBytes}
use Rattle.graph.specs.Side.{Side, left, right, side_number}
use Rattle.graph.specs.Vector.{width}
use Rattle.base.proofs.Tests.{and-fst, and-snd}
use Rattle.protocol.specs.Message.{Msg, among}
use Rattle.protocol.specs.Numbering.{some_pending}
use Rattle.protocol.specs.State.{open_phase, clearing, is_clearing, Seats, Meaning, seated, stays}
use Rattle.protocol.specs.Refusals.{no_such_seat, empty_seat, unsettled}
use Rattle.protocol.specs.Calls.{Call, join, reserve, confirm, give_back, leave, deliver, turn, crash, merge, Outcome}
use Rattle.protocol.specs.Sound.{Sound, number_bits}
use Rattle.protocol.specs.Run.{log_of, AllInRange}
use Rattle.protocol.proofs.SoundFacts.{seated-below, pending-exists}
use Rattle.protocol.proofs.Numbering.{pending-none}
use Rattle.record.specs.Layout.{seats, levels}
use Rattle.record.specs.Meaning.{seats_in, meaning, bytes_of, phase_byte, link_byte}
use Rattle.record.specs.Reading.{open_refusal, read_lot, read_link, read_message, CountAnswer, read_counts}
use Rattle.record.specs.Call.{called}
use Rattle.record.proofs.Call.{call-bytes, refused-same}
use Rattle.record.proofs.Places.{length-bytes_of}
use Rattle.record.proofs.Refused.{Passed}
use Rattle.record.proofs.Round.{meaning-bytes, bytes-bytes}
use Rattle.record.proofs.Sound.{bytes-sound}
use Rattle.search.specs.Walk.{find}
use Rattle.check_links.specs.Check.{check_in}
use Rattle.check_links.specs.Settled.{settled}
use Rattle.check_links.proofs.Settled.{unsettled-exactly}
use Rattle.find.specs.Find.{searched, find_refusal, find_in}
use Rattle.find.proofs.Refused.{no-seat, no-lot, waits}
use Rattle.find.proofs.Scans.{settled-accepted}
use Rattle.runs.specs.Run.{bytes_run, lot_of}
use Rattle.runs.specs.Run as runs
use Rattle.runs.proofs.Theorem.{in_range}
use Rattle.runs.proofs.Uses.{count-check, count-settled}
use Rattle.runs.proofs.Right.{seats-bytes, find-bytes}
use Rattle.runs.proofs.Readings.{counts_of, read-lot, read-link, read-message, read-counts, count_none}
use Rattle.cases.proofs.View.{View, meant, some_left, some_left_lem, view_refusal, view_call, view-call}
use Rattle.cases.specs.Lists.{accepted, Pending, LinksOf, Settles, Lot100}
use Rattle.cases.proofs.Seen.{seen, seen-sound, seen_bytes, seen-log, seen-order}

-- the arguments of the calls fit their types, as a test: number and vector, or a set of seats
abbrev sizes : (n b : ℕ) → Bool
sizes n b = ltb n (2 ^ number_bits) && ltb b (2 ^ width)

unfoldable pub fits : List Call → Bool
fits [] = true
fits (join s n b c ∷ cs) = sizes n b && fits cs
fits (reserve s n b ∷ cs) = sizes n b && fits cs
fits (confirm s c ∷ cs) = fits cs
fits (give_back s ∷ cs) = fits cs
fits (leave s ∷ cs) = fits cs
fits (deliver n ∷ cs) = fits cs
fits (turn ∷ cs) = fits cs
fits (crash set ∷ cs) = ltb set (2 ^ seats) && fits cs
fits (merge a b ∷ cs) = fits cs

sizes-in : (n b : ℕ) → T (sizes n b) → (n < 2 ^ number_bits) × (b < 2 ^ width)
sizes-in n b t = (ltb→lt n _ (and-fst (ltb n (2 ^ number_bits)) _ t), ltb→lt b _ (and-snd (ltb n (2 ^ number_bits)) _ t))

pub fits_in : (cs : List Call) → T (fits cs) → AllInRange seats width cs
unfolding fits
fits_in [] t = tt
fits_in (join s n b c ∷ cs) t = (sizes-in n b (and-fst (sizes n b) _ t), fits_in cs (and-snd (sizes n b) _ t))
fits_in (reserve s n b ∷ cs) t = (sizes-in n b (and-fst (sizes n b) _ t), fits_in cs (and-snd (sizes n b) _ t))
fits_in (confirm s c ∷ cs) t = (tt, fits_in cs t)
fits_in (give_back s ∷ cs) t = (tt, fits_in cs t)
fits_in (leave s ∷ cs) t = (tt, fits_in cs t)
fits_in (deliver n ∷ cs) t = (tt, fits_in cs t)
fits_in (turn ∷ cs) t = (tt, fits_in cs t)
fits_in (crash set ∷ cs) t = (ltb→lt set _ (and-fst (ltb set (2 ^ seats)) _ t), fits_in cs (and-snd (ltb set (2 ^ seats)) _ t))
fits_in (merge a b ∷ cs) t = (tt, fits_in cs t)

module _ (l : List ℕ) (e : open_refusal l ≡ 0) (cs : List Call) (t : T (fits cs)) where
  abbrev v : View
  v = (seen cs).view

  h : Sound seats width (meant (seen cs).view)
  h = seen-sound l e cs (fits_in cs t)

  at : {A : Type 0} (f : List ℕ → A) → f (bytes_run l cs).now ≡ f (bytes_of (meant (seen cs).view))
  at f = ap f (seen_bytes l e cs (fits_in cs t))

  bytes-seen : AreBytes (bytes_run l cs).now
  bytes-seen = subst AreBytes (sym (seen_bytes l e cs (fits_in cs t))) (bytes-bytes (meant v))

  passed-seen : Passed (bytes_run l cs).now
  passed-seen = subst Passed (sym (seen_bytes l e cs (fits_in cs t))) (record { sized = length-bytes_of (meant v); fine = bytes-sound h })

  seated-seen : (s : ℕ) → seated (seats_in (bytes_run l cs).now) s ≡ seated v.seats s
  seated-seen s = at (λ b. seated (seats_in b) s) ∙ ap (λ (r : Seats). seated r s) (seats-bytes (meant v) h)

  call-seen : (c : Call) → called (bytes_run l cs).now c ≡ record { refused = view_refusal v c; after = bytes_of (meant (view_call v c)) }
  call-seen c =
      at (λ b. called b c) ∙ call-bytes (meant v) h c
      ∙ λ i. record { refused = (view-call v h c i).refused; after = bytes_of (view-call v h c i).after }

  -- a refused call leaves every byte
  pub refused-seen : (c : Call) (n : ℕ) → view_refusal v c ≡ suc n
      → called (bytes_run l cs).now c ≡ record { refused = suc n; after = (bytes_run l cs).now }
  refused-seen c n q =
      let no : (called (bytes_run l cs).now c).refused ≡ suc n = ap (λ (o : Outcome (List ℕ)). o.refused) (call-seen c) ∙ q in
      λ i. record { refused = no i; after = refused-same (bytes_run l cs).now c n no i }

  pub lot-seen : (x : ℕ) → T (ltb x seats) → read_lot (bytes_run l cs).now x ≡ lot_of v.seats x
  lot-seen x p = at (λ b. read_lot b x) ∙ read-lot (meant v) h x (ltb→lt x seats p)

  link-seen : (x k : ℕ) (d : Side) → T (seated v.seats x) → T (ltb k levels)
      → read_link (bytes_run l cs).now x k (side_number d) ≡ record { refused = 0; seat = link_byte (v.link x k d) }
  link-seen x k d m p =
      at (λ b. read_link b x k (side_number d))
      ∙ read-link (meant v) h x k d (seated-below h x m) (ltb→lt k levels p) m

  -- both links of a lot
  pub links-seen : (x k : ℕ) → T (seated v.seats x) → T (ltb k levels)
      → LinksOf (bytes_run l cs).now x k (link_byte (v.link x k left)) (link_byte (v.link x k right))
  links-seen x k m p = (link-seen x k left m p, link-seen x k right m p)

  pending-seen : Pending (bytes_run l cs).now v.pending
  pending-seen n = at (λ b. read_message b n) ∙ read-message (meant v) h n

  log-seen : accepted (seen cs).log ≡ true → accepted (log_of (runs.meant (bytes_run l cs).history)) ≡ true
  log-seen a = ap accepted (seen-log l e cs (fits_in cs t)) ∙ a

  pub lot100-seen : (right-link : ℕ) (ms : List Msg) → accepted (seen cs).log ≡ true → T (seated v.seats 0)
      → link_byte (v.link 0 0 left) ≡ 255 → link_byte (v.link 0 0 right) ≡ right-link → v.pending ≡ ms → Lot100 l cs right-link ms
  lot100-seen y ms a m p q w = record {
    log = log-seen a;
    links = subst (λ (x : ℕ). LinksOf (bytes_run l cs).now 0 0 x y) p
        (subst (LinksOf (bytes_run l cs).now 0 0 (link_byte (v.link 0 0 left))) q (links-seen 0 0 m tt));
    pending = subst (Pending (bytes_run l cs).now) w pending-seen;
  }

  -- nothing is pending, in phase open
  module _ (q : v.pending ≡ []) (p : v.seats.phase ≡ open_phase) where
    counts-seen : read_counts (bytes_run l cs).now ≡ record { refused = 0; lots = count seats (seated v.seats); phase = 0; pending = 0 }
    unfolding counts_of among
    counts-seen =
        let none_left : some_pending seats width (among v.pending) ≡ false = pending-none seats width (among v.pending) (λ m x. rw q) in
        let none-counted = (count_none (meant v) h).1 none_left in
        at read_counts ∙ read-counts (meant v) h
        ∙ λ i. record { refused = 0; lots = count seats (seated v.seats); phase = phase_byte (p i); pending = none-counted i }

    pub settles-seen : (n : ℕ) → accepted (seen cs).log ≡ true → T (seen cs).ordered → count seats (seated v.seats) ≡ n → Settles l cs n
    settles-seen n a o c = record {
      log = log-seen a;
      order = seen-order l e cs (fits_in cs t) o;
      counts = counts-seen ∙ λ i. record { refused = 0; lots = c i; phase = 0; pending = 0 };
    }

    pub check-seen : check_in (bytes_run l cs).now ≡ record { refused = 0; yes = true }
    check-seen = count-check (in_range l e cs (fits_in cs t)) bytes-seen (ap (λ (a : CountAnswer). a.pending) counts-seen)

    settled-seen : settled (bytes_run l cs).now ≡ true
    settled-seen = count-settled (in_range l e cs (fits_in cs t)) bytes-seen
        (ap (λ (a : CountAnswer). a.pending) counts-seen) (ap (λ (a : CountAnswer). a.phase) counts-seen)

    pub find-seen : (s x : ℕ) → T (seated v.seats s)
        → find_in (bytes_run l cs).now s x ≡ searched (find (stays v.seats) v.seats.number v.link x seats width s)
    find-seen s x m = at (λ b. find_in b s x) ∙ find-bytes (meant v) h (sym (at settled) ∙ settled-seen) s x m

    pub scan-accepted : (s : ℕ) → T (seated v.seats s) → find_refusal (bytes_run l cs).now s ≡ 0
    scan-accepted s m = settled-accepted (bytes_run l cs).now bytes-seen settled-seen s (subst T (sym (seated-seen s)) m)

  -- a scan that is refused
  module _ (s : ℕ) where
    pub scan-seat : seats ≤ s → find_refusal (bytes_run l cs).now s ≡ no_such_seat
    scan-seat q = sym (no-seat (bytes_run l cs).now s passed-seen q)

    module _ (q : s < seats) where
      pub scan-empty : seated v.seats s ≡ false → find_refusal (bytes_run l cs).now s ≡ empty_seat
      scan-empty f = sym (no-lot (bytes_run l cs).now s passed-seen q (seated-seen s ∙ f))

      waiting : settled (bytes_run l cs).now ≡ false → seated v.seats s ≡ true → find_refusal (bytes_run l cs).now s ≡ unsettled
      waiting u f = sym (waits (bytes_run l cs).now s passed-seen q (seated-seen s ∙ f) u)

      pub scan-pending : some_left v.pending ≡ true → seated v.seats s ≡ true → find_refusal (bytes_run l cs).now s ≡ unsettled
      scan-pending p = waiting ((unsettled-exactly (bytes_run l cs).now).1 (inl
          (at (λ b. some_pending seats width (meaning b).pending) ∙ ap (λ (M : Meaning). some_pending seats width M.pending) (meaning-bytes h)
          ∙ some_left_lem v.pending (λ m t. pending-exists h m t) ∙ p)))

      pub scan-clearing : v.seats.phase ≡ clearing → seated v.seats s ≡ true → find_refusal (bytes_run l cs).now s ≡ unsettled
      scan-clearing p = waiting ((unsettled-exactly (bytes_run l cs).now).1 (inr (inl
          (at (λ b. is_clearing (seats_in b).phase) ∙ ap (λ (r : Seats). is_clearing r.phase) (seats-bytes (meant v) h) ∙ ap is_clearing p))))
