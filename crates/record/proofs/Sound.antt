-- Sound bytes are those of the form whose meaning is sound, and the bytes of a sound meaning are sound. Assumes nothing.
use Prim.Native.Nat.{ℕ, ◌+◌, ◌^◌, ◌<◌}
use mathlib.Core.Path.{◌≡◌, sym, ◌∙◌, subst}
use mathlib.Core.Logic.{◌⊎◌, inl, inr, ⊎_elim, ◌↔◌}
use mathlib.Core.Option.{none, some}
use mathlib.Core.Bool.{true, not}
use mathlib.Core.List.{List}
use native.Mathlib.Omega.{arith}
use lib.Dec.{T}
use lib.Pow.{pow_pos}
use lib.ListN.{length, get_or}
use Rattle.memory.specs.Bytes.{AreBytes}
use Rattle.base.proofs.Cases.{lt-or-ge}
use Rattle.memory.proofs.Bytes.{number_at-one, number_at-lt}
use Rattle.graph.specs.Side.{Side}
use Rattle.graph.specs.Vector.{width}
use Rattle.base.proofs.Tests.{some_inj, none-some}
use Rattle.protocol.specs.Message.{Msg}
use Rattle.protocol.specs.Numbering.{place, message_at}
use Rattle.protocol.specs.Rules.{SeatState}
use Rattle.protocol.specs.State.{Meaning, is_free, taken}
use Rattle.protocol.specs.Sound.{Sound, link_ok, message_ok, number_bits}
use Rattle.protocol.proofs.Numbering.{message_at-place}
use Rattle.record.specs.Layout.{seats, levels, number_size, vector_size, no_link, size}
use Rattle.record.specs.Layout.{phase_at, state_at, number_from, vector_from, link_at, pending_from}
use Rattle.record.specs.Cell.{Cell, phase_cell, state_cell, number_cell, vector_cell, link_cell, pending_cell}
use Rattle.record.specs.inner.Cell.{InRecord, cell_in}
use Rattle.record.specs.Meaning.{link_of, seats_in, meaning, bytes_of}
use Rattle.record.specs.Sound.{sound}
use Rattle.record.proofs.Places.{place-within}
use Rattle.record.proofs.Links.{link_of-some}
use Rattle.record.proofs.Form.{CellFits, Form, meaning-number, meaning-vector, meaning-link, meaning-pending, meaning-bit}
use Rattle.record.proofs.Form.{no-seat-state, no-seat-number, no-seat-vector, no-seat-link, no-level-link, exists-pending}
use Rattle.record.proofs.Round.{same_bytes, meaning-bytes, bytes-form}
use Rattle.record.proofs.Clauses.{AsOpened, LinkFits, Fits, sound_fits}

-- a link's byte that is a seat, and one that is none
link_of-no_link : (b : ℕ) → b ≡ no_link → link_of b ≡ none
unfolding link_of
link_of-no_link b e = rw e

module _ {l : List ℕ} (bytes : AreBytes l) (f : Fits l) where
  cells_fit : (c : Cell) → InRecord c → CellFits c (cell_in l c)
  cells_fit phase_cell p = rw (number_at-one l phase_at) f.phase
  cells_fit (state_cell s) p = rw (number_at-one l (state_at s)) (f.states s p)
  cells_fit (number_cell s) p = number_at-lt l (number_from s) number_size bytes
  cells_fit (vector_cell s) p = number_at-lt l (vector_from s) vector_size bytes
  cells_fit (link_cell s k d) p = rw (number_at-one l (link_at s k d)) (⊎_elim (λ q. inl q) (λ q. inr q.0) (f.links s k d p.0 p.1))
  cells_fit (pending_cell b) p = number_at-lt l (pending_from + b) 1 bytes

  fits-form : length l ≡ size → Form l
  fits-form e = record { sized = e; bytes = bytes; cells = cells_fit }

  seat-in : (x : ℕ) → T (taken (meaning l).seats x) → x < seats
  seat-in x t = ⊎_elim (λ p. p) (λ p. absurd (subst (λ (s : SeatState). T (not (is_free s))) (no-seat-state l x p) t)) (lt-or-ge x seats)

  link-in : (x k y : ℕ) (d : Side) → (meaning l).link x k d ≡ some y → (x < seats) × (k < levels)
  link-in x k y d e = (
    ⊎_elim (λ p. p) (λ p. none-some (no-seat-link l x k d p) e) (lt-or-ge x seats),
    ⊎_elim (λ p. p) (λ p. none-some (no-level-link l x k d p) e) (lt-or-ge k levels),
  )

  number_fits : (x : ℕ) → (meaning l).seats.number x < 2 ^ number_bits
  number_fits x = ⊎_elim
      (λ p. rw (meaning-number l x p) (number_at-lt l (number_from x) number_size bytes))
      (λ p. rw (no-seat-number l x p) (pow_pos number_bits))
      (lt-or-ge x seats)

  vector-fits : (x : ℕ) → (meaning l).seats.vector x < 2 ^ width
  vector-fits x = ⊎_elim
      (λ p. rw (meaning-vector l x p) (number_at-lt l (vector_from x) vector_size bytes))
      (λ p. rw (no-seat-vector l x p) (pow_pos width))
      (lt-or-ge x seats)

  unused-fits : (x : ℕ) → T (is_free ((meaning l).seats.state x))
      → ((meaning l).seats.number x ≡ 0) × ((meaning l).seats.vector x ≡ 0) × ((k : ℕ) (d : Side) → (meaning l).link x k d ≡ none)
  unfolding meaning
  unused-fits x t = ⊎_elim
      (λ p. let u = f.unused x p t in (
        u.0,
        u.1,
        λ k d. ⊎_elim
            (λ q. meaning-link l x k d p q ∙ link_of-no_link (get_or l (link_at x k d) 0) (u.2 k d q))
            (no-level-link l x k d)
            (lt-or-ge k levels),
      ))
      (λ p. (no-seat-number l x p, no-seat-vector l x p, λ k d. no-seat-link l x k d p))
      (lt-or-ge x seats)

  numbers_fit : (x y : ℕ) → T (taken (meaning l).seats x) → T (taken (meaning l).seats y)
      → (meaning l).seats.number x ≡ (meaning l).seats.number y → x ≡ y
  unfolding meaning
  numbers_fit x y s t e = ⊎_elim
      (λ p. absurd (f.differ y x (seat-in y t) p t s (sym e)))
      (λ p. ⊎_elim (λ q. absurd (f.differ x y (seat-in x s) q s t e)) (λ q. omega arith) (lt-or-ge y x))
      (lt-or-ge x y)

  link_fits : (x k y : ℕ) (d : Side) → (meaning l).link x k d ≡ some y → T (link_ok width (meaning l).seats x k d y)
  unfolding meaning
  link_fits x k y d e =
      let (p, q) = link-in x k y d e in
      let b = get_or l (link_at x k d) 0 in
      let m = meaning-link l x k d p q in
      ⊎_elim
      (λ u. none-some (m ∙ link_of-no_link b u) e)
      (λ u. subst (λ (z : ℕ). T (link_ok width (seats_in l) x k d z)) (some_inj (sym (m ∙ link_of-some b u.0) ∙ e)) u.1)
      (f.links x k d p q)

  message-fits : (m : Msg) → T ((meaning l).pending m) → T (message_ok width (meaning l).seats m)
  unfolding meaning
  message-fits m t =
      let x = exists-pending l m t in
      subst (λ (n : Msg). T (message_ok width (seats_in l) n)) (message_at-place seats width m x)
      (f.messages (place seats width m) (place-within m x) (rw (meaning-pending l m x) at t))

  fits-sound : Sound seats width (meaning l)
  fits-sound = record {
    seats = seat-in;
    numbers = number_fits;
    vectors = vector-fits;
    unused = unused-fits;
    differ = numbers_fit;
    links = link_fits;
    messages = message-fits;
  }

module _ {l : List ℕ} (f : Form l) (h : Sound seats width (meaning l)) where
  -- a link's byte
  link-form : (s k : ℕ) (d : Side) → s < seats → k < levels → (get_or l (link_at s k d) 0 ≡ no_link) ⊎ (get_or l (link_at s k d) 0 < seats)
  link-form s k d p q = rw (← number_at-one l (link_at s k d)) (f.cells (link_cell s k d) (p, q))

  sound-unused : (s : ℕ) → s < seats → T (is_free ((seats_in l).state s)) → AsOpened l s
  unfolding meaning
  sound-unused s p t = let u = h.unused s t in (
    u.0,
    u.1,
    λ k d q. ⊎_elim
        (λ e. e)
        (λ e. none-some (sym (meaning-link l s k d p q) ∙ u.2 k d) (link_of-some (get_or l (link_at s k d) 0) e))
        (link-form s k d p q),
  )

  sound-link : (x k : ℕ) (d : Side) → x < seats → k < levels → LinkFits l x k d
  unfolding meaning
  sound-link x k d p q = let b = get_or l (link_at x k d) 0 in ⊎_elim
      (λ e. inl e)
      (λ e. inr (e, h.links x k b d (meaning-link l x k d p q ∙ link_of-some b e)))
      (link-form x k d p q)

  form-fits : Fits l
  unfolding meaning
  form-fits = record {
    phase = rw (← number_at-one l phase_at) (f.cells phase_cell tt);
    states = λ s p. rw (← number_at-one l (state_at s)) (f.cells (state_cell s) p);
    unused = sound-unused;
    differ = λ x y p q s t e. omega (arith, h.differ x y s t e);
    links = sound-link;
    messages = λ i p t. h.messages (message_at seats width i) (rw (meaning-bit l i p) t);
  }

pub sound-is : (l : List ℕ) → length l ≡ size → AreBytes l → (sound l ≡ true) ↔ (Form l × Sound seats width (meaning l))
sound-is l e b =
    (λ s. let f = (sound_fits l).0 s in (fits-form b f e, fits-sound b f), λ p. (sound_fits l).1 (form-fits p.0 p.1))

pub bytes-sound : {M : Meaning} → Sound seats width M → sound (bytes_of M) ≡ true
bytes-sound {M} h =
    (sound_fits (bytes_of M)).1 (form-fits (bytes-form h) (subst (λ (N : Meaning). Sound seats width N) (sym (meaning-bytes h)) h))

-- sound bytes with the same meaning are the same
pub same-sound-bytes : (l m : List ℕ) → length l ≡ size → length m ≡ size → AreBytes l → AreBytes m → sound l ≡ true → sound m ≡ true
    → meaning l ≡ meaning m → l ≡ m
same-sound-bytes l m e f a b s t q = same_bytes ((sound-is l e a).0 s).0 ((sound-is m f b).0 t).0 q
