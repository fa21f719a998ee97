-- A byte as a phase, a state and a link, and back. Assumes nothing.
use Prim.Native.Nat.{ℕ, zero, suc, ◌<◌}
use mathlib.Core.Path.{◌≡◌, refl}
use mathlib.Core.Logic.{◌⊎◌, inl, inr, ⊎_elim}
use mathlib.Core.Option.{Option, none, some}
use native.Mathlib.Omega.{arith}
use lib.Dec.{T}
use borrow.Author.Tests.{lt-ltb}
use Rattle.protocol.specs.Rules.{SeatState, free, staying, leaving, reserved}
use Rattle.protocol.specs.State.{Phase, open_phase, clearing, is_free}
use Rattle.record.specs.Layout.{seats, states, no_link}
use Rattle.record.specs.Meaning.{phase_of, state_of, link_of, phase_byte, state_byte, link_byte}

-- a link is none or names a seat
abbrev pub NamesSeat : Option ℕ → Type 0
NamesSeat o = (y : ℕ) → o ≡ some y → y < seats

pub phase_byte-phase_of : (b : ℕ) → b < 2 → phase_byte (phase_of b) ≡ b
unfolding phase_of
phase_byte-phase_of zero h = refl
phase_byte-phase_of (suc zero) h = refl
phase_byte-phase_of (suc (suc b)) h = absurd (omega arith)

pub phase_of-phase_byte : (p : Phase) → phase_of (phase_byte p) ≡ p
unfolding phase_of
phase_of-phase_byte open_phase = refl
phase_of-phase_byte clearing = refl

pub state_byte-state_of : (b : ℕ) → b < states → state_byte (state_of b) ≡ b
unfolding state_of
state_byte-state_of zero h = refl
state_byte-state_of (suc zero) h = refl
state_byte-state_of (suc (suc zero)) h = refl
state_byte-state_of (suc (suc (suc zero))) h = refl
state_byte-state_of (suc (suc (suc (suc b)))) h = absurd (omega arith)

pub state_of-state_byte : (s : SeatState) → state_of (state_byte s) ≡ s
unfolding state_of
state_of-state_byte free = refl
state_of-state_byte staying = refl
state_of-state_byte leaving = refl
state_of-state_byte reserved = refl

pub link_byte-link_of : (b : ℕ) → (b ≡ no_link) ⊎ (b < seats) → link_byte (link_of b) ≡ b
unfolding link_of
link_byte-link_of b (inl e) = rw e
link_byte-link_of b (inr h) = rw (lt-ltb b seats h)

pub link_of-link_byte : (o : Option ℕ) → NamesSeat o → link_of (link_byte o) ≡ o
unfolding link_of
link_of-link_byte none h = refl
link_of-link_byte (some y) h = rw (lt-ltb y seats (h y refl))

-- the bytes that these values have
pub phase_byte-lt : (p : Phase) → phase_byte p < 2
phase_byte-lt open_phase = omega arith
phase_byte-lt clearing = omega arith

pub state_byte-lt : (s : SeatState) → state_byte s < states
state_byte-lt free = omega arith
state_byte-lt staying = omega arith
state_byte-lt leaving = omega arith
state_byte-lt reserved = omega arith

pub link_byte-lt : (o : Option ℕ) → NamesSeat o → (link_byte o ≡ no_link) ⊎ (link_byte o < seats)
link_byte-lt none h = inl refl
link_byte-lt (some y) h = inr (h y refl)

pub link_byte-byte : (o : Option ℕ) → NamesSeat o → link_byte o < 256
link_byte-byte o h = ⊎_elim (λ e. omega arith) (λ e. omega arith) (link_byte-lt o h)

pub is_free-free : (s : SeatState) → T (is_free s) → s ≡ free
is_free-free free t = refl
is_free-free staying t = absurd t
is_free-free leaving t = absurd t
is_free-free reserved t = absurd t
