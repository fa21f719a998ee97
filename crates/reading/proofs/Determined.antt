-- The answer of a reading is determined by its numbers. Assumes nothing.
use mathlib.Core.Path.{◌≡◌, refl, sym, ap, ◌∙◌}
use mathlib.Core.Bool.{Bool, true, false}
use native.Mathlib.Omega.{arith}
use Rattle.std.specs.Prelude.{ℕ, zero, suc, Result, Ok, Err, Option, None, Some}
use Rattle.record.specs.Answer.{refusal_number}
use Rattle.record.specs.Meaning.{phase_byte, state_byte}
use Rattle.record.specs.Reading.{LotAnswer, LinkAnswer, MessageAnswer, CountAnswer, NextAnswer}
use Rattle.record.specs.declared.refusals.Refusal.{Refusal}
use Rattle.record.specs.declared.states.Phase.{Phase}
use Rattle.record.specs.declared.states.Phase.TheVariants.{Open, Clearing}
use Rattle.record.specs.declared.states.State.{State}
use Rattle.record.specs.declared.states.State.TheVariants.{Free, Staying, Leaving, Reserved}
use Rattle.record.specs.Code.{as_phase, as_state}
use Rattle.record.proofs.Determined.{refusal_number-positive, refusal-determined}
use Rattle.messages.specs.declared.Message.{Message}
use Rattle.reading.specs.declared.Lot.{Lot}
use Rattle.reading.specs.declared.Counts.{Counts}
use Rattle.reading.specs.Answer.{lot_numbers, link_numbers, LinkNumbered, message_numbers, count_numbers, next_numbers, NextNumbered}

-- a phase and a state by their bytes
abbrev phase_at : ℕ → Phase
phase_at zero = Open
phase_at (suc n) = Clearing

phase-again : (p : Phase) → phase_at (phase_byte (as_phase p)) ≡ p
phase-again Open = refl
phase-again Clearing = refl

abbrev state_at : ℕ → State
state_at zero = Free
state_at (suc zero) = Staying
state_at (suc (suc zero)) = Leaving
state_at (suc (suc (suc n))) = Reserved

state-again : (s : State) → state_at (state_byte (as_state s)) ≡ s
state-again Free = refl
state-again Staying = refl
state-again Leaving = refl
state-again Reserved = refl

-- a refusal by its number, and that it is none of an accepted reading
refused-same : {A : Type 0} (r s : Refusal) → refusal_number r ≡ refusal_number s → ◌≡◌ {A = Result A Refusal} (Err r) (Err s)
refused-same r s e = ap Err (refusal-determined r s e)

not-accepted : (r : Refusal) → refusal_number r ≡ 0 → ⊥
not-accepted r e = omega (arith, e, refusal_number-positive r)

pub lot-determined : (a b : Result Lot Refusal) → lot_numbers a ≡ lot_numbers b → a ≡ b
lot-determined (Err r) (Err s) e = refused-same r s (ap (λ (x : LotAnswer). x.refused) e)
lot-determined (Err r) (Ok x) e = absurd (not-accepted r (ap (λ (x : LotAnswer). x.refused) e))
lot-determined (Ok x) (Err r) e = absurd (not-accepted r (sym (ap (λ (x : LotAnswer). x.refused) e)))
lot-determined (Ok x) (Ok y) e =
    ap (λ s. Ok (record { state = s; number = x.number; vector = x.vector })) (sym (state-again x.state))
    ∙ ap (λ (z : LotAnswer). Ok (record { state = state_at z.state; number = z.number; vector = z.vector })) e
    ∙ ap (λ s. Ok (record { state = s; number = y.number; vector = y.vector })) (state-again y.state)

pub link-determined : (a b : Result (Option ℕ) Refusal) → LinkNumbered a → LinkNumbered b → link_numbers a ≡ link_numbers b → a ≡ b
link-determined (Err r) (Err s) p q e = refused-same r s (ap (λ (x : LinkAnswer). x.refused) e)
link-determined (Err r) (Ok None) p q e = absurd (not-accepted r (ap (λ (x : LinkAnswer). x.refused) e))
link-determined (Err r) (Ok (Some s)) p q e = absurd (not-accepted r (ap (λ (x : LinkAnswer). x.refused) e))
link-determined (Ok None) (Err r) p q e = absurd (not-accepted r (sym (ap (λ (x : LinkAnswer). x.refused) e)))
link-determined (Ok (Some s)) (Err r) p q e = absurd (not-accepted r (sym (ap (λ (x : LinkAnswer). x.refused) e)))
link-determined (Ok None) (Ok None) p q e = refl
link-determined (Ok None) (Ok (Some t)) p q e = absurd (omega (arith, q, ap (λ (x : LinkAnswer). x.seat) e))
link-determined (Ok (Some s)) (Ok None) p q e = absurd (omega (arith, p, ap (λ (x : LinkAnswer). x.seat) e))
link-determined (Ok (Some s)) (Ok (Some t)) p q e = ap (λ (x : LinkAnswer). Ok (Some x.seat)) e

pub message-determined : (a b : Result Bool Refusal) → message_numbers a ≡ message_numbers b → a ≡ b
message-determined (Err r) (Err s) e = refused-same r s (ap (λ (x : MessageAnswer). x.refused) e)
message-determined (Err r) (Ok b) e = absurd (not-accepted r (ap (λ (x : MessageAnswer). x.refused) e))
message-determined (Ok b) (Err r) e = absurd (not-accepted r (sym (ap (λ (x : MessageAnswer). x.refused) e)))
message-determined (Ok true) (Ok true) e = refl
message-determined (Ok true) (Ok false) e = absurd (omega (arith, ap (λ (x : MessageAnswer). x.pending) e))
message-determined (Ok false) (Ok true) e = absurd (omega (arith, ap (λ (x : MessageAnswer). x.pending) e))
message-determined (Ok false) (Ok false) e = refl

pub counts-determined : (a b : Result Counts Refusal) → count_numbers a ≡ count_numbers b → a ≡ b
counts-determined (Err r) (Err s) e = refused-same r s (ap (λ (x : CountAnswer). x.refused) e)
counts-determined (Err r) (Ok x) e = absurd (not-accepted r (ap (λ (x : CountAnswer). x.refused) e))
counts-determined (Ok x) (Err r) e = absurd (not-accepted r (sym (ap (λ (x : CountAnswer). x.refused) e)))
counts-determined (Ok x) (Ok y) e =
    ap (λ p. Ok (record { lots = x.lots; phase = p; pending = x.pending })) (sym (phase-again x.phase))
    ∙ ap (λ (z : CountAnswer). Ok (record { lots = z.lots; phase = phase_at z.phase; pending = z.pending })) e
    ∙ ap (λ p. Ok (record { lots = y.lots; phase = p; pending = y.pending })) (phase-again y.phase)

pub next-determined : (a b : Result (Option Message) Refusal) → NextNumbered a → NextNumbered b → next_numbers a ≡ next_numbers b → a ≡ b
next-determined (Err r) (Err s) p q e = refused-same r s (ap (λ (x : NextAnswer). x.refused) e)
next-determined (Err r) (Ok None) p q e = absurd (not-accepted r (ap (λ (x : NextAnswer). x.refused) e))
next-determined (Err r) (Ok (Some m)) p q e = absurd (not-accepted r (ap (λ (x : NextAnswer). x.refused) e))
next-determined (Ok None) (Err r) p q e = absurd (not-accepted r (sym (ap (λ (x : NextAnswer). x.refused) e)))
next-determined (Ok (Some m)) (Err r) p q e = absurd (not-accepted r (sym (ap (λ (x : NextAnswer). x.refused) e)))
next-determined (Ok None) (Ok None) p q e = refl
next-determined (Ok None) (Ok (Some m)) p q e = absurd (omega (arith, q, ap (λ (x : NextAnswer). x.kind) e))
next-determined (Ok (Some m)) (Ok None) p q e = absurd (omega (arith, p, ap (λ (x : NextAnswer). x.kind) e))
next-determined (Ok (Some m)) (Ok (Some n)) p q e =
    ap (λ (x : NextAnswer). Ok (Some (record { kind = x.kind; to = x.to; about = x.about; level = x.level; side = x.side }))) e
