-- A byte of the phase or of a state that is set: the clauses of soundness that do not name it are as before, if the seats read as before.
-- Assumes nothing.
use Prim.Native.Nat.{ℕ, ◌<◌}
use mathlib.Core.Path.{◌≡◌, ap, ◌∙◌}
use mathlib.Core.Logic.{inl, inr, ⊎_elim}
use mathlib.Core.Bool.{Bool, false, cond, not, ◌&&◌, ◌||◌}
use mathlib.Core.List.{List}
use native.Mathlib.Omega.{arith}
use lib.Dec.{eqb, ltb}
use lib.ListN.{length, get_or, set}
use lib.Seq.{get_or-set_same, get_or-set_other}
use Rattle.base.proofs.All.{all_same, all-fails}
use Rattle.base.proofs.Cases.{lt-or-ge, eq-or-ne}
use Rattle.memory.specs.Bytes.{number_at}
use Rattle.memory.specs.Bits.{bit_set}
use Rattle.memory.proofs.Bytes.{number_at-set-other}
use Rattle.memory.proofs.Bitmap.{bit_set-set-other}
use Rattle.graph.specs.Side.{Side, left, right}
use Rattle.graph.specs.Vector.{width}
use Rattle.protocol.specs.Numbering.{message_at}
use Rattle.protocol.specs.Rules.{free}
use Rattle.protocol.specs.Sound.{message_ok}
use Rattle.protocol.proofs.Numbering.{side_number-lt}
use Rattle.record.specs.Layout.{states, seats, levels, no_link, number_size, vector_size, messages}
use Rattle.record.specs.Layout.{phase_at, state_at, number_from, vector_from, link_at, pending_from}
use Rattle.record.specs.Meaning.{phase_of, state_of, seats_in}
use Rattle.record.specs.Sound.{phase_fits, states_fit, as_opened, unused_fit, numbers_differ, link_fits, links_fit, messages_fit}

-- two records whose seats, links and messages read the same
pub record Alike (l m : List ℕ) : Type 0 where
  pub seats_alike : seats_in l ≡ seats_in m
  pub links_alike : (x k : ℕ) (d : Side) → x < seats → k < levels → get_or l (link_at x k d) 0 ≡ get_or m (link_at x k d) 0
  pub bits_alike : (i : ℕ) → bit_set l pending_from i ≡ bit_set m pending_from i

module _ {l m : List ℕ} (a : Alike l m) where
  pub unused-alike : unused_fit l ≡ unused_fit m
  unfolding unused_fit as_opened
  unused-alike = all_same seats _ _ (λ s h.
      let e = all_same levels
      (λ k. eqb (get_or l (link_at s k left) 0) no_link && eqb (get_or l (link_at s k right) 0) no_link)
      (λ k. eqb (get_or m (link_at s k left) 0) no_link && eqb (get_or m (link_at s k right) 0) no_link)
      (λ k g. rw (a.links_alike s k left h g, a.links_alike s k right h g)) in
      rw (a.seats_alike, e))

  pub numbers-alike : numbers_differ l ≡ numbers_differ m
  unfolding numbers_differ
  numbers-alike = rw a.seats_alike

  pub links-fit-alike : links_fit l ≡ links_fit m
  unfolding links_fit link_fits
  links-fit-alike = all_same seats _ _ (λ x h. all_same levels _ _ (λ k g.
      rw (a.links_alike x k left h g, a.links_alike x k right h g, a.seats_alike)))

  pub messages-alike : messages_fit l ≡ messages_fit m
  unfolding messages_fit
  messages-alike = all_same messages _ _ (λ i h.
      ap (λ (b : Bool). not b || message_ok width (seats_in l) (message_at seats width i)) (a.bits_alike i) ∙ rw a.seats_alike)

-- the byte of the phase
module _ (l : List ℕ) (v : ℕ) (within : phase_at < length l) where
  pub phase-set : phase_fits (set l phase_at v) ≡ ltb v 2
  unfolding phase_fits
  phase-set = rw (get_or-set_same l phase_at v 0 within)

  pub states-beside : states_fit (set l phase_at v) ≡ states_fit l
  unfolding states_fit
  states-beside = all_same seats _ _ (λ s h. rw (get_or-set_other l phase_at (state_at s) v 0 (λ e. omega arith)))

  pub phase-alike : phase_of v ≡ phase_of (get_or l phase_at 0) → Alike (set l phase_at v) l
  unfolding seats_in
  phase-alike e = record {
    seats_alike = λ i. record {
      phase = (ap phase_of (get_or-set_same l phase_at v 0 within) ∙ e) i;
      state = λ x. cond (ltb x seats) (state_of (get_or-set_other l phase_at (state_at x) v 0 (λ e. omega arith) i)) free;
      number = λ x. cond (ltb x seats) (number_at-set-other l phase_at v (number_from x) number_size (inr (omega arith)) i) 0;
      vector = λ x. cond (ltb x seats) (number_at-set-other l phase_at v (vector_from x) vector_size (inr (omega arith)) i) 0;
    };
    links_alike = λ x k d h g. get_or-set_other l phase_at (link_at x k d) v 0 (λ e. omega arith);
    bits_alike = λ i. bit_set-set-other l pending_from i phase_at v (λ e. omega arith);
  }

-- the byte of a state
module _ (l : List ℕ) (s v : ℕ) (h : s < seats) (within : state_at s < length l) where
  pub state-set : ltb v states ≡ false → states_fit (set l (state_at s) v) ≡ false
  unfolding states_fit
  state-set e = all-fails seats s _ h (rw (get_or-set_same l (state_at s) v 0 within) e)

  pub phase-beside : phase_fits (set l (state_at s) v) ≡ phase_fits l
  unfolding phase_fits
  phase-beside = rw (get_or-set_other l (state_at s) phase_at v 0 (λ e. omega arith))

  state-alike-at : state_of v ≡ state_of (get_or l (state_at s) 0) → (x : ℕ)
      → state_of (get_or (set l (state_at s) v) (state_at x) 0) ≡ state_of (get_or l (state_at x) 0)
  state-alike-at e x = ⊎_elim
      (λ q. rw q (ap state_of (get_or-set_same l (state_at s) v 0 within) ∙ e))
      (λ q. ap state_of (get_or-set_other l (state_at s) (state_at x) v 0 (λ f. q (omega arith))))
      (eq-or-ne x s)

  number-beside : (x : ℕ) → number_at (set l (state_at s) v) (number_from x) number_size ≡ number_at l (number_from x) number_size
  number-beside x = number_at-set-other l (state_at s) v (number_from x) number_size
      (⊎_elim (λ q. inl (omega arith)) (λ q. inr (omega arith)) (lt-or-ge x s))

  vector-beside : (x : ℕ) → number_at (set l (state_at s) v) (vector_from x) vector_size ≡ number_at l (vector_from x) vector_size
  vector-beside x = number_at-set-other l (state_at s) v (vector_from x) vector_size
      (⊎_elim (λ q. inl (omega arith)) (λ q. inr (omega arith)) (lt-or-ge x s))

  link-beside : (x k : ℕ) (d : Side) → k < levels → get_or (set l (state_at s) v) (link_at x k d) 0 ≡ get_or l (link_at x k d) 0
  link-beside x k d g = get_or-set_other l (state_at s) (link_at x k d) v 0 (λ e.
      ⊎_elim (λ q. omega (arith, side_number-lt d)) (λ q. omega (arith, side_number-lt d)) (lt-or-ge x s))

  pub state-alike : state_of v ≡ state_of (get_or l (state_at s) 0) → Alike (set l (state_at s) v) l
  unfolding seats_in
  state-alike e = record {
    seats_alike = λ i. record {
      phase = phase_of (get_or-set_other l (state_at s) phase_at v 0 (λ e. omega arith) i);
      state = λ x. cond (ltb x seats) (state-alike-at e x i) free;
      number = λ x. cond (ltb x seats) (number-beside x i) 0;
      vector = λ x. cond (ltb x seats) (vector-beside x i) 0;
    };
    links_alike = λ x k d q g. link-beside x k d g;
    bits_alike = λ i. bit_set-set-other l pending_from i (state_at s) v (λ e. omega arith);
  }
