-- In phase clearing every delivery lowers the sum of the ranks of the pending messages, wherever links and messages lie on their sides.
-- Assumes nothing.
use Prim.Native.Nat.{ℕ, ◌+◌, ◌<◌}
use mathlib.Core.Path.{◌≡◌, refl, ap}
use mathlib.Core.Logic.{⊎_map}
use mathlib.Core.Option.{Option, none, some}
use mathlib.Core.List.{List, [], ◌∷◌, Memᴰ}
use native.Mathlib.Omega.{arith}
use lib.Dec.{T}
use Rattle.graph.specs.Side.{Side, side_of}
use Rattle.graph.specs.inner.Order.{Lt}
use Rattle.graph.proofs.Order.{lt_trans, lt-side, side-of}
use Rattle.base.proofs.Tests.{none-some}
use Rattle.protocol.specs.Message.{Msg, going, seek, found, none_found}
use Rattle.protocol.specs.Numbering.{exists}
use Rattle.protocol.specs.Rules.{to_link}
use Rattle.protocol.specs.State.{Meaning}
use Rattle.protocol.proofs.World.{World, State}
use Rattle.protocol.proofs.Sent.{is-sent}
use Rattle.protocol.proofs.Delivery.{state_of}
use Rattle.protocol.proofs.Clearing.{Sends, asks, answers, passes, gives_up, Cleared}
use Rattle.protocol.proofs.ClearingEffect.{Sided, s_going, s_seek, s_found, s_none}
use Rattle.protocol.proofs.Sum.{total, mass, mass-step}
use Rattle.protocol.proofs.Measure.{numbers, rank, room_most, room-less}
use Rattle.protocol.proofs.Ends.{Holds, total-link}

module _ (G : World) (Stay : ℕ → Type 0) where
  open G use {num, small}

  -- a list that holds all that a delivery sends, and ranks below its message
  Light : State → Msg → Type 0
  Light S m = (l : List Msg) × Holds (Sends G Stay S m) l × (total (rank num) l < rank num m)

  -- every link lies on its side
  module _ (S : State) (sides : (x k y : ℕ) (d : Side) → S.link x k d ≡ some y → Lt G.num d x y) (dec : (z : ℕ) → Dec (Stay z)) where
    going-light : (x k : ℕ) (d : Side) → Light S (going x k d)
    unfolding Light rank
    going-light x k d = (
      to_link (S.link x k d) (λ z. seek z x k),
      (λ n s. by s),
      omega (
        arith,
        total-link (rank num) (S.link x k d) (λ z. seek z x k) (numbers + 2) (λ z e. omega (arith, room_most num small (side_of (num x) (num z)) z)),
      ),
    )
      where
        by : {n : Msg} → Sends G Stay S (going x k d) n → Memᴰ n (to_link (S.link x k d) (λ z. seek z x k))
        by (asks st e) = search is-sent

    seek-light : (z x k : ℕ) (d : Side) → Lt num d x z → Dec (Stay z) → (v : Option ℕ) → S.link z k d ≡ v → Light S (seek z x k)
    unfolding Light total rank
    seek-light z x k d l (yes st) v e = (found x z k ∷ [], (λ n s. by s), omega arith)
      where
        by : {n : Msg} → Sends G Stay S (seek z x k) n → Memᴰ n (found x z k ∷ [])
        by (answers s) = search is-sent
        by (passes ns m f) = absurd (ns st)
        by (gives_up ns m f) = absurd (ns st)
    seek-light z x k d l (no ns) none e = (none_found x k d ∷ [], (λ n s. by s), omega arith)
      where
        by : {n : Msg} → Sends G Stay S (seek z x k) n → Memᴰ n (none_found x k d ∷ [])
        by (answers s) = absurd (ns s)
        by (passes ns' m f) = none-some e (rw (lt-side m l) at f)
        by (gives_up ns' m f) = Memᴰ.head (ap (λ (c : Side). none_found x k c) (lt-side m l))
    seek-light z x k d l (no ns) (some w) e =
        let n = sides z k w d e in
        (seek w x k ∷ [], (λ n s. by s), rw (side-of num l, side-of num (lt_trans l n)) (omega (arith, room-less num small n)))
      where
        by : {n : Msg} → Sends G Stay S (seek z x k) n → Memᴰ n (seek w x k ∷ [])
        by (answers s) = absurd (ns s)
        by (passes {w = v} ns' m f) =
            let g : S.link z k d ≡ some v = rw (lt-side m l) at f in
            let r : v ≡ w = cc in
            Memᴰ.head (ap (λ (y : ℕ). seek y x k) r)
        by (gives_up ns' m f) = none-some (rw (lt-side m l) at f) e

    light : {m : Msg} → Sided G m → Light S m
    unfolding Light total rank
    light (s_going {x} {k} {d}) = going-light x k d
    light (s_seek {z} {x} {k} {d} l) = seek-light z x k d l (dec z) (S.link z k d) refl
    light (s_found l) = ([], (λ n s. elim s [ ]), omega arith)
    light s_none = ([], (λ n s. elim s [ ]), omega arith)

  pub clearing-less : (N W : ℕ) (M M' : Meaning) {m : Msg} → ((x k y : ℕ) (d : Side) → M.link x k d ≡ some y → Lt G.num d x y)
      → ((z : ℕ) → Dec (Stay z)) → Sided G m → Cleared G Stay (state_of M) m (state_of M') → T (exists N W m)
      → mass N W (rank num) M'.pending < mass N W (rank num) M.pending
  unfolding Light
  clearing-less N W M M' {m = m} b dec s t x =
      let (l, h, q) = light (state_of M) b dec s in
      omega (arith, mass-step N W (rank num) M.pending M'.pending m l x t.was (λ n u. ⊎_map (λ p. p) (h n) (t.only u)))
