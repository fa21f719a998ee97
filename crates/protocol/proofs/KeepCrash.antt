-- An accepted crash keeps soundness; which MEETs it sends: of each link that is left above level 0 two, to each end about the other. Assumes nothing.
use Prim.Native.Nat.{ℕ, suc, ◌<◌}
use mathlib.Core.Path.{◌≡◌, refl, sym, subst}
use mathlib.Core.Logic.{◌⊎◌, inl, inr, ⊎_elim}
use mathlib.Core.Option.{none, some}
use mathlib.Core.Bool.{Bool, true, false, cond}
use mathlib.Core.List.Memᴰ
use mathlib.Core.List.{List, [], Memᴰ}
use native.Mathlib.Omega.{arith}
use lib.Dec.{T, eqb}
use Rattle.base.specs.Bits.{has_bit}
use Rattle.graph.specs.Side.{Side, left, right}
use Rattle.graph.specs.Graph.{Links}
use Rattle.protocol.specs.Message.{Msg, meet}
use Rattle.protocol.specs.State.{open_phase, Seats, Meaning}
use Rattle.protocol.specs.Calls.{crash, seats_after, sends, takes, links_after, accept}
use Rattle.protocol.specs.Page.{pending_after}
use Rattle.protocol.specs.Freeing.{freeing, unlinking}
use Rattle.protocol.specs.pages.Crash.{introduced, introductions}
use Rattle.protocol.specs.Sound.{message_ok, Sound}
use Rattle.protocol.proofs.Sent.{All, all-at, all-sent, in-each, is-sent}
use Rattle.protocol.proofs.SoundFacts.{Two, p-meet, proper-ok, two-sym, pending-after}
use Rattle.protocol.proofs.KeepFreeing.{left-linked, freed-sound}

-- a MEET of a crash: of a link above level 0, to one end about the other
pub record Introduction (L : Links) (m : Msg) : Type 0 where
  pub lot : ℕ
  pub level : ℕ
  pub side : Side
  pub other : ℕ
  pub link : L lot (suc level) side ≡ some other
  pub says : (m ≡ meet lot other 0) ⊎ (m ≡ meet other lot 0)

all-introductions : (N W : ℕ) (L : Links) → All (Introduction L) (introductions N W L)
unfolding introductions introduced
all-introductions N W L = search (all-sent, here, there) depth 9
  where
    here : (x k y : ℕ) (d : Side) → L x (suc k) d ≡ some y → Introduction L (meet x y 0)
    here x k y d e = record { lot = x; level = k; side = d; other = y; link = e; says = inl refl }

    there : (x k y : ℕ) (d : Side) → L x (suc k) d ≡ some y → Introduction L (meet y x 0)
    there x k y d e = record { lot = x; level = k; side = d; other = y; link = e; says = inr refl }

pub introduction-out : (N W : ℕ) (L : Links) {m : Msg} → Memᴰ m (introductions N W L) → Introduction L m
introduction-out N W L h = all-at (all-introductions N W L) h

pub introduction-in : (N W : ℕ) (L : Links) (x k y : ℕ) (d : Side) → x < N → k < W → L x (suc k) d ≡ some y
    → Memᴰ (meet x y 0) (introductions N W L)
unfolding introductions introduced
introduction-in N W L x k y left lx lk e = in-each N _ x lx (in-each W _ k lk (search is-sent))
introduction-in N W L x k y right lx lk e = in-each N _ x lx (in-each W _ k lk (search is-sent))

module _ {N W : ℕ} {M : Meaning} (h : Sound N W M) (still : (m : Msg) → T (M.pending m) → ⊥) (opens : M.seats.phase ≡ open_phase) (set : ℕ) where
  abbrev r' : Seats
  r' = freeing (has_bit set) M.seats.phase M.seats

  abbrev L' : Links
  L' = unlinking (has_bit set) M.link

  meets : (m : Msg) → Introduction L' m → T (message_ok W r' m)
  meets m i =
      let t = (left-linked h (has_bit set) M.seats.phase i.lot (suc i.level) i.other i.side i.link).0 in
      let z : Two W r' 0 i.lot i.other = record { one = t.one; two = t.two; apart = t.apart; bits = omega arith } in
      ⊎_elim (λ e. fits e z) (λ e. fits e (two-sym z)) i.says
    where
      fits : {x y : ℕ} → m ≡ meet x y 0 → Two W r' 0 x y → T (message_ok W r' m)
      fits e t = subst (λ (n : Msg). T (message_ok W r' n)) (sym e) (proper-ok W r' opens (p-meet t))

  pub crash-sound : Sound N W (accept N W M (crash set))
  unfolding accept seats_after links_after sends takes
  crash-sound = freed-sound h (has_bit set) M.seats.phase (pending_after (sent (eqb set 0)) none M.pending)
      (pending-after (λ m. T (message_ok W r' m)) (sent (eqb set 0)) none M.pending (λ m t. absurd (still m t)) (told (eqb set 0)))
    where
      sent : Bool → List Msg
      sent b = cond b [] (introductions N W L')

      told : (b : Bool) (m : Msg) → Memᴰ m (sent b) → T (message_ok W r' m)
      told true m q = absurd (Memᴰ.not-nil q)
      told false m q = meets m (introduction-out N W L' q)
