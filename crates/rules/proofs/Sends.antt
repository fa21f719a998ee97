-- Messages sent one after the other: a list and another after it, one to a link, and the bytes and the index that are left. Assumes nothing.
use Prim.Native.Nat.{ℕ}
use mathlib.Core.Path.{◌≡◌, refl}
use mathlib.Core.Option.{none, some}
use mathlib.Core.List.{List, [], ◌∷◌, ◌++◌}
use Rattle.graph.specs.Vector.{width}
use Rattle.protocol.specs.Message.{Msg}
use Rattle.protocol.specs.Numbering.{place}
use Rattle.protocol.specs.Rules.{Effect, to_link}
use Rattle.record.specs.Layout.{seats}
use Rattle.record.specs.inner.Sent.{sent_bits}
use Rattle.rules.specs.inner.Done.{changed, done, Indexed, indexed, send_at, send_all, carried}

pub send-more : (m : Msg) (ms : List Msg) (b : Indexed) → send_all (m ∷ ms) b ≡ send_all ms (send_at (place seats width m) b)
unfolding send_all
send-more m ms b = refl

pub send-append : (ms ns : List Msg) (b : Indexed) → send_all (ms ++ ns) b ≡ send_all ns (send_all ms b)
unfolding send_all
send-append [] ns b = refl
send-append (m ∷ ms) ns b = send-append ms ns (send_at (place seats width m) b)

module _ (f : ℕ → Msg) (b : Indexed) where
  pub send-link : (z : ℕ) → send_all (to_link (some z) f) b ≡ send_at (place seats width (f z)) b
  unfolding send_all to_link
  send-link z = refl

  pub send-no-link : send_all (to_link none f) b ≡ b
  unfolding send_all to_link
  send-no-link = refl

-- the bytes are those of the effect
send-bytes : (ms : List Msg) (b : Indexed) → (send_all ms b).bytes ≡ sent_bits ms b.bytes
unfolding send_all sent_bits
send-bytes [] b = refl
send-bytes (m ∷ ms) b = send-bytes ms (send_at (place seats width m) b)

pub carried-bytes : (t : ℕ) (e : Effect) (b : Indexed) → (carried t e b).bytes ≡ done t e b.bytes
unfolding carried done
carried-bytes t e b = send-bytes e.sent (indexed (changed t e.change b.bytes) b.index b.top)

-- a rule that sends nothing leaves the index
pub carried-silent : (t : ℕ) (e : Effect) (l x : List ℕ) (u : ℕ) {y : List ℕ} → e.sent ≡ [] → y ≡ done t e l
    → indexed y x u ≡ carried t e (indexed l x u)
unfolding carried done send_all sent_bits
carried-silent t e l x u s d = rw (d, s)
