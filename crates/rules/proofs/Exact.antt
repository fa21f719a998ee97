-- An index whose top is exact keeps an exact one: when messages that exist are sent, and so when a rule is done. Assumes nothing.
use Prim.Native.Nat.{ℕ, ◌/◌, ◌<◌}
use mathlib.Core.Path.{refl}
use mathlib.Core.List.{List, [], ◌∷◌, Memᴰ}
use native.Mathlib.Omega.{arith}
use lib.Dec.{T}
use Rattle.graph.specs.Vector.{width}
use Rattle.protocol.specs.Message.{Msg, name_of}
use Rattle.protocol.specs.Numbering.{exists, place}
use Rattle.protocol.specs.Rules.{Effect}
use Rattle.protocol.specs.pages.Deliver.{rule}
use Rattle.record.specs.Layout.{seats, messages}
use Rattle.record.specs.Meaning.{meaning}
use Rattle.record.proofs.Places.{place-within}
use Rattle.index.specs.inner.Index.{Exact}
use Rattle.index.proofs.Noted.{note-exact}
use Rattle.rules.specs.inner.Done.{Indexed, indexed, changed, send_at, send_all, carried}
use Rattle.rules.proofs.Exists.{rule-exists}

pub send-exact : (ms : List Msg) → ((m : Msg) → Memᴰ m ms → T (exists seats width m)) → (b : Indexed) → Exact b.index b.top
    → let a = send_all ms b in Exact a.index a.top
unfolding send_all
send-exact [] h b e = e
send-exact (m ∷ ms) h b e =
    let w : place seats width m < messages = place-within m (h m (Memᴰ.head refl)) in
    send-exact ms (λ n q. h n (Memᴰ.tail q)) (send_at (place seats width m) b) (note-exact (place seats width m / 64) (omega arith) e)

-- the effect of a rule whose messages exist
pub carried-exact : (t : ℕ) (f : Effect) → ((m : Msg) → Memᴰ m f.sent → T (exists seats width m)) → (b : Indexed) → Exact b.index b.top
    → let a = carried t f b in Exact a.index a.top
unfolding carried
carried-exact t f h b e = send-exact f.sent h (indexed (changed t f.change b.bytes) b.index b.top) e

-- the rule of a message that exists, on any bytes
pub rule-exact : (l x : List ℕ) (t : ℕ) (m : Msg) → T (exists seats width m) → Exact x t
    → let a = carried (name_of m).to (rule width (meaning l) m) (indexed l x t) in Exact a.index a.top
rule-exact l x t m h e = carried-exact (name_of m).to (rule width (meaning l) m) (rule-exists l m h) (indexed l x t) e
