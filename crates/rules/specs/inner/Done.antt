-- What the effect of a rule does to the bytes of a record: the link of `to` is changed, then the messages are sent. Beside them stands an index of
-- the words of the pending bits (crate index), in which the word of each message sent is noted. The contracts of the handlers cite it; the
-- contracts of `deliver` and `bundle` do not. Assumes nothing.
use Rattle.std.specs.Prelude.{ℕ, ◌/◌, true, List, [], ◌∷◌, set}
use Rattle.memory.specs.Bits.{with_bit, set_bit}
use Rattle.graph.specs.Vector.{width}
use Rattle.protocol.specs.Message.{Msg}
use Rattle.protocol.specs.Numbering.{place}
use Rattle.protocol.specs.Rules.{Change, keep, Effect, set as set_link}
use Rattle.record.specs.Layout.{seats, link_at, pending_from}
use Rattle.record.specs.Meaning.{link_byte}
use Rattle.record.specs.inner.Sent.{sent_bits}
use Rattle.index.specs.inner.Index.{noting}

-- a change of the links of seat t
unfoldable pub changed : ℕ → Change → List ℕ → List ℕ
changed t keep l = l
changed t (set_link k d o) l = set l (link_at t k d) (link_byte o)

-- the effect of a rule at seat t
unfoldable pub done : ℕ → Effect → List ℕ → List ℕ
done t e l = sent_bits e.sent (changed t e.change l)

-- the bytes of a record, and beside them the index and its top
pub record Indexed : Type 0 where
  pub bytes : List ℕ
  pub index : List ℕ
  pub top : ℕ

abbrev pub indexed : (l x : List ℕ) (t : ℕ) → Indexed
indexed l x t = record { bytes = l; index = x; top = t }

-- the message at place i is sent, and its word noted
abbrev pub send_at : ℕ → Indexed → Indexed
send_at i b = indexed (set_bit b.bytes pending_from i) (noting b.index (i / 64) true) (with_bit b.top (i / 64 / 64) true)

-- messages sent one after the other
unfoldable pub send_all : List Msg → Indexed → Indexed
send_all [] b = b
send_all (m ∷ ms) b = send_all ms (send_at (place seats width m) b)

-- the effect of a rule at seat t
unfoldable pub carried : ℕ → Effect → Indexed → Indexed
carried t e b = send_all e.sent (indexed (changed t e.change b.bytes) b.index b.top)
