-- What a delivery may depend on (document 01: "What its rule does follows from that entry, the message, and the number and vector of
-- the lots that its links or the message name"). Assumes nothing.
use Rattle.std.specs.Prelude.{ℕ, ◌≡◌}
use Rattle.std.proofs.Math.Option.{some}
use Rattle.graph.specs.Side.{Side}
use Rattle.protocol.specs.Message.{Msg, meet, probe, seek, found, name_of}
use Rattle.protocol.specs.Rules.{Entry}
use Rattle.protocol.specs.State.{Meaning, entry}

-- the lots that an entry's links or a message name
pub data Names (e : Entry) : Msg → ℕ → Type 0 where
  by_link : {m : Msg} {z k : ℕ} {d : Side} → e.link k d ≡ some z → Names e m z
  by_meet : {t a l : ℕ} → Names e (meet t a l) a
  by_probe : {t a l : ℕ} → Names e (probe t a l) a
  by_seek : {t a l : ℕ} → Names e (seek t a l) a
  by_found : {t a l : ℕ} → Names e (found t a l) a

-- two meanings agree on what the delivery of a message may depend on
pub record AgreeFor (M M' : Meaning) (m : Msg) : Type 0 where
  pub entries : entry M (name_of m).to ≡ entry M' (name_of m).to
  pub numbers : (z : ℕ) → Names (entry M (name_of m).to) m z → M.seats.number z ≡ M'.seats.number z
  pub vectors : (z : ℕ) → Names (entry M (name_of m).to) m z → M.seats.vector z ≡ M'.seats.vector z
