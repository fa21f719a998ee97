-- What a delivery may depend on and what it may change, in the bytes (document 01: "What its rule does follows from that entry, the message, and
-- the number and vector of the lots that its links or the message name"; document 02, #103). Assumes nothing.
use Rattle.std.specs.Prelude.{ℕ, ◌+◌, ◌≤◌, ◌<◌, ◌≡◌, ◌⊎◌, List, get_or}
use Rattle.std.proofs.Math.Option.{Option}
use Rattle.graph.specs.Side.{Side}
use Rattle.graph.specs.Vector.{width}
use Rattle.protocol.specs.Message.{Msg, meet, probe, seek, found, name_of}
use Rattle.protocol.specs.Rules.{set}
use Rattle.protocol.specs.pages.Deliver.{rule}
use Rattle.record.specs.Layout.{seats, levels, number_size, vector_size, link_size, entry_size, entry_at, number_from, vector_from, link_at}
use Rattle.record.specs.Meaning.{meaning}

-- the lots that a link byte of the entry of `to` or a message names
pub data NamesLot (l : List ℕ) : Msg → ℕ → Type 0 where
  by_link : {m : Msg} {z : ℕ} (k : ℕ) (d : Side) → k < levels → z < seats → get_or l (link_at (name_of m).to k d) 0 ≡ z → NamesLot l m z
  by_meet : {t a k : ℕ} → NamesLot l (meet t a k) a
  by_probe : {t a k : ℕ} → NamesLot l (probe t a k) a
  by_seek : {t a k : ℕ} → NamesLot l (seek t a k) a
  by_found : {t a k : ℕ} → NamesLot l (found t a k) a

-- the n bytes from a on are the same
abbrev pub SameBytes : (l l' : List ℕ) (a n : ℕ) → Type 0
SameBytes l l' a n = (i : ℕ) → i < n → get_or l (a + i) 0 ≡ get_or l' (a + i) 0

-- two records agree on what the delivery of a message may depend on
pub record AgreeBytes (l l' : List ℕ) (m : Msg) : Type 0 where
  pub entries : SameBytes l l' (entry_at (name_of m).to) entry_size
  pub numbers : (z : ℕ) → NamesLot l m z → SameBytes l l' (number_from z) number_size
  pub vectors : (z : ℕ) → NamesLot l m z → SameBytes l l' (vector_from z) vector_size

-- byte i is none of the n bytes from a on
abbrev pub Outside : (a n i : ℕ) → Type 0
Outside a n i = (i < a) ⊎ (a + n ≤ i)

-- byte i is none of those that hold the link that the rule of a message sets, if it sets one
abbrev pub BesideLink : List ℕ → Msg → (i : ℕ) → Type 0
BesideLink l m i =
    (k : ℕ) (d : Side) (o : Option ℕ) → (rule width (meaning l) m).change ≡ set k d o → Outside (link_at (name_of m).to k d) link_size i
