-- One step of a bundle on the bytes l of a record, with the index x of its words and its top t beside them: what the index says, and the delivery
-- of the smallest message. Assumes nothing.
use Rattle.std.specs.Prelude.{ℕ, ◌≤◌, ◌<◌, ◌≡◌, Bool, true, not, List}
use Rattle.std.proofs.Math.Option.{some}
use Rattle.base.specs.Loops.{first_from}
use Rattle.memory.specs.inner.Words.{word_set}
use Rattle.graph.specs.Vector.{width}
use Rattle.protocol.specs.Message.{Msg, name_of}
use Rattle.protocol.specs.Order.{smallest}
use Rattle.protocol.specs.Calls.{deliver}
use Rattle.record.specs.Layout.{seats, pending_from}
use Rattle.record.specs.Meaning.{meaning}
use Rattle.record.specs.Call.{called}
use Rattle.index.specs.inner.Index.{words, is_noted, Exact}

-- the first word that has a pending message, or how many words there are
abbrev pub first_word : List ℕ → ℕ
first_word l = first_from words 0 (word_set l pending_from)

-- each noted word has a pending message, and each word below `reach` that has one is noted
pub record Tracks (l x : List ℕ) (t reach : ℕ) : Type 0 where
  pub exact : Exact x t
  pub within : reach ≤ words
  pub has : (w : ℕ) → w < words → is_noted x w ≡ true → word_set l pending_from w ≡ true
  pub all : (w : ℕ) → w < reach → word_set l pending_from w ≡ true → is_noted x w ≡ true

-- w is the first word that has a pending message, and is noted
pub record IsReady (l x : List ℕ) (w : ℕ) : Type 0 where
  pub word : first_word l < words
  pub first : w ≡ first_word l
  pub noted : is_noted x w ≡ true

-- x with word w struck out, if its last message is taken, is y, with the top u
pub record IsStruck (x : List ℕ) (w : ℕ) (last : Bool) (y : List ℕ) (u : ℕ) : Type 0 where
  pub exact : Exact y u
  pub own : is_noted y w ≡ not last
  pub others : (v : ℕ) → (v ≡ w → ⊥) → is_noted y v ≡ is_noted x v

-- the smallest message of l is delivered, which leaves l', and the index, now x' with the top t', goes on to say what it said
pub record IsDelivered (l x : List ℕ) (t : ℕ) (l' x' : List ℕ) (t' : ℕ) : Type 0 where
  pub message : Msg
  pub least : smallest seats width (meaning l).pending ≡ some message
  pub bytes : l' ≡ (called l (deliver (name_of message))).after
  pub goes_on : (reach : ℕ) → Tracks l x t reach → Tracks l' x' t' reach
