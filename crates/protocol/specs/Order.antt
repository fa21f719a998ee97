-- Messages by their five numbers in order (document 01, "The program"): kind, then to, about, level and side; and the smallest of those that
-- are pending. Assumes nothing.
use Rattle.std.specs.Prelude.{ℕ, zero, suc, Bool, not, cond, ◌&&◌, ◌||◌, eqb, ltb}
use Rattle.std.proofs.Math.Option.{Option, none, some}
use Rattle.protocol.specs.Message.{Msg, Name, name, name_of}
use Rattle.protocol.specs.Numbering.{count, message_at}

-- by two numbers, and where they are equal by what comes after them
unfoldable pub or_next : (a b : ℕ) → Bool → Bool
or_next a b next = ltb a b || (eqb a b && next)

-- m is smaller than n by the first of their five numbers that differs
unfoldable pub before : (m n : Name) → Bool
before m n =
    or_next m.kind n.kind (or_next m.to n.to (or_next m.about n.about (or_next m.level n.level (ltb m.side n.side))))

-- the smaller of two messages, if there is a first
unfoldable pub smaller : Option Msg → Msg → Option Msg
smaller none m = some m
smaller (some b) m = cond (before (name_of m) (name_of b)) (some m) (some b)

module _ (N W : ℕ) where
  -- the smallest message for which p holds, of those at the first i places; their order does not matter here
  unfoldable pub smallest_of : (p : Msg → Bool) → (i : ℕ) → Option Msg
  smallest_of p zero = none
  smallest_of p (suc i) = let m = message_at N W i in cond (p m) (smaller (smallest_of p i) m) (smallest_of p i)

  -- the smallest pending message that is not smaller than five given numbers, if there is one
  unfoldable pub smallest_from : (pending : Msg → Bool) → Name → Option Msg
  smallest_from p n = smallest_of (λ m. p m && not (before (name_of m) n)) (count N W)

  -- the smallest pending message, if there is one
  abbrev pub smallest : (pending : Msg → Bool) → Option Msg
  smallest p = smallest_from p (name 0 0 0 0 0)

-- the five numbers of a message, or five zeros where there is none: kind 0 names no message
unfoldable pub name_or_zeros : Option Msg → Name
name_or_zeros none = name 0 0 0 0 0
name_or_zeros (some m) = name_of m
