-- Messages (document 01, "Messages"): the seven kinds, and the five numbers that name each. Assumes nothing.
use Rattle.std.specs.Prelude.{ℕ, Bool, true, false, cond, ◌&&◌, ◌||◌, List, [], ◌∷◌, eqb}
use Rattle.std.proofs.Math.Option.{Option, none, some}
use Rattle.graph.specs.Side.{Side, left, right, side_number}

-- `to` is the lot that it is sent to, `about` the lot that it speaks of; a PULL wants a bit and travels along a side
pub data Msg : Type 0 where
  meet : (to about level : ℕ) → Msg
  probe : (to about level : ℕ) → Msg
  pull : (to : ℕ) (want : Bool) (level : ℕ) (side : Side) → Msg
  going : (to level : ℕ) (side : Side) → Msg
  seek : (to about level : ℕ) → Msg
  found : (to about level : ℕ) → Msg
  none_found : (to level : ℕ) (side : Side) → Msg

-- the five numbers
pub record Name : Type 0 where
  pub kind : ℕ
  pub to : ℕ
  pub about : ℕ
  pub level : ℕ
  pub side : ℕ

abbrev pub name : (kind to about level side : ℕ) → Name
name k t a l s = record { kind = k; to = t; about = a; level = l; side = s }

abbrev pub bit_number : Bool → ℕ
bit_number false = 0
bit_number true = 1

-- the name of a message; unused fields are 0
abbrev pub name_of : Msg → Name
name_of (meet t a l) = name 1 t a l 0
name_of (probe t a l) = name 2 t a l 0
name_of (pull t b l d) = name 3 t (bit_number b) l (side_number d)
name_of (going t l d) = name 4 t 0 l (side_number d)
name_of (seek t a l) = name 5 t a l 0
name_of (found t a l) = name 6 t a l 0
name_of (none_found t l d) = name 7 t 0 l (side_number d)

-- a message by a number that is 0, or by one that is 0 or 1
unfoldable pub if_zero : ℕ → Option Msg → Option Msg
if_zero n o = cond (eqb n 0) o none

unfoldable pub if_bit : ℕ → Option Msg → Option Msg → Option Msg
if_bit n o p = cond (eqb n 0) o (cond (eqb n 1) p none)

-- the message that five numbers name, or none
unfoldable pub named : Name → Option Msg
named n =
    let t = n.to in
    let a = n.about in
    let l = n.level in
    let s = n.side in
    cond (eqb n.kind 1) (if_zero s (some (meet t a l)))
    (cond (eqb n.kind 2) (if_zero s (some (probe t a l)))
    (cond (eqb n.kind 3) (if_bit a (if_bit s (some (pull t false l left)) (some (pull t false l right)))
    (if_bit s (some (pull t true l left)) (some (pull t true l right))))
    (cond (eqb n.kind 4) (if_zero a (if_bit s (some (going t l left)) (some (going t l right))))
    (cond (eqb n.kind 5) (if_zero s (some (seek t a l)))
    (cond (eqb n.kind 6) (if_zero s (some (found t a l)))
    (cond (eqb n.kind 7) (if_zero a (if_bit s (some (none_found t l left)) (some (none_found t l right)))) none))))))

-- two messages are the same: their names are
unfoldable pub same_msg : Msg → Msg → Bool
same_msg m n =
    let a = name_of m in
    let b = name_of n in
    eqb a.kind b.kind && (eqb a.to b.to && (eqb a.about b.about && (eqb a.level b.level && eqb a.side b.side)))

-- the message is one of a list
unfoldable pub among : List Msg → Msg → Bool
among [] m = false
among (n ∷ l) m = same_msg n m || among l m
