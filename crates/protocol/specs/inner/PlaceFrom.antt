-- How many messages come before five given numbers, by digits: the place where those that do not begin (proofs/PlaceOrder.antt, `place-from`).
-- Assumes nothing.
use Rattle.std.specs.Prelude.{ℕ, zero, suc, ◌+◌, ◌*◌, cond, ltb}
use Rattle.protocol.specs.Message.{Name}
use Rattle.protocol.specs.Numbering.{pairs, pulls, sides, count}

-- how many numbers of a digit below the bound and a rest below the size come before the digit x and rest: all if x is no such digit
unfoldable pub below : (x bound size rest : ℕ) → ℕ
below x bound size rest = cond (ltb x bound) (x * size + rest) (bound * size)

module _ (N W : ℕ) where
  -- how many messages of a kind come before the numbers after the kind, where `about`, `level` and `side` have so many values
  unfoldable pub digits_from : (abouts levels sides : ℕ) → Name → ℕ
  digits_from A L S n = below n.to N (A * (L * S)) (below n.about A (L * S) (below n.level L S (below n.side S 1 0)))

  -- by kind
  unfoldable pub from_kind : (kind : ℕ) → Name → ℕ
  from_kind zero n = 0
  from_kind (suc zero) n = digits_from N (suc W) 1 n
  from_kind (suc (suc zero)) n = pairs N W (suc W) + digits_from N W 1 n
  from_kind (suc (suc (suc zero))) n = pairs N W (suc W) + (pairs N W W + digits_from 2 W 2 n)
  from_kind (suc (suc (suc (suc zero)))) n = pairs N W (suc W) + (pairs N W W + (pulls N W + digits_from 1 (suc W) 2 n))
  from_kind (suc (suc (suc (suc (suc zero))))) n =
      pairs N W (suc W) + (pairs N W W + (pulls N W + (sides N W + digits_from N (suc W) 1 n)))
  from_kind (suc (suc (suc (suc (suc (suc zero)))))) n =
      pairs N W (suc W) + (pairs N W W + (pulls N W + (sides N W + (pairs N W (suc W) + digits_from N (suc W) 1 n))))
  from_kind (suc (suc (suc (suc (suc (suc (suc zero))))))) n =
      pairs N W (suc W) + (pairs N W W + (pulls N W + (sides N W + (pairs N W (suc W) + (pairs N W (suc W) + digits_from 1 (suc W) 2 n)))))
  from_kind (suc (suc (suc (suc (suc (suc (suc (suc k)))))))) n = count N W

  abbrev pub place_from : Name → ℕ
  place_from n = from_kind n.kind n
