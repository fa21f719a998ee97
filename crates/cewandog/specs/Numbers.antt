-- The answers of the calls as plain numbers, for callers in other languages. Assumes nothing.
use Rattle.std.specs.Prelude.{ℕ, cond, eqb}
use Rattle.base.specs.Loops.{one_if}
use Rattle.record.specs.Meaning.{link_byte}
use Rattle.find.specs.Find.{FindAnswer}
use Rattle.check_links.specs.Check.{CheckAnswer}

-- the holder's seat, or 255 for none; a refused answer's values are 0
pub record FindNumbers : Type 0 where
  pub refused : ℕ
  pub holder : ℕ
  pub hops : ℕ

unfoldable pub find_numbers : FindAnswer → FindNumbers
find_numbers a = let n = a.refused in
    cond (eqb n 0) (record { refused = 0; holder = link_byte a.holder; hops = a.hops }) (record { refused = n; holder = 0; hops = 0 })

-- 1 for yes, 0 for no
pub record CheckNumbers : Type 0 where
  pub refused : ℕ
  pub yes : ℕ

unfoldable pub check_numbers : CheckAnswer → CheckNumbers
check_numbers a = record { refused = a.refused; yes = one_if a.yes }
