-- `soundness::entries::as_opened` meets its contract. Assumes nothing.
use borrow.Author.Rules.{rules}
use Prim.Native.Nat.{ℕ}
use mathlib.Core.Path.{◌≡◌, sym, ap, ◌∙◌}
use lib.Dec.{eqb}
use borrow.Author.Tests.{eq-eqb, ne_eqb}
use Rattle.memory.proofs.Zeros.{number-zero}
use Rattle.record.specs.Layout.{number_size, number_from}
use Rattle.record.specs.Meaning.{seats_in}
use Rattle.record.specs.Sound.{as_opened}
use Rattle.base.proofs.Stops.{and-stop, and-go}
use Rattle.record.proofs.SeatBytes.{number-bytes, vector-bytes}
use Rattle.soundness.proofs.entries.as_opened.Goals as goal
use Rattle.soundness.proofs.entries.as_opened.Goals.{After-vector, After-zero_word}

-- what was tested is the number and the vector of the seat
number-test : (c : After-zero_word) → let r = c.args in
    c.zero_word.result ≡ eqb ((seats_in r.rec.now).number r.s) 0
number-test c = let r = c.args in
    let n = number-bytes r.rec.now r.s (search rules) in
    c.zero_word.ensures ∙ sym (ap (λ (k : ℕ). eqb k 0) n ∙ number-zero r.rec.now (number_from r.s) number_size)

vector-test : (c : After-vector) → let r = c.args in
    eqb c.vector.result 0 ≡ eqb ((seats_in r.rec.now).vector r.s) 0
vector-test c = let r = c.args in
    ap (λ (n : ℕ). eqb n 0) (c.vector.ensures ∙ sym (vector-bytes r.rec.now r.s (search rules)))

pub returns-then-vector-eq0 : goal.returns-then-vector-eq0
unfolding as_opened
returns-then-vector-eq0 c = and-go (number-test (goal.at.returns-then-vector-eq0 c).After-zero_word) c.if-zero_word.true
    (and-go (vector-test (goal.at.returns-then-vector-eq0 c).After-vector) (eq-eqb _ _ c.if-vector-eq0.true) c.no_links.ensures)

pub returns-else-vector-eq0 : goal.returns-else-vector-eq0
unfolding as_opened
returns-else-vector-eq0 c = and-go (number-test (goal.at.returns-else-vector-eq0 c).After-zero_word) c.if-zero_word.true
    (and-stop _ (vector-test (goal.at.returns-else-vector-eq0 c).After-vector) (ne_eqb _ _ c.if-vector-eq0.false))

pub returns-else-zero_word : goal.returns-else-zero_word
unfolding as_opened
returns-else-zero_word c = and-stop _ (number-test (goal.at.returns-else-zero_word c).After-zero_word) c.if-zero_word.false
