-- `memory::first_bit` meets its contract: the first set bit is in the byte of `from`, else in the bytes after it. Assumes nothing.
use mathlib.Core.Path.{◌≡◌, ap, sym, ◌∙◌}
use mathlib.Core.List.{List}
use Prim.Native.Nat.{ℕ, ◌+◌, ◌-◌, ◌*◌, ◌/◌, ◌%◌}
use native.Mathlib.Omega.{arith}
use native.Mathlib.Nat.{sub_self, div-add-mod'}
use lib.ListN.{length, take, drop}
use Rattle.std.proofs.lemmas.List.{length-take, length-drop, take_rest}
use Rattle.memory.specs.Bits.{bit_set}
use Rattle.base.proofs.First.{first-end}
use Rattle.memory.proofs.Search.{first-taken, first-byte-found, first-byte-none}
use Rattle.memory.proofs.first_bit.Goals as goal

pub returns-then-from-count : goal.returns-then-from-count
returns-then-from-count c = let s = c.args in
    sym (rw (c.if-from-count.true, sub_self s.count) (first-end s.count (bit_set s.rec.now s.base)))

pub returns-then-here-lt-BITS : goal.returns-then-here-lt-BITS
returns-then-here-lt-BITS c =
    let s = c.args in
    let n = s.base + s.count / 8 - s.base in
    let found = first-byte-found (take n (drop s.base s.rec.now)) s.count (s.from / 8) (s.from % 8) (omega arith) (omega arith) (omega arith) in
    ap (λ (r : ℕ). s.from / 8 * 8 + r) c.first_in_byte-here.ensures.first
    ∙ sym (rw (div-add-mod' s.from 8) at found)
    ∙ first-taken s.rec.now s.base n s.count s.from (omega arith) (omega arith)

pub returns : goal.returns
returns c =
    let s = c.args in
    let n = s.base + s.count / 8 - s.base in
    let bytes : List ℕ = take n (drop s.base s.rec.now) in
    let len : length bytes ≡ n = omega (arith, length-take n (drop s.base s.rec.now), length-drop s.base s.rec.now) in
    let none = first-byte-none bytes s.count (s.from / 8) (s.from % 8) (omega arith) (omega arith) (omega arith) (omega arith) in
    ap (λ (r : ℕ). (s.from / 8 + 1) * 8 + r) (rw take_rest at c.first_in_bytes.ensures.first)
    ∙ sym (rw (div-add-mod' s.from 8) at none)
    ∙ first-taken s.rec.now s.base n s.count s.from (omega arith) (omega arith)
