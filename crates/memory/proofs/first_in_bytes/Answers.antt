-- `memory::first_in_bytes` meets its contract: the first set bit is in the first byte that is not 0. Assumes nothing.
use mathlib.Core.Path.{ap, sym, ◌∙◌}
use Prim.Native.Nat.{ℕ, ◌+◌, ◌*◌}
use native.Mathlib.Omega.{arith}
use Rattle.memory.proofs.Search.{first-bytes-none, first-bytes-found}
use Rattle.memory.proofs.first_in_bytes.Goals as goal

pub returns-then-at-bytes-clause-first : goal.returns-then-at-bytes-clause-first
returns-then-at-bytes-clause-first c = sym (first-bytes-none c.args.bytes.now c.first_byte-at.ensures.first c.if-at-bytes.true)

pub returns-clause-first : goal.returns-clause-first
returns-clause-first c =
    let found = first-bytes-found c.args.bytes.now c.first_byte-at.ensures.first (λ j. omega (arith, c.type_inv.bytes j)) c.if-at-bytes.false in
    ap (λ (r : ℕ). c.first_byte-at.result * 8 + r) c.first_in_byte.ensures.first ∙ sym found
