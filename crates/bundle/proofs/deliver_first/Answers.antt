-- `bundle::deliver_first` meets its contract. Assumes nothing.
use native.Mathlib.Omega.{arith}
use borrow.Author.Rules.{rules}
use Rattle.delivery.proofs.Steps.{sized}
use Rattle.bundle.proofs.Ready.{ready-word}
use Rattle.bundle.proofs.Delivered.{place-within, is-delivered}
use Rattle.bundle.proofs.deliver_first.Goals as goal

pub clear_first-cleared-requires : goal.clear_first-cleared-requires
clear_first-cleared-requires c =
    let w = ready-word c.requires.2 in
    (omega (arith, w.0, sized c.args.rec.now c.requires.0), w.1)

-- the place of the message taken
pub overflow_add-w : goal.overflow_add-w
overflow_add-w c =
    omega (arith, place-within c.args.rec.now c.args.index.now.numbers c.requires.0 (search rules) c.requires.2 c.clear_first-cleared.ensures.bit)

pub carry_out-requires : goal.carry_out-requires
carry_out-requires c = place-within c.args.rec.now c.args.index.now.numbers c.requires.0 (search rules) c.requires.2 c.clear_first-cleared.ensures.bit

pub returns : goal.returns
returns c =
    is-delivered c.args.rec.now c.args.index.now.numbers c.requires.0
    (search rules) c.requires.2 c.clear_first-cleared.ensures.bit
    c.clear_first-cleared.ensures.cleared c.clear_first-cleared.ensures.last c.strike_last.ensures c.carry_out.ensures
