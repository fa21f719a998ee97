-- `reading::read_lot` meets its contract. Assumes nothing.
use Rattle.record.specs.Answer.{number_of}
use Rattle.reading.proofs.Refusals.{There, lot-there}
use Rattle.reading.proofs.Values.{lot-refused, lot-values}
use Rattle.reading.proofs.read_lot.Goals as goal
use Rattle.reading.proofs.read_lot.Goals.{In_ok-rec}

-- no row applies
passed : (c : In_ok-rec) → There c.args.rec.now c.args.seat
unfolding number_of
passed c = lot-there _ _ c.in_ok-rec.ensures.refused

pub returns-in_err-rec : goal.returns-in_err-rec
unfolding number_of
returns-in_err-rec c = lot-refused _ _ c.from_residual.result _ c.from_residual.ensures.1 c.in_err-rec.ensures.refused

pub state-requires : goal.state-requires
state-requires c = (passed (goal.at.state-requires c).In_ok-rec).seat

pub number-requires : goal.number-requires
number-requires c = (passed (goal.at.number-requires c).In_ok-rec).seat

pub vector-requires : goal.vector-requires
vector-requires c = (passed (goal.at.vector-requires c).In_ok-rec).seat

pub returns : goal.returns
unfolding number_of
returns c =
    let same = c.in_ok-rec.ensures.same in
    lot-values _ _ _ c.in_ok-rec.ensures.refused (passed (goal.at.returns c).In_ok-rec).seat
    (rw same at c.state.ensures) (rw same at c.number.ensures) (rw same at c.vector.ensures)
