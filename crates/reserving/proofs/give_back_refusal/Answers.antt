-- `reserving::give_back_refusal` meets its contract: the record's rows, then the table's. Assumes nothing.
use Rattle.record.proofs.Answered.{answered-early, answered-late}
use Rattle.reserving.proofs.give_back_refusal.Goals as goal

pub returns-in_err-look : goal.returns-in_err-look
returns-in_err-look c = answered-early _ _ _ c.from_residual.result _ c.from_residual.ensures.1 c.in_err-look.ensures.refused

pub returns : goal.returns
returns c = answered-late _ _ _ _ c.in_ok-look.ensures.refused c.give_back_row.ensures
