-- `crash::crash_refusal` meets its contract: the record's rows, then the table's. Assumes nothing.
use Rattle.record.proofs.Answered.{answered-early, answered-late}
use Rattle.crash.proofs.crash_refusal.Goals as goal

pub returns-in_err-first : goal.returns-in_err-first
returns-in_err-first c = answered-early _ _ _ c.from_residual.result _ c.from_residual.ensures.1 c.in_err-first.ensures.refused

pub returns : goal.returns
returns c = answered-late _ _ _ _ c.in_ok-first.ensures.refused c.crash_row.ensures
