-- `delivery::deliver` meets its contract: the record is refused, or the kind's handler answers, or there is no such kind. Assumes nothing.
use mathlib.Core.Path.{◌≡◌}
use borrow.Author.Rules.{rules}
use Rattle.messages.proofs.Named.{named-rest}
use Rattle.record.specs.Reading.{record_refusal}
use Rattle.record.proofs.Answered.{answered-size, refused-record, number-0}
use Rattle.delivery.proofs.Steps.{refuse-kind, named-zero}
use Rattle.delivery.proofs.deliver.Goals as goal
use Rattle.delivery.proofs.deliver.Goals.{In_ok-look}

pub returns-in_default : goal.returns-in_default
returns-in_default c = answered-size _ _ c.in_default.ensures.cases

pub returns-in_err-look : goal.returns-in_err-look
returns-in_err-look c =
    rw (← c.in-Some.ensures.cases.same) (refused-record _ _ _ c.from_residual.result _ c.from_residual.ensures.1 c.in_err-look.ensures.refused)

-- the record is not refused
fine : (c : In_ok-look) → record_refusal c.in-Some.rec.now ≡ 0
fine c = number-0 _ c.in_ok-look.ensures.refused

pub deliver_meet-requires : goal.deliver_meet-requires
deliver_meet-requires c = fine (goal.at.deliver_meet-requires c).In_ok-look

pub deliver_probe-requires : goal.deliver_probe-requires
deliver_probe-requires c = fine (goal.at.deliver_probe-requires c).In_ok-look

pub deliver_pull-requires : goal.deliver_pull-requires
deliver_pull-requires c = fine (goal.at.deliver_pull-requires c).In_ok-look

pub deliver_going-requires : goal.deliver_going-requires
deliver_going-requires c = fine (goal.at.deliver_going-requires c).In_ok-look

pub deliver_seek-requires : goal.deliver_seek-requires
deliver_seek-requires c = fine (goal.at.deliver_seek-requires c).In_ok-look

pub deliver_found-requires : goal.deliver_found-requires
deliver_found-requires c = fine (goal.at.deliver_found-requires c).In_ok-look

pub deliver_none-requires : goal.deliver_none-requires
deliver_none-requires c = fine (goal.at.deliver_none-requires c).In_ok-look

pub returns-in_ok-look : goal.returns-in_ok-look
returns-in_ok-look c =
    rw (← c.in-Some.ensures.cases.same) (refuse-kind _ _ (number-0 _ c.in_ok-look.ensures.refused) (named-zero _ _ _ _ (search rules)))

pub returns-in_ok-look-2 : goal.returns-in_ok-look-2
returns-in_ok-look-2 c =
    rw (← c.in-Some.ensures.cases.same) (refuse-kind _ _ (number-0 _ c.in_ok-look.ensures.refused)
    (named-rest _ _ _ _ (search rules) (search rules) (search rules) (search rules) (search rules) (search rules) (search rules)))
