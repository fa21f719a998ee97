-- `reading::read_message` meets its contract. Assumes nothing.
use borrow.Author.Rules.{rules}
use borrow.Author.Tests.{tests}
use Rattle.record.specs.Answer.{number_of}
use Rattle.reading.proofs.Placed.{pending-found}
use Rattle.reading.proofs.Values.{message-refused, message-value}
use Rattle.reading.proofs.read_message.Goals as goal

pub returns-in_err-rec : goal.returns-in_err-rec
unfolding number_of
returns-in_err-rec c = message-refused _ _ c.from_residual.result _ c.from_residual.ensures.1 c.in_err-rec.ensures.refused

pub returns : goal.returns
unfolding number_of
returns c =
    let l = c.args.rec.now in
    message-value _ _ _ c.in_ok-rec.ensures.refused
    (pending-found l _ c.message_place.result c.is_some_and.result _ c.message_place.ensures c.is_some_and.ensures (λ i q. search (rules, tests)))
