-- `joining::newcomer::greet` meets its contract. Written out: must-fail/links_contact is refused at this equation. Assumes nothing.
use borrow.Author.Tests.{lt-ltb}
use Rattle.joining.proofs.newcomer.greet.Goals as goal

pub returns-then-contact-lt-SEATS : goal.returns-then-contact-lt-SEATS
returns-then-contact-lt-SEATS c =
    rw (lt-ltb _ _ c.if-contact-lt-SEATS.true, ← c.meet_place.ensures.0) c.send.ensures
