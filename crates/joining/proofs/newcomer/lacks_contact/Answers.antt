-- `joining::newcomer::lacks_contact` meets its contract. Written out: tried/reserved_contact is refused at this equation. Assumes nothing.
use borrow.Author.Tests.{lt-ltb}
use Rattle.joining.proofs.newcomer.lacks_contact.Goals as goal

pub returns-then-contact-lt-SEATS : goal.returns-then-contact-lt-SEATS
returns-then-contact-lt-SEATS c = rw (lt-ltb _ _ c.if-contact-lt-SEATS.true, c.is_seated.ensures)
