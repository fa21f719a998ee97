-- What a line of `lots` answers and what it makes of a record (document 01, "The program"), by the definitions that the contracts of the calls
-- cite. A line of another form changes nothing. Assumes nothing.
use Rattle.std.specs.Prelude.{ℕ, ◌^◌, ◌≡◌, List, ◌++◌, length, drop}
use Rattle.std.proofs.Math.Option.{Option, none, some}
use Rattle.protocol.specs.Message.{name}
use Rattle.protocol.specs.Calls.{Outcome}
use Rattle.protocol.specs.Calls.{join as joining, leave as leaving, deliver as delivering, turn as turning}
use Rattle.record.specs.Call.{called}
use Rattle.record.specs.Bundle.{BundleOutcome, bundled}
use Rattle.find.specs.Find.{find_in}
use Rattle.command.specs.Command.{Command, join, leave, deliver, turn, settle, find, print, parsed}
use Rattle.program.specs.Text.{bad_text, done_text, found_text}
use Rattle.program.specs.Print.{print_text}

-- the text of the answer, and the bytes of the record after the line
pub record Answered : Type 0 where
  pub text : List ℕ
  pub after : List ℕ

-- an answer as a function gives it that is lent a record and a buffer: it left the bytes `after`, and of the buffer, which was o and is `out`, the
-- first r bytes are the text and all others as before
pub record Gives (a : Answered) (after o out : List ℕ) (r : ℕ) : Type 0 where
  pub leaves : after ≡ a.after
  pub count : r ≡ length a.text
  pub text : out ≡ a.text ++ drop (length a.text) o

-- A: the smallest message is delivered until none is pending. No record takes as many deliveries as this limit (`settles`, proofs/Settled.antt)
unfoldable pub settle_limit : ℕ
settle_limit = 2 ^ 160

unfoldable pub settled : List ℕ → BundleOutcome
settled l = bundled l settle_limit

-- J, L, D and T: a call, done or refused
abbrev pub by_call : Outcome (List ℕ) → Answered
by_call o = record { text = done_text o.refused; after = o.after }

-- the answer to a command; none is a line of another form
unfoldable pub answer_to : (l : List ℕ) → Option Command → Answered
answer_to l none = record { text = bad_text; after = l }
answer_to l (some (join seat number vector contact)) = by_call (called l (joining seat number vector contact))
answer_to l (some (leave seat)) = by_call (called l (leaving seat))
answer_to l (some (deliver kind to about level side)) = by_call (called l (delivering (name kind to about level side)))
answer_to l (some turn) = by_call (called l turning)
answer_to l (some settle) = record { text = done_text (settled l).refused; after = (settled l).after }
answer_to l (some (find start number)) = record { text = found_text (find_in l start number); after = l }
answer_to l (some print) = record { text = print_text l; after = l }

-- the answer to a line, which stands without its newline
unfoldable pub answered : (l line : List ℕ) → Answered
answered l line = answer_to l (parsed line)
