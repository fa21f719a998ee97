-- The calls that an input makes, and what holds of the record after every input: it is a record made by calls, so that demand 3 speaks of it. Assumes
-- nothing.
use Rattle.std.specs.Prelude.{ℕ, ◌≡◌, List, [], ◌∷◌, ◌++◌, map}
use Rattle.std.proofs.Math.Option.{Option, none, some}
use Rattle.graph.specs.Vector.{width}
use Rattle.protocol.specs.Message.{name}
use Rattle.protocol.specs.Calls.{Call}
use Rattle.protocol.specs.Calls.{join as joining, leave as leaving, deliver as delivering, turn as turning}
use Rattle.protocol.specs.Bundle.{Item, one}
use Rattle.protocol.specs.Run.{members_of}
use Rattle.record.specs.Layout.{seats}
use Rattle.record.specs.Reading.{open_refusal, open_bytes, record_refusal, read_counts}
use Rattle.record.specs.Bundle.{bundle_in}
use Rattle.runs.specs.Typed.{AllTyped}
use Rattle.runs.specs.Run.{list_run, roster}
use Rattle.command.specs.Command.{Command, join, leave, deliver, turn, settle, find, print, parsed}
use Rattle.listing.specs.Text.{graph_text}
use Rattle.program.specs.Text.{counts_text}
use Rattle.program.specs.Print.{print_text}
use Rattle.program.specs.Line.{settle_limit, answered}
use Rattle.program.specs.Input.{lines_of, carried_out}

-- the calls that a line makes: J, L, D and T one, A its deliveries, all others none
unfoldable pub calls_of : (l : List ℕ) → Option Command → List Call
calls_of l none = []
calls_of l (some (join seat number vector contact)) = joining seat number vector contact ∷ []
calls_of l (some (leave seat)) = leaving seat ∷ []
calls_of l (some (deliver kind to about level side)) = delivering (name kind to about level side) ∷ []
calls_of l (some turn) = turning ∷ []
calls_of l (some settle) = map delivering (bundle_in l settle_limit)
calls_of l (some (find start number)) = []
calls_of l (some print) = []

-- the calls of lines in order
unfoldable pub calls_in : (l : List ℕ) → (lines : List (List ℕ)) → List Call
calls_in l [] = []
calls_in l (line ∷ lines) = calls_of l (parsed line) ++ calls_in (answered l line).after lines

-- an input on a record that open writes over the bytes l: its calls as a list of demand 3, and the record after it
module _ (l input : List ℕ) where
  abbrev pub call_list : List (Item Call)
  call_list = map one (calls_in (open_bytes l) (lines_of input))

  abbrev pub record_after : List ℕ
  record_after = (carried_out (open_bytes l) (lines_of input)).after

  pub record InputMade : Type 0 where
    -- the calls are of demand 3's lists, and the record is what that list leaves
    pub typed : AllTyped call_list
    pub made : record_after ≡ (list_run l call_list).now
    -- so no line meets 1 or 2
    pub passes : record_refusal record_after ≡ 0
    -- and with nothing pending P prints the lists of the skip graph of the roster's members, made within each component
    pub prints : (read_counts record_after).pending ≡ 0
        → print_text record_after ≡ counts_text (read_counts record_after) ++ graph_text seats width (members_of (roster (list_run l call_list).history))

pub record EveryInput : Type 0 where
  pub after : (l : List ℕ) → open_refusal l ≡ 0 → (input : List ℕ) → InputMade l input
