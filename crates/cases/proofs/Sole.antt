-- When a sole lot has left, the view's meaning is that of an opened record. Assumes nothing.
use Prim.Native.Nat.{ℕ}
use mathlib.Core.Path.{◌≡◌, refl}
use mathlib.Core.Option.{none}
use mathlib.Core.Bool.{Bool, true, false, cond}
use mathlib.Core.List.{[], ◌∷◌}
use lib.Dec.{eqb}
use Rattle.protocol.specs.Message.{among}
use Rattle.base.specs.Loops.{any}
use Rattle.protocol.specs.Rules.{SeatState, free, staying, leaving, to_link}
use Rattle.protocol.specs.State.{open_phase, nobody, opened, is_leaving, leaves}
use Rattle.protocol.specs.Calls.{join, leave, turn, rows, refusal, seats_after, sends, takes, links_after, unless_refused}
use Rattle.protocol.specs.Refusals.{first}
use Rattle.protocol.specs.Page.{each, at, is_taken}
use Rattle.protocol.specs.pages.Turn.{after_turn, farewell, farewells, turn_sends, turn_links}
use Rattle.protocol.specs.Freeing.{unlinked}
use Rattle.cases.specs.Lists.{l_calls}
use Rattle.cases.proofs.View.{meant, without, view_refusal, view_after, view_call}
use Rattle.cases.proofs.Seen.{look, seen}

-- the state of a seat before the last turn: the lot's or free
abbrev before : (own : Bool) → SeatState
before b = cond b leaving (cond b staying free)

gone-state : (own : Bool) → cond (is_leaving (before own)) free (before own) ≡ free
gone-state true = refl
gone-state false = refl

gone-number : (own : Bool) (n : ℕ) → cond (is_leaving (before own)) 0 (cond own n 0) ≡ 0
gone-number true n = refl
gone-number false n = refl

gone-link : (own : Bool) (gone : ℕ → Bool) → cond (is_leaving (before own)) none (unlinked gone (cond own none none)) ≡ none
unfolding unlinked
gone-link true gone = refl
gone-link false gone = refl

pub sole-gone : meant (seen l_calls).view ≡ opened
unfolding l_calls seen look without view_refusal view_after view_call nobody opened refusal rows first any seats_after after_turn at
    sends turn_sends farewells farewell each takes is_taken links_after turn_links unlinked unless_refused to_link among
sole-gone = λ i. record {
  seats = record {
    phase = open_phase;
    state = λ x. gone-state (eqb x 0) i;
    number = λ x. gone-number (eqb x 0) 100 i;
    vector = λ x. gone-number (eqb x 0) 0 i;
  };
  link = λ x k d. gone-link (eqb x 0) (leaves (seen (join 0 100 0 255 ∷ leave 0 ∷ turn ∷ [])).view.seats) i;
  pending = λ m. false;
}
