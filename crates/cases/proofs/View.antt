-- A small view of a meaning, in which the pending messages are a short list, so that the worked cases evaluate; a call on a view is the
-- call on its meaning. Assumes nothing.
use Prim.Native.Nat.{ℕ, zero, suc}
use mathlib.Core.Path.{◌≡◌, refl, sym, ap, ◌∙◌, fun_ext}
use mathlib.Core.Option.{Option}
use mathlib.Core.Bool.{Bool, true, false, not, cond, ◌&&◌, ◌||◌}
use mathlib.Core.List.{List, [], ◌∷◌, ◌++◌}
use lib.Dec.{T}
use Rattle.graph.specs.Graph.{Links}
use Rattle.graph.specs.Vector.{width}
use Rattle.base.proofs.Tests.{T_true, true-T, or_left, dec-T, not-T-false, false-T}
use Rattle.protocol.specs.Message.{Msg, same_msg, among}
use Rattle.protocol.specs.Numbering.{exists, some_pending}
use Rattle.protocol.specs.State.{is_clearing, Seats, Meaning}
use Rattle.protocol.specs.Calls.{Call, join, reserve, confirm, give_back, leave, deliver, turn, crash, merge, rows, refusal}
use Rattle.protocol.specs.Calls.{seats_after, links_after, sends, takes}
use Rattle.protocol.specs.Calls.{unless_refused, accept, call}
use Rattle.protocol.specs.Refusals.{row, first}
use Rattle.protocol.specs.Page.{is_taken, pending_after}
use Rattle.protocol.specs.pages.Crash.{names_empty}
use Rattle.protocol.specs.Sound.{Sound}
use Rattle.protocol.proofs.Message.{same-eq, same_self}
use Rattle.protocol.proofs.Numbering.{none-pending, pending-none}
use Rattle.protocol.proofs.SoundFacts.{pending-exists}
use Rattle.record.specs.Layout.{seats}

pub record View : Type 0 where
  pub seats : Seats
  pub link : Links
  pub pending : List Msg

abbrev pub meant : View → Meaning
meant v = record { seats = v.seats; link = v.link; pending = among v.pending }

-- the list is not empty
abbrev pub some_left : List Msg → Bool
some_left [] = false
some_left (m ∷ l) = true

-- the list without the message that a call takes
unfoldable pub without : Option Msg → List Msg → List Msg
without o [] = []
without o (m ∷ l) = cond (is_taken o m) (without o l) (m ∷ without o l)

-- the table's refusal number; a turn and a crash look at the list alone
unfoldable pub view_refusal : View → Call → ℕ
view_refusal v (join s n b c) = refusal seats width v.seats (among v.pending) (join s n b c)
view_refusal v (reserve s n b) = refusal seats width v.seats (among v.pending) (reserve s n b)
view_refusal v (confirm s c) = refusal seats width v.seats (among v.pending) (confirm s c)
view_refusal v (give_back s) = refusal seats width v.seats (among v.pending) (give_back s)
view_refusal v (leave s) = refusal seats width v.seats (among v.pending) (leave s)
view_refusal v (deliver n) = refusal seats width v.seats (among v.pending) (deliver n)
view_refusal v turn = first (row 11 (some_left v.pending) ∷ [])
view_refusal v (crash set) =
    first (row 7 (is_clearing v.seats.phase) ∷ row 8 (names_empty seats v.seats set) ∷ row 11 (some_left v.pending) ∷ [])
view_refusal v (merge a b) = refusal seats width v.seats (among v.pending) (merge a b)

-- the view after an accepted call
unfoldable pub view_after : View → Call → View
view_after v c = record {
  seats = seats_after seats width v.seats c;
  link = links_after seats width (meant v) c;
  pending = sends seats width (meant v) c ++ without (takes seats width c) v.pending;
}

-- the view after a call
unfoldable pub view_call : View → Call → View
view_call v c = unless_refused (view_refusal v c) v (view_after v c)

among-append : (l k : List Msg) (m : Msg) → among (l ++ k) m ≡ (among l m || among k m)
unfolding among
among-append [] k m = refl
among-append (n ∷ l) k m = by (same_msg n m) (among-append l k m)
  where
    by : (b : Bool) → among (l ++ k) m ≡ (among l m || among k m) → (b || among (l ++ k) m) ≡ ((b || among l m) || among k m)
    by true e = refl
    by false e = e

among-without : (o : Option Msg) (l : List Msg) (m : Msg) → among (without o l) m ≡ (among l m && not (is_taken o m))
unfolding among without
among-without o [] m = refl
among-without o (n ∷ l) m = by (is_taken o n) refl (same_msg n m) refl (among-without o l m)
  where
    taken : same_msg n m ≡ true → is_taken o m ≡ is_taken o n
    taken e = ap (is_taken o) (sym (same-eq n m (true-T e)))

    -- what is false stays false
    never : (b : Bool) → false ≡ (b && false)
    never true = refl
    never false = refl

    by : (b : Bool) → is_taken o n ≡ b → (s : Bool) → same_msg n m ≡ s → among (without o l) m ≡ (among l m && not (is_taken o m))
        → among (cond b (without o l) (n ∷ without o l)) m ≡ ((s || among l m) && not (is_taken o m))
    by true t true e ih = let f : is_taken o m ≡ true = taken e ∙ t in ih ∙ rw f (sym (never (among l m)))
    by true t false e ih = ih
    by false t true e ih = let f : is_taken o m ≡ false = taken e ∙ t in rw (e, f)
    by false t false e ih = rw e ih

-- the pending set after a call is that of the list after it
pending-list : (sent : List Msg) (o : Option Msg) (l : List Msg) → pending_after sent o (among l) ≡ among (sent ++ without o l)
unfolding pending_after
pending-list sent o l = fun_ext (λ m. sym (among-append sent (without o l) m ∙ ap (λ (b : Bool). among sent m || b) (among-without o l m)))

-- some message is pending exactly if the list is not empty
pub some_left_lem : (l : List Msg) → ((m : Msg) → T (among l m) → T (exists seats width m)) → some_pending seats width (among l) ≡ some_left l
unfolding among
some_left_lem [] h = pending-none seats width (among []) (λ m x. refl)
some_left_lem (m ∷ l) h = by (dec-T (some_pending seats width (among (m ∷ l))))
  where
    here : T (among (m ∷ l) m)
    here = or_left (same_msg m m) (among l m) (same_self m)

    by : Dec (T (some_pending seats width (among (m ∷ l)))) → some_pending seats width (among (m ∷ l)) ≡ true
    by (yes t) = T_true t
    by (no f) = false-T (none-pending seats width (among (m ∷ l)) (not-T-false f) m (h m here)) here

module _ (v : View) (h : Sound seats width (meant v)) where
  view-refusal : (c : Call) → refusal seats width v.seats (among v.pending) c ≡ view_refusal v c
  unfolding view_refusal refusal rows
  view-refusal (join s n b c) = refl
  view-refusal (reserve s n b) = refl
  view-refusal (confirm s c) = refl
  view-refusal (give_back s) = refl
  view-refusal (leave s) = refl
  view-refusal (deliver n) = refl
  view-refusal turn = ap (λ (b : Bool). first (row 11 b ∷ [])) (some_left_lem v.pending (λ m t. pending-exists h m t))
  view-refusal (crash set) =
      ap (λ (b : Bool). first (row 7 (is_clearing v.seats.phase) ∷ row 8 (names_empty seats v.seats set) ∷ row 11 b ∷ []))
      (some_left_lem v.pending (λ m t. pending-exists h m t))
  view-refusal (merge a b) = refl

  view-accept : (c : Call) → accept seats width (meant v) c ≡ meant (view_after v c)
  unfolding accept view_after
  view-accept c = λ i. record {
    seats = seats_after seats width v.seats c;
    link = links_after seats width (meant v) c;
    pending = pending-list (sends seats width (meant v) c) (takes seats width c) v.pending i;
  }

  meant-unless : (n : ℕ) (u : View) → unless_refused n (meant v) (meant u) ≡ meant (unless_refused n v u)
  unfolding unless_refused
  meant-unless zero u = refl
  meant-unless (suc n) u = refl

  -- a call on a view is the call on its meaning
  pub view-call : (c : Call) → call seats width (meant v) c ≡ record { refused = view_refusal v c; after = meant (view_call v c) }
  unfolding call view_call
  view-call c =
      ap (λ (M : Meaning). record {
        refused = refusal seats width v.seats (among v.pending) c;
        after = unless_refused (refusal seats width v.seats (among v.pending) c) (meant v) M;
      }) (view-accept c)
      ∙ ap (λ (n : ℕ). record { refused = n; after = unless_refused n (meant v) (meant (view_after v c)) }) (view-refusal c)
      ∙ ap (λ (M : Meaning). record { refused = view_refusal v c; after = M }) (meant-unless (view_refusal v c) (view_after v c))
