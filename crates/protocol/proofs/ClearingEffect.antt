-- GOING, SEEK, FOUND and NONE do what the relations of Clearing say: each message that they name is sent, none other is, and a link is set
-- where they set one. Assumes nothing.
use Prim.Native.Nat.{ℕ}
use mathlib.Core.Path.{◌≡◌, refl, sym, ap}
use mathlib.Core.Option.{Option, none, some}
use mathlib.Core.List.Memᴰ
use mathlib.Core.List.{List, Memᴰ}
use lib.Dec.{T}
use Rattle.graph.specs.Side.{Side, side_of}
use Rattle.graph.specs.inner.Order.{Lt}
use Rattle.graph.proofs.Order.{lt-side, side-of}
use Rattle.protocol.specs.Message.{Msg, going, seek, found, none_found, name_of}
use Rattle.protocol.specs.Rules.{SeatState, is_staying, Entry, keep, set, Effect, parting, passing, seeking, effect}
use Rattle.protocol.proofs.World.{World, State}
use Rattle.protocol.proofs.Sent.{is-sent, All, all_none, all_more, all-sent}
use Rattle.protocol.proofs.Delivery.{keeps-right, sets-right}
use Rattle.protocol.proofs.OpenEffect.{entry_in}
use Rattle.protocol.proofs.Clearing.{Sends, asks, answers, passes, gives_up, Sets, to-found, to_none, Does}

-- a lot stays, by its state
abbrev pub Stays : (ℕ → SeatState) → ℕ → Type 0
Stays state x = T (is_staying (state x))

-- a message of clearing: the two lots that SEEK and FOUND name lie on some side of each other
pub data Sided (G : World) : Msg → Type 0 where
  s_going : {x k : ℕ} {d : Side} → Sided G (going x k d)
  s_seek : {z x k : ℕ} {d : Side} → Lt G.num d x z → Sided G (seek z x k)
  s_found : {x z k : ℕ} {d : Side} → Lt G.num d x z → Sided G (found x z k)
  s_none : {x k : ℕ} {d : Side} → Sided G (none_found x k d)

-- a leaving lot's part of SEEK: on to the link, or NONE
module _ (W : ℕ) (num vec : ℕ → ℕ) (e : Entry) (t a l : ℕ) (d : Side) (o : Option ℕ) where
  in-passing : (w : ℕ) → o ≡ some w → Memᴰ (seek w a l) (passing W num vec e t a l d o)
  unfolding passing
  in-passing w q = rw q (Memᴰ.head refl)

  in-ending : o ≡ none → Memᴰ (none_found a l d) (passing W num vec e t a l d o)
  unfolding passing
  in-ending q = rw q (Memᴰ.head refl)

all-passing : {P : Msg → Type 0} (W : ℕ) (num vec : ℕ → ℕ) (e : Entry) (t a l : ℕ) (d : Side) (o : Option ℕ)
    → ((w : ℕ) → o ≡ some w → P (seek w a l)) → (o ≡ none → P (none_found a l d)) → All P (passing W num vec e t a l d o)
unfolding passing
all-passing W num vec e t a l d none f g = all_more (g refl) all_none
all-passing W num vec e t a l d (some w) f g = all_more (f w refl) all_none

module _ (G : World) (S : State) (state : ℕ → SeatState) where
  -- what the rule of a message does
  abbrev does : Msg → Effect
  does m = effect G.W G.num G.vec (entry_in G S (state (name_of m).to) (name_of m).to) m

  abbrev Sent : Msg → Msg → Type 0
  Sent m n = Sends G (Stays state) S m n

  module _ (x k : ℕ) (d : Side) where
    abbrev parted : List Msg
    parted = parting G.W G.num G.vec (entry_in G S (state x) x) x k d

    -- a staying lot asks its link on the leaver's side
    parted-all : {n : Msg} → Sent (going x k d) n → Memᴰ n parted
    unfolding parting
    parted-all (asks st e) = search is-sent

    parted-only : All (Sent (going x k d)) parted
    unfolding parting
    parted-only = search (all-sent, asked)
      where
        asked : (y : ℕ) → Stays state x → S.link x k d ≡ some y → Sent (going x k d) (seek y x k)
        asked y st e = asks st e

  module _ (z x k : ℕ) where
    abbrev sought : List Msg
    sought = seeking G.W G.num G.vec (entry_in G S (state z) z) z x k

    -- the side away from x
    abbrev away : Side
    away = side_of (G.num x) (G.num z)

    -- a staying lot answers; a leaving one passes it on to its link away from x, and without one sends NONE
    sought-all : {n : Msg} → Sent (seek z x k) n → Memᴰ n sought
    unfolding seeking
    sought-all (answers st) = search is-sent
    sought-all (passes {w = w} ns l e) = let f : S.link z k away ≡ some w = rw (side-of G.num l) e in search (is-sent, in-passing)
    sought-all (gives_up {d = d} ns l e) =
        let f : S.link z k away ≡ none = rw (side-of G.num l) e in
        let q : none_found x k d ≡ none_found x k away = ap (λ (c : Side). none_found x k c) (sym (side-of G.num l)) in
        Memᴰ.cast q (search (is-sent, in-ending))

    sought-only : Lt G.num away x z → All (Sent (seek z x k)) sought
    unfolding seeking
    sought-only l = search (all-sent, all-passing, answered, passed, ended)
      where
        answered : Stays state z → Sent (seek z x k) (found x z k)
        answered st = answers st

        passed : (w : ℕ) → ¬ (Stays state z) → S.link z k away ≡ some w → Sent (seek z x k) (seek w x k)
        passed w ns e = passes ns l e

        ended : ¬ (Stays state z) → S.link z k away ≡ none → Sent (seek z x k) (none_found x k away)
        ended ns e = gives_up ns l e

    -- no lot alters its links for a SEEK
    seek-keeps : (does (seek z x k)).change ≡ keep
    unfolding effect
    seek-keeps = refl

  -- FOUND sets the link on its lot's side, NONE leaves no link
  found-sets : {x z k : ℕ} {d : Side} → Lt G.num d x z → (does (found x z k)).change ≡ set k d (some z)
  unfolding effect
  found-sets l = rw (side-of G.num l)

  none-sets : (x k : ℕ) (d : Side) → (does (none_found x k d)).change ≡ set k d none
  unfolding effect
  none-sets x k d = refl

  -- the rule of each message of clearing does what the relations say
  pub clearing-right : {m : Msg} → Sided G m → Does G (Stays state) S m (does m)
  unfolding effect
  clearing-right (s_going {x} {k} {d}) = keeps-right refl (λ a j c v s. elim s [ ]) (λ n s. parted-all x k d s) (parted-only x k d)
  clearing-right (s_seek {z} {x} {k} l) =
      keeps-right (seek-keeps z x k) (λ a j c v s. elim s [ ]) (λ n s. sought-all z x k s) (sought-only z x k (rw (side-of G.num l) l))
  clearing-right (s_found {x} {z} {k} {d} l) = sets-right (found-sets l) (to-found l) (λ a j c v s. one s) (λ n s. elim s [ ]) (search all-sent)
    where
      one : {a j : ℕ} {c : Side} {v : Option ℕ} → Sets G (Stays state) S (found x z k) a j c v → (a ≡ x) × (set k d (some z) ≡ set j c v)
      one (to-found m) = (refl, ap (λ (e : Side). set k e (some z)) (lt-side l m))
  clearing-right (s_none {x} {k} {d}) = sets-right (none-sets x k d) to_none (λ a j c v s. one s) (λ n s. elim s [ ]) (search all-sent)
    where
      one : {a j : ℕ} {c : Side} {v : Option ℕ} → Sets G (Stays state) S (none_found x k d) a j c v → (a ≡ x) × (set k d none ≡ set j c v)
      one to_none = (refl, refl)
