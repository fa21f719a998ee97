-- The pending set after messages are taken and sent, in steps. Assumes nothing.
use mathlib.Core.Path.{◌≡◌, refl, sym, fun_ext}
use mathlib.Core.Logic.{◌≢◌}
use mathlib.Core.Option.{Option, none, some}
use mathlib.Core.Bool.{Bool, true, false, not, ◌&&◌, ◌||◌}
use mathlib.Core.List.{List, [], ◌∷◌, ◌++◌}
use Rattle.base.proofs.Cases.{and-true, and-false}
use Rattle.base.proofs.Tests.{T_true, not-T-false}
use Rattle.protocol.specs.Message.{Msg, same_msg, among}
use Rattle.protocol.specs.Page.{is_taken, pending_after}
use Rattle.protocol.proofs.Message.{same_self, same-eq}

same-other : (m n : Msg) → n ≢ m → same_msg m n ≡ false
same-other m n ne = not-T-false (λ t. ne (sym (same-eq m n t)))

or-false : (b : Bool) → b || false ≡ b
or-false true = refl
or-false false = refl

or_assoc : (a b c : Bool) → (a || b) || c ≡ a || (b || c)
or_assoc true b c = refl
or_assoc false b c = refl

or_swap : (a b c : Bool) → (a || b) || c ≡ b || (a || c)
or_swap true true c = refl
or_swap true false c = refl
or_swap false b c = refl

-- one message sent: it and the others
module _ (m : Msg) (p : Msg → Bool) where
  pub sent-same : pending_after (m ∷ []) none p m ≡ true
  unfolding pending_after among
  sent-same = rw (T_true {b = same_msg m m} (same_self m))

  pub sent-other : (n : Msg) → n ≢ m → pending_after (m ∷ []) none p n ≡ p n
  unfolding pending_after among is_taken
  sent-other n ne = rw (same-other m n ne) (and-true (p n))

  -- one message taken
  pub taken-same : pending_after [] (some m) p m ≡ false
  unfolding pending_after among is_taken
  taken-same = rw (T_true {b = same_msg m m} (same_self m)) (and-false (p m) false refl)

  pub taken-other : (n : Msg) → n ≢ m → pending_after [] (some m) p n ≡ p n
  unfolding pending_after among is_taken
  taken-other n ne = rw (same-other m n ne) (and-true (p n))

among-append : (a b : List Msg) (m : Msg) → among (a ++ b) m ≡ among a m || among b m
unfolding among
among-append [] b m = refl
among-append (n ∷ a) b m = rw (among-append a b m) (sym (or_assoc (same_msg n m) (among a m) (among b m)))

-- those sent first, then the others
pub after-append : (a b : List Msg) (t : Option Msg) (p : Msg → Bool) → pending_after (a ++ b) t p ≡ pending_after b none (pending_after a t p)
unfolding pending_after is_taken
after-append a b t p = fun_ext (λ m. rw (among-append a b m, and-true) (or_swap (among a m) (among b m) (p m && not (is_taken t m))))

-- the message taken first, then those sent
pub after-taken : (l : List Msg) (t : Option Msg) (p : Msg → Bool) → pending_after l t p ≡ pending_after l none (pending_after [] t p)
after-taken l t p = after-append [] l t p

-- one sent first, and one sent last
pub after_first : (m : Msg) (l : List Msg) (t : Option Msg) (p : Msg → Bool)
    → pending_after (m ∷ l) t p ≡ pending_after l none (pending_after (m ∷ []) t p)
after_first m l t p = after-append (m ∷ []) l t p
