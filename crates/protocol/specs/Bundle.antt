-- Deliveries by the bundle (document 02, #101), made of single deliveries and of nothing else: the messages that a bundle delivers, what
-- a list of deliveries leaves, and lists of calls in which a bundle stands for its deliveries. Assumes nothing.
use Rattle.std.specs.Prelude.{ℕ, zero, suc, Bool, List, [], ◌∷◌, ◌++◌, map}
use Rattle.std.proofs.Math.Option.{Option, none, some}
use Rattle.protocol.specs.Message.{Msg, Name, name_of}
use Rattle.protocol.specs.Order.{smallest}
use Rattle.protocol.specs.Calls.{Call, deliver, Outcome}

-- an item of a list: a call, or a bundle by its limit
pub data Item (C : Type 0) : Type 0 where
  one : C → Item C
  bundle : (limit : ℕ) → Item C

-- nothing without a message, else what goes on from it
unfoldable pub onward : Option Msg → (Msg → List Name) → List Name
onward none f = []
onward (some m) f = f m

-- over anything that calls are made of, each of what the one before left
module _ {A : Type 0} (make : A → Call → Outcome A) where
  -- the messages that a bundle delivers: none at limit 0 or with nothing pending; else the smallest by its five numbers, and then those
  -- that the bundle of one less delivers
  unfoldable pub bundle_of : (N W : ℕ) (pending : A → Msg → Bool) (limit : ℕ) → A → List Name
  bundle_of N W p zero a = []
  bundle_of N W p (suc n) a = onward (smallest N W (p a)) (λ m. name_of m ∷ bundle_of N W p n (make a (deliver (name_of m))).after)

  -- what deliveries leave, one after the other
  unfoldable pub left_by : A → List Name → A
  left_by a [] = a
  left_by a (n ∷ ns) = left_by (make a (deliver n)).after ns

  -- the list in which each bundle stands for its deliveries, given what these are, and each other item for the call that f makes of it
  unfoldable pub spread : {C : Type 0} (deliveries : A → (limit : ℕ) → List Name) (f : C → Call) → A → List (Item C) → List Call
  spread b f a [] = []
  spread b f a (one c ∷ is) = f c ∷ spread b f (make a (f c)).after is
  spread b f a (bundle n ∷ is) = map deliver (b a n) ++ spread b f (left_by a (b a n)) is
