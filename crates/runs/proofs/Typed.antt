-- Every argument that the types of the code can hold is in the range that the pages of the calls ask for; and the largest values of the types
-- are among them, so that neither range can narrow unseen. Assumes nothing.
use Prim.Native.Nat.{ℕ}
use mathlib.Core.List.{List, [], ◌∷◌, ◌++◌, map}
use native.Mathlib.Omega.{arith}
use Rattle.graph.specs.Vector.{width}
use Rattle.protocol.specs.Message.{Name, name}
use Rattle.protocol.specs.Calls.{Call, join, reserve, confirm, give_back, leave, deliver, turn, crash, merge, InRange}
use Rattle.protocol.specs.Bundle.{Item, one, bundle, left_by, spread}
use Rattle.protocol.specs.Run.{AllInRange}
use Rattle.record.specs.Layout.{seats}
use Rattle.record.specs.Call.{called}
use Rattle.record.specs.Bundle.{bundle_in}
use Rattle.runs.specs.Typed.{Typed, TypedItem, AllTyped}

pub typed-fits : (c : Call) → Typed c → InRange seats width c
typed-fits (join s n v c) (ts, tn, tv, tc) = (tn, tv)
typed-fits (reserve s n v) (ts, tn, tv) = (tn, tv)
typed-fits (confirm s c) t = tt
typed-fits (give_back s) t = tt
typed-fits (leave s) t = tt
typed-fits (deliver n) t = tt
typed-fits turn t = tt
typed-fits (crash set) t = t
typed-fits (merge a b) t = tt

-- deliveries are in range, whatever their numbers
deliveries-fit : (ns : List Name) (cs : List Call) → AllInRange seats width cs → AllInRange seats width (map deliver ns ++ cs)
deliveries-fit [] cs r = r
deliveries-fit (n ∷ ns) cs r = (tt, deliveries-fit ns cs r)

pub all_typed : (l : List ℕ) (is : List (Item Call)) → AllTyped is → AllInRange seats width (spread called bundle_in (λ c. c) l is)
unfolding spread
all_typed l [] t = tt
all_typed l (one c ∷ is) t = (typed-fits c t.0, all_typed (called l c).after is t.1)
all_typed l (bundle n ∷ is) t = deliveries-fit (bundle_in l n) _ (all_typed (left_by called l (bundle_in l n)) is t.1)

-- the largest values
pub widest-join : Typed (join 255 18446744073709551615 255 255)
widest-join = (omega arith, omega arith, omega arith, omega arith)

pub widest-reserve : Typed (reserve 255 18446744073709551615 255)
widest-reserve = (omega arith, omega arith, omega arith)

pub widest-confirm : Typed (confirm 255 255)
widest-confirm = (omega arith, omega arith)

pub widest-give-back : Typed (give_back 255)
widest-give-back = omega arith

pub widest-leave : Typed (leave 255)
widest-leave = omega arith

pub widest-deliver : Typed (deliver (name 255 255 255 255 255))
widest-deliver = (omega arith, omega arith, omega arith, omega arith, omega arith)

pub widest-crash : Typed (crash 18446744073709551615)
widest-crash = omega arith

pub widest-merge : Typed (merge 255 255)
widest-merge = (omega arith, omega arith)

pub widest-bundle : TypedItem (bundle 65535)
widest-bundle = omega arith
