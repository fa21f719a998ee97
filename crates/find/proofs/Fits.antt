-- On a sound record every walk ends: its links keep to their side. Assumes nothing.
use Prim.Native.Nat.{ℕ}
use mathlib.Core.Path.{◌≡◌, subst}
use mathlib.Core.Bool.{true}
use mathlib.Core.List.{List}
use lib.ListN.{length}
use Rattle.memory.specs.Bytes.{AreBytes}
use Rattle.graph.specs.Vector.{width}
use Rattle.protocol.specs.State.{Seats, Meaning, seated}
use Rattle.protocol.specs.Sound.{Sound}
use Rattle.protocol.proofs.SoundFacts.{seated-below, seated-differ, link-linked}
use Rattle.record.specs.Layout.{seats, size}
use Rattle.record.specs.Meaning.{meaning}
use Rattle.record.specs.Sound.{sound}
use Rattle.record.proofs.Form.{meaning-seats}
use Rattle.record.proofs.Sound.{sound-is}
use Rattle.search.specs.inner.Ordered.{Ordered}
use Rattle.find.specs.inner.Steps.{Fit}

pub sound-ordered : {N W : ℕ} {M : Meaning} → Sound N W M → Ordered N W (seated M.seats) M.seats.number M.link
sound-ordered h = record {
  seat = seated-below h;
  differ = seated-differ h;
  within = λ m l e. (link-linked h e).0.two;
  order = λ m l e. (link-linked h e).1;
}

pub sound-fit : (l : List ℕ) → length l ≡ size → AreBytes l → sound l ≡ true → Fit l
sound-fit l z b s = subst (λ (r : Seats). Ordered seats width (seated r) r.number (meaning l).link) (meaning-seats l) (sound-ordered ((sound-is l z b).0 s).1)
