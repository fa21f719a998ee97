-- The steps together are what an accepted crash does. Assumes nothing.
use Prim.Native.Nat.{ℕ}
use mathlib.Core.Path.{◌≡◌, sym, ap}
use mathlib.Core.Logic.{◌≢◌}
use borrow.Author.Tests.{ne_eqb}
use Rattle.graph.specs.Vector.{width}
use Rattle.protocol.specs.State.{Meaning}
use Rattle.protocol.specs.Calls.{crash, seats_after, links_after, sends, takes, accept}
use Rattle.protocol.specs.pages.Crash.{introductions}
use Rattle.protocol.proofs.ReachedCrash.{crash-nobody}
use Rattle.record.specs.Layout.{seats}
use Rattle.record.specs.Meaning.{bytes_of}
use Rattle.clearing.specs.inner.Steps.{saying, freed}

module _ (M : Meaning) (set : ℕ) where
  pub crash-nothing : set ≡ 0 → bytes_of M ≡ bytes_of (accept seats width M (crash set))
  crash-nothing e = rw e (ap bytes_of (sym (crash-nobody seats width M)))

  pub crash-introduced : set ≢ 0
      → bytes_of (saying (freed set M) (introductions seats width (freed set M).link)) ≡ bytes_of (accept seats width M (crash set))
  unfolding accept seats_after links_after sends takes
  crash-introduced e = rw (ne_eqb set 0 e)
