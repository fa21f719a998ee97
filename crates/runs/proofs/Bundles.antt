-- A bundle in a list of calls: it is made of what the items before it left, is never refused, leaves what its contract says and enters the history
-- as its deliveries; and from demand 3 alone, of any standing, one larger than the bound leaves nothing pending. Assumes only that the bytes
-- are bytes.
use Prim.Native.Nat.{ℕ, ◌<◌}
use mathlib.Core.Path.{◌≡◌, ap, ◌∙◌}
use mathlib.Core.List.{List, [], ◌∷◌, ◌++◌, map, append-nil}
use native.Mathlib.Omega.{arith}
use Rattle.memory.specs.Bytes.{AreBytes}
use Rattle.protocol.specs.Calls.{Call, deliver}
use Rattle.protocol.specs.Bundle.{Item, one, bundle, spread}
use Rattle.protocol.specs.Run.{Standing, step, steps, steps_from, accepted}
use Rattle.protocol.proofs.Bundle.{steps-left, run-append}
use Rattle.record.specs.Reading.{record_refusal, read_counts}
use Rattle.record.specs.Call.{called}
use Rattle.record.specs.Bundle.{bundle_in, bundled}
use Rattle.record.proofs.Reading.{record-accepted}
use Rattle.record.proofs.Bundle.{bundle-count, bundle-less}
use Rattle.runs.specs.Run.{bytes_run, list_run, Demand3}
use Rattle.runs.proofs.SameLots.{passed}

-- a list with one item more
module _ (l : List ℕ) (is : List (Item Call)) where
  abbrev here : Standing (List ℕ)
  here = list_run l is

  -- a call is made of what the list left
  pub run_call : (c : Call) → list_run l (is ++ one c ∷ []) ≡ step called (list_run l is) c
  unfolding list_run bytes_run steps_from spread steps
  run_call c = run-append called _ (λ c. c) _ is (one c ∷ [])

  -- a bundle stands for its deliveries
  pub run-bundle : (n : ℕ) → list_run l (is ++ bundle n ∷ []) ≡ steps called (list_run l is) (map deliver (bundle_in (list_run l is).now n))
  unfolding list_run bytes_run steps_from spread
  run-bundle n =
      run-append called _ (λ c. c) _ is (bundle n ∷ [])
      ∙ ap (steps called (list_run l is)) (append-nil (map deliver (bundle_in (list_run l is).now n)))

  -- and leaves the bytes that its contract says
  pub run-bundle-bytes : (n : ℕ) → (list_run l (is ++ bundle n ∷ [])).now ≡ (bundled (list_run l is).now n).after
  unfolding bundled
  run-bundle-bytes n = ap (λ (s : Standing (List ℕ)). s.now) (run-bundle n) ∙ steps-left called (list_run l is) (bundle_in (list_run l is).now n)

module _ {bound : List ℕ → ℕ} {s : Standing (List ℕ)} (D : Demand3 bound s) where
  fine : record_refusal s.now ≡ 0
  fine = record-accepted s.now (passed D).sized (passed D).fine

  -- it is not refused
  pub bundle-passes : (n : ℕ) → (bundled s.now n).refused ≡ 0
  unfolding bundled
  bundle-passes n = fine

  -- one larger than the bound leaves nothing pending
  pub bundle-settles : AreBytes s.now → (n : ℕ) → bound s.now < n → (read_counts (bundled s.now n).after).pending ≡ 0
  unfolding spread
  bundle-settles b n h =
      let e = ap (accepted called s.now) (append-nil (map deliver (bundle_in s.now n))) in
      bundle-less s.now b n fine (omega (arith, bundle-count s.now b n, e, D.ends (bundle n ∷ [])))
