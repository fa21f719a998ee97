-- A list of calls on the bytes keeps step with the same list on the meaning: the bytes are those of the meaning, and the histories say
-- the same. Assumes nothing.
use Prim.Native.Nat.{ℕ}
use mathlib.Core.Path.{◌≡◌, refl, ap, ◌∙◌}
use mathlib.Core.List.{List, [], ◌∷◌}
use lib.ListN.{length}
use borrow.Author.Tests.{eq-eqb}
use Rattle.graph.specs.Vector.{width}
use Rattle.protocol.specs.State.{Meaning}
use Rattle.protocol.specs.Calls.{Call, Outcome, InRange, call}
use Rattle.protocol.specs.Sound.{Sound}
use Rattle.protocol.specs.Run.{Standing, step, steps, steps_from, meaning_run, AllInRange}
use Rattle.protocol.proofs.KeepSound.{opened-sound, call-sound}
use Rattle.record.specs.Layout.{seats, size}
use Rattle.record.specs.Meaning.{meaning, bytes_of}
use Rattle.record.specs.Reading.{open_bytes}
use Rattle.record.specs.Call.{called}
use Rattle.record.proofs.Round.{meaning-bytes}
use Rattle.record.proofs.Call.{call-bytes}
use Rattle.runs.specs.Run.{bytes_run, meant}

-- the protocol's calls at this record's seats and width
abbrev meant_call : Meaning → Call → Outcome Meaning
meant_call = call seats width

-- the same standing on the bytes and on the meaning, and the meaning is sound
pub record Same (s : Standing (List ℕ)) (t : Standing Meaning) : Type 0 where
  pub fine : Sound seats width t.now
  pub now : s.now ≡ bytes_of t.now
  pub history : meant s.history ≡ t.history

step_same : (s : Standing (List ℕ)) (t : Standing Meaning) → Same s t → (c : Call) → InRange seats width c
    → Same (step called s c) (step meant_call t c)
unfolding step meant
step_same s t h c r = record {
  fine = call-sound seats width t.now h.fine c r;
  now = ap (λ (o : Outcome (List ℕ)). o.after) both;
  history = λ i. record {
    logged = record { call = c; refused = (both i).refused };
    before = (ap meaning h.now ∙ meaning-bytes h.fine) i;
  } ∷ h.history i;
}
  where
    both : called s.now c ≡ record { refused = (meant_call t.now c).refused; after = bytes_of (meant_call t.now c).after }
    both = ap (λ (l : List ℕ). called l c) h.now ∙ call-bytes t.now h.fine c

steps-same : (s : Standing (List ℕ)) (t : Standing Meaning) → Same s t → (cs : List Call) → AllInRange seats width cs
    → Same (steps called s cs) (steps meant_call t cs)
unfolding steps
steps-same s t h [] r = h
steps-same s t h (c ∷ cs) r = steps-same (step called s c) (step meant_call t c) (step_same s t h c r.0) cs r.1

pub run-same : (l : List ℕ) → length l ≡ size → (cs : List Call) → AllInRange seats width cs → Same (bytes_run l cs) (meaning_run seats width cs)
unfolding bytes_run meaning_run steps_from open_bytes meant
run-same l e cs r = steps-same _ _ (record { fine = opened-sound seats width; now = rw (eq-eqb (length l) size e); history = refl }) cs r
