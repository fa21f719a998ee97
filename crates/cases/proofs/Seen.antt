-- A list of calls on the bytes of an opened record is the same list on views: the bytes are those of the view's meaning, the log is the
-- same, and deliveries that take the smallest message of the view's list take the smallest pending one. Assumes nothing.
use Prim.Native.Nat.{ℕ, ◌≤◌}
use mathlib.Core.Path.{◌≡◌, refl, sym, ap, ◌∙◌, subst}
use mathlib.Core.Logic.{◌⊎◌, inl, inr}
use mathlib.Core.Option.{Option, none, some}
use mathlib.Core.Bool.{Bool, true, ◌&&◌}
use mathlib.Core.List.{List, [], ◌∷◌}
use lib.Dec.{T, leb, leb→le}
use Rattle.graph.specs.Vector.{width}
use Rattle.base.proofs.Tests.{and-fst, and-snd, or_cases}
use Rattle.protocol.specs.Message.{Msg, same_msg, among}
use Rattle.protocol.specs.Numbering.{place}
use Rattle.protocol.specs.State.{Meaning, nobody, opened}
use Rattle.protocol.specs.Calls.{Call, takes, Outcome, call}
use Rattle.protocol.specs.Sound.{Sound}
use Rattle.protocol.specs.Run.{Logged, Standing, log_of, step, steps, steps_from, meaning_run, AllInRange}
use Rattle.protocol.proofs.Message.{same-eq}
use Rattle.protocol.proofs.KeepSound.{opened-sound, call-sound}
use Rattle.record.specs.Layout.{seats}
use Rattle.record.specs.Meaning.{bytes_of}
use Rattle.record.specs.Reading.{open_refusal}
use Rattle.runs.specs.Run as runs
use Rattle.runs.specs.Run.{bytes_run}
use Rattle.runs.proofs.Same.{run-same}
use Rattle.runs.proofs.Theorem.{open-sized}
use Rattle.cases.specs.Lists.{Smallest, InOrder}
use Rattle.cases.proofs.View.{View, meant, view_refusal, view_call, view-call}

-- no message of the list is smaller than the one taken
unfoldable pub least : List Msg → Option Msg → Bool
least [] o = true
least (m ∷ l) none = true
least (m ∷ l) (some n) = leb (place seats width n) (place seats width m) && least l (some n)

least-among : (l : List Msg) (n : Msg) → T (least l (some n)) → (m : Msg) → T (among l m) → place seats width n ≤ place seats width m
unfolding least among
least-among [] n t m u = absurd u
least-among (k ∷ l) n t m u =
    by (or_cases (same_msg k m) (among l m) u) (λ w. least-among l n (and-snd (leb (place seats width n) (place seats width k)) _ t) m w)
  where
    by : T (same_msg k m) ⊎ T (among l m) → (T (among l m) → place seats width n ≤ place seats width m) → place seats width n ≤ place seats width m
    by (inl w) ih =
        let q = leb→le _ _ (and-fst (leb (place seats width n) (place seats width k)) _ t) in
        subst (λ (j : Msg). place seats width n ≤ place seats width j) (same-eq k m w) q
    by (inr w) ih = ih w

least-smallest : (l : List Msg) (o : Option Msg) → T (least l o) → Smallest (among l) o
least-smallest l none t = tt
least-smallest l (some n) t = least-among l n t

-- a view, the log that led to it, and whether each delivery took the smallest message
pub record Seen : Type 0 where
  pub view : View
  pub log : List Logged
  pub ordered : Bool

unfoldable pub look : Seen → List Call → Seen
look s [] = s
look s (c ∷ cs) = look (record {
  view = view_call s.view c;
  log = record { call = c; refused = view_refusal s.view c } ∷ s.log;
  ordered = least s.view.pending (takes seats width c) && s.ordered;
}) cs

-- a list of calls on the view of an opened record
unfoldable pub seen : List Call → Seen
seen cs = look (record { view = record { seats = nobody; link = λ x k d. none; pending = [] }; log = []; ordered = true }) cs

-- what is seen of a standing
record Shows (t : Standing Meaning) (s : Seen) : Type 0 where
  sound : Sound seats width t.now
  now : t.now ≡ meant s.view
  log : log_of t.history ≡ s.log
  order : T s.ordered → InOrder t.history

shows-steps : (cs : List Call) (t : Standing Meaning) (s : Seen) → AllInRange seats width cs → Shows t s
    → Shows (steps (call seats width) t cs) (look s cs)
unfolding look steps step log_of
shows-steps [] t s r h = h
shows-steps (c ∷ cs) t s r h = shows-steps cs _ _ r.1 (record {
  sound = call-sound seats width t.now h.sound c r.0;
  now = ap (λ (o : Outcome Meaning). o.after) both;
  log = λ i. record { call = c; refused = (both i).refused } ∷ h.log i;
  order = λ u. (
    subst (λ (M : Meaning). Smallest M.pending (takes seats width c)) (sym h.now)
        (least-smallest s.view.pending (takes seats width c) (and-fst (least s.view.pending (takes seats width c)) _ u)),
    h.order (and-snd (least s.view.pending (takes seats width c)) _ u),
  );
})
  where
    both : call seats width t.now c ≡ record { refused = view_refusal s.view c; after = meant (view_call s.view c) }
    both = ap (λ (M : Meaning). call seats width M c) h.now ∙ view-call s.view (subst (Sound seats width) h.now h.sound) c

shows-run : (cs : List Call) → AllInRange seats width cs → Shows (meaning_run seats width cs) (seen cs)
unfolding seen meaning_run steps_from opened log_of among
shows-run cs r = shows-steps cs _ _ r (record { sound = opened-sound seats width; now = refl; log = refl; order = λ u. tt })

module _ (l : List ℕ) (e : open_refusal l ≡ 0) (cs : List Call) (r : AllInRange seats width cs) where
  pub seen-sound : Sound seats width (meant (seen cs).view)
  seen-sound = subst (Sound seats width) (shows-run cs r).now (shows-run cs r).sound

  pub seen_bytes : (bytes_run l cs).now ≡ bytes_of (meant (seen cs).view)
  seen_bytes = (run-same l (open-sized l e) cs r).now ∙ ap bytes_of (shows-run cs r).now

  pub seen-log : log_of (runs.meant (bytes_run l cs).history) ≡ (seen cs).log
  seen-log = ap log_of (run-same l (open-sized l e) cs r).history ∙ (shows-run cs r).log

  pub seen-order : T (seen cs).ordered → InOrder (runs.meant (bytes_run l cs).history)
  seen-order u = subst InOrder (sym (run-same l (open-sized l e) cs r).history) ((shows-run cs r).order u)
