-- A message taken and its rule done leave the bytes of the meaning after its delivery, in a sound record where it is pending.
-- Assumes nothing.
use Prim.Native.Nat.{ℕ, ◌<◌}
use mathlib.Core.Path.{◌≡◌, refl, sym, ap, ◌∙◌, subst}
use mathlib.Core.Option.{Option, none, some}
use mathlib.Core.Bool.{Bool, true, false, cond}
use mathlib.Core.List.Memᴰ
use mathlib.Core.List.{List, [], ◌∷◌, Memᴰ}
use lib.Dec.{T, eqb}
use Rattle.memory.specs.Bits.{clear_bit}
use Rattle.graph.specs.Side.{Side, on_side}
use Rattle.graph.specs.Vector.{width}
use Rattle.base.proofs.Tests.{T_true, or_left, some_inj, none-some}
use Rattle.protocol.specs.Message.{Msg, meet, probe, pull, going, seek, found, none_found, Name, name_of, named, among}
use Rattle.protocol.specs.Numbering.{exists, place}
use Rattle.protocol.specs.Rules.{Entry, Change, keep, set, Effect, sending, setting, meeting, effect}
use Rattle.protocol.specs.State.{Meaning, is_pending}
use Rattle.protocol.specs.Sound.{Sound, message_ok}
use Rattle.protocol.specs.Calls.{deliver, rows, refusal, accept}
use Rattle.protocol.specs.Refusals.{first}
use Rattle.protocol.specs.pages.Deliver.{rule}
use Rattle.protocol.proofs.Message.{named-name, mem-among}
use Rattle.protocol.proofs.SoundFacts.{pending-exists, pending-after}
use Rattle.protocol.proofs.KeepDelivery.{deliver-sound}
use Rattle.protocol.proofs.Delivery.{accept-deliver}
use Rattle.protocol.proofs.Local.{pending-exactly}
use Rattle.record.specs.Layout.{seats, levels, pending_from}
use Rattle.record.specs.Meaning.{meaning, bytes_of}
use Rattle.record.proofs.Values.{NamesSeat}
use Rattle.record.proofs.Form.{Form, exists-pending}
use Rattle.record.proofs.Round.{bytes-meaning, meaning-bytes}
use Rattle.record.proofs.Pending.{after-taken}
use Rattle.record.proofs.Update.{with_change, without_message, bytes-with_link, bytes-keep}
use Rattle.record.specs.inner.Sent.{sent_bits}
use Rattle.record.proofs.Sent.{bytes-without_message, bytes-sent}
use Rattle.rules.specs.inner.Done.{changed, done}
use Rattle.messages.proofs.Named.{two-below, three-below}

-- a change at a level that exists to a link that names a seat
unfoldable pub AtLevel : Change → Type 0
AtLevel keep = Unit {0}
AtLevel (set k d o) = (k < levels) × NamesSeat o

-- the link to a seat, and no link
names-some : {a : ℕ} → a < seats → NamesSeat (some a)
names-some h y e = subst (λ (z : ℕ). z < seats) (some_inj e) h

names-none : NamesSeat none
names-none y e = none-some refl e

meeting-level : (num vec : ℕ → ℕ) (e : Entry) (t a l : ℕ) (d : Side) → a < seats → l < levels → (o : Option ℕ)
    → AtLevel (meeting width num vec e t a l d o).change
unfolding AtLevel meeting setting
meeting-level num vec e t a l d g h none = (h, names-some g)
meeting-level num vec e t a l d g h (some o) = by (eqb o a) (on_side d (num o) (num a))
  where
    by : (b c : Bool) → AtLevel (cond b (sending []) (cond c (sending (meet o a l ∷ [])) (setting width num vec e t a l d))).change
    by true c = tt
    by false true = tt
    by false false = (h, names-some g)

-- the change of a rule is at the message's level
pub rule-level : (M : Meaning) (m : Msg) → T (exists seats width m) → AtLevel (rule width M m).change
unfolding AtLevel rule effect exists
rule-level M (meet t a l) x = let (_, g, h) = three-below t a l _ _ _ x in meeting-level _ _ _ t a l _ g h _
rule-level M (probe t a l) x = tt
rule-level M (pull t b l d) x = tt
rule-level M (going t l d) x = tt
rule-level M (seek t a l) x = tt
rule-level M (found t a l) x = let (_, g, h) = three-below t a l _ _ _ x in (h, names-some g)
rule-level M (none_found t l d) x = ((two-below t l _ _ x).1, names-none)

-- `to` is a seat
pub to-seat : (m : Msg) → T (exists seats width m) → (name_of m).to < seats
unfolding exists
to-seat (meet t a l) x = (three-below t a l _ _ _ x).0
to-seat (probe t a l) x = (three-below t a l _ _ _ x).0
to-seat (pull t b l d) x = (two-below t l _ _ x).0
to-seat (going t l d) x = (two-below t l _ _ x).0
to-seat (seek t a l) x = (three-below t a l _ _ _ x).0
to-seat (found t a l) x = (three-below t a l _ _ _ x).0
to-seat (none_found t l d) x = (two-below t l _ _ x).0

bytes-changed : (N : Meaning) (t : ℕ) (c : Change) → t < seats → AtLevel c → bytes_of (with_change N t c) ≡ changed t c (bytes_of N)
unfolding AtLevel changed
bytes-changed N t keep h g = bytes-keep N t
bytes-changed N t (set k d o) h g = bytes-with_link N t k d o h g.0 g.1

without-sound : {M : Meaning} → Sound seats width M → (m : Msg) → Sound seats width (without_message M m)
without-sound {M} h m = record {
  seats = h.seats;
  numbers = h.numbers;
  vectors = h.vectors;
  unused = h.unused;
  differ = h.differ;
  links = h.links;
  messages = pending-after (λ n. T (message_ok width M.seats n)) [] (some m) M.pending h.messages (λ n q. absurd (Memᴰ.not-nil q));
}

-- what a rule sends exists
pub sent-exists : {M : Meaning} → Sound seats width M → (m : Msg) → T (M.pending m)
    → (n : Msg) → Memᴰ n (rule width M m).sent → T (exists seats width n)
unfolding refusal rows first is_pending
sent-exists {M} h m t n q =
    pending-exists after n (rw (pending-exactly seats width M m n) (or_left (among (rule width M m).sent n) _ (mem-among _ q)))
  where
    accepted : refusal seats width M.seats M.pending (deliver (name_of m)) ≡ 0
    accepted = rw (named-name m, T_true {b = M.pending m} t)

    after : Sound seats width (accept seats width M (deliver (name_of m)))
    after = deliver-sound h (name_of m) accepted

module _ {l : List ℕ} (f : Form l) (h : Sound seats width (meaning l)) (n : Name) (m : Msg) (q : named n ≡ some m) (t : T ((meaning l).pending m)) where
  abbrev M : Meaning
  M = meaning l

  abbrev N : Meaning
  N = without_message (meaning l) m

  taken : clear_bit l pending_from (place seats width m) ≡ bytes_of (without_message (meaning l) m)
  taken =
      ap (λ (b : List ℕ). clear_bit b pending_from (place seats width m)) (sym (bytes-meaning f))
      ∙ sym (bytes-without_message (meaning l) m (exists-pending l m t))

  -- the rule does not see that the message is taken
  pub same-rule : rule width (meaning (clear_bit l pending_from (place seats width m))) m ≡ rule width (meaning l) m
  unfolding rule
  same-rule =
      ap (λ (b : List ℕ). rule width (meaning b) m) taken
      ∙ ap (λ (X : Meaning). rule width X m) (meaning-bytes (without-sound h m))

  -- x is the record after the message is taken
  pub deliver-bytes : {x : List ℕ} → x ≡ clear_bit l pending_from (place seats width m)
      → done (name_of m).to (rule width (meaning x) m) x ≡ bytes_of (accept seats width (meaning l) (deliver n))
  unfolding done
  deliver-bytes e =
      let s = (name_of m).to in
      let r = rule width (meaning l) m in
      ap (λ (x : List ℕ). done s (rule width (meaning x) m) x) e
      ∙ ap (λ (x : Effect). done s x (clear_bit l pending_from (place seats width m))) same-rule
      ∙ ap (λ (b : List ℕ). done s r b) taken
      ∙ ap (sent_bits r.sent) (sym (bytes-changed N s r.change (to-seat m (exists-pending l m t)) (rule-level M m (exists-pending l m t))))
      ∙ sym (bytes-sent (with_change N s r.change) r.sent (sent-exists h m t))
      ∙ ap (λ (p : Msg → Bool). bytes_of (record { seats = M.seats; link = (with_change N s r.change).link; pending = p }))
      (sym (after-taken r.sent (some m) M.pending))
      ∙ ap bytes_of (sym (accept-deliver seats width M n m q))
