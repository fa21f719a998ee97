-- What the bytes of a small record read, and the clauses of soundness of these bytes, told by its lists. Assumes nothing.
use Prim.Native.Nat.{ℕ, ◌^◌, ◌≤◌, ◌<◌}
use mathlib.Core.Path.{◌≡◌, refl, sym, ap, ◌∙◌, subst}
use mathlib.Core.Logic.{◌⊎◌, inl, inr, ⊎_elim}
use mathlib.Core.Option.{some}
use mathlib.Core.Bool.{Bool, true, false, not, cond, ◌&&◌, ◌||◌}
use mathlib.Core.List.{List, [], ◌∷◌}
use native.Mathlib.Omega.{arith}
use lib.Dec.{T, eqb, ltb, ltb→lt}
use lib.ListN.{get_or}
use Rattle.base.specs.Loops.{all}
use Rattle.base.proofs.All.{all_same}
use Rattle.base.proofs.Cases.{lt-or-ge, same_test}
use Rattle.base.proofs.Tests.{T_true, true-T, and_T, and-fst, and-snd, or_cases, or_left, or_right}
use Rattle.memory.proofs.Bytes.{number_at-one}
use Rattle.graph.specs.Side.{Side, left, right}
use Rattle.graph.specs.Graph.{Links}
use Rattle.graph.specs.Vector.{width}
use Rattle.protocol.specs.Message.{Msg, same_msg, among}
use Rattle.protocol.specs.Numbering.{exists, place, message_at}
use Rattle.protocol.specs.Rules.{free}
use Rattle.protocol.specs.State.{Phase, Seats, Meaning, taken}
use Rattle.protocol.specs.Sound.{number_bits, link_ok, message_ok}
use Rattle.protocol.specs.pages.Deliver.{same_side, applied}
use Rattle.protocol.proofs.Message.{same-eq, same_self}
use Rattle.protocol.proofs.Numbering.{message_at-place}
use Rattle.protocol.proofs.Calls.{at_other, at_all}
use Rattle.record.specs.Layout.{seats, levels, no_link, link_at}
use Rattle.record.specs.Cell.{link_cell}
use Rattle.record.specs.Meaning.{seats_in, meaning, phase_of, state_of, link_byte}
use Rattle.record.specs.Sound.{phase_fits, states_fit, as_opened, unused_fit, numbers_differ, link_fits, links_fit, messages_fit}
use Rattle.record.proofs.Values.{phase_of-phase_byte, state_of-state_byte, phase_byte-lt, state_byte-lt}
use Rattle.record.proofs.Places.{place-within}
use Rattle.record.proofs.Cells.{cell-read}
use Rattle.record.proofs.Form.{meaning-state, meaning-number, meaning-vector, no-seat-state, no-seat-number, no-seat-vector}
use Rattle.record.proofs.Round.{read-phase, read-state, read_number, read_vector, read-bit, read-message}
use Rattle.record.proofs.Clauses.{phase_fits-is, states_fit-is, messages_fit-is}
use Rattle.cases.specs.Small.{Held, LinkOf, field_in, link_in, seats_of, small, small_bytes}

-- what the lists hold fits its bytes
unfoldable pub held_fit : List Held → Bool
held_fit [] = true
held_fit (h ∷ hs) = ltb h.seat seats && (ltb h.number (2 ^ number_bits) && (ltb h.vector (2 ^ width) && held_fit hs))

unfoldable pub links_written : List LinkOf → Bool
links_written [] = true
links_written (l ∷ ls) = ltb l.to 256 && links_written ls

unfoldable pub all_exist : List Msg → Bool
all_exist [] = true
all_exist (m ∷ ms) = exists seats width m && all_exist ms

module _ (h : Held) (hs : List Held) (t : T (held_fit (h ∷ hs))) where
  abbrev behind : Bool
  behind = ltb h.number (2 ^ number_bits) && (ltb h.vector (2 ^ width) && held_fit hs)

  seat-fits : h.seat < seats
  unfolding held_fit
  seat-fits = ltb→lt h.seat seats (and-fst (ltb h.seat seats) behind t)

  number_fits : h.number < 2 ^ number_bits
  unfolding held_fit
  number_fits = ltb→lt h.number (2 ^ number_bits) (and-fst (ltb h.number (2 ^ number_bits)) _ (and-snd (ltb h.seat seats) behind t))

  vector-fits : h.vector < 2 ^ width
  unfolding held_fit
  vector-fits =
      let u = and-snd (ltb h.number (2 ^ number_bits)) _ (and-snd (ltb h.seat seats) behind t) in
      ltb→lt h.vector (2 ^ width) (and-fst (ltb h.vector (2 ^ width)) (held_fit hs) u)

  rest-fits : T (held_fit hs)
  unfolding held_fit
  rest-fits =
      let u = and-snd (ltb h.number (2 ^ number_bits)) _ (and-snd (ltb h.seat seats) behind t) in
      and-snd (ltb h.vector (2 ^ width)) (held_fit hs) u

-- seats that do not exist are not in the list
field-beyond : {A : Type 0} (f : Held → A) (a : A) (hs : List Held) → T (held_fit hs) → (x : ℕ) → seats ≤ x → field_in f a hs x ≡ a
unfolding field_in
field-beyond f a [] t x p = refl
field-beyond f a (h ∷ hs) t x p =
    at_other h.seat (f h) (field_in f a hs) x (λ e. omega (arith, seat-fits h hs t)) ∙ field-beyond f a hs (rest-fits h hs t) x p

number-below : (hs : List Held) → T (held_fit hs) → (x : ℕ) → field_in (λ h. h.number) 0 hs x < 2 ^ number_bits
unfolding field_in
number-below [] t x = omega arith
number-below (h ∷ hs) t x =
    at_all h.seat h.number (field_in (λ h. h.number) 0 hs) (λ n. n < 2 ^ number_bits) (number_fits h hs t)
    (number-below hs (rest-fits h hs t)) x

vector-below : (hs : List Held) → T (held_fit hs) → (x : ℕ) → field_in (λ h. h.vector) 0 hs x < 2 ^ width
unfolding field_in
vector-below [] t x = omega arith
vector-below (h ∷ hs) t x =
    at_all h.seat h.vector (field_in (λ h. h.vector) 0 hs) (λ n. n < 2 ^ width) (vector-fits h hs t)
    (vector-below hs (rest-fits h hs t)) x

-- a link's byte
link-below : (ls : List LinkOf) → T (links_written ls) → (x k : ℕ) (d : Side) → link_byte (link_in ls x k d) < 256
unfolding link_in links_written applied
link-below [] t x k d = omega arith
link-below (l ∷ ls) t x k d =
    by (eqb x l.seat && (eqb k l.level && same_side d l.side)) (ltb→lt l.to 256 (and-fst (ltb l.to 256) (links_written ls) t))
    (link-below ls (and-snd (ltb l.to 256) (links_written ls) t) x k d)
  where
    by : (b : Bool) → l.to < 256 → link_byte (link_in ls x k d) < 256 → link_byte (cond b (some l.to) (link_in ls x k d)) < 256
    by true p q = p
    by false p q = q

-- each message of a list fits
unfoldable pub all_ok : Seats → List Msg → Bool
all_ok r [] = true
all_ok r (m ∷ ms) = message_ok width r m && all_ok r ms

ok-among : (r : Seats) (ms : List Msg) → T (all_ok r ms) → (m : Msg) → T (among ms m) → T (message_ok width r m)
unfolding all_ok among
ok-among r [] t m u = absurd u
ok-among r (n ∷ ms) t m u = by (or_cases (same_msg n m) (among ms m) u) (ok-among r ms (and-snd (message_ok width r n) (all_ok r ms) t) m)
  where
    by : T (same_msg n m) ⊎ T (among ms m) → (T (among ms m) → T (message_ok width r m)) → T (message_ok width r m)
    by (inl w) f = subst (λ (k : Msg). T (message_ok width r k)) (same-eq n m w) (and-fst (message_ok width r n) (all_ok r ms) t)
    by (inr w) f = f w

among-ok : (r : Seats) (ms : List Msg) → ((m : Msg) → T (among ms m) → T (exists seats width m) → T (message_ok width r m))
    → T (all_exist ms) → T (all_ok r ms)
unfolding all_ok among all_exist
among-ok r [] f t = tt
among-ok r (n ∷ ms) f t =
    and_T (message_ok width r n) (all_ok r ms)
    (f n (or_left (same_msg n n) (among ms n) (same_self n)) (and-fst (exists seats width n) (all_exist ms) t))
    (among-ok r ms (λ m u. f m (or_right (same_msg n m) (among ms m) u)) (and-snd (exists seats width n) (all_exist ms) t))

-- the clauses as tests of phase, seats and links
module _ (r : Seats) (L : Links) where
  unfoldable pub unused_of : Bool
  unused_of = all seats (λ s. taken r s || (eqb (r.number s) 0 && (eqb (r.vector s) 0
      && all levels (λ k. eqb (link_byte (L s k left)) no_link && eqb (link_byte (L s k right)) no_link))))

  unfoldable pub numbers_of : Bool
  numbers_of = all seats (λ x. all x (λ y. not (taken r x && (taken r y && eqb (r.number x) (r.number y)))))

  abbrev link_of : (x k : ℕ) → Side → Bool
  link_of x k d = let b = link_byte (L x k d) in eqb b no_link || (ltb b seats && link_ok width r x k d b)

  unfoldable pub links_of : Bool
  links_of = all seats (λ x. all levels (λ k. link_of x k left && link_of x k right))

module _ (p : Phase) (hs : List Held) (ls : List LinkOf) (ms : List Msg) (fit : T (held_fit hs)) where
  abbrev M : Meaning
  M = small p hs ls ms

  abbrev b : List ℕ
  b = small_bytes p hs ls ms

  same-state : (x : ℕ) → (meaning b).seats.state x ≡ (seats_of p hs).state x
  same-state x = ⊎_elim
      (λ q. meaning-state b x q ∙ ap state_of (read-state M x q) ∙ state_of-state_byte ((seats_of p hs).state x))
      (λ q. no-seat-state b x q ∙ sym (field-beyond (λ h. h.state) free hs fit x q))
      (lt-or-ge x seats)

  same_number : (x : ℕ) → (meaning b).seats.number x ≡ (seats_of p hs).number x
  same_number x = ⊎_elim
      (λ q. meaning-number b x q ∙ read_number M x q (number-below hs fit x))
      (λ q. no-seat-number b x q ∙ sym (field-beyond (λ h. h.number) 0 hs fit x q))
      (lt-or-ge x seats)

  same-vector : (x : ℕ) → (meaning b).seats.vector x ≡ (seats_of p hs).vector x
  same-vector x = ⊎_elim
      (λ q. meaning-vector b x q ∙ read_vector M x q (vector-below hs fit x))
      (λ q. no-seat-vector b x q ∙ sym (field-beyond (λ h. h.vector) 0 hs fit x q))
      (lt-or-ge x seats)

  -- phase and seats read as in the lists
  pub seats-read : seats_in b ≡ seats_of p hs
  unfolding meaning seats_in
  seats-read = λ i. record {
    phase = (ap phase_of (read-phase M) ∙ phase_of-phase_byte p) i;
    state = λ x. same-state x i;
    number = λ x. same_number x i;
    vector = λ x. same-vector x i;
  }

  -- the clauses of these bytes
  pub phase-read : phase_fits b ≡ true
  phase-read = (phase_fits-is b).1 (rw (read-phase M) (phase_byte-lt p))

  pub states-read : states_fit b ≡ true
  states-read = (states_fit-is b).1 (λ s h. rw (read-state M s h) (state_byte-lt ((seats_of p hs).state s)))

  pub numbers-read : numbers_differ b ≡ numbers_of (seats_of p hs) (link_in ls)
  unfolding numbers_differ numbers_of
  numbers-read = rw seats-read

  pub messages-read : T (all_exist ms) → messages_fit b ≡ all_ok (seats_of p hs) ms
  messages-read ex = same_test (messages_fit b) (all_ok (seats_of p hs) ms) to from
    where
      to : messages_fit b ≡ true → all_ok (seats_of p hs) ms ≡ true
      to e = T_true {b = all_ok (seats_of p hs) ms} (among-ok (seats_of p hs) ms (λ m u x.
          let i = place seats width m in
          let t = (messages_fit-is b).0 e i (place-within m x) (rw (read-message M m x) u) in
          subst (λ (r : Seats). T (message_ok width r m)) seats-read
          (subst (λ (n : Msg). T (message_ok width (seats_in b) n)) (message_at-place seats width m x) t)) ex)

      from : all_ok (seats_of p hs) ms ≡ true → messages_fit b ≡ true
      from e = (messages_fit-is b).1 (λ i h t.
          subst (λ (r : Seats). T (message_ok width r (message_at seats width i))) (sym seats-read)
          (ok-among (seats_of p hs) ms (true-T e) (message_at seats width i) (rw (← read-bit M i h) t)))

  module _ (written : T (links_written ls)) where
    pub link-read : (s k : ℕ) (d : Side) → s < seats → k < levels → get_or b (link_at s k d) 0 ≡ link_byte (link_in ls s k d)
    link-read s k d h g = sym (number_at-one b (link_at s k d)) ∙ cell-read M (link_cell s k d) (h, g) (link-below ls written s k d)

    pub unused-read : unused_fit b ≡ unused_of (seats_of p hs) (link_in ls)
    unfolding unused_fit as_opened unused_of
    unused-read = all_same seats _ _ (λ s h.
        let e = all_same levels
        (λ k. eqb (get_or b (link_at s k left) 0) no_link && eqb (get_or b (link_at s k right) 0) no_link)
        (λ k. eqb (link_byte (link_in ls s k left)) no_link && eqb (link_byte (link_in ls s k right)) no_link)
        (λ k g. rw (link-read s k left h g, link-read s k right h g)) in
        rw (seats-read, e))

    pub links-read : links_fit b ≡ links_of (seats_of p hs) (link_in ls)
    unfolding links_fit link_fits links_of
    links-read = all_same seats _ _ (λ x h. all_same levels _ _ (λ k g. rw (link-read x k left h g, link-read x k right h g, seats-read)))
