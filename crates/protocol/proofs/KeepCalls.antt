-- An accepted join, reservation, confirmation, return, leave or merge keeps soundness; and what seats before and after share if lots stay as they are. A
-- join is a reservation and its confirmation. Assumes nothing.
use Prim.Native.Nat.{ℕ, ◌^◌, ◌<◌, zero-le}
use mathlib.Core.Path.{◌≡◌, refl, sym, ◌∙◌, subst}
use mathlib.Core.Logic.{◌⊎◌, inl, inr, ◌≢◌}
use mathlib.Core.Option.{none, some}
use mathlib.Core.Bool.{Bool, true, false, not, cond}
use mathlib.Core.List.Memᴰ
use mathlib.Core.List.{List, [], ◌∷◌, Memᴰ}
use native.Mathlib.Decide.{ℕ_discrete}
use lib.Dec.{T, eqb, ltb}
use lib.Pow.{pow_pos}
use borrow.Author.Tests.{eq-eqb, ne_eqb, ltb-true, not-true}
use Rattle.graph.specs.Side.{Side}
use Rattle.base.proofs.Tests.{T_true, true-T, false-T, none-some}
use Rattle.graph.specs.inner.Order.{Lt, to_l, to_r}
use Rattle.protocol.specs.Message.{Msg, meet}
use Rattle.protocol.specs.Rules.{SeatState, free, staying, leaving, reserved}
use Rattle.protocol.specs.State.{Phase, open_phase, clearing, Seats, Meaning, is_free, is_seated, taken, seated, stays}
use Rattle.protocol.specs.Calls.{join, reserve, confirm, give_back, leave, merge, refusal, seats_after, sends, takes, links_after, accept}
use Rattle.protocol.specs.Page.{at, marking, seating, without_links, pending_after}
use Rattle.protocol.specs.pages.Join.{greeting}
use Rattle.protocol.specs.Sound.{number_bits, link_ok, message_ok, Sound}
use Rattle.protocol.proofs.Calls.{at_same, at_other, at-tested, at_all}
use Rattle.protocol.proofs.SoundFacts.{Two, Linked, Proper, p-meet, p-probe, p-pull, p-going, p-seek, p-found, p-none, linked-ok, proper-ok}
use Rattle.protocol.proofs.SoundFacts.{not-clearing, link-linked, pending-proper, stays-seated, seated-taken, held-taken}
use Rattle.protocol.proofs.SoundFacts.{held-empty, free-empty, pending-after}
use Rattle.protocol.proofs.Accepted.{reserve-rows, Confirms, confirm-rows, give-back-rows, leave-rows, join-reserve, Merges, merge-rows}
use Rattle.protocol.proofs.Reserving.{join-confirm, join-in-two}

-- lot x, seated in r, is seated in r', with the same number and vector
pub record Kept (r r' : Seats) (x : ℕ) : Type 0 where
  pub there : T (seated r' x)
  pub number : r'.number x ≡ r.number x
  pub vector : r'.vector x ≡ r.vector x

-- seat x, taken in r, is taken in r', with the same number
pub record Held (r r' : Seats) (x : ℕ) : Type 0 where
  pub there : T (taken r' x)
  pub number : r'.number x ≡ r.number x

lt-kept : {r r' : Seats} {x y : ℕ} {d : Side} → Kept r r' x → Kept r r' y → Lt r.number d x y → Lt r'.number d x y
lt-kept {x = x} {y = y} p q (to_l l) = to_l {x = x} {y = y} (rw (p.number, q.number) l)
lt-kept {x = x} {y = y} p q (to_r l) = to_r {x = x} {y = y} (rw (p.number, q.number) l)

module _ {W : ℕ} {r r' : Seats} where
  two-kept : {k x y : ℕ} → Kept r r' x → Kept r r' y → Two W r k x y → Two W r' k x y
  two-kept p q t = record { one = p.there; two = q.there; apart = t.apart; bits = rw (p.vector, q.vector) t.bits }

  pub linked-kept : {x k y : ℕ} {d : Side} → Kept r r' x → Kept r r' y → Linked W r x k d y → Linked W r' x k d y
  linked-kept p q (t, l) = (two-kept p q t, lt-kept p q l)

  -- every lot stays, and while clearing the staying ones stay so: what fitted its kind still does
  proper-kept : {p : Phase} {m : Msg} → ((x : ℕ) → T (seated r x) → Kept r r' x)
      → (p ≡ clearing → (x : ℕ) → T (stays r x) → T (stays r' x))
      → Proper W r p m → Proper W r' p m
  proper-kept f g (p-meet t) = p-meet (two-kept (f _ t.one) (f _ t.two) t)
  proper-kept f g (p-probe t w) = p-probe (two-kept (f _ t.one) (f _ t.two) t) w
  proper-kept f g (p-pull s w) = p-pull (f _ s).there w
  proper-kept f g (p-going s w) = p-going (f _ s).there w
  proper-kept f g (p-seek t a) = p-seek (two-kept (f _ t.one) (f _ t.two) t) (g refl _ a)
  proper-kept f g (p-found t u a) = p-found (two-kept (f _ t.one) (f _ t.two) t) (g refl _ u) (g refl _ a)
  proper-kept f g (p-none s w) = p-none (g refl _ s) w

module _ {N W : ℕ} {M : Meaning} (h : Sound N W M) where
  abbrev r : Seats
  r = M.seats

  -- in the same phase what is pending still fits
  pending-kept : {r' : Seats} → ((x : ℕ) → T (seated r x) → Kept r r' x)
      → (r.phase ≡ clearing → (x : ℕ) → T (stays r x) → T (stays r' x))
      → r'.phase ≡ r.phase → (m : Msg) → T (M.pending m) → T (message_ok W r' m)
  pending-kept {r'} f g e m t = proper-ok W r' e (proper-kept f g (pending-proper h t))

  -- every lot stays: so do the links
  pub link-kept : {r' : Seats} {x k y : ℕ} {d : Side} → ((z : ℕ) → T (seated M.seats z) → Kept M.seats r' z) → M.link x k d ≡ some y
      → T (link_ok W r' x k d y)
  link-kept {r'} f e = let l = link-linked h e in linked-ok W r' (linked-kept (f _ l.0.one) (f _ l.0.two) l)

  -- no seat is newly taken: seats and numbers are as good as before
  pub seats-kept : {r' : Seats} → ((z : ℕ) → T (taken r' z) → Held r' M.seats z) → (x : ℕ) → T (taken r' x) → x < N
  seats-kept f x t = h.seats x (f x t).there

  pub differ-kept : {r' : Seats} → ((z : ℕ) → T (taken r' z) → Held r' M.seats z)
      → (x y : ℕ) → T (taken r' x) → T (taken r' y) → r'.number x ≡ r'.number y → x ≡ y
  differ-kept f x y t u e = let p = f x t in let q = f y u in h.differ x y p.there q.there (p.number ∙ e ∙ sym q.number)

  -- a taken seat gets another state, and stays taken; if it had a lot it still has one; messages that fit may be sent
  marked-sound : (s : ℕ) (t : SeatState) (sent : List Msg) → taken r s ≡ true → is_free t ≡ false → (seated r s ≡ true → is_seated t ≡ true)
      → r.phase ≡ open_phase → ((m : Msg) → Memᴰ m sent → T (message_ok W (marking s t r) m))
      → Sound N W (record { seats = marking s t r; link = M.link; pending = pending_after sent none M.pending })
  marked-sound s t sent was is lot opens fit = record {
    seats = seats-kept old;
    numbers = h.numbers;
    vectors = h.vectors;
    unused = λ x u. h.unused x (rw (same x) at u);
    differ = differ-kept old;
    links = λ x k y d q. link-kept new q;
    messages = pending-after (λ m. T (message_ok W r' m)) sent none M.pending (pending-kept new (λ e. absurd (not-clearing opens e)) refl) fit;
  }
    where
      r' : Seats
      r' = marking s t r

      same : (x : ℕ) → is_free (r'.state x) ≡ is_free (r.state x)
      same = at-tested s t r.state is_free (is ∙ sym (not-true (is_free (r.state s)) was))

      there : (x : ℕ) → T (seated r x) → Dec (x ≡ s) → T (is_seated (at s t r.state x))
      there x u (yes q) = rw (at_same s t r.state x q) (true-T (lot (T_true (subst (λ (y : ℕ). T (seated r y)) q u))))
      there x u (no q) = rw (at_other s t r.state x q) u

      new : (x : ℕ) → T (seated r x) → Kept r r' x
      new x u = record { there = there x u (ℕ_discrete x s); number = refl; vector = refl }

      old : (x : ℕ) → T (taken r' x) → Held r' r x
      old x u = record { there = rw (same x) at u; number = refl }

  -- a seat without a lot before and after gets state, number and vector, and no links: as opened if it is free, else a number that is not in use
  reseated-sound : (s : ℕ) (t : SeatState) (n v : ℕ) → s < N → seated r s ≡ false → is_seated t ≡ false → n < 2 ^ number_bits → v < 2 ^ W
      → (T (is_free t) → (n ≡ 0) × (v ≡ 0)) → (T (not (is_free t)) → (x : ℕ) → x < N → T (taken r x) → r.number x ≢ n)
      → Sound N W (record { seats = seating s t n v r; link = without_links s M.link; pending = pending_after [] none M.pending })
  reseated-sound s t n v ls was is ln lv bare apart = record {
    seats = λ x u. seat x (who x u);
    numbers = at_all s n r.number (λ a. a < 2 ^ number_bits) ln h.numbers;
    vectors = at_all s v r.vector (λ a. a < 2 ^ W) lv h.vectors;
    unused = λ x u. unused x (ℕ_discrete x s) u;
    differ = λ x y t u q. differ x y (who x t) (who y u) q;
    links = λ x k y d q. link x k y d (ℕ_discrete x s) q;
    messages = pending-after (λ m. T (message_ok W r' m)) [] none M.pending (pending-kept new stayed refl) (λ m q. absurd (Memᴰ.not-nil q));
  }
    where
      r' : Seats
      r' = seating s t n v r

      other : (x : ℕ) → T (seated r x) → x ≢ s
      other x u q = false-T was (subst (λ (y : ℕ). T (seated r y)) q u)

      new : (x : ℕ) → T (seated r x) → Kept r r' x
      new x u = let q = other x u in
          record { there = rw (at_other s t r.state x q) u; number = at_other s n r.number x q; vector = at_other s v r.vector x q }

      stayed : r.phase ≡ clearing → (x : ℕ) → T (stays r x) → T (stays r' x)
      stayed e x u = rw (at_other s t r.state x (other x (stays-seated r x u))) u

      -- the seat itself, or one taken before
      Who : ℕ → Type 0
      Who x = ((x ≡ s) × T (not (is_free t))) ⊎ ((x ≢ s) × T (taken r x))

      who : (x : ℕ) → T (taken r' x) → Who x
      who x u = by (ℕ_discrete x s)
        where
          by : Dec (x ≡ s) → Who x
          by (yes q) = inl (q, rw (at_same s t r.state x q) at u)
          by (no q) = inr (q, rw (at_other s t r.state x q) at u)

      seat : (x : ℕ) → Who x → x < N
      seat x (inl (q, u)) = subst (λ (y : ℕ). y < N) (sym q) ls
      seat x (inr (q, u)) = h.seats x u

      same_number : (x : ℕ) → x ≢ s → r'.number x ≡ r.number x
      same_number x q = at_other s n r.number x q

      unlike : (x y : ℕ) → x ≡ s → T (not (is_free t)) → y ≢ s → T (taken r y) → r'.number y ≢ r'.number x
      unlike x y q i p u f = apart i y (h.seats y u) u (sym (same_number y p) ∙ f ∙ at_same s n r.number x q)

      differ : (x y : ℕ) → Who x → Who y → r'.number x ≡ r'.number y → x ≡ y
      differ x y (inl (p, i)) (inl (q, j)) f = p ∙ sym q
      differ x y (inl (p, i)) (inr (q, u)) f = absurd (unlike x y p i q u (sym f))
      differ x y (inr (p, u)) (inl (q, i)) f = absurd (unlike y x q i p u f)
      differ x y (inr (p, u)) (inr (q, w)) f = h.differ x y u w (sym (same_number x p) ∙ f ∙ same_number y q)

      link : (x k y : ℕ) (d : Side) → Dec (x ≡ s) → cond (eqb x s) none (M.link x k d) ≡ some y → T (link_ok W r' x k d y)
      link x k y d (yes p) q = none-some refl (rw (eq-eqb x s p) at q)
      link x k y d (no p) q = link-kept new (rw (ne_eqb x s p) at q)

      unused : (x : ℕ) → Dec (x ≡ s) → T (is_free (r'.state x))
          → (r'.number x ≡ 0) × (r'.vector x ≡ 0) × ((k : ℕ) (d : Side) → cond (eqb x s) none (M.link x k d) ≡ none)
      unused x (yes p) u = let (a, b) = bare (rw (at_same s t r.state x p) at u) in
          (at_same s n r.number x p ∙ a, at_same s v r.vector x p ∙ b, λ k d. rw (eq-eqb x s p))
      unused x (no p) u = let (a, b, l) = h.unused x (rw (at_other s t r.state x p) at u) in
          (at_other s n r.number x p ∙ a, at_other s v r.vector x p ∙ b, λ k d. rw (ne_eqb x s p) (l k d))

  pub leave-sound : (s : ℕ) → refusal N W M.seats M.pending (leave s) ≡ 0 → Sound N W (accept N W M (leave s))
  unfolding accept seats_after links_after sends takes
  leave-sound s e =
      let ok = leave-rows N W r M.pending s e in
      marked-sound s leaving [] (T_true (seated-taken r s (true-T ok.occupied))) refl (λ u. refl) ok.opens (λ m q. absurd (Memᴰ.not-nil q))

  pub reserve-sound : (s n v : ℕ) → n < 2 ^ number_bits → v < 2 ^ W → refusal N W M.seats M.pending (reserve s n v) ≡ 0
      → Sound N W (accept N W M (reserve s n v))
  unfolding accept seats_after links_after sends takes
  reserve-sound s n v ln lv e =
      let ok = reserve-rows N W r M.pending s n v e in
      reseated-sound s reserved n v ok.seat (free-empty r s ok.free) refl ln lv (λ u. absurd u) (λ u. ok.unused)

  pub give-back-sound : (s : ℕ) → refusal N W M.seats M.pending (give_back s) ≡ 0 → Sound N W (accept N W M (give_back s))
  unfolding accept seats_after links_after sends takes
  give-back-sound s e =
      let ok = give-back-rows N W r M.pending s e in
      reseated-sound s free 0 0 ok.seat (held-empty r s ok.reserved) refl (pow_pos number_bits) (pow_pos W) (λ u. (refl, refl)) (λ u. absurd u)

  pub confirm-sound : (s c : ℕ) → refusal N W M.seats M.pending (confirm s c) ≡ 0 → Sound N W (accept N W M (confirm s c))
  unfolding accept seats_after links_after sends takes
  confirm-sound s c e =
      marked-sound s staying (greeting N s c) (held-taken r s ok.reserved) refl (λ u. refl) ok.opens (λ m q. hello (ltb c N) refl m q)
    where
      ok : Confirms N W r M.pending s c
      ok = confirm-rows N W r M.pending s c e

      r' : Seats
      r' = marking s staying r

      other : T (seated r c) → c ≢ s
      other u q = false-T (held-empty r s ok.reserved) (subst (λ (y : ℕ). T (seated r y)) q u)

      greets : T (seated r c) → Two W r' 0 c s
      greets u = record {
        one = rw (at_other s staying r.state c (other u)) u;
        two = rw (at_same s staying r.state s refl) tt;
        apart = other u;
        bits = zero-le;
      }

      hello : (b : Bool) → ltb c N ≡ b → (m : Msg) → Memᴰ m (cond b (meet c s 0 ∷ []) []) → T (message_ok W r' m)
      hello true f m q =
          let t = proper-ok W r' ok.opens (p-meet (greets (ok.contact (ltb-true c N f)))) in
          subst (λ (k : Msg). T (message_ok W r' k)) (sym (Memᴰ.eq_of_singleton q)) t
      hello false f m q = absurd (Memᴰ.not-nil q)

  -- a MEET between two lots may be sent at any time in phase open
  pub merge-sound : (a b : ℕ) → refusal N W M.seats M.pending (merge a b) ≡ 0 → Sound N W (accept N W M (merge a b))
  unfolding accept seats_after links_after sends takes
  merge-sound a b e = record {
    seats = h.seats;
    numbers = h.numbers;
    vectors = h.vectors;
    unused = h.unused;
    differ = h.differ;
    links = h.links;
    messages = pending-after (λ m. T (message_ok W r m)) (meet a b 0 ∷ []) none M.pending h.messages (λ m q.
        subst (λ (k : Msg). T (message_ok W r k)) (sym (Memᴰ.eq_of_singleton q)) (proper-ok W r ok.opens (p-meet two)));
  }
    where
      ok : Merges N W r M.pending a b
      ok = merge-rows N W r M.pending a b e

      two : Two W r 0 a b
      two = record { one = ok.first-seated; two = ok.second-seated; apart = ok.apart; bits = zero-le }

pub join-sound : {N W : ℕ} {M : Meaning} → Sound N W M → (s n v c : ℕ) → n < 2 ^ number_bits → v < 2 ^ W
    → refusal N W M.seats M.pending (join s n v c) ≡ 0 → Sound N W (accept N W M (join s n v c))
join-sound {N} {W} {M} h s n v c ln lv e =
    subst (Sound N W) (join-in-two N W M s n v c)
    (confirm-sound (reserve-sound h s n v ln lv (join-reserve N W M.seats M.pending s n v c e)) s c (join-confirm N W M s n v c e))
