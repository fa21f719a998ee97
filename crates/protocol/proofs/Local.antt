-- A delivery is local (document 01, "Messages"): its rule follows from the entry of `to`, the message, and the number and vector of the
-- lots that these name; it changes no link but the one that the rule sets; and exactly what the rule sends becomes pending. Assumes nothing, not even
-- soundness.
use Prim.Native.Nat.{ℕ}
use mathlib.Core.Path.{◌≡◌, refl, sym, ◌∙◌, ap}
use mathlib.Core.Logic.{◌⊎◌, inl, inr, ⊎_elim}
use mathlib.Core.Option.{Option, none, some}
use mathlib.Core.Bool.{not, cond, ◌&&◌, ◌||◌}
use lib.Dec.{eqb}
use Rattle.graph.specs.Side.{Side, side_of}
use Rattle.graph.specs.Graph.{Links}
use Rattle.protocol.specs.Message.{Msg, meet, probe, pull, going, seek, found, none_found, name_of, same_msg, among}
use Rattle.protocol.specs.Rules.{Entry, Change, keep, set, Effect, setting, meeting, probing, pulling, parting, passing, seeking, effect}
use Rattle.protocol.specs.State.{Meaning, entry}
use Rattle.protocol.specs.Calls.{deliver, seats_after, sends, takes, links_after, accept}
use Rattle.protocol.specs.pages.Deliver.{rule, delivery_sends, same_side, applied, delivery_links}
use Rattle.protocol.specs.Page.{is_taken, pending_after}
use Rattle.protocol.specs.Local.{Names, by_link, by_meet, by_probe, by_seek, by_found, AgreeFor}
use Rattle.protocol.proofs.Message.{named-name}
use Rattle.protocol.proofs.Calls.{applied-at, applied-frame}

module _ (W : ℕ) (num num' vec vec' : ℕ → ℕ) (e : Entry) where
  meeting-local : (t a l : ℕ) (d : Side) (o : Option ℕ) → num a ≡ num' a → ((z : ℕ) → o ≡ some z → num z ≡ num' z)
      → meeting W num vec e t a l d o ≡ meeting W num' vec' e t a l d o
  unfolding meeting setting
  meeting-local t a l d none p q = refl
  meeting-local t a l d (some z) p q = rw (q z refl, p)

  effect-local : (m : Msg) → ((z : ℕ) → Names e m z → num z ≡ num' z) → ((z : ℕ) → Names e m z → vec z ≡ vec' z)
      → effect W num vec e m ≡ effect W num' vec' e m
  unfolding effect probing pulling parting passing seeking
  effect-local (meet t a l) n v = let d = side_of e.number (num' a) in
      rw (n a by_meet) (meeting-local t a l d (e.link l d) (n a by_meet) (λ z q. n z (by_link q)))
  effect-local (probe t a l) n v = rw (n a by_probe, v a by_probe)
  effect-local (pull t b l d) n v = refl
  effect-local (going t l d) n v = refl
  effect-local (seek t a l) n v = rw (n a by_seek)
  effect-local (found t a l) n v = rw (n a by_found)
  effect-local (none_found t l d) n v = refl

-- the same change, and the same messages sent
pub delivery-local : (W : ℕ) (M M' : Meaning) (m : Msg) → AgreeFor M M' m → rule W M m ≡ rule W M' m
unfolding rule
delivery-local W M M' m g =
    let r = M.seats in
    let r' = M'.seats in
    effect-local W r.number r'.number r.vector r'.vector (entry M (name_of m).to) m g.numbers g.vectors
    ∙ ap (λ (e : Entry). effect W r'.number r'.vector e m) g.entries

-- the links of lot t after a change follow from its own and the change
applied-local : (t : ℕ) (c : Change) (L L' : Links) → L t ≡ L' t → (k : ℕ) (d : Side) → applied t c L t k d ≡ applied t c L' t k d
unfolding applied
applied-local t keep L L' e k d = λ i. e i k d
applied-local t (set l s o) L L' e k d = λ i. cond (eqb t t && (eqb k l && same_side d s)) o (e i k d)

module _ (N W : ℕ) (M : Meaning) (m : Msg) where
  -- the links after an accepted delivery of m
  pub links-exactly : (x k : ℕ) (d : Side)
      → (accept N W M (deliver (name_of m))).link x k d ≡ applied (name_of m).to (rule W M m).change M.link x k d
  unfolding accept links_after delivery_links
  links-exactly x k d = rw (named-name m)

  -- the pending messages after it: what the rule sends, and what was pending but m
  pub pending-exactly : (n : Msg)
      → (accept N W M (deliver (name_of m))).pending n ≡ (among (rule W M m).sent n || (M.pending n && not (same_msg m n)))
  unfolding accept sends takes delivery_sends pending_after is_taken
  pending-exactly n = rw (named-name m)

  -- no link changes but the one that the rule sets, and that is set
  pub one_link : (x k : ℕ) (d : Side) → ((accept N W M (deliver (name_of m))).link x k d ≡ M.link x k d)
      ⊎ ((o : Option ℕ) × (x ≡ (name_of m).to) × ((rule W M m).change ≡ set k d o))
  one_link x k d = ⊎_elim
      (λ e. inl (links-exactly x k d ∙ e))
      (λ q. inr q)
      (applied-frame (name_of m).to (rule W M m).change M.link x k d)

  pub link_set : (k : ℕ) (d : Side) (o : Option ℕ) → (rule W M m).change ≡ set k d o
      → (accept N W M (deliver (name_of m))).link (name_of m).to k d ≡ o
  link_set k d o q = let t = (name_of m).to in
      links-exactly t k d ∙ ap (λ (c : Change). applied t c M.link t k d) q ∙ applied-at t k d o M.link

-- the same entry of `to` is left
pub entry-local : (N W : ℕ) (M M' : Meaning) (m : Msg) → AgreeFor M M' m
    → entry (accept N W M (deliver (name_of m))) (name_of m).to ≡ entry (accept N W M' (deliver (name_of m))) (name_of m).to
unfolding accept seats_after
entry-local N W M M' m g = λ i. record {
  state = (g.entries i).state;
  number = (g.entries i).number;
  vector = (g.entries i).vector;
  link = λ k d. link k d i;
}
  where
    t : ℕ
    t = (name_of m).to

    link : (k : ℕ) (d : Side) → (accept N W M (deliver (name_of m))).link t k d ≡ (accept N W M' (deliver (name_of m))).link t k d
    link k d =
        links-exactly N W M m t k d
        ∙ applied-local t (rule W M m).change M.link M'.link (ap (λ (e : Entry). e.link) g.entries) k d
        ∙ ap (λ (f : Effect). applied t f.change M'.link t k d) (delivery-local W M M' m g)
        ∙ sym (links-exactly N W M' m t k d)
