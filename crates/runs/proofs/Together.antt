-- Two lots of one component stay seated and in one, through every call but turn and crash: of the meaning, then of bytes through lists of calls and
-- bundles. Assumes nothing.
use Prim.Native.Nat.{ℕ, zero, suc}
use mathlib.Core.Path.{◌≡◌, refl, sym, ◌∙◌, subst}
use mathlib.Core.Logic.{◌≢◌, ⊎_elim}
use mathlib.Core.Bool.{Bool, false}
use mathlib.Core.List.{List, [], ◌∷◌, ◌++◌, map}
use lib.Dec.{T}
use Rattle.base.proofs.Cases.{eq-or-ne}
use Rattle.base.proofs.Tests.{false-T}
use Rattle.graph.specs.Vector.{width}
use Rattle.protocol.specs.Message.{Msg, Name}
use Rattle.protocol.specs.Rules.{SeatState, staying, leaving, reserved, free}
use Rattle.protocol.specs.State.{Seats, Meaning, is_seated, seated}
use Rattle.protocol.specs.Page.{at}
use Rattle.protocol.specs.Calls.{Call, join, reserve, confirm, give_back, leave, deliver, turn, crash, merge, refusal, seats_after, components_after}
use Rattle.protocol.specs.Calls.{accept, InRange}
use Rattle.protocol.specs.Bundle.{Item, one, bundle, left_by, spread}
use Rattle.protocol.specs.Run.{Standing, step, steps, AllInRange}
use Rattle.protocol.proofs.Calls.{at_same, at_other}
use Rattle.protocol.proofs.SoundFacts.{free-empty, held-empty}
use Rattle.protocol.proofs.Accepted.{reserve-rows, confirm-rows, join-reserve, give-back-rows}
use Rattle.protocol.proofs.ReachedMerge.{united-within}
use Rattle.record.specs.Layout.{seats}
use Rattle.record.specs.Call.{called}
use Rattle.record.specs.Bundle.{bundle_in}
use Rattle.record.proofs.Call.{refused-same}
use Rattle.runs.specs.Typed.{AllTyped}
use Rattle.runs.specs.Merged.{KeepsLots, AllKeepLots}
use Rattle.runs.proofs.Typed.{all_typed}
use Rattle.runs.proofs.Made.{Made, made_row, made-call}

module _ (N W : ℕ) (r : Seats) where
  -- a lot is on no seat that has none
  other : {s x : ℕ} → seated r s ≡ false → T (seated r x) → x ≢ s
  other e t q = false-T e (subst (λ (y : ℕ). T (seated r y)) q t)

  -- and keeps its state if that of another seat changes
  seated-at : (s : ℕ) (a : SeatState) (x : ℕ) → x ≢ s → T (seated r x) → T (is_seated (at s a r.state x))
  seated-at s a x n t = rw (at_other s a r.state x n) t

  -- the phase stays
  phase-kept : (c : Call) → KeepsLots c → (seats_after N W r c).phase ≡ r.phase
  unfolding seats_after
  phase-kept (join s n v c) k = refl
  phase-kept (reserve s n v) k = refl
  phase-kept (confirm s c) k = refl
  phase-kept (give_back s) k = refl
  phase-kept (leave s) k = refl
  phase-kept (deliver n) k = refl
  phase-kept turn k = absurd k
  phase-kept (crash set) k = absurd k
  phase-kept (merge a b) k = refl

  module _ (p : Msg → Bool) (x : ℕ) (t : T (seated r x)) where
    -- a lot stays seated
    seated-kept : (c : Call) → KeepsLots c → refusal N W r p c ≡ 0 → T (seated (seats_after N W r c) x)
    unfolding seats_after
    seated-kept (join s n v c) k e =
        let ok = reserve-rows N W r p s n v (join-reserve N W r p s n v c e) in seated-at s staying x (other (free-empty r s ok.free) t) t
    seated-kept (reserve s n v) k e = let ok = reserve-rows N W r p s n v e in seated-at s reserved x (other (free-empty r s ok.free) t) t
    seated-kept (confirm s c) k e = let ok = confirm-rows N W r p s c e in seated-at s staying x (other (held-empty r s ok.reserved) t) t
    seated-kept (give_back s) k e = let ok = give-back-rows N W r p s e in seated-at s free x (other (held-empty r s ok.reserved) t) t
    seated-kept (leave s) k e = ⊎_elim (λ q. rw (at_same s leaving r.state x q) tt) (λ n. seated-at s leaving x n t) (eq-or-ne x s)
    seated-kept (deliver n) k e = t
    seated-kept turn k e = absurd k
    seated-kept (crash set) k e = absurd k
    seated-kept (merge a b) k e = t

  -- two stay in one component
  module _ (p : Msg → Bool) (comp : ℕ → ℕ) (x y : ℕ) (t : T (seated r x)) (u : T (seated r y)) (same : comp x ≡ comp y) where
    newcomer : (s a : ℕ) → seated r s ≡ false → at s a comp x ≡ at s a comp y
    newcomer s a e = at_other s a comp x (other e t) ∙ same ∙ sym (at_other s a comp y (other e u))

    component-kept : (c : Call) → KeepsLots c → refusal N W r p c ≡ 0 → components_after N W r comp c x ≡ components_after N W r comp c y
    unfolding components_after
    component-kept (join s n v c) k e = newcomer s _ (free-empty r s (reserve-rows N W r p s n v (join-reserve N W r p s n v c e)).free)
    component-kept (reserve s n v) k e = same
    component-kept (confirm s c) k e = newcomer s _ (held-empty r s (confirm-rows N W r p s c e).reserved)
    component-kept (give_back s) k e = same
    component-kept (leave s) k e = same
    component-kept (deliver n) k e = same
    component-kept turn k e = absurd k
    component-kept (crash set) k e = absurd k
    component-kept (merge a b) k e = united-within a b comp x y same

-- bytes made by calls, in which the lots of a meaning are still seated, and those of one component still in one
pub record Later (comp : ℕ → ℕ) (M : Meaning) (b : List ℕ) : Type 0 where
  pub component : ℕ → ℕ
  pub meaning : Meaning
  pub made : Made component meaning b
  pub phase : meaning.seats.phase ≡ M.seats.phase
  pub stay : (x : ℕ) → T (seated M.seats x) → T (seated meaning.seats x)
  pub same : (x y : ℕ) → T (seated M.seats x) → T (seated M.seats y) → comp x ≡ comp y → component x ≡ component y

module _ {comp : ℕ → ℕ} {M : Meaning} where
  pub later-now : {b : List ℕ} → Made comp M b → Later comp M b
  later-now m = record { component = comp; meaning = M; made = m; phase = refl; stay = λ x t. t; same = λ x y t u e. e }

  pub later-call : {b : List ℕ} → Later comp M b → (c : Call) → InRange seats width c → KeepsLots c → Later comp M (called b c).after
  unfolding accept
  later-call {b} h c q k = by (called b c).refused refl
    where
      by : (n : ℕ) → (called b c).refused ≡ n → Later comp M (called b c).after
      by zero e =
          let r = h.meaning.seats in
          let p = h.meaning.pending in
          let row = made_row h.made c e in
          record {
            component = components_after seats width r h.component c;
            meaning = accept seats width h.meaning c;
            made = made-call h.made c q e;
            phase = phase-kept seats width r c k ∙ h.phase;
            stay = λ x t. seated-kept seats width r p x (h.stay x t) c k row;
            same = λ x y t u s. component-kept seats width r p h.component x y (h.stay x t) (h.stay y u) (h.same x y t u s) c k row;
          }
      by (suc n) e = subst (Later comp M) (sym (refused-same b c n e)) h

-- through a list of calls
abbrev AllKeep : List Call → Type 0
AllKeep [] = Unit {0}
AllKeep (c ∷ cs) = KeepsLots c × AllKeep cs

-- a bundle is deliveries
deliveries-keep : (ns : List Name) (cs : List Call) → AllKeep cs → AllKeep (map deliver ns ++ cs)
deliveries-keep [] cs k = k
deliveries-keep (n ∷ ns) cs k = (tt, deliveries-keep ns cs k)

items_keep : (b : List ℕ) (is : List (Item Call)) → AllKeepLots is → AllKeep (spread called bundle_in (λ c. c) b is)
unfolding spread
items_keep b [] k = tt
items_keep b (one c ∷ is) k = (k.0, items_keep (called b c).after is k.1)
items_keep b (bundle n ∷ is) k = deliveries-keep (bundle_in b n) _ (items_keep (left_by called b (bundle_in b n)) is k)

module _ {comp : ℕ → ℕ} {M : Meaning} where
  later-steps : (s : Standing (List ℕ)) (cs : List Call) → Later comp M s.now → AllInRange seats width cs → AllKeep cs
      → Later comp M (steps called s cs).now
  unfolding steps step
  later-steps s [] h r k = h
  later-steps s (c ∷ cs) h r k = later-steps (step called s c) cs (later-call h c r.0 k.0) r.1 k.1

  pub later-items : (s : Standing (List ℕ)) (is : List (Item Call)) → Later comp M s.now → AllTyped is → AllKeepLots is
      → Later comp M (steps called s (spread called bundle_in (λ c. c) s.now is)).now
  later-items s is h t k = later-steps s (spread called bundle_in (λ c. c) s.now is) h (all_typed s.now is t) (items_keep s.now is k)
