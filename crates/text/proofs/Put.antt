-- Text put after text is the two as one; a text with room enough stands whole at the start of the buffer. Assumes nothing.
use Prim.Native.Nat.{ℕ, suc, ◌+◌, ◌≤◌, ◌<◌}
use mathlib.Core.Path.{◌≡◌, refl, sym, ap, ◌∙◌}
use mathlib.Core.Logic.{◌⊎◌, inl, inr}
use mathlib.Core.List.{List, [], ◌∷◌, ◌++◌}
use native.Mathlib.Omega.{arith}
use lib.ListN.{length, drop, set, length-append, length-set}
use lib.Seq.{sets, length-sets, sets-eq, set_out}
use Rattle.base.proofs.Cases.{lt-or-ge}
use Rattle.text.specs.inner.Put.{Put}

-- nothing changes past the end
sets-out : (o : List ℕ) (n : ℕ) (t : List ℕ) → length o ≤ n → sets o n t ≡ o
sets-out o n [] h = refl
sets-out o n (b ∷ t) h = sets-out (set o n b) (suc n) t (rw length-set (omega arith)) ∙ set_out o n b h

sets-append : (o : List ℕ) (n : ℕ) (t u : List ℕ) → sets o n (t ++ u) ≡ sets (sets o n t) (n + length t) u
sets-append o n [] u = let e : n + 0 ≡ n = omega arith in rw e
sets-append o n (b ∷ t) u = let e : n + suc (length t) ≡ suc n + length t = omega arith in sets-append (set o n b) (suc n) t u ∙ rw e

pub put-none : (o : List ℕ) (n : ℕ) → Put o n [] o n
put-none o n = record { holds = refl; next = omega arith }

pub put-length : {o : List ℕ} {n : ℕ} {t out : List ℕ} {r : ℕ} → Put o n t out r → length out ≡ length o
put-length {o} {n} {t} p = ap length p.holds ∙ length-sets o n t

pub put_then : {o : List ℕ} {n : ℕ} {t p : List ℕ} {m : ℕ} {u q : List ℕ} {r : ℕ} → Put o n t p m → Put p m u q r → Put o n (t ++ u) q r
put_then {o} {n} {t} {p} {m} {u} {q} {r} a b = record {
  holds = b.holds ∙ ap (λ (k : List ℕ). sets k m u) a.holds ∙ same ∙ sym (sets-append o n t u);
  next = omega (arith, a.next, b.next, put-length a, length-append t u);
}
  where
    same : sets (sets o n t) m u ≡ sets (sets o n t) (n + length t) u
    same = by (lt-or-ge (n + length t) (length o))
      where
        by : (n + length t < length o) ⊎ (length o ≤ n + length t) → sets (sets o n t) m u ≡ sets (sets o n t) (n + length t) u
        by (inl h) = let e : m ≡ n + length t = omega (arith, a.next) in rw e
        by (inr h) =
            let e = length-sets o n t in
            sets-out (sets o n t) m u (omega (arith, a.next, e)) ∙ sym (sets-out (sets o n t) (n + length t) u (omega (arith, e)))

-- with room enough
pub put_whole : {o t out : List ℕ} {r : ℕ} → Put o 0 t out r → length t ≤ length o → (out ≡ t ++ drop (length t) o) × (r ≡ length t)
put_whole {o} {t} p h =
    let e : 0 + length t ≡ length t = omega arith in
    (p.holds ∙ sets-eq t o 0 (omega arith) ∙ rw e, omega (arith, p.next))
