-- What a rule sends exists, where its message does: the links of any bytes name seats, so no soundness is asked. Assumes nothing.
use Prim.Native.Nat.{ℕ, suc, ◌<◌}
use mathlib.Core.Path.{◌≡◌, refl}
use mathlib.Core.Option.{Option, none, some}
use mathlib.Core.Bool.{Bool, true, false, cond}
use mathlib.Core.Logic.{◌⊎◌, inl, inr}
use mathlib.Core.List.Memᴰ
use mathlib.Core.List.{List, [], ◌∷◌, ◌++◌, Memᴰ}
use native.Mathlib.Omega.{arith}
use lib.Dec.{T, eqb, ltb, ltb→lt}
use Rattle.base.proofs.Tests.{true-T}
use Rattle.graph.specs.Side.{Side, opp, on_side, side_of}
use Rattle.graph.specs.Vector.{width}
use Rattle.protocol.specs.Message.{Msg, meet, probe, pull, going, seek, found, none_found}
use Rattle.protocol.specs.Numbering.{exists}
use Rattle.protocol.specs.Rules.{Entry, to_link, sending, setting, meeting, probing, pulling, parting, passing, seeking, effect}
use Rattle.protocol.specs.State.{Meaning, entry}
use Rattle.protocol.specs.pages.Deliver.{rule}
use Rattle.protocol.proofs.Numbering.{Exists, in_meet, in_probe, in_pull, in_seek, in_found, in_none_found, in-exists}
use Rattle.record.specs.Layout.{seats, levels}
use Rattle.record.specs.Meaning.{meaning}
use Rattle.record.proofs.Values.{NamesSeat}
use Rattle.record.proofs.Links.{names-seat}
use Rattle.messages.proofs.Named.{two-below, three-below}

-- each of a list exists
abbrev AllExist : List Msg → Type 0
AllExist [] = Unit {0}
AllExist (m ∷ ms) = Exists seats width m × AllExist ms

all-append : (ms ns : List Msg) → AllExist ms → AllExist ns → AllExist (ms ++ ns)
all-append [] ns p q = q
all-append (m ∷ ms) ns p q = (p.0, all-append ms ns p.1 q)

all-cond : (b : Bool) (ms ns : List Msg) → (b ≡ true → AllExist ms) → AllExist ns → AllExist (cond b ms ns)
all-cond true ms ns p q = p refl
all-cond false ms ns p q = q

all-link : (o : Option ℕ) (f : ℕ → Msg) → NamesSeat o → ((z : ℕ) → z < seats → Exists seats width (f z)) → AllExist (to_link o f)
unfolding to_link
all-link none f n h = tt
all-link (some z) f n h = (h z (n z refl), tt)

all-mem : (ms : List Msg) → AllExist ms → (n : Msg) → Memᴰ n ms → T (exists seats width n)
all-mem [] p n q = absurd (Memᴰ.not-nil q)
all-mem (m ∷ ms) p n q = by (λ (r : Memᴰ n ms). all-mem ms p.1 n r) (Memᴰ.cases_cons q)
  where
    by : (Memᴰ n ms → T (exists seats width n)) → (n ≡ m) ⊎ Memᴰ n ms → T (exists seats width n)
    by f (inl e) = rw e (in-exists seats width p.0)
    by f (inr r) = f r

-- the rules, on an entry whose links name seats
module _ (num vec : ℕ → ℕ) (e : Entry) (links : (k : ℕ) (d : Side) → NamesSeat (e.link k d)) (t l : ℕ) (ht : t < seats) where
  setting-all : (a : ℕ) (d : Side) → a < seats → l < levels → AllExist (setting width num vec e t a l d).sent
  unfolding setting
  setting-all a d ha hl = (
    in_meet ha ht hl,
    all-append (to_link (e.link l d) (λ o. meet a o l)) _ (all-link (e.link l d) (λ o. meet a o l) (links l d) (λ z hz. in_meet ha hz hl))
        (all-cond (ltb l width) _ [] (λ q. let w = ltb→lt l width (true-T q) in
        (in_probe ha ht w, all-link (e.link l (opp d)) _ (links l (opp d)) (λ z hz. in_pull hz w))) tt),
  )

  meeting-all : (a : ℕ) (d : Side) → a < seats → l < levels → (o : Option ℕ) → NamesSeat o → AllExist (meeting width num vec e t a l d o).sent
  unfolding meeting
  meeting-all a d ha hl none n = setting-all a d ha hl
  meeting-all a d ha hl (some z) n = by (eqb z a) (on_side d (num z) (num a))
    where
      by : (b c : Bool) → AllExist (cond b (sending []) (cond c (sending (meet z a l ∷ [])) (setting width num vec e t a l d))).sent
      by true c = tt
      by false true = (in_meet (n z refl) ha hl, tt)
      by false false = setting-all a d ha hl

  probing-all : (a : ℕ) → a < seats → l < width → AllExist (probing width num vec e t a l)
  unfolding probing
  probing-all a ha hl =
      all-cond _ (meet t a (suc l) ∷ []) _ (λ q. (in_meet ht ha (omega arith), tt))
      (all-link _ (λ z. probe z a l) (links l (opp (side_of e.number (num a)))) (λ z hz. in_probe hz ha hl))

  pulling-all : (b : Bool) (d : Side) → l < width → AllExist (pulling width num vec e t b l d)
  unfolding pulling
  pulling-all b d hl =
      all-cond _ (to_link (e.link l (opp d)) (λ z. probe z t l)) _ (λ q. all-link _ (λ z. probe z t l) (links l (opp d)) (λ z hz. in_probe hz ht hl))
      (all-link _ (λ z. pull z b l d) (links l d) (λ z hz. in_pull hz hl))

  parting-all : (d : Side) → l < levels → AllExist (parting width num vec e t l d)
  unfolding parting
  parting-all d hl =
      all-cond _ (to_link (e.link l d) (λ z. seek z t l)) [] (λ q. all-link _ (λ z. seek z t l) (links l d) (λ z hz. in_seek hz ht hl)) tt

  passing-all : (a : ℕ) (d : Side) → a < seats → l < levels → (o : Option ℕ) → NamesSeat o → AllExist (passing width num vec e t a l d o)
  unfolding passing
  passing-all a d ha hl none n = (in_none_found ha hl, tt)
  passing-all a d ha hl (some z) n = (in_seek (n z refl) ha hl, tt)

  seeking-all : (a : ℕ) → a < seats → l < levels → AllExist (seeking width num vec e t a l)
  unfolding seeking
  seeking-all a ha hl =
      all-cond _ (found a t l ∷ []) _ (λ q. (in_found ha ht hl, tt))
      (passing-all a (side_of (num a) e.number) ha hl (e.link l (side_of (num a) e.number)) (links l (side_of (num a) e.number)))

-- what a rule sends in the meaning of any bytes
module _ (l : List ℕ) where
  abbrev M : Meaning
  M = meaning l

  rule-all : (m : Msg) → T (exists seats width m) → AllExist (rule width (meaning l) m).sent
  unfolding rule effect exists
  rule-all (meet t a k) x =
      let (p, q, r) = three-below t a k _ _ _ x in
      let d = side_of (M.seats.number t) (M.seats.number a) in
      meeting-all M.seats.number M.seats.vector (entry M t) (names-seat l t) t k p a d q r (M.link t k d) (names-seat l t k d)
  rule-all (probe t a k) x =
      let (p, q, r) = three-below t a k _ _ _ x in
      probing-all M.seats.number M.seats.vector (entry M t) (names-seat l t) t k p a q r
  rule-all (pull t w k d) x =
      let (p, r) = two-below t k _ _ x in
      pulling-all M.seats.number M.seats.vector (entry M t) (names-seat l t) t k p w d r
  rule-all (going t k d) x =
      let (p, r) = two-below t k _ _ x in
      parting-all M.seats.number M.seats.vector (entry M t) (names-seat l t) t k p d r
  rule-all (seek t a k) x =
      let (p, q, r) = three-below t a k _ _ _ x in
      seeking-all M.seats.number M.seats.vector (entry M t) (names-seat l t) t k p a q r
  rule-all (found t a k) x = tt
  rule-all (none_found t k d) x = tt

  pub rule-exists : (m : Msg) → T (exists seats width m) → (n : Msg) → Memᴰ n (rule width (meaning l) m).sent → T (exists seats width n)
  rule-exists m x = all-mem (rule width (meaning l) m).sent (rule-all m x)
