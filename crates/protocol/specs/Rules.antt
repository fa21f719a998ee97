-- The seven rules (document 01, "Messages"), as one function of exactly what document 01 lets a rule depend on: the entry of `to`,
-- the message, and the number and vector of the lots that these name. Assumes nothing.
use Rattle.std.specs.Prelude.{ℕ, suc, Bool, true, false, not, cond, List, [], ◌∷◌, ◌++◌, eqb, ltb}
use Rattle.std.proofs.Math.Option.{Option, none, some}
use Rattle.graph.specs.Side.{Side, opp, on_side, side_of}
use Rattle.graph.specs.Vector.{same_bit, bit, shared}
use Rattle.protocol.specs.Message.{Msg, meet, probe, pull, going, seek, found, none_found}

-- document 01, "state": 0 free, 1 staying, 2 leaving; document 02, #105: 3 reserved
pub data SeatState : Type 0 where
  free staying leaving reserved : SeatState

-- the entry of a seat
pub record Entry : Type 0 where
  pub state : SeatState
  pub number : ℕ
  pub vector : ℕ
  pub link : (level : ℕ) → Side → Option ℕ

-- what becomes of the links of `to`: nothing, or one is set
pub data Change : Type 0 where
  keep : Change
  set : (level : ℕ) (side : Side) (link : Option ℕ) → Change

pub record Effect : Type 0 where
  pub change : Change
  pub sent : List Msg

abbrev pub is_staying : SeatState → Bool
is_staying free = false
is_staying staying = true
is_staying leaving = false
is_staying reserved = false

-- a message to a link, if there is one
unfoldable pub to_link : Option ℕ → (ℕ → Msg) → List Msg
to_link none f = []
to_link (some z) f = f z ∷ []

-- links stay as they are
abbrev pub sending : List Msg → Effect
sending l = record { change = keep; sent = l }

module _ (W : ℕ) (number vector : ℕ → ℕ) (e : Entry) (to : ℕ) where
  -- 1 MEET: set the link to `about`; send it MEET about `to` and about the old link, and below level W a PROBE, and a PULL the other way
  unfoldable pub setting : (about level : ℕ) (d : Side) → Effect
  setting a l d = record {
    change = set l d (some a);
    sent = meet a to l ∷ (to_link (e.link l d) (λ o. meet a o l)
        ++ cond (ltb l W) (probe a to l ∷ to_link (e.link l (opp d)) (λ z. pull z (not (bit W l e.vector)) l (opp d))) []);
  }

  -- the link is `about`: nothing; it is nearer: it gets the MEET; otherwise set
  unfoldable pub meeting : (about level : ℕ) (d : Side) → Option ℕ → Effect
  meeting a l d none = setting a l d
  meeting a l d (some o) = cond (eqb o a) (sending []) (cond (on_side d (number o) (number a)) (sending (meet o a l ∷ [])) (setting a l d))

  -- 2 PROBE: more bits shared than the level: MEET one level up; otherwise on to the link away from `about`
  unfoldable pub probing : (about level : ℕ) → List Msg
  probing a l = cond (ltb l (shared W e.vector (vector a))) (meet to a (suc l) ∷ [])
      (to_link (e.link l (opp (side_of e.number (number a)))) (λ z. probe z a l))

  -- 3 PULL: the bit is the wanted one: PROBE about itself to the link on the opposite side; otherwise on along the side
  unfoldable pub pulling : (want : Bool) (level : ℕ) (d : Side) → List Msg
  pulling b l d = cond (same_bit (bit W l e.vector) b) (to_link (e.link l (opp d)) (λ z. probe z to l)) (to_link (e.link l d) (λ z. pull z b l d))

  -- 4 GOING: a staying lot sends its link on that side SEEK about itself
  unfoldable pub parting : (level : ℕ) (d : Side) → List Msg
  parting l d = cond (is_staying e.state) (to_link (e.link l d) (λ z. seek z to l)) []

  -- 5 SEEK, at a leaving lot: on to the link away from `about`, or with none NONE to `about`, on the side that faces the leaver
  unfoldable pub passing : (about level : ℕ) (d : Side) → Option ℕ → List Msg
  passing a l d none = none_found a l d ∷ []
  passing a l d (some z) = seek z a l ∷ []

  -- 5 SEEK: a staying lot sends `about` FOUND about itself
  unfoldable pub seeking : (about level : ℕ) → List Msg
  seeking a l = let d = side_of (number a) e.number in cond (is_staying e.state) (found a to l ∷ []) (passing a l d (e.link l d))

-- what the delivery of a message does, given the entry of its `to`
unfoldable pub effect : (W : ℕ) (number vector : ℕ → ℕ) → Entry → Msg → Effect
effect W num vec e (meet t a l) = let d = side_of e.number (num a) in meeting W num vec e t a l d (e.link l d)
effect W num vec e (probe t a l) = sending (probing W num vec e t a l)
effect W num vec e (pull t b l d) = sending (pulling W num vec e t b l d)
effect W num vec e (going t l d) = sending (parting W num vec e t l d)
effect W num vec e (seek t a l) = sending (seeking W num vec e t a l)
effect W num vec e (found t a l) = record { change = set l (side_of e.number (num a)) (some a); sent = [] }
effect W num vec e (none_found t l d) = record { change = set l d none; sent = [] }
