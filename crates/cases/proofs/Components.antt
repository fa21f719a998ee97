-- What the check says of small records, evaluated on their lists; scans that wait for it, and those that do not: the examples of components,
-- specs/Crashes.antt, and of scans without a link, specs/Scans.antt. Assumes nothing.
use Prim.Native.Nat.{ℕ, ◌<◌}
use mathlib.Core.Path.{◌≡◌, refl, sym, ap, ◌∙◌, fun_ext}
use mathlib.Core.Logic.{inr, ⊎_elim}
use mathlib.Core.Option.{none}
use mathlib.Core.Bool.{true, false, cond, ◌&&◌}
use mathlib.Core.List.{List, [], ◌∷◌}
use native.Mathlib.Omega.{arith}
use lib.Dec.{T, ltb}
use borrow.Author.Tests.{lt-ltb, le-ltb}
use Rattle.base.specs.Loops.{all}
use Rattle.base.proofs.Cases.{lt-or-ge}
use Rattle.graph.specs.Side.{Side, on_side}
use Rattle.graph.specs.Vector.{width, bit, equal_bits, shared}
use Rattle.graph.specs.Graph.{Links}
use Rattle.protocol.specs.Message.{Msg, meet, among}
use Rattle.protocol.specs.Numbering.{exists, some_pending}
use Rattle.protocol.specs.Sound.{pair_ok, link_ok, message_ok}
use Rattle.protocol.specs.State.{open_phase, Seats, member, members, seated}
use Rattle.protocol.specs.Page.{at}
use Rattle.protocol.specs.Refusals.{unsettled}
use Rattle.protocol.specs.pages.Deliver.{applied}
use Rattle.protocol.proofs.Numbering.{pending-none}
use Rattle.record.specs.Layout.{seats, levels}
use Rattle.record.specs.Meaning.{link_of, link_byte, seats_in, meaning}
use Rattle.record.proofs.Form.{meaning-link, meaning-pending}
use Rattle.record.proofs.Places.{length-bytes_of}
use Rattle.record.proofs.Refused.{Passed}
use Rattle.record.proofs.Round.{bytes-bytes, read-message}
use Rattle.search.specs.Check.{same_link}
use Rattle.search.specs.inner.LinkCheck.{back_of, backs_ok, lot_backs, ahead, above_ok, lot_aboves, constraints_ok}
use Rattle.check_links.specs.Check.{components_in, members_in, check_in}
use Rattle.check_links.proofs.Whole.{links-say}
use Rattle.check_links.proofs.Settled.{unsettled-exactly, is-settled}
use Rattle.find.specs.Find.{find_refusal}
use Rattle.find.proofs.Refused.{waits}
use Rattle.find.proofs.Scans.{settled-accepted}
use Rattle.cases.specs.Small.{Held, LinkOf, field_in, link_in, seats_of, small, small_bytes, three}
use Rattle.cases.specs.SoundExamples.{AllHold}
use Rattle.cases.specs.Scans.{level0, ScansUnlinked}
use Rattle.cases.specs.Crashes.{half_linked, whole_linked, Components}
use Rattle.cases.proofs.Small.{held_fit, links_written, all_exist, all_ok, unused_of, numbers_of, links_of, seats-read, link-read}
use Rattle.cases.proofs.SoundExamples.{clauses-small}
use Rattle.cases.proofs.Refusals.{all_sound}

-- the links of a list, as its bytes read
unfoldable read_as : List LinkOf → Links
read_as ls x k d = cond (ltb x seats && ltb k levels) (link_of (link_byte (link_in ls x k d))) none

-- a small record in phase open that is sound
module _ (hs : List Held) (ls : List LinkOf) (ms : List Msg) (fit : T (held_fit hs)) (written : T (links_written ls))
    (fine : AllHold (small_bytes open_phase hs ls ms)) where
  abbrev b : List ℕ
  b = small_bytes open_phase hs ls ms

  passed : Passed b
  passed = record { sized = length-bytes_of (small open_phase hs ls ms); fine = all_sound b fine }

  links-are : (meaning b).link ≡ read_as ls
  unfolding read_as meaning
  links-are = fun_ext (λ x. fun_ext (λ k. fun_ext (λ d. by x k d)))
    where
      by : (x k : ℕ) (d : Side) → (meaning b).link x k d ≡ read_as ls x k d
      by x k d = ⊎_elim
          (λ h. ⊎_elim
          (λ g. meaning-link b x k d h g ∙ ap link_of (link-read open_phase hs ls ms fit written x k d h g) ∙ rw (lt-ltb x seats h, lt-ltb k levels g))
          (λ g. rw (lt-ltb x seats h, le-ltb k levels g))
          (lt-or-ge k levels))
          (λ h. rw (le-ltb x seats h))
          (lt-or-ge x seats)

  -- the check, by the lists
  check-small : (check_in b).yes ≡ constraints_ok seats width (members (components_in b) (seats_of open_phase hs)) (read_as ls)
  check-small =
      sym (links-say b passed.sized (bytes-bytes (small open_phase hs ls ms)) passed.fine)
      ∙ ap (λ (L : Links). constraints_ok seats width (members_in b) L) links-are
      ∙ ap (λ (r : Seats). constraints_ok seats width (members (components_in b) r) (read_as ls)) (seats-read open_phase hs ls ms fit)

  module _ (s : ℕ) (q : s < seats) (m : seated (seats_of open_phase hs) s ≡ true) where
    lot : seated (seats_in b) s ≡ true
    lot = ap (λ (r : Seats). seated r s) (seats-read open_phase hs ls ms fit) ∙ m

    -- the check says no: a scan from a lot waits
    scan-waits : (check_in b).yes ≡ false → find_refusal b s ≡ unsettled
    scan-waits e = sym (waits b s passed q lot ((unsettled-exactly b).1 (inr (inr e))))

  -- it says yes, and nothing is pending: it does not
  module _ (none_left : ms ≡ []) where
    quiet : some_pending seats width (meaning b).pending ≡ false
    unfolding among
    quiet = pending-none seats width (meaning b).pending (λ m x.
        meaning-pending b m x ∙ read-message (small open_phase hs ls ms) m x ∙ ap (λ (l : List Msg). among l m) none_left)

    scan-goes : (check_in b).yes ≡ true → (s : ℕ) → T (seated (seats_of open_phase hs) s) → find_refusal b s ≡ 0
    scan-goes e s m =
        settled-accepted b (bytes-bytes (small open_phase hs ls ms))
        (is-settled b (ap (λ (r : Seats). r.phase) (seats-read open_phase hs ls ms fit)) quiet e) s
        (rw (seats-read open_phase hs ls ms fit) m)

-- three lots, with these links and messages
abbrev Sound : List LinkOf → List Msg → Type 0
Sound ls ms = AllHold (small_bytes open_phase three ls ms)

pub components : Components
unfolding held_fit links_written all_exist all_ok unused_of numbers_of links_of all field_in link_in at applied link_ok pair_ok message_ok exists read_as
    link_of
    constraints_ok lot_backs lot_aboves above_ok ahead backs_ok back_of same_link member on_side bit equal_bits shared
components = record {
  alone = check-small three [] [] tt tt (clauses-small open_phase three [] [] tt tt tt);
  missing = check-small three half_linked [] tt tt half;
  whole = check-small three whole_linked [] tt tt full;
  waits = (
    scan-waits three half_linked [] tt tt half 0 (omega arith) refl (check-small three half_linked [] tt tt half),
    scan-goes three whole_linked [] tt tt full refl (check-small three whole_linked [] tt tt full) 0 tt,
  );
  joining = check-small three [] (meet 0 1 0 ∷ []) tt tt (clauses-small open_phase three [] (meet 0 1 0 ∷ []) tt tt tt);
}
  where
    half : Sound half_linked []
    half = clauses-small open_phase three half_linked [] tt tt tt

    full : Sound whole_linked []
    full = clauses-small open_phase three whole_linked [] tt tt tt

pub scans-unlinked : ScansUnlinked
unfolding held_fit links_written all_exist all_ok unused_of numbers_of links_of all field_in link_in at applied link_ok pair_ok read_as link_of
    constraints_ok lot_backs lot_aboves above_ok ahead backs_ok back_of same_link member on_side bit equal_bits shared
scans-unlinked =
    let fine = clauses-small open_phase three level0 [] tt tt tt in
    record { level_0_alone = scan-waits three level0 [] tt tt fine 0 (omega arith) refl (check-small three level0 [] tt tt fine) }
