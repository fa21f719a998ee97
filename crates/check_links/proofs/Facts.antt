-- What the check's answer says of sound bytes: yes exactly if every component is the skip graph of its own lots, and exactly if Constraints 1
-- to 6 hold; no where a member's link names no member or is not the graph's; yes without members, so of an opened record. Assumes nothing.
use Prim.Native.Nat.{ℕ, ◌≤◌}
use mathlib.Core.Path.{◌≡◌, sym, ap, ◌∙◌}
use mathlib.Core.Logic.{◌↔◌, ◌≢◌}
use mathlib.Core.Option.{some}
use mathlib.Core.Bool.{Bool, true, false}
use mathlib.Core.List.{List}
use lib.Dec.{T}
use lib.ListN.{length}
use Rattle.memory.specs.Bytes.{AreBytes}
use Rattle.graph.specs.Side.{Side}
use Rattle.graph.specs.Vector.{width}
use Rattle.graph.specs.Graph.{graph, IsGraph}
use Rattle.graph.specs.Constraints.{Constraints, Joined}
use Rattle.graph.proofs.SkipGraph.{graph-constraints}
use Rattle.graph.proofs.Labels.{component-joined, constraints-labelled, laws-labelled}
use Rattle.base.proofs.Tests.{T_true, not-T-false}
use Rattle.protocol.specs.State.{Meaning, nobody, opened, member, members}
use Rattle.record.specs.Layout.{seats, size}
use Rattle.record.specs.Meaning.{seats_in, meaning, bytes_of}
use Rattle.record.specs.Sound.{sound}
use Rattle.protocol.proofs.KeepSound.{opened-sound}
use Rattle.record.proofs.Places.{length-bytes_of}
use Rattle.record.proofs.Round.{bytes-form}
use Rattle.record.proofs.Opened.{opened-bytes-sound, meaning-opened}
use Rattle.record.proofs.Reading.{record-accepted}
use Rattle.search.specs.Check.{check}
use Rattle.search.proofs.Check.{check-graph, check-constraints}
use Rattle.check_links.specs.Check.{components_in, members_in, CheckAnswer, check_in}
use Rattle.check_links.proofs.Whole.{lots-laws}

module _ (l : List ℕ) (e : length l ≡ size) (b : AreBytes l) (s : sound l ≡ true) where
  -- not refused, and the check of search
  pub check-says : check_in l ≡ record { refused = 0; yes = check seats width (members_in l) (meaning l).link }
  unfolding check_in
  check-says = rw (record-accepted l e s)

  yes-says : (check_in l).yes ≡ check seats width (members_in l) (meaning l).link
  yes-says = ap (λ (a : CheckAnswer). a.yes) check-says

  pub yes-graph : ((check_in l).yes ≡ true) ↔ IsGraph seats width (members_in l) (meaning l).link
  yes-graph = rw yes-says (check-graph (lots-laws l e b s).seat)

  pub yes-constraints : ((check_in l).yes ≡ true) ↔ Constraints width (members_in l) (meaning l).link
  unfolding components_in
  yes-constraints = rw yes-says (check-constraints seats width (members_in l) (meaning l).link (lots-laws l e b s))

  -- two members are in one component exactly if links among the members join them
  pub components-joined : (x y : ℕ) → T (member (seats_in l) x) → T (member (seats_in l) y)
      → (components_in l x ≡ components_in l y) ↔ Joined width (members_in l) (meaning l).link x y
  unfolding components_in
  components-joined = component-joined seats width (members_in l) (meaning l).link (lots-laws l e b s).seat

  -- the graph of the members within whatever components
  pub yes-labels : (c : ℕ → ℕ) → IsGraph seats width (members c (seats_in l)) (meaning l).link → (check_in l).yes ≡ true
  yes-labels c g = let laws = laws-labelled c (lots-laws l e b s) in yes-constraints.1 (constraints-labelled (components_in l) (graph-constraints laws g))

  -- a member's link to a lot that is none, as to a leaver while clearing
  pub link-out-no : (x k y : ℕ) (d : Side) → T (member (seats_in l) x) → k ≤ width → (meaning l).link x k d ≡ some y
      → ¬ (T (member (seats_in l) y))
      → (check_in l).yes ≡ false
  link-out-no x k y d m h f out = not-T-false (λ t. out ((yes-constraints.0 (T_true t)).within x k y d m h f))

  -- a member's link that is not the graph's, at whatever level
  pub link-wrong-no : (x k : ℕ) (d : Side) → T (member (seats_in l) x) → k ≤ width
      → (meaning l).link x k d ≢ graph seats width (members_in l) x k d
      → (check_in l).yes ≡ false
  link-wrong-no x k d m h wrong = not-T-false (λ t. wrong ((yes-graph.0 (T_true t)).link x k d m h))

  -- no members
  pub empty-yes : ((x : ℕ) → ¬ (T (member (seats_in l) x))) → (check_in l).yes ≡ true
  empty-yes h = yes-graph.1 (record { link = λ x k d m w. absurd (h x m) })

-- a record that open has just written
opened-seats : seats_in (bytes_of opened) ≡ nobody
unfolding meaning opened
opened-seats = ap (λ (M : Meaning). M.seats) meaning-opened

nobody-member : (x : ℕ) → ¬ (T (member nobody x))
unfolding member nobody
nobody-member x t = t

pub opened-yes : check_in (bytes_of opened) ≡ record { refused = 0; yes = true }
opened-yes =
    let l = bytes_of opened in
    let e = length-bytes_of opened in
    let b = (bytes-form (opened-sound seats width)).bytes in
    let none : (x : ℕ) → ¬ (T (member (seats_in l) x)) = λ x. rw opened-seats (nobody-member x) in
    let yes = sym (yes-says l e b opened-bytes-sound) ∙ empty-yes l e b opened-bytes-sound none in
    check-says l e b opened-bytes-sound ∙ ap (λ (y : Bool). record { refused = 0; yes = y }) yes
