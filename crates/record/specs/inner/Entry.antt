-- The state, number and vector of an entry written; a seat without links; and an entry that is lent alone, a part of the record that begins in its
-- middle: what the writing of a link leaves of it, and of the record that it is a part of. Assumes nothing.
use Rattle.std.specs.Prelude.{ℕ, ◌≡◌, Bool, ◌&&◌, List, Option, None, Some, eqb, length, get_or, set}
use Rattle.memory.specs.Bytes.{number_at, put_number}
use Rattle.graph.specs.Side.{Side, left, right}
use Rattle.record.specs.Layout.{number_size, vector_size, link_size, no_link, link_offset, state_at, number_from, vector_from, link_at}
use Rattle.record.specs.Local.{Outside}

-- state t, number n and vector v on seat s
abbrev pub filled : List ℕ → (s t n v : ℕ) → List ℕ
filled l s t n v = put_number (put_number (set l (state_at s) t) (number_from s) number_size n) (vector_from s) vector_size v

-- seat s has no link at level k
abbrev pub bare_at : (l : List ℕ) (s k : ℕ) → Bool
bare_at l s k = eqb (get_or l (link_at s k left) 0) no_link && eqb (get_or l (link_at s k right) 0) no_link

-- entry e has become e': the bytes of the link at a level on side d hold v, and every other byte is as it was
pub record LinkSet (e e' : List ℕ) (level : ℕ) (d : Side) (v : ℕ) : Type 0 where
  pub sized : length e' ≡ length e
  pub link : number_at e' (link_offset level d) link_size ≡ v
  pub others : (j : ℕ) → Outside (link_offset level d) link_size j → get_or e' j 0 ≡ get_or e j 0

-- what a change of that link leaves of an entry: it is set to v, or it stays, and every byte is as it was
abbrev pub Written : (e e' : List ℕ) (level : ℕ) → Side → Option ℕ → Type 0
Written e e' k d None = e' ≡ e
Written e e' k d (Some v) = LinkSet e e' k d v

-- and of the record, where it is the entry of seat s
abbrev pub written : List ℕ → (s level : ℕ) → Side → Option ℕ → List ℕ
written l s k d None = l
written l s k d (Some v) = set l (link_at s k d) v
