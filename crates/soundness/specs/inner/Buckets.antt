-- How the soundness test finds out that numbers differ. Lots stand in buckets by the remainders of their numbers: for each bucket its last lot
-- is kept, and for each lot the one before it in its bucket. A lot is named by its seat and 1, and 0 is none. Assumes nothing.
use Rattle.std.specs.Prelude.{ℕ, zero, suc, ◌%◌, ◌<◌, ◌≡◌, Bool, true, cond, ◌&&◌, List, eqb, length, get_or}
use Rattle.protocol.specs.State.{taken}
use Rattle.record.specs.Layout.{seats}
use Rattle.record.specs.Meaning.{seats_in}
use Rattle.soundness.specs.declared.entries.Buckets as code

abbrev pub buckets : ℕ
buckets = 509

module _ (l : List ℕ) where
  -- the bucket of seat s
  abbrev pub bucket_of : ℕ → ℕ
  bucket_of s = (seats_in l).number s % buckets

  -- a lot on y with the number of s
  abbrev pub same_number : (s y : ℕ) → Bool
  same_number s y = taken (seats_in l) y && eqb ((seats_in l).number s) ((seats_in l).number y)

  -- the last lot below s in bucket b
  unfoldable pub last_in : (s b : ℕ) → ℕ
  last_in zero b = 0
  last_in (suc s) b = cond (taken (seats_in l) s && eqb (bucket_of s) b) (suc s) (last_in s b)

  -- the lots below s are kept: their numbers, the last of each bucket, and the one before each
  pub record Kept (s : ℕ) (numbers last before : List ℕ) : Type 0 where
    pub long : (length numbers ≡ seats) × (length last ≡ buckets) × (length before ≡ seats)
    pub number : (y : ℕ) → y < s → taken (seats_in l) y ≡ true → get_or numbers y 0 ≡ (seats_in l).number y
    pub ends : (b : ℕ) → b < buckets → get_or last b 0 ≡ last_in s b
    pub links : (y : ℕ) → y < s → taken (seats_in l) y ≡ true → get_or before y 0 ≡ last_in y (bucket_of y)

  -- as the code has them
  abbrev pub KeptIn : (s : ℕ) → code.Buckets → Type 0
  KeptIn s b = Kept s b.numbers b.last b.before
