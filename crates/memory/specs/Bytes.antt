-- Numbers in bytes, the highest byte first, and bytes that are 0. A list's elements are read by `get_or .. 0`. Assumes nothing.
use Rattle.std.specs.Prelude.{ℕ, zero, suc, ◌+◌, ◌-◌, ◌*◌, ◌/◌, ◌%◌, ◌^◌, ◌<◌, Bool, not, List, eqb, get_or, set}
use Rattle.base.specs.Loops.{all}

-- every element is a byte
abbrev pub AreBytes : (l : List ℕ) → Type 0
AreBytes l = (i : ℕ) → get_or l i 0 < 256

-- the number in the n bytes of l from a on
unfoldable pub number_at : (l : List ℕ) (a n : ℕ) → ℕ
number_at l a zero = 0
number_at l a (suc n) = number_at l a n * 256 + get_or l (a + n) 0

-- l with v in the n bytes from a on
unfoldable pub put_number : (l : List ℕ) (a n v : ℕ) → List ℕ
put_number l a zero v = l
put_number l a (suc n) v = set (put_number l a n (v / 256)) (a + n) (v % 256)

-- byte j of v written in n bytes
unfoldable pub digit : (n v j : ℕ) → ℕ
digit n v j = v / 256 ^ (n - suc j) % 256

-- byte i of l is 0
abbrev pub is_zero : (l : List ℕ) (i : ℕ) → Bool
is_zero l i = eqb (get_or l i 0) 0

-- byte i of l is not 0
abbrev pub non_zero : (l : List ℕ) (i : ℕ) → Bool
non_zero l i = not (is_zero l i)

-- the n bytes of l from a on are all 0
abbrev pub zeros : (l : List ℕ) (a n : ℕ) → Bool
zeros l a n = all n (λ j. is_zero l (a + j))

-- the n bytes from a on are all 255
abbrev pub fulls : (l : List ℕ) (a n : ℕ) → Bool
fulls l a n = all n (λ j. eqb (get_or l (a + j) 0) 255)
