-- A random list from raw random bytes: document 02, item 1.
--   byte, bytes_good           a byte, a byte string
--   numbers_in                 two bytes are a number, low byte first
--   elements_in, found         those numbers that are elements: the others are skipped; the elements of a byte string
--   fills, drawn               whether there are n of them, and the first n
--   bytes_of                   the bytes of a list of numbers
--   list_refusal, list_left    what the call answers and leaves
-- Assumes nothing: these are definitions.
use Rattle.std.specs.Prelude.{Bool, List, [], ◌∷◌, ℕ, ◌+◌, ◌*◌, ◌/◌, ◌%◌, ltb, leb, eqb, length, take}
use Rattle.scheme.specs.Lists.{keep, all_of}
use Rattle.scheme.specs.Scheme.{Arithmetic, Plan, plan_good, list_length, ◌then◌, unless, after}

-- a byte is a number below this
abbrev pub byte : ℕ
byte = 256

unfoldable pub bytes_good : List ℕ → Bool
bytes_good s = all_of (λ a. ltb a byte) s

-- a last byte that stands alone is no number
unfoldable pub numbers_in : (bytes : List ℕ) → List ℕ
numbers_in [] = []
numbers_in (a ∷ []) = []
numbers_in (a ∷ b ∷ s) = (b * byte + a) ∷ numbers_in s

unfoldable pub elements_in : Arithmetic → (numbers : List ℕ) → List ℕ
elements_in A [] = []
elements_in A (x ∷ l) = keep (ltb x A.size) x (elements_in A l)

abbrev pub found : Arithmetic → (bytes : List ℕ) → List ℕ
found A s = elements_in A (numbers_in s)

unfoldable pub fills : Arithmetic → (n : ℕ) → (bytes : List ℕ) → Bool
fills A n s = leb n (length (found A s))

-- bytes behind the last of them are unused
unfoldable pub drawn : Arithmetic → (n : ℕ) → (bytes : List ℕ) → List ℕ
drawn A n s = take n (found A s)

unfoldable pub bytes_of : (numbers : List ℕ) → List ℕ
bytes_of [] = []
bytes_of (x ∷ l) = x % byte ∷ x / byte ∷ bytes_of l

-- 1, 2, 31; `n` is the length of the lent list
unfoldable pub list_refusal : Arithmetic → Plan → (bytes : List ℕ) → (n : ℕ) → ℕ
list_refusal A p s n = unless (plan_good p) 1 then unless (eqb n (list_length p)) 2 then unless (fills A n s) 31

abbrev pub list_left : Arithmetic → Plan → (bytes list : List ℕ) → List ℕ
list_left A p s o = after (list_refusal A p s (length o)) (drawn A (length o) s) o
