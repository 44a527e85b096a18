-- Words of lists of numbers.
--   span, members, rank      the n numbers from k on; those of them that pass a test; how many below v pass
--   rows, each               one list for each number, one behind the other; two lists place by place
--   all_of                   a test of each number of a list
--   padded, filled           a list with zeros behind it; the first n of such a list by a rule
-- Assumes nothing: these are definitions.
use Rattle.std.specs.Prelude.{Bool, true, false, ◌&&◌, List, [], ◌∷◌, ◌++◌, map, ℕ, zero, suc, ◌-◌, length, get_or, replicate}

-- the n numbers from k on
abbrev pub span : (n k : ℕ) → List ℕ
span zero k = []
span (suc n) k = k ∷ span n (suc k)

-- of the n numbers from k on, those that pass the test
abbrev pub keep : Bool → ℕ → List ℕ → List ℕ
keep true k l = k ∷ l
keep false k l = l

abbrev pub members : (test : ℕ → Bool) → (n k : ℕ) → List ℕ
members t zero k = []
members t (suc n) k = keep (t k) k (members t n (suc k))

-- how many numbers below v pass the test
unfoldable pub rank : (test : ℕ → Bool) → (v : ℕ) → ℕ
rank t v = length (members t v 0)

-- one list for each number, one behind the other
abbrev pub rows : (ℕ → List ℕ) → List ℕ → List ℕ
rows f [] = []
rows f (v ∷ l) = f v ++ rows f l

-- two lists place by place, over n places
abbrev pub each : (ℕ → ℕ → ℕ) → (n : ℕ) → List ℕ → List ℕ → List ℕ
each f n xs ys = map (λ i. f (get_or xs i 0) (get_or ys i 0)) (span n 0)

unfoldable pub all_of : (ℕ → Bool) → List ℕ → Bool
all_of t [] = true
all_of t (k ∷ l) = t k && all_of t l

-- a list in the first of `size` places, and 0 behind it
unfoldable pub padded : (size : ℕ) → List ℕ → List ℕ
padded size l = l ++ replicate (size - length l) 0

-- n of `size` entries by a rule, and 0 behind them
unfoldable pub filled : (size n : ℕ) → (rule : ℕ → ℕ) → List ℕ
filled size n f = padded size (map f (span n 0))
