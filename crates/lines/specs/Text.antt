-- The lines that the program prints, byte for byte as document 01's example shows them; `aside` is of document 02's item 6.
--   decimal, numbers       decimal digits; numbers, each behind one space
--   spell                  so many digits of a number, the last ones
--   aside_line             before a total, of the user set aside, if any
--   line                   of an answer, with the record's offset; two lines of a total with a user set aside
-- Assumes nothing: these are definitions.
use Rattle.std.specs.Prelude.{cond, List, [], ◌∷◌, ◌++◌, ℕ, zero, suc, ◌+◌, ◌/◌, ◌%◌, ltb, eqb}
use Rattle.scheme.specs.Service.{Answer, silent, planned, opened, closed, totalled, refused}

-- of a number with at most `most` digits: those of the tenth part, then the last
unfoldable pub digits : (most n : ℕ) → List ℕ
digits zero n = []
digits (suc m) n = cond (ltb n 10) ((48 + n) ∷ []) (digits m (n / 10) ++ ((48 + n % 10) ∷ []))

-- of a number of 64 bits
unfoldable pub decimal : ℕ → List ℕ
decimal n = digits 20 n

-- the last `count` digits of a number, zeros included
unfoldable pub spell : (count n : ℕ) → List ℕ
spell zero n = []
spell (suc k) n = spell k (n / 10) ++ ((48 + n % 10) ∷ [])

unfoldable pub numbers : List ℕ → List ℕ
numbers [] = []
numbers (n ∷ l) = 32 ∷ (decimal n ++ numbers l)

-- "plan", "open", "survivors", "aside", "total", "refused", " at", and the end of a line
abbrev pub plan_word : List ℕ
plan_word = 112 ∷ 108 ∷ 97 ∷ 110 ∷ []

abbrev pub open_word : List ℕ
open_word = 111 ∷ 112 ∷ 101 ∷ 110 ∷ []

abbrev pub survivors_word : List ℕ
survivors_word = 115 ∷ 117 ∷ 114 ∷ 118 ∷ 105 ∷ 118 ∷ 111 ∷ 114 ∷ 115 ∷ []

abbrev pub aside_word : List ℕ
aside_word = 97 ∷ 115 ∷ 105 ∷ 100 ∷ 101 ∷ []

abbrev pub total_word : List ℕ
total_word = 116 ∷ 111 ∷ 116 ∷ 97 ∷ 108 ∷ []

abbrev pub refused_word : List ℕ
refused_word = 114 ∷ 101 ∷ 102 ∷ 117 ∷ 115 ∷ 101 ∷ 100 ∷ []

abbrev pub at_word : List ℕ
at_word = 32 ∷ 97 ∷ 116 ∷ []

abbrev pub line_end : List ℕ
line_end = 10 ∷ []

-- no line for number 0: there is no such user
unfoldable pub aside_line : (round aside : ℕ) → List ℕ
aside_line r k = cond (eqb k 0) [] (aside_word ++ numbers (r ∷ k ∷ []) ++ line_end)

unfoldable pub line : (offset : ℕ) → Answer → List ℕ
line o silent = []
line o (planned p) = plan_word ++ numbers (p.users ∷ p.threshold ∷ p.collusion ∷ p.blocks ∷ []) ++ line_end
line o (opened r) = open_word ++ numbers (r ∷ []) ++ line_end
line o (closed r v) = survivors_word ++ numbers (r ∷ v ∷ []) ++ line_end
line o (totalled r k ts) = aside_line r k ++ total_word ++ numbers (r ∷ ts) ++ line_end
line o (refused n) = refused_word ++ numbers (n ∷ []) ++ at_word ++ numbers (o ∷ []) ++ line_end
