-- The lists that the program lends, and the round that a line names.
--   lent_length, key_start   room for what is lent, and the place of the key behind the random list
--   list_of, key_of   the random list and the key that are lent
--   mark              the number that a buffer has throughout
--   round_of          the round that two numbers of a line stand for, from a place on
-- Assumes nothing: these are definitions.
use Rattle.std.specs.Prelude.{ℕ, ◌+◌, ◌*◌, List, take, drop, slice_index}
use Rattle.scheme.specs.Limits.{most_list, most_key}
use Rattle.rounds.specs.declared.lists.Lent.{Lent}

-- past every random list
abbrev pub key_start : ℕ
key_start = most_list

-- past every key, too
abbrev pub lent_length : ℕ
lent_length = key_start + most_key

abbrev pub list_of : Lent → List ℕ
list_of l = take l.list l.numbers

abbrev pub key_of : Lent → List ℕ
key_of l = take l.key (drop key_start l.numbers)

abbrev pub mark : ℕ
mark = 7

-- its low sixteen bits come first
unfoldable pub round_of : (line : List ℕ) → (i : ℕ) → ℕ
round_of l i = slice_index l i + 65536 * slice_index l (i + 1)
