-- Text written into a lent buffer.
--   number_room, short_room   the bytes that a number fits into, one of 64 bits and one of 16, the space before it included
--   aside_room                the bytes that the line of the user set aside fits into
--   room                      the bytes that the text of any answer fits into
--   Put                       a text, written over a list from a place on, and the place behind it
--   Says                      so the text of an answer that names no offset
--   Wrote                     a text, written through a writer that goes on behind it
-- Assumes nothing: these are definitions.
use Rattle.std.specs.Prelude.{◌≡◌, List, ℕ, ◌+◌, ◌*◌, length}
use Rattle.std.proofs.lemmas.List.Edits.{sets}
use Rattle.scheme.specs.Limits.{most_places}
use Rattle.scheme.specs.Service.{Answer}
use Rattle.lines.specs.declared.Writer.{Writer}
use Rattle.lines.specs.Text.{line}

-- 64 bits are 20 digits at most, and 16 bits are 5
abbrev pub number_room : ℕ
number_room = 21

abbrev pub short_room : ℕ
short_room = 6

-- a word of 5 letters, two numbers, and the end of line
abbrev pub aside_room : ℕ
aside_room = 6 + 2 * number_room

-- the longest is a total's: the line of the user set aside, a word, a round of 10 digits, a number of 16 bits for each place, and the
-- end of line; the rest is spare
abbrev pub room : ℕ
room = 128 + short_room * most_places

pub record Put (before after : List ℕ) (at next : ℕ) (text : List ℕ) : Type 0 where
  pub place : next ≡ at + length text
  pub bytes : after ≡ sets before at text

abbrev pub Says : (before after : List ℕ) → (at next : ℕ) → Answer → Type 0
Says before after at next answer = (offset : ℕ) → Put before after at next (line offset answer)

-- into the same buffer, which keeps its length
pub record Wrote (before after : Writer) (text : List ℕ) : Type 0 where
  pub same : after.out.ghost_name ≡ before.out.ghost_name
  pub long : length after.out.now ≡ length before.out.now
  pub put : Put before.out.now after.out.now before.at after.at text
