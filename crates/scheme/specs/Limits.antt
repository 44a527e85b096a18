-- The limits of document 01, each named once. A bound on a list, an array or a line follows from these.
--   least_users, most_users, least_collusion, least_blocks, most_blocks     the ranges of K, T and M
--   most_threshold, most_collusion, most_items   of U, which is below K; of T, which is below U; of U - T
--   most_places                                  of a row of figures: L
--   most_sets                                    sets of users
--   firsts, cells                                a number for each user and place; for each user and block
--   points                                       sums k + j of a user and a column stay below it
--   most_list, most_key                          of the random list, of a key
-- Assumes nothing: these are definitions.
use Rattle.std.specs.Prelude.{ℕ, ◌+◌, ◌*◌, ◌-◌, ◌^◌}

-- "K airfields, 3 to 8"
abbrev pub least_users : ℕ
least_users = 3

abbrev pub most_users : ℕ
most_users = 8

-- "T at least 1"
abbrev pub least_collusion : ℕ
least_collusion = 1

-- "M blocks, 1 to 16"
abbrev pub least_blocks : ℕ
least_blocks = 1

abbrev pub most_blocks : ℕ
most_blocks = 16

-- "T < U ≤ K − 1"
abbrev pub most_threshold : ℕ
most_threshold = most_users - 1

abbrev pub most_collusion : ℕ
most_collusion = most_threshold - 1

abbrev pub most_items : ℕ
most_items = most_threshold - least_collusion

-- "L is at most 96"
abbrev pub most_places : ℕ
most_places = most_blocks * most_items

abbrev pub most_sets : ℕ
most_sets = 2 ^ most_users

-- "at most 768 first elements are held"
abbrev pub firsts : ℕ
firsts = most_users * most_places

-- the replies that are held, and the grids of key maker and solver
abbrev pub cells : ℕ
cells = most_users * most_blocks

abbrev pub points : ℕ
points = most_users + most_threshold + 1

abbrev pub most_list : ℕ
most_list = firsts + most_sets * most_blocks * most_collusion

abbrev pub most_key : ℕ
most_key = most_places + most_sets * most_blocks
