-- What all share: tests, lists, refusals; sums, sets, bounds of a plan, keys, whole-number totals; the laws of fewer rows, and modulo
-- 65521. Then a folder for each matter.
--   Privacy   demand 3, and that its premises are sharp
--   Pooling   demands 1 and 2: totals and the service
--   Making    the key maker
--   Solving   the solver
--   Drawing   random lists from raw bytes
pub mod Tests
pub mod Good
pub mod Lists
pub mod Padded
pub mod Refusals
pub mod Sums
pub mod Sets
pub mod PlanBounds
pub mod Keys
pub mod Elements
pub mod Signed
pub mod Whole
pub mod Weighed
pub mod Laws
pub mod Modular
pub mod Privacy
pub mod Pooling
pub mod Making
pub mod Solving
pub mod Drawing
