-- The translation behind demand 3: the partner of a random list is the list plus one fixed list Δ, place by place.
--   colluders_in, kept   the colluders in a set; how many columns of the set are not solved for them
--   unsolved, shift      by how much the columns of a set's block move: as the masks and the given noise do; the last ones so that no colluder's share moves
--   delta, translation   the amount at each place of the list; Δ, the list of these amounts
--   difference, table_delta   Δ for two tables: the masks move by their difference, the noise that is not solved stays
--   partner, back        a list plus Δ, and less Δ
-- Assumes nothing: these are definitions.
use Rattle.std.specs.Prelude.{◌&&◌, cond, List, map, ℕ, suc, ◌+◌, ◌*◌, ◌-◌, ◌/◌, ◌%◌, ltb, leb, length, get_or}
use Rattle.algebra.specs.Field.{sub}
use Rattle.algebra.specs.Sums.{sum}
use Rattle.algebra.specs.Cauchy.{value, solution}
use Rattle.scheme.specs.Lists.{span, members, each}
use Rattle.scheme.specs.Scheme.{Arithmetic, Plan, items, places, in_set, users_in, usable_sets, list_length}
use Rattle.scheme.specs.Promise.{Table}
use Rattle.scheme.specs.Laws.{Laws}

unfoldable pub colluders_in : Plan → (colluders set : ℕ) → List ℕ
colluders_in p c w = members (λ k. in_set c k && in_set w k) p.users 1

unfoldable pub kept : Plan → (colluders set : ℕ) → ℕ
kept p c w = p.threshold - length (colluders_in p c w)

module _ (A : Arithmetic) (p : Plan) (L : Laws A p.users p.threshold) (c : ℕ) where
  open L use {K, el, val, row, col}

  -- d: by how much each mask moves; e: each noise element that is not solved
  module _ (d : (k place : ℕ) → K.F) (e : (set block item : ℕ) → K.F) where
    unfoldable pub unsolved : (set block j : ℕ) → K.F
    unsolved w b j = cond (leb j (items p)) (sum K (users_in p w) (λ k. d k (b * items p + (j - 1)))) (e w b (j - suc (items p)))

    unfoldable pub shift : (set block j : ℕ) → K.F
    shift w b j =
        let n = kept p c w in
        let cs = colluders_in p c w in
        cond (leb j n) (unsolved w b j) (solution K row col cs (span (length cs) (suc n)) (λ k. K.neg (value K row col (span n 1) k (unsolved w b))) j)

    unfoldable pub delta : (at : ℕ) → K.F
    delta n =
        let masks = p.users * places p in
        let at = n - masks in
        cond (ltb n masks) (d (suc (n / places p)) (n % places p))
        (shift (get_or (usable_sets p) (at / p.collusion / p.blocks) 0) (at / p.collusion % p.blocks) (suc (items p) + at % p.collusion))

    unfoldable pub translation : List ℕ
    translation = map (λ n. val (delta n)) (span (list_length p) 0)

  unfoldable pub difference : Table → Table → (k place : ℕ) → K.F
  difference x y k i = sub K (el (get_or (x k) i 0)) (el (get_or (y k) i 0))

  unfoldable pub table_delta : Table → Table → List ℕ
  table_delta x y = translation (difference x y) (λ w b i. K.𝟘)

  -- THE PARTNER of a list for the tables x and y, and the list of which it is the partner
  unfoldable pub partner : Table → Table → List ℕ → List ℕ
  partner x y xs = each A.add (list_length p) xs (table_delta x y)

  unfoldable pub back : Table → Table → List ℕ → List ℕ
  back x y xs = each A.subtract (list_length p) xs (table_delta x y)
