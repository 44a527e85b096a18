-- The parts of a key, and lists taken place by place.
--   each_at, each_length, each_append    two lists place by place
--   whole_list                       a list by its places
--   shares_length, key_is_long       lengths
--   key_mask, key_reply              the masks and the shares in a key
--   elements_at, elements_map, elements_every, elements_append, elements_rows       lists of elements
--   key_elements                     a key is made of elements
--   list_long, list_elements         a good random list
-- Assumes nothing.
use mathlib.Core.Path.{◌≡◌, refl, sym, ap, ap₂, ◌∙◌}
use mathlib.Core.Logic.{inl, inr}
use mathlib.Core.Bool.{true}
use mathlib.Core.List.{List, [], ◌∷◌, ◌++◌, map}
use Prim.Native.Nat.{ℕ, zero, suc, ◌+◌, ◌*◌, ◌-◌, ◌^◌, ◌<◌}
use native.Mathlib.Nat.{zero-add, suc-add}
use native.Mathlib.Omega.{arith}
use lib.Dec.{ltb, eqb}
use lib.ListN.{length, get_or, take, drop, length-append, get_or-append}
use lib.Seq.{drop-append-add}
use borrow.Author.Tests.{lt-ltb, eqb-true}
use Rattle.algebra.specs.Sums.{In}
use Rattle.scheme.specs.Lists.{span, rank, rows, each, all_of}
use Rattle.scheme.specs.Scheme.{Arithmetic, elements, Plan, places, in_set, usable, usable_with, sets_with, list_length, mask, share, shares, key, key_length, reply_start, reply}
use Rattle.scheme.specs.Promise.{list_good}
use Rattle.scheme.specs.Laws.{Laws}
use Rattle.scheme.proofs.Elements.{within_at, elements_within}
use Rattle.scheme.proofs.Tests.{and_both, and_joined}
use Rattle.scheme.proofs.Lists.{map_span_length, map_below_at, rows_length, rows_at}
use Rattle.scheme.proofs.Sets.{usable_below}
use Rattle.scheme.proofs.Sums.{zero_small, row_value_small}

-- ---- place by place
shifted : {B : Type 0} (g : ℕ → B) (n k : ℕ) → map g (span n (suc k)) ≡ map (λ i. g (suc i)) (span n k)
shifted g zero k = refl
shifted g (suc n) k = ap (λ l. g (suc k) ∷ l) (shifted g n (suc k))

pub whole_list : (xs : List ℕ) → map (λ i. get_or xs i 0) (span (length xs) 0) ≡ xs
whole_list [] = refl
whole_list (x ∷ xs) = ap (λ (l : List ℕ). x ∷ l) (shifted (λ i. get_or (x ∷ xs) i 0) (length xs) 0 ∙ whole_list xs)

module _ (f : ℕ → ℕ → ℕ) where
  pub each_length : (n : ℕ) (xs ys : List ℕ) → length (each f n xs ys) ≡ n
  each_length n xs ys = map_span_length (λ i. f (get_or xs i 0) (get_or ys i 0)) n 0

  pub each_at : (n : ℕ) (xs ys : List ℕ) (i : ℕ) → i < n → get_or (each f n xs ys) i 0 ≡ f (get_or xs i 0) (get_or ys i 0)
  each_at n xs ys i h = map_below_at (λ i. f (get_or xs i 0) (get_or ys i 0)) n i h

  each_cons : (n x y : ℕ) (xs ys : List ℕ) → each f (suc n) (x ∷ xs) (y ∷ ys) ≡ f x y ∷ each f n xs ys
  each_cons n x y xs ys = ap (λ (l : List ℕ). f x y ∷ l) (shifted (λ i. f (get_or (x ∷ xs) i 0) (get_or (y ∷ ys) i 0)) n 0)

  pub each_append : (n : ℕ) (a c b d : List ℕ) → length a ≡ length c → each f (length a + n) (a ++ b) (c ++ d) ≡ each f (length a) a c ++ each f n b d
  each_append n [] [] b d e = rw zero-add
  each_append n [] (y ∷ c) b d e = absurd (omega arith)
  each_append n (x ∷ a) [] b d e = absurd (omega arith)
  each_append n (x ∷ a) (y ∷ c) b d e = rw suc-add
      (each_cons (length a + n) x y (a ++ b) (c ++ d) ∙ ap (λ (l : List ℕ). f x y ∷ l) (each_append n a c b d (omega arith))
      ∙ ap (λ (l : List ℕ). l ++ each f n b d) (sym (each_cons (length a) x y a c)))

-- ---- the parts of a key
module _ (A : Arithmetic) (p : Plan) (xs : List ℕ) (k : ℕ) where
  pub shares_length : (v : ℕ) → length (shares A p xs k v) ≡ p.blocks
  unfolding shares
  shares_length v = map_span_length (share A p xs k v) p.blocks 0

  pub key_is_long : length (key A p xs k) ≡ key_length p k
  unfolding key key_length
  key_is_long = length-append (map (mask p xs k) (span (places p) 0)) (rows (shares A p xs k) (sets_with p k))
      ∙ ap₂ ◌+◌ (map_span_length (mask p xs k) (places p) 0) (rows_length (shares A p xs k) p.blocks shares_length (sets_with p k))

  pub key_mask : (i : ℕ) → i < places p → get_or (key A p xs k) i 0 ≡ mask p xs k i
  unfolding key
  key_mask i h =
      let l : i < length (map (mask p xs k) (span (places p) 0)) = omega (arith, map_span_length (mask p xs k) (places p) 0) in
      get_or-append (map (mask p xs k) (span (places p) 0)) (rows (shares A p xs k) (sets_with p k)) 0 i l
      ∙ map_below_at (mask p xs k) (places p) i h

  pub key_reply : (v : ℕ) → usable p v ≡ true → in_set v k ≡ true → reply p (key A p xs k) k v ≡ shares A p xs k v
  unfolding reply reply_start key sets_with usable_with
  key_reply v u e =
      ap (λ (n : ℕ). take p.blocks (drop (n + rank (usable_with p k) v * p.blocks) (key A p xs k))) (sym (map_span_length (mask p xs k) (places p) 0))
      ∙ ap (take p.blocks)
      (drop-append-add (map (mask p xs k) (span (places p) 0)) (rows (shares A p xs k) (sets_with p k)) (rank (usable_with p k) v * p.blocks))
      ∙ rows_at (shares A p xs k) p.blocks shares_length (usable_with p k) (2 ^ p.users) v (usable_below p v u) (and_joined u e)

-- ---- lists of elements
module _ (A : Arithmetic) where
  pub elements_at : 0 < A.size → (xs : List ℕ) (i : ℕ) → elements A xs ≡ true → get_or xs i 0 < A.size
  elements_at z xs i h = omega (arith, z, within_at (A.size - 1) xs i (sym (elements_within A z xs) ∙ h))

  pub elements_map : (f : ℕ → ℕ) (l : List ℕ) → ((k : ℕ) → In k l → f k < A.size) → elements A (map f l) ≡ true
  unfolding elements all_of
  elements_map f [] h = refl
  elements_map f (k ∷ l) h = and_joined (lt-ltb (f k) A.size (h k (inl refl))) (elements_map f l (λ i m. h i (inr m)))

  pub elements_every : (l : List ℕ) → ((k : ℕ) → get_or l k 0 < A.size) → elements A l ≡ true
  elements_every l h = ap (elements A) (sym (whole_list l)) ∙ elements_map (λ k. get_or l k 0) (span (length l) 0) (λ k m. h k)

  pub elements_append : (xs ys : List ℕ) → elements A xs ≡ true → elements A ys ≡ true → elements A (xs ++ ys) ≡ true
  unfolding elements all_of
  elements_append [] ys h l = l
  elements_append (x ∷ xs) ys h l = let s = and_both (ltb x A.size) (elements A xs) h in and_joined s.0 (elements_append xs ys s.1 l)

  pub elements_rows : (f : ℕ → List ℕ) (l : List ℕ) → ((k : ℕ) → In k l → elements A (f k) ≡ true) → elements A (rows f l) ≡ true
  unfolding elements all_of
  elements_rows f [] h = refl
  elements_rows f (k ∷ l) h = elements_append (f k) (rows f l) (h k (inl refl)) (elements_rows f l (λ i m. h i (inr m)))

-- a key is made of elements where the random list is
pub key_elements : (A : Arithmetic) (n m : ℕ) (L : Laws A n m) (p : Plan) (xs : List ℕ) (k : ℕ) → elements A xs ≡ true → elements A (key A p xs k) ≡ true
unfolding key mask shares share
key_elements A n m L p xs k h = elements_append A (map (mask p xs k) (span (places p) 0)) (rows (shares A p xs k) (sets_with p k))
    (elements_map A (mask p xs k) (span (places p) 0) (λ i l. elements_at A (zero_small A n m L) xs ((k - 1) * places p + i) h))
    (elements_rows A (shares A p xs k) (sets_with p k)
    (λ v l. elements_map A (share A p xs k v) (span p.blocks 0) (λ b i. row_value_small A n m L p.threshold k _)))

-- what makes a random list good
pub list_long : (A : Arithmetic) (p : Plan) (xs : List ℕ) → list_good A p xs ≡ true → length xs ≡ list_length p
unfolding list_good
list_long A p xs ok = eqb-true _ _ (and_both (eqb (length xs) (list_length p)) (elements A xs) ok).0

pub list_elements : (A : Arithmetic) (p : Plan) (xs : List ℕ) → list_good A p xs ≡ true → elements A xs ≡ true
unfolding list_good
list_elements A p xs ok = (and_both (eqb (length xs) (list_length p)) (elements A xs) ok).1
