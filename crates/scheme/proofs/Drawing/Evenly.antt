-- Every random list is drawn from as many byte strings of a length as every other.
--   evenly_drawn            for every good plan, over elements of at most two bytes
--   evenly_drawn_sixteen    modulo 65521
-- Assumes nothing.
use mathlib.Core.Path.{◌≡◌, refl, sym, ap, ◌∙◌}
use mathlib.Core.Bool.{true}
use mathlib.Core.List.{List, [], append-nil}
use Prim.Native.Nat.{ℕ, ◌*◌, ◌≤◌}
use native.Mathlib.Omega.{arith}
use Rattle.scheme.specs.Scheme.{Arithmetic, sixteen, Plan, plan_good, list_length}
use Rattle.scheme.specs.Promise.{list_good}
use Rattle.scheme.specs.Drawn.{byte, bytes_of, drawn}
use Rattle.scheme.specs.Evenly.{Matched, Draws, Gives, EvenlyDrawn}
use Rattle.scheme.proofs.Keys.{list_long, list_elements}
use Rattle.scheme.proofs.Drawing.Bytes.{bytes_of_length, bytes_of_good, bytes_of_found}
use Rattle.scheme.proofs.Drawing.Draws.{draws_list, draws_good, draws_left}
use Rattle.scheme.proofs.Drawing.Partners.{DrawnFrom, partners}

-- two lists, each the only one of its kind
one_each : (xs ys : List ℕ) → Matched (λ ws. ws ≡ xs) (λ ws. ws ≡ ys)
one_each xs ys = record {
  there = λ ws. ys;
  back = λ ws. xs;
  there_in = λ ws e. refl;
  back_in = λ ws e. refl;
  there_back = λ ws e. sym e;
  back_there = λ ws e. sym e;
}

module _ (A : Arithmetic) (p : Plan) (n : ℕ) (xs : List ℕ) where
  gives : (s : List ℕ) → Draws A p n s → drawn A (list_length p) s ≡ xs → Gives A p n xs s
  gives s d e = record { draws = d; right = λ o l. draws_left A p n s d o l ∙ e }

  gives_from : list_good A p xs ≡ true → DrawnFrom A p n (λ ws. ws ≡ xs) (Gives A p n xs)
  gives_from ok =
      let l = list_long A p xs ok in
      record {
        good = λ ws e. rw e ok;
        draws = λ s g. (g.draws, sym (draws_left A p n s g.draws xs l) ∙ g.right xs l);
        drawing = gives;
      }

pub evenly_drawn : (A : Arithmetic) → A.size ≤ byte * byte → (p : Plan) → plan_good p ≡ true → EvenlyDrawn A p
evenly_drawn A two p h = record {
  full = λ n s o d e. rw (draws_left A p n s d o e) (draws_good A p n s d);
  reached = λ xs ok.
      let l = list_elements A p xs ok in
      let long = bytes_of_length xs ∙ ap (λ (n : ℕ). n * 2) (list_long A p xs ok) in
      let d = draws_list A p _ (bytes_of xs) xs [] h ok long (bytes_of_good A two xs l) (bytes_of_found A xs l ∙ sym (append-nil xs)) in
      gives A p _ xs (bytes_of xs) d.0 d.1;
  evenly = λ n xs ys ok good. partners A two p n (gives_from A p n xs ok) (gives_from A p n ys good) (one_each xs ys);
}

pub evenly_drawn_sixteen : (p : Plan) → plan_good p ≡ true → EvenlyDrawn sixteen p
evenly_drawn_sixteen = evenly_drawn sixteen (omega arith)
