-- `finish::explain` meets its contract. The loop's invariant is Searching: proofs/Searching.antt has what each end of a turn shows.
-- The measure is how many rows are left. Assumes nothing.
use Rattle.std.proofs.Common.{not, ap, sym, ◌∙◌, arith, ap}
use Rattle.scheme.specs.Scheme.{sixteen}
use Rattle.solve.specs.Solve.{laws16}
use Rattle.finish.proofs.Blocks.{listed_few, listed_points}
use Rattle.scheme.proofs.Pooling.Turns.{arranged_turned}
use Rattle.finish.proofs.Systems.{arranged_points, turned_right}
use Rattle.finish.proofs.Searching.{not_elements, searching_start, searching_more, turn_agreed, turn_left, turn_one, odd_few, odd_named, turns_over}
use Rattle.finish.proofs.explain.Goals as goal

pub gather-requires : goal.gather-requires
gather-requires c =
    let g = c.requires.0 in
    let h = c.users_of-users.ensures in
    (listed_few _ _ g.users_high _ _ h.list_right h.count_right, g.blocks_high, listed_points _ _ g.users_high _ _ h.list_right h.count_right)

pub returns-then-not-all_elements-clause-explained : goal.returns-then-not-all_elements-clause-explained
returns-then-not-all_elements-clause-explained c =
    let s = c.requires in
    not_elements sixteen laws16 _ s.0 _ s.1 _ _ c.users_of-users.ensures _ c.gather.ensures
    (sym c.all_elements.ensures ∙ c.if-not-all_elements.true) _

pub loop-cleared-init : goal.loop-cleared-init
loop-cleared-init c = λ good many.
    searching_start sixteen laws16 _ good _ many _ _ c.users_of-users.ensures _ c.gather.ensures
    (sym c.all_elements.ensures ∙ c.if-not-all_elements.false)

pub solve_rows-misfits-requires : goal.solve_rows-misfits-requires
solve_rows-misfits-requires c =
    let s = c.requires in
    let h = c.loop-cleared.invariant s.0 s.1 in
    (s.0, h.enough, h.few, arranged_points _ _ s.0 _ _ h.arranged)

pub returns-in_default-clause-explained : goal.returns-in_default-clause-explained
returns-in_default-clause-explained c =
    let s = c.requires in
    turn_agreed sixteen laws16 _ _ _ _ _ _ _ _ _ (c.loop-cleared.invariant s.0 s.1) _ _ c.solve_rows-misfits.ensures c.in_default.is

pub returns-then-count-n-lt2-clause-explained : goal.returns-then-count-n-lt2-clause-explained
returns-then-count-n-lt2-clause-explained c =
    let s = c.requires in
    turn_left sixteen laws16 _ _ _ _ _ _ _ _ _ (c.loop-cleared.invariant s.0 s.1) _ _ c.solve_rows-misfits.ensures c.in-Some.odd c.in-Some.is
    (omega (arith, c.if-count-n-lt2.true))

pub offset_bounds-rows-odd : goal.offset_bounds-rows-odd
offset_bounds-rows-odd c =
    let s = c.requires in
    omega (arith, odd_few sixteen laws16 _ _ _ _ _ _ _ _ _ (c.loop-cleared.invariant s.0 s.1) _ _ c.solve_rows-misfits.ensures c.in-Some.odd c.in-Some.is)

pub bounds-rows-odd : goal.bounds-rows-odd
bounds-rows-odd c =
    let s = c.requires in
    omega (arith, odd_few sixteen laws16 _ _ _ _ _ _ _ _ _ (c.loop-cleared.invariant s.0 s.1) _ _ c.solve_rows-misfits.ensures c.in-Some.odd c.in-Some.is)

pub returns-then-is_none-clause-explained : goal.returns-then-is_none-clause-explained
returns-then-is_none-clause-explained c =
    let s = c.requires in
    turn_one sixteen laws16 _ _ _ _ _ _ _ _ _ (c.loop-cleared.invariant s.0 s.1) _ _ c.solve_rows-misfits.ensures c.in-Some.odd c.in-Some.is
    (omega (arith, c.if-count-n-lt2.false)) (c.is_none.ensures ∙ ap not c.if-is_none.true)

pub returns-then-is_none-clause-named : goal.returns-then-is_none-clause-named
returns-then-is_none-clause-named c =
    let s = c.requires in
    odd_named sixteen laws16 _ _ _ _ _ _ _ _ _ (c.loop-cleared.invariant s.0 s.1) _ _ c.solve_rows-misfits.ensures c.in-Some.odd c.in-Some.is

pub turned-rows-requires : goal.turned-rows-requires
turned-rows-requires c =
    let s = c.requires in
    let h = c.loop-cleared.invariant s.0 s.1 in
    (h.enough, h.few)

pub gather-requires-in-loop-cleared : goal.gather-requires-in-loop-cleared
gather-requires-in-loop-cleared c =
    let s = c.requires in
    let h = c.loop-cleared.invariant s.0 s.1 in
    let d = turned_right _ _ _ _ h.enough c.turned-rows.ensures in
    (h.few, s.0.blocks_high, arranged_points _ _ s.0 _ _ (arranged_turned _ _ _ _ _ h.enough d h.arranged))

pub overflow_add-cleared : goal.overflow_add-cleared
overflow_add-cleared c =
    let s = c.requires in
    omega (arith, (c.loop-cleared.invariant s.0 s.1).few, c.loop-cleared-test.true)

pub loop-cleared-preserved : goal.loop-cleared-preserved
loop-cleared-preserved c = λ good many.
    let h = c.loop-cleared.invariant good many in
    searching_more sixteen laws16 _ good _ many _ _ _ _ _ h _ _ c.solve_rows-misfits.ensures c.in-Some.odd c.in-Some.is
    (omega (arith, c.if-count-n-lt2.false)) (c.is_none.ensures ∙ ap not c.if-is_none.false) _ _ (turned_right _ _ _ _ h.enough c.turned-rows.ensures)
    c.gather-in-loop-cleared.ensures

pub returns-clause-explained : goal.returns-clause-explained
returns-clause-explained c =
    let s = c.requires in
    turns_over sixteen laws16 _ s.0 _ s.1 _ _ _ _ _ (c.loop-cleared.invariant s.0 s.1) c.loop-cleared-test.false _
