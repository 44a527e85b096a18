-- `keys::write_sets` meets its contract: what is written so far is the shares for the sets so far (KeyParts.Written). Assumes nothing.
use Rattle.std.proofs.Common.{◌≡◌, ℕ, List, ◌*◌, sym, ap, subst, ◌∙◌, arith}
use Rattle.scheme.specs.Scheme.{sixteen, items, Plan}
use Rattle.scheme.specs.KeyParts.{Written}
use Rattle.scheme.proofs.Modular.{sixteen_sums}
use Rattle.scheme.proofs.Making.Places.{noise_zero, reply_first}
use Rattle.scheme.proofs.Making.Sums.{tables_ready}
use Rattle.scheme.proofs.Making.Writing.{written_start, written_join, written_end}
use Rattle.plan.specs.Plan.{plan_of}
use Rattle.keys.proofs.write_sets.Goals as goal

as_many : {p : Plan} {k : ℕ} {xs old new : List ℕ} {noise at n m : ℕ} → n ≡ m → Written sixteen p k xs 0 old new noise at n → Written sixteen p k xs 0 old new noise at m
as_many {p} {k} {xs} {old} {new} {noise} {at} e w = subst (Written sixteen p k xs 0 old new noise at) e w

pub loop-part-init : goal.loop-part-init
loop-part-init c =
    let a = c.args in
    let p = plan_of a.plan in
    let e = c.requires.row_value.0 in
    as_many (omega arith) (written_start sixteen p a.user _ _ (ap (λ (x : ℕ). a.plan.users * x) e ∙ sym (noise_zero p)) (e ∙ sym (reply_first p a.user)))

pub write_half-next-requires-clause-ready : goal.write_half-next-requires-clause-ready
unfolding items
write_half-next-requires-clause-ready c =
    let a = c.args in
    let g = c.requires.key_input.good in
    tables_ready sixteen_sums (plan_of a.plan) a.user a.list.now _ c.coefficients-factors.result c.fill_tables.ensures c.mask_products.ensures
    c.coefficients-factors.ensures (omega (arith, g.collusion_high)) g.blocks_high

pub loop-part-preserved : goal.loop-part-preserved
loop-part-preserved c =
    let a = c.args in
    let i = c.loop-part in
    as_many (omega arith) (written_join sixteen (plan_of a.plan) a.user _ i.invariant (omega arith) c.write_half-next.ensures)

pub returns : goal.returns
returns c =
    written_end c.loop-part.invariant _ c.requires.row_value.0 (omega arith)
