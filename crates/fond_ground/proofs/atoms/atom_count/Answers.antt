use Rattle.std.proofs.Common.{◌≡◌, ◌∙◌, ◌+◌, ◌-◌, ◌^◌, [], length, drop, sym, ap, arith}
use Rattle.std.specs.Prelude.{min}
use Rattle.std.proofs.lemmas.Grind.{common_steps}
use Rattle.fond_ground.proofs.Counts.{atoms_from, count_more}
use Rattle.fond_ground.proofs.atoms.atom_count.Goals as goal

pub loop-i-preserved : goal.loop-i-preserved
loop-i-preserved c = record {
  fits = (let fits = c.saturating_add-count.type_inv in omega (arith, fits));
  counted = count_more (2 ^ 64 - 1) c.args.task.now.predicates c.loop-i.i c.get.result.now c.loop-i.count c.predicate_count.result c.saturating_add-count.result _ c.get.ensures c.predicate_count.ensures c.saturating_add-count.ensures c.loop-i.invariant.counted;
}

pub returns : goal.returns
returns c =
    let none : drop c.loop-i.i c.args.task.now.predicates ≡ [] = grind (arith, common_steps) in
    let same = ap (λ some. min (c.loop-i.count + length (atoms_from c.loop-i.i some)) (2 ^ 64 - 1)) (sym none) in
    let fits = c.loop-i.invariant.fits in
    let here : c.loop-i.count ≡ min (c.loop-i.count + 0) (2 ^ 64 - 1) = omega (arith, fits) in
    here ∙ same ∙ c.loop-i.invariant.counted
