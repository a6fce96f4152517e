use Rattle.std.proofs.Common.{sym, subst, arith, rules}
use Rattle.std.proofs.lemmas.Grind.{common_steps}
use Rattle.fond_task.specs.Layers.{CubeView}
use Rattle.fond_regress.specs.Taken.{TakesFrom}
use Rattle.fond_regress.proofs.Cubes.{takes_twice}
use Rattle.fond_regress.proofs.explain.+explain.Goals as goal
use Rattle.fond_regress.proofs.explain.+explain.Goals.{then-each_counts, else-each_counts+else-has_value}

pub loop-part-preserved : goal.loop-part-preserved
loop-part-preserved t c =
    let source = c.args.source.now in
    let Takes : CubeView → Type 0 = λ cube. TakesFrom source c.args.out.now cube in
    record {
      within = first_of (search rules, grind (arith, common_steps));
      taken = elim c.if-each_counts.branch [
        | then-each_counts w ↦ subst Takes (sym w.out-is) (takes_twice source c.args.out.now c.loop-part.out w.explain.new.out c.loop-part.invariant.taken w.explain.ensures)
        | else-each_counts+else-has_value w ↦ subst Takes (sym w.out-is) c.loop-part.invariant.taken
      ];
    }
