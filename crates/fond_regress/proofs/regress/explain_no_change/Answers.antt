use Rattle.std.proofs.Common.{sym, subst, arith, rules}
use Rattle.std.proofs.lemmas.Grind.{common_steps}
use Rattle.fond_task.specs.Layers.{CubeView}
use Rattle.fond_regress.specs.Taken.{TakesFrom}
use Rattle.fond_regress.proofs.Cubes.{takes_twice}
use Rattle.fond_regress.proofs.regress.explain_no_change.Goals as goal
use Rattle.fond_regress.proofs.regress.explain_no_change.Goals.{then-entry-atom+then-entry-sign, else-entry-atom}

pub loop-entry-preserved : goal.loop-entry-preserved
loop-entry-preserved c =
    let source = c.args.source.now in
    let Takes : CubeView → Type 0 = λ cube. TakesFrom source c.args.out.now cube in
    record {
      within = first_of (search rules, grind (arith, common_steps));
      taken = elim c.if-entry-atom.branch [
        | then-entry-atom+then-entry-sign w ↦ subst Takes (sym w.out-is) (takes_twice source c.args.out.now c.loop-entry.out w.explain.new.out c.loop-entry.invariant.taken w.explain.ensures)
        | else-entry-atom w ↦ subst Takes (sym w.out-is) c.loop-entry.invariant.taken
      ];
    }
