use Rattle.std.proofs.Common.{◌+◌, ◌*◌, ◌∙◌, ℕ, ap, arith}
use Rattle.std.specs.Prelude.{◌||◌, ◌&&◌}
use Rattle.fond_state.specs.Words.{truth_in}
use Rattle.fond_matrix.proofs.Opposed.{clash_row, opposed_more, opposed_all, twice_more, twice_all}
use Rattle.fond_matrix.proofs.rows.Rows.gather.Goals as goal

pub loop-atom-preserved : goal.loop-atom-preserved
loop-atom-preserved c =
    let next = c.in-Some.ensures.some in
    let clash = λ (k : ℕ). clash_row c.args.self.now c.args.cube.now (64 * c.args.start + k) c.row-skip.result.1.now c.in-Some.atom c.in-Some.sign next.is c.row-skip.ensures.words in
    record {
      within = omega (arith, next.within);
      long = (c.add_twice.ensures.long.0 ∙ c.loop-atom.invariant.long.0, c.add_twice.ensures.long.1 ∙ c.loop-atom.invariant.long.1);
      some = λ k lt. opposed_more c.args.self.now c.args.cube.now (64 * c.args.start + k) (truth_in c.loop-atom.once k) (truth_in c.add_twice.new.once k) c.loop-atom.from c.in-Some.atom
          next.after next.none (c.add_twice.ensures.once k lt ∙ ap (λ b. truth_in c.loop-atom.once k || b) (clash k)) (c.loop-atom.invariant.some k lt);
      two = λ k lt. twice_more c.args.self.now c.args.cube.now (64 * c.args.start + k) (truth_in c.loop-atom.twice k) (truth_in c.loop-atom.once k) (truth_in c.add_twice.new.twice k) c.loop-atom.from c.in-Some.atom
          next.after next.none (c.add_twice.ensures.twice k lt ∙ ap (λ b. truth_in c.loop-atom.twice k || (truth_in c.loop-atom.once k && b)) (clash k)) (c.loop-atom.invariant.two k lt) (c.loop-atom.invariant.some k lt);
    }

pub returns-clause-once : goal.returns-clause-once
returns-clause-once c = λ k lt. opposed_all c.args.self.now c.args.cube.now (64 * c.args.start + k) (truth_in c.loop-atom.once k) c.loop-atom.from
    c.in_default.ensures.none c.loop-atom.invariant.within (c.loop-atom.invariant.some k lt)

pub returns-clause-twice : goal.returns-clause-twice
returns-clause-twice c = λ k lt. twice_all c.args.self.now c.args.cube.now (64 * c.args.start + k) (truth_in c.loop-atom.twice k) c.loop-atom.from
    c.in_default.ensures.none c.loop-atom.invariant.within (c.loop-atom.invariant.two k lt)
