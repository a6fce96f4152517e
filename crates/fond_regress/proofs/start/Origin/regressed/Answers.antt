use Rattle.std.proofs.Common.{ℕ, ◌≡◌, ◌∙◌, length, sym, ap, subst, arith}
use Rattle.std.proofs.lemmas.Grind.{common_steps}
use Rattle.fond_rules.specs.Belongs.{ArePairsOver}
use Rattle.std.proofs.lemmas.Bool.{and_parts}
use Rattle.fond_state.specs.Cubes.{CubeLiesIn}
use Rattle.fond_task.specs.Within.{is_act_within, is_form_within}
use Rattle.fond_task.proofs.Found.{all_at, pre_within}
use Rattle.fond_task.specs.Layers.{CubeView}
use Rattle.fond_regress.proofs.Cubes.{lies_in_empty}
use Rattle.fond_regress.proofs.start.Origin.regressed.Goals as goal

pub explain-requires-clause-within : goal.explain-requires-clause-within
explain-requires-clause-within c =
    let task = c.args.self.now.task.now in
    rw (c.args.self.now.long) (ap (is_form_within (length task.atoms)) c.deref.ensures ∙ pre_within _ task.acts c.args.act c.get-action.result.now task.acts_within c.get-action.ensures)

pub explain_targets-requires-clause-within : goal.explain_targets-requires-clause-within
explain_targets-requires-clause-within c =
    let task = c.args.self.now.task.now in
    rw (c.args.self.now.long) (and_parts _ _ (all_at (is_act_within _) task.acts c.args.act c.get-action.result.now task.acts_within c.get-action.ensures)).1

pub returns-clause-lies : goal.returns-clause-lies
returns-clause-lies c =
    let source = c.args.self.now.source.now in
    let Lies : CubeView → Type 0 = λ cube. CubeLiesIn source cube in
    c.oppose_pairs.ensures.1 (c.explain_targets.ensures.1 (c.explain.ensures.1 (subst Lies (sym c.in_ok-out.ensures) (lies_in_empty source _))))

pub explain-requires-clause-long : goal.explain-requires-clause-long
explain-requires-clause-long c = grind (arith, common_steps)

pub explain_targets-requires-clause-long : goal.explain_targets-requires-clause-long
explain_targets-requires-clause-long c = grind (arith, common_steps)

pub oppose_pairs-requires-clause-over : goal.oppose_pairs-requires-clause-over
oppose_pairs-requires-clause-over c = subst (λ atoms. ArePairsOver atoms c.args.pairs.now) (sym c.args.self.now.long) c.requires.over

pub oppose_pairs-requires-clause-long : goal.oppose_pairs-requires-clause-long
oppose_pairs-requires-clause-long c = grind (arith, common_steps)

pub returns-clause-long : goal.returns-clause-long
returns-clause-long c = grind (arith, common_steps)
