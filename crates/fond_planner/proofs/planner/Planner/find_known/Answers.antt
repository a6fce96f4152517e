use Rattle.std.proofs.Common.{ℕ, ◌∙◌, sym, subst}
use Rattle.fond_layers.specs.Over.{AreOver}
use Rattle.fond_planner.proofs.Barred.{dead_lies}
use Rattle.fond_planner.proofs.planner.Planner.find_known.Goals as goal

pub dead-requires : goal.dead-requires
dead-requires g c = subst (λ (n : ℕ). AreOver n c.args.self.now.draft.layers) (sym c.requires.long) c.requires.planner.draft.over

pub returns-then-is_some-clause-found : goal.returns-then-is_some-clause-found
returns-then-is_some-clause-found g c = dead_lies c.args.state.now c.args.self.now.draft.layers c.dead.result c.dead.ensures (sym c.is_some.ensures ∙ c.if-is_some.true)
