use Rattle.std.proofs.Common.{◌≡◌, ◌∙◌, ℕ, List, sym, ap, subst}
use Rattle.fond_ast.specs.Outcomes.{outcomes}
use Rattle.fond_ground.specs.Effects.{is_numbered}
use Rattle.fond_ground.specs.Grounds.{AreOutcomesOf}
use Rattle.fond_ground.specs.Limits.{has_few}
use Rattle.fond_ground.specs.Values.{StandsFor}
use Rattle.fond_ground.proofs.Actions.{four}
use Rattle.fond_ground.proofs.acts.act_of.Goals as goal

pub effects_of-requires-clause-numbered : goal.effects_of-requires-clause-numbered
effects_of-requires-clause-numbered c =
    let second : c.pre_of.new.env.items ≡ c.args.objects.now = c.in_ok-pre.ensures.env ∙ c.in_ok-env.ensures.items ∙ c.as_slice.ensures in
    ap (λ (env : List ℕ). is_numbered c.args.table.now.facts.task.now env c.args.parameters.now.schema.now.effect) second ∙ c.requires.numbered

pub effects_of-requires-clause-few : goal.effects_of-requires-clause-few
effects_of-requires-clause-few c =
    let second : c.pre_of.new.env.items ≡ c.args.objects.now = c.in_ok-pre.ensures.env ∙ c.in_ok-env.ensures.items ∙ c.as_slice.ensures in
    ap (has_few c.args.parameters.now.schema.now.effect) second ∙ c.requires.few

pub returns-clause-act : goal.returns-clause-act
returns-clause-act c =
    let task = c.args.table.now.facts.task.now in
    let schema = c.args.parameters.now.schema.now in
    let first : c.in_ok-env.env.items ≡ c.args.objects.now = c.in_ok-env.ensures.items ∙ c.as_slice.ensures in
    let second : c.pre_of.new.env.items ≡ c.args.objects.now = c.in_ok-pre.ensures.env ∙ first in
    let named : c.of.result ≡ c.args.objects.now = c.of.ensures ∙ c.in_ok-outcomes.ensures.env ∙ second in
    record {
      schema = schema;
      numbered = c.requires.there;
      named = λ i. record { schema = c.args.number; objects = named i };
      pre = subst (λ (env : List ℕ). StandsFor task env schema.pre c.in_ok-pre.pre) first c.in_ok-pre.ensures.value;
      unfair = c.requires.unfair;
      outcomes = subst (λ (env : List ℕ). AreOutcomesOf task (outcomes env schema.effect) c.in_ok-outcomes.outcomes) second c.in_ok-outcomes.ensures.listed;
    }

pub returns-clause-ground : goal.returns-clause-ground
returns-clause-ground c =
    let task = c.args.table.now.facts.task.now in
    let schema = c.args.parameters.now.schema.now in
    let third : c.of.result ≡ c.pre_of.new.env.items = c.of.ensures ∙ c.in_ok-outcomes.ensures.env in
    record {
      pre = subst (λ (env : List ℕ). StandsFor task env schema.pre c.in_ok-pre.pre) (sym (third ∙ c.in_ok-pre.ensures.env)) c.in_ok-pre.ensures.value;
      outcomes = subst (λ (env : List ℕ). AreOutcomesOf task (outcomes env schema.effect) c.in_ok-outcomes.outcomes) (sym third) c.in_ok-outcomes.ensures.listed;
      within = four _ _ _ _ c.in_ok-pre.ensures.within c.in_ok-outcomes.ensures.some c.in_ok-outcomes.ensures.few c.in_ok-outcomes.ensures.within;
    }
