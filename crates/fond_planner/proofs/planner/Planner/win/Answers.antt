use Rattle.std.proofs.Common.{◌≡◌, List, refl, sym, subst, ⊎_elim}
use Rattle.std.specs.Prelude.{Contains}
use Rattle.std.proofs.lemmas.List.Elements.{Contains-push_cases}
use Rattle.fond_explicit.specs.Answers.{AreWinning, ChoiceView}
use Rattle.fond_draft.specs.Plans.{IsPlan}
use Rattle.fond_draft.specs.declared.plan.Plan.{Plan}
use Rattle.fond_planner.proofs.planner.Planner.win.Goals as goal

pub plan_of-requires : goal.plan_of-requires
plan_of-requires g c = (c.args.state.now, c.requires.long, c.requires.winning)

pub make_won-requires-clause-winning : goal.make_won-requires-clause-winning
make_won-requires-clause-winning g c = subst (λ (choices : List ChoiceView). AreWinning c.args.self.now.task.now c.args.state.now choices) (sym c.in_ok-plan.ensures.same) c.requires.winning

pub returns-clause-keeps : goal.returns-clause-keeps
returns-clause-keeps g c = record {
  planner = record {
    same_task = refl;
    same_budget = refl;
    right = record {
      draft = c.in_ok-make_won.ensures.draft;
      plans = λ plan has. ⊎_elim
          (λ was. c.requires.planner.plans plan was)
          (λ (same : c.in_ok-plan.plan ≡ plan). subst (λ (p : Plan). IsPlan c.args.self.now.task.now p) same c.in_ok-plan.ensures.plan)
          (Contains-push_cases c.args.self.now.plans.items c.in_ok-plan.plan plan (subst (λ (plans : List Plan). Contains plans plan) c.in_ok-push.ensures.items has));
      index = c.requires.planner.index;
    };
  };
  pairs = c.in_ok-make_won.ensures.pairs;
}

pub returns-clause-ruled : goal.returns-clause-ruled
returns-clause-ruled g c = c.in_ok-make_won.ensures.ruled
