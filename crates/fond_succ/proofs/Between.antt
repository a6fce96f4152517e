-- The laws between a task and its ground task.
use Rattle.std.proofs.Common.{ap, sym, ◌∙◌, subst}
use Rattle.fond_succ.specs.Laws.{GroundTasksPlay, GroundTasksAgree, OutcomesLeadAlike, TextsAgree, StandsIsInjective, TracesStand}
use Rattle.fond_succ.specs.Stands.{restrict, stands}
use Rattle.fond_succ.specs.Traces.{Trace}
use Rattle.fond_ast.specs.Outcomes.{outcomes}
use Rattle.fond_succ.proofs.Agrees.{agrees, restricted}
use Rattle.fond_succ.proofs.Outcomes.{all_lead_alike}
use Rattle.fond_succ.proofs.Plays.{distinct, long, plays}
use Rattle.fond_succ.proofs.Texts.{texts_alike}
use Rattle.fond_succ.proofs.Traces.{trace_alike}

pub ground-tasks-play : GroundTasksPlay
ground-tasks-play task game is = plays task game is

pub ground-tasks-agree : GroundTasksAgree
ground-tasks-agree task game is = agrees task game is

pub outcomes-lead-alike : OutcomesLeadAlike
outcomes-lead-alike task game action act one values is state =
    all_lead_alike task (distinct task game is) values (long task game is values state) (outcomes action.objects one.schema.effect) act.outcomes one.outcomes

pub texts-agree : TextsAgree
texts-agree task game values is state = texts_alike task game is values

pub stands-is-injective : StandsIsInjective
stands-is-injective task game values other is state also same = sym (restricted task game is values state) ∙ ap (restrict task) same ∙ restricted task game is other also

pub traces-stand : TracesStand
traces-stand pick task game rules words lines last is trace =
    subst (λ first. Trace pick task game rules first words lines (stands task last)) (plays task game is).first (trace_alike task game is rules pick game.init words lines last game.init_long trace)
