-- A certificate of least rank that belongs to a task and is correct there is so in a task that is the same.
use Rattle.std.proofs.Common.{ℕ, List, [], Bool, Option, Some, None, sym, ◌∙◌, subst}
use Rattle.fond_task.specs.declared.rule.Rule.{Rule}
use Rattle.fond_task.specs.declared.task.Task.{Task}
use Rattle.fond_task.specs.Layers.{CubeView}
use Rattle.fond_layers.specs.Far.{IsFarList, list_before}
use Rattle.fond_policy.specs.Belongs.{BelongsAsBest}
use Rattle.fond_policy.specs.declared.best.BestCert.{BestCert}
use Rattle.fond_policy.specs.declared.cert.Cert.TheVariants.{Covered}
use Rattle.fond_policy.specs.declared.item.Item.{Item}
use Rattle.fond_policy.specs.declared.item.Way.{Way}
use Rattle.fond_policy.specs.declared.item.Way.TheVariants.{Goal, Rule as ByRule}
use Rattle.fond_best.specs.Certificates.{IsInLast, IsRankedWay, IsRightBest}
use Rattle.fond_laws.specs.Alike.{IsSameAct, IsSameTask}
use Rattle.fond_laws.proofs.SameLists.{zip-at}
use Rattle.fond_laws.proofs.SameParts.{same_cube}
use Rattle.fond_laws.proofs.SameTask.{alike, same_as_items, same_as_layers, same_as_rules}

module _ (game other : Task) (same : IsSameTask game other) where
  -- a list after this one is far in the same task
  same_list : (layers : List (List CubeView)) (before : Option (List CubeView)) (cubes : List CubeView) → IsFarList game layers before cubes → IsFarList other layers before cubes
  same_list layers None cubes far = λ cube has. sym (same.goal cube) ∙ far cube has
  same_list layers (Some before) cubes far = λ cube has. same_cube game other same layers before cube (far cube has)

  -- a rank is right for a way in the same task
  same_ranked : (rules : List Rule) (items : List Item) (ranks : List ℕ) (rank : ℕ) (way : Way) → IsRankedWay game rules items ranks rank way → IsRankedWay other rules items ranks rank way
  same_ranked rules items ranks rank Goal ranked = tt
  same_ranked rules items ranks rank (ByRule number numbers) ranked =
      let act = zip-at IsSameAct game.acts other.acts same.acts ranked.rule.act ranked.act ranked.has_act in
      record {
        some = ranked.some;
        rule = ranked.rule;
        has_rule = ranked.has_rule;
        act = act.0;
        has_act = act.1;
        fair = λ fair. ranked.fair (act.2.unfair ∙ fair);
        unfair = λ unfair. ranked.unfair (act.2.unfair ∙ unfair);
      }

  -- a certificate of least rank belongs to the same task
  pub same_best_belongs : (cert : BestCert) → BelongsAsBest game cert → BelongsAsBest other cert
  same_best_belongs cert belongs = record {
    as_layers = same_as_layers game other same cert.layers belongs.as_layers;
    as_rules = same_as_rules game other same cert.rules belongs.as_rules;
    as_items = same_as_items game other same cert.items belongs.as_items;
    counted = belongs.counted;
    goals = belongs.goals;
    as_lists = same_as_layers game other same cert.far belongs.as_lists;
  }

  -- a certificate of least rank is correct with the same rank in the same task
  pub same_best : (cert : BestCert) (rank : ℕ) → IsRightBest game cert rank → IsRightBest other cert rank
  same_best cert rank right = record {
    cover = (alike game other same).right (Covered cert.layers [] cert.rules cert.items cert.start) right.cover;
    ranked = record {
      counted = right.ranked.counted;
      each = λ number item own has also. same_ranked cert.rules cert.items cert.ranks own item.way (right.ranked.each number item own has also);
    };
    lists_far = λ at cubes has. same_list cert.layers (list_before cert.far at) cubes (right.lists_far at cubes has);
    met = record {
      starts = right.met.starts;
      counted = right.met.counted;
      reached = λ some. subst (λ (state : List Bool). IsInLast state cert.far) same.init (right.met.reached some);
    };
  }
