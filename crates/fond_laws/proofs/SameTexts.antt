-- Certificates are spelled alike in tasks that are the same.
use Rattle.std.proofs.Common.{◌≡◌, ℕ, zero, suc, List, [], ◌∷◌, ◌++◌, Option, map, slice_get, flat_map, zip, refl, ap, ◌∙◌}
use Rattle.std.specs.List.{AllZip, enumerate_from, filter_map}
use Rattle.std.specs.Option.{option_map, option_map_or}
use Rattle.fond_state.specs.Cubes.{literal_at}
use Rattle.fond_task.specs.declared.task.Act.{Act}
use Rattle.fond_task.specs.declared.task.Labels.{Labels}
use Rattle.fond_task.specs.declared.task.Task.{Task}
use Rattle.fond_task.specs.Layers.{CubeView}
use Rattle.fond_task.specs.declared.rule.Pair.{Pair}
use Rattle.fond_task.specs.declared.rule.Targets.{Targets}
use Rattle.fond_task.specs.declared.rule.Targets.TheVariants.{One, All}
use Rattle.fond_policy.specs.declared.item.Way.{Way}
use Rattle.fond_policy.specs.declared.item.Way.TheVariants.{Goal as ToGoal, Rule as ByRule}
use Rattle.fond_policy.specs.declared.best.BestCert.{BestCert}
use Rattle.fond_policy.specs.declared.cert.Cert.{Cert}
use Rattle.fond_policy.specs.declared.cert.Cert.TheVariants.{Policy, Refusal, Covered}
use Rattle.fond_form.specs.declared.table.LineKind.{LineKind}
use Rattle.fond_form.specs.declared.table.LineKind.TheVariants as k
use Rattle.fond_form.specs.declared.table.Sort.{Sort}
use Rattle.fond_form.specs.declared.table.Sort.TheVariants.{Nothing, Action, Short, Long, Target, Shorts, Targets as SeveralTargets, Literals}
use Rattle.fond_form.specs.Forms.{Field, form}
use Rattle.fond_cert.specs.Spellings.{act_leaves, action_leaves, Meaning, spelled, Meanings, all_spelled, spelled_line, layer_lines, far_lines, pair_line, targets_line, way_line, ranked_way_line, best_lines, cert_lines, lines_text, best_spelling, spelling, written_cube, written_literal}
use Rattle.fond_laws.specs.Alike.{IsSameAct, IsSameTask}

module _ (labels : Labels) where
  -- the leaves of an action, if there is one
  abbrev leaves_of : Option Act → List (List ℕ)
  leaves_of found = option_map_or (λ act. action_leaves labels act.ground) found []

  -- the same actions have the same leaves, number by number
  same_leaves : (acts twins : List Act) → AllZip IsSameAct acts twins → (number : ℕ) → leaves_of (slice_get acts number) ≡ leaves_of (slice_get twins number)
  same_leaves [] [] same number = refl
  same_leaves [] (twin ∷ twins) same number = absurd same
  same_leaves (act ∷ acts) [] same number = absurd same
  same_leaves (act ∷ acts) (twin ∷ twins) same zero = ap (action_leaves labels) same.0.named
  same_leaves (act ∷ acts) (twin ∷ twins) same (suc number) = same_leaves acts twins same.1 number

module _ (game other : Task) (leaves : act_leaves game ≡ act_leaves other) (cubes : written_cube game ≡ written_cube other) where
  same_value : (sort : Sort) (meaning : Meaning sort) → spelled game sort meaning ≡ spelled other sort meaning
  same_value Nothing meaning = refl
  same_value Action act = ap (λ of. of act) leaves
  same_value Short number = refl
  same_value Long number = refl
  same_value Target target = refl
  same_value Shorts numbers = refl
  same_value SeveralTargets targets = refl
  same_value Literals cube = ap (λ of. of cube) cubes

  same_values : (fields : List Field) (meanings : Meanings fields) → all_spelled game fields meanings ≡ all_spelled other fields meanings
  same_values [] meanings = refl
  same_values (field ∷ fields) meanings = λ i. (same_value field.1 meanings.0 i, same_values fields meanings.1 i)

  same_line : (kind : LineKind) (meanings : Meanings (form kind)) → spelled_line game kind meanings ≡ spelled_line other kind meanings
  same_line kind meanings = λ i. record { kind = kind; values = same_values (form kind) meanings i }

  same_layer : (layer : List CubeView) → layer_lines game layer ≡ layer_lines other layer
  same_layer layer = λ i. same_line k.Layer (tt, tt) i ∷ map (λ cube. same_line k.Cube (cube, tt) i) layer

  same_pair : (pair : Pair) → pair_line game pair ≡ pair_line other pair
  same_pair pair = same_line k.Pair (pair.act, (pair.outcome, (pair.layer, (pair.cube, (pair.cond, tt)))))

  same_targets : (act : ℕ) (targets : Targets) (cond : CubeView) → targets_line game act targets cond ≡ targets_line other act targets cond
  same_targets act (One outcome target) cond = same_line k.FairRule (act, (outcome, (target, (cond, tt))))
  same_targets act (All targets) cond = same_line k.UnfairRule (act, (targets, (cond, tt)))

  same_way : (way : Way) (cube : CubeView) → way_line game way cube ≡ way_line other way cube
  same_way ToGoal cube = same_line k.GoalItem (cube, tt)
  same_way (ByRule rule numbers) cube = same_line k.RuleItem (rule, (numbers, (cube, tt)))

  same_lines : (cert : Cert) → cert_lines game cert ≡ cert_lines other cert
  same_lines (Policy layers pairs rules reach) = λ i.
      same_line k.PolicyHeader (tt, tt) i ∷ (flat_map (λ layer. same_layer layer i) layers ++ (map (λ pair. same_pair pair i) pairs
      ++ (map (λ rule. same_targets rule.act rule.targets rule.cond i) rules ++ (same_line k.Reach (reach, tt) i ∷ same_line k.End (tt, tt) i ∷ []))))
  same_lines (Refusal layers) = λ i. same_line k.RefusalHeader (tt, tt) i ∷ (flat_map (λ layer. same_layer layer i) layers ++ (same_line k.End (tt, tt) i ∷ []))
  same_lines (Covered layers pairs rules items start) = λ i.
      same_line k.CoverHeader (tt, tt) i ∷ (flat_map (λ layer. same_layer layer i) layers ++ (map (λ pair. same_pair pair i) pairs
      ++ (map (λ rule. same_targets rule.act rule.targets rule.cond i) rules
      ++ (map (λ item. same_way item.way item.cube i) items ++ (same_line k.Start (start, tt) i ∷ same_line k.End (tt, tt) i ∷ [])))))

  same_list : (list : List CubeView) → far_lines game list ≡ far_lines other list
  same_list list = λ i. same_line k.Far (tt, tt) i ∷ map (λ cube. same_line k.Cube (cube, tt) i) list

  same_ranked : (way : Way) (cube : CubeView) (rank : ℕ) → ranked_way_line game way cube rank ≡ ranked_way_line other way cube rank
  same_ranked ToGoal cube rank = same_line k.GoalItem (cube, tt)
  same_ranked (ByRule rule numbers) cube rank = same_line k.RankedItem (rule, (rank, (numbers, (cube, tt))))

  same_best_lines : (cert : BestCert) → best_lines game cert ≡ best_lines other cert
  same_best_lines cert = λ i.
      same_line k.BestHeader (tt, tt) i ∷ (flat_map (λ layer. same_layer layer i) cert.layers
      ++ (map (λ rule. same_targets rule.act rule.targets rule.cond i) cert.rules
      ++ (map (λ entry. same_ranked entry.0.way entry.0.cube entry.1 i) (zip cert.items cert.ranks)
      ++ (same_line k.Start (cert.start, tt) i ∷ (flat_map (λ list. same_list list i) cert.far ++ (same_line k.End (tt, tt) i ∷ []))))))

module _ (game other : Task) (same : IsSameTask game other) where
  -- each number has the same action's leaves in the same task
  leaves_alike : act_leaves game ≡ act_leaves other
  leaves_alike = λ i number. ((λ j. leaves_of (same.labels j) (slice_get game.acts number)) ∙ same_leaves other.labels game.acts other.acts same.acts number) i

  -- a cube is written alike in the same task
  cubes_alike : written_cube game ≡ written_cube other
  cubes_alike = λ i cube. filter_map (λ item. option_map (written_literal (same.labels i) item.1) (literal_at cube item.0)) (enumerate_from 0 (same.atoms i))

  -- a certificate is spelled alike in the same task
  pub same_spelling : (cert : Cert) → spelling game cert ≡ spelling other cert
  same_spelling cert = ap lines_text (same_lines game other leaves_alike cubes_alike cert)

  -- and so is one of least rank
  pub same_best_spelling : (cert : BestCert) → best_spelling game cert ≡ best_spelling other cert
  same_best_spelling cert = ap lines_text (same_best_lines game other leaves_alike cubes_alike cert)
