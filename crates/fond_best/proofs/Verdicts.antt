-- Each verdict on a correct certificate is its rank.
use Rattle.std.proofs.Common.{◌≡◌, ℕ, List, Option, Some, None, refl, ap, sym, ◌∙◌}
use Rattle.std.specs.Prelude.{slice_get}
use Rattle.std.proofs.lemmas.Option.{same_Some}
use Rattle.fond_task.specs.declared.task.Task.{Task}
use Rattle.fond_task.specs.Layers.{CubeView}
use Rattle.fond_task.proofs.Lists.{Contains_numbered}
use Rattle.fond_layers.specs.declared.fault.Spot.{Spot}
use Rattle.fond_layers.specs.declared.fault.Spot.TheVariants.{Goal, NotSure}
use Rattle.fond_layers.specs.Faults.{cube_number}
use Rattle.fond_layers.specs.Far.{IsFarList, IsFarSpot, AreFarLists, list_before}
use Rattle.fond_policy.specs.declared.best.BestCert.{BestCert}
use Rattle.fond_check.proofs.Accepted.{not_bad, not_wrong}
use Rattle.fond_best.specs.Certificates.{IsRightBest}
use Rattle.fond_best.specs.Ratings.{IsFirstBadList, IsRating}
use Rattle.fond_best.specs.declared.rated.Rated.{Rated}
use Rattle.fond_best.specs.declared.rated.Rated.TheVariants.{Least, LayerGoal, LayerAct, Rule as BadRule, Item as BadItem, Start as BadStart, Rank as BadRank, FarGoal, FarAct, Bound}

-- a far list has no spot
not_far_spot : (task : Task) (layers : List (List CubeView)) (before : Option (List CubeView)) (cubes : List CubeView) (spot : Spot) → IsFarList task layers before cubes → ¬ IsFarSpot task layers before cubes spot
not_far_spot task layers None cubes (Goal number) far spot = spot.goal (far spot.cube (Contains_numbered cubes number spot.cube spot.has_cube))
not_far_spot task layers None cubes (NotSure number act) far spot = spot
not_far_spot task layers (Some before) cubes spot far found =
    not_wrong task layers before found.cube spot (far found.cube (Contains_numbered cubes (cube_number spot) found.cube found.has_cube)) found.wrong

no_bad_list : (task : Task) (layers far : List (List CubeView)) (number : ℕ) (spot : Spot) → AreFarLists task layers far → ¬ IsFirstBadList task layers far number spot
no_bad_list task layers far number spot are_far bad = not_far_spot task layers (list_before far number) bad.cubes spot (are_far number bad.cubes bad.has_cubes) bad.wrong

pub right_rated : (task : Task) (cert : BestCert) (rank : ℕ) (rated : Rated) → IsRightBest task cert rank → IsRating task cert rated → rated ≡ Least rank
right_rated task cert rank (Least other) right found = ap Least (same_Some other rank (sym found.met.starts ∙ right.met.starts))
right_rated task cert rank (LayerGoal layer cube) right found = absurd (not_bad task cert.layers layer (Goal cube) right.cover.sure.layers_sure found)
right_rated task cert rank (LayerAct layer cube act) right found = absurd (not_bad task cert.layers layer (NotSure cube act) right.cover.sure.layers_sure found)
right_rated task cert rank (BadRule number) right found = absurd (found.1.bad (right.cover.sure.rules_sure number found.1.rule found.1.has_rule))
right_rated task cert rank (BadItem number) right found = absurd (found.1.bad (right.cover.items_sure number found.1.item found.1.has_item))
right_rated task cert rank BadStart right found = absurd (found.2 right.cover.starts)
right_rated task cert rank (BadRank number) right found = absurd (found.1.bad (right.ranked.each number found.1.item found.1.rank found.1.has_item found.1.has_rank))
right_rated task cert rank (FarGoal list cube) right found = absurd (no_bad_list task cert.layers cert.far list (Goal cube) right.lists_far found.1)
right_rated task cert rank (FarAct list cube act) right found = absurd (no_bad_list task cert.layers cert.far list (NotSure cube act) right.lists_far found.1)
right_rated task cert rank Bound right found = absurd (found.2 rank right.met)
