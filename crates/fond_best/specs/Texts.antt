-- How the verdicts on certificates of a policy of least rank are written.
use Rattle.std.specs.Prelude.{ℕ, List, ◌++◌, codes}
use Rattle.std.specs.Fmt.{decimal}
use Rattle.fond_task.specs.declared.task.Task.{Task}
use Rattle.fond_check.specs.Texts.{cube_text, numbered_text, place_text}
use Rattle.fond_best.specs.declared.rated.Rated.{Rated}
use Rattle.fond_best.specs.declared.rated.Rated.TheVariants.{Least, LayerGoal, LayerAct, Rule as BadRule, Item as BadItem, Start as BadStart, Rank as BadRank, FarGoal, FarAct, Bound}

-- the line of a verdict
abbrev pub rated_text : Task → Rated → List ℕ
rated_text task (Least rank) = codes "least rank " ++ decimal rank ++ codes "\n"
rated_text task (LayerGoal layer cube) = cube_text layer cube ++ codes "goal\n"
rated_text task (LayerAct layer cube act) = cube_text layer cube ++ numbered_text task act ++ codes "\n"
rated_text task (BadRule number) = codes "rejected V1 rule " ++ decimal number ++ codes "\n"
rated_text task (BadItem number) = codes "rejected V7 item " ++ decimal number ++ codes "\n"
rated_text task BadStart = codes "rejected V8\n"
rated_text task (BadRank number) = codes "rejected V9 item " ++ decimal number ++ codes "\n"
rated_text task (FarGoal list cube) = place_text (codes "rejected V10 far ") list cube ++ codes "goal\n"
rated_text task (FarAct list cube act) = place_text (codes "rejected V10 far ") list cube ++ numbered_text task act ++ codes "\n"
rated_text task Bound = codes "rejected V11\n"
