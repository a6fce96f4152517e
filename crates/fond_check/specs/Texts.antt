-- How verdicts are written.
use Rattle.std.specs.Prelude.{ℕ, List, [], ◌++◌, Bool, true, false, codes, slice_get}
use Rattle.std.specs.Fmt.{decimal}
use Rattle.std.specs.Option.{option_map_or}
use Rattle.fond_task.specs.declared.task.Task.{Task}
use Rattle.fond_task.specs.Texts.{action_text, state_text}
use Rattle.fond_policy.specs.declared.cert.Cert.{Cert}
use Rattle.fond_policy.specs.declared.cert.Cert.TheVariants.{Refusal}
use Rattle.fond_check.specs.declared.verdict.Verdict.{Verdict}
use Rattle.fond_check.specs.declared.verdict.Verdict.TheVariants.{Accepted, Rule, Pair, LayerGoal, LayerAct, NoRule, Count, Outside, Item, Start}

-- the line for a certificate that is accepted: a refusal, or a policy that is lean or not
abbrev pub accepted_text : Cert → Bool → List ℕ
accepted_text (Refusal layers) lean = codes "accepted refusal\n"
accepted_text policy true = codes "accepted policy lean\n"
accepted_text policy false = codes "accepted policy plain\n"

-- the text of the action of this number
abbrev pub numbered_text : Task → ℕ → List ℕ
numbered_text task number = option_map_or (λ act. action_text task.labels act.ground) (slice_get task.acts number) []

-- the line for a cube of a list, up to what is wrong with it: these words, the number of the list and that of the cube
abbrev pub place_text : List ℕ → ℕ → ℕ → List ℕ
place_text words list cube = words ++ decimal list ++ codes " cube " ++ decimal cube ++ codes " "

-- the line for a cube of a layer that is not sure, up to what is wrong with it
abbrev pub cube_text : ℕ → ℕ → List ℕ
cube_text layer cube = place_text (codes "rejected V3 layer ") layer cube

-- the text of a verdict on a certificate
abbrev pub verdict_text : Task → Cert → Verdict → List ℕ
verdict_text task cert (Accepted lean) = accepted_text cert lean
verdict_text task cert (LayerGoal layer cube) = cube_text layer cube ++ codes "goal\n"
verdict_text task cert (LayerAct layer cube act) = cube_text layer cube ++ numbered_text task act ++ codes "\n"
verdict_text task cert (Pair number) = codes "rejected V2 pair " ++ decimal number ++ codes "\n"
verdict_text task cert (Rule number) = codes "rejected V1 rule " ++ decimal number ++ codes "\n"
verdict_text task cert (Count true) = codes "rejected V5 more\n"
verdict_text task cert (Count false) = codes "rejected V5 fewer\n"
verdict_text task cert (NoRule state) = codes "rejected V4\n" ++ state_text task state
verdict_text task cert Outside = codes "rejected V6\n"
verdict_text task cert (Item number) = codes "rejected V7 item " ++ decimal number ++ codes "\n"
verdict_text task cert Start = codes "rejected V8\n"
