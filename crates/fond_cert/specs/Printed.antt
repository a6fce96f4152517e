-- What is printed, part by part.
use Rattle.std.specs.Prelude.{ℕ, ◌<◌, List, [], ◌++◌, Bool, Option, Some, None, codes, length, map, ⊤}
use Rattle.std.specs.Fmt.{decimal}
use Rattle.std.specs.List.{flat_map, zip}
use Rattle.fond_text.specs.declared.atom.Atom.{Atom}
use Rattle.fond_task.specs.declared.task.Labels.{Labels}
use Rattle.fond_task.specs.declared.task.Task.{Task}
use Rattle.fond_task.specs.Texts.{atom_text}
use Rattle.fond_task.specs.Layers.{CubeView}
use Rattle.fond_form.specs.Lines.{group_text, spaced, sign_text, literals_text}
use Rattle.fond_form.specs.Forms.{Field, Line, line_text, text_of}
use Rattle.fond_cert.specs.declared.field.Datum.{Datum}
use Rattle.fond_cert.specs.declared.field.Datum.TheVariants as d
use Rattle.fond_cert.specs.Spellings.{act_leaves, target_word, written_cube, layer_lines, far_lines, lines_text}

-- the text of an atom's literal, if there is one
abbrev pub atom_literal_text : Labels → Atom → Option Bool → List ℕ
atom_literal_text labels atom None = []
atom_literal_text labels atom (Some sign) = codes " " ++ (sign_text sign ++ atom_text labels atom)

-- the text that is printed for a datum
abbrev pub datum_text : Task → Datum → List ℕ
datum_text task d.Nothing = []
datum_text task (d.Act act) = group_text (act_leaves task act)
datum_text task (d.Number number) = decimal number
datum_text task (d.Target target) = target_word target
datum_text task (d.Numbers numbers) = spaced (map decimal numbers.now)
datum_text task (d.Targets targets) = spaced (map target_word targets.now)
datum_text task (d.Cube cube) = literals_text (written_cube task cube.now)

-- if the datum is the number of an action, the task has that action
abbrev pub HasAct : Task → Datum → Type 0
HasAct task (d.Act act) = act < length task.acts
HasAct task datum = ⊤

-- the text of fields, each followed by the text of its datum; if one list is longer, its rest is left out
abbrev pub values_text : Task → List Field → List Datum → List ℕ
values_text task fields datums = flat_map (λ item. text_of item.0.0 ++ datum_text task item.1) (zip fields datums)

-- the text of a line with its line feed
abbrev pub fed : Line → List ℕ
fed line = line_text line ++ codes "\n"

-- the text of the lines of a layer
abbrev pub layer_text : Task → List CubeView → List ℕ
layer_text task layer = lines_text (layer_lines task layer)

-- the text of the lines of a far list
abbrev pub far_text : Task → List CubeView → List ℕ
far_text task list = lines_text (far_lines task list)
