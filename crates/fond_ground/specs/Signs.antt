-- Conditions and their negations, conjunctions and disjunctions.
use Rattle.std.specs.Prelude.{Bool, true, false, List, Option, map, if◌then◌else◌}
use Rattle.fond_task.specs.declared.form.Junction.{Junction}
use Rattle.fond_task.specs.declared.form.Kleene.{Kleene}
use Rattle.fond_task.specs.Junctions.{dual, joined_all, neutral}
use Rattle.fond_task.specs.Values.{opposite, value}
use Rattle.fond_ground.specs.declared.junction.JunctionForm.{JunctionForm}

-- a value, or its opposite if the sign is false
abbrev pub signed : Bool → Kleene → Kleene
signed true value = value
signed false value = opposite value

-- a junction, or its dual if the sign is false
abbrev pub signed_junction : Bool → Junction → Junction
signed_junction true junction = junction
signed_junction false junction = dual junction

-- the value of a junction that grows: that of the dual junction without parts if it is decided, and else that of its parts
abbrev pub junction_value : List (Option Bool) → JunctionForm → Kleene
junction_value cube form = if form.decided then neutral (dual form.junction) else joined_all form.junction (map (value cube) form.parts.items)
