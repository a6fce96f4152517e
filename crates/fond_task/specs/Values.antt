-- The value of ground forms on a cube, in Kleene's strong three-valued logic.
use Rattle.std.specs.Prelude.{List, Bool, Option, Some, None, fold, if◌then◌else◌}
use Rattle.fond_state.specs.Cubes.{literal_at}
use Rattle.fond_task.specs.declared.form.Form.{Form}
use Rattle.fond_task.specs.declared.form.Form.TheOpen.{Form-F, Truth, Lit, And, Or}
use Rattle.fond_task.specs.declared.form.Form.TheFolds.{fold-Form}
use Rattle.fond_task.specs.declared.form.Kleene.{Kleene}
use Rattle.fond_task.specs.declared.form.Kleene.TheVariants.{No, Unknown, Yes}
use Rattle.fond_text.specs.Bools.{is_same}

-- the value of a test: Yes if it is true, and No if it is false
abbrev pub truth_value : Bool → Kleene
truth_value truth = if truth then Yes else No

-- the opposite of a value
abbrev pub opposite : Kleene → Kleene
opposite No = Yes
opposite Unknown = Unknown
opposite Yes = No

-- the lesser of two values: No is below Unknown, and Unknown below Yes
abbrev pub lesser : Kleene → Kleene → Kleene
lesser No other = No
lesser Unknown No = No
lesser Unknown Unknown = Unknown
lesser Unknown Yes = Unknown
lesser Yes other = other

-- the greater of two values
abbrev pub greater : Kleene → Kleene → Kleene
greater No other = other
greater Unknown No = Unknown
greater Unknown Unknown = Unknown
greater Unknown Yes = Yes
greater Yes other = Yes

-- the least of some values, and Yes if there are none
abbrev pub least : List Kleene → Kleene
least values = fold lesser Yes values

-- the greatest of some values, and No if there are none
abbrev pub greatest : List Kleene → Kleene
greatest values = fold greater No values

-- the value of a literal: Yes if the cube has it, No if the cube has the opposite, and Unknown otherwise
abbrev pub literal_value : Option Bool → Bool → Kleene
literal_value None sign = Unknown
literal_value (Some value) sign = if is_same value sign then Yes else No

-- the value on a cube of a form whose parts have these values
abbrev pub value_step : List (Option Bool) → Form-F Kleene → Kleene
value_step cube (Truth value) = if value then Yes else No
value_step cube (Lit atom sign) = literal_value (literal_at cube atom) sign
value_step cube (And parts) = least parts.items
value_step cube (Or parts) = greatest parts.items

-- the value of a form on a cube: that of a conjunction is the least of its parts' values, that of a disjunction the greatest
abbrev pub value : List (Option Bool) → Form → Kleene
value cube = fold-Form Kleene (value_step cube)
