-- The laws of values and images: they are sound on each cube, and exact on full cubes.
use Rattle.std.specs.Prelude.{◌≡◌, List, Bool, true, false, length, IsTrue, Option, if◌then◌else◌}
use Rattle.std.specs.List.{list_all}
use Rattle.fond_state.specs.Cubes.{LiesIn, full_cube}
use Rattle.fond_task.specs.declared.form.Form.{Form}
use Rattle.fond_task.specs.declared.form.Kleene.TheVariants.{No, Yes}
use Rattle.fond_task.specs.declared.task.Entry.{Entry}
use Rattle.fond_task.specs.Within.{is_form_within, is_entry_within}
use Rattle.fond_task.specs.Truth.{is_true}
use Rattle.fond_task.specs.Steps.{next_state}
use Rattle.fond_task.specs.Values.{value}
use Rattle.fond_task.specs.Images.{image}

-- a form that is Yes on a cube is true in each of its states
abbrev pub YesIsTrue : Type 0
YesIsTrue = (state : List Bool) (cube : List (Option Bool)) (form : Form) → LiesIn state cube → value cube form ≡ Yes → is_true state form ≡ true

-- a form that is No on a cube is false in each of its states
abbrev pub NoIsFalse : Type 0
NoIsFalse = (state : List Bool) (cube : List (Option Bool)) (form : Form) → LiesIn state cube → value cube form ≡ No → is_true state form ≡ false

-- if a state lies in a cube, the next state lies in the cube's image
abbrev pub ImageHoldsNext : Type 0
ImageHoldsNext = (state : List Bool) (cube : List (Option Bool)) (outcome : List Entry) → IsTrue (list_all (is_entry_within (length state)) outcome) → LiesIn state cube → LiesIn (next_state state outcome) (image cube outcome)

-- on the full cube of a state a form is Yes if it is true in the state, and No otherwise
abbrev pub FullValueIsTruth : Type 0
FullValueIsTruth = (state : List Bool) (form : Form) → IsTrue (is_form_within (length state) form) → value (full_cube state) form ≡ (if is_true state form then Yes else No)

-- the image of the full cube of a state is the full cube of the next state
abbrev pub FullImageIsNext : Type 0
FullImageIsNext = (state : List Bool) (outcome : List Entry) → IsTrue (list_all (is_entry_within (length state)) outcome) → image (full_cube state) outcome ≡ full_cube (next_state state outcome)
