-- What is read from the value of a field, and how it is refused.
use Rattle.std.specs.Prelude.{◌≡◌, ℕ, ◌<◌, ◌^◌, nat_lt, Bool, true, List, Option, Some, None, length, replicate, slice_set, [], ◌∷◌}
use Rattle.std.specs.Fmt.{decimal}
use Rattle.std.specs.Str.Parse.{digits_value}
use Rattle.fond_task.specs.declared.task.Task.{Task}
use Rattle.fond_task.specs.Numbers.{atom_number}
use Rattle.fond_cert.specs.declared.values.LineValues.{LineValues}
use Rattle.fond_form.specs.declared.table.Sort.{Sort}
use Rattle.fond_form.specs.Lines.{group_text, WrittenLiteral, AreProper, literals_text}
use Rattle.fond_form.specs.Forms.{Field, Value, IsProperValue, value_text, Values, AreProperValues, fields_text}
use Rattle.fond_cert.specs.Filled.{with_meaning, with_meanings}
use Rattle.fond_cert.specs.Spellings.{Meaning, spelled, IsOfTask, Meanings, all_spelled, AreOfTask}
use Rattle.fond_cert.specs.Words.{Refused, value_refusal, is_ordered, refusal_or_order, fields_refusal, literals_refusal, atom_numbers, is_increasing}

-- a text is that of a proper value of a sort
abbrev pub IsValueText : Sort → List ℕ → Type 0
IsValueText sort text = (value : Value sort) × IsProperValue sort value × (text ≡ value_text sort value)

-- a meaning is read from the text of a value that begins at this byte of a line: the value is not refused, its atoms are in order, the
-- meaning belongs to the task, and the value that spells it has this text
pub record Means (task : Task) (at : ℕ) (sort : Sort) (text : List ℕ) (meaning : Meaning sort) : Type 0 where
  pub value : Value sort
  pub right : IsProperValue sort value
  pub text_is : text ≡ value_text sort value
  pub clean : value_refusal task at sort value ≡ None
  pub ordered : is_ordered task sort value ≡ true
  pub of : IsOfTask task sort meaning
  pub same : text ≡ value_text sort (spelled task sort meaning)

-- the text of a value that begins at this byte of a line has this refusal, by the value or by the order of its atoms
pub record IsValueRefused (task : Task) (at : ℕ) (sort : Sort) (text : List ℕ) (refused : Refused) : Type 0 where
  pub value : Value sort
  pub right : IsProperValue sort value
  pub text_is : text ≡ value_text sort value
  pub wrong : refusal_or_order (value_refusal task at sort value) (is_ordered task sort value) ≡ Some refused

-- the values of a line are read up to that of one more field
abbrev pub IsFilled : Task → ℕ → Sort → List ℕ → LineValues → LineValues → Type 0
IsFilled task at sort text before after = (meaning : Meaning sort) × Means task at sort text meaning × (after ≡ with_meaning before sort meaning)

-- meanings are read from the text of fields that begins at this byte of a line
pub record AllMean (task : Task) (at : ℕ) (fields : List Field) (text : List ℕ) (meanings : Meanings fields) : Type 0 where
  pub values : Values fields
  pub right : AreProperValues fields values
  pub text_is : text ≡ fields_text fields values
  pub clean : fields_refusal task at fields values ≡ None
  pub of : AreOfTask task fields meanings
  pub same : text ≡ fields_text fields (all_spelled task fields meanings)

-- the values of a line are read up to those of further fields
abbrev pub AreFilled : Task → ℕ → List Field → List ℕ → LineValues → LineValues → Type 0
AreFilled task at fields text before after = (meanings : Meanings fields) × AllMean task at fields text meanings × (after ≡ with_meanings before fields meanings)

-- the text of fields that begins at this byte of a line has this refusal
pub record AreFieldsRefused (task : Task) (at : ℕ) (fields : List Field) (text : List ℕ) (refused : Refused) : Type 0 where
  pub values : Values fields
  pub right : AreProperValues fields values
  pub text_is : text ≡ fields_text fields values
  pub wrong : fields_refusal task at fields values ≡ Some refused

-- a number is read from its digits: it is below 2^32
abbrev pub ReadsNumber : List ℕ → ℕ → Type 0
ReadsNumber digits number = (digits_value 10 digits < 2 ^ 32) × (digits ≡ decimal number) × (number < 2 ^ 32)

-- a cube with a literal of an atom, or unchanged if the task does not have the atom
abbrev pub with_literal : List (Option Bool) → Option ℕ → Bool → List (Option Bool)
with_literal cube None sign = cube
with_literal cube (Some number) sign = slice_set cube number (Some sign)

-- a cube with the literals that are written, one by one
abbrev pub cube_of : Task → List (Option Bool) → List WrittenLiteral → List (Option Bool)
cube_of task cube [] = cube
cube_of task cube (literal ∷ literals) = cube_of task (with_literal cube (atom_number task (group_text literal.leaves)) literal.sign) literals

-- a cube is read from a text of literals that begins at this byte of a line, none of which is refused, together with
-- whether their atoms strictly increase
pub record IsCubeAt (task : Task) (at : ℕ) (text : List ℕ) (cube : List (Option Bool)) (ordered : Bool) : Type 0 where
  pub literals : List WrittenLiteral
  pub proper : AreProper literals
  pub text_is : text ≡ literals_text literals
  pub clean : literals_refusal task at literals ≡ None
  pub cube_is : cube ≡ cube_of task (replicate (length task.atoms) None) literals
  pub order_is : ordered ≡ is_increasing (atom_numbers task literals)

-- a text of literals that begins at this byte of a line has this first refusal
pub record IsLiteralRefused (task : Task) (at : ℕ) (text : List ℕ) (refused : Refused) : Type 0 where
  pub literals : List WrittenLiteral
  pub proper : AreProper literals
  pub text_is : text ≡ literals_text literals
  pub wrong : literals_refusal task at literals ≡ Some refused

-- whether a number is greater than the one before it, if there is one
abbrev pub rises : Option ℕ → ℕ → Bool
rises None number = true
rises (Some last) number = nat_lt last number
