-- The refusal of a line by its values or by the order of its atoms.
use Rattle.std.specs.Prelude.{ℕ, ◌+◌, ◌^◌, nat_lt, ◌&&◌, Bool, true, false, List, [], ◌∷◌, Option, Some, None, length, codes, if◌then◌else◌}
use Rattle.std.specs.List.{filter_map}
use Rattle.std.specs.Str.{bytes_eq}
use Rattle.std.specs.Str.Parse.{digits_value}
use Rattle.fond_task.specs.declared.task.Task.{Task}
use Rattle.fond_task.specs.Numbers.{act_number, atom_number}
use Rattle.fond_cert.specs.declared.code.TheConstants.{OUT_OF_FORM, UNKNOWN_ATOM, UNKNOWN_ACTION, TOO_LARGE}
use Rattle.fond_form.specs.declared.table.Sort.{Sort}
use Rattle.fond_form.specs.declared.table.Sort.TheVariants.{Nothing, Action, Short, Long, Target, Shorts, Targets, Literals}
use Rattle.fond_form.specs.Lines.{group_text, WrittenLiteral, literal_text}
use Rattle.fond_form.specs.Forms.{Field, text_of, form, Value, value_text, Values, Line}

-- this code, if a word names nothing
abbrev pub unknown : ℕ → Option ℕ → Option ℕ
unknown code None = Some code
unknown code (Some number) = None

-- the code of a number that must be below a bound, if it is refused
abbrev pub number_code : ℕ → List ℕ → Option ℕ
number_code bound digits = if nat_lt (digits_value 10 digits) bound then None else Some TOO_LARGE

-- the code of a target, if it is refused: its number must be below 2^32
abbrev pub target_code : List ℕ → Option ℕ
target_code word = if bytes_eq word (codes "goal") then None else number_code (2 ^ 32) word

-- a refusal of a line: its code, and its byte in the line, counted from 0
pub record Refused : Type 0 where
  pub code : ℕ
  pub at : ℕ

-- a refusal, or else what follows
abbrev pub or_else : Option Refused → Option Refused → Option Refused
or_else (Some refused) more = Some refused
or_else None more = more

-- a refusal with this code at this byte, or else what follows
abbrev pub refused_or : Option ℕ → ℕ → Option Refused → Option Refused
refused_or (Some code) at more = Some (record { code = code; at = at })
refused_or None at more = more

-- the refusal of the first of some words that is refused, at its first byte; each is after a space, and the text of all begins at
-- this byte
abbrev pub words_refusal : (List ℕ → Option ℕ) → ℕ → List (List ℕ) → Option Refused
words_refusal code at [] = None
words_refusal code at (word ∷ words) = refused_or (code word) (at + 1) (words_refusal code (at + 1 + length word) words)

-- the refusal of the first of some literals whose atom the task does not have, at the atom's first byte; the text of all begins at
-- this byte
abbrev pub literals_refusal : Task → ℕ → List WrittenLiteral → Option Refused
literals_refusal task at [] = None
literals_refusal task at (literal ∷ literals) =
    refused_or (unknown UNKNOWN_ATOM (atom_number task (group_text literal.leaves))) (at + 2) (literals_refusal task (at + length (literal_text literal)) literals)

-- the refusal of a value whose text begins at this byte: of an action or atom that the task does not have, or a number that is not
-- below its bound
abbrev pub value_refusal : Task → ℕ → (sort : Sort) → Value sort → Option Refused
value_refusal task at Nothing value = None
value_refusal task at Action leaves = refused_or (unknown UNKNOWN_ACTION (act_number task (group_text leaves))) at None
value_refusal task at Short digits = refused_or (number_code (2 ^ 32) digits) at None
value_refusal task at Long digits = refused_or (number_code (2 ^ 64) digits) at None
value_refusal task at Target word = refused_or (target_code word) at None
value_refusal task at Shorts words = words_refusal (number_code (2 ^ 32)) at words
value_refusal task at Targets words = words_refusal target_code at words
value_refusal task at Literals literals = literals_refusal task at literals

-- the refusal of the first value of some fields that is refused; the text of the fields begins at this byte
abbrev pub values_refusal : Task → ℕ → (fields : List Field) → Values fields → Option Refused
values_refusal task at [] values = None
values_refusal task at (field ∷ fields) values =
    or_else (value_refusal task (at + length (text_of field.0)) field.1 values.0)
    (values_refusal task (at + length (text_of field.0) + length (value_text field.1 values.0)) fields values.1)

-- the numbers of the atoms of literals, leaving out atoms that the task does not have
abbrev pub atom_numbers : Task → List WrittenLiteral → List ℕ
atom_numbers task literals = filter_map (λ literal. atom_number task (group_text literal.leaves)) literals

-- whether numbers strictly increase
abbrev pub is_increasing : List ℕ → Bool
is_increasing [] = true
is_increasing (number ∷ []) = true
is_increasing (number ∷ next ∷ rest) = nat_lt number next && is_increasing (next ∷ rest)

-- whether the atoms of a value strictly increase by their numbers
abbrev pub is_ordered : Task → (sort : Sort) → Value sort → Bool
is_ordered task Literals literals = is_increasing (atom_numbers task literals)
is_ordered task _ value = true

-- whether the atoms of each value of some fields strictly increase by their numbers
abbrev pub are_ordered : Task → (fields : List Field) → Values fields → Bool
are_ordered task [] values = true
are_ordered task (field ∷ fields) values = is_ordered task field.1 values.0 && are_ordered task fields values.1

-- a refusal by a value, or else one at the first byte if the atoms are out of order
abbrev pub refusal_or_order : Option Refused → Bool → Option Refused
refusal_or_order (Some refused) ordered = Some refused
refusal_or_order None true = None
refusal_or_order None false = Some (record { code = OUT_OF_FORM; at = 0 })

-- the refusal of fields with these values, whose text begins at this byte of a line: by the first value that is refused, or else at the
-- first byte of the line if the atoms of a value are out of order
abbrev pub fields_refusal : Task → ℕ → (fields : List Field) → Values fields → Option Refused
fields_refusal task at fields values = refusal_or_order (values_refusal task at fields values) (are_ordered task fields values)

-- the refusal of a line
abbrev pub line_refusal : Task → Line → Option Refused
line_refusal task line = fields_refusal task 0 (form line.kind) line.values
