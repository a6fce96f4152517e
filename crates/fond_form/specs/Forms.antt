-- The lines of certificates and of tables, as data: the fields of each kind of line, and what is written for them.
use Rattle.std.specs.Prelude.{◌≡◌, ℕ, ◌<◌, List, [], ◌∷◌, ◌++◌, IsTrue, length, codes, ⊤}
use Rattle.fond_form.specs.Lines.{IsGroup, group_text, is_number, is_target, AreWords, spaced, WrittenLiteral, AreProper, literals_text}
use Rattle.fond_form.specs.declared.table.LineKind.{LineKind}
use Rattle.fond_form.specs.declared.table.LineKind.TheVariants as k
use Rattle.fond_form.specs.declared.table.Sort.{Sort}
use Rattle.fond_form.specs.declared.table.Sort.TheVariants.{Nothing, Action, Short, Long, Target, Shorts, Targets, Literals}
use Rattle.fond_form.specs.declared.table.Text.{Text}
use Rattle.fond_form.specs.declared.table.Text.TheVariants as t

-- the bytes of the fixed texts of lines
abbrev pub text_of : Text → List ℕ
text_of t.PolicyHeader = codes "dualfond 1 policy"
text_of t.RefusalHeader = codes "dualfond 1 refusal"
text_of t.CoverHeader = codes "dualfond 2 policy"
text_of t.TableHeader = codes "table 1"
text_of t.BestHeader = codes "dualfond 2 best"
text_of t.Layer = codes "layer"
text_of t.Cube = codes "cube"
text_of t.Pair = codes "pair "
text_of t.Rule = codes "rule "
text_of t.Fair = codes " fair "
text_of t.Unfair = codes " unfair"
text_of t.Reach = codes "reach "
text_of t.GoalItem = codes "item goal :"
text_of t.Item = codes "item "
text_of t.Rank = codes " rank "
text_of t.Start = codes "start "
text_of t.Far = codes "far"
text_of t.Do = codes "do "
text_of t.End = codes "end"
text_of t.Space = codes " "
text_of t.Colon = codes " :"
text_of t.Empty = []

-- a field is a text, and the sort of the value that follows it
abbrev pub Field : Type 0
Field = Text × Sort

-- the fields of a kind of line, from left to right
abbrev pub form : LineKind → List Field
form k.PolicyHeader = (t.PolicyHeader, Nothing) ∷ []
form k.RefusalHeader = (t.RefusalHeader, Nothing) ∷ []
form k.CoverHeader = (t.CoverHeader, Nothing) ∷ []
form k.TableHeader = (t.TableHeader, Nothing) ∷ []
form k.BestHeader = (t.BestHeader, Nothing) ∷ []
form k.Layer = (t.Layer, Nothing) ∷ []
form k.Cube = (t.Cube, Literals) ∷ []
form k.Pair = (t.Pair, Action) ∷ (t.Space, Short) ∷ (t.Space, Short) ∷ (t.Space, Short) ∷ (t.Colon, Literals) ∷ []
form k.FairRule = (t.Rule, Action) ∷ (t.Fair, Short) ∷ (t.Space, Target) ∷ (t.Colon, Literals) ∷ []
form k.UnfairRule = (t.Rule, Action) ∷ (t.Unfair, Targets) ∷ (t.Colon, Literals) ∷ []
form k.Reach = (t.Reach, Long) ∷ []
form k.GoalItem = (t.GoalItem, Literals) ∷ []
form k.RuleItem = (t.Item, Short) ∷ (t.Empty, Shorts) ∷ (t.Colon, Literals) ∷ []
form k.RankedItem = (t.Item, Short) ∷ (t.Rank, Long) ∷ (t.Empty, Shorts) ∷ (t.Colon, Literals) ∷ []
form k.Start = (t.Start, Short) ∷ []
form k.Far = (t.Far, Nothing) ∷ []
form k.Row = (t.Do, Action) ∷ (t.Colon, Literals) ∷ []
form k.End = (t.End, Nothing) ∷ []

-- all kinds of lines
abbrev pub kinds : List LineKind
kinds =
    k.Cube ∷ k.FairRule ∷ k.RuleItem ∷ k.RankedItem ∷ k.UnfairRule ∷ k.Row ∷ k.Pair ∷ k.GoalItem ∷ k.Layer ∷ k.Far ∷ k.Reach ∷ k.Start ∷ k.PolicyHeader ∷ k.RefusalHeader ∷ k.CoverHeader ∷ k.TableHeader ∷ k.BestHeader ∷ k.End ∷ []

-- what is written for a sort: the leaves of an action, the bytes of a number or a target, or of each of several, or literals
abbrev pub Value : Sort → Type 0
Value Nothing = ⊤
Value Action = List (List ℕ)
Value Short = List ℕ
Value Long = List ℕ
Value Target = List ℕ
Value Shorts = List (List ℕ)
Value Targets = List (List ℕ)
Value Literals = List WrittenLiteral

-- a value is proper: an action and each atom is a group of plain leaves, numbers are numbers, targets are targets, and of several there
-- is at least one
abbrev pub IsProperValue : (sort : Sort) → Value sort → Type 0
IsProperValue Nothing value = ⊤
IsProperValue Action leaves = IsGroup leaves
IsProperValue Short digits = IsTrue (is_number digits)
IsProperValue Long digits = IsTrue (is_number digits)
IsProperValue Target word = IsTrue (is_target word)
IsProperValue Shorts words = (0 < length words) × AreWords is_number words
IsProperValue Targets words = (0 < length words) × AreWords is_target words
IsProperValue Literals literals = AreProper literals

-- the bytes of a value
abbrev pub value_text : (sort : Sort) → Value sort → List ℕ
value_text Nothing value = []
value_text Action leaves = group_text leaves
value_text Short digits = digits
value_text Long digits = digits
value_text Target word = word
value_text Shorts words = spaced words
value_text Targets words = spaced words
value_text Literals literals = literals_text literals

-- what is written for fields: a value for each
abbrev pub Values : List Field → Type 0
Values [] = ⊤
Values (field ∷ fields) = Value field.1 × Values fields

-- the values of fields are proper
abbrev pub AreProperValues : (fields : List Field) → Values fields → Type 0
AreProperValues [] values = ⊤
AreProperValues (field ∷ fields) values = IsProperValue field.1 values.0 × AreProperValues fields values.1

-- the bytes of fields with these values
abbrev pub fields_text : (fields : List Field) → Values fields → List ℕ
fields_text [] values = []
fields_text (field ∷ fields) values = text_of field.0 ++ (value_text field.1 values.0 ++ fields_text fields values.1)

-- a text has a form: it is that of the form's fields with proper values
abbrev pub HasForm : List Field → List ℕ → Type 0
HasForm fields text = (values : Values fields) × AreProperValues fields values × (text ≡ fields_text fields values)

-- a line as it is written, without its line feed: its kind, and the values of its fields
pub record Line : Type 0 where
  pub kind : LineKind
  pub values : Values (form kind)

-- the text of a line
abbrev pub line_text : Line → List ℕ
line_text line = fields_text (form line.kind) line.values

-- a line is proper if the values of its fields are
abbrev pub IsProper : Line → Type 0
IsProper line = AreProperValues (form line.kind) line.values
