-- Fields at the beginning of a text, and where their values end.
use Rattle.std.specs.Prelude.{◌≡◌, ◌≢◌, ◌==◌, ◌&&◌, ℕ, ◌<◌, ◌+◌, Bool, true, false, List, [], ◌∷◌, ◌++◌, length, ⊤}
use Rattle.fond_form.specs.Lines.{is_number, is_target, AreWords, spaced}
use Rattle.fond_form.specs.Parts.{EndsWord, HasNoWord}
use Rattle.fond_form.specs.Forms.{Field, text_of, Value, IsProperValue, value_text}
use Rattle.fond_form.specs.declared.part.Part.{Part}
use Rattle.fond_form.specs.declared.table.Sort.{Sort}
use Rattle.fond_form.specs.declared.table.Sort.TheVariants.{Nothing, Action, Short, Long, Target, Shorts, Targets, Literals}

-- a rest begins where a value of a sort must end
abbrev pub Ends : Sort → List ℕ → Type 0
Ends Nothing rest = rest ≡ []
Ends Action rest = ⊤
Ends Short rest = EndsWord rest
Ends Long rest = EndsWord rest
Ends Target rest = EndsWord rest
Ends Shorts rest = EndsWord rest × HasNoWord is_number rest
Ends Targets rest = EndsWord rest × HasNoWord is_target rest
Ends Literals rest = rest ≡ []

-- a text does not begin with a proper value of a sort that ends there
abbrev pub HasNoValue : Sort → List ℕ → Type 0
HasNoValue sort text = (value : Value sort) (rest : List ℕ) → IsProperValue sort value → Ends sort rest → text ≢ value_text sort value ++ rest

-- a text is a proper value of a sort and a rest at which the value ends
pub record BeginsWith (sort : Sort) (text front rest : List ℕ) : Type 0 where
  pub value : Value sort
  pub right : IsProperValue sort value
  pub front_is : front ≡ value_text sort value
  pub ends : Ends sort rest
  pub split : text ≡ front ++ rest

-- a text does not begin with some words that pass a test, each after a space, up to where they end
abbrev pub HasNoWords : (List ℕ → Bool) → List ℕ → Type 0
HasNoWords test text = (words : List (List ℕ)) (rest : List ℕ) → 0 < length words → AreWords test words → EndsWord rest → HasNoWord test rest → text ≢ spaced words ++ rest

-- a text is some words that pass a test, each after a space, and a rest at which they end
pub record BeginsWithWords (test : List ℕ → Bool) (text front rest : List ℕ) : Type 0 where
  pub words : List (List ℕ)
  pub some : 0 < length words
  pub right : AreWords test words
  pub front_is : front ≡ spaced words
  pub ends : EndsWord rest
  pub none : HasNoWord test rest
  pub split : text ≡ front ++ rest

-- a rest does not begin with a field
abbrev pub HasNoField : Field → List ℕ → Type 0
HasNoField field rest = (value : Value field.1) (more : List ℕ) → IsProperValue field.1 value → Ends field.1 more → rest ≢ text_of field.0 ++ (value_text field.1 value ++ more)

-- a rest begins with a field: with its text, and a proper value that ends where the further rest begins; each has its place
pub record IsFieldOf (field : Field) (rest part next : Part) : Type 0 where
  pub value : Value field.1
  pub right : IsProperValue field.1 value
  pub part_is : part.text.now ≡ value_text field.1 value
  pub ends : Ends field.1 next.text.now
  pub split : rest.text.now ≡ text_of field.0 ++ (part.text.now ++ next.text.now)
  pub part_at : part.at ≡ rest.at + length (text_of field.0)
  pub next_at : next.at ≡ part.at + length part.text.now

-- whether a text begins with a space, or is empty and a value follows it that begins with one
abbrev pub is_space_first : List ℕ → Sort → Bool
is_space_first (b ∷ text) _ = b == 32
is_space_first [] Shorts = true
is_space_first [] Targets = true
is_space_first [] _ = false

-- whether a text begins with a space and a colon
abbrev pub is_colon_first : List ℕ → Bool
is_colon_first (b ∷ c ∷ text) = b == 32 && c == 58
is_colon_first text = false

-- whether the texts of these fields show that a value of a sort ends before them
abbrev pub is_ended : Sort → List Field → Bool
is_ended Action fields = true
is_ended _ [] = true
is_ended Short (field ∷ fields) = is_space_first (text_of field.0) field.1
is_ended Long (field ∷ fields) = is_space_first (text_of field.0) field.1
is_ended Target (field ∷ fields) = is_space_first (text_of field.0) field.1
is_ended Shorts (field ∷ fields) = is_colon_first (text_of field.0)
is_ended Targets (field ∷ fields) = is_colon_first (text_of field.0)
is_ended _ (field ∷ fields) = false

-- whether the texts of these fields show where each value ends
abbrev pub is_clear : List Field → Bool
is_clear [] = true
is_clear (field ∷ fields) = is_ended field.1 fields && is_clear fields
