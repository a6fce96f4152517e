-- The patterns of a schema as they are filed: by what they are, and by their shapes.
use Rattle.std.specs.Prelude.{◌≡◌, ◌<◌, ℕ, true, List, [], ◌∷◌, Option, Some, Contains, is_some, length, map, position, slice_get, if◌then◌else◌}
use Rattle.std.specs.List.{flat_map}
use Rattle.fond_ast.specs.declared.form.LTerm.{LTerm}
use Rattle.fond_ast.specs.declared.form.LTerm.TheVariants.{Object, Variable}
use Rattle.fond_store.specs.Texts.{number_beside}
use Rattle.fond_ast.specs.Patterns.{is_variable, leads, Fits}

-- a position of a variable: its number if it stands there, and otherwise the first one
abbrev pub leader : List LTerm → ℕ → Option ℕ
leader pattern number = if leads pattern number then Some number else position (is_variable number) pattern

-- the object at a position is the one at the leading position of the variable that stands there, if one does
abbrev pub Follows : List LTerm → List ℕ → ℕ → Type 0
Follows pattern objects at = (number first : ℕ) → slice_get pattern at ≡ Some (Variable number) → leader pattern number ≡ Some first → slice_get objects at ≡ slice_get objects first

-- there are as many objects as terms, and equal objects at equal variables
pub record Agrees (pattern : List LTerm) (objects : List ℕ) : Type 0 where
  pub counted : length pattern ≡ length objects
  pub equal : (at other number : ℕ) → slice_get pattern at ≡ Some (Variable number) → slice_get pattern other ≡ Some (Variable number) → slice_get objects at ≡ slice_get objects other

-- a term by two numbers
abbrev pub term_code : LTerm → List ℕ
term_code (Object number) = 0 ∷ number ∷ []
term_code (Variable number) = 1 ∷ number ∷ []

-- a pattern by numbers
abbrev pub code : List LTerm → List ℕ
code pattern = flat_map term_code pattern

-- a term whose object is left open
abbrev pub blank : LTerm → LTerm
blank (Object number) = Object 0
blank (Variable number) = Variable number

-- the shape of a pattern: its variables, and the positions of its objects
abbrev pub shape : List LTerm → List LTerm
shape pattern = map blank pattern

-- a term with another object in place of its own
abbrev pub with_object : LTerm → ℕ → LTerm
with_object (Object number) object = Object object
with_object (Variable number) object = Variable number

-- the pattern of the same shape that names these objects
abbrev pub renamed : List LTerm → List ℕ → List LTerm
renamed [] objects = []
renamed (term ∷ pattern) [] = []
renamed (term ∷ pattern) (object ∷ objects) = with_object term object ∷ renamed pattern objects

-- a pattern at one of these positions has the shape of a pattern
pub record HasShape (all : List (List LTerm)) (shapes : List ℕ) (pattern : List LTerm) : Type 0 where
  pub at : ℕ
  pub listed : Contains shapes at
  pub one : List LTerm
  pub there : slice_get all at ≡ Some one
  pub same : shape one ≡ shape pattern

-- the first patterns of a list are found by their codes, each code that is found is that of a pattern, and each shape
-- has a position
pub record AreFiled (all : List (List LTerm)) (count : ℕ) (codes : List (List ℕ × ℕ)) (shapes : List ℕ) : Type 0 where
  pub named : (pattern : List LTerm) → is_some (number_beside codes (code pattern)) ≡ true → Contains all pattern
  pub listed : (at : ℕ) → Contains shapes at → at < length all
  pub found : (at : ℕ) (pattern : List LTerm) → at < count → slice_get all at ≡ Some pattern → is_some (number_beside codes (code pattern)) ≡ true
  pub shaped : (at : ℕ) (pattern : List LTerm) → at < count → slice_get all at ≡ Some pattern → HasShape all shapes pattern

-- the pattern at a position has a shape that has a position
abbrev pub HasShapeAt : List (List LTerm) → List ℕ → ℕ → Type 0
HasShapeAt all shapes at = (pattern : List LTerm) → slice_get all at ≡ Some pattern → HasShape all shapes pattern

-- positions are kept, and new ones are below a bound
pub record AreKept (bound : ℕ) (shapes more : List ℕ) : Type 0 where
  pub still : (at : ℕ) → Contains shapes at → Contains more at
  pub below : ((at : ℕ) → Contains shapes at → at < bound) → (at : ℕ) → Contains more at → at < bound

-- a shape has been seen only if it has a position
abbrev pub AreSeen : List (List LTerm) → List (List ℕ × ℕ) → List ℕ → Type 0
AreSeen all seen shapes = (pattern : List LTerm) → is_some (number_beside seen (code (shape pattern))) ≡ true → HasShape all shapes pattern

-- some pattern fits objects
abbrev pub Fit : List (List LTerm) → List ℕ → Type 0
Fit patterns objects = (pattern : List LTerm) × Contains patterns pattern × Fits pattern objects
