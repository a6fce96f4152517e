-- The faults of a text that is read as no tree, F1 to F6, and of one that is read as no forest, F1 to F5. A text that is
-- not too long has at most one of them, at the first token that is faulty, or at its end.
use Rattle.std.specs.Prelude.{◌≡◌, ◌≢◌, ◌⊎◌, ℕ, ◌+◌, ◌<◌, ◌≤◌, Bool, true, false, List, [], ◌∷◌, ◌++◌, length, count_by}
use Rattle.fond_text.specs.Lists.{Somewhere}
use Rattle.fond_text.specs.Places.{place_after}
use Rattle.fond_text.specs.declared.code.TheConstants.{LONGEST_TEXT, DEEPEST, TOO_LONG, STRAY_BYTE, UNCLOSED, MISPLACED, TOO_DEEP, NO_TREE}
use Rattle.fond_text.specs.declared.fault.Fault.{Fault}
use Rattle.fond_text.specs.declared.place.FileKind.{FileKind}
use Rattle.fond_text.specs.declared.place.Place.{Place}
use Rattle.fond_tree.specs.Marks.{Mark, marks}
use Rattle.fond_tree.specs.Spelling.{IsReadAs, IsReadAsForest}
use Rattle.fond_tree.specs.Tokens.{Token, Opens, Closes, Names, Stray}
use Rattle.fond_tree.specs.declared.tree.Tree.{Tree}

-- whether a token is an opening parenthesis
abbrev pub is_opening : Token → Bool
is_opening (Opens at) = true
is_opening token = false

-- whether a token is a closing parenthesis
abbrev pub is_closing : Token → Bool
is_closing Closes = true
is_closing token = false

-- the number of opening parentheses
abbrev pub opened : List Mark → ℕ
opened before = count_by (λ mark. is_opening mark.token) before

-- the number of closing parentheses
abbrev pub closed : List Mark → ℕ
closed before = count_by (λ mark. is_closing mark.token) before

-- a text is to spell one tree, or a forest: any number of trees, one after the other
pub data Shape : Type 0 where
  OneTree : Shape
  Forest : Shape

-- nothing may follow tokens without a fault: the text is to spell one tree, there is a token, and nothing is open
abbrev pub IsWhole : Shape → List Mark → Type 0
IsWhole OneTree before = (before ≢ []) × (opened before ≡ closed before)
IsWhole Forest before = ⊥

-- a token after others is faulty: a byte that is allowed in comments only; a closing parenthesis with nothing open, or a
-- leaf or parenthesis where nothing may follow; or an opening parenthesis inside as many open ones as may be
abbrev pub IsFaulty : Shape → List Mark → Token → ℕ → Type 0
IsFaulty shape before Stray code = code ≡ STRAY_BYTE
IsFaulty shape before Closes code = (opened before ≤ closed before) × (code ≡ MISPLACED)
IsFaulty shape before (Names at bytes) code = IsWhole shape before × (code ≡ MISPLACED)
IsFaulty shape before (Opens at) code = (IsWhole shape before × (code ≡ MISPLACED)) ⊎ ((closed before + DEEPEST ≤ opened before) × (code ≡ TOO_DEEP))

-- none of these tokens is faulty
abbrev pub AreRight : Shape → List Mark → Type 0
AreRight shape tokens = (before : List Mark) (mark : Mark) (after : List Mark) (code : ℕ) → tokens ≡ before ++ mark ∷ after → ¬ IsFaulty shape before mark.token code

-- a fault at the first token that is faulty
abbrev pub IsTokenFault : Shape → List Mark → Place → ℕ → Type 0
IsTokenFault shape tokens place code = Somewhere (λ before mark. AreRight shape before × IsFaulty shape before mark.token code × (place ≡ mark.at)) tokens

-- a tree is missing: the text is to spell one, and there is no token
abbrev pub LacksTree : Shape → List Mark → Type 0
LacksTree OneTree tokens = tokens ≡ []
LacksTree Forest tokens = ⊥

-- a fault at the end of a text in which no token is faulty: a parenthesis is open, or a tree is missing
pub record IsEndFault (shape : Shape) (tokens : List Mark) (end place : Place) (code : ℕ) : Type 0 where
  pub right : AreRight shape tokens
  pub unfinished : ((closed tokens < opened tokens) × (code ≡ UNCLOSED)) ⊎ (LacksTree shape tokens × (code ≡ NO_TREE))
  pub place_is : place ≡ end

-- a text has a fault: it is too long; or it is not, and one of its tokens or its end is faulty
abbrev pub IsTextFault : Shape → List ℕ → Place → ℕ → Type 0
IsTextFault shape text place code =
    ((LONGEST_TEXT < length text) × (place ≡ record { line = 1; column = 1 }) × (code ≡ TOO_LONG))
    ⊎ ((length text ≤ LONGEST_TEXT) × (IsTokenFault shape (marks text) place code ⊎ IsEndFault shape (marks text) (place_after text) place code))

-- a fault is that of the text of this file, and the text is then read as no tree
abbrev pub IsFaultOf : FileKind → List ℕ → Fault → Type 0
IsFaultOf file text fault = (fault.file ≡ file) × IsTextFault OneTree text fault.place fault.code × ((tree : Tree) → ¬ IsReadAs text tree)

-- a fault is that of the text of this file, and the text is then read as no forest
abbrev pub IsForestFaultOf : FileKind → List ℕ → Fault → Type 0
IsForestFaultOf file text fault = (fault.file ≡ file) × IsTextFault Forest text fault.place fault.code × ((trees : List Tree) → ¬ IsReadAsForest text trees)
