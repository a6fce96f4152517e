-- Two faults of one text are the same.
use Rattle.std.proofs.Common.{◌≡◌, ℕ, ◌+◌, ◌≤◌, ◌<◌, List, [], ◌∷◌, ◌++◌, sym, ◌∙◌, ap, ◌⊎◌, inl, inr, arith, append-nil, subst}
use Rattle.fond_text.specs.declared.code.TheConstants.{DEEPEST, UNCLOSED, NO_TREE}
use Rattle.fond_text.specs.declared.place.Place.{Place}
use Rattle.fond_text.specs.Places.{place_after}
use Rattle.fond_tree.specs.Faults.{Shape, OneTree, Forest, opened, closed, IsFaulty, IsWhole, LacksTree, IsTokenFault, IsEndFault, IsTextFault}
use Rattle.fond_tree.specs.Marks.{Mark, marks}
use Rattle.fond_tree.specs.Tokens.{Token, Opens, Closes, Names, Stray}
use Rattle.fond_tree.specs.Unique.{EachTextHasOneFault}
use Rattle.fond_tree.proofs.Right.{split}

-- after a whole tree nothing is open, so nothing there is too deep
whole_shallow : (shape : Shape) (before : List Mark) → IsWhole shape before → ¬ closed before + DEEPEST ≤ opened before
whole_shallow OneTree before whole deep = absurd (omega (arith, whole.1, deep))
whole_shallow Forest before whole deep = whole

-- a token is faulty in one way
one_code : (shape : Shape) (before : List Mark) (token : Token) (code number : ℕ) → IsFaulty shape before token code → IsFaulty shape before token number → code ≡ number
one_code shape before (Opens at) code number (inl f) (inl g) = f.1 ∙ sym g.1
one_code shape before (Opens at) code number (inl f) (inr g) = absurd (whole_shallow shape before f.0 g.0)
one_code shape before (Opens at) code number (inr f) (inl g) = absurd (whole_shallow shape before g.0 f.0)
one_code shape before (Opens at) code number (inr f) (inr g) = f.1 ∙ sym g.1
one_code shape before Closes code number f g = f.1 ∙ sym g.1
one_code shape before (Names at bytes) code number f g = f.1 ∙ sym g.1
one_code shape before Stray code number f g = f ∙ sym g

-- two tokens, each faulty after tokens that are right, are at one place
one_token : (shape : Shape) (tokens : List Mark) (place other : Place) (code number : ℕ) → IsTokenFault shape tokens place code → IsTokenFault shape tokens other number → (place ≡ other) × (code ≡ number)
one_token shape tokens place other code number f g = at_split (split f.before (f.item ∷ f.after) g.before g.item g.after (sym f.split ∙ g.split)) where
  heads : (x y : Mark) (some more : List Mark) → x ∷ some ≡ y ∷ more → x ≡ y
  heads x y some more e = cc

  at_rest : (rest : List Mark) → g.before ≡ f.before ++ rest → f.item ∷ f.after ≡ rest ++ g.item ∷ g.after → (place ≡ other) × (code ≡ number)
  at_rest [] front back =
      let same : f.item ≡ g.item = heads f.item g.item f.after g.after back in
      let there : IsFaulty shape f.before g.item.token code = subst (λ (m : Mark). IsFaulty shape f.before m.token code) same f.has.1 in
      let here : IsFaulty shape f.before g.item.token number = subst (λ (ms : List Mark). IsFaulty shape ms g.item.token number) (front ∙ append-nil f.before) g.has.1 in
      (f.has.2 ∙ ap (λ (m : Mark). m.at) same ∙ sym g.has.2, one_code shape f.before g.item.token code number there here)
  at_rest (x ∷ rest) front back =
      let same : f.item ≡ x = heads f.item x f.after (rest ++ g.item ∷ g.after) back in
      absurd (g.has.0 f.before f.item rest code (front ∙ ap (λ (m : Mark). f.before ++ m ∷ rest) (sym same)) f.has.1)

  at_split : ((rest : List Mark) × (f.before ≡ g.before ++ g.item ∷ rest)) ⊎ ((rest : List Mark) × (g.before ≡ f.before ++ rest) × (f.item ∷ f.after ≡ rest ++ g.item ∷ g.after)) →
      (place ≡ other) × (code ≡ number)
  at_split (inl h) = absurd (f.has.0 g.before g.item h.0 number h.1 g.has.1)
  at_split (inr h) = at_rest h.0 h.1 h.2

-- without a token nothing is open
none_open : (shape : Shape) (tokens : List Mark) → closed tokens < opened tokens → ¬ LacksTree shape tokens
none_open OneTree [] h e = absurd (omega (arith, h))
none_open OneTree (mark ∷ tokens) h e = absurd cc
none_open Forest tokens h lacks = lacks

-- an end is faulty in one way
end_code : (shape : Shape) (tokens : List Mark) (code number : ℕ) → ((closed tokens < opened tokens) × (code ≡ UNCLOSED)) ⊎ (LacksTree shape tokens × (code ≡ NO_TREE)) →
    ((closed tokens < opened tokens) × (number ≡ UNCLOSED)) ⊎ (LacksTree shape tokens × (number ≡ NO_TREE)) → code ≡ number
end_code shape tokens code number (inl f) (inl g) = f.1 ∙ sym g.1
end_code shape tokens code number (inl f) (inr g) = absurd (none_open shape tokens f.0 g.0)
end_code shape tokens code number (inr f) (inl g) = absurd (none_open shape tokens g.0 f.0)
end_code shape tokens code number (inr f) (inr g) = f.1 ∙ sym g.1

-- a text with a fault at its end has no faulty token
apart : (shape : Shape) (tokens : List Mark) (end place other : Place) (code number : ℕ) → IsTokenFault shape tokens place code → ¬ IsEndFault shape tokens end other number
apart shape tokens end place other code number f g = g.right f.before f.item f.after code f.split f.has.1

-- a text that is not too long has one fault
one_within : (shape : Shape) (tokens : List Mark) (end place other : Place) (code number : ℕ) → IsTokenFault shape tokens place code ⊎ IsEndFault shape tokens end place code →
    IsTokenFault shape tokens other number ⊎ IsEndFault shape tokens end other number → (place ≡ other) × (code ≡ number)
one_within shape tokens end place other code number (inl f) (inl g) = one_token shape tokens place other code number f g
one_within shape tokens end place other code number (inl f) (inr g) = absurd (apart shape tokens end place other code number f g)
one_within shape tokens end place other code number (inr f) (inl g) = absurd (apart shape tokens end other place number code g f)
one_within shape tokens end place other code number (inr f) (inr g) = (f.place_is ∙ sym g.place_is, end_code shape tokens code number f.unfinished g.unfinished)

pub one_fault_lem : EachTextHasOneFault
one_fault_lem shape text place other code number fault also = both fault also where
  both : IsTextFault shape text place code → IsTextFault shape text other number → (place ≡ other) × (code ≡ number)
  both (inl f) (inl g) = (f.1 ∙ sym g.1, f.2 ∙ sym g.2)
  both (inl f) (inr g) = absurd (omega (arith, f.0, g.0))
  both (inr f) (inl g) = absurd (omega (arith, f.0, g.0))
  both (inr f) (inr g) = one_within shape (marks text) (place_after text) place other code number f.1 g.1
