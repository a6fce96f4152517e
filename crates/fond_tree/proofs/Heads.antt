-- The members of a fitting condition, effect or initial atom, by its head.
use Rattle.std.proofs.Common.{inl, inr, ◌≡◌, ◌||◌, ◌&&◌, Bool, true, false, ℕ, List, [], ◌∷◌, Some, codes, refl, sym, ap, subst, ◌∙◌, if◌then◌else◌}
use Rattle.std.specs.List.{AllByRecursion, AllZip, list_any}
use Rattle.std.specs.Str.{bytes_eq}
use Rattle.std.proofs.lemmas.Slice.Eq.{bytes_eq-Decides}
use Rattle.fond_tree.specs.declared.tree.Tree.{Tree}
use Rattle.fond_tree.specs.Trees.{members_of, leaf_of, is_node}
use Rattle.fond_tree.specs.declared.role.Role.{Role}
use Rattle.fond_tree.specs.declared.role.Role.TheVariants as role
use Rattle.fond_tree.specs.declared.role.Rest.TheVariants.{NoMore, Each, Typed}
use Rattle.fond_tree.specs.Words.{reserved, is_one_of, is_name}
use Rattle.fond_tree.specs.Roles.{Shape, shape, Expected, Members, Refused, node_expected, form, form_of, none, atom, atom_or_refused, condition, effect, initial, choice}
use Rattle.fond_tree.specs.Parts.{typed}
use Rattle.fond_tree.specs.FormFaults.{Fits}
use Rattle.fond_tree.proofs.FittingLeaves.{name_fits}
use Rattle.fond_tree.proofs.Fitting.{AllFit, leaf_or_node, IsShaped, shaped, not_refused, node_fits, each_fits, zip_fits}

-- a node of this head and these members after it
pub record HasHead (tree : Tree) (word : List ℕ) (after : List Tree) : Type 0 where
  pub head : Tree
  pub whole : members_of tree ≡ Some (head ∷ after)
  pub leaf : leaf_of head ≡ Some word

-- a head that is this word
pub has_word : (tree : Tree) (word other : List ℕ) (after : List Tree) → HasHead tree word after → bytes_eq word other ≡ true → HasHead tree other after
has_word tree word other after has same = subst (λ (w : List ℕ). HasHead tree w after) ((bytes_eq-Decides word other).0 same) has

-- the members of a shape after the head
pub after_each : (of : Role) (head : Tree) (after : List Tree) → IsShaped (shape (role.Head ∷ []) (Each of)) (head ∷ after) → AllByRecursion (Fits of) after
after_each of head after s = each_fits of after s.inner.1

pub after_fixed : (roles : List Role) (head : Tree) (after : List Tree) → IsShaped (shape (role.Head ∷ roles) NoMore) (head ∷ after) → AllZip Fits roles after
after_fixed roles head after s = zip_fits roles after s.counted s.inner.1

module _ (of : Role) (empty : Shape) (by_head : List ℕ → List Tree → Expected) (expects : (members : List Tree) → node_expected of members ≡ Some (form_of empty by_head members))
    (tree : Tree) (word : List ℕ) (after : List Tree) (fits : Fits of tree) (has : HasHead tree word after) where
  pub expected_by_head : node_expected of (has.head ∷ after) ≡ Some (by_head word after)
  expected_by_head = expects (has.head ∷ after) ∙ ap (λ leaf. Some (form by_head leaf after)) has.leaf

  -- the members are of the shape that the head asks for
  pub shaped_by_head : (asked : Shape) → by_head word after ≡ Members asked → IsShaped asked (has.head ∷ after)
  shaped_by_head asked asks = shaped of tree fits (has.head ∷ after) asked has.whole (expected_by_head ∙ ap (λ e. Some e) asks)

  pub unrefused_by_head : (code : ℕ) → ¬ by_head word after ≡ Refused code
  unrefused_by_head code asks = not_refused of tree fits (has.head ∷ after) code has.whole (expected_by_head ∙ ap (λ e. Some e) asks)

  -- a node whose head is no operator is an atom
  pub atom_by_head : by_head word after ≡ atom_or_refused word after → Fits role.Atom tree
  atom_by_head asks = from (is_one_of reserved word || (is_name word && list_any is_node after)) refl where
    from : (refuses : Bool) → (is_one_of reserved word || (is_name word && list_any is_node after)) ≡ refuses → Fits role.Atom tree
    from true is = absurd (unrefused_by_head 11 (asks ∙ ap (λ b. if b then Refused 11 else Members atom) is))
    from false is =
        node_fits role.Atom tree (λ place again. again) (λ place lacks. lacks) (has.head ∷ after) atom has.whole refl
        (shaped_by_head atom (asks ∙ ap (λ b. if b then Refused 11 else Members atom) is))

-- the head of a node that has members is a leaf
pub head_there : (of : Role) (empty : Shape) (by_head : List ℕ → List Tree → Expected) → ((members : List Tree) → node_expected of members ≡ Some (form_of empty by_head members)) →
    (tree head : Tree) (after : List Tree) → Fits of tree → members_of tree ≡ Some (head ∷ after) → (word : List ℕ) × (leaf_of head ≡ Some word)
head_there of empty by_head expects tree head after fits whole = elim (leaf_or_node head) [
  | inl leaf ↦ (leaf.0, leaf.1)
  | inr node ↦
      let s = shaped of tree fits (head ∷ after) atom whole (expects (head ∷ after) ∙ ap (λ leaf. Some (form by_head leaf after)) node.2) in
      let named = name_fits head s.inner.0 in
      (named.leaf, named.is)
]

-- ---- conditions

module _ (tree : Tree) (word : List ℕ) (after : List Tree) (fits : Fits role.Condition tree) (has : HasHead tree word after) where
  condition_shaped : (other : List ℕ) (asked : Shape) → bytes_eq word other ≡ true → condition other after ≡ Members asked → (head : Tree) × IsShaped asked (head ∷ after)
  condition_shaped other asked same asks =
      let known = has_word tree word other after has same in
      (known.head, shaped_by_head role.Condition none condition (λ _. refl) tree other after fits known asked asks)

  pub and_fits : bytes_eq word (codes "and") ≡ true → AllByRecursion (Fits role.Condition) after
  and_fits same = let s = condition_shaped (codes "and") (shape (role.Head ∷ []) (Each role.Condition)) same refl in after_each role.Condition s.0 after s.1

  pub or_fits : bytes_eq word (codes "or") ≡ true → AllByRecursion (Fits role.Condition) after
  or_fits same = let s = condition_shaped (codes "or") (shape (role.Head ∷ []) (Each role.Condition)) same refl in after_each role.Condition s.0 after s.1

  pub not_fits : bytes_eq word (codes "not") ≡ true → AllZip Fits (role.Condition ∷ []) after
  not_fits same = let s = condition_shaped (codes "not") (shape (role.Head ∷ role.Condition ∷ []) NoMore) same refl in after_fixed (role.Condition ∷ []) s.0 after s.1

  pub imply_fits : bytes_eq word (codes "imply") ≡ true → AllZip Fits (role.Condition ∷ role.Condition ∷ []) after
  imply_fits same =
      let s = condition_shaped (codes "imply") (shape (role.Head ∷ role.Condition ∷ role.Condition ∷ []) NoMore) same refl in
      after_fixed (role.Condition ∷ role.Condition ∷ []) s.0 after s.1

  pub forall_fits : bytes_eq word (codes "forall") ≡ true → AllZip Fits (role.Variables ∷ role.Condition ∷ []) after
  forall_fits same =
      let s = condition_shaped (codes "forall") (shape (role.Head ∷ role.Variables ∷ role.Condition ∷ []) NoMore) same refl in
      after_fixed (role.Variables ∷ role.Condition ∷ []) s.0 after s.1

  pub exists_fits : bytes_eq word (codes "exists") ≡ true → AllZip Fits (role.Variables ∷ role.Condition ∷ []) after
  exists_fits same =
      let s = condition_shaped (codes "exists") (shape (role.Head ∷ role.Variables ∷ role.Condition ∷ []) NoMore) same refl in
      after_fixed (role.Variables ∷ role.Condition ∷ []) s.0 after s.1

  pub equal_fits : bytes_eq word (codes "=") ≡ true → AllZip Fits (role.Term ∷ role.Term ∷ []) after
  equal_fits same =
      let s = condition_shaped (codes "=") (shape (role.Head ∷ role.Term ∷ role.Term ∷ []) NoMore) same refl in
      after_fixed (role.Term ∷ role.Term ∷ []) s.0 after s.1

condition_otherwise : (word : List ℕ) (after : List Tree) (conjunction disjunction negation implication universal existential equality : Bool) → conjunction ≡ false → disjunction ≡ false → negation ≡ false →
    implication ≡ false → universal ≡ false → existential ≡ false → equality ≡ false → (
    if (conjunction || (disjunction || false)) then Members (shape (role.Head ∷ []) (Each role.Condition))
    else if negation then Members (shape (role.Head ∷ role.Condition ∷ []) NoMore)
    else if implication then Members (shape (role.Head ∷ role.Condition ∷ role.Condition ∷ []) NoMore)
    else if (universal || (existential || false)) then Members (shape (role.Head ∷ role.Variables ∷ role.Condition ∷ []) NoMore)
    else if equality then Members (shape (role.Head ∷ role.Term ∷ role.Term ∷ []) NoMore)
    else atom_or_refused word after
    ) ≡ atom_or_refused word after
condition_otherwise word after a b c d e f g ea eb ec ed ee ef eg = rw (ea, eb, ec, ed, ee, ef, eg) refl

-- the head of a condition is none of its operators
pub record NoConditionOperator (word : List ℕ) : Type 0 where
  pub conjunction : bytes_eq word (codes "and") ≡ false
  pub disjunction : bytes_eq word (codes "or") ≡ false
  pub negation : bytes_eq word (codes "not") ≡ false
  pub implication : bytes_eq word (codes "imply") ≡ false
  pub universal : bytes_eq word (codes "forall") ≡ false
  pub existential : bytes_eq word (codes "exists") ≡ false
  pub equality : bytes_eq word (codes "=") ≡ false

pub condition_else : (word : List ℕ) (after : List Tree) → NoConditionOperator word → condition word after ≡ atom_or_refused word after
condition_else word after n =
    condition_otherwise word after _ _ _ _ _ _ _ n.conjunction n.disjunction n.negation n.implication n.universal n.existential n.equality

pub condition_atom : (tree : Tree) (word : List ℕ) (after : List Tree) → Fits role.Condition tree → HasHead tree word after → NoConditionOperator word → Fits role.Atom tree
condition_atom tree word after fits has n = atom_by_head role.Condition none condition (λ _. refl) tree word after fits has (condition_else word after n)

pub condition_head : (tree head : Tree) (after : List Tree) → Fits role.Condition tree → members_of tree ≡ Some (head ∷ after) → (word : List ℕ) × (leaf_of head ≡ Some word)
condition_head = head_there role.Condition none condition (λ _. refl)

-- ---- effects

module _ (tree : Tree) (word : List ℕ) (after : List Tree) (fits : Fits role.Effect tree) (has : HasHead tree word after) where
  effect_shaped : (other : List ℕ) (asked : Shape) → bytes_eq word other ≡ true → effect other after ≡ Members asked → (head : Tree) × IsShaped asked (head ∷ after)
  effect_shaped other asked same asks =
      let known = has_word tree word other after has same in
      (known.head, shaped_by_head role.Effect none effect (λ _. refl) tree other after fits known asked asks)

  pub effects_fit : bytes_eq word (codes "and") ≡ true → AllByRecursion (Fits role.Effect) after
  effects_fit same = let s = effect_shaped (codes "and") (shape (role.Head ∷ []) (Each role.Effect)) same refl in after_each role.Effect s.0 after s.1

  pub delete_fits : bytes_eq word (codes "not") ≡ true → AllZip Fits (role.Atom ∷ []) after
  delete_fits same = let s = effect_shaped (codes "not") (shape (role.Head ∷ role.Atom ∷ []) NoMore) same refl in after_fixed (role.Atom ∷ []) s.0 after s.1

  pub forall_effect_fits : bytes_eq word (codes "forall") ≡ true → AllZip Fits (role.Variables ∷ role.Effect ∷ []) after
  forall_effect_fits same =
      let s = effect_shaped (codes "forall") (shape (role.Head ∷ role.Variables ∷ role.Effect ∷ []) NoMore) same refl in
      after_fixed (role.Variables ∷ role.Effect ∷ []) s.0 after s.1

  pub when_fits : bytes_eq word (codes "when") ≡ true → AllZip Fits (role.Condition ∷ role.Effect ∷ []) after
  when_fits same =
      let s = effect_shaped (codes "when") (shape (role.Head ∷ role.Condition ∷ role.Effect ∷ []) NoMore) same refl in
      after_fixed (role.Condition ∷ role.Effect ∷ []) s.0 after s.1

  -- a choice has a member
  pub choice_fits : bytes_eq word (codes "oneof") ≡ true → AllByRecursion (Fits role.Effect) after × ¬ after ≡ []
  choice_fits same = from after refl where
    known : HasHead tree (codes "oneof") after
    known = has_word tree word (codes "oneof") after has same

    from : (trees : List Tree) → after ≡ trees → AllByRecursion (Fits role.Effect) after × ¬ after ≡ []
    from [] is = absurd (unrefused_by_head role.Effect none effect (λ _. refl) tree (codes "oneof") after fits known 12 (ap choice is))
    from (t ∷ ts) is =
        let s = shaped_by_head role.Effect none effect (λ _. refl) tree (codes "oneof") after fits known (shape (role.Head ∷ []) (Each role.Effect)) (ap choice is) in
        (after_each role.Effect known.head after s, λ nothing. let same : t ∷ ts ≡ [] = sym is ∙ nothing in cc)

effect_otherwise : (word : List ℕ) (after : List Tree) (conjunction negation universal conditional chosen : Bool) → conjunction ≡ false → negation ≡ false → universal ≡ false → conditional ≡ false → chosen ≡ false → (
    if conjunction then Members (shape (role.Head ∷ []) (Each role.Effect))
    else if negation then Members (shape (role.Head ∷ role.Atom ∷ []) NoMore)
    else if universal then Members (shape (role.Head ∷ role.Variables ∷ role.Effect ∷ []) NoMore)
    else if conditional then Members (shape (role.Head ∷ role.Condition ∷ role.Effect ∷ []) NoMore)
    else if chosen then choice after
    else atom_or_refused word after
    ) ≡ atom_or_refused word after
effect_otherwise word after a b c d e ea eb ec ed ee = rw (ea, eb, ec, ed, ee) refl

-- the head of an effect is none of its operators
pub record NoEffectOperator (word : List ℕ) : Type 0 where
  pub conjunction : bytes_eq word (codes "and") ≡ false
  pub negation : bytes_eq word (codes "not") ≡ false
  pub universal : bytes_eq word (codes "forall") ≡ false
  pub conditional : bytes_eq word (codes "when") ≡ false
  pub chosen : bytes_eq word (codes "oneof") ≡ false

pub effect_else : (word : List ℕ) (after : List Tree) → NoEffectOperator word → effect word after ≡ atom_or_refused word after
effect_else word after n = effect_otherwise word after _ _ _ _ _ n.conjunction n.negation n.universal n.conditional n.chosen

pub effect_atom : (tree : Tree) (word : List ℕ) (after : List Tree) → Fits role.Effect tree → HasHead tree word after → NoEffectOperator word → Fits role.Atom tree
effect_atom tree word after fits has n = atom_by_head role.Effect none effect (λ _. refl) tree word after fits has (effect_else word after n)

pub effect_head : (tree head : Tree) (after : List Tree) → Fits role.Effect tree → members_of tree ≡ Some (head ∷ after) → (word : List ℕ) × (leaf_of head ≡ Some word)
effect_head = head_there role.Effect none effect (λ _. refl)

-- ---- initial atoms

pub initial_head : (tree head : Tree) (after : List Tree) → Fits role.Initial tree → members_of tree ≡ Some (head ∷ after) → (word : List ℕ) × (leaf_of head ≡ Some word)
initial_head = head_there role.Initial atom initial (λ _. refl)

pub initial_else : (word : List ℕ) (after : List Tree) → bytes_eq word (codes "not") ≡ false → initial word after ≡ atom_or_refused word after
initial_else word after n = from (bytes_eq word (codes "not")) n where
  from : (negation : Bool) → negation ≡ false → (if negation then Members (shape (role.Head ∷ role.Atom ∷ []) NoMore) else atom_or_refused word after) ≡ atom_or_refused word after
  from negation is = rw is refl

module _ (tree : Tree) (word : List ℕ) (after : List Tree) (fits : Fits role.Initial tree) (has : HasHead tree word after) where
  pub negated_fits : bytes_eq word (codes "not") ≡ true → AllZip Fits (role.Atom ∷ []) after
  negated_fits same =
      let known = has_word tree word (codes "not") after has same in
      let s = shaped_by_head role.Initial atom initial (λ _. refl) tree (codes "not") after fits known (shape (role.Head ∷ role.Atom ∷ []) NoMore) refl in
      after_fixed (role.Atom ∷ []) known.head after s

  pub initial_atom : bytes_eq word (codes "not") ≡ false → Fits role.Atom tree
  initial_atom other = atom_by_head role.Initial atom initial (λ _. refl) tree word after fits has (initial_else word after other)

-- the members of an atom are a name and terms
pub atom_fits : (tree head : Tree) (after : List Tree) → Fits role.Atom tree → members_of tree ≡ Some (head ∷ after) → Fits role.Name head × AllByRecursion (Fits role.Term) after
atom_fits tree head after fits whole =
    let s = shaped role.Atom tree fits (head ∷ after) atom whole refl in
    (s.inner.0, each_fits role.Term after s.inner.1)

-- the members of a predicate are a name and a typed list of variables
pub predicate_fits : (tree head : Tree) (after : List Tree) → Fits role.Predicate tree → members_of tree ≡ Some (head ∷ after) → Fits role.Name head × AllFit (typed role.Variable role.VariableType false after)
predicate_fits tree head after fits whole =
    let s = shaped role.Predicate tree fits (head ∷ after) (shape (role.Name ∷ []) (Typed role.Variable role.VariableType)) whole refl in
    (s.inner.0, s.inner.1)
