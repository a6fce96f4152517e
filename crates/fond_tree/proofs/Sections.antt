-- Sections that fit, by their heads.
use Rattle.std.proofs.Common.{◌≡◌, ◌||◌, Bool, true, false, ℕ, List, [], ◌∷◌, Some, None, codes, refl, sym, ap, ◌∙◌, inl, inr, if◌then◌else◌}
use Rattle.std.specs.Str.{bytes_eq}
use Rattle.fond_tree.specs.declared.tree.Tree.{Tree}
use Rattle.fond_tree.specs.Trees.{members_of, head_of, front}
use Rattle.fond_tree.specs.declared.role.Role.{Role}
use Rattle.fond_tree.specs.declared.role.Role.TheVariants as role
use Rattle.fond_tree.specs.declared.role.Rest.TheVariants.{NoMore, Each, Typed, Pairs, Unread}
use Rattle.fond_tree.specs.Words.{is_one_of, is_word, has_head}
use Rattle.fond_tree.specs.Roles.{Shape, shape, Expected, Members, Refused, node_expected, leaf_code, section, domain_section, problem_section, passed_over}
use Rattle.fond_tree.specs.FormFaults.{Fits}
use Rattle.fond_tree.proofs.Fitting.{IsShaped, leaf_or_node, node_there, shaped, not_refused}
use Rattle.fond_tree.proofs.Heads.{HasHead, has_word}
use Rattle.fond_tree.proofs.FittingLeaves.{name_fits}

-- a section with its head and the members after it
pub record IsHeaded (tree : Tree) : Type 0 where
  pub word : List ℕ
  pub after : List Tree
  pub has : HasHead tree word after

pub head_is : (tree : Tree) (word : List ℕ) (after : List Tree) → HasHead tree word after → head_of tree ≡ Some word
head_is tree word after has = rw has.whole has.leaf

module _ (of : Role) (by_head : List ℕ → Expected) (expects : (members : List Tree) → node_expected of members ≡ Some (section by_head (front members))) (no_leaf : (leaf : List ℕ) → leaf_code of leaf ≡ Some 7)
    (tree : Tree) (fits : Fits of tree) where
  pub section_headed : IsHeaded tree
  section_headed = let node = node_there of tree fits no_leaf in from node.0 node.1 where
    from : (members : List Tree) → members_of tree ≡ Some members → IsHeaded tree
    from [] is = let s = shaped of tree fits [] (shape (role.Name ∷ []) Unread) is (expects []) in let counted = s.counted in absurd (cc)
    from (head ∷ after) is = elim (leaf_or_node head) [
      | inl leaf ↦ record { word = leaf.0; after = after; has = record { head = head; whole = is; leaf = leaf.1 } }
      | inr node ↦
          let s = shaped of tree fits (head ∷ after) (shape (role.Name ∷ []) Unread) is (expects (head ∷ after) ∙ ap (λ leaf. Some (section by_head leaf)) node.2) in
          let named = name_fits head s.inner.0 in
          let same : Some named.leaf ≡ None = sym named.is ∙ node.2 in
          absurd (cc)
    ]

  module _ (word : List ℕ) (after : List Tree) (has : HasHead tree word after) where
    asked : node_expected of (has.head ∷ after) ≡ Some (by_head word)
    asked = expects (has.head ∷ after) ∙ ap (λ leaf. Some (section by_head leaf)) has.leaf

    pub section_shaped : (wanted : Shape) → by_head word ≡ Members wanted → IsShaped wanted (has.head ∷ after)
    section_shaped wanted is = shaped of tree fits (has.head ∷ after) wanted has.whole (asked ∙ ap (λ e. Some e) is)

    pub section_unrefused : (code : ℕ) → ¬ by_head word ≡ Refused code
    section_unrefused code is = not_refused of tree fits (has.head ∷ after) code has.whole (asked ∙ ap (λ e. Some e) is)

  -- a section that has this head is of the shape that the head asks for
  pub section_of_word : (word : List ℕ) (wanted : Shape) → by_head word ≡ Members wanted → has_head word tree ≡ true → (after : List Tree) × (has : HasHead tree word after) × IsShaped wanted (has.head ∷ after)
  section_of_word word wanted is headed =
      let here = section_headed in
      let same : bytes_eq here.word word ≡ true = sym (ap (is_word word) (head_is tree here.word here.after here.has)) ∙ headed in
      let has = has_word tree here.word word here.after here.has same in
      (here.after, has, section_shaped word here.after has wanted is)

domain_known : (requirements types constants predicates action : Bool) →
    (¬ (
    if requirements then Members (shape (role.Head ∷ []) Unread)
    else if types then Members (shape (role.Head ∷ []) (Typed role.Name role.Name))
    else if constants then Members (shape (role.Head ∷ []) (Typed role.Name role.Name))
    else if predicates then Members (shape (role.Head ∷ []) (Each role.Predicate))
    else if action then Members (shape (role.Head ∷ role.Name ∷ []) Pairs)
    else Refused 8
    ) ≡ Refused 8) →
    (requirements || (types || (constants || (predicates || (action || false))))) ≡ true
domain_known true types constants predicates action not = refl
domain_known false true constants predicates action not = refl
domain_known false false true predicates action not = refl
domain_known false false false true action not = refl
domain_known false false false false true not = refl
domain_known false false false false false not = absurd (not refl)

-- a section of a domain has a known head
pub known_in_domain : (tree : Tree) → Fits role.DomainSection tree → (word : List ℕ) × (head_of tree ≡ Some word)
    × (is_one_of (codes ":requirements" ∷ codes ":types" ∷ codes ":constants" ∷ codes ":predicates" ∷ codes ":action" ∷ []) word ≡ true)
known_in_domain tree fits =
    let here = section_headed role.DomainSection domain_section (λ _. refl) (λ _. refl) tree fits in (
      here.word,
      head_is tree here.word here.after here.has,
      domain_known (bytes_eq here.word (codes ":requirements")) (bytes_eq here.word (codes ":types")) (bytes_eq here.word (codes ":constants")) (bytes_eq here.word (codes ":predicates"))
          (bytes_eq here.word (codes ":action")) (section_unrefused role.DomainSection domain_section (λ _. refl) (λ _. refl) tree fits here.word here.after here.has 8),
    )

problem_known : (requirements domain objects init goal passed : Bool) →
    (¬ (
    if requirements then Members (shape (role.Head ∷ []) Unread)
    else if domain then Members (shape (role.Head ∷ role.Name ∷ []) NoMore)
    else if objects then Members (shape (role.Head ∷ []) (Typed role.Name role.Name))
    else if init then Members (shape (role.Head ∷ []) (Each role.Initial))
    else if goal then Members (shape (role.Head ∷ role.Condition ∷ []) NoMore)
    else if passed then Members (shape (role.Head ∷ []) Unread)
    else Refused 8
    ) ≡ Refused 8) →
    (requirements || (domain || (objects || (init || (goal || passed))))) ≡ true
problem_known true domain objects init goal passed not = refl
problem_known false true objects init goal passed not = refl
problem_known false false true init goal passed not = refl
problem_known false false false true goal passed not = refl
problem_known false false false false true passed not = refl
problem_known false false false false false true not = refl
problem_known false false false false false false not = absurd (not refl)

-- a section of a problem has a known head
pub known_in_problem : (tree : Tree) → Fits role.ProblemSection tree → (word : List ℕ) × (head_of tree ≡ Some word)
    × (is_one_of (codes ":requirements" ∷ codes ":domain" ∷ codes ":objects" ∷ codes ":init" ∷ codes ":goal" ∷ passed_over) word ≡ true)
known_in_problem tree fits =
    let here = section_headed role.ProblemSection problem_section (λ _. refl) (λ _. refl) tree fits in (
      here.word,
      head_is tree here.word here.after here.has,
      problem_known (bytes_eq here.word (codes ":requirements")) (bytes_eq here.word (codes ":domain")) (bytes_eq here.word (codes ":objects")) (bytes_eq here.word (codes ":init"))
          (bytes_eq here.word (codes ":goal")) (is_one_of passed_over here.word) (section_unrefused role.ProblemSection problem_section (λ _. refl) (λ _. refl) tree fits here.word here.after here.has 8),
    )
