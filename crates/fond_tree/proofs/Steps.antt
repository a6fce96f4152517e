-- Looking for faults in the parts of a node, one by one.
use Rattle.std.proofs.Common.{◌≡◌, ℕ, List, [], ◌∷◌, ◌++◌, Option, Some, None, IfSome, IfNone, Vec, Global, sym, subst, refl, ap, ◌∙◌}
use Rattle.fond_text.specs.declared.place.Place.{Place}
use Rattle.fond_tree.specs.declared.tree.Tree.{Tree}
use Rattle.fond_tree.specs.declared.tree.Tree.TheVariants as made
use Rattle.fond_text.specs.declared.first.Found.{Found}
use Rattle.fond_tree.specs.declared.role.Role.{Role}
use Rattle.fond_tree.specs.Trees.{members_step, members_of}
use Rattle.fond_tree.specs.Roles.{node_expected}
use Rattle.fond_tree.specs.Parts.{Part, part, parts, expected_parts}
use Rattle.fond_tree.specs.Walks.{part_if, rest_left, roles_left, parts_left}
use Rattle.fond_tree.specs.declared.walk.Walk.{Walk}
use Rattle.fond_tree.specs.declared.walk.Pending.{Pending}
use Rattle.fond_tree.specs.declared.walk.Pending.TheVariants.{Unread, Each, Typed, TypeNext, Key, Value}
use Rattle.fond_tree.specs.FormFaults.{Stands, IsOwnFault}
use Rattle.fond_text.specs.Faults.{IsLeast, IsClean}
use Rattle.fond_text.specs.Firsts.{IsFirst, IsEarlier}
use Rattle.fond_tree.proofs.Among.{Among, stands_down, stands_up}
use Rattle.fond_text.proofs.Earliest.{IsFirstSoFar, first_if_least, first_so_far, first_with, all_found}

-- the members of a node, of which a leaf has none
pub node_members : (tree : Tree) (place : Place) (members : Vec Tree Global) → tree ≡ made.Node place members → members_of tree ≡ Some members.items
node_members tree place members is = ap members_of is ∙ ap members_step (made.outs-Node place members)

pub leaf_members : (tree : Tree) (place : Place) (name : List ℕ) → tree ≡ made.Leaf place name → members_of tree ≡ None
leaf_members tree place name is = ap members_of is ∙ ap members_step (made.outs-Leaf place name)

parts_of_node : (role : Role) (tree : Tree) (members : List Tree) → members_of tree ≡ Some members → parts (part role tree) ≡ expected_parts (node_expected role members) members
parts_of_node role tree members are = rw are refl

parts_of_leaf : (role : Role) (tree : Tree) → members_of tree ≡ None → parts (part role tree) ≡ []
parts_of_leaf role tree leaf = rw leaf refl

module _ (role : Role) (tree : Tree) where
  own_so_far : (first : Option Found) → IsFirst (IsOwnFault (part role tree)) first → IsFirstSoFar (Stands role tree) (Among (parts (part role tree))) first
  own_so_far first own =
      first_so_far (IsOwnFault (part role tree)) (Among (parts (part role tree))) (Stands role tree) (stands_down role tree) (stands_up role tree) first own

  -- at first all parts of a node are left
  pub all_left : (members : List Tree) → members_of tree ≡ Some members → (left : List Part) → left ≡ expected_parts (node_expected role members) members →
      (first : Option Found) → IsFirst (IsOwnFault (part role tree)) first → IsFirstSoFar (Stands role tree) (Among left) first
  all_left members are left same first own =
      subst (λ (ps : List Part). IsFirstSoFar (Stands role tree) (Among ps) first) (parts_of_node role tree members are ∙ sym same) (own_so_far first own)

  -- if no part is left, the first fault was found
  pub none_left : (left : List Part) → left ≡ [] → (first : Option Found) → IsFirstSoFar (Stands role tree) (Among left) first → IsFirst (Stands role tree) first
  none_left left empty first h =
      all_found (Stands role tree) (Among left) first h (λ place code a. subst (λ (ps : List Part). Among ps place code) empty a)

  -- a leaf has no parts
  pub leaf_first : members_of tree ≡ None → (first : Option Found) → IsFirst (IsOwnFault (part role tree)) first → IsFirst (Stands role tree) first
  leaf_first leaf first own = none_left (parts (part role tree)) (parts_of_leaf role tree leaf) first (own_so_far first own)

  -- one more part was checked
  pub part_looked_at : (left rest : List Part) (inner : Role) (member : Tree) → left ≡ part_if (Some inner) member ++ rest → (before other first : Option Found) →
      IsFirstSoFar (Stands role tree) (Among left) before → IfSome other (λ found. IsLeast (Stands inner member) found.place found.code) → IfNone other (IsClean (Stands inner member)) →
      IsEarlier before other first → IsFirstSoFar (Stands role tree) (Among rest) first
  part_looked_at left rest inner member split before other first h some none earlier =
      first_with (Stands role tree) (Stands inner member) (Among rest) before other first
      (subst (λ (ps : List Part). IsFirstSoFar (Stands role tree) (Among ps) before) split h) (first_if_least (Stands inner member) other some none) earlier

  -- a member that is no part was passed over
  pub member_passed_over : (left rest : List Part) (member : Tree) → left ≡ part_if None member ++ rest → (first : Option Found) →
      IsFirstSoFar (Stands role tree) (Among left) first → IsFirstSoFar (Stands role tree) (Among rest) first
  member_passed_over left rest member split first h = subst (λ (ps : List Part). IsFirstSoFar (Stands role tree) (Among ps) first) split h

after_nothing : (left : Pending) → rest_left left [] ≡ []
after_nothing Unread = refl
after_nothing (Each role) = refl
after_nothing (Typed leaf type untyped) = refl
after_nothing (TypeNext leaf type) = refl
after_nothing Key = refl
after_nothing (Value role) = refl

at_end : (roles : List Role) (left : Pending) → roles_left roles left [] ≡ []
at_end [] left = after_nothing left
at_end (role ∷ roles) left = refl

-- if none of the trees is left, no part is
pub nothing_left : (walk : Walk) (trees : List Tree) → trees ≡ [] → parts_left walk trees ≡ []
nothing_left walk trees empty = ap (parts_left walk) empty ∙ at_end walk.first.now walk.left
