-- The nodes among the trees of a side list, and the first of their faults.
use Rattle.std.proofs.Common.{◌≡◌, ◌⊎◌, inl, inr, ℕ, zero, suc, ◌<◌, Bool, true, false, List, [], ◌∷◌, cond, length, get_or, Option, IfSome, IfNone, refl, sym, ap, subst, ◌∙◌, arith, Contains}
use Rattle.fond_text.specs.Faults.{IsClean, IsLeast, IsLeastIn, Refuses}
use Rattle.fond_text.specs.Firsts.{IsEarlier}
use Rattle.fond_text.specs.declared.fault.FrontError.{FrontError}
use Rattle.fond_text.specs.declared.fault.FrontError.TheVariants.{Refused, NoMemory}
use Rattle.fond_text.specs.declared.first.Found.{Found}
use Rattle.fond_text.specs.declared.place.FileKind.TheVariants.{Side as SideKind}
use Rattle.fond_text.specs.declared.place.Place.{Place}
use Rattle.fond_text.proofs.Earliest.{IsFirstSoFar, first_if_least, first_with}
use Rattle.fond_tree.specs.declared.tree.Tree.{Tree}
use Rattle.fond_tree.specs.Spelling.{IsReadAsForest}
use Rattle.fond_tree.specs.Trees.{is_node}
use Rattle.fond_tree.specs.declared.role.Role.TheVariants.{Atom}
use Rattle.fond_tree.specs.FormFaults.{Stands, Fits}
use Rattle.fond_reader.specs.Sides.{nodes_of, IsSideFault, StandsInSide}

contains_here : (tree : Tree) (trees : List Tree) → Contains (tree ∷ trees) tree
contains_here tree trees = (0, omega arith, refl)

contains_after : (tree other : Tree) (trees : List Tree) → Contains trees other → Contains (tree ∷ trees) other
contains_after tree other trees (k, within, same) = (suc k, omega arith, same)

contains_cases : (tree other : Tree) (trees : List Tree) → Contains (tree ∷ trees) other → (tree ≡ other) ⊎ Contains trees other
contains_cases tree other trees (zero, within, same) = inl same
contains_cases tree other trees (suc k, within, same) = inr (k, omega arith, same)

contains_none : (tree : Tree) → ¬ Contains {X = Tree} [] tree
contains_none tree (k, within, same) = omega arith

module _ (tree : Tree) (trees : List Tree) where
  with_node : is_node tree ≡ true → nodes_of (tree ∷ trees) ≡ tree ∷ nodes_of trees
  with_node is = ap (λ b. cond b (tree ∷ nodes_of trees) (nodes_of trees)) is

  with_leaf : is_node tree ≡ false → nodes_of (tree ∷ trees) ≡ nodes_of trees
  with_leaf is = ap (λ b. cond b (tree ∷ nodes_of trees) (nodes_of trees)) is

  -- a node is one of the nodes if it is one of the trees
  more_nodes : (other : Tree) → Contains (nodes_of trees) other → Contains (nodes_of (tree ∷ trees)) other
  more_nodes other among = from (is_node tree) refl where
    from : (b : Bool) → is_node tree ≡ b → Contains (nodes_of (tree ∷ trees)) other
    from true is = subst (λ (ts : List Tree). Contains ts other) (sym (with_node is)) (contains_after tree other (nodes_of trees) among)
    from false is = subst (λ (ts : List Tree). Contains ts other) (sym (with_leaf is)) among

  first_node : is_node tree ≡ true → Contains (nodes_of (tree ∷ trees)) tree
  first_node is = subst (λ (ts : List Tree). Contains ts tree) (sym (with_node is)) (contains_here tree (nodes_of trees))

  -- a fault of a list that begins with a node occurs in that node or in a later one
  node_or_later : is_node tree ≡ true → (place : Place) (code : ℕ) → StandsInSide (tree ∷ trees) place code → Stands Atom tree place code ⊎ StandsInSide trees place code
  node_or_later is place code (other, among, stands) = from (contains_cases tree other (nodes_of trees) (subst (λ (ts : List Tree). Contains ts other) (with_node is) among)) where
    from : (tree ≡ other) ⊎ Contains (nodes_of trees) other → Stands Atom tree place code ⊎ StandsInSide trees place code
    from (inl same) = inl (subst (λ (t : Tree). Stands Atom t place code) (sym same) stands)
    from (inr later) = inr (other, later, stands)

  either_stands : is_node tree ≡ true → (place : Place) (code : ℕ) → Stands Atom tree place code ⊎ StandsInSide trees place code → StandsInSide (tree ∷ trees) place code
  either_stands is place code (inl stands) = (tree, first_node is, stands)
  either_stands is place code (inr (other, among, stands)) = (other, more_nodes other among, stands)

node_in : (trees : List Tree) (tree : Tree) → Contains trees tree → is_node tree ≡ true → Contains (nodes_of trees) tree
node_in [] tree among is = absurd (contains_none tree among)
node_in (first ∷ trees) tree among is = from (contains_cases first tree trees among) (λ later. node_in trees tree later is) where
  from : (first ≡ tree) ⊎ Contains trees tree → (Contains trees tree → Contains (nodes_of trees) tree) → Contains (nodes_of (first ∷ trees)) tree
  from (inl same) rest = subst (λ (t : Tree). Contains (nodes_of (first ∷ trees)) t) same (first_node first trees (ap is_node same ∙ is))
  from (inr later) rest = more_nodes first trees tree (rest later)

-- a node of a side list without a fault fits
pub node_fits : (trees : List Tree) (i : ℕ) (tree : Tree) → i < length trees → tree ≡ get_or trees i tree → is_node tree ≡ true → IsClean (StandsInSide trees) → Fits Atom tree
node_fits trees i tree below at is clean = λ place code stands. clean place code (tree, node_in trees tree (i, below, sym at) is, stands)

module _ (trees : List Tree) where
  module _ (left rest : List Tree) (tree : Tree) (split : left ≡ tree ∷ rest) where
    -- the first fault of the next tree was found too, if that is a node
    pub node_seen : is_node tree ≡ true → (before other first : Option Found) → IsFirstSoFar (StandsInSide trees) (StandsInSide left) before →
        IfSome other (λ found. IsLeast (Stands Atom tree) found.place found.code) → IfNone other (IsClean (Stands Atom tree)) → IsEarlier before other first →
        IsFirstSoFar (StandsInSide trees) (StandsInSide rest) first
    node_seen is before other first so_far some none earlier =
        first_with (StandsInSide trees) (Stands Atom tree) (StandsInSide rest) before other first either (first_if_least (Stands Atom tree) other some none) earlier
      where
        whole : IsFirstSoFar (StandsInSide trees) (StandsInSide (tree ∷ rest)) before
        whole = subst (λ (ts : List Tree). IsFirstSoFar (StandsInSide trees) (StandsInSide ts) before) split so_far

        either : IsFirstSoFar (StandsInSide trees) (λ place code. Stands Atom tree place code ⊎ StandsInSide rest place code) before
        either = record {
          one = whole.one;
          covers = λ place code stands. elim (whole.covers place code stands) [ inl found ↦ inl found | inr later ↦ inr (node_or_later tree rest is place code later) ];
          within = λ place code later. whole.within place code (either_stands tree rest is place code later);
        }

    -- a leaf has no fault
    pub leaf_seen : is_node tree ≡ false → (before first : Option Found) → first ≡ before → IsFirstSoFar (StandsInSide trees) (StandsInSide left) before → IsFirstSoFar (StandsInSide trees) (StandsInSide rest) first
    leaf_seen is before first same so_far =
        let whole = subst (λ (ts : List Tree). IsFirstSoFar (StandsInSide trees) (StandsInSide ts) before) split so_far in
        subst (IsFirstSoFar (StandsInSide trees) (StandsInSide rest)) (sym same) (record {
          one = whole.one;
          covers = λ place code stands. elim (whole.covers place code stands) [ inl found ↦ inl found | inr (other, among, stands) ↦ inr (other, subst (λ (ts : List Tree). Contains ts other) (with_leaf tree rest is) among, stands) ];
          within = λ place code (other, among, stands). whole.within place code (other, subst (λ (ts : List Tree). Contains ts other) (sym (with_leaf tree rest is)) among, stands);
        })

-- the first fault of the trees that a text spells is the first one of the text
pub form_fault : (text : List ℕ) (trees : List Tree) → IsReadAsForest text trees → (error : FrontError) → Refuses (IsLeastIn SideKind (StandsInSide trees)) error → Refuses (IsSideFault text) error
form_fault text trees read (Refused fault) least = inr (trees, read, least)
form_fault text trees read NoMemory least = tt
