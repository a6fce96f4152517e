-- Declarations that are added to a list, leaf by leaf.
use Rattle.std.proofs.Common.{◌≡◌, ℕ, ◌+◌, ◌<◌, ◌&&◌, Bool, true, false, List, [], ◌∷◌, ◌++◌, map, drop, length, get_or, Option, refl, sym, ap, ◌∙◌, append_assoc, append-nil}
use Rattle.std.specs.List.{AllByRecursion}
use Rattle.fond_text.specs.Lists.{each_passes}
use Rattle.fond_tree.specs.declared.tree.Tree.{Tree}
use Rattle.fond_ast.specs.declared.names.TypedName.{TypedName}
use Rattle.fond_tree.specs.FormFaults.{Fits}
use Rattle.fond_reader.specs.Sorts.{leaf_role, is_read_from, are_read_from, typed_leaf, AddsLeaves, AddsTyped, FitsTyped}
use Rattle.fond_reader.specs.Typed.{typed_leaves}
use Rattle.fond_reader.specs.declared.typed.Sort.{Sort}
use Rattle.fond_reader.proofs.Through.{Through, at_start, next_fits, one_more, at_end, maps_append}

module _ (sort : Sort) (type : Option Tree) where
  -- whether a declaration is read from a leaf with the type
  abbrev pub reads : TypedName → Tree → Bool
  reads name leaf = is_read_from sort name (typed_leaf type leaf)

  -- declarations of the leaves so far were added, and the leaves that are left fit
  pub record Pushes (leaves left : List Tree) (old new : List TypedName) : Type 0 where
    pub added : List TypedName
    pub grown : new ≡ old ++ added
    pub through : Through reads (Fits (leaf_role sort)) leaves left added

  module _ (leaves : List Tree) (old : List TypedName) where
    pub push_start : AllByRecursion (Fits (leaf_role sort)) leaves → Pushes leaves leaves old old
    push_start fit = record { added = []; grown = sym (append-nil old); through = at_start reads (Fits (leaf_role sort)) leaves [] refl fit }

    pub push_next : (i : ℕ) (leaf : Tree) (new : List TypedName) → i < length leaves → leaf ≡ get_or leaves i leaf → Pushes leaves (drop i leaves) old new → Fits (leaf_role sort) leaf
    push_next i leaf new below at pushes = next_fits reads (Fits (leaf_role sort)) leaves i leaf pushes.added below at pushes.through

    pub push_more : (i : ℕ) (leaf : Tree) (new more : List TypedName) (name : TypedName) → i < length leaves → leaf ≡ get_or leaves i leaf → more ≡ new ++ name ∷ [] → Pushes leaves (drop i leaves) old new →
        reads name leaf ≡ true → Pushes leaves (drop (i + 1) leaves) old more
    push_more i leaf new more name below at grown pushes one = record {
      added = pushes.added ++ name ∷ [];
      grown = grown ∙ ap (λ xs. xs ++ name ∷ []) pushes.grown ∙ append_assoc old pushes.added (name ∷ []);
      through = one_more reads (Fits (leaf_role sort)) leaves i leaf pushes.added name (pushes.added ++ name ∷ []) below at refl pushes.through one;
    }

    with_type : (names : List TypedName) (trees : List Tree) → each_passes (map reads names) trees ≡ true → are_read_from sort names (map (typed_leaf type) trees) ≡ true
    with_type [] [] is = refl
    with_type [] (t ∷ ts) is = cc
    with_type (n ∷ ns) [] is = cc
    with_type (n ∷ ns) (t ∷ ts) is = step (reads n t) (each_passes (map reads ns) ts) _ is (with_type ns ts) where
      step : (here rest more : Bool) → (here && rest) ≡ true → (rest ≡ true → more ≡ true) → (here && more) ≡ true
      step true rest more both so = so both
      step false rest more both so = both

    pub push_end : (left : List Tree) (new : List TypedName) → left ≡ [] → Pushes leaves left old new → AddsLeaves sort type leaves old new
    push_end left new none pushes = record {
      added = pushes.added;
      grown = pushes.grown;
      read = with_type pushes.added leaves (at_end reads (Fits (leaf_role sort)) leaves left pushes.added none pushes.through);
    }

-- no declaration was added yet
pub none_added : (sort : Sort) (trees : List Tree) (names : List TypedName) → FitsTyped sort trees → AddsTyped sort trees trees names names
none_added sort trees names fits = record { added = []; grown = sym (append-nil names); front = []; split = refl; read = refl; fits = fits }

-- declarations of one more group were added
pub more_added : (sort : Sort) (trees left rest : List Tree) (old names more : List TypedName) → AddsTyped sort trees left old names → AddsTyped sort left rest names more → AddsTyped sort trees rest old more
more_added sort trees left rest old names more before group = record {
  added = before.added ++ group.added;
  grown = group.grown ∙ ap (λ xs. xs ++ group.added) before.grown ∙ append_assoc old before.added group.added;
  front = before.front ++ group.front;
  split = before.split ∙ ap (λ xs. before.front ++ xs) group.split ∙ sym (append_assoc before.front group.front (typed_leaves false rest));
  read = maps_append (is_read_from sort) before.added group.added before.front group.front before.read group.read;
  fits = group.fits;
}

-- the declarations of a whole list were added to none
pub all_added : (sort : Sort) (trees rest : List Tree) (names : List TypedName) → rest ≡ [] → AddsTyped sort trees rest [] names → are_read_from sort names (typed_leaves false trees) ≡ true
all_added sort trees rest names none adds =
    rw (adds.split ∙ ap (λ ts. adds.front ++ typed_leaves false ts) none ∙ append-nil adds.front, adds.grown) adds.read
