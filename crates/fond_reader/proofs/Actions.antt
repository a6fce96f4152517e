-- Actions that fit are read: their names, and the values of their keys.
use Rattle.std.proofs.Common.{◌≡◌, ℕ, suc, ◌-◌, ◌≤◌, ◌<◌, Bool, true, false, List, [], ◌∷◌, filter, length, take, drop, get_or, Some, codes, option_to_list, option_map, refl, sym, ap, subst, ◌∙◌, arith, if◌then◌else◌, Contains}
use Rattle.std.specs.List.{AllByRecursion}
use Rattle.fond_tree.specs.declared.tree.Tree.{Tree}
use Rattle.fond_tree.specs.Trees.{members_of, leaf_of}
use Rattle.fond_tree.specs.declared.role.Role.{Role}
use Rattle.fond_tree.specs.declared.role.Role.TheVariants as role
use Rattle.fond_tree.proofs.Again.{word_is as leaf_is}
use Rattle.fond_tree.specs.Words.{is_word}
use Rattle.fond_tree.specs.Roles.{action_keys}
use Rattle.fond_tree.specs.Parts.{part, value, value_role, pairs, are_pairs}
use Rattle.fond_tree.specs.FormFaults.{Fits, keys}
use Rattle.fond_tree.proofs.Fitting.{AllFit}
use Rattle.fond_tree.proofs.FittingActions.{IsAction, keys_known}
use Rattle.fond_tree.proofs.TypedLists.{all_fit_split}
use Rattle.fond_reader.specs.Files.{values, but_first, content}
use Rattle.fond_reader.specs.Nodes.{FitsOnce, FitsPairs}
use Rattle.fond_reader.proofs.Through.{first_and_rest}

module _ (word : List ℕ) where
  -- the values of a key in pairs that fit
  pub values_fit : (of : Role) → value_role word ≡ Some of → (trees : List Tree) → AllFit (pairs trees) → AllByRecursion (Fits of) (values word trees)
  values_fit of is [] all = tt
  values_fit of is (key ∷ []) all = tt
  values_fit of is (key ∷ tree ∷ trees) all =
      let split = all_fit_split (value (leaf_of key) tree) (pairs trees) all.1 in
      step (is_word word (leaf_of key)) refl split.0 (values_fit of is trees split.1) where
        here : is_word word (leaf_of key) ≡ true → AllFit (value (leaf_of key) tree) → Fits of tree
        here has fit =
            let looked : value (leaf_of key) tree ≡ part of tree ∷ [] = ap (λ leaf. value leaf tree) (leaf_is word (leaf_of key) has) ∙ ap (λ found. option_to_list (option_map (λ r. part r tree) found)) is in
            (subst AllFit looked fit).0

        step : (b : Bool) → is_word word (leaf_of key) ≡ b → AllFit (value (leaf_of key) tree) → AllByRecursion (Fits of) (values word trees) → AllByRecursion (Fits of) (if b then tree ∷ values word trees else values word trees)
        step true has fit rest = (here has fit, rest)
        step false has fit rest = rest

  -- there are as many values of a key as keys that are it
  pub values_counted : (trees : List Tree) → are_pairs trees ≡ true → length (values word trees) ≡ length (filter (λ key. is_word word (leaf_of key)) (keys trees))
  values_counted [] paired = refl
  values_counted (key ∷ []) paired = cc
  values_counted (key ∷ tree ∷ trees) paired = step (is_word word (leaf_of key)) (values_counted trees paired) where
    step : (b : Bool) → length (values word trees) ≡ length (filter (λ k. is_word word (leaf_of k)) (keys trees)) →
        length (if b then tree ∷ values word trees else values word trees) ≡ length (if b then key ∷ filter (λ k. is_word word (leaf_of k)) (keys trees) else filter (λ k. is_word word (leaf_of k)) (keys trees))
    step true rest = ap (λ n. suc n) rest
    step false rest = rest

fits_once : (of : Role) (trees : List Tree) → AllByRecursion (Fits of) trees → length trees ≤ 1 → FitsOnce of trees
fits_once of [] fit few = tt
fits_once of (t ∷ []) fit few = (fit.0, refl)
fits_once of (t ∷ u ∷ us) fit few = absurd (omega arith)

module _ (tree : Tree) (action : IsAction tree) where
  of_key : (word : List ℕ) (of : Role) → Contains action_keys word → value_role word ≡ Some of → FitsOnce of (values word action.rest)
  of_key word of known is =
      let most = action.once word known in
      let same = values_counted word action.rest action.paired in
      fits_once of (values word action.rest) (values_fit word of is action.rest action.pairs_fit) (omega arith)

  pub pairs_fit : FitsPairs action.rest
  pairs_fit = record {
    paired = action.paired;
    known = keys_known action.rest action.pairs_fit;
    parameters = of_key (codes ":parameters") role.Variables (0, omega arith, refl) refl;
    pre = of_key (codes ":precondition") role.Condition (1, omega arith, refl) refl;
    effect = of_key (codes ":effect") role.Effect (2, omega arith, refl) refl;
  }

  content_is : content tree ≡ action.name ∷ action.rest
  content_is = ap but_first action.whole

  module _ (after : List Tree) (same : after ≡ content tree) where
    pub after_some : length after < 1 → ⊥
    after_some few = omega (arith, ap length (same ∙ content_is))

    module _ (name : Tree) (some : 1 ≤ length after) (at : name ≡ get_or after 0 name) where
      both : name ∷ take (length after - 1) (drop 1 after) ≡ action.name ∷ action.rest
      both = sym (first_and_rest after name some at) ∙ same ∙ content_is

      pub name_is : name ≡ action.name
      name_is = let h = both in cc

      pub rest_is : take (length after - 1) (drop 1 after) ≡ action.rest
      rest_is = let h = both in cc

      pub name_fits_here : Fits role.Name name
      name_fits_here = subst (Fits role.Name) (sym name_is) action.name_fits

      pub pairs_fit_here : FitsPairs (take (length after - 1) (drop 1 after))
      pairs_fit_here = subst FitsPairs (sym rest_is) pairs_fit

      pub whole_here : members_of tree ≡ Some (action.head ∷ name ∷ take (length after - 1) (drop 1 after))
      whole_here = action.whole ∙ ap (λ ts. Some (action.head ∷ ts)) (sym both)
