-- The groups of a typed list: leaves without a type, and the type that follows them.
use Rattle.std.proofs.Common.{◌≡◌, ℕ, suc, ◌+◌, ◌&&◌, Bool, true, false, not, List, [], ◌∷◌, ◌++◌, map, take, drop, Option, Some, None, refl, sym, ap, subst, ◌∙◌, arith, append-nil, if◌then◌else◌, cond}
use Rattle.std.proofs.Math.Bool.{and-false}
use Rattle.std.specs.List.{AllByRecursion, prefix_len}
use Rattle.fond_tree.specs.declared.tree.Tree.{Tree}
use Rattle.fond_ast.specs.declared.names.TypedName.{TypedName}
use Rattle.fond_tree.specs.Parts.{part, is_dash, typed}
use Rattle.fond_tree.specs.FormFaults.{Fits}
use Rattle.fond_tree.specs.Words.{is_name, is_variable}
use Rattle.fond_tree.proofs.Fitting.{AllFit, each_fits}
use Rattle.fond_tree.proofs.FittingLeaves.{IsLeafOf, name_fits, variable_fits, no_dash}
use Rattle.fond_tree.proofs.TypedLists.{AreUndashed, all_fit_split, typed_leaves_then, typed_dash, typed_first}
use Rattle.fond_reader.specs.Sorts.{leaf_role, type_role, leaf_test, FitsTyped, typed_leaf, AddsLeaves, AddsTyped}
use Rattle.fond_reader.specs.Typed.{typed_leaves, next_type}
use Rattle.fond_reader.specs.declared.typed.Sort.{Sort}
use Rattle.fond_reader.specs.declared.typed.Sort.TheVariants.{Names, Variables}

-- a leaf of a sort is one of its leaves
pub leaf_there : (sort : Sort) (tree : Tree) → Fits (leaf_role sort) tree → IsLeafOf (leaf_test sort) tree
leaf_there Names tree fits = name_fits tree fits
leaf_there Variables tree fits = variable_fits tree fits

leaf_undashed : (sort : Sort) (tree : Tree) → Fits (leaf_role sort) tree → is_dash tree ≡ false
leaf_undashed Names tree fits = no_dash is_name tree refl (name_fits tree fits)
leaf_undashed Variables tree fits = no_dash is_variable tree refl (variable_fits tree fits)

pub dash_unfit : (sort : Sort) (tree : Tree) → is_dash tree ≡ true → ¬ Fits (leaf_role sort) tree
dash_unfit sort tree dash fits = let same : true ≡ false = sym dash ∙ leaf_undashed sort tree fits in cc

-- trees are leaves before the first `-`, and what follows them
pub record IsGroup (trees leaves after : List Tree) : Type 0 where
  pub split : trees ≡ leaves ++ after
  pub plain : AreUndashed leaves
  pub stops : (dash : Tree) (rest : List Tree) → after ≡ dash ∷ rest → is_dash dash ≡ true

pub group_at : (trees : List Tree) → IsGroup trees (take (prefix_len (λ tree. not (is_dash tree)) trees) trees) (drop (prefix_len (λ tree. not (is_dash tree)) trees) trees)
group_at [] = record { split = refl; plain = tt; stops = λ dash rest is. cc }
group_at (t ∷ ts) = from (group_at ts) (is_dash t) refl where
  plain : Tree → Bool
  plain tree = not (is_dash tree)

  n : ℕ
  n = prefix_len (λ tree. not (is_dash tree)) ts

  later : IsGroup ts (take n ts) (drop n ts) → is_dash t ≡ false → IsGroup (t ∷ ts) (take (suc n) (t ∷ ts)) (drop (suc n) (t ∷ ts))
  later g is = record { split = ap (λ xs. t ∷ xs) g.split; plain = (is, g.plain); stops = g.stops }

  from : IsGroup ts (take n ts) (drop n ts) → (dash : Bool) → is_dash t ≡ dash → IsGroup (t ∷ ts) (take (cond (not dash) (1 + n) 0) (t ∷ ts)) (drop (cond (not dash) (1 + n) 0) (t ∷ ts))
  from g true is = record { split = refl; plain = tt; stops = λ dash rest same. let first : t ≡ dash = cc in ap is_dash (sym first) ∙ is }
  from g false is = let one : suc n ≡ 1 + n = omega arith in subst (λ (k : ℕ). IsGroup (t ∷ ts) (take k (t ∷ ts)) (drop k (t ∷ ts))) one (later g is)

-- ---- the leaves with their types

leaf_first : (untyped : Bool) (tree : Tree) (after : List Tree) → is_dash tree ≡ false → typed_leaves untyped (tree ∷ after) ≡ typed_leaf (next_type after) tree ∷ typed_leaves true after
leaf_first untyped tree [] plain = refl
leaf_first untyped tree (next ∷ trees) plain =
    let other : (untyped && is_dash tree) ≡ false = rw plain (and-false untyped) in
    ap (λ b. if b then typed_leaves false trees else typed_leaf (next_type (next ∷ trees)) tree ∷ typed_leaves (not (is_dash tree)) (next ∷ trees)) other
    ∙ ap (λ b. typed_leaf (next_type (next ∷ trees)) tree ∷ typed_leaves (not b) (next ∷ trees)) plain

type_later : (tree : Tree) (after : List Tree) → is_dash tree ≡ false → next_type (tree ∷ after) ≡ next_type after
type_later tree [] plain = refl
type_later tree (next ∷ trees) plain = ap (λ b. if b then Some next else next_type (next ∷ trees)) plain

module _ (dash kind : Tree) (rest : List Tree) (is : is_dash dash ≡ true) where
  type_after : (leaves : List Tree) → AreUndashed leaves → next_type (leaves ++ (dash ∷ kind ∷ rest)) ≡ Some kind
  type_after [] plain = ap (λ b. if b then Some kind else next_type (kind ∷ rest)) is
  type_after (t ∷ ts) plain = type_later t (ts ++ (dash ∷ kind ∷ rest)) plain.0 ∙ type_after ts plain.1

  leaves_typed : (leaves : List Tree) → AreUndashed leaves → typed_leaves true (leaves ++ (dash ∷ kind ∷ rest)) ≡ map (typed_leaf (Some kind)) leaves ++ typed_leaves false rest
  leaves_typed [] plain = ap (λ b. if true && b then typed_leaves false rest else typed_leaf (next_type (kind ∷ rest)) dash ∷ typed_leaves (not b) (kind ∷ rest)) is
  leaves_typed (t ∷ ts) plain =
      leaf_first true t (ts ++ (dash ∷ kind ∷ rest)) plain.0 ∙ ap (λ type. typed_leaf type t ∷ typed_leaves true (ts ++ (dash ∷ kind ∷ rest))) (type_after ts plain.1)
      ∙ ap (λ leaves. typed_leaf (Some kind) t ∷ leaves) (leaves_typed ts plain.1)

  group_typed : (first : Tree) (leaves : List Tree) → AreUndashed (first ∷ leaves) →
      typed_leaves false (first ∷ (leaves ++ (dash ∷ kind ∷ rest))) ≡ map (typed_leaf (Some kind)) (first ∷ leaves) ++ typed_leaves false rest
  group_typed first leaves plain =
      leaf_first false first (leaves ++ (dash ∷ kind ∷ rest)) plain.0 ∙ ap (λ type. typed_leaf type first ∷ typed_leaves true (leaves ++ (dash ∷ kind ∷ rest))) (type_after leaves plain.1)
      ∙ ap (λ typed. typed_leaf (Some kind) first ∷ typed) (leaves_typed leaves plain.1)

no_type_after : (leaves : List Tree) → AreUndashed leaves → next_type leaves ≡ None
no_type_after [] plain = refl
no_type_after (t ∷ ts) plain = type_later t ts plain.0 ∙ no_type_after ts plain.1

pub leaves_untyped : (untyped : Bool) (leaves : List Tree) → AreUndashed leaves → typed_leaves untyped leaves ≡ map (typed_leaf None) leaves
leaves_untyped untyped [] plain = refl
leaves_untyped untyped (t ∷ ts) plain =
    leaf_first untyped t ts plain.0 ∙ ap (λ type. typed_leaf type t ∷ typed_leaves true ts) (no_type_after ts plain.1) ∙ ap (λ leaves. typed_leaf None t ∷ leaves) (leaves_untyped true ts plain.1)

-- ---- a group that fits

-- a group at the end
pub record FitsLast (sort : Sort) (trees leaves : List Tree) : Type 0 where
  pub leaves_fit : AllByRecursion (Fits (leaf_role sort)) leaves
  pub leaves_are : typed_leaves false trees ≡ map (typed_leaf None) leaves ++ typed_leaves false []

-- a group with a type, and the rest of the list
pub record FitsGroup (sort : Sort) (trees leaves : List Tree) (kind : Tree) (rest : List Tree) : Type 0 where
  pub leaves_fit : AllByRecursion (Fits (leaf_role sort)) leaves
  pub kind_fits : Fits (type_role sort) kind
  pub rest_fits : FitsTyped sort rest
  pub leaves_are : typed_leaves false trees ≡ map (typed_leaf (Some kind)) leaves ++ typed_leaves false rest

module _ (sort : Sort) where
  first_fits : (tree : Tree) (after : List Tree) → FitsTyped sort (tree ∷ after) → Fits (leaf_role sort) tree
  first_fits tree after fits = (subst AllFit (typed_first (leaf_role sort) (type_role sort) tree after) fits).0

  leaves_then_fit : (first : Tree) (leaves after : List Tree) → AreUndashed (first ∷ leaves) → FitsTyped sort (first ∷ (leaves ++ after)) →
      AllByRecursion (Fits (leaf_role sort)) (first ∷ leaves) × AllFit (typed (leaf_role sort) (type_role sort) true after)
  leaves_then_fit first leaves after plain fits =
      let both = all_fit_split (map (part (leaf_role sort)) (first ∷ leaves)) (typed (leaf_role sort) (type_role sort) true after)
      (subst AllFit (typed_leaves_then (leaf_role sort) (type_role sort) false leaves first after plain) fits) in
      (each_fits (leaf_role sort) (first ∷ leaves) both.0, both.1)

  pub last_fits : (trees leaves after : List Tree) → IsGroup trees leaves after → after ≡ [] → FitsTyped sort trees → FitsLast sort trees leaves
  last_fits trees leaves after group none fits =
      let all : trees ≡ leaves ++ [] = group.split ∙ ap (λ xs. leaves ++ xs) none in
      from leaves group.plain (all ∙ append-nil leaves) (subst (FitsTyped sort) all fits) where
        from : (ls : List Tree) → AreUndashed ls → trees ≡ ls → FitsTyped sort (ls ++ []) → FitsLast sort trees ls
        from [] plain is fit = record { leaves_fit = tt; leaves_are = ap (typed_leaves false) is }
        from (l ∷ ls) plain is fit = record {
          leaves_fit = (leaves_then_fit l ls [] plain fit).0;
          leaves_are = ap (typed_leaves false) is ∙ leaves_untyped false (l ∷ ls) plain ∙ sym (append-nil (map (typed_leaf None) (l ∷ ls)));
        }

  pub group_fits : (trees leaves after : List Tree) (dash kind : Tree) (rest : List Tree) → IsGroup trees leaves after → after ≡ dash ∷ kind ∷ rest → FitsTyped sort trees → FitsGroup sort trees leaves kind rest
  group_fits trees leaves after dash kind rest group is fits =
      let all : trees ≡ leaves ++ (dash ∷ kind ∷ rest) = group.split ∙ ap (λ xs. leaves ++ xs) is in
      from leaves group.plain all (subst (FitsTyped sort) all fits) where
        dashed : is_dash dash ≡ true
        dashed = group.stops dash (kind ∷ rest) is

        from : (ls : List Tree) → AreUndashed ls → trees ≡ ls ++ (dash ∷ kind ∷ rest) → FitsTyped sort (ls ++ (dash ∷ kind ∷ rest)) → FitsGroup sort trees ls kind rest
        from [] plain all fit = absurd (dash_unfit sort dash dashed (first_fits dash (kind ∷ rest) fit))
        from (l ∷ ls) plain all fit =
            let both = leaves_then_fit l ls (dash ∷ kind ∷ rest) plain fit in
            let typed_rest = subst AllFit (typed_dash (leaf_role sort) (type_role sort) dash kind rest dashed) both.1 in
            record {
              leaves_fit = both.0;
              kind_fits = typed_rest.0;
              rest_fits = typed_rest.1;
              leaves_are = ap (typed_leaves false) all ∙ group_typed dash kind rest dashed l ls plain;
            }

  -- a `-` is not the last tree
  pub no_last_dash : (trees leaves after : List Tree) (dash : Tree) → IsGroup trees leaves after → after ≡ dash ∷ [] → FitsTyped sort trees → ⊥
  no_last_dash trees leaves after dash group is fits = from leaves group.plain (subst (FitsTyped sort) (group.split ∙ ap (λ xs. leaves ++ xs) is) fits) where
    from : (ls : List Tree) → AreUndashed ls → FitsTyped sort (ls ++ (dash ∷ [])) → ⊥
    from [] plain fit = dash_unfit sort dash (group.stops dash [] is) (first_fits dash [] fit)
    from (l ∷ ls) plain fit = dash_unfit sort dash (group.stops dash [] is) (leaves_then_fit l ls (dash ∷ []) plain fit).1.0

  -- the declarations of a group are the first ones of the list
  pub adds_group : (type : Option Tree) (trees leaves rest : List Tree) (old new : List TypedName) → typed_leaves false trees ≡ map (typed_leaf type) leaves ++ typed_leaves false rest → FitsTyped sort rest →
      AddsLeaves sort type leaves old new → AddsTyped sort trees rest old new
  adds_group type trees leaves rest old new split fits adds = record { added = adds.added; grown = adds.grown; front = map (typed_leaf type) leaves; split = split; read = adds.read; fits = fits }

-- trees that are cut before the first `-` are a group and what follows it
pub group_of : (trees leaves after : List Tree) (n : ℕ) → n ≡ prefix_len (λ tree. not (is_dash tree)) trees → leaves ≡ take n trees → after ≡ drop n trees → IsGroup trees leaves after
group_of trees leaves after n same front back =
    let P : ℕ → Type 0 = λ k. IsGroup trees (take k trees) (drop k trees) in
    let g : IsGroup trees (take n trees) (drop n trees) = subst P (sym same) (group_at trees) in
    subst (λ ls. IsGroup trees ls after) (sym front) (subst (λ xs. IsGroup trees (take n trees) xs) (sym back) g)

-- the declarations of a group at the end are those of the whole list
pub adds_last : (sort : Sort) (trees leaves after : List Tree) (old new : List TypedName) → IsGroup trees leaves after → after ≡ [] → FitsTyped sort trees → AddsLeaves sort None leaves old new → AddsTyped sort trees after old new
adds_last sort trees leaves after old new group none fits adds =
    let P : List Tree → Type 0 = λ rest. AddsTyped sort trees rest old new in
    subst P (sym none) (adds_group sort None trees leaves [] old new (last_fits sort trees leaves after group none fits).leaves_are tt adds)
