-- The sites of a condition and of an effect, by their outermost forms, and the first fault at sites.
use Rattle.std.proofs.Common.{◌≡◌, ℕ, ◌+◌, ◌<◌, ◌≤◌, List, [], ◌∷◌, ◌++◌, Option, Some, slice_get, map, take, drop, sum, length, get_or, sym, ap, ◌∙◌, subst, arith, append-nil, IfOk, Result}
use Rattle.std.specs.List.{flat_map}
use Rattle.std.proofs.lemmas.List.{map-append, take_more, at_drop_more}
use Rattle.std.proofs.lemmas.Result.{IfOk-weaker}
use Rattle.std.proofs.lemmas.List.Sums.{sum_by-cons}
use Rattle.std.proofs.lemmas.List.Concat.{flat_map-append}
use Rattle.fond_ast.specs.Read.{condition_variables, condition_variables_step, effect_variables, effect_variables_step}
use Rattle.fond_ast.specs.declared.syntax.Cond.{Cond, out-Cond}
use Rattle.fond_ast.specs.declared.syntax.Cond.TheOpen as open_condition
use Rattle.fond_ast.specs.declared.syntax.Cond.TheFolds.{fold_out-Cond, map-Cond}
use Rattle.fond_ast.specs.declared.syntax.Effect.{Effect, out-Effect}
use Rattle.fond_ast.specs.declared.syntax.Effect.TheOpen as open_effect
use Rattle.fond_ast.specs.declared.syntax.Effect.TheFolds.{fold_out-Effect, map-Effect}
use Rattle.fond_text.specs.declared.fault.NoMemory.{NoMemory}
use Rattle.fond_text.specs.declared.first.Found.{Found}
use Rattle.fond_text.specs.declared.place.Place.{Place}
use Rattle.fond_text.specs.Firsts.{IsFirst, IsEarlier}
use Rattle.fond_names.specs.Faults.{OccursAt, OccursAmong}
use Rattle.fond_names.specs.Names.{Declarations}
use Rattle.fond_names.specs.Sites.{Scope, Site, condition_sites_step, condition_sites, effect_sites_step, effect_sites}
use Rattle.fond_names.proofs.Among.{among_one, among_both, next_taken}

pub condition_sites_by : (condition : Cond) (layer : open_condition.Cond-F Cond) → out-Cond condition ≡ layer → (around : Scope) →
    condition_sites condition around ≡ condition_sites_step (map-Cond Cond (Scope → List Site) condition_sites layer) around
condition_sites_by condition layer is around =
    let both : condition_sites condition ≡ condition_sites_step (map-Cond Cond (Scope → List Site) condition_sites layer) =
    fold_out-Cond (Scope → List Site) condition_sites_step condition ∙ ap (λ x. condition_sites_step (map-Cond Cond (Scope → List Site) condition_sites x)) is in
    λ i. both i around

pub effect_sites_by : (effect : Effect) (layer : open_effect.Effect-F Effect) → out-Effect effect ≡ layer → (around : Scope) →
    effect_sites effect around ≡ effect_sites_step (map-Effect Effect (Scope → List Site) effect_sites layer) around
effect_sites_by effect layer is around =
    let both : effect_sites effect ≡ effect_sites_step (map-Effect Effect (Scope → List Site) effect_sites layer) =
    fold_out-Effect (Scope → List Site) effect_sites_step effect ∙ ap (λ x. effect_sites_step (map-Effect Effect (Scope → List Site) effect_sites x)) is in
    λ i. both i around

-- the variables that the quantifiers of a condition declare, by its outermost form
pub condition_variables_by : (condition : Cond) (layer : open_condition.Cond-F Cond) → out-Cond condition ≡ layer → condition_variables condition ≡ condition_variables_step (map-Cond Cond ℕ condition_variables layer)
condition_variables_by condition layer is = fold_out-Cond ℕ condition_variables_step condition ∙ ap (λ x. condition_variables_step (map-Cond Cond ℕ condition_variables x)) is

-- the variables that the quantifiers of an effect declare, by its outermost form
pub effect_variables_by : (effect : Effect) (layer : open_effect.Effect-F Effect) → out-Effect effect ≡ layer → effect_variables effect ≡ effect_variables_step (map-Effect Effect ℕ effect_variables layer)
effect_variables_by effect layer is = fold_out-Effect ℕ effect_variables_step effect ∙ ap (λ x. effect_variables_step (map-Effect Effect ℕ effect_variables x)) is

module _ (files : Declarations) where
  abbrev pub At : Site → Place → ℕ → Type 0
  At site place code = OccursAt files place code site

  -- the only site of a list
  pub site_one : (site : Site) (found : Option Found) → IsFirst (At site) found → IsFirst (OccursAmong files (site ∷ [])) found
  site_one site found h = among_one At site found h

  -- the only site of a list, if memory lasts
  pub site_alone : (site : Site) (found : Result (Option Found) NoMemory) → IfOk found (IsFirst (At site)) → IfOk found (IsFirst (OccursAmong files (site ∷ [])))
  site_alone site found h = IfOk-weaker found (IsFirst (At site)) (IsFirst (OccursAmong files (site ∷ []))) (site_one site) h

  -- the sites of two lists
  pub sites_both : (sites others : List Site) (one other first : Option Found) → IsFirst (OccursAmong files sites) one → IsFirst (OccursAmong files others) other → IsEarlier one other first → IsFirst (OccursAmong files (sites ++ others)) first
  sites_both sites others one other first p q e = among_both At sites others one other first p q e

  -- a site before others
  pub site_then : (site : Site) (others : List Site) (one other first : Option Found) → IsFirst (At site) one → IsFirst (OccursAmong files others) other → IsEarlier one other first → IsFirst (OccursAmong files (site ∷ others)) first
  site_then site others one other first p q e = among_both At (site ∷ []) others one other first (among_one At site one p) q e

  module _ {A : Type 0} (of : A → Scope → List Site) (around : Scope) where
    parts_more : (parts : List A) (part : A) → flat_map (λ some. some around) (map of (parts ++ part ∷ [])) ≡ flat_map (λ some. some around) (map of parts) ++ of part around
    parts_more parts part =
        ap (flat_map (λ some. some around)) (map-append of parts (part ∷ [])) ∙ flat_map-append (λ some. some around) (map of parts) (of part ∷ [])
        ∙ ap (λ back. flat_map (λ some. some around) (map of parts) ++ back) (append-nil (of part around))

    -- the sites of one part more, the next one of a list
    pub sites_next : (parts : List A) (i : ℕ) (part : A) (one other first : Option Found) → i < length parts → part ≡ get_or parts i part →
        IsFirst (OccursAmong files (flat_map (λ some. some around) (map of (take i parts)))) one → IsFirst (OccursAmong files (of part around)) other → IsEarlier one other first →
        IsFirst (OccursAmong files (flat_map (λ some. some around) (map of (take (i + 1) parts)))) first
    sites_next parts i part one other first low is p q e =
        let next : take (i + 1) parts ≡ take i parts ++ part ∷ [] = take_more parts i part low ∙ ap (λ x. take i parts ++ x ∷ []) (sym is) in
        subst (λ (sites : List Site). IsFirst (OccursAmong files sites) first) (sym (ap (λ some. flat_map (λ part. part around) (map of some)) next ∙ parts_more (take i parts) part))
        (sites_both (flat_map (λ some. some around) (map of (take i parts))) (of part around) one other first p q e)

-- what is left after an item sums up to no more than what is left from it on
pub fewer_left : {A : Type 0} (count : A → ℕ) (parts : List A) (i most : ℕ) (part : A) → i < length parts → part ≡ get_or parts i part → sum (map count (drop i parts)) ≤ most → sum (map count (drop (i + 1) parts)) ≤ most
fewer_left count parts i most part low is few =
    let next : sum (map count (drop i parts)) ≡ sum (map count (part ∷ drop (i + 1) parts)) =
    ap (λ some. sum (map count some)) (at_drop_more (λ rest. rest) parts i part low ∙ ap (λ x. x ∷ drop (i + 1) parts) (sym is)) in
    let more : sum (map count (part ∷ drop (i + 1) parts)) ≡ count part + sum (map count (drop (i + 1) parts)) = sum_by-cons (λ (n : ℕ). n) (count part) (map count (drop (i + 1) parts)) in
    omega (arith, few, next, more)

module _ (files : Declarations) where
  -- the sites of one item more, the next one of a list
  pub sites_more : {A : Type 0} (of : A → List Site) (items : List A) (i : ℕ) (item : A) (one other first : Option Found) → slice_get items i ≡ Some item →
      IsFirst (OccursAmong files (flat_map of (take i items))) one → IsFirst (OccursAmong files (of item)) other → IsEarlier one other first → IsFirst (OccursAmong files (flat_map of (take (i + 1) items))) first
  sites_more of items i item one other first got p q e =
      let next = next_taken items i item got in
      subst (λ (sites : List Site). IsFirst (OccursAmong files sites) first)
      (sym (ap (flat_map of) next ∙ flat_map-append of (take i items) (item ∷ []) ∙ ap (λ back. flat_map of (take i items) ++ back) (append-nil (of item))))
      (sites_both files (flat_map of (take i items)) (of item) one other first p q e)

  -- one site more, that of the next item of a list
  pub site_more : {A : Type 0} (of : A → Site) (items : List A) (i : ℕ) (item : A) (one other first : Option Found) → slice_get items i ≡ Some item →
      IsFirst (OccursAmong files (map of (take i items))) one → IsFirst (λ place code. OccursAt files place code (of item)) other → IsEarlier one other first → IsFirst (OccursAmong files (map of (take (i + 1) items))) first
  site_more of items i item one other first got p q e =
      let next = next_taken items i item got in
      subst (λ (sites : List Site). IsFirst (OccursAmong files sites) first) (sym (ap (map of) next ∙ map-append of (take i items) (item ∷ [])))
      (sites_both files (map of (take i items)) (of item ∷ []) one other first p (site_one files (of item) other q) e)
