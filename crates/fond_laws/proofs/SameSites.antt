-- Names occur at the same sites in files that are the same.
use Rattle.std.proofs.Common.{◌≡◌, ◌∙◌, List, [], ◌∷◌, ◌++◌, map, refl, sym, ap}
use Rattle.std.specs.List.{AllZip, flat_map}
use Rattle.fond_ast.specs.declared.files.Domain.{Domain}
use Rattle.fond_ast.specs.declared.files.Problem.{Problem}
use Rattle.fond_ast.specs.declared.files.Schema.{Schema}
use Rattle.fond_ast.specs.declared.syntax.Cond.{Cond, Truth, Holds, Equal, And', Or', Not', Imply', Forall', Exists', Row_of-Cond, end_of-Cond, more_of-Cond, items-the_row-Cond, items_shown-the_row-Cond-0}
use Rattle.fond_ast.specs.declared.syntax.Cond.TheViews as condition_view
use Rattle.fond_ast.specs.declared.syntax.Effect.{Effect, Row_of-Effect, end_of-Effect, more_of-Effect, items-the_row-Effect, items_shown-the_row-Effect-0}
use Rattle.fond_ast.specs.declared.syntax.Effect as effect
use Rattle.fond_ast.specs.declared.syntax.Effect.TheViews as effect_view
use Rattle.fond_names.specs.Sites.{Scope, Site, AnAtom, AnEquality, AList, condition_sites, effect_sites, schema_sites, domain_sites, problem_sites}
use Rattle.fond_names.proofs.SiteLemmas.{condition_sites_by, effect_sites_by}
use Rattle.fond_laws.specs.Read.{IsSameCond, AreSameConds, IsSameRead, AreSameReads, IsSameWritten, IsSameDomain, IsSameProblem}

-- the sites of parts
abbrev sites_of : {A : Type 0} → (A → Scope → List Site) → Scope → List A → List Site
sites_of of around parts = flat_map (λ part. part around) (map of parts)

mutual
  -- conditions that are the same have the same sites
  same_sites : (condition other : Cond) → IsSameCond condition other → (around : Scope) → condition_sites condition around ≡ condition_sites other around
  same_sites Truth Truth same around = refl
  same_sites (Holds atom) (Holds read) same around =
      condition_sites_by (Holds atom) _ (condition_view.outs-Holds atom) around ∙ ap (λ atom. AnAtom around atom ∷ []) same ∙ sym (condition_sites_by (Holds read) _ (condition_view.outs-Holds read) around)
  same_sites (Equal one two) (Equal first second) same around =
      condition_sites_by (Equal one two) _ (condition_view.outs-Equal one two) around ∙ (λ i. AnEquality around (same.0 i) (same.1 i) ∷ []) ∙ sym (condition_sites_by (Equal first second) _ (condition_view.outs-Equal first second) around)
  same_sites (And' shape parts) (And' form others) same around =
      condition_sites_by (And' shape parts) _ (condition_view.outs-And' shape parts) around ∙ ap (sites_of condition_sites around) (items_shown-the_row-Cond-0 shape parts)
      ∙ same_row parts others same around
      ∙ sym (condition_sites_by (And' form others) _ (condition_view.outs-And' form others) around ∙ ap (sites_of condition_sites around) (items_shown-the_row-Cond-0 form others))
  same_sites (Or' shape parts) (Or' form others) same around =
      condition_sites_by (Or' shape parts) _ (condition_view.outs-Or' shape parts) around ∙ ap (sites_of condition_sites around) (items_shown-the_row-Cond-0 shape parts)
      ∙ same_row parts others same around
      ∙ sym (condition_sites_by (Or' form others) _ (condition_view.outs-Or' form others) around ∙ ap (sites_of condition_sites around) (items_shown-the_row-Cond-0 form others))
  same_sites (Not' shape part) (Not' form other) same around =
      condition_sites_by (Not' shape part) _ (condition_view.outs-Not' shape part) around ∙ same_sites part other same around ∙ sym (condition_sites_by (Not' form other) _ (condition_view.outs-Not' form other) around)
  same_sites (Imply' shape part next over) (Imply' form other after more) same around =
      condition_sites_by (Imply' shape part next over) _ (condition_view.outs-Imply' shape part next over) around
      ∙ (λ i. same_sites part other same.0 around i ++ same_sites over more same.1 around i)
      ∙ sym (condition_sites_by (Imply' form other after more) _ (condition_view.outs-Imply' form other after more) around)
  same_sites (Forall' names shape part) (Forall' others form other) same around =
      let inner = same_sites part other same.1 (names ∷ around) ∙ ap (λ list. condition_sites other (list ∷ around)) same.0 in
      condition_sites_by (Forall' names shape part) _ (condition_view.outs-Forall' names shape part) around ∙ (λ i. AList (same.0 i) ∷ inner i)
      ∙ sym (condition_sites_by (Forall' others form other) _ (condition_view.outs-Forall' others form other) around)
  same_sites (Exists' names shape part) (Exists' others form other) same around =
      let inner = same_sites part other same.1 (names ∷ around) ∙ ap (λ list. condition_sites other (list ∷ around)) same.0 in
      condition_sites_by (Exists' names shape part) _ (condition_view.outs-Exists' names shape part) around ∙ (λ i. AList (same.0 i) ∷ inner i)
      ∙ sym (condition_sites_by (Exists' others form other) _ (condition_view.outs-Exists' others form other) around)
  same_sites condition other same around = absurd same

  -- conditions that are the same one by one have the same sites
  same_row : {m n : _} (row : Row_of-Cond m) (others : Row_of-Cond n) → AreSameConds row others → (around : Scope) → sites_of condition_sites around (items-the_row-Cond m row) ≡ sites_of condition_sites around (items-the_row-Cond n others)
  same_row end_of-Cond end_of-Cond same around = refl
  same_row end_of-Cond (more_of-Cond other others) same around = absurd same
  same_row (more_of-Cond part rest) end_of-Cond same around = absurd same
  same_row (more_of-Cond part rest) (more_of-Cond other others) same around = λ i. same_sites part other same.0 around i ++ same_row rest others same.1 around i

mutual
  -- effects that are the same have the same sites
  same_effect_sites : (read other : Effect) → IsSameRead read other → (around : Scope) → effect_sites read around ≡ effect_sites other around
  same_effect_sites effect.Nothing effect.Nothing same around = refl
  same_effect_sites (effect.Add atom) (effect.Add read) same around =
      effect_sites_by (effect.Add atom) _ (effect_view.outs-Add atom) around ∙ ap (λ atom. AnAtom around atom ∷ []) same ∙ sym (effect_sites_by (effect.Add read) _ (effect_view.outs-Add read) around)
  same_effect_sites (effect.Delete atom) (effect.Delete read) same around =
      effect_sites_by (effect.Delete atom) _ (effect_view.outs-Delete atom) around ∙ ap (λ atom. AnAtom around atom ∷ []) same ∙ sym (effect_sites_by (effect.Delete read) _ (effect_view.outs-Delete read) around)
  same_effect_sites (effect.And' shape parts) (effect.And' form others) same around =
      effect_sites_by (effect.And' shape parts) _ (effect_view.outs-And' shape parts) around ∙ ap (sites_of effect_sites around) (items_shown-the_row-Effect-0 shape parts)
      ∙ same_effect_row parts others same around
      ∙ sym (effect_sites_by (effect.And' form others) _ (effect_view.outs-And' form others) around ∙ ap (sites_of effect_sites around) (items_shown-the_row-Effect-0 form others))
  same_effect_sites (effect.Forall' names shape part) (effect.Forall' others form other) same around =
      let inner = same_effect_sites part other same.1 (names ∷ around) ∙ ap (λ list. effect_sites other (list ∷ around)) same.0 in
      effect_sites_by (effect.Forall' names shape part) _ (effect_view.outs-Forall' names shape part) around ∙ (λ i. AList (same.0 i) ∷ inner i)
      ∙ sym (effect_sites_by (effect.Forall' others form other) _ (effect_view.outs-Forall' others form other) around)
  same_effect_sites (effect.When' condition shape part) (effect.When' over form other) same around =
      effect_sites_by (effect.When' condition shape part) _ (effect_view.outs-When' condition shape part) around
      ∙ (λ i. same_sites condition over same.0 around i ++ same_effect_sites part other same.1 around i)
      ∙ sym (effect_sites_by (effect.When' over form other) _ (effect_view.outs-When' over form other) around)
  same_effect_sites (effect.OneOf' shape parts) (effect.OneOf' form others) same around =
      effect_sites_by (effect.OneOf' shape parts) _ (effect_view.outs-OneOf' shape parts) around ∙ ap (sites_of effect_sites around) (items_shown-the_row-Effect-0 shape parts)
      ∙ same_effect_row parts others same around
      ∙ sym (effect_sites_by (effect.OneOf' form others) _ (effect_view.outs-OneOf' form others) around ∙ ap (sites_of effect_sites around) (items_shown-the_row-Effect-0 form others))
  same_effect_sites read other same around = absurd same

  -- effects that are the same one by one have the same sites
  same_effect_row : {m n : _} (row : Row_of-Effect m) (others : Row_of-Effect n) → AreSameReads row others → (around : Scope) → sites_of effect_sites around (items-the_row-Effect m row) ≡ sites_of effect_sites around (items-the_row-Effect n others)
  same_effect_row end_of-Effect end_of-Effect same around = refl
  same_effect_row end_of-Effect (more_of-Effect other others) same around = absurd same
  same_effect_row (more_of-Effect part rest) end_of-Effect same around = absurd same
  same_effect_row (more_of-Effect part rest) (more_of-Effect other others) same around = λ i. same_effect_sites part other same.0 around i ++ same_effect_row rest others same.1 around i

-- schemas that are the same have the same sites
same_schema_sites : (schema other : Schema) → IsSameWritten schema other → schema_sites schema ≡ schema_sites other
same_schema_sites schema other same =
    let pre = same_sites schema.pre other.pre same.pre (schema.parameters ∷ []) ∙ ap (λ names. condition_sites other.pre (names ∷ [])) same.parameters in
    let inner = same_effect_sites schema.effect other.effect same.effect (schema.parameters ∷ []) ∙ ap (λ names. effect_sites other.effect (names ∷ [])) same.parameters in
    λ i. AList (same.parameters i) ∷ pre i ++ inner i

-- schemas that are the same one by one have the same sites
same_schemas_sites : (schemas others : List Schema) → AllZip IsSameWritten schemas others → flat_map schema_sites schemas ≡ flat_map schema_sites others
same_schemas_sites [] [] same = refl
same_schemas_sites [] (other ∷ others) same = absurd same
same_schemas_sites (schema ∷ schemas) [] same = absurd same
same_schemas_sites (schema ∷ schemas) (other ∷ others) same = λ i. same_schema_sites schema other same.0 i ++ same_schemas_sites schemas others same.1 i

-- domains that are the same have the same sites
pub same_domain_sites : (domain other : Domain) → IsSameDomain domain other → domain_sites domain ≡ domain_sites other
same_domain_sites domain other same = same_schemas_sites domain.schemas other.schemas same.schemas

-- problems that are the same have the same sites
pub same_problem_sites : (problem other : Problem) → IsSameProblem problem other → problem_sites problem ≡ problem_sites other
same_problem_sites problem other same = λ i. map (λ initial. AnAtom [] initial.atom) (same.init i) ++ same_sites problem.goal other.goal same.goal [] i
