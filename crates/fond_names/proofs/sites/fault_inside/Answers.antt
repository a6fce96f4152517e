use Rattle.std.proofs.Common.{◌≡◌, ◌++◌, ◌∷◌, [], List, ◌∙◌, subst}
use Rattle.fond_ast.specs.declared.names.TypedName.{TypedName}
use Rattle.fond_text.specs.Firsts.{IsFirst}
use Rattle.fond_names.specs.Faults.{OccursAmong, OccursAt}
use Rattle.fond_names.specs.Files.{declarations_of}
use Rattle.fond_names.specs.Sites.{Scope, AList, condition_sites, effect_sites}
use Rattle.fond_names.proofs.SiteLemmas.{sites_both, site_then}
use Rattle.fond_names.proofs.sites.fault_inside.Goals as goal

pub returns : goal.returns
returns c =
    let files = declarations_of c.args.files.now in
    let schema = c.args.schema.now in
    let named = c.requires.named in
    let lists : c.inside-within.result ≡ schema.parameters ∷ [] = c.inside-within.ensures ∙ (λ i. named i ∷ c.outside-outside.ensures i) in
    let conditions = condition_sites schema.pre (schema.parameters ∷ []) in
    let effects = effect_sites schema.effect (schema.parameters ∷ []) in
    site_then files (AList schema.parameters) (conditions ++ effects) c.list_fault-list.result c.earlier-body.result c.earlier.result
    (subst (λ (list : List TypedName). IsFirst (λ place code. OccursAt files place code (AList list)) c.list_fault-list.result) named c.list_fault-list.ensures)
    (sites_both files conditions effects c.in_ok-first.first c.in_ok-effect_fault.field-0 c.earlier-body.result
    (subst (λ (around : Scope). IsFirst (OccursAmong files (condition_sites schema.pre around)) c.in_ok-first.first) lists c.in_ok-first.ensures.first)
    (subst (λ (around : Scope). IsFirst (OccursAmong files (effect_sites schema.effect around)) c.in_ok-effect_fault.field-0) lists c.in_ok-effect_fault.ensures.first)
    c.earlier-body.ensures) c.earlier.ensures
