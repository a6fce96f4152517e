use Rattle.std.proofs.Common.{◌∙◌, List, sym, ap, subst}
use Rattle.std.proofs.lemmas.Option.{same_Some}
use Rattle.fond_ast.specs.declared.task.LSchema.{LSchema}
use Rattle.fond_tree.specs.declared.tree.Tree.{Tree}
use Rattle.fond_text.specs.declared.atom.GroundAction.{GroundAction}
use Rattle.fond_succ.specs.Actions.{AreNamesOf, leaf_names}
use Rattle.fond_succ.proofs.Found.{found_names, no_objects, schema_ranges}
use Rattle.fond_succ.proofs.Places.{first_leaf}
use Rattle.fond_succ.proofs.action.find_named.Goals as goal

pub find_objects-requires-clause-within : goal.find_objects-requires-clause-within
find_objects-requires-clause-within c = schema_ranges c.args.task.now c.in-Some-find_schema.schema c.get.result.now c.get.ensures

pub returns-in-Some-2 : goal.returns-in-Some-2
returns-in-Some-2 c =
    let task = c.args.task.now in
    let first = c.in-Some.first.now in
    let rest = c.in-Some.rest.now in
    let split = c.in-Some.ensures.cases.0 in
    let leaf = first_leaf c.args.leaves.now first rest split c.requires in
    let found = c.in-Some-find_schema.ensures.found in
    let objects = rw c.in-Some-2.is at c.in_ok-objects.ensures in
    let same = same_Some c.get.result.now found.0 (sym c.get.ensures ∙ found.1) in
    let named = ap (λ (s : LSchema). s.name) same ∙ found.2 ∙ c.name_in.ensures leaf.0 leaf.1 in
    subst (λ (leaves : List Tree). AreNamesOf task (leaf_names leaves) (record { schema = c.in-Some-find_schema.schema; objects = c.in-Some-2.objects })) (sym split)
    (found_names task first rest leaf.0 leaf.1 c.in-Some-find_schema.schema c.get.result.now c.in-Some-2.objects c.get.ensures named objects.0 objects.1)

pub returns-in-None : goal.returns-in-None
returns-in-None c =
    let task = c.args.task.now in
    let first = c.in-Some.first.now in
    let rest = c.in-Some.rest.now in
    let split = c.in-Some.ensures.cases.0 in
    let leaf = first_leaf c.args.leaves.now first rest split c.requires in
    let found = c.in-Some-find_schema.ensures.found in
    let none = rw c.in-None.is at c.in_ok-objects.ensures in
    let same = same_Some c.get.result.now found.0 (sym c.get.ensures ∙ found.1) in
    let named = ap (λ (s : LSchema). s.name) same ∙ found.2 ∙ c.name_in.ensures leaf.0 leaf.1 in
    subst (λ (leaves : List Tree). (action : GroundAction) → ¬ AreNamesOf task (leaf_names leaves) action) (sym split)
    (no_objects task first rest leaf.0 leaf.1 c.in-Some-find_schema.schema c.get.result.now c.get.ensures named none)
