use Rattle.std.proofs.Common.{◌≡◌, ◌+◌, ℕ, Bool, List, Some, length, slice_get, take, sym, ap, ◌∙◌, subst, arith}
use Rattle.std.specs.List.{AllZip, list_all}
use Rattle.fond_ast.specs.Within.{is_schema_fluent, is_schema_within}
use Rattle.fond_ast.specs.declared.files.Domain.{Domain}
use Rattle.fond_ast.specs.declared.files.Schema.{Schema}
use Rattle.fond_ast.specs.declared.form.LTerm.{LTerm}
use Rattle.fond_ast.specs.declared.task.LSchema.{LSchema}
use Rattle.fond_types.specs.Meanings.{meanings}
use Rattle.fond_names.specs.Names.{Declarations, objects_declared}
use Rattle.fond_types.specs.Patterns.{are_patterns}
use Rattle.fond_types.specs.Resolves.{IsResolvedSchema}
use Rattle.fond_types.proofs.BodyLemmas.{sound_schema_at}
use Rattle.fond_types.proofs.FilingLemmas.{item_left, passes_taken}
use Rattle.fond_types.proofs.Passing.{zip_next}
use Rattle.fond_types.proofs.WithinLemmas.{all_more}
use Rattle.fond_types.proofs.schemas.numbered_schemas.Goals as goal

schema_got : (domain other : Domain) (i : ℕ) (schema : Schema) → other ≡ domain → slice_get other.schemas i ≡ Some schema → slice_get domain.schemas i ≡ Some schema
schema_got domain other i schema same got = ap (λ (one : Domain). slice_get one.schemas i) (sym same) ∙ got

pub numbered_schema-requires-clause-sound : goal.numbered_schema-requires-clause-sound
numbered_schema-requires-clause-sound c =
    sound_schema_at c.args.context.now.files c.requires.sound c.loop-i.i c.get-schema.result.now (schema_got c.args.context.now.files.domain c.domain-domain.result.now c.loop-i.i c.get-schema.result.now c.domain-domain.ensures c.get-schema.ensures)

abbrev test : Declarations → Schema → List (List LTerm) → Bool
test files schema = are_patterns (meanings files) files.side.patterns schema.name

pub taken-patterns-requires : goal.taken-patterns-requires
taken-patterns-requires c =
    let files = c.args.context.now.files in
    let low = item_left (test files) files.domain.schemas c.loop-i.i c.get-schema.result.now (schema_got c.args.context.now.files.domain c.domain-domain.result.now c.loop-i.i c.get-schema.result.now c.domain-domain.ensures c.get-schema.ensures) c.loop-i.filed.items c.loop-i.invariant.filed in
    omega (arith, low)

pub numbered_schema-requires-clause-patterns : goal.numbered_schema-requires-clause-patterns
numbered_schema-requires-clause-patterns c =
    let files = c.args.context.now.files in
    (passes_taken (test files) files.domain.schemas c.loop-i.i c.get-schema.result.now (schema_got c.args.context.now.files.domain c.domain-domain.result.now c.loop-i.i c.get-schema.result.now c.domain-domain.ensures c.get-schema.ensures) c.loop-i.filed.items c.taken-patterns.new.filed.items c.taken-patterns.result c.taken-patterns.ensures c.loop-i.invariant.filed).0

pub loop-i-preserved : goal.loop-i-preserved
loop-i-preserved c =
    let files = c.args.context.now.files in
    let predicates = c.args.context.now.predicates in
    let count = length (objects_declared files) in
    let schemas = files.domain.schemas in
    let schema = c.get-schema.result.now in
    let number = c.in_ok-numbered_schema.field-0 in
    let made = c.in_ok-numbered_schema.ensures.numbered in
    let put = c.in_ok-push.ensures.ok in
    record {
      resolved = subst (λ (all : List LSchema). AllZip (IsResolvedSchema (meanings files) files.side) (take (c.loop-i.i + 1) schemas) all) (sym put)
          (zip_next (IsResolvedSchema (meanings files) files.side) schemas c.loop-i.i schema c.loop-i.all number (schema_got c.args.context.now.files.domain c.domain-domain.result.now c.loop-i.i c.get-schema.result.now c.domain-domain.ensures c.get-schema.ensures) c.loop-i.invariant.resolved made.resolved);
      within = ap (list_all (is_schema_within count predicates)) put ∙ all_more (is_schema_within count predicates) c.loop-i.all number c.loop-i.invariant.within made.within;
      fluent = ap (list_all (is_schema_fluent predicates)) put ∙ all_more (is_schema_fluent predicates) c.loop-i.all number c.loop-i.invariant.fluent made.fluent;
      filed = (passes_taken (test files) schemas c.loop-i.i schema (schema_got c.args.context.now.files.domain c.domain-domain.result.now c.loop-i.i c.get-schema.result.now c.domain-domain.ensures c.get-schema.ensures) c.loop-i.filed.items c.taken-patterns.new.filed.items c.taken-patterns.result c.taken-patterns.ensures c.loop-i.invariant.filed).1;
      kept = c.in_ok-numbered_schema.ensures.kept;
    }
