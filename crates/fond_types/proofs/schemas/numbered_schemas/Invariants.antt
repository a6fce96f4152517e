use Rattle.std.proofs.Common.{◌≡◌, true, drop, length, map, take}
use Rattle.std.specs.List.{AllZip, list_all}
use Rattle.fond_ast.specs.Within.{is_schema_fluent, is_schema_within}
use Rattle.fond_text.specs.Lists.{each_passes}
use Rattle.fond_types.specs.Kept.{are_kept}
use Rattle.fond_types.specs.Meanings.{meanings}
use Rattle.fond_names.specs.Names.{objects_declared}
use Rattle.fond_types.specs.Patterns.{are_patterns}
use Rattle.fond_types.specs.Resolves.{IsResolvedSchema}
use Rattle.fond_types.proofs.schemas.numbered_schemas.Given as goal

-- the schemas so far are numbered, and those that are left have their patterns
abbrev pub invariant-loop-i : goal.invariant-loop-i
invariant-loop-i l =
    let files = l.context.files in
    record {
      resolved : AllZip (IsResolvedSchema (meanings files) files.side) (take l.i files.domain.schemas) l.all;
      within : list_all (is_schema_within (length (objects_declared files)) l.context.predicates) l.all ≡ true;
      fluent : list_all (is_schema_fluent l.context.predicates) l.all ≡ true;
      filed : each_passes (map (λ schema. are_patterns (meanings files) files.side.patterns schema.name) (drop l.i files.domain.schemas)) (drop l.i l.filed.items) ≡ true;
      kept : are_kept files l.kept.entries.items ≡ true;
    }
