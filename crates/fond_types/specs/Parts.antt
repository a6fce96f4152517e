-- The parts of a task that are numbered last.
use Rattle.std.specs.Prelude.{◌≡◌, [], List, length, map, true}
use Rattle.std.specs.List.{AllZip, list_all}
use Rattle.fond_text.specs.Lists.{each_passes}
use Rattle.fond_ast.specs.Within.{is_condition_within, is_initial_within, is_schema_fluent, is_schema_within}
use Rattle.fond_ast.specs.declared.task.LPredicate.{LPredicate}
use Rattle.fond_types.specs.Meanings.{meanings}
use Rattle.fond_names.specs.Names.{Declarations, objects_declared}
use Rattle.fond_types.specs.Resolves.{IsResolvedSchema, is_condition, is_ground_atom, positive}
use Rattle.fond_types.specs.declared.parts.Parts.{Parts}

-- schemas, initial atoms and a goal over numbers are those of three files, and they are within
pub record AreParts (files : Declarations) (predicates : List LPredicate) (parts : Parts) : Type 0 where
  pub schemas : AllZip (IsResolvedSchema (meanings files) files.side) files.domain.schemas parts.schemas
  pub init : each_passes (map (is_ground_atom (meanings files)) (positive files.problem.init)) parts.init ≡ true
  pub goal : is_condition (meanings files) files.problem.goal [] parts.goal ≡ true
  pub schemas_within : list_all (is_schema_within (length (objects_declared files)) predicates) parts.schemas ≡ true
  pub schemas_fluent : list_all (is_schema_fluent predicates) parts.schemas ≡ true
  pub init_within : list_all (is_initial_within predicates) parts.init ≡ true
  pub goal_within : is_condition_within (length (objects_declared files)) predicates parts.goal [] ≡ true
