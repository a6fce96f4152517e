-- Predicates over numbers, by a test.
use Rattle.std.specs.Prelude.{◌&&◌, Bool, List, map}
use Rattle.std.specs.Str.{bytes_eq}
use Rattle.fond_text.specs.Bools.{is_same}
use Rattle.fond_text.specs.Lists.{each_passes}
use Rattle.fond_ast.specs.declared.files.Declared.{Declared}
use Rattle.fond_ast.specs.declared.task.LPredicate.{LPredicate}
use Rattle.fond_types.specs.Meanings.{meanings}
use Rattle.fond_names.specs.Names.{Declarations, predicates_declared}
use Rattle.fond_types.specs.Resolves.{are_ranges}
use Rattle.fond_types.specs.Sound.{is_mentioned}

-- whether a predicate over numbers is a declared one
abbrev pub is_predicate : Declarations → Declared → LPredicate → Bool
is_predicate files declared number =
    bytes_eq number.name declared.name && are_ranges (meanings files) declared.parameters number.ranges && is_same number.fluent (is_mentioned files.domain declared.name)

-- whether predicates over numbers are the declared ones
abbrev pub are_predicates : Declarations → List LPredicate → Bool
are_predicates files predicates = each_passes (map (is_predicate files) (predicates_declared files.domain)) predicates
