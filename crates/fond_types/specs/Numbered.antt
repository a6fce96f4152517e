-- Declarations with predicates over numbers, and what is within them: each number in it is that of an object, a variable
-- around it or a predicate, each argument lies in the range of its parameter, ranges rise, and each choice has a member.
use Rattle.std.specs.Prelude.{◌≡◌, Bool, true, List, length, map}
use Rattle.std.specs.List.{list_all}
use Rattle.fond_text.specs.Lists.{are_distinct_texts, each_passes}
use Rattle.fond_ast.specs.Within.{is_atom_within, is_condition_within, is_effect_within, is_schema_within, is_term_within}
use Rattle.fond_ast.specs.declared.form.LAtom.{LAtom}
use Rattle.fond_ast.specs.declared.form.LCond.{LCond}
use Rattle.fond_ast.specs.declared.form.LEffect.{LEffect}
use Rattle.fond_ast.specs.declared.form.LTerm.{LTerm}
use Rattle.fond_ast.specs.declared.names.Term.{Term}
use Rattle.fond_ast.specs.declared.task.LPredicate.{LPredicate}
use Rattle.fond_ast.specs.declared.task.LSchema.{LSchema}
use Rattle.fond_names.specs.Names.{Declarations, all_objects, objects_declared, schema_names}
use Rattle.fond_names.specs.Sites.{Scope}
use Rattle.fond_types.specs.Context.{are_predicates}
use Rattle.fond_types.specs.Meanings.{are_typed, has_root, meanings, ranges_around}
use Rattle.fond_types.specs.Patterns.{is_sound_pattern}
use Rattle.fond_types.specs.Resolves.{is_term}

-- `object` has no parent but itself, the types of all objects and of all parameters of predicates are declared, schemas have
-- distinct names, and the patterns of the side list are sound
pub record AreWellNamed (files : Declarations) : Type 0 where
  pub rooted : has_root files.domain.kinds ≡ true
  pub objects_typed : are_typed files.domain.kinds (all_objects files) ≡ true
  pub parameters_typed : list_all (λ declared. are_typed files.domain.kinds declared.parameters) files.domain.predicates ≡ true
  pub schemas_distinct : are_distinct_texts (schema_names files.domain) ≡ true
  pub patterns_sound : list_all (is_sound_pattern files) files.side.patterns ≡ true

-- declarations, and a list of predicates over numbers
pub record Numbered : Type 0 where
  pub files : Declarations
  pub predicates : List LPredicate

-- the declarations are well named, and the predicates over numbers are the declared ones, in order, each name once
pub record AreNumbered (all : Numbered) : Type 0 where
  pub well_named : AreWellNamed all.files
  pub resolved : are_predicates all.files all.predicates ≡ true

-- whether a term over numbers is an object or a variable of these lists around it, which declare fewer than 2^32 variables
abbrev pub is_term_in : Declarations → Scope → LTerm → Bool
is_term_in files around number = is_term_within (length (objects_declared files)) (ranges_around (meanings files).range around) number

-- whether terms over numbers are these terms with their names replaced by numbers, in order, with these lists of variables
-- around them
abbrev pub are_terms : Declarations → Scope → List Term → List LTerm → Bool
are_terms files around terms numbers = each_passes (map (is_term (meanings files) around) terms) numbers

-- whether an atom over numbers is within the declarations, with these lists of variables around it
abbrev pub is_atom_in : Numbered → Scope → LAtom → Bool
is_atom_in all around number =
    is_atom_within (length (objects_declared all.files)) all.predicates number (ranges_around (meanings all.files).range around)

-- whether a condition over numbers is within the declarations, with these lists of variables around it
abbrev pub is_condition_in : Numbered → Scope → LCond → Bool
is_condition_in all around number =
    is_condition_within (length (objects_declared all.files)) all.predicates number (ranges_around (meanings all.files).range around)

-- whether an effect over numbers is within the declarations, with these lists of variables around it
abbrev pub is_effect_in : Numbered → Scope → LEffect → Bool
is_effect_in all around number =
    is_effect_within (length (objects_declared all.files)) all.predicates number (ranges_around (meanings all.files).range around)

-- whether a schema over numbers is within the declarations
abbrev pub is_schema_in : Numbered → LSchema → Bool
is_schema_in all number = is_schema_within (length (objects_declared all.files)) all.predicates number
