-- Facts of the domain and of the problem that are read.
use Rattle.std.proofs.Common.{◌≡◌, ℕ, ◌≤◌, Bool, true, false, List, [], ◌∷◌, length, map, ap, subst, arith}
use Rattle.fond_text.specs.declared.code.TheConstants.{LONGEST_TEXT}
use Rattle.fond_text.specs.Lists.{each_passes}
use Rattle.fond_tree.specs.Spelling.{spelling}
use Rattle.fond_tree.specs.declared.tree.Tree.{Tree}
use Rattle.std.specs.List.{list_all}
use Rattle.fond_ast.specs.Read.{condition_variables, has_few_variables}
use Rattle.fond_ast.specs.declared.files.Declared.{Declared}
use Rattle.fond_ast.specs.declared.files.Schema.{Schema}
use Rattle.fond_ast.specs.declared.names.TypedName.{TypedName}
use Rattle.fond_ast.specs.declared.syntax.Cond.{Cond}
use Rattle.fond_reader.specs.Bodies.{is_condition}
use Rattle.fond_reader.specs.Files.{IsFile, headed, contents, is_declared, IsSchemaOf, AreSchemasOf}
use Rattle.fond_reader.specs.Sorts.{are_read_from}
use Rattle.fond_reader.specs.Typed.{typed_leaves}
use Rattle.fond_reader.specs.declared.typed.Sort.TheVariants.{Names}
use Rattle.fond_reader.proofs.Counts.{typed_counted, each_counted, zip_counted, items_weigh, contents_weigh, headed_weigh, sections_weigh}
use Rattle.fond_reader.proofs.SchemaFacts.{schemas_few}
use Rattle.fond_reader.proofs.Shapes.{one_operand}
use Rattle.fond_reader.proofs.VariableCounts.{condition_few}
use Rattle.fond_reader.proofs.Weights.{weights, weight_is, weights_first}

-- the sections of a short file have few tokens
pub short_sections : (kind : List ℕ) (tree : Tree) (sections : List Tree) → IsFile kind tree sections → length (spelling tree) ≤ LONGEST_TEXT → weights sections ≤ LONGEST_TEXT
short_sections kind tree sections file short = omega (arith, sections_weigh tree file.define file.header sections file.whole, weight_is tree)

module _ (sections : List Tree) (short : weights sections ≤ LONGEST_TEXT) (word : List ℕ) where
  pub names_few : (names : List TypedName) → are_read_from Names names (typed_leaves false (contents word sections)) ≡ true → length names ≤ LONGEST_TEXT
  names_few names read = omega (arith, typed_counted Names names (contents word sections) read, contents_weigh word sections)

  pub goal_few : (goal : Cond) → each_passes (is_condition goal ∷ []) (contents word sections) ≡ true → condition_variables goal ≤ LONGEST_TEXT
  goal_few goal read =
      let one = one_operand (is_condition goal) (contents word sections) read in
      omega (arith, condition_few goal one.0 one.2, ap weights one.1, weights_first one.0 [], contents_weigh word sections)

  pub predicates_few : (predicates : List Declared) → each_passes (map is_declared predicates) (contents word sections) ≡ true → length predicates ≤ LONGEST_TEXT
  predicates_few predicates read = omega (arith, each_counted is_declared predicates (contents word sections) read, contents_weigh word sections)

  pub schemas_counted : (schemas : List Schema) → AreSchemasOf (headed word sections) schemas → length schemas ≤ LONGEST_TEXT
  schemas_counted schemas read = omega (arith, zip_counted IsSchemaOf (headed word sections) schemas read, items_weigh (headed word sections), headed_weigh word sections)

  pub variables_few : (schemas : List Schema) → AreSchemasOf (headed word sections) schemas → list_all has_few_variables schemas ≡ true
  variables_few schemas read = schemas_few (headed word sections) schemas read (omega (arith, headed_weigh word sections))

-- what was read from trees that are these
pub names_along : (names : List TypedName) (trees others : List Tree) → trees ≡ others → are_read_from Names names (typed_leaves false trees) ≡ true → are_read_from Names names (typed_leaves false others) ≡ true
names_along names trees others same = subst (λ (ts : List Tree). are_read_from Names names (typed_leaves false ts) ≡ true) same

pub each_along : (tests : List (Tree → Bool)) (trees others : List Tree) → trees ≡ others → each_passes tests trees ≡ true → each_passes tests others ≡ true
each_along tests trees others same = subst (λ (ts : List Tree). each_passes tests ts ≡ true) same
