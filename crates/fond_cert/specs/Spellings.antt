-- How certificates, tables and certificates of least rank are written: the one spelling of each.
use Rattle.std.specs.Prelude.{ℕ, ◌<◌, ◌≡◌, ◌^◌, List, [], ◌∷◌, ◌++◌, Bool, Option, Some, None, All as Each, codes, length, map, slice_get, ⊤}
use Rattle.std.specs.Fmt.{decimal}
use Rattle.std.specs.List.{enumerate_from, filter_map, flat_map, zip}
use Rattle.std.specs.Option.{option_map, option_map_or}
use Rattle.fond_text.specs.declared.atom.Atom.{Atom}
use Rattle.fond_text.specs.declared.atom.GroundAction.{GroundAction}
use Rattle.fond_task.specs.declared.task.Labels.{Labels}
use Rattle.fond_task.specs.declared.task.Task.{Task}
use Rattle.fond_task.specs.Texts.{name_at}
use Rattle.fond_state.specs.Cubes.{literal_at}
use Rattle.fond_task.specs.declared.rule.Pair.{Pair}
use Rattle.fond_task.specs.declared.rule.Rule.{Rule}
use Rattle.fond_task.specs.declared.rule.Target.{Target as RuleTarget}
use Rattle.fond_task.specs.declared.rule.Target.TheVariants.{Goal, Rule as ToRule}
use Rattle.fond_task.specs.declared.rule.Targets.{Targets as RuleTargets}
use Rattle.fond_task.specs.declared.rule.Targets.TheVariants.{One, All}
use Rattle.fond_task.specs.Layers.{CubeView}
use Rattle.fond_policy.specs.declared.item.Item.{Item}
use Rattle.fond_policy.specs.declared.item.Way.{Way}
use Rattle.fond_policy.specs.declared.item.Way.TheVariants.{Goal as ToGoal, Rule as ByRule}
use Rattle.fond_policy.specs.declared.best.BestCert.{BestCert}
use Rattle.fond_policy.specs.declared.cert.Cert.{Cert}
use Rattle.fond_policy.specs.declared.cert.Cert.TheVariants.{Policy, Refusal, Covered}
use Rattle.fond_policy.specs.Sizes.{IsSmallTarget}
use Rattle.fond_rules.specs.declared.table.TableRow.{TableRow}
use Rattle.fond_cert.specs.declared.draft.Draft.{Draft}
use Rattle.fond_cert.specs.declared.due.Document.{Document}
use Rattle.fond_cert.specs.declared.due.Document.TheVariants.{Certificate, Table, Best}
use Rattle.fond_cert.specs.declared.due.Evidence.TheVariants.{Reach as ByReach, Cover as ByCover}
use Rattle.fond_cert.specs.declared.due.Group.{Group}
use Rattle.fond_cert.specs.declared.due.Group.TheVariants as g
use Rattle.fond_cert.specs.declared.due.Kind.{Kind}
use Rattle.fond_cert.specs.declared.due.Kind.TheVariants.{Policy as OfPolicy, Refusal as OfRefusal, Table as OfTable, Best as OfBest}
use Rattle.fond_cert.specs.declared.due.Section.{Section}
use Rattle.fond_cert.specs.declared.due.Section.TheVariants.{One as OneOf, Any, Few, Blocks}
use Rattle.fond_cert.specs.Sections.{sections}
use Rattle.fond_form.specs.declared.table.LineKind.{LineKind}
use Rattle.fond_form.specs.declared.table.LineKind.TheVariants as k
use Rattle.fond_form.specs.declared.table.Sort.{Sort}
use Rattle.fond_form.specs.declared.table.Sort.TheVariants.{Nothing, Action, Short, Long, Target, Shorts, Targets, Literals}
use Rattle.fond_form.specs.Lines.{WrittenLiteral}
use Rattle.fond_form.specs.Forms.{Field, form, Value, Values, Line, line_text}

-- the leaves of an atom: the names of its predicate and its objects
abbrev pub atom_leaves : Labels → Atom → List (List ℕ)
atom_leaves labels atom = name_at labels.predicates atom.predicate ∷ map (name_at labels.objects) atom.objects

-- the leaves of an action: the names of its schema and its objects
abbrev pub action_leaves : Labels → GroundAction → List (List ℕ)
action_leaves labels action = name_at labels.schemas action.schema ∷ map (name_at labels.objects) action.objects

-- the leaves of the action of this number
abbrev pub act_leaves : Task → ℕ → List (List ℕ)
act_leaves task number = option_map_or (λ act. action_leaves task.labels act.ground) (slice_get task.acts number) []

-- a literal of an atom as it is written
abbrev pub written_literal : Labels → Atom → Bool → WrittenLiteral
written_literal labels atom sign = record { sign = sign; leaves = atom_leaves labels atom }

-- the literals of a cube as they are written, in the order of the atoms
abbrev pub written_cube : Task → CubeView → List WrittenLiteral
written_cube task cube = filter_map (λ item. option_map (written_literal task.labels item.1) (literal_at cube item.0)) (enumerate_from 0 task.atoms)

-- the word of a target: `goal`, or the digits of its rule's number
abbrev pub target_word : RuleTarget → List ℕ
target_word Goal = codes "goal"
target_word (ToRule number) = decimal number

-- what a value of a sort stands for: the number of an action, a number, a target, several of these, or a cube
abbrev pub Meaning : Sort → Type 0
Meaning Nothing = ⊤
Meaning Action = ℕ
Meaning Short = ℕ
Meaning Long = ℕ
Meaning Target = RuleTarget
Meaning Shorts = List ℕ
Meaning Targets = List RuleTarget
Meaning Literals = CubeView

-- the value that spells a meaning
abbrev pub spelled : Task → (sort : Sort) → Meaning sort → Value sort
spelled task Nothing meaning = tt
spelled task Action act = act_leaves task act
spelled task Short number = decimal number
spelled task Long number = decimal number
spelled task Target target = target_word target
spelled task Shorts numbers = map decimal numbers
spelled task Targets targets = map target_word targets
spelled task Literals cube = written_cube task cube

-- a meaning belongs to a task: the task has the action, the cube is over its atoms, numbers are below their bounds, and of several
-- there is at least one
abbrev pub IsOfTask : Task → (sort : Sort) → Meaning sort → Type 0
IsOfTask task Nothing meaning = ⊤
IsOfTask task Action act = act < length task.acts
IsOfTask task Short number = number < 2 ^ 32
IsOfTask task Long number = number < 2 ^ 64
IsOfTask task Target target = IsSmallTarget target
IsOfTask task Shorts numbers = (0 < length numbers) × Each (λ number. number < 2 ^ 32) numbers
IsOfTask task Targets targets = (0 < length targets) × Each IsSmallTarget targets
IsOfTask task Literals cube = length cube ≡ length task.atoms

-- what the values of fields stand for: a meaning for each
abbrev pub Meanings : List Field → Type 0
Meanings [] = ⊤
Meanings (field ∷ fields) = Meaning field.1 × Meanings fields

-- the values that spell the meanings of fields
abbrev pub all_spelled : Task → (fields : List Field) → Meanings fields → Values fields
all_spelled task [] meanings = tt
all_spelled task (field ∷ fields) meanings = (spelled task field.1 meanings.0, all_spelled task fields meanings.1)

-- the meanings of fields belong to a task
abbrev pub AreOfTask : Task → (fields : List Field) → Meanings fields → Type 0
AreOfTask task [] meanings = ⊤
AreOfTask task (field ∷ fields) meanings = IsOfTask task field.1 meanings.0 × AreOfTask task fields meanings.1

-- the line of a kind whose values spell these meanings
abbrev pub spelled_line : Task → (kind : LineKind) → Meanings (form kind) → Line
spelled_line task kind meanings = record { kind = kind; values = all_spelled task (form kind) meanings }

-- the line of a cube
abbrev pub cube_line : Task → CubeView → Line
cube_line task cube = spelled_line task k.Cube (cube, tt)

-- the lines of a layer
abbrev pub layer_lines : Task → List CubeView → List Line
layer_lines task layer = spelled_line task k.Layer (tt, tt) ∷ map (cube_line task) layer

-- the lines of a far list
abbrev pub far_lines : Task → List CubeView → List Line
far_lines task list = spelled_line task k.Far (tt, tt) ∷ map (cube_line task) list

-- the line of a pair
abbrev pub pair_line : Task → Pair → Line
pair_line task pair = spelled_line task k.Pair (pair.act, (pair.outcome, (pair.layer, (pair.cube, (pair.cond, tt)))))

-- the line of a rule with this action, these targets and this condition
abbrev pub targets_line : Task → ℕ → RuleTargets → CubeView → Line
targets_line task act (One outcome target) cond = spelled_line task k.FairRule (act, (outcome, (target, (cond, tt))))
targets_line task act (All targets) cond = spelled_line task k.UnfairRule (act, (targets, (cond, tt)))

-- the line of a rule
abbrev pub rule_line : Task → Rule → Line
rule_line task rule = targets_line task rule.act rule.targets rule.cond

-- the line of an item with this way and this cube
abbrev pub way_line : Task → Way → CubeView → Line
way_line task ToGoal cube = spelled_line task k.GoalItem (cube, tt)
way_line task (ByRule rule numbers) cube = spelled_line task k.RuleItem (rule, (numbers, (cube, tt)))

-- the line of an item
abbrev pub item_line : Task → Item → Line
item_line task item = way_line task item.way item.cube

-- the line of an item with this way, this cube and this rank, which is not written for an item of goals
abbrev pub ranked_way_line : Task → Way → CubeView → ℕ → Line
ranked_way_line task ToGoal cube rank = spelled_line task k.GoalItem (cube, tt)
ranked_way_line task (ByRule rule numbers) cube rank = spelled_line task k.RankedItem (rule, (rank, (numbers, (cube, tt))))

-- the line of an item with its rank
abbrev pub ranked_line : Task → Item × ℕ → Line
ranked_line task entry = ranked_way_line task entry.0.way entry.0.cube entry.1

-- the line of a reach number
abbrev pub reach_line : Task → ℕ → Line
reach_line task reach = spelled_line task k.Reach (reach, tt)

-- the line of a start number
abbrev pub start_line : Task → ℕ → Line
start_line task start = spelled_line task k.Start (start, tt)

-- the line of a row
abbrev pub row_line : Task → TableRow → Line
row_line task row = spelled_line task k.Row (row.act, (row.cond, tt))

-- the last line
abbrev pub end_line : Task → Line
end_line task = spelled_line task k.End (tt, tt)

-- what one line of a group stands for, or the lines of a layer or a far list: a list of cubes, a cube, a pair, a rule, an item, a
-- number, a row, or an item with its rank
abbrev pub Entry : Group → Type 0
Entry g.Layer = List CubeView
Entry g.Cube = CubeView
Entry g.Pair = Pair
Entry g.Rule = Rule
Entry g.Item = Item
Entry g.Reach = ℕ
Entry g.Start = ℕ
Entry g.Row = TableRow
Entry g.Ranked = Item × ℕ
Entry g.Far = List CubeView
Entry g.FarCube = CubeView

-- the line of an entry; of a layer or a far list, its first line
abbrev pub entry_line : Task → (group : Group) → Entry group → Line
entry_line task g.Layer = λ layer. spelled_line task k.Layer (tt, tt)
entry_line task g.Cube = cube_line task
entry_line task g.Pair = pair_line task
entry_line task g.Rule = rule_line task
entry_line task g.Item = item_line task
entry_line task g.Reach = reach_line task
entry_line task g.Start = start_line task
entry_line task g.Row = row_line task
entry_line task g.Ranked = ranked_line task
entry_line task g.Far = λ list. spelled_line task k.Far (tt, tt)
entry_line task g.FarCube = cube_line task

-- layers or far lists, and after them the one that is being read, if there is one
abbrev pub with_current : List (List CubeView) → Option (List CubeView) → List (List CubeView)
with_current layers None = layers
with_current layers (Some layer) = layers ++ (layer ∷ [])

-- all layers of a draft
abbrev pub all_layers : Draft → List (List CubeView)
all_layers draft = with_current draft.layers draft.current

-- all far lists of a draft
abbrev pub all_far : Draft → List (List CubeView)
all_far draft = with_current draft.far draft.current_far

-- an optional value as a list
abbrev pub listed : {X : Type 0} → Option X → List X
listed None = []
listed (Some value) = value ∷ []

-- the entries of a group in a draft, in the order of their lines; the cubes are those of the layer or the far list that is being read
abbrev pub entries : (group : Group) → Draft → List (Entry group)
entries g.Layer draft = all_layers draft
entries g.Cube draft = option_map_or (λ (layer : List CubeView). layer) draft.current []
entries g.Pair draft = draft.pairs
entries g.Rule draft = draft.rules
entries g.Item draft = draft.items
entries g.Reach draft = listed draft.reach
entries g.Start draft = listed draft.start
entries g.Row draft = draft.rows
entries g.Ranked draft = draft.ranked
entries g.Far draft = all_far draft
entries g.FarCube draft = option_map_or (λ (list : List CubeView). list) draft.current_far []

-- the lines of a section of a draft, entry by entry; blocks are the far lists or the layers, with their cubes
abbrev pub section_lines : Task → Draft → Section → List Line
section_lines task draft (OneOf group) = map (entry_line task group) (entries group draft)
section_lines task draft (Any group) = map (entry_line task group) (entries group draft)
section_lines task draft (Few group) = map (entry_line task group) (entries group draft)
section_lines task draft (Blocks g.Far _) = flat_map (far_lines task) (all_far draft)
section_lines task draft (Blocks _ _) = flat_map (layer_lines task) (all_layers draft)

-- the lines of sections of a draft, section by section, and further lines after them
abbrev pub lines_then : Task → Draft → List Section → List Line → List Line
lines_then task draft [] further = further
lines_then task draft (section ∷ later) further = section_lines task draft section ++ lines_then task draft later further

-- the header of a text of a kind
abbrev pub header : Task → Kind → Line
header task (OfPolicy ByReach) = spelled_line task k.PolicyHeader (tt, tt)
header task (OfPolicy ByCover) = spelled_line task k.CoverHeader (tt, tt)
header task OfRefusal = spelled_line task k.RefusalHeader (tt, tt)
header task OfTable = spelled_line task k.TableHeader (tt, tt)
header task OfBest = spelled_line task k.BestHeader (tt, tt)

-- a draft without parts
abbrev pub no_parts : Draft
no_parts = record { layers = []; current = None; pairs = []; rules = []; items = []; reach = None; start = None; rows = []; ranked = []; far = []; current_far = None }

-- what a text spells: a certificate, a table or a certificate of least rank
pub data Content : Type 0 where
  certificate : Cert → Content
  table : List TableRow → Content
  best : BestCert → Content

-- the document of a content
abbrev pub document_of : Content → Document
document_of (Content.certificate cert) = Certificate
document_of (Content.table rows) = Table
document_of (Content.best cert) = Best

-- the parts of what a text spells, as a draft that has all of them
abbrev pub parts_of : Content → Draft
parts_of (Content.certificate (Policy layers pairs rules reach)) = record no_parts { layers = layers; pairs = pairs; rules = rules; reach = Some reach }
parts_of (Content.certificate (Refusal layers)) = record no_parts { layers = layers }
parts_of (Content.certificate (Covered layers pairs rules items start)) = record no_parts { layers = layers; pairs = pairs; rules = rules; items = items; start = Some start }
parts_of (Content.table rows) = record no_parts { rows = rows }
parts_of (Content.best cert) = record no_parts { layers = cert.layers; rules = cert.rules; ranked = zip cert.items cert.ranks; start = Some cert.start; far = cert.far }

-- the kind of a content: a policy with its sort of evidence, a refusal, a table, or a certificate of least rank
abbrev pub kind_of : Content → Kind
kind_of (Content.certificate (Policy layers pairs rules reach)) = OfPolicy ByReach
kind_of (Content.certificate (Refusal layers)) = OfRefusal
kind_of (Content.certificate (Covered layers pairs rules items start)) = OfPolicy ByCover
kind_of (Content.table rows) = OfTable
kind_of (Content.best cert) = OfBest

-- the lines of a content: its header, those of its sections, and the last line
abbrev pub content_lines : Task → Content → List Line
content_lines task content = header task (kind_of content) ∷ lines_then task (parts_of content) (sections (kind_of content)) (end_line task ∷ [])

-- the lines of a certificate
abbrev pub cert_lines : Task → Cert → List Line
cert_lines task cert = content_lines task (Content.certificate cert)

-- the lines of a table
abbrev pub table_lines : Task → List TableRow → List Line
table_lines task rows = content_lines task (Content.table rows)

-- the lines of a certificate of least rank
abbrev pub best_lines : Task → BestCert → List Line
best_lines task cert = content_lines task (Content.best cert)

-- the text of lines, each with a line feed after it
abbrev pub lines_text : List Line → List ℕ
lines_text lines = flat_map (λ line. line_text line ++ codes "\n") lines

-- the text of a certificate
abbrev pub spelling : Task → Cert → List ℕ
spelling task cert = lines_text (cert_lines task cert)

-- the text of a table
abbrev pub table_spelling : Task → List TableRow → List ℕ
table_spelling task rows = lines_text (table_lines task rows)

-- the text of a certificate of least rank
abbrev pub best_spelling : Task → BestCert → List ℕ
best_spelling task cert = lines_text (best_lines task cert)
