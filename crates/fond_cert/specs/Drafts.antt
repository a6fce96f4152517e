-- Texts that were read in part.
use Rattle.std.specs.Prelude.{◌≡◌, ℕ, ◌-◌, ◌<◌, ◌^◌, nat_eq, Bool, true, false, ◌||◌, ⊤, List, [], ◌∷◌, ◌++◌, All, Some, None, length, drop}
use Rattle.std.specs.Option.{option_map}
use Rattle.fond_task.specs.declared.task.Task.{Task}
use Rattle.fond_task.specs.Layers.{CubeView}
use Rattle.fond_cert.specs.declared.draft.Draft.{Draft}
use Rattle.fond_form.specs.declared.table.LineKind.{LineKind}
use Rattle.fond_form.specs.declared.table.LineKind.TheVariants as k
use Rattle.fond_form.specs.Forms.{form, Line}
use Rattle.fond_layers.specs.Over.{IsOver}
use Rattle.fond_policy.specs.Belongs.{BelongAsLayers}
use Rattle.fond_policy.specs.declared.item.Item.{Item}
use Rattle.fond_cert.specs.Made.{IsMade}
use Rattle.fond_cert.specs.declared.due.Document.{Document}
use Rattle.fond_cert.specs.declared.due.Kind.{Kind}
use Rattle.fond_cert.specs.declared.due.Due.{Due}
use Rattle.fond_cert.specs.declared.due.Due.TheVariants.{Header as HeaderDue, Section as SectionDue, Nothing as NothingDue}
use Rattle.fond_cert.specs.declared.due.Group.{Group}
use Rattle.fond_cert.specs.declared.due.Group.TheVariants as g
use Rattle.fond_cert.specs.declared.due.Section.{Section}
use Rattle.fond_cert.specs.declared.due.Section.TheVariants.{One, Any, Few, Blocks}
use Rattle.fond_cert.specs.Sections.{sections, kind_document}
use Rattle.fond_cert.specs.Items.{IsReadPair, IsReadRule, IsReadItem, IsReadRanked, IsRowOf}
use Rattle.fond_cert.specs.Filled.{pair_of, fair_of, unfair_of, goal_item_of, rule_item_of, ranked_item_of, row_of}
use Rattle.fond_cert.specs.Spellings.{Meanings, Entry, all_layers, all_far, entries, lines_then, header, no_parts, Content, document_of, parts_of, content_lines}

-- the lines of a draft between the header and the last line of a text of this kind
abbrev pub draft_lines : Task → Kind → Draft → List Line
draft_lines task kind draft = lines_then task draft (sections kind) []

-- the order in which groups come; cubes are parts of layers or of far lists, and items with ranks come after rules, as items do
abbrev pub order : Group → ℕ
order g.Layer = 0
order g.Cube = 0
order g.Pair = 10
order g.Rule = 20
order g.Item = 30
order g.Reach = 40
order g.Start = 50
order g.Row = 60
order g.Ranked = 29
order g.Far = 70
order g.FarCube = 70

-- whether the lines of a group are no parts of blocks
abbrev pub is_plain : Group → Bool
is_plain g.Layer = false
is_plain g.Cube = false
is_plain g.Far = false
is_plain g.FarCube = false
is_plain group = true

-- whether a group is that of a section of few lines, fewer than 2^32
abbrev pub is_few : Group → Bool
is_few g.Rule = true
is_few g.Item = true
is_few g.Row = true
is_few g.Ranked = true
is_few group = false

-- how many entries of a group a draft has
abbrev pub count_of : Group → Draft → ℕ
count_of group draft = length (entries group draft)

-- an entry of a group belongs to a task, and its numbers are small
abbrev pub IsEntryOf : Task → (group : Group) → Entry group → Type 0
IsEntryOf task g.Layer layer = IsOver (length task.atoms) layer
IsEntryOf task g.Cube cube = length cube ≡ length task.atoms
IsEntryOf task g.Pair pair = IsReadPair task pair
IsEntryOf task g.Rule rule = IsReadRule task rule
IsEntryOf task g.Item item = IsReadItem task item
IsEntryOf task g.Reach reach = reach < 2 ^ 64
IsEntryOf task g.Start start = start < 2 ^ 32
IsEntryOf task g.Row row = IsRowOf task row
IsEntryOf task g.Ranked entry = IsReadRanked task entry
IsEntryOf task g.Far list = IsOver (length task.atoms) list
IsEntryOf task g.FarCube cube = length cube ≡ length task.atoms

-- entries of a group belong to a task: each does, and of a group of few lines there are fewer than 2^32
abbrev pub AreEntriesOf : Task → (group : Group) → List (Entry group) → Type 0
AreEntriesOf task group some = All (IsEntryOf task group) some × (is_few group ≡ true → length some < 2 ^ 32)

-- a draft belongs to a task: its layers and its far lists do, and so do the entries of each group of other lines
pub record IsDraftOf (task : Task) (draft : Draft) : Type 0 where
  pub layers : BelongAsLayers task (all_layers draft)
  pub far : BelongAsLayers task (all_far draft)
  pub parts : (group : Group) → is_plain group ≡ true → AreEntriesOf task group (entries group draft)

-- there are fewer than 2^32 lists of cubes, each of fewer than 2^32
abbrev pub AreFew : List (List CubeView) → Type 0
AreFew lists = (length lists < 2 ^ 32) × All (λ (list : List CubeView). length list < 2 ^ 32) lists

-- the layer and the far list that are being read have room among those that are all read
abbrev pub CanClose : Draft → Type 0
CanClose draft = AreFew (all_layers draft) × AreFew (all_far draft)

-- a draft with its current layer and its current far list, if there are such, put after those that are all read
abbrev pub closed : Draft → Draft
closed draft = record draft { layers = all_layers draft; current = None; far = all_far draft; current_far = None }

-- a draft with an entry of a group added: a cube goes into the layer or the far list that is being read, if there is one; any other entry
-- closes these first, and a layer or a far list is then the one that is being read; a reach or start number replaces an earlier one
abbrev pub with_entry : (group : Group) → Draft → Entry group → Draft
with_entry g.Layer draft layer = record (closed draft) { current = Some layer }
with_entry g.Cube draft cube = record draft { current = option_map (λ (layer : List CubeView). layer ++ (cube ∷ [])) draft.current }
with_entry g.Pair draft pair = record (closed draft) { pairs = draft.pairs ++ (pair ∷ []) }
with_entry g.Rule draft rule = record (closed draft) { rules = draft.rules ++ (rule ∷ []) }
with_entry g.Item draft item = record (closed draft) { items = draft.items ++ (item ∷ []) }
with_entry g.Reach draft reach = record (closed draft) { reach = Some reach }
with_entry g.Start draft start = record (closed draft) { start = Some start }
with_entry g.Row draft row = record (closed draft) { rows = draft.rows ++ (row ∷ []) }
with_entry g.Ranked draft entry = record (closed draft) { ranked = draft.ranked ++ (entry ∷ []) }
with_entry g.Far draft list = record (closed draft) { current_far = Some list }
with_entry g.FarCube draft cube = record draft { current_far = option_map (λ (list : List CubeView). list ++ (cube ∷ [])) draft.current_far }

-- a draft with a cube of a far list, or else of a layer
abbrev pub with_cube : Group → Draft → CubeView → Draft
with_cube g.FarCube draft cube = with_entry g.FarCube draft cube
with_cube group draft cube = with_entry g.Cube draft cube

-- a draft with an item of goals as a ranked item, or else as an item of a certificate
abbrev pub with_goal_item : Group → Draft → Item → Draft
with_goal_item g.Ranked draft item = with_entry g.Ranked draft (item, 0)
with_goal_item group draft item = with_entry g.Item draft item

-- a draft with what a line of a kind makes of these meanings, as one of a group; a header or the last line adds nothing and closes the
-- layer and the far list that are being read
abbrev pub grown : Group → Draft → (kind : LineKind) → Meanings (form kind) → Draft
grown group draft k.Layer meanings = with_entry g.Layer draft []
grown group draft k.Cube meanings = with_cube group draft meanings.0
grown group draft k.Pair meanings = with_entry g.Pair draft (pair_of meanings)
grown group draft k.FairRule meanings = with_entry g.Rule draft (fair_of meanings)
grown group draft k.UnfairRule meanings = with_entry g.Rule draft (unfair_of meanings)
grown group draft k.GoalItem meanings = with_goal_item group draft (goal_item_of meanings)
grown group draft k.RuleItem meanings = with_entry g.Item draft (rule_item_of meanings)
grown group draft k.Reach meanings = with_entry g.Reach draft meanings.0
grown group draft k.Start meanings = with_entry g.Start draft meanings.0
grown group draft k.Row meanings = with_entry g.Row draft (row_of meanings)
grown group draft k.RankedItem meanings = with_entry g.Ranked draft (ranked_item_of meanings)
grown group draft k.Far meanings = with_entry g.Far draft []
grown group draft kind meanings = closed draft

-- a text is a line of a kind that is not refused, and makes one draft of another, as one of a group
abbrev pub IsGrown : Task → Group → LineKind → List ℕ → Draft → Draft → Type 0
IsGrown task group kind text before after = (meanings : Meanings (form kind)) × IsMade task kind text meanings × (after ≡ grown group before kind meanings)

-- the order of a section: that of its group, or of the first
abbrev pub order_of : Section → ℕ
order_of (One group) = order group
order_of (Any group) = order group
order_of (Few group) = order group
order_of (Blocks first second) = order first

-- whether one of some sections has this order
abbrev pub has_order : ℕ → List Section → Bool
has_order n [] = false
has_order n (section ∷ sections) = nat_eq (order_of section) n || has_order n sections

-- a draft has no lines of groups that texts of this kind do not have
abbrev pub HasOnly : Kind → Draft → Type 0
HasOnly kind draft = (group : Group) → has_order (order group) (sections kind) ≡ false → count_of group draft ≡ 0

-- a draft has no lines of groups that come after a section
abbrev pub HasNoneAfter : Section → Draft → Type 0
HasNoneAfter section draft = (group : Group) → order_of section < order group → count_of group draft ≡ 0

-- the counts of a section are those of a draft: of its lines, unless there may be any number; or of its blocks, all complete but the last,
-- and of the inner lines of the last; far lists come after a start number
abbrev pub IsCounted : Section → Draft → ℕ → ℕ → Type 0
IsCounted (One group) draft lines inner = count_of group draft ≡ lines
IsCounted (Any group) draft lines inner = ⊤
IsCounted (Few group) draft lines inner = count_of group draft ≡ lines
IsCounted (Blocks g.Far second) draft lines inner = (count_of g.Far draft ≡ lines) × (count_of second draft ≡ inner) × (length draft.far ≡ lines - 1) × (count_of g.Start draft ≡ 1)
IsCounted (Blocks first second) draft lines inner = (count_of first draft ≡ lines) × (count_of second draft ≡ inner) × (length draft.layers ≡ lines - 1)

-- a draft has the counts of the first of some sections, and no lines after it
abbrev pub HasReached : List Section → Draft → ℕ → ℕ → Type 0
HasReached [] draft lines inner = ⊥
HasReached (section ∷ later) draft lines inner = IsCounted section draft lines inner × HasNoneAfter section draft

-- a draft of a document has these lines, the counts of the section that is due, and no lines that may not precede what is due; if
-- nothing is due, it has the parts and the lines of a content of this document
abbrev pub FitsDue : Document → Task → Due → Draft → List Line → Type 0
FitsDue document task (HeaderDue own) draft lines = (draft ≡ no_parts) × (lines ≡ []) × (own ≡ document)
FitsDue document task (SectionDue kind at count inner) draft lines =
    (lines ≡ header task kind ∷ draft_lines task kind draft) × HasOnly kind draft × HasReached (drop at (sections kind)) draft count inner × (kind_document kind ≡ document)
FitsDue document task NothingDue draft lines = (content : Content) × (draft ≡ parts_of content) × (lines ≡ content_lines task content) × (document_of content ≡ document)

-- a draft has room for the rule, the item or the row that a line of a kind makes as one of a group, if it makes one
abbrev pub HasRoom : Group → LineKind → Draft → Type 0
HasRoom group k.FairRule draft = length draft.rules < 2 ^ 32 - 1
HasRoom group k.UnfairRule draft = length draft.rules < 2 ^ 32 - 1
HasRoom g.Ranked k.GoalItem draft = length draft.ranked < 2 ^ 32 - 1
HasRoom group k.GoalItem draft = length draft.items < 2 ^ 32 - 1
HasRoom group k.RuleItem draft = length draft.items < 2 ^ 32 - 1
HasRoom group k.RankedItem draft = length draft.ranked < 2 ^ 32 - 1
HasRoom group k.Row draft = length draft.rows < 2 ^ 32 - 1
HasRoom group kind draft = ⊤
