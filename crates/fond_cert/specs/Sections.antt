-- The sections of each kind of text, as data, and what is due after a line.
use Rattle.std.specs.Prelude.{ℕ, ◌+◌, ◌^◌, ◌&&◌, ◌==◌, nat_lt, Bool, true, false, if◌then◌else◌, List, [], ◌∷◌, drop, Option, Some, None}
use Rattle.fond_cert.specs.declared.due.Document.{Document}
use Rattle.fond_cert.specs.declared.due.Document.TheVariants.{Certificate, Table, Best}
use Rattle.fond_cert.specs.declared.due.Due.{Due}
use Rattle.fond_cert.specs.declared.due.Due.TheVariants.{Header as HeaderDue, Section as SectionDue, Nothing as NothingDue}
use Rattle.fond_cert.specs.declared.due.Evidence.TheVariants.{Reach as ByReach, Cover as ByCover}
use Rattle.fond_cert.specs.declared.due.Group.{Group}
use Rattle.fond_cert.specs.declared.due.Group.TheVariants as g
use Rattle.fond_cert.specs.declared.due.Kind.{Kind}
use Rattle.fond_cert.specs.declared.due.Kind.TheVariants.{Policy as OfPolicy, Refusal as OfRefusal, Table as OfTable, Best as OfBest}
use Rattle.fond_cert.specs.declared.due.Section.{Section}
use Rattle.fond_cert.specs.declared.due.Section.TheVariants.{One, Any, Few, Blocks}
use Rattle.fond_form.specs.declared.table.LineKind.{LineKind}
use Rattle.fond_form.specs.declared.table.LineKind.TheVariants as k

-- the sections of a text of a kind, between its header and its last line
abbrev pub sections : Kind → List Section
sections (OfPolicy ByReach) = Blocks g.Layer g.Cube ∷ Any g.Pair ∷ Few g.Rule ∷ One g.Reach ∷ []
sections (OfPolicy ByCover) = Blocks g.Layer g.Cube ∷ Any g.Pair ∷ Few g.Rule ∷ Few g.Item ∷ One g.Start ∷ []
sections OfRefusal = Blocks g.Layer g.Cube ∷ []
sections OfTable = Few g.Row ∷ []
sections OfBest = Blocks g.Layer g.Cube ∷ Few g.Rule ∷ Few g.Ranked ∷ One g.Start ∷ Blocks g.Far g.FarCube ∷ []

-- the document that texts of a kind spell
abbrev pub kind_document : Kind → Document
kind_document (OfPolicy evidence) = Certificate
kind_document OfRefusal = Certificate
kind_document OfTable = Table
kind_document OfBest = Best

-- whether a kind of line belongs to a group
abbrev pub is_in : Group → LineKind → Bool
is_in g.Layer k.Layer = true
is_in g.Cube k.Cube = true
is_in g.Pair k.Pair = true
is_in g.Rule k.FairRule = true
is_in g.Rule k.UnfairRule = true
is_in g.Item k.GoalItem = true
is_in g.Item k.RuleItem = true
is_in g.Reach k.Reach = true
is_in g.Start k.Start = true
is_in g.Row k.Row = true
is_in g.Ranked k.GoalItem = true
is_in g.Ranked k.RankedItem = true
is_in g.Far k.Far = true
is_in g.FarCube k.Cube = true
is_in group kind = false

-- what is due next, if this count is below 2^32
abbrev pub if_few : ℕ → Due → Option Due
if_few count due = if nat_lt count (2 ^ 32) then Some due else None

-- what is due after a line of a kind, if this section takes it: the section at this position, of which this many lines or blocks were
-- read (0 if there may be any number), the last block with this many inner lines
abbrev pub after_in : Section → Kind → ℕ → ℕ → ℕ → LineKind → Option Due
after_in (One group) cert at lines inner kind = if is_in group kind && lines == 0 then Some (SectionDue cert at 1 0) else None
after_in (Any group) cert at lines inner kind = if is_in group kind then Some (SectionDue cert at lines 0) else None
after_in (Few group) cert at lines inner kind = if is_in group kind then if_few (lines + 1) (SectionDue cert at (lines + 1) 0) else None
after_in (Blocks first second) cert at lines inner kind =
    if is_in first kind then if_few (lines + 1) (SectionDue cert at (lines + 1) 0)
    else if is_in second kind && nat_lt 0 lines then if_few (inner + 1) (SectionDue cert at lines (inner + 1))
    else None

-- whether a section may end after this many lines or blocks
abbrev pub may_end : Section → ℕ → Bool
may_end (One group) lines = lines == 1
may_end _ lines = true

-- what is due next, or else what a later section gives
abbrev pub or_later : Option Due → Option Due → Option Due
or_later (Some due) later = Some due
or_later None later = later

-- what is due after a line of a kind, by the first of these sections that takes it, if those before it may end; the last line comes
-- after sections that all may end
abbrev pub after_sections : Kind → ℕ → ℕ → ℕ → List Section → LineKind → Option Due
after_sections cert at lines inner [] k.End = Some NothingDue
after_sections cert at lines inner [] kind = None
after_sections cert at lines inner (section ∷ sections) kind =
    or_later (after_in section cert at lines inner kind) (if may_end section lines then after_sections cert (at + 1) 0 0 sections kind else None)

-- what is due after a line of a kind, if it is allowed at its place
abbrev pub due_after : Due → LineKind → Option Due
due_after (HeaderDue Certificate) k.PolicyHeader = Some (SectionDue (OfPolicy ByReach) 0 0 0)
due_after (HeaderDue Certificate) k.CoverHeader = Some (SectionDue (OfPolicy ByCover) 0 0 0)
due_after (HeaderDue Certificate) k.RefusalHeader = Some (SectionDue OfRefusal 0 0 0)
due_after (HeaderDue Table) k.TableHeader = Some (SectionDue OfTable 0 0 0)
due_after (HeaderDue Best) k.BestHeader = Some (SectionDue OfBest 0 0 0)
due_after (HeaderDue document) kind = None
due_after (SectionDue cert at lines inner) kind = after_sections cert at lines inner (drop at (sections cert)) kind
due_after NothingDue kind = None

-- the group of the line of a section that was read last, by the number of inner lines
abbrev pub group_in : Section → ℕ → Group
group_in (One group) inner = group
group_in (Any group) inner = group
group_in (Few group) inner = group
group_in (Blocks first second) inner = if inner == 0 then first else second

-- the group of the line of the first of some sections that was read last; if there is no section, any group
abbrev pub first_taker : List Section → ℕ → Group
first_taker [] inner = g.Layer
first_taker (section ∷ later) inner = group_in section inner

-- the group of the line after which this is due, if it is a line of a section
abbrev pub taker : Due → Group
taker (SectionDue cert at lines inner) = first_taker (drop at (sections cert)) inner
taker due = g.Layer
