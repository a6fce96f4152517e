-- The lines of a certificate, a table or a certificate of least rank that belongs to a task lead from the header to the end, and none is
-- refused.
use Rattle.std.proofs.Common.{◌≡◌, ℕ, ◌+◌, ◌<◌, ◌≤◌, ◌^◌, ◌∙◌, nat_lt, Bool, true, false, List, [], ◌∷◌, ◌++◌, Some, None, All as Each, length, map, drop, get_or, refl, sym, ap, arith, append_assoc}
use Rattle.std.proofs.lemmas.Bool.Decides.{nat_tests}
use Rattle.std.proofs.lemmas.List.{drop-drop}
use Rattle.std.specs.Prelude.{⊤}
use Rattle.std.specs.List.{flat_map, zip}
use Rattle.std.proofs.lemmas.List.Elements.{All-head, All-tail, All-cons, All-nil}
use Rattle.std.proofs.lemmas.Option.{slice_get-get_or}
use Rattle.fond_task.specs.declared.task.Task.{Task}
use Rattle.fond_task.specs.Layers.{CubeView}
use Rattle.fond_task.specs.declared.rule.Pair.{Pair}
use Rattle.fond_task.specs.declared.rule.Rule.{Rule}
use Rattle.fond_task.specs.declared.rule.Target.{Target}
use Rattle.fond_task.specs.declared.rule.Targets.{Targets}
use Rattle.fond_task.specs.declared.rule.Targets.TheVariants.{One, All}
use Rattle.fond_policy.specs.declared.item.Item.{Item}
use Rattle.fond_policy.specs.declared.item.Way.{Way}
use Rattle.fond_policy.specs.declared.item.Way.TheVariants.{Goal as ToGoal, Rule as ByRule}
use Rattle.fond_policy.specs.declared.best.BestCert.{BestCert}
use Rattle.fond_policy.specs.declared.cert.Cert.{Cert}
use Rattle.fond_policy.specs.declared.cert.Cert.TheVariants.{Policy, Refusal, Covered}
use Rattle.fond_rules.specs.declared.table.TableRow.{TableRow}
use Rattle.fond_rules.specs.Tables.{BelongAsRows}
use Rattle.fond_policy.specs.Belongs.{Belongs, BelongAsLayers, BelongAsPairs, BelongAsRules, BelongAsItems, BelongsAsBest}
use Rattle.fond_policy.specs.Sizes.{IsSmallPair, AreSmallTargets, IsSmallWay, HasSmallNumbers}
use Rattle.fond_form.specs.declared.table.LineKind.{LineKind}
use Rattle.fond_form.specs.declared.table.LineKind.TheVariants as k
use Rattle.fond_form.specs.Forms.{form, Line, IsProper}
use Rattle.fond_cert.specs.declared.due.Document.{Document}
use Rattle.fond_cert.specs.declared.due.Document.TheVariants.{Certificate, Table, Best}
use Rattle.fond_cert.specs.declared.due.Evidence.TheVariants.{Reach as ByReach, Cover as ByCover}
use Rattle.fond_cert.specs.declared.due.Kind.{Kind}
use Rattle.fond_cert.specs.declared.due.Kind.TheVariants.{Policy as OfPolicy, Refusal as OfRefusal, Table as OfTable, Best as OfBest}
use Rattle.fond_cert.specs.declared.due.Due.{Due}
use Rattle.fond_cert.specs.declared.due.Due.TheVariants.{Header as HeaderDue, Section as SectionDue, Nothing as NothingDue}
use Rattle.fond_cert.specs.declared.due.Group.{Group}
use Rattle.fond_cert.specs.declared.due.Group.TheVariants as g
use Rattle.fond_cert.specs.declared.due.Section.{Section}
use Rattle.fond_cert.specs.declared.due.Section.TheVariants.{One as OneOf, Any, Few, Blocks}
use Rattle.fond_cert.specs.declared.draft.Draft.{Draft}
use Rattle.fond_cert.specs.Drafts.{is_plain, order, order_of, count_of, IsEntryOf, AreEntriesOf, IsDraftOf}
use Rattle.fond_cert.specs.Faults.{Lead}
use Rattle.fond_cert.specs.Sections.{sections, is_in, after_in, may_end, due_after}
use Rattle.fond_cert.proofs.Befores.{rank, IsKnown, AreKnown, all_known}
use Rattle.fond_cert.specs.Items.{IsReadPair, IsReadRule, IsReadItem, IsReadRanked, IsRowOf}
use Rattle.fond_cert.specs.Spellings.{Meanings, AreOfTask, spelled_line, cube_line, layer_lines, far_lines, targets_line, way_line, ranked_way_line, end_line, Entry, entry_line, all_layers, all_far, entries, lines_then, Content, parts_of, cert_lines, table_lines, best_lines}
use Rattle.fond_cert.specs.Words.{line_refusal}
use Rattle.fond_cert.proofs.Leads.{few}
use Rattle.fond_cert.proofs.Meanings.{line_good}
use Rattle.fond_cert.specs.Smalls.{HasSmallBest}
use Rattle.fond_cert.proofs.Zipped.{zip_long, all_at, all_zipped}
use Rattle.fond_cert.proofs.Wholes.{no_layers_of, nothing_of}

-- the rank of the first line
abbrev pub first_rank : List Line → ℕ
first_rank [] = 107
first_rank (line ∷ lines) = rank line.kind

-- the rank of the lines of a group of lines that are no parts of blocks
abbrev pub rank_in : Group → ℕ
rank_in g.Ranked = 31
rank_in group = order group + 1

-- a line of a kind is allowed where one thing is due, and another is due after it
abbrev Allows : Due → Due → LineKind → Type 0
Allows due next kind = due_after due kind ≡ Some next

-- the rank of a line of a group of lines that are no parts of blocks: items of goals may be of two groups
in_order : (group : Group) (kind : LineKind) → is_plain group ≡ true → is_in group kind ≡ true → rank kind ≡ rank_in group
in_order g.Layer kind plain is = absurd (cc)
in_order g.Cube kind plain is = absurd (cc)
in_order g.Far kind plain is = absurd (cc)
in_order g.FarCube kind plain is = absurd (cc)
in_order g.Pair k.Pair plain is = refl
in_order g.Rule k.FairRule plain is = refl
in_order g.Rule k.UnfairRule plain is = refl
in_order g.Item k.GoalItem plain is = refl
in_order g.Item k.RuleItem plain is = refl
in_order g.Reach k.Reach plain is = refl
in_order g.Start k.Start plain is = refl
in_order g.Row k.Row plain is = refl
in_order g.Ranked k.GoalItem plain is = refl
in_order g.Ranked k.RankedItem plain is = refl
in_order group kind plain is = absurd (cc)

pub rank_within : (group : Group) → (order group < rank_in group) × (rank_in group ≤ order group + 2)
rank_within g.Ranked = (omega arith, omega arith)
rank_within group = (omega arith, omega arith)

-- a line above the rank of a group is not in it
not_in : (group : Group) (kind : LineKind) → is_plain group ≡ true → order group + 2 < rank kind → is_in group kind ≡ false
not_in group kind plain above = by (is_in group kind) refl
  where
    by : (found : Bool) → is_in group kind ≡ found → is_in group kind ≡ false
    by true e = absurd (omega (arith, above, in_order group kind plain e, (rank_within group).1))
    by false e = e

not_layer : (kind : LineKind) → 1 < rank kind → (is_in g.Layer kind ≡ false) × (is_in g.Cube kind ≡ false)
not_layer k.Layer above = absurd (omega (arith, above))
not_layer k.Cube above = absurd (omega (arith, above))
not_layer kind above = (refl, refl)

not_far : (kind : LineKind) → 71 < rank kind → (is_in g.Far kind ≡ false) × (is_in g.FarCube kind ≡ false)
not_far k.Far above = absurd (omega (arith, above))
not_far k.Cube above = absurd (omega (arith, above))
not_far kind above = (refl, refl)

pub low_order : (group : Group) → order group < 90
low_order g.Layer = omega arith
low_order group = omega arith

module _ (task : Task) where
  -- a line is proper and not refused
  abbrev IsGood : Line → Type 0
  IsGood line = IsProper line × (line_refusal task line ≡ None)

  -- the meanings of pairs, rules, items and rows that were read belong to the task

  pub pair_means : (pair : Pair) → IsReadPair task pair → AreOfTask task (form k.Pair) (pair.act, (pair.outcome, (pair.layer, (pair.cube, (pair.cond, tt)))))
  pair_means pair h = (h.1, (h.2.0, (h.2.1, (h.2.2, (h.0, tt)))))

  pub fair_means : (act outcome : ℕ) (target : Target) (cond : CubeView) → IsReadRule task (record { cond = cond; act = act; targets = One outcome target }) → AreOfTask task (form k.FairRule) (act, (outcome, (target, (cond, tt))))
  fair_means act outcome target cond h = (h.1, (h.3.0, (h.3.1, (h.0, tt))))

  pub unfair_means : (act : ℕ) (targets : List Target) (cond : CubeView) → IsReadRule task (record { cond = cond; act = act; targets = All targets }) → AreOfTask task (form k.UnfairRule) (act, (targets, (cond, tt)))
  unfair_means act targets cond h = (h.1, ((h.2, h.3), (h.0, tt)))

  pub goal_means : (cube : CubeView) → IsReadItem task (record { cube = cube; way = ToGoal }) → AreOfTask task (form k.GoalItem) (cube, tt)
  goal_means cube h = (h.0, tt)

  pub way_means : (rule : ℕ) (numbers : List ℕ) (cube : CubeView) → IsReadItem task (record { cube = cube; way = ByRule rule numbers }) → AreOfTask task (form k.RuleItem) (rule, (numbers, (cube, tt)))
  way_means rule numbers cube h = (h.2.0, ((h.1, h.2.1), (h.0, tt)))

  pub ranked_means : (rule rank : ℕ) (numbers : List ℕ) (cube : CubeView) → IsReadRanked task (record { cube = cube; way = ByRule rule numbers }, rank) → AreOfTask task (form k.RankedItem) (rule, (rank, (numbers, (cube, tt))))
  ranked_means rule rank numbers cube h = (h.0.2.0, (h.1, ((h.0.1, h.0.2.1), (h.0.0, tt))))

  pub row_means : (row : TableRow) → IsRowOf task row → AreOfTask task (form k.Row) (row.act, (row.cond, tt))
  row_means row h = (h.1, (h.0, tt))

  choice_good : (act : ℕ) (targets : Targets) (cond : CubeView) → IsReadRule task (record { cond = cond; act = act; targets = targets }) → IsGood (targets_line task act targets cond)
  choice_good act (One outcome target) cond h = line_good task k.FairRule (act, (outcome, (target, (cond, tt)))) (fair_means act outcome target cond h)
  choice_good act (All targets) cond h = line_good task k.UnfairRule (act, (targets, (cond, tt))) (unfair_means act targets cond h)

  way_good : (way : Way) (cube : CubeView) → IsReadItem task (record { cube = cube; way = way }) → IsGood (way_line task way cube)
  way_good ToGoal cube h = line_good task k.GoalItem (cube, tt) (goal_means cube h)
  way_good (ByRule rule numbers) cube h = line_good task k.RuleItem (rule, (numbers, (cube, tt))) (way_means rule numbers cube h)

  ranked_good : (way : Way) (cube : CubeView) (rank : ℕ) → IsReadRanked task (record { cube = cube; way = way }, rank) → IsGood (ranked_way_line task way cube rank)
  ranked_good ToGoal cube rank h = line_good task k.GoalItem (cube, tt) (goal_means cube h.0)
  ranked_good (ByRule rule numbers) cube rank h = line_good task k.RankedItem (rule, (rank, (numbers, (cube, tt)))) (ranked_means rule rank numbers cube h)

  -- the line of an entry is good
  entry_good : (group : Group) (entry : Entry group) → IsEntryOf task group entry → IsGood (entry_line task group entry)
  entry_good g.Layer layer h = line_good task k.Layer (tt, tt) (tt, tt)
  entry_good g.Cube cube h = line_good task k.Cube (cube, tt) (h, tt)
  entry_good g.Pair pair h = line_good task k.Pair (pair.act, (pair.outcome, (pair.layer, (pair.cube, (pair.cond, tt))))) (pair_means pair h)
  entry_good g.Rule rule h = choice_good rule.act rule.targets rule.cond h
  entry_good g.Item item h = way_good item.way item.cube h
  entry_good g.Reach reach h = line_good task k.Reach (reach, tt) (h, tt)
  entry_good g.Start start h = line_good task k.Start (start, tt) (h, tt)
  entry_good g.Row row h = line_good task k.Row (row.act, (row.cond, tt)) (row_means row h)
  entry_good g.Ranked entry h = ranked_good entry.0.way entry.0.cube entry.1 h
  entry_good g.Far list h = line_good task k.Far (tt, tt) (tt, tt)
  entry_good g.FarCube cube h = line_good task k.Cube (cube, tt) (h, tt)

  choice_in : (act : ℕ) (targets : Targets) (cond : CubeView) → is_in g.Rule (targets_line task act targets cond).kind ≡ true
  choice_in act (One outcome target) cond = refl
  choice_in act (All targets) cond = refl

  way_in : (way : Way) (cube : CubeView) → is_in g.Item (way_line task way cube).kind ≡ true
  way_in ToGoal cube = refl
  way_in (ByRule number numbers) cube = refl

  ranked_in : (way : Way) (cube : CubeView) (rank : ℕ) → is_in g.Ranked (ranked_way_line task way cube rank).kind ≡ true
  ranked_in ToGoal cube rank = refl
  ranked_in (ByRule number numbers) cube rank = refl

  -- the line of an entry is in the entry's group
  entry_in : (group : Group) (entry : Entry group) → is_in group (entry_line task group entry).kind ≡ true
  entry_in g.Rule rule = choice_in rule.act rule.targets rule.cond
  entry_in g.Item item = way_in item.way item.cube
  entry_in g.Ranked entry = ranked_in entry.0.way entry.0.cube entry.1
  entry_in group entry = refl

  pub entry_rank : (group : Group) → is_plain group ≡ true → (entry : Entry group) → rank (entry_line task group entry).kind ≡ rank_in group
  entry_rank group after entry = in_order group (entry_line task group entry).kind after (entry_in group entry)

  -- a good line that is allowed, and lines that lead on from it
  good_lead : (due next end : Due) (line : Line) (lines : List Line) → IsGood line → Allows due next line.kind → Lead task next lines end → Lead task due (line ∷ lines) end
  good_lead due next end line lines good allowed lead = (good.0, good.1, (next, allowed, lead))

  -- the lines of a section lead to the end if those after them do, which begin with a line of a later section
  module _ (cert : Kind) (at : ℕ) (section : Section) (later : List Section) (there : drop at (sections cert) ≡ section ∷ later) (known : IsKnown section) where
    not_taken : (section : Section) (lines inner : ℕ) (kind : LineKind) → IsKnown section → order_of section + 2 < rank kind → after_in section cert at lines inner kind ≡ None
    not_taken (OneOf group) lines inner kind known above = rw (not_in group kind known.0 above) refl
    not_taken (Any group) lines inner kind known above = rw (not_in group kind known.0 above) refl
    not_taken (Few group) lines inner kind known above = rw (not_in group kind known.0 above) refl
    not_taken (Blocks g.Layer g.Cube) lines inner kind known above = let apart = not_layer kind (omega (arith, above)) in rw (apart.0, apart.1) refl
    not_taken (Blocks g.Far g.FarCube) lines inner kind known above = let apart = not_far kind (omega (arith, above)) in rw (apart.0, apart.1) refl
    not_taken (Blocks first second) lines inner kind known above = absurd known

    skip : (lines inner : ℕ) (rest : List Line) → may_end section lines ≡ true → order_of section + 2 < first_rank rest → Lead task (SectionDue cert (at + 1) 0 0) rest NothingDue → Lead task (SectionDue cert at lines inner) rest NothingDue
    skip lines inner [] ends above lead = absurd (cc)
    skip lines inner (line ∷ rest) ends above lead =
        let tail : drop (at + 1) (sections cert) ≡ later = sym (drop-drop 1 at (sections cert)) ∙ ap (drop 1) there in
        let same : due_after (SectionDue cert at lines inner) line.kind ≡ due_after (SectionDue cert (at + 1) 0 0) line.kind = rw (there, tail, not_taken section lines inner line.kind known above, ends) refl in
        (lead.0, lead.1, (lead.2.0, same ∙ lead.2.1, lead.2.2))

    takes : (lines inner : ℕ) (next : Due) (line : Line) (rest : List Line) → IsGood line → after_in section cert at lines inner line.kind ≡ Some next → Lead task next rest NothingDue → Lead task (SectionDue cert at lines inner) (line ∷ rest) NothingDue
    takes lines inner next line rest good allowed lead = good_lead (SectionDue cert at lines inner) next NothingDue line rest good (rw (there, allowed) refl) lead

    -- lines of entries after each of which this many are counted; there are fewer than a bound
    module _ (group : Group) (counts : ℕ → ℕ) (bound : ℕ) (ends : (lines : ℕ) → may_end section lines ≡ true)
        (next : (kind : LineKind) (count : ℕ) → is_in group kind ≡ true → count + 1 < bound → after_in section cert at (counts count) 0 kind ≡ Some (SectionDue cert at (counts (count + 1)) 0)) where
      entries_lead : (count : ℕ) (xs : List (Entry group)) (rest : List Line) → count + length xs < bound → Each (IsEntryOf task group) xs → order_of section + 2 < first_rank rest → Lead task (SectionDue cert (at + 1) 0 0) rest NothingDue →
          Lead task (SectionDue cert at (counts count) 0) (map (entry_line task group) xs ++ rest) NothingDue
      entries_lead count [] rest small h above lead = skip (counts count) 0 rest (ends (counts count)) above lead
      entries_lead count (x ∷ xs) rest small h above lead =
          takes (counts count) 0 (SectionDue cert at (counts (count + 1)) 0) (entry_line task group x) (map (entry_line task group) xs ++ rest) (entry_good group x (All-head (IsEntryOf task group) x xs h))
          (next (entry_line task group x).kind count (entry_in group x) (omega (arith, small)))
          (entries_lead (count + 1) xs rest (omega (arith, small)) (All-tail (IsEntryOf task group) x xs h) above lead)

  abbrev IsCubeOf : CubeView → Type 0
  IsCubeOf cube = length cube ≡ length task.atoms

  -- a layer is over the atoms of the task, and has fewer than 2^32 cubes
  abbrev IsLayerOf : List CubeView → Type 0
  IsLayerOf layer = (length layer < 2 ^ 32) × Each IsCubeOf layer

  -- the lines of lists of cubes, each of which begins with a line of this kind
  abbrev pub blocks_lines : Line → List (List CubeView) → List Line
  blocks_lines head lists = flat_map (λ (list : List CubeView). head ∷ map (cube_line task) list) lists

  module _ (cert : Kind) (at : ℕ) (first second : Group) (later : List Section) (there : drop at (sections cert) ≡ Blocks first second ∷ later) (known : IsKnown (Blocks first second)) (head : Line) (good : IsGood head) (begins : is_in first head.kind ≡ true)
      (no_head : is_in first k.Cube ≡ false) (goes_on : is_in second k.Cube ≡ true) where
    cubes_lead : (count inner : ℕ) (cubes : List CubeView) (rest : List Line) → inner + length cubes < 2 ^ 32 → Each IsCubeOf cubes → ((inner : ℕ) → Lead task (SectionDue cert at (count + 1) inner) rest NothingDue) →
        Lead task (SectionDue cert at (count + 1) inner) (map (cube_line task) cubes ++ rest) NothingDue
    cubes_lead count inner [] rest room h lead = lead inner
    cubes_lead count inner (cube ∷ cubes) rest room h lead =
        let some : nat_lt 0 (count + 1) ≡ true = grind (arith, nat_tests) in
        takes cert at (Blocks first second) later there known (count + 1) inner (SectionDue cert at (count + 1) (inner + 1)) (cube_line task cube) (map (cube_line task) cubes ++ rest) (line_good task k.Cube (cube, tt) (All-head IsCubeOf cube cubes h, tt))
        (rw (no_head, goes_on, some) (few (inner + 1) (SectionDue cert at (count + 1) (inner + 1)) (omega (arith, room)))) (cubes_lead count (inner + 1) cubes rest (omega (arith, room)) (All-tail IsCubeOf cube cubes h) lead)

    blocks_lead : (count inner : ℕ) (lists : List (List CubeView)) (rest : List Line) → count + length lists < 2 ^ 32 → Each IsLayerOf lists → order first + 2 < first_rank rest → Lead task (SectionDue cert (at + 1) 0 0) rest NothingDue →
        Lead task (SectionDue cert at count inner) (blocks_lines head lists ++ rest) NothingDue
    blocks_lead count inner [] rest room h above lead = skip cert at (Blocks first second) later there known count inner rest refl above lead
    blocks_lead count inner (list ∷ lists) rest room h above lead =
        let one = All-head IsLayerOf list lists h in
        rw (append_assoc (map (cube_line task) list) (blocks_lines head lists) rest)
        (takes cert at (Blocks first second) later there known count inner (SectionDue cert at (count + 1) 0) head (map (cube_line task) list ++ (blocks_lines head lists ++ rest))
        good (rw begins (few (count + 1) (SectionDue cert at (count + 1) 0) (omega (arith, room))))
        (cubes_lead count 0 list (blocks_lines head lists ++ rest) (omega (arith, one.0)) one.1
        (λ inner. blocks_lead (count + 1) inner lists rest (omega (arith, room)) (All-tail IsLayerOf list lists h) above lead)))

    blocks_first : (lists : List (List CubeView)) (rest : List Line) → BelongAsLayers task lists → order first + 2 < first_rank rest → Lead task (SectionDue cert (at + 1) 0 0) rest NothingDue → Lead task (SectionDue cert at 0 0) (blocks_lines head lists ++ rest) NothingDue
    blocks_first lists rest h above lead = blocks_lead 0 0 lists rest (omega (arith, h.few)) (λ k d lt. (h.few_cubes k d lt, h.over k d lt)) above lead

  end_lead : (due : Due) → Allows due NothingDue k.End → Lead task due (end_line task ∷ []) NothingDue
  end_lead due allowed = good_lead due NothingDue NothingDue (end_line task) [] (line_good task k.End (tt, tt) (tt, tt)) allowed refl

  -- lines of entries with others after them begin with a line above a rank if the others do
  first_above : (group : Group) (least : ℕ) (xs : List (Entry group)) (rest : List Line) → is_plain group ≡ true → least ≤ order group → least < first_rank rest → least < first_rank (map (entry_line task group) xs ++ rest)
  first_above group least [] rest after below above = above
  first_above group least (x ∷ xs) rest after below above = omega (arith, entry_rank group after x, (rank_within group).0, below)

  first_far : (least : ℕ) (lists : List (List CubeView)) (rest : List Line) → least ≤ 70 → least < first_rank rest → least < first_rank (flat_map (far_lines task) lists ++ rest)
  first_far least [] rest below above = above
  first_far least (list ∷ lists) rest below above = omega (arith, below)

  -- the lines of sections begin with one above the rank of those before them
  pub sections_above : (draft : Draft) (least : ℕ) (rest : List Section) → AreKnown least rest → 0 < least → least ≤ 100 → least < first_rank (lines_then task draft rest (end_line task ∷ []))
  sections_above draft least [] known some low = omega (arith, low)
  sections_above draft least (OneOf group ∷ later) known some low = first_above group least (entries group draft) _ known.0.0 known.1 (omega (arith, known.1, sections_above draft (order group + 2) later known.2 (omega arith) (omega (arith, low_order group))))
  sections_above draft least (Any group ∷ later) known some low = first_above group least (entries group draft) _ known.0.0 known.1 (omega (arith, known.1, sections_above draft (order group + 2) later known.2 (omega arith) (omega (arith, low_order group))))
  sections_above draft least (Few group ∷ later) known some low = first_above group least (entries group draft) _ known.0.0 known.1 (omega (arith, known.1, sections_above draft (order group + 2) later known.2 (omega arith) (omega (arith, low_order group))))
  sections_above draft least (Blocks g.Layer g.Cube ∷ later) known some low = absurd (omega (arith, some, known.1))
  sections_above draft least (Blocks g.Far g.FarCube ∷ later) known some low =
      first_far least (all_far draft) _ known.1 (omega (arith, known.1, sections_above draft 72 later known.2 (omega arith) (omega arith)))
  sections_above draft least (Blocks first second ∷ later) known some low = absurd known.0

  -- a draft has one number of each group of which there is one
  abbrev HasSingles : Draft → List Section → Type 0
  HasSingles draft [] = ⊤
  HasSingles draft (OneOf group ∷ later) = (count_of group draft ≡ 1) × HasSingles draft later
  HasSingles draft (section ∷ later) = HasSingles draft later

  module _ (draft : Draft) (own : IsDraftOf task draft) (cert : Kind) where
    -- the lines of sections lead to the end
    sections_lead : (at least : ℕ) (rest : List Section) → drop at (sections cert) ≡ rest → AreKnown least rest → 0 < least → HasSingles draft rest → Lead task (SectionDue cert at 0 0) (lines_then task draft rest (end_line task ∷ [])) NothingDue
    sections_lead at least [] there known some singles = end_lead (SectionDue cert at 0 0) (rw there refl)
    sections_lead at least (OneOf group ∷ later) there known some singles =
        one (entries group draft) (own.parts group known.0.0).0 singles.0 (sections_above draft (order group + 2) later known.2 (omega arith) (omega (arith, low_order group)))
        (sections_lead (at + 1) (order group + 2) later (sym (drop-drop 1 at (sections cert)) ∙ ap (drop 1) there) known.2 (omega arith) singles.1)
      where
        one : (xs : List (Entry group)) → Each (IsEntryOf task group) xs → length xs ≡ 1 → order group + 2 < first_rank (lines_then task draft later (end_line task ∷ [])) → Lead task (SectionDue cert (at + 1) 0 0) (lines_then task draft later (end_line task ∷ [])) NothingDue →
            Lead task (SectionDue cert at 0 0) (map (entry_line task group) xs ++ lines_then task draft later (end_line task ∷ [])) NothingDue
        one [] h single above lead = absurd (omega (arith, single))
        one (x ∷ []) h single above lead =
            takes cert at (OneOf group) later there known.0 0 0 (SectionDue cert at 1 0) (entry_line task group x) _ (entry_good group x (All-head (IsEntryOf task group) x [] h)) (rw (entry_in group x) refl)
            (skip cert at (OneOf group) later there known.0 1 0 _ refl above lead)
        one (x ∷ y ∷ xs) h single above lead = absurd (omega (arith, single))
    sections_lead at least (Any group ∷ later) there known some singles =
        entries_lead cert at (Any group) later there known.0 group (λ count. 0) (length (entries group draft) + 1) (λ lines. refl) (λ kind count is more. rw is refl) 0 (entries group draft) _ (omega arith) (own.parts group known.0.0).0
        (sections_above draft (order group + 2) later known.2 (omega arith) (omega (arith, low_order group))) (sections_lead (at + 1) (order group + 2) later (sym (drop-drop 1 at (sections cert)) ∙ ap (drop 1) there) known.2 (omega arith) singles)
    sections_lead at least (Few group ∷ later) there known some singles =
        entries_lead cert at (Few group) later there known.0 group (λ count. count) (2 ^ 32) (λ lines. refl) (λ kind count is more. rw is (few (count + 1) (SectionDue cert at (count + 1) 0) more)) 0 (entries group draft) _ (omega (arith, (own.parts group known.0.0).1 known.0.2)) (own.parts group known.0.0).0
        (sections_above draft (order group + 2) later known.2 (omega arith) (omega (arith, low_order group))) (sections_lead (at + 1) (order group + 2) later (sym (drop-drop 1 at (sections cert)) ∙ ap (drop 1) there) known.2 (omega arith) singles)
    sections_lead at least (Blocks g.Layer g.Cube ∷ later) there known some singles = absurd (omega (arith, some, known.1))
    sections_lead at least (Blocks g.Far g.FarCube ∷ later) there known some singles =
        blocks_first cert at g.Far g.FarCube later there tt (spelled_line task k.Far (tt, tt)) (line_good task k.Far (tt, tt) (tt, tt)) refl refl refl (all_far draft) _ own.far
        (sections_above draft 72 later known.2 (omega arith) (omega arith)) (sections_lead (at + 1) 72 later (sym (drop-drop 1 at (sections cert)) ∙ ap (drop 1) there) known.2 (omega arith) singles)
    sections_lead at least (Blocks first second ∷ later) there known some singles = absurd known.0

    -- the lines of layers and of later sections lead to the end
    all_lead : (later : List Section) → sections cert ≡ Blocks g.Layer g.Cube ∷ later → AreKnown 2 later → HasSingles draft later → Lead task (SectionDue cert 0 0 0) (flat_map (layer_lines task) (all_layers draft) ++ lines_then task draft later (end_line task ∷ [])) NothingDue
    all_lead later there known singles =
        blocks_first cert 0 g.Layer g.Cube later there tt (spelled_line task k.Layer (tt, tt)) (line_good task k.Layer (tt, tt) (tt, tt)) refl refl refl (all_layers draft) _ own.layers
        (sections_above draft 2 later known (omega arith) (omega arith)) (sections_lead 1 2 later (ap (drop 1) there) known (omega arith) singles)

  header_lead : (document : Document) (kind : LineKind) (meanings : Meanings (form kind)) (cert : Kind) (lines : List Line) → AreOfTask task (form kind) meanings → Allows (HeaderDue document) (SectionDue cert 0 0 0) kind →
      Lead task (SectionDue cert 0 0 0) lines NothingDue → Lead task (HeaderDue document) (spelled_line task kind meanings ∷ lines) NothingDue
  header_lead document kind meanings cert lines of allowed lead = good_lead (HeaderDue document) (SectionDue cert 0 0 0) NothingDue (spelled_line task kind meanings) lines (line_good task kind meanings of) allowed lead

  -- the entries of a text that belongs to a task

  of_pairs : (pairs : List Pair) → BelongAsPairs task pairs → Each IsSmallPair pairs → AreEntriesOf task g.Pair pairs
  of_pairs pairs h small = (λ k d lt. (h.over k d lt, h.there k d lt, small k d lt), λ is. absurd (cc))

  of_rules : (rules : List Rule) → BelongAsRules task rules → Each (λ (rule : Rule). AreSmallTargets rule.targets) rules → AreEntriesOf task g.Rule rules
  of_rules rules h small = (λ k d lt. (h.belong.over k d lt, h.belong.there k d lt, h.targeted k d lt, small k d lt), λ is. h.few)

  of_items : (items : List Item) → BelongAsItems task items → Each (λ (item : Item). IsSmallWay item.way) items → AreEntriesOf task g.Item items
  of_items items h small = (λ k d lt. (h.over k (get_or items k d) (slice_get-get_or items k d lt), h.numbered k d lt, small k d lt), λ is. h.few)

  pub of_rows : (rows : List TableRow) → BelongAsRows task rows → Each (IsRowOf task) rows
  of_rows rows h = λ k d lt. (h.over k d lt, h.there k d lt)

  of_number : (group : Group) (number : Entry group) → IsEntryOf task group number → AreEntriesOf task group (number ∷ [])
  of_number group number h = (All-cons (IsEntryOf task group) number [] h (All-nil (IsEntryOf task group)), λ is. omega arith)

  pub parts_belong : (cert : Cert) → Belongs task cert → HasSmallNumbers cert → IsDraftOf task (parts_of (Content.certificate cert))
  parts_belong (Policy layers pairs rules reach) h small = record { layers = h.0; far = no_layers_of task; parts = parts }
    where
      parts : (group : Group) → is_plain group ≡ true → AreEntriesOf task group (entries group (parts_of (Content.certificate (Policy layers pairs rules reach))))
      parts g.Layer after = absurd (cc)
      parts g.Pair after = of_pairs pairs h.1 small.0
      parts g.Rule after = of_rules rules h.2 small.1
      parts g.Reach after = of_number g.Reach reach small.2
      parts group after = nothing_of task group after
  parts_belong (Refusal layers) h small = record { layers = h; far = no_layers_of task; parts = parts }
    where
      parts : (group : Group) → is_plain group ≡ true → AreEntriesOf task group (entries group (parts_of (Content.certificate (Refusal layers))))
      parts g.Layer after = absurd (cc)
      parts group after = nothing_of task group after
  parts_belong (Covered layers pairs rules items start) h small = record { layers = h.0; far = no_layers_of task; parts = parts }
    where
      parts : (group : Group) → is_plain group ≡ true → AreEntriesOf task group (entries group (parts_of (Content.certificate (Covered layers pairs rules items start))))
      parts g.Layer after = absurd (cc)
      parts g.Pair after = of_pairs pairs h.1 small.0
      parts g.Rule after = of_rules rules h.2 small.1
      parts g.Item after = of_items items h.3 small.2
      parts g.Start after = of_number g.Start start small.3
      parts group after = nothing_of task group after

  -- the lines of a certificate lead from the header to the end
  pub cert_leads : (cert : Cert) → Belongs task cert → HasSmallNumbers cert → Lead task (HeaderDue Certificate) (cert_lines task cert) NothingDue
  cert_leads cert h small = by cert (parts_belong cert h small)
    where
      by : (cert : Cert) → IsDraftOf task (parts_of (Content.certificate cert)) → Lead task (HeaderDue Certificate) (cert_lines task cert) NothingDue
      by (Policy layers pairs rules reach) own = header_lead Certificate k.PolicyHeader (tt, tt) (OfPolicy ByReach) _ (tt, tt) refl (all_lead _ own (OfPolicy ByReach) _ refl (all_known (OfPolicy ByReach)).2 (refl, tt))
      by (Refusal layers) own = header_lead Certificate k.RefusalHeader (tt, tt) OfRefusal _ (tt, tt) refl (all_lead _ own OfRefusal _ refl (all_known OfRefusal).2 tt)
      by (Covered layers pairs rules items start) own = header_lead Certificate k.CoverHeader (tt, tt) (OfPolicy ByCover) _ (tt, tt) refl (all_lead _ own (OfPolicy ByCover) _ refl (all_known (OfPolicy ByCover)).2 (refl, tt))

  -- the parts of a table that belongs to a task
  rows_belong : (rows : List TableRow) → BelongAsRows task rows → length rows < 2 ^ 32 → IsDraftOf task (parts_of (Content.table rows))
  rows_belong rows h small = record { layers = no_layers_of task; far = no_layers_of task; parts = parts }
    where
      parts : (group : Group) → is_plain group ≡ true → AreEntriesOf task group (entries group (parts_of (Content.table rows)))
      parts g.Layer after = absurd (cc)
      parts g.Row after = (of_rows rows h, λ is. small)
      parts group after = nothing_of task group after

  -- the lines of a table lead from the header to the end
  pub table_leads : (rows : List TableRow) → BelongAsRows task rows → length rows < 2 ^ 32 → Lead task (HeaderDue Table) (table_lines task rows) NothingDue
  table_leads rows h small =
      let known : AreKnown 1 (sections OfTable) = ((refl, refl, refl), omega arith, tt, tt) in
      header_lead Table k.TableHeader (tt, tt) OfTable _ (tt, tt) refl (sections_lead (parts_of (Content.table rows)) (rows_belong rows h small) OfTable 0 1 (sections OfTable) refl known (omega arith) tt)

  of_ranked : (cert : BestCert) → BelongsAsBest task cert → HasSmallBest cert → AreEntriesOf task g.Ranked (zip cert.items cert.ranks)
  of_ranked cert h small = (
    all_zipped (IsReadRanked task) cert.items cert.ranks (λ number item rank there rank_there.
        let of = (of_items cert.items h.as_items small.1).0 in
        (all_at (IsReadItem task) cert.items of number item there, all_at (λ rank. rank < 2 ^ 64) cert.ranks small.2 number rank rank_there, λ goal. h.goals number item rank there goal rank_there)),
    λ is. omega (arith, h.as_items.few, zip_long cert.items cert.ranks h.counted),
  )

  -- the parts of a certificate of least rank that belongs to a task
  pub best_belongs : (cert : BestCert) → BelongsAsBest task cert → HasSmallBest cert → IsDraftOf task (parts_of (Content.best cert))
  best_belongs cert h small = record { layers = h.as_layers; far = h.as_lists; parts = parts }
    where
      parts : (group : Group) → is_plain group ≡ true → AreEntriesOf task group (entries group (parts_of (Content.best cert)))
      parts g.Layer after = absurd (cc)
      parts g.Far after = absurd (cc)
      parts g.Rule after = of_rules cert.rules h.as_rules small.0
      parts g.Ranked after = of_ranked cert h small
      parts g.Start after = of_number g.Start cert.start small.3
      parts group after = nothing_of task group after

  -- the lines of a certificate of least rank lead from the header to the end
  pub best_leads : (cert : BestCert) → BelongsAsBest task cert → HasSmallBest cert → Lead task (HeaderDue Best) (best_lines task cert) NothingDue
  best_leads cert h small = header_lead Best k.BestHeader (tt, tt) OfBest _ (tt, tt) refl (all_lead (parts_of (Content.best cert)) (best_belongs cert h small) OfBest _ refl (all_known OfBest).2 (refl, tt))
