-- Certificates of one text are the same, and so are tables and certificates of least rank.
use Rattle.std.proofs.Common.{◌≡◌, ◌≢◌, ℕ, ◌+◌, ◌∙◌, true, List, [], ◌∷◌, ◌++◌, All as Each, length, map, codes, refl, sym, ap, arith, append_assoc, length-append, get_or}
use Rattle.std.specs.Prelude.{⊤}
use Rattle.std.proofs.lemmas.List.Elements.{All-head, All-tail, All-cons, All-nil, All-map, All-append}
use Rattle.std.proofs.lemmas.Slice.Zip.{firsts-zip, seconds-zip}
use Rattle.fond_task.specs.declared.task.Task.{Task}
use Rattle.fond_task.specs.Layers.{CubeView}
use Rattle.fond_task.specs.declared.rule.Pair.{Pair}
use Rattle.fond_task.specs.declared.rule.Rule.{Rule}
use Rattle.fond_task.specs.declared.rule.Targets.{Targets}
use Rattle.fond_task.specs.declared.rule.Targets.TheVariants.{One, All}
use Rattle.fond_layers.specs.Over.{IsOver, AreOver}
use Rattle.fond_policy.specs.declared.item.Item.{Item}
use Rattle.fond_policy.specs.declared.item.Way.{Way}
use Rattle.fond_policy.specs.declared.item.Way.TheVariants.{Goal as ToGoal, Rule as ByRule}
use Rattle.fond_policy.specs.declared.best.BestCert.{BestCert}
use Rattle.fond_policy.specs.declared.cert.Cert.{Cert}
use Rattle.fond_policy.specs.declared.cert.Cert.TheVariants.{Policy, Refusal, Covered}
use Rattle.fond_policy.specs.Belongs.{Belongs, BelongsAsBest}
use Rattle.fond_cert.specs.Smalls.{HasSmallBest}
use Rattle.fond_policy.specs.Sizes.{HasSmallNumbers}
use Rattle.fond_form.specs.declared.table.LineKind.TheVariants as k
use Rattle.fond_form.specs.Forms.{Line, line_text, IsProper}
use Rattle.fond_form.proofs.Apart.{same_line}
use Rattle.fond_form.proofs.FeedSplits.{line_no_feed, same_split}
use Rattle.fond_rules.specs.declared.table.TableRow.{TableRow}
use Rattle.fond_rules.specs.Tables.{BelongAsRows}
use Rattle.fond_cert.specs.declared.due.Due.{Due}
use Rattle.fond_cert.specs.declared.due.Due.TheVariants.{Header as HeaderDue, Nothing as NothingDue}
use Rattle.fond_cert.specs.declared.due.Document.TheVariants.{Certificate, Best}
use Rattle.fond_cert.specs.declared.due.Evidence.TheVariants.{Reach as ByReach, Cover as ByCover}
use Rattle.fond_cert.specs.declared.due.Kind.TheVariants.{Policy as OfPolicy, Refusal as OfRefusal, Table as OfTable, Best as OfBest}
use Rattle.fond_cert.specs.declared.due.Group.{Group}
use Rattle.fond_cert.specs.declared.due.Group.TheVariants as g
use Rattle.fond_cert.specs.declared.due.Section.{Section}
use Rattle.fond_cert.specs.declared.due.Section.TheVariants.{One as OneOf, Any, Few, Blocks}
use Rattle.fond_cert.specs.declared.draft.Draft.{Draft}
use Rattle.fond_cert.specs.Drafts.{is_plain, order, IsEntryOf, IsDraftOf}
use Rattle.fond_cert.specs.Items.{IsReadPair, IsReadRule, IsReadItem, IsReadRanked, IsRowOf}
use Rattle.fond_cert.specs.Sections.{sections}
use Rattle.fond_cert.specs.Faults.{Lead}
use Rattle.fond_cert.specs.Filled.{pair_of, fair_of, unfair_of, goal_item_of, rule_item_of, ranked_item_of, row_of}
use Rattle.fond_cert.specs.Spellings.{spelled_line, cube_line, pair_line, targets_line, rule_line, way_line, item_line, ranked_way_line, ranked_line, row_line, end_line, Entry, entry_line, all_layers, all_far, entries, lines_then, header, Content, parts_of, cert_lines, table_lines, best_lines, lines_text, spelling, table_spelling, best_spelling}
use Rattle.fond_cert.proofs.Befores.{rank, AreKnown, all_known}
use Rattle.fond_cert.proofs.Meanings.{line_good, line_same}
use Rattle.fond_cert.proofs.OwnLines.{first_rank, rank_in, rank_within, low_order, pair_means, fair_means, unfair_means, goal_means, way_means, ranked_means, row_means, of_rows, entry_rank, blocks_lines, sections_above, parts_belong, cert_leads, best_belongs, best_leads}

-- lines that are proper have one text only if they are the same

line_apart : (line : Line) (lines : List Line) → lines_text (line ∷ lines) ≡ line_text line ++ (10 ∷ lines_text lines)
line_apart line lines = append_assoc (line_text line) (codes "\n") (lines_text lines)

some_text : (line : Line) (lines : List Line) → [] ≢ lines_text (line ∷ lines)
some_text line lines e = omega (arith, ap length e, length-append (line_text line ++ codes "\n") (lines_text lines), length-append (line_text line) (codes "\n"))

same_lines : (lines others : List Line) → Each IsProper lines → Each IsProper others → lines_text lines ≡ lines_text others → lines ≡ others
same_lines [] [] right other_right e = refl
same_lines [] (line ∷ others) right other_right e = absurd (some_text line others e)
same_lines (line ∷ lines) [] right other_right e = absurd (some_text line lines (sym e))
same_lines (line ∷ lines) (next ∷ others) right other_right e =
    let own = All-head IsProper line lines right in
    let other_own = All-head IsProper next others other_right in
    let split = same_split (line_text line) (line_text next) (lines_text lines) (lines_text others) (line_no_feed line own) (line_no_feed next other_own)
    (sym (line_apart line lines) ∙ e ∙ line_apart next others) in
    let same = same_line line next own other_own split.0 in
    let more = same_lines lines others (All-tail IsProper line lines right) (All-tail IsProper next others other_right) split.1 in
    λ i. same i ∷ more i

all_proper : (task : Task) (due end : Due) (lines : List Line) → Lead task due lines end → Each IsProper lines
all_proper task due end [] lead = All-nil IsProper
all_proper task due end (line ∷ lines) lead = All-cons IsProper line lines lead.0 (all_proper task lead.2.0 end lines lead.2.2)

abbrev rest_of : List Line → List Line
rest_of [] = []
rest_of (line ∷ lines) = lines

-- equal lines that begin with those of items of one rank, and go on with a line of another rank, have the same items and the
-- same rest
module _ {X : Type 0} (f : X → Line) (n : ℕ) (Good : X → Type 0) (ranked : (x : X) → rank (f x).kind ≡ n) (same : (x y : X) → Good x → Good y → f x ≡ f y → x ≡ y) where
  same_items : (xs ys : List X) (s t : List Line) → Each Good xs → Each Good ys → first_rank s ≢ n → first_rank t ≢ n → map f xs ++ s ≡ map f ys ++ t → (xs ≡ ys) × (s ≡ t)
  same_items [] [] s t good other_good ends other_ends e = (refl, e)
  same_items [] (y ∷ ys) s t good other_good ends other_ends e = absurd (ends (ap first_rank e ∙ ranked y))
  same_items (x ∷ xs) [] s t good other_good ends other_ends e = absurd (other_ends (ap first_rank (sym e) ∙ ranked x))
  same_items (x ∷ xs) (y ∷ ys) s t good other_good ends other_ends e =
      let line : f x ≡ f y = cc in
      let first = same x y (All-head Good x xs good) (All-head Good y ys other_good) line in
      let more = same_items xs ys s t (All-tail Good x xs good) (All-tail Good y ys other_good) ends other_ends (ap rest_of e) in
      ((λ i. first i ∷ more.0 i), more.1)

module _ (task : Task) where
  same_pair : (pair other : Pair) → IsReadPair task pair → IsReadPair task other → pair_line task pair ≡ pair_line task other → pair ≡ other
  same_pair pair other h other_h e =
      ap pair_of
      (line_same task k.Pair (pair.act, (pair.outcome, (pair.layer, (pair.cube, (pair.cond, tt))))) (other.act, (other.outcome, (other.layer, (other.cube, (other.cond, tt))))) (pair_means task pair h) (pair_means task other other_h) e)

  abbrev rule_with : ℕ → Targets → CubeView → Rule
  rule_with act targets cond = record { cond = cond; act = act; targets = targets }

  same_choice : (act other : ℕ) (targets others : Targets) (cond other_cond : CubeView) → IsReadRule task (rule_with act targets cond) → IsReadRule task (rule_with other others other_cond) →
      targets_line task act targets cond ≡ targets_line task other others other_cond → rule_with act targets cond ≡ rule_with other others other_cond
  same_choice a b (One m target) (One n other) c d h other_h e =
      ap fair_of (line_same task k.FairRule (a, (m, (target, (c, tt)))) (b, (n, (other, (d, tt)))) (fair_means task a m target c h) (fair_means task b n other d other_h) e)
  same_choice a b (All targets) (All others) c d h other_h e =
      ap unfair_of (line_same task k.UnfairRule (a, (targets, (c, tt))) (b, (others, (d, tt))) (unfair_means task a targets c h) (unfair_means task b others d other_h) e)
  same_choice a b targets others c d h other_h e = let kinds = ap (λ (line : Line). line.kind) e in absurd (cc)

  same_rule : (rule other : Rule) → IsReadRule task rule → IsReadRule task other → rule_line task rule ≡ rule_line task other → rule ≡ other
  same_rule rule other h other_h e = same_choice rule.act other.act rule.targets other.targets rule.cond other.cond h other_h e

  abbrev item_with : Way → CubeView → Item
  item_with way cube = record { cube = cube; way = way }

  same_way : (way other : Way) (cube other_cube : CubeView) → IsReadItem task (item_with way cube) → IsReadItem task (item_with other other_cube) → way_line task way cube ≡ way_line task other other_cube →
      item_with way cube ≡ item_with other other_cube
  same_way ToGoal ToGoal c d h other_h e = ap goal_item_of (line_same task k.GoalItem (c, tt) (d, tt) (goal_means task c h) (goal_means task d other_h) e)
  same_way (ByRule m numbers) (ByRule n others) c d h other_h e =
      ap rule_item_of (line_same task k.RuleItem (m, (numbers, (c, tt))) (n, (others, (d, tt))) (way_means task m numbers c h) (way_means task n others d other_h) e)
  same_way way other c d h other_h e = let kinds = ap (λ (line : Line). line.kind) e in absurd (cc)

  same_item : (item other : Item) → IsReadItem task item → IsReadItem task other → item_line task item ≡ item_line task other → item ≡ other
  same_item item other h other_h e = same_way item.way other.way item.cube other.cube h other_h e

  abbrev ranked_with : Way → CubeView → ℕ → Item × ℕ
  ranked_with way cube number = (item_with way cube, number)

  -- an item of goals has rank 0
  same_ranked_way : (way other : Way) (cube other_cube : CubeView) (m n : ℕ) → IsReadRanked task (ranked_with way cube m) → IsReadRanked task (ranked_with other other_cube n) → ranked_way_line task way cube m ≡ ranked_way_line task other other_cube n →
      ranked_with way cube m ≡ ranked_with other other_cube n
  same_ranked_way ToGoal ToGoal c d m n h other_h e =
      let cubes = ap goal_item_of (line_same task k.GoalItem (c, tt) (d, tt) (goal_means task c h.0) (goal_means task d other_h.0) e) in
      let ranks = h.2 refl ∙ sym (other_h.2 refl) in
      λ i. (cubes i, ranks i)
  same_ranked_way (ByRule rule numbers) (ByRule next others) c d m n h other_h e =
      ap ranked_item_of (line_same task k.RankedItem (rule, (m, (numbers, (c, tt)))) (next, (n, (others, (d, tt)))) (ranked_means task rule m numbers c h) (ranked_means task next n others d other_h) e)
  same_ranked_way way other c d m n h other_h e = let kinds = ap (λ (line : Line). line.kind) e in absurd (cc)

  same_ranked : (entry other : Item × ℕ) → IsReadRanked task entry → IsReadRanked task other → ranked_line task entry ≡ ranked_line task other → entry ≡ other
  same_ranked entry other h other_h e = same_ranked_way entry.0.way other.0.way entry.0.cube other.0.cube entry.1 other.1 h other_h e

  -- lists of cubes of the same lines, each of which begins with a line of this kind, are the same
  module _ (head : Line) (no_cube : rank head.kind ≢ 1) where
    no_cube_first : (lists : List (List CubeView)) (s : List Line) → first_rank s ≢ 1 → first_rank (blocks_lines task head lists ++ s) ≢ 1
    no_cube_first [] s after e = after e
    no_cube_first (list ∷ lists) s after e = no_cube e

    block_apart : (list : List CubeView) (lists : List (List CubeView)) (s : List Line) → rest_of (blocks_lines task head (list ∷ lists) ++ s) ≡ map (cube_line task) list ++ (blocks_lines task head lists ++ s)
    block_apart list lists s = append_assoc (map (cube_line task) list) (blocks_lines task head lists) s

    -- lines that go on after lists of cubes begin with a line of another rank
    abbrev GoesOn : List Line → Type 0
    GoesOn s = (first_rank s ≢ 1) × (first_rank s ≢ rank head.kind)

    same_blocks : (lists others : List (List CubeView)) (s t : List Line) → AreOver (length task.atoms) lists → AreOver (length task.atoms) others → GoesOn s → GoesOn t →
        blocks_lines task head lists ++ s ≡ blocks_lines task head others ++ t → (lists ≡ others) × (s ≡ t)
    same_blocks [] [] s t over other_over after other_after e = (refl, e)
    same_blocks [] (other ∷ others) s t over other_over after other_after e = absurd (after.1 (ap first_rank e))
    same_blocks (list ∷ lists) [] s t over other_over after other_after e = absurd (other_after.1 (ap first_rank (sym e)))
    same_blocks (list ∷ lists) (other ∷ others) s t over other_over after other_after e =
        let Long = IsOver (length task.atoms) in
        let first = same_items (cube_line task) 1 (λ (cube : CubeView). length cube ≡ length task.atoms) (λ cube. refl)
        (λ cube other_cube long other_long line. ap (λ meanings. meanings.0) (line_same task k.Cube (cube, tt) (other_cube, tt) (long, tt) (other_long, tt) line))
        list other (blocks_lines task head lists ++ s) (blocks_lines task head others ++ t) (All-head Long list lists over) (All-head Long other others other_over)
        (no_cube_first lists s after.0) (no_cube_first others t other_after.0) (sym (block_apart list lists s) ∙ ap rest_of e ∙ block_apart other others t) in
        let more = same_blocks lists others s t (All-tail Long list lists over) (All-tail Long other others other_over) after other_after first.1 in
        ((λ i. first.0 i ∷ more.0 i), more.1)

  same_row : (row other : TableRow) → IsRowOf task row → IsRowOf task other → row_line task row ≡ row_line task other → row ≡ other
  same_row row other h other_h e = ap row_of (line_same task k.Row (row.act, (row.cond, tt)) (other.act, (other.cond, tt)) (row_means task row h) (row_means task other other_h) e)

  -- entries of one line are the same
  same_entry : (group : Group) (entry other : Entry group) → is_plain group ≡ true → IsEntryOf task group entry → IsEntryOf task group other → entry_line task group entry ≡ entry_line task group other → entry ≡ other
  same_entry g.Layer entry other after h other_h e = absurd (cc)
  same_entry g.Cube entry other after h other_h e = absurd (cc)
  same_entry g.Far entry other after h other_h e = absurd (cc)
  same_entry g.FarCube entry other after h other_h e = absurd (cc)
  same_entry g.Pair entry other after h other_h e = same_pair entry other h other_h e
  same_entry g.Rule entry other after h other_h e = same_rule entry other h other_h e
  same_entry g.Item entry other after h other_h e = same_item entry other h other_h e
  same_entry g.Reach entry other after h other_h e = ap (λ meanings. meanings.0) (line_same task k.Reach (entry, tt) (other, tt) (h, tt) (other_h, tt) e)
  same_entry g.Start entry other after h other_h e = ap (λ meanings. meanings.0) (line_same task k.Start (entry, tt) (other, tt) (h, tt) (other_h, tt) e)
  same_entry g.Row entry other after h other_h e = same_row entry other h other_h e
  same_entry g.Ranked entry other after h other_h e = same_ranked entry other h other_h e

  module _ (draft other : Draft) (own : IsDraftOf task draft) (other_own : IsDraftOf task other) where
    -- two drafts have the same entries in a section, or in all of some
    abbrev HasSame : Section → Type 0
    HasSame (OneOf group) = entries group draft ≡ entries group other
    HasSame (Any group) = entries group draft ≡ entries group other
    HasSame (Few group) = entries group draft ≡ entries group other
    HasSame (Blocks g.Far second) = all_far draft ≡ all_far other
    HasSame (Blocks first second) = all_layers draft ≡ all_layers other

    abbrev HaveSame : List Section → Type 0
    HaveSame [] = ⊤
    HaveSame (section ∷ later) = HasSame section × HaveSame later

    abbrev lines_from : Draft → List Section → List Line
    lines_from draft sections = lines_then task draft sections (end_line task ∷ [])

    same_entries : (group : Group) (later : List Section) → is_plain group ≡ true → AreKnown (order group + 2) later → map (entry_line task group) (entries group draft) ++ lines_from draft later ≡ map (entry_line task group) (entries group other) ++ lines_from other later →
        (entries group draft ≡ entries group other) × (lines_from draft later ≡ lines_from other later)
    same_entries group later plain known e =
        let low = low_order group in
        let within = (rank_within group).1 in
        let above = sections_above task draft (order group + 2) later known (omega arith) (omega (arith, low)) in
        let other_above = sections_above task other (order group + 2) later known (omega arith) (omega (arith, low)) in
        same_items (entry_line task group) (rank_in group) (IsEntryOf task group) (entry_rank task group plain) (λ x y. same_entry group x y plain) (entries group draft) (entries group other) (lines_from draft later) (lines_from other later)
        (own.parts group plain).0 (other_own.parts group plain).0 (λ same. omega (arith, within, same, above)) (λ same. omega (arith, within, same, other_above)) e

    same_sections : (least : ℕ) (sections : List Section) → AreKnown least sections → lines_from draft sections ≡ lines_from other sections → HaveSame sections
    same_sections least [] known e = tt
    same_sections least (OneOf group ∷ later) known e = let one = same_entries group later known.0.0 known.2 e in (one.0, same_sections (order group + 2) later known.2 one.1)
    same_sections least (Any group ∷ later) known e = let one = same_entries group later known.0.0 known.2 e in (one.0, same_sections (order group + 2) later known.2 one.1)
    same_sections least (Few group ∷ later) known e = let one = same_entries group later known.0.0 known.2 e in (one.0, same_sections (order group + 2) later known.2 one.1)
    same_sections least (Blocks g.Layer g.Cube ∷ later) known e =
        let above = sections_above task draft 2 later known.2 (omega arith) (omega arith) in
        let other_above = sections_above task other 2 later known.2 (omega arith) (omega arith) in
        let one = same_blocks (spelled_line task k.Layer (tt, tt)) (λ clash. omega (arith, clash)) (all_layers draft) (all_layers other) (lines_from draft later) (lines_from other later) own.layers.over other_own.layers.over
        ((λ first. omega (arith, above, first)), (λ first. omega (arith, above, first))) ((λ first. omega (arith, other_above, first)), (λ first. omega (arith, other_above, first))) e in
        (one.0, same_sections 2 later known.2 one.1)
    same_sections least (Blocks g.Far g.FarCube ∷ later) known e =
        let above = sections_above task draft 72 later known.2 (omega arith) (omega arith) in
        let other_above = sections_above task other 72 later known.2 (omega arith) (omega arith) in
        let one = same_blocks (spelled_line task k.Far (tt, tt)) (λ clash. omega (arith, clash)) (all_far draft) (all_far other) (lines_from draft later) (lines_from other later) own.far.over other_own.far.over
        ((λ first. omega (arith, above, first)), (λ first. omega (arith, above, first))) ((λ first. omega (arith, other_above, first)), (λ first. omega (arith, other_above, first))) e in
        (one.0, same_sections 72 later known.2 one.1)
    same_sections least (Blocks first second ∷ later) known e = absurd known.0

  abbrev number_of : List ℕ → ℕ
  number_of [] = 0
  number_of (number ∷ numbers) = number

  same_certs : (cert other : Cert) → IsDraftOf task (parts_of (Content.certificate cert)) → IsDraftOf task (parts_of (Content.certificate other)) → cert_lines task cert ≡ cert_lines task other → cert ≡ other
  same_certs (Policy layers pairs rules reach) (Policy other_layers other_pairs other_rules other_reach) own other_own e =
      let same = same_sections _ _ own other_own 0 (sections (OfPolicy ByReach)) (all_known (OfPolicy ByReach)) (ap rest_of e) in
      λ i. Policy (same.0 i) (same.1.0 i) (same.1.1.0 i) (number_of (same.1.1.1.0 i))
  same_certs (Refusal layers) (Refusal other_layers) own other_own e =
      let same = same_sections _ _ own other_own 0 (sections OfRefusal) (all_known OfRefusal) (ap rest_of e) in
      ap Refusal same.0
  same_certs (Covered layers pairs rules items start) (Covered other_layers other_pairs other_rules other_items other_start) own other_own e =
      let same = same_sections _ _ own other_own 0 (sections (OfPolicy ByCover)) (all_known (OfPolicy ByCover)) (ap rest_of e) in
      λ i. Covered (same.0 i) (same.1.0 i) (same.1.1.0 i) (same.1.1.1.0 i) (number_of (same.1.1.1.1.0 i))
  same_certs cert other own other_own e = let ranks = ap first_rank e in absurd (omega (arith, ranks))

-- certificates of a task with one spelling are the same
pub one_cert : (task : Task) (cert other : Cert) → Belongs task cert → Belongs task other → HasSmallNumbers cert → HasSmallNumbers other → spelling task cert ≡ spelling task other → cert ≡ other
one_cert task cert other h other_h small other_small e =
    same_certs task cert other (parts_belong task cert h small) (parts_belong task other other_h other_small)
    (same_lines (cert_lines task cert) (cert_lines task other) (cert_proper cert h small) (cert_proper other other_h other_small) e)
  where
    cert_proper : (cert : Cert) → Belongs task cert → HasSmallNumbers cert → Each IsProper (cert_lines task cert)
    cert_proper cert h small = all_proper task (HeaderDue Certificate) NothingDue (cert_lines task cert) (cert_leads task cert h small)

-- tables of a task with one spelling are the same
pub one_table : (task : Task) (rows others : List TableRow) → BelongAsRows task rows → BelongAsRows task others → table_spelling task rows ≡ table_spelling task others → rows ≡ others
one_table task rows others h other_h e =
    let own = of_rows task rows h in
    let other_own = of_rows task others other_h in
    let ends = end_line task ∷ [] in
    let lines = same_lines (table_lines task rows) (table_lines task others) (table_proper rows own) (table_proper others other_own) e in
    (same_items (row_line task) 61 (IsRowOf task) (λ row. refl) (same_row task) rows others ends ends own other_own (λ clash. omega (arith, clash)) (λ clash. omega (arith, clash)) (ap rest_of lines)).0
  where
    table_proper : (rows : List TableRow) → Each (IsRowOf task) rows → Each IsProper (table_lines task rows)
    table_proper rows own =
        let right = λ (row : TableRow) (of : IsRowOf task row). (line_good task k.Row (row.act, (row.cond, tt)) (row_means task row of)).0 in
        let own_lines : Each IsProper (map (row_line task) rows) = All-map IsProper (row_line task) rows (λ n d lt. right (get_or rows n d) (own n d lt)) in
        All-cons IsProper (header task OfTable) _ (line_good task k.TableHeader (tt, tt) (tt, tt)).0
        (All-append IsProper (map (row_line task) rows) (end_line task ∷ []) own_lines (All-cons IsProper (end_line task) [] (line_good task k.End (tt, tt) (tt, tt)).0 (All-nil IsProper)))

-- certificates of least rank of a task with one spelling are the same
pub one_best : (task : Task) (cert other : BestCert) → BelongsAsBest task cert → BelongsAsBest task other → HasSmallBest cert → HasSmallBest other → best_spelling task cert ≡ best_spelling task other → cert ≡ other
one_best task cert other h other_h small other_small e =
    let lines = same_lines (best_lines task cert) (best_lines task other) (best_proper cert h small) (best_proper other other_h other_small) e in
    let same = same_sections task _ _ (best_belongs task cert h small) (best_belongs task other other_h other_small) 0 (sections OfBest) (all_known OfBest) (ap rest_of lines) in
    let entries = same.1.1.0 in
    let items = sym (firsts-zip cert.items cert.ranks h.counted) ∙ ap (map (λ (entry : Item × ℕ). entry.0)) entries ∙ firsts-zip other.items other.ranks other_h.counted in
    let ranks = sym (seconds-zip cert.items cert.ranks h.counted) ∙ ap (map (λ (entry : Item × ℕ). entry.1)) entries ∙ seconds-zip other.items other.ranks other_h.counted in
    λ i. record { layers = same.0 i; rules = same.1.0 i; items = items i; ranks = ranks i; start = number_of task (same.1.1.1.0 i); far = same.1.1.1.1.0 i }
  where
    best_proper : (cert : BestCert) → BelongsAsBest task cert → HasSmallBest cert → Each IsProper (best_lines task cert)
    best_proper cert h small = all_proper task (HeaderDue Best) NothingDue (best_lines task cert) (best_leads task cert h small)
