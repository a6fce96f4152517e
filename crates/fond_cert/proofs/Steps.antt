-- Drafts after a line.
use Rattle.std.proofs.Common.{◌≡◌, ◌≢◌, ◌⊎◌, inl, inr, ℕ, zero, suc, ◌+◌, ◌-◌, ◌<◌, ◌^◌, ◌==◌, ◌&&◌, ◌≤◌, nat_lt, nat_eq, Bool, true, false, List, [], ◌∷◌, ◌++◌, All, Option, Some, None, length, drop, if◌then◌else◌, map, flat_map, refl, sym, ap, ◌∙◌, subst, arith, length-append, append_assoc}
use Rattle.std.specs.Prelude.{⊤}
use Rattle.std.proofs.Math.Bool.{or-true}
use Rattle.std.proofs.Math.Seq.{drop-nil}
use Rattle.std.proofs.lemmas.Bool.Decides.{nat_tests}
use Rattle.std.specs.Option.{option_map, option_map_or}
use Rattle.std.proofs.lemmas.Grind.{flat_map-append}
use Rattle.std.proofs.lemmas.List.{append-nil, map-append}
use Rattle.std.proofs.lemmas.List.Elements.{All-head, All-tail, All-cons, All-nil, All-append}
use Rattle.fond_task.specs.declared.task.Task.{Task}
use Rattle.fond_task.specs.Layers.{CubeView}
use Rattle.fond_layers.specs.Over.{IsOver}
use Rattle.fond_cert.specs.declared.draft.Draft.{Draft}
use Rattle.fond_form.specs.declared.table.LineKind.{LineKind}
use Rattle.fond_form.specs.declared.table.LineKind.TheVariants as k
use Rattle.fond_form.specs.Forms.{form, Line}
use Rattle.fond_policy.specs.Belongs.{BelongAsLayers}
use Rattle.fond_cert.specs.Drafts.{draft_lines, IsEntryOf, AreEntriesOf, IsDraftOf, closed, with_entry, grown, is_few, is_plain, count_of, order, order_of, has_order, HasOnly, HasNoneAfter, IsCounted, HasReached, FitsDue, HasRoom}
use Rattle.fond_cert.specs.declared.due.Document.{Document}
use Rattle.fond_cert.specs.declared.due.Document.TheVariants.{Certificate, Table, Best}
use Rattle.fond_cert.specs.declared.due.Evidence.TheVariants.{Reach as ByReach, Cover as ByCover}
use Rattle.fond_cert.specs.declared.due.Kind.{Kind}
use Rattle.fond_cert.specs.declared.due.Kind.TheVariants.{Policy as OfPolicy, Refusal as OfRefusal, Table as OfTable, Best as OfBest}
use Rattle.fond_cert.specs.declared.due.Due.{Due}
use Rattle.fond_cert.specs.declared.due.Due.TheVariants.{Header as HeaderDue, Section as SectionDue, Nothing as NothingDue}
use Rattle.fond_cert.specs.declared.due.Group.{Group}
use Rattle.fond_cert.specs.declared.due.Group.TheVariants as g
use Rattle.fond_cert.specs.declared.due.Section.{Section}
use Rattle.fond_cert.specs.declared.due.Section.TheVariants.{One, Any, Few, Blocks}
use Rattle.fond_cert.specs.Sections.{sections, kind_document, is_in, if_few, after_in, due_after, group_in, taker}
use Rattle.fond_cert.specs.Filled.{pair_of, fair_of, unfair_of, goal_item_of, rule_item_of, ranked_item_of, row_of}
use Rattle.fond_policy.specs.declared.cert.Cert.TheVariants.{Policy, Refusal, Covered}
use Rattle.fond_cert.specs.Spellings.{Meanings, AreOfTask, spelled_line, cube_line, layer_lines, far_lines, end_line, Entry, entry_line, with_current, all_layers, all_far, entries, section_lines, lines_then, header, no_parts, Content, document_of, kind_of}
use Rattle.fond_cert.proofs.Befores.{some_is, passed, few_is, is_single, IsKnown, AreKnown, all_known, IsAllowedIn, IsWholeOf, section_of, nil_if, none_if, before_end}

-- after a line, a draft fits what is due, with one more line
pub record IsStepped (document : Document) (task : Task) (own : Line) (next : Due) (after : Draft) (lines : List Line) : Type 0 where
  pub fits : FitsDue document task next after (lines ++ (own ∷ []))
  pub draft : IsDraftOf task after

all_front : {X : Type 0} (P : X → Type 0) (xs ys : List X) → All P (xs ++ ys) → All P xs
all_front P [] ys h = All-nil P
all_front P (x ∷ xs) ys h = All-cons P x xs (All-head P x (xs ++ ys) h) (all_front P xs ys (All-tail P x (xs ++ ys) h))

all_last : {X : Type 0} (P : X → Type 0) (xs : List X) (y : X) → All P (xs ++ (y ∷ [])) → P y
all_last P [] y h = All-head P y [] h
all_last P (x ∷ xs) y h = all_last P xs y (All-tail P x (xs ++ (y ∷ [])) h)

all_more : {X : Type 0} (P : X → Type 0) (xs : List X) (y : X) → All P xs → P y → All P (xs ++ (y ∷ []))
all_more P xs y h k = All-append P xs (y ∷ []) h (All-cons P y [] k (All-nil P))

one_more : {X : Type 0} (xs : List X) (y : X) → length (xs ++ (y ∷ [])) ≡ length xs + 1
one_more xs y = length-append xs (y ∷ [])

both_true : (a b : Bool) → (a && b) ≡ true → (a ≡ true) × (b ≡ true)
both_true true b e = (refl, e)
both_true false b e = absurd (cc)

-- a list has fewer than 2^32 cubes
abbrev IsShort : List CubeView → Type 0
IsShort list = length list < 2 ^ 32

-- a draft with other layers and far lists
abbrev with_blocks : Draft → List (List CubeView) → Option (List CubeView) → List (List CubeView) → Option (List CubeView) → Draft
with_blocks draft layers current far current_far = record draft { layers = layers; current = current; far = far; current_far = current_far }

-- groups of lines that are no parts of blocks do not depend on these
apart : (draft : Draft) (layers : List (List CubeView)) (current : Option (List CubeView)) (far : List (List CubeView)) (current_far : Option (List CubeView)) (group : Group) → is_plain group ≡ true →
    entries group (with_blocks draft layers current far current_far) ≡ entries group draft
apart draft layers current far current_far g.Layer plain = absurd (cc)
apart draft layers current far current_far g.Cube plain = absurd (cc)
apart draft layers current far current_far g.Far plain = absurd (cc)
apart draft layers current far current_far g.FarCube plain = absurd (cc)
apart draft layers current far current_far group plain = refl

blocks_belong : (task : Task) (draft : Draft) (layers : List (List CubeView)) (current : Option (List CubeView)) (far : List (List CubeView)) (current_far : Option (List CubeView)) → BelongAsLayers task (with_current layers current) →
    BelongAsLayers task (with_current far current_far) → IsDraftOf task draft → IsDraftOf task (with_blocks draft layers current far current_far)
blocks_belong task draft layers current far current_far belong far_belong own =
    record { layers = belong; far = far_belong; parts = λ group plain. subst (AreEntriesOf task group) (sym (apart draft layers current far current_far group plain)) (own.parts group plain) }

closed_draft : (task : Task) (draft : Draft) → IsDraftOf task draft → IsDraftOf task (closed draft)
closed_draft task draft own = blocks_belong task draft (all_layers draft) None (all_far draft) None own.layers own.far own

-- one list of cubes more
list_begun : (task : Task) (lists : List (List CubeView)) → BelongAsLayers task lists → length lists + 1 < 2 ^ 32 → BelongAsLayers task (lists ++ ([] ∷ []))
list_begun task lists own room = record {
  few = omega (arith, room, one_more lists []);
  few_cubes = all_more IsShort lists [] own.few_cubes (omega arith);
  over = all_more (IsOver (length task.atoms)) lists [] own.over (All-nil (λ (cube : CubeView). length cube ≡ length task.atoms));
}

-- one cube more of the last list
cube_added : (task : Task) (lists : List (List CubeView)) (list : List CubeView) (cube : CubeView) → BelongAsLayers task (lists ++ (list ∷ [])) → length list + 1 < 2 ^ 32 → length cube ≡ length task.atoms → BelongAsLayers task (lists ++ ((list ++ (cube ∷ [])) ∷ []))
cube_added task lists list cube own room of =
    let grown_list = list ++ (cube ∷ []) in record {
      few = omega (arith, own.few, one_more lists grown_list, one_more lists list);
      few_cubes = all_more IsShort lists grown_list (all_front IsShort lists (list ∷ []) own.few_cubes) (omega (arith, room, one_more list cube));
      over =
          all_more (IsOver (length task.atoms)) lists grown_list (all_front (IsOver (length task.atoms)) lists (list ∷ []) own.over)
          (all_more (λ (cube : CubeView). length cube ≡ length task.atoms) list cube (all_last (IsOver (length task.atoms)) lists list own.over) of);
    }

-- lines with one more, if the draft has one more
lines_more : (lines more all : List Line) (first own : Line) → lines ≡ first ∷ more → all ≡ more ++ (own ∷ []) → lines ++ (own ∷ []) ≡ first ∷ all
lines_more lines more all first own e f = ap (λ l. l ++ (own ∷ [])) e ∙ ap (λ l. first ∷ l) (sym f)

-- an entry of a group is added to that group
kept : (group other : Group) (draft : Draft) (entry : Entry group) → is_plain group ≡ true → is_plain other ≡ true → (group ≡ other) ⊎ (entries other (with_entry group draft entry) ≡ entries other draft)
kept group g.Layer draft entry plain also = absurd (cc)
kept group g.Cube draft entry plain also = absurd (cc)
kept group g.Far draft entry plain also = absurd (cc)
kept group g.FarCube draft entry plain also = absurd (cc)
kept g.Layer other draft entry plain also = absurd (cc)
kept g.Cube other draft entry plain also = absurd (cc)
kept g.Far other draft entry plain also = absurd (cc)
kept g.FarCube other draft entry plain also = absurd (cc)
kept g.Pair g.Pair draft entry plain also = inl refl
kept g.Rule g.Rule draft entry plain also = inl refl
kept g.Item g.Item draft entry plain also = inl refl
kept g.Reach g.Reach draft entry plain also = inl refl
kept g.Start g.Start draft entry plain also = inl refl
kept g.Row g.Row draft entry plain also = inl refl
kept g.Ranked g.Ranked draft entry plain also = inl refl
kept group other draft entry plain also = inr refl

blocks_kept : (group : Group) (draft : Draft) (entry : Entry group) → is_plain group ≡ true → (all_layers (with_entry group draft entry) ≡ all_layers draft) × (all_far (with_entry group draft entry) ≡ all_far draft)
blocks_kept g.Layer draft entry plain = absurd (cc)
blocks_kept g.Cube draft entry plain = absurd (cc)
blocks_kept g.Far draft entry plain = absurd (cc)
blocks_kept g.FarCube draft entry plain = absurd (cc)
blocks_kept group draft entry plain = (refl, refl)

entry_added : (group : Group) (draft : Draft) (entry : Entry group) → is_plain group ≡ true → (is_single group ≡ true → count_of group draft ≡ 0) → entries group (with_entry group draft entry) ≡ entries group draft ++ (entry ∷ [])
entry_added g.Layer draft entry plain none = absurd (cc)
entry_added g.Cube draft entry plain none = absurd (cc)
entry_added g.Far draft entry plain none = absurd (cc)
entry_added g.FarCube draft entry plain none = absurd (cc)
entry_added g.Reach draft entry plain none = rw (none_if draft.reach (none refl)) refl
entry_added g.Start draft entry plain none = rw (none_if draft.start (none refl)) refl
entry_added group draft entry plain none = refl

-- a line of a group adds an entry, whose line it is
made : (task : Task) (group : Group) (kind : LineKind) (draft : Draft) (m : Meanings (form kind)) → is_plain group ≡ true → is_in group kind ≡ true → AreOfTask task (form kind) m →
    (entry : Entry group) × (grown group draft kind m ≡ with_entry group draft entry) × (entry_line task group entry ≡ spelled_line task kind m) × IsEntryOf task group entry
made task g.Layer kind draft m plain is of = absurd (cc)
made task g.Cube kind draft m plain is of = absurd (cc)
made task g.Far kind draft m plain is of = absurd (cc)
made task g.FarCube kind draft m plain is of = absurd (cc)
made task g.Pair k.Pair draft m plain is of = (pair_of m, refl, refl, (of.1.1.1.1.0, of.0, (of.1.0, of.1.1.0, of.1.1.1.0)))
made task g.Rule k.FairRule draft m plain is of = (fair_of m, refl, refl, (of.1.1.1.0, of.0, tt, (of.1.0, of.1.1.0)))
made task g.Rule k.UnfairRule draft m plain is of = (unfair_of m, refl, refl, (of.1.1.0, of.0, of.1.0.0, of.1.0.1))
made task g.Item k.GoalItem draft m plain is of = (goal_item_of m, refl, refl, (of.0, tt, tt))
made task g.Item k.RuleItem draft m plain is of = (rule_item_of m, refl, refl, (of.1.1.0, of.1.0.0, (of.0, of.1.0.1)))
made task g.Reach k.Reach draft m plain is of = (m.0, refl, refl, of.0)
made task g.Start k.Start draft m plain is of = (m.0, refl, refl, of.0)
made task g.Row k.Row draft m plain is of = (row_of m, refl, refl, (of.1.0, of.0))
made task g.Ranked k.GoalItem draft m plain is of = ((goal_item_of m, 0), refl, refl, ((of.0, tt, tt), omega arith, λ goal. refl))
made task g.Ranked k.RankedItem draft m plain is of = (ranked_item_of m, refl, refl, ((of.1.1.1.0, of.1.1.0.0, (of.0, of.1.1.0.1)), of.1.0, λ goal. absurd (cc)))
made task group kind draft m plain is of = absurd (cc)

-- there is room for what a line makes of which there are fewer than 2^32
room : (group : Group) (kind : LineKind) (draft : Draft) → is_in group kind ≡ true → (is_few group ≡ true → count_of group draft < 2 ^ 32 - 1) → HasRoom group kind draft
room g.Rule k.FairRule draft is few = few refl
room g.Rule k.UnfairRule draft is few = few refl
room g.Item k.GoalItem draft is few = few refl
room g.Item k.RuleItem draft is few = few refl
room g.Ranked k.GoalItem draft is few = few refl
room g.Ranked k.RankedItem draft is few = few refl
room g.Row k.Row draft is few = few refl
room group k.FairRule draft is few = absurd (cc)
room group k.UnfairRule draft is few = absurd (cc)
room group k.GoalItem draft is few = absurd (cc)
room group k.RuleItem draft is few = absurd (cc)
room group k.RankedItem draft is few = absurd (cc)
room group k.Row draft is few = absurd (cc)
room group kind draft is few = tt

-- what a line that a section takes makes of a draft: one line more of the section, with these counts, and nothing else
record IsMoved (task : Task) (section : Section) (cert : Kind) (at : ℕ) (next : Due) (line : Line) (draft after : Draft) : Type 0 where
  pub lines : ℕ
  pub inner : ℕ
  pub next_is : next ≡ SectionDue cert at lines inner
  pub counted : IsCounted section after lines inner
  pub more : section_lines task after section ≡ section_lines task draft section ++ (line ∷ [])
  pub same : (group : Group) → is_plain group ≡ true → order group ≢ order_of section → entries group after ≡ entries group draft
  pub layers_same : 0 ≢ order_of section → all_layers after ≡ all_layers draft
  pub far_same : 70 ≢ order_of section → all_far after ≡ all_far draft
  pub draft_of : IsDraftOf task after

-- a list is being read if one list more was begun than is complete
open_by : (current : Option (List CubeView)) (layers : List (List CubeView)) (lines : ℕ) → length (with_current layers current) ≡ lines → length layers ≡ lines - 1 → 0 < lines → (cubes : List CubeView) × (current ≡ Some cubes)
open_by (Some cubes) layers lines all closed some = (cubes, refl)
open_by None layers lines all closed some = absurd (omega (arith, all, closed, some))

-- the group of the line of a section that was read last
abbrev now_in : Section → Due → Group
now_in section (SectionDue cert at lines inner) = group_in section inner
now_in section due = g.Layer

module _ (task : Task) (cert : Kind) (at lines inner : ℕ) (next : Due) (draft : Draft) (own : IsDraftOf task draft) where
  -- one more entry of a group after the layers
  module _ (group : Group) (after : is_plain group ≡ true) (none : is_single group ≡ true → count_of group draft ≡ 0) (few : is_few group ≡ true → count_of group draft + 1 < 2 ^ 32) (entry : Entry group) where
    one_count : count_of group (with_entry group draft entry) ≡ count_of group draft + 1
    one_count = ap length (entry_added group draft entry after none) ∙ one_more (entries group draft) entry

    with_one : IsEntryOf task group entry → IsDraftOf task (with_entry group draft entry)
    with_one of = record {
      layers = subst (BelongAsLayers task) (sym (blocks_kept group draft entry after).0) own.layers;
      far = subst (BelongAsLayers task) (sym (blocks_kept group draft entry after).1) own.far;
      parts = λ other later. parts other later (kept group other draft entry after later);
    }
      where
        parts : (other : Group) → is_plain other ≡ true → (group ≡ other) ⊎ (entries other (with_entry group draft entry) ≡ entries other draft) → AreEntriesOf task other (entries other (with_entry group draft entry))
        parts other later (inr same) = subst (AreEntriesOf task other) (sym same) (own.parts other later)
        parts other later (inl same) =
            let old = own.parts group after in
            let all : All (IsEntryOf task group) (entries group (with_entry group draft entry)) = subst (All (IsEntryOf task group)) (sym (entry_added group draft entry after none)) (all_more (IsEntryOf task group) (entries group draft) entry old.0 of) in
            subst (λ o. AreEntriesOf task o (entries o (with_entry group draft entry))) same (all, λ is. omega (arith, one_count, few is))

    one_moved : (section : Section) (kind : LineKind) (m : Meanings (form kind)) (lines inner : ℕ) → order_of section ≡ order group → section_lines task (with_entry group draft entry) section ≡ map (entry_line task group) (entries group (with_entry group draft entry)) →
        section_lines task draft section ≡ map (entry_line task group) (entries group draft) → entry_line task group entry ≡ spelled_line task kind m → IsEntryOf task group entry → next ≡ SectionDue cert at lines inner → IsCounted section (with_entry group draft entry) lines inner →
        IsMoved task section cert at next (spelled_line task kind m) draft (with_entry group draft entry)
    one_moved section kind m lines inner order_is now was line_is of next_is counted = record {
      lines = lines;
      inner = inner;
      next_is = next_is;
      counted = counted;
      more =
          now ∙ ap (map (entry_line task group)) (entry_added group draft entry after none) ∙ map-append (entry_line task group) (entries group draft) (entry ∷ [])
          ∙ ap (λ line. map (entry_line task group) (entries group draft) ++ (line ∷ [])) line_is ∙ ap (λ l. l ++ (spelled_line task kind m ∷ [])) (sym was);
      same = λ other later apart. other_same other later apart (kept group other draft entry after later);
      layers_same = λ later. (blocks_kept group draft entry after).0;
      far_same = λ later. (blocks_kept group draft entry after).1;
      draft_of = with_one of;
    }
      where
        other_same : (other : Group) → is_plain other ≡ true → order other ≢ order_of section → (group ≡ other) ⊎ (entries other (with_entry group draft entry) ≡ entries other draft) → entries other (with_entry group draft entry) ≡ entries other draft
        other_same other later apart (inl same) = absurd (apart (sym (order_is ∙ ap order same)))
        other_same other later apart (inr same) = same

  -- a line of a group moves a draft on within a section that takes it
  abbrev Moves : Section → Group → (kind : LineKind) → Meanings (form kind) → Type 0
  Moves section group kind m = IsMoved task section cert at next (spelled_line task kind m) draft (grown group draft kind m)

  layer_moved : (group : Group) (m : Meanings (form k.Layer)) → IsCounted (Blocks g.Layer g.Cube) draft lines inner → after_in (Blocks g.Layer g.Cube) cert at lines inner k.Layer ≡ Some next → Moves (Blocks g.Layer g.Cube) group k.Layer m
  layer_moved group m counted e =
      let few = few_is (lines + 1) (SectionDue cert at (lines + 1) 0) next e in
      let all = all_layers draft in
      let count = one_more all [] in record {
        lines = lines + 1;
        inner = 0;
        next_is = few.1;
        counted = (count ∙ ap (λ n. n + 1) counted.0, refl, omega (arith, counted.0));
        more = flat_map-append (layer_lines task) all ([] ∷ []);
        same = λ group after other. apart draft all (Some []) (all_far draft) None group after;
        layers_same = λ after. absurd (after refl);
        far_same = λ after. refl;
        draft_of = blocks_belong task draft all (Some []) (all_far draft) None (list_begun task all own.layers (omega (arith, few.0, counted.0))) own.far own;
      }

  far_moved : (group : Group) (m : Meanings (form k.Far)) → IsCounted (Blocks g.Far g.FarCube) draft lines inner → after_in (Blocks g.Far g.FarCube) cert at lines inner k.Far ≡ Some next → Moves (Blocks g.Far g.FarCube) group k.Far m
  far_moved group m counted e =
      let few = few_is (lines + 1) (SectionDue cert at (lines + 1) 0) next e in
      let all = all_far draft in
      let count = one_more all [] in record {
        lines = lines + 1;
        inner = 0;
        next_is = few.1;
        counted = (count ∙ ap (λ n. n + 1) counted.0, refl, omega (arith, counted.0), counted.3);
        more = flat_map-append (far_lines task) all ([] ∷ []);
        same = λ group after other. apart draft (all_layers draft) None all (Some []) group after;
        layers_same = λ after. refl;
        far_same = λ after. absurd (after refl);
        draft_of = blocks_belong task draft (all_layers draft) None all (Some []) own.layers (list_begun task all own.far (omega (arith, few.0, counted.0))) own;
      }

  cube_moved : (m : Meanings (form k.Cube)) → AreOfTask task (form k.Cube) m → IsCounted (Blocks g.Layer g.Cube) draft lines inner → after_in (Blocks g.Layer g.Cube) cert at lines inner k.Cube ≡ Some next → Moves (Blocks g.Layer g.Cube) g.Cube k.Cube m
  cube_moved m of counted e =
      let test = passed (nat_lt 0 lines) _ next e in
      let some : 0 < lines = grind (arith, nat_tests, test.0) in
      let few = few_is (inner + 1) (SectionDue cert at lines (inner + 1)) next test.1 in
      let current = open_by draft.current draft.layers lines counted.0 counted.2 some in
      let same : all_layers draft ≡ draft.layers ++ (current.0 ∷ []) = ap (with_current draft.layers) current.1 in
      let cubes : length current.0 ≡ inner = ap (λ o. count_of g.Cube (record draft { current = o })) (sym current.1) ∙ counted.1 in
      let grown_layer = current.0 ++ (m.0 ∷ []) in
      let size = one_more current.0 m.0 in
      let long = one_more draft.layers grown_layer ∙ sym (one_more draft.layers current.0) ∙ ap length (sym same) in
      subst (λ o. IsMoved task (Blocks g.Layer g.Cube) cert at next (cube_line task m.0) draft (record draft { current = option_map (λ (layer : List CubeView). layer ++ (m.0 ∷ [])) o })) (sym current.1)
      (record {
        lines = lines;
        inner = inner + 1;
        next_is = few.1;
        counted = (long ∙ counted.0, size ∙ ap (λ n. n + 1) cubes, counted.2);
        more = rw same (simp (flat_map-append, map-append, append_assoc, append-nil));
        same = λ group after other. apart draft draft.layers (Some grown_layer) draft.far draft.current_far group after;
        layers_same = λ after. absurd (after refl);
        far_same = λ after. refl;
        draft_of =
            blocks_belong task draft draft.layers (Some grown_layer) draft.far draft.current_far (cube_added task draft.layers current.0 m.0 (subst (BelongAsLayers task) same own.layers) (omega (arith, cubes, few.0)) of.0) own.far own;
      })

  far_cube_moved : (m : Meanings (form k.Cube)) → AreOfTask task (form k.Cube) m → IsCounted (Blocks g.Far g.FarCube) draft lines inner → after_in (Blocks g.Far g.FarCube) cert at lines inner k.Cube ≡ Some next → Moves (Blocks g.Far g.FarCube) g.FarCube k.Cube m
  far_cube_moved m of counted e =
      let test = passed (nat_lt 0 lines) _ next e in
      let some : 0 < lines = grind (arith, nat_tests, test.0) in
      let few = few_is (inner + 1) (SectionDue cert at lines (inner + 1)) next test.1 in
      let current = open_by draft.current_far draft.far lines counted.0 counted.2 some in
      let same : all_far draft ≡ draft.far ++ (current.0 ∷ []) = ap (with_current draft.far) current.1 in
      let cubes : length current.0 ≡ inner = ap (λ o. count_of g.FarCube (record draft { current_far = o })) (sym current.1) ∙ counted.1 in
      let grown_list = current.0 ++ (m.0 ∷ []) in
      let size = one_more current.0 m.0 in
      let long = one_more draft.far grown_list ∙ sym (one_more draft.far current.0) ∙ ap length (sym same) in
      subst (λ o. IsMoved task (Blocks g.Far g.FarCube) cert at next (cube_line task m.0) draft (record draft { current_far = option_map (λ (list : List CubeView). list ++ (m.0 ∷ [])) o })) (sym current.1)
      (record {
        lines = lines;
        inner = inner + 1;
        next_is = few.1;
        counted = (long ∙ counted.0, size ∙ ap (λ n. n + 1) cubes, counted.2, counted.3);
        more = rw same (simp (flat_map-append, map-append, append_assoc, append-nil));
        same = λ group after other. apart draft draft.layers draft.current draft.far (Some grown_list) group after;
        layers_same = λ after. refl;
        far_same = λ after. absurd (after refl);
        draft_of =
            blocks_belong task draft draft.layers draft.current draft.far (Some grown_list) own.layers (cube_added task draft.far current.0 m.0 (subst (BelongAsLayers task) same own.far) (omega (arith, cubes, few.0)) of.0) own;
      })

  in_second : (section : Section) (first second : Group) → section ≡ Blocks first second → next ≡ SectionDue cert at lines (inner + 1) → now_in section next ≡ second
  in_second section first second is e = let test : (inner + 1 == 0) ≡ false = grind (arith, nat_tests) in rw (is, e, test) refl

  -- a line moves a draft on within each section
  moved : (section : Section) (kind : LineKind) (m : Meanings (form kind)) → IsKnown section → AreOfTask task (form kind) m → IsCounted section draft lines inner → after_in section cert at lines inner kind ≡ Some next → Moves section (now_in section next) kind m
  moved (One group) kind m known of counted e =
      let test = passed (is_in group kind && lines == 0) _ next e in
      let both = both_true (is_in group kind) (lines == 0) test.0 in
      let first : lines ≡ 0 = grind (arith, nat_tests, both.1) in
      let entry = made task group kind draft m known.0 both.0 of in
      let none : count_of group draft ≡ 0 = counted ∙ first in
      let few : count_of group draft + 1 < 2 ^ 32 = omega (arith, none) in
      let count = one_count group known.0 (λ is. none) (λ is. few) entry.0 in
      let due = some_is (SectionDue cert at 1 0) next test.1 in
      subst (λ taken. Moves (One group) taken kind m) (sym (ap (now_in (One group)) due)) (subst (IsMoved task (One group) cert at next (spelled_line task kind m) draft) (sym entry.1)
      (one_moved group known.0 (λ is. none) (λ is. few) entry.0 (One group) kind m 1 0 refl refl refl entry.2 entry.3 due (omega (arith, count, none))))
  moved (Any group) kind m known of counted e =
      let test = passed (is_in group kind) _ next e in
      let entry = made task group kind draft m known.0 test.0 of in
      let due = some_is (SectionDue cert at lines 0) next test.1 in
      subst (λ taken. Moves (Any group) taken kind m) (sym (ap (now_in (Any group)) due)) (subst (IsMoved task (Any group) cert at next (spelled_line task kind m) draft) (sym entry.1)
      (one_moved group known.0 (λ is. absurd (cc)) (λ is. absurd (cc)) entry.0 (Any group) kind m lines 0 refl refl refl entry.2 entry.3 due tt))
  moved (Few group) kind m known of counted e =
      let test = passed (is_in group kind) _ next e in
      let few = few_is (lines + 1) (SectionDue cert at (lines + 1) 0) next test.1 in
      let entry = made task group kind draft m known.0 test.0 of in
      let count = one_count group known.0 (λ is. absurd (cc)) (λ is. omega (arith, few.0, counted)) entry.0 in
      subst (λ taken. Moves (Few group) taken kind m) (sym (ap (now_in (Few group)) few.1)) (subst (IsMoved task (Few group) cert at next (spelled_line task kind m) draft) (sym entry.1)
      (one_moved group known.0 (λ is. absurd (cc)) (λ is. omega (arith, few.0, counted)) entry.0 (Few group) kind m (lines + 1) 0 refl refl refl entry.2 entry.3 few.1 (count ∙ ap (λ n. n + 1) counted)))
  moved (Blocks g.Layer g.Cube) k.Layer m known of counted e = layer_moved g.Layer m counted e
  moved (Blocks g.Layer g.Cube) k.Cube m known of counted e =
      let one = cube_moved m of counted e in
      subst (λ taken. Moves (Blocks g.Layer g.Cube) taken k.Cube m) (sym (in_second (Blocks g.Layer g.Cube) g.Layer g.Cube refl (few_is (inner + 1) (SectionDue cert at lines (inner + 1)) next (passed (nat_lt 0 lines) _ next e).1).1)) one
  moved (Blocks g.Layer g.Cube) kind m known of counted e = absurd (cc)
  moved (Blocks g.Far g.FarCube) k.Far m known of counted e = far_moved g.Far m counted e
  moved (Blocks g.Far g.FarCube) k.Cube m known of counted e =
      let one = far_cube_moved m of counted e in
      subst (λ taken. Moves (Blocks g.Far g.FarCube) taken k.Cube m) (sym (in_second (Blocks g.Far g.FarCube) g.Far g.FarCube refl (few_is (inner + 1) (SectionDue cert at lines (inner + 1)) next (passed (nat_lt 0 lines) _ next e).1).1)) one
  moved (Blocks g.Far g.FarCube) kind m known of counted e = absurd (cc)
  moved (Blocks first second) kind m known of counted e = absurd known

  room_in : (section : Section) (kind : LineKind) → IsKnown section → IsCounted section draft lines inner → after_in section cert at lines inner kind ≡ Some next → HasRoom (now_in section next) kind draft
  room_in (One group) kind known counted e =
      let test = passed (is_in group kind && lines == 0) _ next e in
      let both = both_true (is_in group kind) (lines == 0) test.0 in
      let first : lines ≡ 0 = grind (arith, nat_tests, both.1) in
      subst (λ taken. HasRoom taken kind draft) (sym (ap (now_in (One group)) (some_is (SectionDue cert at 1 0) next test.1))) (room group kind draft both.0 (λ is. omega (arith, first, counted)))
  room_in (Any group) kind known counted e =
      let test = passed (is_in group kind) _ next e in
      subst (λ taken. HasRoom taken kind draft) (sym (ap (now_in (Any group)) (some_is (SectionDue cert at lines 0) next test.1))) (room group kind draft test.0 (λ is. absurd (cc)))
  room_in (Few group) kind known counted e =
      let test = passed (is_in group kind) _ next e in
      let few = few_is (lines + 1) (SectionDue cert at (lines + 1) 0) next test.1 in
      subst (λ taken. HasRoom taken kind draft) (sym (ap (now_in (Few group)) few.1)) (room group kind draft test.0 (λ is. omega (arith, few.0, counted)))
  room_in (Blocks g.Layer g.Cube) k.Layer known counted e = tt
  room_in (Blocks g.Layer g.Cube) k.Cube known counted e = tt
  room_in (Blocks g.Layer g.Cube) kind known counted e = absurd (cc)
  room_in (Blocks g.Far g.FarCube) k.Far known counted e = tt
  room_in (Blocks g.Far g.FarCube) k.Cube known counted e = tt
  room_in (Blocks g.Far g.FarCube) kind known counted e = absurd (cc)
  room_in (Blocks first second) kind known counted e = absurd known

-- lines of two drafts that have the same entries of groups of these orders
module _ (task : Task) (draft after : Draft) (IsSame : ℕ → Type 0) (same : (group : Group) → is_plain group ≡ true → IsSame (order group) → entries group after ≡ entries group draft) (layers_same : IsSame 0 → all_layers after ≡ all_layers draft) (far_same : IsSame 70 → all_far after ≡ all_far draft) where
  section_same : (section : Section) → IsKnown section → IsSame (order_of section) → section_lines task after section ≡ section_lines task draft section
  section_same (One group) known is = ap (map (entry_line task group)) (same group known.0 is)
  section_same (Any group) known is = ap (map (entry_line task group)) (same group known.0 is)
  section_same (Few group) known is = ap (map (entry_line task group)) (same group known.0 is)
  section_same (Blocks g.Layer g.Cube) known is = ap (flat_map (layer_lines task)) (layers_same is)
  section_same (Blocks g.Far g.FarCube) known is = ap (flat_map (far_lines task)) (far_same is)
  section_same (Blocks first second) known is = absurd known

closed_lines : (task : Task) (draft : Draft) (further : List Line) (least : ℕ) (xs : List Section) → AreKnown least xs → lines_then task (closed draft) xs further ≡ lines_then task draft xs further
closed_lines task draft further least [] known = refl
closed_lines task draft further least (x ∷ xs) known = λ i.
    section_same task draft (closed draft) (λ n. ⊤) (λ group after is. apart draft (all_layers draft) None (all_far draft) None group after) (λ is. refl) (λ is. refl) x known.0 tt i ++ closed_lines task draft further (order_of x + 2) xs known.2 i

-- a draft has no lines of later sections
section_none : (task : Task) (draft : Draft) (section : Section) → IsKnown section → 0 < order_of section → ((group : Group) → order_of section ≡ order group → count_of group draft ≡ 0) → section_lines task draft section ≡ []
section_none task draft (One group) known after none = ap (map (entry_line task group)) (nil_if (entries group draft) (none group refl))
section_none task draft (Any group) known after none = ap (map (entry_line task group)) (nil_if (entries group draft) (none group refl))
section_none task draft (Few group) known after none = ap (map (entry_line task group)) (nil_if (entries group draft) (none group refl))
section_none task draft (Blocks g.Layer g.Cube) known after none = absurd (omega (arith, after))
section_none task draft (Blocks g.Far g.FarCube) known after none = ap (flat_map (far_lines task)) (nil_if (all_far draft) (none g.Far refl))
section_none task draft (Blocks first second) known after none = absurd known

none_lines : (task : Task) (draft : Draft) (section : Section) (least : ℕ) (xs : List Section) → HasNoneAfter section draft → AreKnown least xs → order_of section < least → lines_then task draft xs [] ≡ []
none_lines task draft section least [] none known below = refl
none_lines task draft section least (x ∷ xs) none known below = λ i.
    section_none task draft x known.0 (omega (arith, below, known.1)) (λ group is. none group (omega (arith, below, known.1, is))) i ++ none_lines task draft section (order_of x + 2) xs none known.2 (omega (arith, below, known.1)) i

lines_end : (task : Task) (draft : Draft) (further : List Line) (xs : List Section) → lines_then task draft xs [] ++ further ≡ lines_then task draft xs further
lines_end task draft further [] = refl
lines_end task draft further (x ∷ xs) = append_assoc (section_lines task draft x) (lines_then task draft xs []) further ∙ ap (λ l. section_lines task draft x ++ l) (lines_end task draft further xs)

-- a section comes after those before it
comes_after : (at least : ℕ) (xs : List Section) (section : Section) (later : List Section) → drop at xs ≡ section ∷ later → AreKnown least xs → least ≤ order_of section
comes_after zero least xs section later there known = let from : AreKnown least (section ∷ later) = subst (AreKnown least) there known in from.1
comes_after (suc at) least [] section later there known = absurd (cc)
comes_after (suc at) least (x ∷ xs) section later there known = omega (arith, known.1, comes_after at (order_of x + 2) xs section later there known.2)

-- one line more of a section, with no lines of later sections, is one line more
module _ (task : Task) (section : Section) (later : List Section) (draft after : Draft) (line : Line) (none : HasNoneAfter section draft) (none_now : HasNoneAfter section after) (more : section_lines task after section ≡ section_lines task draft section ++ (line ∷ []))
    (same : (other : Section) → IsKnown other → order_of other ≢ order_of section → section_lines task after other ≡ section_lines task draft other) where
  grown_lines : (at least : ℕ) (xs : List Section) → drop at xs ≡ section ∷ later → AreKnown least xs → lines_then task after xs [] ≡ lines_then task draft xs [] ++ (line ∷ [])
  grown_lines zero least xs there known =
      let from : AreKnown least (section ∷ later) = subst (AreKnown least) there known in
      let now : lines_then task after later [] ≡ [] = none_lines task after section (order_of section + 2) later none_now from.2 (omega arith) in
      let was : lines_then task draft later [] ≡ [] = none_lines task draft section (order_of section + 2) later none from.2 (omega arith) in
      subst (λ xs. lines_then task after xs [] ≡ lines_then task draft xs [] ++ (line ∷ [])) (sym there) (rw (now, was, more) (simp (append_assoc, append-nil)))
  grown_lines (suc at) least [] there known = absurd (cc)
  grown_lines (suc at) least (x ∷ xs) there known =
      let above = comes_after at (order_of x + 2) xs section later there known.2 in
      ap (λ l. l ++ lines_then task after xs []) (same x known.0 (λ is. omega (arith, above, is))) ∙ ap (λ l. section_lines task draft x ++ l) (grown_lines at (order_of x + 2) xs there known.2)
      ∙ sym (append_assoc (section_lines task draft x) (lines_then task draft xs []) (line ∷ []))

-- one of some sections has its own order
own_order : (at : ℕ) (xs : List Section) (section : Section) (later : List Section) → drop at xs ≡ section ∷ later → has_order (order_of section) xs ≡ true
own_order at [] section later e = absurd (omega (arith, ap length e, ap length (drop-nil {A = Section} at)))
own_order zero (x ∷ xs) section later e = let same : x ≡ section = cc in rw same (grind (arith, nat_tests))
own_order (suc at) (x ∷ xs) section later e = let more = own_order at xs section later e in rw more (or-true (nat_eq (order_of x) (order_of section)))

-- a draft without layers has no cubes
no_cubes : (layers : List (List CubeView)) (current : Option (List CubeView)) → length (with_current layers current) ≡ 0 → option_map_or (λ (layer : List CubeView). layer) current [] ≡ []
no_cubes layers None none = refl
no_cubes layers (Some cubes) none = absurd (omega (arith, none, one_more layers cubes))

-- a draft without lines of a group still has none after a section of another order took a line; if it is the cubes, there are no layers or
-- no far lists
module _ (task : Task) (section : Section) (cert : Kind) (at : ℕ) (next : Due) (line : Line) (draft after : Draft) (one : IsMoved task section cert at next line draft after) where
  still_none : (group : Group) → order group ≢ order_of section → (order group ≡ 0 → count_of g.Layer draft ≡ 0) → (order group ≡ 70 → count_of g.Far draft ≡ 0) → count_of group draft ≡ 0 → count_of group after ≡ 0
  still_none g.Layer other layers far none = ap length (one.layers_same other) ∙ none
  still_none g.Cube other layers far none = ap length (no_cubes after.layers after.current (ap length (one.layers_same other) ∙ layers refl))
  still_none g.Far other layers far none = ap length (one.far_same other) ∙ none
  still_none g.FarCube other layers far none = ap length (no_cubes after.far after.current_far (ap length (one.far_same other) ∙ far refl))
  still_none group other layers far none = ap length (one.same group refl other) ∙ none

-- a draft without parts has no lines
none_of_empty : (group : Group) → count_of group no_parts ≡ 0
none_of_empty g.Layer = refl
none_of_empty g.Far = refl
none_of_empty group = refl

nothing_written : (task : Task) (cert : Kind) → draft_lines task cert no_parts ≡ []
nothing_written task (OfPolicy ByReach) = refl
nothing_written task (OfPolicy ByCover) = refl
nothing_written task OfRefusal = refl
nothing_written task OfTable = refl
nothing_written task OfBest = refl

-- a content is one of the document of its kind
content_document : (content : Content) → document_of content ≡ kind_document (kind_of content)
content_document (Content.certificate (Policy layers pairs rules reach)) = refl
content_document (Content.certificate (Refusal layers)) = refl
content_document (Content.certificate (Covered layers pairs rules items start)) = refl
content_document (Content.table rows) = refl
content_document (Content.best cert) = refl

-- a draft without parts fits the first section
first_reached : (cert : Kind) → HasReached (sections cert) no_parts 0 0
first_reached (OfPolicy ByReach) = ((refl, refl, refl), λ group below. none_of_empty group)
first_reached (OfPolicy ByCover) = ((refl, refl, refl), λ group below. none_of_empty group)
first_reached OfRefusal = ((refl, refl, refl), λ group below. none_of_empty group)
first_reached OfTable = (refl, λ group below. none_of_empty group)
first_reached OfBest = ((refl, refl, refl), λ group below. none_of_empty group)

-- the group of a line of a section is that of the due after it
taken_in : (cert : Kind) (at : ℕ) (next : Due) (section : Section) (later : List Section) → drop at (sections cert) ≡ section ∷ later → (lines inner : ℕ) → next ≡ SectionDue cert at lines inner → taker next ≡ now_in section next
taken_in cert at next section later there lines inner is = rw (is, there) refl

module _ (document : Document) (task : Task) (next : Due) (before after : Draft) (lines : List Line) (own : IsDraftOf task before) where
  header_step : (cert : Kind) → before ≡ no_parts → lines ≡ [] → kind_document cert ≡ document → next ≡ SectionDue cert 0 0 0 → after ≡ closed before → IsStepped document task (header task cert) next after lines
  header_step cert empty none of_document next_is is =
      let same : after ≡ no_parts = is ∙ ap closed empty in record {
        fits = rw (next_is, same) (ap (λ l. l ++ (header task cert ∷ [])) none ∙ ap (λ l. header task cert ∷ l) (sym (nothing_written task cert)), λ group unused. none_of_empty group, first_reached cert, of_document);
        draft = rw is (closed_draft task before own);
      }

  end_step : (cert : Kind) → lines ≡ header task cert ∷ draft_lines task cert before → kind_document cert ≡ document → IsWholeOf cert before × (next ≡ NothingDue) → after ≡ closed before → IsStepped document task (end_line task) next after lines
  end_step cert written of_document whole is =
      let ends = end_line task ∷ [] in
      let all : lines_then task (closed before) (sections cert) ends ≡ draft_lines task cert before ++ ends = closed_lines task before ends 0 (sections cert) (all_known cert) ∙ sym (lines_end task before ends (sections cert)) in
      let kinds = ap (λ kind. header task kind ∷ lines_then task (closed before) (sections kind) ends) (sym whole.0.1) in
      let parts = ap (λ d. header task (kind_of whole.0.0) ∷ lines_then task d (sections (kind_of whole.0.0)) ends) whole.0.2 in
      record {
        fits = rw whole.1 (whole.0.0, is ∙ whole.0.2, lines_more lines _ _ (header task cert) (end_line task) written all ∙ kinds ∙ parts, content_document whole.0.0 ∙ ap kind_document whole.0.1 ∙ of_document);
        draft = rw is (closed_draft task before own);
      }

  section_step : (cert : Kind) (kind : LineKind) (m : Meanings (form kind)) → lines ≡ header task cert ∷ draft_lines task cert before → HasOnly cert before → kind_document cert ≡ document → AreOfTask task (form kind) m →
      after ≡ grown (taker next) before kind m → IsAllowedIn cert kind next before → IsStepped document task (spelled_line task kind m) next after lines
  section_step cert kind m written only of_document of is a =
      let now = grown (taker next) before kind m in
      let one_in = moved task cert a.at a.lines a.inner next before own a.section kind m a.known of a.counted a.allowed in
      let one : IsMoved task a.section cert a.at next (spelled_line task kind m) before now =
      subst (λ taken. IsMoved task a.section cert a.at next (spelled_line task kind m) before (grown taken before kind m)) (sym (taken_in cert a.at next a.section a.later a.there one_in.lines one_in.inner one_in.next_is)) one_in in
      let used = own_order a.at (sections cert) a.section a.later a.there in
      let none_now : HasNoneAfter a.section now = λ group below. still_none task a.section cert a.at next (spelled_line task kind m) before now one group (λ same. omega (arith, below, same)) (λ first. absurd (omega (arith, below, first))) (λ far. a.none g.Far (omega (arith, below, far))) (a.none group below) in
      let same = section_same task before now (λ n. n ≢ order_of a.section) one.same one.layers_same one.far_same in
      let more = grown_lines task a.section a.later before now (spelled_line task kind m) a.none none_now one.more same a.at 0 (sections cert) a.there (all_known cert) in
      record {
        fits =
            rw (one.next_is, is) (
              lines_more lines _ _ (header task cert) (spelled_line task kind m) written more,
              λ group unused.
                  still_none task a.section cert a.at next (spelled_line task kind m) before now one group (λ same. let clash = subst (λ n. has_order n (sections cert) ≡ true) (sym same) used in absurd (cc))
                  (λ first. only g.Layer (subst (λ n. has_order n (sections cert) ≡ false) first unused)) (λ far. only g.Far (subst (λ n. has_order n (sections cert) ≡ false) far unused)) (only group unused),
              rw a.there (one.counted, none_now),
              of_document,
            );
        draft = rw is one.draft_of;
      }

-- a line that is allowed takes a draft to what is due next
pub step : (document : Document) (task : Task) (due next : Due) (before after : Draft) (lines : List Line) → FitsDue document task due before lines → IsDraftOf task before → (kind : LineKind) (m : Meanings (form kind)) → due_after due kind ≡ Some next →
    AreOfTask task (form kind) m → after ≡ grown (taker next) before kind m → IsStepped document task (spelled_line task kind m) next after lines
step document task (HeaderDue Certificate) next before after lines fits own k.PolicyHeader m e of is =
    header_step document task next before after lines own (OfPolicy ByReach) fits.0 fits.1 fits.2 (some_is (SectionDue (OfPolicy ByReach) 0 0 0) next e) is
step document task (HeaderDue Certificate) next before after lines fits own k.CoverHeader m e of is =
    header_step document task next before after lines own (OfPolicy ByCover) fits.0 fits.1 fits.2 (some_is (SectionDue (OfPolicy ByCover) 0 0 0) next e) is
step document task (HeaderDue Certificate) next before after lines fits own k.RefusalHeader m e of is =
    header_step document task next before after lines own OfRefusal fits.0 fits.1 fits.2 (some_is (SectionDue OfRefusal 0 0 0) next e) is
step document task (HeaderDue Table) next before after lines fits own k.TableHeader m e of is = header_step document task next before after lines own OfTable fits.0 fits.1 fits.2 (some_is (SectionDue OfTable 0 0 0) next e) is
step document task (HeaderDue Best) next before after lines fits own k.BestHeader m e of is = header_step document task next before after lines own OfBest fits.0 fits.1 fits.2 (some_is (SectionDue OfBest 0 0 0) next e) is
step document task (HeaderDue other) next before after lines fits own kind m e of is = absurd (cc)
step document task NothingDue next before after lines fits own kind m e of is = absurd (cc)
step document task (SectionDue cert at count inner) next before after lines fits own kind m e of is = by kind m e of is (section_of cert kind next before at count inner fits.2 e)
  where
    by : (kind : LineKind) (m : Meanings (form kind)) → due_after (SectionDue cert at count inner) kind ≡ Some next → AreOfTask task (form kind) m → after ≡ grown (taker next) before kind m → (kind ≡ k.End) ⊎ IsAllowedIn cert kind next before →
        IsStepped document task (spelled_line task kind m) next after lines
    by kind m e of is (inr allowed) = section_step document task next before after lines own cert kind m fits.0 fits.1 fits.3 of is allowed
    by k.End m e of is (inl end) = end_step document task next before after lines own cert fits.0 fits.3 (before_end cert at count inner next before fits.1 fits.2 e) is
    by kind m e of is (inl end) = absurd (cc)

-- the due after a line that a section takes is of that section
due_of : (section : Section) (cert : Kind) (at lines inner : ℕ) (kind : LineKind) (next : Due) → after_in section cert at lines inner kind ≡ Some next → (now : ℕ) × (further : ℕ) × (next ≡ SectionDue cert at now further)
due_of (One group) cert at lines inner kind next e = (1, 0, some_is (SectionDue cert at 1 0) next (passed (is_in group kind && lines == 0) _ next e).1)
due_of (Any group) cert at lines inner kind next e = (lines, 0, some_is (SectionDue cert at lines 0) next (passed (is_in group kind) _ next e).1)
due_of (Few group) cert at lines inner kind next e = (lines + 1, 0, (few_is (lines + 1) (SectionDue cert at (lines + 1) 0) next (passed (is_in group kind) _ next e).1).1)
due_of (Blocks first second) cert at lines inner kind next e = by (is_in first kind) e
  where
    by : (begins : Bool) → (if begins then if_few (lines + 1) (SectionDue cert at (lines + 1) 0) else if is_in second kind && nat_lt 0 lines then if_few (inner + 1) (SectionDue cert at lines (inner + 1)) else None) ≡ Some next →
        (now : ℕ) × (further : ℕ) × (next ≡ SectionDue cert at now further)
    by true e = (lines + 1, 0, (few_is (lines + 1) (SectionDue cert at (lines + 1) 0) next e).1)
    by false e = (lines, inner + 1, (few_is (inner + 1) (SectionDue cert at lines (inner + 1)) next (passed (is_in second kind && nat_lt 0 lines) _ next e).1).1)

-- a header needs no room
header_room : (document : Document) (kind : LineKind) (next : Due) (draft : Draft) → due_after (HeaderDue document) kind ≡ Some next → HasRoom (taker next) kind draft
header_room Certificate k.PolicyHeader next draft e = tt
header_room Certificate k.CoverHeader next draft e = tt
header_room Certificate k.RefusalHeader next draft e = tt
header_room Table k.TableHeader next draft e = tt
header_room Best k.BestHeader next draft e = tt
header_room document kind next draft e = absurd (cc)

-- there is room for what a line makes that is allowed
pub has_room : (document : Document) (task : Task) (due next : Due) (draft : Draft) (lines : List Line) (kind : LineKind) → FitsDue document task due draft lines → IsDraftOf task draft → due_after due kind ≡ Some next → HasRoom (taker next) kind draft
has_room document task (SectionDue cert at count inner) next draft lines kind fits own e = by (section_of cert kind next draft at count inner fits.2 e)
  where
    by : (kind ≡ k.End) ⊎ IsAllowedIn cert kind next draft → HasRoom (taker next) kind draft
    by (inl end) = rw end tt
    by (inr a) =
        let due = due_of a.section cert a.at a.lines a.inner kind next a.allowed in
        subst (λ taken. HasRoom taken kind draft) (sym (taken_in cert a.at next a.section a.later a.there due.0 due.1 due.2)) (room_in task cert a.at a.lines a.inner next draft own a.section kind a.known a.counted a.allowed)
has_room document task (HeaderDue own_document) next draft lines kind fits own e = header_room own_document kind next draft e
has_room document task NothingDue next draft lines kind fits own e = absurd (cc)
