-- The section that takes a line, and what a draft has before it.
use Rattle.std.proofs.Common.{◌≡◌, ◌≤◌, ◌⊎◌, inl, inr, ℕ, zero, suc, ◌+◌, ◌<◌, ◌^◌, nat_lt, Bool, true, false, List, [], ◌∷◌, Option, Some, None, length, map, drop, length-append, if◌then◌else◌, refl, sym, ap, ◌∙◌, subst, arith}
use Rattle.std.specs.Prelude.{⊤}
use Rattle.std.specs.List.{zip}
use Rattle.fond_task.specs.Layers.{CubeView}
use Rattle.fond_policy.specs.declared.item.Item.{Item}
use Rattle.std.proofs.lemmas.Bool.Decides.{nat_tests}
use Rattle.std.proofs.lemmas.List.{drop-drop}
use Rattle.std.proofs.Math.Seq.{drop-nil}
use Rattle.fond_cert.specs.declared.draft.Draft.{Draft}
use Rattle.fond_policy.specs.declared.cert.Cert.TheVariants.{Policy, Refusal, Covered}
use Rattle.fond_cert.specs.Drafts.{closed, count_of, is_few, is_plain, order, order_of, HasOnly, HasNoneAfter, IsCounted, HasReached}
use Rattle.fond_cert.specs.declared.due.Evidence.TheVariants.{Reach as ByReach, Cover as ByCover}
use Rattle.fond_cert.specs.declared.due.Kind.{Kind}
use Rattle.fond_cert.specs.declared.due.Kind.TheVariants.{Policy as OfPolicy, Refusal as OfRefusal, Table as OfTable, Best as OfBest}
use Rattle.fond_cert.specs.declared.due.Due.{Due}
use Rattle.fond_cert.specs.declared.due.Due.TheVariants.{Section as SectionDue, Nothing as NothingDue}
use Rattle.fond_cert.specs.declared.due.Group.{Group}
use Rattle.fond_cert.specs.declared.due.Group.TheVariants as g
use Rattle.fond_cert.specs.declared.due.Section.{Section}
use Rattle.fond_cert.specs.declared.due.Section.TheVariants.{One, Any, Few, Blocks}
use Rattle.fond_cert.specs.Spellings.{with_current, all_layers, all_far, listed, Content, parts_of, kind_of}
use Rattle.fond_cert.specs.Sections.{sections, is_in, after_in, may_end, or_later, after_sections, due_after, if_few}
use Rattle.fond_form.specs.declared.table.LineKind.{LineKind}
use Rattle.fond_form.specs.declared.table.LineKind.TheVariants as k

abbrev due_in : Due → Option Due → Due
due_in none None = none
due_in none (Some due) = due

pub some_is : (due next : Due) → Some due ≡ Some next → next ≡ due
some_is due next e = sym (ap (due_in due) e)

-- what follows a test was found only if the test was passed
pub passed : (b : Bool) (found : Option Due) (next : Due) → (if b then found else None) ≡ Some next → (b ≡ true) × (found ≡ Some next)
passed true found next e = (refl, e)
passed false found next e = absurd (cc)

pub few_is : (count : ℕ) (due next : Due) → if_few count due ≡ Some next → (count < 2 ^ 32) × (next ≡ due)
few_is count due next e =
    let test = passed (nat_lt count (2 ^ 32)) (Some due) next e in
    let small : count < 2 ^ 32 = grind (arith, nat_tests, test.0) in
    (small, some_is due next test.1)

-- a number for each kind of lines, in the order of their groups; an item of goals is of two groups, so all kinds of items have one number
abbrev pub rank : LineKind → ℕ
rank k.Layer = 0
rank k.Cube = 1
rank k.Pair = 11
rank k.FairRule = 21
rank k.UnfairRule = 21
rank k.GoalItem = 31
rank k.RuleItem = 31
rank k.RankedItem = 31
rank k.Reach = 41
rank k.Start = 51
rank k.Row = 61
rank k.Far = 71
rank k.End = 101
rank k.PolicyHeader = 102
rank k.CoverHeader = 103
rank k.RefusalHeader = 104
rank k.TableHeader = 105
rank k.BestHeader = 106

-- a group of which there is one number
abbrev pub is_single : Group → Bool
is_single g.Reach = true
is_single g.Start = true
is_single group = false

-- a section is of a group that may have such a one
abbrev pub IsKnown : Section → Type 0
IsKnown (Blocks g.Layer g.Cube) = ⊤
IsKnown (Blocks g.Far g.FarCube) = ⊤
IsKnown (Blocks first second) = ⊥
IsKnown (One group) = (is_plain group ≡ true) × (is_single group ≡ true)
IsKnown (Few group) = (is_plain group ≡ true) × (is_single group ≡ false) × (is_few group ≡ true)
IsKnown (Any group) = (is_plain group ≡ true) × (is_single group ≡ false) × (is_few group ≡ false)

-- far lists come after the start number, at this least order
abbrev pub FollowsStart : ℕ → Section → Type 0
FollowsStart least (Blocks g.Far second) = least ≡ order g.Start + 2
FollowsStart least section = ⊤

-- sections are known, and come in the order of their groups, so that the rank of each line is between its order and this least one
abbrev pub AreKnown : ℕ → List Section → Type 0
AreKnown least [] = ⊤
AreKnown least (section ∷ later) = IsKnown section × (least ≤ order_of section) × AreKnown (order_of section + 2) later × FollowsStart least section

pub all_known : (cert : Kind) → AreKnown 0 (sections cert)
all_known (OfPolicy ByReach) = (tt, omega arith, ((refl, refl, refl), omega arith, ((refl, refl, refl), omega arith, ((refl, refl), omega arith, tt, tt), tt), tt), tt)
all_known (OfPolicy ByCover) = (tt, omega arith, ((refl, refl, refl), omega arith, ((refl, refl, refl), omega arith, ((refl, refl, refl), omega arith, ((refl, refl), omega arith, tt, tt), tt), tt), tt), tt)
all_known OfRefusal = (tt, omega arith, tt, tt)
all_known OfTable = ((refl, refl, refl), omega arith, tt, tt)
all_known OfBest = (tt, omega arith, ((refl, refl, refl), omega arith, ((refl, refl, refl), omega arith, ((refl, refl), omega arith, (tt, omega arith, tt, refl), tt), tt), tt), tt)

-- a section of a kind of text takes a line, after which this is due; the draft has the counts of the section, and no lines after it
pub record IsAllowedIn (cert : Kind) (kind : LineKind) (next : Due) (draft : Draft) : Type 0 where
  pub section : Section
  pub later : List Section
  pub at : ℕ
  pub lines : ℕ
  pub inner : ℕ
  pub there : drop at (sections cert) ≡ section ∷ later
  pub known : IsKnown section
  pub counted : IsCounted section draft lines inner
  pub none : HasNoneAfter section draft
  pub allowed : after_in section cert at lines inner kind ≡ Some next

over : (cert : Kind) (at lines inner : ℕ) (kind : LineKind) (next : Due) → after_sections cert at lines inner [] kind ≡ Some next → kind ≡ k.End
over cert at lines inner k.End next e = refl
over cert at lines inner kind next e = absurd (cc)

-- no lists are all read, if there are none
none_read : (lists : List (List CubeView)) (current : Option (List CubeView)) → length (with_current lists current) ≡ 0 → length lists ≡ 0
none_read lists None none = none
none_read lists (Some list) none = omega (arith, none, length-append lists (list ∷ []))

-- a section of which a draft has nothing has the counts zero
none_counted : (section : Section) (draft : Draft) (least : ℕ) → IsKnown section → least < order_of section → ((group : Group) → least < order group → count_of group draft ≡ 0) →
    (FollowsStart (least + 2) section → (order_of section ≡ 70) → count_of g.Start draft ≡ 1) → FollowsStart (least + 2) section → IsCounted section draft 0 0
none_counted (One group) draft least known below none start follows = none group below
none_counted (Any group) draft least known below none start follows = tt
none_counted (Few group) draft least known below none start follows = none group below
none_counted (Blocks g.Layer g.Cube) draft least known below none start follows = absurd (omega (arith, below))
none_counted (Blocks g.Far g.FarCube) draft least known below none start follows =
    let lists = none g.Far below in (lists, none g.FarCube below, omega (arith, none_read draft.far draft.current_far lists), start follows refl)
none_counted (Blocks first second) draft least known below none start follows = absurd known

-- a draft has the start number after its section
start_there : (section : Section) (draft : Draft) (lines inner : ℕ) → IsKnown section → IsCounted section draft lines inner → may_end section lines ≡ true → order_of section ≡ order g.Start → count_of g.Start draft ≡ 1
start_there (One g.Start) draft lines inner known counted ends is = let one : lines ≡ 1 = grind (arith, nat_tests, ends) in counted ∙ one
start_there (Any g.Start) draft lines inner known counted ends is = let clash = known.1 in absurd (cc)
start_there (Few g.Start) draft lines inner known counted ends is = let clash = known.1 in absurd (cc)
start_there (One group) draft lines inner known counted ends is = absurd (omega (arith, is))
start_there (Any group) draft lines inner known counted ends is = absurd (omega (arith, is))
start_there (Few group) draft lines inner known counted ends is = absurd (omega (arith, is))
start_there (Blocks g.Layer g.Cube) draft lines inner known counted ends is = absurd (omega (arith, is))
start_there (Blocks g.Far g.FarCube) draft lines inner known counted ends is = absurd (omega (arith, is))
start_there (Blocks first second) draft lines inner known counted ends is = absurd known

plain_low : (group : Group) → is_plain group ≡ true → ¬ order group ≡ 70
plain_low g.Far plain is = absurd (cc)
plain_low g.FarCube plain is = absurd (cc)
plain_low group plain is = absurd (omega (arith, is))

-- far lists follow a section only if it is that of the start number
after_start : (least : ℕ) (section : Section) → FollowsStart least section → order_of section ≡ 70 → IsKnown section → least ≡ order g.Start + 2
after_start least (Blocks g.Far g.FarCube) follows is known = follows
after_start least (Blocks g.Layer g.Cube) follows is known = absurd (omega (arith, is))
after_start least (Blocks first second) follows is known = absurd known
after_start least (One group) follows is known = absurd (plain_low group known.0 is)
after_start least (Any group) follows is known = absurd (plain_low group known.0 is)
after_start least (Few group) follows is known = absurd (plain_low group known.0 is)

-- a draft with nothing after a section that may end has reached the next one, if there is one
enter : (section : Section) (later : List Section) (draft : Draft) (lines inner : ℕ) → IsKnown section → IsCounted section draft lines inner → may_end section lines ≡ true → AreKnown (order_of section + 2) later → HasNoneAfter section draft →
    (later ≡ []) ⊎ HasReached later draft 0 0
enter section [] draft lines inner own counted ends known none = inl refl
enter section (next ∷ later) draft lines inner own counted ends known none =
    let start = λ (follows : FollowsStart (order_of section + 2) next) (is : order_of next ≡ 70). start_there section draft lines inner own counted ends (omega (arith, after_start (order_of section + 2) next follows is known.0)) in
    inr (none_counted next draft (order_of section) known.0 (omega (arith, known.1)) none start known.3, λ group below. none group (omega (arith, known.1, below)))

-- what a section gives, or else what the later ones give if it may end
choose : {R : Type 0} (found : Option Due) (ends : Bool) (further : Option Due) (next : Due) → (found ≡ Some next → R) → (ends ≡ true → further ≡ Some next → R) → or_later found (if ends then further else None) ≡ Some next → R
choose (Some due) ends further next here on e = here e
choose None true further next here on e = on refl e
choose None false further next here on e = absurd (cc)

module _ (cert : Kind) (kind : LineKind) (next : Due) (draft : Draft) where
  walk : (at lines inner least : ℕ) (rest : List Section) → drop at (sections cert) ≡ rest → AreKnown least rest → (rest ≡ []) ⊎ HasReached rest draft lines inner →
      after_sections cert at lines inner rest kind ≡ Some next → (kind ≡ k.End) ⊎ IsAllowedIn cert kind next draft
  walk at lines inner least [] there known reached e = inl (over cert at lines inner kind next e)
  walk at lines inner least (section ∷ later) there known (inl none) e = absurd (cc)
  walk at lines inner least (section ∷ later) there known (inr reached) e =
      choose (after_in section cert at lines inner kind) (may_end section lines) (after_sections cert (at + 1) 0 0 later kind) next
      (λ found. inr (record { section = section; later = later; at = at; lines = lines; inner = inner; there = there; known = known.0; counted = reached.0; none = reached.1; allowed = found }))
      (λ ends further. walk (at + 1) 0 0 (order_of section + 2) later (sym (drop-drop 1 at (sections cert)) ∙ ap (drop 1) there) known.2 (enter section later draft lines inner known.0 reached.0 ends known.2 reached.1) further)
      e

  known_from : (at least : ℕ) (xs : List Section) → AreKnown least xs → (other : ℕ) × AreKnown other (drop at xs)
  known_from at least [] known = (0, rw (drop-nil at) tt)
  known_from zero least (section ∷ later) known = (least, known)
  known_from (suc at) least (section ∷ later) known = known_from at (order_of section + 2) later known.2

  -- a line is the last one, or a section takes it
  pub section_of : (at lines inner : ℕ) → HasReached (drop at (sections cert)) draft lines inner → due_after (SectionDue cert at lines inner) kind ≡ Some next → (kind ≡ k.End) ⊎ IsAllowedIn cert kind next draft
  section_of at lines inner reached e = let known = known_from at 0 (sections cert) (all_known cert) in walk at lines inner known.0 (drop at (sections cert)) refl known.1 (inr reached) e

-- what follows the last section

-- the last of some sections
abbrev ends_in : List Section → Option Section
ends_in [] = None
ends_in (section ∷ []) = Some section
ends_in (section ∷ next ∷ later) = ends_in (next ∷ later)

ends_drop : (at : ℕ) (xs : List Section) (section : Section) (later : List Section) → drop at xs ≡ section ∷ later → ends_in (section ∷ later) ≡ ends_in xs
ends_drop zero xs section later e = ap ends_in (sym e)
ends_drop (suc at) [] section later e = absurd (cc)
ends_drop (suc at) (x ∷ []) section later e = let none : [] ≡ section ∷ later = sym (drop-nil at) ∙ e in absurd (cc)
ends_drop (suc at) (x ∷ next ∷ xs) section later e = ends_drop at (next ∷ xs) section later e

not_end : (group : Group) → is_in group k.End ≡ false
not_end g.Layer = refl
not_end group = refl

no_end : (section : Section) (cert : Kind) (at lines inner : ℕ) → after_in section cert at lines inner k.End ≡ None
no_end (One group) cert at lines inner = rw (not_end group) refl
no_end (Any group) cert at lines inner = rw (not_end group) refl
no_end (Few group) cert at lines inner = rw (not_end group) refl
no_end (Blocks first second) cert at lines inner = rw (not_end first, not_end second) refl

-- a draft has the counts of the last section, which may end, and nothing is due next
record IsLast (last : Option Section) (draft : Draft) (next : Due) : Type 0 where
  pub section : Section
  pub lines : ℕ
  pub inner : ℕ
  pub last_is : last ≡ Some section
  pub counted : IsCounted section draft lines inner
  pub ends : may_end section lines ≡ true
  pub next_is : next ≡ NothingDue

reached_on : {R : Type 0} (next : Section) (later : List Section) (draft : Draft) → ((next ∷ later) ≡ []) ⊎ HasReached (next ∷ later) draft 0 0 → (HasReached (next ∷ later) draft 0 0 → R) → R
reached_on next later draft (inl none) on = absurd (cc)
reached_on next later draft (inr reached) on = on reached

-- the last line follows the last section
last_of : (cert : Kind) (next : Due) (draft : Draft) (at lines inner least : ℕ) (rest : List Section) → AreKnown least rest → HasReached rest draft lines inner → after_sections cert at lines inner rest k.End ≡ Some next →
    IsLast (ends_in rest) draft next
last_of cert next draft at lines inner least [] known reached e = absurd reached
last_of cert next draft at lines inner least (section ∷ []) known reached e =
    let over = passed (may_end section lines) (Some NothingDue) next (rw (no_end section cert at lines inner) at e) in
    record { section = section; lines = lines; inner = inner; last_is = refl; counted = reached.0; ends = over.0; next_is = some_is NothingDue next over.1 }
last_of cert next draft at lines inner least (section ∷ after ∷ later) known reached e =
    let over = passed (may_end section lines) (after_sections cert (at + 1) 0 0 (after ∷ later) k.End) next (rw (no_end section cert at lines inner) at e) in
    reached_on after later draft (enter section (after ∷ later) draft lines inner known.0 reached.0 over.0 known.2 reached.1) (λ reached. last_of cert next draft (at + 1) 0 0 (order_of section + 2) (after ∷ later) known.2 reached over.1)

pub nil_if : {X : Type 0} (xs : List X) → length xs ≡ 0 → xs ≡ []
nil_if [] e = refl
nil_if (x ∷ xs) e = absurd (omega (arith, e))

pub none_if : (o : Option ℕ) → length (listed o) ≡ 0 → o ≡ None
none_if None e = refl
none_if (Some n) e = absurd (omega (arith, e))

some_if : (o : Option ℕ) → length (listed o) ≡ 1 → (n : ℕ) × (o ≡ Some n)
some_if None e = absurd (omega (arith, e))
some_if (Some n) e = (n, refl)

-- ranked items are their items with their ranks
pub both_parts : (entries : List (Item × ℕ)) → entries ≡ zip (map (λ (entry : Item × ℕ). entry.0) entries) (map (λ (entry : Item × ℕ). entry.1) entries)
both_parts [] = refl
both_parts (entry ∷ entries) = λ i. entry ∷ both_parts entries i

-- a draft, closed, has the parts of a content of a kind
abbrev pub IsWholeOf : Kind → Draft → Type 0
IsWholeOf kind draft = (content : Content) × (kind_of content ≡ kind) × (closed draft ≡ parts_of content)

-- a draft that may end has the parts of a content
whole_of : (kind : Kind) (section : Section) (lines inner : ℕ) (draft : Draft) → HasOnly kind draft → ends_in (sections kind) ≡ Some section → IsCounted section draft lines inner → may_end section lines ≡ true → IsWholeOf kind draft
whole_of (OfPolicy ByReach) (One g.Reach) lines inner draft only last counted ends =
    let one : lines ≡ 1 = grind (arith, nat_tests, ends) in
    let reach = some_if draft.reach (counted ∙ one) in (
      Content.certificate (Policy (all_layers draft) draft.pairs draft.rules reach.0),
      refl,
      λ i. record (closed draft) { items = nil_if draft.items (only g.Item refl) i; reach = reach.1 i; start = none_if draft.start (only g.Start refl) i; rows = nil_if draft.rows (only g.Row refl) i; ranked = nil_if draft.ranked (only g.Ranked refl) i; far = nil_if (all_far draft) (only g.Far refl) i },
    )
whole_of (OfPolicy ByCover) (One g.Start) lines inner draft only last counted ends =
    let one : lines ≡ 1 = grind (arith, nat_tests, ends) in
    let start = some_if draft.start (counted ∙ one) in (
      Content.certificate (Covered (all_layers draft) draft.pairs draft.rules draft.items start.0),
      refl,
      λ i. record (closed draft) { reach = none_if draft.reach (only g.Reach refl) i; start = start.1 i; rows = nil_if draft.rows (only g.Row refl) i; ranked = nil_if draft.ranked (only g.Ranked refl) i; far = nil_if (all_far draft) (only g.Far refl) i },
    )
whole_of OfRefusal section lines inner draft only last counted ends = (
  Content.certificate (Refusal (all_layers draft)),
  refl,
  λ i. record (closed draft) {
    pairs = nil_if draft.pairs (only g.Pair refl) i;
    rules = nil_if draft.rules (only g.Rule refl) i;
    items = nil_if draft.items (only g.Item refl) i;
    reach = none_if draft.reach (only g.Reach refl) i;
    start = none_if draft.start (only g.Start refl) i;
    rows = nil_if draft.rows (only g.Row refl) i;
    ranked = nil_if draft.ranked (only g.Ranked refl) i;
    far = nil_if (all_far draft) (only g.Far refl) i;
  },
)
whole_of OfTable section lines inner draft only last counted ends = (
  Content.table draft.rows,
  refl,
  λ i. record (closed draft) {
    layers = nil_if (all_layers draft) (only g.Layer refl) i;
    pairs = nil_if draft.pairs (only g.Pair refl) i;
    rules = nil_if draft.rules (only g.Rule refl) i;
    items = nil_if draft.items (only g.Item refl) i;
    reach = none_if draft.reach (only g.Reach refl) i;
    start = none_if draft.start (only g.Start refl) i;
    ranked = nil_if draft.ranked (only g.Ranked refl) i;
    far = nil_if (all_far draft) (only g.Far refl) i;
  },
)
whole_of OfBest (Blocks g.Far g.FarCube) lines inner draft only last counted ends =
    let start = some_if draft.start counted.3 in (
      Content.best (record {
        layers = all_layers draft;
        rules = draft.rules;
        items = map (λ (entry : Item × ℕ). entry.0) draft.ranked;
        ranks = map (λ (entry : Item × ℕ). entry.1) draft.ranked;
        start = start.0;
        far = all_far draft;
      }),
      refl,
      λ i. record (closed draft) {
        pairs = nil_if draft.pairs (only g.Pair refl) i;
        items = nil_if draft.items (only g.Item refl) i;
        reach = none_if draft.reach (only g.Reach refl) i;
        start = start.1 i;
        rows = nil_if draft.rows (only g.Row refl) i;
        ranked = both_parts draft.ranked i;
      },
    )
whole_of kind section lines inner draft only last counted ends = absurd (cc)

-- a draft before the last line has all parts of a content
pub before_end : (kind : Kind) (at lines inner : ℕ) (next : Due) (draft : Draft) → HasOnly kind draft → HasReached (drop at (sections kind)) draft lines inner →
    due_after (SectionDue kind at lines inner) k.End ≡ Some next → IsWholeOf kind draft × (next ≡ NothingDue)
before_end kind at lines inner next draft only reached e = by (drop at (sections kind)) refl reached e
  where
    by : (rest : List Section) → drop at (sections kind) ≡ rest → HasReached rest draft lines inner → after_sections kind at lines inner rest k.End ≡ Some next → IsWholeOf kind draft × (next ≡ NothingDue)
    by [] there reached e = absurd reached
    by (section ∷ later) there reached e =
        let known = known_from kind k.End next draft at 0 (sections kind) (all_known kind) in
        let last = last_of kind next draft at lines inner known.0 (section ∷ later) (subst (AreKnown known.0) there known.1) reached e in
        (whole_of kind last.section last.lines last.inner draft only (sym (ends_drop at (sections kind) section later there) ∙ last.last_is) last.counted last.ends, last.next_is)
