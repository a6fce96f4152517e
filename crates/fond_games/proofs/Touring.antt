-- The search for a recurrent node, and the walk from it.
use Rattle.std.proofs.Common.{inl, inr, ⊎_elim, ◌≡◌, ℕ, zero, suc, ◌+◌, ◌<◌, ◌≤◌, List, [], ◌∷◌, ◌++◌, length, take, get_or, refl, sym, ap, ◌∙◌, subst, append_assoc, append-nil, arith}
use Rattle.std.specs.Prelude.{◌⊎◌, Contains, Result, Ok, Err, IfOk}
use Rattle.std.proofs.lemmas.Bool.{cases_lt}
use Rattle.fond_games.specs.Walks.{Walk, stay, leave, IsInReach, Follows}
use Rattle.fond_games.specs.Graphs.{IsEdge, AlwaysGoesOn, IsRecurrent, IsTourFrom}
use Rattle.fond_games.specs.Hops.{AreHops}
use Rattle.fond_games.specs.Levels.{level_at}
use Rattle.fond_games.specs.Visits.{VisitsSome, Visits, IsTouring, IsSeeking}
use Rattle.fond_games.proofs.Lists.{Contains-none, Contains-here, Contains-later, Contains-cases}
use Rattle.fond_games.proofs.Walking.{join, through, one_step, begins_with, passes, follows_after, follows_left, follows_right}
use Rattle.fond_games.proofs.Trapped.{same_default}
use Rattle.fond_games.proofs.Tours.{edge_within, some_step}

-- what follows in a walk still follows in a longer one
pub follows_join : {Leads : ℕ → ℕ → Type 0} (one : List ℕ) (mid : ℕ) (two : List ℕ) (last a b : ℕ) → Walk Leads mid two last → Follows (one ++ mid ∷ []) a b → Follows ((one ++ two) ++ last ∷ []) a b
follows_join one mid two last a b walk has =
    let start = begins_with mid two last walk in
    let same : (one ++ two) ++ last ∷ [] ≡ (one ++ mid ∷ []) ++ start.0 = append_assoc one two (last ∷ []) ∙ ap (λ xs. one ++ xs) start.1 ∙ sym (append_assoc one (mid ∷ []) start.0) in
    subst (λ xs. Follows xs a b) (sym same) (follows_left (one ++ mid ∷ []) start.0 a b has)

pub follows_more : (one two : List ℕ) (last a b : ℕ) → Follows (two ++ last ∷ []) a b → Follows ((one ++ two) ++ last ∷ []) a b
follows_more one two last a b has = subst (λ xs. Follows xs a b) (sym (append_assoc one two (last ∷ []))) (follows_right one (two ++ last ∷ []) a b has)

-- what comes right after a place follows what is there
pub follows_at : (walk : List ℕ) (i at : ℕ) → i < length walk → Follows (walk ++ at ∷ []) (get_or walk i 0) (get_or (walk ++ at ∷ []) (suc i) 0)
follows_at [] i at less = absurd (omega (arith, less))
follows_at (first ∷ []) zero at less = record { before = []; rest = []; split = refl }
follows_at (first ∷ second ∷ walk) zero at less = record { before = []; rest = walk ++ at ∷ []; split = refl }
follows_at (first ∷ walk) (suc i) at less = follows_after first (walk ++ at ∷ []) (get_or walk i 0) (get_or (walk ++ at ∷ []) (suc i) 0) (follows_at walk i at (omega (arith, less)))

last_at : (walk : List ℕ) (i at : ℕ) → suc i ≡ length walk → get_or (walk ++ at ∷ []) (suc i) 0 ≡ at
last_at [] i at end = absurd (omega (arith, end))
last_at (first ∷ []) zero at end = refl
last_at (first ∷ second ∷ walk) zero at end = absurd (omega (arith, end))
last_at (first ∷ walk) (suc i) at end = last_at walk i at (omega (arith, end))

inner_at : (walk : List ℕ) (i at : ℕ) → i < length walk → get_or (walk ++ at ∷ []) i 0 ≡ get_or walk i 0
inner_at [] i at less = absurd (omega (arith, less))
inner_at (first ∷ walk) zero at less = refl
inner_at (first ∷ walk) (suc i) at less = inner_at walk i at (omega (arith, less))

module _ (walk : List ℕ) (i at node after : ℕ) (here : get_or walk i 0 ≡ node) where
  follows_by : i < length walk → get_or (walk ++ at ∷ []) (suc i) 0 ≡ after → Follows (walk ++ at ∷ []) node after
  follows_by less is = subst (λ b. Follows (walk ++ at ∷ []) node b) is (subst (λ a. Follows (walk ++ at ∷ []) a (get_or (walk ++ at ∷ []) (suc i) 0)) here (follows_at walk i at less))

  pub follows_inner : (next : ℕ) → next ≡ suc i → next < length walk → get_or walk next 0 ≡ after → Follows (walk ++ at ∷ []) node after
  follows_inner next is less then =
      let small : suc i < length walk = omega (arith, is, less) in
      follows_by (omega (arith, small)) (inner_at walk (suc i) at small ∙ ap (λ n. get_or walk n 0) (sym is) ∙ then)

  pub follows_last : suc i ≡ length walk → at ≡ after → Follows (walk ++ at ∷ []) node after
  follows_last end then = follows_by (omega (arith, end)) (last_at walk i at end ∙ then)

take_more : (items : List ℕ) (i after : ℕ) → Contains (take (suc i) items) after → Contains (take i items) after ⊎ (after ≡ get_or items i 0)
take_more [] i after has = absurd (Contains-none after has)
take_more (first ∷ items) zero after has = ⊎_elim (λ is. inr (sym is)) (λ none. absurd (Contains-none after none)) (Contains-cases after first [] has)
take_more (first ∷ items) (suc i) after has = ⊎_elim
    (λ is. inl (subst (λ m. Contains (first ∷ take i items) m) is (Contains-here first (take i items))))
    (λ later. ⊎_elim (λ inside. inl (Contains-later after first (take i items) inside)) (λ is. inr is) (take_more items i after later))
    (Contains-cases after first (take (suc i) items) has)

take_full : (items : List ℕ) → take (length items) items ≡ items
take_full [] = refl
take_full (first ∷ items) = ap (λ xs. first ∷ xs) (take_full items)

module _ (graph : List (List ℕ)) where
  -- a node with hops has the target in reach
  sound_by : (target : ℕ) (table : List ℕ) → AreHops graph target table → (bound node : ℕ) → level_at table node ≤ bound → 0 < level_at table node → IsInReach (IsEdge graph) node target
  sound_by target table are zero node small some = absurd (omega (arith, small, some))
  sound_by target table are (suc bound) node small some = ⊎_elim
      (λ end. subst (λ m. IsInReach (IsEdge graph) node m) end ([], stay node))
      (λ falls. through node falls.0 target (one_step node falls.0 falls.1) (sound_by target table are bound falls.0 (omega (arith, small, falls.2.1)) falls.2.0))
      (are.falls node some)

  pub sound : (target : ℕ) (table : List ℕ) → AreHops graph target table → (node : ℕ) → 0 < level_at table node → IsInReach (IsEdge graph) node target
  sound target table are node some = sound_by target table are (level_at table node) node (omega arith) some

  pub is_within : (from : ℕ) → AlwaysGoesOn graph from → (node : ℕ) → IsInReach (IsEdge graph) from node → node < length graph
  is_within from goes_on node way = let next = goes_on node way in edge_within graph node next.0 next.1

  pub seek_first : (from : ℕ) (back : List ℕ) → AreHops graph from back → IsSeeking graph from from back 0
  seek_first from back table = record { reached = ([], stay from); table = table; seen = λ other less. absurd (omega (arith, less)) }

  pub seek_move : (from knot : ℕ) (back : List ℕ) (node : ℕ) (there : List ℕ) → IsSeeking graph from knot back node → AreHops graph node there → (0 < level_at there knot) × (level_at back node ≡ 0) → IsSeeking graph from node there (node + 1)
  seek_move from knot back node there seeking table away =
      let on = sound node there table knot away.0 in
      record {
        reached = through from knot node seeking.reached on;
        table = table;
        seen = λ other less way. ⊎_elim
            (λ earlier.
            let home = seeking.seen other earlier (through knot node other on way) in
            let some = seeking.table.reaches node (through node other knot way home) in
            absurd (omega (arith, some, away.1)))
            (λ now. let same : node ≡ other = omega (arith, less, now) in subst (λ m. IsInReach (IsEdge graph) m node) same ([], stay node))
            (cases_lt other node);
      }

  pub seek_stay : (from knot : ℕ) (back : List ℕ) (node : ℕ) (there : List ℕ) → IsSeeking graph from knot back node → AreHops graph node there → (level_at there knot ≡ 0) ⊎ (0 < level_at back node) → IsSeeking graph from knot back (node + 1)
  seek_stay from knot back node there seeking table which = record {
    reached = seeking.reached;
    table = seeking.table;
    seen = λ other less way. ⊎_elim
        (λ earlier. seeking.seen other earlier way)
        (λ now.
        let same : node ≡ other = omega (arith, less, now) in
        let come : IsInReach (IsEdge graph) knot node = subst (λ m. IsInReach (IsEdge graph) knot m) (sym same) way in
        subst (λ m. IsInReach (IsEdge graph) m knot) same
        (⊎_elim (λ none. let some = table.reaches knot come in absurd (omega (arith, some, none))) (λ some. sound knot back seeking.table node some) which))
        (cases_lt other node);
  }

  pub seek_done : (from knot : ℕ) (back : List ℕ) → AlwaysGoesOn graph from → IsSeeking graph from knot back (length graph) → IsInReach (IsEdge graph) from knot × IsRecurrent graph knot
  seek_done from knot back goes_on seeking = (seeking.reached, λ other way. seeking.seen other (is_within from goes_on other (through from knot other seeking.reached way)) way)

  pub visit_none : (node from : ℕ) (old : List ℕ) → VisitsSome graph node (λ after. Contains [] after) from old old from
  visit_none node from old = record { more = []; given = sym (append-nil old); walked = stay from; follows = λ after has. absurd (Contains-none after has) }

  pub edge_of : (node : ℕ) (items : List ℕ) (i : ℕ) → items ≡ get_or graph node [] → i < length items → IsEdge graph node (get_or items i 0)
  edge_of node items i is less = subst (λ xs. Contains xs (get_or items i 0)) is (i, less, same_default items i (get_or items i 0) 0 less)

  module _ (node from : ℕ) (items old : List ℕ) where
    abbrev Visited : ℕ → List ℕ → ℕ → Type 0
    Visited i = VisitsSome graph node (λ after. Contains (take i items) after) from old

    visit_more : (i : ℕ) (walk : List ℕ) (at : ℕ) → Visited i walk at → (one two : List ℕ) → ((more : List ℕ) × (one ≡ walk ++ more) × Walk (IsEdge graph) at more node) → two ≡ one ++ node ∷ [] → IsEdge graph node (get_or items i 0) →
        Visited (suc i) two (get_or items i 0)
    visit_more i walk at visited one two down is edge =
        let after = get_or items i 0 in
        let step = leave node after after [] edge (stay after) in
        let tail = down.0 ++ node ∷ [] in
        let walked_on = join at down.0 node (node ∷ []) after down.2 step in
        let longer : two ≡ walk ++ tail = is ∙ ap (λ (xs : List ℕ). xs ++ node ∷ []) down.1 ∙ append_assoc walk down.0 (node ∷ []) in
        record {
          more = visited.more ++ tail;
          given = longer ∙ ap (λ (xs : List ℕ). xs ++ tail) visited.given ∙ append_assoc old visited.more tail;
          walked = join from visited.more at tail after visited.walked walked_on;
          follows = λ other has.
              let P : List ℕ → Type 0 = λ xs. Follows (xs ++ after ∷ []) node other in
              subst P (sym longer) (⊎_elim
              (λ earlier. follows_join walk at tail after node other walked_on (visited.follows other earlier))
              (λ now.
              subst (λ b. Follows ((walk ++ tail) ++ after ∷ []) node b) (sym now)
              (follows_more walk tail after node after (record { before = down.0; rest = []; split = append_assoc down.0 (node ∷ []) (after ∷ []) })))
              (take_more items i other has));
        }

    -- a node that follows already need not be visited
    pub visit_skip : (i : ℕ) (walk : List ℕ) (at : ℕ) → Visited i walk at → Follows (walk ++ at ∷ []) node (get_or items i 0) → Visited (i + 1) walk at
    visit_skip i walk at visited has =
        let same : suc i ≡ i + 1 = omega arith in
        subst (λ n. Visited n walk at) same (record {
          more = visited.more;
          given = visited.given;
          walked = visited.walked;
          follows = λ other inside. ⊎_elim (λ earlier. visited.follows other earlier) (λ now. subst (λ b. Follows (walk ++ at ∷ []) node b) (sym now) has) (take_more items i other inside);
        })

    pub visit_then : (i : ℕ) (walk : List ℕ) (at : ℕ) → Visited i walk at → (one two : List ℕ) → ((more : List ℕ) × (one ≡ walk ++ more) × Walk (IsEdge graph) at more node) → two ≡ one ++ node ∷ [] → IsEdge graph node (get_or items i 0) →
        Visited (i + 1) two (get_or items i 0)
    visit_then i walk at visited one two down is edge = let same : suc i ≡ i + 1 = omega arith in subst (λ n. Visited n two (get_or items i 0)) same (visit_more i walk at visited one two down is edge)

    pub visit_all : (walk : List ℕ) (at : ℕ) → Visited (length items) walk at → items ≡ get_or graph node [] → Visits graph node from old walk at
    visit_all walk at visited is = record {
      more = visited.more;
      given = visited.given;
      walked = visited.walked;
      follows = λ after edge. visited.follows after (subst (λ xs. Contains xs after) (sym (take_full items ∙ is)) edge);
    }

  module _ (knot : ℕ) (recurrent : IsRecurrent graph knot) where
    pub touring_none : IsTouring graph knot 0 [] knot
    touring_none = record { walked = stay knot; full = λ before after less. absurd (omega (arith, less)) }

    -- a node of the walk comes back to each node in reach of the knot
    pub comes_to : (at node : ℕ) → IsInReach (IsEdge graph) knot at → IsInReach (IsEdge graph) knot node → IsInReach (IsEdge graph) at node
    comes_to at node there on = through at knot node (recurrent at there) on

    pub touring_on : (node : ℕ) (walk : List ℕ) (at : ℕ) (new : List ℕ) (now : ℕ) → IsTouring graph knot node walk at → Visits graph node at walk new now → IsTouring graph knot (node + 1) new now
    touring_on node walk at new now touring visits =
        record {
          walked = subst (λ xs. Walk (IsEdge graph) knot xs now) (sym visits.given) (join knot walk at visits.more now touring.walked visits.walked);
          full = λ before after less way edge. ⊎_elim
              (λ earlier.
              let P : List ℕ → Type 0 = λ xs. Follows (xs ++ now ∷ []) before after in
              subst P (sym visits.given) (follows_join walk at visits.more now before after visits.walked (touring.full before after earlier way edge)))
              (λ here.
              let same : node ≡ before = omega (arith, less, here) in
              subst (λ m. Follows (new ++ now ∷ []) m after) same (visits.follows after (subst (λ m. IsEdge graph m after) (sym same) edge)))
              (cases_lt before node);
        }

    pub touring_past : (node : ℕ) (walk : List ℕ) (at : ℕ) (table : List ℕ) → IsTouring graph knot node walk at → AreHops graph node table → level_at table knot ≡ 0 → IsTouring graph knot (node + 1) walk at
    touring_past node walk at table touring are none = record {
      walked = touring.walked;
      full = λ before after less way edge. ⊎_elim
          (λ earlier. touring.full before after earlier way edge)
          (λ here.
          let same : node ≡ before = omega (arith, less, here) in
          let some = are.reaches knot (subst (λ m. IsInReach (IsEdge graph) knot m) (sym same) way) in
          absurd (omega (arith, some, none)))
          (cases_lt before node);
    }

    pub touring_done : AlwaysGoesOn graph knot → (walk : List ℕ) (at : ℕ) (one two : List ℕ) → IsTouring graph knot (length graph) walk at → ((more : List ℕ) × (one ≡ walk ++ more) × Walk (IsEdge graph) at more knot) → two ≡ one ++ knot ∷ [] → IsTourFrom graph knot two
    touring_done goes_on walk at one two touring down is =
        let loop = walk ++ down.0 in
        let closed = join knot walk at down.0 knot touring.walked down.2 in
        let next = goes_on knot ([], stay knot) in
        record {
          knot = knot;
          loop = loop;
          reached = ([], stay knot);
          is_tour = record {
            closes = closed;
            moves = some_step loop knot knot next.0 (has knot next.0 ([], stay knot) next.1);
            full = λ node after inside edge. has node after (passes knot loop knot closed node inside).0 edge;
          };
          given = is ∙ ap (λ (xs : List ℕ). xs ++ knot ∷ []) down.1;
        }
      where
        has : (node after : ℕ) → IsInReach (IsEdge graph) knot node → IsEdge graph node after → Follows ((walk ++ down.0) ++ knot ∷ []) node after
        has node after way edge = follows_join walk at down.0 knot node after down.2 (touring.full node after (edge_within graph node after edge) way edge)

  pub goes_on_from : (from knot : ℕ) → AlwaysGoesOn graph from → IsInReach (IsEdge graph) from knot → AlwaysGoesOn graph knot
  goes_on_from from knot goes_on way = λ node on. goes_on node (through from knot node way on)

  pub tour_before : (from knot : ℕ) (nodes : List ℕ) → IsInReach (IsEdge graph) from knot → IsTourFrom graph knot nodes → IsTourFrom graph from nodes
  tour_before from knot nodes way tour = record { knot = tour.knot; loop = tour.loop; reached = through from knot tour.knot way tour.reached; is_tour = tour.is_tour; given = tour.given }

  -- the same, by copies of what a call was given
  pub seek_moved : (from knot : ℕ) (back : List ℕ) (node : ℕ) (there : List ℕ) → IsSeeking graph from knot back node → AreHops graph node there → (copy_there copy_back : List ℕ) → copy_there ≡ there → copy_back ≡ back →
      (0 < level_at copy_there knot) × (level_at copy_back node ≡ 0) → (now : ℕ) (table : List ℕ) → now ≡ node → table ≡ there → IsSeeking graph from now table (node + 1)
  seek_moved from knot back node there seeking are copy_there copy_back is_there is_back away now table is_now is_table =
      let P : List ℕ → Type 0 = λ t. 0 < level_at t knot in
      let Q : List ℕ → Type 0 = λ t. level_at t node ≡ 0 in
      let done = seek_move from knot back node there seeking are (subst P is_there away.0, subst Q is_back away.1) in
      let R : List ℕ → Type 0 = λ t. IsSeeking graph from now t (node + 1) in
      subst R (sym is_table) (subst (λ m. IsSeeking graph from m there (node + 1)) (sym is_now) done)

  pub seek_stayed : (from knot : ℕ) (back : List ℕ) (node : ℕ) (there : List ℕ) → IsSeeking graph from knot back node → AreHops graph node there → (copy_there copy_back : List ℕ) → copy_there ≡ there → copy_back ≡ back →
      (level_at copy_there knot ≡ 0) ⊎ (0 < level_at copy_back node) → (now : ℕ) (table : List ℕ) → now ≡ knot → table ≡ back → IsSeeking graph from now table (node + 1)
  seek_stayed from knot back node there seeking are copy_there copy_back is_there is_back which now table is_now is_table =
      let P : List ℕ → Type 0 = λ t. level_at t knot ≡ 0 in
      let Q : List ℕ → Type 0 = λ t. 0 < level_at t node in
      let done = seek_stay from knot back node there seeking are (⊎_elim (λ none. inl (subst P is_there none)) (λ some. inr (subst Q is_back some)) which) in
      let R : List ℕ → Type 0 = λ t. IsSeeking graph from now t (node + 1) in
      subst R (sym is_table) (subst (λ m. IsSeeking graph from m back (node + 1)) (sym is_now) done)

  pub seek_past : (from knot : ℕ) (back : List ℕ) (node : ℕ) → IsSeeking graph from knot back node → (copy_back : List ℕ) → copy_back ≡ back → 0 < level_at copy_back node → (now : ℕ) (table : List ℕ) → now ≡ knot → table ≡ back → IsSeeking graph from now table (node + 1)
  seek_past from knot back node seeking copy_back is_back some now table is_now is_table =
      let Q : List ℕ → Type 0 = λ t. 0 < level_at t node in
      let home = sound knot back seeking.table node (subst Q is_back some) in
      let R : List ℕ → Type 0 = λ t. IsSeeking graph from now t (node + 1) in
      subst R (sym is_table) (subst (λ m. IsSeeking graph from m back (node + 1)) (sym is_now) (record {
        reached = seeking.reached;
        table = seeking.table;
        seen = λ other less way. ⊎_elim
            (λ earlier. seeking.seen other earlier way)
            (λ here. let same : node ≡ other = omega (arith, less, here) in subst (λ m. IsInReach (IsEdge graph) m knot) same home)
            (cases_lt other node);
      }))

  pub touring_by : (knot node : ℕ) (new same : List ℕ) (now at : ℕ) → same ≡ new → at ≡ now → IsTouring graph knot node new now → IsTouring graph knot node same at
  touring_by knot node new same now at is_new is_now touring =
      let R : List ℕ → Type 0 = λ t. IsTouring graph knot node t at in
      subst R (sym is_new) (subst (λ m. IsTouring graph knot node new m) (sym is_now) touring)

-- what holds of an answer holds of it by a weaker fact
pub ok_by : {T E : Type 0} (P Q : T → Type 0) → ((x : T) → P x → Q x) → (r : Result T E) → IfOk r P → IfOk r Q
ok_by P Q each (Ok x) is = each x is
ok_by P Q each (Err e) is = is

-- a graph goes on if each node has successors, and they are nodes
pub all_go_on : (graph : List (List ℕ)) (from : ℕ) → ((node : ℕ) → node < length graph → (0 < length (get_or graph node [])) × ((after : ℕ) → IsEdge graph node after → after < length graph)) → from < length graph → AlwaysGoesOn graph from
all_go_on graph from each less = λ node way. (get_or (get_or graph node []) 0 0, edge_of graph node (get_or graph node []) 0 refl (each node (stays from way.0 node way.1 less)).0)
  where
    stays : (one : ℕ) (nodes : List ℕ) (two : ℕ) → Walk (IsEdge graph) one nodes two → one < length graph → two < length graph
    stays one nodes two (stay s) within = within
    stays one nodes two (leave s t u rest step walk) within = stays t rest u walk ((each s within).1 t step)

pub more_nodes : (graph : List (List ℕ)) (count node : ℕ) (items : List ℕ) → items ≡ get_or graph node [] → ((k : ℕ) → k < node → (0 < length (get_or graph k [])) × ((after : ℕ) → IsEdge graph k after → after < count)) →
    (0 < length items) × ((after : ℕ) → Contains items after → after < count) → (k : ℕ) → k < node + 1 → (0 < length (get_or graph k [])) × ((after : ℕ) → IsEdge graph k after → after < count)
more_nodes graph count node items is before here k less = ⊎_elim
    (λ earlier. before k earlier)
    (λ now.
    let same : node ≡ k = omega (arith, less, now) in
    let P : List ℕ → Type 0 = λ xs. (0 < length xs) × ((after : ℕ) → Contains xs after → after < count) in
    let Q : ℕ → Type 0 = λ m. P (get_or graph m []) in
    subst Q same (subst P is here))
    (cases_lt k node)
