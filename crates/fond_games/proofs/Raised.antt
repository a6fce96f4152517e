-- The levels of a flat game: a round of raising, and what the rounds come to.
use Rattle.std.proofs.Common.{inl, inr, ⊎_elim, ◌≡◌, ℕ, zero, suc, ◌+◌, ◌<◌, ◌≤◌, List, [], ◌∷◌, Bool, true, false, length, map, refl, sym, ap, ◌∙◌, subst, arith}
use Rattle.std.specs.Prelude.{◌⊎◌, Contains, Option, Some, None, IfNone, not, slice_set}
use Rattle.std.specs.Option.{is_some}
use Rattle.std.proofs.Math.ListN.{set}
use Rattle.std.proofs.lemmas.Bool.{cases_lt, false≢true}
use Rattle.std.proofs.lemmas.List.{get_or-set_same, get_or-set_other, length-set, length-map}
use Rattle.fond_games.proofs.Lists.{Contains-none, Contains-here}
use Rattle.fond_games.specs.Graphs.{HasEdge, successors_of}
use Rattle.fond_games.specs.declared.kind.Kind.{Kind}
use Rattle.fond_games.specs.declared.kind.Kind.TheVariants.{Goal, Fair, Unfair}
use Rattle.fond_games.specs.Levels.{kind_at, level_at, IsBelow, Falls, AreLevelsTo, AreLevels, IsRound, first_level, zeros}

zeros-set : (table : List ℕ) (node level : ℕ) → node < length table → level_at table node ≡ 0 → 0 < level → suc (zeros (set table node level)) ≡ zeros table
zeros-set [] node level there none some = absurd (omega (arith, there))
zeros-set (zero ∷ table) zero zero there none some = absurd (omega (arith, some))
zeros-set (zero ∷ table) zero (suc level) there none some = refl
zeros-set (suc own ∷ table) zero level there none some = absurd (omega (arith, none))
zeros-set (zero ∷ table) (suc node) level there none some = ap suc (zeros-set table node level (omega (arith, there)) none some)
zeros-set (suc own ∷ table) (suc node) level there none some = zeros-set table node level (omega (arith, there)) none some

pub zeros-few : (table : List ℕ) → zeros table ≤ length table
zeros-few [] = omega arith
zeros-few (zero ∷ table) = omega (arith, zeros-few table)
zeros-few (suc level ∷ table) = omega (arith, zeros-few table)

pub same_or_not : (a b : ℕ) → (a ≡ b) ⊎ (¬ (a ≡ b))
same_or_not a b = ⊎_elim (λ less. inr (λ same. omega (arith, less, same))) (λ more. ⊎_elim (λ less. inr (λ same. omega (arith, less, same))) (λ less. inl (omega (arith, more, less))) (cases_lt b a)) (cases_lt a b)

-- a node falls below a level in each table that has what the other has below it
pub falls_also : (kind : Kind) (graph : List (List ℕ)) (one two : List ℕ) (level more node : ℕ) → ((after : ℕ) → IsBelow one level after → IsBelow two more after) → Falls kind graph one level node → Falls kind graph two more node
falls_also Goal graph one two level more node each falls = falls
falls_also Fair graph one two level more node each falls = (falls.0, falls.1, each falls.0 falls.2)
falls_also Unfair graph one two level more node each falls = (falls.0, λ after edge. each after (falls.1 after edge))

-- no node falls below the level of a goal
never_first : (kind : Kind) (graph : List (List ℕ)) (table : List ℕ) (level node : ℕ) → level ≤ 1 → ¬ Falls kind graph table level node
never_first Goal graph table level node small falls = falls tt
never_first Fair graph table level node small falls = omega (arith, small, falls.2.0, falls.2.1)
never_first Unfair graph table level node small falls = let below = falls.1 falls.0.0 falls.0.1 in omega (arith, small, below.0, below.1)

-- what is past the nodes falls nowhere
past_kind : (kinds : List Kind) (node : ℕ) → length kinds ≤ node → kind_at kinds node ≡ Goal
past_kind [] node past = refl
past_kind (kind ∷ kinds) zero past = absurd (omega (arith, past))
past_kind (kind ∷ kinds) (suc node) past = past_kind kinds node (omega (arith, past))

never_past : (kinds : List Kind) (graph : List (List ℕ)) (table : List ℕ) (level node : ℕ) → length kinds ≤ node → ¬ Falls (kind_at kinds node) graph table level node
never_past kinds graph table level node past falls = subst (λ k. Falls k graph table level node) (past_kind kinds node past) falls tt

-- a node with some successors has an edge
pub some_edge : (graph : List (List ℕ)) (node : ℕ) (nexts : List ℕ) → nexts ≡ successors_of graph node → ¬ (length nexts ≡ 0) → HasEdge graph node
some_edge graph node nexts is some = go nexts is some
  where
    go : (xs : List ℕ) → xs ≡ successors_of graph node → ¬ (length xs ≡ 0) → HasEdge graph node
    go [] same many = absurd (many refl)
    go (x ∷ xs) same many = (x, subst (λ ys. Contains ys x) same (Contains-here x xs))

-- a node without successors falls nowhere
pub falls_edge : (kind : Kind) (graph : List (List ℕ)) (table : List ℕ) (level node : ℕ) → successors_of graph node ≡ [] → ¬ Falls kind graph table level node
falls_edge Goal graph table level node none falls = falls tt
falls_edge Fair graph table level node none falls = Contains-none falls.0 (subst (λ ys. Contains ys falls.0) none falls.1)
falls_edge Unfair graph table level node none falls = Contains-none falls.0.0 (subst (λ ys. Contains ys falls.0.0) none falls.0.1)

-- what holds where nothing was found
pub none_then : {P : Type 0} (found : Option ℕ) (none : Bool) → is_some found ≡ not none → none ≡ true → IfNone found P → P
none_then None none is was holds = holds
none_then (Some x) none is was holds = absurd (false≢true (sym (is ∙ ap not was)))

no_items : (xs : List ℕ) → length xs ≡ 0 → xs ≡ []
no_items [] is = refl
no_items (x ∷ xs) is = absurd (omega (arith, is))

-- a node falls if none of its successors is too high
pub falls_all : (graph : List (List ℕ)) (table : List ℕ) (level node : ℕ) (nexts : List ℕ) → nexts ≡ successors_of graph node → ¬ (length nexts ≡ 0) → ((after : ℕ) → Contains nexts after → IsBelow table level after) → Falls Unfair graph table level node
falls_all graph table level node nexts is some each = (some_edge graph node nexts is some, λ after edge. each after (subst (λ ys. Contains ys after) (sym is) edge))

pub falls_none : (kind : Kind) (graph : List (List ℕ)) (table : List ℕ) (level node : ℕ) (nexts : List ℕ) → nexts ≡ successors_of graph node → length nexts ≡ 0 → ¬ Falls kind graph table level node
falls_none kind graph table level node nexts is none = falls_edge kind graph table level node (sym is ∙ no_items nexts none)

module _ (kinds : List Kind) (graph : List (List ℕ)) (level : ℕ) (first : List ℕ) where
  pub round_none : IsRound kinds graph level first first false 0
  round_none = record {
    long = refl;
    kept = λ other has. refl;
    raised = λ other none some. absurd (omega (arith, none, some));
    done = λ other less. absurd (omega (arith, less));
    left = omega arith;
    fewer = λ is. absurd (false≢true is);
    same = λ is. refl;
  }

  module _ (table : List ℕ) (is_raised : Bool) (node : ℕ) (round : IsRound kinds graph level first table is_raised node) where
    -- what is below a level up to this one was so before the round
    below_before : (up_to other : ℕ) → up_to ≤ level → IsBelow table up_to other → IsBelow first up_to other
    below_before up_to other small below = ⊎_elim
        (λ some. let is = round.kept other some in (some, omega (arith, is, below.1)))
        (λ none. let is = (round.raised other (omega (arith, none)) below.0).0 in absurd (omega (arith, is, below.1, small)))
        (cases_lt 0 (level_at first other))

    below_still : (up_to other : ℕ) → IsBelow first up_to other → IsBelow table up_to other
    below_still up_to other below = let is = round.kept other below.0 in (omega (arith, is, below.0), omega (arith, is, below.1))

    falls_before : (up_to other : ℕ) → up_to ≤ level → Falls (kind_at kinds other) graph table up_to other → Falls (kind_at kinds other) graph first up_to other
    falls_before up_to other small = falls_also (kind_at kinds other) graph table first up_to up_to other (λ after. below_before up_to after small)

    falls_still : (up_to other : ℕ) → Falls (kind_at kinds other) graph first up_to other → Falls (kind_at kinds other) graph table up_to other
    falls_still up_to other = falls_also (kind_at kinds other) graph first table up_to up_to other (below_still up_to)

    was_none : level_at table node ≡ 0 → level_at first node ≡ 0
    was_none none = ⊎_elim (λ some. let is = round.kept node some in absurd (omega (arith, is, some, none))) (λ zero. omega (arith, zero)) (cases_lt 0 (level_at first node))

    module _ (there : node < length table) (some : 0 < level) (none : level_at table node ≡ 0) (falls : Falls (kind_at kinds node) graph table level node) where
      set_here : level_at (set table node level) node ≡ level
      set_here = get_or-set_same table node level 0 there

      set_there : (other : ℕ) → ¬ (other ≡ node) → level_at (set table node level) other ≡ level_at table other
      set_there other differs = get_or-set_other table node other level 0 differs

      here_falls : (other : ℕ) → other ≡ node → Falls (kind_at kinds other) graph first level other
      here_falls other same = subst (λ n. Falls (kind_at kinds n) graph first level n) (sym same) (falls_before level node (omega arith) falls)

      here_level : (other : ℕ) → other ≡ node → level_at (set table node level) other ≡ level
      here_level other same = ap (level_at (set table node level)) same ∙ set_here

      pub round_raised : IsRound kinds graph level first (set table node level) true (node + 1)
      round_raised =
          let count = zeros-set table node level there none some in
          record {
            long = length-set table node level ∙ round.long;
            kept = λ other has. ⊎_elim
                (λ same. let was : level_at first other ≡ 0 = ap (level_at first) same ∙ was_none none in absurd (omega (arith, has, was)))
                (λ differs. set_there other differs ∙ round.kept other has)
                (same_or_not other node);
            raised = λ other zero has. ⊎_elim
                (λ same. (here_level other same, here_falls other same))
                (λ differs.
                let is = set_there other differs in
                let before = round.raised other zero (omega (arith, is, has)) in
                (is ∙ before.0, before.1))
                (same_or_not other node);
            done = λ other less zero below. ⊎_elim
                (λ same. here_level other same)
                (λ differs. set_there other differs ∙ round.done other (omega (arith, less, differs)) zero below)
                (same_or_not other node);
            left = omega (arith, count, round.left);
            fewer = λ is. omega (arith, count, round.left);
            same = λ is. absurd (false≢true (sym is));
          }

    pub round_stayed : (level_at table node ≡ 0 → ¬ Falls (kind_at kinds node) graph table level node) → IsRound kinds graph level first table is_raised (node + 1)
    round_stayed never = record {
      long = round.long;
      kept = round.kept;
      raised = round.raised;
      done = λ other less zero below. ⊎_elim
          (λ earlier. round.done other earlier zero below)
          (λ now.
          let same : other ≡ node = omega (arith, less, now) in
          let falls_now = falls_still level node (subst (λ n. Falls (kind_at kinds n) graph first level n) same below) in
          ⊎_elim
          (λ some. (round.raised other zero (subst (λ n. 0 < level_at table n) (sym same) some)).0)
          (λ none. let is : level_at table node ≡ 0 = omega (arith, none) in absurd (never is falls_now))
          (cases_lt 0 (level_at table node)))
          (cases_lt other node);
      left = round.left;
      fewer = round.fewer;
      same = round.same;
    }

-- a raised node, or one that is not, by what was reported
pub round_by : (kinds : List Kind) (graph : List (List ℕ)) (level : ℕ) (first table after : List ℕ) (before now : Bool) (node : ℕ) → IsRound kinds graph level first table before node → node < length table → 0 < level → now ≡ true →
    (level_at table node ≡ 0) × Falls (kind_at kinds node) graph table level node × (after ≡ slice_set table node level) → IsRound kinds graph level first after now (node + 1)
round_by kinds graph level first table after before now node round there some is raised =
    let made = round_raised kinds graph level first table before node round there some raised.0 raised.1 in
    let P : List ℕ → Type 0 = λ xs. IsRound kinds graph level first xs now (node + 1) in
    subst P (sym raised.2) (subst (λ b. IsRound kinds graph level first (set table node level) b (node + 1)) (sym is) made)

pub round_kept : (kinds : List Kind) (graph : List (List ℕ)) (level : ℕ) (first table after : List ℕ) (before now : Bool) (node : ℕ) → IsRound kinds graph level first table before node → now ≡ before →
    (after ≡ table) × (level_at table node ≡ 0 → ¬ Falls (kind_at kinds node) graph table level node) → IsRound kinds graph level first after now (node + 1)
round_kept kinds graph level first table after before now node round is kept_then =
    let made = round_stayed kinds graph level first table before node round kept_then.1 in
    let P : List ℕ → Type 0 = λ xs. IsRound kinds graph level first xs now (node + 1) in
    subst P (sym kept_then.0) (subst (λ b. IsRound kinds graph level first table b (node + 1)) (sym is) made)

module _ (kinds : List Kind) (graph : List (List ℕ)) (known : length kinds ≡ length graph) (most : ℕ) (some : 0 < most) (first : List ℕ) (before : AreLevelsTo kinds graph most first) (table : List ℕ) (is_raised : Bool) (round : IsRound kinds graph (most + 1) first table is_raised (length graph)) where
  within : (node level : ℕ) → Falls (kind_at kinds node) graph first level node → node < length graph
  within node level falls = ⊎_elim (λ less. less) (λ past. absurd (never_past kinds graph first level node (omega (arith, known, past)) falls)) (cases_lt node (length graph))

  -- a round adds the levels of its number
  pub one_more : AreLevelsTo kinds graph (most + 1) table
  one_more = record {
    long = round.long ∙ before.long;
    low = λ node. ⊎_elim
        (λ has. let is = round.kept node has in let small = before.low node in omega (arith, is, small))
        (λ none. ⊎_elim
        (λ now. let is = (round.raised node (omega (arith, none)) now).0 in omega (arith, is))
        (λ none_now. omega (arith, none_now))
        (cases_lt 0 (level_at table node)))
        (cases_lt 0 (level_at first node));
    goals = λ node there goal. let one = before.goals node there goal in round.kept node (omega (arith, one)) ∙ one;
    ones = λ node one. ⊎_elim
        (λ has. let is = round.kept node has in before.ones node (sym is ∙ one))
        (λ none. let is = (round.raised node (omega (arith, none)) (omega (arith, one))).0 in absurd (omega (arith, is, one, some)))
        (cases_lt 0 (level_at first node));
    falls = λ node more. ⊎_elim
        (λ has.
        let is = round.kept node has in
        let was = before.falls node (omega (arith, is, more)) in
        subst (λ n. Falls (kind_at kinds node) graph table n node) (sym is) (falls_still kinds graph (most + 1) first table is_raised (length graph) round (level_at first node) node was))
        (λ none.
        let made = round.raised node (omega (arith, none)) (omega (arith, more)) in
        subst (λ n. Falls (kind_at kinds node) graph table n node) (sym made.0) (falls_still kinds graph (most + 1) first table is_raised (length graph) round (most + 1) node made.1))
        (cases_lt 0 (level_at first node));
    least = λ node level small falls.
        let was = falls_before kinds graph (most + 1) first table is_raised (length graph) round level node small falls in
        ⊎_elim
        (λ has. let is = round.kept node has in ⊎_elim
        (λ less. let below = before.least node level (omega (arith, less)) was in (omega (arith, is, has), omega (arith, is, below.1)))
        (λ end. let low = before.low node in (omega (arith, is, has), omega (arith, is, low, end)))
        (cases_lt level (most + 1)))
        (λ none. ⊎_elim
        (λ less. let below = before.least node level (omega (arith, less)) was in absurd (omega (arith, none, below.0)))
        (λ end.
        let same : level ≡ most + 1 = omega (arith, small, end) in
        let is = round.done node (within node level was) (omega (arith, none)) (subst (λ n. Falls (kind_at kinds node) graph first n node) same was) in
        (omega (arith, is), omega (arith, is, end)))
        (cases_lt level (most + 1)))
        (cases_lt 0 (level_at first node));
  }

  -- a round that raises nothing has found all levels
  pub all_levels : is_raised ≡ false → AreLevels kinds graph table
  all_levels is = subst (λ t. AreLevels kinds graph t) (sym (round.same is)) (record {
    long = before.long;
    goals = before.goals;
    ones = before.ones;
    falls = before.falls;
    least = λ node level falls. ⊎_elim
        (λ less. before.least node level (omega (arith, less)) falls)
        (λ more. ⊎_elim
        (λ has. let low = before.low node in (has, omega (arith, low, more)))
        (λ none.
        let zero_now : level_at first node ≡ 0 = omega (arith, none) in
        let lower = falls_also (kind_at kinds node) graph first first level (most + 1) node (λ after below. let low = before.low after in (below.0, omega (arith, low))) falls in
        let made = round.done node (within node level falls) zero_now lower in
        let same : level_at table node ≡ level_at first node = ap (λ t. level_at t node) (round.same is) in
        absurd (omega (arith, made, same, none)))
        (cases_lt 0 (level_at first node)))
        (cases_lt level (most + 1));
  })

level_first : (kinds : List Kind) (node : ℕ) → level_at (map first_level kinds) node ≤ 1
level_first [] node = omega arith
level_first (Goal ∷ kinds) zero = omega arith
level_first (Fair ∷ kinds) zero = omega arith
level_first (Unfair ∷ kinds) zero = omega arith
level_first (kind ∷ kinds) (suc node) = level_first kinds node

goal_first : (kinds : List Kind) (node : ℕ) → node < length kinds → kind_at kinds node ≡ Goal → level_at (map first_level kinds) node ≡ 1
goal_first [] node there is = absurd (omega (arith, there))
goal_first (kind ∷ kinds) zero there is = ap first_level is
goal_first (kind ∷ kinds) (suc node) there is = goal_first kinds node (omega (arith, there)) is

one_first : (kinds : List Kind) (node : ℕ) → level_at (map first_level kinds) node ≡ 1 → kind_at kinds node ≡ Goal
one_first [] node is = absurd (omega (arith, is))
one_first (Goal ∷ kinds) zero is = refl
one_first (Fair ∷ kinds) zero is = absurd (omega (arith, is))
one_first (Unfair ∷ kinds) zero is = absurd (omega (arith, is))
one_first (kind ∷ kinds) (suc node) is = one_first kinds node is

-- the goals alone have the first level
pub begun : (kinds : List Kind) (graph : List (List ℕ)) → length kinds ≡ length graph → (table : List ℕ) → table ≡ map first_level kinds → AreLevelsTo kinds graph 1 table
begun kinds graph known table is = subst (AreLevelsTo kinds graph 1) (sym is) (record {
  long = length-map kinds first_level ∙ known;
  low = level_first kinds;
  goals = λ node there goal. goal_first kinds node (omega (arith, there, known)) goal;
  ones = one_first kinds;
  falls = λ node more. let low = level_first kinds node in absurd (omega (arith, more, low));
  least = λ node level small falls. absurd (never_first (kind_at kinds node) graph (map first_level kinds) level node small falls);
})
