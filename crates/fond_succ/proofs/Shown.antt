-- Two games, if each state of the one stands for a state of the other and both have the same moves: stuck runs, lassos and rankings agree.
use Rattle.std.proofs.Common.{◌≡◌, ◌<◌, ◌≤◌, ℕ, List, [], ◌∷◌, ◌++◌, Some, map, slice_get, refl, sym, ap, ◌∙◌, subst, ⊎_elim, inl, inr}
use Rattle.std.specs.Prelude.{Contains, IsTrue, option_map}
use Rattle.std.proofs.lemmas.List.{length-map}
use Rattle.std.proofs.lemmas.Option.{same_Some, slice_get-map}
use Rattle.fond_state.specs.Games.{Game, Policy, Reach, ReachesMore}
use Rattle.fond_games.proofs.Lists.{Contains-cases, Contains-none}
use Rattle.fond_games.specs.Walks.{Follows, Walk, stay, leave}
use Rattle.fond_games.specs.Lassos.{Acts, ActsEverywhere, Lasso, Step}
use Rattle.fond_games.specs.Rankings.{IsLeastRanking, IsNearer, IsRanking}
use Rattle.fond_games.specs.Findings.{ShowsLasso, ShowsStuck, Tell}
use Rattle.fond_games.proofs.Walking.{follows_map, map_joined}
use Rattle.fond_succ.proofs.Lists.{Contains-from_map}
use Rattle.fond_succ.proofs.Bridges.{Correspond, IsBridge, Naming, distinct_down, distinct_up, each_down, each_up, reach_down, reach_up}

-- what each number of a list of states gives
gives_map : {V S : Type 0} (f : V → S) (listed : List V) (numbers : List ℕ) → map (slice_get (map f listed)) numbers ≡ map (option_map f) (map (slice_get listed) numbers)
gives_map f listed [] = refl
gives_map f listed (n ∷ numbers) = ap (λ one. one ∷ map (slice_get (map f listed)) numbers) (slice_get-map f listed n) ∙ ap (λ more. option_map f (slice_get listed n) ∷ more) (gives_map f listed numbers)

somes_map : {V S : Type 0} (f : V → S) (states : List V) → map (option_map f) (map Some states) ≡ map Some (map f states)
somes_map f [] = refl
somes_map f (v ∷ states) = ap (λ more. Some (f v) ∷ more) (somes_map f states)

-- numbers that tell of states tell of their images in the list of images
tell_map : {V S : Type 0} (f : V → S) (listed : List V) (numbers : List ℕ) (states : List V) → Tell listed numbers states → Tell (map f listed) numbers (map f states)
tell_map f listed numbers states told = gives_map f listed numbers ∙ ap (map (option_map f)) told ∙ somes_map f states

tell_joined : {V S : Type 0} (f : V → S) (listed : List V) (numbers : List ℕ) (states : List V) (last : V) → Tell listed numbers (states ++ last ∷ []) → Tell (map f listed) numbers (map f states ++ f last ∷ [])
tell_joined f listed numbers states last told = tell_map f listed numbers (states ++ last ∷ []) told ∙ ap (map Some) (map_joined f states (last ∷ []))

module _ {S A V N : Type 0} (names : Naming S A V N) (lifted : Game S A) (ground : Game V N) (bridge : IsBridge names lifted ground) (choices : Policy V N) (policy : Policy S A) (agrees : Correspond names choices policy) where
  abbrev Chosen : V → N → Type 0
  Chosen v n = choices v ≡ Some n

  abbrev Taken : S → A → Type 0
  Taken s a = policy s ≡ Some a

  -- more than a number of states are reached in both games or in none
  pub reaches_more_down : (bound : ℕ) → ReachesMore ground choices bound → ReachesMore lifted policy bound
  reaches_more_down bound more = record {
    states = map names.stands more.states;
    once = distinct_down names lifted ground bridge Chosen Taken agrees more.states more.reached more.once;
    reached = each_down names lifted ground bridge Chosen Taken agrees more.states more.reached;
    longer = subst (λ count. bound < count) (sym (length-map more.states names.stands)) more.longer;
  }

  pub reaches_more_up : (bound : ℕ) → ReachesMore lifted policy bound → ReachesMore ground choices bound
  reaches_more_up bound more = record {
    states = map names.back more.states;
    once = distinct_up names lifted ground bridge Chosen Taken agrees more.states more.reached more.once;
    reached = each_up names lifted ground bridge Chosen Taken agrees more.states more.reached;
    longer = subst (λ count. bound < count) (sym (length-map more.states names.back)) more.longer;
  }

  -- a policy acts in a state if and only if it acts in the one for which the state stands
  pub acts_down : (v : V) → IsTrue (names.fits v) → Acts ground choices v → Acts lifted policy (names.stands v)
  acts_down v fits acts =
      let named = bridge.has_action v acts.0 acts.2 in
      (named.0, (agrees v acts.0 named.0 fits named.1).0 acts.1, (bridge.applicable v acts.0 named.0 fits named.1).0 acts.2)

  pub acts_up : (v : V) → IsTrue (names.fits v) → Acts lifted policy (names.stands v) → Acts ground choices v
  acts_up v fits acts =
      let named = bridge.kept v acts.0 fits acts.2 in
      (named.0, (agrees v named.0 acts.0 fits named.1).1 acts.1, (bridge.applicable v named.0 acts.0 fits named.1).1 acts.2)

  pub acts_everywhere_down : ActsEverywhere ground choices → ActsEverywhere lifted policy
  acts_everywhere_down acts s reached open_ =
      let here = reach_up names lifted ground bridge choices policy agrees s reached in
      let still : ¬ ground.IsGoal here.state = λ goal. open_ (subst lifted.IsGoal (sym here.stands) ((bridge.goal here.state here.fits).0 goal)) in
      subst (Acts lifted policy) (sym here.stands) (acts_down here.state here.fits (acts here.state here.walked still))

  pub acts_everywhere_up : ActsEverywhere lifted policy → ActsEverywhere ground choices
  acts_everywhere_up acts v reached open_ =
      let here = reach_down names lifted ground bridge choices policy agrees v reached in
      acts_up v here.0 (acts (names.stands v) here.1 (λ goal. open_ ((bridge.goal v here.0).1 goal)))

  -- a step stands for a step
  step_down : (v w : V) → IsTrue (names.fits v) → Step ground choices v w → IsTrue (names.fits w) × Step lifted policy (names.stands v) (names.stands w)
  step_down v w fits step =
      let named = bridge.has_action v step.choice (bridge.next_applies v step.choice w step.next) in
      let led = bridge.leads v step.choice named.0 w fits named.1 step.next in (
        led.0,
        record { open_ = λ goal. step.open_ ((bridge.goal v fits).1 goal); choice = named.0; chosen = (agrees v step.choice named.0 fits named.1).0 step.chosen; next = led.1 },
      )

  -- a walk stands for a walk
  walk_down : (v : V) (states : List V) (w : V) → Walk (Step ground choices) v states w → IsTrue (names.fits v) → IsTrue (names.fits w) × Walk (Step lifted policy) (names.stands v) (map names.stands states) (names.stands w)
  walk_down v states w (stay s) fits = (fits, stay (names.stands s))
  walk_down v states w (leave s t u rest step walk) fits =
      let down = step_down s t fits step in
      let later = walk_down t rest u walk down.0 in
      (later.0, leave (names.stands s) (names.stands t) (names.stands u) (map names.stands rest) down.1 later.1)

  -- each state that a walk leaves fits
  walk_fits : (v : V) (states : List V) (w : V) → Walk (Step ground choices) v states w → IsTrue (names.fits v) → (x : V) → Contains states x → IsTrue (names.fits x)
  walk_fits v states w (stay s) fits x has = absurd (Contains-none x has)
  walk_fits v states w (leave s t u rest step walk) fits x has = ⊎_elim
      (λ (same : s ≡ x). subst (λ (y : V). IsTrue (names.fits y)) same fits)
      (λ later. walk_fits t rest u walk (step_down s t fits step).0 x later)
      (Contains-cases x s rest has)

  -- a walk from the first state stands for one
  walk_from_first : (states : List V) (w : V) → Walk (Step ground choices) ground.first states w → Walk (Step lifted policy) lifted.first (map names.stands states) (names.stands w)
  walk_from_first states w walk =
      subst (λ (first : S). Walk (Step lifted policy) first (map names.stands states) (names.stands w)) bridge.first (walk_down ground.first states w walk bridge.first_fits).1

  -- numbers that tell of a run on which a policy gets stuck tell of one in the other game
  pub stuck_down : (listed : List V) (stem : List ℕ) → ShowsStuck ground choices listed stem → ShowsStuck lifted policy (map names.stands listed) stem
  stuck_down listed stem shows =
      let fits = (walk_down ground.first shows.walked shows.last shows.comes bridge.first_fits).0 in
      record {
        walked = map names.stands shows.walked;
        last = names.stands shows.last;
        comes = walk_from_first shows.walked shows.last shows.comes;
        open_ = λ goal. shows.open_ ((bridge.goal shows.last fits).1 goal);
        none = λ acts. shows.none (acts_up shows.last fits acts);
        told = tell_joined names.stands listed stem shows.walked shows.last shows.told;
      }

  module _ (lasso : Lasso ground choices) where
    knot_fits : IsTrue (names.fits lasso.knot)
    knot_fits = (walk_down ground.first lasso.stem lasso.knot lasso.comes bridge.first_fits).0

    -- each next state of a fair choice follows the state of the choice
    fair_follows : (state : S) (choice : A) (after : S) → Contains (map names.stands lasso.loop) state → policy state ≡ Some choice → ¬ lifted.IsUnfair choice → lifted.IsNext state choice after
        → Follows (map names.stands lasso.loop ++ names.stands lasso.knot ∷ []) state after
    fair_follows state choice after has chosen fair next =
        let from = Contains-from_map names.stands lasso.loop state has in
        let v = from.0 in
        let fits = walk_fits lasso.knot lasso.loop lasso.knot lasso.closes knot_fits v from.1 in
        let coming : lifted.IsNext (names.stands v) choice after = subst (λ (one : S). lifted.IsNext one choice after) from.2 next in
        let named = bridge.kept v choice fits (bridge.comes_applies (names.stands v) choice after coming) in
        let come = bridge.comes v named.0 choice after fits named.1 coming in
        let taken : policy (names.stands v) ≡ Some choice = subst (λ (one : S). policy one ≡ Some choice) from.2 chosen in
        let still : ¬ ground.IsUnfair named.0 = λ unfair. fair ((bridge.unfair named.0 choice named.1).0 unfair) in
        let follows = lasso.fair v named.0 come.0 from.1 ((agrees v named.0 choice fits named.1).1 taken) still come.1 in
        let there : Follows (map names.stands lasso.loop ++ names.stands lasso.knot ∷ []) (names.stands v) (names.stands come.0) = follows_map names.stands lasso.loop lasso.knot v come.0 follows in
        subst (λ (one : S). Follows (map names.stands lasso.loop ++ names.stands lasso.knot ∷ []) one after) (sym from.2)
        (subst (Follows (map names.stands lasso.loop ++ names.stands lasso.knot ∷ []) (names.stands v)) (sym come.2) there)

    -- a lasso stands for a lasso
    abbrev lasso_down : Lasso lifted policy
    lasso_down = record {
      stem = map names.stands lasso.stem;
      knot = names.stands lasso.knot;
      loop = map names.stands lasso.loop;
      comes = walk_from_first lasso.stem lasso.knot lasso.comes;
      closes = (walk_down lasso.knot lasso.loop lasso.knot lasso.closes knot_fits).1;
      moves = subst (λ n. 0 < n) (sym (length-map lasso.loop names.stands)) lasso.moves;
      fair = fair_follows;
    }

  -- numbers that tell of a lasso tell of one in the other game
  pub shown_lasso_down : (listed : List V) (stem cycle : List ℕ) → ShowsLasso ground choices listed stem cycle → ShowsLasso lifted policy (map names.stands listed) stem cycle
  shown_lasso_down listed stem cycle shows = record {
    lasso = lasso_down shows.lasso;
    stem_told = tell_joined names.stands listed stem shows.lasso.stem shows.lasso.knot shows.stem_told;
    cycle_told = tell_joined names.stands listed cycle shows.lasso.loop shows.lasso.knot shows.cycle_told;
  }

  -- a ranking of the states that stand for others gives one of these, and the other way round
  nearer_down : (rank : V → ℕ) (bound : ℕ) (w : V) → IsTrue (names.fits w) → IsNearer ground rank bound w → IsNearer lifted (λ s. rank (names.back s)) bound (names.stands w)
  nearer_down rank bound w fits (inl goal) = inl ((bridge.goal w fits).0 goal)
  nearer_down rank bound w fits (inr less) = inr (subst (λ (v : V). rank v < bound) (sym (bridge.back_is w fits)) less)

  nearer_up : (rank : S → ℕ) (bound : ℕ) (w : V) → IsTrue (names.fits w) → IsNearer lifted rank bound (names.stands w) → IsNearer ground (λ v. rank (names.stands v)) bound w
  nearer_up rank bound w fits (inl goal) = inl ((bridge.goal w fits).1 goal)
  nearer_up rank bound w fits (inr less) = inr less

  -- the same state again, by its way back
  pub back_to : (s : S) (v : V) → IsTrue (names.fits v) → s ≡ names.stands v → names.back s ≡ v
  back_to s v fits is = ap names.back is ∙ bridge.back_is v fits

  module _ (acts : ActsEverywhere ground choices) where
    pub ranking_up : (rank : S → ℕ) → IsRanking lifted policy rank → IsRanking ground choices (λ v. rank (names.stands v))
    ranking_up rank is = record {
      some = λ v reached open_.
          let here = reach_down names lifted ground bridge choices policy agrees v reached in
          is.some (names.stands v) here.1 (λ goal. open_ ((bridge.goal v here.0).1 goal));
      fair = λ v n reached open_ chosen fair.
          let here = reach_down names lifted ground bridge choices policy agrees v reached in
          let own = acts v reached open_ in
          let same : own.0 ≡ n = same_Some own.0 n (sym own.1 ∙ chosen) in
          let named = bridge.has_action v n (subst (ground.IsApplicable v) same own.2) in
          let got = is.fair (names.stands v) named.0 here.1 (λ goal. open_ ((bridge.goal v here.0).1 goal)) ((agrees v n named.0 here.0 named.1).0 chosen) (λ unfair. fair ((bridge.unfair n named.0 named.1).1 unfair)) in
          let come = bridge.comes v n named.0 got.0 here.0 named.1 got.1 in
          let led = bridge.leads v n named.0 come.0 here.0 named.1 come.1 in
          (come.0, come.1, nearer_up rank (rank (names.stands v)) come.0 led.0 (subst (IsNearer lifted rank (rank (names.stands v))) come.2 got.2));
      unfair = λ v n w reached open_ chosen unfair next.
          let here = reach_down names lifted ground bridge choices policy agrees v reached in
          let named = bridge.has_action v n (bridge.next_applies v n w next) in
          let led = bridge.leads v n named.0 w here.0 named.1 next in
          nearer_up rank (rank (names.stands v)) w led.0
          (is.unfair (names.stands v) named.0 (names.stands w) here.1 (λ goal. open_ ((bridge.goal v here.0).1 goal)) ((agrees v n named.0 here.0 named.1).0 chosen) ((bridge.unfair n named.0 named.1).0 unfair) led.1);
    }

    -- the choice of a number in the state that stands for one in which an action is chosen
    record Choice (s : S) (a : A) : Type 0 where
      state : V
      fits : IsTrue (names.fits state)
      reached : Reach ground choices state
      open_ : ¬ ground.IsGoal state
      stands : s ≡ names.stands state
      number : N
      named : names.action_of number ≡ Some a
      chosen : choices state ≡ Some number

    choice_up : (s : S) (a : A) → Reach lifted policy s → ¬ lifted.IsGoal s → policy s ≡ Some a → Choice s a
    choice_up s a reached open_ chosen =
        let here = reach_up names lifted ground bridge choices policy agrees s reached in
        let own = acts_everywhere_down acts s reached open_ in
        let same : own.0 ≡ a = same_Some own.0 a (sym own.1 ∙ chosen) in
        let applies : lifted.IsApplicable (names.stands here.state) a = subst (λ (one : S). lifted.IsApplicable one a) here.stands (subst (lifted.IsApplicable s) same own.2) in
        let named = bridge.kept here.state a here.fits applies in
        record {
          state = here.state;
          fits = here.fits;
          reached = here.walked;
          open_ = λ goal. open_ (subst lifted.IsGoal (sym here.stands) ((bridge.goal here.state here.fits).0 goal));
          stands = here.stands;
          number = named.0;
          named = named.1;
          chosen = (agrees here.state named.0 a here.fits named.1).1 (subst (λ (one : S). policy one ≡ Some a) here.stands chosen);
        }

    pub ranking_down : (rank : V → ℕ) → IsRanking ground choices rank → IsRanking lifted policy (λ s. rank (names.back s))
    ranking_down rank is = record {
      some = λ s reached open_.
          let here = reach_up names lifted ground bridge choices policy agrees s reached in
          let still : ¬ ground.IsGoal here.state = λ goal. open_ (subst lifted.IsGoal (sym here.stands) ((bridge.goal here.state here.fits).0 goal)) in
          subst (λ (v : V). 0 < rank v) (sym (back_to s here.state here.fits here.stands)) (is.some here.state here.walked still);
      fair = λ s a reached open_ chosen fair.
          let own = choice_up s a reached open_ chosen in
          let got = is.fair own.state own.number own.reached own.open_ own.chosen (λ unfair. fair ((bridge.unfair own.number a own.named).0 unfair)) in
          let led = bridge.leads own.state own.number a got.0 own.fits own.named got.1 in (
            names.stands got.0,
            subst (λ (one : S). lifted.IsNext one a (names.stands got.0)) (sym own.stands) led.1,
            subst (λ (v : V). IsNearer lifted (λ one. rank (names.back one)) (rank v) (names.stands got.0)) (sym (back_to s own.state own.fits own.stands)) (nearer_down rank (rank own.state) got.0 led.0 got.2),
          );
      unfair = λ s a t reached open_ chosen unfair next.
          let own = choice_up s a reached open_ chosen in
          let come = bridge.comes own.state own.number a t own.fits own.named (subst (λ (one : S). lifted.IsNext one a t) own.stands next) in
          let led = bridge.leads own.state own.number a come.0 own.fits own.named come.1 in
          let near = is.unfair own.state own.number come.0 own.reached own.open_ own.chosen ((bridge.unfair own.number a own.named).1 unfair) come.1 in
          let there : IsNearer lifted (λ one. rank (names.back one)) (rank own.state) t = subst (IsNearer lifted (λ one. rank (names.back one)) (rank own.state)) (sym come.2) (nearer_down rank (rank own.state) come.0 led.0 near) in
          subst (λ (v : V). IsNearer lifted (λ one. rank (names.back one)) (rank v) t) (sym (back_to s own.state own.fits own.stands)) there;
    }

    -- the least ranking gives the least ranking of the other game
    pub least_down : (rank : V → ℕ) → IsLeastRanking ground choices rank → IsLeastRanking lifted policy (λ s. rank (names.back s))
    least_down rank least = record {
      is_ranking = ranking_down rank least.is_ranking;
      least = λ other is s reached open_.
          let here = reach_up names lifted ground bridge choices policy agrees s reached in
          let still : ¬ ground.IsGoal here.state = λ goal. open_ (subst lifted.IsGoal (sym here.stands) ((bridge.goal here.state here.fits).0 goal)) in
          let below : rank here.state ≤ other (names.stands here.state) = least.least (λ v. other (names.stands v)) (ranking_up other is) here.state here.walked still in
          subst (λ (one : S). rank (names.back s) ≤ other one) (sym here.stands) (subst (λ (v : V). rank v ≤ other (names.stands here.state)) (sym (back_to s here.state here.fits here.stands)) below);
    }
