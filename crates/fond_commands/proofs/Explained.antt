-- What `explain` answers about the policy of a table.
use Rattle.std.proofs.Common.{◌≡◌, ◌<◌, ◌^◌, ◌++◌, ◌∙◌, ℕ, List, [], ◌∷◌, Bool, length, map, refl, sym, ap, subst}
use Rattle.std.proofs.lemmas.List.{length-map}
use Rattle.std.specs.Prelude.{Contains, codes}
use Rattle.std.specs.Fmt.{decimal}
use Rattle.std.specs.List.{flat_map}
use Rattle.fond_text.specs.Lists.{AreDistinct}
use Rattle.fond_games.specs.Renaming.{FirstUsed}
use Rattle.fond_games.specs.Told.{AreOpen, TellsNone, TellsSolution, numbers_line, rank_text}
use Rattle.fond_games.proofs.Lists.{Contains-here, Contains-later}
use Rattle.fond_ast.specs.declared.task.LiftedTask.{LiftedTask}
use Rattle.fond_ast.specs.States.{State}
use Rattle.fond_ast.specs.Solutions as lifted
use Rattle.fond_task.specs.declared.task.Task.{Task}
use Rattle.fond_task.specs.Policies as ground
use Rattle.fond_task.specs.Texts as texts
use Rattle.fond_task.proofs.Lists.{Contains-map}
use Rattle.fond_task.proofs.Reached.{reached_long}
use Rattle.fond_ground.specs.Grounds.{IsGroundOf}
use Rattle.fond_ground.specs.Texts.{state_text}
use Rattle.fond_lasso.specs.Told.{IsTold}
use Rattle.fond_lasso.specs.declared.tell.Told.{Told}
use Rattle.fond_lasso.specs.declared.tell.Told.TheVariants.{Solution, NoSolution, Spent}
use Rattle.fond_succ.specs.Games.{IsState}
use Rattle.fond_succ.specs.Solutions.{lifted_policy}
use Rattle.fond_succ.specs.Stands.{restrict, stands}
use Rattle.fond_succ.proofs.Agrees.{restricted}
use Rattle.fond_succ.proofs.Between.{ground-tasks-agree, ground-tasks-play, stands-is-injective, texts-agree}
use Rattle.fond_succ.proofs.Lists.{AreDistinct-map, Contains-from_map}
use Rattle.fond_cert.specs.Spellings.{table_spelling}
use Rattle.fond_rules.specs.Tables.{BelongAsRows, table_choice}
use Rattle.fond_rules.specs.declared.table.TableRow.{TableRow}
use Rattle.fond_commands.specs.Explanations.{AnswersExplain, Explains, told_reply}
use Rattle.fond_commands.specs.Replies.{Reply}

module _ (task : LiftedTask) (game : Task) (is : IsGroundOf task game) (choose : ground.Policy) where
  abbrev AreStates : List (List Bool) → Type 0
  AreStates states = (values : List Bool) → Contains states values → IsState game values

  reached_state : (values : List Bool) → ground.Reach game choose values → IsState game values
  reached_state values reached = reached_long game choose values reached

  first_state : (values : List Bool) (states : List (List Bool)) → AreStates (values ∷ states) → IsState game values
  first_state values states all = all values (Contains-here values states)

  later_states : (values : List Bool) (states : List (List Bool)) → AreStates (values ∷ states) → AreStates states
  later_states values states all other has = all other (Contains-later other values states has)

  -- states that stand for states are written alike
  written : (states : List (List Bool)) → AreStates states → flat_map (texts.state_text game) states ≡ flat_map (state_text task) (map (stands task) states)
  written [] all = refl
  written (values ∷ states) all =
      ap (λ text. text ++ flat_map (texts.state_text game) states) (texts-agree task game values is (first_state values states all))
      ∙ ap (λ more. state_text task (stands task values) ++ more) (written states (later_states values states all))

  -- and so are their ranks
  ranks_written : (rank : List Bool → ℕ) (states : List (List Bool)) → AreStates states
      → flat_map (rank_text (texts.state_text game) rank) states ≡ flat_map (rank_text (state_text task) (λ (state : State). rank (restrict task state))) (map (stands task) states)
  ranks_written rank [] all = refl
  ranks_written rank (values ∷ states) all =
      let own = first_state values states all in
      ap (λ text. codes "rank " ++ decimal (rank values) ++ codes "\n" ++ text ++ flat_map (rank_text (texts.state_text game) rank) states) (texts-agree task game values is own)
      ∙ ap (λ (n : ℕ). codes "rank " ++ decimal n ++ codes "\n" ++ state_text task (stands task values) ++ flat_map (rank_text (texts.state_text game) rank) states) (ap rank (sym (restricted task game is values own)))
      ∙ ap (λ more. rank_text (state_text task) (λ (state : State). rank (restrict task state)) (stands task values) ++ more) (ranks_written rank states (later_states values states all))

  once_lifted : (states : List (List Bool)) → AreStates states → AreDistinct states → AreDistinct (map (stands task) states)
  once_lifted states all once = AreDistinct-map (stands task) states (λ values other has also same. stands-is-injective task game values other is (all values has) (all other also) same) once

  abbrev policy : lifted.Policy
  policy = lifted_policy task game choose

  reached_lifted : (states : List (List Bool)) → ((values : List Bool) → Contains states values → ground.Reach game choose values) → (state : State) → Contains (map (stands task) states) state → lifted.Reach task policy state
  reached_lifted states reached state has =
      let from = Contains-from_map (stands task) states state has in
      ((ground-tasks-agree task game is).reached choose state).1 (from.0, reached from.0 from.1, from.2)

  open_lifted : (states : List (List Bool)) → AreOpen (ground.game game) choose states → AreOpen (lifted.game task) policy (map (stands task) states)
  open_lifted states open_ = record {
    once = once_lifted states (λ values has. reached_state values (open_.reached values has).0) open_.once;
    reached = λ state has.
        let from = Contains-from_map (stands task) states state has in
        let own = open_.reached from.0 from.1 in (
          ((ground-tasks-agree task game is).reached choose state).1 (from.0, own.0, from.2),
          λ goal. own.1 (((ground-tasks-play task game is).goal from.0 (reached_state from.0 own.0)).1 (subst (lifted.IsGoal task) from.2 goal)),
        );
    all = λ state reached no_goal.
        let from = ((ground-tasks-agree task game is).reached choose state).0 reached in
        let still : ¬ ground.IsGoal game from.0 = λ goal. no_goal (subst (lifted.IsGoal task) (sym from.2) (((ground-tasks-play task game is).goal from.0 (reached_state from.0 from.1)).0 goal)) in
        subst (Contains (map (stands task) states)) (sym from.2) (Contains-map (stands task) states from.0 (open_.all from.0 from.1 still));
  }

  -- what tells of a solution of the ground task tells of one of the task
  solution_lifted : (text : List ℕ) → TellsSolution (ground.game game) (texts.state_text game) choose text → TellsSolution (lifted.game task) (state_text task) policy text
  solution_lifted text tells =
      let agree = ground-tasks-agree task game is in
      record {
        solution = (agree.solution choose).0 tells.solution;
        rank = λ state. tells.rank (restrict task state);
        least = agree.least choose tells.rank tells.solution.acts tells.least;
        states = map (stands task) tells.states;
        open_ = open_lifted tells.states tells.open_;
        told = tells.told ∙ ap (λ (t : List ℕ). codes "solution\n" ++ t) (ranks_written tells.rank tells.states (λ values has. reached_state values (tells.open_.reached values has).0));
      }

  used_lifted : (numbers : List ℕ) (states : List (List Bool)) → FirstUsed 0 numbers (length states) → FirstUsed 0 numbers (length (map (stands task) states))
  used_lifted numbers states used = subst (FirstUsed 0 numbers) (sym (length-map states (stands task))) used

  -- and so does what tells of no solution
  none_lifted : (text : List ℕ) → TellsNone (ground.game game) (texts.state_text game) choose text → TellsNone (lifted.game task) (state_text task) policy text
  none_lifted text (TellsNone.stuck listed stem none shows once reached used) =
      let agree = ground-tasks-agree task game is in
      let states : AreStates listed = λ values has. reached_state values (reached values has) in
      subst (λ (front : List ℕ). TellsNone (lifted.game task) (state_text task) policy (codes "stuck\n" ++ front ++ numbers_line (codes "stem") stem)) (sym (written listed states))
      (TellsNone.stuck (map (stands task) listed) stem (λ solution. none ((agree.solution choose).1 solution)) (agree.stuck choose listed stem shows) (once_lifted listed states once) (reached_lifted listed reached)
      (used_lifted stem listed used))
  none_lifted text (TellsNone.lasso listed stem cycle none acts shows once reached used) =
      let agree = ground-tasks-agree task game is in
      let states : AreStates listed = λ values has. reached_state values (reached values has) in
      subst (λ (front : List ℕ). TellsNone (lifted.game task) (state_text task) policy (codes "lasso\n" ++ front ++ numbers_line (codes "stem") stem ++ numbers_line (codes "cycle") cycle)) (sym (written listed states))
      (TellsNone.lasso (map (stands task) listed) stem cycle (λ solution. none ((agree.solution choose).1 solution)) ((agree.acts choose).0 acts) (agree.lasso choose listed stem cycle shows) (once_lifted listed states once)
      (reached_lifted listed reached) (used_lifted (stem ++ cycle) listed used))

  -- what is told about a policy explains it
  pub explains : (limit : ℕ) (told : Told) → IsTold game choose limit told → Explains task policy limit (told_reply limit told)
  explains limit (Solution text) tells = Explains.solution text.items (λ more. tells.1 (((ground-tasks-agree task game is).reaches_more choose limit).1 more)) (solution_lifted text.items tells.0)
  explains limit (NoSolution text) tells = Explains.none text.items (λ more. tells.1 (((ground-tasks-agree task game is).reaches_more choose limit).1 more)) (none_lifted text.items tells.0)
  explains limit Spent more = Explains.undecided (((ground-tasks-agree task game is).reaches_more choose limit).0 more)

-- what is told about the policy of a table is the answer to its text
pub answers : (task : LiftedTask) (game : Task) (is : IsGroundOf task game) (text : List ℕ) (rows : List TableRow) (limit : ℕ) (reply : Reply) → BelongAsRows game rows → length rows < 2 ^ 32 → text ≡ table_spelling game rows
    → (told : Told) × IsTold game (table_choice rows) limit told × (reply ≡ told_reply limit told) → AnswersExplain text limit task game reply
answers task game is text rows limit reply belong few spelled judged =
    AnswersExplain.explained rows reply (belong, few, spelled)
    (subst (Explains task (lifted_policy task game (table_choice rows)) limit) (sym judged.2) (explains task game is (table_choice rows) limit judged.0 judged.1))
