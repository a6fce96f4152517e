-- A ground task agrees with its task on solutions, reached states, stuck runs, lassos and rankings.
use Rattle.std.proofs.Common.{◌≡◌, ℕ, List, ◌∷◌, Bool, Option, Some, map, length, refl, sym, ap, ◌∙◌, subst}
use Rattle.std.specs.Prelude.{◌↔◌, ◌==◌, slice_get, IsTrue, option_and_then, option_map}
use Rattle.std.specs.List.{position}
use Rattle.std.specs.FinSet as set
use Rattle.std.specs.Str.{bytes_eq}
use Rattle.std.proofs.lemmas.Bool.{and_parts, and_from, eqb-true, eq-eqb}
use Rattle.std.proofs.lemmas.Option.{slice_get-map}
use Rattle.std.proofs.lemmas.Slice.Eq.{bytes_eq-Decides}
use Rattle.fond_text.specs.declared.atom.GroundAction.{GroundAction}
use Rattle.fond_ast.specs.declared.task.LiftedTask.{LiftedTask}
use Rattle.fond_ast.specs.Outcomes.{is_same_state}
use Rattle.fond_ast.specs.Solutions as lifted
use Rattle.fond_ast.specs.States.{State}
use Rattle.fond_ast.proofs.Atoms.{atom_cmp_total, states-are-their-atoms}
use Rattle.fond_task.specs.declared.task.Act.{Act}
use Rattle.fond_task.specs.declared.task.Task.{Task}
use Rattle.fond_task.specs.Distinct.{action_numbers}
use Rattle.fond_task.specs.Policies as ground
use Rattle.fond_ground.specs.Grounds.{IsGroundOf}
use Rattle.fond_succ.specs.Stands.{restrict, stands}
use Rattle.fond_succ.specs.Games.{IsState, PlaysGameOf, action_of}
use Rattle.fond_succ.specs.Solutions.{Agree, lifted_policy}
use Rattle.fond_succ.proofs.Lists.{Member-at}
use Rattle.fond_succ.proofs.Firsts.{same_tests, has_position, item-at, one_place}
use Rattle.fond_succ.proofs.Kept.{mapped}
use Rattle.fond_succ.proofs.Bridges.{Correspond, IsBridge, Naming, count_down, count_up, more_down, more_up, reach_down, reach_up, solution_down, solution_up}
use Rattle.fond_succ.proofs.Shortest.{best_down}
use Rattle.fond_succ.proofs.Shown.{acts_everywhere_down, acts_everywhere_up, least_down, reaches_more_down, reaches_more_up, shown_lasso_down, stuck_down}
use Rattle.fond_succ.proofs.Maps.{and_then, solvable_down, solvable_up}
use Rattle.fond_succ.proofs.Plays.{distinct, long, plays}
use Rattle.fond_succ.proofs.States.{restrict_stands}

-- states are equal if and only if they pass the test
same_state_is : (state other : State) → (state ≡ other) ↔ IsTrue (is_same_state state other)
same_state_is state other = (
  λ same. subst (λ one. IsTrue (is_same_state state one)) same (and_from (set.is_subset state state) _ (set.contains-is_subset atom_cmp_total state state (λ atom has. has)) (set.contains-is_subset atom_cmp_total state state (λ atom has. has))),
  λ is.
      let both = and_parts (set.is_subset state other) (set.is_subset other state) is in
      states-are-their-atoms state other (λ atom. same_tests _ _ (set.is_subset-contains atom_cmp_total state other both.0 atom) (set.is_subset-contains atom_cmp_total other state both.1 atom)),
)

-- whether two actions have the same schema and the same objects, in order
abbrev is_same_action : GroundAction → GroundAction → Bool
is_same_action action other = bytes_eq (action_numbers action) (action_numbers other)

same_action : (action other : GroundAction) → IsTrue (is_same_action action other) → action ≡ other
same_action action other is =
    let numbers : action.schema ∷ action.objects ≡ other.schema ∷ other.objects = (bytes_eq-Decides (action_numbers action) (action_numbers other)).0 is in
    let schemas : action.schema ≡ other.schema = cc in
    let objects : action.objects ≡ other.objects = cc in
    λ i. record { schema = schemas i; objects = objects i }

abbrev names_of : Task → List GroundAction
names_of game = map (λ act. act.ground) game.acts

-- the number of an action
abbrev number_of : Task → GroundAction → Option ℕ
number_of game action = position (is_same_action action) (names_of game)

-- the names that a ground task has for the states and the actions of its task
abbrev naming : LiftedTask → Task → Naming State GroundAction (List Bool) ℕ
naming task game = record {
  stands = stands task;
  back = restrict task;
  fits = λ values. length values == length game.atoms;
  action_of = action_of game;
  number_of = number_of game;
}

module _ (task : LiftedTask) (game : Task) (is : IsGroundOf task game) where
  fits_is : (values : List Bool) → IsTrue (length values == length game.atoms) → IsState game values
  fits_is values fits = eqb-true _ _ fits

  is_fits : (values : List Bool) → IsState game values → IsTrue (length values == length game.atoms)
  is_fits values state = eq-eqb _ _ state

  name_at : (number : ℕ) (action : GroundAction) → action_of game number ≡ Some action → slice_get (names_of game) number ≡ Some action
  name_at number action at = slice_get-map (λ (act : Act). act.ground) game.acts number ∙ at

  one_number : (number other : ℕ) (action : GroundAction) → action_of game number ≡ Some action → action_of game other ≡ Some action → number ≡ other
  one_number number other action at also = one_place (map (λ act. action_numbers act.ground) game.acts) game.distinct_acts number other (action_numbers action) (numbers_at number at) (numbers_at other also)
    where
      numbers_at : (number : ℕ) → action_of game number ≡ Some action → slice_get (map (λ act. action_numbers act.ground) game.acts) number ≡ Some (action_numbers action)
      numbers_at number at =
          let act = mapped (λ (act : Act). act.ground) (slice_get game.acts number) action at in
          slice_get-map (λ (act : Act). action_numbers act.ground) game.acts number ∙ ap (option_map (λ (act : Act). action_numbers act.ground)) act.1 ∙ ap (λ (one : GroundAction). Some (action_numbers one)) act.2

  number_is : (action : GroundAction) (number : ℕ) → number_of game action ≡ Some number → action_of game number ≡ Some action
  number_is action number at =
      let item = item-at (is_same_action action) (names_of game) action number at in
      sym (slice_get-map (λ (act : Act). act.ground) game.acts number) ∙ item.1 ∙ ap Some (sym (same_action action item.0 item.2))

  is_number : (number : ℕ) (action : GroundAction) → action_of game number ≡ Some action → number_of game action ≡ Some number
  is_number number action at =
      let found = has_position (is_same_action action) (names_of game) action (Member-at (names_of game) number action (name_at number action at)) ((bytes_eq-Decides (action_numbers action) (action_numbers action)).1 refl) in
      found.1 ∙ ap Some (one_number found.0 number action (number_is action found.0 found.1) at)

  pub restricted : (values : List Bool) → IsState game values → restrict task (stands task values) ≡ values
  restricted values state = restrict_stands task (distinct task game is) values (long task game is values state)

  -- an act of the ground task names the action of its number
  pub names_action : (number : ℕ) (act : Act) → slice_get game.acts number ≡ Some act → action_of game number ≡ Some act.ground
  names_action number act at = ap (option_map (λ (act : Act). act.ground)) at

  abbrev play : PlaysGameOf task game
  play = plays task game is

  bridge : IsBridge (naming task game) (lifted.game task) (ground.game game)
  bridge = record {
    back_is = λ values fits. restricted values (fits_is values fits);
    numbered = λ number action. (is_number number action, number_is action number);
    first_fits = is_fits game.init game.init_long;
    first = play.first;
    goal = λ values fits. play.goal values (fits_is values fits);
    has_action = λ values number applies. play.numbered values number applies;
    next_applies = λ values number after next. record { act = next.act; numbered = next.numbered; holds = next.holds };
    comes_applies = λ state action after next. record { schema = next.schema; numbered = next.numbered; fits = next.fits; holds = next.holds };
    kept = λ values action fits applies. play.kept values action (fits_is values fits) applies;
    applicable = λ values number action fits at. play.applicable values number action (fits_is values fits) at;
    leads = λ values number action after fits at next. (let led = play.leads values number action after (fits_is values fits) at next in (is_fits after led.0, led.1));
    comes = λ values number action state fits at next. play.comes values number action state (fits_is values fits) at next;
    unfair = λ number action at. play.unfair number action at;
  }

  -- a policy of the ground task chooses alike in both games
  policies_correspond : (choose : ground.Policy) → Correspond (naming task game) choose (lifted_policy task game choose)
  policies_correspond choose values number action fits at =
      let same : lifted_policy task game choose (stands task values) ≡ option_and_then (action_of game) (choose values) = ap (λ one. option_and_then (action_of game) (choose one)) (restricted values (fits_is values fits)) in (
        λ chosen. same ∙ ap (option_and_then (action_of game)) chosen ∙ at,
        λ taken.
            let from = and_then (action_of game) (choose values) action (sym same ∙ taken) in
            from.1 ∙ ap Some (one_number from.0 number action from.2 at),
      )

  -- the ground task and the task agree
  pub agrees : Agree task game
  agrees =
      let names = naming task game in
      let above = lifted.game task in
      let below = ground.game game in
      record {
        solution = λ choose. (
          solution_down names above below bridge choose (lifted_policy task game choose) (policies_correspond choose),
          solution_up names above below bridge choose (lifted_policy task game choose) (policies_correspond choose),
        );
        reached = λ choose state. (
          λ reached.
              let here = reach_up names above below bridge choose (lifted_policy task game choose) (policies_correspond choose) state reached in
              (here.state, here.walked, here.stands),
          λ one. subst (lifted.Reach task (lifted_policy task game choose)) (sym one.2) (reach_down names above below bridge choose (lifted_policy task game choose) (policies_correspond choose) one.0 one.1).1,
        );
        count = λ choose count. (
          count_down names above below bridge choose (lifted_policy task game choose) (policies_correspond choose) count,
          count_up names above below bridge choose (lifted_policy task game choose) (policies_correspond choose) count,
        );
        solvable = (solvable_down names above below bridge is_same_state same_state_is, solvable_up names above below bridge);
        more = λ bound. (more_down names above below bridge bound, more_up names above below bridge bound);
        reaches_more = λ choose bound. (
          reaches_more_down names above below bridge choose (lifted_policy task game choose) (policies_correspond choose) bound,
          reaches_more_up names above below bridge choose (lifted_policy task game choose) (policies_correspond choose) bound,
        );
        acts = λ choose. (
          acts_everywhere_down names above below bridge choose (lifted_policy task game choose) (policies_correspond choose),
          acts_everywhere_up names above below bridge choose (lifted_policy task game choose) (policies_correspond choose),
        );
        stuck = λ choose listed stem. stuck_down names above below bridge choose (lifted_policy task game choose) (policies_correspond choose) listed stem;
        lasso = λ choose listed stem cycle. shown_lasso_down names above below bridge choose (lifted_policy task game choose) (policies_correspond choose) listed stem cycle;
        least = λ choose rank acts. least_down names above below bridge choose (lifted_policy task game choose) (policies_correspond choose) acts rank;
        best = λ choose rank. best_down names above below bridge choose (lifted_policy task game choose) (policies_correspond choose) rank;
      }
