-- A task with a policy that is a solution is solvable.
use Rattle.std.proofs.Common.{◌≡◌, ℕ, zero, suc, List, [], ◌∷◌, ◌++◌, Bool, true, false, Option, Some, None, length, map, refl, sym, ap, ◌∙◌, subst, if◌then◌else◌}
use Rattle.std.specs.Prelude.{Contains, IsSome}
use Rattle.std.specs.Bool.{beq}
use Rattle.std.specs.Cmp.{booleans_Decides}
use Rattle.std.specs.Cmp.Lexicographic.{pointwise, pointwise_decides}
use Rattle.std.specs.List.{list_any}
use Rattle.std.proofs.lemmas.Bool.{false≢true}
use Rattle.std.proofs.lemmas.List.Elements.{Contains-append_left, Contains-append_right}
use Rattle.std.proofs.lemmas.Option.{none-some}
use Rattle.fond_state.specs.Games.{start, onward}
use Rattle.fond_task.proofs.Lists.{Contains-here, Contains-map}
use Rattle.fond_task.proofs.Reached.{reached_long}
use Rattle.fond_task.specs.Policies.{IsFiniteMap, Policy, Reach}
use Rattle.fond_task.specs.Solutions.{IsSolution, IsSolvable}
use Rattle.fond_ast.proofs.Members.{Contains-from_Member, Member}
use Rattle.fond_ast.proofs.Tested.{some-member}
use Rattle.fond_store.proofs.Kept.{missing}
use Rattle.fond_task.specs.declared.task.Task.{Task}

-- all states over this many atoms
abbrev all_states : ℕ → List (List Bool)
all_states zero = [] ∷ []
all_states (suc atoms) = map (λ state. true ∷ state) (all_states atoms) ++ map (λ state. false ∷ state) (all_states atoms)

in_all : (state : List Bool) → Contains (all_states (length state)) state
in_all [] = Contains-here [] []
in_all (true ∷ state) =
    Contains-append_left (map (λ s. true ∷ s) (all_states (length state))) (map (λ s. false ∷ s) (all_states (length state))) (true ∷ state)
    (Contains-map (λ s. true ∷ s) (all_states (length state)) state (in_all state))
in_all (false ∷ state) =
    Contains-append_right (map (λ s. true ∷ s) (all_states (length state))) (map (λ s. false ∷ s) (all_states (length state))) (false ∷ state)
    (Contains-map (λ s. false ∷ s) (all_states (length state)) state (in_all state))

module _ (task : Task) (policy : Policy) where
  abbrev states : List (List Bool)
  states = all_states (length task.atoms)

  -- whether a state is over the atoms of the task
  abbrev is_reached : List Bool → Bool
  is_reached state = list_any (pointwise beq state) states

  reached_all : (state : List Bool) → Reach task policy state → Contains states state
  reached_all state reached = subst (λ (n : ℕ). Contains (all_states n) state) (reached_long task policy state reached) (in_all state)

  reached_there : (state : List Bool) → is_reached state ≡ true → Contains states state
  reached_there state any =
      let one = some-member (pointwise beq state) states any in
      Contains-from_Member states state (subst (Member states) (sym ((pointwise_decides booleans_Decides state one.0).0 one.2)) one.1)

  there_reached : (state : List Bool) → Contains states state → is_reached state ≡ true
  there_reached state has = by (is_reached state) refl
    where
      by : (b : Bool) → is_reached state ≡ b → is_reached state ≡ true
      by true is = is
      by false is = absurd (missing states state is has)

  -- the policy in the states over the atoms alone
  abbrev narrowed : Policy
  narrowed state = if is_reached state then policy state else None

  narrow_is : (state : List Bool) → is_reached state ≡ true → narrowed state ≡ policy state
  narrow_is state is = ap (λ b. if b then policy state else None) is

  narrow_some : (state : List Bool) (act : ℕ) → narrowed state ≡ Some act → (is_reached state ≡ true) × (policy state ≡ Some act)
  narrow_some state act is = by (is_reached state) refl is
    where
      by : (b : Bool) → is_reached state ≡ b → (if b then policy state else None) ≡ Some act → (is_reached state ≡ true) × (policy state ≡ Some act)
      by true at chosen = (at, chosen)
      by false at chosen = absurd (none-some act chosen)

  wider : (state : List Bool) → Reach task narrowed state → Reach task policy state
  wider state start = start
  wider state (onward before act after reached open_ chosen next) = onward before act after (wider before reached) open_ (narrow_some before act chosen).1 next

  finite : IsFiniteMap narrowed
  finite = (states, λ state some. by state (narrowed state) refl some)
    where
      by : (state : List Bool) (found : Option ℕ) → narrowed state ≡ found → IsSome found → Contains states state
      by state (Some act) is some = reached_there state (narrow_some state act is).0
      by state None is some = absurd (false≢true some)

  -- it is a finite map, and a solution if the policy is one
  pub solvable : IsSolution task policy → IsSolvable task
  solvable solution = (
    narrowed,
    finite,
    record {
      acts = λ state reached open_.
          let far = wider state reached in
          let choice = solution.acts state far open_ in
          (choice.0, narrow_is state (there_reached state (reached_all state far)) ∙ choice.1, choice.2);
      free = λ trap is. solution.free trap (record {
        some = is.some;
        each = λ state has.
            let stays = is.each state has in
            record {
              reached = wider state stays.reached;
              open_ = stays.open_;
              choice = stays.choice;
              chosen = (narrow_some state stays.choice stays.chosen).1;
              fair = stays.fair;
              unfair = stays.unfair;
            };
      });
    },
  )
