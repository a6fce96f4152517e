-- Small tasks, worked out by hand and computed with the definitions.
use Rattle.std.proofs.Common.{codes, All as EachOf, ◌≡◌, ℕ, ◌<◌, List, [], ◌∷◌, Bool, true, false, Some, refl, sym, ◌∙◌, subst, inl, inr, ⊎_elim, arith}
use Rattle.std.specs.Prelude.{◌⊎◌, Contains, ⊤}
use Rattle.std.proofs.lemmas.Bool.{false≢true}
use Rattle.std.proofs.lemmas.List.Elements.{All-cons, All-nil}
use Rattle.fond_text.specs.Bytes.{is_leaf_byte, lower}
use Rattle.fond_text.specs.Name.{IsName}
use Rattle.fond_text.specs.declared.atom.Atom.{Atom}
use Rattle.fond_state.specs.Games.{start, onward}
use Rattle.fond_state.proofs.Tested.{lies_in-Decides}
use Rattle.fond_task.specs.declared.form.Form.TheVariants.{Truth, Lit}
use Rattle.fond_task.specs.declared.form.Kleene.TheVariants.{No}
use Rattle.fond_task.specs.declared.task.Act.{Act}
use Rattle.fond_task.specs.declared.task.Entry.{Entry}
use Rattle.fond_task.specs.declared.task.Labels.{Labels}
use Rattle.fond_task.specs.declared.task.Task.{Task}
use Rattle.fond_task.specs.Steps.{next_state}
use Rattle.fond_task.specs.Values.{value}
use Rattle.fond_task.proofs.Forms.{value-Lit, is_true-Truth, is_true-Lit, within-Truth, within-Lit}
use Rattle.fond_task.specs.Policies.{IsGoal, IsNext}
use Rattle.fond_task.specs.Layers.{CubeView, Leads, Forces, IsSureCube, IsSureLayer}
use Rattle.fond_task.proofs.Lists.{Contains_numbered, Contains-cases}
use Rattle.fond_task.proofs.Stacked.{AreSureLayers-none, AreSureLayers-push}
use Rattle.fond_explicit.specs.declared.answer.Pick.{Pick}
use Rattle.fond_explicit.specs.declared.answer.Solved.TheVariants.{Won, Lost, Spent}
use Rattle.fond_explicit.specs.Answers.{IsNearer, IsWinning, AreWinning, IsReachableCube, IsRight, IsReachable}
use Rattle.fond_explicit.proofs.Distinct.{nothing_in}

-- a fact holds of each item of a list, item by item
abbrev Each : {X : Type 0} → (X → Type 0) → List X → Type 0
Each P [] = ⊤
Each P (x ∷ xs) = P x × Each P xs

at_each : {X : Type 0} (P : X → Type 0) (xs : List X) → Each P xs → (x : X) → Contains xs x → P x
at_each P [] each x has = absurd (nothing_in x has)
at_each P (y ∷ xs) each x has = ⊎_elim (λ same. subst P same each.0) (at_each P xs each.1 x) (Contains-cases x y xs has)

-- coin: a flip gives heads or nothing, and the goal is heads
abbrev heads_up : Entry
heads_up = record { cond = Truth true; atom = 0; add = true }

abbrev flip : Bool → Act
flip unfair = record { ground = record { schema = 0; objects = [] }; pre = Truth true; unfair = unfair; outcomes = (heads_up ∷ []) ∷ [] ∷ [] }

abbrev coin_atom : Atom
coin_atom = record { predicate = 0; objects = [] }

-- the names of a predicate and of a schema
abbrev letters : List (List ℕ)
letters = codes "a" ∷ []

letter_is_name : (b : ℕ) → is_leaf_byte b ≡ true → lower b ≡ b → IsName (b ∷ [])
letter_is_name b leaf low =
    let P = λ (byte : ℕ). is_leaf_byte byte ≡ true in
    let Q = λ (byte : ℕ). lower byte ≡ byte in
    ((omega arith, All-cons P b [] leaf (All-nil P)), All-cons Q b [] low (All-nil Q))

letters_are_names : EachOf IsName letters
letters_are_names = All-cons IsName (codes "a") [] (letter_is_name 97 refl refl) (All-nil IsName)

abbrev lettered : Labels
lettered = record { predicates = letters; objects = []; schemas = letters }

abbrev coin : Bool → Task
coin unfair = record {
  atoms = coin_atom ∷ [];
  acts = flip unfair ∷ [];
  init = false ∷ [];
  goal = Lit 0 true;
  labels = lettered;
  few_atoms = omega arith;
  few_acts = omega arith;
  distinct_atoms = refl;
  distinct_acts = refl;
  distinct_predicates = refl;
  distinct_objects = refl;
  distinct_schemas = refl;
  predicate_names = letters_are_names;
  object_names = All-nil IsName;
  schema_names = letters_are_names;
  named_atoms = refl;
  named_acts = refl;
  init_long = refl;
  goal_within = within-Lit 1 0 true;
  acts_within = simp within-Truth;
}

abbrev tails : List Bool
tails = false ∷ []

abbrev heads : List Bool
heads = true ∷ []

tails_open : (unfair : Bool) → ¬ IsGoal (coin unfair) tails
tails_open unfair goal = false≢true (sym (is_true-Lit tails 0 true) ∙ goal)

heads_goal : (unfair : Bool) → IsGoal (coin unfair) heads
heads_goal unfair = is_true-Lit heads 0 true

heads_next : next_state tails (heads_up ∷ []) ≡ heads
heads_next = simp is_true-Truth

to_heads : (unfair : Bool) → IsNext (coin unfair) tails 0 heads
to_heads unfair = record { act = flip unfair; numbered = refl; holds = is_true-Truth tails true; outcome = heads_up ∷ []; one = (0, omega arith, refl); given = sym heads_next }

to_tails : (unfair : Bool) → IsNext (coin unfair) tails 0 tails
to_tails unfair = record { act = flip unfair; numbered = refl; holds = is_true-Truth tails true; outcome = []; one = (1, omega arith, refl); given = refl }

after_tails : (unfair : Bool) (number : ℕ) (after : List Bool) → IsNext (coin unfair) tails number after → (after ≡ heads) ⊎ (after ≡ tails)
after_tails unfair number after next =
    at_each (λ act. Contains act.outcomes next.outcome → (after ≡ heads) ⊎ (after ≡ tails)) (flip unfair ∷ []) (
      (λ one. at_each (λ outcome. after ≡ next_state tails outcome → (after ≡ heads) ⊎ (after ≡ tails)) (flip unfair).outcomes
          ((λ given. inl (given ∙ heads_next)), ((λ given. inr given), tt))
          next.outcome one next.given),
      tt,
    )
    next.act (Contains_numbered (flip unfair ∷ []) number next.act next.numbered) next.one

abbrev pick : Pick
pick = record { state = tails; act = 0; rank = 1 }

-- if the flip is fair, the choice to flip wins
pick_wins : IsWinning (coin false) tails (pick ∷ []) pick
pick_wins = record {
  reachable = start;
  applicable = record { act = flip false; numbered = refl; holds = is_true-Truth tails true };
  closed = λ after next. ⊎_elim
      (λ up. inl (subst (IsGoal (coin false)) (sym up) (heads_goal false)))
      (λ down. inr (record { choice = pick; one = (0, omega arith, refl); here = sym down }))
      (after_tails false 0 after next);
  fair = λ is_fair. (heads, to_heads false, inl (heads_goal false));
  unfair = λ is_unfair. absurd (at_each (λ act. act.unfair ≡ true → ⊥) (flip false ∷ []) ((λ flagged. false≢true flagged), tt) is_unfair.act (Contains_numbered (flip false ∷ []) 0 is_unfair.act is_unfair.numbered) is_unfair.flagged);
}

coin_won : IsRight (coin false) tails 2 (Won (pick ∷ []) [])
coin_won = (
  record {
    start = inr (record { choice = pick; one = (0, omega arith, refl); here = refl });
    once = (nothing_in tails, tt);
    each = at_each (IsWinning (coin false) tails (pick ∷ [])) (pick ∷ []) (pick_wins, tt);
  },
  record { sure = AreSureLayers-none (coin false); each = λ layer has. absurd (nothing_in layer has); once = tt },
)

-- if it is unfair, the choice does not win: the opponent may leave the coin as it is
never_nearer : ¬ IsNearer (coin true) (pick ∷ []) 1 tails
never_nearer nearer = ⊎_elim
    (λ goal. tails_open true goal)
    (λ small. at_each (λ choice. choice.rank < 1 → ⊥) (pick ∷ []) ((λ less. omega (arith, less)), tt) small.choice small.one small.smaller)
    nearer

coin_not_won : ¬ AreWinning (coin true) tails (pick ∷ [])
coin_not_won winning =
    let wins = winning.each pick (0, omega arith, refl) in
    never_nearer (wins.unfair (record { act = flip true; numbered = refl; flagged = refl }) tails (to_tails true))

-- and the layer of the state without heads is stuck
abbrev no_heads : List CubeView
no_heads = (Some false ∷ []) ∷ []

stays_tails : Leads (Some false ∷ []) [] no_heads
stays_tails = record { other = Some false ∷ []; one = (0, omega arith, refl); lies = λ atom sign is. is }

no_heads_sure : IsSureLayer (coin true) [] no_heads
no_heads_sure = at_each (IsSureCube (coin true) [] no_heads) no_heads (
  record {
    no_goal = value-Lit (Some false ∷ []) 0 true;
    forced = at_each (λ act. (¬ value (Some false ∷ []) act.pre ≡ No) → Forces [] no_heads (Some false ∷ []) act) (flip true ∷ [])
        ((λ may. inr (inr (refl, ([], (1, omega arith, refl), stays_tails)))), tt);
  },
  tt,
)

coin_lost : IsRight (coin true) tails 2 (Lost (no_heads ∷ []))
coin_lost = (
  record {
    sure = AreSureLayers-push (coin true) [] no_heads (AreSureLayers-none (coin true)) no_heads_sure;
    each = at_each (λ layer. (cube : CubeView) → Contains layer cube → IsReachableCube (coin true) tails cube) (no_heads ∷ [])
        (at_each (IsReachableCube (coin true) tails) no_heads (record { state = tails; reachable = start; full = refl }, tt), tt);
    once = (nothing_in (Some false ∷ []), tt);
  },
  record { layer = no_heads; one = (0, omega arith, refl); cube = Some false ∷ []; has = (0, omega arith, refl); lies = (lies_in-Decides tails (Some false ∷ [])).0 refl },
)

-- two states are reachable, so a budget of one may be spent
coin_spent : IsRight (coin false) tails 1 Spent
coin_spent = record {
  states = tails ∷ heads ∷ [];
  once = ((λ has. ⊎_elim (λ same. false_heads same) (λ none. nothing_in tails none) (Contains-cases tails heads [] has)), (nothing_in heads, tt));
  reached = at_each (IsReachable (coin false) tails) (tails ∷ heads ∷ []) (start, (onward tails 0 heads start (tails_open false) tt (to_heads false), tt));
  longer = omega arith;
}
  where
    false_heads : ¬ heads ≡ tails
    false_heads same = cc
