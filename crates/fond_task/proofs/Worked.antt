-- Small games, worked out by hand and computed with the definitions.
use Rattle.std.proofs.Common.{not, codes, All as EachOf, ◌≡◌, ℕ, zero, suc, ◌<◌, List, [], ◌∷◌, Bool, true, false, Option, Some, None, refl, sym, ◌∙◌, subst, inl, inr, ⊎_elim, arith}
use Rattle.std.specs.Prelude.{◌&&◌, Contains, slice_get, ⊤}
use Rattle.std.proofs.lemmas.Bool.{false≢true, and_parts}
use Rattle.std.proofs.lemmas.List.Elements.{All-cons, All-nil}
use Rattle.std.proofs.lemmas.Option.{none-some, same_Some}
use denote.RawPtr.{null_ptr}
use Rattle.fond_state.proofs.Tested.{lies_in-Decides}
use Rattle.fond_state.specs.Cubes.{CubeLiesIn, Contradicts, literal_at}
use Rattle.fond_text.specs.Bytes.{is_leaf_byte, lower}
use Rattle.fond_text.specs.Name.{IsName}
use Rattle.fond_text.specs.declared.atom.Atom.{Atom}
use Rattle.std.specs.declared.vec.Vec.{Vec}
use Rattle.std.specs.declared.alloc.Global.{Global}
use Rattle.fond_task.specs.declared.form.Form.{Form}
use Rattle.fond_task.specs.declared.form.Form.TheVariants.{Truth, Lit, And}
use Rattle.fond_task.specs.declared.form.Kleene.TheVariants.{No, Yes}
use Rattle.fond_task.specs.declared.task.Act.{Act}
use Rattle.fond_task.specs.declared.task.Entry.{Entry}
use Rattle.fond_task.specs.declared.task.Labels.{Labels}
use Rattle.fond_task.specs.declared.task.Task.{Task}
use Rattle.fond_task.specs.Steps.{next_state}
use Rattle.fond_task.specs.Values.{value}
use Rattle.fond_task.specs.Images.{image}
use Rattle.fond_task.proofs.Forms.{value-Truth, value-Lit, is_true-Truth, is_true-Lit, within-Truth, within-Lit, value-And, within-And}
use Rattle.fond_task.specs.declared.rule.Pair.{Pair}
use Rattle.fond_task.specs.declared.rule.Rule.{Rule}
use Rattle.fond_task.specs.declared.rule.Target.{Target}
use Rattle.fond_task.specs.declared.rule.Target.TheVariants.{Goal, Rule as ToRule}
use Rattle.fond_task.specs.declared.rule.Targets.TheVariants.{One, All}
use Rattle.fond_task.specs.Policies.{IsGoal, IsNext, Reach, start, onward, selected}
use Rattle.fond_task.specs.Solutions.{StaysIn, IsTrap, IsSolution, IsSolvable}
use Rattle.fond_task.specs.Layers.{CubeView, LiesInLayer, Leads, Forces, IsSureCube, IsSureLayer, IsSurePair}
use Rattle.fond_task.specs.Rules.{Meets, IsEarlier, AreMet, IsSureRule}
use Rattle.fond_task.specs.Certificates.{IsRightPolicy, IsRightRefusal}
use Rattle.fond_task.proofs.Lists.{Contains_numbered, Contains-cases}
use Rattle.fond_task.proofs.Ranks.{ranks_exclude}
use Rattle.fond_task.proofs.Forced.{refusals_exclude}
use Rattle.fond_task.proofs.Stacked.{AreSureLayers-none, AreSureLayers-push}

-- a fact holds of each item of a list, item by item
abbrev Each : {X : Type 0} → (X → Type 0) → List X → Type 0
Each P [] = ⊤
Each P (x ∷ xs) = P x × Each P xs

at_each : {X : Type 0} (P : X → Type 0) (xs : List X) → Each P xs → (x : X) → Contains xs x → P x
at_each P [] each x has = absurd (omega (arith, has.1))
at_each P (y ∷ xs) each x has = ⊎_elim (λ same. subst P same each.0) (at_each P xs each.1 x) (Contains-cases x y xs has)

-- whether the literal that one cube has of an atom contains that of another
abbrev says : Option Bool → Option Bool → Bool
says known None = true
says (Some true) (Some sign) = sign
says (Some false) (Some sign) = not sign
says None (Some sign) = false

-- whether one cube lies in another
abbrev inside : CubeView → CubeView → Bool
inside cube [] = true
inside [] (known ∷ other) = says None known && inside [] other
inside (known ∷ cube) (wanted ∷ other) = says known wanted && inside cube other

said : (known wanted : Option Bool) → says known wanted ≡ true → (sign : Bool) → wanted ≡ Some sign → known ≡ Some sign
said known None told sign is = absurd (none-some sign is)
said (Some true) (Some true) told sign is = is
said (Some true) (Some false) told sign is = absurd (false≢true told)
said (Some false) (Some true) told sign is = absurd (false≢true told)
said (Some false) (Some false) told sign is = is
said None (Some wanted) told sign is = absurd (false≢true told)

inside_lies : (cube other : CubeView) → inside cube other ≡ true → CubeLiesIn cube other
inside_lies cube [] told atom sign is = absurd (none-some sign is)
inside_lies [] (wanted ∷ other) told zero sign is = said None wanted (and_parts _ _ told).0 sign is
inside_lies [] (wanted ∷ other) told (suc atom) sign is = inside_lies [] other (and_parts _ _ told).1 atom sign is
inside_lies (known ∷ cube) (wanted ∷ other) told zero sign is = said known wanted (and_parts _ _ told).0 sign is
inside_lies (known ∷ cube) (wanted ∷ other) told (suc atom) sign is = inside_lies cube other (and_parts _ _ told).1 atom sign is

No_is_not_Yes : ¬ No ≡ Yes
No_is_not_Yes is = cc

-- an action of a schema without parameters
abbrev action : ℕ → Form → Bool → List (List Entry) → Act
action schema pre unfair outcomes = record { ground = record { schema = schema; objects = [] }; pre = pre; unfair = unfair; outcomes = outcomes }

-- an entry that sets an atom, whatever the state
abbrev sets : ℕ → Bool → Entry
sets atom sign = record { cond = Truth true; atom = atom; add = sign }

-- the atom without objects of a predicate
abbrev atom : ℕ → Atom
atom predicate = record { predicate = predicate; objects = [] }

-- the names of four predicates, and those of four schemas
abbrev letters : List (List ℕ)
letters = codes "a" ∷ codes "b" ∷ codes "c" ∷ codes "d" ∷ []

letter_is_name : (b : ℕ) → is_leaf_byte b ≡ true → lower b ≡ b → IsName (b ∷ [])
letter_is_name b leaf low =
    let P = λ (byte : ℕ). is_leaf_byte byte ≡ true in
    let Q = λ (byte : ℕ). lower byte ≡ byte in
    ((omega arith, All-cons P b [] leaf (All-nil P)), All-cons Q b [] low (All-nil Q))

letters_are_names : EachOf IsName letters
letters_are_names =
    All-cons IsName (codes "a") (codes "b" ∷ codes "c" ∷ codes "d" ∷ []) (letter_is_name 97 refl refl)
    (All-cons IsName (codes "b") (codes "c" ∷ codes "d" ∷ []) (letter_is_name 98 refl refl)
    (All-cons IsName (codes "c") (codes "d" ∷ []) (letter_is_name 99 refl refl) (All-cons IsName (codes "d") [] (letter_is_name 100 refl refl) (All-nil IsName))))

abbrev lettered : Labels
lettered = record { predicates = letters; objects = []; schemas = letters }

-- an outcome leads from a cube into one of a layer
leads : (cube other : CubeView) (outcome : List Entry) (layer : List CubeView) → Contains layer other → inside (image cube outcome) other ≡ true → Leads cube outcome layer
leads cube other outcome layer has told = record { other = other; one = has; lies = inside_lies (image cube outcome) other told }

-- coin: a flip gives heads or nothing, and the goal is heads
abbrev flip : Bool → Act
flip unfair = action 0 (Truth true) unfair ((sets 0 true ∷ []) ∷ [] ∷ [])

abbrev coin : Bool → Task
coin unfair = record {
  atoms = atom 0 ∷ [];
  acts = flip unfair ∷ [];
  init = false ∷ [];
  goal = Lit 0 true;
  labels = lettered;
  few_atoms = omega arith;
  few_acts = omega arith;
  distinct_atoms = refl;
  distinct_acts = refl;
  distinct_predicates = refl;
  distinct_objects = refl;
  distinct_schemas = refl;
  predicate_names = letters_are_names;
  object_names = All-nil IsName;
  schema_names = letters_are_names;
  named_atoms = refl;
  named_acts = refl;
  init_long = refl;
  goal_within = within-Lit 1 0 true;
  acts_within = simp within-Truth;
}

abbrev no_heads : List CubeView
no_heads = (Some false ∷ []) ∷ []

abbrev flip_rule : Rule
flip_rule = record { cond = None ∷ []; act = 0; targets = One 0 Goal }

-- if the flip is fair, its rule is sure
flip_rule_sure : IsSureRule (coin false) [] (flip_rule ∷ []) 0 flip_rule
flip_rule_sure = record {
  act = flip false;
  has_act = refl;
  applicable = value-Truth (None ∷ []) true;
  barred = λ pair has. absurd (omega (arith, has.1));
  met = (refl, tt, (sets 0 true ∷ [], refl, simp (value-Lit, value-Truth)));
}

-- a rule that names itself as its target is not sure
abbrev circle_rule : Rule
circle_rule = record { cond = None ∷ []; act = 0; targets = One 0 (ToRule 0) }

circle_rule_not_sure : ¬ IsSureRule (coin false) [] (circle_rule ∷ []) 0 circle_rule
circle_rule_not_sure sure = omega (arith, at_each (λ act. AreMet (coin false) (circle_rule ∷ []) 0 circle_rule.cond act circle_rule.targets → 0 < 0) (flip false ∷ []) ((λ met. met.1), tt) sure.act (Contains_numbered (flip false ∷ []) 0 sure.act sure.has_act) sure.met)

-- the policy reaches two states, with heads and without
abbrev tails : List Bool
tails = false ∷ []

abbrev heads : List Bool
heads = true ∷ []

tails_open : (unfair : Bool) → ¬ IsGoal (coin unfair) tails
tails_open unfair goal = false≢true (sym (is_true-Lit tails 0 true) ∙ goal)

heads_next : next_state tails (sets 0 true ∷ []) ≡ heads
heads_next = simp is_true-Truth

heads_reached : Reach (coin false) (selected (flip_rule ∷ [])) heads
heads_reached = onward tails 0 heads start (tails_open false) refl (record { act = flip false; numbered = refl; holds = is_true-Truth tails true; outcome = sets 0 true ∷ []; one = (0, omega arith, refl); given = sym heads_next })

after_tails : (number : ℕ) (after : List Bool) → IsNext (coin false) tails number after → Contains (tails ∷ heads ∷ []) after
after_tails number after next =
    at_each (λ act. Contains act.outcomes next.outcome → Contains (tails ∷ heads ∷ []) after) (flip false ∷ []) (
      (λ one. at_each (λ outcome. after ≡ next_state tails outcome → Contains (tails ∷ heads ∷ []) after) (flip false).outcomes
          ((λ given. subst (Contains (tails ∷ heads ∷ [])) (sym (given ∙ heads_next)) (1, omega arith, refl)), ((λ given. subst (Contains (tails ∷ heads ∷ [])) (sym given) (0, omega arith, refl)), tt))
          next.outcome one next.given),
      tt,
    )
    next.act (Contains_numbered (flip false ∷ []) number next.act next.numbered) next.one

only_these : (state : List Bool) → Reach (coin false) (selected (flip_rule ∷ [])) state → Contains (tails ∷ heads ∷ []) state
only_these state start = (0, omega arith, refl)
only_these state (onward before number after reached open_ chosen next) =
    at_each (λ s. ¬ IsGoal (coin false) s → IsNext (coin false) s number after → Contains (tails ∷ heads ∷ []) after) (tails ∷ heads ∷ [])
    ((λ open_ next. after_tails number after next), ((λ open_ next. absurd (open_ (is_true-Lit heads 0 true))), tt))
    before (only_these before reached) open_ next

-- the certificate with this rule is correct, and the rule is a solution
coin_right : IsRightPolicy (coin false) [] [] (flip_rule ∷ []) 2
coin_right = record {
  layers_sure = AreSureLayers-none (coin false);
  pairs_sure = λ pair has. absurd (omega (arith, has.1));
  rules_sure = sure;
  ruled = λ state reached open_. refl;
  counted = record {
    states = tails ∷ heads ∷ [];
    once = ((λ has. at_each (λ s. ¬ s ≡ tails) (heads ∷ []) ((λ same. heads_are_not_tails same), tt) tails has refl), ((λ has. omega (arith, has.1)), tt));
    reached = at_each (Reach (coin false) (selected (flip_rule ∷ []))) (tails ∷ heads ∷ []) (start, (heads_reached, tt));
    all = only_these;
    counted = refl;
  };
}
  where
    sure : (number : ℕ) (rule : Rule) → slice_get (flip_rule ∷ []) number ≡ Some rule → IsSureRule (coin false) [] (flip_rule ∷ []) number rule
    sure zero rule is = subst (λ (r : Rule). IsSureRule (coin false) [] (flip_rule ∷ []) 0 r) (same_Some flip_rule rule is) flip_rule_sure
    sure (suc number) rule is = absurd (none-some rule is)

    heads_are_not_tails : ¬ heads ≡ tails
    heads_are_not_tails same = cc

coin_solved : IsSolution (coin false) (selected (flip_rule ∷ []))
coin_solved = ranks_exclude (coin false) [] [] (flip_rule ∷ []) 2 coin_right

-- the cube without heads is no sure layer if the flip is fair
no_heads_not_sure : ¬ IsSureLayer (coin false) [] no_heads
no_heads_not_sure sure =
    let here = sure (Some false ∷ []) (0, omega arith, refl) in
    let forced = here.forced (flip false) (0, omega arith, refl) (λ is. No_is_not_Yes (sym is ∙ value-Truth (Some false ∷ []) true)) in
    ⊎_elim
    (λ out. omega (arith, out.1.1))
    (⊎_elim
    (λ fair.
    let led : LiesInLayer (image (Some false ∷ []) (sets 0 true ∷ [])) no_heads = fair.1 (sets 0 true ∷ []) (0, omega arith, refl) in
    let same : Some false ∷ [] ≡ led.other = ⊎_elim (λ is. is) (λ has. absurd (omega (arith, has.1))) (Contains-cases led.other (Some false ∷ []) [] led.one) in
    let P : CubeView → Type 0 = λ c. literal_at c 0 ≡ Some false in
    let made : literal_at (image (Some false ∷ []) (sets 0 true ∷ [])) 0 ≡ Some true = simp value-Truth in
    false≢true (same_Some false true (sym (led.lies 0 false (subst P same refl)) ∙ made)))
    (λ unfair. false≢true unfair.0))
    forced

-- above a layer that is not sure it would be sure, although the rule is a solution: all layers below must be sure too
sure_above_unsure : IsSureLayer (coin false) (((Some true ∷ []) ∷ []) ∷ []) no_heads
sure_above_unsure = at_each (IsSureCube (coin false) (((Some true ∷ []) ∷ []) ∷ []) no_heads) no_heads (
  record {
    no_goal = value-Lit (Some false ∷ []) 0 true;
    forced = at_each (λ act. (¬ value (Some false ∷ []) act.pre ≡ No) → Forces (((Some true ∷ []) ∷ []) ∷ []) no_heads (Some false ∷ []) act) (flip false ∷ [])
        ((λ may. inl ((Some true ∷ []) ∷ [], (0, omega arith, refl), (sets 0 true ∷ [], (0, omega arith, refl), leads (Some false ∷ []) (Some true ∷ []) (sets 0 true ∷ []) ((Some true ∷ []) ∷ []) (0, omega arith, refl) (simp value-Truth)))), tt);
  },
  tt,
)

-- if the flip is unfair, the cube without heads is a sure layer
no_heads_sure : IsSureLayer (coin true) [] no_heads
no_heads_sure = at_each (IsSureCube (coin true) [] no_heads) no_heads (
  record {
    no_goal = value-Lit (Some false ∷ []) 0 true;
    forced = at_each (λ act. (¬ value (Some false ∷ []) act.pre ≡ No) → Forces [] no_heads (Some false ∷ []) act) (flip true ∷ [])
        ((λ may. inr (inr (refl, ([], (1, omega arith, refl), leads (Some false ∷ []) (Some false ∷ []) [] no_heads (0, omega arith, refl) refl)))), tt);
  },
  tt,
)

-- if the flip is unfair, the state without heads is a trap of the policy that always flips
tails_trap : IsTrap (coin true) (λ state. Some 0) (tails ∷ [])
tails_trap = record {
  some = (tails, (0, omega arith, refl));
  each = at_each (StaysIn (coin true) (λ state. Some 0) (tails ∷ [])) (tails ∷ []) (
    record {
      reached = start;
      open_ = tails_open true;
      choice = 0;
      chosen = refl;
      fair = λ is_fair after next. absurd (is_fair (record { act = flip true; numbered = refl; flagged = refl }));
      unfair = λ is_unfair. (tails, record { act = flip true; numbered = refl; holds = is_true-Truth tails true; outcome = []; one = (1, omega arith, refl); given = refl }, (0, omega arith, refl));
    },
    tt,
  );
}

-- if the flip is unfair, no finite map is a solution
coin_lost : ¬ IsSolvable (coin true)
coin_lost = refusals_exclude (coin true) (no_heads ∷ []) (record {
  layers_sure = AreSureLayers-push (coin true) [] no_heads (AreSureLayers-none (coin true)) no_heads_sure;
  start = record { layer = no_heads; one = (0, omega arith, refl); cube = Some false ∷ []; has = (0, omega arith, refl); lies = (lies_in-Decides tails (Some false ∷ [])).0 refl };
})

-- pit: a fair jump reaches the goal or falls into a pit, from which nothing leads out
abbrev jump : Act
jump = action 0 (Lit 1 false) false ((sets 0 true ∷ []) ∷ (sets 1 true ∷ []) ∷ [])

abbrev pit : Task
pit = record {
  atoms = atom 0 ∷ atom 1 ∷ [];
  acts = jump ∷ [];
  init = false ∷ false ∷ [];
  goal = Lit 0 true;
  labels = lettered;
  few_atoms = omega arith;
  few_acts = omega arith;
  distinct_atoms = refl;
  distinct_acts = refl;
  distinct_predicates = refl;
  distinct_objects = refl;
  distinct_schemas = refl;
  predicate_names = letters_are_names;
  object_names = All-nil IsName;
  schema_names = letters_are_names;
  named_atoms = refl;
  named_acts = refl;
  init_long = refl;
  goal_within = within-Lit 2 0 true;
  acts_within = simp (within-Lit, within-Truth);
}

abbrev in_pit : CubeView
in_pit = Some false ∷ Some true ∷ []

abbrev at_edge : CubeView
at_edge = Some false ∷ Some false ∷ []

in_pit_sure : IsSureLayer pit [] (in_pit ∷ [])
in_pit_sure = at_each (IsSureCube pit [] (in_pit ∷ [])) (in_pit ∷ []) (
  record {
    no_goal = value-Lit in_pit 0 true;
    forced = at_each (λ act. (¬ value in_pit act.pre ≡ No) → Forces [] (in_pit ∷ []) in_pit act) (jump ∷ []) ((λ may. absurd (may (value-Lit in_pit 1 false))), tt);
  },
  tt,
)

at_edge_sure : IsSureLayer pit ((in_pit ∷ []) ∷ []) (at_edge ∷ [])
at_edge_sure = at_each (IsSureCube pit ((in_pit ∷ []) ∷ []) (at_edge ∷ [])) (at_edge ∷ []) (
  record {
    no_goal = value-Lit at_edge 0 true;
    forced = at_each (λ act. (¬ value at_edge act.pre ≡ No) → Forces ((in_pit ∷ []) ∷ []) (at_edge ∷ []) at_edge act) (jump ∷ [])
        ((λ may. inl (in_pit ∷ [], (0, omega arith, refl), (sets 1 true ∷ [], (1, omega arith, refl), leads at_edge in_pit (sets 1 true ∷ []) (in_pit ∷ []) (0, omega arith, refl) (simp value-Truth)))), tt);
  },
  tt,
)

-- both layers are sure, and the certificate with them is correct
pit_refused : IsRightRefusal pit ((in_pit ∷ []) ∷ (at_edge ∷ []) ∷ [])
pit_refused = record {
  layers_sure = AreSureLayers-push pit ((in_pit ∷ []) ∷ []) (at_edge ∷ []) (AreSureLayers-push pit [] (in_pit ∷ []) (AreSureLayers-none pit) in_pit_sure) at_edge_sure;
  start = record { layer = at_edge ∷ []; one = (1, omega arith, refl); cube = at_edge; has = (0, omega arith, refl); lies = (lies_in-Decides (false ∷ false ∷ []) at_edge).0 refl };
}

-- swap: each of two actions trades one atom for the other, and the goal is both
module _ (alloc : Global) where
  abbrev both : Vec Form Global
  both = record { ptr = null_ptr; len = 2; cap = 2; alloc = alloc; items = Lit 0 true ∷ Lit 1 true ∷ []; ok = (refl, omega arith); small = omega arith }

  abbrev left : Act
  left = action 0 (Lit 1 true) false ((sets 0 true ∷ sets 1 false ∷ []) ∷ [])

  abbrev right : Act
  right = action 1 (Lit 0 true) false ((sets 1 true ∷ sets 0 false ∷ []) ∷ [])

  abbrev swap : Task
  swap = record {
    atoms = atom 0 ∷ atom 1 ∷ [];
    acts = left ∷ right ∷ [];
    init = true ∷ false ∷ [];
    goal = And both;
    labels = lettered;
    few_atoms = omega arith;
    few_acts = omega arith;
    distinct_atoms = refl;
    distinct_acts = refl;
    distinct_predicates = refl;
    distinct_objects = refl;
    distinct_schemas = refl;
    predicate_names = letters_are_names;
    object_names = All-nil IsName;
    schema_names = letters_are_names;
    named_atoms = refl;
    named_acts = refl;
    init_long = refl;
    goal_within = simp (within-And, within-Lit);
    acts_within = simp (within-Lit, within-Truth);
  }

  abbrev first : CubeView
  first = Some true ∷ Some false ∷ []

  abbrev second : CubeView
  second = Some false ∷ Some true ∷ []

  abbrev swapped : List CubeView
  swapped = first ∷ second ∷ []

  -- each outcome leads into one cube of the layer, not all into the same
  swapped_sure : IsSureLayer swap [] swapped
  swapped_sure = at_each (IsSureCube swap [] swapped) swapped (
    record {
      no_goal = simp (value-And, value-Lit);
      forced = at_each (λ act. (¬ value first act.pre ≡ No) → Forces [] swapped first act) (left ∷ right ∷ []) (
        λ may. absurd (may (value-Lit first 1 true)),
        ((λ may. inr (inl (refl, at_each (λ outcome. Leads first outcome swapped) right.outcomes (leads first second (sets 1 true ∷ sets 0 false ∷ []) swapped (1, omega arith, refl) (simp value-Truth), tt)))), tt),
      );
    },
    (
      record {
        no_goal = simp (value-And, value-Lit);
        forced = at_each (λ act. (¬ value second act.pre ≡ No) → Forces [] swapped second act) (left ∷ right ∷ []) (
          (λ may. inr (inl (refl, at_each (λ outcome. Leads second outcome swapped) left.outcomes (leads second first (sets 0 true ∷ sets 1 false ∷ []) swapped (0, omega arith, refl) (simp value-Truth), tt)))),
          (λ may. absurd (may (value-Lit second 0 true)), tt),
        );
      },
      tt,
    ),
  )

-- mix: a fair try until ready, an unfair split, and a fair way on from either side
abbrev try : Act
try = action 0 (Truth true) false ((sets 0 true ∷ []) ∷ [] ∷ [])

abbrev split : Act
split = action 1 (Lit 0 true) true ((sets 0 false ∷ sets 1 true ∷ []) ∷ (sets 0 false ∷ sets 2 true ∷ []) ∷ [])

abbrev fix_left : Act
fix_left = action 2 (Lit 1 true) false ((sets 3 true ∷ []) ∷ [] ∷ [])

abbrev fix_right : Act
fix_right = action 3 (Lit 2 true) false ((sets 3 true ∷ []) ∷ [] ∷ [])

abbrev mix : Task
mix = record {
  atoms = atom 0 ∷ atom 1 ∷ atom 2 ∷ atom 3 ∷ [];
  acts = try ∷ split ∷ fix_left ∷ fix_right ∷ [];
  init = false ∷ false ∷ false ∷ false ∷ [];
  goal = Lit 3 true;
  labels = lettered;
  few_atoms = omega arith;
  few_acts = omega arith;
  distinct_atoms = refl;
  distinct_acts = refl;
  distinct_predicates = refl;
  distinct_objects = refl;
  distinct_schemas = refl;
  predicate_names = letters_are_names;
  object_names = All-nil IsName;
  schema_names = letters_are_names;
  named_atoms = refl;
  named_acts = refl;
  init_long = refl;
  goal_within = within-Lit 4 3 true;
  acts_within = simp (within-Lit, within-Truth);
}

abbrev on_left : CubeView
on_left = None ∷ Some true ∷ None ∷ None ∷ []

abbrev on_right : CubeView
on_right = None ∷ None ∷ Some true ∷ None ∷ []

abbrev ready : CubeView
ready = Some true ∷ None ∷ None ∷ None ∷ []

abbrev anywhere : CubeView
anywhere = None ∷ None ∷ None ∷ None ∷ []

abbrev left_rule : Rule
left_rule = record { cond = on_left; act = 2; targets = One 0 Goal }

abbrev right_rule : Rule
right_rule = record { cond = on_right; act = 3; targets = One 0 Goal }

abbrev split_rule : Rule
split_rule = record { cond = ready; act = 1; targets = All (ToRule 0 ∷ ToRule 1 ∷ []) }

abbrev try_rule : Rule
try_rule = record { cond = anywhere; act = 0; targets = One 0 (ToRule 2) }

abbrev mix_rules : List Rule
mix_rules = left_rule ∷ right_rule ∷ split_rule ∷ try_rule ∷ []

left_rule_sure : IsSureRule mix [] mix_rules 0 left_rule
left_rule_sure = record {
  act = fix_left;
  has_act = refl;
  applicable = value-Lit on_left 1 true;
  barred = λ pair has. absurd (omega (arith, has.1));
  met = (refl, tt, (sets 3 true ∷ [], refl, simp (value-Lit, value-Truth)));
}

right_rule_sure : IsSureRule mix [] mix_rules 1 right_rule
right_rule_sure = record {
  act = fix_right;
  has_act = refl;
  applicable = value-Lit on_right 2 true;
  barred = λ pair has. absurd (omega (arith, has.1));
  met = (refl, tt, (sets 3 true ∷ [], refl, simp (value-Lit, value-Truth)));
}

-- the rule of the unfair split has a target for each side that the opponent may choose
split_met : (at : ℕ) (target : Target) (entries : List Entry) → slice_get (ToRule 0 ∷ ToRule 1 ∷ []) at ≡ Some target → slice_get split.outcomes at ≡ Some entries → IsEarlier 2 target × Meets mix mix_rules (image ready entries) target
split_met zero target entries is_target is_entries =
    subst (λ (t : Target). IsEarlier 2 t × Meets mix mix_rules (image ready entries) t) (same_Some _ _ is_target)
    (omega arith, (left_rule, refl, subst (λ (es : List Entry). CubeLiesIn (image ready es) on_left) (same_Some _ _ is_entries) (inside_lies (image ready (sets 0 false ∷ sets 1 true ∷ [])) on_left (simp value-Truth))))
split_met (suc zero) target entries is_target is_entries =
    subst (λ (t : Target). IsEarlier 2 t × Meets mix mix_rules (image ready entries) t) (same_Some _ _ is_target)
    (omega arith, (right_rule, refl, subst (λ (es : List Entry). CubeLiesIn (image ready es) on_right) (same_Some _ _ is_entries) (inside_lies (image ready (sets 0 false ∷ sets 2 true ∷ [])) on_right (simp value-Truth))))
split_met (suc (suc at)) target entries is_target is_entries = absurd (none-some target is_target)

split_rule_sure : IsSureRule mix [] mix_rules 2 split_rule
split_rule_sure = record {
  act = split;
  has_act = refl;
  applicable = value-Lit ready 0 true;
  barred = λ pair has. absurd (omega (arith, has.1));
  met = (refl, refl, split_met);
}

try_rule_sure : IsSureRule mix [] mix_rules 3 try_rule
try_rule_sure = record {
  act = try;
  has_act = refl;
  applicable = value-Truth anywhere true;
  barred = λ pair has. absurd (omega (arith, has.1));
  met = (refl, omega arith, (sets 0 true ∷ [], refl, (split_rule, refl, inside_lies (image anywhere (sets 0 true ∷ [])) ready (simp value-Truth))));
}

-- detour: a jump as in pit, and a walk around the pit
abbrev walk : Act
walk = action 1 (Lit 1 false) false ((sets 2 true ∷ []) ∷ [] ∷ [])

abbrev enter : Act
enter = action 2 (Lit 2 true) false ((sets 0 true ∷ []) ∷ [])

abbrev detour : Task
detour = record {
  atoms = atom 0 ∷ atom 1 ∷ atom 2 ∷ [];
  acts = jump ∷ walk ∷ enter ∷ [];
  init = false ∷ false ∷ false ∷ [];
  goal = Lit 0 true;
  labels = lettered;
  few_atoms = omega arith;
  few_acts = omega arith;
  distinct_atoms = refl;
  distinct_acts = refl;
  distinct_predicates = refl;
  distinct_objects = refl;
  distinct_schemas = refl;
  predicate_names = letters_are_names;
  object_names = All-nil IsName;
  schema_names = letters_are_names;
  named_atoms = refl;
  named_acts = refl;
  init_long = refl;
  goal_within = within-Lit 3 0 true;
  acts_within = simp (within-Lit, within-Truth);
}

abbrev fallen : CubeView
fallen = Some false ∷ Some true ∷ Some false ∷ []

fallen_sure : IsSureLayer detour [] (fallen ∷ [])
fallen_sure = at_each (IsSureCube detour [] (fallen ∷ [])) (fallen ∷ []) (
  record {
    no_goal = value-Lit fallen 0 true;
    forced = at_each (λ act. (¬ value fallen act.pre ≡ No) → Forces [] (fallen ∷ []) fallen act) (jump ∷ walk ∷ enter ∷ [])
        (λ may. absurd (may (value-Lit fallen 1 false)), (λ may. absurd (may (value-Lit fallen 1 false)), (λ may. absurd (may (value-Lit fallen 2 true)), tt)));
  },
  tt,
)

abbrev no_jump : Pair
no_jump = record { cond = Some false ∷ None ∷ Some false ∷ []; act = 0; outcome = 1; layer = 0; cube = 0 }

no_jump_sure : IsSurePair detour ((fallen ∷ []) ∷ []) no_jump
no_jump_sure = record {
  layer = fallen ∷ [];
  has_layer = refl;
  target = fallen;
  has_target = refl;
  act = jump;
  has_act = refl;
  outcome = sets 1 true ∷ [];
  has_outcome = refl;
  leads = inside_lies (image no_jump.cond (sets 1 true ∷ [])) fallen (simp value-Truth);
}

abbrev enter_rule : Rule
enter_rule = record { cond = None ∷ None ∷ Some true ∷ []; act = 2; targets = One 0 Goal }

abbrev walk_rule : Rule
walk_rule = record { cond = None ∷ Some false ∷ None ∷ []; act = 1; targets = One 0 (ToRule 0) }

abbrev not_jumped : ℕ → CubeView → Pair → Type 0
not_jumped act cond pair = pair.act ≡ act → Contradicts cond pair.cond

enter_rule_sure : IsSureRule detour (no_jump ∷ []) (enter_rule ∷ walk_rule ∷ []) 0 enter_rule
enter_rule_sure = record {
  act = enter;
  has_act = refl;
  applicable = value-Lit enter_rule.cond 2 true;
  barred = at_each (not_jumped 2 enter_rule.cond) (no_jump ∷ []) ((λ same. absurd (omega (arith, same))), tt);
  met = (refl, tt, (sets 0 true ∷ [], refl, simp (value-Lit, value-Truth)));
}

walk_rule_sure : IsSureRule detour (no_jump ∷ []) (enter_rule ∷ walk_rule ∷ []) 1 walk_rule
walk_rule_sure = record {
  act = walk;
  has_act = refl;
  applicable = value-Lit walk_rule.cond 1 false;
  barred = at_each (not_jumped 1 walk_rule.cond) (no_jump ∷ []) ((λ same. absurd (omega (arith, same))), tt);
  met = (refl, omega arith, (sets 2 true ∷ [], refl, (enter_rule, refl, inside_lies (image walk_rule.cond (sets 2 true ∷ [])) enter_rule.cond (simp value-Truth))));
}

-- a forbidden pair bars the jump at the edge, and a rule without literals for the jump is not sure
abbrev jump_rule : Rule
jump_rule = record { cond = None ∷ Some false ∷ None ∷ []; act = 0; targets = One 0 Goal }

jump_rule_not_sure : ¬ IsSureRule detour (no_jump ∷ []) (jump_rule ∷ []) 0 jump_rule
jump_rule_not_sure sure =
    let against = sure.barred no_jump (0, omega arith, refl) refl in
    nowhere against.0 against.1 against.2 against.3
  where
    nowhere : (atom : ℕ) (sign : Bool) → literal_at jump_rule.cond atom ≡ Some sign → ¬ literal_at no_jump.cond atom ≡ Some (not sign)
    nowhere zero sign is other = none-some sign is
    nowhere (suc zero) sign is other = none-some (not sign) other
    nowhere (suc (suc zero)) sign is other = none-some sign is
    nowhere (suc (suc (suc atom))) sign is other = none-some sign is
