use Rattle.std.proofs.Common.{◌≡◌, ◌∙◌, ℕ, ◌<◌, List, Bool, false, Option, Some, None, length, map, refl, sym, ap, subst, arith}
use Rattle.std.specs.Prelude.{IsTrue}
use Rattle.std.proofs.lemmas.Bool.{false≢true}
use Rattle.std.proofs.lemmas.Grind.{common_steps}
use Rattle.std.proofs.lemmas.List.{length-map, get_or-map}
use Rattle.fond_state.specs.Cubes.{LiesIn, CubeLiesIn, full_cube}
use Rattle.fond_task.specs.Within.{is_form_within}
use Rattle.fond_rules.proofs.Literals.{literal_within}
use Rattle.fond_regress.proofs.Cubes.{lies_by_full}
use Rattle.fond_regress.proofs.Hopeless.{IsLeast}
use Rattle.fond_regress.proofs.Hopeless.{not_hopeless}
use Rattle.fond_regress.proofs.estimate.estimate.Goals as goal

-- the full cube of a state lies in each cube in which the state lies
full_in : (state : List Bool) (around : List (Option Bool)) → length around ≡ length state → LiesIn state around → CubeLiesIn (full_cube state) around
full_in state around long lies atom sign is =
    let within = literal_within around atom sign is in
    let small : atom < length state = omega (arith, within, long) in
    get_or-map (λ value. Some value) state atom false None small ∙ ap (λ b. Some b) (lies atom sign is)

pub settle-requires-clause-over : goal.settle-requires-clause-over
settle-requires-clause-over c = ap length c.in_ok-cube.ensures ∙ length-map c.args.s.now (λ value. Some value) ∙ c.requires

pub returns-then-is_no : goal.returns-then-is_no
returns-then-is_no c =
    let P : List (Option Bool) → Type 0 = λ cube. CubeLiesIn cube c.settle.new.cube in
    record {
      over = c.settle.ensures.same_length ∙ ap length c.in_ok-cube.ensures ∙ length-map c.args.s.now (λ value. Some value) ∙ c.requires;
      stable = c.settle.ensures.stable;
      lies = lies_by_full c.args.s.now c.settle.new.cube (subst P c.in_ok-cube.ensures c.settle.ensures.weaker);
      no_goal = c.if-is_no.ensures.0 refl;
    }

pub returns : goal.returns
returns c =
    let state = c.args.s.now in
    let least : IsLeast c.args.t.now state c.settle.new.cube = λ around long stable lies.
    let P : List (Option Bool) → Type 0 = λ cube. CubeLiesIn cube around in
    c.settle.ensures.around around long stable (subst P (sym c.in_ok-cube.ensures) (full_in state around (long ∙ sym c.requires) lies)) in
    not_hopeless c.args.t.now state c.settle.new.cube least (λ no. false≢true (c.if-is_no.ensures.1 no))

pub settle-requires-clause-long : goal.settle-requires-clause-long
settle-requires-clause-long c = grind (arith, common_steps)

pub is_no-requires : goal.is_no-requires
is_no-requires c =
    let task = c.args.t.now in
    let Within : ℕ → Type 0 = λ atoms. IsTrue (is_form_within atoms task.goal) in
    subst Within (sym (c.settle.ensures.same_length ∙ ap length c.in_ok-cube.ensures ∙ length-map c.args.s.now (λ value. Some value) ∙ c.requires)) task.goal_within
