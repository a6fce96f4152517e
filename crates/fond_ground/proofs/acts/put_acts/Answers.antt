use Rattle.std.proofs.Common.{◌≡◌, ◌∙◌, ◌+◌, ◌-◌, ◌∷◌, ◌++◌, [], ℕ, List, Some, length, drop, slice_get, refl, sym, ap, subst, arith}
use Rattle.std.specs.List.{AllZip}
use Rattle.std.proofs.lemmas.Grind.{common_steps}
use Rattle.std.proofs.lemmas.List.{append_assoc, append-nil}
use Rattle.fond_ast.specs.declared.task.LSchema.{LSchema}
use Rattle.fond_task.specs.declared.task.Act.{Act}
use Rattle.fond_task.specs.Within.{is_act_within}
use Rattle.fond_ground.specs.Atoms.{fluent_atoms}
use Rattle.fond_ground.specs.Effects.{is_numbered}
use Rattle.fond_ground.specs.Grounds.{IsActOf}
use Rattle.fond_ground.specs.Limits.{has_few}
use Rattle.fond_ground.specs.Shares.{IsGroundBy}
use Rattle.fond_ground.proofs.Actions.{all_rest, all_pushed, last_pushed}
use Rattle.fond_ground.proofs.Kept.{actions_of}
use Rattle.fond_ground.proofs.Signs.{drop_here}
use Rattle.fond_ground.proofs.acts.put_acts.Goals as goal

pub loop-objects-init : goal.loop-objects-init
loop-objects-init c = record { numbered = c.requires.numbered; few = c.requires.few; last = λ act more there. absurd (let count = c.len-before.ensures in omega (arith, more, count)); within = λ h. h; acts = λ rest r. (rest, refl, r) }

pub loop-objects-preserved : goal.loop-objects-preserved
loop-objects-preserved c =
    let task = c.args.table.now.facts.task.now in
    let lists = c.args.lists.now in
    let i = c.loop-objects.objects-index in
    let objects = c.objects-item.result in
    let act = c.in_ok-act.act in
    let schema_is = c.in_ok-parameters.ensures in
    let split : drop i lists ≡ objects ∷ drop (i + 1) lists =
    subst (λ (list : List (List ℕ)). drop i list ≡ objects ∷ drop (i + 1) list) c.as_slice-objects-items.ensures (drop_here c.as_slice-objects-items.result.now i objects c.loop-objects-test.true c.objects-item.is) in
    let before = c.loop-objects.invariant in
    record {
      numbered = all_rest (λ some. is_numbered task some c.args.schema.now.effect) (drop i lists) objects (drop (i + 1) lists) split before.numbered;
      few = all_rest (has_few c.args.schema.now.effect) (drop i lists) objects (drop (i + 1) lists) split before.few;
      last = λ other more there.
          let pushed : slice_get (c.loop-objects.acts ++ act ∷ []) (length (c.loop-objects.acts ++ act ∷ []) - 1) ≡ Some other = ap (λ (acts : List Act). slice_get acts (length acts - 1)) (sym c.in_ok-push.ensures.ok) ∙ there in
          subst (IsGroundBy task c.args.schema.now) (last_pushed c.loop-objects.acts act other pushed) (subst (λ (schema : LSchema). IsGroundBy task schema act) schema_is c.in_ok-act.ensures.ground);
      within = λ h. all_pushed (is_act_within (length (fluent_atoms task))) c.loop-objects.acts c.push.new.self act c.in_ok-push.ensures.ok c.in_ok-act.ensures.ground.within (before.within h);
      acts = λ rest r.
          let whole = before.acts (act ∷ rest) (subst (λ (left : List (List ℕ)). AllZip (IsActOf task) (actions_of c.args.number left) (act ∷ rest)) (sym split) (c.in_ok-act.ensures.act, r)) in
          (whole.0, ap (λ list. list ++ rest) c.in_ok-push.ensures.ok ∙ append_assoc c.loop-objects.acts (act ∷ []) rest ∙ whole.1, whole.2);
    }

pub returns-clause-acts : goal.returns-clause-acts
returns-clause-acts c =
    let task = c.args.table.now.facts.task.now in
    let i = c.loop-objects.objects-index in
    let read : drop i c.as_slice-objects-items.result.now ≡ [] = grind (arith, common_steps) in
    let none : drop i c.args.lists.now ≡ [] = subst (λ (list : List (List ℕ)). drop i list ≡ []) c.as_slice-objects-items.ensures read in
    let whole = c.loop-objects.invariant.acts [] (subst (λ (left : List (List ℕ)). AllZip (IsActOf task) (actions_of c.args.number left) []) (sym none) tt) in
    (whole.0, sym (append-nil c.loop-objects.acts) ∙ whole.1, whole.2)
