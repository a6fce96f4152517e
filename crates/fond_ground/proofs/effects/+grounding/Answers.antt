use Rattle.std.proofs.Common.{◌≡◌, ◌∙◌, ◌++◌, ◌+◌, ◌∷◌, not, ℕ, Bool, [], List, true, length, map, take, drop, sym, ap, subst, arith}
use Rattle.std.specs.Prelude.{◌==◌, is_some}
use Rattle.std.specs.List.{list_all, flat_map}
use Rattle.std.proofs.lemmas.Grind.{common_steps}
use Rattle.std.proofs.lemmas.List.{append-nil, length-map}
use Rattle.fond_text.specs.Lists.{concatenations}
use Rattle.fond_ast.specs.Ranges.{objects_of}
use Rattle.fond_ast.specs.declared.form.LEffect.{LEffect}
use Rattle.fond_ast.specs.Conditions.{ground_atom, tuples}
use Rattle.fond_ast.specs.Outcomes.{Literal, outcomes}
use Rattle.fond_ast.proofs.Bools.{and-parts}
use Rattle.fond_oneof.specs.declared.effect.GroundEffect as made
use Rattle.fond_oneof.specs.declared.effect.GroundEffect.{GroundEffect}
use Rattle.fond_ground.specs.Atoms.{atom_number}
use Rattle.fond_ground.specs.Effects.{is_numbered, numbered_by, HasOutcomes, HaveOutcomes}
use Rattle.std.proofs.Math.Seq.{take-append_seam}
use Rattle.std.proofs.lemmas.Result.{IfOk-weaker}
use Rattle.fond_ground.proofs.Signs.{drop_here}
use Rattle.fond_ground.proofs.Zips.{zip_more}
use Rattle.fond_ground.proofs.Empties.{all_empty}
use Rattle.fond_ground.proofs.Grounded.{numbered-Add, numbered-Delete, numbered-OneOf, outcomes-And, outcomes-OneOf, outcomes-Forall, outcomes-When, has-And, has-OneOf}
use Rattle.fond_ground.proofs.effects.+grounding.Goals as goal

pub ground_effect-ground_literal-requires : goal.ground_effect-ground_literal-requires
ground_effect-ground_literal-requires t c =
    let task = c.args.table.now.facts.task.now in
    let env = c.args.env.now.items in
    ap (λ objects. is_some (atom_number task (ground_atom objects c.in-Add.atom))) c.deref.ensures.value ∙ sym (numbered-Add task env c.in-Add.atom) ∙ ap (is_numbered task env) (sym c.in-Add.is) ∙ c.requires.numbered

pub ground_effect-ground_literal-requires-in-Delete : goal.ground_effect-ground_literal-requires-in-Delete
ground_effect-ground_literal-requires-in-Delete t c =
    let task = c.args.table.now.facts.task.now in
    let env = c.args.env.now.items in
    ap (λ objects. is_some (atom_number task (ground_atom objects c.in-Delete.atom))) c.deref-in-Delete.ensures.value
    ∙ sym (numbered-Delete task env c.in-Delete.atom) ∙ ap (is_numbered task env) (sym c.in-Delete.is) ∙ c.requires.numbered

pub ground_effect-returns-in_ok-parts-in-And-clause-effect : goal.ground_effect-returns-in_ok-parts-in-And-clause-effect
ground_effect-returns-in_ok-parts-in-And-clause-effect t c =
    let task = c.args.table.now.facts.task.now in
    let env = c.args.env.now.items in
    let parts = c.in_ok-parts-in-And.parts in
    let lists = map (outcomes env) c.deref-in-And.result.now in
    subst (λ (some : List (List Literal)). HasOutcomes task some (made.And parts))
    (ap (λ members. concatenations (map (outcomes env) members)) c.deref-in-And.ensures.value ∙ sym (ap (outcomes env) c.in-And.is ∙ outcomes-And env c.in-And.members))
    (has-And task lists parts c.in_ok-parts-in-And.ensures.effects)

pub ground_effect-returns-in_ok-parts-in-OneOf-clause-effect : goal.ground_effect-returns-in_ok-parts-in-OneOf-clause-effect
ground_effect-returns-in_ok-parts-in-OneOf-clause-effect t c =
    let task = c.args.table.now.facts.task.now in
    let env = c.args.env.now.items in
    let parts = c.in_ok-parts-in-OneOf.parts in
    let members = c.deref-in-OneOf.result.now in
    let lists = map (outcomes env) members in
    let whole = sym (numbered-OneOf task env c.in-OneOf.members) ∙ ap (is_numbered task env) (sym c.in-OneOf.is) ∙ c.requires.numbered in
    let some : not (length lists == 0) ≡ true =
    ap (λ n. not (n == 0)) (length-map members (outcomes env) ∙ ap length c.deref-in-OneOf.ensures.value)
    ∙ (and-parts (not (length c.in-OneOf.members.items == 0)) (list_all (is_numbered task env) c.in-OneOf.members.items) whole).0 in
    subst (λ (some : List (List Literal)). HasOutcomes task some (made.OneOf parts))
    (ap (λ some. flat_map (λ part. part) (map (outcomes env) some)) c.deref-in-OneOf.ensures.value ∙ sym (ap (outcomes env) c.in-OneOf.is ∙ outcomes-OneOf env c.in-OneOf.members))
    (has-OneOf task lists parts some c.in_ok-parts-in-OneOf.ensures.effects)

pub ground_effect-returns-then-is_empty-clause-effect : goal.ground_effect-returns-then-is_empty-clause-effect
ground_effect-returns-then-is_empty-clause-effect t c =
    let task = c.args.table.now.facts.task.now in
    let env = c.args.env.now.items in
    let parts = c.new-then-is_empty.result in
    let whole : outcomes env c.args.effect.now ≡ [] ∷ [] =
    ap (outcomes env) c.in-Forall.is ∙ outcomes-Forall env c.in-Forall.ranges c.in-Forall.part
    ∙ all_empty (λ objects. outcomes (env ++ objects) c.in-Forall.part.value) (λ objects. ap (outcomes (env ++ objects)) (sym c.deref-in-Forall.ensures) ∙ c.is_empty.ensures c.if-is_empty.true (env ++ objects)) (tuples (objects_of c.in-Forall.ranges)) in
    subst (λ (some : List (List Literal)). HasOutcomes task some (made.And parts)) (sym whole)
    (has-And task [] parts (subst (λ (some : List GroundEffect). HaveOutcomes task [] some) (sym c.new-then-is_empty.ensures.items) tt))

pub ground_effect-returns-in_ok-parts-in-Forall-clause-effect : goal.ground_effect-returns-in_ok-parts-in-Forall-clause-effect
ground_effect-returns-in_ok-parts-in-Forall-clause-effect t c =
    let task = c.args.table.now.facts.task.now in
    let env = c.args.env.now.items in
    let parts = c.in_ok-parts-in-Forall.parts in
    let lists = map (λ objects. outcomes (env ++ objects) c.deref-in-Forall-2.result.now) (tuples (objects_of c.as_slice.result.now)) in
    subst (λ (some : List (List Literal)). HasOutcomes task some (made.And parts))
    ((λ i. concatenations (map (λ objects. outcomes (env ++ objects) (c.deref-in-Forall-2.ensures i)) (tuples (objects_of (c.as_slice.ensures i)))))
    ∙ sym (ap (outcomes env) c.in-Forall.is ∙ outcomes-Forall env c.in-Forall.ranges c.in-Forall.part))
    (has-And task lists parts c.in_ok-parts-in-Forall.ensures.effects)

pub ground_effect-returns-in_ok-effect-in-When-clause-effect : goal.ground_effect-returns-in_ok-effect-in-When-clause-effect
ground_effect-returns-in_ok-effect-in-When-clause-effect t c =
    let task = c.args.table.now.facts.task.now in
    let env = c.args.env.now.items in
    let condition = c.in-When.condition in
    let form = c.in_ok-form-in-When.form in
    let effect = c.in_ok-effect-in-When.effect in
    let lists = outcomes env c.in-When.part.value in
    let same : outcomes c.form_of.new.env.items c.deref-in-When.result.now ≡ lists = λ i. outcomes (c.in_ok-form-in-When.ensures.env i) (c.deref-in-When.ensures i) in
    let whole = sym (ap (outcomes env) c.in-When.is ∙ outcomes-When env condition c.in-When.part) in
    IfOk-weaker c.conditional.result _ (HasOutcomes task (outcomes env c.args.effect.now))
    (λ under all. subst (λ (some : List (List Literal)). HasOutcomes task some under) whole
    (all task env condition lists c.in_ok-form-in-When.ensures.value c.in_ok-form-in-When.ensures.within (subst (λ (some : List (List Literal)). HasOutcomes task some effect) same c.in_ok-effect-in-When.ensures.effect)))
    c.conditional.ensures

pub ground_instances-returns-clause-effects : goal.ground_instances-returns-clause-effects
ground_instances-returns-clause-effects t c =
    let task = c.args.table.now.facts.task.now in
    let f : List ℕ → List (List Literal) = λ objects. outcomes (c.args.env.now.items ++ objects) c.args.part.now in
    let none : c.loop-alloc.tuples ≡ [] = c.loop-alloc-test.ensures.done (λ i. true) in
    subst (HaveOutcomes task (map f (tuples (objects_of c.args.ranges.now)))) (append-nil c.loop-alloc.effects.items)
    (c.loop-alloc.invariant.effects [] (subst (λ (left : List (List ℕ)). HaveOutcomes task (map f left) []) (sym none) tt))

pub ground_members-returns-clause-effects : goal.ground_members-returns-clause-effects
ground_members-returns-clause-effects t c =
    let task = c.args.table.now.facts.task.now in
    let f : LEffect → List (List Literal) = outcomes c.args.env.now.items in
    let none : drop c.loop-member.member-index c.args.members.now ≡ [] = grind (arith, common_steps) in
    subst (HaveOutcomes task (map f c.args.members.now)) (append-nil c.loop-member.effects.items)
    (c.loop-member.invariant.effects [] (subst (λ (left : List LEffect). HaveOutcomes task (map f left) []) (sym none) tt))

pub ground_members-loop-member-init : goal.ground_members-loop-member-init
ground_members-loop-member-init t c =
    let task = c.args.table.now.facts.task.now in
    let f : LEffect → List (List Literal) = outcomes c.args.env.now.items in
    record {
      env = λ i. c.args.env.now.items;
      numbered = c.requires.numbered;
      effects = λ rest more. subst (HaveOutcomes task (map f c.args.members.now)) (ap (λ (all : List GroundEffect). all ++ rest) (sym c.in_ok-effects.ensures.items)) more;
    }

pub ground_members-loop-member-preserved : goal.ground_members-loop-member-preserved
ground_members-loop-member-preserved t c =
    let task = c.args.table.now.facts.task.now in
    let env = c.args.env.now.items in
    let f : LEffect → List (List Literal) = outcomes env in
    let before = c.loop-member.invariant in
    let members = c.args.members.now in
    let i = c.loop-member.member-index in
    let member = c.member-item.result in
    let effect = c.in_ok-ground_effect.field-0 in
    let are_numbered : List LEffect → Bool = λ items. list_all (λ (numbered : List ℕ → Bool). numbered env) (map (numbered_by task) items) in
    let split = drop_here members i member c.loop-member-test.true c.member-item.is in
    let one = subst (λ (around : List ℕ). HasOutcomes task (outcomes around member) effect) before.env c.in_ok-ground_effect.ensures.effect in
    record {
      env = c.in_ok-ground_effect.ensures.env ∙ before.env;
      numbered = (and-parts (is_numbered task env member) (are_numbered (drop (i + 1) members)) (ap are_numbered (sym split) ∙ before.numbered)).1;
      effects = zip_more (HasOutcomes task) f members (drop i members) member (drop (i + 1) members) c.loop-member.effects.items c.push.new.self.items effect split c.in_ok-push.ensures.items one before.effects;
    }

pub ground_instances-loop-alloc-init : goal.ground_instances-loop-alloc-init
ground_instances-loop-alloc-init t c =
    let task = c.args.table.now.facts.task.now in
    let env = c.args.env.now.items in
    let f : List ℕ → List (List Literal) = λ objects. outcomes (env ++ objects) c.args.part.now in
    let all = tuples (objects_of c.args.ranges.now) in
    record {
      around = (let ok = c.args.env.now.ok.0 in let len = c.len-around.ensures in omega (arith, ok, len));
      env = λ i. env;
      numbered = ap (list_all (λ objects. is_numbered task (env ++ objects) c.args.part.now)) c.in_ok-tuples.ensures ∙ c.requires.numbered;
      effects = λ rest more.
          subst (HaveOutcomes task (map f all)) (ap (λ (effects : List GroundEffect). effects ++ rest) (sym c.new-effects.ensures.items))
          (subst (λ (left : List (List ℕ)). HaveOutcomes task (map f left) rest) c.in_ok-tuples.ensures more);
    }

pub ground_instances-loop-alloc-preserved : goal.ground_instances-loop-alloc-preserved
ground_instances-loop-alloc-preserved t c =
    let task = c.args.table.now.facts.task.now in
    let env = c.args.env.now.items in
    let part = c.args.part.now in
    let f : List ℕ → List (List Literal) = λ objects. outcomes (env ++ objects) part in
    let before = c.loop-alloc.invariant in
    let taken = c.in_ok-put_next.ensures in
    let effect = c.in_ok-ground_effect.field-0 in
    let back : c.truncate.new.self.items ≡ env =
    c.truncate.ensures.items ∙ ap (take c.len-around.result) (c.in_ok-ground_effect.ensures.env ∙ taken.put)
    ∙ ap (λ n. take n (c.loop-alloc.env.items ++ taken.objects)) before.around ∙ take-append_seam c.loop-alloc.env.items taken.objects ∙ before.env in
    let one = subst (λ (around : List ℕ). HasOutcomes task (outcomes around part) effect) (taken.put ∙ ap (λ around. around ++ taken.objects) before.env) c.in_ok-ground_effect.ensures.effect in
    let are_numbered = list_all (λ objects. is_numbered task (env ++ objects) part) in
    record {
      around = before.around ∙ ap length before.env ∙ ap length (sym back);
      env = back;
      numbered = (and-parts (is_numbered task (env ++ taken.objects) part) (are_numbered c.put_next.new.self) (ap are_numbered (sym taken.split) ∙ before.numbered)).1;
      effects = zip_more (HasOutcomes task) f (tuples (objects_of c.args.ranges.now)) c.loop-alloc.tuples taken.objects c.put_next.new.self c.loop-alloc.effects.items c.push.new.self.items effect taken.split c.in_ok-push.ensures.items one before.effects;
    }
