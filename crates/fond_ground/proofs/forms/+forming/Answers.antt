use Rattle.std.proofs.Common.{◌≡◌, ◌∙◌, ◌++◌, ◌+◌, ℕ, [], List, true, not, length, map, take, drop, sym, ap, subst, arith}
use Rattle.std.specs.List.{fold}
use Rattle.std.proofs.lemmas.Grind.{common_steps}
use Rattle.std.proofs.lemmas.List.{length-map}
use Rattle.std.proofs.Math.Seq.{take-append_seam}
use Rattle.fond_ast.specs.Ranges.{objects_of}
use Rattle.fond_join.specs.Values.{condition_value}
use Rattle.fond_ast.specs.Conditions.{ground_atom, tuples}
use Rattle.fond_task.specs.declared.form.Kleene.{Kleene}
use Rattle.fond_task.specs.Junctions.{joined, joined_all, neutral}
use Rattle.fond_task.specs.Values.{value}
use Rattle.fond_ground.specs.Atoms.{fluent_atoms}
use Rattle.fond_ground.specs.Signs.{junction_value, signed}
use Rattle.fond_ground.specs.Values.{atom_value}
use Rattle.fond_ground.proofs.Signs.{same_form, signed_at, at-Holds, signed-And, signed-Or, signed-Not, signed-Imply, signed-Forall, signed-Exists, next_joined, drop_here, decided_whole}
use Rattle.fond_ground.proofs.Alike.{AreLong, tuples_long, first_decides}
use Rattle.fond_ground.proofs.forms.+forming.Goals as goal

pub signed_form-returns-in-Holds-clause-value : goal.signed_form-returns-in-Holds-clause-value
signed_form-returns-in-Holds-clause-value t c =
    same_form c.literal_form.result _ _ (λ cube.
    let known = atom_value c.args.table.now.facts.task.now cube in
    ap (λ env. signed c.args.sign (known (ground_atom env c.in-Holds.atom))) c.deref.ensures.value
    ∙ ap (signed c.args.sign) (sym (at-Holds known c.args.env.now.items c.in-Holds.atom) ∙ ap (condition_value known c.args.env.now.items) (sym c.in-Holds.is)))
    c.literal_form.ensures.value

pub signed_form-returns-in-And-clause-value : goal.signed_form-returns-in-And-clause-value
signed_form-returns-in-And-clause-value t c =
    same_form c.members_form.result _ _ (λ cube.
    let known = atom_value c.args.table.now.facts.task.now cube in
    let f = signed_at known c.args.env.now.items c.args.sign in
    (λ i. joined_all (c.signed_junction-junction.ensures i) (map f (c.deref-in-And.ensures.value i)))
    ∙ signed-And known c.args.env.now.items c.args.sign c.in-And.members ∙ ap f (sym c.in-And.is))
    c.members_form.ensures.value

pub signed_form-returns-in-Or-clause-value : goal.signed_form-returns-in-Or-clause-value
signed_form-returns-in-Or-clause-value t c =
    same_form c.members_form-in-Or.result _ _ (λ cube.
    let known = atom_value c.args.table.now.facts.task.now cube in
    let f = signed_at known c.args.env.now.items c.args.sign in
    (λ i. joined_all (c.signed_junction-junction-in-Or.ensures i) (map f (c.deref-in-Or.ensures.value i)))
    ∙ signed-Or known c.args.env.now.items c.args.sign c.in-Or.members ∙ ap f (sym c.in-Or.is))
    c.members_form-in-Or.ensures.value

pub signed_form-returns-in-Not-clause-value : goal.signed_form-returns-in-Not-clause-value
signed_form-returns-in-Not-clause-value t c =
    same_form c.signed_form.result _ _ (λ cube.
    let known = atom_value c.args.table.now.facts.task.now cube in
    ap (λ part. signed (not c.args.sign) (condition_value known c.args.env.now.items part)) c.deref-in-Not.ensures
    ∙ signed-Not known c.args.env.now.items c.args.sign c.in-Not.part ∙ ap (signed_at known c.args.env.now.items c.args.sign) (sym c.in-Not.is))
    c.signed_form.ensures.value

pub signed_form-returns-in_ok-second-in-Imply-clause-within : goal.signed_form-returns-in_ok-second-in-Imply-clause-within
signed_form-returns-in_ok-second-in-Imply-clause-within t c =
    c.junction_of.ensures.within (length (fluent_atoms c.args.table.now.facts.task.now)) c.in_ok-first-in-Imply.ensures.within c.in_ok-second-in-Imply.ensures.within

pub signed_form-returns-in_ok-second-in-Imply-clause-value : goal.signed_form-returns-in_ok-second-in-Imply-clause-value
signed_form-returns-in_ok-second-in-Imply-clause-value t c =
    same_form c.junction_of.result _ _ (λ cube.
    let known = atom_value c.args.table.now.facts.task.now cube in
    let env = c.args.env.now.items in
    let one : value cube c.in_ok-first-in-Imply.first ≡ signed (not c.args.sign) (condition_value known env c.in-Imply.part.value) =
    c.in_ok-first-in-Imply.ensures.value cube ∙ ap (λ part. signed (not c.args.sign) (condition_value known env part)) c.deref-in-Imply.ensures in
    let two : value cube c.in_ok-second-in-Imply.second ≡ signed c.args.sign (condition_value known env c.in-Imply.other.value) =
    c.in_ok-second-in-Imply.ensures.value cube ∙ (λ i. signed c.args.sign (condition_value known (c.in_ok-first-in-Imply.ensures.env i) (c.deref-in-Imply-2.ensures i))) in
    (λ i. let j = c.signed_junction.ensures i in joined j (joined j (neutral j) (one i)) (two i))
    ∙ signed-Imply known env c.args.sign c.in-Imply.part c.in-Imply.other ∙ ap (signed_at known env c.args.sign) (sym c.in-Imply.is))
    c.junction_of.ensures.value

pub signed_form-returns-in-Forall-clause-value : goal.signed_form-returns-in-Forall-clause-value
signed_form-returns-in-Forall-clause-value t c =
    same_form c.instances_form.result _ _ (λ cube.
    let known = atom_value c.args.table.now.facts.task.now cube in
    let env = c.args.env.now.items in
    (λ i. joined_all (c.signed_junction-junction-in-Forall.ensures i) (map (λ objects. signed c.args.sign (condition_value known (env ++ objects) (c.deref-in-Forall.ensures i))) (tuples (objects_of (c.as_slice.ensures i)))))
    ∙ signed-Forall known env c.args.sign c.in-Forall.ranges c.in-Forall.part ∙ ap (signed_at known env c.args.sign) (sym c.in-Forall.is))
    c.instances_form.ensures.value

pub signed_form-returns-in-Exists-clause-value : goal.signed_form-returns-in-Exists-clause-value
signed_form-returns-in-Exists-clause-value t c =
    same_form c.instances_form-in-Exists.result _ _ (λ cube.
    let known = atom_value c.args.table.now.facts.task.now cube in
    let env = c.args.env.now.items in
    (λ i. joined_all (c.signed_junction-junction-in-Exists.ensures i)
    (map (λ objects. signed c.args.sign (condition_value known (env ++ objects) (c.deref-in-Exists.ensures i))) (tuples (objects_of (c.as_slice-in-Exists.ensures i)))))
    ∙ signed-Exists known env c.args.sign c.in-Exists.ranges c.in-Exists.part ∙ ap (signed_at known env c.args.sign) (sym c.in-Exists.is))
    c.instances_form-in-Exists.ensures.value

pub members_form-loop-member-init : goal.members_form-loop-member-init
members_form-loop-member-init t c = record {
  env = λ i. c.args.env.now.items;
  kind = c.new-whole.ensures.kind;
  within = c.new-whole.ensures.within (length (fluent_atoms c.args.table.now.facts.task.now));
  value = λ cube.
      let f = signed_at (atom_value c.args.table.now.facts.task.now cube) c.args.env.now.items c.args.sign in
      ap (λ v. fold (joined c.args.junction) v (map f c.args.members.now)) (c.new-whole.ensures.value cube);
}

pub members_form-returns-then-is_decided-clause-within : goal.members_form-returns-then-is_decided-clause-within
members_form-returns-then-is_decided-clause-within t c = c.form.ensures.within (length (fluent_atoms c.args.table.now.facts.task.now)) c.loop-member.invariant.within

pub members_form-returns-then-is_decided-clause-value : goal.members_form-returns-then-is_decided-clause-value
members_form-returns-then-is_decided-clause-value t c = λ cube.
    let f = signed_at (atom_value c.args.table.now.facts.task.now cube) c.args.env.now.items c.args.sign in
    c.form.ensures.value cube
    ∙ decided_whole cube c.loop-member.whole c.args.junction f (drop c.loop-member.member-index c.args.members.now) _ (sym c.is_decided.ensures ∙ c.if-is_decided.true) c.loop-member.invariant.kind (c.loop-member.invariant.value cube)

pub members_form-loop-member-preserved : goal.members_form-loop-member-preserved
members_form-loop-member-preserved t c =
    let before = c.loop-member.invariant in
    let form = c.in_ok-signed_form.field-0 in
    record {
      env = c.in_ok-signed_form.ensures.env ∙ before.env;
      kind = c.add.ensures.kind ∙ before.kind;
      within = c.in_ok-add.ensures.within (length (fluent_atoms c.args.table.now.facts.task.now)) c.in_ok-signed_form.ensures.within before.within;
      value = λ cube.
          let known = atom_value c.args.table.now.facts.task.now cube in
          let f = signed_at known c.args.env.now.items c.args.sign in
          let xs = c.args.members.now in
          let i = c.loop-member.member-index in
          next_joined c.args.junction f (drop i xs) c.member-item.result (drop (i + 1) xs) (junction_value cube c.loop-member.whole) (junction_value cube c.add.new.self) (value cube form) _
          (drop_here xs i c.member-item.result c.loop-member-test.true c.member-item.is)
          (c.in_ok-add.ensures.value cube ∙ ap (λ j. joined j (junction_value cube c.loop-member.whole) (value cube form)) before.kind)
          (c.in_ok-signed_form.ensures.value cube ∙ ap (λ env. signed c.args.sign (condition_value known env c.member-item.result)) before.env)
          (before.value cube);
    }

pub members_form-returns-clause-within : goal.members_form-returns-clause-within
members_form-returns-clause-within t c = c.form-2.ensures.within (length (fluent_atoms c.args.table.now.facts.task.now)) c.loop-member.invariant.within

pub members_form-returns-clause-value : goal.members_form-returns-clause-value
members_form-returns-clause-value t c = λ cube.
    let f = signed_at (atom_value c.args.table.now.facts.task.now cube) c.args.env.now.items c.args.sign in
    let none : drop c.loop-member.member-index c.args.members.now ≡ [] = grind (arith, common_steps) in
    c.form-2.ensures.value cube ∙ ap (λ rest. fold (joined c.args.junction) (junction_value cube c.loop-member.whole) (map f rest)) (sym none) ∙ c.loop-member.invariant.value cube

pub instances_form-loop-alloc-init : goal.instances_form-loop-alloc-init
instances_form-loop-alloc-init t c = record {
  around = (let ok = c.args.env.now.ok.0 in let len = c.len-around.ensures in omega (arith, ok, len));
  env = λ i. c.args.env.now.items;
  long = subst (AreLong (length c.args.ranges.now)) (sym c.in_ok-tuples.ensures) (tuples_long (objects_of c.args.ranges.now) (length c.args.ranges.now) (length-map c.args.ranges.now (λ range. range.value)));
  kind = c.new-whole.ensures.kind;
  within = c.new-whole.ensures.within (length (fluent_atoms c.args.table.now.facts.task.now));
  value = λ cube.
      let f : List ℕ → Kleene = λ objects. signed c.args.sign (condition_value (atom_value c.args.table.now.facts.task.now cube) (c.args.env.now.items ++ objects) c.args.part.now) in
      (λ i. fold (joined c.args.junction) (c.new-whole.ensures.value cube i) (map f (c.in_ok-tuples.ensures i)));
}

pub instances_form-returns-then-is_decided-clause-within : goal.instances_form-returns-then-is_decided-clause-within
instances_form-returns-then-is_decided-clause-within t c = c.form.ensures.within (length (fluent_atoms c.args.table.now.facts.task.now)) c.loop-alloc.invariant.within

pub instances_form-returns-then-is_decided-clause-value : goal.instances_form-returns-then-is_decided-clause-value
instances_form-returns-then-is_decided-clause-value t c = λ cube.
    let f : List ℕ → Kleene = λ objects. signed c.args.sign (condition_value (atom_value c.args.table.now.facts.task.now cube) (c.args.env.now.items ++ objects) c.args.part.now) in
    c.form.ensures.value cube
    ∙ decided_whole cube c.loop-alloc.whole c.args.junction f c.loop-alloc.tuples _ (sym c.is_decided.ensures ∙ c.if-is_decided.true) c.loop-alloc.invariant.kind (c.loop-alloc.invariant.value cube)

pub instances_form-loop-alloc-preserved : goal.instances_form-loop-alloc-preserved
instances_form-loop-alloc-preserved t c =
    let before = c.loop-alloc.invariant in
    let taken = c.in_ok-put_next.ensures in
    let form = c.in_ok-signed_form.field-0 in
    let back : c.truncate.new.self.items ≡ c.args.env.now.items =
    c.truncate.ensures.items ∙ ap (take c.len-around.result) (c.in_ok-signed_form.ensures.env ∙ taken.put)
    ∙ ap (λ n. take n (c.loop-alloc.env.items ++ taken.objects)) before.around ∙ take-append_seam c.loop-alloc.env.items taken.objects ∙ before.env in
    record {
      around = before.around ∙ ap length before.env ∙ ap length (sym back);
      env = back;
      long = (subst (AreLong (length c.args.ranges.now)) taken.split before.long).1;
      kind = c.add.ensures.kind ∙ before.kind;
      within = c.in_ok-add.ensures.within (length (fluent_atoms c.args.table.now.facts.task.now)) c.in_ok-signed_form.ensures.within before.within;
      value = λ cube.
          let known = atom_value c.args.table.now.facts.task.now cube in
          let f : List ℕ → Kleene = λ objects. signed c.args.sign (condition_value known (c.args.env.now.items ++ objects) c.args.part.now) in
          next_joined c.args.junction f c.loop-alloc.tuples taken.objects c.put_next.new.self (junction_value cube c.loop-alloc.whole) (junction_value cube c.add.new.self) (value cube form) _
          taken.split
          (c.in_ok-add.ensures.value cube ∙ ap (λ j. joined j (junction_value cube c.loop-alloc.whole) (value cube form)) before.kind)
          (c.in_ok-signed_form.ensures.value cube ∙ ap (λ env. signed c.args.sign (condition_value known env c.args.part.now)) (taken.put ∙ ap (λ env. env ++ taken.objects) before.env))
          (before.value cube);
    }

pub instances_form-returns-then-alike-clause-within : goal.instances_form-returns-then-alike-clause-within
instances_form-returns-then-alike-clause-within t c =
    let atoms = length (fluent_atoms c.args.table.now.facts.task.now) in
    c.form-then-alike.ensures.within atoms (c.in_ok-add.ensures.within atoms c.in_ok-signed_form.ensures.within c.loop-alloc.invariant.within)

pub instances_form-returns-then-alike-clause-value : goal.instances_form-returns-then-alike-clause-value
instances_form-returns-then-alike-clause-value t c = λ cube.
    let before = c.loop-alloc.invariant in
    let taken = c.in_ok-put_next.ensures in
    let known = atom_value c.args.table.now.facts.task.now cube in
    let around = c.args.env.now.items in
    let start_is : length around ≡ c.len-around.result = sym (before.around ∙ ap length before.env) in
    let f : List ℕ → Kleene = λ objects. signed c.args.sign (condition_value known (around ++ objects) c.args.part.now) in
    c.form-then-alike.ensures.value cube
    ∙ first_decides c.args.junction f (length c.args.ranges.now) c.loop-alloc.tuples taken.objects c.put_next.new.self (junction_value cube c.loop-alloc.whole) (junction_value cube c.add.new.self) (value cube c.in_ok-signed_form.field-0) _
    taken.split before.long
    (c.in_ok-add.ensures.value cube ∙ ap (λ j. joined j (junction_value cube c.loop-alloc.whole) (value cube c.in_ok-signed_form.field-0)) before.kind)
    (c.in_ok-signed_form.ensures.value cube ∙ ap (λ env. signed c.args.sign (condition_value known env c.args.part.now)) (taken.put ∙ ap (λ env. env ++ taken.objects) before.env))
    (λ objects others one other. ap (signed c.args.sign) (c.is_alike-alike.ensures c.if-alike.true known around objects others start_is (omega (arith, one, start_is)) (one ∙ sym other)))
    (before.value cube)

pub instances_form-returns-clause-within : goal.instances_form-returns-clause-within
instances_form-returns-clause-within t c = c.form-2.ensures.within (length (fluent_atoms c.args.table.now.facts.task.now)) c.loop-alloc.invariant.within

pub instances_form-returns-clause-value : goal.instances_form-returns-clause-value
instances_form-returns-clause-value t c = λ cube.
    let f : List ℕ → Kleene = λ objects. signed c.args.sign (condition_value (atom_value c.args.table.now.facts.task.now cube) (c.args.env.now.items ++ objects) c.args.part.now) in
    let none : c.loop-alloc.tuples ≡ [] = c.loop-alloc-test.ensures.done (λ i. true) in
    c.form-2.ensures.value cube ∙ ap (λ rest. fold (joined c.args.junction) (junction_value cube c.loop-alloc.whole) (map f rest)) (sym none) ∙ c.loop-alloc.invariant.value cube
