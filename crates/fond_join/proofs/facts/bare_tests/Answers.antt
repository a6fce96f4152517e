use Rattle.std.proofs.Common.{◌≡◌, ◌≤◌, ◌+◌, ◌∷◌, false, drop, length, get_or, slice_get, sym, ap, subst, ◌∙◌, refl, arith}
use Rattle.std.proofs.lemmas.Grind.{common_steps}
use Rattle.std.specs.FinSet as sets
use Rattle.std.specs.FinSet.{contains-empty}
use Rattle.std.proofs.lemmas.List.{drop_all}
use Rattle.fond_ast.specs.States.{atom_cmp, atoms_of}
use Rattle.fond_join.proofs.Bared.{bare_next, bare_value, static_if}
use Rattle.fond_join.proofs.Items.{drop_item, found_item}
use Rattle.fond_join.proofs.Tables.{predicate_within}
use Rattle.fond_join.proofs.facts.bare_tests.Goals as goal

pub loop-atom-init : goal.loop-atom-init
loop-atom-init c =
    let tests = c.in_ok-bare.bare in
    record {
      long = grind (arith, common_steps);
      left = λ predicate objects h. (static_if c.args.task.now.predicates predicate (ap (λ list. get_or list predicate false) (sym c.in_ok-bare.ensures) ∙ h), refl);
    }

pub index_mut-requires : goal.index_mut-requires
index_mut-requires c =
    let task = c.args.task.now in
    let found = found_item c.as_slice-atom-items.result.now c.loop-atom.atom-index c.atom-item.result c.loop-atom-test.true c.atom-item.is in
    let here = ap (λ atoms. slice_get atoms c.loop-atom.atom-index) (sym c.as_slice-atom-items.ensures) ∙ found in
    let within = predicate_within task.predicates task.init c.loop-atom.atom-index c.atom-item.result task.init_within here in
    omega (arith, within, c.loop-atom.invariant.long)

pub loop-atom-preserved : goal.loop-atom-preserved
loop-atom-preserved c =
    let task = c.args.task.now in
    let i = c.loop-atom.atom-index in
    let atom = c.atom-item.result in
    let next = ap (drop i) (sym c.as_slice-atom-items.ensures) ∙ drop_item c.as_slice-atom-items.result.now i atom c.loop-atom-test.true c.atom-item.is
    ∙ ap (λ atoms. atom ∷ drop (i + 1) atoms) c.as_slice-atom-items.ensures in
    let found = found_item c.as_slice-atom-items.result.now i atom c.loop-atom-test.true c.atom-item.is in
    let here = ap (λ atoms. slice_get atoms i) (sym c.as_slice-atom-items.ensures) ∙ found in
    let within = predicate_within task.predicates task.init i atom task.init_within here in
    let long : length c.loop-atom.bare.items ≡ length task.predicates = grind (arith, common_steps) in
    record {
      long = c.loop-atom.invariant.long;
      left = λ predicate objects h.
          let step = bare_next c.loop-atom.bare.items atom (drop (i + 1) task.init) (omega (arith, within, long)) predicate objects h in
          let before = c.loop-atom.invariant.left predicate objects step.0 in
          (before.0, before.1 ∙ ap (λ atoms. sets.contains (atoms_of atoms) (record { predicate = predicate; objects = objects })) next ∙ step.1);
    }

pub returns : goal.returns
returns c predicate objects h =
    let task = c.args.task.now in
    let none = drop_all c.loop-atom.atom-index task.init (subst (λ atoms. length atoms ≤ c.loop-atom.atom-index) c.as_slice-atom-items.ensures c.loop-atom-test.false) in
    let left = c.loop-atom.invariant.left predicate objects h in
    bare_value task (record { predicate = predicate; objects = objects }) left.0
    (left.1 ∙ ap (λ rest. sets.contains (atoms_of rest) (record { predicate = predicate; objects = objects })) none ∙ contains-empty atom_cmp (record { predicate = predicate; objects = objects }))
