use Rattle.std.proofs.Common.{◌≤◌, ◌+◌, ◌||◌, ◌∷◌, length, drop, slice_get, sym, ap, subst, ◌∙◌, arith}
use Rattle.std.specs.FinSet as sets
use Rattle.std.specs.FinSet.{contains-empty}
use Rattle.std.proofs.lemmas.List.{drop_all}
use Rattle.fond_ast.specs.States.{atom_cmp, atoms_of}
use Rattle.fond_join.specs.Tables.{is_entered}
use Rattle.fond_join.proofs.Items.{drop_item, found_item}
use Rattle.fond_join.proofs.Tables.{predicate_within, next_entered, or_none}
use Rattle.fond_join.proofs.facts.tables_of.Goals as goal

pub enter-requires : goal.enter-requires
enter-requires c =
    let task = c.args.task.now in
    let found = found_item c.as_slice-atom-items.result.now c.loop-atom.atom-index c.atom-item.result c.loop-atom-test.true c.atom-item.is in
    let here = ap (λ atoms. slice_get atoms c.loop-atom.atom-index) (sym c.as_slice-atom-items.ensures) ∙ found in
    let within = predicate_within task.predicates task.init c.loop-atom.atom-index c.atom-item.result task.init_within here in
    omega (arith, within, c.loop-atom.invariant.long)

pub loop-atom-preserved : goal.loop-atom-preserved
loop-atom-preserved c =
    let i = c.loop-atom.atom-index in
    let next = ap (drop i) (sym c.as_slice-atom-items.ensures) ∙ drop_item c.as_slice-atom-items.result.now i c.atom-item.result c.loop-atom-test.true c.atom-item.is
    ∙ ap (λ atoms. c.atom-item.result ∷ drop (i + 1) atoms) c.as_slice-atom-items.ensures in
    record {
      long = c.in_ok-enter.ensures.long ∙ c.loop-atom.invariant.long;
      left = λ predicate objects.
          next_entered c.loop-atom.tables.items c.atom-item.result c.enter.new.tables.items (drop (i + 1) c.args.task.now.init) c.in_ok-enter.ensures.entered predicate objects
          ∙ ap (λ rest. is_entered c.loop-atom.tables.items predicate objects || sets.contains (atoms_of rest) (record { predicate = predicate; objects = objects })) (sym next)
          ∙ c.loop-atom.invariant.left predicate objects;
    }

pub returns : goal.returns
returns c predicate objects =
    let none = drop_all c.loop-atom.atom-index c.args.task.now.init (subst (λ atoms. length atoms ≤ c.loop-atom.atom-index) c.as_slice-atom-items.ensures c.loop-atom-test.false) in
    let entered = is_entered c.loop-atom.tables.items predicate objects in
    or_none entered
    ∙ ap (λ b. entered || b) (sym (contains-empty atom_cmp (record { predicate = predicate; objects = objects })))
    ∙ ap (λ rest. entered || sets.contains (atoms_of rest) (record { predicate = predicate; objects = objects })) (sym none)
    ∙ c.loop-atom.invariant.left predicate objects
