use Rattle.std.proofs.Common.{◌≡◌, ◌∙◌, ◌+◌, ◌++◌, ◌∷◌, [], Bool, length, map, take, sym, ap, arith}
use Rattle.std.specs.FinSet as set
use Rattle.std.proofs.lemmas.List.{length-set, map-append, take_more_set}
use Rattle.fond_text.specs.declared.atom.Atom.{Atom}
use Rattle.fond_ast.specs.Solutions.{initial}
use Rattle.fond_ground.proofs.Actions.{take_item}
use Rattle.fond_ground.proofs.ground.first_state.Goals as goal

pub loop-i-preserved : goal.loop-i-preserved
loop-i-preserved c =
    let task = c.args.table.now.facts.task.now in
    let f : Atom → Bool = set.contains (initial task) in
    let atoms = c.args.atoms.now in
    let i = c.loop-i.i in
    let atom = c.get-atom.result.now in
    let long = c.loop-i.invariant.long in
    let end = c.len-i-end.ensures in
    let lt = c.loop-i-test.true in
    let value : c.contains-is_initial.result ≡ f atom = c.contains-is_initial.ensures ∙ ap (λ objects. f (record { predicate = atom.predicate; objects = objects })) c.as_slice.ensures in
    record {
      long = ap length c.set.ensures ∙ length-set c.loop-i.state i c.contains-is_initial.result ∙ long;
      done =
          ap (take (i + 1)) c.set.ensures ∙ take_more_set c.loop-i.state i c.contains-is_initial.result (omega arith)
          ∙ (λ j. c.loop-i.invariant.done j ++ value j ∷ [])
          ∙ sym (ap (map f) (take_item atoms i atom c.get-atom.ensures) ∙ map-append f (take i atoms) (atom ∷ []));
    }
