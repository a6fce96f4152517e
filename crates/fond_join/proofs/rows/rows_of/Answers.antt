use Rattle.std.proofs.Common.{◌≡◌, Some, slice_get, subst, arith}
use Rattle.std.proofs.lemmas.Option.{slice_get_within}
use Rattle.fond_text.specs.declared.atom.Atom.{Atom}
use Rattle.fond_join.specs.Rows.{IsRowed}
use Rattle.fond_join.proofs.Found.{same_found}
use Rattle.fond_join.proofs.Items.{found_item}
use Rattle.fond_join.proofs.Rowed.{below_next}
use Rattle.fond_join.proofs.rows.rows_of.Goals as goal

pub loop-atom-preserved : goal.loop-atom-preserved
loop-atom-preserved c =
    let atoms = c.args.atoms.now in
    let i = c.loop-atom.atom-index in
    let numbers = c.enter.new.rows.numbers in
    let lists = c.enter.new.rows.lists.items in
    let here = found_item atoms i c.atom-item.result c.loop-atom-test.true c.atom-item.is in
    record {
      numbered = c.in_ok-enter.ensures.numbered;
      rowed = below_next (λ k. (atom : Atom) → slice_get atoms k ≡ Some atom → IsRowed numbers lists atom) i
          (λ k before atom at position other few first less second. c.in_ok-enter.ensures.grown _ _ (c.loop-atom.invariant.rowed k before atom at position other few first less second))
          (λ atom at. subst (IsRowed numbers lists) (same_found atoms i c.atom-item.result atom here at) c.in_ok-enter.ensures.rowed);
    }

pub returns : goal.returns
returns c k atom at = c.loop-atom.invariant.rowed k (let within = slice_get_within c.args.atoms.now k atom at in let end = c.loop-atom-test.false in omega arith) atom at
