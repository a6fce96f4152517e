use Rattle.std.proofs.Common.{◌∙◌, ◌++◌, List, ℕ, Bool, [], ap, true}
use Rattle.std.specs.Prelude.{if◌then◌else◌}
use Rattle.fond_text.proofs.Adding.{adds_same}
use Rattle.serde_json.specs.Written.{comma_if}
use Rattle.fond_graph.proofs.Remaining.{atoms_more}
use Rattle.fond_graph.proofs.nodes.Drawing.put_atoms.Goals as goal

pub loop-atom-preserved : goal.loop-atom-preserved
loop-atom-preserved c =
    let string = c.string-item.result in
    let later = c.loop-atom.later in
    let part : Bool → List ℕ = λ is_true. if is_true then comma_if later ++ string else [] in
    let then_later : Bool → Bool = λ is_true. if is_true then true else later in
    atoms_more c.args.self.now.task.now c.args.state.now _ _ later _ c.loop-atom.atom c.as_slice-string-items.result.now string _ _ c.loop-atom.invariant
    (c.as_slice-string-items.ensures ∙ c.args.self.now.strings_are)
    c.loop-atom-test.true
    c.string-item.is
    (adds_same _ _ _ _ (ap part c.get.ensures) c.put_if.ensures.part)
    (c.put_if.ensures.later ∙ ap then_later c.get.ensures)
