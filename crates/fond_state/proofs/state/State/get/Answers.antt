use Rattle.std.proofs.Common.{◌≡◌, ◌∙◌, ◌<◌, ◌/◌, ◌%◌, length, sym, ap, arith}
use Rattle.std.specs.Prelude.{slice_index_or}
use Rattle.std.proofs.lemmas.List.{get_or_read}
use Rattle.fond_state.specs.Cubes.{truth_at}
use Rattle.fond_state.specs.Words.{is_set}
use Rattle.fond_state.proofs.Words.{length-truths_from, truth_here}
use Rattle.fond_state.proofs.state.State.get.Goals as goal

pub index-requires : goal.index-requires
index-requires c =
    let same = ap length c.self.view_is in
    let long = length-truths_from c.self.inside.words.items 0 c.self.inside.atoms in
    omega (arith, c.requires, same, long, c.self.invariant.0)

pub returns : goal.returns
returns c =
    let words = c.self.inside.words.items in
    let atom = c.args.atom in
    let same = ap length c.self.view_is in
    let long = length-truths_from words 0 c.self.inside.atoms in
    let small : atom < c.self.inside.atoms = omega (arith, c.requires, same, long) in
    let within : atom / 64 < length words = omega (arith, small, c.self.invariant.0, c.self.inside.words.ok.0) in
    let read : c.index.result.now ≡ slice_index_or words (atom / 64) 0 = get_or_read words (atom / 64) c.index.result.now within c.index.ensures 0 in
    c.bit.ensures ∙ ap (λ w. is_set w (atom % 64)) read ∙ sym (truth_here words c.self.inside.atoms atom small) ∙ ap (λ state. truth_at state atom) c.self.view_is
