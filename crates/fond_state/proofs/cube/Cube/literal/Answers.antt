use Rattle.std.proofs.Common.{◌≡◌, ◌∙◌, ◌<◌, ◌/◌, ◌%◌, None, length, sym, ap, arith}
use Rattle.std.proofs.lemmas.List.{get_or_past, get_or_read}
use Rattle.fond_state.specs.Cubes.{literal_at}
use Rattle.fond_state.specs.declared.mask.Mask.{Mask}
use Rattle.fond_state.specs.Words.{literal_of, mask_at, no_mask}
use Rattle.fond_state.proofs.Words.{length-literals_from, literal_here}
use Rattle.fond_state.proofs.cube.Cube.literal.Goals as goal

pub returns-then-atom-self : goal.returns-then-atom-self
returns-then-atom-self c =
    let same = ap length c.self.view_is in
    let long = length-literals_from c.self.inside.masks.items 0 c.self.inside.atoms in
    sym (get_or_past c.args.self.now c.args.atom None (omega (arith, c.if-atom-self.true, same, long)))

pub returns : goal.returns
returns c =
    let masks = c.self.inside.masks.items in
    let atom = c.args.atom in
    let within : atom / 64 < length masks = omega (arith, c.if-atom-self.false, c.self.invariant.0, c.self.inside.masks.ok.0) in
    let read : c.index.result.now ≡ mask_at masks (atom / 64) = get_or_read masks (atom / 64) c.index.result.now within c.index.ensures no_mask in
    c.literal.ensures ∙ ap (λ (m : Mask). literal_of m (atom % 64)) read ∙ sym (literal_here masks c.self.inside.atoms atom c.if-atom-self.false)
    ∙ ap (λ cube. literal_at cube atom) c.self.view_is
