use Rattle.std.proofs.Common.{◌≡◌, ◌∙◌, length, sym, ap, subst, arith}
use Rattle.fond_state.specs.Words.{literals_from, words_for, IsPadded}
use Rattle.fond_state.proofs.Words.{length-literals_from}
use Rattle.fond_state.proofs.cube.Cube.copy_from.Goals as goal

pub copy_from_slice-requires : goal.copy_from_slice-requires
copy_from_slice-requires c =
    let same : c.self.inside.atoms ≡ c.other.inside.atoms
    = sym (length-literals_from c.self.inside.masks.items 0 c.self.inside.atoms) ∙ ap length c.self.view_is ∙ c.requires ∙ sym (ap length c.other.view_is) ∙ length-literals_from c.other.inside.masks.items 0 c.other.inside.atoms in
    let counts = ap words_for same in
    omega (arith, c.self.invariant.0, c.other.invariant.0, counts, c.other.inside.masks.ok.0, ap length c.as_slice.ensures.value)

pub invariant_of-self : goal.invariant_of-self
invariant_of-self c =
    let same : c.self.inside.atoms ≡ c.other.inside.atoms
    = sym (length-literals_from c.self.inside.masks.items 0 c.self.inside.atoms) ∙ ap length c.self.view_is ∙ c.requires ∙ sym (ap length c.other.view_is) ∙ length-literals_from c.other.inside.masks.items 0 c.other.inside.atoms in
    let copied : c.copy_from_slice.new.self.items ≡ c.other.inside.masks.items = c.copy_from_slice.ensures.items ∙ c.as_slice.ensures.value in
    (c.copy_from_slice.ensures.len ∙ c.self.invariant.0, subst (λ n. IsPadded n c.copy_from_slice.new.self.items) (sym same) (subst (IsPadded c.other.inside.atoms) (sym copied) c.other.invariant.1), c.self.invariant.2)

pub returns : goal.returns
returns c =
    let same : c.self.inside.atoms ≡ c.other.inside.atoms
    = sym (length-literals_from c.self.inside.masks.items 0 c.self.inside.atoms) ∙ ap length c.self.view_is ∙ c.requires ∙ sym (ap length c.other.view_is) ∙ length-literals_from c.other.inside.masks.items 0 c.other.inside.atoms in
    let copied : c.copy_from_slice.new.self.items ≡ c.other.inside.masks.items = c.copy_from_slice.ensures.items ∙ c.as_slice.ensures.value in
    ap (λ masks. literals_from masks 0 c.self.inside.atoms) copied ∙ ap (literals_from c.other.inside.masks.items 0) same ∙ c.other.view_is
