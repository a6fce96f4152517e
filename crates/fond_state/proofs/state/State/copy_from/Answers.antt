use Rattle.std.proofs.Common.{◌≡◌, ◌∙◌, length, sym, ap, subst, arith}
use Rattle.fond_state.specs.Words.{truths_from, words_for, HasNoMore, AreWords}
use Rattle.fond_state.proofs.Words.{length-truths_from}
use Rattle.fond_state.proofs.state.State.copy_from.Goals as goal

pub copy_from_slice-requires : goal.copy_from_slice-requires
copy_from_slice-requires c =
    let same : c.self.inside.atoms ≡ c.other.inside.atoms
    = sym (length-truths_from c.self.inside.words.items 0 c.self.inside.atoms) ∙ ap length c.self.view_is ∙ c.requires ∙ sym (ap length c.other.view_is) ∙ length-truths_from c.other.inside.words.items 0 c.other.inside.atoms in
    let counts = ap words_for same in
    omega (arith, c.self.invariant.0, c.other.invariant.0, counts, c.other.inside.words.ok.0, ap length c.as_slice.ensures.value)

pub invariant_of-self : goal.invariant_of-self
invariant_of-self c =
    let same : c.self.inside.atoms ≡ c.other.inside.atoms
    = sym (length-truths_from c.self.inside.words.items 0 c.self.inside.atoms) ∙ ap length c.self.view_is ∙ c.requires ∙ sym (ap length c.other.view_is) ∙ length-truths_from c.other.inside.words.items 0 c.other.inside.atoms in
    let copied : c.copy_from_slice.new.self.items ≡ c.other.inside.words.items = c.copy_from_slice.ensures.items ∙ c.as_slice.ensures.value in (
      c.copy_from_slice.ensures.len ∙ c.self.invariant.0,
      subst (λ n. HasNoMore n c.copy_from_slice.new.self.items) (sym same) (subst (HasNoMore c.other.inside.atoms) (sym copied) c.other.invariant.1),
      subst AreWords (sym copied) c.other.invariant.2,
      c.self.invariant.3,
    )

pub returns : goal.returns
returns c =
    let same : c.self.inside.atoms ≡ c.other.inside.atoms
    = sym (length-truths_from c.self.inside.words.items 0 c.self.inside.atoms) ∙ ap length c.self.view_is ∙ c.requires ∙ sym (ap length c.other.view_is) ∙ length-truths_from c.other.inside.words.items 0 c.other.inside.atoms in
    let copied : c.copy_from_slice.new.self.items ≡ c.other.inside.words.items = c.copy_from_slice.ensures.items ∙ c.as_slice.ensures.value in
    ap (λ words. truths_from words 0 c.self.inside.atoms) copied ∙ ap (truths_from c.other.inside.words.items 0) same ∙ c.other.view_is
