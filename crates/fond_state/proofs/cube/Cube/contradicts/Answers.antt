use Rattle.std.proofs.Common.{◌≡◌, ◌∙◌, ℕ, ◌<◌, List, Bool, Option, length, refl, sym, ap, subst, ⊎_elim, arith}
use Rattle.std.proofs.lemmas.Bool.{cases_lt, false≢true}
use Rattle.std.proofs.lemmas.List.{get_or_read}
use Rattle.fond_state.specs.Cubes.{Contradicts}
use Rattle.fond_state.specs.declared.mask.Mask.{Mask}
use Rattle.fond_state.specs.Words.{mask_at, no_mask, Oppose, literals_from, words_for, IsPadded}
use Rattle.fond_state.proofs.Words.{length-literals_from, opposed_by_words, words_by_opposed, opposed_moved, opposed_back}
use Rattle.fond_state.proofs.cube.Cube.contradicts.Goals as goal

-- the two are over as many atoms
same_atoms : (masks others : List Mask) (n m : ℕ) (cube other : List (Option Bool)) → literals_from masks 0 n ≡ cube → literals_from others 0 m ≡ other → length cube ≡ length other → n ≡ m
same_atoms masks others n m cube other is also same =
    sym (length-literals_from masks 0 n) ∙ ap length is ∙ same ∙ sym (ap length also) ∙ length-literals_from others 0 m

pub index-requires-in-loop-i-2 : goal.index-requires-in-loop-i-2
index-requires-in-loop-i-2 c =
    let same = same_atoms c.self.inside.masks.items c.d.inside.masks.items c.self.inside.atoms c.d.inside.atoms c.args.self.now c.args.d.now c.self.view_is c.d.view_is c.requires in
    let words : words_for c.self.inside.atoms ≡ words_for c.d.inside.atoms = ap words_for same in
    omega (arith, c.loop-i-test.true, c.len-i-end.ensures, c.self.invariant.0, c.d.invariant.0, words)

pub returns-then-are_opposed : goal.returns-then-are_opposed
returns-then-are_opposed c =
    let masks = c.self.inside.masks.items in
    let others = c.d.inside.masks.items in
    let n = c.self.inside.atoms in
    let same = same_atoms masks others n c.d.inside.atoms c.args.self.now c.args.d.now c.self.view_is c.d.view_is c.requires in
    let counts : words_for n ≡ words_for c.d.inside.atoms = ap words_for same in
    let in_masks : c.loop-i.i < length masks = omega (arith, c.loop-i-test.true, c.len-i-end.ensures, c.self.inside.masks.ok.0) in
    let in_others : c.loop-i.i < length others = omega (arith, c.loop-i-test.true, c.len-i-end.ensures, c.self.invariant.0, c.d.invariant.0, counts, c.d.inside.masks.ok.0) in
    let opposed = opposed_moved _ _ (mask_at masks c.loop-i.i) _ (mask_at others c.loop-i.i)
    (get_or_read masks _ _ in_masks c.index.ensures no_mask) (get_or_read masks _ _ in_masks c.index-in-loop-i.ensures no_mask) (get_or_read others _ _ in_others c.index-in-loop-i-2.ensures no_mask)
    (c.if-are_opposed.ensures.0 refl) in
    let padded = subst (λ m. IsPadded m others) (sym same) c.d.invariant.1 in
    let told = opposed_by_words masks n others c.self.invariant.1 padded c.loop-i.i opposed in
    let P : List (Option Bool) → Type 0 = λ cube. Contradicts cube c.args.d.now in
    let Q : List (Option Bool) → Type 0 = λ other. Contradicts (literals_from masks 0 n) other in
    let R : ℕ → Type 0 = λ m. Contradicts (literals_from masks 0 n) (literals_from others 0 m) in
    (λ _. subst P c.self.view_is (subst Q c.d.view_is (subst R same told)), λ _. refl)

pub loop-i-preserved : goal.loop-i-preserved
loop-i-preserved c = λ k lt opposed. ⊎_elim
    (λ before. c.loop-i.invariant k before opposed)
    (λ from.
    let masks = c.self.inside.masks.items in
    let others = c.d.inside.masks.items in
    let here : k ≡ c.loop-i.i = omega (arith, lt, from) in
    let same = same_atoms masks others c.self.inside.atoms c.d.inside.atoms c.args.self.now c.args.d.now c.self.view_is c.d.view_is c.requires in
    let counts : words_for c.self.inside.atoms ≡ words_for c.d.inside.atoms = ap words_for same in
    let in_masks : c.loop-i.i < length masks = omega (arith, c.loop-i-test.true, c.len-i-end.ensures, c.self.inside.masks.ok.0) in
    let in_others : c.loop-i.i < length others = omega (arith, c.loop-i-test.true, c.len-i-end.ensures, c.self.invariant.0, c.d.invariant.0, counts, c.d.inside.masks.ok.0) in
    let P : ℕ → Type 0 = λ j. Oppose (mask_at masks j) (mask_at others j) in
    false≢true (c.if-are_opposed.ensures.1 (opposed_back _ _ (mask_at masks c.loop-i.i) _ (mask_at others c.loop-i.i)
    (get_or_read masks _ _ in_masks c.index.ensures no_mask) (get_or_read masks _ _ in_masks c.index-in-loop-i.ensures no_mask) (get_or_read others _ _ in_others c.index-in-loop-i-2.ensures no_mask)
    (subst P here opposed))))
    (cases_lt k c.loop-i.i)

pub returns : goal.returns
returns c =
    let masks = c.self.inside.masks.items in
    let others = c.d.inside.masks.items in
    let n = c.self.inside.atoms in
    let same = same_atoms masks others n c.d.inside.atoms c.args.self.now c.args.d.now c.self.view_is c.d.view_is c.requires in
    let P : List (Option Bool) → Type 0 = λ cube. Contradicts cube c.args.d.now in
    let Q : List (Option Bool) → Type 0 = λ other. Contradicts (literals_from masks 0 n) other in
    let R : ℕ → Type 0 = λ m. Contradicts (literals_from masks 0 n) (literals_from others 0 m) in (
      λ e. absurd (false≢true e),
      λ told.
          let word = words_by_opposed masks n others (subst R (sym same) (subst Q (sym c.d.view_is) (subst P (sym c.self.view_is) told))) in
          absurd (c.loop-i.invariant word.0 (omega (arith, word.1, c.loop-i-test.false, c.len-i-end.ensures, c.self.invariant.0)) word.2),
    )
