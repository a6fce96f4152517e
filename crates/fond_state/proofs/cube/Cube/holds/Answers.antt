use Rattle.std.proofs.Common.{◌≡◌, ◌∙◌, ℕ, ◌<◌, List, Bool, Option, length, refl, sym, ap, subst, ⊎_elim, arith}
use Rattle.std.specs.Prelude.{slice_index_or}
use Rattle.std.proofs.lemmas.Bool.{cases_lt, false_from_ne_true, false≢true}
use Rattle.std.proofs.lemmas.List.{get_or_read}
use Rattle.fond_state.specs.Cubes.{LiesIn}
use Rattle.fond_state.proofs.Tested.{lies_in-Decides}
use Rattle.fond_state.specs.declared.mask.Mask.{Mask}
use Rattle.fond_state.specs.Words.{mask_at, no_mask, Agree, truths_from, literals_from, words_for}
use Rattle.fond_state.proofs.Words.{length-truths_from, length-literals_from, lies_by_words, words_by_lies, agree_moved, agree_back}
use Rattle.fond_state.proofs.cube.Cube.holds.Goals as goal

-- the two are over as many atoms
same_atoms : (masks : List Mask) (words : List ℕ) (n m : ℕ) (cube : List (Option Bool)) (state : List Bool) → literals_from masks 0 n ≡ cube → truths_from words 0 m ≡ state → length cube ≡ length state → n ≡ m
same_atoms masks words n m cube state is also same =
    sym (length-literals_from masks 0 n) ∙ ap length is ∙ same ∙ sym (ap length also) ∙ length-truths_from words 0 m

pub index-requires-in-loop-i-2 : goal.index-requires-in-loop-i-2
index-requires-in-loop-i-2 c =
    let same = same_atoms c.self.inside.masks.items c.s.inside.words.items c.self.inside.atoms c.s.inside.atoms c.args.self.now c.args.s.now c.self.view_is c.s.view_is c.requires in
    let words : words_for c.self.inside.atoms ≡ words_for c.s.inside.atoms = ap words_for same in
    omega (arith, c.loop-i-test.true, c.len-i-end.ensures, c.self.invariant.0, c.s.invariant.0, words)

pub returns-then-not-agrees : goal.returns-then-not-agrees
returns-then-not-agrees c =
    let masks = c.self.inside.masks.items in
    let words = c.s.inside.words.items in
    let n = c.self.inside.atoms in
    let same = same_atoms masks words n c.s.inside.atoms c.args.self.now c.args.s.now c.self.view_is c.s.view_is c.requires in
    let counts : words_for n ≡ words_for c.s.inside.atoms = ap words_for same in
    let in_masks : c.loop-i.i < length masks = omega (arith, c.loop-i-test.true, c.len-i-end.ensures, c.self.inside.masks.ok.0) in
    let in_words : c.loop-i.i < length words = omega (arith, c.loop-i-test.true, c.len-i-end.ensures, c.self.invariant.0, c.s.invariant.0, counts, c.s.inside.words.ok.0) in
    sym (false_from_ne_true _ (λ yes.
    let lies = (lies_in-Decides c.args.s.now c.args.self.now).0 yes in
    let P : List (Option Bool) → Type 0 = λ cube. LiesIn c.args.s.now cube in
    let Q : List Bool → Type 0 = λ state. LiesIn state (literals_from masks 0 n) in
    let R : ℕ → Type 0 = λ m. LiesIn (truths_from words 0 m) (literals_from masks 0 n) in
    let told = subst R (sym same) (subst Q (sym c.s.view_is) (subst P (sym c.self.view_is) lies)) in
    false≢true (c.if-not-agrees.ensures.1 (agree_back _ _ (mask_at masks c.loop-i.i) _ (slice_index_or words c.loop-i.i 0)
    (get_or_read masks _ _ in_masks c.index.ensures no_mask) (get_or_read masks _ _ in_masks c.index-in-loop-i.ensures no_mask) (get_or_read words _ _ in_words c.index-in-loop-i-2.ensures 0)
    (words_by_lies masks n words c.self.invariant.1 told c.loop-i.i)))))

pub loop-i-preserved : goal.loop-i-preserved
loop-i-preserved c = λ k lt. ⊎_elim
    (λ before. c.loop-i.invariant k before)
    (λ from.
    let masks = c.self.inside.masks.items in
    let words = c.s.inside.words.items in
    let here : k ≡ c.loop-i.i = omega (arith, lt, from) in
    let same = same_atoms masks words c.self.inside.atoms c.s.inside.atoms c.args.self.now c.args.s.now c.self.view_is c.s.view_is c.requires in
    let counts : words_for c.self.inside.atoms ≡ words_for c.s.inside.atoms = ap words_for same in
    let in_masks : c.loop-i.i < length masks = omega (arith, c.loop-i-test.true, c.len-i-end.ensures, c.self.inside.masks.ok.0) in
    let in_words : c.loop-i.i < length words = omega (arith, c.loop-i-test.true, c.len-i-end.ensures, c.self.invariant.0, c.s.invariant.0, counts, c.s.inside.words.ok.0) in
    let agree = agree_moved _ _ (mask_at masks c.loop-i.i) _ (slice_index_or words c.loop-i.i 0)
    (get_or_read masks _ _ in_masks c.index.ensures no_mask) (get_or_read masks _ _ in_masks c.index-in-loop-i.ensures no_mask) (get_or_read words _ _ in_words c.index-in-loop-i-2.ensures 0)
    (c.if-not-agrees.ensures.0 refl) in
    let P : ℕ → Type 0 = λ j. Agree (mask_at masks j) (slice_index_or words j 0) in
    subst P (sym here) agree)
    (cases_lt k c.loop-i.i)

pub returns : goal.returns
returns c =
    let masks = c.self.inside.masks.items in
    let words = c.s.inside.words.items in
    let n = c.self.inside.atoms in
    let same = same_atoms masks words n c.s.inside.atoms c.args.self.now c.args.s.now c.self.view_is c.s.view_is c.requires in
    let lies = lies_by_words masks n words (λ i lt. c.loop-i.invariant i (omega (arith, lt, c.loop-i-test.false, c.len-i-end.ensures, c.self.invariant.0))) in
    let P : List (Option Bool) → Type 0 = λ cube. LiesIn c.args.s.now cube in
    let Q : List Bool → Type 0 = λ state. LiesIn state (literals_from masks 0 n) in
    let R : ℕ → Type 0 = λ m. LiesIn (truths_from words 0 m) (literals_from masks 0 n) in
    sym ((lies_in-Decides c.args.s.now c.args.self.now).1 (subst P c.self.view_is (subst Q c.s.view_is (subst R same lies))))
