-- A forest that grows: what adding a number keeps.
use Rattle.std.proofs.Common.{◌≡◌, ◌≢◌, ◌⊎◌, ℕ, ◌+◌, ◌<◌, Bool, true, false, Some, None, length, refl, sym, ap, ◌∙◌, subst, inl, inr, arith}
use Rattle.std.specs.Prelude.{slice_index, slice_set}
use Rattle.std.proofs.lemmas.Bool.{cases_eq}
use Rattle.std.proofs.lemmas.List.{get_or-set_same, get_or-set_other, length-set}
use Rattle.fond_kinds.specs.Parents.{parent_of, are_within}
use Rattle.fond_kinds.specs.Forests.{Forest, IsForest, is_marked, planted, attached}
use Rattle.fond_kinds.specs.Growth.{Adds, IsGrowing, missing, is_met, is_done}
use Rattle.fond_kinds.specs.declared.grower.Grower.{Grower}
use Rattle.fond_kinds.proofs.Grow.{planted_is, attached_is}
use Rattle.fond_kinds.proofs.Paths.{missing-set}

-- a number has a mark or none
pub marked_or_not : (b : Bool) → (b ≡ true) ⊎ (b ≡ false)
marked_or_not true = inl refl
marked_or_not false = inr refl

-- what adding a number keeps
module _ (old new : Grower) (y : ℕ) (forest : Forest) (adds : Adds old new y forest) (within : y < length old.done.items) (waits : is_done old y ≡ false) where
  pub done_now : is_done new y ≡ true
  done_now = ap (λ z. is_marked z y) adds.done ∙ get_or-set_same old.done.items y true false within

  pub still_done : (n : ℕ) → is_done old n ≡ true → is_done new n ≡ true
  still_done n done = elim (cases_eq n y) [
    | inl same ↦ subst (λ z. is_done new z ≡ true) (sym same) done_now
    | inr other ↦ ap (λ z. is_marked z n) adds.done ∙ get_or-set_other old.done.items y n true false other ∙ done
  ]

  pub other_waits : (n : ℕ) → n ≢ y → is_done old n ≡ false → is_done new n ≡ false
  other_waits n other not = ap (λ z. is_marked z n) adds.done ∙ get_or-set_other old.done.items y n true false other ∙ not

  pub was_done : (n : ℕ) → is_done new n ≡ true → (n ≡ y) ⊎ (is_done old n ≡ true)
  was_done n done = elim (cases_eq n y) [
    | inl same ↦ inl same
    | inr other ↦ inr (sym (ap (λ z. is_marked z n) adds.done ∙ get_or-set_other old.done.items y n true false other) ∙ done)
  ]

  pub met_still : (n : ℕ) → is_met old n ≡ true → is_met new n ≡ true
  met_still n met = ap (λ z. is_marked z n) adds.seen ∙ met

  pub was_met : (n : ℕ) → is_met new n ≡ true → is_met old n ≡ true
  was_met n met = sym (ap (λ z. is_marked z n) adds.seen) ∙ met

  pub was_waiting : (n : ℕ) → is_done new n ≡ false → (n ≢ y) × (is_done old n ≡ false)
  was_waiting n not = elim (cases_eq n y) [
    | inl same ↦ let yes : is_done new n ≡ true = subst (λ z. is_done new z ≡ true) (sym same) done_now in let no : true ≡ false = sym yes ∙ not in cc
    | inr other ↦ (other, sym (ap (λ z. is_marked z n) adds.done ∙ get_or-set_other old.done.items y n true false other) ∙ not)
  ]

  module _ (growing : IsGrowing old) (met : is_met old y ≡ true) (is : IsForest old.parents.now forest (slice_set old.done.items y true))
      (ups : length forest.ups ≡ length old.parents.now) (times : length forest.times ≡ length old.parents.now) (roots : length forest.roots ≡ length old.parents.now) (jumps : length forest.jumps ≡ length old.parents.now)
      (timed : slice_index forest.times y ≡ old.count) (others : (n : ℕ) → n ≢ y → slice_index forest.times n ≡ slice_index old.links.times n) where
    pub adds_growing : IsGrowing new
    adds_growing = record {
      forest = subst (λ z. IsForest z new.links new.done.items) (sym adds.parents) (subst (λ z. IsForest old.parents.now z new.done.items) (sym adds.links) (subst (λ z. IsForest old.parents.now forest z) (sym adds.done) is));
      within = subst (λ z. are_within z ≡ true) (sym adds.parents) growing.within;
      ups = ap (λ z. length z.ups) adds.links ∙ ups ∙ sym (ap length adds.parents);
      times = ap (λ z. length z.times) adds.links ∙ times ∙ sym (ap length adds.parents);
      roots = ap (λ z. length z.roots) adds.links ∙ roots ∙ sym (ap length adds.parents);
      jumps = ap (λ z. length z.jumps) adds.links ∙ jumps ∙ sym (ap length adds.parents);
      seen = ap length adds.seen ∙ growing.seen ∙ sym (ap length adds.parents);
      done = ap length adds.done ∙ length-set old.done.items y true ∙ growing.done ∙ sym (ap length adds.parents);
      timed = λ n done. subst (λ z. slice_index z.times n < new.count) (sym adds.links) (subst (λ z. slice_index forest.times n < z) (sym adds.count) (elim (was_done n done) [
        | inl same ↦ let now : slice_index forest.times n ≡ old.count = subst (λ z. slice_index forest.times z ≡ old.count) (sym same) timed in omega arith
        | inr before ↦ elim (cases_eq n y) [
          | inl same ↦ let now : slice_index forest.times n ≡ old.count = subst (λ z. slice_index forest.times z ≡ old.count) (sym same) timed in omega arith
          | inr other ↦ let was : slice_index forest.times n ≡ slice_index old.links.times n = others n other in let early : slice_index old.links.times n < old.count = growing.timed n before in omega arith
        ]
      ]));
      met = λ n done. elim (was_done n done) [
        | inl same ↦ met_still n (subst (λ z. is_met old z ≡ true) (sym same) met)
        | inr before ↦ met_still n (growing.met n before)
      ];
      left =
          let one : missing (slice_set old.done.items y true) + 1 ≡ missing old.done.items = missing-set old.done.items y within waits in
          let count : new.count ≡ old.count + 1 = adds.count in
          let same : missing new.done.items ≡ missing (slice_set old.done.items y true) = ap missing adds.done in
          let before : old.count + missing old.done.items ≡ length old.parents.now = growing.left in
          let long : length new.parents.now ≡ length old.parents.now = ap length adds.parents in
          omega arith;
    }

-- the forests of a planted and of an attached number
module _ (old new : Grower) (y : ℕ) (growing : IsGrowing old) (there : y < length old.parents.now) (waits : is_done old y ≡ false) (met : is_met old y ≡ true) where
  in_done : y < length old.done.items
  in_done = let e : length old.done.items ≡ length old.parents.now = growing.done in omega arith

  in_ups : y < length old.links.ups
  in_ups = let e : length old.links.ups ≡ length old.parents.now = growing.ups in omega arith

  in_times : y < length old.links.times
  in_times = let e : length old.links.times ≡ length old.parents.now = growing.times in omega arith

  in_roots : y < length old.links.roots
  in_roots = let e : length old.links.roots ≡ length old.parents.now = growing.roots in omega arith

  in_jumps : y < length old.links.jumps
  in_jumps = let e : length old.links.jumps ≡ length old.parents.now = growing.jumps in omega arith

  pub plants : Adds old new y (planted old.links y old.count) → ((n : ℕ) → is_done old n ≡ true → parent_of old.parents.now n ≡ Some y → ⊥) → ((p : ℕ) → parent_of old.parents.now y ≡ Some p → is_done old p ≡ false) → IsGrowing new
  plants adds closed open_ =
      adds_growing old new y (planted old.links y old.count) adds in_done waits growing met
      (planted_is old.parents.now old.links old.done.items growing.forest y old.count waits in_done in_times in_roots in_jumps closed open_)
      growing.ups (length-set old.links.times y old.count ∙ growing.times) (length-set old.links.roots y y ∙ growing.roots) (length-set old.links.jumps y y ∙ growing.jumps)
      (get_or-set_same old.links.times y old.count 0 in_times) (λ n other. get_or-set_other old.links.times y n old.count 0 other)

  pub attaches : (parent jump : ℕ) → Adds old new y (attached old.links y parent old.count jump) → parent_of old.parents.now y ≡ Some parent → is_done old parent ≡ true
      → (jump ≡ parent) ⊎ (jump ≡ slice_index old.links.jumps (slice_index old.links.jumps parent))
      → ((n : ℕ) → is_done old n ≡ true → parent_of old.links.ups n ≡ None → parent_of old.parents.now n ≡ Some y → slice_index old.links.roots parent ≡ n) → IsGrowing new
  attaches parent jump adds known done jumps closed =
      adds_growing old new y (attached old.links y parent old.count jump) adds in_done waits growing met
      (attached_is old.parents.now old.links old.done.items growing.forest y old.count waits in_done in_times in_roots in_jumps parent jump in_ups known done (growing.timed parent done) jumps closed)
      (length-set old.links.ups y (Some parent) ∙ growing.ups) (length-set old.links.times y old.count ∙ growing.times) (length-set old.links.roots y (slice_index old.links.roots parent) ∙ growing.roots) (length-set old.links.jumps y jump ∙ growing.jumps)
      (get_or-set_same old.links.times y old.count 0 in_times) (λ n other. get_or-set_other old.links.times y n old.count 0 other)
