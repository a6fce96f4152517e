-- A path that is walked: one more number is met.
use Rattle.std.proofs.Common.{◌≡◌, ◌⊎◌, ℕ, ◌+◌, ◌<◌, List, [], ◌∷◌, ◌++◌, true, false, Some, length, sym, ap, ◌∙◌, subst, inl, inr, arith}
use Rattle.std.specs.Prelude.{Contains, slice_index}
use Rattle.std.proofs.lemmas.Bool.{cases_eq}
use Rattle.std.proofs.lemmas.List.{get_or-set_same, get_or-set_other, length-set}
use Rattle.std.proofs.lemmas.List.Elements.{Contains-append_left, Contains-append_cases}
use Rattle.fond_kinds.specs.Parents.{parent_of, are_within}
use Rattle.fond_kinds.specs.Forests.{IsForest, is_marked}
use Rattle.fond_kinds.specs.Growth.{missing, Meets, IsGrowing, IsResting, IsWalking, IsPath, Leads, is_met, is_done}
use Rattle.fond_kinds.specs.declared.grower.Grower.{Grower}
use Rattle.fond_kinds.proofs.Growth.{marked_or_not}
use Rattle.fond_kinds.proofs.Paths.{is_last, the_only, distinct-more, leads-more, none}

module _ (old new : Grower) (x : ℕ) (meets : Meets old new x) (growing : IsGrowing old) (there : x < length old.parents.now) (unmet : is_met old x ≡ false) where
  in_seen : x < length old.seen.items
  in_seen = let e : length old.seen.items ≡ length old.parents.now = growing.seen in omega arith

  pub met_now : is_met new x ≡ true
  met_now = ap (λ z. is_marked z x) meets.seen ∙ get_or-set_same old.seen.items x true false in_seen

  pub still_met : (n : ℕ) → is_met old n ≡ true → is_met new n ≡ true
  still_met n met = elim (cases_eq n x) [
    | inl same ↦ subst (λ z. is_met new z ≡ true) (sym same) met_now
    | inr other ↦ ap (λ z. is_marked z n) meets.seen ∙ get_or-set_other old.seen.items x n true false other ∙ met
  ]

  was_met : (n : ℕ) → is_met new n ≡ true → (n ≡ x) ⊎ (is_met old n ≡ true)
  was_met n met = elim (cases_eq n x) [
    | inl same ↦ inl same
    | inr other ↦ inr (sym (ap (λ z. is_marked z n) meets.seen ∙ get_or-set_other old.seen.items x n true false other) ∙ met)
  ]

  same_done : (n : ℕ) → is_done new n ≡ is_done old n
  same_done n = ap (λ z. is_marked z n) meets.done

  waits_x : is_done old x ≡ false
  waits_x = elim (marked_or_not (is_done old x)) [
    | inl is ↦ let met : is_met old x ≡ true = growing.met x is in let no : true ≡ false = sym met ∙ unmet in cc
    | inr not ↦ not
  ]

  meets_growing : IsGrowing new
  meets_growing = record {
    forest = subst (λ z. IsForest z new.links new.done.items) (sym meets.parents) (subst (λ z. IsForest old.parents.now z new.done.items) (sym meets.links) (subst (λ z. IsForest old.parents.now old.links z) (sym meets.done) growing.forest));
    within = subst (λ z. are_within z ≡ true) (sym meets.parents) growing.within;
    ups = ap (λ z. length z.ups) meets.links ∙ growing.ups ∙ sym (ap length meets.parents);
    times = ap (λ z. length z.times) meets.links ∙ growing.times ∙ sym (ap length meets.parents);
    roots = ap (λ z. length z.roots) meets.links ∙ growing.roots ∙ sym (ap length meets.parents);
    jumps = ap (λ z. length z.jumps) meets.links ∙ growing.jumps ∙ sym (ap length meets.parents);
    seen = ap length meets.seen ∙ length-set old.seen.items x true ∙ growing.seen ∙ sym (ap length meets.parents);
    done = ap length meets.done ∙ growing.done ∙ sym (ap length meets.parents);
    timed = λ n done. subst (λ z. slice_index z.times n < new.count) (sym meets.links) (subst (λ z. slice_index old.links.times n < z) (sym meets.count) (growing.timed n (sym (same_done n) ∙ done)));
    met = λ n done. still_met n (growing.met n (sym (same_done n) ∙ done));
    left =
        let count : new.count ≡ old.count = meets.count in
        let same : missing new.done.items ≡ missing old.done.items = ap missing meets.done in
        let before : old.count + missing old.done.items ≡ length old.parents.now = growing.left in
        let long : length new.parents.now ≡ length old.parents.now = ap length meets.parents in
        omega arith;
  }

  closed : ((n p : ℕ) → is_done old n ≡ true → parent_of old.parents.now n ≡ Some p → is_done old p ≡ true) → (n p : ℕ) → is_done new n ≡ true → parent_of new.parents.now n ≡ Some p → is_done new p ≡ true
  closed before n p done known = same_done p ∙ before n p (sym (same_done n) ∙ done) (ap (λ z. parent_of z n) (sym meets.parents) ∙ known)

  -- a path that waited has one more number
  longer : (path : List ℕ) → IsPath old path → IsPath new (path ++ x ∷ [])
  longer path on_path = record {
    distinct = distinct-more path x on_path.distinct (λ has. let met : is_met old x ≡ true = on_path.met x has in let off : true ≡ false = sym met ∙ unmet in absurd (clash off));
    met = λ n has. elim (Contains-append_cases path (x ∷ []) n has) [
      | inl before ↦ still_met n (on_path.met n before)
      | inr end ↦ subst (λ z. is_met new z ≡ true) (sym (the_only n x end)) met_now
    ];
    waits = λ n has. elim (Contains-append_cases path (x ∷ []) n has) [
      | inl before ↦ same_done n ∙ on_path.waits n before
      | inr end ↦ same_done n ∙ subst (λ z. is_done old z ≡ false) (sym (the_only n x end)) waits_x
    ];
    all = λ n met not. elim (was_met n met) [
      | inl same ↦ subst (λ z. Contains (path ++ x ∷ []) z) (sym same) (is_last path x)
      | inr before ↦ Contains-append_left path (x ∷ []) n (on_path.all n before (sym (same_done n) ∙ not))
    ];
  }
    where
      clash : true ≡ false → ⊥
      clash off = cc

  pub starts : IsResting old → IsWalking new [] x
  starts resting = record {
    growing = meets_growing;
    closed = closed resting.closed;
    on_path = longer [] (record {
      distinct = tt;
      met = λ n has. absurd (none n has);
      waits = λ n has. absurd (none n has);
      all = λ n met not. let done : is_done old n ≡ true = resting.added n met in let off : true ≡ false = sym done ∙ not in absurd (clash off);
    });
    leads = tt;
  }
    where
      clash : true ≡ false → ⊥
      clash off = cc

  pub goes_on : (path : List ℕ) (at : ℕ) → IsWalking old path at → parent_of old.parents.now at ≡ Some x → IsWalking new (path ++ at ∷ []) x
  goes_on path at walking known = record {
    growing = meets_growing;
    closed = closed walking.closed;
    on_path = longer (path ++ at ∷ []) walking.on_path;
    leads = subst (λ z. Leads z (path ++ at ∷ []) x) (sym meets.parents) (leads-more old.parents.now path at x walking.leads known);
  }
