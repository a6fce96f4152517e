-- A forest with one more number is a forest.
use Rattle.std.proofs.Common.{◌≡◌, ◌≢◌, ◌⊎◌, ℕ, ◌<◌, List, Bool, true, false, Option, Some, None, length, sym, ap, ◌∙◌, subst, inl, inr}
use Rattle.std.specs.Prelude.{slice_index, slice_set}
use Rattle.std.proofs.lemmas.Bool.{cases_eq}
use Rattle.std.proofs.lemmas.List.{get_or-set_same, get_or-set_other}
use Rattle.fond_kinds.specs.Parents.{parent_of}
use Rattle.fond_kinds.specs.Forests.{Forest, IsForest, is_marked, planted, attached}

module _ (parents : List (Option ℕ)) (forest : Forest) (marks : List Bool) (is : IsForest parents forest marks) (y : ℕ) (time : ℕ)
    (new : is_marked marks y ≡ false) (in_marks : y < length marks) (in_times : y < length forest.times) (in_roots : y < length forest.roots) (in_jumps : y < length forest.jumps) where
  abbrev now : List Bool
  now = slice_set marks y true

  now_marked : is_marked now y ≡ true
  now_marked = get_or-set_same marks y true false in_marks

  still_marked : (n : ℕ) → is_marked marks n ≡ true → is_marked now n ≡ true
  still_marked n marked = elim (cases_eq n y) [
    | inl same ↦ subst (λ z. is_marked now z ≡ true) (sym same) now_marked
    | inr other ↦ get_or-set_other marks y n true false other ∙ marked
  ]

  other : (n : ℕ) → is_marked marks n ≡ true → n ≢ y
  other n marked same = let is_y : is_marked marks y ≡ true = subst (λ z. is_marked marks z ≡ true) same marked in let no : true ≡ false = sym is_y ∙ new in cc

  -- a number that is marked now is the new one or was marked before
  either : (n : ℕ) → is_marked now n ≡ true → (n ≡ y) ⊎ (is_marked marks n ≡ true)
  either n marked = elim (cases_eq n y) [
    | inl same ↦ inl same
    | inr not ↦ inr (sym (get_or-set_other marks y n true false not) ∙ marked)
  ]

  kept_list : (xs : List ℕ) (v n : ℕ) → is_marked marks n ≡ true → slice_index (slice_set xs y v) n ≡ slice_index xs n
  kept_list xs v n marked = get_or-set_other xs y n v 0 (other n marked)

  jumps_kept : (v n p : ℕ) → is_marked marks n ≡ true → is_marked marks p ≡ true → (slice_index forest.jumps n ≡ p) ⊎ (slice_index forest.jumps n ≡ slice_index forest.jumps (slice_index forest.jumps p))
      → (slice_index (slice_set forest.jumps y v) n ≡ p) ⊎ (slice_index (slice_set forest.jumps y v) n ≡ slice_index (slice_set forest.jumps y v) (slice_index (slice_set forest.jumps y v) p))
  jumps_kept v n p n_marked p_marked (inl same) = inl (kept_list forest.jumps v n n_marked ∙ same)
  jumps_kept v n p n_marked p_marked (inr same) =
      let one : slice_index (slice_set forest.jumps y v) p ≡ slice_index forest.jumps p = kept_list forest.jumps v p p_marked in
      let two : slice_index (slice_set forest.jumps y v) (slice_index forest.jumps p) ≡ slice_index forest.jumps (slice_index forest.jumps p) = kept_list forest.jumps v _ (is.jump_marked p p_marked) in
      inr (kept_list forest.jumps v n n_marked ∙ same ∙ sym two ∙ ap (λ z. slice_index (slice_set forest.jumps y v) z) (sym one))

  -- the new number as the root of a tree: no marked number has it as its parent, and its own parent is not marked
  pub planted_is : ((n : ℕ) → is_marked marks n ≡ true → parent_of parents n ≡ Some y → ⊥) → ((p : ℕ) → parent_of parents y ≡ Some p → is_marked marks p ≡ false) → IsForest parents (planted forest y time) now
  planted_is closed open_ = record {
    kept = is.kept;
    marked = λ n p up. still_marked n (is.marked n p up);
    up_marked = λ n p up. still_marked p (is.up_marked n p up);
    later = λ n p up. subst (λ z. z < slice_index (slice_set forest.times y time) n) (sym (kept_list forest.times time p (is.up_marked n p up))) (subst (λ z. slice_index forest.times p < z) (sym (kept_list forest.times time n (is.marked n p up))) (is.later n p up));
    rooted = λ n p up. kept_list forest.roots y n (is.marked n p up) ∙ is.rooted n p up ∙ sym (kept_list forest.roots y p (is.up_marked n p up));
    jumps = λ n p up. jumps_kept y n p (is.marked n p up) (is.up_marked n p up) (is.jumps n p up);
    jump_marked = λ n marked. elim (either n marked) [
      | inl same ↦ subst (λ z. is_marked now (slice_index (slice_set forest.jumps y y) z) ≡ true) (sym same) (ap (λ z. is_marked now z) (get_or-set_same forest.jumps y y 0 in_jumps) ∙ now_marked)
      | inr before ↦ ap (λ z. is_marked now z) (kept_list forest.jumps y n before) ∙ still_marked _ (is.jump_marked n before)
    ];
    top = λ n marked up. elim (either n marked) [
      | inl same ↦ subst (λ z. slice_index (slice_set forest.roots y y) z ≡ z) (sym same) (get_or-set_same forest.roots y y 0 in_roots)
      | inr before ↦ kept_list forest.roots y n before ∙ is.top n before up
    ];
    still = λ n marked up. elim (either n marked) [
      | inl same ↦ subst (λ z. slice_index (slice_set forest.jumps y y) z ≡ z) (sym same) (get_or-set_same forest.jumps y y 0 in_jumps)
      | inr before ↦ kept_list forest.jumps y n before ∙ is.still n before up
    ];
    back = λ n p marked up known p_marked. elim (either n marked) [
      | inl same ↦ elim (either p p_marked) [
        | inl itself ↦ subst (λ z. slice_index (slice_set forest.roots y y) z ≡ n) (sym itself) (get_or-set_same forest.roots y y 0 in_roots ∙ sym same)
        | inr before ↦ let its : parent_of parents y ≡ Some p = ap (λ z. parent_of parents z) (sym same) ∙ known in let no : true ≡ false = sym before ∙ open_ p its in cc
      ]
      | inr before ↦ elim (either p p_marked) [
        | inl itself ↦ absurd (closed n before (known ∙ ap (λ z. Some z) itself))
        | inr p_before ↦ kept_list forest.roots y p p_before ∙ is.back n p before up known p_before
      ]
    ];
  }

  module _ (parent jump : ℕ) (in_ups : y < length forest.ups) (known_parent : parent_of parents y ≡ Some parent) (parent_marked : is_marked marks parent ≡ true) (earlier : slice_index forest.times parent < time)
      (jumps : (jump ≡ parent) ⊎ (jump ≡ slice_index forest.jumps (slice_index forest.jumps parent)))
      (closed : (n : ℕ) → is_marked marks n ≡ true → parent_of forest.ups n ≡ None → parent_of parents n ≡ Some y → slice_index forest.roots parent ≡ n) where
    abbrev root : ℕ
    root = slice_index forest.roots parent

    abbrev ups : List (Option ℕ)
    ups = slice_set forest.ups y (Some parent)

    -- what a number keeps now: the new one its parent, and the others what they kept
    keeps : (P : ℕ → ℕ → Type 0) → P y parent → ((n p : ℕ) → n ≢ y → parent_of forest.ups n ≡ Some p → P n p) → (n p : ℕ) → parent_of ups n ≡ Some p → P n p
    keeps P itself others n p known = elim (cases_eq n y) [
      | inl same ↦
          let its : parent_of ups y ≡ Some p = ap (λ z. parent_of ups z) (sym same) ∙ known in
          let found : Some parent ≡ Some p = sym (get_or-set_same forest.ups y (Some parent) None in_ups) ∙ its in
          let equal : parent ≡ p = cc in
          subst (λ z. P z p) (sym same) (subst (λ z. P y z) equal itself)
      | inr not ↦ others n p not (sym (get_or-set_other forest.ups y n (Some parent) None not) ∙ known)
    ]

    keeps_none : (n : ℕ) → parent_of ups n ≡ None → (n ≢ y) × (parent_of forest.ups n ≡ None)
    keeps_none n known = elim (cases_eq n y) [
      | inl same ↦
          let its : parent_of ups y ≡ None = ap (λ z. parent_of ups z) (sym same) ∙ known in
          let no : Some parent ≡ None = sym (get_or-set_same forest.ups y (Some parent) None in_ups) ∙ its in cc
      | inr not ↦ (not, sym (get_or-set_other forest.ups y n (Some parent) None not) ∙ known)
    ]

    before : (n : ℕ) → is_marked now n ≡ true → n ≢ y → is_marked marks n ≡ true
    before n marked not = sym (get_or-set_other marks y n true false not) ∙ marked

    jumps_marked : is_marked marks jump ≡ true
    jumps_marked = elim jumps [
      | inl same ↦ ap (λ z. is_marked marks z) same ∙ parent_marked
      | inr same ↦ ap (λ z. is_marked marks z) same ∙ is.jump_marked _ (is.jump_marked parent parent_marked)
    ]

    new_jumps : (slice_index (slice_set forest.jumps y jump) y ≡ parent) ⊎ (slice_index (slice_set forest.jumps y jump) y ≡ slice_index (slice_set forest.jumps y jump) (slice_index (slice_set forest.jumps y jump) parent))
    new_jumps = elim jumps [
      | inl same ↦ inl (get_or-set_same forest.jumps y jump 0 in_jumps ∙ same)
      | inr same ↦
          let one : slice_index (slice_set forest.jumps y jump) parent ≡ slice_index forest.jumps parent = kept_list forest.jumps jump parent parent_marked in
          let two : slice_index (slice_set forest.jumps y jump) (slice_index forest.jumps parent) ≡ slice_index forest.jumps (slice_index forest.jumps parent) = kept_list forest.jumps jump _ (is.jump_marked parent parent_marked) in
          inr (get_or-set_same forest.jumps y jump 0 in_jumps ∙ same ∙ sym two ∙ ap (λ z. slice_index (slice_set forest.jumps y jump) z) (sym one))
    ]

    -- the new number below its parent, which is marked: if some root has lost the new number as its parent, it is the root of
    -- the parent's tree
    pub attached_is : IsForest parents (attached forest y parent time jump) now
    attached_is = record {
      kept = keeps (λ n p. parent_of parents n ≡ Some p) known_parent (λ n p not up. is.kept n p up);
      marked = keeps (λ n p. is_marked now n ≡ true) now_marked (λ n p not up. still_marked n (is.marked n p up));
      up_marked = keeps (λ n p. is_marked now p ≡ true) (still_marked parent parent_marked) (λ n p not up. still_marked p (is.up_marked n p up));
      later = keeps (λ n p. slice_index (slice_set forest.times y time) p < slice_index (slice_set forest.times y time) n)
          (subst (λ z. slice_index (slice_set forest.times y time) parent < z) (sym (get_or-set_same forest.times y time 0 in_times)) (subst (λ z. z < time) (sym (kept_list forest.times time parent parent_marked)) earlier))
          (λ n p not up. subst (λ z. z < slice_index (slice_set forest.times y time) n) (sym (kept_list forest.times time p (is.up_marked n p up))) (subst (λ z. slice_index forest.times p < z) (sym (kept_list forest.times time n (is.marked n p up))) (is.later n p up)));
      rooted = keeps (λ n p. slice_index (slice_set forest.roots y root) n ≡ slice_index (slice_set forest.roots y root) p)
          (get_or-set_same forest.roots y root 0 in_roots ∙ sym (kept_list forest.roots root parent parent_marked))
          (λ n p not up. kept_list forest.roots root n (is.marked n p up) ∙ is.rooted n p up ∙ sym (kept_list forest.roots root p (is.up_marked n p up)));
      jumps = keeps (λ n p. (slice_index (slice_set forest.jumps y jump) n ≡ p) ⊎ (slice_index (slice_set forest.jumps y jump) n ≡ slice_index (slice_set forest.jumps y jump) (slice_index (slice_set forest.jumps y jump) p)))
          new_jumps (λ n p not up. jumps_kept jump n p (is.marked n p up) (is.up_marked n p up) (is.jumps n p up));
      jump_marked = λ n marked. elim (either n marked) [
        | inl same ↦ subst (λ z. is_marked now (slice_index (slice_set forest.jumps y jump) z) ≡ true) (sym same) (ap (λ z. is_marked now z) (get_or-set_same forest.jumps y jump 0 in_jumps) ∙ still_marked jump jumps_marked)
        | inr was ↦ ap (λ z. is_marked now z) (kept_list forest.jumps jump n was) ∙ still_marked _ (is.jump_marked n was)
      ];
      top = λ n marked up. let old = keeps_none n up in let was : is_marked marks n ≡ true = before n marked old.0 in kept_list forest.roots root n was ∙ is.top n was old.1;
      still = λ n marked up. let old = keeps_none n up in let was : is_marked marks n ≡ true = before n marked old.0 in kept_list forest.jumps jump n was ∙ is.still n was old.1;
      back = λ n p marked up known p_marked.
          let old = keeps_none n up in
          let was : is_marked marks n ≡ true = before n marked old.0 in
          elim (either p p_marked) [
            | inl itself ↦ subst (λ z. slice_index (slice_set forest.roots y root) z ≡ n) (sym itself) (get_or-set_same forest.roots y root 0 in_roots ∙ closed n was old.1 (known ∙ ap (λ z. Some z) itself))
            | inr p_was ↦ kept_list forest.roots root p p_was ∙ is.back n p was old.1 known p_was
          ];
    }
