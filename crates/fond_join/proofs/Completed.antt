-- What a search leaves out, and what it keeps.
use Rattle.std.proofs.Common.{◌≡◌, ◌<◌, inl, inr, ℕ, zero, suc, ◌+◌, Bool, true, false, not, List, [], ◌∷◌, ◌++◌, Option, Some, None, map, length, refl, sym, ap, subst, ◌∙◌, true≢false, drop, get_or, set, arith}
use Rattle.std.proofs.lemmas.Grind.{common_steps}
use Rattle.std.specs.Prelude.{filter, is_some, slice_get, if◌then◌else◌, IsTrue}
use Rattle.std.specs.List.{flat_map, list_all}
use Rattle.std.specs.declared.alloc.Global.{Global}
use Rattle.std.specs.declared.rc.Rc.{Rc}
use Rattle.std.proofs.lemmas.List.{map-append, append_assoc}
use Rattle.fond_ast.specs.Ranges.{RangeList, objects_of}
use Rattle.fond_ast.specs.declared.task.LSchema.{LSchema}
use Rattle.fond_ast.specs.declared.task.LiftedTask.{LiftedTask}
use Rattle.fond_task.specs.declared.form.Kleene.{Kleene}
use Rattle.fond_task.specs.declared.form.Kleene.TheVariants.{No, Unknown, Yes}
use Rattle.fond_join.specs.Candidates.{AreCandidates}
use Rattle.fond_join.specs.Kept.{is_kept, is_no, open_value}
use Rattle.fond_join.specs.Partial.{partial_value}
use Rattle.fond_join.specs.Search.{arguments, completions, IsOrder, kept_completions}
use Rattle.fond_join.specs.Values.{condition_value}
use Rattle.fond_join.proofs.Items.{drop_item}
use Rattle.fond_join.proofs.Sound.{Tells, told}
use Rattle.fond_join.specs.Agree.{Agree, TellsObject}

pub filter-append : {X : Type 0} (p : X → Bool) (xs ys : List X) → filter p (xs ++ ys) ≡ filter p xs ++ filter p ys
filter-append p [] ys = refl
filter-append p (x ∷ xs) ys = by (p x) (filter-append p xs ys)
  where
    by : (b : Bool) → filter p (xs ++ ys) ≡ filter p xs ++ filter p ys → (if b then x ∷ filter p (xs ++ ys) else filter p (xs ++ ys)) ≡ (if b then x ∷ filter p xs else filter p xs) ++ filter p ys
    by true rest = ap (λ zs. x ∷ zs) rest
    by false rest = rest

own : (full : Bool) (env : List (Option ℕ)) → (full ≡ true → IsTrue (list_all (λ object. is_some object) env)) → Agree full env (arguments env)
own full [] all = tt
own full (None ∷ env) all = (by full all, own full env (λ e. absurd (true≢false (sym (all e)))))
  where
    by : (b : Bool) → (b ≡ true → false ≡ true) → b ≡ false
    by true h = absurd (true≢false (sym (h refl)))
    by false h = refl
own full (Some object ∷ env) all = (refl, own full env all)

-- objects that agree with parameters agree with them if one that has no object is given one
forget : (env : List (Option ℕ)) (parameter object : ℕ) (objects : List ℕ) → get_or env parameter (Some 0) ≡ None → Agree false (set env parameter (Some object)) objects → Agree false env objects
forget [] parameter object objects none h = h
forget (known ∷ env) zero object [] none h = absurd h
forget (known ∷ env) zero object (first ∷ objects) none h = (subst (λ k. TellsObject false k first) (sym none) refl, h.1)
forget (known ∷ env) (suc parameter) object [] none h = absurd h
forget (known ∷ env) (suc parameter) object (first ∷ objects) none h = (h.0, forget env parameter object objects none h.1)

-- objects that agree with parameters have the object that one of them is given
agree_at : (env : List (Option ℕ)) (parameter object : ℕ) (objects : List ℕ) → get_or env parameter (Some 0) ≡ None → Agree false (set env parameter (Some object)) objects → get_or objects parameter 0 ≡ object
agree_at [] parameter object objects none h = cc
agree_at (known ∷ env) zero object [] none h = absurd h
agree_at (known ∷ env) zero object (first ∷ objects) none h = sym h.0
agree_at (known ∷ env) (suc parameter) object [] none h = absurd h
agree_at (known ∷ env) (suc parameter) object (first ∷ objects) none h = agree_at env parameter object objects none h.1

longer : {X : Type 0} (xs ys zs : List X) (most : ℕ) → most < length (xs ++ ys) → most < length (xs ++ (ys ++ zs))
longer xs ys zs most more = grind (arith, common_steps)

module _ (ranges : List (List ℕ)) (p : List ℕ → Bool) where
  -- the completions that pass a test
  abbrev pub passing : List (Option ℕ) → List ℕ → List (List ℕ)
  passing env order = filter p (map arguments (completions ranges env order))

  -- the completions that pass, for each of some objects of a parameter
  abbrev pub passing_from : List (Option ℕ) → ℕ → List ℕ → List ℕ → List (List ℕ)
  passing_from env parameter order objects = filter p (map arguments (flat_map (λ object. completions ranges (set env parameter (Some object)) order) objects))

  pub passing_first : (env : List (Option ℕ)) (parameter : ℕ) (order : List ℕ) (object : ℕ) (objects : List ℕ) →
      passing_from env parameter order (object ∷ objects) ≡ passing (set env parameter (Some object)) order ++ passing_from env parameter order objects
  passing_first env parameter order object objects =
      ap (filter p) (map-append arguments (completions ranges (set env parameter (Some object)) order) _) ∙ filter-append p (map arguments (completions ranges (set env parameter (Some object)) order)) _

  none_from : (env : List (Option ℕ)) (parameter : ℕ) (order : List ℕ) → ((object : ℕ) → passing (set env parameter (Some object)) order ≡ []) → (objects : List ℕ) → passing_from env parameter order objects ≡ []
  none_from env parameter order each [] = refl
  none_from env parameter order each (object ∷ objects) =
      passing_first env parameter order object objects ∙ (λ i. each object i ++ none_from env parameter order each objects i)

  -- no completion passes if none that agrees with the parameters does
  none_passes : (env : List (Option ℕ)) (order : List ℕ) → IsOrder env order → ((objects : List ℕ) → Agree false env objects → p objects ≡ false) → passing env order ≡ []
  none_passes env [] is never = ap (λ b. if b then arguments env ∷ [] else []) (never (arguments env) (own false env (λ e. absurd (true≢false (sym e)))))
  none_passes env (parameter ∷ order) is never =
      none_from env parameter order
      (λ object. none_passes (set env parameter (Some object)) order (is.1 object) (λ objects agree. never objects (forget env parameter object objects is.0 agree)))
      (get_or ranges parameter [])

  -- only the objects that pass a test have to be tried, if the parameter's object passes it wherever a completion passes
  pub only_tested : (env : List (Option ℕ)) (parameter : ℕ) (order : List ℕ) (test : ℕ → Bool) → IsOrder env (parameter ∷ order) →
      ((objects : List ℕ) → Agree false env objects → p objects ≡ true → test (get_or objects parameter 0) ≡ true) → (range : List ℕ) → passing_from env parameter order (filter test range) ≡ passing_from env parameter order range
  only_tested env parameter order test is needed [] = refl
  only_tested env parameter order test is needed (object ∷ range) = by (test object) refl (only_tested env parameter order test is needed range)
    where
      never : test object ≡ false → (objects : List ℕ) → Agree false (set env parameter (Some object)) objects → (b : Bool) → p objects ≡ b → b ≡ false
      never fails objects agree false passes = refl
      never fails objects agree true passes = absurd (true≢false (
          sym (needed objects (forget env parameter object objects is.0 agree) passes) ∙ ap test (agree_at env parameter object objects is.0 agree) ∙ fails))

      by : (b : Bool) → test object ≡ b → passing_from env parameter order (filter test range) ≡ passing_from env parameter order range →
          passing_from env parameter order (if b then object ∷ filter test range else filter test range) ≡ passing_from env parameter order (object ∷ range)
      by true passes rest =
          passing_first env parameter order object (filter test range) ∙ ap (λ all. passing (set env parameter (Some object)) order ++ all) rest ∙ sym (passing_first env parameter order object range)
      by false fails rest =
          rest ∙ sym (passing_first env parameter order object range ∙ ap (λ all. all ++ passing_from env parameter order range)
          (none_passes (set env parameter (Some object)) order (is.1 object) (λ objects agree. never fails objects agree (p objects) refl)))

  -- the completions with the next object are found
  pub next_found : (env : List (Option ℕ)) (parameter : ℕ) (order objects : List ℕ) (i object : ℕ) (before after whole : List (List ℕ)) → i < length objects → object ≡ get_or objects i object →
      after ≡ before ++ passing (set env parameter (Some object)) order → before ++ passing_from env parameter order (drop i objects) ≡ whole → after ++ passing_from env parameter order (drop (i + 1) objects) ≡ whole
  next_found env parameter order objects i object before after whole within is found left =
      ap (λ all. all ++ passing_from env parameter order (drop (i + 1) objects)) found
      ∙ append_assoc before (passing (set env parameter (Some object)) order) (passing_from env parameter order (drop (i + 1) objects))
      ∙ ap (λ all. before ++ all) (sym (ap (passing_from env parameter order) (drop_item objects i object within is) ∙ passing_first env parameter order object (drop (i + 1) objects)))
      ∙ left

  -- there are too many completions if there are too many with the next object
  pub too_many : (env : List (Option ℕ)) (parameter : ℕ) (order objects : List ℕ) (i object most : ℕ) (before whole : List (List ℕ)) → i < length objects → object ≡ get_or objects i object →
      most < length (before ++ passing (set env parameter (Some object)) order) → before ++ passing_from env parameter order (drop i objects) ≡ whole → most < length whole
  too_many env parameter order objects i object most before whole within is more left =
      subst (λ all. most < length all) (ap (λ all. before ++ all) (sym (ap (passing_from env parameter order) (drop_item objects i object within is) ∙ passing_first env parameter order object (drop (i + 1) objects))) ∙ left)
      (longer before (passing (set env parameter (Some object)) order) (passing_from env parameter order (drop (i + 1) objects)) most more)

-- a parameter that has no object is one of those there are
pub none_within : (env : List (Option ℕ)) (parameter : ℕ) → get_or env parameter (Some 0) ≡ None → parameter < length env
none_within env parameter none = grind (arith, common_steps)

-- the objects of a range
pub range_at : (ranges : RangeList) (parameter : ℕ) (range : Rc (List ℕ) Global) → slice_get ranges parameter ≡ Some range → range.value ≡ get_or (objects_of ranges) parameter []
range_at [] parameter range is = cc
range_at (first ∷ ranges) zero range is = let same : first ≡ range = cc in ap (λ r. r.value) (sym same)
range_at (first ∷ ranges) (suc parameter) range is = range_at ranges parameter range is

-- a parameter that had no object has none again
pub restored : (env : List (Option ℕ)) (parameter : ℕ) (object : Option ℕ) → get_or env parameter (Some 0) ≡ None → set (set env parameter object) parameter None ≡ env
restored [] parameter object none = refl
restored (known ∷ env) zero object none = ap (λ k. k ∷ env) (sym none)
restored (known ∷ env) (suc parameter) object none = ap (λ rest. known ∷ rest) (restored env parameter object none)

module _ (task : LiftedTask) (schema : LSchema) where
  pub no_told : (value other : Kleene) → Tells false value other → not (is_no value) ≡ false → not (is_no other) ≡ false
  no_told value other (inl e) h = subst (λ v. not (is_no v) ≡ false) e h
  no_told value other (inr e) h = absurd (true≢false (subst (λ v. not (is_no v) ≡ false) e.0 h))

  -- no completion is kept if the precondition is surely false
  pub none_kept : (env : List (Option ℕ)) (order : List ℕ) → IsOrder env order → not (is_no (partial_value task env schema.pre)) ≡ false → kept_completions task schema env order ≡ []
  none_kept env order is h = none_passes (objects_of schema.ranges) (is_kept task schema) env order is (λ objects agree.
      no_told (partial_value task env schema.pre) (condition_value (open_value task) objects schema.pre) (told task false schema.pre env objects agree) h)

  yes_told : (value other : Kleene) → Tells true value other → not (is_no value) ≡ true → not (is_no other) ≡ true
  yes_told value other (inl e) h = subst (λ v. not (is_no v) ≡ true) e h
  yes_told value other (inr e) h = absurd (true≢false e.1)

  -- the parameters' objects are kept if each has one and the precondition may be true
  pub one_kept : (env : List (Option ℕ)) → IsTrue (list_all (λ object. is_some object) env) → not (is_no (partial_value task env schema.pre)) ≡ true → kept_completions task schema env [] ≡ arguments env ∷ []
  one_kept env all h = ap (λ b. if b then arguments env ∷ [] else [])
      (yes_told (partial_value task env schema.pre) (condition_value (open_value task) (arguments env) schema.pre) (told task true schema.pre env (arguments env) (own true env (λ e. all))) h)

  possible : (value : Kleene) → not (is_no value) ≡ true → is_no value ≡ false
  possible No h = sym h
  possible Unknown h = refl
  possible Yes h = refl

  -- only the candidates of a parameter have to be tried
  pub candidates_enough : (env : List (Option ℕ)) (parameter : ℕ) (order : List ℕ) → IsOrder env (parameter ∷ order) → (candidates : List ℕ) → AreCandidates task schema env parameter candidates →
      passing_from (objects_of schema.ranges) (is_kept task schema) env parameter order candidates ≡ kept_completions task schema env (parameter ∷ order)
  candidates_enough env parameter order is candidates are =
      ap (passing_from (objects_of schema.ranges) (is_kept task schema) env parameter order) are.2
      ∙ only_tested (objects_of schema.ranges) (is_kept task schema) env parameter order are.0 is
      (λ objects agree kept. are.1 objects agree (possible (condition_value (open_value task) objects schema.pre) kept)) (get_or (objects_of schema.ranges) parameter [])
