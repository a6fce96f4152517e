-- If the precondition is surely false for each pair of objects of two parameters, no action is kept.
use Rattle.std.proofs.Common.{◌≡◌, ◌<◌, ◌∙◌, inl, inr, ℕ, zero, suc, Bool, false, not, List, [], ◌∷◌, Option, Some, None, map, length, get_or, replicate, set, refl, sym, ap, subst, arith}
use Rattle.std.specs.Prelude.{filter, if◌then◌else◌}
use Rattle.std.specs.declared.alloc.Global.{Global}
use Rattle.std.specs.declared.rc.Rc.{Rc}
use Rattle.std.proofs.lemmas.List.{get_or_default, length-map}
use Rattle.fond_ast.specs.Ranges.{objects_of}
use Rattle.fond_ast.specs.declared.task.LSchema.{LSchema}
use Rattle.fond_ast.specs.declared.task.LiftedTask.{LiftedTask}
use Rattle.fond_ast.specs.Conditions.{tuples}
use Rattle.fond_ast.proofs.Members.{Member, Contains-from_Member, Member-from_flat_map, Member-from_map}
use Rattle.fond_task.specs.declared.form.Kleene.{Kleene}
use Rattle.fond_task.specs.declared.form.Kleene.TheVariants.{No, Unknown}
use Rattle.fond_join.specs.Barren.{IsBarrenPair}
use Rattle.fond_join.specs.Kept.{is_kept, is_no, kept_args, open_value}
use Rattle.fond_join.specs.Partial.{partial_value}
use Rattle.fond_join.specs.Values.{condition_value}
use Rattle.fond_join.proofs.Completed.{no_told}
use Rattle.fond_join.proofs.Sound.{Tells, told}
use Rattle.fond_join.specs.Agree.{Agree}

none_filtered : {X : Type 0} (p : X → Bool) (xs : List X) → ((x : X) → Member xs x → p x ≡ false) → filter p xs ≡ []
none_filtered p [] never = refl
none_filtered p (x ∷ xs) never = ap (λ b. if b then x ∷ filter p xs else filter p xs) (never x (inl refl)) ∙ none_filtered p xs (λ y m. never y (inr m))

agree_none : (objects : List ℕ) → Agree false (replicate (length objects) None) objects
agree_none [] = tt
agree_none (object ∷ objects) = (refl, agree_none objects)

agree_put : (env : List (Option ℕ)) (objects : List ℕ) (parameter : ℕ) → Agree false env objects → Agree false (set env parameter (Some (get_or objects parameter 0))) objects
agree_put [] objects parameter h = h
agree_put (known ∷ env) [] parameter h = absurd h
agree_put (known ∷ env) (object ∷ objects) zero h = (refl, h.1)
agree_put (known ∷ env) (object ∷ objects) (suc parameter) h = (h.0, agree_put env objects parameter h.1)

-- a tuple has an object of each range
tuple_long : (ranges : List (List ℕ)) (objects : List ℕ) → Member (tuples ranges) objects → length objects ≡ length ranges
tuple_long [] objects (inl e) = ap length e
tuple_long [] objects (inr none) = absurd none
tuple_long (range ∷ ranges) objects m =
    let outer = Member-from_flat_map (λ object. map (λ rest. object ∷ rest) (tuples ranges)) range objects m in
    let inner = Member-from_map (λ rest. outer.0 ∷ rest) (tuples ranges) objects outer.2 in
    let rest = tuple_long ranges inner.0 inner.1 in
    ap length inner.2 ∙ (let longer : length (outer.0 ∷ inner.0) ≡ length (range ∷ ranges) = omega arith in longer)

tuple_at : (ranges : List (List ℕ)) (objects : List ℕ) (parameter : ℕ) → Member (tuples ranges) objects → parameter < length ranges → Member (get_or ranges parameter []) (get_or objects parameter 0)
tuple_at [] objects parameter m within = absurd (omega arith)
tuple_at (range ∷ ranges) objects zero m within =
    let outer = Member-from_flat_map (λ object. map (λ rest. object ∷ rest) (tuples ranges)) range objects m in
    let inner = Member-from_map (λ rest. outer.0 ∷ rest) (tuples ranges) objects outer.2 in
    subst (λ list. Member range (get_or list 0 0)) (sym inner.2) outer.1
tuple_at (range ∷ ranges) objects (suc parameter) m within =
    let outer = Member-from_flat_map (λ object. map (λ rest. object ∷ rest) (tuples ranges)) range objects m in
    let inner = Member-from_map (λ rest. outer.0 ∷ rest) (tuples ranges) objects outer.2 in
    subst (λ list. Member (get_or ranges parameter []) (get_or list (suc parameter) 0)) (sym inner.2) (tuple_at ranges inner.0 parameter inner.1 (omega arith))

at_default : (xs : List ℕ) (k x : ℕ) → k < length xs → get_or xs k x ≡ x → get_or xs k 0 ≡ x
at_default xs k x within is = get_or_default xs k 0 x within ∙ is

-- no action is kept if a value that tells the precondition for all objects is No
pub none_kept_if : (task : LiftedTask) (schema : LSchema) (value : Kleene) → value ≡ No → ((objects : List ℕ) → Tells false value (condition_value (open_value task) objects schema.pre)) → kept_args task schema ≡ []
none_kept_if task schema value is tells = none_filtered (is_kept task schema) (tuples (objects_of schema.ranges)) (λ objects m. by objects (tells objects))
  where
    by : (objects : List ℕ) → Tells false value (condition_value (open_value task) objects schema.pre) → is_kept task schema objects ≡ false
    by objects (inl same) = ap (λ v. not (is_no v)) (sym same ∙ is)
    by objects (inr unknown) = let other : No ≡ Unknown = sym is ∙ unknown.0 in absurd (cc (other))

-- a parameter has the object that it had before
pub given_back : (env : List (Option ℕ)) (parameter : ℕ) (object before : Option ℕ) → before ≡ get_or env parameter before → set (set env parameter object) parameter before ≡ env
given_back [] parameter object before is = refl
given_back (known ∷ env) zero object before is = ap (λ k. k ∷ env) is
given_back (known ∷ env) (suc parameter) object before is = ap (λ rest. known ∷ rest) (given_back env parameter object before is)

module _ (task : LiftedTask) (schema : LSchema) (env : List (Option ℕ)) (parameter other : ℕ) (open_env : env ≡ replicate (length schema.ranges) None) where
  abbrev ranges : List (List ℕ)
  ranges = objects_of schema.ranges

  pub none_kept_of_pair : parameter < length schema.ranges → other < length schema.ranges → IsBarrenPair task schema env parameter other → kept_args task schema ≡ []
  none_kept_of_pair first second barren = none_filtered (is_kept task schema) (tuples ranges) (λ objects m.
      let count = length-map schema.ranges (λ (range : Rc (List ℕ) Global). range.value) in
      let one = Contains-from_Member (get_or ranges parameter []) (get_or objects parameter 0) (tuple_at ranges objects parameter m (subst (λ n. parameter < n) (sym count) first)) in
      let two = Contains-from_Member (get_or ranges other []) (get_or objects other 0) (tuple_at ranges objects other m (subst (λ n. other < n) (sym count) second)) in
      let agree = subst (λ around. Agree false around objects) (ap (λ n. replicate n None) (tuple_long ranges objects m ∙ count) ∙ sym open_env) (agree_none objects) in
      let both = agree_put (set env parameter (Some (get_or objects parameter 0))) objects other (agree_put env objects parameter agree) in
      let around = λ (a b : ℕ). set (set env parameter (Some a)) other (Some b) in
      let first_is = at_default (get_or ranges parameter []) one.0 (get_or objects parameter 0) one.1 one.2 in
      let second_is = at_default (get_or ranges other []) two.0 (get_or objects other 0) two.1 two.2 in
      let same : around (get_or (get_or ranges parameter []) one.0 0) (get_or (get_or ranges other []) two.0 0) ≡ around (get_or objects parameter 0) (get_or objects other 0) = λ i. around (first_is i) (second_is i) in
      let h = subst (λ env. not (is_no (partial_value task env schema.pre)) ≡ false) same (barren one.0 one.1 two.0 two.1) in
      no_told task schema (partial_value task (around (get_or objects parameter 0) (get_or objects other 0)) schema.pre) (condition_value (open_value task) objects schema.pre)
      (told task false schema.pre (around (get_or objects parameter 0) (get_or objects other 0)) objects both) h)
