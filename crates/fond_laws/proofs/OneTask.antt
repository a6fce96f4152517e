-- Files that are the same are resolved to tasks that are the same.
use Rattle.std.proofs.Common.{◌≡◌, ℕ, ◌∙◌, ◌||◌, ◌++◌, Bool, true, List, [], ◌∷◌, map, refl, sym, ap, subst}
use Rattle.std.specs.List.{AllZip, list_any}
use Rattle.std.specs.Str.{bytes_eq}
use Rattle.std.proofs.lemmas.Bool.Decides.{same_from_decides}
use Rattle.fond_text.specs.Lists.{each_passes, are_distinct_texts}
use Rattle.fond_ast.specs.declared.files.Declared.{Declared}
use Rattle.fond_ast.specs.declared.files.Schema.{Schema}
use Rattle.fond_ast.specs.declared.files.Side.{Side}
use Rattle.fond_ast.specs.declared.task.LPredicate.{LPredicate}
use Rattle.fond_ast.specs.declared.task.LSchema.{LSchema}
use Rattle.fond_ast.specs.declared.task.LiftedTask.{LiftedTask}
use Rattle.fond_kinds.specs.Kinds.{IsSubtype}
use Rattle.fond_names.specs.Names.{Declarations, all_objects, firsts, objects_declared, predicates_declared}
use Rattle.fond_types.specs.Resolves.{IsResolved, HasParts, IsResolvedPredicate, IsResolvedSchema, Meanings, meanings_of, range_of, is_condition, is_effect, is_ground_atom, is_pattern, patterns_of, positive, mentions}
use Rattle.fond_types.proofs.Firsts.{distinct_names, names_of_firsts}
use Rattle.fond_laws.specs.Read.{AreSameFiles, IsSameWritten}
use Rattle.fond_laws.specs.Lifted.{IsSameLifted, IsSamePredicate, IsSameSchema}
use Rattle.fond_laws.proofs.OneTaskNumbers.{one_ground_list}
use Rattle.fond_laws.proofs.OneTaskPatterns.{one_patterns}
use Rattle.fond_laws.proofs.OneTaskConditions.{same_condition, same_ranges}
use Rattle.fond_laws.proofs.OneTaskEffects.{same_effect, same_mentions}
use Rattle.fond_laws.proofs.SameLists.{zip-both, zip-square}

-- the names of the first items of each name are distinct
distinct_firsts : {A : Type 0} (name : A → List ℕ) (items : List A) → are_distinct_texts (map name (firsts name items)) ≡ true
distinct_firsts name items = ap are_distinct_texts (names_of_firsts name [] items) ∙ distinct_names [] (map name items) refl

-- schemas that are the same mention the same predicates
same_fluent : (name : List ℕ) (schemas others : List Schema) → AllZip IsSameWritten schemas others → list_any (λ (schema : Schema). mentions name schema.effect) schemas ≡ list_any (λ (schema : Schema). mentions name schema.effect) others
same_fluent name [] [] e = refl
same_fluent name [] (other ∷ others) e = absurd e
same_fluent name (schema ∷ schemas) [] e = absurd e
same_fluent name (schema ∷ schemas) (other ∷ others) e = λ i. same_mentions name schema.effect other.effect e.0.effect i || same_fluent name schemas others e.1 i

module _ (meanings : Meanings) (predicates : are_distinct_texts meanings.predicates ≡ true) (objects : are_distinct_texts meanings.objects ≡ true) where
  -- a declared predicate is resolved to predicates that are the same
  same_predicate : (schemas others : List Schema) → AllZip IsSameWritten schemas others → (declared : Declared) (number next : LPredicate) → IsResolvedPredicate meanings schemas declared number → IsResolvedPredicate meanings others declared next → IsSamePredicate number next
  same_predicate schemas others e declared number next h k = record {
    named = h.named ∙ sym k.named;
    ranges = same_ranges meanings predicates objects declared.parameters declared.parameters number.ranges next.ranges refl h.ranges k.ranges;
    fluent = h.fluent ∙ same_fluent declared.name schemas others e ∙ sym k.fluent;
  }

  -- declared predicates are resolved to lists of predicates that are the same, one by one
  same_predicates : (schemas others : List Schema) → AllZip IsSameWritten schemas others → (declared : List Declared) (numbers nexts : List LPredicate) → AllZip (IsResolvedPredicate meanings schemas) declared numbers → AllZip (IsResolvedPredicate meanings others) declared nexts →
      AllZip IsSamePredicate numbers nexts
  same_predicates schemas others e = zip-both (IsResolvedPredicate meanings schemas) (IsResolvedPredicate meanings others) IsSamePredicate (same_predicate schemas others e)

  -- schemas that are the same are resolved to schemas that are the same
  same_schema : (side : Side) (schema other : Schema) (number next : LSchema) → IsSameWritten schema other → IsResolvedSchema meanings side schema number → IsResolvedSchema meanings side other next → IsSameSchema number next
  same_schema side schema other number next e h k = record {
    place = h.place ∙ e.place ∙ sym k.place;
    named = h.named ∙ e.named ∙ sym k.named;
    ranges = same_ranges meanings predicates objects schema.parameters other.parameters number.ranges next.ranges e.parameters h.ranges k.ranges;
    pre = same_condition meanings predicates objects schema.pre other.pre (schema.parameters ∷ []) number.pre next.pre e.pre h.pre (ap (λ names. is_condition meanings other.pre (names ∷ []) next.pre) e.parameters ∙ k.pre);
    effect = same_effect meanings predicates objects schema.effect other.effect (schema.parameters ∷ []) number.effect next.effect e.effect h.effect (ap (λ names. is_effect meanings other.effect (names ∷ []) next.effect) e.parameters ∙ k.effect);
    unfair = h.unfair ∙ ap (λ name. list_any (λ leaf. bytes_eq leaf.name name) side.names) e.named ∙ sym k.unfair;
    patterns = one_patterns meanings objects (patterns_of side schema.name) number.patterns next.patterns h.patterns (ap (λ name. each_passes (map (is_pattern meanings) (patterns_of side name)) next.patterns) e.named ∙ k.patterns);
  }

  -- lists of schemas that are the same are resolved to schemas that are the same, one by one
  same_schemas : (side : Side) (schemas others : List Schema) (numbers nexts : List LSchema) → AllZip IsSameWritten schemas others → AllZip (IsResolvedSchema meanings side) schemas numbers → AllZip (IsResolvedSchema meanings side) others nexts → AllZip IsSameSchema numbers nexts
  same_schemas side schemas others numbers nexts = zip-square IsSameWritten (IsResolvedSchema meanings side) (IsResolvedSchema meanings side) IsSameSchema (same_schema side) schemas others numbers nexts

  -- files that are the same have tasks that are the same if their names stand for the same
  same_parts : (files others : Declarations) (task other : LiftedTask) → AreSameFiles files others → HasParts meanings files task → HasParts meanings others other → IsSameLifted task other
  same_parts files others task other e h k = record {
    place = h.place ∙ e.domain.place ∙ sym k.place;
    objects = h.objects ∙ sym k.objects;
    predicates =
        same_predicates files.domain.schemas others.domain.schemas e.domain.schemas (predicates_declared files.domain) task.predicates other.predicates h.predicates
        (subst (λ (declared : List Declared). AllZip (IsResolvedPredicate meanings others.domain.schemas) (firsts (λ (one : Declared). one.name) declared) other.predicates) (sym e.domain.predicates) k.predicates);
    schemas =
        same_schemas files.side files.domain.schemas others.domain.schemas task.schemas other.schemas e.domain.schemas h.schemas
        (subst (λ (side : Side). AllZip (IsResolvedSchema meanings side) others.domain.schemas other.schemas) (sym e.side) k.schemas);
    init = one_ground_list meanings predicates objects (positive files.problem.init) task.init other.init h.init (ap (λ init. each_passes (map (is_ground_atom meanings) (positive init)) other.init) e.problem.init ∙ k.init);
    goal = same_condition meanings predicates objects files.problem.goal others.problem.goal [] task.goal other.goal e.problem.goal h.goal k.goal;
  }

-- names stand for the same in files that are the same, by tests that agree
same_meanings : (files others : Declarations) (test other : List ℕ → List ℕ → Bool) → AreSameFiles files others → ((name above : List ℕ) → test name above ≡ other name above) → meanings_of test files ≡ meanings_of other others
same_meanings files others test other e agree =
    let objects : objects_declared files ≡ objects_declared others = λ i. firsts (λ declared. declared.name) (e.domain.constants i ++ e.problem.objects i) in
    λ i. record {
      predicates = map (λ declared. declared.name) (firsts (λ declared. declared.name) (e.domain.predicates i));
      objects = map (λ declared. declared.name) (objects i);
      range = range_of (λ name above. agree name above i) (objects i);
    }

-- files that are the same are resolved to tasks that are the same
pub one_resolved : (files others : Declarations) (task other : LiftedTask) → AreSameFiles files others → IsResolved files task → IsResolved others other → IsSameLifted task other
one_resolved files others task other e h k =
    let agree : (name above : List ℕ) → h.is_subtype name above ≡ k.is_subtype name above = λ name above.
    same_from_decides (h.is_subtype name above) (k.is_subtype name above) (h.decides name above) (subst (λ kinds. (k.is_subtype name above ≡ true → IsSubtype kinds name above) × (IsSubtype kinds name above → k.is_subtype name above ≡ true)) (sym e.domain.kinds) (k.decides name above)) in
    let meanings = meanings_of h.is_subtype files in
    same_parts meanings (distinct_firsts (λ declared. declared.name) files.domain.predicates) (distinct_firsts (λ declared. declared.name) (all_objects files)) files others task other e h.parts
    (subst (λ (some : Meanings). HasParts some others other) (sym (same_meanings files others h.is_subtype k.is_subtype e agree)) k.parts)
