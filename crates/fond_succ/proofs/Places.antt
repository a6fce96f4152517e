-- Objects of ranges, place by place, and their names.
use Rattle.std.proofs.Common.{◌≡◌, ℕ, zero, suc, ◌+◌, ◌<◌, ◌≤◌, ◌∙◌, Bool, true, List, [], ◌∷◌, ◌++◌, map, take, length, get_or, Some, None, is_some, Option, slice_get, refl, sym, ap, subst, arith}
use Rattle.std.specs.Prelude.{◌&&◌, ◌==◌, nat_lt, Contains, IsTrue}
use Rattle.std.specs.List.{list_all}
use Rattle.std.proofs.lemmas.Bool.{and_parts}
use Rattle.std.proofs.lemmas.Bool.Decides.{nat_tests}
use Rattle.std.proofs.lemmas.List.{length-map, map-append, take_all, take_more}
use Rattle.std.proofs.lemmas.Option.{same_Some, slice_get_within, get_or_from_slice_get, slice_get-get_or, none-some}
use Rattle.fond_text.specs.Lists.{each_passes}
use Rattle.std.specs.declared.alloc.Global.{Global}
use Rattle.std.specs.declared.rc.Rc.{Rc}
use Rattle.fond_ast.specs.Ranges.{RangeList, is_among, is_rising, objects_of}
use Rattle.fond_ast.specs.Within.{are_ranges_within}
use Rattle.fond_ast.proofs.Come.{all-at}
use Rattle.fond_ast.specs.Conditions.{IsTuple}
use Rattle.fond_ast.proofs.Members.{Member, Contains-from_Member, Member-from_Contains}
use Rattle.fond_ast.proofs.Tested.{member-some, some-member}
use Rattle.fond_ast.proofs.Tuples.{tuples-lie-in-ranges}
use Rattle.fond_task.specs.Texts.{name_at}
use Rattle.fond_tree.specs.declared.tree.Tree.{Tree}
use Rattle.fond_tree.specs.Trees.{leaf_of}
use Rattle.fond_succ.specs.Actions.{leaf_names}

abbrev are_leaf_trees : List Tree → Bool
are_leaf_trees trees = list_all (λ tree. is_some (leaf_of tree)) trees

-- the tests of objects by ranges
abbrev pub range_tests : RangeList → List (ℕ → Bool)
range_tests ranges = map is_among (objects_of ranges)

-- one more item passes one more test
passes_more : (tests : List (ℕ → Bool)) (items : List ℕ) (test : ℕ → Bool) (one : ℕ) → each_passes tests items ≡ true → test one ≡ true → each_passes (tests ++ test ∷ []) (items ++ one ∷ []) ≡ true
passes_more [] [] test one all is = ap (λ b. b && true) is
passes_more [] (n ∷ items) test one all is = cc
passes_more (t ∷ tests) [] test one all is = cc
passes_more (t ∷ tests) (n ∷ items) test one all is =
    let both = and_parts (t n) (each_passes tests items) all in
    λ i. both.0 i && passes_more tests items test one both.1 is i

long : (tests : List (ℕ → Bool)) (items : List ℕ) → each_passes tests items ≡ true → length tests ≡ length items
long [] [] all = refl
long [] (n ∷ items) all = cc
long (t ∷ tests) [] all = cc
long (t ∷ tests) (n ∷ items) all = ap suc (long tests items (and_parts (t n) (each_passes tests items) all).1)

passes_at : (tests : List (ℕ → Bool)) (items : List ℕ) (i : ℕ) (test : ℕ → Bool) (one : ℕ) → each_passes tests items ≡ true → slice_get tests i ≡ Some test → slice_get items i ≡ Some one → test one ≡ true
passes_at [] items i test one all at here = cc
passes_at (t ∷ tests) [] i test one all at here = cc
passes_at (t ∷ tests) (n ∷ items) zero test one all at here =
    sym (λ j. same_Some t test at j (same_Some n one here j)) ∙ (and_parts (t n) (each_passes tests items) all).0
passes_at (t ∷ tests) (n ∷ items) (suc i) test one all at here = passes_at tests items i test one (and_parts (t n) (each_passes tests items) all).1 at here

-- the names of leaves, one for each
pub names_long : (trees : List Tree) → are_leaf_trees trees ≡ true → length (leaf_names trees) ≡ length trees
names_long [] all = refl
names_long (tree ∷ trees) all = from (leaf_of tree) (and_parts (is_some (leaf_of tree)) (are_leaf_trees trees) all).0 refl (names_long trees (and_parts (is_some (leaf_of tree)) (are_leaf_trees trees) all).1)
  where
    from : (name : Option (List ℕ)) → is_some name ≡ true → leaf_of tree ≡ name → length (leaf_names trees) ≡ length trees → length (leaf_names (tree ∷ trees)) ≡ suc (length trees)
    from None is same later = cc
    from (Some name) is same later = rw same (ap suc later)

pub name_of_leaf : (trees : List Tree) (i : ℕ) (tree : Tree) → are_leaf_trees trees ≡ true → slice_get trees i ≡ Some tree → leaf_of tree ≡ slice_get (leaf_names trees) i
name_of_leaf [] i tree all at = absurd (none-some tree at)
name_of_leaf (first ∷ trees) zero tree all at = ap leaf_of (sym (same_Some first tree at)) ∙ from (leaf_of first) refl (and_parts (is_some (leaf_of first)) (are_leaf_trees trees) all).0
  where
    from : (name : Option (List ℕ)) → leaf_of first ≡ name → is_some name ≡ true → name ≡ slice_get (leaf_names (first ∷ trees)) zero
    from None same is = cc
    from (Some name) same is = rw same refl
name_of_leaf (first ∷ trees) (suc i) tree all at = name_of_leaf trees i tree (and_parts (is_some (leaf_of first)) (are_leaf_trees trees) all).1 at ∙ from (leaf_of first) refl (and_parts (is_some (leaf_of first)) (are_leaf_trees trees) all).0
  where
    from : (name : Option (List ℕ)) → leaf_of first ≡ name → is_some name ≡ true → slice_get (leaf_names trees) i ≡ slice_get (leaf_names (first ∷ trees)) (suc i)
    from None same is = cc
    from (Some name) same is = rw same refl

map_at : (f : ℕ → List ℕ) (xs : List ℕ) (i : ℕ) (x : ℕ) → slice_get xs i ≡ Some x → slice_get (map f xs) i ≡ Some (f x)
map_at f [] i x at = absurd (none-some x at)
map_at f (y ∷ xs) zero x at = ap (λ z. Some (f z)) (same_Some y x at)
map_at f (y ∷ xs) (suc i) x at = map_at f xs i x at

-- the test of the range at an index
pub test_at : (ranges : RangeList) (i : ℕ) (range : List ℕ) → slice_get (objects_of ranges) i ≡ Some range → slice_get (range_tests ranges) i ≡ Some (is_among range)
test_at ranges i range at = from (objects_of ranges) i at
  where
    from : (all : List (List ℕ)) (i : ℕ) → slice_get all i ≡ Some range → slice_get (map is_among all) i ≡ Some (is_among range)
    from [] i at = absurd (none-some range at)
    from (r ∷ all) zero at = ap (λ x. Some (is_among x)) (same_Some r range at)
    from (r ∷ all) (suc i) at = from all i at

among_from : (range : List ℕ) (object : ℕ) → Contains range object → is_among range object ≡ true
among_from range object has = member-some (λ other. other == object) range object (Member-from_Contains range object has) (grind (arith, nat_tests))

among_to : (range : List ℕ) (object : ℕ) → is_among range object ≡ true → Contains range object
among_to range object is =
    let one = some-member (λ other. other == object) range is in
    let same : one.0 ≡ object = let told : (one.0 == object) ≡ true = one.2 in grind (arith, nat_tests, told) in
    Contains-from_Member range object (subst (Member range) same one.1)

-- objects so far: those of the first ranges, with the first names
pub record AreSoFar (names : List (List ℕ)) (ranges : RangeList) (leaves : List Tree) (i : ℕ) (objects : List ℕ) : Type 0 where
  pub passing : each_passes (take i (range_tests ranges)) objects ≡ true
  pub naming : map (name_at names) objects ≡ take i (leaf_names leaves)

module _ (names : List (List ℕ)) (ranges : RangeList) (leaves : List Tree) (all : are_leaf_trees leaves ≡ true) where
  -- objects in the ranges are as many as the ranges, and objects with the names as many as the leaves
  pub as_many : (objects : List ℕ) → IsTuple ranges objects → map (name_at names) objects ≡ leaf_names leaves → length (range_tests ranges) ≡ length leaves
  as_many objects fits named =
      long (range_tests ranges) objects ((tuples-lie-in-ranges (objects_of ranges) objects).0 fits) ∙ sym (length-map objects (name_at names)) ∙ ap length named ∙ names_long leaves all

  -- one more object
  pub one_more : (i : ℕ) (range : List ℕ) (tree : Tree) (name : List ℕ) (object : ℕ) (objects : List ℕ) → slice_get (objects_of ranges) i ≡ Some range → slice_get leaves i ≡ Some tree → leaf_of tree ≡ Some name → Contains range object → name_at names object ≡ name
      → AreSoFar names ranges leaves i objects → AreSoFar names ranges leaves (i + 1) (objects ++ object ∷ [])
  one_more i range tree name object objects at here leaf has named before = record {
    passing = ap (λ tests. each_passes tests (objects ++ object ∷ [])) (next_taken (range_tests ranges) i (is_among range) (test_at ranges i range at)) ∙ passes_more (take i (range_tests ranges)) objects (is_among range) object before.passing (among_from range object has);
    naming = map-append (name_at names) objects (object ∷ []) ∙ (λ j. before.naming j ++ named j ∷ []) ∙ sym (next_taken (leaf_names leaves) i name (sym (name_of_leaf leaves i tree all here) ∙ leaf));
  }
    where
      next_taken : {X : Type 0} (xs : List X) (i : ℕ) (x : X) → slice_get xs i ≡ Some x → take (i + 1) xs ≡ take i xs ++ x ∷ []
      next_taken xs i x at = take_more xs i x (slice_get_within xs i x at) ∙ ap (λ y. take i xs ++ y ∷ []) (get_or_from_slice_get xs i x x at)

  -- no object of a range has the name at its place
  pub none_there : (i : ℕ) (range : List ℕ) (tree : Tree) (name : List ℕ) → slice_get (objects_of ranges) i ≡ Some range → slice_get leaves i ≡ Some tree → leaf_of tree ≡ Some name → ((object : ℕ) → Contains range object → ¬ name_at names object ≡ name)
      → (objects : List ℕ) → IsTuple ranges objects → ¬ map (name_at names) objects ≡ leaf_names leaves
  none_there i range tree name at here leaf none objects fits named =
      let passing = (tuples-lie-in-ranges (objects_of ranges) objects).0 fits in
      let lt : i < length objects = (let whole = long (range_tests ranges) objects passing in let test = slice_get_within (range_tests ranges) i (is_among range) (test_at ranges i range at) in omega (arith, whole, test)) in
      let object = get_or objects i 0 in
      let there : slice_get objects i ≡ Some object = slice_get-get_or objects i 0 lt in
      none object (among_to range object (passes_at (range_tests ranges) objects i (is_among range) object passing (test_at ranges i range at) there))
      (same_Some _ _ (sym (map_at (name_at names) objects i object there) ∙ ap (λ xs. slice_get xs i) named ∙ sym (name_of_leaf leaves i tree all here) ∙ leaf))

  -- after the last place the objects are those that the leaves name
  pub all_there : (i : ℕ) (objects : List ℕ) → length (range_tests ranges) ≤ i → length leaves ≤ i → AreSoFar names ranges leaves i objects → IsTuple ranges objects × (map (name_at names) objects ≡ leaf_names leaves)
  all_there i objects end last before = (
    (tuples-lie-in-ranges (objects_of ranges) objects).1 (ap (λ tests. each_passes tests objects) (sym (take_all i (range_tests ranges) end)) ∙ before.passing),
    before.naming ∙ take_all i (leaf_names leaves) (let whole = names_long leaves all in omega (arith, whole, last)),
  )

-- there are as many tests as ranges
pub tests_long : (ranges : RangeList) → length (range_tests ranges) ≡ length ranges
tests_long ranges = length-map (objects_of ranges) is_among ∙ length-map ranges (λ range. range.value)

-- the objects of the range at an index
pub objects_at : (ranges : RangeList) (i : ℕ) (range : Rc (List ℕ) Global) (objects : List ℕ) → slice_get ranges i ≡ Some range → objects ≡ range.value → slice_get (objects_of ranges) i ≡ Some objects
objects_at ranges i range objects at same = from ranges i at
  where
    from : (all : RangeList) (i : ℕ) → slice_get all i ≡ Some range → slice_get (objects_of all) i ≡ Some objects
    from [] i at = absurd (none-some range at)
    from (r ∷ all) zero at = ap (λ (x : Rc (List ℕ) Global). Some x.value) (same_Some r range at) ∙ ap Some (sym same)
    from (r ∷ all) (suc i) at = from all i at

-- the objects of a range are below the bound of the ranges
pub range_within : (count : ℕ) (ranges : RangeList) (i : ℕ) (range : Rc (List ℕ) Global) (objects : List ℕ) → IsTrue (are_ranges_within count ranges) → slice_get ranges i ≡ Some range → objects ≡ range.value → IsTrue (list_all (λ object. nat_lt object count) objects)
range_within count ranges i range objects within at same =
    (and_parts (is_rising objects) (list_all (λ object. nat_lt object count) objects)
    (all-at (λ (one : List ℕ). is_rising one && list_all (λ object. nat_lt object count) one) (objects_of ranges) i objects (objects_at ranges i range objects at same) within)).1

-- the leaf at an index has a name
pub some_leaf : (trees : List Tree) (i : ℕ) (tree : Tree) → are_leaf_trees trees ≡ true → slice_get trees i ≡ Some tree → (name : List ℕ) × (leaf_of tree ≡ Some name)
some_leaf trees i tree all at = from (leaf_of tree) refl (all-at (λ (one : Tree). is_some (leaf_of one)) trees i tree at all)
  where
    from : (name : Option (List ℕ)) → leaf_of tree ≡ name → is_some name ≡ true → (n : List ℕ) × (leaf_of tree ≡ Some n)
    from None same is = cc
    from (Some name) same is = (name, same)

-- the first leaf has a name
pub first_leaf : (leaves : List Tree) (first : Tree) (rest : List Tree) → leaves ≡ first ∷ rest → are_leaf_trees leaves ≡ true → (name : List ℕ) × (leaf_of first ≡ Some name)
first_leaf leaves first rest split all = some_leaf (first ∷ rest) 0 first (sym (ap are_leaf_trees split) ∙ all) refl
