-- Trees that are alike have the same faults of form.
use Rattle.std.proofs.Common.{◌≡◌, ◌⊎◌, inl, inr, ℕ, ◌&&◌, ◌||◌, Bool, true, false, not, List, [], ◌∷◌, Contains, Option, Some, None, codes, slice_get, refl, sym, ap, ◌∙◌, subst, if◌then◌else◌}
use Rattle.std.specs.Prelude.{is_some, option_and_then, option_map, option_to_list, filter_map}
use Rattle.std.specs.List.{AllZip, cons_option, list_any}
use Rattle.std.specs.Str.{bytes_eq}
use Rattle.std.proofs.lemmas.Option.{none-some, same_Some}
use Rattle.fond_text.specs.declared.code.TheConstants.{MISFIT, MISPLACED_OPERATOR}
use Rattle.fond_text.specs.declared.place.Place.{Place}
use Rattle.fond_tree.specs.Alike.{IsAlike}
use Rattle.fond_tree.specs.Trees.{front, head_of, is_node, leaf_of, members_of}
use Rattle.fond_tree.specs.declared.tree.Tree.{Tree}
use Rattle.fond_tree.specs.FormFaults.{IsAgain, IsIncomplete, IsOwnFault, IsRepeated, Repeats, Stands, after_header, keys, node_code, single_in_domain, single_in_problem, tree_code}
use Rattle.fond_tree.specs.Parts.{Part, are_pairs, expected_parts, is_counted, is_dash, is_rest, pairs, part, part_at, parts, rest_parts, shape_parts, typed, value, value_role}
use Rattle.fond_tree.specs.Roles.{Expected, Members, Refused, Shape, action_keys, atom, choice, condition, domain_section, effect, form, form_of, initial, node_expected, none, problem_section, section, shape}
use Rattle.fond_tree.specs.Words.{is_name, is_one_of, reserved}
use Rattle.fond_tree.specs.declared.role.Rest.{Rest}
use Rattle.fond_tree.specs.declared.role.Rest.TheVariants.{NoMore, Each, Typed, Pairs, Unread}
use Rattle.fond_tree.specs.declared.role.Role.{Role}
use Rattle.fond_tree.specs.declared.role.Role.TheVariants as role
use Rattle.fond_ground.proofs.Zips.{zip-append, zip-map}
use Rattle.fond_laws.proofs.OneReadingAlike.{AreAlikeMembers, AreAlikeTrees, head_alike, leaf_alike, members_alike, place_alike}
use Rattle.fond_laws.proofs.OneReadingMoved.{dash_alike}
use Rattle.fond_laws.proofs.SameLists.{zip-at, zip-somewhere}

-- ---- what is expected

-- the first of some trees that are alike are the same leaf
front_alike : (trees others : List Tree) → AreAlikeTrees trees others → front trees ≡ front others
front_alike [] [] are = refl
front_alike [] (u ∷ us) are = absurd are
front_alike (t ∷ ts) [] are = absurd are
front_alike (t ∷ ts) (u ∷ us) are = leaf_alike t u are.0

-- trees that are alike are both nodes, or neither is
node_alike : (tree other : Tree) → IsAlike tree other → is_node tree ≡ is_node other
node_alike tree other alike = from (members_of tree) (members_of other) (members_alike tree other alike) where
  from : (members others : Option (List Tree)) → AreAlikeMembers members others → is_some members ≡ is_some others
  from None None are = refl
  from None (Some others) are = absurd are
  from (Some members) None are = absurd are
  from (Some members) (Some others) are = refl

-- some tree is a node in both of two lists that are alike, or in neither
any_alike : (trees others : List Tree) → AreAlikeTrees trees others → list_any is_node trees ≡ list_any is_node others
any_alike [] [] are = refl
any_alike [] (u ∷ us) are = absurd are
any_alike (t ∷ ts) [] are = absurd are
any_alike (t ∷ ts) (u ∷ us) are = λ i. node_alike t u are.0 i || any_alike ts us are.1 i

-- the same is expected after the head of two forms
abbrev IsSameAfter : (List ℕ → List Tree → Expected) → Type 0
IsSameAfter by_head = (head : List ℕ) (trees others : List Tree) → AreAlikeTrees trees others → by_head head trees ≡ by_head head others

-- an atom, or its refusal, by whether a node is among its members
abbrev atom_by : List ℕ → Bool → Expected
atom_by head nested = if is_one_of reserved head || (is_name head && nested) then Refused MISPLACED_OPERATOR else Members atom

-- the same is expected of two conditions
condition_after : IsSameAfter condition
condition_after head trees others are = λ i.
    if is_one_of (codes "and" ∷ codes "or" ∷ []) head then Members (shape (role.Head ∷ []) (Each role.Condition))
    else if bytes_eq head (codes "not") then Members (shape (role.Head ∷ role.Condition ∷ []) NoMore)
    else if bytes_eq head (codes "imply") then Members (shape (role.Head ∷ role.Condition ∷ role.Condition ∷ []) NoMore)
    else if is_one_of (codes "forall" ∷ codes "exists" ∷ []) head then Members (shape (role.Head ∷ role.Variables ∷ role.Condition ∷ []) NoMore)
    else if bytes_eq head (codes "=") then Members (shape (role.Head ∷ role.Term ∷ role.Term ∷ []) NoMore)
    else atom_by head (any_alike trees others are i)

-- two choices have members, or neither has
choice_alike : (trees others : List Tree) → AreAlikeTrees trees others → choice trees ≡ choice others
choice_alike [] [] are = refl
choice_alike [] (u ∷ us) are = absurd are
choice_alike (t ∷ ts) [] are = absurd are
choice_alike (t ∷ ts) (u ∷ us) are = refl

-- the same is expected of two effects
effect_after : IsSameAfter effect
effect_after head trees others are = λ i.
    if bytes_eq head (codes "and") then Members (shape (role.Head ∷ []) (Each role.Effect))
    else if bytes_eq head (codes "not") then Members (shape (role.Head ∷ role.Atom ∷ []) NoMore)
    else if bytes_eq head (codes "forall") then Members (shape (role.Head ∷ role.Variables ∷ role.Effect ∷ []) NoMore)
    else if bytes_eq head (codes "when") then Members (shape (role.Head ∷ role.Condition ∷ role.Effect ∷ []) NoMore)
    else if bytes_eq head (codes "oneof") then choice_alike trees others are i
    else atom_by head (any_alike trees others are i)

-- the same is expected of two initial atoms
initial_after : IsSameAfter initial
initial_after head trees others are = λ i.
    if bytes_eq head (codes "not") then Members (shape (role.Head ∷ role.Atom ∷ []) NoMore) else atom_by head (any_alike trees others are i)

-- the same is expected of two forms
form_same : (empty : Shape) (by_head : List ℕ → List Tree → Expected) → IsSameAfter by_head → (members others : List Tree) → AreAlikeTrees members others → form_of empty by_head members ≡ form_of empty by_head others
form_same empty by_head same [] [] are = refl
form_same empty by_head same [] (u ∷ us) are = absurd are
form_same empty by_head same (t ∷ ts) [] are = absurd are
form_same empty by_head same (t ∷ ts) (u ∷ us) are = ap (λ leaf. form by_head leaf ts) (leaf_alike t u are.0) ∙ from (leaf_of u) where
  from : (leaf : Option (List ℕ)) → form by_head leaf ts ≡ form by_head leaf us
  from None = refl
  from (Some head) = same head ts us are.1

-- the same is expected of nodes whose members are alike
expected_alike : (of : Role) (members others : List Tree) → AreAlikeTrees members others → node_expected of members ≡ node_expected of others
expected_alike role.DomainFile members others are = refl
expected_alike role.ProblemFile members others are = refl
expected_alike (role.Header kind) members others are = refl
expected_alike role.DomainSection members others are = ap (λ head. Some (section domain_section head)) (front_alike members others are)
expected_alike role.ProblemSection members others are = ap (λ head. Some (section problem_section head)) (front_alike members others are)
expected_alike role.Predicate members others are = refl
expected_alike role.Variables members others are = refl
expected_alike role.VariableType members others are = refl
expected_alike role.Condition members others are = ap (λ expected. Some expected) (form_same none condition condition_after members others are)
expected_alike role.Effect members others are = ap (λ expected. Some expected) (form_same none effect effect_after members others are)
expected_alike role.Initial members others are = ap (λ expected. Some expected) (form_same atom initial initial_after members others are)
expected_alike role.Atom members others are = refl
expected_alike (role.Word kind) members others are = refl
expected_alike role.Head members others are = refl
expected_alike role.Name members others are = refl
expected_alike role.Variable members others are = refl
expected_alike role.Term members others are = refl
expected_alike role.Key members others are = refl

-- ---- refused trees

-- lists that are alike are both whole pairs, or neither is
pairs_alike : (trees others : List Tree) → AreAlikeTrees trees others → are_pairs trees ≡ are_pairs others
pairs_alike [] [] are = refl
pairs_alike [] (u ∷ us) are = absurd are
pairs_alike (t ∷ ts) [] are = absurd are
pairs_alike (t ∷ []) (u ∷ []) are = refl
pairs_alike (t ∷ []) (u ∷ v ∷ us) are = absurd are.1
pairs_alike (t ∷ s ∷ ts) (u ∷ []) are = absurd are.1
pairs_alike (t ∷ s ∷ ts) (u ∷ v ∷ us) are = pairs_alike ts us are.1.1

-- nothing is missing of the rest and nothing is too many in both of two lists that are alike, or in neither
rest_alike : (rest : Rest) (trees others : List Tree) → AreAlikeTrees trees others → is_rest rest trees ≡ is_rest rest others
rest_alike NoMore [] [] are = refl
rest_alike NoMore [] (u ∷ us) are = absurd are
rest_alike NoMore (t ∷ ts) [] are = absurd are
rest_alike NoMore (t ∷ ts) (u ∷ us) are = refl
rest_alike (Each of) trees others are = refl
rest_alike (Typed leaf type) trees others are = refl
rest_alike Pairs trees others are = pairs_alike trees others are
rest_alike Unread trees others are = refl

-- no member is missing and none is too many in both of two lists that are alike, or in neither
counted_alike : (roles : List Role) (rest : Rest) (trees others : List Tree) → AreAlikeTrees trees others → is_counted roles rest trees ≡ is_counted roles rest others
counted_alike [] rest trees others are = rest_alike rest trees others are
counted_alike (of ∷ roles) rest [] [] are = refl
counted_alike (of ∷ roles) rest [] (u ∷ us) are = absurd are
counted_alike (of ∷ roles) rest (t ∷ ts) [] are = absurd are
counted_alike (of ∷ roles) rest (t ∷ ts) (u ∷ us) are = counted_alike roles rest ts us are.1

-- nodes whose members are alike are refused with the same code, or neither is
node_code_alike : (of : Role) (members others : List Tree) → AreAlikeTrees members others → node_code (node_expected of members) members ≡ node_code (node_expected of others) others
node_code_alike of members others are = ap (λ expected. node_code expected members) (expected_alike of members others are) ∙ from (node_expected of others) where
  from : (expected : Option Expected) → node_code expected members ≡ node_code expected others
  from None = refl
  from (Some (Members shape)) = ap (λ b. if b then None else Some MISFIT) (counted_alike shape.first shape.rest members others are)
  from (Some (Refused code)) = refl

-- trees that are alike are refused with the same code, or neither is
code_alike : (of : Role) (tree other : Tree) → IsAlike tree other → tree_code of (leaf_of tree) (members_of tree) ≡ tree_code of (leaf_of other) (members_of other)
code_alike of tree other alike = ap (λ leaf. tree_code of leaf (members_of tree)) (leaf_alike tree other alike) ∙ from (leaf_of other) (members_of tree) (members_of other) (members_alike tree other alike) where
  from : (leaf : Option (List ℕ)) (members others : Option (List Tree)) → AreAlikeMembers members others → tree_code of leaf members ≡ tree_code of leaf others
  from (Some leaf) members others are = refl
  from None None None are = refl
  from None None (Some others) are = absurd are
  from None (Some members) None are = absurd are
  from None (Some members) (Some others) are = node_code_alike of members others are

-- ---- parts

-- two parts have the same role, and trees that are alike
abbrev IsAlikePart : Part → Part → Type 0
IsAlikePart one other = (one.role ≡ other.role) × IsAlike one.tree other.tree

-- parts that are alike one by one
abbrev AreAlikeParts : List Part → List Part → Type 0
AreAlikeParts = AllZip IsAlikePart

-- typed lists that are alike have parts that are alike
typed_alike : (leaf type : Role) (untyped : Bool) (trees others : List Tree) → AreAlikeTrees trees others → AreAlikeParts (typed leaf type untyped trees) (typed leaf type untyped others)
typed_alike leaf type untyped [] [] are = tt
typed_alike leaf type untyped [] (u ∷ us) are = absurd are
typed_alike leaf type untyped (t ∷ ts) [] are = absurd are
typed_alike leaf type untyped (t ∷ []) (u ∷ []) are = ((refl, are.0), tt)
typed_alike leaf type untyped (t ∷ []) (u ∷ v ∷ us) are = absurd are.1
typed_alike leaf type untyped (t ∷ s ∷ ts) (u ∷ []) are = absurd are.1
typed_alike leaf type untyped (t ∷ s ∷ ts) (u ∷ v ∷ us) are =
    subst (λ d. AreAlikeParts (typed leaf type untyped (t ∷ s ∷ ts)) (if untyped && d then part type v ∷ typed leaf type false us else part leaf u ∷ typed leaf type (not d) (v ∷ us))) (dash_alike t u are.0)
    (from (untyped && is_dash t) ((refl, are.1.0), typed_alike leaf type false ts us are.1.1) ((refl, are.0), typed_alike leaf type (not (is_dash t)) (s ∷ ts) (v ∷ us) are.1))
  where
    from : (b : Bool) → AreAlikeParts (part type s ∷ typed leaf type false ts) (part type v ∷ typed leaf type false us) →
        AreAlikeParts (part leaf t ∷ typed leaf type (not (is_dash t)) (s ∷ ts)) (part leaf u ∷ typed leaf type (not (is_dash t)) (v ∷ us)) →
        AreAlikeParts (if b then part type s ∷ typed leaf type false ts else part leaf t ∷ typed leaf type (not (is_dash t)) (s ∷ ts)) (if b then part type v ∷ typed leaf type false us else part leaf u ∷ typed leaf type (not (is_dash t)) (v ∷ us))
    from true one two = one
    from false one two = two

-- values that are alike are read as parts that are alike
value_alike : (key other : Option (List ℕ)) (tree twin : Tree) → key ≡ other → IsAlike tree twin → AreAlikeParts (value key tree) (value other twin)
value_alike key other tree twin same alike = subst (λ leaf. AreAlikeParts (value key tree) (value leaf twin)) same (from (option_and_then value_role key)) where
  from : (found : Option Role) → AreAlikeParts (option_to_list (option_map (λ of. part of tree) found)) (option_to_list (option_map (λ of. part of twin) found))
  from None = tt
  from (Some of) = ((refl, alike), tt)

-- keys and values that are alike have parts that are alike
pair_parts_alike : (trees others : List Tree) → AreAlikeTrees trees others → AreAlikeParts (pairs trees) (pairs others)
pair_parts_alike [] [] are = tt
pair_parts_alike [] (u ∷ us) are = absurd are
pair_parts_alike (t ∷ ts) [] are = absurd are
pair_parts_alike (t ∷ []) (u ∷ []) are = ((refl, are.0), tt)
pair_parts_alike (t ∷ []) (u ∷ v ∷ us) are = absurd are.1
pair_parts_alike (t ∷ s ∷ ts) (u ∷ []) are = absurd are.1
pair_parts_alike (t ∷ s ∷ ts) (u ∷ v ∷ us) are =
    ((refl, are.0), zip-append IsAlikePart (value (leaf_of t) s) (value (leaf_of u) v) (pairs ts) (pairs us) (value_alike (leaf_of t) (leaf_of u) s v (leaf_alike t u are.0) are.1.0) (pair_parts_alike ts us are.1.1))

-- the rest of members that are alike has parts that are alike
rest_parts_alike : (rest : Rest) (trees others : List Tree) → AreAlikeTrees trees others → AreAlikeParts (rest_parts rest trees) (rest_parts rest others)
rest_parts_alike NoMore trees others are = tt
rest_parts_alike (Each of) trees others are = zip-map IsAlike IsAlikePart (part of) (part of) (λ tree other alike. (refl, alike)) trees others are
rest_parts_alike (Typed leaf type) trees others are = typed_alike leaf type false trees others are
rest_parts_alike Pairs trees others are = pair_parts_alike trees others are
rest_parts_alike Unread trees others are = tt

-- members of a shape that are alike have parts that are alike
shape_parts_alike : (roles : List Role) (rest : Rest) (trees others : List Tree) → AreAlikeTrees trees others → AreAlikeParts (shape_parts roles rest trees) (shape_parts roles rest others)
shape_parts_alike [] rest trees others are = rest_parts_alike rest trees others are
shape_parts_alike (of ∷ roles) rest [] [] are = tt
shape_parts_alike (of ∷ roles) rest [] (u ∷ us) are = absurd are
shape_parts_alike (of ∷ roles) rest (t ∷ ts) [] are = absurd are
shape_parts_alike (of ∷ roles) rest (t ∷ ts) (u ∷ us) are = ((refl, are.0), shape_parts_alike roles rest ts us are.1)

-- members that are alike and of which the same is expected have parts that are alike
expected_parts_alike : (expected : Option Expected) (members others : List Tree) → AreAlikeTrees members others → AreAlikeParts (expected_parts expected members) (expected_parts expected others)
expected_parts_alike None members others are = tt
expected_parts_alike (Some (Members shape)) members others are = shape_parts_alike shape.first shape.rest members others are
expected_parts_alike (Some (Refused code)) members others are = tt

-- trees of a role that are alike have parts that are alike
role_parts_alike : (of : Role) (tree other : Tree) → IsAlike tree other → AreAlikeParts (parts (part of tree)) (parts (part of other))
role_parts_alike of tree other alike = from (members_of tree) (members_of other) refl refl (members_alike tree other alike) where
  from : (members others : Option (List Tree)) → members_of tree ≡ members → members_of other ≡ others → AreAlikeMembers members others → AreAlikeParts (parts (part of tree)) (parts (part of other))
  from None None one two are = rw (one, two) tt
  from None (Some others) one two are = absurd are
  from (Some members) None one two are = absurd are
  from (Some members) (Some others) one two are =
      rw (one, two) (subst (λ expected. AreAlikeParts (expected_parts (node_expected of members) members) (expected_parts expected others)) (expected_alike of members others are) (expected_parts_alike (node_expected of members) members others are))

-- parts that are alike have parts that are alike
parts_alike : (one other : Part) → IsAlikePart one other → AreAlikeParts (parts one) (parts other)
parts_alike one other alike = subst (λ of. AreAlikeParts (parts one) (parts (part of other.tree))) alike.0 (role_parts_alike one.role one.tree other.tree alike.1)

-- a part of a tree at the end of a path is alike to that of a tree that is alike
at_alike : (path : List ℕ) (one other at : Part) → IsAlikePart one other → part_at one path ≡ Some at → (twin : Part) × (part_at other path ≡ Some twin) × IsAlikePart at twin
at_alike [] one other at alike is = (other, refl, subst (λ x. IsAlikePart x other) (same_Some one at is) alike)
at_alike (number ∷ path) one other at alike is = from (λ inner twin. at_alike path inner twin at) (slice_get (parts one) number) refl is where
  from : ((inner twin : Part) → IsAlikePart inner twin → part_at inner path ≡ Some at → (end : Part) × (part_at twin path ≡ Some end) × IsAlikePart at end) → (found : Option Part) → slice_get (parts one) number ≡ found → option_and_then (λ inner. part_at inner path) found ≡ Some at → (twin : Part) × (part_at other (number ∷ path) ≡ Some twin) × IsAlikePart at twin
  from along None there is = absurd (none-some at is)
  from along (Some inner) there is =
      let next = zip-at IsAlikePart (parts one) (parts other) (parts_alike one other alike) number inner there in
      let rest = along inner next.0 next.2 is in
      (rest.0, ap (option_and_then (λ inner. part_at inner path)) next.1 ∙ rest.1, rest.2)

-- ---- members side by side

-- a node that is alike to a node has members that are alike to its members
members_across : (tree other : Tree) (members : List Tree) → IsAlike tree other → members_of tree ≡ Some members → (others : List Tree) × (members_of other ≡ Some others) × AreAlikeTrees members others
members_across tree other members alike whole = from (members_of other) refl (subst (λ found. AreAlikeMembers found (members_of other)) whole (members_alike tree other alike)) where
  from : (found : Option (List Tree)) → members_of other ≡ found → AreAlikeMembers (Some members) found → (others : List Tree) × (members_of other ≡ Some others) × AreAlikeTrees members others
  from None there are = absurd are
  from (Some others) there are = (others, there, are)

-- trees that are alike one by one have the same heads
heads_alike : (heads : Tree → Option (List ℕ)) → ((tree other : Tree) → IsAlike tree other → heads tree ≡ heads other) → (trees others : List Tree) → AreAlikeTrees trees others → filter_map heads trees ≡ filter_map heads others
heads_alike heads same [] [] are = refl
heads_alike heads same [] (u ∷ us) are = absurd are
heads_alike heads same (t ∷ ts) [] are = absurd are
heads_alike heads same (t ∷ ts) (u ∷ us) are = λ i. cons_option (same t u are.0 i) (heads_alike heads same ts us are.1 i)

-- a head that occurs a second time does so in each list that is alike
repeats_alike : (heads : Tree → Option (List ℕ)) → ((tree other : Tree) → IsAlike tree other → heads tree ≡ heads other) → (single : List (List ℕ)) (place : Place) (trees others : List Tree) → AreAlikeTrees trees others → Repeats heads single trees place → Repeats heads single others place
repeats_alike heads same single place = zip-somewhere IsAlike (IsAgain heads single place) (IsAgain heads single place)
    (λ before front tree twin are alike again. record {
      head = again.head;
      headed = sym (same tree twin alike) ∙ again.headed;
      counts = again.counts;
      earlier = subst (λ (list : List (List ℕ)). Contains list again.head) (heads_alike heads same before front are) again.earlier;
      place_is = again.place_is ∙ place_alike tree twin alike;
    })

-- members that are alike are alike after the header
after_alike : (trees others : List Tree) → AreAlikeTrees trees others → AreAlikeTrees (after_header trees) (after_header others)
after_alike [] [] are = tt
after_alike [] (u ∷ us) are = absurd are
after_alike (t ∷ ts) [] are = absurd are
after_alike (t ∷ []) (u ∷ []) are = tt
after_alike (t ∷ []) (u ∷ v ∷ us) are = absurd are.1
after_alike (t ∷ s ∷ ts) (u ∷ []) are = absurd are.1
after_alike (t ∷ s ∷ ts) (u ∷ v ∷ us) are = are.1.1

-- trees that are alike one by one have keys that are alike
keys_alike : (trees others : List Tree) → AreAlikeTrees trees others → AreAlikeTrees (keys trees) (keys others)
keys_alike [] [] are = tt
keys_alike [] (u ∷ us) are = absurd are
keys_alike (t ∷ ts) [] are = absurd are
keys_alike (t ∷ []) (u ∷ []) are = are
keys_alike (t ∷ []) (u ∷ v ∷ us) are = absurd are.1
keys_alike (t ∷ s ∷ ts) (u ∷ []) are = absurd are.1
keys_alike (t ∷ s ∷ ts) (u ∷ v ∷ us) are = (are.0, keys_alike ts us are.1.1)

-- a section or a key that occurs a second time does so in each tree that is alike
repeated_alike : (of : Role) (tree other : Tree) (place : Place) → IsAlike tree other → IsRepeated of tree place → IsRepeated of other place
repeated_alike role.DomainFile tree other place alike is =
    let across = members_across tree other is.0 alike is.1 in
    (across.0, across.1, repeats_alike head_of head_alike single_in_domain place (after_header is.0) (after_header across.0) (after_alike is.0 across.0 across.2) is.2)
repeated_alike role.ProblemFile tree other place alike is =
    let across = members_across tree other is.0 alike is.1 in
    (across.0, across.1, repeats_alike head_of head_alike single_in_problem place (after_header is.0) (after_header across.0) (after_alike is.0 across.0 across.2) is.2)
repeated_alike role.DomainSection tree other place alike is =
    let across = members_across tree other is.0 alike is.1 in (
      across.0,
      across.1,
      sym (head_alike tree other alike) ∙ is.2,
      repeats_alike leaf_of leaf_alike action_keys place (keys (after_header is.0)) (keys (after_header across.0)) (keys_alike (after_header is.0) (after_header across.0) (after_alike is.0 across.0 across.2)) is.3,
    )
repeated_alike of tree other place alike is = absurd is

-- a problem that lacks a section does so in each tree that is alike
incomplete_alike : (of : Role) (tree other : Tree) (place : Place) → IsAlike tree other → IsIncomplete of tree place → IsIncomplete of other place
incomplete_alike role.ProblemFile tree other place alike is =
    let across = members_across tree other is.0 alike is.1 in
    let same = heads_alike head_of head_alike (after_header is.0) (after_header across.0) (after_alike is.0 across.0 across.2) in
    (across.0, across.1, is.2 ∙ place_alike tree other alike, subst (λ (heads : List (List ℕ)). (¬ Contains heads (codes ":domain")) ⊎ (¬ Contains heads (codes ":goal"))) same is.3)
incomplete_alike of tree other place alike is = absurd is

-- a fault of a part is one of each part that is alike
own_alike : (one other : Part) (place : Place) (code : ℕ) → IsAlikePart one other → IsOwnFault one place code → IsOwnFault other place code
own_alike one other place code alike (inl is) =
    inl (is.0 ∙ place_alike one.tree other.tree alike.1, sym (ap (λ of. tree_code of (leaf_of one.tree) (members_of one.tree)) alike.0 ∙ code_alike other.role one.tree other.tree alike.1) ∙ is.1)
own_alike one other place code alike (inr (inl is)) = inr (inl (repeated_alike other.role one.tree other.tree place alike.1 (subst (λ of. IsRepeated of one.tree place) alike.0 is.0), is.1))
own_alike one other place code alike (inr (inr is)) = inr (inr (incomplete_alike other.role one.tree other.tree place alike.1 (subst (λ of. IsIncomplete of one.tree place) alike.0 is.0), is.1))

-- trees of a role that are alike have the same faults of form
pub same_form : (of : Role) (tree alike : Tree) → IsAlike tree alike → (place : Place) (code : ℕ) → Stands of tree place code → Stands of alike place code
same_form of tree alike like place code is =
    let twin = at_alike is.path (part of tree) (part of alike) is.at (refl, like) is.reached in
    record { path = is.path; at = twin.0; reached = twin.1; own = own_alike is.at twin.0 place code twin.2 is.own }
