-- What is read from a tree is read from each tree that is alike: names, terms, atoms, typed lists, declared predicates and initial atoms.
use Rattle.std.proofs.Common.{◌≡◌, ℕ, ◌==◌, ◌&&◌, ◌||◌, Bool, true, false, not, List, [], ◌∷◌, map, length, Option, Some, None, codes, refl, ap, subst, if◌then◌else◌}
use Rattle.std.specs.Prelude.{⊤}
use Rattle.std.specs.List.{AllZip}
use Rattle.fond_text.specs.Bools.{is_same}
use Rattle.fond_text.specs.Lists.{each_passes}
use Rattle.fond_text.specs.declared.place.Place.{Place}
use Rattle.fond_tree.specs.Alike.{IsAlike}
use Rattle.fond_tree.specs.declared.tree.Tree.{Tree}
use Rattle.fond_tree.specs.Trees.{members_of, leaf_of}
use Rattle.fond_ast.specs.declared.files.Declared.{Declared}
use Rattle.fond_ast.specs.declared.files.InitAtom.{InitAtom}
use Rattle.fond_ast.specs.declared.names.Kind.{Kind}
use Rattle.fond_ast.specs.declared.names.ReadAtom.{ReadAtom}
use Rattle.fond_ast.specs.declared.names.Term.{Term}
use Rattle.fond_ast.specs.declared.names.TypedName.{TypedName}
use Rattle.fond_tree.specs.Parts.{is_dash}
use Rattle.fond_tree.specs.Roles.{is_term as is_term_leaf}
use Rattle.fond_tree.specs.Words.{is_word, is_name, is_variable}
use Rattle.fond_reader.specs.Bodies.{is_term, are_of_atom, is_atom, is_initial}
use Rattle.fond_reader.specs.Files.{are_of_declared, is_declared}
use Rattle.fond_reader.specs.Forms.{is_place, is_sorted, are_operands, is_form}
use Rattle.fond_reader.specs.Typed.{TypedLeaf, next_type, typed_leaves, is_kind, is_one_kind, are_kinds, have_type, is_declared_by, are_names, are_variables, is_variable_list}
use Rattle.fond_laws.proofs.OneReadingAlike.{AreAlikeTrees, AreAlikeMembers, place_alike, leaf_alike, members_alike}

-- a test has the same value on trees that are alike
abbrev pub Respects : (Tree → Bool) → Type 0
Respects test = (tree other : Tree) → IsAlike tree other → test tree ≡ test other

-- items that are alike one by one are read as the same
pub passes_alike : {X T : Type 0} (like : T → T → Type 0) (read : X → T → Bool) → ((x : X) (t u : T) → like t u → read x t ≡ read x u) → (xs : List X) (ts us : List T) → AllZip like ts us → each_passes (map read xs) ts ≡ each_passes (map read xs) us
passes_alike like read same [] [] [] are = refl
passes_alike like read same (x ∷ xs) [] [] are = refl
passes_alike like read same xs [] (u ∷ us) are = absurd are
passes_alike like read same xs (t ∷ ts) [] are = absurd are
passes_alike like read same [] (t ∷ ts) (u ∷ us) are = refl
passes_alike like read same (x ∷ xs) (t ∷ ts) (u ∷ us) are =
    let first = same x t u are.0 in
    let rest = passes_alike like read same xs ts us are.1 in
    λ i. first i && rest i

-- trees that are alike are both leaves of a sort, place and name, or neither is
pub sorted_alike : (sort : List ℕ → Bool) (place : Place) (name : List ℕ) → Respects (is_sorted sort place name)
sorted_alike sort place name tree other alike =
    let leaf = leaf_alike tree other alike in
    let at = place_alike tree other alike in
    λ i. is_word name (leaf i) && is_place place (at i) && sort name

-- a term is read from each of two trees that are alike, or from neither
pub term_alike : (term : Term) → Respects (is_term term)
term_alike term tree other alike = ap (λ b. b && is_same term.variable (is_variable term.name)) (sorted_alike is_term_leaf term.place term.name tree other alike)

-- a type is read from each of two trees that are alike, or from neither
pub kind_alike : (kind : Kind) → Respects (is_kind kind)
kind_alike kind = sorted_alike is_name kind.place kind.name

-- an atom is read from each of two trees that are alike, or from neither
pub atom_alike : (atom : ReadAtom) → Respects (is_atom atom)
atom_alike atom tree other alike =
    let at = place_alike tree other alike in
    let inner = from (members_of tree) (members_of other) (members_alike tree other alike) in
    λ i. is_place atom.place (at i) && inner i
  where
    from : (members others : Option (List Tree)) → AreAlikeMembers members others → are_of_atom atom members ≡ are_of_atom atom others
    from None None are = refl
    from None (Some others) are = absurd are
    from (Some members) None are = absurd are
    from (Some []) (Some []) are = refl
    from (Some []) (Some (t ∷ ts)) are = absurd are
    from (Some (t ∷ ts)) (Some []) are = absurd are
    from (Some (head ∷ after)) (Some (first ∷ others)) are =
        let name = sorted_alike is_name atom.head atom.name head first are.0 in
        let terms = passes_alike IsAlike is_term term_alike atom.terms after others are.1 in
        λ i. name i && terms i

-- a form has the same value on trees that are alike if each of its operands has
pub form_alike : {X : Type 0} (read : X → Tree → Bool) → ((x : X) → Respects (read x)) → (word : List ℕ) (xs : List X) → Respects (is_form word (map read xs))
form_alike {X} read same word xs tree other alike = from (members_of tree) (members_of other) (members_alike tree other alike) where
  from : (members others : Option (List Tree)) → AreAlikeMembers members others → are_operands word (map read xs) members ≡ are_operands word (map read xs) others
  from None None are = refl
  from None (Some others) are = absurd are
  from (Some members) None are = absurd are
  from (Some []) (Some []) are = refl
  from (Some []) (Some (t ∷ ts)) are = absurd are
  from (Some (t ∷ ts)) (Some []) are = absurd are
  from (Some (head ∷ after)) (Some (first ∷ others)) are =
      let leaf = leaf_alike head first are.0 in
      let rest = passes_alike IsAlike read same xs after others are.1 in
      λ i. is_word word (leaf i) && rest i

-- ---- typed lists

-- the types of two leaves are alike, if they are written
abbrev pub AreAlikeTypes : Option Tree → Option Tree → Type 0
AreAlikeTypes None None = ⊤
AreAlikeTypes None (Some other) = ⊥
AreAlikeTypes (Some tree) None = ⊥
AreAlikeTypes (Some tree) (Some other) = IsAlike tree other

-- two leaves with their types are alike
abbrev pub AreAlikeTyped : TypedLeaf → TypedLeaf → Type 0
AreAlikeTyped leaf other = IsAlike leaf.leaf other.leaf × AreAlikeTypes leaf.type other.type

-- trees that are alike are both `-`, or neither is
pub dash_alike : (tree other : Tree) → IsAlike tree other → is_dash tree ≡ is_dash other
dash_alike tree other alike = from (leaf_alike tree other alike) (is_dash other) refl where
  from : leaf_of tree ≡ leaf_of other → (b : Bool) → is_dash other ≡ b → is_dash tree ≡ is_dash other
  from same b is = rw same refl

-- the next types in lists that are alike are alike
next_alike : (trees others : List Tree) → AreAlikeTrees trees others → AreAlikeTypes (next_type trees) (next_type others)
next_alike [] [] are = tt
next_alike [] (u ∷ us) are = absurd are
next_alike (t ∷ ts) [] are = absurd are
next_alike (t ∷ []) (u ∷ []) are = tt
next_alike (t ∷ []) (u ∷ v ∷ us) are = absurd are.1
next_alike (t ∷ s ∷ ts) (u ∷ []) are = absurd are.1
next_alike (t ∷ s ∷ ts) (u ∷ v ∷ us) are =
    subst (λ b. AreAlikeTypes (next_type (t ∷ s ∷ ts)) (if b then Some v else next_type (v ∷ us))) (dash_alike t u are.0) (from (is_dash t) are.1.0 (next_alike (s ∷ ts) (v ∷ us) are.1))
  where
    from : (b : Bool) → IsAlike s v → AreAlikeTypes (next_type (s ∷ ts)) (next_type (v ∷ us)) → AreAlikeTypes (if b then Some s else next_type (s ∷ ts)) (if b then Some v else next_type (v ∷ us))
    from true here rest = here
    from false here rest = rest

-- the leaves of typed lists that are alike are alike, with their types
typed_alike : (untyped : Bool) (trees others : List Tree) → AreAlikeTrees trees others → AllZip AreAlikeTyped (typed_leaves untyped trees) (typed_leaves untyped others)
typed_alike untyped [] [] are = tt
typed_alike untyped [] (u ∷ us) are = absurd are
typed_alike untyped (t ∷ ts) [] are = absurd are
typed_alike untyped (t ∷ []) (u ∷ []) are = ((are.0, tt), tt)
typed_alike untyped (t ∷ []) (u ∷ v ∷ us) are = absurd are.1
typed_alike untyped (t ∷ s ∷ ts) (u ∷ []) are = absurd are.1
typed_alike untyped (t ∷ s ∷ ts) (u ∷ v ∷ us) are =
    subst (λ d. AllZip AreAlikeTyped (typed_leaves untyped (t ∷ s ∷ ts)) (if untyped && d then typed_leaves false us else record { leaf = u; type = next_type (v ∷ us) } ∷ typed_leaves (not d) (v ∷ us))) (dash_alike t u are.0)
    (from (untyped && is_dash t) (typed_alike false ts us are.1.1) ((are.0, next_alike (s ∷ ts) (v ∷ us) are.1), typed_alike (not (is_dash t)) (s ∷ ts) (v ∷ us) are.1))
  where
    from : (b : Bool) → AllZip AreAlikeTyped (typed_leaves false ts) (typed_leaves false us) →
        AllZip AreAlikeTyped (record { leaf = t; type = next_type (s ∷ ts) } ∷ typed_leaves (not (is_dash t)) (s ∷ ts)) (record { leaf = u; type = next_type (v ∷ us) } ∷ typed_leaves (not (is_dash t)) (v ∷ us)) →
        AllZip AreAlikeTyped (if b then typed_leaves false ts else record { leaf = t; type = next_type (s ∷ ts) } ∷ typed_leaves (not (is_dash t)) (s ∷ ts)) (if b then typed_leaves false us else record { leaf = u; type = next_type (v ∷ us) } ∷ typed_leaves (not (is_dash t)) (v ∷ us))
    from true one two = one
    from false one two = two

-- types of a declared name are read from each of two trees that are alike, or from neither
one_kind_alike : (kinds : List Kind) → Respects (is_one_kind kinds)
one_kind_alike kinds tree other alike = passes_alike IsAlike is_kind kind_alike kinds (tree ∷ []) (other ∷ []) (alike, tt)

-- types of a variable are read from each of two trees that are alike, or from neither
kinds_alike : (kinds : List Kind) → Respects (are_kinds kinds)
kinds_alike kinds tree other alike =
    let one = one_kind_alike kinds tree other alike in
    let either = form_alike is_kind kind_alike (codes "either") kinds tree other alike in
    λ i. one i || (not (length kinds == 0) && either i)

-- a declared name is read from each of two leaves that are alike with their types, or from neither
declared_by_alike : (sort : List ℕ → Bool) (type : List Kind → Tree → Bool) → ((kinds : List Kind) → Respects (type kinds)) → (name : TypedName) (leaf other : TypedLeaf) → AreAlikeTyped leaf other → is_declared_by sort type name leaf ≡ is_declared_by sort type name other
declared_by_alike sort type same name leaf other alike =
    let first = sorted_alike sort name.place name.name leaf.leaf other.leaf alike.0 in
    let rest = from leaf.type other.type alike.1 in
    λ i. first i && rest i
  where
    from : (one two : Option Tree) → AreAlikeTypes one two → have_type type name.place name.kinds one ≡ have_type type name.place name.kinds two
    from None None are = refl
    from None (Some two) are = absurd are
    from (Some one) None are = absurd are
    from (Some one) (Some two) are = same name.kinds one two are

-- names are read from each of two typed lists that are alike, or from neither
pub names_alike : (names : List TypedName) (trees others : List Tree) → AreAlikeTrees trees others → are_names names trees ≡ are_names names others
names_alike names trees others are =
    passes_alike AreAlikeTyped (is_declared_by is_name is_one_kind) (declared_by_alike is_name is_one_kind one_kind_alike) names (typed_leaves false trees) (typed_leaves false others) (typed_alike false trees others are)

-- variables are read from each of two typed lists that are alike, or from neither
pub variables_alike : (names : List TypedName) (trees others : List Tree) → AreAlikeTrees trees others → are_variables names trees ≡ are_variables names others
variables_alike names trees others are =
    passes_alike AreAlikeTyped (is_declared_by is_variable are_kinds) (declared_by_alike is_variable are_kinds kinds_alike) names (typed_leaves false trees) (typed_leaves false others) (typed_alike false trees others are)

-- a list of variables is read from each of two trees that are alike, or from neither
pub variable_list_alike : (names : List TypedName) → Respects (is_variable_list names)
variable_list_alike names tree other alike = from (members_of tree) (members_of other) refl refl (members_alike tree other alike) where
  from : (members others : Option (List Tree)) → members_of tree ≡ members → members_of other ≡ others → AreAlikeMembers members others → is_variable_list names tree ≡ is_variable_list names other
  from None None one two are = rw (one, two) refl
  from None (Some others) one two are = absurd are
  from (Some members) None one two are = absurd are
  from (Some members) (Some others) one two are = rw (one, two) (variables_alike names members others are)

-- a declared predicate is read from each of two trees that are alike, or from neither
pub declared_alike : (declared : Declared) → Respects (is_declared declared)
declared_alike declared tree other alike = from (members_of tree) (members_of other) (members_alike tree other alike) where
  from : (members others : Option (List Tree)) → AreAlikeMembers members others → are_of_declared declared members ≡ are_of_declared declared others
  from None None are = refl
  from None (Some others) are = absurd are
  from (Some members) None are = absurd are
  from (Some []) (Some []) are = refl
  from (Some []) (Some (t ∷ ts)) are = absurd are
  from (Some (t ∷ ts)) (Some []) are = absurd are
  from (Some (name ∷ after)) (Some (first ∷ others)) are =
      let leaf = sorted_alike is_name declared.place declared.name name first are.0 in
      let parameters = variables_alike declared.parameters after others are.1 in
      λ i. leaf i && parameters i

-- an initial atom is read from each of two trees that are alike, or from neither
pub initial_alike : (initial : InitAtom) → Respects (is_initial initial)
initial_alike initial tree other alike = from initial.positive where
  from : (b : Bool) → (if b then is_atom initial.atom tree else is_form (codes "not") (is_atom initial.atom ∷ []) tree) ≡ (if b then is_atom initial.atom other else is_form (codes "not") (is_atom initial.atom ∷ []) other)
  from true = atom_alike initial.atom tree other alike
  from false = form_alike is_atom atom_alike (codes "not") (initial.atom ∷ []) tree other alike
