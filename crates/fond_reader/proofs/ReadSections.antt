-- Actions and predicates that are read fit.
use Rattle.std.proofs.Common.{◌≡◌, ℕ, zero, suc, ◌≤◌, Bool, true, false, List, [], ◌∷◌, length, Option, Some, None, codes, option_to_list, option_map, refl, sym, ap, subst, ◌∙◌, arith, if◌then◌else◌, Contains}
use Rattle.std.specs.List.{AllByRecursion, list_all}
use Rattle.std.specs.Str.{bytes_eq}
use Rattle.fond_tree.specs.declared.tree.Tree.{Tree}
use Rattle.fond_tree.specs.Trees.{members_of, leaf_of, head_of}
use Rattle.fond_ast.specs.declared.files.Declared.{Declared}
use Rattle.fond_ast.specs.declared.files.Schema.{Schema}
use Rattle.fond_ast.specs.declared.names.TypedName.{TypedName}
use Rattle.fond_ast.specs.declared.syntax.Cond.{Cond}
use Rattle.fond_ast.specs.declared.syntax.Effect.{Effect}
use Rattle.fond_tree.specs.declared.role.Role.{Role}
use Rattle.fond_tree.specs.declared.role.Role.TheVariants as role
use Rattle.fond_tree.specs.declared.role.Rest.TheVariants.{Typed, Pairs}
use Rattle.fond_tree.specs.Words.{is_word, has_head, is_name, is_one_of}
use Rattle.fond_tree.specs.Roles.{shape, action_keys, is_headed_by, section, domain_section}
use Rattle.fond_tree.specs.Parts.{part, value, pairs, are_pairs}
use Rattle.fond_tree.specs.FormFaults.{Fits, keys, after_header, Repeats}
use Rattle.fond_tree.proofs.Fitting.{AllFit, node_fits}
use Rattle.fond_tree.proofs.FittingLeaves.{fits_name, fits_key, fits_head}
use Rattle.fond_tree.proofs.Once.{repeats_twice}
use Rattle.fond_tree.proofs.TypedLists.{all_fit_join}
use Rattle.fond_reader.specs.Files.{is_declared, are_of_declared, values, AreParameters, IsPrecondition, IsKeyedEffect, IsSchemaOf}
use Rattle.fond_reader.specs.Forms.{is_named}
use Rattle.fond_reader.specs.declared.typed.Sort.TheVariants.{Variables}
use Rattle.fond_reader.proofs.Actions.{values_counted}
use Rattle.fond_reader.proofs.ReadForms.{condition_fits, effect_fits}
use Rattle.fond_reader.proofs.ReadLeaves.{sorted_there, list_fits, variables_fit}
use Rattle.fond_tree.proofs.Again.{word_is as leaf_is}
use Rattle.fond_reader.proofs.Through.{first_of_both, second_of_both, true_is_false}

-- a tree that is read as a declared predicate fits
pub predicate_fits : (declared : Declared) (tree : Tree) → is_declared declared tree ≡ true → Fits role.Predicate tree
predicate_fits declared tree is = from (members_of tree) refl is where
  from : (members : Option (List Tree)) → members_of tree ≡ members → are_of_declared declared members ≡ true → Fits role.Predicate tree
  from None whole h = absurd (cc)
  from (Some []) whole h = absurd (cc)
  from (Some (name ∷ after)) whole h =
      node_fits role.Predicate tree (λ place again. again) (λ place lacks. lacks) (name ∷ after) (shape (role.Name ∷ []) (Typed role.Variable role.VariableType)) whole refl (record {
        counted = refl;
        inner = (
          fits_name name (sorted_there is_name declared.place declared.name name (first_of_both _ _ h)),
          list_fits Variables declared.parameters after (second_of_both (is_named declared.place declared.name name) _ h),
        );
      })

-- ---- the values of an action

parameters_fit : (trees : List Tree) (names : List TypedName) → AreParameters trees names → AllByRecursion (Fits role.Variables) trees × (length trees ≤ 1)
parameters_fit [] names is = (tt, omega arith)
parameters_fit (t ∷ ts) names is = let none = ap length is.1 in (subst (λ us. AllByRecursion (Fits role.Variables) (t ∷ us)) (sym is.1) (variables_fit names t is.0, tt), omega arith)

pre_fits : (trees : List Tree) (pre : Cond) → IsPrecondition trees pre → AllByRecursion (Fits role.Condition) trees × (length trees ≤ 1)
pre_fits [] pre is = (tt, omega arith)
pre_fits (t ∷ ts) pre is = let none = ap length is.1 in (subst (λ us. AllByRecursion (Fits role.Condition) (t ∷ us)) (sym is.1) (condition_fits pre t is.0, tt), omega arith)

keyed_fits : (trees : List Tree) (effect : Effect) → IsKeyedEffect trees effect → AllByRecursion (Fits role.Effect) trees × (length trees ≤ 1)
keyed_fits [] effect is = (tt, omega arith)
keyed_fits (t ∷ ts) effect is = let none = ap length is.1 in (subst (λ us. AllByRecursion (Fits role.Effect) (t ∷ us)) (sym is.1) (effect_fits effect t is.0, tt), omega arith)

-- the first value of a key, if it is that of the first pair, and the others
values_split : (of : Role) (word : List ℕ) (key tree : Tree) (trees : List Tree) → AllByRecursion (Fits of) (values word (key ∷ tree ∷ trees)) → (is_word word (leaf_of key) ≡ true → Fits of tree) × AllByRecursion (Fits of) (values word trees)
values_split of word key tree trees = from (is_word word (leaf_of key)) where
  from : (b : Bool) → AllByRecursion (Fits of) (if b then tree ∷ values word trees else values word trees) → (b ≡ true → Fits of tree) × AllByRecursion (Fits of) (values word trees)
  from true fit = (λ is. fit.0, fit.1)
  from false fit = (λ is. absurd (true_is_false (sym is)), fit)

value_fits : (tree : Tree) (parameters pre effect : Bool) → (parameters ≡ true → Fits role.Variables tree) → (pre ≡ true → Fits role.Condition tree) → (effect ≡ true → Fits role.Effect tree) →
    AllFit (option_to_list (option_map (λ role. part role tree) (if parameters then Some role.Variables else if pre then Some role.Condition else if effect then Some role.Effect else None)))
value_fits tree true pre effect p c e = (p refl, tt)
value_fits tree false true effect p c e = (c refl, tt)
value_fits tree false false true p c e = (e refl, tt)
value_fits tree false false false p c e = tt

key_leaf : (key : Tree) (leaf : Option (List ℕ)) → leaf_of key ≡ leaf → is_headed_by action_keys leaf ≡ true → (word : List ℕ) × (leaf_of key ≡ Some word) × (is_one_of action_keys word ≡ true)
key_leaf key None is known = absurd (true_is_false (sym known))
key_leaf key (Some word) is known = (word, is, known)

pairs_fit : (trees : List Tree) → are_pairs trees ≡ true → list_all (λ key. is_headed_by action_keys (leaf_of key)) (keys trees) ≡ true → AllByRecursion (Fits role.Variables) (values (codes ":parameters") trees) →
    AllByRecursion (Fits role.Condition) (values (codes ":precondition") trees) → AllByRecursion (Fits role.Effect) (values (codes ":effect") trees) → AllFit (pairs trees)
pairs_fit [] paired known p c e = tt
pairs_fit (key ∷ []) paired known p c e = absurd (cc)
pairs_fit (key ∷ tree ∷ trees) paired known p c e =
    let leaf = key_leaf key (leaf_of key) refl (first_of_both _ _ known) in
    let ps = values_split role.Variables (codes ":parameters") key tree trees p in
    let cs = values_split role.Condition (codes ":precondition") key tree trees c in
    let es = values_split role.Effect (codes ":effect") key tree trees e in
    let here = value_fits tree (bytes_eq leaf.0 (codes ":parameters")) (bytes_eq leaf.0 (codes ":precondition")) (bytes_eq leaf.0 (codes ":effect"))
    (λ is. ps.0 (ap (is_word (codes ":parameters")) leaf.1 ∙ is)) (λ is. cs.0 (ap (is_word (codes ":precondition")) leaf.1 ∙ is)) (λ is. es.0 (ap (is_word (codes ":effect")) leaf.1 ∙ is)) in
    let looked : value (leaf_of key) tree ≡ value (Some leaf.0) tree = ap (λ l. value l tree) leaf.1 in
    let rest = pairs_fit trees paired (second_of_both (is_headed_by action_keys (leaf_of key)) _ known) ps.1 cs.1 es.1 in
    (fits_key key (record { leaf = leaf.0; is = leaf.1; passes = leaf.2 }), all_fit_join (value (leaf_of key) tree) (pairs trees) (subst AllFit (sym looked) here) rest)

-- each key occurs at most once
keys_once : (trees : List Tree) → length (values (codes ":parameters") trees) ≤ 1 → length (values (codes ":precondition") trees) ≤ 1 → length (values (codes ":effect") trees) ≤ 1 →
    (word : List ℕ) → Contains action_keys word → length (values word trees) ≤ 1
keys_once trees p c e word (zero, below, same) = subst (λ (w : List ℕ). length (values w trees) ≤ 1) same p
keys_once trees p c e word (suc zero, below, same) = subst (λ (w : List ℕ). length (values w trees) ≤ 1) same c
keys_once trees p c e word (suc (suc zero), below, same) = subst (λ (w : List ℕ). length (values w trees) ≤ 1) same e
keys_once trees p c e word (suc (suc (suc k)), below, same) = absurd (omega arith)

-- a section that is read as a schema fits
pub schema_fits : (tree : Tree) (schema : Schema) → IsSchemaOf tree schema → has_head (codes ":action") tree ≡ true → Fits role.DomainSection tree
schema_fits tree schema is has =
    let p = parameters_fit _ schema.parameters is.parameters in
    let c = pre_fits _ schema.pre is.pre in
    let e = keyed_fits _ schema.effect is.effect in
    let front_is : head_of tree ≡ leaf_of is.head = rw is.whole refl in
    let leaf : leaf_of is.head ≡ Some (codes ":action") = leaf_is (codes ":action") (leaf_of is.head) (sym (ap (is_word (codes ":action")) front_is) ∙ has) in
    node_fits role.DomainSection tree
    (λ place again.
    let both : Some again.0 ≡ Some (is.head ∷ is.name ∷ is.pairs) = sym again.1 ∙ is.whole in
    let members : again.0 ≡ is.head ∷ is.name ∷ is.pairs = cc in
    let repeats = subst (λ (ms : List Tree). Repeats leaf_of action_keys (keys (after_header ms)) place) members again.3 in
    let twice = repeats_twice leaf_of action_keys (keys is.pairs) place repeats in
    omega (arith, twice.2, values_counted twice.0 is.pairs is.paired, keys_once is.pairs p.1 c.1 e.1 twice.0 twice.1))
    (λ place lacks. lacks) (is.head ∷ is.name ∷ is.pairs) (shape (role.Head ∷ role.Name ∷ []) Pairs) is.whole (ap (λ l. Some (section domain_section l)) leaf)
    (record {
      counted = is.paired;
      inner = (fits_head is.head (codes ":action") leaf, (fits_name is.name (sorted_there is_name schema.place schema.name is.name is.named), pairs_fit is.pairs is.paired is.known p.0 c.0 e.0));
    })
