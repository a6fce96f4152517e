-- Some condition or effect is read from each tree that fits.
use Rattle.std.proofs.Common.{◌≡◌, ℕ, suc, ◌≤◌, ◌==◌, Bool, true, false, not, List, [], ◌∷◌, map, length, Some, Vec, Box, Global, codes, refl, sym, ap, subst, ◌∙◌, arith}
use Rattle.std.specs.List.{AllByRecursion, AllZip}
use Rattle.std.specs.Str.{bytes_eq}
use Rattle.std.proofs.lemmas.Bool.Decides.{nat_tests}
use Rattle.fond_text.specs.Lists.{each_passes}
use Rattle.fond_tree.specs.declared.tree.Tree.{Tree, out-Tree, roll-Tree, out-roll-Tree}
use Rattle.fond_tree.specs.declared.tree.Tree.TheOpen.{Tree-F, Leaf, Node}
use Rattle.fond_tree.specs.declared.tree.Tree.TheFolds.{map-Tree, ind-Tree}
use Rattle.fond_tree.specs.Trees.{members_step, members_of}
use Rattle.fond_ast.specs.declared.files.InitAtom.{InitAtom}
use Rattle.fond_ast.specs.declared.syntax.Cond.{Cond, roll-Cond}
use Rattle.fond_ast.specs.declared.syntax.Cond.TheOpen as open_condition
use Rattle.fond_ast.specs.declared.syntax.Cond.TheFolds.{fold-roll-Cond, map-Cond}
use Rattle.fond_ast.specs.declared.syntax.Effect.{Effect, roll-Effect}
use Rattle.fond_ast.specs.declared.syntax.Effect.TheOpen as open_effect
use Rattle.fond_ast.specs.declared.syntax.Effect.TheFolds.{fold-roll-Effect, map-Effect}
use Rattle.fond_ast.specs.declared.names.TypedName.{TypedName}
use Rattle.fond_tree.specs.declared.role.Role.TheVariants as role
use Rattle.fond_tree.specs.FormFaults.{Fits}
use Rattle.fond_tree.proofs.Fitting.{node_there}
use Rattle.fond_tree.proofs.FittingNodes.{initial_there}
use Rattle.fond_tree.proofs.Heads.{HasHead, condition_head, and_fits, or_fits, not_fits, imply_fits, forall_fits, exists_fits, equal_fits, condition_atom, effect_head, effects_fit, delete_fits, forall_effect_fits, when_fits, choice_fits, effect_atom, initial_head, negated_fits, initial_atom}
use Rattle.fond_reader.specs.Bodies.{is_term, is_atom, condition_step, is_condition, effect_step, is_effect, is_initial}
use Rattle.fond_reader.specs.Forms.{is_empty}
use Rattle.fond_reader.specs.Typed.{is_variable_list}
use Rattle.fond_reader.proofs.BuiltLists.{term_built, atom_built, variables_built}
use Rattle.fond_reader.proofs.Operators.{operands_read}
use Rattle.fond_reader.proofs.Through.{both_hold}

-- what holds of a tree if it holds of its members holds of each tree
module _ (P : Tree → Type 0) where
  each_first : (members : List ((tree : Tree) × P tree)) → AllByRecursion P (map (λ e. e.0) members)
  each_first [] = tt
  each_first (m ∷ ms) = (m.1, each_first ms)

  layer_members : (y : Tree-F ((tree : Tree) × P tree)) (members : List Tree) → members_step (map-Tree ((tree : Tree) × P tree) Tree (λ e. e.0) y) ≡ Some members → AllByRecursion P members
  layer_members (Leaf place name) members is = cc
  layer_members (Node place inner) members is = let same : map (λ e. e.0) inner.items ≡ members = cc in subst (λ ts. AllByRecursion P ts) same (each_first inner.items)

  pub by_members : ((tree : Tree) → ((members : List Tree) → members_of tree ≡ Some members → AllByRecursion P members) → P tree) → (tree : Tree) → P tree
  by_members step = ind-Tree P (λ x y is. step (roll-Tree x) (λ members whole. layer_members y members (ap members_step is ∙ sym (ap members_step (out-roll-Tree x)) ∙ whole)))

-- the vector of the members of a node
vec_of : (tree : Tree) (members : List Tree) → members_of tree ≡ Some members → (d : Vec Tree Global) × (d.items ≡ members)
vec_of tree members is = from (out-Tree tree) is where
  from : (layer : Tree-F Tree) → members_step layer ≡ Some members → (d : Vec Tree Global) × (d.items ≡ members)
  from (Leaf place name) h = cc
  from (Node place d) h = let same : d.items ≡ members = cc in (d, same)

-- vectors and boxes of other things, in the place of the members of a node
abbrev vec_with : {X : Type 0} (d : Vec Tree Global) (xs : List X) → length xs ≤ d.cap → Vec X Global
vec_with d xs few = record { ptr = d.ptr; len = length xs; cap = d.cap; alloc = d.alloc; items = xs; ok = (refl, few); small = d.small }

abbrev box_with : {X : Type 0} (d : Vec Tree Global) → X → Box X Global
box_with d x = record { ptr = d.ptr; alloc = d.alloc; value = x }

-- the members after the head of a node are fewer than all members
room : (d : Vec Tree Global) (head : Tree) (after : List Tree) → d.items ≡ head ∷ after → (count : ℕ) → count ≡ length after → count ≤ d.cap
room d head after is count many =
    let long : length d.items ≡ suc (length after) = ap length is in
    let own : d.len ≡ length d.items = d.ok.0 in
    let most : d.len ≤ d.cap = d.ok.1 in
    omega arith

-- things that are read from trees that fit
module _ {X : Type 0} (read : X → Tree → Bool) (Fitting : Tree → Type 0) where
  abbrev pub Built : Tree → Type 0
  Built tree = Fitting tree → (x : X) × (read x tree ≡ true)

  pub all_built : (trees : List Tree) → AllByRecursion Built trees → AllByRecursion Fitting trees → (xs : List X) × (length xs ≡ length trees) × (each_passes (map read xs) trees ≡ true)
  all_built [] each fit = ([], refl, refl)
  all_built (t ∷ ts) each fit =
      let here = each.0 fit.0 in
      let rest = all_built ts each.1 fit.1 in
      (here.0 ∷ rest.0, ap (λ n. suc n) rest.1, both_hold _ _ here.1 rest.2)

-- ---- conditions

abbrev pub IsBuilt : Tree → Type 0
IsBuilt = Built is_condition (Fits role.Condition)

condition_of : (layer : open_condition.Cond-F Cond) (tree : Tree) → condition_step (map-Cond Cond (Tree → Bool) is_condition layer) tree ≡ true → (condition : Cond) × (is_condition condition tree ≡ true)
condition_of layer tree is = (roll-Cond layer, ap (λ reads. reads tree) (fold-roll-Cond (Tree → Bool) condition_step layer) ∙ is)

only_built : (trees : List Tree) → AllByRecursion IsBuilt trees → AllZip Fits (role.Condition ∷ []) trees → (part : Cond) × (each_passes (is_condition part ∷ []) trees ≡ true)
only_built [] each fit = absurd fit
only_built (t ∷ []) each fit = let part = each.0 fit.0 in (part.0, both_hold _ _ part.1 refl)
only_built (t ∷ u ∷ us) each fit = absurd fit.1

both_built : (trees : List Tree) → AllByRecursion IsBuilt trees → AllZip Fits (role.Condition ∷ role.Condition ∷ []) trees → (part : Cond) × (other : Cond) × (each_passes (is_condition part ∷ is_condition other ∷ []) trees ≡ true)
both_built [] each fit = absurd fit
both_built (t ∷ ts) each fit = let part = each.0 fit.0 in let other = only_built ts each.1 fit.1 in (part.0, other.0, both_hold _ _ part.1 other.1)

quantified_built : (trees : List Tree) → AllByRecursion IsBuilt trees → AllZip Fits (role.Variables ∷ role.Condition ∷ []) trees →
    (names : List TypedName) × (part : Cond) × (each_passes (is_variable_list names ∷ is_condition part ∷ []) trees ≡ true)
quantified_built [] each fit = absurd fit
quantified_built (t ∷ ts) each fit = let names = variables_built t fit.0 in let part = only_built ts each.1 fit.1 in (names.0, part.0, both_hold _ _ names.1 part.1)

equal_built : (trees : List Tree) → AllZip Fits (role.Term ∷ role.Term ∷ []) trees → (term : _) × (other : _) × (each_passes (is_term term ∷ is_term other ∷ []) trees ≡ true)
equal_built [] fit = absurd fit
equal_built (t ∷ []) fit = absurd fit.1
equal_built (t ∷ u ∷ []) fit = let term = term_built t fit.0 in let other = term_built u fit.1.0 in (term.0, other.0, both_hold _ _ term.1 (both_hold _ _ other.1 refl))
equal_built (t ∷ u ∷ v ∷ vs) fit = absurd fit.1.1

module _ (tree : Tree) (word : List ℕ) (after : List Tree) (fits : Fits role.Condition tree) (has : HasHead tree word after) (each : AllByRecursion IsBuilt after) where
  own : (d : Vec Tree Global) × (d.items ≡ has.head ∷ after)
  own = vec_of tree (has.head ∷ after) has.whole

  form_built : (a b c d e f g : Bool) → bytes_eq word (codes "and") ≡ a → bytes_eq word (codes "or") ≡ b → bytes_eq word (codes "not") ≡ c → bytes_eq word (codes "imply") ≡ d → bytes_eq word (codes "forall") ≡ e →
      bytes_eq word (codes "exists") ≡ f → bytes_eq word (codes "=") ≡ g → (condition : Cond) × (is_condition condition tree ≡ true)
  form_built true b c d e f g ea eb ec ed ee ef eg =
      let parts = all_built is_condition (Fits role.Condition) after each (and_fits tree word after fits has ea) in
      condition_of (open_condition.And (vec_with own.0 parts.0 (room own.0 has.head after own.1 (length parts.0) parts.1))) tree (operands_read tree word (codes "and") after (map is_condition parts.0) has ea parts.2)
  form_built false true c d e f g ea eb ec ed ee ef eg =
      let parts = all_built is_condition (Fits role.Condition) after each (or_fits tree word after fits has eb) in
      condition_of (open_condition.Or (vec_with own.0 parts.0 (room own.0 has.head after own.1 (length parts.0) parts.1))) tree (operands_read tree word (codes "or") after (map is_condition parts.0) has eb parts.2)
  form_built false false true d e f g ea eb ec ed ee ef eg =
      let part = only_built after each (not_fits tree word after fits has ec) in
      condition_of (open_condition.Not (box_with own.0 part.0)) tree (operands_read tree word (codes "not") after (is_condition part.0 ∷ []) has ec part.1)
  form_built false false false true e f g ea eb ec ed ee ef eg =
      let parts = both_built after each (imply_fits tree word after fits has ed) in
      condition_of (open_condition.Imply (box_with own.0 parts.0) (box_with own.0 parts.1)) tree (operands_read tree word (codes "imply") after (is_condition parts.0 ∷ is_condition parts.1 ∷ []) has ed parts.2)
  form_built false false false false true f g ea eb ec ed ee ef eg =
      let parts = quantified_built after each (forall_fits tree word after fits has ee) in
      condition_of (open_condition.Forall parts.0 (box_with own.0 parts.1)) tree (operands_read tree word (codes "forall") after (is_variable_list parts.0 ∷ is_condition parts.1 ∷ []) has ee parts.2)
  form_built false false false false false true g ea eb ec ed ee ef eg =
      let parts = quantified_built after each (exists_fits tree word after fits has ef) in
      condition_of (open_condition.Exists parts.0 (box_with own.0 parts.1)) tree (operands_read tree word (codes "exists") after (is_variable_list parts.0 ∷ is_condition parts.1 ∷ []) has ef parts.2)
  form_built false false false false false false true ea eb ec ed ee ef eg =
      let parts = equal_built after (equal_fits tree word after fits has eg) in
      condition_of (open_condition.Equal parts.0 parts.1) tree (operands_read tree word (codes "=") after (is_term parts.0 ∷ is_term parts.1 ∷ []) has eg parts.2)
  form_built false false false false false false false ea eb ec ed ee ef eg =
      let atom = atom_built tree (condition_atom tree word after fits has (record { conjunction = ea; disjunction = eb; negation = ec; implication = ed; universal = ee; existential = ef; equality = eg })) in
      condition_of (open_condition.Holds atom.0) tree atom.1

condition_by_members : (tree : Tree) → Fits role.Condition tree → (members : List Tree) → members_of tree ≡ Some members → AllByRecursion IsBuilt members → (condition : Cond) × (is_condition condition tree ≡ true)
condition_by_members tree fits [] whole each = condition_of open_condition.Truth tree (ap is_empty whole)
condition_by_members tree fits (head ∷ after) whole each =
    let word = condition_head tree head after fits whole in
    form_built tree word.0 after fits (record { head = head; whole = whole; leaf = word.1 }) each.1 _ _ _ _ _ _ _ refl refl refl refl refl refl refl

-- from each tree that fits a condition is read
pub condition_built : (tree : Tree) → Fits role.Condition tree → (condition : Cond) × (is_condition condition tree ≡ true)
condition_built = by_members IsBuilt (λ tree inner fits.
    let node = node_there role.Condition tree fits (λ _. refl) in
    condition_by_members tree fits node.0 node.1 (inner node.0 node.1))

-- ---- effects

abbrev pub IsBuiltEffect : Tree → Type 0
IsBuiltEffect = Built is_effect (Fits role.Effect)

effect_of : (layer : open_effect.Effect-F Effect) (tree : Tree) → effect_step (map-Effect Effect (Tree → Bool) is_effect layer) tree ≡ true → (effect : Effect) × (is_effect effect tree ≡ true)
effect_of layer tree is = (roll-Effect layer, ap (λ reads. reads tree) (fold-roll-Effect (Tree → Bool) effect_step layer) ∙ is)

only_atom_built : (trees : List Tree) → AllZip Fits (role.Atom ∷ []) trees → (atom : _) × (each_passes (is_atom atom ∷ []) trees ≡ true)
only_atom_built [] fit = absurd fit
only_atom_built (t ∷ []) fit = let atom = atom_built t fit.0 in (atom.0, both_hold _ _ atom.1 refl)
only_atom_built (t ∷ u ∷ us) fit = absurd fit.1

only_effect_built : (trees : List Tree) → AllByRecursion IsBuiltEffect trees → AllZip Fits (role.Effect ∷ []) trees → (part : Effect) × (each_passes (is_effect part ∷ []) trees ≡ true)
only_effect_built [] each fit = absurd fit
only_effect_built (t ∷ []) each fit = let part = each.0 fit.0 in (part.0, both_hold _ _ part.1 refl)
only_effect_built (t ∷ u ∷ us) each fit = absurd fit.1

quantified_effect_built : (trees : List Tree) → AllByRecursion IsBuiltEffect trees → AllZip Fits (role.Variables ∷ role.Effect ∷ []) trees →
    (names : List TypedName) × (part : Effect) × (each_passes (is_variable_list names ∷ is_effect part ∷ []) trees ≡ true)
quantified_effect_built [] each fit = absurd fit
quantified_effect_built (t ∷ ts) each fit = let names = variables_built t fit.0 in let part = only_effect_built ts each.1 fit.1 in (names.0, part.0, both_hold _ _ names.1 part.1)

conditional_built : (trees : List Tree) → AllByRecursion IsBuiltEffect trees → AllZip Fits (role.Condition ∷ role.Effect ∷ []) trees →
    (condition : Cond) × (part : Effect) × (each_passes (is_condition condition ∷ is_effect part ∷ []) trees ≡ true)
conditional_built [] each fit = absurd fit
conditional_built (t ∷ ts) each fit = let condition = condition_built t fit.0 in let part = only_effect_built ts each.1 fit.1 in (condition.0, part.0, both_hold _ _ condition.1 part.1)

some_effects : (effects : List Effect) (after : List Tree) → length effects ≡ length after → (¬ after ≡ []) → not (length (map is_effect effects) == 0) ≡ true
some_effects [] [] many some = absurd (some refl)
some_effects [] (t ∷ ts) many some = absurd (omega arith)
some_effects (e ∷ es) after many some = grind (arith, nat_tests)

module _ (tree : Tree) (word : List ℕ) (after : List Tree) (fits : Fits role.Effect tree) (has : HasHead tree word after) (each : AllByRecursion IsBuiltEffect after) where
  vec : (d : Vec Tree Global) × (d.items ≡ has.head ∷ after)
  vec = vec_of tree (has.head ∷ after) has.whole

  effect_form_built : (a b c d e : Bool) → bytes_eq word (codes "and") ≡ a → bytes_eq word (codes "not") ≡ b → bytes_eq word (codes "forall") ≡ c → bytes_eq word (codes "when") ≡ d → bytes_eq word (codes "oneof") ≡ e →
      (effect : Effect) × (is_effect effect tree ≡ true)
  effect_form_built true b c d e ea eb ec ed ee =
      let parts = all_built is_effect (Fits role.Effect) after each (effects_fit tree word after fits has ea) in
      effect_of (open_effect.And (vec_with vec.0 parts.0 (room vec.0 has.head after vec.1 (length parts.0) parts.1))) tree (operands_read tree word (codes "and") after (map is_effect parts.0) has ea parts.2)
  effect_form_built false true c d e ea eb ec ed ee =
      let atom = only_atom_built after (delete_fits tree word after fits has eb) in
      effect_of (open_effect.Delete atom.0) tree (operands_read tree word (codes "not") after (is_atom atom.0 ∷ []) has eb atom.1)
  effect_form_built false false true d e ea eb ec ed ee =
      let parts = quantified_effect_built after each (forall_effect_fits tree word after fits has ec) in
      effect_of (open_effect.Forall parts.0 (box_with vec.0 parts.1)) tree (operands_read tree word (codes "forall") after (is_variable_list parts.0 ∷ is_effect parts.1 ∷ []) has ec parts.2)
  effect_form_built false false false true e ea eb ec ed ee =
      let parts = conditional_built after each (when_fits tree word after fits has ed) in
      effect_of (open_effect.When parts.0 (box_with vec.0 parts.1)) tree (operands_read tree word (codes "when") after (is_condition parts.0 ∷ is_effect parts.1 ∷ []) has ed parts.2)
  effect_form_built false false false false true ea eb ec ed ee =
      let fit = choice_fits tree word after fits has ee in
      let parts = all_built is_effect (Fits role.Effect) after each fit.0 in
      effect_of (open_effect.OneOf (vec_with vec.0 parts.0 (room vec.0 has.head after vec.1 (length parts.0) parts.1))) tree
      (both_hold _ _ (some_effects parts.0 after parts.1 fit.1) (operands_read tree word (codes "oneof") after (map is_effect parts.0) has ee parts.2))
  effect_form_built false false false false false ea eb ec ed ee =
      let atom = atom_built tree (effect_atom tree word after fits has (record { conjunction = ea; negation = eb; universal = ec; conditional = ed; chosen = ee })) in
      effect_of (open_effect.Add atom.0) tree atom.1

effect_by_members : (tree : Tree) → Fits role.Effect tree → (members : List Tree) → members_of tree ≡ Some members → AllByRecursion IsBuiltEffect members → (effect : Effect) × (is_effect effect tree ≡ true)
effect_by_members tree fits [] whole each = effect_of open_effect.Nothing tree (ap is_empty whole)
effect_by_members tree fits (head ∷ after) whole each =
    let word = effect_head tree head after fits whole in
    effect_form_built tree word.0 after fits (record { head = head; whole = whole; leaf = word.1 }) each.1 _ _ _ _ _ refl refl refl refl refl

-- from each tree that fits an effect is read
pub effect_built : (tree : Tree) → Fits role.Effect tree → (effect : Effect) × (is_effect effect tree ≡ true)
effect_built = by_members IsBuiltEffect (λ tree inner fits.
    let node = node_there role.Effect tree fits (λ _. refl) in
    effect_by_members tree fits node.0 node.1 (inner node.0 node.1))

-- and from each tree that fits an initial atom is read
pub initial_built : (tree : Tree) → Fits role.Initial tree → (initial : InitAtom) × (is_initial initial tree ≡ true)
initial_built tree fits =
    let there = initial_there tree fits in
    let word = initial_head tree there.0 there.1 fits there.2 in
    from word.0 (record { head = there.0; whole = there.2; leaf = word.1 }) (bytes_eq word.0 (codes "not")) refl where
      from : {after : List Tree} (word : List ℕ) (has : HasHead tree word after) (negation : Bool) → bytes_eq word (codes "not") ≡ negation → (initial : InitAtom) × (is_initial initial tree ≡ true)
      from word has true is =
          let atom = only_atom_built _ (negated_fits tree word _ fits has is) in
          (record { positive = false; atom = atom.0 }, operands_read tree word (codes "not") _ (is_atom atom.0 ∷ []) has is atom.1)
      from word has false is = let atom = atom_built tree (initial_atom tree word _ fits has is) in (record { positive = true; atom = atom.0 }, atom.1)
