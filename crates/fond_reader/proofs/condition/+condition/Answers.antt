use Rattle.std.proofs.Common.{arith, sym, refl, [], ◌∷◌}
use Rattle.fond_ast.specs.declared.syntax.Cond.TheVariants as made
use Rattle.fond_tree.specs.declared.role.Role.TheVariants as role
use Rattle.fond_tree.specs.FormFaults.{Fits}
use Rattle.fond_tree.proofs.Fitting.{node_there}
use Rattle.fond_tree.proofs.Heads.{condition_head, and_fits, or_fits, not_fits, imply_fits, forall_fits, exists_fits, equal_fits, condition_atom}
use Rattle.fond_reader.specs.Bodies.{is_condition, is_term}
use Rattle.fond_reader.specs.Typed.{is_variable_list}
use Rattle.fond_reader.proofs.Named.{no_node}
use Rattle.fond_reader.proofs.Operators.{no_leaf, headed_by, has_head, operands_read, condition_made, first_of, second_of}
use Rattle.fond_reader.proofs.Through.{next_fits, one_more}
use Rattle.fond_reader.proofs.Weights.{after_lighter, item_weight}
use Rattle.fond_reader.proofs.condition.+condition.Goals as goal

pub read_condition-unreachable-requires : goal.read_condition-unreachable-requires
read_condition-unreachable-requires t c = no_leaf role.Condition _ _ _ (λ tree fits. node_there role.Condition tree fits (λ _. refl)) c.in_default.is c.requires.fits

pub read_condition-word_of-word-requires : goal.read_condition-word_of-word-requires
read_condition-word_of-word-requires t c =
    let whole = headed_by _ _ _ _ _ c.in-Node.is c.as_slice.ensures.value c.in-len1-up.len_at_least c.head-item.is in
    let word = condition_head _ _ _ c.requires.fits whole in
    no_node _ word.0 word.1

pub read_condition-read_conditions-requires : goal.read_condition-read_conditions-requires
read_condition-read_conditions-requires t c =
    let has = has_head _ _ _ _ _ _ c.in-Node.is c.as_slice.ensures.value c.in-len1-up.len_at_least c.head-item.is c.word_of-word.ensures in
    (omega (arith, after_lighter _ _ _ has.whole), and_fits _ _ _ c.requires.fits has (sym c.if-is_word.ensures))

pub read_condition-returns-then-is_word : goal.read_condition-returns-then-is_word
read_condition-returns-then-is_word t c =
    let has = has_head _ _ _ _ _ _ c.in-Node.is c.as_slice.ensures.value c.in-len1-up.len_at_least c.head-item.is c.word_of-word.ensures in
    condition_made _ _ _ (made.outs-And c.in_ok-read_conditions.field-0) (operands_read _ _ _ _ _ has (sym c.if-is_word.ensures) c.in_ok-read_conditions.ensures)

pub read_condition-read_conditions-requires-then-is_word-2 : goal.read_condition-read_conditions-requires-then-is_word-2
read_condition-read_conditions-requires-then-is_word-2 t c =
    let has = has_head _ _ _ _ _ _ c.in-Node.is c.as_slice.ensures.value c.in-len1-up.len_at_least c.head-item.is c.word_of-word.ensures in
    (omega (arith, after_lighter _ _ _ has.whole), or_fits _ _ _ c.requires.fits has (sym c.if-is_word-2.ensures))

pub read_condition-returns-then-is_word-2 : goal.read_condition-returns-then-is_word-2
read_condition-returns-then-is_word-2 t c =
    let has = has_head _ _ _ _ _ _ c.in-Node.is c.as_slice.ensures.value c.in-len1-up.len_at_least c.head-item.is c.word_of-word.ensures in
    condition_made _ _ _ (made.outs-Or c.in_ok-read_conditions-2.field-0) (operands_read _ _ _ _ _ has (sym c.if-is_word-2.ensures) c.in_ok-read_conditions-2.ensures)

pub read_condition-read_only-requires : goal.read_condition-read_only-requires
read_condition-read_only-requires t c =
    let has = has_head _ _ _ _ _ _ c.in-Node.is c.as_slice.ensures.value c.in-len1-up.len_at_least c.head-item.is c.word_of-word.ensures in
    (omega (arith, after_lighter _ _ _ has.whole), not_fits _ _ _ c.requires.fits has (sym c.if-is_word-3.ensures))

pub read_condition-returns-then-is_word-3 : goal.read_condition-returns-then-is_word-3
read_condition-returns-then-is_word-3 t c =
    let has = has_head _ _ _ _ _ _ c.in-Node.is c.as_slice.ensures.value c.in-len1-up.len_at_least c.head-item.is c.word_of-word.ensures in
    condition_made _ _ _ (made.outs-Not c.in_ok-read_only.field-0) (operands_read _ _ _ _ (is_condition c.in_ok-read_only.field-0.value ∷ []) has (sym c.if-is_word-3.ensures) c.in_ok-read_only.ensures)

pub read_condition-read_both-requires : goal.read_condition-read_both-requires
read_condition-read_both-requires t c =
    let has = has_head _ _ _ _ _ _ c.in-Node.is c.as_slice.ensures.value c.in-len1-up.len_at_least c.head-item.is c.word_of-word.ensures in
    (omega (arith, after_lighter _ _ _ has.whole), imply_fits _ _ _ c.requires.fits has (sym c.if-is_word-4.ensures))

pub read_condition-returns-then-is_word-4 : goal.read_condition-returns-then-is_word-4
read_condition-returns-then-is_word-4 t c =
    let has = has_head _ _ _ _ _ _ c.in-Node.is c.as_slice.ensures.value c.in-len1-up.len_at_least c.head-item.is c.word_of-word.ensures in
    condition_made _ _ _ (made.outs-Imply c.in_ok-part.part c.in_ok-part.other) (operands_read _ _ _ _ (is_condition c.in_ok-part.part.value ∷ is_condition c.in_ok-part.other.value ∷ []) has (sym c.if-is_word-4.ensures) c.in_ok-part.ensures)

pub read_condition-read_quantified-requires : goal.read_condition-read_quantified-requires
read_condition-read_quantified-requires t c =
    let has = has_head _ _ _ _ _ _ c.in-Node.is c.as_slice.ensures.value c.in-len1-up.len_at_least c.head-item.is c.word_of-word.ensures in
    (omega (arith, after_lighter _ _ _ has.whole), forall_fits _ _ _ c.requires.fits has (sym c.if-is_word-5.ensures))

pub read_condition-returns-then-is_word-5 : goal.read_condition-returns-then-is_word-5
read_condition-returns-then-is_word-5 t c =
    let has = has_head _ _ _ _ _ _ c.in-Node.is c.as_slice.ensures.value c.in-len1-up.len_at_least c.head-item.is c.word_of-word.ensures in
    condition_made _ _ _ (made.outs-Forall c.in_ok-names.names c.in_ok-names.part) (operands_read _ _ _ _ (is_variable_list c.in_ok-names.names ∷ is_condition c.in_ok-names.part.value ∷ []) has (sym c.if-is_word-5.ensures) c.in_ok-names.ensures)

pub read_condition-read_quantified-requires-then-is_word-6 : goal.read_condition-read_quantified-requires-then-is_word-6
read_condition-read_quantified-requires-then-is_word-6 t c =
    let has = has_head _ _ _ _ _ _ c.in-Node.is c.as_slice.ensures.value c.in-len1-up.len_at_least c.head-item.is c.word_of-word.ensures in
    (omega (arith, after_lighter _ _ _ has.whole), exists_fits _ _ _ c.requires.fits has (sym c.if-is_word-6.ensures))

pub read_condition-returns-then-is_word-6 : goal.read_condition-returns-then-is_word-6
read_condition-returns-then-is_word-6 t c =
    let has = has_head _ _ _ _ _ _ c.in-Node.is c.as_slice.ensures.value c.in-len1-up.len_at_least c.head-item.is c.word_of-word.ensures in
    condition_made _ _ _ (made.outs-Exists c.in_ok-names-2.names c.in_ok-names-2.part) (operands_read _ _ _ _ (is_variable_list c.in_ok-names-2.names ∷ is_condition c.in_ok-names-2.part.value ∷ []) has (sym c.if-is_word-6.ensures) c.in_ok-names-2.ensures)

pub read_condition-read_two_terms-requires : goal.read_condition-read_two_terms-requires
read_condition-read_two_terms-requires t c =
    let has = has_head _ _ _ _ _ _ c.in-Node.is c.as_slice.ensures.value c.in-len1-up.len_at_least c.head-item.is c.word_of-word.ensures in
    record { fit = equal_fits _ _ _ c.requires.fits has (sym c.if-is_word-7.ensures) }

pub read_condition-returns-then-is_word-7 : goal.read_condition-returns-then-is_word-7
read_condition-returns-then-is_word-7 t c =
    let has = has_head _ _ _ _ _ _ c.in-Node.is c.as_slice.ensures.value c.in-len1-up.len_at_least c.head-item.is c.word_of-word.ensures in
    condition_made _ _ _ (made.outs-Equal c.in_ok-term.term c.in_ok-term.other) (operands_read _ _ _ _ (is_term c.in_ok-term.term ∷ is_term c.in_ok-term.other ∷ []) has (sym c.if-is_word-7.ensures) c.in_ok-term.ensures)

pub read_condition-read_atom-requires : goal.read_condition-read_atom-requires
read_condition-read_atom-requires t c =
    let has = has_head _ _ _ _ _ _ c.in-Node.is c.as_slice.ensures.value c.in-len1-up.len_at_least c.head-item.is c.word_of-word.ensures in
    condition_atom _ _ _ c.requires.fits has (record {
      conjunction = sym c.if-is_word.ensures;
      disjunction = sym c.if-is_word-2.ensures;
      negation = sym c.if-is_word-3.ensures;
      implication = sym c.if-is_word-4.ensures;
      universal = sym c.if-is_word-5.ensures;
      existential = sym c.if-is_word-6.ensures;
      equality = sym c.if-is_word-7.ensures;
    })

pub put_conditions-read_condition-requires : goal.put_conditions-read_condition-requires
put_conditions-read_condition-requires t c =
    (omega (arith, item_weight c.args.trees.now c.loop-tree.tree-index c.tree-item.result (omega arith) c.tree-item.is), next_fits is_condition (Fits role.Condition) c.args.trees.now c.loop-tree.tree-index c.tree-item.result _ (omega arith) c.tree-item.is c.loop-tree.invariant)

pub put_conditions-loop-tree-preserved : goal.put_conditions-loop-tree-preserved
put_conditions-loop-tree-preserved t c =
    one_more is_condition (Fits role.Condition) c.args.trees.now c.loop-tree.tree-index c.tree-item.result _ _ _ (omega arith) c.tree-item.is c.in_ok-push.ensures.items c.loop-tree.invariant
    c.in_ok-read_condition.ensures

pub read_only-read_boxed-requires : goal.read_only-read_boxed-requires
read_only-read_boxed-requires t c = (omega (arith, item_weight c.args.trees.now 0 c.tree-item.result (omega arith) c.tree-item.is), first_of role.Condition [] _ c.tree-item.result c.requires.fit c.tree-item.is)

pub read_both-read_boxed-requires : goal.read_both-read_boxed-requires
read_both-read_boxed-requires t c = (omega (arith, item_weight c.args.trees.now 0 c.tree-item.result (omega arith) c.tree-item.is), first_of role.Condition (role.Condition ∷ []) _ c.tree-item.result c.requires.fit c.tree-item.is)

pub read_both-read_boxed-requires-in-len2 : goal.read_both-read_boxed-requires-in-len2
read_both-read_boxed-requires-in-len2 t c = (omega (arith, item_weight c.args.trees.now 1 c.second-item.result (omega arith) c.second-item.is), second_of role.Condition role.Condition [] _ c.second-item.result c.requires.fit c.second-item.is)

pub read_quantified-read_variables-requires : goal.read_quantified-read_variables-requires
read_quantified-read_variables-requires t c = first_of role.Variables (role.Condition ∷ []) _ c.variables-item.result c.requires.fit c.variables-item.is

pub read_quantified-read_boxed-requires : goal.read_quantified-read_boxed-requires
read_quantified-read_boxed-requires t c = (omega (arith, item_weight c.args.trees.now 1 c.tree-item.result (omega arith) c.tree-item.is), second_of role.Variables role.Condition [] _ c.tree-item.result c.requires.fit c.tree-item.is)
