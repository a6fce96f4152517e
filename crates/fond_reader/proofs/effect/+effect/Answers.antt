use Rattle.std.proofs.Common.{arith, sym, refl, [], ◌∷◌}
use Rattle.fond_ast.specs.declared.syntax.Effect.TheVariants as made
use Rattle.fond_tree.specs.declared.role.Role.TheVariants as role
use Rattle.fond_tree.specs.FormFaults.{Fits}
use Rattle.fond_tree.proofs.Fitting.{node_there}
use Rattle.fond_tree.proofs.Heads.{effect_head, effects_fit, delete_fits, forall_effect_fits, when_fits, choice_fits, effect_atom}
use Rattle.fond_reader.specs.Bodies.{is_atom, is_condition, is_effect}
use Rattle.fond_reader.specs.Typed.{is_variable_list}
use Rattle.fond_reader.proofs.Named.{no_node}
use Rattle.fond_reader.proofs.Operators.{no_leaf, headed_by, has_head, operands_read, choice_read, effect_made, first_of, second_of}
use Rattle.fond_reader.proofs.Through.{next_fits, one_more}
use Rattle.fond_reader.proofs.Weights.{after_lighter, item_weight}
use Rattle.fond_reader.proofs.effect.+effect.Goals as goal

pub read_effect-unreachable-requires : goal.read_effect-unreachable-requires
read_effect-unreachable-requires t c = no_leaf role.Effect _ _ _ (λ tree fits. node_there role.Effect tree fits (λ _. refl)) c.in_default.is c.requires.fits

pub read_effect-word_of-word-requires : goal.read_effect-word_of-word-requires
read_effect-word_of-word-requires t c =
    let whole = headed_by _ _ _ _ _ c.in-Node.is c.as_slice.ensures.value c.in-len1-up.len_at_least c.head-item.is in
    let word = effect_head _ _ _ c.requires.fits whole in
    no_node _ word.0 word.1

pub read_effect-read_effects-requires : goal.read_effect-read_effects-requires
read_effect-read_effects-requires t c =
    let has = has_head _ _ _ _ _ _ c.in-Node.is c.as_slice.ensures.value c.in-len1-up.len_at_least c.head-item.is c.word_of-word.ensures in
    (omega (arith, after_lighter _ _ _ has.whole), effects_fit _ _ _ c.requires.fits has (sym c.if-is_word.ensures))

pub read_effect-returns-then-is_word : goal.read_effect-returns-then-is_word
read_effect-returns-then-is_word t c =
    let has = has_head _ _ _ _ _ _ c.in-Node.is c.as_slice.ensures.value c.in-len1-up.len_at_least c.head-item.is c.word_of-word.ensures in
    effect_made _ _ _ (made.outs-And c.in_ok-read_effects.field-0) (operands_read _ _ _ _ _ has (sym c.if-is_word.ensures) c.in_ok-read_effects.ensures)

pub read_effect-read_only_atom-requires : goal.read_effect-read_only_atom-requires
read_effect-read_only_atom-requires t c =
    let has = has_head _ _ _ _ _ _ c.in-Node.is c.as_slice.ensures.value c.in-len1-up.len_at_least c.head-item.is c.word_of-word.ensures in
    record { fit = delete_fits _ _ _ c.requires.fits has (sym c.if-is_word-2.ensures) }

pub read_effect-returns-then-is_word-2 : goal.read_effect-returns-then-is_word-2
read_effect-returns-then-is_word-2 t c =
    let has = has_head _ _ _ _ _ _ c.in-Node.is c.as_slice.ensures.value c.in-len1-up.len_at_least c.head-item.is c.word_of-word.ensures in
    effect_made _ _ _ (made.outs-Delete c.in_ok-read_only_atom.field-0) (operands_read _ _ _ _ (is_atom c.in_ok-read_only_atom.field-0 ∷ []) has (sym c.if-is_word-2.ensures) c.in_ok-read_only_atom.ensures)

pub read_effect-read_quantified-requires : goal.read_effect-read_quantified-requires
read_effect-read_quantified-requires t c =
    let has = has_head _ _ _ _ _ _ c.in-Node.is c.as_slice.ensures.value c.in-len1-up.len_at_least c.head-item.is c.word_of-word.ensures in
    (omega (arith, after_lighter _ _ _ has.whole), forall_effect_fits _ _ _ c.requires.fits has (sym c.if-is_word-3.ensures))

pub read_effect-returns-then-is_word-3 : goal.read_effect-returns-then-is_word-3
read_effect-returns-then-is_word-3 t c =
    let has = has_head _ _ _ _ _ _ c.in-Node.is c.as_slice.ensures.value c.in-len1-up.len_at_least c.head-item.is c.word_of-word.ensures in
    effect_made _ _ _ (made.outs-Forall c.in_ok-names.names c.in_ok-names.part) (operands_read _ _ _ _ (is_variable_list c.in_ok-names.names ∷ is_effect c.in_ok-names.part.value ∷ []) has (sym c.if-is_word-3.ensures) c.in_ok-names.ensures)

pub read_effect-read_conditional-requires : goal.read_effect-read_conditional-requires
read_effect-read_conditional-requires t c =
    let has = has_head _ _ _ _ _ _ c.in-Node.is c.as_slice.ensures.value c.in-len1-up.len_at_least c.head-item.is c.word_of-word.ensures in
    (omega (arith, after_lighter _ _ _ has.whole), when_fits _ _ _ c.requires.fits has (sym c.if-is_word-4.ensures))

pub read_effect-returns-then-is_word-4 : goal.read_effect-returns-then-is_word-4
read_effect-returns-then-is_word-4 t c =
    let has = has_head _ _ _ _ _ _ c.in-Node.is c.as_slice.ensures.value c.in-len1-up.len_at_least c.head-item.is c.word_of-word.ensures in
    effect_made _ _ _ (made.outs-When c.in_ok-condition.condition c.in_ok-condition.part) (operands_read _ _ _ _ (is_condition c.in_ok-condition.condition ∷ is_effect c.in_ok-condition.part.value ∷ []) has (sym c.if-is_word-4.ensures) c.in_ok-condition.ensures)

pub read_effect-read_effects-requires-then-is_word-5 : goal.read_effect-read_effects-requires-then-is_word-5
read_effect-read_effects-requires-then-is_word-5 t c =
    let has = has_head _ _ _ _ _ _ c.in-Node.is c.as_slice.ensures.value c.in-len1-up.len_at_least c.head-item.is c.word_of-word.ensures in
    (omega (arith, after_lighter _ _ _ has.whole), (choice_fits _ _ _ c.requires.fits has (sym c.if-is_word-5.ensures)).0)

pub read_effect-returns-then-is_word-5 : goal.read_effect-returns-then-is_word-5
read_effect-returns-then-is_word-5 t c =
    let has = has_head _ _ _ _ _ _ c.in-Node.is c.as_slice.ensures.value c.in-len1-up.len_at_least c.head-item.is c.word_of-word.ensures in
    let some = (choice_fits _ _ _ c.requires.fits has (sym c.if-is_word-5.ensures)).1 in
    choice_read _ _ _ c.in_ok-read_effects-2.field-0 (made.outs-OneOf c.in_ok-read_effects-2.field-0) has (sym c.if-is_word-5.ensures) some c.in_ok-read_effects-2.ensures

pub read_effect-read_atom-requires : goal.read_effect-read_atom-requires
read_effect-read_atom-requires t c =
    let has = has_head _ _ _ _ _ _ c.in-Node.is c.as_slice.ensures.value c.in-len1-up.len_at_least c.head-item.is c.word_of-word.ensures in
    effect_atom _ _ _ c.requires.fits has (record {
      conjunction = sym c.if-is_word.ensures;
      negation = sym c.if-is_word-2.ensures;
      universal = sym c.if-is_word-3.ensures;
      conditional = sym c.if-is_word-4.ensures;
      chosen = sym c.if-is_word-5.ensures;
    })

pub put_effects-read_effect-requires : goal.put_effects-read_effect-requires
put_effects-read_effect-requires t c =
    (omega (arith, item_weight c.args.trees.now c.loop-tree.tree-index c.tree-item.result (omega arith) c.tree-item.is), next_fits is_effect (Fits role.Effect) c.args.trees.now c.loop-tree.tree-index c.tree-item.result _ (omega arith) c.tree-item.is c.loop-tree.invariant)

pub put_effects-loop-tree-preserved : goal.put_effects-loop-tree-preserved
put_effects-loop-tree-preserved t c =
    one_more is_effect (Fits role.Effect) c.args.trees.now c.loop-tree.tree-index c.tree-item.result _ _ _ (omega arith) c.tree-item.is c.in_ok-push.ensures.items c.loop-tree.invariant
    c.in_ok-read_effect.ensures

pub read_quantified-read_variables-requires : goal.read_quantified-read_variables-requires
read_quantified-read_variables-requires t c = first_of role.Variables (role.Effect ∷ []) _ c.variables-item.result c.requires.fit c.variables-item.is

pub read_quantified-read_boxed-requires : goal.read_quantified-read_boxed-requires
read_quantified-read_boxed-requires t c =
    (omega (arith, item_weight c.args.trees.now 1 c.tree-item.result (omega arith) c.tree-item.is), second_of role.Variables role.Effect [] _ c.tree-item.result c.requires.fit c.tree-item.is)

pub read_conditional-read_condition-requires : goal.read_conditional-read_condition-requires
read_conditional-read_condition-requires t c = record { fits = first_of role.Condition (role.Effect ∷ []) _ c.first-item.result c.requires.fit c.first-item.is }

pub read_conditional-read_boxed-requires : goal.read_conditional-read_boxed-requires
read_conditional-read_boxed-requires t c =
    (omega (arith, item_weight c.args.trees.now 1 c.tree-item.result (omega arith) c.tree-item.is), second_of role.Condition role.Effect [] _ c.tree-item.result c.requires.fit c.tree-item.is)
