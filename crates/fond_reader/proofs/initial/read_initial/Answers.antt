use Rattle.std.proofs.Common.{◌∷◌, [], sym}
use Rattle.fond_tree.proofs.FittingNodes.{initial_there}
use Rattle.fond_tree.proofs.Heads.{HasHead, initial_head, negated_fits, initial_atom}
use Rattle.fond_reader.specs.Bodies.{is_atom}
use Rattle.fond_reader.proofs.Named.{headed_of, no_node}
use Rattle.fond_reader.proofs.Operators.{operands_read}
use Rattle.fond_reader.proofs.initial.read_initial.Goals as goal

pub head_and_rest-requires : goal.head_and_rest-requires
head_and_rest-requires c = let there = initial_there c.args.tree.now c.requires in headed_of c.args.tree.now there.0 there.1 there.2

pub word_of-requires : goal.word_of-requires
word_of-requires c = let word = initial_head c.args.tree.now _ _ c.requires c.head_and_rest.ensures in no_node _ word.0 word.1

pub read_only_atom-requires : goal.read_only_atom-requires
read_only_atom-requires c =
    let has : HasHead c.args.tree.now c.word_of.result.now c.head_and_rest.result.1.now = record { head = c.head_and_rest.result.0.now; whole = c.head_and_rest.ensures; leaf = c.word_of.ensures } in
    record { fit = negated_fits c.args.tree.now _ _ c.requires has (sym c.if-is_word.ensures) }

pub read_atom-requires : goal.read_atom-requires
read_atom-requires c =
    let has : HasHead c.args.tree.now c.word_of.result.now c.head_and_rest.result.1.now = record { head = c.head_and_rest.result.0.now; whole = c.head_and_rest.ensures; leaf = c.word_of.ensures } in
    initial_atom c.args.tree.now _ _ c.requires has (sym c.if-is_word.ensures)

pub returns-then-is_word : goal.returns-then-is_word
returns-then-is_word c =
    let has : HasHead c.args.tree.now c.word_of.result.now c.head_and_rest.result.1.now = record { head = c.head_and_rest.result.0.now; whole = c.head_and_rest.ensures; leaf = c.word_of.ensures } in
    operands_read c.args.tree.now _ _ _ (is_atom c.in_ok-atom.atom ∷ []) has (sym c.if-is_word.ensures) c.in_ok-atom.ensures
