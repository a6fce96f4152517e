use Rattle.fond_tree.specs.Words.{is_name}
use Rattle.fond_tree.proofs.FittingLeaves.{name_fits}
use Rattle.fond_reader.proofs.Named.{no_node_of, sorted_at}
use Rattle.fond_reader.proofs.action.schema_of.Goals as goal

pub read_leaf-requires : goal.read_leaf-requires
read_leaf-requires c = no_node_of is_name _ (name_fits _ c.requires.named)

pub returns : goal.returns
returns c = λ tree head whole. record {
  head = head;
  name = c.args.name.now;
  pairs = c.args.pairs.now;
  whole = whole;
  named = sorted_at is_name _ _ _ (name_fits _ c.requires.named) c.in_ok-place.ensures.0 c.in_ok-place.ensures.1;
  paired = c.requires.pairs.paired;
  known = c.requires.pairs.known;
  parameters = c.in_ok-parameters.ensures;
  pre = c.in_ok-pre.ensures.pre;
  effect = c.in_ok-pre.ensures.effect;
}
