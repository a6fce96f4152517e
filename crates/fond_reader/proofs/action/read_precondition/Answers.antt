use Rattle.std.proofs.Common.{List, codes}
use Rattle.fond_tree.specs.declared.tree.Tree.{Tree}
use Rattle.fond_tree.specs.declared.role.Role.TheVariants as role
use Rattle.fond_reader.specs.Files.{values, IsPrecondition}
use Rattle.fond_reader.proofs.Through.{if_ok}
use Rattle.fond_reader.proofs.Values.{no_precondition, one_precondition, value_alone, value_fits}
use Rattle.fond_reader.proofs.action.read_precondition.Goals as goal

pub read_condition-requires : goal.read_condition-requires
read_condition-requires c = record { fits = value_fits role.Condition c.in-Some.tree.now _ c.in-Some.ensures c.requires }

pub returns-in-None : goal.returns-in-None
returns-in-None c = no_precondition _ c.in-None.ensures

pub returns-in-Some : goal.returns-in-Some
returns-in-Some c =
    let trees : List Tree = values (codes ":precondition") c.args.pairs.now in
    let alone = value_alone role.Condition c.in-Some.tree.now trees c.in-Some.ensures c.requires in
    if_ok _ (IsPrecondition trees) c.read_condition.result (one_precondition trees c.in-Some.tree.now alone) c.read_condition.ensures
