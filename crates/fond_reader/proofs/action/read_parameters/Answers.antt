use Rattle.std.proofs.Common.{List, codes}
use Rattle.fond_tree.specs.declared.tree.Tree.{Tree}
use Rattle.fond_tree.specs.declared.role.Role.TheVariants as role
use Rattle.fond_reader.specs.Files.{values, AreParameters}
use Rattle.fond_reader.proofs.Through.{if_ok}
use Rattle.fond_reader.proofs.Values.{no_parameters, one_list, value_alone, value_fits}
use Rattle.fond_reader.proofs.action.read_parameters.Goals as goal

pub read_variables-requires : goal.read_variables-requires
read_variables-requires c = value_fits role.Variables c.in-Some.tree.now _ c.in-Some.ensures c.requires

pub returns-in-None : goal.returns-in-None
returns-in-None c = no_parameters _ _ c.in-None.ensures c.new.ensures

pub returns-in-Some : goal.returns-in-Some
returns-in-Some c =
    let trees : List Tree = values (codes ":parameters") c.args.pairs.now in
    let alone = value_alone role.Variables c.in-Some.tree.now trees c.in-Some.ensures c.requires in
    if_ok _ (AreParameters trees) c.read_variables.result (one_list trees c.in-Some.tree.now alone) c.read_variables.ensures
