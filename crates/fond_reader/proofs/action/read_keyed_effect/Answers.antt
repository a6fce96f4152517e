use Rattle.std.proofs.Common.{List, codes}
use Rattle.fond_tree.specs.declared.tree.Tree.{Tree}
use Rattle.fond_tree.specs.declared.role.Role.TheVariants as role
use Rattle.fond_reader.specs.Files.{values, IsKeyedEffect}
use Rattle.fond_reader.proofs.Through.{if_ok}
use Rattle.fond_reader.proofs.Values.{no_effect, one_effect, value_alone, value_fits}
use Rattle.fond_reader.proofs.action.read_keyed_effect.Goals as goal

pub read_effect-requires : goal.read_effect-requires
read_effect-requires c = record { fits = value_fits role.Effect c.in-Some.tree.now _ c.in-Some.ensures c.requires }

pub returns-in-None : goal.returns-in-None
returns-in-None c = no_effect _ c.in-None.ensures

pub returns-in-Some : goal.returns-in-Some
returns-in-Some c =
    let trees : List Tree = values (codes ":effect") c.args.pairs.now in
    let alone = value_alone role.Effect c.in-Some.tree.now trees c.in-Some.ensures c.requires in
    if_ok _ (IsKeyedEffect trees) c.read_effect.result (one_effect trees c.in-Some.tree.now alone) c.read_effect.ensures
