use Rattle.fond_tree.proofs.FittingActions.{action_there}
use Rattle.fond_reader.specs.Files.{IsSchemaOf}
use Rattle.fond_reader.proofs.Actions.{after_some, name_fits_here, pairs_fit_here, whole_here}
use Rattle.fond_reader.proofs.Through.{if_ok}
use Rattle.fond_reader.proofs.action.read_action.Goals as goal

pub unreachable-requires : goal.unreachable-requires
unreachable-requires c =
    let action = action_there c.args.section.now c.requires.fits c.requires.headed in
    after_some c.args.section.now action _ c.after.ensures c.in-empty.len_below

pub schema_of-requires-clause-named : goal.schema_of-requires-clause-named
schema_of-requires-clause-named c =
    let action = action_there c.args.section.now c.requires.fits c.requires.headed in
    name_fits_here c.args.section.now action _ c.after.ensures _ c.in-len1-up.len_at_least c.name-item.is

pub schema_of-requires-clause-pairs : goal.schema_of-requires-clause-pairs
schema_of-requires-clause-pairs c =
    let action = action_there c.args.section.now c.requires.fits c.requires.headed in
    pairs_fit_here c.args.section.now action _ c.after.ensures _ c.in-len1-up.len_at_least c.name-item.is

pub returns : goal.returns
returns c =
    let action = action_there c.args.section.now c.requires.fits c.requires.headed in
    let whole = whole_here c.args.section.now action _ c.after.ensures _ c.in-len1-up.len_at_least c.name-item.is in
    if_ok _ (IsSchemaOf c.args.section.now) c.schema_of.result (λ schema read. read c.args.section.now action.head whole) c.schema_of.ensures
