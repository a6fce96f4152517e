use Rattle.fond_names.proofs.Insertions.{kept_there}
use Rattle.fond_types.proofs.Passing.{on_ok}
use Rattle.fond_types.proofs.mentioned.add_atom.Goals as goal

pub returns : goal.returns
returns c = on_ok c.insert_name.result (λ grown name. kept_there c.args.index.now c.insert_name.new.index c.args.atom.now.name 0 name grown) c.insert_name.ensures
