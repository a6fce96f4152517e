use Rattle.fond_types.proofs.SoundLemmas.{few_terms}
use Rattle.fond_types.proofs.patterns.numbered_pattern.Goals as goal

pub places_of-requires : goal.places_of-requires
places_of-requires c = few_terms c.args.table.now c.args.pattern.now c.requires
