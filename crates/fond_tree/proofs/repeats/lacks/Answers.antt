use Rattle.std.proofs.lemmas.Bool.Decides.{Decides-not, Decides-at}
use Rattle.fond_tree.specs.Trees.{head_of}
use Rattle.fond_tree.proofs.Again.{any_headed}
use Rattle.fond_tree.proofs.repeats.lacks.Goals as goal

pub returns : goal.returns
returns c = Decides-not _ (Decides-at _ _ c.has_section.ensures (any_headed head_of c.args.head.now c.args.sections.now))
