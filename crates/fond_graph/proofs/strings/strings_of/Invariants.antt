use Rattle.std.proofs.Common.{◌≡◌, take, map}
use Rattle.json.specs.Print.{quoted}
use Rattle.fond_task.specs.Texts.{atom_text}
use Rattle.fond_graph.proofs.strings.strings_of.Given as goal

abbrev pub invariant-loop-atom : goal.invariant-loop-atom
invariant-loop-atom l = l.strings ≡ map (λ atom. quoted (atom_text l.task.labels atom)) (take l.atom-index l.atom-items)
