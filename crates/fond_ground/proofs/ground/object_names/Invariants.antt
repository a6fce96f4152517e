use Rattle.std.proofs.Common.{◌≡◌, ◌++◌, All, drop}
use Rattle.fond_text.specs.Name.{IsName}
use Rattle.fond_ground.proofs.ground.object_names.Given as goal

abbrev pub invariant-loop-i : goal.invariant-loop-i
invariant-loop-i l = record {
  listed : l.names ++ drop l.i l.task.objects ≡ l.task.objects;
  are_names : All IsName l.names;
}
