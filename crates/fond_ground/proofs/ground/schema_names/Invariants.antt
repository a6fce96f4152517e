use Rattle.std.proofs.Common.{◌≡◌, ◌++◌, All, map, drop}
use Rattle.fond_text.specs.Name.{IsName}
use Rattle.fond_ground.proofs.ground.schema_names.Given as goal

abbrev pub invariant-loop-i : goal.invariant-loop-i
invariant-loop-i l = record {
  listed : l.names ++ map (λ x. x.name) (drop l.i l.task.schemas) ≡ map (λ x. x.name) l.task.schemas;
  are_names : All IsName l.names;
}
