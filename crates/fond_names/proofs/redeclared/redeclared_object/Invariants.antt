use Rattle.std.proofs.Common.{◌≡◌, ◌++◌, List, take}
use Rattle.fond_ast.specs.declared.names.TypedName.{TypedName}
use Rattle.fond_text.specs.Firsts.{IsFirst}
use Rattle.fond_names.specs.Faults.{IsRepeatedObject}
use Rattle.fond_names.specs.Files.{declarations_of}
use Rattle.fond_names.specs.Names.{all_objects}
use Rattle.fond_names.proofs.redeclared.redeclared_object.Given as goal

-- the fault is the first among the objects so far
abbrev pub invariant-loop-i : goal.invariant-loop-i
invariant-loop-i l =
    (before after : List TypedName) → all_objects (declarations_of l.files) ≡ before ++ (l.objects ++ after) → IsFirst (IsRepeatedObject before (take l.i l.objects)) l.first
