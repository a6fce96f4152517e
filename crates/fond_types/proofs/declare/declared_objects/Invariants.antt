use Rattle.std.proofs.Common.{◌≡◌, ◌≤◌, drop, fold, length, map, []}
use Rattle.fond_names.specs.Files.{declarations_of}
use Rattle.fond_names.specs.Names.{all_objects}
use Rattle.fond_types.specs.Meanings.{IsNumbering, name_also}
use Rattle.fond_types.proofs.declare.declared_objects.Given as goal

-- the names so far have their numbers, and declaring those that are left gives all
abbrev pub invariant-loop-i : goal.invariant-loop-i
invariant-loop-i l = record {
  few : length l.names ≤ l.i;
  numbered : IsNumbering l.numbers.value l.names;
  named : fold name_also l.names (map (λ declared. declared.name) (drop l.i (all_objects (declarations_of l.files)))) ≡ fold name_also [] (map (λ declared. declared.name) (all_objects (declarations_of l.files)));
}
