use Rattle.std.proofs.Common.{◌≤◌, drop, map, sum, take}
use Rattle.std.specs.List.{flat_map}
use Rattle.fond_ast.specs.Read.{condition_variables}
use Rattle.fond_text.specs.declared.code.TheConstants.{LONGEST_TEXT}
use Rattle.fond_text.specs.Firsts.{IsFirst}
use Rattle.fond_names.specs.Faults.{OccursAmong}
use Rattle.fond_names.specs.Files.{declarations_of}
use Rattle.fond_names.specs.Fits.{AreTold}
use Rattle.fond_names.specs.Sites.{condition_sites}
use Rattle.fond_names.proofs.sites.+condition_fault.Given as goal

-- the fault is the first in the conditions so far, and those that are left declare few variables
abbrev pub invariant-conditions_fault-loop-condition : goal.invariant-conditions_fault-loop-condition
invariant-conditions_fault-loop-condition l = record {
  first : IsFirst (OccursAmong (declarations_of l.files) (flat_map (λ part. part l.around) (map condition_sites (take l.condition-index l.conditions)))) l.first;
  few : sum (map condition_variables (drop l.condition-index l.conditions)) ≤ LONGEST_TEXT;
  told : AreTold (declarations_of l.files) l.around l.fits;
}
