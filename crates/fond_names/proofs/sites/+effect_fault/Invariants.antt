use Rattle.std.proofs.Common.{◌≤◌, drop, map, sum, take}
use Rattle.std.specs.List.{flat_map}
use Rattle.fond_ast.specs.Read.{effect_variables}
use Rattle.fond_text.specs.declared.code.TheConstants.{LONGEST_TEXT}
use Rattle.fond_text.specs.Firsts.{IsFirst}
use Rattle.fond_names.specs.Faults.{OccursAmong}
use Rattle.fond_names.specs.Files.{declarations_of}
use Rattle.fond_names.specs.Fits.{AreTold}
use Rattle.fond_names.specs.Sites.{effect_sites}
use Rattle.fond_names.proofs.sites.+effect_fault.Given as goal

-- the fault is the first in the effects so far, and those that are left declare few variables
abbrev pub invariant-effects_fault-loop-effect : goal.invariant-effects_fault-loop-effect
invariant-effects_fault-loop-effect l = record {
  first : IsFirst (OccursAmong (declarations_of l.files) (flat_map (λ part. part l.around) (map effect_sites (take l.effect-index l.effects)))) l.first;
  few : sum (map effect_variables (drop l.effect-index l.effects)) ≤ LONGEST_TEXT;
  told : AreTold (declarations_of l.files) l.around l.fits;
}
