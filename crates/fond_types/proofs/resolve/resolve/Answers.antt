use Rattle.std.proofs.Common.{OnOk, IfErr, ap, ◌∙◌, subst}
use Rattle.fond_text.specs.Faults.{AreClean, IsFirstAmong, Refuses}
use Rattle.fond_names.specs.Faults.{StandsInNames}
use Rattle.fond_names.specs.Files.{declarations_of}
use Rattle.fond_names.specs.Names.{Declarations}
use Rattle.fond_types.proofs.resolve.resolve.Goals as goal

pub returns-clause-clean : goal.returns-clause-clean
returns-clause-clean c = subst (λ (files : Declarations). OnOk c.resolved.result (AreClean (StandsInNames files))) (ap declarations_of c.deref.ensures ∙ c.in_ok-files.ensures) c.resolved.ensures.clean

pub returns-clause-refused : goal.returns-clause-refused
returns-clause-refused c = subst (λ (files : Declarations). IfErr c.resolved.result (Refuses (IsFirstAmong (StandsInNames files)))) (ap declarations_of c.deref.ensures ∙ c.in_ok-files.ensures) c.resolved.ensures.refused
