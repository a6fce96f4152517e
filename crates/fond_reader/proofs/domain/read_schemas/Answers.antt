use Rattle.std.proofs.Common.{codes, sym, ◌∙◌, arith}
use Rattle.std.proofs.lemmas.Grind.{common_steps}
use Rattle.fond_reader.proofs.SchemasRead.{none_read, all_read, section_fits, one_more_read, passed_over}
use Rattle.fond_reader.proofs.domain.read_schemas.Goals as goal
use Rattle.fond_reader.proofs.domain.read_schemas.Goals.{then-begins+in_ok-read_action+in_ok-push, else-begins}

pub loop-section-init : goal.loop-section-init
loop-section-init c = none_read (codes ":action") c.args.sections.now _ c.new-schemas.ensures c.requires

pub read_action-requires-clause-fits : goal.read_action-requires-clause-fits
read_action-requires-clause-fits c =
    section_fits (codes ":action") c.args.sections.now c.loop-section.section-index c.section-item.result (omega arith) c.section-item.is _ c.loop-section.invariant

pub loop-section-preserved : goal.loop-section-preserved
loop-section-preserved c =
    elim c.if-begins.branch [
      | then-begins+in_ok-read_action+in_ok-push w ↦
          one_more_read (codes ":action") c.args.sections.now c.loop-section.section-index c.section-item.result (omega arith) c.section-item.is _ _ _ (w.schemas-is ∙ w.in_ok-push.ensures.ok)
          (sym c.begins.ensures ∙ w.if-begins.true) c.loop-section.invariant w.in_ok-read_action.ensures
      | else-begins w ↦
          passed_over (codes ":action") c.args.sections.now c.loop-section.section-index c.section-item.result (omega arith) c.section-item.is _ _ w.schemas-is (sym c.begins.ensures ∙ w.if-begins.false)
          c.loop-section.invariant
    ]

pub returns : goal.returns
returns c = all_read (codes ":action") c.args.sections.now _ _ (grind (arith, common_steps)) c.loop-section.invariant
