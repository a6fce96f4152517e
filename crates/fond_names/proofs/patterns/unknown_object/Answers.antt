use Rattle.std.proofs.Common.{arith}
use Rattle.fond_ast.specs.declared.names.Term.{Term}
use Rattle.fond_text.specs.declared.code.TheConstants.{UNKNOWN_TERM}
use Rattle.fond_names.specs.Files.{declarations_of}
use Rattle.fond_names.specs.Unknown.{is_sound_term}
use Rattle.fond_names.proofs.Missing.{missing_none, missing_next, missing_all}
use Rattle.fond_names.proofs.PatternFaults.{object_if_missing}
use Rattle.fond_names.proofs.patterns.unknown_object.Goals as goal

pub loop-i-init : goal.loop-i-init
loop-i-init c = missing_none (is_sound_term (declarations_of c.args.files.now)) (λ (term : Term). term.place) UNKNOWN_TERM

pub loop-i-preserved : goal.loop-i-preserved
loop-i-preserved c =
    missing_next (is_sound_term (declarations_of c.args.files.now)) (λ (term : Term). term.place) UNKNOWN_TERM c.args.pattern.now.terms c.loop-i.i c.get-term.result.now c.is_unknown-unknown.result c.loop-i.first c.found_if.result c.earlier-first.result
    c.get-term.ensures c.is_unknown-unknown.ensures c.loop-i.invariant c.found_if.ensures c.earlier-first.ensures

pub returns : goal.returns
returns c =
    object_if_missing (declarations_of c.args.files.now) c.args.pattern.now c.loop-i.first
    (missing_all (is_sound_term (declarations_of c.args.files.now)) (λ (term : Term). term.place) UNKNOWN_TERM c.args.pattern.now.terms c.loop-i.i c.loop-i.first (omega arith) c.loop-i.invariant)
