use Rattle.std.proofs.Common.{◌≡◌, List, true, map, sym, ap, ◌∙◌, arith}
use Rattle.fond_ast.specs.declared.files.Schema.{Schema}
use Rattle.fond_store.specs.Texts.{number_beside}
use Rattle.fond_text.specs.declared.code.TheConstants.{REPEATED_NAME}
use Rattle.fond_names.specs.Names.{is_among}
use Rattle.fond_names.proofs.Among.{later_none, later_next, later_all}
use Rattle.fond_names.proofs.Positions.{repeats}
use Rattle.fond_names.proofs.repeated.repeated_schema.Goals as goal

abbrev IsAgain : List Schema → Schema → Type 0
IsAgain before one = is_among (map (λ other. other.name) before) one.name ≡ true

pub loop-i-init : goal.loop-i-init
loop-i-init c = later_none IsAgain (λ one. one.place) REPEATED_NAME

pub loop-i-preserved : goal.loop-i-preserved
loop-i-preserved c =
    let items = c.args.files.now.domain.now.schemas in
    let one = c.get-schema.result.now in
    let files = c.args.files.now in
    let found = c.find.ensures ∙ ap (number_beside files.schemas) c.bytes.ensures.value ∙ files.schemas_indexed one.name in
    let told = c.is_elsewhere-again.ensures ∙ repeats (λ (other : Schema). other.name) items c.loop-i.i one c.get-schema.ensures c.find.result (sym found) in
    later_next IsAgain (λ one. one.place) REPEATED_NAME items c.loop-i.i one c.is_elsewhere-again.result c.loop-i.first c.found_if.result c.earlier-first.result c.get-schema.ensures
    (λ e. sym told ∙ e, λ h. told ∙ h) c.loop-i.invariant c.found_if.ensures c.earlier-first.ensures

pub returns : goal.returns
returns c = later_all IsAgain (λ one. one.place) REPEATED_NAME (c.args.files.now.domain.now.schemas) c.loop-i.i c.loop-i.first (omega arith) c.loop-i.invariant
