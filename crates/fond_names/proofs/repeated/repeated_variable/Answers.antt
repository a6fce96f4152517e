use Rattle.std.proofs.Common.{◌≡◌, List, true, map, position, sym, ap, ◌∙◌, subst, arith}
use Rattle.std.specs.Str.{bytes_eq}
use Rattle.fond_ast.specs.declared.names.TypedName.{TypedName}
use Rattle.fond_text.specs.declared.code.TheConstants.{REPEATED_NAME}
use Rattle.fond_text.specs.Firsts.{IsFirst}
use Rattle.fond_names.specs.Faults.{IsRepeatedVariable}
use Rattle.fond_names.specs.Names.{is_among}
use Rattle.fond_names.proofs.Among.{later_none, later_next, later_all}
use Rattle.fond_names.proofs.Positions.{repeats}
use Rattle.fond_names.proofs.repeated.repeated_variable.Goals as goal

abbrev IsAgain : List TypedName → TypedName → Type 0
IsAgain before one = is_among (map (λ other. other.name) before) one.name ≡ true

pub loop-i-init : goal.loop-i-init
loop-i-init c = later_none IsAgain (λ one. one.place) REPEATED_NAME

pub loop-i-preserved : goal.loop-i-preserved
loop-i-preserved c =
    let items = c.names-names.result.now in
    let one = c.get-variable.result.now in
    let at = c.position.ensures ∙ ap (position (λ (other : TypedName). bytes_eq other.name one.name)) (sym c.names-names.ensures) in
    let told = c.is_elsewhere-again.ensures ∙ repeats (λ (other : TypedName). other.name) items c.loop-i.i one c.get-variable.ensures c.position.result (sym at) in
    later_next IsAgain (λ one. one.place) REPEATED_NAME items c.loop-i.i one c.is_elsewhere-again.result c.loop-i.first c.found_if.result c.earlier-first.result c.get-variable.ensures
    (λ e. sym told ∙ e, λ h. told ∙ h) c.loop-i.invariant c.found_if.ensures c.earlier-first.ensures

pub returns : goal.returns
returns c =
    subst (λ (names : List TypedName). IsFirst (IsRepeatedVariable names) c.loop-i.first) c.names-names.ensures
    (later_all IsAgain (λ one. one.place) REPEATED_NAME c.names-names.result.now c.loop-i.i c.loop-i.first (omega arith) c.loop-i.invariant)
