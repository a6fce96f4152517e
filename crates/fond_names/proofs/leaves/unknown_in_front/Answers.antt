use Rattle.std.proofs.Common.{◌≡◌, List, length, map, option_map, ap, ◌∙◌, arith}
use Rattle.std.proofs.lemmas.List.{length-map}
use Rattle.std.proofs.lemmas.Option.{slice_get-map}
use Rattle.fond_text.specs.declared.code.TheConstants.{UNKNOWN_SCHEMA}
use Rattle.fond_ast.specs.declared.files.Pattern.{Pattern}
use Rattle.fond_ast.specs.declared.names.Kind.{Kind}
use Rattle.fond_names.specs.Names.{is_among, schema_names}
use Rattle.fond_names.proofs.Missing.{missing_none, missing_next, missing_all}
use Rattle.fond_names.proofs.leaves.unknown_in_front.Goals as goal

abbrev leaves : List Pattern → List Kind
leaves patterns = map (λ (pattern : Pattern). pattern.schema) patterns

pub loop-i-init : goal.loop-i-init
loop-i-init c = missing_none (λ (one : Kind). is_among (schema_names c.args.files.now.domain.now) one.name) (λ (one : Kind). one.place) UNKNOWN_SCHEMA

pub loop-i-preserved : goal.loop-i-preserved
loop-i-preserved c =
    let files = c.args.files.now in
    missing_next (λ (one : Kind). is_among (schema_names files.domain.now) one.name) (λ (one : Kind). one.place) UNKNOWN_SCHEMA (leaves files.side.now.patterns) c.loop-i.i c.get.result.now.schema c.is_unknown-unknown.result c.loop-i.first c.found_if.result c.earlier-first.result
    (slice_get-map (λ (pattern : Pattern). pattern.schema) files.side.now.patterns c.loop-i.i ∙ ap (option_map (λ (pattern : Pattern). pattern.schema)) c.get.ensures) c.is_unknown-unknown.ensures c.loop-i.invariant c.found_if.ensures c.earlier-first.ensures

pub returns : goal.returns
returns c =
    let all : length (leaves c.args.files.now.side.now.patterns) ≡ length c.args.files.now.side.now.patterns = length-map c.args.files.now.side.now.patterns (λ (pattern : Pattern). pattern.schema) in
    missing_all (λ (one : Kind). is_among (schema_names c.args.files.now.domain.now) one.name) (λ (one : Kind). one.place) UNKNOWN_SCHEMA (leaves c.args.files.now.side.now.patterns) c.loop-i.i c.loop-i.first (omega (arith, all)) c.loop-i.invariant
