use Rattle.std.proofs.Common.{◌≡◌, ◌≢◌, ◌++◌, ◌+◌, Bool, List, Some, not, take, drop, sym, ap, ◌∙◌, subst, arith}
use Rattle.std.specs.Bool.{Decides}
use Rattle.std.specs.Str.{bytes_eq}
use Rattle.fond_ast.specs.declared.names.TypedName.{TypedName}
use Rattle.fond_kinds.specs.Kinds.{only_kind}
use Rattle.fond_text.specs.declared.code.TheConstants.{REPEATED_NAME}
use Rattle.fond_names.specs.Files.{declarations_of}
use Rattle.fond_names.specs.Names.{all_objects, first_of}
use Rattle.fond_names.proofs.Among.{later_none, later_next, later_all}
use Rattle.fond_names.proofs.Differs.{cut_at, differs_later, differ_decides, same_text}
use Rattle.fond_names.proofs.redeclared.redeclared_object.Goals as goal

abbrev IsOther : List TypedName → List TypedName → TypedName → Type 0
IsOther earlier before declared = (first : TypedName) × (first_of (earlier ++ before) declared.name ≡ Some first) × (only_kind first ≢ only_kind declared)

pub loop-i-init : goal.loop-i-init
loop-i-init c = λ before after split. later_none (IsOther before) (λ object. object.place) REPEATED_NAME

pub loop-i-preserved : goal.loop-i-preserved
loop-i-preserved c = λ before after split.
    let objects = c.args.objects.now in
    let i = c.loop-i.i in
    let object = c.get-object.result.now in
    let rest : List TypedName = drop (i + 1) objects ++ after in
    let decides =
    differs_later (λ (other : TypedName). bytes_eq other.name object.name) (before ++ take i objects) object rest (same_text object.name)
    (λ one other. not (bytes_eq (only_kind one) (only_kind other))) (λ one other. only_kind one ≢ only_kind other) (λ one other. differ_decides (only_kind one) (only_kind other)) (ap not (same_text (only_kind object)))
    (all_objects (declarations_of c.args.files.now)) (split ∙ cut_at before objects after i object c.get-object.ensures) in
    later_next (IsOther before) (λ one. one.place) REPEATED_NAME objects i object c.is_redeclared-again.result c.loop-i.first c.found_if.result c.earlier-first.result c.get-object.ensures
    (subst (λ (b : Bool). Decides b (IsOther before (take i objects) object)) (sym c.is_redeclared-again.ensures) decides)
    (c.loop-i.invariant before after split) c.found_if.ensures c.earlier-first.ensures

pub returns : goal.returns
returns c = λ before after split. later_all (IsOther before) (λ object. object.place) REPEATED_NAME c.args.objects.now c.loop-i.i c.loop-i.first (omega arith) (c.loop-i.invariant before after split)
