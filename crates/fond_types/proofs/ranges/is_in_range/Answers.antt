use Rattle.std.proofs.Common.{◌≡◌, ◌<◌, true, List, [], ◌∷◌, Some, None, length, slice_get, sym, ap, ◌∙◌, arith}
use Rattle.std.specs.List.{list_all, list_any}
use Rattle.std.specs.Str.{bytes_eq}
use Rattle.std.proofs.lemmas.Bool.Decides.{nat_tests}
use Rattle.std.proofs.lemmas.List.Folds.{list_all-append}
use Rattle.fond_ast.specs.Read.{has_one_kind}
use Rattle.fond_ast.specs.declared.names.Kind.{Kind}
use Rattle.fond_ast.specs.declared.names.TypedName.{TypedName}
use Rattle.fond_kinds.specs.Kinds.{first_kind, only_kind, is_type, are_types}
use Rattle.fond_types.specs.Kept.{is_of}
use Rattle.fond_names.specs.Names.{all_objects, first_of, objects_declared}
use Rattle.fond_names.specs.Same.{kind_names}
use Rattle.fond_names.specs.Subtypes.{is_subtype, is_below_some}
use Rattle.fond_names.proofs.Members.{and_parts, and_both}
use Rattle.fond_types.proofs.RangeLemmas.{found_passes, item_named, below_is}
use Rattle.fond_types.proofs.ranges.is_in_range.Goals as goal

some_kind : (kinds : List Kind) → length kinds ≡ 1 → 0 < length kinds
some_kind kinds e = omega (arith, e)

one_kind : (object : TypedName) → has_one_kind object ≡ true → length object.kinds ≡ 1
one_kind object e = grind (arith, nat_tests, e)

only_first : (kinds : List Kind) (kind : Kind) → slice_get kinds 0 ≡ Some kind → first_kind kinds ≡ kind.name
only_first [] kind e = cc
only_first (first ∷ kinds) kind e = let same : first ≡ kind = cc in ap (λ (one : Kind). one.name) same

first_typed : (types : List TypedName) (kinds : List Kind) (kind : Kind) → slice_get kinds 0 ≡ Some kind → are_types types kinds ≡ true → is_type types kind.name ≡ true
first_typed types [] kind e all = cc
first_typed types (first ∷ kinds) kind e all = let same : first ≡ kind = cc in ap (λ (one : Kind). is_type types one.name) (sym same) ∙ (and_parts (is_type types first.name) (are_types types kinds) all).0

pub get-requires-in-Some : goal.get-requires-in-Some
get-requires-in-Some c =
    let files = c.args.table.now in
    let name = c.get.result.now in
    let object = c.in-Some.object.now in
    let found : first_of (all_objects files) name ≡ Some object = sym c.in-Some.ensures in
    let all : list_all has_one_kind (all_objects files) ≡ true =
    list_all-append has_one_kind files.domain.constants files.problem.objects ∙ and_both (list_all has_one_kind files.domain.constants) (list_all has_one_kind files.problem.objects) files.domain.one_kind files.problem.one_kind in
    some_kind object.kinds (one_kind object (found_passes (λ (other : TypedName). bytes_eq other.name name) has_one_kind (all_objects files) object found all))

pub returns-in-Some : goal.returns-in-Some
returns-in-Some c = λ wanted got.
    let files = c.args.table.now in
    let types = files.domain.kinds in
    let kinds = c.args.kinds.now in
    let name = c.get.result.now in
    let object = c.in-Some.object.now in
    let kind = c.get-in-Some.result.now in
    let found : first_of (all_objects files) name ≡ Some object = sym c.in-Some.ensures in
    let named : slice_get (objects_declared files) c.args.i ≡ first_of (all_objects files) name = item_named (λ (other : TypedName). other.name) (all_objects files) c.objects-names.result.now c.args.i name c.objects-names.ensures.named c.get.ensures in
    let same : wanted ≡ object = (let both : Some wanted ≡ Some object = sym got ∙ named ∙ found in cc) in
    let only : only_kind object ≡ kind.name = only_first object.kinds kind c.get-in-Some.ensures in
    let typed : are_types types object.kinds ≡ true = found_passes (λ (other : TypedName). bytes_eq other.name name) (λ (one : TypedName). are_types types one.kinds) (all_objects files) object found c.is_well_named.ensures.objects_typed in
    let own : is_type types kind.name ≡ true = first_typed types object.kinds kind c.get-in-Some.ensures typed in
    c.is_below_some.ensures ∙ ap (λ some. is_below_some some kind.name kinds) c.types.ensures
    ∙ below_is types kind.name kinds own c.requires.typed ∙ ap (λ text. list_any (is_subtype types text) (kind_names kinds)) (sym only) ∙ ap (λ (one : TypedName). is_of types (kind_names kinds) one) (sym same)

pub returns-in-None : goal.returns-in-None
returns-in-None c = λ wanted got.
    let files = c.args.table.now in
    let name = c.get.result.now in
    let none : first_of (all_objects files) name ≡ None = sym c.in-None.ensures in
    let named : slice_get (objects_declared files) c.args.i ≡ first_of (all_objects files) name = item_named (λ (other : TypedName). other.name) (all_objects files) c.objects-names.result.now c.args.i name c.objects-names.ensures.named c.get.ensures in
    let both : Some wanted ≡ None = sym got ∙ named ∙ none in
    absurd (cc (both))
