use Rattle.std.proofs.Common.{◌≡◌, ◌++◌, ◌+◌, [], Bool, List, Some, not, find, take, drop, sym, ap, ◌∙◌, subst, arith, append-nil}
use Rattle.std.specs.Bool.{Decides}
use Rattle.std.specs.List.{AllZip}
use Rattle.std.specs.Str.{bytes_eq}
use Rattle.fond_ast.specs.declared.files.Declared.{Declared}
use Rattle.fond_text.specs.declared.code.TheConstants.{REPEATED_NAME}
use Rattle.fond_names.specs.Faults.{HaveSameTypes}
use Rattle.fond_names.specs.Same.{are_same_types}
use Rattle.fond_names.proofs.Among.{later_none, later_next, later_all}
use Rattle.fond_names.proofs.Differs.{cut_at, differs_later, same_text}
use Rattle.fond_names.proofs.SameLemmas.{same_types_decide, same_as_itself, not_decides}
use Rattle.fond_names.proofs.predicates.redeclared_predicate.Goals as goal

abbrev IsOther : List Declared → Declared → Type 0
IsOther before declared = (first : Declared) × (find (λ other. bytes_eq other.name declared.name) before ≡ Some first) × ¬ AllZip HaveSameTypes first.parameters declared.parameters

pub loop-i-init : goal.loop-i-init
loop-i-init c = later_none IsOther (λ declared. declared.place) REPEATED_NAME

pub loop-i-preserved : goal.loop-i-preserved
loop-i-preserved c =
    let predicates = c.args.files.now.domain.now.predicates in
    let i = c.loop-i.i in
    let declared = c.get-declared.result.now in
    let decides =
    differs_later (λ (other : Declared). bytes_eq other.name declared.name) (take i predicates) declared (drop (i + 1) predicates ++ []) (same_text declared.name)
    (λ one other. not (are_same_types one.parameters other.parameters)) (λ one other. ¬ AllZip HaveSameTypes one.parameters other.parameters)
    (λ one other. not_decides (are_same_types one.parameters other.parameters) (AllZip HaveSameTypes one.parameters other.parameters) (same_types_decide one.parameters other.parameters)) (ap not (same_as_itself declared.parameters))
    predicates (sym (append-nil predicates) ∙ cut_at [] predicates [] i declared c.get-declared.ensures) in
    later_next IsOther (λ one. one.place) REPEATED_NAME predicates i declared c.in_ok-again.again c.loop-i.first c.found_if.result c.earlier-first.result c.get-declared.ensures
    (subst (λ (b : Bool). Decides b (IsOther (take i predicates) declared)) (sym c.in_ok-again.ensures) decides)
    c.loop-i.invariant c.found_if.ensures c.earlier-first.ensures

pub returns : goal.returns
returns c = later_all IsOther (λ declared. declared.place) REPEATED_NAME c.args.files.now.domain.now.predicates c.loop-i.i c.loop-i.first (omega arith) c.loop-i.invariant
