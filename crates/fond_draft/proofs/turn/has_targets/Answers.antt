use Rattle.std.proofs.Common.{◌≡◌, ◌∙◌, ℕ, List, Bool, true, false, subst, Option, None, Some, not, refl, sym, ap}
use Rattle.std.specs.Option.{is_some}
use Rattle.std.specs.Prelude.{IfSome, slice_get}
use Rattle.std.proofs.lemmas.Bool.{false≢true, true≢false}
use Rattle.std.proofs.lemmas.Option.{same_Some}
use Rattle.fond_task.specs.Steps.{next_state}
use Rattle.fond_task.specs.declared.task.Act.{Act}
use Rattle.fond_task.specs.declared.task.Entry.{Entry}
use Rattle.fond_task.proofs.Lists.{Contains_numbered}
use Rattle.fond_draft.specs.Targets.{IsCovered}
use Rattle.fond_draft.proofs.turn.has_targets.Goals as goal

nothing : (found : Option ℕ) → is_some found ≡ false → found ≡ None
nothing None none = refl
nothing (Some n) none = absurd (true≢false none)

some_of : (found : Option ℕ) → is_some found ≡ true → (n : ℕ) × (found ≡ Some n)
some_of None some = absurd (false≢true some)
some_of (Some n) some = (n, refl)

at_some : (P : ℕ → Type 0) {n : ℕ} {found : Option ℕ} → found ≡ Some n → IfSome found P → P n
at_some P is told = subst (λ (o : Option ℕ). IfSome o P) is told

pub returns-then-get-clause-has : goal.returns-then-get-clause-has
returns-then-get-clause-has c = λ yes act at.
    let own = c.get.result.now in
    let same : own ≡ act = same_Some own act (sym c.get.ensures ∙ at) in
    let none = nothing c.first_open.result (c.is_none.ensures ∙ ap not yes) in
    record {
      fair = λ fair. absurd (true≢false (sym c.if-get.true ∙ ap (λ (a : Act). a.unfair) same ∙ fair));
      unfair = λ unfair entries has. c.first_open.ensures.covered none act entries at has;
    }

pub returns-then-get-clause-none : goal.returns-then-get-clause-none
returns-then-get-clause-none c = λ no act at has.
    let own = c.get.result.now in
    let same : own ≡ act = same_Some own act (sym c.get.ensures ∙ at) in
    let found = some_of c.first_open.result (c.is_none.ensures ∙ ap not no) in
    let opened = at_some (λ outcome. (a : Act) → slice_get c.args.t.now.acts c.args.turn.now.act ≡ Some a → (entries : List Entry) × (slice_get a.outcomes outcome ≡ Some entries) × (c.first_open.new.next ≡ next_state c.args.turn.now.state entries)) found.1 c.first_open.ensures.«open» act at in
    at_some (λ outcome. ¬ IsCovered c.args.t.now c.args.rules.now c.first_open.new.next) found.1 c.first_open.ensures.not_covered
    (subst (λ (s : List Bool). IsCovered c.args.t.now c.args.rules.now s) (sym opened.2)
    (has.unfair (ap (λ (a : Act). a.unfair) (sym same) ∙ c.if-get.true) opened.0 (Contains_numbered act.outcomes found.0 opened.0 opened.1)))

pub returns-clause-none : goal.returns-clause-none
returns-clause-none c = λ no act at has.
    let same : c.get.result.now ≡ act = same_Some c.get.result.now act (sym c.get.ensures ∙ at) in
    let some = has.fair (ap (λ (a : Act). a.unfair) (sym same) ∙ c.if-get.false) in
    c.is_some_covered.ensures.none no act some.0 at some.1 some.2
