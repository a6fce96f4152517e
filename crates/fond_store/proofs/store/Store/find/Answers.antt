use Rattle.std.proofs.Common.{◌≡◌, ℕ, Option, Some, None, subst, sym, ap, ◌∙◌, slice_get}
use Rattle.std.specs.Prelude.{Contains, MatchOption, position}
use Rattle.fond_store.proofs.Kept.{found, same}
use Rattle.fond_store.proofs.store.Store.find.Goals as goal

pub returns-in_err-get_index_of : goal.returns-in_err-get_index_of
returns-in_err-get_index_of c =
    let states = c.args.self.now in
    let state = c.args.s.now in
    let P : Option ℕ → Type 0 = λ number. MatchOption number (¬ Contains states state) (λ n. slice_get states n ≡ Some state) in
    let none : None ≡ position (same state) states = c.in_err-get_index_of.ensures.index ∙ ap (position (same state)) c.self.view_is in
    subst P (sym none ∙ sym c.from_residual.ensures) (found states state)

pub returns : goal.returns
returns c =
    let states = c.args.self.now in
    let state = c.args.s.now in
    let P : Option ℕ → Type 0 = λ number. MatchOption number (¬ Contains states state) (λ n. slice_get states n ≡ Some state) in
    subst P (sym (c.in_ok-get_index_of.ensures.index ∙ ap (position (same state)) c.self.view_is)) (found states state)
