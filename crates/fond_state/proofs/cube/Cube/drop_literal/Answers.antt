use Rattle.std.proofs.Common.{◌≡◌, ◌∙◌, ℕ, ◌<◌, ◌/◌, ◌%◌, None, length, set, sym, ap, arith}
use Rattle.std.proofs.lemmas.Bool.{cond-false}
use Rattle.std.proofs.lemmas.List.{get_or_read, set_past}
use Rattle.fond_state.specs.declared.mask.Mask.{Mask}
use Rattle.fond_state.specs.Words.{is_set, literal_of, mask_at, no_mask}
use Rattle.fond_state.proofs.Words.{length-literals_from}
use Rattle.fond_state.proofs.Changed.{literals_put}
use Rattle.fond_state.proofs.cube.Cube.drop_literal.Goals as goal

pub returns-then-atom-self : goal.returns-then-atom-self
returns-then-atom-self c =
    let same = ap length c.self.view_is in
    let long = length-literals_from c.self.inside.masks.items 0 c.self.inside.atoms in
    sym (set_past c.args.self.now c.args.atom None (omega (arith, c.if-atom-self.true, same, long)))

pub returns : goal.returns
returns c =
    let masks = c.self.inside.masks.items in
    let n = c.self.inside.atoms in
    let atom = c.args.atom in
    let mask = c.without_literal.result in
    let small : atom < n = c.if-atom-self.false in
    let within : atom / 64 < length masks = omega (arith, small, c.self.invariant.0, c.self.inside.masks.ok.0) in
    let read : c.index-mask.result.now ≡ mask_at masks (atom / 64) = get_or_read masks (atom / 64) c.index-mask.result.now within c.index-mask.ensures no_mask in
    let here : literal_of mask (atom % 64) ≡ None = cond-false (is_set mask.care (atom % 64)) _ _ c.without_literal.ensures.same in
    let other : (k : ℕ) → k < 64 → ¬ k ≡ atom % 64 → (is_set mask.care k ≡ is_set (mask_at masks (atom / 64)).care k) × (is_set mask.sign k ≡ is_set (mask_at masks (atom / 64)).sign k)
    = λ k lt differs. let told = c.without_literal.ensures.other k lt differs in (told.0 ∙ ap (λ (m : Mask). is_set m.care k) read, told.1 ∙ ap (λ (m : Mask). is_set m.sign k) read) in
    literals_put masks n atom small None mask within here other ∙ ap (λ cube. set cube atom None) c.self.view_is
