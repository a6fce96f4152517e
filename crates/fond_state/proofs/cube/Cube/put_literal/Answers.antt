use Rattle.std.proofs.Common.{◌≡◌, ◌∙◌, ℕ, ◌<◌, ◌/◌, ◌%◌, Some, length, set, ap, arith}
use Rattle.std.proofs.lemmas.List.{get_or_read}
use Rattle.fond_state.specs.declared.mask.Mask.{Mask}
use Rattle.fond_state.specs.Words.{is_set, literal_of, mask_at, no_mask}
use Rattle.fond_state.proofs.Words.{length-literals_from, literal_set}
use Rattle.fond_state.proofs.Changed.{literals_put, padded_put}
use Rattle.fond_state.proofs.cube.Cube.put_literal.Goals as goal

pub index-mask-requires : goal.index-mask-requires
index-mask-requires c =
    let same = ap length c.self.view_is in
    let long = length-literals_from c.self.inside.masks.items 0 c.self.inside.atoms in
    omega (arith, c.requires, same, long, c.self.invariant.0)

pub index_mut-requires : goal.index_mut-requires
index_mut-requires c =
    let same = ap length c.self.view_is in
    let long = length-literals_from c.self.inside.masks.items 0 c.self.inside.atoms in
    omega (arith, c.requires, same, long, c.self.invariant.0)

pub invariant_of-self : goal.invariant_of-self
invariant_of-self c =
    let masks = c.self.inside.masks.items in
    let n = c.self.inside.atoms in
    let atom = c.args.atom in
    let mask = c.with_literal.result in
    let same = ap length c.self.view_is in
    let long = length-literals_from masks 0 n in
    let small : atom < n = omega (arith, c.requires, same, long) in
    let within : atom / 64 < length masks = omega (arith, small, c.self.invariant.0, c.self.inside.masks.ok.0) in
    let read : c.index-mask.result.now ≡ mask_at masks (atom / 64) = get_or_read masks (atom / 64) c.index-mask.result.now within c.index-mask.ensures no_mask in
    let here : literal_of mask (atom % 64) ≡ Some c.args.v = literal_set mask (atom % 64) c.with_literal.ensures.same.0 ∙ ap (λ b. Some b) c.with_literal.ensures.same.1 in
    let other : (k : ℕ) → k < 64 → ¬ k ≡ atom % 64 → (is_set mask.care k ≡ is_set (mask_at masks (atom / 64)).care k) × (is_set mask.sign k ≡ is_set (mask_at masks (atom / 64)).sign k)
    = λ k lt differs. let told = c.with_literal.ensures.other k lt differs in (told.0 ∙ ap (λ (m : Mask). is_set m.care k) read, told.1 ∙ ap (λ (m : Mask). is_set m.sign k) read) in
    (c.self.invariant.0, padded_put masks n atom small (Some c.args.v) mask within here other c.self.invariant.1, c.self.invariant.2)

pub returns : goal.returns
returns c =
    let masks = c.self.inside.masks.items in
    let n = c.self.inside.atoms in
    let atom = c.args.atom in
    let mask = c.with_literal.result in
    let same = ap length c.self.view_is in
    let long = length-literals_from masks 0 n in
    let small : atom < n = omega (arith, c.requires, same, long) in
    let within : atom / 64 < length masks = omega (arith, small, c.self.invariant.0, c.self.inside.masks.ok.0) in
    let read : c.index-mask.result.now ≡ mask_at masks (atom / 64) = get_or_read masks (atom / 64) c.index-mask.result.now within c.index-mask.ensures no_mask in
    let here : literal_of mask (atom % 64) ≡ Some c.args.v = literal_set mask (atom % 64) c.with_literal.ensures.same.0 ∙ ap (λ b. Some b) c.with_literal.ensures.same.1 in
    let other : (k : ℕ) → k < 64 → ¬ k ≡ atom % 64 → (is_set mask.care k ≡ is_set (mask_at masks (atom / 64)).care k) × (is_set mask.sign k ≡ is_set (mask_at masks (atom / 64)).sign k)
    = λ k lt differs. let told = c.with_literal.ensures.other k lt differs in (told.0 ∙ ap (λ (m : Mask). is_set m.care k) read, told.1 ∙ ap (λ (m : Mask). is_set m.sign k) read) in
    literals_put masks n atom small (Some c.args.v) mask within here other ∙ ap (λ cube. set cube atom (Some c.args.v)) c.self.view_is
