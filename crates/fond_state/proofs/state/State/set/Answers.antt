use Rattle.std.proofs.Common.{◌≡◌, ◌∙◌, ℕ, ◌<◌, ◌/◌, ◌%◌, length, set, ap, arith}
use Rattle.std.specs.Prelude.{slice_index_or}
use Rattle.std.proofs.lemmas.List.{get_or_read}
use Rattle.fond_state.specs.Words.{is_set}
use Rattle.fond_state.proofs.Words.{length-truths_from}
use Rattle.fond_state.proofs.Changed.{truths_put, none_put, words_put}
use Rattle.fond_state.proofs.state.State.set.Goals as goal

pub index-word-requires : goal.index-word-requires
index-word-requires c =
    let same = ap length c.self.view_is in
    let long = length-truths_from c.self.inside.words.items 0 c.self.inside.atoms in
    omega (arith, c.requires, same, long, c.self.invariant.0)

pub index_mut-requires : goal.index_mut-requires
index_mut-requires c =
    let same = ap length c.self.view_is in
    let long = length-truths_from c.self.inside.words.items 0 c.self.inside.atoms in
    omega (arith, c.requires, same, long, c.self.invariant.0)

pub invariant_of-self : goal.invariant_of-self
invariant_of-self c =
    let words = c.self.inside.words.items in
    let n = c.self.inside.atoms in
    let atom = c.args.atom in
    let word = c.with_bit.result in
    let same = ap length c.self.view_is in
    let long = length-truths_from words 0 n in
    let small : atom < n = omega (arith, c.requires, same, long) in
    let within : atom / 64 < length words = omega (arith, small, c.self.invariant.0, c.self.inside.words.ok.0) in
    let read : c.index-word.result.now ≡ slice_index_or words (atom / 64) 0 = get_or_read words (atom / 64) c.index-word.result.now within c.index-word.ensures 0 in
    let other : (k : ℕ) → k < 64 → ¬ k ≡ atom % 64 → is_set word k ≡ is_set (slice_index_or words (atom / 64) 0) k
    = λ k lt differs. c.with_bit.ensures.other k lt differs ∙ ap (λ w. is_set w k) read in (
      c.self.invariant.0,
      none_put words n atom small c.args.v word within c.with_bit.ensures.same other c.self.invariant.1,
      words_put words n atom small c.args.v word within c.with_bit.ensures.same other c.with_bit.type_inv c.self.invariant.2,
      c.self.invariant.3,
    )

pub returns : goal.returns
returns c =
    let words = c.self.inside.words.items in
    let n = c.self.inside.atoms in
    let atom = c.args.atom in
    let word = c.with_bit.result in
    let same = ap length c.self.view_is in
    let long = length-truths_from words 0 n in
    let small : atom < n = omega (arith, c.requires, same, long) in
    let within : atom / 64 < length words = omega (arith, small, c.self.invariant.0, c.self.inside.words.ok.0) in
    let read : c.index-word.result.now ≡ slice_index_or words (atom / 64) 0 = get_or_read words (atom / 64) c.index-word.result.now within c.index-word.ensures 0 in
    let other : (k : ℕ) → k < 64 → ¬ k ≡ atom % 64 → is_set word k ≡ is_set (slice_index_or words (atom / 64) 0) k
    = λ k lt differs. c.with_bit.ensures.other k lt differs ∙ ap (λ w. is_set w k) read in
    truths_put words n atom small c.args.v word within c.with_bit.ensures.same other ∙ ap (λ state. set state atom c.args.v) c.self.view_is
