use Rattle.std.proofs.Common.{rules}
use Rattle.std.proofs.lemmas.List.Sorted.{Contains-permutation, IsNonDecreasingBy-from_sort_by_key, IsPermutation-sym}
use Rattle.fond_draft.specs.declared.order.Place.{Place}
use Rattle.fond_draft.proofs.order.in_order.Goals as goal

pub returns : goal.returns
returns c =
    let before = c.in_ok-places.places.items in
    let after = c.sort_by_key.new.self.items in
    let moved = c.in_ok-sort_by_key.ensures.permutation in
    record {
      each = λ place has. c.in_ok-places.ensures.each place (Contains-permutation after before place (IsPermutation-sym before after moved) has);
      all = λ number choice is has. Contains-permutation before after (record { rank = choice.rank; number = number }) moved (c.in_ok-places.ensures.all number choice is has);
      rising = IsNonDecreasingBy-from_sort_by_key (λ (place : Place). place.rank) _ c.in_ok-sort_by_key.ensures.sorted (λ a r q k. search rules);
    }
