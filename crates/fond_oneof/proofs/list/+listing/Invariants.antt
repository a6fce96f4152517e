use Rattle.std.proofs.Common.{◌≡◌, ◌++◌, map, drop}
use Rattle.std.specs.List.{flat_map}
use Rattle.fond_text.specs.Lists.{concatenations}
use Rattle.fond_oneof.specs.Shown.{all_shown, pairs, shown_lists}
use Rattle.fond_oneof.proofs.list.+listing.Given as goal

abbrev pub invariant-list_conjunction-loop-part : goal.invariant-list_conjunction-loop-part
invariant-list_conjunction-loop-part l = pairs (all_shown l.all.items) (concatenations (map shown_lists (drop l.part-index l.parts))) ≡ concatenations (map shown_lists l.parts)

abbrev pub invariant-list_choice-loop-member : goal.invariant-list_choice-loop-member
invariant-list_choice-loop-member l = all_shown l.all.items ++ flat_map (λ lists. lists) (map shown_lists (drop l.member-index l.members)) ≡ flat_map (λ lists. lists) (map shown_lists l.members)
