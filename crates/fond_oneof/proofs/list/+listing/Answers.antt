use Rattle.std.proofs.Common.{◌≡◌, ◌∙◌, ◌∷◌, [], ◌++◌, ◌+◌, IfOk, map, drop, ap, sym, subst}
use Rattle.std.specs.List.{flat_map}
use Rattle.std.proofs.lemmas.Result.{IfOk-weaker}
use Rattle.std.proofs.lemmas.List.{append_assoc, drop_all, map-append}
use Rattle.fond_text.specs.Lists.{concatenations}
use Rattle.fond_oneof.specs.Shown.{all_shown, pairs, shown, shown_lists, shown_under}
use Rattle.fond_oneof.proofs.Forms.{shown_alone}
use Rattle.fond_oneof.proofs.Lists.{drop_item, pairs-assoc, pairs-first, pairs-last}
use Rattle.fond_oneof.proofs.Meanings.{shown-Literal, shown-And, shown-OneOf, shown-When}
use Rattle.fond_oneof.proofs.list.+listing.Goals as goal

pub list-returns-in_ok-literal-in-Literal : goal.list-returns-in_ok-literal-in-Literal
list-returns-in_ok-literal-in-Literal t c =
    let outcome = ap (map shown) c.in_ok-literal-in-Literal.ensures ∙ ap (λ one. one ∷ []) (shown_alone c.in-Literal.atom c.in-Literal.add) in
    let whole = ap (λ one. one ∷ []) outcome ∙ sym (shown-Literal c.in-Literal.atom c.in-Literal.add) ∙ ap shown_lists (sym c.in-Literal.is) in
    IfOk-weaker c.alone.result (λ all. all.items ≡ c.in_ok-literal-in-Literal.field-0 ∷ []) (λ all. all_shown all.items ≡ shown_lists c.args.effect.now) (λ all e. ap all_shown e ∙ whole) c.alone.ensures

pub list-returns-in-And : goal.list-returns-in-And
list-returns-in-And t c =
    subst (λ lists. IfOk c.list_conjunction.result (λ all. all_shown all.items ≡ lists))
    (ap (λ parts. concatenations (map shown_lists parts)) c.deref.ensures.value ∙ sym (shown-And c.in-And.parts) ∙ ap shown_lists (sym c.in-And.is)) c.list_conjunction.ensures

pub list-returns-in-OneOf : goal.list-returns-in-OneOf
list-returns-in-OneOf t c =
    subst (λ lists. IfOk c.list_choice.result (λ all. all_shown all.items ≡ lists))
    (ap (λ members. flat_map (λ lists. lists) (map shown_lists members)) c.deref-in-OneOf.ensures.value ∙ sym (shown-OneOf c.in-OneOf.parts) ∙ ap shown_lists (sym c.in-OneOf.is)) c.list_choice.ensures

pub list-returns-in_ok-all-in-When : goal.list-returns-in_ok-all-in-When
list-returns-in_ok-all-in-When t c =
    let under = map (map (shown_under c.in-When.condition)) in
    subst (λ lists. IfOk c.all_guarded.result (λ all. all_shown all.items ≡ lists))
    (ap (λ all. under (all_shown all)) c.deref-in-When-2.ensures.value ∙ ap under (c.in_ok-all-in-When.ensures ∙ ap shown_lists c.deref-in-When.ensures)
    ∙ sym (shown-When c.in-When.condition c.in-When.part) ∙ ap shown_lists (sym c.in-When.is)) c.all_guarded.ensures

pub list_conjunction-loop-part-init : goal.list_conjunction-loop-part-init
list_conjunction-loop-part-init t c =
    let lists = concatenations (map shown_lists c.args.parts.now) in
    ap (λ all. pairs (all_shown all) lists) (c.in_ok-all.ensures ∙ ap (λ o. o ∷ []) c.new.ensures) ∙ pairs-first lists

pub list_conjunction-loop-part-preserved : goal.list_conjunction-loop-part-preserved
list_conjunction-loop-part-preserved t c =
    let parts = c.args.parts.now in
    let i = c.loop-part.part-index in
    let part = c.part-item.result in
    let rest = concatenations (map shown_lists (drop (i + 1) parts)) in
    let more = ap all_shown c.deref.ensures.value ∙ c.in_ok-second.ensures in
    ap (λ all. pairs all rest) (c.in_ok-all-2.ensures ∙ ap (pairs (all_shown c.loop-part.all.items)) more)
    ∙ pairs-assoc (all_shown c.loop-part.all.items) (shown_lists part) rest
    ∙ ap (λ items. pairs (all_shown c.loop-part.all.items) (concatenations (map shown_lists items))) (sym (drop_item parts i part c.loop-part-test.true c.part-item.is))
    ∙ c.loop-part.invariant

pub list_conjunction-returns : goal.list_conjunction-returns
list_conjunction-returns t c =
    let none = drop_all c.loop-part.part-index c.args.parts.now c.loop-part-test.false in
    sym (pairs-last (all_shown c.loop-part.all.items)) ∙ ap (λ items. pairs (all_shown c.loop-part.all.items) (concatenations (map shown_lists items))) (sym none) ∙ c.loop-part.invariant

pub list_choice-loop-member-preserved : goal.list_choice-loop-member-preserved
list_choice-loop-member-preserved t c =
    let members = c.args.members.now in
    let i = c.loop-member.member-index in
    let member = c.member-item.result in
    let all = c.loop-member.all.items in
    let more = c.in_ok-more.more.items in
    let rest = flat_map (λ lists. lists) (map shown_lists (drop (i + 1) members)) in
    ap (λ items. all_shown items ++ rest) c.in_ok-append.ensures.items
    ∙ ap (λ lists. lists ++ rest) (map-append (map shown) all more)
    ∙ append_assoc (all_shown all) (all_shown more) rest
    ∙ ap (λ lists. all_shown all ++ (lists ++ rest)) c.in_ok-more.ensures
    ∙ ap (λ items. all_shown all ++ flat_map (λ lists. lists) (map shown_lists items)) (sym (drop_item members i member c.loop-member-test.true c.member-item.is))
    ∙ c.loop-member.invariant
