use Rattle.std.proofs.Common.{◌≡◌, ◌∙◌, ap, sym, subst, ◌<◌}
use Rattle.std.proofs.lemmas.List.{length-map}
use Rattle.std.specs.List.{position_or_len}
use Rattle.std.specs.Map.{keys_of}
use Rattle.indexmap.specs.IndexMap.{keys}
use Rattle.indexmap.specs.IndexSet.{insert_key}
use Rattle.fond_store.proofs.Kept.{adds, keys_after, same}
use Rattle.fond_store.proofs.store.Store.add.Goals as goal

pub returns-clause-ok : goal.returns-clause-ok
returns-clause-ok c =
    let state = c.args.s in
    let number = c.in_ok-number.number in
    let before = c.self.inside.states in
    let grown : keys c.insert_full.new.self ≡ insert_key same (keys before) state = ap keys_of c.in_ok-number.ensures.entries ∙ keys_after before.entries state in
    adds c.args.self.now (keys c.insert_full.new.self) state number
    (grown ∙ ap (λ states. insert_key same states state) c.self.view_is)
    (c.in_ok-number.ensures.index ∙ ap (position_or_len (same state)) c.self.view_is)
    (subst (λ most. number < most) (sym (length-map c.insert_full.new.self.entries (λ entry. entry.0))) c.in_ok-number.ensures.within)
