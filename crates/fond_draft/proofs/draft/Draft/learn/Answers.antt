use Rattle.std.proofs.Common.{◌∙◌, sym}
use Rattle.fond_draft.proofs.Appended.{stuck_over}
use Rattle.fond_draft.proofs.Fitting.{fitting_kept, fitting_none}
use Rattle.fond_draft.proofs.draft.Draft.learn.Goals as goal

pub returns-then-len-eq0-clause-draft : goal.returns-then-len-eq0-clause-draft
returns-then-len-eq0-clause-draft c =
    let task = c.args.t.now in
    let stuck = c.requires.stuck in
    let old = c.args.self.now in
    let none = sym c.len.ensures ∙ c.if-len-eq0.true in
    record {
      over = stuck_over task stuck.0 c.args.layers stuck.1 stuck.2;
      sure = stuck.2.sure;
      pairs = fitting_none task old.layers c.args.layers none old.pairs c.requires.draft.pairs;
      fresh = fitting_none task old.layers c.args.layers none old.fresh.items c.requires.draft.fresh;
      more = c.requires.draft.more;
      rules = c.requires.draft.rules;
    }

pub returns-clause-draft : goal.returns-clause-draft
returns-clause-draft c =
    let told = c.in_ok-append_layers.ensures in
    let old = c.args.self.now.layers in
    let new = c.append_layers.new.layers in
    record {
      over = told.over;
      sure = told.sure;
      pairs = fitting_kept c.args.t.now old new told.kept c.args.self.now.pairs c.requires.draft.pairs;
      fresh = fitting_kept c.args.t.now old new told.kept c.args.self.now.fresh.items c.requires.draft.fresh;
      more = c.requires.draft.more;
      rules = c.requires.draft.rules;
    }
