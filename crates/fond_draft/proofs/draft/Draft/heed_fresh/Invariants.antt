use Rattle.std.proofs.Common.{◌≡◌, ◌++◌, [], length, take}
use Rattle.fond_task.specs.Layers.{AreSureLayers}
use Rattle.fond_layers.specs.Over.{AreOver}
use Rattle.fond_draft.specs.Drafts.{AreFitting}
use Rattle.fond_draft.proofs.draft.Draft.heed_fresh.Given as goal

-- the pairs so far fit the layers, and so do the fresh ones, of which the first were added to the pairs
abbrev pub invariant-loop-at : goal.invariant-loop-at
invariant-loop-at l = record {
  over : AreOver (length l.t.atoms) l.self.layers;
  sure : AreSureLayers l.t l.self.layers;
  pairs : AreFitting l.t l.self.layers l.self.pairs;
  fresh : AreFitting l.t l.self.layers l.self.fresh.items;
  rules : l.self.rules ≡ [];
  same : l.self.fresh ≡ l.initial.self.fresh;
  moved : l.self.pairs ≡ l.initial.self.pairs ++ take l.at l.self.fresh.items;
}
