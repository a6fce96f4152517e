use Rattle.std.proofs.Common.{◌≡◌, IfOk, OnOk, true, sym, subst}
use Rattle.fond_names.specs.Names.{Declarations}
use Rattle.fond_types.specs.Kept.{are_kept}
use Rattle.fond_types.specs.Meanings.{are_typed, meanings}
use Rattle.fond_types.specs.Resolves.{are_ranges}
use Rattle.fond_types.proofs.ranges.ranges_in.Goals as goal

pub ranges_of-requires-clause-typed : goal.ranges_of-requires-clause-typed
ranges_of-requires-clause-typed c = subst (λ (files : Declarations). are_typed files.domain.kinds c.args.names.now ≡ true) (sym c.table.ensures) c.requires.typed

pub ranges_of-requires-clause-sound : goal.ranges_of-requires-clause-sound
ranges_of-requires-clause-sound c = subst (λ (files : Declarations). are_kept files c.args.kept.now.entries.items ≡ true) (sym c.table.ensures) c.requires.sound

pub returns-clause-ranges : goal.returns-clause-ranges
returns-clause-ranges c = subst (λ (files : Declarations). IfOk c.ranges_of.result (λ ranges. are_ranges (meanings files) c.args.names.now ranges ≡ true)) c.table.ensures c.ranges_of.ensures.ranges

pub returns-clause-sound : goal.returns-clause-sound
returns-clause-sound c = subst (λ (files : Declarations). OnOk c.ranges_of.result (are_kept files c.ranges_of.new.kept.entries.items ≡ true)) c.table.ensures c.ranges_of.ensures.sound
