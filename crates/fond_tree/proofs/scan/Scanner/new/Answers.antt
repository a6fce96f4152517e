-- A whole text begins at line 1 and column 1.
use Rattle.std.proofs.Common.{[], sym}
use Rattle.fond_tree.specs.Tokens.{Gap}
use Rattle.fond_tree.proofs.Places.{same_marks, same_end}
use Rattle.fond_tree.proofs.scan.Scanner.new.Goals as goal

pub returns-clause-tokens : goal.returns-clause-tokens
returns-clause-tokens c = sym (same_marks Gap [] c.args.text.now)

pub returns-clause-end : goal.returns-clause-end
returns-clause-end c = same_end [] c.args.text.now
