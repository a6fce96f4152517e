use Rattle.fond_commands.proofs.Migrated.{covers_if}
use Rattle.fond_commands.proofs.migrate.cover_text.Goals as goal

pub returns : goal.returns
returns c = covers_if (λ text. text.items) c.args.game.now c.args.cert c.in_ok-covered.covered c.print_cert.result c.requires c.in_ok-covered.ensures c.print_cert.ensures
