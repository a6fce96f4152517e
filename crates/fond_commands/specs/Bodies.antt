-- What is to be written.
use Rattle.std.specs.Prelude.{ℕ, List}
use Rattle.fond_commands.specs.declared.body.Body.{Body}
use Rattle.fond_commands.specs.declared.body.Body.TheVariants.{Held, Printed}

-- the text that is to be written
abbrev pub body_text : Body → List ℕ
body_text (Held text) = text.items
body_text (Printed text) = text
