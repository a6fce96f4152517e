use Rattle.std.proofs.Common.{drop}
use Rattle.json.specs.Print.{escape}
use Rattle.fond_text.proofs.Adding.{Adding}
use Rattle.fond_graph.proofs.strings.put_quoted.Given as goal

abbrev pub invariant-loop-byte : goal.invariant-loop-byte
invariant-loop-byte l = Adding l.initial.text l.text (escape l.bytes) (escape (drop l.byte-index l.bytes))
