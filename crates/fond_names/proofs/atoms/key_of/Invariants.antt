use Rattle.std.proofs.Common.{◌≡◌, ◌++◌, drop}
use Rattle.fond_names.specs.Fits.{key_of}
use Rattle.fond_names.proofs.atoms.key_of.Given as goal

-- the key so far, with the bytes that are left and the name of the predicate, is the whole
abbrev pub invariant-loop-byte : goal.invariant-loop-byte
invariant-loop-byte l = l.key.items ++ (drop l.byte-index l.byte-items ++ l.predicate) ≡ key_of l.argument.variable l.argument.name l.predicate l.at

-- the key so far, with the bytes that are left, is the whole
abbrev pub invariant-loop-byte-2 : goal.invariant-loop-byte-2
invariant-loop-byte-2 l = l.key.items ++ drop l.byte-index l.byte-items ≡ key_of l.argument.variable l.argument.name l.predicate l.at
