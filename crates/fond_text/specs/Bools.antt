-- Truth values.
use Rattle.std.specs.Prelude.{Bool, true, false, not}

-- whether two truth values are the same
abbrev pub is_same : Bool → Bool → Bool
is_same true other = other
is_same false other = not other
