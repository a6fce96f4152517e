-- Errors, and what holds of the refusals among them.
use Rattle.std.specs.Prelude.{ℕ, ⊤}
use Rattle.fond_cert.specs.declared.error.CertError.{CertError}
use Rattle.fond_cert.specs.declared.error.CertError.TheVariants.{Refused as RefusedText, NoMemory as WithoutMemory}
use Rattle.fond_cert.specs.declared.error.LineError.{LineError}
use Rattle.fond_cert.specs.declared.error.LineError.TheVariants.{Refused as RefusedLine, NoMemory}
use Rattle.fond_cert.specs.Words.{Refused}

-- an error that refuses a text reports a code and a byte of which this holds; memory may run out at any time
abbrev pub CertRefuses : (ℕ → ℕ → Type 0) → CertError → Type 0
CertRefuses holds (RefusedText code byte) = holds code byte
CertRefuses holds WithoutMemory = ⊤

-- an error that refuses a line reports a refusal of which this holds; memory may run out at any time
abbrev pub LineRefuses : (Refused → Type 0) → LineError → Type 0
LineRefuses holds (RefusedLine code at) = holds (record { code = code; at = at })
LineRefuses holds NoMemory = ⊤
