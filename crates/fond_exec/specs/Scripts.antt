-- The numbers that a script spells, and the fault of a text that is no script.
use Rattle.std.specs.Prelude.{◌≡◌, ℕ, ◌<◌, ◌^◌, List, ⊤}
use Rattle.std.specs.Fmt.{decimal}
use Rattle.std.specs.List.{AllZip}
use Rattle.fond_text.specs.Lists.{Somewhere}
use Rattle.fond_exec.specs.Words.{ScriptWord, script_words}
use Rattle.fond_exec.specs.declared.script.ScriptError.{ScriptError}
use Rattle.fond_exec.specs.declared.script.ScriptError.TheVariants.{Refused, NoMemory}

-- bytes spell a number below 2^32 if they are its decimal digits, without a sign or a leading zero
abbrev pub IsNumber : List ℕ → ℕ → Type 0
IsNumber bytes number = (bytes ≡ decimal number) × (number < 2 ^ 32)

-- words spell numbers, word by word
abbrev pub SpellNumbers : List ScriptWord → List ℕ → Type 0
SpellNumbers = AllZip (λ word. IsNumber word.bytes)

-- a script spells the numbers of its words
abbrev pub IsScript : List ℕ → List ℕ → Type 0
IsScript text numbers = SpellNumbers (script_words text) numbers

-- the fault of a text is at the first byte of its first word that spells no number
abbrev pub IsScriptFault : List ℕ → ℕ → Type 0
IsScriptFault text byte =
    Somewhere (λ before word. ((numbers : List ℕ) × SpellNumbers before numbers) × ((number : ℕ) → ¬ IsNumber word.bytes number) × (byte ≡ word.at)) (script_words text)

-- an error that refuses a script reports a byte of which this holds; memory may run out at any time
abbrev pub ScriptRefuses : (ℕ → Type 0) → ScriptError → Type 0
ScriptRefuses holds (Refused byte) = holds byte
ScriptRefuses holds NoMemory = ⊤
