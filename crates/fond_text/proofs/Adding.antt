-- A text that is written part by part.
use Rattle.std.proofs.Common.{◌≡◌, ℕ, inl, inr, List, [], ◌++◌, Option, Some, sym, ◌∙◌}
use Rattle.std.proofs.lemmas.Option.{none-some, same_Some}
use Rattle.fond_text.specs.Text.{Adds}
pub use Rattle.fond_text.specs.TextLaws.{adds_then, adds_nothing}
use Rattle.fond_text.proofs.Outs as outs

-- what is added as one text is added as the same text in other words
pub adds_same : (before after : Option (List ℕ)) (text other : List ℕ) → text ≡ other → Adds before after text → Adds before after other
adds_same before after text other = outs.adds_same Adds

-- the bytes of a text are what was added to an empty one
pub whole_is : (after : Option (List ℕ)) (part bytes : List ℕ) → Adds (Some []) after part → after ≡ Some bytes → bytes ≡ part
whole_is after part bytes (inl added) is = same_Some bytes part (sym is ∙ added)
whole_is after part bytes (inr lost) is = absurd (none-some bytes (sym lost ∙ is))

-- a front of the text was added, and the rest is left
abbrev pub Adding : (before now : Option (List ℕ)) (whole left : List ℕ) → Type 0
Adding = outs.Adding Adds

pub adding_all : (text : Option (List ℕ)) (whole : List ℕ) → Adding text text whole whole
adding_all text whole = outs.adding_all Adds (adds_nothing text)

pub adding_more : (before now after : Option (List ℕ)) (whole left item rest : List ℕ) → left ≡ item ++ rest → Adding before now whole left → Adds now after item → Adding before after whole rest
adding_more before now after whole left item rest = outs.adding_more Adds adds_then

pub adding_none : (before now : Option (List ℕ)) (whole left : List ℕ) → left ≡ [] → Adding before now whole left → Adds before now whole
adding_none before now whole left = outs.adding_none Adds
