-- The laws of a text that is written part by part.
use Rattle.std.proofs.Common.{◌≡◌, ℕ, inl, inr, true, List, [], ◌++◌, Option, None, Some, refl, sym, ap, ◌∙◌, append_assoc, append-nil}
use Rattle.std.specs.Option.{is_none}
use Rattle.std.specs.Prelude.{option_map}
use Rattle.std.proofs.lemmas.Bool.{false≢true}
use Rattle.fond_text.specs.Text.{Adds}

added_twice : (before : Option (List ℕ)) (part more : List ℕ) → option_map (λ t. t ++ more) (option_map (λ t. t ++ part) before) ≡ option_map (λ t. t ++ (part ++ more)) before
added_twice None part more = refl
added_twice (Some text) part more = ap Some (append_assoc text part more)

-- what is added one after the other is added as a whole
pub adds_then : (before now after : Option (List ℕ)) (part more : List ℕ) → Adds before now part → Adds now after more → Adds before after (part ++ more)
adds_then before now after part more first (inr lost) = inr lost
adds_then before now after part more (inl first) (inl second) = inl (second ∙ ap (option_map (λ t. t ++ more)) first ∙ added_twice before part more)
adds_then before now after part more (inr lost) (inl second) = inr (second ∙ ap (option_map (λ t. t ++ more)) lost)

-- nothing is added by doing nothing
pub adds_nothing : (text : Option (List ℕ)) → Adds text text []
adds_nothing None = inr refl
adds_nothing (Some text) = inl (ap Some (sym (append-nil text)))

-- whatever is added to a lost text is lost
pub adds_failed : (text : Option (List ℕ)) (part : List ℕ) → is_none text ≡ true → Adds text text part
adds_failed None part failed = inr refl
adds_failed (Some text) part failed = absurd (false≢true failed)
