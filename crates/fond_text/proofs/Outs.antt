-- What is added part by part to a destination: the lemmas take the relation of the destination, and the laws of it that they need.
use Rattle.std.proofs.Common.{◌≡◌, ℕ, zero, suc, ◌+◌, ◌<◌, List, [], ◌∷◌, ◌++◌, length, drop, refl, sym, subst, ap, ◌∙◌, arith, append_assoc, append-nil}
use Rattle.std.specs.List.{flat_map}
use Rattle.std.specs.Prelude.{IfSome, slice_get}

-- a relation between an earlier and a later state of a destination, and the text that was added
abbrev pub Adds : Type 0 → Type 1
Adds S = S → S → List ℕ → Type 0

-- texts that are added one after the other are added as a whole
abbrev pub Chains : {S : Type 0} → Adds S → Type 0
Chains {S} adds = (before now after : S) (text more : List ℕ) → adds before now text → adds now after more → adds before after (text ++ more)

-- a front of the text was added, and the rest is left
pub record Adding {S : Type 0} (adds : Adds S) (before now : S) (whole left : List ℕ) : Type 0 where
  pub done : List ℕ
  pub added : adds before now done
  pub split : done ++ left ≡ whole

module _ {S : Type 0} (adds : Adds S) where
  -- what is added as one text is added as the same text in other words
  pub adds_same : {before after : S} {text other : List ℕ} → text ≡ other → adds before after text → adds before after other
  adds_same {before} {after} same added = subst (λ t. adds before after t) same added

  pub adding_all : {now : S} {whole : List ℕ} → adds now now [] → Adding adds now now whole whole
  adding_all nothing = record { done = []; added = nothing; split = refl }

  pub adding_none : {before now : S} {whole left : List ℕ} → left ≡ [] → Adding adds before now whole left → adds before now whole
  adding_none none adding = adds_same (sym (append-nil adding.done) ∙ ap (λ t. adding.done ++ t) (sym none) ∙ adding.split) adding.added

  module _ (chains : Chains adds) where
    pub adding_more : {before now after : S} {whole left item rest : List ℕ} → left ≡ item ++ rest → Adding adds before now whole left → adds now after item →
        Adding adds before after whole rest
    adding_more {item = item} {rest = rest} same adding more = record {
      done = adding.done ++ item;
      added = chains _ _ _ _ _ adding.added more;
      split = append_assoc adding.done item rest ∙ ap (λ t. adding.done ++ t) (sym same) ∙ adding.split;
    }

    -- the texts of the items before this one were added, and now its own
    pub adding_at : {X : Type 0} {before now after : S} {whole : List ℕ} (f : X → List ℕ) (xs : List X) (i : ℕ) → i < length xs →
        IfSome (slice_get xs i) (λ x. adds now after (f x)) → Adding adds before now whole (flat_map f (drop i xs)) → Adding adds before after whole (flat_map f (drop (i + 1) xs))
    adding_at f [] i there added adding = absurd (omega (arith, there))
    adding_at f (x ∷ xs) zero there added adding = adding_more refl adding added
    adding_at f (x ∷ xs) (suc i) there added adding =
        let next : suc i + 1 ≡ suc (i + 1) = omega arith in rw next (adding_at f xs i (omega (arith, there)) added adding)

    -- what is left is lost with what was added, if the destination loses it
    pub adding_lost : {before now : S} {whole left : List ℕ} → adds now now left → Adding adds before now whole left → adds before now whole
    adding_lost lost adding = adds_same adding.split (chains _ _ _ _ _ adding.added lost)
