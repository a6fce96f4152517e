-- The words so far, followed by the next ones, are the words of the generator at the start.
use Rattle.std.proofs.Common.{◌≡◌, ℕ, zero, suc, ◌+◌, List, [], ◌∷◌, ◌++◌, length, refl, sym, ap, ◌∙◌, append_assoc, append-nil, add-zero, arith}
use Rattle.rand_pcg.specs.Lcg.{Lcg}
use Rattle.rand_pcg.specs.Pcg.{pcg32}
use Rattle.fond_demo.specs.Words.{next_words}

-- the words so far and any number of next ones are the first ones
abbrev pub GoesOn : Lcg → Lcg → ℕ → List ℕ → Type 0
GoesOn start generator at words = (more : ℕ) → words ++ next_words more generator ≡ next_words (at + more) start

pub goes_on : (start generator after : Lcg) (at word : ℕ) (words pushed : List ℕ) → GoesOn start generator at words → (word, after) ≡ pcg32 generator → pushed ≡ words ++ word ∷ [] → GoesOn start after (at + 1) pushed
goes_on start generator after at word words pushed so_far drawn push more =
    ap (λ ws. ws ++ next_words more after) push
    ∙ append_assoc words (word ∷ []) (next_words more after)
    ∙ ap (λ (p : ℕ × Lcg). words ++ (p.0 ∷ next_words more p.1)) drawn
    ∙ so_far (suc more)
    ∙ ap (λ n. next_words n start) one_more
  where
    one_more : at + suc more ≡ at + 1 + more
    one_more = omega arith

pub ended : (start generator : Lcg) (at count : ℕ) (words : List ℕ) → GoesOn start generator at words → at ≡ count → words ≡ next_words count start
ended start generator at count words so_far same = sym (append-nil words) ∙ so_far 0 ∙ ap (λ n. next_words n start) (add-zero at ∙ same)

-- so many words are as many
pub counted : (count : ℕ) (generator : Lcg) → length (next_words count generator) ≡ count
counted zero generator = refl
counted (suc count) generator = ap (λ n. suc n) (counted count (pcg32 generator).1)
