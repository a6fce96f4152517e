-- Literals from left to right.
use borrow.Author.Tests.{eqb-true}
use Rattle.std.proofs.Common.{◌≡◌, ◌≢◌, ℕ, ◌==◌, length, Bool, true, false, List, [], ◌∷◌, ◌++◌, All, refl, sym, ap, ◌∙◌, arith, append_assoc}
use Rattle.std.specs.List.{flat_map}
use Rattle.std.proofs.lemmas.List.Elements.{All-head, All-tail, All-cons, All-nil}
use Rattle.fond_form.specs.Lines.{IsGroup, group_text, WrittenLiteral, sign_text, literal_text}
use Rattle.fond_form.specs.Parts.{IsGroupText, HasNoGroup, IsLiteralsText, HasNoLiteral}
use Rattle.fond_form.proofs.Groups.{same_rest}

pub literal_apart : (literal : WrittenLiteral) (rest : List ℕ) → literal_text literal ++ rest ≡ 32 ∷ (sign_text literal.sign ++ (group_text literal.leaves ++ rest))
literal_apart literal rest = ap (λ t. 32 ∷ t) (append_assoc (sign_text literal.sign) (group_text literal.leaves) rest)

pub same_head : (a b : ℕ) (s t : List ℕ) → a ∷ s ≡ b ∷ t → a ≡ b
same_head a b s t e = cc

pub same_tail : (a b : ℕ) (s t : List ℕ) → a ∷ s ≡ b ∷ t → s ≡ t
same_tail a b s t e = cc

pub after_sign : (a b : Bool) (s t : List ℕ) → sign_text a ++ s ≡ sign_text b ++ t → s ≡ t
after_sign true true s t e = same_tail 43 43 s t e
after_sign true false s t e = let h = same_head 43 45 s t e in absurd (omega (arith, h))
after_sign false true s t e = let h = same_head 45 43 s t e in absurd (omega (arith, h))
after_sign false false s t e = same_tail 45 45 s t e

pub after_space : (s t : List ℕ) → 32 ∷ s ≡ 32 ∷ t → s ≡ t
after_space s t e = same_tail 32 32 s t e

pub no_space : (text : List ℕ) → ((rest : List ℕ) → text ≢ 32 ∷ rest) → HasNoLiteral text
no_space text h literal rest group e = h _ (e ∙ literal_apart literal rest)

pub no_sign : (text inner : List ℕ) → text ≡ 32 ∷ inner → ((sign : Bool) (rest : List ℕ) → inner ≢ sign_text sign ++ rest) → HasNoLiteral text
no_sign text inner i h literal rest group e =
    h literal.sign (group_text literal.leaves ++ rest) (after_space _ _ (sym i ∙ e ∙ literal_apart literal rest))

pub no_atom : (text inner further : List ℕ) (sign : Bool) → text ≡ 32 ∷ inner → inner ≡ sign_text sign ++ further → HasNoGroup further → HasNoLiteral text
no_atom text inner further sign i j h literal rest group e =
    h literal.leaves rest group (after_sign sign literal.sign _ _ (sym j ∙ after_space _ _ (sym i ∙ e ∙ literal_apart literal rest)))

pub no_literals_left : (text : List ℕ) → text ≡ [] → IsLiteralsText text
no_literals_left text e = ([], All-nil (λ (literal : WrittenLiteral). IsGroup literal.leaves), e)

-- a text that begins with a literal is one of literals if and only if the rest is
pub literals_more : (text atom rest : List ℕ) (sign : Bool) → IsGroupText atom → text ≡ 32 ∷ (sign_text sign ++ (atom ++ rest)) → IsLiteralsText rest → IsLiteralsText text
literals_more text atom rest sign group e h =
    let literal : WrittenLiteral = record { sign = sign; leaves = group.0 } in (
      literal ∷ h.0,
      All-cons (λ (literal : WrittenLiteral). IsGroup literal.leaves) literal h.0 group.1 h.1,
      e ∙ ap (λ t. 32 ∷ (sign_text sign ++ (t ++ rest))) group.2 ∙ ap (λ t. 32 ∷ (sign_text sign ++ (group_text group.0 ++ t))) h.2 ∙ sym (literal_apart literal (flat_map literal_text h.0)),
    )

literals_less_by : (text atom rest : List ℕ) (sign : Bool) → IsGroupText atom → text ≡ 32 ∷ (sign_text sign ++ (atom ++ rest)) →
    (literals : List WrittenLiteral) → All (λ literal. IsGroup literal.leaves) literals → text ≡ flat_map literal_text literals → IsLiteralsText rest
literals_less_by text atom rest sign group e [] h f = absurd (cc)
literals_less_by text atom rest sign group e (literal ∷ literals) h f =
    let P = λ (literal : WrittenLiteral). IsGroup literal.leaves in
    let apart = after_space _ _ (sym e ∙ f ∙ literal_apart literal (flat_map literal_text literals)) in
    let atoms = after_sign sign literal.sign _ _ apart in
    (literals, All-tail P literal literals h, same_rest group.0 literal.leaves _ _ group.1 (All-head P literal literals h) (ap (λ t. t ++ rest) (sym group.2) ∙ atoms))

pub literals_less : (text atom rest : List ℕ) (sign : Bool) → IsGroupText atom → text ≡ 32 ∷ (sign_text sign ++ (atom ++ rest)) → IsLiteralsText text → IsLiteralsText rest
literals_less text atom rest sign group e h = literals_less_by text atom rest sign group e h.0 h.1 h.2

literals_end_by : (text : List ℕ) → HasNoLiteral text → (literals : List WrittenLiteral) → All (λ literal. IsGroup literal.leaves) literals → text ≡ flat_map literal_text literals → text ≡ []
literals_end_by text none [] h e = e
literals_end_by text none (literal ∷ literals) h e =
    absurd (none literal (flat_map literal_text literals) (All-head (λ (literal : WrittenLiteral). IsGroup literal.leaves) literal literals h) e)

-- literals that begin with none are none
pub literals_end : (text : List ℕ) → HasNoLiteral text → IsLiteralsText text → text ≡ []
literals_end text none h = literals_end_by text none h.0 h.1 h.2

pub literals_decided : (text rest : List ℕ) (r : Bool) → r ≡ (length rest == 0) → HasNoLiteral rest → (IsLiteralsText rest → IsLiteralsText text) → (IsLiteralsText text → IsLiteralsText rest) →
    (r ≡ true → IsLiteralsText text) × (IsLiteralsText text → r ≡ true)
literals_decided text [] r e none f g = (λ t. f (no_literals_left [] refl), λ h. e)
literals_decided text (b ∷ rest) r e none f g = (
  λ t. let z : length (b ∷ rest) ≡ 0 = eqb-true (length (b ∷ rest)) 0 (sym e ∙ t) in absurd (omega arith),
  λ h. let z = literals_end (b ∷ rest) none (g h) in absurd (cc),
)

pub same_sign : (a b : Bool) (s t : List ℕ) → sign_text a ++ s ≡ sign_text b ++ t → a ≡ b
same_sign true true s t e = refl
same_sign true false s t e = let h = same_head 43 45 s t e in absurd (omega (arith, h))
same_sign false true s t e = let h = same_head 45 43 s t e in absurd (omega (arith, h))
same_sign false false s t e = refl
