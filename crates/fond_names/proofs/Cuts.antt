-- A list with one more item at its end, cut at an item.
use Rattle.std.proofs.Common.{◌≡◌, ◌⊎◌, inl, inr, List, [], ◌∷◌, ◌++◌, refl, ap, ◌∙◌}

-- the list is cut at the same item, and the last item ends what follows
pub record IsCut {X : Type 0} (xs : List X) (last : X) (before : List X) (x : X) (after : List X) : Type 0 where
  pub rest : List X
  pub after_is : after ≡ rest ++ last ∷ []
  pub list_is : xs ≡ before ++ x ∷ rest

pub cut_pushed : {X : Type 0} (xs : List X) (last : X) (before : List X) (x : X) (after : List X) → xs ++ last ∷ [] ≡ before ++ x ∷ after → ((xs ≡ before) × (last ≡ x)) ⊎ IsCut xs last before x after
cut_pushed [] last [] x after e = inl (refl, cc)
cut_pushed [] last (b ∷ []) x after e = cc
cut_pushed [] last (b ∷ c ∷ before) x after e = cc
cut_pushed (y ∷ xs) last [] x after e = inr (record { rest = xs; after_is = cc; list_is = cc })
cut_pushed (y ∷ xs) last (b ∷ before) x after e =
    let head : y ≡ b = cc in
    let tail : xs ++ last ∷ [] ≡ before ++ x ∷ after = cc in
    elim (cut_pushed xs last before x after tail) [
      | inl h ↦ inl (cc (head, h.0), h.1)
      | inr cut ↦ inr (record { rest = cut.rest; after_is = cut.after_is; list_is = ap (λ zs. y ∷ zs) cut.list_is ∙ ap (λ z. z ∷ before ++ x ∷ cut.rest) head })
    ]
