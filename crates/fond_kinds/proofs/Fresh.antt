-- The empty forest.
use Rattle.std.proofs.Common.{◌≡◌, ℕ, ◌*◌, ◌≤◌, true, false, Some, None, length, replicate, sym, ap, ◌∙◌, inl, inr, arith}
use Rattle.std.specs.Prelude.{if◌then◌else◌}
use Rattle.std.proofs.lemmas.Bool.{cases_order}
use Rattle.std.proofs.lemmas.List.Folds.{sum_by-replicate}
use Rattle.std.proofs.lemmas.List.{get_or-replicate, get_or_past, length-replicate}
use Rattle.fond_kinds.specs.Parents.{parent_of, are_within}
use Rattle.fond_kinds.specs.Forests.{is_marked}
use Rattle.fond_kinds.specs.Growth.{IsResting, missing, is_met, is_done}
use Rattle.fond_kinds.specs.declared.grower.Grower.{Grower}

unmarked : (n k : ℕ) → is_marked (replicate n false) k ≡ false
unmarked n k = elim (cases_order k n) [
  | inl same ↦ past (omega arith)
  | inr rest ↦ elim rest [ inl within ↦ get_or-replicate n k false false within | inr late ↦ past (omega arith) ]
]
  where
    past : n ≤ k → is_marked (replicate n false) k ≡ false
    past late = let long : length (replicate n false) ≤ k = rw length-replicate late in get_or_past (replicate n false) k false long

missing-all : (n : ℕ) → missing (replicate n false) ≡ n
missing-all n = let whole : missing (replicate n false) ≡ n * 1 = sum_by-replicate (λ mark. if mark then 0 else 1) n false in omega arith

module _ (grower : Grower) (n : ℕ) (long : length grower.parents.now ≡ n) (seen : grower.seen.items ≡ replicate n false) (done : grower.done.items ≡ replicate n false) (count : grower.count ≡ 0)
    (over : (length grower.links.ups ≡ n) × (length grower.links.times ≡ n) × (length grower.links.roots ≡ n) × (length grower.links.jumps ≡ n))
    (empty : (k : ℕ) → parent_of grower.links.ups k ≡ None) (within : are_within grower.parents.now ≡ true) where
  clash : true ≡ false → ⊥
  clash off = cc

  not_done : (k : ℕ) → is_done grower k ≡ true → ⊥
  not_done k marked = let off : true ≡ false = sym marked ∙ ap (λ z. is_marked z k) done ∙ unmarked n k in clash off

  not_met : (k : ℕ) → is_met grower k ≡ true → ⊥
  not_met k marked = let off : true ≡ false = sym marked ∙ ap (λ z. is_marked z k) seen ∙ unmarked n k in clash off

  not_up : (k p : ℕ) → parent_of grower.links.ups k ≡ Some p → ⊥
  not_up k p known = let off : None ≡ Some p = sym (empty k) ∙ known in cc

  pub fresh : IsResting grower
  fresh = record {
    growing = record {
      forest = record {
        kept = λ k p up. absurd (not_up k p up);
        marked = λ k p up. absurd (not_up k p up);
        up_marked = λ k p up. absurd (not_up k p up);
        later = λ k p up. absurd (not_up k p up);
        rooted = λ k p up. absurd (not_up k p up);
        jumps = λ k p up. absurd (not_up k p up);
        jump_marked = λ k marked. absurd (not_done k marked);
        top = λ k marked up. absurd (not_done k marked);
        still = λ k marked up. absurd (not_done k marked);
        back = λ k p marked up known p_marked. absurd (not_done k marked);
      };
      within = within;
      ups = over.0 ∙ sym long;
      times = over.1 ∙ sym long;
      roots = over.2 ∙ sym long;
      jumps = over.3 ∙ sym long;
      seen = ap length seen ∙ length-replicate n false ∙ sym long;
      done = ap length done ∙ length-replicate n false ∙ sym long;
      timed = λ k marked. absurd (not_done k marked);
      met = λ k marked. absurd (not_done k marked);
      left = let all : missing grower.done.items ≡ n = ap missing done ∙ missing-all n in omega arith;
    };
    added = λ k marked. absurd (not_met k marked);
    closed = λ k p marked known. absurd (not_done k marked);
  }
