-- The first of faults of two kinds, and the first so far in a loop over what may have faults.
use Rattle.std.proofs.Common.{◌⊎◌, inl, inr, ℕ, Option, Some, None, IfSome, IfNone, sym, subst}
use Rattle.fond_text.specs.declared.place.Place.{Place}
use Rattle.fond_text.specs.declared.first.Found.{Found}
use Rattle.fond_text.specs.Faults.{IsLeast, IsClean}
use Rattle.fond_text.specs.Firsts.{Covers, IsFirst, IsEarlier}

-- faults by place and code
abbrev pub Faulty : Type 1
Faulty = Place → ℕ → Type 0

-- ---- the first of faults

along_found : (P Q : Faulty) → ((place : Place) (code : ℕ) → P place code → Q place code) → (first : Option Found) →
    IfSome first (λ found. P found.place found.code) → IfSome first (λ found. Q found.place found.code)
along_found P Q over None h = tt
along_found P Q over (Some found) h = over found.place found.code h

-- what is found among the same faults is the same
pub first_along : (P Q : Faulty) → ((place : Place) (code : ℕ) → P place code → Q place code) → ((place : Place) (code : ℕ) → Q place code → P place code) →
    (first : Option Found) → IsFirst P first → IsFirst Q first
first_along P Q over back first h = record {
  one = along_found P Q over first h.one;
  covers = λ place code q. h.covers place code (back place code q);
}

-- the earlier of the first of two kinds of faults is the first of both
pub first_of_both : (P Q : Faulty) (one other first : Option Found) → IsFirst P one → IsFirst Q other → IsEarlier one other first →
    IsFirst (λ place code. P place code ⊎ Q place code) first
first_of_both P Q one other first p q e = record {
  one =
      elim e.from [
        | inl same ↦ subst (λ (f : Option Found). IfSome f (λ found. P found.place found.code ⊎ Q found.place found.code)) (sym same)
            (along_found P (λ place code. P place code ⊎ Q place code) (λ place code h. inl h) one p.one)
        | inr same ↦ subst (λ (f : Option Found). IfSome f (λ found. P found.place found.code ⊎ Q found.place found.code)) (sym same)
            (along_found Q (λ place code. P place code ⊎ Q place code) (λ place code h. inr h) other q.one)
      ];
  covers = λ place code h.
      elim h [ inl x ↦ e.covers_one place code (p.covers place code x) | inr x ↦ e.covers_other place code (q.covers place code x) ];
}

-- the least fault that stands was found, or none stands
pub least_found : (P : Faulty) (first : Option Found) → IsFirst P first → IfSome first (λ found. IsLeast P found.place found.code)
least_found P None h = tt
least_found P (Some found) h = (h.one, h.covers)

pub clean_if_none : (P : Faulty) (first : Option Found) → IsFirst P first → IfNone first (IsClean P)
clean_if_none P None h = h.covers
clean_if_none P (Some found) h = tt

pub first_if_least : (P : Faulty) (first : Option Found) → IfSome first (λ found. IsLeast P found.place found.code) → IfNone first (IsClean P) → IsFirst P first
first_if_least P None some none = record { one = tt; covers = none }
first_if_least P (Some found) some none = record { one = some.0; covers = some.1 }

-- ---- the first so far

-- what was found stands, and is no later than each fault that is not among those that are left
pub record IsFirstSoFar (stands left : Place → ℕ → Type 0) (first : Option Found) : Type 0 where
  pub one : IfSome first (λ found. stands found.place found.code)
  pub covers : (place : Place) (code : ℕ) → stands place code → Covers first place code ⊎ left place code
  pub within : (place : Place) (code : ℕ) → left place code → stands place code

-- the first of some of them is found already
pub first_so_far : (P Q R : Faulty) → ((place : Place) (code : ℕ) → R place code → P place code ⊎ Q place code) → ((place : Place) (code : ℕ) → P place code ⊎ Q place code → R place code) →
    (first : Option Found) → IsFirst P first → IsFirstSoFar R Q first
first_so_far P Q R down up first h = record {
  one = along_found P R (λ place code p. up place code (inl p)) first h.one;
  covers = λ place code r. elim (down place code r) [ inl p ↦ inl (h.covers place code p) | inr q ↦ inr q ];
  within = λ place code q. up place code (inr q);
}

-- the first of some that were left is found too
pub first_with : (R P Q : Faulty) (before other first : Option Found) → IsFirstSoFar R (λ place code. P place code ⊎ Q place code) before → IsFirst P other → IsEarlier before other first →
    IsFirstSoFar R Q first
first_with R P Q before other first h p e = record {
  one =
      elim e.from [
        | inl same ↦ subst (λ (f : Option Found). IfSome f (λ found. R found.place found.code)) (sym same) h.one
        | inr same ↦ subst (λ (f : Option Found). IfSome f (λ found. R found.place found.code)) (sym same)
            (along_found P R (λ place code x. h.within place code (inl x)) other p.one)
      ];
  covers = λ place code r.
      elim (h.covers place code r) [
        | inl c ↦ inl (e.covers_one place code c)
        | inr left ↦ elim left [ inl x ↦ inl (e.covers_other place code (p.covers place code x)) | inr x ↦ inr x ]
      ];
  within = λ place code q. h.within place code (inr q);
}

-- where none are left, it is the first of all
pub all_found : (R Q : Faulty) (first : Option Found) → IsFirstSoFar R Q first → ((place : Place) (code : ℕ) → ¬ Q place code) → IsFirst R first
all_found R Q first h empty = record {
  one = h.one;
  covers = λ place code r. elim (h.covers place code r) [ inl c ↦ c | inr q ↦ absurd (empty place code q) ];
}
