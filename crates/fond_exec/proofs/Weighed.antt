-- The first outcome of greatest weight.
use Rattle.std.proofs.Common.{◌≡◌, ℕ, ◌+◌, ◌<◌, ◌≤◌, List, [], Bool, length, get_or, slice_get, Some, sym, ap, ◌∙◌, ⊎_elim, arith}
use Rattle.std.proofs.lemmas.Bool.{cases_lt}
use Rattle.std.proofs.lemmas.Option.{get_or_from_slice_get, slice_get-get_or, slice_get_within}
use Rattle.fond_task.specs.declared.task.Act.{Act}
use Rattle.fond_task.specs.declared.task.Entry.{Entry}
use Rattle.fond_task.specs.declared.task.Task.{Task}
use Rattle.fond_task.specs.declared.rule.Rule.{Rule}
use Rattle.fond_task.specs.Steps.{next_state}
use Rattle.fond_exec.specs.Duels.{IsHeaviest, weight}

-- of so many numbers with weights, this one is the first of greatest weight; of none, it is 0
pub record IsGreatest (weigh : ℕ → ℕ) (count best greatest : ℕ) : Type 0 where
  pub none : count ≡ 0 → (best ≡ 0) × (greatest ≡ 0)
  pub some : 0 < count → (best < count) × (weigh best ≡ greatest)
  pub most : (k : ℕ) → k < count → weigh k ≤ greatest
  pub first : (k : ℕ) → k < best → weigh k < greatest

module _ (weigh : ℕ → ℕ) where
  pub greatest_none : IsGreatest weigh 0 0 0
  greatest_none = record { none = λ is. (omega arith, omega arith); some = λ is. absurd (omega (arith, is)); most = λ k lt. absurd (omega (arith, lt)); first = λ k lt. absurd (omega (arith, lt)) }

  module _ (count best greatest found : ℕ) (is : found ≡ weigh count) (so_far : IsGreatest weigh count best greatest) where
    -- one number more, of greater weight
    pub greatest_more : greatest < found → IsGreatest weigh (count + 1) count found
    greatest_more more = record {
      none = λ none. absurd (omega (arith, none));
      some = λ any. (omega arith, sym is);
      most = λ k lt. ⊎_elim
          (λ before. let small = so_far.most k before in omega (arith, small, more))
          (λ past. let same : k ≡ count = omega (arith, lt, past) in let here : weigh k ≡ found = ap weigh same ∙ sym is in omega (arith, here))
          (cases_lt k count);
      first = λ k lt. let small = so_far.most k lt in omega (arith, small, more);
    }

    -- one number more, of no greater weight
    pub greatest_kept : found ≤ greatest → IsGreatest weigh (count + 1) best greatest
    greatest_kept less = record {
      none = λ none. absurd (omega (arith, none));
      some = λ any. ⊎_elim
          (λ (before : 0 < count). let own = so_far.some before in (omega (arith, own.0), own.1))
          (λ (past : count ≤ 0).
          let zero_count : count ≡ 0 = omega (arith, past) in
          let own = so_far.none zero_count in
          let here : weigh best ≡ found = ap weigh (own.0 ∙ sym zero_count) ∙ sym is in
          (omega (arith, own.0), omega (arith, here, own.1, less)))
          (cases_lt 0 count);
      most = λ k lt. ⊎_elim
          (λ before. so_far.most k before)
          (λ past. let same : k ≡ count = omega (arith, lt, past) in let here : weigh k ≡ found = ap weigh same ∙ sym is in omega (arith, here, less))
          (cases_lt k count);
      first = so_far.first;
    }

module _ (task : Task) (rules : List Rule) (state : List Bool) (act : Act) where
  -- the weight of the state to which an outcome leads, by its number
  abbrev pub weigh_outcome : ℕ → ℕ
  weigh_outcome k = weight task rules (next_state state (get_or act.outcomes k []))

  at_own : (other : ℕ) (entries : List Entry) → slice_get act.outcomes other ≡ Some entries → weigh_outcome other ≡ weight task rules (next_state state entries)
  at_own other entries at = ap (λ (e : List Entry). weight task rules (next_state state e)) (get_or_from_slice_get act.outcomes other entries [] at)

  pub is_heaviest : (count best greatest : ℕ) → count ≡ length act.outcomes → 0 < count → IsGreatest weigh_outcome count best greatest → IsHeaviest task rules state act best
  is_heaviest count best greatest counted some is =
      let own = is.some some in
      let within : best < length act.outcomes = omega (arith, own.0, counted) in
      let entries = get_or act.outcomes best [] in
      record {
        own = entries;
        numbered = slice_get-get_or act.outcomes best [] within;
        greatest = λ other others at.
            let here = at_own other others at in
            let small = is.most other (let inside = slice_get_within act.outcomes other others at in omega (arith, inside, counted)) in
            omega (arith, here, small, own.1);
        first = λ other others before at.
            let here = at_own other others at in
            let small = is.first other before in
            omega (arith, here, small, own.1);
      }
