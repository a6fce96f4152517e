-- What is below what in a forest, and in the parents among which it is.
use Rattle.std.proofs.Common.{◌≡◌, ℕ, zero, suc, ◌<◌, ◌≤◌, List, Bool, true, Option, Some, None, length, refl, sym, ap, ◌∙◌, subst, inl, inr, arith}
use Rattle.std.specs.Prelude.{slice_index}
use Rattle.fond_kinds.specs.Parents.{parent_of, IsBelow, here, up}
use Rattle.std.proofs.lemmas.Bool.{cases_order}
use Rattle.fond_kinds.specs.Forests.{Forest, IsForest, IsStep, is_marked}

pub below_below : (parents : List (Option ℕ)) (a b c : ℕ) → IsBelow parents a b → IsBelow parents b c → IsBelow parents a c
below_below parents a b c (here n) after = after
below_below parents a b c (up n p m known rest) after = up n p c known (below_below parents p m c rest after)

module _ (parents : List (Option ℕ)) (forest : Forest) (marks : List Bool) (is : IsForest parents forest marks) where
  -- a number is no earlier than those above it
  pub below_later : (a b : ℕ) → IsBelow forest.ups a b → slice_index forest.times b ≤ slice_index forest.times a
  below_later a b (here n) = omega arith
  below_later a b (up n p m known rest) =
      let first : slice_index forest.times p < slice_index forest.times n = is.later n p known in
      let more : slice_index forest.times m ≤ slice_index forest.times p = below_later p m rest in omega arith

  -- a number that is above another and no earlier is that one
  pub below_same : (a b : ℕ) → IsBelow forest.ups a b → slice_index forest.times a ≤ slice_index forest.times b → a ≡ b
  below_same a b (here n) late = refl
  below_same a b (up n p m known rest) late =
      let first : slice_index forest.times p < slice_index forest.times n = is.later n p known in
      let more : slice_index forest.times m ≤ slice_index forest.times p = below_later p m rest in absurd (omega arith)

  -- from a number, what is above it and no later than a third one that is above it too is above that one
  pub still_below : (a x c : ℕ) → IsBelow forest.ups a x → slice_index forest.times c ≤ slice_index forest.times x → IsBelow forest.ups a c → IsBelow forest.ups x c
  still_below a x c (here n) late below = below
  still_below a x c (up n p m known rest) late (here k) =
      let first : slice_index forest.times p < slice_index forest.times n = is.later n p known in
      let more : slice_index forest.times m ≤ slice_index forest.times p = below_later p m rest in absurd (omega arith)
  still_below a x c (up n p m known rest) late (up k q l other after) =
      let same : Some p ≡ Some q = sym known ∙ other in
      let equal : q ≡ p = cc in
      still_below p m l rest late (subst (λ z. IsBelow forest.ups z l) equal after)

  -- a jump leads to a number above
  jump_within : (bound n : ℕ) → slice_index forest.times n < bound → is_marked marks n ≡ true → IsBelow forest.ups n (slice_index forest.jumps n)
  jump_within zero n small marked = absurd (omega arith)
  jump_within (suc bound) n small marked = go (jump_within bound) (parent_of forest.ups n) refl
    where
      go : ((k : ℕ) → slice_index forest.times k < bound → is_marked marks k ≡ true → IsBelow forest.ups k (slice_index forest.jumps k)) → (x : Option ℕ) → parent_of forest.ups n ≡ x → IsBelow forest.ups n (slice_index forest.jumps n)
      go again None known = subst (λ z. IsBelow forest.ups n z) (sym (is.still n marked known)) (here n)
      go again (Some p) known =
          let first : slice_index forest.times p < slice_index forest.times n = is.later n p known in
          let p_marked : is_marked marks p ≡ true = is.up_marked n p known in
          elim (is.jumps n p known) [
            | inl same ↦ subst (λ z. IsBelow forest.ups n z) (sym same) (up n p p known (here p))
            | inr same ↦
                let less : slice_index forest.times p < bound = omega arith in
                let middle : IsBelow forest.ups p (slice_index forest.jumps p) = again p less p_marked in
                let q_later : slice_index forest.times (slice_index forest.jumps p) ≤ slice_index forest.times p = below_later p (slice_index forest.jumps p) middle in
                let q_less : slice_index forest.times (slice_index forest.jumps p) < bound = omega arith in
                let rest : IsBelow forest.ups (slice_index forest.jumps p) (slice_index forest.jumps (slice_index forest.jumps p)) = again (slice_index forest.jumps p) q_less (is.jump_marked p p_marked) in
                subst (λ z. IsBelow forest.ups n z) (sym same) (up n p _ known (below_below forest.ups p _ _ middle rest))
          ]

  pub jump_below : (n : ℕ) → is_marked marks n ≡ true → IsBelow forest.ups n (slice_index forest.jumps n)
  jump_below n marked = let small : slice_index forest.times n < suc (slice_index forest.times n) = omega arith in jump_within _ n small marked

  root_within : (bound n : ℕ) → slice_index forest.times n < bound → is_marked marks n ≡ true → IsBelow forest.ups n (slice_index forest.roots n)
  root_within zero n small marked = absurd (omega arith)
  root_within (suc bound) n small marked = go (root_within bound) (parent_of forest.ups n) refl
    where
      go : ((k : ℕ) → slice_index forest.times k < bound → is_marked marks k ≡ true → IsBelow forest.ups k (slice_index forest.roots k)) → (x : Option ℕ) → parent_of forest.ups n ≡ x → IsBelow forest.ups n (slice_index forest.roots n)
      go again None known = subst (λ z. IsBelow forest.ups n z) (sym (is.top n marked known)) (here n)
      go again (Some p) known =
          let first : slice_index forest.times p < slice_index forest.times n = is.later n p known in
          let less : slice_index forest.times p < bound = omega arith in
          subst (λ z. IsBelow forest.ups n z) (sym (is.rooted n p known)) (up n p _ known (again p less (is.up_marked n p known)))

  -- the root of a number's tree is above it
  pub root_below : (n : ℕ) → is_marked marks n ≡ true → IsBelow forest.ups n (slice_index forest.roots n)
  root_below n marked = let small : slice_index forest.times n < suc (slice_index forest.times n) = omega arith in root_within _ n small marked

  -- what is above a number in the forest is above it among the parents
  pub kept_below : (a b : ℕ) → IsBelow forest.ups a b → IsBelow parents a b
  kept_below a b (here n) = here n
  kept_below a b (up n p m known rest) = up n p m (is.kept n p known) (kept_below p m rest)

  -- the step from a number to its parent, and the step along its jump
  pub up_step : (at p time : ℕ) → p < length forest.ups → parent_of forest.ups at ≡ Some p → time < slice_index forest.times at → IsStep forest at time p
  up_step at p time there known late = record {
    there = there;
    earlier = is.later at p known;
    on = λ above same below. go above same below refl;
    back = λ above below. up at p above known below;
  }
    where
      go : (above : ℕ) → slice_index forest.times above ≡ time → {x : ℕ} → IsBelow forest.ups x above → x ≡ at → IsBelow forest.ups p above
      go above same (here n) equal = let e : slice_index forest.times n ≡ slice_index forest.times at = ap (λ z. slice_index forest.times z) equal in absurd (omega arith)
      go above same (up n q m other rest) equal =
          let both : Some p ≡ Some q = sym known ∙ ap (λ z. parent_of forest.ups z) (sym equal) ∙ other in
          let equals : q ≡ p = cc in
          subst (λ z. IsBelow forest.ups z m) equals rest

  pub jump_step : (at time : ℕ) → is_marked marks at ≡ true → slice_index forest.jumps at < length forest.ups → (slice_index forest.jumps at ≡ at → ⊥) → time ≤ slice_index forest.times (slice_index forest.jumps at)
      → IsStep forest at time (slice_index forest.jumps at)
  jump_step at time marked there other late =
      let below : IsBelow forest.ups at (slice_index forest.jumps at) = jump_below at marked in
      let no_later : slice_index forest.times (slice_index forest.jumps at) ≤ slice_index forest.times at = below_later at (slice_index forest.jumps at) below in
      record {
        there = there;
        earlier = elim (cases_order (slice_index forest.times (slice_index forest.jumps at)) (slice_index forest.times at)) [
          | inl same ↦ absurd (other (sym (below_same at (slice_index forest.jumps at) below (omega arith))))
          | inr rest ↦ elim rest [ inl less ↦ less | inr more ↦ absurd (omega arith) ]
        ];
        on = λ above same under. still_below at (slice_index forest.jumps at) above below (omega arith) under;
        back = λ above under. below_below forest.ups at (slice_index forest.jumps at) above below under;
      }

-- the numbers that are above one among the parents: those above it in the forest, and those above the parent that the root of
-- its tree has lost
pub data IsAbove (parents : List (Option ℕ)) (forest : Forest) (a b : ℕ) : Type 0 where
  within : IsBelow forest.ups a b → IsAbove parents forest a b
  around : (lost : ℕ) → parent_of parents (slice_index forest.roots a) ≡ Some lost → IsBelow forest.ups lost b → IsAbove parents forest a b

module _ (parents : List (Option ℕ)) (forest : Forest) (marks : List Bool) (is : IsForest parents forest marks)
    (all : (n p : ℕ) → parent_of parents n ≡ Some p → (is_marked marks n ≡ true) × (is_marked marks p ≡ true)) where
  pub below_above : (a b : ℕ) → IsBelow parents a b → IsAbove parents forest a b
  below_above a b (here n) = within (here n)
  below_above a b (up n p m known rest) = go (below_above p m rest) (parent_of forest.ups n) refl
    where
      go : IsAbove parents forest p m → (x : Option ℕ) → parent_of forest.ups n ≡ x → IsAbove parents forest n m
      go after (Some q) kept =
          let same : Some q ≡ Some p = sym (is.kept n q kept) ∙ known in
          let equal : q ≡ p = cc in
          let is_up : parent_of forest.ups n ≡ Some p = kept ∙ ap (λ z. Some z) equal in
          elim after [
            | within below ↦ within (up n p m is_up below)
            | around lost parent below ↦ around lost (ap (λ z. parent_of parents z) (is.rooted n p is_up) ∙ parent) below
          ]
      go after None kept =
          let marked : (is_marked marks n ≡ true) × (is_marked marks p ≡ true) = all n p known in
          let root : slice_index forest.roots n ≡ n = is.top n marked.0 kept in
          let its : parent_of parents (slice_index forest.roots n) ≡ Some p = ap (λ z. parent_of parents z) root ∙ known in
          let back : slice_index forest.roots p ≡ n = is.back n p marked.0 kept known marked.1 in
          elim after [
            | within below ↦ around p its below
            | around lost parent below ↦
                let same : Some lost ≡ Some p = sym parent ∙ ap (λ z. parent_of parents z) back ∙ known in
                let equal : lost ≡ p = cc in
                around p its (subst (λ z. IsBelow forest.ups z m) equal below)
          ]

  pub above_below : (a b : ℕ) → is_marked marks a ≡ true → IsAbove parents forest a b → IsBelow parents a b
  above_below a b marked (within below) = kept_below parents forest marks is a b below
  above_below a b marked (around lost parent below) =
      below_below parents a _ b (kept_below parents forest marks is a _ (root_below parents forest marks is a marked)) (up _ lost b parent (kept_below parents forest marks is lost b below))
