-- Paths that are walked and then added to the forest.
use Rattle.std.proofs.Common.{◌≡◌, ◌≢◌, ◌⊎◌, ℕ, ◌<◌, ◌≤◌, List, [], ◌∷◌, ◌++◌, Bool, true, false, Option, Some, None, length, refl, sym, ap, ◌∙◌, subst, inl, inr, arith}
use Rattle.std.specs.Prelude.{Contains, slice_index, nat_lt}
use Rattle.std.specs.Option.{option_map_or}
use Rattle.std.proofs.lemmas.Bool.{cases_order, ltb-true}
use Rattle.std.proofs.lemmas.List.Sums.{AllPass-from_list_all}
use Rattle.std.proofs.lemmas.List.{get_or-set_same, get_or-set_other, get_or_past}
use Rattle.std.proofs.lemmas.List.Elements.{Contains-append_left, Contains-append_cases}
use Rattle.fond_text.specs.Lists.{AreDistinct}
use Rattle.fond_kinds.specs.Parents.{parent_of, IsBelow, are_within}
use Rattle.fond_kinds.specs.Forests.{Forest, IsStep, IsWhole, is_marked, planted, attached}
use Rattle.fond_kinds.proofs.Below.{IsAbove, up_step, jump_step, below_above, above_below, below_same, below_later}
use Rattle.fond_kinds.specs.Growth.{Adds, IsGrowing, IsResting, IsWalked, IsUnwinding, Leads, is_met, is_done}
use Rattle.fond_kinds.specs.declared.grower.Grower.{Grower}
use Rattle.fond_kinds.proofs.Growth.{done_now, still_done, other_waits, was_done, was_met, met_still, was_waiting, plants, attaches, marked_or_not}
use Rattle.fond_kinds.proofs.Paths.{is_last, the_only, distinct-front, leads-front, none}

-- a number with a parent is one of those that may have parents
pub has_parent : (parents : List (Option ℕ)) (n p : ℕ) → parent_of parents n ≡ Some p → n < length parents
has_parent parents n p known = elim (cases_order n (length parents)) [
  | inl same ↦ no (omega arith)
  | inr rest ↦ elim rest [ inl within ↦ within | inr past ↦ no (omega arith) ]
]
  where
    no : length parents ≤ n → n < length parents
    no past = let nothing : parent_of parents n ≡ None = get_or_past parents n None past in let clash : None ≡ Some p = sym nothing ∙ known in cc

module _ (old new : Grower) (path : List ℕ) (last : ℕ) (walked : IsWalked old path last) (there : last < length old.parents.now) where
  waits_last : is_done old last ≡ false
  waits_last = walked.walking.on_path.waits last (is_last path last)

  in_marks : last < length old.done.items
  in_marks = let e : length old.done.items ≡ length old.parents.now = walked.walking.growing.done in omega arith

  no_parent_of_done : (n : ℕ) → is_done old n ≡ true → parent_of old.parents.now n ≡ Some last → ⊥
  no_parent_of_done n done known = let yes : is_done old last ≡ true = walked.walking.closed n last done known in let no : true ≡ false = sym yes ∙ waits_last in cc

  rest : AreDistinct path × ¬ Contains path last
  rest = distinct-front path last walked.walking.on_path.distinct

  module _ (forest : Forest) (adds : Adds old new last forest) (growing : IsGrowing new)
      (pends : (parent : ℕ) → parent_of old.parents.now last ≡ Some parent → (is_done new parent ≡ true) ⊎ ((is_met new parent ≡ true) × (parent_of new.links.ups last ≡ None))) where
    finished : IsUnwinding new path last last
    finished = record {
      growing = growing;
      on_path = record {
        distinct = rest.0;
        met = λ n has. met_still old new last forest adds in_marks waits_last n (walked.walking.on_path.met n (Contains-append_left path (last ∷ []) n has));
        waits = λ n has. other_waits old new last forest adds in_marks waits_last n (λ same. rest.1 (subst (λ z. Contains path z) same has)) (walked.walking.on_path.waits n (Contains-append_left path (last ∷ []) n has));
        all = λ n met not. let was = was_waiting old new last forest adds in_marks waits_last n not in
            elim (Contains-append_cases path (last ∷ []) n (walked.walking.on_path.all n (was_met old new last forest adds in_marks waits_last n met) was.1)) [
              | inl has ↦ has
              | inr end ↦ absurd (was.0 (the_only n last end))
            ];
      };
      leads = subst (λ z. Leads z path last) (sym adds.parents) walked.walking.leads;
      above_done = done_now old new last forest adds in_marks waits_last;
      last_done = done_now old new last forest adds in_marks waits_last;
      same_tree = refl;
      pending = λ n p done known.
          let was_known : parent_of old.parents.now n ≡ Some p = ap (λ z. parent_of z n) (sym adds.parents) ∙ known in
          elim (was_done old new last forest adds in_marks waits_last n done) [
            | inl same ↦ elim (pends p (ap (λ z. parent_of old.parents.now z) (sym same) ∙ was_known)) [
              | inl is ↦ inl is
              | inr pending ↦ inr (same, pending.0, pending.1)
            ]
            | inr before ↦ inl (still_done old new last forest adds in_marks waits_last p (walked.walking.closed n p before was_known))
          ];
    }

  no_up : parent_of old.links.ups last ≡ None
  no_up = go (parent_of old.links.ups last) refl
    where
      go : (x : Option ℕ) → parent_of old.links.ups last ≡ x → x ≡ None
      go None known = refl
      go (Some p) known = let yes : is_done old last ≡ true = walked.walking.growing.forest.marked last p known in let no : true ≡ false = sym yes ∙ waits_last in cc

  pub finish_planted : Adds old new last (planted old.links last old.count) → ((p : ℕ) → parent_of old.parents.now last ≡ Some p → is_done old p ≡ false) → IsUnwinding new path last last
  finish_planted adds open_ =
      finished (planted old.links last old.count) adds (plants old new last walked.walking.growing there waits_last (walked.walking.on_path.met last (is_last path last)) adds no_parent_of_done open_)
      (λ p known. inr (met_still old new last (planted old.links last old.count) adds in_marks waits_last p (walked.ends p known), ap (λ z. parent_of z.ups last) adds.links ∙ no_up))

  pub finish_attached : (parent jump : ℕ) → Adds old new last (attached old.links last parent old.count jump) → parent_of old.parents.now last ≡ Some parent → is_done old parent ≡ true
      → (jump ≡ parent) ⊎ (jump ≡ slice_index old.links.jumps (slice_index old.links.jumps parent)) → IsUnwinding new path last last
  finish_attached parent jump adds known done jumps =
      finished (attached old.links last parent old.count jump) adds
      (attaches old new last walked.walking.growing there waits_last (walked.walking.on_path.met last (is_last path last)) parent jump adds known done jumps (λ n n_done up its. absurd (no_parent_of_done n n_done its)))
      (λ p its. let same : Some p ≡ Some parent = sym its ∙ known in let equal : parent ≡ p = cc in
      inl (subst (λ z. is_done new z ≡ true) equal (still_done old new last (attached old.links last parent old.count jump) adds in_marks waits_last parent done)))

-- one more number of a path is added
module _ (old new : Grower) (path : List ℕ) (y above last jump : ℕ) (unwinding : IsUnwinding old (path ++ y ∷ []) above last)
    (jumps : (jump ≡ above) ⊎ (jump ≡ slice_index old.links.jumps (slice_index old.links.jumps above))) (adds : Adds old new y (attached old.links y above old.count jump)) where
  abbrev grown : Forest
  grown = attached old.links y above old.count jump

  led : Leads old.parents.now path y × (parent_of old.parents.now y ≡ Some above)
  led = leads-front old.parents.now path y above unwinding.leads

  y_there : y < length old.parents.now
  y_there = has_parent old.parents.now y above led.1

  in_done : y < length old.done.items
  in_done = let t : y < length old.parents.now = y_there in let e : length old.done.items ≡ length old.parents.now = unwinding.growing.done in omega arith

  waits_y : is_done old y ≡ false
  waits_y = unwinding.on_path.waits y (is_last path y)

  met_y : is_met old y ≡ true
  met_y = unwinding.on_path.met y (is_last path y)

  not_y : (n : ℕ) → is_done old n ≡ true → n ≢ y
  not_y n done same = let yes : is_done old y ≡ true = subst (λ z. is_done old z ≡ true) same done in let no : true ≡ false = sym yes ∙ waits_y in cc

  before : AreDistinct path × ¬ Contains path y
  before = distinct-front path y unwinding.on_path.distinct

  closed : (n : ℕ) → is_done old n ≡ true → parent_of old.links.ups n ≡ None → parent_of old.parents.now n ≡ Some y → slice_index old.links.roots above ≡ n
  closed n done up known = elim (unwinding.pending n y done known) [
    | inl is ↦ let no : true ≡ false = sym is ∙ waits_y in cc
    | inr pending ↦
        let top : slice_index old.links.roots last ≡ last = unwinding.growing.forest.top last unwinding.last_done pending.2 in
        unwinding.same_tree ∙ top ∙ sym pending.0
  ]

  pub unwound : IsUnwinding new path y last
  unwound = record {
    growing = attaches old new y unwinding.growing y_there waits_y met_y above jump adds led.1 unwinding.above_done jumps closed;
    on_path = record {
      distinct = before.0;
      met = λ n has. met_still old new y grown adds in_done waits_y n (unwinding.on_path.met n (Contains-append_left path (y ∷ []) n has));
      waits = λ n has. other_waits old new y grown adds in_done waits_y n (λ same. before.1 (subst (λ z. Contains path z) same has)) (unwinding.on_path.waits n (Contains-append_left path (y ∷ []) n has));
      all = λ n n_met not. let old_ = was_waiting old new y grown adds in_done waits_y n not in
          elim (Contains-append_cases path (y ∷ []) n (unwinding.on_path.all n (was_met old new y grown adds in_done waits_y n n_met) old_.1)) [
            | inl has ↦ has
            | inr end ↦ absurd (old_.0 (the_only n y end))
          ];
    };
    leads = subst (λ z. Leads z path y) (sym adds.parents) led.0;
    above_done = done_now old new y grown adds in_done waits_y;
    last_done = still_done old new y grown adds in_done waits_y last unwinding.last_done;
    same_tree =
        let in_roots : y < length old.links.roots = (let t : y < length old.parents.now = y_there in let e : length old.links.roots ≡ length old.parents.now = unwinding.growing.roots in omega arith) in
        ap (λ z. slice_index z.roots y) adds.links ∙ get_or-set_same old.links.roots y (slice_index old.links.roots above) 0 in_roots ∙ unwinding.same_tree
        ∙ sym (ap (λ z. slice_index z.roots last) adds.links ∙ get_or-set_other old.links.roots y last (slice_index old.links.roots above) 0 (not_y last unwinding.last_done));
    pending = λ n p done known.
        let was_known : parent_of old.parents.now n ≡ Some p = ap (λ z. parent_of z n) (sym adds.parents) ∙ known in
        elim (was_done old new y grown adds in_done waits_y n done) [
          | inl same ↦
              let its : parent_of old.parents.now y ≡ Some p = ap (λ z. parent_of old.parents.now z) (sym same) ∙ was_known in
              let found : Some above ≡ Some p = sym led.1 ∙ its in
              let equal : above ≡ p = cc in
              inl (subst (λ z. is_done new z ≡ true) equal (still_done old new y grown adds in_done waits_y above unwinding.above_done))
          | inr was ↦ elim (unwinding.pending n p was was_known) [
            | inl is ↦ inl (still_done old new y grown adds in_done waits_y p is)
            | inr pends ↦ inr (
              pends.0,
              met_still old new y grown adds in_done waits_y p pends.1,
              ap (λ z. parent_of z.ups last) adds.links ∙ get_or-set_other old.links.ups y last (Some above) None (not_y last unwinding.last_done) ∙ pends.2,
            )
          ]
        ];
  }

-- a marked number is one of those that may have marks
pub marked_within : (marks : List Bool) (n : ℕ) → is_marked marks n ≡ true → n < length marks
marked_within marks n marked = elim (cases_order n (length marks)) [
  | inl same ↦ past (omega arith)
  | inr rest ↦ elim rest [ inl within ↦ within | inr late ↦ past (omega arith) ]
]
  where
    past : length marks ≤ n → n < length marks
    past late = let nothing : is_marked marks n ≡ false = get_or_past marks n false late in let clash : true ≡ false = sym marked ∙ nothing in cc

-- what is known of the last number of a path that is being added
module _ (grower : Grower) (path : List ℕ) (y above last : ℕ) (unwinding : IsUnwinding grower (path ++ y ∷ []) above last) where
  pub last_there : y < length grower.parents.now
  last_there = has_parent grower.parents.now y above (leads-front grower.parents.now path y above unwinding.leads).1

  pub last_waits : is_done grower y ≡ false
  last_waits = unwinding.on_path.waits y (is_last path y)

  pub above_there : above < length grower.parents.now
  above_there = let within : above < length grower.done.items = marked_within grower.done.items above unwinding.above_done in let e : length grower.done.items ≡ length grower.parents.now = unwinding.growing.done in omega arith

-- when nothing is left of a path, the forest rests
pub unwound-all : (grower : Grower) (above last : ℕ) → IsUnwinding grower [] above last → IsResting grower
unwound-all grower above last unwinding = record {
  growing = unwinding.growing;
  added = added;
  closed = λ n p done known. elim (unwinding.pending n p done known) [ inl is ↦ is | inr pending ↦ added p pending.1 ];
}
  where
    added : (n : ℕ) → is_met grower n ≡ true → is_done grower n ≡ true
    added n met = elim (marked_or_not (is_done grower n)) [ inl is ↦ is | inr not ↦ absurd (none n (unwinding.on_path.all n met not)) ]

-- what is known of the last number of a path that was walked
module _ (grower : Grower) (path : List ℕ) (last : ℕ) (walked : IsWalked grower path last) where
  pub end_there : last < length grower.parents.now
  end_there =
      let met : is_met grower last ≡ true = walked.walking.on_path.met last (is_last path last) in
      let within : last < length grower.seen.items = marked_within grower.seen.items last met in
      let e : length grower.seen.items ≡ length grower.parents.now = walked.walking.growing.seen in omega arith

  pub end_waits : is_done grower last ≡ false
  end_waits = walked.walking.on_path.waits last (is_last path last)

-- a parent is one of the numbers
pub parent_within : (parents : List (Option ℕ)) → are_within parents ≡ true → (n p : ℕ) → parent_of parents n ≡ Some p → p < length parents
parent_within parents within n p known =
    let there : n < length parents = has_parent parents n p known in
    let test : Option ℕ → Bool = λ parent. option_map_or (λ number. nat_lt number (length parents)) parent true in
    let passes : test (parent_of parents n) ≡ true = AllPass-from_list_all test parents within n None there in
    ltb-true p (length parents) (ap test (sym known) ∙ passes)

-- the steps up in a forest that has all numbers
module _ (parents : List (Option ℕ)) (forest : Forest) (whole : IsWhole parents forest) (at time : ℕ) (there : at < length forest.ups) (late : time < slice_index forest.times at) where
  at_marked : is_marked whole.marks at ≡ true
  at_marked = let e : length forest.ups ≡ length parents = whole.ups in let within : at < length parents = omega arith in whole.all at within

  pub steps_up : (p : ℕ) → parent_of forest.ups at ≡ Some p → IsStep forest at time p
  steps_up p known =
      let within : p < length parents = parent_within parents whole.within at p (whole.is.kept at p known) in
      let e : length forest.ups ≡ length parents = whole.ups in
      let inside : p < length forest.ups = omega arith in
      up_step parents forest whole.marks whole.is at p time inside known late

  pub jumps_up : (slice_index forest.jumps at ≡ at → ⊥) → slice_index forest.jumps at < length forest.ups → time ≤ slice_index forest.times (slice_index forest.jumps at) → IsStep forest at time (slice_index forest.jumps at)
  jumps_up other inside late_jump = jump_step parents forest whole.marks whole.is at time at_marked inside other late_jump

-- what is below what in a forest that has all numbers, and among the parents
module _ (parents : List (Option ℕ)) (forest : Forest) (whole : IsWhole parents forest) where
  both_marked : (n p : ℕ) → parent_of parents n ≡ Some p → (is_marked whole.marks n ≡ true) × (is_marked whole.marks p ≡ true)
  both_marked n p known = (whole.all n (has_parent parents n p known), whole.all p (parent_within parents whole.within n p known))

  pub is_above : (a b : ℕ) → IsBelow parents a b → IsAbove parents forest a b
  is_above = below_above parents forest whole.marks whole.is both_marked

  pub is_below : (a b : ℕ) → a < length parents → IsAbove parents forest a b → IsBelow parents a b
  is_below a b there = above_below parents forest whole.marks whole.is both_marked a b (whole.all a there)

  -- a number that is no later than another one is below it only if it is that one
  pub same_time : (a b : ℕ) → slice_index forest.times a ≤ slice_index forest.times b → IsBelow forest.ups a b → a ≡ b
  same_time a b late below = below_same parents forest whole.marks whole.is a b below late

  pub later_below : (a b : ℕ) → IsBelow forest.ups a b → slice_index forest.times b ≤ slice_index forest.times a
  later_below a b below = below_later parents forest whole.marks whole.is a b below
