-- The tokens of the rest of a text and the place of its end, byte by byte.
use Rattle.std.proofs.Common.{◌≡◌, ℕ, ◌+◌, ◌≤◌, ◌==◌, Bool, true, false, not, cond, if◌then◌else◌, ◌||◌, List, [], ◌∷◌, ◌++◌, map, take, drop, reverse, length, refl, sym, ◌∙◌, ap, arith, add-zero, suc, ◌⊎◌, inl, inr, ◌≢◌, subst, ◌<◌, append_assoc, append-nil}
use Rattle.std.proofs.lemmas.Bool.{true≢false}
use Rattle.std.proofs.lemmas.Bool.Decides.{nat_tests}
use Rattle.std.specs.Prelude.{take_while, count_by}
use Rattle.std.specs.List.{after_last, fold, suffix_len, prefix_len}
use Rattle.std.proofs.lemmas.List.{length-drop, length-reverse, reverse-append, get_or-take}
use Rattle.std.proofs.lemmas.List.Sums.{prefix_len-le-length, prefix_len_passes}
use Rattle.std.proofs.lemmas.List.Folds.{length-prefix_len}
use Rattle.fond_text.specs.Name.{IsLeaf}
use Rattle.fond_text.specs.Bytes.{line_feed, opening, closing, semicolon, is_blank, is_leaf_byte, lower}
use Rattle.fond_text.specs.Places.{place_after}
use Rattle.fond_text.specs.declared.place.Place.{Place}
use Rattle.fond_tree.specs.Marks.{Mark, marked, marks_after}
use Rattle.fond_tree.specs.Tokens.{Token, Opens, Closes, Names, Stray, Context, Gap, Leaf, Comment, context_after, begun_in}
use Rattle.fond_tree.specs.Left.{next_place, marks_at, end_at, goes_on, EndsGap, BeginsLeaf, BeginsUnclosed}

length-after_last : {X : Type 0} (p : X → Bool) (xs : List X) → length (after_last p xs) ≡ suffix_len (λ x. not (p x)) xs
length-after_last {X} p xs =
    let q = λ (x : X). not (p x) in
    let small : prefix_len q (reverse xs) ≤ length xs = rw (← length-reverse xs) (prefix_len-le-length q (reverse xs)) in
    rw length-drop (omega arith)

suffix_len-push : {X : Type 0} (q : X → Bool) (xs : List X) (x : X) → suffix_len q (xs ++ x ∷ []) ≡ cond (q x) (1 + suffix_len q xs) 0
suffix_len-push q xs x = ap (prefix_len q) (reverse-append xs (x ∷ []))

-- the column and the line after one more byte, which ends a line or does not
column_more : (xs : List ℕ) (b : ℕ) (v : Bool) → (b == line_feed) ≡ v →
    1 + length (after_last (λ b. b == line_feed) (xs ++ b ∷ [])) ≡ cond v 1 (1 + length (after_last (λ b. b == line_feed) xs) + 1)
column_more xs b v e =
    let p = λ (b : ℕ). b == line_feed in
    let q = λ (b : ℕ). not (p b) in
    ap (λ n. 1 + n) (length-after_last p (xs ++ b ∷ []) ∙ suffix_len-push q xs b ∙ ap (λ v. cond (not v) (1 + suffix_len q xs) 0) e ∙ ap (λ n. cond (not v) (1 + n) 0) (sym (length-after_last p xs)))
    ∙ elim v as (λ v. 1 + cond (not v) (1 + length (after_last p xs)) 0 ≡ cond v 1 (1 + length (after_last p xs) + 1)) [ true ↦ refl | false ↦ omega arith ]

pub fold-push : {A B : Type 0} (f : B → A → B) (a : B) (xs : List A) (x : A) → fold f a (xs ++ x ∷ []) ≡ f (fold f a xs) x
fold-push f a [] x = refl
fold-push f a (y ∷ xs) x = fold-push f (f a y) xs x

line_more : (xs : List ℕ) (b : ℕ) (v : Bool) → (b == line_feed) ≡ v →
    1 + count_by (λ b. b == line_feed) (xs ++ b ∷ []) ≡ cond v (1 + count_by (λ b. b == line_feed) xs + 1) (1 + count_by (λ b. b == line_feed) xs)
line_more xs b v e =
    ap (λ n. 1 + n) (fold-push (λ (a x : ℕ). a + cond (x == line_feed) 1 0) 0 xs b ∙ ap (λ v. count_by (λ b. b == line_feed) xs + cond v 1 0) e)
    ∙ elim v as (λ v. 1 + (count_by (λ b. b == line_feed) xs + cond v 1 0) ≡ cond v (1 + count_by (λ b. b == line_feed) xs + 1) (1 + count_by (λ b. b == line_feed) xs)) [ true ↦ omega arith | false ↦ omega arith ]

pub place_more : (xs : List ℕ) (b : ℕ) → place_after (xs ++ b ∷ []) ≡ next_place b (place_after xs)
place_more xs b = at_test (b == line_feed) refl where
  at_test : (v : Bool) → (b == line_feed) ≡ v → place_after (xs ++ b ∷ []) ≡ next_place b (place_after xs)
  at_test true e = rw e (λ i. record { line = line_more xs b true e i; column = column_more xs b true e i })
  at_test false e = rw e (λ i. record { line = line_more xs b false e i; column = column_more xs b false e i })

pub same_marks : (context : Context) (before rest : List ℕ) → marks_after context before rest ≡ marks_at context (place_after before) rest
unfolding marks_at
same_marks context before [] = refl
same_marks context before (b ∷ rest) =
    ap (λ later. map (marked (place_after before)) (begun_in context (place_after before) b rest) ++ later)
    (same_marks (context_after context b) (before ++ b ∷ []) rest ∙ ap (λ place. marks_at (context_after context b) place rest) (place_more before b))

pub same_end : (before rest : List ℕ) → end_at (place_after before) rest ≡ place_after (before ++ rest)
unfolding end_at
same_end before [] = ap place_after (sym (append-nil before))
same_end before (b ∷ rest) = ap (λ place. end_at place rest) (sym (place_more before b)) ∙ same_end (before ++ b ∷ []) rest ∙ ap place_after (append_assoc before (b ∷ []) rest)

-- the context inside a comment, and that of a gap
abbrev pub gap_or_comment : Bool → Context
gap_or_comment true = Comment
gap_or_comment false = Gap

pub no_marks : (context : Context) (place : Place) → marks_at context place [] ≡ []
unfolding marks_at
no_marks context place = refl

blank_apart : (b : ℕ) → is_blank b ≡ true → (b == semicolon ≡ false) × (is_leaf_byte b ≡ false)
blank_apart b e = grind (arith, nat_tests)

leaf_apart : (b : ℕ) → is_leaf_byte b ≡ true → ((is_blank b || b == semicolon) ≡ false) × (b == semicolon ≡ false) × (b == line_feed ≡ false) × (b == opening ≡ false) × (b == closing ≡ false)
leaf_apart b e = grind (arith, nat_tests)

or_swaps : (x y v : Bool) → (x || y) ≡ v → (y || x) ≡ v
or_swaps true true v e = e
or_swaps true false v e = e
or_swaps false true v e = e
or_swaps false false v e = e

gap_step : (context : Context) (place : Place) (b : ℕ) (rest : List ℕ) → (is_blank b || b == semicolon) ≡ true → context_after Gap b ≡ context →
    marks_at Gap place (b ∷ rest) ≡ marks_at context (next_place b place) rest
unfolding marks_at
gap_step context place b rest e f = rw (e, f) refl

-- the context after a blank or a semicolon outside a comment
gap_context : (b : ℕ) (v : Bool) → (b == semicolon) ≡ v → (v || is_blank b) ≡ true → context_after Gap b ≡ gap_or_comment v
gap_context b true s e = rw s refl
gap_context b false s e = rw ((blank_apart b e).1, s) refl

-- a byte of a gap or a comment begins no token
pub skips : (in_comment : Bool) (place : Place) (b : ℕ) (rest : List ℕ) → (goes_on in_comment b || is_blank b) ≡ true →
    marks_at (gap_or_comment in_comment) place (b ∷ rest) ≡ marks_at (gap_or_comment (goes_on in_comment b)) (next_place b place) rest
unfolding marks_at
skips true place b rest e =
    elim (b == line_feed) as (λ v. marks_at (if v then Gap else Comment) (next_place b place) rest ≡ marks_at (gap_or_comment (not v)) (next_place b place) rest) [ true ↦ refl | false ↦ refl ]
skips false place b rest e =
    gap_step (gap_or_comment (b == semicolon)) place b rest (or_swaps (b == semicolon) (is_blank b) true e) (gap_context b (b == semicolon) refl e)

-- the place so many bytes to the right
abbrev pub right : Place → ℕ → Place
right place n = record { line = place.line; column = place.column + n }

leaf_more : (place : Place) (b : ℕ) (rest : List ℕ) → is_leaf_byte b ≡ true → marks_at Leaf place (b ∷ rest) ≡ marks_at Leaf (right place 1) rest
unfolding marks_at
leaf_more place b rest e = let apart = leaf_apart b e in rw (e, apart.1, apart.2) refl

leaf_ends : (place : Place) (b : ℕ) (rest : List ℕ) → is_leaf_byte b ≡ false → marks_at Leaf place (b ∷ rest) ≡ marks_at Gap place (b ∷ rest)
unfolding marks_at
leaf_ends place b rest e = rw e refl

drop_one : (n b : ℕ) (rest : List ℕ) → drop (1 + n) (b ∷ rest) ≡ drop n rest
drop_one n b rest = let same : 1 + n ≡ suc n = omega arith in ap (λ m. drop m (b ∷ rest)) same

leaf_run_at : (v : Bool) (place : Place) (b : ℕ) (rest : List ℕ) → is_leaf_byte b ≡ v →
    marks_at Leaf (right place 1) rest ≡ marks_at Gap (right (right place 1) (prefix_len is_leaf_byte rest)) (drop (prefix_len is_leaf_byte rest) rest) →
    marks_at Leaf place (b ∷ rest) ≡ marks_at Gap (right place (cond v (1 + prefix_len is_leaf_byte rest) 0)) (drop (cond v (1 + prefix_len is_leaf_byte rest) 0) (b ∷ rest))
leaf_run_at true place b rest e further =
    let same : place.column + 1 + prefix_len is_leaf_byte rest ≡ place.column + (1 + prefix_len is_leaf_byte rest) = omega arith in
    leaf_more place b rest e ∙ further
    ∙ λ i. marks_at Gap (record { line = place.line; column = same i }) (sym (drop_one (prefix_len is_leaf_byte rest) b rest) i)
leaf_run_at false place b rest e further =
    leaf_ends place b rest e ∙ λ i. marks_at Gap (record { line = place.line; column = sym (add-zero place.column) i }) (b ∷ rest)

-- the further bytes of a leaf begin no token
pub leaf_run : (place : Place) (rest : List ℕ) → marks_at Leaf place rest ≡ marks_at Gap (right place (prefix_len is_leaf_byte rest)) (drop (prefix_len is_leaf_byte rest) rest)
leaf_run place [] = no_marks Leaf place ∙ sym (no_marks Gap _)
leaf_run place (b ∷ rest) = leaf_run_at (is_leaf_byte b) place b rest refl (leaf_run (right place 1) rest)

leaf_first : (place : Place) (b : ℕ) (rest : List ℕ) → is_leaf_byte b ≡ true →
    marks_at Gap place (b ∷ rest) ≡ marked place (Names place (map lower (take_while is_leaf_byte (b ∷ rest)))) ∷ marks_at Leaf (right place 1) rest
unfolding marks_at
leaf_first place b rest e = let apart = leaf_apart b e in rw (e, apart.0, apart.3, apart.4, apart.1, apart.2) refl

end_run_at : (v : Bool) (place : Place) (b : ℕ) (rest : List ℕ) → is_leaf_byte b ≡ v →
    end_at (right place 1) rest ≡ end_at (right (right place 1) (prefix_len is_leaf_byte rest)) (drop (prefix_len is_leaf_byte rest) rest) →
    end_at place (b ∷ rest) ≡ end_at (right place (cond v (1 + prefix_len is_leaf_byte rest) 0)) (drop (cond v (1 + prefix_len is_leaf_byte rest) 0) (b ∷ rest))
unfolding end_at
end_run_at true place b rest e further =
    let same : place.column + 1 + prefix_len is_leaf_byte rest ≡ place.column + (1 + prefix_len is_leaf_byte rest) = omega arith in
    let apart = leaf_apart b e in
    rw apart.2 further
    ∙ λ i. end_at (record { line = place.line; column = same i }) (sym (drop_one (prefix_len is_leaf_byte rest) b rest) i)
end_run_at false place b rest e further = λ i. end_at (record { line = place.line; column = sym (add-zero place.column) i }) (b ∷ rest)

-- after the bytes of a leaf the end is the same
pub end_run : (place : Place) (rest : List ℕ) → end_at place rest ≡ end_at (right place (prefix_len is_leaf_byte rest)) (drop (prefix_len is_leaf_byte rest) rest)
end_run place [] = λ i. end_at (record { line = place.line; column = sym (add-zero place.column) i }) []
end_run place (b ∷ rest) = end_run_at (is_leaf_byte b) place b rest refl (end_run (right place 1) rest)

-- the token of a leaf, and what is left after it
pub leaf_begins : (place : Place) (bytes : List ℕ) (b : ℕ) (rest : List ℕ) → bytes ≡ b ∷ rest → is_leaf_byte b ≡ true →
    marks_at Gap place bytes ≡ marked place (Names place (map lower (take_while is_leaf_byte bytes))) ∷ marks_at Gap (right place (prefix_len is_leaf_byte bytes)) (drop (prefix_len is_leaf_byte bytes) bytes)
leaf_begins place bytes b rest f e =
    rw f (leaf_first place b rest e ∙ ap (λ back. marked place (Names place (map lower (take_while is_leaf_byte (b ∷ rest)))) ∷ back) (sym (leaf_more place b rest e) ∙ leaf_run place (b ∷ rest)))

-- the token that begins at a byte outside a gap
abbrev first_at : Place → ℕ → List ℕ → Token
first_at place b rest =
    if b == opening then Opens place
    else if b == closing then Closes
    else if is_leaf_byte b then Names place (map lower (take_while is_leaf_byte (b ∷ rest)))
    else Stray

name_at : ℕ → List ℕ → List ℕ
name_at b rest = map lower (take_while is_leaf_byte (b ∷ rest))

further_at : Place → ℕ → List ℕ → List Mark
further_at place b rest = marks_at (context_after Gap b) (next_place b place) rest

first_begins : (place : Place) (b : ℕ) (rest : List ℕ) → EndsGap (b ∷ rest) → marks_at Gap place (b ∷ rest) ≡ marked place (first_at place b rest) ∷ further_at place b rest
unfolding marks_at further_at name_at
first_begins place b rest ends =
    at_tests (is_blank b || b == semicolon) (b == opening) (b == closing) (is_leaf_byte b) (name_at b rest) (further_at place b rest) (ap (λ v. v || b == semicolon) ends.0 ∙ ends.1) where
      at_tests : (g o c l : Bool) (name : List ℕ) (more : List Mark) → g ≡ false →
          map (marked place) (if g then [] else if o then Opens place ∷ [] else if c then Closes ∷ [] else if l then Names place name ∷ [] else Stray ∷ []) ++ more
          ≡ marked place (if o then Opens place else if c then Closes else if l then Names place name else Stray) ∷ more
      at_tests true o c l name more e = absurd (true≢false e)
      at_tests false true c l name more e = refl
      at_tests false false true l name more e = refl
      at_tests false false false true name more e = refl
      at_tests false false false false name more e = refl

pub nothing_left : (place : Place) (text : List ℕ) → length text ≡ 0 → marks_at Gap place text ≡ []
nothing_left place [] e = no_marks Gap place
nothing_left place (b ∷ rest) e = absurd (omega (arith, e))

pub opens : (old new : Place) (b : ℕ) (before rest now : List ℕ) → before ≡ b ∷ rest → b ≡ 40 → new ≡ next_place b old → now ≡ rest →
    marks_at Gap old before ≡ marked old (Opens old) ∷ marks_at Gap new now
unfolding marks_at
opens old new b before rest now split is at left = rw (split, at, left, is) refl

pub closes : (old new : Place) (b : ℕ) (before rest now : List ℕ) → before ≡ b ∷ rest → b ≡ 41 → new ≡ next_place b old → now ≡ rest →
    marks_at Gap old before ≡ marked old Closes ∷ marks_at Gap new now
unfolding marks_at
closes old new b before rest now split is at left = rw (split, at, left, is) refl

-- a token is left if bytes are left and no gap goes on
pub something_left : (place : Place) (text : List ℕ) → 0 < length text → EndsGap text → ¬ marks_at Gap place text ≡ []
something_left place [] some ends e = absurd (omega (arith, some))
something_left place (b ∷ rest) some ends e = apart (marked place (first_at place b rest)) (further_at place b rest) (sym (first_begins place b rest ends) ∙ e) where
  apart : (mark : Mark) (more : List Mark) → ¬ mark ∷ more ≡ []
  apart mark more e = cc

-- what is left begins with no closing parenthesis, if another byte is first
pub not_closing : (place : Place) (b : ℕ) (before rest : List ℕ) → before ≡ b ∷ rest → EndsGap before → b ≢ 41 → BeginsUnclosed (marks_at Gap place before)
unfolding name_at
not_closing place b before rest split ends other =
    let apart : (b == closing) ≡ false = grind (arith, nat_tests) in
    subst BeginsUnclosed (sym (ap (marks_at Gap place) split ∙ first_begins place b rest (rw split at ends)))
    (at_tests (b == opening) (b == closing) (is_leaf_byte b) (name_at b rest) apart) where
      at_tests : (o c l : Bool) (name : List ℕ) → c ≡ false → ¬ (if o then Opens place else if c then Closes else if l then Names place name else Stray) ≡ Closes
      at_tests true c l name f e = cc
      at_tests false true l name f e = absurd (true≢false f)
      at_tests false false true name f e = cc
      at_tests false false false name f e = cc

-- any other byte outside a gap is stray
pub strays : (old new : Place) (b : ℕ) (before rest now : List ℕ) → before ≡ b ∷ rest → EndsGap before → b ≢ 40 → b ≢ 41 → is_leaf_byte b ≡ false → new ≡ next_place b old → now ≡ rest →
    marks_at Gap old before ≡ marked old Stray ∷ marks_at Gap new now
unfolding marks_at
strays old new b before rest now split ends no_opening no_closing no_leaf at left =
    let gap = rw split at ends in
    let blank : (is_blank b || b == semicolon) ≡ false = ap (λ v. v || b == semicolon) gap.0 ∙ gap.1 in
    let opens : (b == opening) ≡ false = grind (arith, nat_tests) in
    let closes : (b == closing) ≡ false = grind (arith, nat_tests) in
    rw (split, at, left, no_leaf, blank, opens, closes, gap.1) refl

-- the longest run of leaf bytes is a leaf, unless it is empty
run_is_leaf : (text : List ℕ) → BeginsLeaf text → IsLeaf (take_while is_leaf_byte text)
run_is_leaf [] begins = absurd begins
run_is_leaf (b ∷ rest) begins = (some, λ k d lt. rw (get_or-take _ (b ∷ rest) k d (within k lt)) (prefix_len_passes is_leaf_byte (b ∷ rest) k d (within k lt))) where
  long : length (take_while is_leaf_byte (b ∷ rest)) ≡ prefix_len is_leaf_byte (b ∷ rest)
  long = length-prefix_len is_leaf_byte (b ∷ rest)

  one : prefix_len is_leaf_byte (b ∷ rest) ≡ 1 + prefix_len is_leaf_byte rest
  one = ap (λ v. cond v (1 + prefix_len is_leaf_byte rest) 0) begins

  some : 0 < length (take_while is_leaf_byte (b ∷ rest))
  some = omega (arith, long, one)

  within : (k : ℕ) → k < length (take_while is_leaf_byte (b ∷ rest)) → k < prefix_len is_leaf_byte (b ∷ rest)
  within k lt = omega (arith, long)

pub leaf_piece : (place : Place) (text bytes rest : List ℕ) (n : ℕ) → BeginsLeaf text → n ≡ prefix_len is_leaf_byte text → bytes ≡ take n text → rest ≡ drop n text →
    (marks_at Gap place text ≡ marked place (Names place (map lower bytes)) ∷ marks_at Gap (right place (length bytes)) rest) × IsLeaf bytes
leaf_piece place [] bytes rest n begins counted front back = absurd begins
leaf_piece place (b ∷ more) bytes rest n begins counted front back =
    let text = b ∷ more in
    let run : bytes ≡ take_while is_leaf_byte text = front ∙ ap (λ n. take n text) counted in
    let left : rest ≡ drop (prefix_len is_leaf_byte text) text = back ∙ ap (λ n. drop n text) counted in
    let long : length bytes ≡ prefix_len is_leaf_byte text = ap length run ∙ length-prefix_len is_leaf_byte text in
    (rw (long, run, left) (leaf_begins place text b more refl begins), subst IsLeaf (sym run) (run_is_leaf text begins))

pub leaf_end : (place : Place) (text bytes rest : List ℕ) (n : ℕ) → n ≡ prefix_len is_leaf_byte text → bytes ≡ take n text → rest ≡ drop n text →
    end_at (right place (length bytes)) rest ≡ end_at place text
leaf_end place text bytes rest n counted front back =
    let run : bytes ≡ take_while is_leaf_byte text = front ∙ ap (λ n. take n text) counted in
    let left : rest ≡ drop (prefix_len is_leaf_byte text) text = back ∙ ap (λ n. drop n text) counted in
    let long : length bytes ≡ prefix_len is_leaf_byte text = ap length run ∙ length-prefix_len is_leaf_byte text in
    rw (long, left) (sym (end_run place text))

-- a step does not move the end
pub end_step : (old new : Place) (b : ℕ) (before rest now : List ℕ) → before ≡ b ∷ rest → new ≡ next_place b old → now ≡ rest → end_at new now ≡ end_at old before
unfolding end_at
end_step old new b before rest now split at left = rw (split, at, left) refl

-- if nothing is left, the end is here
pub at_end : (place : Place) (text : List ℕ) → length text ≡ 0 → end_at place text ≡ place
unfolding end_at
at_end place [] e = refl
at_end place (b ∷ rest) e = absurd (omega (arith, e))

-- a step over a byte of a gap or a comment
pub goes_over : (c r : Bool) (b : ℕ) (old new : Place) (before now rest : List ℕ) → before ≡ b ∷ rest → r ≡ goes_on c b → (r ≡ true) ⊎ (is_blank b ≡ true) →
    new ≡ next_place b old → now ≡ rest → marks_at (gap_or_comment r) new now ≡ marks_at (gap_or_comment c) old before
goes_over c r b old new before now rest split is gap at left =
    rw (split, is, at, left) (sym (skips c old b rest (rw (← is) (either r (is_blank b) gap)))) where
      either : (x y : Bool) → (x ≡ true) ⊎ (y ≡ true) → (x || y) ≡ true
      either true y h = refl
      either false y (inl h) = absurd (true≢false (sym h))
      either false y (inr h) = h

-- a gap that goes to the end leaves no tokens
pub all_over : (c : Bool) (old start : Place) (before text : List ℕ) → length before ≡ 0 → marks_at (gap_or_comment c) old before ≡ marks_at Gap start text → marks_at Gap old before ≡ marks_at Gap start text
all_over c old start [] text e same = no_marks Gap old ∙ sym (no_marks (gap_or_comment c) old) ∙ same
all_over c old start (b ∷ rest) text e same = absurd (omega (arith, e))
