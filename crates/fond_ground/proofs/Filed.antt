-- What fits a pattern, by its shape and its code, and how patterns are filed.
use Rattle.std.proofs.Common.{◌≡◌, ◌≢◌, ◌⊎◌, inl, inr, ℕ, zero, suc, ◌+◌, ◌<◌, ◌≤◌, Bool, true, false, List, [], ◌∷◌, ◌++◌, Option, Some, None, length, drop, get_or, position, is_some, nat_eq, slice_get, refl, sym, ap, ◌∙◌, subst, arith}
use Rattle.std.specs.Prelude.{Contains, if◌then◌else◌}
use Rattle.std.specs.Bool.{Decides}
use Rattle.std.specs.Option.{option_map_or, option_or}
use Rattle.std.specs.Str.{bytes_eq}
use Rattle.std.specs.Cmp.Lexicographic.{bytes_decides}
use Rattle.std.specs.List.{position_or_len}
use Rattle.std.proofs.lemmas.Bool.{true≢false}
use Rattle.std.proofs.lemmas.Bool.Decides.{nat_tests}
use Rattle.std.proofs.lemmas.Grind.{common_steps}
use Rattle.std.proofs.lemmas.List.{append_assoc}
use Rattle.std.proofs.lemmas.List.Elements.{Contains-append_left, Contains-push, Contains-push_cases}
use Rattle.std.proofs.lemmas.List.Quantifiers.{position-Some}
use Rattle.std.proofs.lemmas.List.Sums.{fails_before_first}
use Rattle.std.proofs.lemmas.Option.{same_Some, slice_get-get_or, slice_get_within, get_or_from_slice_get}
use Rattle.fond_ast.specs.declared.form.LTerm.{LTerm}
use Rattle.fond_ast.specs.declared.form.LTerm.TheVariants.{Object, Variable}
use Rattle.fond_store.specs.Texts.{number_beside, InsertsText}
use Rattle.fond_join.proofs.Rowed.{below_next}
use Rattle.fond_ast.specs.Patterns.{is_variable, leads, Fits}
use Rattle.fond_ground.proofs.Counts.{drop_item}
use Rattle.fond_ground.specs.Patterns.{leader, Follows, Agrees, term_code, code, blank, shape, with_object, renamed, HasShape, HasShapeAt, AreKept, AreFiled, AreSeen, Fit}

none-is-not-some : (number : ℕ) → None ≡ Some number → ⊥
none-is-not-some number e = cc

-- a term that is tested to be a variable is that variable
variable_is : (number : ℕ) (term : LTerm) → is_variable number term ≡ true → term ≡ Variable number
variable_is number (Object other) h = absurd (true≢false (sym h))
variable_is number (Variable other) h = let same : other ≡ number = grind (arith, nat_tests) in ap Variable same

is_variable_itself : (number : ℕ) → is_variable number (Variable number) ≡ true
is_variable_itself number = grind (arith, nat_tests)

-- a variable that passes a test is there
own_there : (pattern : List LTerm) (number : ℕ) (found : Option LTerm) → slice_get pattern number ≡ found → option_map_or (is_variable number) found false ≡ true → slice_get pattern number ≡ Some (Variable number)
own_there pattern number None e h = absurd (true≢false (sym h))
own_there pattern number (Some term) e h = e ∙ ap Some (variable_is number term h)

-- the variable stands at its leading position
pub leading : (pattern : List LTerm) (number first : ℕ) → leader pattern number ≡ Some first → slice_get pattern first ≡ Some (Variable number)
leading pattern number first is = by (leads pattern number) refl is
  where
    by : (b : Bool) → leads pattern number ≡ b → (if b then Some number else position (is_variable number) pattern) ≡ Some first → slice_get pattern first ≡ Some (Variable number)
    by true own e = subst (λ at. slice_get pattern at ≡ Some (Variable number)) (same_Some number first e) (own_there pattern number (slice_get pattern number) refl own)
    by false own e =
        let at = position-Some (is_variable number) pattern first (Variable number) e in
        slice_get-get_or pattern first (Variable number) at.0 ∙ ap Some (variable_is number _ at.1)

-- an element that passes a test has a first position
first_there : {X : Type 0} (test : X → Bool) (xs : List X) (at : ℕ) (x : X) → slice_get xs at ≡ Some x → test x ≡ true → position test xs ≢ None
first_there test xs at x is passes none =
    let past : length xs ≤ position_or_len test xs = grind (arith, common_steps) in
    let fails : test (get_or xs at x) ≡ false = fails_before_first test xs at x (omega (arith, slice_get_within xs at x is, past)) in
    true≢false (sym passes ∙ ap test (sym (get_or_from_slice_get xs at x x is)) ∙ fails)

-- a variable of a pattern has a leading position
pub leader_there : (pattern : List LTerm) (at number : ℕ) → slice_get pattern at ≡ Some (Variable number) → (first : ℕ) × (leader pattern number ≡ Some first)
leader_there pattern at number is = by (leads pattern number) refl (position (is_variable number) pattern) refl
  where
    by : (b : Bool) → leads pattern number ≡ b → (found : Option ℕ) → position (is_variable number) pattern ≡ found → (first : ℕ) × ((if b then Some number else position (is_variable number) pattern) ≡ Some first)
    by true own found e = (number, refl)
    by false own (Some first) e = (first, e)
    by false own None e = absurd (first_there (is_variable number) pattern at (Variable number) is (is_variable_itself number) e)

pub no_leader : (pattern : List LTerm) (at number : ℕ) → slice_get pattern at ≡ Some (Variable number) → leader pattern number ≡ None → ⊥
no_leader pattern at number is none = never (leader_there pattern at number is)
  where
    differ : (first : ℕ) → leader pattern number ≡ Some first → ⊥
    differ first lead = none-is-not-some first (sym none ∙ lead)

    never : (first : ℕ) × (leader pattern number ≡ Some first) → ⊥
    never first = differ first.0 first.1

module _ (pattern : List LTerm) (objects : List ℕ) where
  -- objects agree with a pattern if each follows its variable
  pub agrees_from : length pattern ≡ length objects → ((at : ℕ) → at < length pattern → Follows pattern objects at) → Agrees pattern objects
  agrees_from counted follow = record {
    counted = counted;
    equal = λ at other number is also.
        let first = leader_there pattern at number is in
        follow at (slice_get_within pattern at (Variable number) is) number first.0 is first.1
        ∙ sym (follow other (slice_get_within pattern other (Variable number) also) number first.0 also first.1);
  }

  -- each object follows its variable if the objects agree with a pattern
  pub follows_from : Agrees pattern objects → (at : ℕ) → Follows pattern objects at
  follows_from agree at number first is lead = agree.equal at first number is (leading pattern number first lead)

  -- the test of an object at a variable
  pub variable_decides : (at number first : ℕ) → length pattern ≡ length objects → slice_get pattern at ≡ Some (Variable number) → leader pattern number ≡ Some first →
      Decides (nat_eq (get_or objects at 0) (get_or objects first 0)) (Follows pattern objects at)
  variable_decides at number first counted is lead = (there, back)
    where
      here : slice_get objects at ≡ Some (get_or objects at 0)
      here = slice_get-get_or objects at 0 (subst (λ n. at < n) counted (slice_get_within pattern at (Variable number) is))

      led : slice_get objects first ≡ Some (get_or objects first 0)
      led = slice_get-get_or objects first 0 (subst (λ n. first < n) counted (slice_get_within pattern first (Variable number) (leading pattern number first lead)))

      there : nat_eq (get_or objects at 0) (get_or objects first 0) ≡ true → Follows pattern objects at
      there e other one h l =
          let same : get_or objects at 0 ≡ get_or objects first 0 = grind (arith, nat_tests) in
          let alike : number ≡ other = cc in
          let place : first ≡ one = same_Some first one (sym lead ∙ ap (leader pattern) alike ∙ l) in
          here ∙ ap Some same ∙ sym led ∙ ap (slice_get objects) place

      back : Follows pattern objects at → nat_eq (get_or objects at 0) (get_or objects first 0) ≡ true
      back follow =
          let same : get_or objects at 0 ≡ get_or objects first 0 = same_Some _ _ (sym here ∙ follow number first is lead ∙ led) in
          grind (arith, nat_tests)

-- patterns of one code are one pattern
pub one_code : (pattern other : List LTerm) → code pattern ≡ code other → pattern ≡ other
one_code [] [] e = refl
one_code [] (Object number ∷ other) e = absurd cc
one_code [] (Variable number ∷ other) e = absurd cc
one_code (Object number ∷ pattern) [] e = absurd cc
one_code (Variable number ∷ pattern) [] e = absurd cc
one_code (Object number ∷ pattern) (Object also ∷ other) e =
    let same : number ≡ also = cc in
    let rest : code pattern ≡ code other = cc in
    λ i. Object (same i) ∷ one_code pattern other rest i
one_code (Object number ∷ pattern) (Variable also ∷ other) e = absurd cc
one_code (Variable number ∷ pattern) (Object also ∷ other) e = absurd cc
one_code (Variable number ∷ pattern) (Variable also ∷ other) e =
    let same : number ≡ also = cc in
    let rest : code pattern ≡ code other = cc in
    λ i. Variable (same i) ∷ one_code pattern other rest i

-- patterns of one shape have the same variables
variable_alike : (pattern other : List LTerm) → shape pattern ≡ shape other → (at number : ℕ) → slice_get pattern at ≡ Some (Variable number) → slice_get other at ≡ Some (Variable number)
variable_alike [] other e at number is = absurd cc
variable_alike (term ∷ pattern) [] e at number is = absurd cc
variable_alike (term ∷ pattern) (next ∷ other) e zero number is =
    let first : blank term ≡ blank next = cc in
    let it : term ≡ Variable number = same_Some term (Variable number) is in
    ap Some (only_variable next number (sym first ∙ ap blank it))
  where
    only_variable : (next : LTerm) (number : ℕ) → blank next ≡ Variable number → next ≡ Variable number
    only_variable (Object also) number e = absurd cc
    only_variable (Variable also) number e = e
variable_alike (term ∷ pattern) (next ∷ other) e (suc at) number is = let rest : shape pattern ≡ shape other = cc in variable_alike pattern other rest at number is

-- patterns of one shape are equally long
long_alike : (pattern other : List LTerm) → shape pattern ≡ shape other → length pattern ≡ length other
long_alike [] [] e = refl
long_alike [] (next ∷ other) e = absurd cc
long_alike (term ∷ pattern) [] e = absurd cc
long_alike (term ∷ pattern) (next ∷ other) e = let rest : shape pattern ≡ shape other = cc in ap suc (long_alike pattern other rest)

-- a pattern that fits is the one of its shape that names the objects
renamed_is : (pattern other : List LTerm) (objects : List ℕ) → shape pattern ≡ shape other → Fits other objects → renamed pattern objects ≡ other
renamed_is [] [] objects e fits = refl
renamed_is [] (next ∷ other) objects e fits = absurd cc
renamed_is (term ∷ pattern) [] objects e fits = absurd cc
renamed_is (term ∷ pattern) (next ∷ other) [] e fits = absurd (omega (arith, fits.counted))
renamed_is (term ∷ pattern) (next ∷ other) (object ∷ objects) e fits =
    let first : blank term ≡ blank next = cc in
    let rest : shape pattern ≡ shape other = cc in
    let tail = renamed_is pattern other objects rest (record {
      counted = omega (arith, fits.counted);
      named = λ at number is. fits.named (suc at) number is;
      equal = λ at other number is also. fits.equal (suc at) (suc other) number is also;
    }) in
    λ i. here term next first (λ number is. same_Some object number (fits.named 0 number is)) i ∷ tail i
  where
    here : (term next : LTerm) → blank term ≡ blank next → ((number : ℕ) → Some next ≡ Some (Object number) → object ≡ number) → with_object term object ≡ next
    here (Object number) (Object also) e named = ap Object (named also refl)
    here (Object number) (Variable also) e named = absurd cc
    here (Variable number) (Object also) e named = absurd cc
    here (Variable number) (Variable also) e named = e

-- what names objects fits them if they agree with the shape
object_named : (pattern : List LTerm) (objects : List ℕ) (at number : ℕ) → slice_get (renamed pattern objects) at ≡ Some (Object number) → slice_get objects at ≡ Some number
object_named [] objects at number is = absurd cc
object_named (term ∷ pattern) [] at number is = absurd cc
object_named (Object other ∷ pattern) (object ∷ objects) zero number is = let same : object ≡ number = cc in ap Some same
object_named (Variable other ∷ pattern) (object ∷ objects) zero number is = absurd cc
object_named (term ∷ pattern) (object ∷ objects) (suc at) number is = object_named pattern objects at number is

variable_there : (pattern : List LTerm) (objects : List ℕ) (at number : ℕ) → slice_get (renamed pattern objects) at ≡ Some (Variable number) → slice_get pattern at ≡ Some (Variable number)
variable_there [] objects at number is = absurd cc
variable_there (term ∷ pattern) [] at number is = absurd cc
variable_there (Object other ∷ pattern) (object ∷ objects) zero number is = absurd cc
variable_there (Variable other ∷ pattern) (object ∷ objects) zero number is = is
variable_there (term ∷ pattern) (object ∷ objects) (suc at) number is = variable_there pattern objects at number is

long_renamed : (pattern : List LTerm) (objects : List ℕ) → length pattern ≡ length objects → length (renamed pattern objects) ≡ length objects
long_renamed [] [] e = refl
long_renamed [] (object ∷ objects) e = absurd (omega (arith, e))
long_renamed (term ∷ pattern) [] e = refl
long_renamed (term ∷ pattern) (object ∷ objects) e = ap suc (long_renamed pattern objects (omega (arith, e)))

renamed_fits : (pattern : List LTerm) (objects : List ℕ) → Agrees pattern objects → Fits (renamed pattern objects) objects
renamed_fits pattern objects agree = record {
  counted = long_renamed pattern objects agree.counted;
  named = object_named pattern objects;
  equal = λ at other number is also. agree.equal at other number (variable_there pattern objects at number is) (variable_there pattern objects other number also);
}

-- the code of a pattern that names objects, with one more term
pub renamed_next : (pattern : List LTerm) (objects : List ℕ) (i object : ℕ) (term made : LTerm) (numbers more whole : List ℕ) → slice_get pattern i ≡ Some term → slice_get objects i ≡ Some object → made ≡ with_object term object →
    more ≡ numbers ++ term_code made → numbers ++ code (renamed (drop i pattern) (drop i objects)) ≡ whole → more ++ code (renamed (drop (i + 1) pattern) (drop (i + 1) objects)) ≡ whole
renamed_next pattern objects i object term made numbers more whole is also same grown so =
    let rest = code (renamed (drop (i + 1) pattern) (drop (i + 1) objects)) in
    ap (λ list. list ++ rest) (grown ∙ ap (λ one. numbers ++ term_code one) same) ∙ append_assoc numbers (term_code (with_object term object)) rest
    ∙ sym (λ j. numbers ++ code (renamed (drop_item pattern i term is j) (drop_item objects i object also j))) ∙ so

module _ (items more : List (List ℕ × ℕ)) (kept : List ℕ) (number : ℕ) (grown : InsertsText items kept number more) where
  -- what was found is still found when more is filed
  some_still : (text : List ℕ) → is_some (number_beside items text) ≡ true → is_some (number_beside more text) ≡ true
  some_still text there = ap is_some (grown text) ∙ by (number_beside items text) there
    where
      by : (found : Option ℕ) → is_some found ≡ true → is_some (option_or found (if bytes_eq kept text then Some number else None)) ≡ true
      by (Some other) e = refl
      by None e = absurd (true≢false (sym e))

  -- what is found when more is filed was found before or is what is filed
  some_new : (text : List ℕ) → is_some (number_beside more text) ≡ true → (is_some (number_beside items text) ≡ true) ⊎ (kept ≡ text)
  some_new text there = by (number_beside items text) refl (bytes_eq kept text) refl (sym (ap is_some (grown text)) ∙ there)
    where
      by : (found : Option ℕ) → number_beside items text ≡ found → (b : Bool) → bytes_eq kept text ≡ b → is_some (option_or (number_beside items text) (if bytes_eq kept text then Some number else None)) ≡ true →
          (is_some (number_beside items text) ≡ true) ⊎ (kept ≡ text)
      by (Some other) e b same h = inl (ap is_some e)
      by None e true same h = inr ((bytes_decides kept text).0 same)
      by None e false same h = absurd (true≢false (sym h ∙ (λ i. is_some (option_or (e i) (if same i then Some number else None)))))

  -- what is filed is found
  some_itself : is_some (number_beside more kept) ≡ true
  some_itself = ap is_some (grown kept) ∙ by (number_beside items kept) (bytes_eq kept kept) ((bytes_decides kept kept).1 refl)
    where
      by : (found : Option ℕ) (b : Bool) → b ≡ true → is_some (option_or found (if b then Some number else None)) ≡ true
      by (Some other) b e = refl
      by None true e = refl
      by None false e = absurd (true≢false (sym e))

-- an element by its number
pub contains_at : {X : Type 0} (xs : List X) (i : ℕ) (x : X) → slice_get xs i ≡ Some x → Contains xs x
contains_at xs i x is = (i, slice_get_within xs i x is, get_or_from_slice_get xs i x x is)

module _ (all : List (List LTerm)) where
  -- a shape that has a position still has one among more positions
  shape_still : (shapes more : List ℕ) → ((at : ℕ) → Contains shapes at → Contains more at) → (pattern : List LTerm) → HasShape all shapes pattern → HasShape all more pattern
  shape_still shapes more still pattern has = record { at = has.at; listed = still has.at has.listed; one = has.one; there = has.there; same = has.same }

  -- the position of a new shape is kept
  pub seen_new : (i : ℕ) (seen more : List (List ℕ × ℕ)) (shapes longer : List ℕ) (here : List LTerm) (key : List ℕ) → slice_get all i ≡ Some here → key ≡ code (shape here) → InsertsText seen key 0 more → longer ≡ shapes ++ i ∷ [] →
      AreSeen all seen shapes → AreSeen all more longer
  seen_new i seen more shapes longer here key is same grown pushed known pattern there =
      by (some_new seen more key 0 grown (code (shape pattern)) there)
    where
      by : (is_some (number_beside seen (code (shape pattern))) ≡ true) ⊎ (key ≡ code (shape pattern)) → HasShape all longer pattern
      by (inl old) = shape_still shapes longer (λ at has. subst (λ list. Contains list at) (sym pushed) (Contains-append_left shapes (i ∷ []) at has)) pattern (known pattern old)
      by (inr new) = record { at = i; listed = subst (λ list. Contains list i) (sym pushed) (Contains-push shapes i); one = here; there = is; same = one_code (shape here) (shape pattern) (sym same ∙ new) }

  -- the pattern of a new shape has it
  pub shaped_new : (i : ℕ) (shapes longer : List ℕ) → longer ≡ shapes ++ i ∷ [] → HasShapeAt all longer i
  shaped_new i shapes longer pushed pattern is = record { at = i; listed = subst (λ list. Contains list i) (sym pushed) (Contains-push shapes i); one = pattern; there = is; same = refl }

  -- one more position is kept
  pub kept_new : (i : ℕ) (shapes longer : List ℕ) → i < length all → longer ≡ shapes ++ i ∷ [] → AreKept (length all) shapes longer
  kept_new i shapes longer low pushed = record {
    still = λ at has. subst (λ list. Contains list at) (sym pushed) (Contains-append_left shapes (i ∷ []) at has);
    below = λ small at has. by small at (Contains-push_cases shapes i at (subst (λ list. Contains list at) pushed has));
  }
    where
      by : ((at : ℕ) → Contains shapes at → at < length all) → (at : ℕ) → Contains shapes at ⊎ (i ≡ at) → at < length all
      by small at (inl has) = small at has
      by small at (inr same) = subst (λ n. n < length all) same low

  -- one more pattern is filed
  pub filed_next : (i : ℕ) (codes more : List (List ℕ × ℕ)) (shapes longer key : List ℕ) (here : List LTerm) → slice_get all i ≡ Some here → key ≡ code here → InsertsText codes key 0 more →
      AreKept (length all) shapes longer → HasShapeAt all longer i → AreFiled all i codes shapes → AreFiled all (i + 1) more longer
  filed_next i codes more shapes longer key here is same grown kept has filed = record {
    named = λ pattern there. named_by pattern (some_new codes more key 0 grown (code pattern) there);
    listed = kept.below filed.listed;
    found = λ at pattern low there. below_next (λ at. (pattern : List LTerm) → slice_get all at ≡ Some pattern → is_some (number_beside more (code pattern)) ≡ true) i
        (λ at low pattern there. some_still codes more key 0 grown (code pattern) (filed.found at pattern low there))
        (λ pattern there.
        let it : here ≡ pattern = same_Some here pattern (sym is ∙ there) in
        ap (λ text. is_some (number_beside more text)) (sym (same ∙ ap code it)) ∙ some_itself codes more key 0 grown)
        at low pattern there;
    shaped = λ at pattern low there. below_next (λ at. (pattern : List LTerm) → slice_get all at ≡ Some pattern → HasShape all longer pattern) i
        (λ at low pattern there. shape_still shapes longer kept.still pattern (filed.shaped at pattern low there)) has at low pattern there;
  }
    where
      named_by : (pattern : List LTerm) → (is_some (number_beside codes (code pattern)) ≡ true) ⊎ (key ≡ code pattern) → Contains all pattern
      named_by pattern (inl there) = filed.named pattern there
      named_by pattern (inr e) = let it : here ≡ pattern = one_code here pattern (sym same ∙ e) in contains_at all i pattern (is ∙ ap Some it)

  -- a pattern fits if objects agree with one of its shape and what names them is filed
  pub found_fits : (count : ℕ) (codes : List (List ℕ × ℕ)) (shapes objects : List ℕ) (pattern : List LTerm) → AreFiled all count codes shapes → Agrees pattern objects → is_some (number_beside codes (code (renamed pattern objects))) ≡ true → Fit all objects
  found_fits count codes shapes objects pattern filed agree there = (renamed pattern objects, filed.named (renamed pattern objects) there, renamed_fits pattern objects agree)

  -- nothing fits if nothing of any shape does
  pub nothing_fits : (codes : List (List ℕ × ℕ)) (shapes objects : List ℕ) → AreFiled all (length all) codes shapes →
      ((i at : ℕ) (pattern : List LTerm) → i < length shapes → slice_get shapes i ≡ Some at → slice_get all at ≡ Some pattern → ¬ (Agrees pattern objects × (is_some (number_beside codes (code (renamed pattern objects))) ≡ true))) → ¬ Fit all objects
  nothing_fits codes shapes objects filed misfits (pattern, has, fits) =
      let at : slice_get all has.0 ≡ Some pattern = slice_get-get_or all has.0 pattern has.1 ∙ ap Some has.2 in
      let one = filed.shaped has.0 pattern has.1 at in
      let agree : Agrees one.one objects = record {
        counted = long_alike one.one pattern one.same ∙ fits.counted;
        equal = λ at other number is also. fits.equal at other number (variable_alike one.one pattern one.same at number is) (variable_alike one.one pattern one.same other number also);
      } in
      let there = ap (λ named. is_some (number_beside codes (code named))) (renamed_is one.one pattern objects one.same fits) ∙ filed.found has.0 pattern has.1 at in
      misfits one.listed.0 one.at one.one one.listed.1 (slice_get-get_or shapes one.listed.0 one.at one.listed.1 ∙ ap Some one.listed.2) one.there (agree, there)
