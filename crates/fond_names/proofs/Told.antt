-- What is known of arguments at positions of predicates: nothing at first, and one more.
use Rattle.std.proofs.Common.{◌≡◌, ℕ, nat_eq, cond, Bool, true, false, List, [], ◌++◌, Option, Some, None, length, take, drop, refl, sym, ap, ◌∙◌, arith}
use Rattle.std.specs.Option.{option_or}
use Rattle.std.specs.Str.{bytes_eq}
use Rattle.std.specs.Cmp.Lexicographic.{bytes_decides}
use Rattle.std.proofs.Math.Seq.{take-append_seam, drop-append_seam}
use Rattle.fond_ast.specs.declared.names.TypedName.{TypedName}
use Rattle.fond_store.specs.Texts.{number_beside, InsertsText}
use Rattle.fond_names.specs.Fits.{AreTold, key_of, named_declaration, parameter_of}
use Rattle.fond_names.specs.Names.{Declarations}
use Rattle.fond_names.specs.Sites.{Scope}
use Rattle.fond_names.specs.Subtypes.{are_misfits}

abbrev flag : Bool → ℕ
flag b = cond b 1 0

-- a flag as a number is 1 if and only if it is set
pub flag_is : (b : Bool) → nat_eq (cond b 1 0) 1 ≡ b
flag_is true = refl
flag_is false = refl

-- what has a key
record HasKey (variable other : Bool) (name next predicate more : List ℕ) (at place : ℕ) : Type 0 where
  variable_is : variable ≡ other
  name_is : name ≡ next
  predicate_is : predicate ≡ more
  at_is : at ≡ place

one_key : (variable other : Bool) (name next predicate more : List ℕ) (at place : ℕ) → key_of variable name predicate at ≡ key_of other next more place → HasKey variable other name next predicate more at place
one_key variable other name next predicate more at place same =
    let sort : flag variable ≡ flag other = cc (same) in
    let place_is : at ≡ place = cc (same) in
    let long : length name ≡ length next = cc (same) in
    let whole : name ++ predicate ≡ next ++ more = cc (same) in
    record {
      variable_is = by variable other sort;
      name_is = sym (take-append_seam name predicate) ∙ (λ i. take (long i) (whole i)) ∙ take-append_seam next more;
      predicate_is = sym (drop-append_seam name predicate) ∙ (λ i. drop (long i) (whole i)) ∙ drop-append_seam next more;
      at_is = place_is;
    }
  where
    by : (b c : Bool) → flag b ≡ flag c → b ≡ c
    by true true e = refl
    by false false e = refl
    by true false e = absurd (omega (arith, e))
    by false true e = absurd (omega (arith, e))

module _ (files : Declarations) (around : Scope) where
  -- nothing is known
  pub told_none : AreTold files around []
  told_none = record { told = λ variable name predicate at number declared parameter found known has. cc (found) }

  -- one more is known
  pub told_more : (fits more : List (List ℕ × ℕ)) (variable : Bool) (name predicate : List ℕ) (at number : ℕ) (declared parameter : TypedName) → AreTold files around fits → InsertsText fits (key_of variable name predicate at) number more →
      named_declaration files around variable name ≡ Some declared → parameter_of files.domain predicate at ≡ Some parameter → nat_eq number 1 ≡ are_misfits files.domain.kinds declared.kinds parameter.kinds → AreTold files around more
  told_more fits more variable name predicate at number declared parameter before grown known has is = record {
    told = λ other next further place wanted one two found known_one has_two.
        by other next further place wanted one two (number_beside fits (key_of other next further place)) refl (bytes_eq (key_of variable name predicate at) (key_of other next further place)) refl
        (sym (grown (key_of other next further place)) ∙ found) known_one has_two;
  }
    where
      same_key : (other : Bool) (next further : List ℕ) (place : ℕ) (one two : TypedName) → HasKey variable other name next predicate further at place → named_declaration files around other next ≡ Some one → parameter_of files.domain further place ≡ Some two →
          are_misfits files.domain.kinds declared.kinds parameter.kinds ≡ are_misfits files.domain.kinds one.kinds two.kinds
      same_key other next further place one two key known_one has_two =
          let firsts : Some declared ≡ Some one = sym known ∙ (λ i. named_declaration files around (key.variable_is i) (key.name_is i)) ∙ known_one in
          let seconds : Some parameter ≡ Some two = sym has ∙ (λ i. parameter_of files.domain (key.predicate_is i) (key.at_is i)) ∙ has_two in
          let first : declared ≡ one = cc (firsts) in
          let second : parameter ≡ two = cc (seconds) in
          λ i. are_misfits files.domain.kinds (first i).kinds (second i).kinds

      by : (other : Bool) (next further : List ℕ) (place wanted : ℕ) (one two : TypedName) (old : Option ℕ) → number_beside fits (key_of other next further place) ≡ old →
          (b : Bool) → bytes_eq (key_of variable name predicate at) (key_of other next further place) ≡ b →
          option_or (number_beside fits (key_of other next further place)) (cond (bytes_eq (key_of variable name predicate at) (key_of other next further place)) (Some number) None) ≡ Some wanted →
          named_declaration files around other next ≡ Some one → parameter_of files.domain further place ≡ Some two → nat_eq wanted 1 ≡ are_misfits files.domain.kinds one.kinds two.kinds
      by other next further place wanted one two (Some old) e b f found known_one has_two =
          let there : Some old ≡ Some wanted = sym (ap (λ x. option_or x (cond (bytes_eq (key_of variable name predicate at) (key_of other next further place)) (Some number) None)) e) ∙ found in
          before.told other next further place wanted one two (e ∙ there) known_one has_two
      by other next further place wanted one two None e true f found known_one has_two =
          let there : Some number ≡ Some wanted = sym (λ i. option_or (e i) (cond (f i) (Some number) None)) ∙ found in
          let equal : number ≡ wanted = cc (there) in
          let key = one_key variable other name next predicate further at place ((bytes_decides (key_of variable name predicate at) (key_of other next further place)).0 f) in
          ap (λ n. nat_eq n 1) (sym equal) ∙ is ∙ same_key other next further place one two key known_one has_two
      by other next further place wanted one two None e false f found known_one has_two =
          let never : None ≡ Some wanted = sym (λ i. option_or (e i) (cond (f i) (Some number) None)) ∙ found in cc (never)
