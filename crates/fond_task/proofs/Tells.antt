-- A value on a cube and the truth in a state of the cube.
use Rattle.std.proofs.Common.{◌≡◌, List, [], ◌∷◌, Bool, true, false, Option, Some, None, map, refl, sym, ap, subst}
use Rattle.std.specs.Prelude.{◌&&◌, ◌||◌, fold, if◌then◌else◌, ⊤}
use Rattle.std.specs.List.{list_all, list_any}
use Rattle.std.proofs.lemmas.Bool.{and_left, and_right, or_left, or_right}
use Rattle.fond_state.specs.Cubes.{LiesIn, truth_at, literal_at}
use Rattle.fond_task.specs.declared.form.Form.{Form}
use Rattle.fond_task.specs.declared.form.Form.TheOpen.{Form-F, Truth, Lit, And, Or}
use Rattle.fond_task.specs.declared.form.Form.TheFolds.{fold-roll-Form, ind-Form, map-Form}
use Rattle.fond_task.specs.declared.form.Kleene.{Kleene}
use Rattle.fond_task.specs.declared.form.Kleene.TheVariants.{No, Unknown, Yes}
use Rattle.fond_task.specs.Truth.{is_true, is_true_step}
use Rattle.fond_text.specs.Bools.{is_same}
use Rattle.fond_task.specs.Values.{lesser, greater, literal_value, value, value_step}

-- a value agrees with a truth: Yes with true, No with false, Unknown with both
abbrev pub Tells : Kleene → Bool → Type 0
Tells No truth = truth ≡ false
Tells Unknown truth = ⊤
Tells Yes truth = truth ≡ true

pub Tells_here : (a : Kleene) (x y : Bool) → x ≡ y → Tells a x → Tells a y
Tells_here a x y same tells = let P : Bool → Type 0 = λ v. Tells a v in subst P same tells

-- the lesser of two values agrees with the conjunction of their truths, the greater with the disjunction
pub Tells-lesser : (a b : Kleene) (x y : Bool) → Tells a x → Tells b y → Tells (lesser a b) (x && y)
Tells-lesser No b x y of_x of_y = and_left x y of_x
Tells-lesser Unknown No x y of_x of_y = and_right x y of_y
Tells-lesser Unknown Unknown x y of_x of_y = tt
Tells-lesser Unknown Yes x y of_x of_y = tt
Tells-lesser Yes b x y of_x of_y = Tells_here b y (x && y) (ap (λ v. v && y) (sym of_x)) of_y

pub Tells-greater : (a b : Kleene) (x y : Bool) → Tells a x → Tells b y → Tells (greater a b) (x || y)
Tells-greater No b x y of_x of_y = Tells_here b y (x || y) (ap (λ v. v || y) (sym of_x)) of_y
Tells-greater Unknown No x y of_x of_y = tt
Tells-greater Unknown Unknown x y of_x of_y = tt
Tells-greater Unknown Yes x y of_x of_y = or_right x y of_y
Tells-greater Yes b x y of_x of_y = or_left x y of_x

pub and_assoc : (x y z : Bool) → ((x && y) && z) ≡ (x && (y && z))
and_assoc true y z = refl
and_assoc false y z = refl

pub or_assoc : (x y z : Bool) → ((x || y) || z) ≡ (x || (y || z))
or_assoc true y z = refl
or_assoc false y z = refl

and_none : (x : Bool) → x ≡ (x && true)
and_none true = refl
and_none false = refl

pub or_none : (x : Bool) → x ≡ (x || false)
or_none true = refl
or_none false = refl

module _ (state : List Bool) (cube : List (Option Bool)) where
  abbrev TellsForm : Form → Type 0
  TellsForm form = Tells (value cube form) (is_true state form)

  abbrev forms : List ((form : Form) × TellsForm form) → List Form
  forms parts = map (λ e. e.0) parts

  Tells-least : (parts : List ((form : Form) × TellsForm form)) (a : Kleene) (x : Bool) → Tells a x → Tells (fold lesser a (map (value cube) (forms parts))) (x && list_all (λ part. part) (map (is_true state) (forms parts)))
  Tells-least [] a x of_x = Tells_here a x (x && true) (and_none x) of_x
  Tells-least (part ∷ parts) a x of_x =
      Tells_here _ _ _ (and_assoc x (is_true state part.0) _) (Tells-least parts (lesser a (value cube part.0)) (x && is_true state part.0) (Tells-lesser a (value cube part.0) x (is_true state part.0) of_x part.1))

  Tells-greatest : (parts : List ((form : Form) × TellsForm form)) (a : Kleene) (x : Bool) → Tells a x → Tells (fold greater a (map (value cube) (forms parts))) (x || list_any (λ part. part) (map (is_true state) (forms parts)))
  Tells-greatest [] a x of_x = Tells_here a x (x || false) (or_none x) of_x
  Tells-greatest (part ∷ parts) a x of_x =
      Tells_here _ _ _ (or_assoc x (is_true state part.0) _) (Tells-greatest parts (greater a (value cube part.0)) (x || is_true state part.0) (Tells-greater a (value cube part.0) x (is_true state part.0) of_x part.1))

  Tells-test : (b : Bool) → Tells (if b then Yes else No) b
  Tells-test true = refl
  Tells-test false = refl

  Tells-literal : (known : Option Bool) (truth : Bool) (sign : Bool) → ((said : Bool) → known ≡ Some said → truth ≡ said) → Tells (literal_value known sign) (is_same truth sign)
  Tells-literal None truth sign told = tt
  Tells-literal (Some said) truth sign told = Tells_here _ _ _ (ap (λ v. is_same v sign) (sym (told said refl))) (Tells-test (is_same said sign))

  Tells-layer : LiesIn state cube → (y : Form-F ((form : Form) × TellsForm form)) →
      Tells (value_step cube (map-Form Form Kleene (value cube) (map-Form ((form : Form) × TellsForm form) Form (λ e. e.0) y))) (is_true_step state (map-Form Form Bool (is_true state) (map-Form ((form : Form) × TellsForm form) Form (λ e. e.0) y)))
  Tells-layer lies (Truth b) = Tells-test b
  Tells-layer lies (Lit atom sign) = Tells-literal (literal_at cube atom) (truth_at state atom) sign (lies atom)
  Tells-layer lies (And parts) = Tells-least parts.items Yes true refl
  Tells-layer lies (Or parts) = Tells-greatest parts.items No false refl

  -- a value on a cube agrees with the truth in each state of the cube
  pub Tells-value : LiesIn state cube → (form : Form) → Tells (value cube form) (is_true state form)
  Tells-value lies = ind-Form TellsForm (λ x y is.
      rw (fold-roll-Form Kleene (value_step cube) x, fold-roll-Form Bool (is_true_step state) x)
      (let P : Form-F Form → Type 0 = λ z. Tells (value_step cube (map-Form Form Kleene (value cube) z)) (is_true_step state (map-Form Form Bool (is_true state) z)) in subst P is (Tells-layer lies y)))
