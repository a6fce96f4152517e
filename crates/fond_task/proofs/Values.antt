-- A form that is Yes or No on a cube is so on each cube with more literals.
use Rattle.std.proofs.Common.{◌≡◌, List, [], ◌∷◌, Bool, true, false, Option, Some, None, map, refl, sym, ap, ◌∙◌, subst}
use Rattle.std.specs.Prelude.{fold, if◌then◌else◌, ⊤}
use Rattle.fond_state.specs.Cubes.{CubeLiesIn, literal_at}
use Rattle.fond_task.specs.declared.form.Form.{Form}
use Rattle.fond_task.specs.declared.form.Form.TheOpen.{Form-F, Truth, Lit, And, Or}
use Rattle.fond_task.specs.declared.form.Form.TheFolds.{fold-roll-Form, ind-Form, map-Form}
use Rattle.fond_task.specs.declared.form.Kleene.{Kleene}
use Rattle.fond_task.specs.declared.form.Kleene.TheVariants.{No, Unknown, Yes}
use Rattle.fond_task.specs.Values.{lesser, greater, literal_value, value, value_step}
use Rattle.fond_text.specs.Bools.{is_same}

-- a value keeps another one if it is the same wherever the other is Yes or No
abbrev pub Keeps : Kleene → Kleene → Type 0
Keeps No other = other ≡ No
Keeps Unknown other = ⊤
Keeps Yes other = other ≡ Yes

pub Keeps_here : (a x y : Kleene) → x ≡ y → Keeps a x → Keeps a y
Keeps_here a x y same keeps = let P : Kleene → Type 0 = λ v. Keeps a v in subst P same keeps

lesser_no : (a : Kleene) → lesser a No ≡ No
lesser_no No = refl
lesser_no Unknown = refl
lesser_no Yes = refl

greater_yes : (a : Kleene) → greater a Yes ≡ Yes
greater_yes No = refl
greater_yes Unknown = refl
greater_yes Yes = refl

Keeps-lesser : (a b x y : Kleene) → Keeps a x → Keeps b y → Keeps (lesser a b) (lesser x y)
Keeps-lesser No b x y of_x of_y = ap (λ v. lesser v y) of_x
Keeps-lesser Unknown No x y of_x of_y = ap (lesser x) of_y ∙ lesser_no x
Keeps-lesser Unknown Unknown x y of_x of_y = tt
Keeps-lesser Unknown Yes x y of_x of_y = tt
Keeps-lesser Yes b x y of_x of_y = Keeps_here b y (lesser x y) (ap (λ v. lesser v y) (sym of_x)) of_y

pub Keeps-greater : (a b x y : Kleene) → Keeps a x → Keeps b y → Keeps (greater a b) (greater x y)
Keeps-greater No b x y of_x of_y = Keeps_here b y (greater x y) (ap (λ v. greater v y) (sym of_x)) of_y
Keeps-greater Unknown No x y of_x of_y = tt
Keeps-greater Unknown Unknown x y of_x of_y = tt
Keeps-greater Unknown Yes x y of_x of_y = ap (greater x) of_y ∙ greater_yes x
Keeps-greater Yes b x y of_x of_y = ap (λ v. greater v y) of_x

Keeps-test : (b : Bool) → Keeps (if b then Yes else No) (if b then Yes else No)
Keeps-test true = refl
Keeps-test false = refl

Keeps-literal : (known other : Option Bool) (sign : Bool) → ((said : Bool) → known ≡ Some said → other ≡ Some said) → Keeps (literal_value known sign) (literal_value other sign)
Keeps-literal None other sign told = tt
Keeps-literal (Some said) other sign told = Keeps_here (literal_value (Some said) sign) _ _ (ap (λ k. literal_value k sign) (sym (told said refl))) (Keeps-test (is_same said sign))

module _ (cube more : List (Option Bool)) where
  abbrev KeepsForm : Form → Type 0
  KeepsForm form = Keeps (value cube form) (value more form)

  abbrev forms : List ((form : Form) × KeepsForm form) → List Form
  forms parts = map (λ e. e.0) parts

  Keeps-least : (parts : List ((form : Form) × KeepsForm form)) (a x : Kleene) → Keeps a x → Keeps (fold lesser a (map (value cube) (forms parts))) (fold lesser x (map (value more) (forms parts)))
  Keeps-least [] a x of_x = of_x
  Keeps-least (part ∷ parts) a x of_x = Keeps-least parts (lesser a (value cube part.0)) (lesser x (value more part.0)) (Keeps-lesser a (value cube part.0) x (value more part.0) of_x part.1)

  Keeps-greatest : (parts : List ((form : Form) × KeepsForm form)) (a x : Kleene) → Keeps a x → Keeps (fold greater a (map (value cube) (forms parts))) (fold greater x (map (value more) (forms parts)))
  Keeps-greatest [] a x of_x = of_x
  Keeps-greatest (part ∷ parts) a x of_x = Keeps-greatest parts (greater a (value cube part.0)) (greater x (value more part.0)) (Keeps-greater a (value cube part.0) x (value more part.0) of_x part.1)

  abbrev KeepsLayer : Form-F Form → Type 0
  KeepsLayer x = Keeps (value_step cube (map-Form Form Kleene (value cube) x)) (value_step more (map-Form Form Kleene (value more) x))

  Keeps-layer : CubeLiesIn more cube → (y : Form-F ((form : Form) × KeepsForm form)) → KeepsLayer (map-Form ((form : Form) × KeepsForm form) Form (λ e. e.0) y)
  Keeps-layer lies (Truth b) = Keeps-test b
  Keeps-layer lies (Lit atom sign) = Keeps-literal (literal_at cube atom) (literal_at more atom) sign (lies atom)
  Keeps-layer lies (And parts) = Keeps-least parts.items Yes Yes refl
  Keeps-layer lies (Or parts) = Keeps-greatest parts.items No No refl

  -- a form keeps its value on a cube with more literals
  pub Keeps-value : CubeLiesIn more cube → (form : Form) → Keeps (value cube form) (value more form)
  Keeps-value lies = ind-Form KeepsForm (λ x y is.
      rw (fold-roll-Form Kleene (value_step cube) x, fold-roll-Form Kleene (value_step more) x)
      (subst KeepsLayer is (Keeps-layer lies y)))

  pub yes_stays : CubeLiesIn more cube → (form : Form) → value cube form ≡ Yes → value more form ≡ Yes
  yes_stays lies form is = let P : Kleene → Type 0 = λ a. Keeps a (value more form) in subst P is (Keeps-value lies form)
