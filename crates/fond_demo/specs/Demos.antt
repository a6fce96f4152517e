-- The texts of the task that the program shows itself on.
use Rattle.std.specs.Prelude.{ℕ, zero, suc, ◌+◌, ◌%◌, ◌==◌, min, List, [], ◌++◌, codes, get_or, if◌then◌else◌}
use Rattle.std.specs.Fmt.{decimal}
use Rattle.fond_demo.specs.Words.{drawn_words}

-- the texts of the numbers below a bound, one after the other
abbrev pub for_each : ℕ → (ℕ → List ℕ) → List ℕ
for_each zero text = []
for_each (suc n) text = for_each n text ++ text n

-- the domain
abbrev pub demo_domain : List ℕ
demo_domain =
    codes "(define (domain demo) (:types place lamp) (:constants l0 - lamp)\n"
    ++ codes "(:predicates (at ?p - place) (easy ?p ?q - place) (hard ?p ?q - place) (lit ?l - lamp))\n"
    ++ codes "(:action walk :parameters (?p ?q - place) :precondition (and (at ?p) (easy ?p ?q))\n"
    ++ codes " :effect (oneof (and (not (at ?p)) (at ?q)) (and)))\n"
    ++ codes "(:action carry :parameters (?p ?q - place) :precondition (and (at ?p) (hard ?p ?q))\n"
    ++ codes " :effect (oneof (and (not (at ?p)) (at ?q)) (and (not (at ?p)) (at ?q) (lit l0))))\n"
    ++ codes "(:action press :parameters (?l - lamp) :effect (oneof (lit ?l) (not (lit ?l)))))\n"

-- a place and a lamp, each after a space
abbrev pub place_name : ℕ → List ℕ
place_name number = codes " p" ++ decimal number

abbrev pub lamp_name : ℕ → List ℕ
lamp_name number = codes " l" ++ decimal number

-- the way from a place to the next one: easy if its word is odd, and hard if it is even
abbrev pub way : List ℕ → ℕ → List ℕ
way words number =
    (if get_or words number 0 % 2 == 1 then codes " (easy" else codes " (hard") ++ place_name number ++ place_name (number + 1) ++ codes ")"

-- the head of the problem and its objects: places from 0 to the size, and as many lamps as the size, or 12 if it is more
abbrev pub demo_objects : ℕ → List ℕ
demo_objects size = codes "(define (problem demo) (:domain demo) (:objects" ++ for_each (size + 1) place_name ++ codes " - place" ++ for_each (min size 12) lamp_name

-- the problem: its objects, and a way out of each place but the last, by the words that the size draws
abbrev pub demo_problem : ℕ → List ℕ
demo_problem size =
    demo_objects size ++ codes " - lamp) (:init (at p0)" ++ for_each size (way (drawn_words size size)) ++ codes ") (:goal (at" ++ place_name size ++ codes ")))\n"

-- the side list: an opponent picks what happens to one who is carried
abbrev pub demo_side : List ℕ
demo_side = codes "carry\n"

-- a certificate between the lines of `demo`: the size, how many atoms and actions the task has, and what `check` says of it
abbrev pub shown_text : ℕ → ℕ → ℕ → List ℕ → List ℕ
shown_text size atoms actions cert =
    codes "demo " ++ decimal size ++ codes "\natoms " ++ decimal atoms ++ codes "\nactions " ++ decimal actions ++ codes "\n" ++ cert ++ codes "accepted policy lean\n"
