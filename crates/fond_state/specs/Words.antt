-- Truth values and literals in words of 64 bits. Bit k of word i is that of atom 64 * i + k.
use Rattle.std.specs.Prelude.{◌≡◌, ℕ, zero, suc, ◌+◌, ◌*◌, ◌^◌, ◌/◌, ◌%◌, ◌<◌, ◌≤◌, List, [], ◌∷◌, Bool, true, false, Option, Some, None, length, take, drop, nat_eq, slice_index_or, if◌then◌else◌}
use Rattle.std.specs.Int.{bit_at}
use Rattle.fond_state.specs.declared.mask.Mask.{Mask}

-- whether a bit of a word is set
abbrev pub is_set : ℕ → ℕ → Bool
is_set word place = nat_eq (bit_at word place) 1

-- the number of words that this many atoms take
abbrev pub words_for : ℕ → ℕ
words_for atoms = (atoms + 63) / 64

-- the truth value of an atom in words
abbrev pub truth_in : List ℕ → ℕ → Bool
truth_in words atom = is_set (slice_index_or words (atom / 64) 0) (atom % 64)

-- the truth values of this many atoms from one on
unfoldable pub truths_from : List ℕ → ℕ → ℕ → List Bool
truths_from words atom zero = []
truths_from words atom (suc count) = truth_in words atom ∷ truths_from words (suc atom) count

-- no atom from this one on is true
abbrev pub HasNoMore : ℕ → List ℕ → Type 0
HasNoMore atoms words = (atom : ℕ) → atoms ≤ atom → truth_in words atom ≡ false

-- numbers are words of 64 bits
abbrev pub AreWords : List ℕ → Type 0
AreWords words = (k : ℕ) → slice_index_or words k 0 < 2 ^ 64

-- one for true, and zero for false
abbrev pub one_if : Bool → ℕ
one_if true = 1
one_if false = 0

-- the number whose bits are these truth values, the lowest first
unfoldable pub number_of : List Bool → ℕ
number_of [] = 0
number_of (value ∷ values) = one_if value + 2 * number_of values

-- truth values in this many words
unfoldable pub pack : ℕ → List Bool → List ℕ
pack zero values = []
pack (suc n) values = number_of (take 64 values) ∷ pack n (drop 64 values)

-- truth values in words
abbrev pub packed : List Bool → List ℕ
packed values = pack (words_for (length values)) values

-- a mask without literals
abbrev pub no_mask : Mask
no_mask = record { care = 0; sign = 0 }

-- the mask of this number, without literals past the last one
abbrev pub mask_at : List Mask → ℕ → Mask
mask_at masks i = slice_index_or masks i no_mask

-- the literal at a place of a mask: there is one if its bit is set in `care`, and its sign is its bit in `sign`
abbrev pub literal_of : Mask → ℕ → Option Bool
literal_of mask place = if is_set mask.care place then Some (is_set mask.sign place) else None

-- the literal of an atom in masks
abbrev pub literal_in : List Mask → ℕ → Option Bool
literal_in masks atom = literal_of (mask_at masks (atom / 64)) (atom % 64)

-- the literals of this many atoms from one on
unfoldable pub literals_from : List Mask → ℕ → ℕ → List (Option Bool)
literals_from masks atom zero = []
literals_from masks atom (suc count) = literal_in masks atom ∷ literals_from masks (suc atom) count

-- no atom from this one on has a literal
abbrev pub IsPadded : ℕ → List Mask → Type 0
IsPadded atoms masks = (atom : ℕ) → atoms ≤ atom → is_set (mask_at masks (atom / 64)).care (atom % 64) ≡ false

-- the literals of a mask hold in a word of truth values
abbrev pub Agree : Mask → ℕ → Type 0
Agree mask truth = (place : ℕ) → place < 64 → bit_at mask.care place ≡ 1 → bit_at truth place ≡ bit_at mask.sign place

-- a mask has the literals of another
abbrev pub Include : Mask → Mask → Type 0
Include mask other = (place : ℕ) → place < 64 → bit_at mask.care place ≡ 1 → (bit_at other.care place ≡ 1) × (bit_at other.sign place ≡ bit_at mask.sign place)

-- a literal of a mask is the opposite of one of another
abbrev pub Oppose : Mask → Mask → Type 0
Oppose mask other = (place : ℕ) × (place < 64) × (bit_at mask.care place ≡ 1) × (bit_at other.care place ≡ 1) × (¬ bit_at other.sign place ≡ bit_at mask.sign place)
