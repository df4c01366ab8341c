-- A list of cues: four bytes each, delay (little-endian), port, mask (REFERENCE 14).
-- Definitions only.
use Rattle.std.specs.Prelude.{ℕ, ◌+◌, ◌*◌, ◌%◌, Bool, false, List, [], ◌∷◌, eqb, leb, length, get_or}
use Rattle.mrc_compiler.specs.Choose.{both, either}
use Rattle.cue_compile.specs.declared.Cue.{Cue}

abbrev pub cue : ℕ → ℕ → ℕ → Cue
cue delay port mask = record { delay = delay; port = port; mask = mask }

unfoldable pub cues_in : List ℕ → List Cue
cues_in [] = []
cues_in (a ∷ []) = []
cues_in (a ∷ b ∷ []) = []
cues_in (a ∷ b ∷ p ∷ []) = []
cues_in (a ∷ b ∷ p ∷ m ∷ s) = cue (a + 256 * b) p m ∷ cues_in s

-- the cue that begins at a place
abbrev pub cue_at : List ℕ → ℕ → Cue
cue_at s i = cue (get_or s i 0 + 256 * get_or s (i + 1) 0) (get_or s (i + 2) 0) (get_or s (i + 3) 0)

abbrev pub most_cues : ℕ
most_cues = 200

-- a whole number of cues, and not too many?
abbrev pub is_cue_list : List ℕ → Bool
is_cue_list s = both (eqb (length s % 4) 0) (leb (length s) (4 * most_cues))

-- has one of them a delay of 0?
unfoldable pub some_without : List Cue → Bool
some_without [] = false
some_without (c ∷ cs) = either (eqb c.delay 0) (some_without cs)
