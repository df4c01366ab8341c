-- What is proved of a show that the check lets pass, in the terms of its image.
-- Definitions only.
use Rattle.std.specs.Prelude.{ℕ, ◌+◌, ◌<◌, ◌≤◌, ◌≡◌, List, length, Ok}
use Rattle.x86.specs.declared.Instruction.{Instruction}
use Rattle.x86.specs.declared.Operand.TheVariants as O
use Rattle.x86.specs.Listing.{ReadsAs}
use Rattle.show_file.specs.Show.{header}
use Rattle.show_load.specs.Loading.{offset_behind, loaded, image_after}
use Rattle.show_load.specs.Demand2.{part, Loaded2}

-- ---- a file in an image, where the bytes of its record k begin at starts k
module _ (file image : List ℕ) (starts : ℕ → ℕ) where
  -- the offset at which a record's bytes begin, or at which the show ends
  abbrev pub place_at : ℕ → ℕ
  place_at k = offset_behind (header file).origin (starts k)

  -- record k's bytes read, to the last, as a branch to t
  pub record Goes (k t : ℕ) : Type 0 where
    pub instruction : Instruction
    pub reads_it : ReadsAs (place_at k) instruction (part (starts k) (starts (k + 1)) (image_after file image))
    pub near : instruction.first ≡ O.Near t

  -- t is the first byte of a record's part, or the end
  pub record Lands (t : ℕ) : Type 0 where
    pub place : ℕ
    pub there : place ≤ (header file).count
    pub lands : t ≡ place_at place

  -- it loads, and all branches in its image land
  pub record AllLand (m : ℕ) : Type 0 where
    pub loads : loaded file (length image) ≡ Ok (header file, m)
    pub records : Loaded2 file (header file) m starts image (image_after file image)
    pub branches : (k t : ℕ) → k < (header file).count → Goes k t → Lands t
