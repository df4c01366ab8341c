-- The table of 256 rows: for each first byte the number of the shape that its forms have. The reader's code holds it as a constant.
-- Generated from Forms; proofs/Rows compares each row with the forms.
-- Definitions only.
use Rattle.std.specs.Prelude.{List, [], ◌∷◌, ℕ, eqb, get_or}
use Rattle.mrc_compiler.specs.Choose.{pick}
use Rattle.x86.specs.Forms.{byte, word, Slot, rm, rm_near, mem, mem_far, reg, sreg, sreg_not_cs, acc, low3, bits34, bits34_not_cs, cl, dx, one, moffs, xlat, ib, iw, ib_sx, cb, cw, ptr, nil, Extension, Form}
use Rattle.x86.specs.Forms as F
pub use Rattle.x86_forms.specs.declared.Shape.{Shape}
-- an extension, whatever its digit
pub use Rattle.x86_forms.specs.declared.Class.{Class}
pub use Rattle.x86_forms.specs.declared.Class.TheVariants.{Unused as unused, Plain as plain, PlusRegister as plus_register, PlusSegment as plus_segment, ModRm as modrm, Digit as modrm_digit, Second0A as second_0a}

abbrev pub class_of : Extension → Class
class_of F.no = plain
class_of F.+r = plus_register
class_of F.+s = plus_segment
class_of F./r = modrm
class_of (F./ n) = modrm_digit
class_of F.0A = second_0a

-- a slot as the reader sees it: a near target in r/m reads as a word
abbrev pub as_read : Slot → Slot
as_read (rm w) = rm w
as_read rm_near = rm word
as_read mem = mem
as_read mem_far = mem
as_read (reg w) = reg w
as_read sreg = sreg
as_read sreg_not_cs = sreg_not_cs
as_read (acc w) = acc w
as_read (low3 w) = low3 w
as_read bits34 = bits34
as_read bits34_not_cs = bits34_not_cs
as_read cl = cl
as_read dx = dx
as_read one = one
as_read (moffs w) = moffs w
as_read xlat = xlat
as_read ib = ib
as_read iw = iw
as_read ib_sx = ib_sx
as_read cb = cb
as_read cw = cw
as_read ptr = ptr
as_read nil = nil

abbrev pub shape : Class → Slot → Slot → Shape
shape k a b = record { class = k; first = a; second = b }

abbrev pub shape_of : Form → Shape
shape_of f = shape (class_of f.extension) (as_read f.first) (as_read f.second)

-- numbered from 0, which is no form's
abbrev pub shapes : List Shape
shapes =
    shape unused nil nil  -- 0
    ∷ shape modrm (rm byte) (reg byte)  -- 1
    ∷ shape modrm (rm word) (reg word)  -- 2
    ∷ shape modrm (reg byte) (rm byte)  -- 3
    ∷ shape modrm (reg word) (rm word)  -- 4
    ∷ shape plain (acc byte) ib  -- 5
    ∷ shape plain (acc word) iw  -- 6
    ∷ shape plus_segment bits34 nil  -- 7
    ∷ shape plus_segment bits34_not_cs nil  -- 8
    ∷ shape plain nil nil  -- 9
    ∷ shape plus_register (low3 word) nil  -- 10
    ∷ shape plain cb nil  -- 11
    ∷ shape modrm_digit (rm byte) ib  -- 12
    ∷ shape modrm_digit (rm word) iw  -- 13
    ∷ shape modrm_digit (rm word) ib_sx  -- 14
    ∷ shape modrm (rm word) sreg  -- 15
    ∷ shape modrm (reg word) mem  -- 16
    ∷ shape modrm sreg_not_cs (rm word)  -- 17
    ∷ shape plus_register (acc word) (low3 word)  -- 18
    ∷ shape plain (acc byte) (moffs byte)  -- 19
    ∷ shape plain (acc word) (moffs word)  -- 20
    ∷ shape plain (moffs byte) (acc byte)  -- 21
    ∷ shape plain (moffs word) (acc word)  -- 22
    ∷ shape plus_register (low3 byte) ib  -- 23
    ∷ shape plus_register (low3 word) iw  -- 24
    ∷ shape plain ib nil  -- 25
    ∷ shape modrm_digit (rm byte) one  -- 26
    ∷ shape modrm_digit (rm word) one  -- 27
    ∷ shape modrm_digit (rm byte) cl  -- 28
    ∷ shape modrm_digit (rm word) cl  -- 29
    ∷ shape second_0a nil nil  -- 30
    ∷ shape plain xlat nil  -- 31
    ∷ shape plain (acc word) ib  -- 32
    ∷ shape plain ib (acc byte)  -- 33
    ∷ shape plain ib (acc word)  -- 34
    ∷ shape plain cw nil  -- 35
    ∷ shape plain ptr nil  -- 36
    ∷ shape plain (acc byte) dx  -- 37
    ∷ shape plain (acc word) dx  -- 38
    ∷ shape plain dx (acc byte)  -- 39
    ∷ shape plain dx (acc word)  -- 40
    ∷ shape modrm_digit (rm byte) nil  -- 41
    ∷ shape modrm_digit (rm word) nil  -- 42
    ∷ shape modrm_digit mem nil  -- 43
    ∷ shape plain iw nil  -- 44
    ∷ []

-- by first byte, 16 a line; 90 has XCHG's. Above 44 the digit decides (by_digit)
abbrev pub rows : List ℕ
rows =
    -- 0
    1 ∷ 2 ∷ 3 ∷ 4 ∷ 5 ∷ 6 ∷ 7 ∷ 8 ∷ 1 ∷ 2 ∷ 3 ∷ 4 ∷ 5 ∷ 6 ∷ 7 ∷ 0
    -- 1
    ∷ 1 ∷ 2 ∷ 3 ∷ 4 ∷ 5 ∷ 6 ∷ 7 ∷ 8 ∷ 1 ∷ 2 ∷ 3 ∷ 4 ∷ 5 ∷ 6 ∷ 7 ∷ 8
    -- 2
    ∷ 1 ∷ 2 ∷ 3 ∷ 4 ∷ 5 ∷ 6 ∷ 0 ∷ 9 ∷ 1 ∷ 2 ∷ 3 ∷ 4 ∷ 5 ∷ 6 ∷ 0 ∷ 9
    -- 3
    ∷ 1 ∷ 2 ∷ 3 ∷ 4 ∷ 5 ∷ 6 ∷ 0 ∷ 9 ∷ 1 ∷ 2 ∷ 3 ∷ 4 ∷ 5 ∷ 6 ∷ 0 ∷ 9
    -- 4
    ∷ 10 ∷ 10 ∷ 10 ∷ 10 ∷ 10 ∷ 10 ∷ 10 ∷ 10 ∷ 10 ∷ 10 ∷ 10 ∷ 10 ∷ 10 ∷ 10 ∷ 10 ∷ 10
    -- 5
    ∷ 10 ∷ 10 ∷ 10 ∷ 10 ∷ 10 ∷ 10 ∷ 10 ∷ 10 ∷ 10 ∷ 10 ∷ 10 ∷ 10 ∷ 10 ∷ 10 ∷ 10 ∷ 10
    -- 6
    ∷ 0 ∷ 0 ∷ 0 ∷ 0 ∷ 0 ∷ 0 ∷ 0 ∷ 0 ∷ 0 ∷ 0 ∷ 0 ∷ 0 ∷ 0 ∷ 0 ∷ 0 ∷ 0
    -- 7
    ∷ 11 ∷ 11 ∷ 11 ∷ 11 ∷ 11 ∷ 11 ∷ 11 ∷ 11 ∷ 11 ∷ 11 ∷ 11 ∷ 11 ∷ 11 ∷ 11 ∷ 11 ∷ 11
    -- 8
    ∷ 12 ∷ 13 ∷ 0 ∷ 14 ∷ 1 ∷ 2 ∷ 3 ∷ 4 ∷ 1 ∷ 2 ∷ 3 ∷ 4 ∷ 15 ∷ 16 ∷ 17 ∷ 42
    -- 9
    ∷ 18 ∷ 18 ∷ 18 ∷ 18 ∷ 18 ∷ 18 ∷ 18 ∷ 18 ∷ 9 ∷ 9 ∷ 0 ∷ 9 ∷ 9 ∷ 9 ∷ 9 ∷ 9
    -- A
    ∷ 19 ∷ 20 ∷ 21 ∷ 22 ∷ 9 ∷ 9 ∷ 9 ∷ 9 ∷ 5 ∷ 6 ∷ 9 ∷ 9 ∷ 9 ∷ 9 ∷ 9 ∷ 9
    -- B
    ∷ 23 ∷ 23 ∷ 23 ∷ 23 ∷ 23 ∷ 23 ∷ 23 ∷ 23 ∷ 24 ∷ 24 ∷ 24 ∷ 24 ∷ 24 ∷ 24 ∷ 24 ∷ 24
    -- C
    ∷ 0 ∷ 0 ∷ 44 ∷ 9 ∷ 16 ∷ 16 ∷ 12 ∷ 13 ∷ 0 ∷ 0 ∷ 0 ∷ 0 ∷ 9 ∷ 25 ∷ 9 ∷ 9
    -- D
    ∷ 26 ∷ 27 ∷ 28 ∷ 29 ∷ 30 ∷ 30 ∷ 9 ∷ 31 ∷ 0 ∷ 0 ∷ 0 ∷ 0 ∷ 0 ∷ 0 ∷ 0 ∷ 0
    -- E
    ∷ 11 ∷ 11 ∷ 11 ∷ 11 ∷ 5 ∷ 32 ∷ 33 ∷ 34 ∷ 35 ∷ 35 ∷ 36 ∷ 11 ∷ 37 ∷ 38 ∷ 39 ∷ 40
    -- F
    ∷ 9 ∷ 0 ∷ 9 ∷ 9 ∷ 9 ∷ 9 ∷ 45 ∷ 46 ∷ 9 ∷ 9 ∷ 9 ∷ 9 ∷ 9 ∷ 9 ∷ 41 ∷ 47
    ∷ []

abbrev pub shape_numbered : ℕ → Shape
shape_numbered n = get_or shapes n (shape unused nil nil)

-- three rows have two shapes, by the digit: 45, F6, where TEST has an immediate and the others none; 46, F7, the same of words; 47, FF, whose
-- far CALL takes memory only
abbrev pub by_digit : ℕ → ℕ → ℕ
by_digit n d =
    pick (eqb n 45) (pick (eqb d 0) 12 41)
    (pick (eqb n 46) (pick (eqb d 0) 13 42)
    (pick (eqb n 47) (pick (eqb d 3) 43 42) n))

-- the shape of first byte c, with digit d where it has one
unfoldable pub shape_at : ℕ → ℕ → Shape
shape_at c d = shape_numbered (by_digit (get_or rows c 0) d)
