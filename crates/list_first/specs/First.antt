-- Where the first bytes of a string tell that it is the first of its instruction's listing: no other form of the instruction is shorter, or as short and lower, and the
-- displacement has as few bytes as it can. proofs/Least shows it. Nothing is told of the other strings: with a repeat, and 81 and E9, whose value decides.
-- Definitions only.
use Rattle.std.specs.Prelude.{ℕ, ◌/◌, ◌%◌, Bool, true, false, List, eqb, ltb, leb, get_or}
use Rattle.mrc_compiler.specs.Choose.{pick, both, isnt}

-- has the opcode c a ModRM byte?
unfoldable pub has_modrm : ℕ → Bool
has_modrm c =
    pick (ltb c 0x40) (ltb (c % 8) 4)
    (pick (ltb c 0x80) false
    (pick (ltb c 0x90) true
    (pick (ltb c 0xC4) false
    (pick (ltb c 0xC8) true (pick (ltb c 0xF6) (eqb (c / 4) 0x34) (pick (ltb c 0xF8) true (leb 0xFE c)))))))

-- ModRM with memory
abbrev pub in_memory : ℕ → Bool
in_memory x = ltb x 0xC0

-- no start of the instruction is lower than c with ModRM x
unfoldable pub least_by_modrm : ℕ → ℕ → Bool
least_by_modrm c x =
    -- ADD to CMP: of two registers the second in reg
    pick (ltb c 0x40) (pick (ltb (c % 8) 2) true (in_memory x))
    -- 80 and 83: not those of the accumulator. 81 may have a value that 83 extends
    (pick (ltb c 0x84) (pick (eqb c 0x81) false (pick (in_memory x) true (isnt (eqb (x % 8) 0))))
    -- TEST, XCHG
    (pick (ltb c 0x86) true
    (pick (ltb c 0x88) (in_memory x)
    -- MOV: not that of the accumulator and an address
    (pick (ltb c 0x8C) (pick (eqb x 6) false (pick (ltb c 0x8A) true (in_memory x)))
    -- MOV of segment registers, LEA; POP, LES, LDS, MOV of an immediate
    (pick (ltb c 0x8F) true
    (pick (ltb c 0xC8) (in_memory x)
    -- shifts; NOT to IDIV, and TEST but of the accumulator
    (pick (ltb c 0xD4) true
    (pick (ltb c 0xF8) (isnt (eqb x 0xC0))
    -- INC and DEC of a byte; of a word, PUSH, CALL and JMP
    (pick (eqb c 0xFE) true (pick (in_memory x) true (pick (ltb x 0xD0) false (ltb x 0xF0))))))))))))

-- than c without ModRM: of E9 and of the repeats nothing is told
unfoldable pub least_alone : ℕ → Bool
least_alone c = pick (eqb c 0xE9) false (isnt (eqb (c / 2) 0x79))

-- a displacement of one byte is not 0, one of two not -128 to 127
unfoldable pub least_displacement : ℕ → ℕ → ℕ → Bool
least_displacement x low high =
    pick (ltb x 0x40) true
    (pick (leb 0xC0 x) true (pick (ltb x 0x80) (isnt (eqb low 0)) (pick (eqb high 0) (leb 128 low) (pick (eqb high 255) (ltb low 128) true))))

-- the first four bytes of a string without a prefix tell
unfoldable pub first_alone : ℕ → ℕ → ℕ → ℕ → Bool
first_alone c x low high = pick (has_modrm c) (both (least_by_modrm c x) (least_displacement x low high)) (least_alone c)

-- 26, 2E, 36, 3E
unfoldable pub is_prefix : ℕ → Bool
is_prefix b = both (eqb (b / 32) 1) (eqb (b % 8) 6)

-- ModRM x with a base that has BP in it
unfoldable pub in_stack : ℕ → Bool
in_stack x = pick (eqb (x % 8) 6) (leb 0x40 x) (eqb (x % 8 / 2) 1)

-- the prefix of the segment that memory is in without one: SS with BP, else DS
unfoldable pub own_prefix : ℕ → ℕ → ℕ
own_prefix c x = pick (both (has_modrm c) (in_stack x)) 0x36 0x3E

-- the first five bytes of a string tell: a prefix, if there is one, is not its own
unfoldable pub is_first : ℕ → ℕ → ℕ → ℕ → ℕ → Bool
is_first b0 b1 b2 b3 b4 = pick (is_prefix b0) (both (isnt (eqb b0 (own_prefix b1 b2))) (first_alone b1 b2 b3 b4)) (first_alone b0 b1 b2 b3)

-- of a string
abbrev pub is_first_of : List ℕ → Bool
is_first_of s = is_first (get_or s 0 0) (get_or s 1 0) (get_or s 2 0) (get_or s 3 0) (get_or s 4 0)
