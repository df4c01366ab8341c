-- So many copies with count 1 leave the destination that the one instruction leaves, and the carry where the manual defines it.
-- Assumes nothing.
use mathlib.Core.Path.{◌≡◌, refl, sym, ◌∙◌, ap}
use mathlib.Core.Bool.{Bool, true, false}
use Prim.Native.Nat.{ℕ, zero, suc, ◌+◌, ◌*◌, ◌/◌, ◌%◌, ◌≤◌, ◌<◌}
use native.Mathlib.Omega.{arith}
use lib.Dec.{ltb}
use borrow.Author.Tests.{lt-ltb}
use Rattle.mrc_compiler.specs.Choose.{pick}
use Rattle.shift_copies.specs.Shifting.{Shift, rol, ror, rcl, rcr, shl, shr, sar, Width, byte, word, size, span, high, msb, lsb, Held, held, turn, repeat, masked, turns, settled, shifted, carry_defined, copies, Fits, Same}
use Rattle.shift_copies.proofs.Turns.{repeat_ok, round_left, round_right, rest, doubled}

keeps : (op : Shift) (w : Width) (s : Held) → Fits w s → Fits w (turn op w s)
keeps rol byte s h = record { dest = omega arith; flag = h.flag }
keeps rol word s h = record { dest = omega arith; flag = h.flag }
keeps ror byte s h = record { dest = omega arith; flag = h.flag }
keeps ror word s h = record { dest = omega arith; flag = h.flag }
keeps rcl byte s h = record { dest = omega arith; flag = omega arith }
keeps rcl word s h = record { dest = omega arith; flag = omega arith }
keeps rcr byte s h = record { dest = omega arith; flag = omega arith }
keeps rcr word s h = record { dest = omega arith; flag = omega arith }
keeps shl byte s h = record { dest = omega arith; flag = omega arith }
keeps shl word s h = record { dest = omega arith; flag = omega arith }
keeps shr byte s h = record { dest = omega arith; flag = omega arith }
keeps shr word s h = record { dest = omega arith; flag = omega arith }
keeps sar byte s h = record { dest = omega arith; flag = omega arith }
keeps sar word s h = record { dest = omega arith; flag = omega arith }

-- ---- rotations come round: the destination after SIZE turns, with the carry as one more bit after SIZE + 1
-- the carry before the destination's bits
abbrev joined : Width → Held → ℕ
joined w s = s.carry_flag * span w + s.destination_value

twice_8 : (x : ℕ) → doubled 8 x ≡ 255 * x + x
twice_8 x = omega arith

twice_9 : (x : ℕ) → doubled 9 x ≡ 511 * x + x
twice_9 x = omega arith

twice_16 : (x : ℕ) → doubled 16 x ≡ 65535 * x + x
twice_16 x = omega arith

twice_17 : (x : ℕ) → doubled 17 x ≡ 131071 * x + x
twice_17 x = omega arith

round_rol : (w : Width) (s : Held) → Fits w s → (repeat (size w) (turn rol w) s).destination_value ≡ s.destination_value
round_rol byte s h =
    round_left (turn rol byte) (Fits byte) (keeps rol byte) (λ t. t.destination_value) (λ t. msb byte t.destination_value) 255 (λ t k. omega arith) (λ t k. omega arith) (λ t k. omega arith) 8 s h (twice_8 _)
round_rol word s h =
    round_left (turn rol word) (Fits word) (keeps rol word) (λ t. t.destination_value) (λ t. msb word t.destination_value) 65535 (λ t k. omega arith) (λ t k. omega arith) (λ t k. omega arith) 16 s h (twice_16 _)

round_ror : (w : Width) (s : Held) → Fits w s → (repeat (size w) (turn ror w) s).destination_value ≡ s.destination_value
round_ror byte s h =
    round_right (turn ror byte) (Fits byte) (keeps ror byte) (λ t. t.destination_value) (λ t. lsb t.destination_value) 255 (λ t k. omega arith) (λ t k. omega arith) (λ t k. omega arith) 8 s h (twice_8 _)
round_ror word s h =
    round_right (turn ror word) (Fits word) (keeps ror word) (λ t. t.destination_value) (λ t. lsb t.destination_value) 65535 (λ t k. omega arith) (λ t k. omega arith) (λ t k. omega arith) 16 s h (twice_16 _)

round_rcl : (w : Width) (s : Held) → Fits w s → joined w (repeat (size w + 1) (turn rcl w) s) ≡ joined w s
round_rcl byte s h =
    round_left (turn rcl byte) (Fits byte) (keeps rcl byte) (joined byte) (λ t. t.carry_flag) 511 (λ t k. omega arith) (λ t k. omega arith) (λ t k. omega arith) 9 s h (twice_9 _)
round_rcl word s h =
    round_left (turn rcl word) (Fits word) (keeps rcl word) (joined word) (λ t. t.carry_flag) 131071 (λ t k. omega arith) (λ t k. omega arith) (λ t k. omega arith) 17 s h (twice_17 _)

round_rcr : (w : Width) (s : Held) → Fits w s → joined w (repeat (size w + 1) (turn rcr w) s) ≡ joined w s
round_rcr byte s h =
    round_right (turn rcr byte) (Fits byte) (keeps rcr byte) (joined byte) (λ t. lsb t.destination_value) 511 (λ t k. omega arith) (λ t k. omega arith) (λ t k. omega arith) 9 s h (twice_9 _)
round_rcr word s h =
    round_right (turn rcr word) (Fits word) (keeps rcr word) (joined word) (λ t. lsb t.destination_value) 131071 (λ t k. omega arith) (λ t k. omega arith) (λ t k. omega arith) 17 s h (twice_17 _)

-- ---- both the destination and the carry come round
alike : (s t : Held) → s.destination_value ≡ t.destination_value → s.carry_flag ≡ t.carry_flag → s ≡ t
alike s t p q = ap (λ (d : ℕ). held d s.carry_flag) p ∙ ap (λ (c : ℕ). held t.destination_value c) q

carry_stays : (op : Shift) (w : Width) → ((s : Held) → (turn op w s).carry_flag ≡ s.carry_flag) → (k : ℕ) (s : Held) → (repeat k (turn op w) s).carry_flag ≡ s.carry_flag
carry_stays op w e zero s = refl
carry_stays op w e (suc k) s = e (repeat k (turn op w) s) ∙ carry_stays op w e k s

parted : (w : Width) (s t : Held) → Fits w s → Fits w t → joined w s ≡ joined w t → s ≡ t
parted byte s t h k e = alike s t (omega arith) (omega arith)
parted word s t h k e = alike s t (omega arith) (omega arith)

comes_rol : (w : Width) (s : Held) → Fits w s → repeat (size w) (turn rol w) s ≡ s
comes_rol w s h = alike _ _ (round_rol w s h) (carry_stays rol w (λ t. refl) (size w) s)

comes_ror : (w : Width) (s : Held) → Fits w s → repeat (size w) (turn ror w) s ≡ s
comes_ror w s h = alike _ _ (round_ror w s h) (carry_stays ror w (λ t. refl) (size w) s)

comes_rcl : (w : Width) (s : Held) → Fits w s → repeat (size w + 1) (turn rcl w) s ≡ s
comes_rcl w s h = parted w _ s (repeat_ok (turn rcl w) (Fits w) (keeps rcl w) (size w + 1) s h) h (round_rcl w s h)

comes_rcr : (w : Width) (s : Held) → Fits w s → repeat (size w + 1) (turn rcr w) s ≡ s
comes_rcr w s h = parted w _ s (repeat_ok (turn rcr w) (Fits w) (keeps rcr w) (size w + 1) s h) h (round_rcr w s h)

-- ---- as many turns as the count says are as good as those that the manual takes
module _ (n : ℕ) (few : n ≤ 31) where
  unmasked : masked n ≡ n
  unmasked = omega arith

  turns_same : (op : Shift) (w : Width) (s : Held) → Fits w s → repeat n (turn op w) s ≡ repeat (turns op w n) (turn op w) s
  turns_same rol w s h = rw unmasked (rest (turn rol w) (Fits w) (keeps rol w) (size w) (comes_rol w) n s h)
  turns_same ror w s h = rw unmasked (rest (turn ror w) (Fits w) (keeps ror w) (size w) (comes_ror w) n s h)
  turns_same rcl w s h = rw unmasked (rest (turn rcl w) (Fits w) (keeps rcl w) (size w + 1) (comes_rcl w) n s h)
  turns_same rcr w s h = rw unmasked (rest (turn rcr w) (Fits w) (keeps rcr w) (size w + 1) (comes_rcr w) n s h)
  turns_same shl w s h = rw unmasked
  turns_same shr w s h = rw unmasked
  turns_same sar w s h = rw unmasked

  pub by_count : (op : Shift) (w : Width) (s : Held) → 1 ≤ n → Fits w s → shifted op w n s ≡ settled op w (repeat n (turn op w) s)
  by_count op w s some h =
      let l : ltb 0 (masked n) ≡ true = rw unmasked (lt-ltb 0 n some) in
      rw (l, ← (turns_same op w s h))

-- ---- one copy, and one after the other
by_one : (op : Shift) (w : Width) (s : Held) → Fits w s → shifted op w 1 s ≡ settled op w (turn op w s)
by_one op w s h = by_count 1 (omega arith) op w s (omega arith) h

-- what is settled behind a turn does not look at what was settled before it
again : (op : Shift) (w : Width) (s : Held) → settled op w (turn op w (settled op w s)) ≡ settled op w (turn op w s)
again rol w s = refl
again ror w s = refl
again rcl w s = refl
again rcr w s = refl
again shl w s = refl
again shr w s = refl
again sar w s = refl

settled_fits : (op : Shift) (w : Width) (s : Held) → Fits w s → Fits w (settled op w s)
settled_fits rol w s h = record { dest = h.dest; flag = omega arith }
settled_fits ror byte s h = record { dest = h.dest; flag = omega arith }
settled_fits ror word s h = record { dest = h.dest; flag = omega arith }
settled_fits rcl w s h = h
settled_fits rcr w s h = h
settled_fits shl w s h = h
settled_fits shr w s h = h
settled_fits sar w s h = h

by_copies : (op : Shift) (w : Width) (k : ℕ) (s : Held) → Fits w s → copies op w (suc k) s ≡ settled op w (repeat (suc k) (turn op w) s)
by_copies op w zero s h = by_one op w s h
by_copies op w (suc k) s h =
    let t = repeat (suc k) (turn op w) s in
    let f = settled_fits op w t (repeat_ok (turn op w) (Fits w) (keeps op w) (suc k) s h) in
    ap (shifted op w 1) (by_copies op w k s h) ∙ by_one op w (settled op w t) f ∙ again op w t

-- ---- the theorem
pub copies_same : (op : Shift) (w : Width) (n : ℕ) (s : Held) → 1 ≤ n → n ≤ 31 → Fits w s → Same op w n s
copies_same op w zero s some few h = absurd (omega arith)
copies_same op w (suc k) s some few h =
    let e : copies op w (suc k) s ≡ shifted op w (suc k) s = by_copies op w k s h ∙ sym (by_count (suc k) few op w s some h) in
    record { destination = ap (λ (t : Held). t.destination_value) e; carry = λ _. ap (λ (t : Held). t.carry_flag) e }
