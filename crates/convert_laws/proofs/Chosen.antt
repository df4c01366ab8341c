-- What holds of all forms of an operation holds of the form that a record has.
-- Assumes nothing.
use mathlib.Core.Path.{◌≡◌, refl}
use mathlib.Core.Bool.{Bool, true, false}
use mathlib.Core.List.{List, [], ◌∷◌}
use Prim.Native.Nat.{ℕ}
use Rattle.mrc_compiler.specs.declared.encoder.OperandData.{OperandData}
use Rattle.mrc_compiler.specs.declared.encoder.OperandSize.{OperandSize}
use Rattle.mrc_compiler.specs.Choose.{pick, both}
use Rattle.x86.specs.Forms.{Form}
use Rattle.x86.specs.Reading.{put, keep}
use Rattle.encode_groups.specs.declared.Group.{Group}
use Rattle.encode_spec.specs.Rules.{rule}
use Rattle.encode_spec.specs.Choice.{Choice, none, straight, crossed, takes, size_in, is_either_way, count_by, choose, choice}
use Rattle.encode_spec.proofs.Values.{both_true}

module _ (p : Form → Bool) where
  abbrev pub all : List Form → Bool
  all [] = true
  all (f ∷ fs) = both (p f) (all fs)

  abbrev pub holds : Choice → Bool
  holds none = true
  holds (straight f) = p f
  holds (crossed f) = p f

  keep_all : (q : Form → Bool) (fs : List Form) → all fs ≡ true → all (keep q fs) ≡ true
  keep_all q [] h = refl
  keep_all q (f ∷ fs) h = let (x, y) = both_true (p f) (all fs) h in go (q f) x (keep_all q fs y)
    where
      go : (b : Bool) → p f ≡ true → all (keep q fs) ≡ true → all (put b f (keep q fs)) ≡ true
      go true x y = rw (x, y)
      go false x y = y

  pub choose-holds : (way : Bool) (fs : List Form) (s : OperandSize) (a : OperandData) (t : OperandSize) (b : OperandData) → all fs ≡ true → holds (choose way fs s a t b) ≡ true
  choose-holds way [] s a t b h = refl
  choose-holds way (f ∷ fs) s a t b h =
      let (x, y) = both_true (p f) (all fs) h in
      go (both (takes f.first s a) (takes f.second t b)) (both way (both (takes f.first t b) (takes f.second s a))) x (choose-holds way fs s a t b y)
    where
      go : (i j : Bool) → p f ≡ true → holds (choose way fs s a t b) ≡ true → holds (pick i (straight f) (pick j (crossed f) (choose way fs s a t b))) ≡ true
      go true j x r = x
      go false true x r = x
      go false false x r = r

  pub choice-holds : (g : Group) (fs : List Form) (k : ℕ) (a b : OperandData) → all fs ≡ true → holds (choice g fs k a b) ≡ true
  choice-holds g fs k a b h =
      let q = count_by (rule g).special k in
      choose-holds (is_either_way g a b) (keep q fs) (size_in g a b a) a (size_in g a b b) b (keep_all q fs h)
