use Rattle.show_load.proofs.Laws.{accepted_image, over_below}
use Rattle.show_load.specs.Loading.{first_over}
use Rattle.std.proofs.Common.{◌≡◌, ◌<◌, ℕ, length, sym, ◌∙◌, arith, rules}
use Rattle.std.specs.Prelude.{Option, Some, None, IsSome, unwrap_or}
use Rattle.show_load.proofs.load.Goals as goal

-- one below n is found
found : (o : Option ℕ) (n m : ℕ) → unwrap_or o n ≡ m → m < n → IsSome o
found None n m e l = absurd (omega arith)
found (Some k) n m e l = search rules

pub write_all-requires : goal.write_all-requires
write_all-requires c =
    let x = accepted_image _ c.args.file.now _ _ (sym c.accept.ensures ∙ c.in_ok-header.was) in
    (x.exact.its_length, x.exact.its_count, x.all_in, rw (← x.size) c.if-m-room.true)

pub first_over-requires : goal.first_over-requires
first_over-requires c =
    let x = accepted_image _ c.args.file.now _ _ (sym c.accept.ensures ∙ c.in_ok-header.was) in
    (x.exact.its_length, x.exact.its_count, x.all_in)

pub unwrap-k-requires : goal.unwrap-k-requires
unwrap-k-requires c =
    let x = accepted_image _ c.args.file.now _ _ (sym c.accept.ensures ∙ c.in_ok-header.was) in
    let h = c.in_ok-header.header in
    let size = length c.args.image.now in
    let l : first_over c.args.file.now h.origin size h.count < h.count = over_below c.args.file.now h.origin size h.count (rw (← x.size) c.if-m-room.false) in
    found c.first_over.result h.count _ c.first_over.ensures.first l

pub too_short-requires : goal.too_short-requires
too_short-requires c =
    let x = accepted_image _ c.args.file.now _ _ (sym c.accept.ensures ∙ c.in_ok-header.was) in
    (x.exact.its_length, x.exact.its_count, rw c.unwrap-k.ensures at c.first_over.ensures.below)
